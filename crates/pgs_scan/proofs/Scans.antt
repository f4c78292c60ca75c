-- The laws that a scan of copies needs.
use Rattle.std.proofs.Common.{◌≡◌, true, false}
use Rattle.pgs_name.specs.declared.object_id.ObjectId.{ObjectId}
use Rattle.pgs_copy.specs.declared.obj_copy.ObjCopy.{ObjCopy}
use Rattle.pgs_map.specs.Entries.{entry_of}
use Rattle.pgs_scan.specs.Reads.{Read}
use Rattle.pgs_scan.specs.Steps.{IsFront}
use Rattle.pgs_scan.specs.Seen.{entry_without_digests, half_read_entry}
use Rattle.pgs_scan.proofs.Steps.{read_first, read_further, more_is, read_whole, front_after}
use Rattle.pgs_scan.proofs.Calls.{kept_store, begun_kept, failed_rose, begun_rose, none_fails, begins_without_failure}
use Rattle.pgs_scan.proofs.Fronts.{front_begun, front_kept}

-- the entry without digests of what is a front of a copy is that of the copy
pub half_seen : (id : ObjectId) (copy : ObjCopy) (read : Read) → IsFront copy read → entry_without_digests true id read.size read.copy.attrs ≡ half_read_entry id copy
half_seen id copy read front = λ i. entry_without_digests true id (front.size i) (front.attrs i)

pub shallow_seen : (id : ObjectId) (copy : ObjCopy) (read : Read) → IsFront copy read → entry_without_digests false id read.size read.copy.attrs ≡ entry_of false id copy
shallow_seen id copy read front = λ i. entry_without_digests false id (front.size i) (front.attrs i)

pub ruleset scans = (read_first, read_further, more_is, read_whole, front_after, front_begun, front_kept, kept_store, begun_kept, failed_rose, begun_rose, none_fails, begins_without_failure, half_seen, shallow_seen)
