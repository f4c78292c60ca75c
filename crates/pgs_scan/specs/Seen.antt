-- What a scan tells of a copy that it has seen.
use Rattle.std.specs.Prelude.{ℕ, Bool, true, false, [], length, None}
use Rattle.pgs_name.specs.declared.object_id.ObjectId.{ObjectId}
use Rattle.pgs_copy.specs.Pairs.{Pairs}
use Rattle.pgs_copy.specs.declared.obj_copy.ObjCopy.{ObjCopy}
use Rattle.pgs_map.specs.Entries.{entry_of}
use Rattle.pgs_map.specs.declared.entry.Entry.{Entry}
use Rattle.pgs_scan.specs.declared.mark.Mark.{Mark}
use Rattle.pgs_scan.specs.declared.mark.Mark.TheVariants as marks

-- where the size or the attributes couldn't be read: nothing of the copy
abbrev pub unread_entry : ObjectId → Entry
unread_entry id = record { id = id; stat_failed = true; read_failed = false; size = 0; attrs = []; data_digest = None; omap_digest = None }

-- a size and attributes, where the data and the omap couldn't be read, or weren't to be
abbrev pub entry_without_digests : Bool → ObjectId → ℕ → Pairs → Entry
entry_without_digests failed id size attrs = record { id = id; stat_failed = false; read_failed = failed; size = size; attrs = attrs; data_digest = None; omap_digest = None }

-- where the data or the omap couldn't be read: its size and its attributes
abbrev pub half_read_entry : ObjectId → ObjCopy → Entry
half_read_entry id copy = entry_without_digests true id (length copy.bytes) copy.attrs

-- The entry of a copy by how its reading ended; both digests where all of it was read.
abbrev pub entry_seen : Bool → ObjectId → Mark → ObjCopy → Entry
entry_seen deep id marks.Fine copy = entry_of deep id copy
entry_seen deep id marks.StatError copy = unread_entry id
entry_seen deep id marks.ReadError copy = half_read_entry id copy
