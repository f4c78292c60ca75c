-- Members put one after another, and tables of members.
use Rattle.std.proofs.Common.{◌≡◌, [], ◌∷◌, Option, Some, None, codes, refl}
use Rattle.serde_json.specs.Data.{Data, no_members, put}
use Rattle.pgs_list_json.specs.Members.{members_in, put_where}

pub two : (epoch list : Data) → put (codes "inconsistents") list (put (codes "epoch") epoch no_members)
    ≡ members_in ((codes "epoch", Some epoch) ∷ (codes "inconsistents", Some list) ∷ [])
two epoch list = refl

pub shard_members : (bytes omap size : Option Data) (errors osd primary : Data)
    → put_where (codes "size") size (put (codes "primary") primary (put (codes "osd") osd (put_where (codes "omap_digest") omap (put (codes "errors") errors (put_where (codes "data_digest") bytes no_members)))))
    ≡ members_in ((codes "data_digest", bytes) ∷ (codes "errors", Some errors) ∷ (codes "omap_digest", omap) ∷ (codes "osd", Some osd) ∷ (codes "primary", Some primary) ∷ (codes "size", size) ∷ [])
shard_members None None None errors osd primary = refl
shard_members None None (Some size) errors osd primary = refl
shard_members None (Some omap) None errors osd primary = refl
shard_members None (Some omap) (Some size) errors osd primary = refl
shard_members (Some bytes) None None errors osd primary = refl
shard_members (Some bytes) None (Some size) errors osd primary = refl
shard_members (Some bytes) (Some omap) None errors osd primary = refl
shard_members (Some bytes) (Some omap) (Some size) errors osd primary = refl

pub info_members : (bytes omap : Option Data) (prior size version whiteout : Data)
    → put (codes "whiteout") whiteout (put (codes "version") version (put (codes "size") size (put (codes "prior_version") prior (put_where (codes "omap_digest") omap (put_where (codes "data_digest") bytes no_members)))))
    ≡ members_in ((codes "data_digest", bytes) ∷ (codes "omap_digest", omap) ∷ (codes "prior_version", Some prior) ∷ (codes "size", Some size) ∷ (codes "version", Some version) ∷ (codes "whiteout", Some whiteout) ∷ [])
info_members None None prior size version whiteout = refl
info_members None (Some omap) prior size version whiteout = refl
info_members (Some bytes) None prior size version whiteout = refl
info_members (Some bytes) (Some omap) prior size version whiteout = refl

pub finding_members : (chosen : Option Data) (errors which shards union : Data)
    → put (codes "union_shard_errors") union (put (codes "shards") shards (put_where (codes "selected_object_info") chosen (put (codes "object") which (put (codes "errors") errors no_members))))
    ≡ members_in ((codes "errors", Some errors) ∷ (codes "object", Some which) ∷ (codes "selected_object_info", chosen) ∷ (codes "shards", Some shards) ∷ (codes "union_shard_errors", Some union) ∷ [])
finding_members None errors which shards union = refl
finding_members (Some chosen) errors which shards union = refl

pub snap_members : (extra missing : Option Data) (errors locator name space snap : Data)
    → put_where (codes "missing") missing (put_where (codes "extra_clones") extra (put (codes "snap") snap (put (codes "nspace") space (put (codes "name") name (put (codes "locator") locator (put (codes "errors") errors no_members))))))
    ≡ members_in ((codes "errors", Some errors) ∷ (codes "extra_clones", extra) ∷ (codes "locator", Some locator) ∷ (codes "missing", missing) ∷ (codes "name", Some name) ∷ (codes "nspace", Some space) ∷ (codes "snap", Some snap) ∷ [])
snap_members None None errors locator name space snap = refl
snap_members None (Some missing) errors locator name space snap = refl
snap_members (Some extra) None errors locator name space snap = refl
snap_members (Some extra) (Some missing) errors locator name space snap = refl
