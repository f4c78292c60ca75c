-- What the clean store tells a write of the head of its object.
use Rattle.std.specs.Prelude.{ℕ, Bool, false, not, ◌&&◌, if◌then◌else◌, List, [], length, Option, Some, None, is_some}
use Rattle.pgs_copy.specs.Copies.{info_name, snapset_name}
use Rattle.pgs_copy.specs.Pairs.{value_at}
use Rattle.pgs_copy.specs.declared.obj_copy.ObjCopy.{ObjCopy}
use Rattle.pgs_info.specs.Info.{info_in}
use Rattle.pgs_info.specs.declared.info.ObjectInfo.{ObjectInfo}
use Rattle.pgs_snapset.specs.Spelling.{snapset_in}
use Rattle.pgs_snapset.specs.declared.snapset.SnapSet.{SnapSet}
use Rattle.pgs_op.specs.declared.head.Head.{Head}

-- the snapset of an object that has no clones, and of which no snap is known
abbrev pub no_snapset : SnapSet
no_snapset = record { seq = 0; clones = [] }

-- a snapset, or else that of an object with no clones
abbrev pub or_no_snapset : Option SnapSet → SnapSet
or_no_snapset None = no_snapset
or_no_snapset (Some set) = set

-- an info marks a whiteout: the head was removed, and is kept for the sake of its clones
abbrev pub is_whiteout : Option ObjectInfo → Bool
is_whiteout None = false
is_whiteout (Some info) = info.whiteout

-- an attribute of a copy that may not be there
abbrev pub attr_of : List ℕ → Option ObjCopy → Option (List ℕ)
attr_of name None = None
attr_of name (Some copy) = value_at name copy.attrs

abbrev pub data_size : Option ObjCopy → ℕ
data_size None = 0
data_size (Some copy) = length copy.bytes

-- the head exists where the clean store has it and it is no whiteout
abbrev pub is_there : Option ObjCopy → Option ObjectInfo → Bool
is_there copy info = is_some copy && not (is_whiteout info)

-- What a write finds: the info and the snapset that are recorded, whether the head exists, and the size of its data, which is 0 where it
-- doesn't.
abbrev pub head_of : Option ObjCopy → Head
head_of copy = record {
  info = info_in (attr_of info_name copy);
  snapset = or_no_snapset (snapset_in (attr_of snapset_name copy));
  exists = is_there copy (info_in (attr_of info_name copy));
  size = if is_there copy (info_in (attr_of info_name copy)) then data_size copy else 0;
}
