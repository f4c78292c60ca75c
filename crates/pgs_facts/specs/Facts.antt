-- What a copy tells of itself, by its entry.
use Rattle.std.specs.Prelude.{ℕ, Bool, false, not, ◌==◌, ◌&&◌, Option, Some, None, is_some, is_none}
use Rattle.pgs_name.specs.Positions.{same_position}
use Rattle.pgs_name.specs.declared.object_id.ObjectId.{ObjectId}
use Rattle.pgs_copy.specs.Copies.{info_name, snapset_name}
use Rattle.pgs_copy.specs.Pairs.{value_at}
use Rattle.pgs_info.specs.Info.{info_in}
use Rattle.pgs_info.specs.declared.info.ObjectInfo.{ObjectInfo}
use Rattle.pgs_snapset.specs.Spelling.{snapset_in}
use Rattle.pgs_map.specs.declared.entry.Entry.{Entry}
use Rattle.pgs_facts.specs.declared.copy_facts.CopyFacts.{CopyFacts}

-- its size, and what its attributes `_` and `snapset` record, where they are there and read
abbrev pub facts_of : Entry → CopyFacts
facts_of entry = record {
  size = entry.size;
  has_info = is_some (value_at info_name entry.attrs);
  info = info_in (value_at info_name entry.attrs);
  has_snapset = is_some (value_at snapset_name entry.attrs);
  snapset = snapset_in (value_at snapset_name entry.attrs);
}

-- an info is there, and is of this position
abbrev pub is_info_of : ObjectId → Option ObjectInfo → Bool
is_info_of id None = false
is_info_of id (Some info) = same_position info.id id

-- an info is there, and has another size
abbrev pub has_other_size : ℕ → Option ObjectInfo → Bool
has_other_size size None = false
has_other_size size (Some info) = not (info.size == size)

-- ---- conditions on a copy by itself

-- no attribute `_`
abbrev pub misses_info : CopyFacts → Bool
misses_info facts = not facts.has_info

-- the attribute `_` is there, and isn't the whole spelling of an info of this position
abbrev pub has_bad_info : ObjectId → CopyFacts → Bool
has_bad_info id facts = facts.has_info && not (is_info_of id facts.info)

-- no attribute `snapset`
abbrev pub misses_snapset : CopyFacts → Bool
misses_snapset facts = not facts.has_snapset

-- the attribute `snapset` is there, and isn't the whole spelling of a snapset
abbrev pub has_bad_snapset : CopyFacts → Bool
has_bad_snapset facts = facts.has_snapset && is_none facts.snapset

-- its own info reads, whatever position it names, and has another size than the copy
abbrev pub has_wrong_size : CopyFacts → Bool
has_wrong_size facts = has_other_size facts.size facts.info
