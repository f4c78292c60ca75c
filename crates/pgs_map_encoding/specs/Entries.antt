-- Entries of stored copies as bytes.
use Rattle.std.specs.Prelude.{ℕ, ◌<◌, ◌^◌, length, nat_le, Bool, true, false, not, ◌&&◌, ◌||◌, ◌==◌, if◌then◌else◌, List, ◌++◌, Option, Some, None, is_some}
use Rattle.std.specs.Option.{option_map}
use Rattle.std.specs.Ordering.{is_lt, nat_cmp}
use Rattle.std.specs.Cmp.Lexicographic.{slice_cmp}
use Rattle.pgs_name.specs.Positions.{is_before}
use Rattle.pgs_name.specs.declared.object_id.ObjectId.{ObjectId}
use Rattle.pgs_range.specs.Ranges.{in_range}
use Rattle.pgs_range.specs.declared.bound.Bound.TheVariants.{Min, Max}
use Rattle.pgs_range.specs.declared.family_range.FamilyRange.{FamilyRange}
use Rattle.pgs_copy.specs.Pairs.{Pairs}
use Rattle.pgs_map.specs.declared.entry.Entry.{Entry}
use Rattle.pgs_codec.specs.Fields.{Field, u8, u32, u64, such, followed, seen, where_so, text, spelled_text}
use Rattle.pgs_codec.specs.Ids.{id}
use Rattle.pgs_map_encoding.specs.Chains.{chained}
use Rattle.pgs_map_encoding.specs.declared.outcome.Outcome.{Outcome}
use Rattle.pgs_map_encoding.specs.declared.outcome.Outcome.TheVariants.{Undigested, Digested, StatFailed, ReadFailed}

-- ---- how a copy was read

-- the byte of an outcome: 1 where the size failed, 2 where the data did, 4 and 8 where the digests follow; 0 where there are none
abbrev pub byte_of : Outcome → ℕ
byte_of Undigested = 0
byte_of StatFailed = 1
byte_of ReadFailed = 2
byte_of Digested = 12

abbrev pub outcome_in : ℕ → Outcome
outcome_in byte = if byte == 0 then Undigested else if byte == 1 then StatFailed else if byte == 2 then ReadFailed else Digested

-- a byte of no outcome isn't allowed
abbrev pub is_outcome : ℕ → Bool
is_outcome byte = byte == 0 || byte == 1 || byte == 2 || byte == 12

abbrev pub outcome : Field Outcome
outcome = seen outcome_in byte_of (λ o. true) (such is_outcome u8)

abbrev pub is_stat_failure : Outcome → Bool
is_stat_failure Undigested = false
is_stat_failure StatFailed = true
is_stat_failure ReadFailed = false
is_stat_failure Digested = false

abbrev pub has_digests : Outcome → Bool
has_digests Undigested = false
has_digests StatFailed = false
has_digests ReadFailed = false
has_digests Digested = true

-- where the size failed there is no size and no attribute
abbrev pub may_be : Outcome → ℕ → Bool
may_be o n = not (is_stat_failure o) || n == 0

-- ---- attributes

-- a name stands behind that of the pair before, in the order of the names' bytes
abbrev pub is_name_behind : Option (List ℕ × List ℕ) → List ℕ → Bool
is_name_behind None name = true
is_name_behind (Some before) name = is_lt (slice_cmp nat_cmp before.0 name)

abbrev pub bytes : Field (List ℕ)
bytes = text 4294967295

abbrev pub attr : Option (List ℕ × List ℕ) → Field (List ℕ × List ℕ)
attr last = followed (such (is_name_behind last) bytes) (λ name. bytes)

abbrev pub attr_spelling : List ℕ × List ℕ → List ℕ
attr_spelling p = spelled_text p.0 ++ spelled_text p.1

-- attributes behind their number, by ascending names
abbrev pub attrs : Outcome → Field Pairs
attrs o = chained (may_be o) attr_spelling attr

-- four bytes tell the length of a name and of its value
abbrev pub is_short : List ℕ × List ℕ → Bool
is_short p = nat_le (length p.0) 4294967295 && nat_le (length p.1) 4294967295

-- ---- entries

-- a position is of a family of the range, and stands behind that of the entry before
abbrev pub may_follow : FamilyRange → Option Entry → ObjectId → Bool
may_follow range None id = in_range range id.family
may_follow range (Some before) id = in_range range id.family && is_before before.id id

-- a size, attributes and digests, as the outcome allows them
abbrev pub Facts : Type 0
Facts = ℕ × (Pairs × Option (ℕ × ℕ))

abbrev pub facts : Outcome → Field Facts
facts o = followed (such (may_be o) u64) (λ size. followed (attrs o) (λ pairs. where_so (has_digests o) (followed u32 (λ first. u32))))

abbrev pub EntryParts : Type 0
EntryParts = ObjectId × (Outcome × Facts)

abbrev pub entry_parts : FamilyRange → Option Entry → Field EntryParts
entry_parts range last = followed (such (may_follow range last) id) (λ position. followed outcome (λ o. facts o))

abbrev pub is_read_failure : Outcome → Bool
is_read_failure Undigested = false
is_read_failure StatFailed = false
is_read_failure ReadFailed = true
is_read_failure Digested = false

abbrev pub entry_of : EntryParts → Entry
entry_of p = record {
  id = p.0;
  stat_failed = is_stat_failure p.1.0;
  read_failed = is_read_failure p.1.0;
  size = p.1.1.0;
  attrs = p.1.1.1.0;
  data_digest = option_map (λ d. d.0) p.1.1.1.1;
  omap_digest = option_map (λ d. d.1) p.1.1.1.1;
}

-- how an entry's copy was read
abbrev pub outcome_of : Entry → Outcome
outcome_of e =
    if e.stat_failed then StatFailed else if e.read_failed then ReadFailed else if is_some e.data_digest then Digested else Undigested

-- four bytes tell a digest
abbrev pub IsWord : Option ℕ → Type 0
IsWord None = Unit {0}
IsWord (Some n) = n < 2 ^ 32

-- both digests
abbrev pub both_digests : Option ℕ → Option ℕ → Option (ℕ × ℕ)
both_digests None omap = None
both_digests (Some first) None = None
both_digests (Some first) (Some omap) = Some (first, omap)

abbrev pub parts_of : Entry → EntryParts
parts_of e = (e.id, (outcome_of e, (e.size, (e.attrs, both_digests e.data_digest e.omap_digest))))

-- an entry tells of one outcome: of one failure at most, of both digests or of none, and of none where it failed
abbrev pub tells_one : Bool → Bool → Bool → Bool → Bool
tells_one true read first omap = not read && not first && not omap
tells_one false true first omap = not first && not omap
tells_one false false true omap = omap
tells_one false false false omap = not omap

abbrev pub is_told : Entry → Bool
is_told e = tells_one e.stat_failed e.read_failed (is_some e.data_digest) (is_some e.omap_digest)

-- an entry that stands in a range, and behind another where there is one
abbrev pub entry : FamilyRange → Option Entry → Field Entry
entry range last = seen entry_of parts_of is_told (entry_parts range last)

-- an entry as bytes: neither its range nor the entry before it changes them
unfoldable pub entry_spelling : Entry → List ℕ
entry_spelling e = (entry (record { from = Min; to = Max }) None).spell e
