-- What the reading calls of a device tell of a copy, if it is there.
use Rattle.std.specs.Prelude.{ℕ, nat_lt, List, length, take, drop, Option, Some, None, option_map}
use Rattle.std.specs.BTreeMap.Range.{entries_between}
use Rattle.std.specs.Cmp.Lexicographic.{slice_cmp}
use Rattle.std.specs.Ordering.{nat_cmp}
use Rattle.std.specs.declared.ops.Bound.{Bound as End}
use Rattle.std.specs.declared.ops.Bound.TheVariants.{Unbounded, Excluded}
use Rattle.pgs_copy.specs.Pairs.{Pairs}
use Rattle.pgs_copy.specs.declared.obj_copy.ObjCopy.{ObjCopy}
use Rattle.pgs_medium.specs.declared.omap_page.OmapPage.{OmapPage}

-- how many bytes its data has
abbrev pub size_of : Option ObjCopy → Option ℕ
size_of copy = option_map (λ c. length c.bytes) copy

-- its attributes
abbrev pub attrs_of : Option ObjCopy → Option Pairs
attrs_of copy = option_map (λ c. c.attrs) copy

-- at most so many bytes of its data, from a place on
abbrev pub bytes_of : ℕ → ℕ → Option ObjCopy → Option (List ℕ)
bytes_of from count copy = option_map (λ c. take count (drop from c.bytes)) copy

-- where a page begins: behind a key, or with the first
abbrev pub start_behind : Option (List ℕ) → End (List ℕ)
start_behind None = Unbounded
start_behind (Some key) = Excluded key

-- the pairs behind a key, or all where none is given
abbrev pub behind_key : Option (List ℕ) → Pairs → Pairs
behind_key key pairs = entries_between (slice_cmp nat_cmp) (start_behind key) Unbounded pairs

-- how many pairs a page has at most
abbrev pub PAGE_PAIRS : ℕ
PAGE_PAIRS = 256

-- a page with a header, of the pairs that are left: the first of them, and whether there are more
abbrev pub page_with : List ℕ → Pairs → OmapPage
page_with header pairs = record { header = header; pairs = take PAGE_PAIRS pairs; more = nat_lt PAGE_PAIRS (length pairs) }

-- the page of a copy behind a key
abbrev pub page_behind : Option (List ℕ) → ObjCopy → OmapPage
page_behind key copy = page_with copy.header (behind_key key copy.omap)

-- that of a copy, if it is there
abbrev pub page_of : Option (List ℕ) → Option ObjCopy → Option OmapPage
page_of key copy = option_map (page_behind key) copy
