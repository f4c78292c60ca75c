-- What the next step reads of a copy.
use Rattle.std.specs.Prelude.{ℕ, ◌-◌, ◌≡◌, nat_lt, Bool, true, ◌++◌, length, take, drop, Option, Some, None, if◌then◌else◌}
use Rattle.pgs_copy.specs.Copies.{empty_copy}
use Rattle.pgs_copy.specs.declared.obj_copy.ObjCopy.{ObjCopy}
use Rattle.pgs_medium.specs.Reads.{PAGE_PAIRS}
use Rattle.pgs_scan.specs.Reads.{Read}

-- the first step reads the size and the attributes
abbrev pub begun : ObjCopy → Read
begun copy = record { size = length copy.bytes; copy = record empty_copy { attrs = copy.attrs } }

-- whether data is left
abbrev pub has_data_left : Read → Bool
has_data_left read = nat_lt (length read.copy.bytes) read.size

-- with the next stride of the data
abbrev pub with_stride : ℕ → ObjCopy → Read → Read
with_stride stride copy read = record read {
  copy = record read.copy { bytes = read.copy.bytes ++ take stride (drop (length read.copy.bytes) copy.bytes) };
}

-- with the next page of the omap, and its header
abbrev pub with_page : ObjCopy → Read → Read
with_page copy read = record read {
  copy = record read.copy {
    omap = read.copy.omap ++ take PAGE_PAIRS (drop (length read.copy.omap) copy.omap);
    header = copy.header;
  };
}

-- a further step reads a stride, and once the data is read a page
abbrev pub read_on : ℕ → ObjCopy → Read → Read
read_on stride copy read = if has_data_left read then with_stride stride copy read else with_page copy read

-- whether more is left after it: only the last page leaves nothing
abbrev pub leaves_more : ObjCopy → Read → Bool
leaves_more copy read = if has_data_left read then true else nat_lt PAGE_PAIRS (length copy.omap - length read.copy.omap)

-- what was read is a front of a copy
pub record IsFront (copy : ObjCopy) (read : Read) : Type 0 where
  pub size : read.size ≡ length copy.bytes
  pub attrs : read.copy.attrs ≡ copy.attrs
  pub bytes : read.copy.bytes ≡ take (length read.copy.bytes) copy.bytes
  pub omap : read.copy.omap ≡ take (length read.copy.omap) copy.omap

-- of a copy that is there
abbrev pub IsFrontAt : Option ObjCopy → Read → Type 0
IsFrontAt None read = ⊥
IsFrontAt (Some copy) read = IsFront copy read
