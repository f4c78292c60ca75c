-- What was read of a copy.
use Rattle.std.specs.Prelude.{ℕ, zero, suc, ◌+◌, ◌-◌, ◌*◌, ◌/◌, min, max, List, [], length, take, Bool, if◌then◌else◌}
use Rattle.pgs_copy.specs.declared.obj_copy.ObjCopy.{ObjCopy}
use Rattle.pgs_medium.specs.Reads.{PAGE_PAIRS}

-- how many bytes its data has; and of the copy its attributes, and a front of its data and of its omap
pub record Read : Type 0 where
  pub size : ℕ
  pub copy : ObjCopy

-- ---- steps: the first reads the size and the attributes, each further one a stride of the data, and once that is read a page of the omap

-- in how many parts of a size so many things are read: the last may be smaller
abbrev pub parts : ℕ → ℕ → ℕ
parts size count = (count + (size - 1)) / size

-- how many strides its data has
abbrev pub strides : ℕ → ObjCopy → ℕ
strides stride copy = parts stride (length copy.bytes)

-- how many pages its omap has: at least one, with which the header comes
abbrev pub pages : ObjCopy → ℕ
pages copy = max 1 (parts PAGE_PAIRS (length copy.omap))

-- How many steps leave more to read. In a shallow scrub the first reads all that it looks at. In a deep one the first leaves more, and so does each that reads a stride, and each that reads a page but the last.
abbrev pub steps_left_open : Bool → ℕ → ObjCopy → ℕ
steps_left_open deep stride copy = if deep then strides stride copy + pages copy else 0

-- ---- what was read after so many steps

-- the header comes with the first page
abbrev pub header_with : ℕ → List ℕ → List ℕ
header_with zero header = []
header_with (suc pages) header = header

-- the size, the attributes, so many strides and so many pages
abbrev pub read_parts : ℕ → ℕ → ℕ → ObjCopy → Read
read_parts stride strides pages copy = record {
  size = length copy.bytes;
  copy = record {
    bytes = take (strides * stride) copy.bytes;
    attrs = copy.attrs;
    omap = take (pages * PAGE_PAIRS) copy.omap;
    header = header_with pages copy.header;
  };
}

-- the strides among so many steps, of which the first read none
abbrev pub strides_in : ℕ → ℕ → ObjCopy → ℕ
strides_in stride steps copy = min (steps - 1) (strides stride copy)

-- and the pages
abbrev pub pages_in : ℕ → ℕ → ObjCopy → ℕ
pages_in stride steps copy = steps - 1 - strides stride copy

-- what was read of a copy after so many steps, at least one
abbrev pub read_after : ℕ → ℕ → ObjCopy → Read
read_after stride steps copy = read_parts stride (strides_in stride steps copy) (pages_in stride steps copy) copy
