-- One step of reading a copy after another.
use Rattle.std.proofs.Common.{ℕ, suc, ◌+◌, ◌-◌, ◌*◌, ◌≡◌, ◌<◌, ◌≤◌, nat_lt, true, false, cond, length, take, refl, sym, ap, ◌∙◌, inl, inr, arith}
use Rattle.std.proofs.lemmas.Bool.{cases_lt}
use Rattle.std.proofs.lemmas.List.{length-take, take_all}
use Rattle.std.proofs.Math.Nat.{zero-mul}
use Rattle.pgs_copy.specs.declared.obj_copy.ObjCopy.{ObjCopy}
use Rattle.pgs_medium.specs.Reads.{PAGE_PAIRS}
use Rattle.pgs_scan.specs.Reads.{Read, parts, strides, pages, header_with, read_parts, strides_in, pages_in, read_after}
use Rattle.pgs_scan.specs.Steps.{begun, has_data_left, with_stride, with_page, read_on, leaves_more, IsFront}
use Rattle.pgs_scan.proofs.Parts.{same_tests, is_below, is_not_below, not_below_is, part_begins, begins_part, parts_reach, front_more, front_itself, parts_more}

-- ---- so many strides and so many pages

-- what was read is told by the number of bytes, of pairs and of pages
abbrev read_of : ℕ → ℕ → ℕ → ObjCopy → Read
read_of bytes pairs pages copy = record {
  size = length copy.bytes;
  copy = record { bytes = take bytes copy.bytes; attrs = copy.attrs; omap = take pairs copy.omap; header = header_with pages copy.header };
}

one_stride_more : (stride k p : ℕ) (copy : ObjCopy) → with_stride stride copy (read_parts stride k p copy) ≡ read_parts stride (suc k) p copy
one_stride_more stride k p copy =
    let bytes = front_more (k * stride) stride copy.bytes ∙ ap (λ n. take n copy.bytes) (parts_more k stride) in
    λ i. record (read_parts stride k p copy) { copy = record (read_parts stride k p copy).copy { bytes = bytes i } }

one_page_more : (stride k p : ℕ) (copy : ObjCopy) → with_page copy (read_parts stride k p copy) ≡ read_parts stride k (suc p) copy
one_page_more stride k p copy =
    let pairs = front_more (p * PAGE_PAIRS) PAGE_PAIRS copy.omap ∙ ap (λ n. take n copy.omap) (parts_more p PAGE_PAIRS) in
    λ i. record (read_parts stride k p copy) { copy = record (read_parts stride k p copy).copy { omap = pairs i; header = copy.header } }

-- data is left as long as not all strides are read
data_left : (stride k p : ℕ) (copy : ObjCopy) → 1 ≤ stride → k < strides stride copy → has_data_left (read_parts stride k p copy) ≡ true
data_left stride k p copy some h =
    let long = length-take (k * stride) copy.bytes in
    let begins = part_begins stride (length copy.bytes) k some h in
    is_below (length (take (k * stride) copy.bytes)) (length copy.bytes) (omega arith)

no_data_left : (stride p : ℕ) (copy : ObjCopy) → 1 ≤ stride → has_data_left (read_parts stride (strides stride copy) p copy) ≡ false
no_data_left stride p copy some =
    let long = length-take (strides stride copy * stride) copy.bytes in
    let reach = parts_reach stride (length copy.bytes) some in
    is_not_below (length (take (strides stride copy * stride) copy.bytes)) (length copy.bytes) (omega arith)

-- ---- so many steps

-- while data is left the steps are strides
at_stride : (stride steps : ℕ) (copy : ObjCopy) → 1 ≤ steps → steps ≤ strides stride copy → read_after stride steps copy ≡ read_parts stride (steps - 1) 0 copy
at_stride stride steps copy some few =
    let k : strides_in stride steps copy ≡ steps - 1 = omega arith in
    let p : pages_in stride steps copy ≡ 0 = omega arith in
    λ i. read_parts stride (k i) (p i) copy

-- then they are pages
at_page : (stride steps : ℕ) (copy : ObjCopy) → strides stride copy < steps → read_after stride steps copy ≡ read_parts stride (strides stride copy) (pages_in stride steps copy) copy
at_page stride steps copy many =
    let k : strides_in stride steps copy ≡ strides stride copy = omega arith in
    λ i. read_parts stride (k i) (pages_in stride steps copy) copy

-- the first step
pub read_first : (stride : ℕ) (copy : ObjCopy) → begun copy ≡ read_after stride 1 copy
read_first stride copy =
    let k : strides_in stride 1 copy ≡ 0 = omega arith in
    let p : pages_in stride 1 copy ≡ 0 = omega arith in
    let none : 0 * stride ≡ 0 = zero-mul stride in
    sym ((λ i. read_parts stride (k i) (p i) copy) ∙ (λ i. read_of (none i) 0 0 copy))

pub by_stride : (stride : ℕ) (copy : ObjCopy) (read : Read) → has_data_left read ≡ true → read_on stride copy read ≡ with_stride stride copy read
by_stride stride copy read h = ap (λ b. cond b (with_stride stride copy read) (with_page copy read)) h

pub by_page : (stride : ℕ) (copy : ObjCopy) (read : Read) → has_data_left read ≡ false → read_on stride copy read ≡ with_page copy read
by_page stride copy read h = ap (λ b. cond b (with_stride stride copy read) (with_page copy read)) h

-- a further step, whatever was read
pub read_further : (stride steps : ℕ) (copy : ObjCopy) → 1 ≤ stride → 1 ≤ steps → read_on stride copy (read_after stride steps copy) ≡ read_after stride (suc steps) copy
read_further stride steps copy some begun = elim (cases_lt (strides stride copy) steps) [
  | inl many ↦
      let here = at_page stride steps copy many in
      let more : suc (pages_in stride steps copy) ≡ pages_in stride (suc steps) copy = omega arith in
      let later = at_page stride (suc steps) copy (omega arith) in
      ap (read_on stride copy) here ∙ by_page stride copy (read_parts stride (strides stride copy) (pages_in stride steps copy) copy) (no_data_left stride (pages_in stride steps copy) copy some)
      ∙ one_page_more stride (strides stride copy) (pages_in stride steps copy) copy ∙ ap (λ p. read_parts stride (strides stride copy) p copy) more ∙ sym later
  | inr few ↦
      let here = at_stride stride steps copy begun few in
      let k : suc (steps - 1) ≡ strides_in stride (suc steps) copy = omega arith in
      let p : 0 ≡ pages_in stride (suc steps) copy = omega arith in
      ap (read_on stride copy) here ∙ by_stride stride copy (read_parts stride (steps - 1) 0 copy) (data_left stride (steps - 1) 0 copy some (omega arith))
      ∙ one_stride_more stride (steps - 1) 0 copy ∙ (λ i. read_parts stride (k i) (p i) copy)
]

pub more_by_stride : (copy : ObjCopy) (read : Read) → has_data_left read ≡ true → leaves_more copy read ≡ true
more_by_stride copy read h = ap (λ b. cond b true (nat_lt PAGE_PAIRS (length copy.omap - length read.copy.omap))) h

pub more_by_page : (copy : ObjCopy) (read : Read) → has_data_left read ≡ false → leaves_more copy read ≡ nat_lt PAGE_PAIRS (length copy.omap - length read.copy.omap)
more_by_page copy read h = ap (λ b. cond b true (nat_lt PAGE_PAIRS (length copy.omap - length read.copy.omap))) h

-- more pages are left than the next
pages_left : (copy : ObjCopy) (p : ℕ) → nat_lt PAGE_PAIRS (length copy.omap - length (take (p * PAGE_PAIRS) copy.omap)) ≡ nat_lt (suc p) (pages copy)
pages_left copy p =
    let long = length-take (p * PAGE_PAIRS) copy.omap in
    let next : suc p * PAGE_PAIRS ≡ p * PAGE_PAIRS + PAGE_PAIRS = omega arith in
    same_tests PAGE_PAIRS (length copy.omap - length (take (p * PAGE_PAIRS) copy.omap)) (suc p) (pages copy)
    (λ h. let more = begins_part PAGE_PAIRS (length copy.omap) (suc p) (omega arith) (omega arith) in omega arith)
    (λ h. let more = part_begins PAGE_PAIRS (length copy.omap) (suc p) (omega arith) (omega arith) in omega arith)

-- a further step leaves more as long as steps are left
pub more_is : (stride steps : ℕ) (copy : ObjCopy) → 1 ≤ stride → 1 ≤ steps → leaves_more copy (read_after stride steps copy) ≡ nat_lt steps (strides stride copy + pages copy)
more_is stride steps copy some begun = elim (cases_lt (strides stride copy) steps) [
  | inl many ↦
      let here = at_page stride steps copy many in
      let p = pages_in stride steps copy in
      ap (leaves_more copy) here ∙ more_by_page copy (read_parts stride (strides stride copy) p copy) (no_data_left stride p copy some)
      ∙ pages_left copy p ∙ same_tests (suc p) (pages copy) steps (strides stride copy + pages copy) (λ h. omega arith) (λ h. omega arith)
  | inr few ↦
      let here = at_stride stride steps copy begun few in
      ap (leaves_more copy) here ∙ more_by_stride copy (read_parts stride (steps - 1) 0 copy) (data_left stride (steps - 1) 0 copy some (omega arith))
      ∙ sym (is_below steps (strides stride copy + pages copy) (omega arith))
]

-- what was read is always a front
pub front_after : (stride steps : ℕ) (copy : ObjCopy) → IsFront copy (read_after stride steps copy)
front_after stride steps copy = record {
  size = refl;
  attrs = refl;
  bytes = front_itself (strides_in stride steps copy * stride) copy.bytes;
  omap = front_itself (pages_in stride steps copy * PAGE_PAIRS) copy.omap;
}

whole_parts : (stride p : ℕ) (copy : ObjCopy) → 1 ≤ stride → length copy.omap ≤ suc p * PAGE_PAIRS → (read_parts stride (strides stride copy) (suc p) copy).copy ≡ copy
whole_parts stride p copy some enough =
    let bytes = take_all (strides stride copy * stride) copy.bytes (parts_reach stride (length copy.bytes) some) in
    let omap = take_all (suc p * PAGE_PAIRS) copy.omap enough in
    λ i. record { bytes = bytes i; attrs = copy.attrs; omap = omap i; header = copy.header }

-- the step that leaves nothing has read the whole copy
pub read_whole : (stride steps : ℕ) (copy : ObjCopy) → 1 ≤ stride → 1 ≤ steps → leaves_more copy (read_after stride steps copy) ≡ false
    → (read_on stride copy (read_after stride steps copy)).copy ≡ copy
read_whole stride steps copy some begun last =
    let over : strides stride copy + pages copy ≤ steps = not_below_is steps (strides stride copy + pages copy) (sym (more_is stride steps copy some begun) ∙ last) in
    let many : strides stride copy < suc steps = omega arith in
    let p = steps - strides stride copy - 1 in
    let count : pages_in stride (suc steps) copy ≡ suc p = omega arith in
    let reach = parts_reach PAGE_PAIRS (length copy.omap) (omega arith) in
    let most : parts PAGE_PAIRS (length copy.omap) ≤ suc p = omega arith in
    let enough : length copy.omap ≤ suc p * PAGE_PAIRS = omega arith in
    ap (λ r. r.copy) (read_further stride steps copy some begun ∙ at_page stride (suc steps) copy many ∙ ap (λ n. read_parts stride (strides stride copy) n copy) count)
    ∙ whole_parts stride p copy some enough
