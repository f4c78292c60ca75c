-- One edit: the bytes behind it, and what it leaves to edits of other parts.
use Rattle.std.proofs.Common.{ℕ, ◌≡◌, ◌+◌, false, List, refl, ap, arith}
use Rattle.pgs_bytes.specs.Edits.{resized, written}
use Rattle.pgs_bytes.specs.Texts.{same_text}
use Rattle.pgs_bytes.proofs.Facts.{true_false}
use Rattle.pgs_copy.specs.declared.obj_copy.ObjCopy.{ObjCopy}
use Rattle.pgs_copy.specs.declared.effect.Effect.{Effect}
use Rattle.pgs_copy.specs.declared.effect.Effect.TheVariants.{SetData, Write, Truncate, SetAttr, RmAttr, SetOmap, RmOmap, SetHeader}
use Rattle.pgs_copy.specs.Copies.{copy_bytes, edited}
use Rattle.pgs_copy.specs.Pairs.{Pairs, value_at, with_pair, without, IsInOrder}
use Rattle.pgs_growth.specs.Parts.{is_of_data, is_of_header, is_of_attr, is_of_key, is_of_one_part}
use Rattle.pgs_growth.specs.Amounts.{entry_size, taken_by, added_by, IsReady}
use Rattle.pgs_growth.proofs.Lengths.{length_resized}
use Rattle.pgs_growth.proofs.PairSizes.{other_put, other_left, in_order_put, in_order_left, size_put, size_left}

-- an edit is ready where all names stand in order
pub ready : (e : Effect) (c : ObjCopy) → IsInOrder c.attrs → IsInOrder c.omap → IsReady e c
ready (SetAttr name value) c attrs omap = attrs
ready (SetOmap key value) c attrs omap = omap
ready _ c attrs omap = tt

-- names that stand in order still do behind an edit
pub edited_in_order : (e : Effect) (c : ObjCopy) → IsInOrder c.attrs → IsInOrder c.omap → IsInOrder (edited e c).attrs × IsInOrder (edited e c).omap
edited_in_order (SetAttr name value) c attrs omap = (in_order_put name value c.attrs attrs, omap)
edited_in_order (RmAttr name) c attrs omap = (in_order_left name c.attrs attrs, omap)
edited_in_order (SetOmap key value) c attrs omap = (attrs, in_order_put key value c.omap omap)
edited_in_order (RmOmap key) c attrs omap = (attrs, in_order_left key c.omap omap)
edited_in_order _ c attrs omap = (attrs, omap)

-- the bytes behind one edit, with what it took, are those before it with what it added
pub one_edit_ready : (e : Effect) (c : ObjCopy) → IsReady e c → copy_bytes (edited e c) + taken_by e c ≡ copy_bytes c + added_by e c
one_edit_ready (SetData bytes) c r = omega arith
one_edit_ready (Write at bytes) c r = omega arith
one_edit_ready (Truncate size) c r = omega (arith, length_resized size c.bytes)
one_edit_ready (SetAttr name value) c r = omega (arith, size_put name value c.attrs r)
one_edit_ready (RmAttr name) c r = omega (arith, size_left name c.attrs)
one_edit_ready (SetOmap key value) c r = omega (arith, size_put key value c.omap r)
one_edit_ready (RmOmap key) c r = omega (arith, size_left key c.omap)
one_edit_ready (SetHeader bytes) c r = omega arith
one_edit_ready _ c r = refl

pub one_edit : (e : Effect) (c : ObjCopy) → IsInOrder c.attrs → IsInOrder c.omap → copy_bytes (edited e c) + taken_by e c ≡ copy_bytes c + added_by e c
one_edit e c attrs omap = one_edit_ready e c (ready e c attrs omap)

-- an edit takes and adds to another copy what it takes from this one and adds to it, and is ready there where it is here
abbrev pub IsSameAt : Effect → ObjCopy → ObjCopy → Type 0
IsSameAt e c d = (taken_by e d ≡ taken_by e c) × (added_by e d ≡ added_by e c) × (IsReady e c → IsReady e d)

beside_data : (f : Effect) (c : ObjCopy) (bytes : List ℕ) → is_of_data f ≡ false → IsSameAt f c (record c { bytes = bytes })
beside_data (SetData b) c bytes h = absurd (true_false h)
beside_data (Write at b) c bytes h = absurd (true_false h)
beside_data (Truncate size) c bytes h = absurd (true_false h)
beside_data _ c bytes h = (refl, refl, λ r. r)

beside_header : (f : Effect) (c : ObjCopy) (bytes : List ℕ) → is_of_header f ≡ false → IsSameAt f c (record c { header = bytes })
beside_header (SetHeader b) c bytes h = absurd (true_false h)
beside_header _ c bytes h = (refl, refl, λ r. r)

beside_attrs : (attr : List ℕ) (f : Effect) (c : ObjCopy) (attrs : Pairs) → is_of_attr attr f ≡ false
    → ((other : List ℕ) → same_text attr other ≡ false → value_at other attrs ≡ value_at other c.attrs) → (IsInOrder c.attrs → IsInOrder attrs)
    → IsSameAt f c (record c { attrs = attrs })
beside_attrs attr (SetAttr name value) c attrs h others order = (ap (entry_size name) (others name h), refl, order)
beside_attrs attr (RmAttr name) c attrs h others order = (ap (entry_size name) (others name h), refl, λ r. r)
beside_attrs attr _ c attrs h others order = (refl, refl, λ r. r)

beside_omap : (one : List ℕ) (f : Effect) (c : ObjCopy) (omap : Pairs) → is_of_key one f ≡ false
    → ((other : List ℕ) → same_text one other ≡ false → value_at other omap ≡ value_at other c.omap) → (IsInOrder c.omap → IsInOrder omap)
    → IsSameAt f c (record c { omap = omap })
beside_omap one (SetOmap key value) c omap h others order = (ap (entry_size key) (others key h), refl, order)
beside_omap one (RmOmap key) c omap h others order = (ap (entry_size key) (others key h), refl, λ r. r)
beside_omap one _ c omap h others order = (refl, refl, λ r. r)

-- an edit leaves what edits of other parts take and add
pub beside : (e f : Effect) (c : ObjCopy) → is_of_one_part e f ≡ false → IsSameAt f c (edited e c)
beside (SetData bytes) f c h = beside_data f c bytes h
beside (Write at bytes) f c h = beside_data f c (written at bytes c.bytes) h
beside (Truncate size) f c h = beside_data f c (resized size c.bytes) h
beside (SetAttr name value) f c h = beside_attrs name f c (with_pair name value c.attrs) h (other_put name value c.attrs) (in_order_put name value c.attrs)
beside (RmAttr name) f c h = beside_attrs name f c (without name c.attrs) h (other_left name c.attrs) (in_order_left name c.attrs)
beside (SetOmap key value) f c h = beside_omap key f c (with_pair key value c.omap) h (other_put key value c.omap) (in_order_put key value c.omap)
beside (RmOmap key) f c h = beside_omap key f c (without key c.omap) h (other_left key c.omap) (in_order_left key c.omap)
beside (SetHeader bytes) f c h = beside_header f c bytes h
beside _ f c h = (refl, refl, λ r. r)
