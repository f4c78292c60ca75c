-- What is done to objects, and the words that name an object.
use Rattle.std.specs.Prelude.{ℕ, ◌==◌, ◌&&◌, Bool, false, not, nat_le, List, [], ◌∷◌, length, Option, Some, None, option_map, codes}
use Rattle.pgs_words.specs.Forms.{Field, Form, Row, Spelling, nothing, field, last, each, has_some, such, such_form, seen_field, kinds, said, row, by_rows, no_row, keyword}
use Rattle.pgs_words.specs.Fields.{number, positive, word_of, dash_or}
use Rattle.pgs_request.specs.declared.payload.Payload.{Payload}
use Rattle.pgs_request.specs.declared.op.Op.{Op}
use Rattle.pgs_request.specs.declared.op.Op.TheVariants as ops
use Rattle.pgs_lines.specs.Choices.{word_or}
use Rattle.pgs_lines.specs.Payload.{payload}
use Rattle.pgs_lines.specs.declared.kind.Kind.{Kind}
use Rattle.pgs_lines.specs.declared.kind.Kind.TheVariants.{Shallow, Deep}
use Rattle.pgs_lines.specs.declared.snap.Snap.{Snap}
use Rattle.pgs_lines.specs.declared.call.Call.{Call}
use Rattle.pgs_lines.specs.declared.call.Call.TheVariants as calls
use Rattle.pgs_lines.specs.declared.snap.Snap.TheVariants as snaps

-- ---- names of attributes and keys

-- whether a name is a user attribute's: an underscore, and more behind it
abbrev pub is_user : List ℕ → Bool
is_user [] = false
is_user (b ∷ bs) = (b == 95) && not (length bs == 0)

abbrev pub attr_name : Field (List ℕ)
attr_name = such is_user (word_of 1 64)

abbrev pub omap_key : Field (List ℕ)
omap_key = word_of 1 255

-- ---- what a write does

abbrev pub last_payload : Form Payload
last_payload = last payload

-- AT P
abbrev pub put_form : Form (ℕ × Payload)
put_form = field number last_payload

-- NAME P
abbrev pub attr_form : Form (List ℕ × Payload)
attr_form = field attr_name last_payload

-- KEY P
abbrev pub omap_form : Form (List ℕ × Payload)
omap_form = field omap_key last_payload

abbrev pub op_said : Op → Spelling
op_said (ops.Full p) = said (codes "full") last_payload p
op_said (ops.Write at p) = said (codes "write") put_form (at, p)
op_said (ops.Truncate size) = said (codes "trunc") (last number) size
op_said (ops.SetAttr n p) = said (codes "attr") attr_form (n, p)
op_said (ops.RmAttr n) = said (codes "rmattr") (last attr_name) n
op_said (ops.SetOmap k p) = said (codes "omap") omap_form (k, p)
op_said (ops.RmOmap k) = said (codes "rmomap") (last omap_key) k
op_said (ops.SetHeader p) = said (codes "header") last_payload p
op_said ops.Remove = said (codes "remove") nothing tt

unfoldable pub op_rows : List (Row Op)
op_rows =
    row (codes "full") last_payload (λ p. ops.Full p)
    ∷ row (codes "write") put_form (λ x. ops.Write x.0 x.1)
    ∷ row (codes "trunc") (last number) (λ n. ops.Truncate n)
    ∷ row (codes "attr") attr_form (λ x. ops.SetAttr x.0 x.1)
    ∷ row (codes "rmattr") (last attr_name) (λ n. ops.RmAttr n)
    ∷ row (codes "omap") omap_form (λ x. ops.SetOmap x.0 x.1)
    ∷ row (codes "rmomap") (last omap_key) (λ k. ops.RmOmap k)
    ∷ row (codes "header") last_payload (λ p. ops.SetHeader p)
    ∷ row (codes "remove") nothing (λ x. ops.Remove)
    ∷ []

unfoldable pub op_read : List ℕ → List (List ℕ) → Option Op
op_read word words = by_rows op_rows no_row word words

abbrev pub op : Form Op
op = kinds op_said op_read

-- what follows the word of a kind, read
abbrev pub put_read : List (List ℕ) → Option Op
put_read words = option_map (λ x. ops.Write x.0 x.1) (put_form.read words)

abbrev pub trunc_read : List (List ℕ) → Option Op
trunc_read words = option_map (λ n. ops.Truncate n) ((last number).read words)

abbrev pub attr_read : List (List ℕ) → Option Op
attr_read words = option_map (λ x. ops.SetAttr x.0 x.1) (attr_form.read words)

abbrev pub rmattr_read : List (List ℕ) → Option Op
rmattr_read words = option_map (λ n. ops.RmAttr n) ((last attr_name).read words)

abbrev pub omap_read : List (List ℕ) → Option Op
omap_read words = option_map (λ x. ops.SetOmap x.0 x.1) (omap_form.read words)

abbrev pub rmomap_read : List (List ℕ) → Option Op
rmomap_read words = option_map (λ k. ops.RmOmap k) ((last omap_key).read words)

abbrev pub remove_read : List (List ℕ) → Option Op
remove_read words = option_map (λ x. ops.Remove) (nothing.read words)

-- ---- words for values

abbrev pub snap_of : Option ℕ → Snap
snap_of None = snaps.Head
snap_of (Some n) = snaps.Clone n

abbrev pub clone_in : Snap → Option ℕ
clone_in snaps.Head = None
clone_in (snaps.Clone n) = Some n

-- a number from 1 on, or `head`
abbrev pub snap : Field Snap
snap = seen_field snap_of clone_in (word_or (codes "head") positive)

abbrev pub kind_word : Kind → List ℕ
kind_word Shallow = codes "shallow"
kind_word Deep = codes "deep"

abbrev pub kind : Field Kind
kind = keyword kind_word ((codes "shallow", Shallow) ∷ (codes "deep", Deep) ∷ [])

abbrev pub call_word : Call → List ℕ
call_word calls.List = codes "list"
call_word calls.Stat = codes "stat"
call_word calls.Attrs = codes "attrs"
call_word calls.Read = codes "read"
call_word calls.Omap = codes "omap"
call_word calls.Write = codes "write"

abbrev pub calls_of : List (List ℕ × Call)
calls_of =
    (codes "list", calls.List)
    ∷ (codes "stat", calls.Stat)
    ∷ (codes "attrs", calls.Attrs)
    ∷ (codes "read", calls.Read)
    ∷ (codes "omap", calls.Omap)
    ∷ (codes "write", calls.Write)
    ∷ []

abbrev pub call : Field Call
call = keyword call_word calls_of

-- a number of at most 255
abbrev pub rank : Field ℕ
rank = such (λ n. nat_le n 255) number

-- one or more numbers of OSDs
abbrev pub members_form : Form (List ℕ)
members_form = such_form has_some (each number)

-- ---- SPACE KEY NAME, and then others

abbrev pub space : Field (List ℕ)
space = dash_or 64

abbrev pub key : Field (List ℕ)
key = dash_or 255

abbrev pub name : Field (List ℕ)
name = word_of 1 255

abbrev pub named : {B : Type 0} → Form B → Form (List ℕ × (List ℕ × (List ℕ × B)))
named b = field space (field key (field name b))
