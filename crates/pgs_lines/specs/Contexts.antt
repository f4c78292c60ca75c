-- How a context of snapshots is spelled, and what it means.
use Rattle.std.specs.Prelude.{ℕ, List, [], Option, Some, None}
use Rattle.pgs_words.specs.Forms.{Field, Form, field, each, has_some, such_form, parts, seen, seen_field}
use Rattle.pgs_words.specs.Fields.{number, dash}
use Rattle.pgs_request.specs.declared.snap_context.SnapContext.{SnapContext}
use Rattle.pgs_lines.specs.Choices.{word_or, list_or_none}
use Rattle.pgs_lines.specs.declared.context.Context.{Context}
use Rattle.pgs_lines.specs.declared.context.Context.TheVariants.{Dash, Given}

-- ---- words

-- S,S: one or more snaps
abbrev pub snaps : Field (List ℕ)
snaps = parts 44 (such_form has_some (each number))

-- SEQ, and the snaps if there are any
abbrev pub given_form : Form (ℕ × List ℕ)
given_form = field number (list_or_none snaps)

abbrev pub given_of : ℕ × List ℕ → SnapContext
given_of x = record { seq = x.0; snaps = x.1 }

abbrev pub given_parts : SnapContext → ℕ × List ℕ
given_parts context = (context.seq, context.snaps)

-- SEQ, or SEQ:S,S
abbrev pub given : Field SnapContext
given = parts 58 (seen given_of given_parts given_form)

abbrev pub context_of : Option SnapContext → Context
context_of None = Dash
context_of (Some context) = Given context

abbrev pub given_in : Context → Option SnapContext
given_in Dash = None
given_in (Given context) = Some context

abbrev pub context : Field Context
context = seen_field context_of given_in (word_or dash given)

-- ---- what a word means

abbrev pub meant : Context → SnapContext
meant Dash = record { seq = 0; snaps = [] }
meant (Given context) = context
