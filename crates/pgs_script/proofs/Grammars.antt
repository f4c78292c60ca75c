-- The laws of the grammar of scripts.
use Rattle.std.proofs.Common.{◌≡◌, ℕ, List}
use Rattle.std.specs.Prelude.{Result, Err}
use Rattle.pgs_words.specs.Forms.{parts_of}
use Rattle.pgs_texts.specs.Text.{IsVerdict}
use Rattle.pgs_texts.specs.Verdict.{Judges, verdict}
use Rattle.pgs_texts.proofs.Meaning.{GrammarLaws, judged_verdict, only_due}
use Rattle.pgs_texts.specs.declared.script_error.ScriptError.{ScriptError}
use Rattle.pgs_texts.specs.declared.script_error.ScriptError.TheVariants.{Memory}
use Rattle.pgs_lines.specs.Lines.{in_line}
use Rattle.pgs_lines.proofs.LineLaws.{line_laws}
use Rattle.pgs_script.specs.Script.{script_grammar}
use Rattle.pgs_order.proofs.Stays.{not_passed}
use Rattle.pgs_order.specs.declared.step_script.StepScript.{StepScript}

pub script_laws : GrammarLaws in_line script_grammar
script_laws = record { lines = line_laws; not_passed = not_passed }

pub script_verdict : (text : List ℕ) (r : Result StepScript ScriptError) → Judges r (verdict script_grammar 1 script_grammar.start (parts_of 10 text)) → IsVerdict script_grammar text r
script_verdict = judged_verdict in_line script_grammar script_laws

pub script_due : (text : List ℕ) (r due : Result StepScript ScriptError) → Judges r (verdict script_grammar 1 script_grammar.start (parts_of 10 text))
    → IsVerdict script_grammar text due → (due ≡ Err Memory → ⊥) → Judges r due
script_due = only_due in_line script_grammar script_laws

pub ruleset verdicts = (script_verdict, script_due)
