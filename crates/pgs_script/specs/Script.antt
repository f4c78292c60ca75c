-- The grammar of scripts.
use Rattle.std.specs.Prelude.{◌≡◌, true, List}
use Rattle.std.specs.List.{AllByRecursion}
use Rattle.pgs_texts.specs.Grammar.{Grammar}
use Rattle.pgs_lines.specs.Lines.{line}
use Rattle.pgs_lines.specs.Steps.{step_said}
use Rattle.pgs_lines.specs.declared.step.Step.{Step}
use Rattle.pgs_lines.specs.declared.line.Line.{Line}
use Rattle.pgs_order.specs.Order.{nothing_said, passed, allows, passes, after}
use Rattle.pgs_order.specs.declared.step_script.StepScript.{StepScript}

abbrev pub script_grammar : Grammar StepScript Line
script_grammar = record { line = line; start = nothing_said; over = λ s. s.over; passed = passed; allows = allows; passes = passes; after = after }

-- each step's fields are within the bounds of its words
abbrev pub AreSpelled : List Step → Type 0
AreSpelled steps = AllByRecursion (λ step. (step_said step).fits ≡ true) steps
