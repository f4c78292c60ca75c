-- Which status is due.
use Rattle.std.proofs.Common.{◌≡◌, ℕ, zero, suc, ◌+◌, ◌≤◌, ◌<◌, List, [], length, Option, Some, None, refl, sym, ◌∙◌, ap, arith, length-append}
use Rattle.std.specs.Prelude.{IfSome}
use Rattle.pgs_edge.specs.Reading.{GaveAtLeast}
use Rattle.pgs_texts.specs.Text.{IsTextOf, IsLimit}
use Rattle.pgs_script.specs.Script.{script_grammar}
use Rattle.pgs_order.specs.declared.step_script.StepScript.{StepScript}
use Rattle.pgs_chunk.specs.declared.settings.Settings.{Settings}
use Rattle.pgs_top.specs.Histories.{no_histories}
use Rattle.pgs_top.specs.Ends.{INPUT_MAX, PassesLimit, IsDue, Tells, Due, Scripted, IsRefusal, IsRun}
use Rattle.pgs_top.specs.declared.histories.Histories.{Histories}
use Rattle.pgs_top.specs.declared.ended.Status.{Status}
use Rattle.pgs_top.specs.declared.ended.Status.TheVariants as ends

-- a line that passes a limit is a line: it isn't 0
pub limit_due : (input : List ℕ) (line : ℕ) → length input ≤ INPUT_MAX → IsLimit script_grammar input line → PassesLimit input line
limit_due input zero within stops = let number : 0 ≡ 1 + length stops.said = stops.number in absurd (omega arith)
limit_due input (suc line) within stops = (within, stops)

-- ---- what a source told

tells_all : (told : Option (List ℕ)) (text : List ℕ) → IfSome told (λ input. text ≡ input) → Tells told text
tells_all None text h = tt
tells_all (Some bytes) text h = sym h

-- some input
some_input : Option (List ℕ) → List ℕ
some_input None = []
some_input (Some bytes) = bytes

tells_some : (told : Option (List ℕ)) → Tells told (some_input told)
unfolding some_input
tells_some None = tt
tells_some (Some bytes) = refl

pub scripted_all : (told : Option (List ℕ)) (text : List ℕ) (script : StepScript) → IfSome told (λ input. text ≡ input) → length text ≤ INPUT_MAX
    → IsTextOf script_grammar script text → Scripted told script
scripted_all told text script h within reads = record { input = text; tells = tells_all told text h; within = within; reads = reads }

pub refused_all : (settings : Settings) (told : Option (List ℕ)) (text : List ℕ) (status : Status) → IfSome told (λ input. text ≡ input) → IsDue settings text no_histories status
    → Due settings told no_histories status
refused_all settings told text status h due = record { input = text; tells = tells_all told text h; due = due }

pub fault_due : (settings : Settings) (told : Option (List ℕ)) → Due settings told no_histories ends.ReadFault
fault_due settings told = record { input = some_input told; tells = tells_some told; due = refl }

pub memory_due : (settings : Settings) (told : Option (List ℕ)) → Due settings told no_histories ends.Memory
memory_due settings told = record { input = some_input told; tells = tells_some told; due = refl }

pub words_due : (settings : Settings) (told : Option (List ℕ)) (kept : Histories) → kept ≡ no_histories → Due settings told kept ends.BadWords
words_due settings told kept none = record { input = some_input told; tells = tells_some told; due = none }

pub long_due : (settings : Settings) (told new : Option (List ℕ)) → GaveAtLeast told new (INPUT_MAX + 1) → Due settings told no_histories (ends.Limit 0)
long_due settings None new gave = record { input = gave.0; tells = tt; due = (long gave.2, refl) }
  where
    long : {n : ℕ} → INPUT_MAX + 1 ≤ n → INPUT_MAX < n
    long h = omega arith
long_due settings (Some bytes) None gave = absurd gave.1
long_due settings (Some bytes) (Some rest) gave =
    let size : length bytes ≡ length gave.0 + length rest = ap length gave.1 ∙ length-append gave.0 rest in
    let least : INPUT_MAX + 1 ≤ length gave.0 = gave.2 in
    record { input = bytes; tells = refl; due = (omega arith, refl) }

-- ---- the run of a script

pub run_due : (settings : Settings) (told : Option (List ℕ)) (script : StepScript) (kept : Histories) (status : Status) → Scripted told script → IsRun settings script kept status → Due settings told kept status
run_due settings told script kept ends.Ok read run = record { input = read.input; tells = read.tells; due = record { within = read.within; script = script; reads = read.reads; happened = run } }
run_due settings told script kept ends.BadWords read run = absurd run
run_due settings told script kept (ends.BadLine line) read run = absurd run
run_due settings told script kept ends.ReadFault read run = absurd run
run_due settings told script kept ends.WriteFault read run = record { input = read.input; tells = read.tells; due = record { within = read.within; script = script; reads = read.reads; happened = run } }
run_due settings told script kept (ends.Limit line) read run = absurd run
run_due settings told script kept ends.Memory read run = record { input = read.input; tells = read.tells; due = run }

-- a refusal turns on no setting
pub any_settings : (a b : Settings) (told : Option (List ℕ)) (status : Status) → IsRefusal status → Due a told no_histories status → Due b told no_histories status
any_settings a b told ends.Ok is due = absurd is
any_settings a b told ends.BadWords is due = absurd is
any_settings a b told (ends.BadLine line) is due = record { input = due.input; tells = due.tells; due = due.due }
any_settings a b told ends.ReadFault is due = record { input = due.input; tells = due.tells; due = due.due }
any_settings a b told ends.WriteFault is due = absurd is
any_settings a b told (ends.Limit line) is due = record { input = due.input; tells = due.tells; due = due.due }
any_settings a b told ends.Memory is due = record { input = due.input; tells = due.tells; due = due.due }

pub ruleset dues = (scripted_all, refused_all, fault_due, memory_due, long_due)
