-- How what was done is printed.
use Rattle.std.specs.Prelude.{ℕ, Bool, true, false, if◌then◌else◌, List, [], ◌∷◌, ◌++◌, codes}
use Rattle.std.specs.List.{join_with_byte}
use Rattle.std.specs.Fmt.{decimal}
use Rattle.pgs_lines.specs.Basics.{basic_said}
use Rattle.pgs_lines.specs.declared.basic.Basic.TheVariants as basics
use Rattle.pgs_done.specs.Contexts.{as_printed}
use Rattle.pgs_done.specs.Ranges.{as_kept}
use Rattle.pgs_done.specs.Answers.{write_words, collect_words, pull_words, apply_words, damage_words}
use Rattle.pgs_done.specs.Scrubs.{begin_words, open_words, close_words}
use Rattle.pgs_done.specs.Scans.{scan_words, take_words}
use Rattle.pgs_done.specs.Plans.{interval_words, claim_words, release_words, job_words, unjob_words, pick_words}
use Rattle.pgs_done.specs.declared.done.Done.{Done}
use Rattle.pgs_done.specs.declared.done.Done.TheVariants as dones

-- the words of what was done, as a script spells them, with its object as it is kept and its context as it is printed. No
-- line of a script admits a write that was parked
abbrev pub step_words : Done → List (List ℕ)
step_words (dones.Write client serial object context op answer) = (basic_said (basics.Write client serial (as_kept object) (as_printed context) op)).words
step_words (dones.Admit client serial answer) = codes "admit" ∷ decimal client ∷ decimal serial ∷ []
step_words (dones.Collect group client serial answer) = (basic_said (basics.Collect group client serial)).words
step_words (dones.Pull group osd before now asked) = (basic_said (basics.Pull group osd)).words
step_words (dones.Apply group osd answer) = (basic_said (basics.Apply group osd)).words
step_words (dones.Tell group osd applied) = (basic_said (basics.Tell group osd)).words
step_words (dones.Damage group osd object snap damage answer) = (basic_said (basics.Damage group osd (as_kept object) snap damage)).words
step_words (dones.Begin group kind answer) = (basic_said (basics.Begin group kind)).words
step_words (dones.Open group answer) = (basic_said (basics.Open group)).words
step_words (dones.Scan group osd answer) = (basic_said (basics.Scan group osd)).words
step_words (dones.Take group osd answer) = (basic_said (basics.Take group osd)).words
step_words (dones.Close group answer) = (basic_said (basics.Close group)).words
step_words (dones.Interval group acting answer) = (basic_said (basics.Interval group acting)).words
step_words (dones.Claim group answer) = (basic_said (basics.Claim group)).words
step_words (dones.Release group osd answer) = (basic_said (basics.Release group osd)).words
step_words (dones.Job group kind rank moment answer) = (basic_said (basics.Job group kind rank moment)).words
step_words (dones.Unjob group answer) = (basic_said (basics.Unjob group)).words
step_words (dones.Pick moment answer) = (basic_said (basics.Pick moment)).words
step_words (dones.Listed text) = text ∷ []

abbrev pub answer_words : Done → List (List ℕ)
answer_words (dones.Write client serial object context op answer) = write_words answer
answer_words (dones.Admit client serial answer) = write_words answer
answer_words (dones.Collect group client serial answer) = collect_words answer
answer_words (dones.Pull group osd before now asked) = pull_words before now asked
answer_words (dones.Apply group osd answer) = apply_words answer
answer_words (dones.Tell group osd applied) = codes "told" ∷ decimal applied ∷ []
answer_words (dones.Damage group osd object snap damage answer) = damage_words answer
answer_words (dones.Begin group kind answer) = begin_words group answer
answer_words (dones.Open group answer) = open_words answer
answer_words (dones.Scan group osd answer) = scan_words answer
answer_words (dones.Take group osd answer) = take_words answer
answer_words (dones.Close group answer) = close_words answer
answer_words (dones.Interval group acting answer) = interval_words group answer
answer_words (dones.Claim group answer) = claim_words answer
answer_words (dones.Release group osd answer) = release_words group answer
answer_words (dones.Job group kind rank moment answer) = job_words answer
answer_words (dones.Unjob group answer) = unjob_words answer
answer_words (dones.Pick moment answer) = pick_words answer
answer_words (dones.Listed text) = []

-- words with one space between two of them, and the line's end
abbrev pub line_of : List (List ℕ) → List ℕ
line_of words = join_with_byte 32 words ++ 10 ∷ []

-- a list has no answer: its words are the list
abbrev pub is_listed : Done → Bool
is_listed (dones.Write client serial object context op answer) = false
is_listed (dones.Admit client serial answer) = false
is_listed (dones.Collect group client serial answer) = false
is_listed (dones.Pull group osd before now asked) = false
is_listed (dones.Apply group osd answer) = false
is_listed (dones.Tell group osd applied) = false
is_listed (dones.Damage group osd object snap damage answer) = false
is_listed (dones.Begin group kind answer) = false
is_listed (dones.Open group answer) = false
is_listed (dones.Scan group osd answer) = false
is_listed (dones.Take group osd answer) = false
is_listed (dones.Close group answer) = false
is_listed (dones.Interval group acting answer) = false
is_listed (dones.Claim group answer) = false
is_listed (dones.Release group osd answer) = false
is_listed (dones.Job group kind rank moment answer) = false
is_listed (dones.Unjob group answer) = false
is_listed (dones.Pick moment answer) = false
is_listed (dones.Listed text) = true

-- a colon and the words of the answer, where there is one
abbrev pub answer_part : Done → List (List ℕ)
answer_part done = if is_listed done then [] else codes ":" ∷ answer_words done

abbrev pub done_line : Done → List ℕ
done_line done = line_of (step_words done ++ answer_part done)
