-- A whole scrub, as the list of its single steps.
use Rattle.std.specs.Prelude.{ℕ, suc, Bool, true, false, List, [], ◌∷◌, take, if◌then◌else◌}
use Rattle.pgs_lines.specs.declared.kind.Kind.{Kind as LineKind}
use Rattle.pgs_history.specs.Acting.{acting}
use Rattle.pgs_history.specs.Answers.{begin_answer}
use Rattle.pgs_history.specs.declared.begin_answer.BeginAnswer.{BeginAnswer}
use Rattle.pgs_history.specs.declared.begin_answer.BeginAnswer.TheVariants as begins
use Rattle.pgs_shard.specs.declared.scan_answer.ScanAnswer.{ScanAnswer}
use Rattle.pgs_shard.specs.declared.scan_answer.ScanAnswer.TheVariants as scans
use Rattle.pgs_shards.specs.Scans.{scan_in}
use Rattle.pgs_placement.specs.Admissions.{all_admitted}
use Rattle.pgs_placement.specs.Basics.{after_pulling, after_applying, after_scanning}
use Rattle.pgs_placement.specs.Scrubs.{after_beginning, after_claiming, after_releasing, after_opening, after_taking, after_closing, is_going, grants}
use Rattle.pgs_placement.specs.Repeats.{MOST, repeated}
use Rattle.pgs_placement.specs.State.{PlacementState}

-- ---- a member's scan of a chunk

-- the scan goes on after this answer
abbrev pub goes_on : ScanAnswer → Bool
goes_on scans.Idle = false
goes_on (scans.NotYet count needed) = true
goes_on (scans.Found id) = true
goes_on scans.More = true
goes_on (scans.Passed id mark) = true
goes_on scans.Done = false
goes_on (scans.ListFault count) = false

-- it needs an item that isn't applied
abbrev pub is_early : ScanAnswer → Bool
is_early scans.Idle = false
is_early (scans.NotYet count needed) = true
is_early (scans.Found id) = false
is_early scans.More = false
is_early (scans.Passed id mark) = false
is_early scans.Done = false
is_early (scans.ListFault count) = false

-- a step, behind which an item is applied where the scan needs one
abbrev pub scanned_on : PlacementState → ℕ → ℕ → PlacementState
scanned_on w group osd = if is_early (scan_in w.stride w.members osd) then after_applying (after_scanning w group osd) group osd else after_scanning w group osd

-- step after step until it is done
abbrev pub scanned_out : ℕ → PlacementState → ℕ → ℕ → PlacementState
scanned_out n w group osd = repeated (λ x. scanned_on x group osd) (λ x. goes_on (scan_in x.stride x.members osd)) n w

-- an OSD pulls, scans the chunk until that is done, and hands its map
abbrev pub member_scrubbed : PlacementState → ℕ → ℕ → PlacementState
member_scrubbed w group osd = all_admitted (after_taking (scanned_out MOST (after_pulling w group osd) group osd) group osd)

-- each OSD does so, until the scrub has ended by a device that failed
abbrev pub all_scrubbed : PlacementState → ℕ → List ℕ → PlacementState
all_scrubbed w group [] = w
all_scrubbed w group (osd ∷ osds) = if is_going w then all_scrubbed (member_scrubbed w group osd) group osds else w

-- ---- chunk after chunk

-- the chunk is closed, unless the scrub has ended, and the writes that waited for that are taken up
abbrev pub closed_if : PlacementState → ℕ → PlacementState
closed_if w group = if is_going w then all_admitted (after_closing w group) else w

-- each acting OSD gives its map of the chunk, unless the scrub has ended
abbrev pub scanned_if : PlacementState → ℕ → PlacementState
scanned_if w group = if is_going w then closed_if (all_scrubbed w group (acting w.made w.past)) group else w

-- a chunk is opened, scanned and closed
abbrev pub chunk_done : PlacementState → ℕ → PlacementState
chunk_done w group = scanned_if (all_admitted (after_opening w group)) group

-- chunk after chunk until the scrub has ended
abbrev pub walked : ℕ → PlacementState → ℕ → PlacementState
walked n w group = repeated (λ x. chunk_done x group) (λ x. is_going (chunk_done x group)) n w

-- ---- slots

-- at each of these OSDs a slot is claimed, until a claim isn't granted
abbrev pub claimed_all : PlacementState → ℕ → List ℕ → PlacementState
claimed_all w group [] = w
claimed_all w group (osd ∷ osds) = if grants w then claimed_all (after_claiming w group) group osds else after_claiming w group

-- how many of them are granted
abbrev pub granted : PlacementState → ℕ → List ℕ → ℕ
granted w group [] = 0
granted w group (osd ∷ osds) = if grants w then suc (granted (after_claiming w group) group osds) else 0

-- a slot of each of these OSDs is released
abbrev pub released_all : PlacementState → ℕ → List ℕ → PlacementState
released_all w group [] = w
released_all w group (osd ∷ osds) = released_all (after_releasing w group osd) group osds

-- ---- a whole scrub

abbrev pub walked_if : PlacementState → ℕ → PlacementState
walked_if w group = if is_going w then walked MOST w group else w

-- slots of these OSDs are claimed; where all claims are granted, chunk after chunk is scrubbed; and the slots that were claimed are released
abbrev pub scrubbed_at : PlacementState → ℕ → List ℕ → PlacementState
scrubbed_at w group osds = released_all (walked_if (claimed_all w group osds) group) group (take (granted w group osds) osds)

abbrev pub scrubbed : BeginAnswer → PlacementState → ℕ → PlacementState
scrubbed (begins.Busy serial) w group = w
scrubbed (begins.Began serial first) w group = scrubbed_at w group (acting w.made w.past)

-- a scrub begins, unless one reserves or runs, and goes on until it has ended
abbrev pub swept : PlacementState → ℕ → LineKind → PlacementState
swept w group kind = scrubbed (begin_answer w.made w.past) (after_beginning w group kind) group
