-- What a member pulls follows on what it was fed.
use Rattle.std.proofs.Common.{◌≡◌, ℕ, ◌≤◌, true, length, reverse, ap, ◌∙◌, arith}
use Rattle.pgs_op_log.specs.Logs.{newer}
use Rattle.pgs_history.specs.Log.{log}
use Rattle.pgs_history.specs.Members.{pulled}
use Rattle.pgs_history.proofs.Ids.{numbered}
use Rattle.pgs_shard_history.specs.Feeds.{AreNext, fed}
use Rattle.pgs_shards.specs.Members.{past_in}
use Rattle.pgs_placement.specs.State.{PlacementState}
use Rattle.pgs_placement.specs.Counts.{is_member}
use Rattle.pgs_placement.specs.Sound.{IsSound}
use Rattle.pgs_placement.proofs.Items.{next_newer, length_upto}

pub pull_next : (w : PlacementState) (osd : ℕ) → IsSound w → is_member w.made osd ≡ true → AreNext (pulled w.past osd) (reverse (newer (pulled w.past osd) (log w.past)))
pull_next w osd s member =
    let h = s.steady.in_step in next_newer (pulled w.past osd) (log w.past) (numbered w.made w.past h.legal) (h.each osd member).pulled_log

pub pull_from : (w : PlacementState) (osd : ℕ) → IsSound w → is_member w.made osd ≡ true → pulled w.past osd ≤ length (fed (past_in w.members osd))
pull_from w osd s member =
    let h = s.steady.in_step in
    let one = h.each osd member in
    let size : length (fed (past_in w.members osd)) ≡ pulled w.past osd = ap length one.items ∙ length_upto (pulled w.past osd) (log w.past) (numbered w.made w.past h.legal) one.pulled_log in
    omega (arith, size)
