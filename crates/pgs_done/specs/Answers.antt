-- How the answers to writes and to the steps of the log are printed.
use Rattle.std.specs.Prelude.{ℕ, List, [], ◌∷◌, Option, codes}
use Rattle.std.specs.Fmt.{decimal}
use Rattle.pgs_request.specs.declared.answers.Refusal.{Refusal}
use Rattle.pgs_request.specs.declared.answers.Refusal.TheVariants as refusals
use Rattle.pgs_request.specs.declared.answers.Declined.{Declined}
use Rattle.pgs_request.specs.declared.answers.Declined.TheVariants as declines
use Rattle.pgs_done.specs.Words.{version_word, number_where}
use Rattle.pgs_done.specs.Ranges.{range_words}
use Rattle.pgs_done.specs.declared.write_answer.WriteAnswer.{WriteAnswer}
use Rattle.pgs_done.specs.declared.write_answer.WriteAnswer.TheVariants as writes
use Rattle.pgs_done.specs.declared.collect_answer.CollectAnswer.{CollectAnswer}
use Rattle.pgs_done.specs.declared.collect_answer.CollectAnswer.TheVariants as collects
use Rattle.pgs_done.specs.declared.apply_answer.ApplyAnswer.{ApplyAnswer}
use Rattle.pgs_done.specs.declared.apply_answer.ApplyAnswer.TheVariants as applies
use Rattle.pgs_done.specs.declared.damage_answer.DamageAnswer.{DamageAnswer}
use Rattle.pgs_done.specs.declared.damage_answer.DamageAnswer.TheVariants as damage_answers

abbrev pub refusal_words : Refusal → List (List ℕ)
refusal_words refusals.NoSuchObject = codes "no-such-object" ∷ []
refusal_words (refusals.ObjectTooLarge size) = codes "object-too-large" ∷ decimal size ∷ []
refusal_words (refusals.StoreFull bytes) = codes "store-full" ∷ decimal bytes ∷ []
refusal_words (refusals.LogFull bytes) = codes "log-full" ∷ decimal bytes ∷ []

abbrev pub declined_words : Declined → List (List ℕ)
declined_words (declines.Repeat version) = codes "repeat" ∷ version_word version ∷ []
declined_words (declines.BadSnapContext place) = codes "bad-snap-context" ∷ decimal place ∷ []
declined_words (declines.Refused refusal) = refusal_words refusal

abbrev pub write_words : WriteAnswer → List (List ℕ)
write_words (writes.Declined declined) = declined_words declined
write_words (writes.Parked range) = codes "parked" ∷ range_words range
write_words (writes.QueueFull count) = codes "queue-full" ∷ decimal count ∷ []
write_words (writes.Accepted version preempts) = codes "accepted" ∷ version_word version ∷ number_where (codes "preempts") preempts

abbrev pub collect_words : CollectAnswer → List (List ℕ)
collect_words (collects.StillParked chunk) = codes "still-parked" ∷ decimal chunk ∷ []
collect_words (collects.Refused refusal) = codes "refused" ∷ refusal_words refusal
collect_words collects.Unknown = codes "unknown" ∷ []
collect_words (collects.NotYet osd told) = codes "not-yet" ∷ decimal osd ∷ decimal told ∷ []
collect_words (collects.Acked version) = codes "acked" ∷ version_word version ∷ []

-- the items from one number to another, and the chunk that is asked for with them, if one is
abbrev pub pull_words : ℕ → ℕ → Option ℕ → List (List ℕ)
pull_words before now asked = codes "pulled" ∷ decimal before ∷ decimal now ∷ number_where (codes "asked") asked

abbrev pub apply_words : ApplyAnswer → List (List ℕ)
apply_words (applies.Applied number drops) = codes "applied" ∷ decimal number ∷ number_where (codes "drops") drops
apply_words (applies.NotYet applied) = codes "not-yet" ∷ decimal applied ∷ []
apply_words (applies.DeviceFault count) = codes "device-fault" ∷ decimal count ∷ []

abbrev pub damage_words : DamageAnswer → List (List ℕ)
damage_words damage_answers.Damaged = codes "damaged" ∷ []
damage_words damage_answers.BeingRead = codes "being-read" ∷ []
damage_words (damage_answers.ShardFull bytes) = codes "shard-full" ∷ decimal bytes ∷ []
