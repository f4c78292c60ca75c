-- Which deposit is the map that was asked for.
use Rattle.std.specs.Prelude.{ℕ, not, ◌≡◌, ◌+◌, ◌==◌, nat_lt, if◌then◌else◌, List, [], length, Option, Some, None, Result, Ok, Err}
use Rattle.pgs_chunk.specs.declared.ask.Ask.{Ask}
use Rattle.pgs_codec.specs.declared.decode_error.DecodeError.{DecodeError}
use Rattle.pgs_codec.specs.declared.decode_error.DecodeError.TheVariants as refusals
use Rattle.pgs_map.specs.declared.scrub_map.ScrubMap.{ScrubMap}
use Rattle.pgs_map_encoding.specs.Bounds.{bound}
use Rattle.pgs_map_encoding.specs.Maps.{read_map}
use Rattle.pgs_range.specs.Ends.{same_bound}
use Rattle.pgs_exchange.specs.declared.deposit.Deposit.{Deposit}
use Rattle.pgs_exchange.specs.declared.deposit.Handed.{Handed}
use Rattle.pgs_exchange.specs.declared.deposit.Handed.TheVariants as handed
use Rattle.pgs_exchange.specs.declared.deposit_error.DepositError.{DepositError}
use Rattle.pgs_exchange.specs.declared.deposit_error.DepositError.TheVariants as errors

abbrev pub bad_map : DecodeError → DepositError
bad_map (refusals.Corrupt at) = errors.BadMap at
bad_map refusals.Memory = errors.Memory

-- ---- where a map isn't what was asked for

-- its chunk stands behind two marks, the OSD and the scrub, and its first bound behind three more numbers
abbrev pub CHUNK_AT : ℕ
CHUNK_AT = 14

abbrev pub FROM_AT : ℕ
FROM_AT = 38

abbrev pub to_at : ScrubMap → ℕ
to_at map = FROM_AT + length (bound.spell map.range.from)

-- the first of its chunk, its first bound and its second bound that isn't the ask's
abbrev pub other_at : Ask → ScrubMap → Option ℕ
other_at ask map =
    if not (map.chunk == ask.chunk) then Some CHUNK_AT
    else if not (same_bound map.range.from ask.range.from) then Some FROM_AT
    else if not (same_bound map.range.to ask.range.to) then Some (to_at map)
    else None

-- ---- deposits

abbrev pub IsMap : Handed → Type 0
IsMap (handed.Map text) = Unit {0}
IsMap (handed.ListFault count) = ⊥

abbrev pub text_in : Handed → List ℕ
text_in (handed.Map text) = text
text_in (handed.ListFault count) = []

abbrev pub unless_other : ScrubMap → Option ℕ → Result ScrubMap DepositError
unless_other map None = Ok map
unless_other map (Some at) = Err (errors.BadMap at)

abbrev pub of_ask : Ask → Result ScrubMap ℕ → Result ScrubMap DepositError
of_ask ask (Ok map) = unless_other map (other_at ask map)
of_ask ask (Err at) = Err (errors.BadMap at)

-- the chunk first, then whether it applied enough, and then the bytes
abbrev pub checked_against : Ask → Deposit → Result ScrubMap DepositError
checked_against ask deposit =
    if not (deposit.chunk == ask.chunk) then Err (errors.Stale (Some ask.chunk))
    else if nat_lt deposit.applied ask.needed then Err (errors.Early deposit.applied ask.needed)
    else of_ask ask (read_map (text_in deposit.found))

abbrev pub checked : Option Ask → Deposit → Result ScrubMap DepositError
checked None deposit = Err (errors.Stale None)
checked (Some ask) deposit = checked_against ask deposit

-- an answer is what is due; want of memory is free
abbrev pub Checks : Result ScrubMap DepositError → Result ScrubMap DepositError → Type 0
Checks (Ok map) due = due ≡ Ok map
Checks (Err errors.Memory) due = Unit {0}
Checks (Err (errors.Stale chunk)) due = due ≡ Err (errors.Stale chunk)
Checks (Err (errors.Early applied needed)) due = due ≡ Err (errors.Early applied needed)
Checks (Err (errors.BadMap at)) due = due ≡ Err (errors.BadMap at)

-- a map is of the chunk and of the range that were asked for
abbrev pub IsOfAsk : Option Ask → ScrubMap → Type 0
IsOfAsk None map = ⊥
IsOfAsk (Some ask) map = (map.chunk ≡ ask.chunk) × (map.range ≡ ask.range)
