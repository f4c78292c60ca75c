-- How many positions a chunk may have.
use Rattle.std.specs.Prelude.{ℕ, false, nat_lt, ◌/◌, ◌^◌, if◌then◌else◌}
use Rattle.pgs_chunk.specs.declared.limits.Limits.{Limits}
use Rattle.pgs_chunk.specs.declared.settings.Settings.{Settings}

abbrev pub greater : ℕ → ℕ → ℕ
greater a b = if nat_lt a b then b else a

-- the greatest limit, halved once for each preemption, but never below the least
abbrev pub limit_after : Limits → ℕ → ℕ
limit_after limits preemptions = greater limits.chunk_min (limits.chunk_max / 2 ^ preemptions)

-- what holds where a script sets nothing
abbrev pub usual_limits : Limits
usual_limits = record { chunk_min = 5; chunk_max = 25; preemptions = 5 }

abbrev pub usual_settings : Settings
usual_settings = record { limits = usual_limits; stride = 524288; lists = false }
