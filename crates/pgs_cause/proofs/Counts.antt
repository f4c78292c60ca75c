-- What rose in one of two calls, one after the other, rose over both.
use Rattle.std.proofs.Common.{ℕ, ◌≤◌, ◌≡◌, arith}
use Rattle.pgs_cause.specs.Count.{Rose, LAST_COUNT}

pub rose_after : (a b c : ℕ) → a ≤ b → Rose b c → Rose a c
rose_after a b c p q = record { kept = omega arith; more = λ e. q.more (omega arith) }

pub rose_before : (a b c : ℕ) → Rose a b → b ≤ c → Rose a c
rose_before a b c p q = record { kept = omega arith; more = λ e. let last : b ≡ LAST_COUNT = p.more (omega arith) in omega arith }
