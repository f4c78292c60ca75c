-- Numbers of calls.
use Rattle.std.specs.Prelude.{ℕ, ◌+◌, ◌==◌, ◌&&◌, min, Bool, true, false, List}
use Rattle.std.specs.List.{list_any}
use Rattle.pgs_cause.specs.Count.{LAST_COUNT}
use Rattle.pgs_medium.specs.declared.call_kind.CallKind.{CallKind}
use Rattle.pgs_medium.specs.declared.call_kind.CallKind.TheVariants as kinds
use Rattle.pgs_medium.specs.declared.failing_call.FailingCall.{FailingCall}

-- a number after one more, which stays at its last value
abbrev pub one_more : ℕ → ℕ
one_more count = min (count + 1) LAST_COUNT

-- the kinds are the same
abbrev pub same_kind : CallKind → CallKind → Bool
same_kind kinds.Write kinds.Write = true
same_kind kinds.List kinds.List = true
same_kind kinds.Stat kinds.Stat = true
same_kind kinds.Attrs kinds.Attrs = true
same_kind kinds.Read kinds.Read = true
same_kind kinds.Omap kinds.Omap = true
same_kind a b = false

-- a list names the call of this kind and number
abbrev pub is_named : CallKind → ℕ → List FailingCall → Bool
is_named kind number calls = list_any (λ call. same_kind call.kind kind && (call.number == number)) calls
