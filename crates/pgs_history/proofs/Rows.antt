-- The closed chunks of each scrub of a legal history lie in a row.
use Rattle.std.proofs.Common.{◌≡◌, ℕ, ◌+◌, ◌≤◌, ◌<◌, ◌==◌, ◌&&◌, ◌||◌, Bool, true, false, cond, List, [], ◌∷◌, Option, Some, None, refl, sym, ap, ◌∙◌, subst, arith}
use Rattle.std.specs.Ordering.{is_le, ordering_reverse}
use Rattle.std.specs.declared.cmp.Ordering.{Ordering}
use Rattle.std.specs.declared.cmp.Ordering.TheVariants.{Less, Equal, Greater}
use Rattle.std.proofs.lemmas.Bool.Decides.{nat_tests}
use Rattle.pgs_bytes.proofs.Facts.{none_some, some_same, true_false, both}
use Rattle.pgs_name.specs.declared.object_id.ObjectId.{ObjectId}
use Rattle.pgs_range.specs.Ends.{bound_cmp, is_upto}
use Rattle.pgs_range.specs.Rows.{AreInRow}
use Rattle.pgs_range.specs.declared.bound.Bound.{Bound}
use Rattle.pgs_range.specs.declared.bound.Bound.TheVariants.{Min, At, Max}
use Rattle.pgs_range.proofs.Ends.{bound_total}
use Rattle.pgs_range.proofs.Rows.{held_once}
use Rattle.pgs_chunk.specs.Positions.{Ascends}
use Rattle.pgs_chunk.proofs.Chunks.{chunk_rises}
use Rattle.pgs_request.specs.declared.version.Version.{Version}
use Rattle.pgs_op.specs.declared.write.Write.{Write}
use Rattle.pgs_compare.specs.declared.report.Report.{Report}
use Rattle.pgs_history.specs.Scrubs.{begun, current, present, serial_of, open_chunk, has_number, end_of, start, limit_now, closed_ranges, with_range, completed, is_of}
use Rattle.pgs_history.specs.Answers.{is_last, is_greatest, next_chunk}
use Rattle.pgs_history.specs.Legal.{IsLegal}
use Rattle.pgs_history.specs.Chunks.{AreTiled}
use Rattle.pgs_history.specs.declared.made.Made.{Made}
use Rattle.pgs_history.specs.declared.chunk.Chunk.{Chunk}
use Rattle.pgs_history.specs.declared.event.Event.{Event}
use Rattle.pgs_history.specs.declared.event.Event.TheVariants.{Submit, Admit, Collect, Pull, Tell, Begin, Reserve, Open, Take, Close, Fault, Interval}
use Rattle.pgs_history.specs.declared.write_answer.WriteAnswer.TheVariants.{Declined, Parked, QueueFull, Accepted}
use Rattle.pgs_history.specs.declared.begin_answer.BeginAnswer.TheVariants.{Busy, Began}
use Rattle.pgs_history.specs.declared.open_answer.OpenAnswer.TheVariants.{Over, StillReserving, Already, Opened}
use Rattle.pgs_history.specs.declared.reserve_answer.ReserveAnswer.TheVariants as reserves
use Rattle.pgs_history.specs.declared.fault_answer.FaultAnswer.TheVariants as faults
use Rattle.pgs_history.specs.declared.interval_answer.IntervalAnswer.TheVariants as intervals
use Rattle.pgs_history.specs.declared.current.Current.{Current}
use Rattle.pgs_history.specs.declared.close_answer.CloseAnswer.TheVariants as ends
use Rattle.pgs_history.proofs.Steps.{began_is, opened_is, denied_is, closed_is}
use Rattle.pgs_history.proofs.Causes.{present_further, present_ready, caused, denied_closed}

-- the open chunk is of the scrub that reserves or runs, and begins where that scrub's closed chunks end
pub record IsNow (past : List Event) (chunk : Chunk) : Type 0 where
  pub runs : present past ≡ Some chunk.serial
  pub begins : chunk.range.from ≡ start past
  pub rises : is_upto chunk.range.from chunk.range.to ≡ true

-- where one scrub is
pub record IsScrub (past : List Event) (serial : ℕ) : Type 0 where
  pub end : Bound
  pub row : AreInRow Min (closed_ranges past serial) end
  pub whole : completed past serial ≡ true → end ≡ Max
  pub now : present past ≡ Some serial → (end ≡ start past) × (completed past serial ≡ false)
  pub fresh : begun past < serial → (closed_ranges past serial ≡ []) × (completed past serial ≡ false)

pub record IsWalk (past : List Event) : Type 0 where
  pub chunk : (c : Chunk) → open_chunk past ≡ Some c → IsNow past c
  pub known : (serial : ℕ) → present past ≡ Some serial → serial ≤ begun past
  pub below : (serial : ℕ) → present past ≡ Some serial → is_upto Max (start past) ≡ false
  pub each : (serial : ℕ) → IsScrub past serial

-- ---- events that leave the scrubs as they are

pub record AreAlike (past new : List Event) : Type 0 where
  pub begins : begun new ≡ begun past
  pub runs : present new ≡ present past
  pub opens : open_chunk new ≡ open_chunk past
  pub starts : start new ≡ start past
  pub ranges : (serial : ℕ) → closed_ranges new serial ≡ closed_ranges past serial
  pub completes : (serial : ℕ) → completed new serial ≡ completed past serial

stays : (past new : List Event) → AreAlike past new → IsWalk past → IsWalk new
stays past new a h = record {
  chunk = λ c is. let n = h.chunk c (sym a.opens ∙ is) in record { runs = a.runs ∙ n.runs; begins = n.begins ∙ sym a.starts; rises = n.rises };
  known = λ serial is. subst (λ k. serial ≤ k) (sym a.begins) (h.known serial (sym a.runs ∙ is));
  below = λ serial is. ap (is_upto Max) a.starts ∙ h.below serial (sym a.runs ∙ is);
  each = λ serial. let s = h.each serial in record {
    end = s.end;
    row = subst (λ ranges. AreInRow Min ranges s.end) (sym (a.ranges serial)) s.row;
    whole = λ e. s.whole (sym (a.completes serial) ∙ e);
    now = λ e. let n = s.now (sym a.runs ∙ e) in (n.0 ∙ sym a.starts, a.completes serial ∙ n.1);
    fresh = λ e. let f = s.fresh (subst (λ k. k < serial) a.begins e) in (a.ranges serial ∙ f.0, a.completes serial ∙ f.1);
  };
}

alike : (past : List Event) (event : Event) → begun (event ∷ past) ≡ begun past → present (event ∷ past) ≡ present past → open_chunk (event ∷ past) ≡ open_chunk past
    → start (event ∷ past) ≡ start past → ((serial : ℕ) → closed_ranges (event ∷ past) serial ≡ closed_ranges past serial)
    → ((serial : ℕ) → completed (event ∷ past) serial ≡ completed past serial) → IsWalk past → IsWalk (event ∷ past)
alike past event b r o s ranges c h = stays past (event ∷ past) (record { begins = b; runs = r; opens = o; starts = s; ranges = ranges; completes = c }) h

-- the open chunk gives way to a write
gives_way : (past : List Event) (write : Write) (version : Version) (number : ℕ) → IsWalk past → IsWalk (Submit write (Accepted version (Some number)) ∷ past)
gives_way past write version number h = record {
  chunk = λ c is. absurd (none_some c is);
  known = h.known;
  below = h.below;
  each = λ serial. let s = h.each serial in record { end = s.end; row = s.row; whole = s.whole; now = s.now; fresh = s.fresh };
}

-- a scrub ends, and with it the chunk that is open, if one is
stops : (past : List Event) (event : Event) → begun (event ∷ past) ≡ begun past → present (event ∷ past) ≡ None → ((c : Chunk) → open_chunk (event ∷ past) ≡ Some c → ⊥)
    → ((serial : ℕ) → closed_ranges (event ∷ past) serial ≡ closed_ranges past serial)
    → ((serial : ℕ) → completed (event ∷ past) serial ≡ completed past serial) → IsWalk past → IsWalk (event ∷ past)
stops past event b none closed ranges done h = record {
  chunk = λ c is. absurd (closed c is);
  known = λ serial is. absurd (none_some serial (sym none ∙ is));
  below = λ serial is. absurd (none_some serial (sym none ∙ is));
  each = λ serial. let s = h.each serial in record {
    end = s.end;
    row = subst (λ rs. AreInRow Min rs s.end) (sym (ranges serial)) s.row;
    whole = λ e. s.whole (sym (done serial) ∙ e);
    now = λ e. absurd (none_some serial (sym none ∙ e));
    fresh = λ e. let f = s.fresh (subst (λ k. k < serial) b e) in (ranges serial ∙ f.0, done serial ∙ f.1);
  };
}

-- ---- a scrub more

begins : (past : List Event) (kind : _) (serial first : ℕ) → present past ≡ None → serial ≡ begun past + 1 → IsWalk past → IsWalk (Begin kind (Began serial first) ∷ past)
begins past kind serial first none next h = record {
  chunk = λ c is. absurd (none_some c.serial (sym none ∙ (h.chunk c is).runs));
  known = λ other is. let same : other ≡ serial = some_same other serial (sym is) in omega (arith, same, next);
  below = λ other is. refl;
  each = λ other. let s = h.each other in record {
    end = s.end;
    row = s.row;
    whole = s.whole;
    now = λ is.
        let same : other ≡ serial = some_same other serial (sym is) in
        let new : begun past < other = omega (arith, same, next) in
        let f = s.fresh new in
        (subst (λ ranges. AreInRow Min ranges s.end) f.0 s.row, f.1);
    fresh = λ e. s.fresh (omega (arith, e));
  };
}

-- ---- a chunk more

not_upto : (a b : Bound) → is_upto a b ≡ false → is_upto b a ≡ true
not_upto a b e = turned (bound_cmp a b) (bound_cmp b a) (bound_total.antisymm b a) e
  where
    turned : (o p : Ordering) → p ≡ ordering_reverse o → is_le o ≡ false → is_le p ≡ true
    turned Less p r e = absurd (true_false e)
    turned Equal p r e = absurd (true_false e)
    turned Greater p r e = ap is_le r

opens : (made : Made) (past : List Event) (serial : ℕ) (listed : List ObjectId) (chunk : Chunk) → present past ≡ Some serial → Ascends listed
    → chunk ≡ next_chunk made past serial listed → IsWalk past → IsWalk (Open serial listed (Opened chunk) ∷ past)
opens made past serial listed chunk runs ascends next h = record {
  chunk = λ c is. subst (IsNow (Open serial listed (Opened chunk) ∷ past)) (sym (some_same c chunk (sym is))) (record {
    runs = runs ∙ ap (λ k. Some k.serial) (sym next);
    begins = ap (λ k. k.range.from) next;
    rises = rw next (not_upto _ (start past) (chunk_rises (limit_now made past) listed (start past) ascends (h.below serial runs)));
  });
  known = h.known;
  below = h.below;
  each = λ other. let s = h.each other in record { end = s.end; row = s.row; whole = s.whole; now = s.now; fresh = s.fresh };
}

-- ---- a chunk is closed

greatest_is : (b : Bound) → is_greatest b ≡ true → b ≡ Max
greatest_is Min e = absurd (true_false (sym e))
greatest_is (At f) e = absurd (true_false (sym e))
greatest_is Max e = refl

not_greatest : (b : Bound) → is_greatest b ≡ false → is_upto Max b ≡ false
not_greatest Min e = refl
not_greatest (At f) e = refl
not_greatest Max e = absurd (true_false e)

runs_on : (completes : Bool) (before : Option Current) (serial : ℕ) → serial_of (cond completes None before) ≡ Some serial → (completes ≡ false) × (serial_of before ≡ Some serial)
runs_on true before serial e = absurd (none_some serial e)
runs_on false before serial e = (refl, e)

or_false : (a b : Bool) → a ≡ false → (a || b) ≡ b
or_false true b e = absurd (true_false e)
or_false false b e = refl

module _ (past : List Event) (number : ℕ) (report : Report) (completes : Bool) (h : IsWalk past) where
  abbrev new : List Event
  new = Close number (ends.Closed report completes) ∷ past

  module _ (chunk : Chunk) (is : open_chunk past ≡ Some chunk) (last : completes ≡ is_greatest chunk.range.to) where
    now_is : IsNow past chunk
    now_is = h.chunk chunk is

    -- of the chunk's own scrub
    own : (serial : ℕ) → chunk.serial ≡ serial → (chunk.serial == serial) ≡ true → IsScrub new serial
    own serial same test =
        let s = h.each serial in
        let runs : present past ≡ Some serial = now_is.runs ∙ ap (λ n. Some n) same in
        let before = s.now runs in
        let ranges : closed_ranges new serial ≡ chunk.range ∷ closed_ranges past serial =
        ap (λ c. with_range c serial (closed_ranges past serial)) is ∙ ap (λ b. cond b (chunk.range ∷ closed_ranges past serial) (closed_ranges past serial)) test in
        let done : completed new serial ≡ (completes && true) =
        or_false (completed past serial) (completes && is_of (open_chunk past) serial) before.1
        ∙ ap (λ c. completes && is_of c serial) is ∙ ap (λ b. completes && b) test in
        record {
          end = chunk.range.to;
          row = subst (λ rs. AreInRow Min rs chunk.range.to) (sym ranges) (refl, now_is.rises, subst (AreInRow Min (closed_ranges past serial)) (before.0 ∙ sym now_is.begins) s.row);
          whole = λ e. greatest_is chunk.range.to (sym last ∙ (both completes true (sym done ∙ e)).0);
          now = λ e. let r = runs_on completes (current past) serial e in (ap (λ c. end_of c (start past)) (sym is), done ∙ ap (λ b. b && true) r.0);
          fresh = λ e. absurd (let k : serial ≤ begun past = h.known serial runs in omega (arith, k, e));
        }

    -- of another
    another : (serial : ℕ) → (chunk.serial == serial) ≡ false → IsScrub new serial
    another serial test =
        let s = h.each serial in
        let ranges : closed_ranges new serial ≡ closed_ranges past serial =
        ap (λ c. with_range c serial (closed_ranges past serial)) is ∙ ap (λ b. cond b (chunk.range ∷ closed_ranges past serial) (closed_ranges past serial)) test in
        let done : completed new serial ≡ completed past serial =
        ap (λ c. completed past serial || (completes && is_of c serial)) is ∙ ap (λ b. completed past serial || (completes && b)) test ∙ nothing (completed past serial) completes in
        record {
          end = s.end;
          row = subst (λ rs. AreInRow Min rs s.end) (sym ranges) s.row;
          whole = λ e. s.whole (sym done ∙ e);
          now = λ e.
              let r = runs_on completes (current past) serial e in
              let same : chunk.serial ≡ serial = some_same chunk.serial serial (sym now_is.runs ∙ r.1) in
              absurd (true_false (sym (same_test chunk.serial serial same) ∙ test));
          fresh = λ e. let f = s.fresh e in (ranges ∙ f.0, done ∙ f.1);
        }
      where
        nothing : (a b : Bool) → (a || (b && false)) ≡ a
        nothing true b = refl
        nothing false true = refl
        nothing false false = refl

        same_test : (a b : ℕ) → a ≡ b → (a == b) ≡ true
        same_test a b e = grind (arith, nat_tests, e)

    closes : IsWalk new
    closes = record {
      chunk = λ c e. absurd (none_some c e);
      known = λ serial e. h.known serial (runs_on completes (current past) serial e).1;
      below = λ serial e.
          let r = runs_on completes (current past) serial e in
          ap (λ c. is_upto Max (end_of c (start past))) is ∙ not_greatest chunk.range.to (sym last ∙ r.0);
      each = λ serial.
          let P : Bool → Type 0 = λ v. (chunk.serial == serial) ≡ v → IsScrub new serial in
          (elim (chunk.serial == serial) as P [
            | true ↦ λ test. own serial (grind (arith, nat_tests, test)) test
            | false ↦ λ test. another serial test
          ]) refl;
    }

  -- the chunk that is closed is there
  closed_some : (c : Option Chunk) → c ≡ open_chunk past → has_number c number ≡ true → completes ≡ is_last c → IsWalk new
  closed_some None e there last = absurd (true_false (sym there))
  closed_some (Some chunk) e there last = closes chunk (sym e) last

pub walked : (made : Made) (past : List Event) → IsLegal made past → IsWalk past
walked made [] legal = record {
  chunk = λ c e. absurd (none_some c e);
  known = λ serial e. absurd (none_some serial e);
  below = λ serial e. absurd (none_some serial e);
  each = λ serial. record { end = Min; row = refl; whole = λ e. absurd (true_false (sym e)); now = λ e. absurd (none_some serial e); fresh = λ e. (refl, refl) };
}
walked made (Submit write (Declined why) ∷ past) legal = alike past (Submit write (Declined why)) refl refl refl refl (λ s. refl) (λ s. refl) (walked made past legal.2)
walked made (Submit write (Parked range) ∷ past) legal = alike past (Submit write (Parked range)) refl refl refl refl (λ s. refl) (λ s. refl) (walked made past legal.2)
walked made (Submit write (QueueFull count) ∷ past) legal = alike past (Submit write (QueueFull count)) refl refl refl refl (λ s. refl) (λ s. refl) (walked made past legal.2)
walked made (Submit write (Accepted version None) ∷ past) legal = alike past (Submit write (Accepted version None)) refl refl refl refl (λ s. refl) (λ s. refl) (walked made past legal.2)
walked made (Submit write (Accepted version (Some number)) ∷ past) legal = gives_way past write version number (walked made past legal.2)
walked made (Admit write answer ∷ past) legal = alike past (Admit write answer) refl refl refl refl (λ s. refl) (λ s. refl) (walked made past legal.2)
walked made (Collect id version ∷ past) legal = alike past (Collect id version) refl refl refl refl (λ s. refl) (λ s. refl) (walked made past legal.2)
walked made (Pull osd from to asked ∷ past) legal = alike past (Pull osd from to asked) refl refl refl refl (λ s. refl) (λ s. refl) (walked made past legal.2)
walked made (Tell osd applied ∷ past) legal = alike past (Tell osd applied) refl refl refl refl (λ s. refl) (λ s. refl) (walked made past legal.2)
walked made (Take place map answer ∷ past) legal = alike past (Take place map answer) refl refl refl refl (λ s. refl) (λ s. refl) (walked made past legal.2)
walked made (Begin kind (Busy serial) ∷ past) legal = alike past (Begin kind (Busy serial)) refl refl refl refl (λ s. refl) (λ s. refl) (walked made past legal.2)
walked made (Begin kind (Began serial first) ∷ past) legal =
    let is = began_is made past serial first legal.1 in
    begins past kind serial first is.0 is.1 (walked made past legal.2)
walked made (Reserve serial osd denied (reserves.Over why) ∷ past) legal = alike past (Reserve serial osd denied (reserves.Over why)) refl refl refl refl (λ s. refl) (λ s. refl) (walked made past legal.2)
walked made (Reserve serial osd denied (reserves.NotNext next) ∷ past) legal = alike past (Reserve serial osd denied (reserves.NotNext next)) refl refl refl refl (λ s. refl) (λ s. refl) (walked made past legal.2)
walked made (Reserve serial osd denied (reserves.DeniedNow other) ∷ past) legal =
    let is = denied_is made past serial osd other denied legal.1.2 in
    stops past (Reserve serial osd denied (reserves.DeniedNow other)) refl refl (denied_closed made past is.place legal.2 is.claiming) (λ s. refl) (λ s. refl)
    (walked made past legal.2)
walked made (Reserve serial osd denied (reserves.Reserving next) ∷ past) legal = alike past (Reserve serial osd denied (reserves.Reserving next)) refl (present_further (current past)) refl refl (λ s. refl) (λ s. refl) (walked made past legal.2)
walked made (Reserve serial osd denied reserves.Reserved ∷ past) legal = alike past (Reserve serial osd denied reserves.Reserved) refl (present_ready (current past)) refl refl (λ s. refl) (λ s. refl) (walked made past legal.2)
walked made (Open serial listed (Over why) ∷ past) legal = alike past (Open serial listed (Over why)) refl refl refl refl (λ s. refl) (λ s. refl) (walked made past legal.2)
walked made (Open serial listed (StillReserving osd) ∷ past) legal = alike past (Open serial listed (StillReserving osd)) refl refl refl refl (λ s. refl) (λ s. refl) (walked made past legal.2)
walked made (Open serial listed (Already chunk) ∷ past) legal = alike past (Open serial listed (Already chunk)) refl refl refl refl (λ s. refl) (λ s. refl) (walked made past legal.2)
walked made (Open serial listed (Opened chunk) ∷ past) legal =
    let is = opened_is made past serial listed chunk legal.1.2 in
    opens made past serial listed chunk ((caused made past legal.2).going serial legal.1.0 is.going) legal.1.1 is.next (walked made past legal.2)
walked made (Close number ends.NoChunk ∷ past) legal = alike past (Close number ends.NoChunk) refl refl refl refl (λ s. refl) (λ s. refl) (walked made past legal.2)
walked made (Close number ends.ClosedBefore ∷ past) legal = alike past (Close number ends.ClosedBefore) refl refl refl refl (λ s. refl) (λ s. refl) (walked made past legal.2)
walked made (Close number (ends.Preempted request) ∷ past) legal = alike past (Close number (ends.Preempted request)) refl refl refl refl (λ s. refl) (λ s. refl) (walked made past legal.2)
walked made (Close number (ends.IntervalChanged old new) ∷ past) legal = alike past (Close number (ends.IntervalChanged old new)) refl refl refl refl (λ s. refl) (λ s. refl) (walked made past legal.2)
walked made (Close number (ends.DeviceFault osd count) ∷ past) legal = alike past (Close number (ends.DeviceFault osd count)) refl refl refl refl (λ s. refl) (λ s. refl) (walked made past legal.2)
walked made (Close number (ends.NotYet osd) ∷ past) legal = absurd legal.1.1
walked made (Close number (ends.Closed report completes) ∷ past) legal =
    let closed = closed_is made past number report completes legal.1.0 in
    closed_some past number report completes (walked made past legal.2) (open_chunk past) refl closed.was_open closed.last
walked made (Fault serial number osd count (faults.Stale now) ∷ past) legal = alike past (Fault serial number osd count (faults.Stale now)) refl refl refl refl (λ s. refl) (λ s. refl) (walked made past legal.2)
walked made (Fault serial number osd count faults.Ended ∷ past) legal = stops past (Fault serial number osd count faults.Ended) refl refl (λ c e. none_some c e) (λ s. refl) (λ s. refl) (walked made past legal.2)
walked made (Interval osds (intervals.LastEpoch old) ∷ past) legal = alike past (Interval osds (intervals.LastEpoch old)) refl refl refl refl (λ s. refl) (λ s. refl) (walked made past legal.2)
walked made (Interval osds (intervals.NotCaughtUp osd count total) ∷ past) legal = alike past (Interval osds (intervals.NotCaughtUp osd count total)) refl refl refl refl (λ s. refl) (λ s. refl) (walked made past legal.2)
walked made (Interval osds (intervals.Changed new gone) ∷ past) legal = stops past (Interval osds (intervals.Changed new gone)) refl refl (λ c e. none_some c e) (λ s. refl) (λ s. refl) (walked made past legal.2)

pub tiled : (made : Made) (past : List Event) → IsLegal made past → AreTiled past
tiled made past legal serial =
    let s = (walked made past legal).each serial in
    record {
      end = s.end;
      row = s.row;
      whole = s.whole;
      once = λ e f. held_once Min (closed_ranges past serial) Max f (subst (AreInRow Min (closed_ranges past serial)) (s.whole e) s.row);
    }
