use Rattle.std.proofs.Common.{◌≡◌, ap, sym, subst, ◌∙◌}
use Rattle.pgs_incons.specs.Found.{Ascends, finding_id, snap_id, replaced}
use Rattle.pgs_incons.specs.Kept.{Kept}
use Rattle.pgs_incons.proofs.Ranges.{can_move, moved_is, so_replaced, replaced_ascends}
use Rattle.pgs_incons.proofs.findings.Findings.replace.Goals as goal

pub move_into-requires : goal.move_into-requires
move_into-requires c = record {
  ordered =
      can_move finding_id c.args.range.now c.as_slice.result.now c.self.inside.found.items c.in_ok-found.found.items c.append_both.new.found.items
      c.of_findings-found_cut.result.from c.of_findings-found_cut.result.to c.of_findings-found_cut.result.all c.as_slice.ensures.value
      c.of_findings-found_cut.ensures.from c.of_findings-found_cut.ensures.to c.of_findings-found_cut.ensures.all c.in_ok-append_both.ensures.ok.0;
}

pub move_into-requires-2 : goal.move_into-requires-2
move_into-requires-2 c = record {
  ordered =
      can_move snap_id c.args.range.now c.as_slice-2.result.now c.self.inside.snaps.items c.in_ok-snaps.snaps.items c.append_both.new.snaps.items
      c.of_snaps-snaps_cut.result.from c.of_snaps-snaps_cut.result.to c.of_snaps-snaps_cut.result.all c.as_slice-2.ensures.value c.of_snaps-snaps_cut.ensures.from
      c.of_snaps-snaps_cut.ensures.to c.of_snaps-snaps_cut.ensures.all c.in_ok-append_both.ensures.ok.1;
}

found_moved : (c : goal.After-move_into-2) → c.move_into.new.list.items ≡ replaced finding_id c.args.range.now c.args.found c.self.inside.found.items
found_moved c =
    moved_is finding_id c.args.range.now c.as_slice.result.now c.self.inside.found.items c.in_ok-found.found.items c.args.found c.append_both.new.found.items
    c.move_into.new.list.items c.of_findings-found_cut.result.from c.of_findings-found_cut.result.to c.of_findings-found_cut.result.all c.self.invariant.found_ascend
    c.as_slice.ensures.value c.in_ok-found.ensures c.of_findings-found_cut.ensures.from c.of_findings-found_cut.ensures.to c.of_findings-found_cut.ensures.all
    c.in_ok-append_both.ensures.ok.0 c.move_into.ensures

snaps_moved : (c : goal.After-move_into-2) → c.move_into-2.new.list.items ≡ replaced snap_id c.args.range.now c.args.snaps c.self.inside.snaps.items
snaps_moved c =
    moved_is snap_id c.args.range.now c.as_slice-2.result.now c.self.inside.snaps.items c.in_ok-snaps.snaps.items c.args.snaps c.append_both.new.snaps.items
    c.move_into-2.new.list.items c.of_snaps-snaps_cut.result.from c.of_snaps-snaps_cut.result.to c.of_snaps-snaps_cut.result.all c.self.invariant.snaps_ascend
    c.as_slice-2.ensures.value c.in_ok-snaps.ensures c.of_snaps-snaps_cut.ensures.from c.of_snaps-snaps_cut.ensures.to c.of_snaps-snaps_cut.ensures.all
    c.in_ok-append_both.ensures.ok.1 c.move_into-2.ensures

pub invariant_of-self-2 : goal.invariant_of-self-2
invariant_of-self-2 c = record {
  found_ascend =
      subst (Ascends finding_id) (sym (found_moved c))
      (replaced_ascends finding_id c.args.range.now c.args.found c.self.inside.found.items c.requires.found_ascend c.requires.found_within c.self.invariant.found_ascend);
  snaps_ascend =
      subst (Ascends snap_id) (sym (snaps_moved c))
      (replaced_ascends snap_id c.args.range.now c.args.snaps c.self.inside.snaps.items c.requires.snaps_ascend c.requires.snaps_within c.self.invariant.snaps_ascend);
}

pub returns-clause-ok : goal.returns-clause-ok
returns-clause-ok c =
    let found = found_moved c ∙ ap (λ (k : Kept). replaced finding_id c.args.range.now c.args.found k.found) c.self.view_is in
    let snaps = snaps_moved c ∙ ap (λ (k : Kept). replaced snap_id c.args.range.now c.args.snaps k.snaps) c.self.view_is in
    λ i. record { found = found i; snaps = snaps i }

pub returns-clause-found : goal.returns-clause-found
returns-clause-found c =
    so_replaced finding_id c.args.range.now c.args.found c.self.inside.found.items c.args.self.now.found c.move_into.new.list.items c.requires.found_ascend
    c.requires.found_within c.self.invariant.found_ascend (ap (λ (k : Kept). k.found) c.self.view_is) (found_moved c)

pub returns-clause-snaps : goal.returns-clause-snaps
returns-clause-snaps c =
    so_replaced snap_id c.args.range.now c.args.snaps c.self.inside.snaps.items c.args.self.now.snaps c.move_into-2.new.list.items c.requires.snaps_ascend
    c.requires.snaps_within c.self.invariant.snaps_ascend (ap (λ (k : Kept). k.snaps) c.self.view_is) (snaps_moved c)
