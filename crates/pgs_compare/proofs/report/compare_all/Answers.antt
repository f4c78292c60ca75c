use Rattle.std.proofs.Common.{◌≡◌, ◌∙◌, List, [], map, refl, sym, subst}
use Rattle.pgs_bytes.proofs.Facts.{true_false}
use Rattle.pgs_name.specs.declared.object_id.ObjectId.{ObjectId}
use Rattle.pgs_map.specs.declared.scrub_map.ScrubMap.{ScrubMap}
use Rattle.pgs_snapcheck.specs.Check.{AreAscending}
use Rattle.pgs_snapcheck.specs.declared.view.View.{View}
use Rattle.pgs_compare.specs.Finding.{finding}
use Rattle.pgs_compare.specs.Parts.{maps_seen}
use Rattle.pgs_compare.specs.Report.{positions_of, entries_at, view_of}
use Rattle.pgs_compare.proofs.ReportLaws.{positions_up, views_up, found_next, view_next, none_left, views_all}
use Rattle.pgs_compare.proofs.report.compare_all.Goals as goal

pub loop-id-preserved : goal.loop-id-preserved
loop-id-preserved c =
    let maps : List ScrubMap = maps_seen c.args.maps.now in
    let ids : List ObjectId = positions_of maps in
    record {
      found = found_next (λ id. finding c.args.acting.now c.args.version id (entries_at maps id)) c.in-Some.id c.loop-id.ids.keys c.pop_first.new.self.keys c.loop-id.found c.compare.new.found _ c.in-Some.ensures.removal c.in_ok-view.ensures.found c.loop-id.invariant.found;
      views = view_next (λ id. view_of id (entries_at maps id)) c.in-Some.id c.loop-id.ids.keys c.pop_first.new.self.keys c.loop-id.views.items c.push.new.self.items _ c.in_ok-view.view c.in-Some.ensures.removal c.in_ok-push.ensures.items c.in_ok-view.ensures.view c.loop-id.invariant.views;
    }

pub check-requires : goal.check-requires
check-requires c =
    let maps : List ScrubMap = maps_seen c.args.maps.now in
    let view : ObjectId → View = λ id. view_of id (entries_at maps id) in
    let none : c.loop-id.ids.keys ≡ [] = none_left c.loop-id.ids.keys (λ l. true_false (sym (c.in_default.ensures.variant.1 l))) in
    let all : c.loop-id.views.items ≡ map view (positions_of maps) = views_all view c.loop-id.ids.keys c.loop-id.views.items (map view (positions_of maps)) none c.loop-id.invariant.views in
    subst AreAscending (sym (c.as_slice.ensures.value ∙ all)) (views_up view (λ id. refl) (positions_of maps) (positions_up maps))
