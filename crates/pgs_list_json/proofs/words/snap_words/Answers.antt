use Rattle.pgs_find.specs.SnapNames.{snap_names, has_snap, snap_word}
use Rattle.pgs_list_json.proofs.Turns.{word_next, word_end}
use Rattle.pgs_list_json.proofs.words.snap_words.Goals as goal

pub loop-row-preserved : goal.loop-row-preserved
loop-row-preserved c =
    word_next (λ row. row.name) (has_snap c.args.errors) snap_word c.snap_rows-rows.result snap_names c.loop-row.row-index _ c.loop-row.list.items c.push_where.new.list.items _ c.has.result c.word.result.now
    c.snap_rows-rows.ensures.names c.loop-row-test.true c.has.ensures.told c.word.ensures c.in_ok-push_where.ensures c.loop-row.invariant

pub returns : goal.returns
returns c = word_end (λ row. row.name) (has_snap c.args.errors) snap_word c.snap_rows-rows.result snap_names c.loop-row.row-index c.loop-row.list _ c.snap_rows-rows.ensures.names c.loop-row-test.false c.loop-row.invariant
