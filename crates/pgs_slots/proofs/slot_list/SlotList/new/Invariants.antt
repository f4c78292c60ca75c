use Rattle.std.proofs.Common.{◌≡◌, ◌++◌, drop}
use Rattle.pgs_slots.specs.Rows.{free_rows, AreRowsSized}
use Rattle.pgs_slots.proofs.slot_list.SlotList.new.Given as goal

abbrev pub invariant-loop-osd : goal.invariant-loop-osd
invariant-loop-osd l = record {
  sized : AreRowsSized l.rows.items;
  free : l.rows.items ++ free_rows (drop l.osd-index l.osds) ≡ free_rows l.osds;
}
