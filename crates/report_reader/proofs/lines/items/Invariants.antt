use Rattle.std.proofs.Common.{◌≡◌, ◌-◌, length}
use Rattle.report_fields.specs.Parts.{items_at}
use Rattle.report_reader.proofs.ReadItems.{front}
use Rattle.report_reader.proofs.lines.items.Given as goal

abbrev pub invariant-loop-i : goal.invariant-loop-i
invariant-loop-i g l = record {
  items : front l.items.items (items_at (g.L.Item.at l.count) l.i (l.count - l.i) l.rest) ≡ items_at (g.L.Item.at l.count) 0 l.count l.bytes;
  length : length l.items.items ≡ l.i;
}
