use Rattle.std.proofs.Common.{true, false, sym, ◌∙◌}
use Rattle.lf_model.specs.Caches.Slot.{history_at}
use Rattle.replay_words.proofs.WriteLemmas.{part_write, atomic_write, fix_write}
use Rattle.replay_words.proofs.write.how_written.Goals as goal

pub returns-then-is_bad : goal.returns-then-is_bad
returns-then-is_bad c = part_write c.args.made.now.len (history_at c.args.place c.args.units.now.histories) c.args.made.now.kind true c.in-Store.is c.if-made-ge4.false (sym c.is_bad.ensures ∙ c.if-is_bad.true)

pub returns-else-is_bad : goal.returns-else-is_bad
returns-else-is_bad c = part_write c.args.made.now.len (history_at c.args.place c.args.units.now.histories) c.args.made.now.kind false c.in-Store.is c.if-made-ge4.false (sym c.is_bad.ensures ∙ c.if-is_bad.false)

pub returns-then-is_bad-2 : goal.returns-then-is_bad-2
returns-then-is_bad-2 c = atomic_write c.args.made.now.len (history_at c.args.place c.args.units.now.histories) c.args.made.now.kind true c.in-Atomic.is (sym c.is_bad-in-Atomic.ensures ∙ c.if-is_bad-2.true)

pub returns-else-is_bad-2 : goal.returns-else-is_bad-2
returns-else-is_bad-2 c = atomic_write c.args.made.now.len (history_at c.args.place c.args.units.now.histories) c.args.made.now.kind false c.in-Atomic.is (sym c.is_bad-in-Atomic.ensures ∙ c.if-is_bad-2.false)

pub returns-then-is_fixed : goal.returns-then-is_fixed
returns-then-is_fixed c = fix_write c.args.made.now.len (history_at c.args.place c.args.units.now.histories) c.args.made.now.kind true c.in-Fix.is (sym c.is_fixed.ensures ∙ c.if-is_fixed.true)

pub returns-else-is_fixed : goal.returns-else-is_fixed
returns-else-is_fixed c = fix_write c.args.made.now.len (history_at c.args.place c.args.units.now.histories) c.args.made.now.kind false c.in-Fix.is (sym c.is_fixed.ensures ∙ c.if-is_fixed.false)
