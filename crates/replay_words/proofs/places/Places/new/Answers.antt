use Rattle.std.proofs.Common.{ℕ, List, sym, ap, ◌∙◌, arith}
use Rattle.lf_model.specs.declared.flip.Flip.TheVariants.{Mem}
use Rattle.replay_words.specs.Places.{with_address}
use Rattle.replay_words.proofs.TableLemmas.{more_mem, more_other, all_aligned}
use Rattle.replay_words.proofs.places.Places.new.Goals.{in-Mem, in_default}
use Rattle.replay_words.proofs.places.Places.new.Goals as goal

pub loop-i-preserved : goal.loop-i-preserved
loop-i-preserved c = elim c.match-flips-i.branch [
  | in-Mem w ↦
      rw (w.table-is, w.addrs-is) (
        w.add.ensures.table,
        w.add.ensures.long ∙ c.loop-i.invariant.1,
        w.add.ensures.added ∙ ap (λ (addrs : List ℕ). with_address addrs w.in-Mem.addr) c.loop-i.invariant.2 ∙ sym (more_mem c.args.flips.now c.loop-i.i (Mem 0 0 0) c.loop-i-test.true w.in-Mem.is),
        omega (arith, w.add.ensures.most, c.loop-i.invariant.3),
        omega (arith, w.add.ensures.reserved, c.loop-i.invariant.4),
      )
  | in_default w ↦
      rw (w.table-is, w.addrs-is) (
        c.loop-i.invariant.0,
        c.loop-i.invariant.1,
        c.loop-i.invariant.2 ∙ sym (more_other c.args.flips.now c.loop-i.i (Mem 0 0 0) c.loop-i-test.true (λ turn addr bit is. w.in_default.not-Mem _ _ _ is)),
        omega (arith, c.loop-i.invariant.3),
        c.loop-i.invariant.4,
      )
]

pub returns-clause-aligned : goal.returns-clause-aligned
returns-clause-aligned c = all_aligned _ _ c.loop-i.invariant.0.words
