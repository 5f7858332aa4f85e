use Rattle.std.proofs.Common.{◌≡◌, ◌∙◌, ◌+◌, ◌++◌, ℕ, List, [], ◌∷◌, Option, map, refl, sym, ap, ap₂, subst, arith}
use Rattle.std.specs.List.{range_with_len}
use Rattle.std.proofs.lemmas.Bool.{and_from}
use Rattle.std.proofs.lemmas.List.Folds.{list_all-append}
use Rattle.std.proofs.lemmas.List.FromFn.{map-range_with_len_more}
use Rattle.core_parts.specs.Inside.{value_of}
use Rattle.core_course.specs.Result.{register_shown}
use Rattle.lf_model.specs.Promise.Regular.{value_fits}
use Rattle.leon_core.proofs.finish.put_registers.Goals as goal

pub loop-n-preserved : goal.loop-n-preserved
loop-n-preserved c = record {
  used = c.push_reserved.ensures.len ∙ ap (λ n. n + 1) c.loop-n.invariant.used;
  room = c.push_reserved.ensures.capacity ∙ c.loop-n.invariant.room;
  shown = λ quiet named phase.
      c.push_reserved.ensures.items
      ∙ (ap₂ (λ (front : List (Option ℕ)) (last : Option ℕ). front ++ last ∷ []) (c.loop-n.invariant.shown quiet named phase) (c.register.ensures.shown quiet named phase)
      ∙ sym (map-range_with_len_more (register_shown (value_of c.args.arch.now c.args.parts.now quiet named phase)) 0 c.loop-n.n c.loop-n.n (omega arith)));
  fit = rw c.push_reserved.ensures.items (list_all-append value_fits c.loop-n.regs.items (c.register.result ∷ []) ∙ and_from _ _ c.loop-n.invariant.fit (and_from _ _ c.register.ensures.fits refl));
}

pub returns-clause-shown : goal.returns-clause-shown
returns-clause-shown c = λ quiet named phase.
    let all : c.loop-n.n ≡ 32 = omega (arith, c.loop-n.auto.n-end, c.loop-n-test.false) in
    subst (λ (n : ℕ). c.loop-n.regs.items ≡ map (register_shown (value_of c.args.arch.now c.args.parts.now quiet named phase)) (range_with_len 0 n)) all
    (c.loop-n.invariant.shown quiet named phase)
