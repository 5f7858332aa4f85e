use Rattle.std.proofs.Common.{◌≡◌, ℕ, true, List, map}
use Rattle.std.specs.Prelude.{vec_len}
use Rattle.std.specs.Vec.{vec_capacity}
use Rattle.std.specs.List.{list_all, range_with_len}
use Rattle.core_parts.specs.Inside.{value_of}
use Rattle.core_parts.specs.declared.phase.Phase.{Phase}
use Rattle.core_course.specs.Result.{register_shown}
use Rattle.lf_model.specs.Promise.Regular.{value_fits}
use Rattle.lf_model.specs.declared.trace.Word2.{Word2}
use Rattle.leon_core.proofs.finish.put_registers.Given as goal

abbrev pub invariant-loop-n : goal.invariant-loop-n
invariant-loop-n l = record {
  used : vec_len l.regs ≡ l.n;
  room : vec_capacity l.regs ≡ 32;
  shown : (quiet : ℕ) (named : List Word2) (phase : Phase) → l.regs.items ≡ map (register_shown (value_of l.arch l.parts quiet named phase)) (range_with_len 0 l.n);
  fit : list_all value_fits l.regs.items ≡ true;
}
