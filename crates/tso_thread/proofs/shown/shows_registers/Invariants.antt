use Rattle.std.proofs.Common.{◌≡◌, ◌<◌, ℕ}
use Rattle.std.specs.Prelude.{IfSome, slice_get}
use Rattle.tso_thread.proofs.shown.shows_registers.Given as goal
use Rattle.tso_thread.specs.Shown.{register_in}

abbrev pub invariant-loop-n : goal.invariant-loop-n
invariant-loop-n l = (m : ℕ) → m < l.n → IfSome (slice_get l.shown m) (λ one. IfSome one (λ value. value ≡ register_in l.cells l.window m))
