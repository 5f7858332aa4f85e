use Rattle.std.proofs.Common.{◌≡◌, ◌-◌, ℕ, get_or, refl, arith}
use Rattle.lf_model.specs.Operation.{made, byte_got}
use Rattle.lf_model.specs.Start.{ram_first}
use Rattle.tso_audit.specs.LastPlaces.{byte_before, start_in}
use Rattle.tso_audit.proofs.LaterPlaces.{from_offsets}
use Rattle.tso_audit.proofs.reading.reads_the_last.Goals as goal

pub returns : goal.returns
returns c = (
  (λ right. from_offsets (λ (a : ℕ). byte_got a (made c.args.op.now) ≡ byte_before c.args.order.now a (start_in c.args.at_start.now a) (get_or c.args.places.now (a - ram_first) 0)) c.args.op.now
      (λ i low. c.loop-i.invariant i (omega (arith, low)))),
  (λ h. refl),
)
