use Rattle.std.proofs.Common.{◌≡◌, map, take}
use Rattle.lf_model.specs.Once.{address_of}
use Rattle.tso_audit.proofs.parts.has_addresses.Given as goal

abbrev pub invariant-loop-i : goal.invariant-loop-i
invariant-loop-i l = map address_of (take l.i l.words) ≡ take l.i l.addresses
