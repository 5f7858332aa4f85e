use Rattle.std.proofs.Common.{◌≡◌, ◌++◌, ◌∷◌, map}
use Rattle.std.specs.Prelude.{All}
use Rattle.std.specs.List.{range_with_len}
use Rattle.work_gen.specs.Program.{set_data, set_number}
use Rattle.work_gen.specs.Encoding.{bytes_of, IsEncoded}
use Rattle.work_gen.proofs.code.push_start_up.Given as goal

abbrev pub invariant-loop-n : goal.invariant-loop-n
invariant-loop-n l = record {
  bytes : l.code.items ≡ l.fn.code.items ++ bytes_of (set_data l.address ∷ map set_number (range_with_len 0 l.n));
  encoded : All IsEncoded (set_data l.address ∷ map set_number (range_with_len 0 l.n));
}
