use Rattle.std.proofs.Common.{◌≡◌, ◌-◌, ◌++◌}
use Rattle.std.specs.Prelude.{All}
use Rattle.work_gen.specs.Program.{body}
use Rattle.work_gen.specs.Encoding.{bytes_of, IsEncoded}
use Rattle.work_gen.proofs.code.push_body.Given as goal

-- what is pushed so far and the rest of the body make the whole
abbrev pub invariant-loop-i : goal.invariant-loop-i
invariant-loop-i l = record {
  bytes : l.code.items ++ bytes_of (body l.draws.state (l.size - l._i)) ≡ l.fn.code.items ++ bytes_of (body l.start l.size);
  encoded : All IsEncoded (body l.draws.state (l.size - l._i)) → All IsEncoded (body l.start l.size);
}
