use Rattle.std.proofs.Common.{◌≡◌, ◌/◌, ◌≤◌, [], length, map, take}
use Rattle.std.specs.Prelude.{fold, vec_len, vec_capacity}
use Rattle.lf_model.specs.Bus.Words.{with_struck}
use Rattle.replay_words.specs.Places.{addr_of}
use Rattle.replay_words.specs.Table.{IsTable}
use Rattle.replay_words.proofs.places.Places.new.Given as goal

abbrev pub invariant-loop-i : goal.invariant-loop-i
invariant-loop-i l =
    IsTable l.table.items l.addrs.items × (length l.table.items ≡ l.ram / 4) × (l.addrs.items ≡ map addr_of (fold with_struck [] (take l.i l.flips)))
    × (vec_len l.addrs ≤ l.i) × (length l.flips ≤ vec_capacity l.addrs)
