use Rattle.std.proofs.Common.{length, sym, arith}
use Rattle.replay_words.specs.Table.{IsWord}
use Rattle.replay_words.proofs.PlaceLemmas.{absent}
use Rattle.replay_words.proofs.places.place_at.Goals as goal

pub returns-then-addr-first : goal.returns-then-addr-first
returns-then-addr-first c = λ addrs is.
    sym (absent (IsWord (length c.args.table.now)) addrs c.args.addr is.words (λ w. omega (arith, w.above, c.if-addr-first.true, c.from-first.ensures)))

pub returns-then-addr-ne0 : goal.returns-then-addr-ne0
returns-then-addr-ne0 c = λ addrs is.
    sym (absent (IsWord (length c.args.table.now)) addrs c.args.addr is.words (λ w. omega (arith, w.aligned, c.if-addr-ne0.true)))

pub returns-then-word-table : goal.returns-then-word-table
returns-then-word-table c = λ addrs is.
    sym (absent (IsWord (length c.args.table.now)) addrs c.args.addr is.words (λ w. omega (arith, w.above, w.below, c.if-word-table.true, c.from-first.ensures)))
