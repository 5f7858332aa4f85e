use Rattle.std.proofs.Common.{◌≡◌, suc, length, None, sym, ap, ◌∙◌, arith}
use Rattle.replay_words.specs.Places.{place_in}
use Rattle.replay_words.proofs.TableLemmas.{table_push, is_none}
use Rattle.replay_words.proofs.places.add.Goals as goal

pub returns-clause-table : goal.returns-clause-table
returns-clause-table c =
    let table = c.args.table.now.items in
    let addrs = c.args.addrs.now.items in
    let none : place_in addrs c.args.addr ≡ None = ap (place_in addrs) (sym c.from.ensures) ∙ sym (c.place_at.ensures addrs (rw c.as_slice.ensures.value c.requires.table)) ∙ is_none _ (sym c.is_some.ensures ∙ c.if-is_some.false) in
    let long : c.len.result ≡ suc (length addrs) = omega (arith, c.len.ensures, c.push_reserved.ensures.len) in
    rw (c.push_reserved.ensures.items, long) (table_push table addrs c.args.addr c.requires.table c.requires.word none)
