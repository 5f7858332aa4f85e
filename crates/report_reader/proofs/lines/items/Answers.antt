use Rattle.std.proofs.Common.{◌-◌, ◌∙◌, [], ◌∷◌, length-append, ℕ, List, Vec, Global, Bor, sym, arith}
use Rattle.std.proofs.lemmas.Result.{err_from_is_err_and}
use Rattle.report_reader.proofs.ReadItems.{item_read, items_refused, pushed}
use Rattle.report_reader.proofs.lines.items.Goals as goal

pub returns-in_err-item : goal.returns-in_err-item
returns-in_err-item g c =
    let p = err_from_is_err_and c.from_residual.result c.from_residual.ensures.1 in
    rw (p.1, p.2) (record { items = items_refused {A = g.row.L.Denot × Bor (List ℕ)} {B = Vec g.row.L.Denot Global × Bor (List ℕ)} (λ x. (x.0, x.1.now)) (λ x. (x.0.items, x.1.now)) (g.L.Item.at c.args.count) c.loop-i.items.items c.loop-i.i (c.args.count - c.loop-i.i) c.loop-i.rest.now _ _ (omega arith) c.in_err-item.ensures.item c.loop-i.invariant.items; length = tt })

pub loop-i-preserved : goal.loop-i-preserved
loop-i-preserved g c =
    let put = pushed _ _ _ c.push.result c.push.ensures.items (sym c.if-is_err.ensures.value) in
    record {
      items = item_read (g.L.Item.at c.args.count) c.loop-i.items.items _ c.loop-i.i (c.args.count - c.loop-i.i) _ c.in_ok-item.item c.loop-i.rest.now c.in_ok-item.after.now (omega arith)
          c.in_ok-item.ensures.item put ∙ c.loop-i.invariant.items;
      length = rw put (length-append c.loop-i.items.items (c.in_ok-item.item ∷ []) ∙ omega (arith, c.loop-i.invariant.length));
    }
