use Rattle.std.proofs.Common.{◌∙◌, ℕ, ◌-◌, ◌*◌, ◌/◌, ◌%◌, ◌^◌, ap, sym, arith}
use Rattle.std.proofs.lemmas.List.FromFn.{get_or-map-range_with_len}
use Rattle.ledger_audit.proofs.syndromes.syndrome_of.Goals as goal

pub returns : goal.returns
returns c =
    let syn = c.args.transfer.now.syn in
    sym (get_or-map-range_with_len (λ (j : ℕ). syn / 2 ^ (56 - 8 * j) % 256) 0 c.args.transfer.now.words c.args.place c.args.place 0 c.requires.within (omega arith)
    ∙ ap (λ (n : ℕ). syn / 2 ^ n % 256) (sym (c.saturating_sub.ensures ∙ ap (λ (n : ℕ). 56 - 8 * n) c.from.ensures)))
