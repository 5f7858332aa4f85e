-- A stop at a transfer and a stop by a register cell exclude each other, and earlier transfers are no stops.
use Rattle.std.proofs.Common.{◌≡◌, ◌∙◌, ◌<◌, ◌==◌, ◌++◌, ℕ, true, false, List, [], ◌∷◌, refl, ap, sym, arith, inl, inr}
use Rattle.std.proofs.lemmas.Bool.{cases_Bool, eqb-true, eq-eqb, ne_eqb, and_left, and_right}
use Rattle.std.proofs.lemmas.List.Elements.{filter-append}
use Rattle.std.specs.List.{AllByRecursion as Each}
use Rattle.core_laws.proofs.ListLemmas.{each_passes, each_filter}
use Rattle.core_laws.specs.Running.{IsNoStop}
use Rattle.lf_model.proofs.EachLemmas.{each_both, each_weaker}
use Rattle.lf_model.specs.Course.Core.{is_register_stop, is_stop_at}
use Rattle.lf_model.specs.Ledger.Steps.{own_transfers}
use Rattle.lf_model.specs.declared.bus.Transfer.{Transfer}
use Rattle.lf_model.specs.declared.trace.CoreEnd.{CoreEnd}
use Rattle.lf_model.specs.declared.trace.CoreEnd.TheVariants.{Halt, Stop, Limit}

-- a stop by a register cell is at no transfer
pub register_at_no_turn : (end : CoreEnd) (turn : ℕ) → is_register_stop end ≡ true → is_stop_at turn end ≡ false
register_at_no_turn (Stop tt_ place syn) turn e = and_right (place == turn) _ (rw (eqb-true tt_ 0x20 e) refl)
register_at_no_turn (Halt tt_) turn e = refl
register_at_no_turn Limit turn e = refl

-- a stop at a transfer is by no register cell
pub turn_by_no_register : (end : CoreEnd) (turn : ℕ) → is_stop_at turn end ≡ true → is_register_stop end ≡ false
turn_by_no_register end turn e = elim (cases_Bool (is_register_stop end)) [
  | inl is_so ↦ let no_turn = register_at_no_turn end turn is_so in absurd (cc)
  | inr not_so ↦ not_so
]

-- ---- earlier transfers

pub before_place : (tt_ place syn turn : ℕ) → turn < place → is_stop_at turn (Stop tt_ place syn) ≡ false
before_place tt_ place syn turn below = and_left (place == turn) _ (ne_eqb place turn (λ same. absurd (omega (arith, same))))

-- before the transfer of a stop there is no stop
pub no_stop_before : (core tt_ place syn : ℕ) (ts : List Transfer) → Each (λ (t : Transfer). t.turn < place) ts → Each (IsNoStop core (Stop tt_ place syn)) ts
no_stop_before core tt_ place syn ts below =
    each_weaker (λ (t : Transfer). t.turn < place) (IsNoStop core (Stop tt_ place syn)) ts (λ t less own. before_place tt_ place syn t.turn less) below

-- a core that a register cell stops meets none
pub no_stop_at_register : (core : ℕ) (end : CoreEnd) (ts : List Transfer) → is_register_stop end ≡ true → Each (IsNoStop core end) ts
no_stop_at_register core end [] e = tt
no_stop_at_register core end (t ∷ ts) e = ((λ own. register_at_no_turn end t.turn e), no_stop_at_register core end ts e)

-- ---- the core's own transfers

pub own_no_stop : (core : ℕ) (end : CoreEnd) (ts : List Transfer) → Each (IsNoStop core end) ts → Each (λ (t : Transfer). is_stop_at t.turn end ≡ false) (own_transfers core ts)
own_no_stop core end ts goes_on =
    each_both (λ (t : Transfer). (t.master == core) ≡ true) (IsNoStop core end) (λ (t : Transfer). is_stop_at t.turn end ≡ false) (own_transfers core ts)
    (λ t own f. f (eq-eqb core t.master (sym (eqb-true t.master core own))))
    (each_passes (λ (t : Transfer). t.master == core) ts) (each_filter (IsNoStop core end) (λ (t : Transfer). t.master == core) ts goes_on)

pub own_more : (core : ℕ) (ts : List Transfer) (t : Transfer) → (core == t.master) ≡ true → own_transfers core (ts ++ t ∷ []) ≡ own_transfers core ts ++ t ∷ []
own_more core ts t own =
    filter-append (λ (u : Transfer). u.master == core) ts (t ∷ [])
    ∙ ap (λ us. own_transfers core ts ++ us) (rw (eq-eqb t.master core (sym (eqb-true core t.master own))) refl)
