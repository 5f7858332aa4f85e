-- What turns have in common that a bad word ends: the number of the transfer, the steps that the core has made then, and the answer.
use Rattle.std.proofs.Common.{◌≡◌, ◌+◌, ◌<◌, ◌≤◌, ℕ, Bool, true, false, nat_le, List, [], ◌∷◌, Result, Ok, Err, length, map, take, drop, refl, sym, subst, arith, if◌then◌else◌}
use Rattle.std.proofs.lemmas.Bool.{le-leb, lt-leb}
use Rattle.std.proofs.lemmas.List.{take-append-drop}
use Rattle.std.specs.List.{AllByRecursion as Each, range_with_len}
use Rattle.std.specs.Prelude.{is_ok}
use Rattle.core_turns.proofs.Answers.{did_by}
use Rattle.lf_model.proofs.EachLemmas.{each_first, each_weaker}
use Rattle.lf_model.specs.Promise.Regular.{turn_of}
use Rattle.lf_model.specs.declared.bus.Bad.{Bad}
use Rattle.lf_model.specs.declared.bus.Transfer.{Transfer}
use Rattle.lf_model.specs.declared.step.Did.{Did}
use Rattle.lf_model.specs.declared.step.Turn.{Turn}

-- ---- the numbers of transfers

first_turn : (t : Transfer) (n : ℕ) (ts : List Transfer) (ns : List ℕ) → t.turn ∷ map turn_of ts ≡ n ∷ ns → (t.turn ≡ n) × (map turn_of ts ≡ ns)
first_turn t n ts ns is = (cc, cc)

below : (ts : List Transfer) (first : ℕ) → map turn_of ts ≡ range_with_len first (length ts) → Each (λ (u : Transfer). u.turn < first + length ts) ts
below [] first is = tt
below (t ∷ ts) first is =
    let parts = first_turn t first ts (range_with_len (first + 1) (length ts)) is in
    (omega (arith, parts.0), each_weaker (λ (u : Transfer). u.turn < first + 1 + length ts) (λ (u : Transfer). u.turn < first + length (t ∷ ts)) ts (λ u less. omega (arith, less)) (below ts (first + 1) parts.1))

-- those that a core had seen are of earlier turns
pub earlier : (ts : List Transfer) (n : ℕ) → map turn_of ts ≡ range_with_len 0 (length ts) → Each (λ (u : Transfer). u.turn < length ts) (take n ts)
earlier ts n is = each_first (λ (u : Transfer). u.turn < length ts) (take n ts) (drop n ts)
    (subst (Each (λ (u : Transfer). u.turn < length ts)) (sym (take-append-drop n ts))
    (each_weaker (λ (u : Transfer). u.turn < 0 + length ts) (λ (u : Transfer). u.turn < length ts) ts (λ u less. omega (arith, less)) (below ts 0 is)))

-- ---- its steps

-- a core that ends with this step is past its steps just where it was past those allowed
ended_past : (limit steps : ℕ) (over : Bool) → nat_le limit steps ≡ over → steps ≤ limit → nat_le (if over then steps else steps + 1) steps ≡ over
ended_past limit steps true is allowed = le-leb steps steps (omega arith)
ended_past limit steps false is allowed = lt-leb (steps + 1) steps (omega arith)

pub past_same : (limit steps at : ℕ) → at ≡ steps → steps ≤ limit → nat_le (if nat_le limit steps then steps else steps + 1) at ≡ nat_le limit at
past_same limit steps at same allowed = rw same (ended_past limit steps (nat_le limit steps) refl allowed)

-- ---- what a store or an atomic answers

pub ok_is : {T : Type 0} (turn : Turn) (r : Result T Bad) (did : Did) → did_by turn r ≡ Ok did → is_ok r ≡ true
ok_is turn (Ok got) did is = refl
ok_is turn (Err bad) did is = absurd cc

pub err_is : {T : Type 0} (turn : Turn) (r : Result T Bad) (bad : Bad) → did_by turn r ≡ Err bad → is_ok r ≡ false
err_is turn (Ok got) bad is = absurd cc
err_is turn (Err b) bad is = refl
