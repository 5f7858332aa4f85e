-- A number in decimal digits is read again, and what is read as a number was spelled so.
use Rattle.std.proofs.Common.{◌≡◌, ℕ, zero, suc, ◌+◌, ◌-◌, ◌*◌, ◌/◌, ◌%◌, ◌^◌, ◌<◌, ◌≤◌, List, [], ◌∷◌, ◌++◌, length, Bool, true, false, cond, eqb, leb, refl, sym, ap, ◌∙◌, append_assoc, length-append, eqb-true, inl, inr, arith}
use Rattle.std.specs.Prelude.{Option, Some, None}
use Rattle.std.specs.Fmt.{decimal}
use Rattle.std.proofs.lemmas.Fmt.{decimal_digit, decimal_step, decimal_by_steps, length-decimal-le}
use Rattle.std.proofs.lemmas.Bool.{cases_Bool, ne_eqb, eq-eqb, le-leb, leb-true, and_parts, and_from, eqb-false, cases_eq}
use Rattle.std.proofs.lemmas.Option.{cond_some, none-some, some_pair_parts}
use Rattle.lf_model.specs.Texts.{number}
use Rattle.report_fields.specs.Reading.{Read}
use Rattle.report_fields.specs.Digits.{is_digit, digits_more, digits_at, number_at, own_at, any}
use Rattle.report_fields.proofs.Laws.{Reads, Passes, bind_some}

-- ---- a number is read again

a_digit : (b : ℕ) → 48 ≤ b → b ≤ 57 → is_digit b ≡ true
a_digit b low high = and_from _ _ (le-leb 48 b low) (le-leb b 57 high)

ended : (stop k n : ℕ) (rest : List ℕ) → digits_more stop k n (stop ∷ rest) ≡ Some (n, rest)
ended stop zero n rest = rw (eq-eqb stop stop refl) refl
ended stop (suc k) n rest = rw (eq-eqb stop stop refl) refl

one_more : (stop k n b : ℕ) (rest : List ℕ) → (b ≡ stop → ⊥) → 48 ≤ b → b ≤ 57 → digits_more stop (suc k) n (b ∷ rest) ≡ digits_more stop k (10 * n + (b - 48)) rest
one_more stop k n b rest other low high = rw (ne_eqb b stop other, a_digit b low high) refl

digits_begin : (stop n k j : ℕ) (tail : List ℕ) → 0 < n → n < 10 → j + 1 ≡ k + 1 → digits_at stop j ((48 + n) ∷ tail) ≡ digits_more stop k n tail
digits_begin stop n k j tail some small e =
    let same : j ≡ k = omega arith in
    let value : 48 + n - 48 ≡ n = omega arith in
    rw (a_digit (48 + n) (omega arith) (omega arith), ne_eqb (48 + n) 48 (omega arith), value, same) refl

abbrev Opens : ℕ → ℕ → List ℕ → Type 0
Opens stop n ds = 0 < n → (k j : ℕ) (tail : List ℕ) → j + 1 ≡ k + length ds → digits_at stop j (ds ++ tail) ≡ digits_more stop k n tail

opens_more : (stop : ℕ) → stop < 48 → (n : ℕ) (ds : List ℕ) → 10 ≤ n → Opens stop (n / 10) ds → Opens stop n (ds ++ ((48 + n % 10) ∷ []))
opens_more stop below n ds ten h some k j tail e =
    let c : ℕ = 48 + n % 10 in
    let len : j + 1 ≡ suc k + length ds = omega (arith, length-append ds (c ∷ [])) in
    let value : 10 * (n / 10) + (48 + n % 10 - 48) ≡ n = omega arith in
    ap (digits_at stop j) (append_assoc ds (c ∷ []) tail) ∙ h (omega arith) (suc k) j (c ∷ tail) len ∙ one_more stop k (n / 10) c tail (omega arith) (omega arith) (omega arith) ∙ ap (λ v. digits_more stop k v tail) value

opens : (stop n : ℕ) → stop < 48 → n < 2 ^ 64 → Opens stop n (decimal n)
opens stop n below fits = decimal_by_steps (Opens stop) (λ n small some k j tail e. digits_begin stop n k j tail some small e) (opens_more stop below) n fits

digits_again : (stop n : ℕ) (rest : List ℕ) → stop < 48 → n < 10 ^ 10 → digits_at stop 9 ((decimal n ++ stop ∷ []) ++ rest) ≡ Some (n, rest)
digits_again stop n rest below small =
    elim (cases_eq n 0) [
      | inl none ↦ rw (none, decimal_digit 0 (omega arith)) (ended stop 0 0 rest)
      | inr some ↦
          let len : length (decimal n) ≤ 10 = length-decimal-le 10 n (omega arith) small (omega arith) in
          ap (digits_at stop 9) (append_assoc (decimal n) (stop ∷ []) rest) ∙ opens stop n below (omega arith) (omega arith) (10 - length (decimal n)) 9 (stop ∷ rest) (omega arith) ∙ ended stop (10 - length (decimal n)) n rest
    ]

-- ---- what is read was spelled so

stopped : (b stop n m : ℕ) (bs rest : List ℕ) → cond {A = Read ℕ} (eqb b stop) (Some (n, bs)) None ≡ Some (m, rest) → (b ∷ bs ≡ stop ∷ rest) × (n ≡ m)
stopped b stop n m bs rest e =
    let g = cond_some (eqb b stop) (n, bs) (m, rest) e in
    (rw (eqb-true b stop g.0, ap (λ (w : ℕ × List ℕ). w.1) g.1) refl, ap (λ (w : ℕ × List ℕ). w.0) g.1)

cond_else : {X : Type 0} (b : Bool) (o : Option X) (x : X) → cond b o None ≡ Some x → (b ≡ true) × (o ≡ Some x)
cond_else true o x e = (refl, e)
cond_else false o x e = absurd (none-some x e)

more_takes : (stop k n : ℕ) (bytes : List ℕ) (m : ℕ) (rest : List ℕ) → 0 < n → m < 2 ^ 64 → digits_more stop k n bytes ≡ Some (m, rest) → (decimal n ++ bytes ≡ decimal m ++ stop ∷ rest) × (n ≤ m)
more_takes stop zero n [] m rest some fits e = absurd (none-some (m, rest) e)
more_takes stop (suc k) n [] m rest some fits e = absurd (none-some (m, rest) e)
more_takes stop zero n (b ∷ bs) m rest some fits e =
    let g = stopped b stop n m bs rest e in
    (rw (g.0, g.1) refl, omega (arith, g.1))
more_takes stop (suc k) n (b ∷ bs) m rest some fits e =
    elim (cases_Bool (eqb b stop)) [
      | inl is_so ↦
          let p = some_pair_parts n m bs rest (rw is_so at e) in
          (rw (eqb-true b stop is_so, p.0, p.1) refl, omega (arith, p.0))
      | inr not_so ↦
          let g = cond_else (is_digit b) (digits_more stop k (10 * n + (b - 48)) bs) (m, rest) (rw not_so at e) in
          let d = and_parts _ _ g.0 in
          let low : 48 ≤ b = leb-true _ _ d.0 in
          let high : b ≤ 57 = leb-true _ _ d.1 in
          let ih = more_takes stop k (10 * n + (b - 48)) bs m rest (omega arith) fits g.1 in
          let quotient : (10 * n + (b - 48)) / 10 ≡ n = omega arith in
          let digit : 48 + (10 * n + (b - 48)) % 10 ≡ b = omega arith in
          let step : decimal (10 * n + (b - 48)) ≡ decimal n ++ b ∷ [] = decimal_step (10 * n + (b - 48)) (omega arith) (omega (arith, ih.1)) ∙ rw (quotient, digit) refl in
          (sym (append_assoc (decimal n) (b ∷ []) bs) ∙ ap (λ (x : List ℕ). x ++ bs) (sym step) ∙ ih.0, omega (arith, ih.1))
    ]

zero_take : (stop b : ℕ) (bs : List ℕ) (m : ℕ) (rest : List ℕ) → b ≡ 48 → digits_more stop 0 (b - 48) bs ≡ Some (m, rest) → b ∷ bs ≡ (decimal m ++ stop ∷ []) ++ rest
zero_take stop b [] m rest is e = absurd (none-some (m, rest) e)
zero_take stop b (a ∷ bs) m rest is e =
    let g = stopped a stop (b - 48) m bs rest e in
    let nothing : m ≡ 0 = sym g.1 ∙ omega arith in
    rw (g.0, nothing, decimal_digit 0 (omega arith), is) refl

digits_take : (stop : ℕ) (bytes : List ℕ) (m : ℕ) (rest : List ℕ) → m < 2 ^ 64 → digits_at stop 9 bytes ≡ Some (m, rest) → bytes ≡ (decimal m ++ stop ∷ []) ++ rest
digits_take stop [] m rest fits e = absurd (none-some (m, rest) e)
digits_take stop (b ∷ bs) m rest fits e =
    let g = cond_else (is_digit b) (digits_more stop (cond (eqb b 48) 0 9) (b - 48) bs) (m, rest) e in
    let d = and_parts _ _ g.0 in
    let low : 48 ≤ b = leb-true _ _ d.0 in
    let high : b ≤ 57 = leb-true _ _ d.1 in
    elim (cases_Bool (eqb b 48)) [
      | inl is_so ↦ zero_take stop b bs m rest (eqb-true b 48 is_so) (rw is_so at g.1)
      | inr not_so ↦
          let differs : b ≡ 48 → ⊥ = eqb-false b 48 not_so in
          let t = more_takes stop 9 (b - 48) bs m rest (omega arith) fits (rw not_so at g.1) in
          let one : decimal (b - 48) ≡ b ∷ [] = decimal_digit (b - 48) (omega arith) ∙ ap (λ x. x ∷ []) (omega arith) in
          ap (λ (x : List ℕ). x ++ bs) (sym one) ∙ t.0 ∙ sym (append_assoc (decimal m) (stop ∷ []) rest)
    ]

pub number_reads : (stop last : ℕ) → stop < 48 → last < 10 ^ 10 → Reads (λ n. n ≤ last) (number stop) (number_at stop last)
unfolding number_at
number_reads stop last below most = record {
  takes = λ bytes n rest e.
      let a = bind_some (digits_at stop 9 bytes) (λ x. cond (leb x.0 last) (Some x) None) (n, rest) e in
      let g = cond_some (leb a.0.0 last) a.0 (n, rest) a.2 in
      let value : a.0.0 ≡ n = ap (λ (w : ℕ × List ℕ). w.0) g.1 in
      let within : n ≤ last = omega (arith, value, leb-true a.0.0 last g.0) in
      (digits_take stop bytes n rest (omega (arith, within)) (a.1 ∙ ap Some g.1), within);
  again = λ n rest fits. rw (digits_again stop n rest below (omega (arith, fits)), le-leb n last fits) refl;
}

pub own_passes : (stop own : ℕ) → stop < 48 → own < 2 ^ 32 → Passes (number stop own) (own_at stop own)
unfolding own_at
own_passes stop own below small = record {
  takes = λ bytes rest e.
      let a = bind_some (number_at stop any bytes) (λ x. cond (eqb x.0 own) (Some x.1) None) rest e in
      let g = cond_some (eqb a.0.0 own) a.0.1 rest a.2 in
      let f = (number_reads stop any below (omega arith)).takes bytes a.0.0 a.0.1 a.1 in
      f.0 ∙ ap (λ (n : ℕ). number stop n ++ a.0.1) (eqb-true a.0.0 own g.0) ∙ ap (λ (r : List ℕ). number stop own ++ r) g.1;
  again = λ rest. rw ((number_reads stop any below (omega arith)).again own rest (omega arith), eq-eqb own own refl) refl;
}
