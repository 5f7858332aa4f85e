-- The transfers of the scrubber go on to be those of its walk: where it makes its next one, and where another master makes one.
use Rattle.std.proofs.Common.{◌≡◌, ◌≢◌, ℕ, zero, suc, ◌<◌, List, [], ◌∷◌, ◌++◌, length, length-append, take, Option, Some, IfSome, slice_get, refl, sym, ap, ◌∙◌, subst, arith, inl, inr}
use Rattle.std.proofs.Math.Seq.{take-append_seam}
use Rattle.std.proofs.lemmas.Bool.{cases_eq}
use Rattle.std.proofs.lemmas.List.{take-append-le}
use Rattle.ahb_bus.specs.BusState.{BusState, answered}
use Rattle.lf_model.specs.Bus.Walk.{Walk, scrubber, next_transfer, walk_after, WalkAt}
use Rattle.lf_model.specs.declared.bus.Transfer.{Transfer}
use Rattle.lf_model.specs.declared.image.Range.{Range}
use Rattle.scrubber.specs.WalkState.{WalkState}

get_before : (xs : List Transfer) (x : Transfer) (i : ℕ) → i < length xs → slice_get (xs ++ x ∷ []) i ≡ slice_get xs i
get_before [] x i within = absurd (omega arith)
get_before (y ∷ xs) x zero within = refl
get_before (y ∷ xs) x (suc i) within = get_before xs x i (omega (arith, within))

get_last : (xs : List Transfer) (x : Transfer) → slice_get (xs ++ x ∷ []) (length xs) ≡ Some x
get_last [] x = refl
get_last (y ∷ xs) x = get_last xs x

-- a transfer, if it is the scrubber's, is the next of this walk
abbrev pub IsNext : ℕ → Walk → Transfer → Type 0
IsNext turn w t = t.master ≡ scrubber → record (next_transfer turn w w.noted) { words = t.words; syn = t.syn } ≡ t

-- the scrubber's transfers so far are those of its walk
abbrev pub IsWalk : Range → List Transfer → Type 0
IsWalk range ts = (turn : ℕ) → turn < length ts → WalkAt range ts turn

pub walk_goes_on : (range : Range) (ts : List Transfer) (t : Transfer) → IsWalk range ts → IsNext (length ts) (walk_after range ts) t → IsWalk range (ts ++ t ∷ [])
walk_goes_on range ts t walk next turn within = elim (cases_eq turn (length ts)) [
  | inl last ↦
      let at : slice_get (ts ++ t ∷ []) turn ≡ Some t = ap (slice_get (ts ++ t ∷ [])) last ∙ get_last ts t in
      let front : take turn (ts ++ t ∷ []) ≡ ts = ap (λ (n : ℕ). take n (ts ++ t ∷ [])) last ∙ take-append_seam ts (t ∷ []) in
      subst (λ (o : Option Transfer). IfSome o (IsNext turn (walk_after range (take turn (ts ++ t ∷ []))))) (sym at)
      (subst (λ (us : List Transfer). IsNext turn (walk_after range us) t) (sym front) (subst (λ (n : ℕ). IsNext n (walk_after range ts) t) (sym last) next))
  | inr other ↦
      let before : turn < length ts = omega (arith, within, other, length-append ts (t ∷ [])) in
      let front : take turn (ts ++ t ∷ []) ≡ take turn ts = take-append-le turn ts (t ∷ []) (omega (arith, before)) in
      subst (λ (o : Option Transfer). IfSome o (IsNext turn (walk_after range (take turn (ts ++ t ∷ []))))) (sym (get_before ts t turn before))
      (subst (λ (us : List Transfer). IfSome (slice_get ts turn) (IsNext turn (walk_after range us))) (sym front) (walk turn before))
]

-- the transfer that a turn of the scrubber makes is the next
pub next_made : (s : WalkState) (bus : BusState) → IsNext (length bus.transfers) s.walk (answered bus (next_transfer (length bus.transfers) s.walk s.walk.noted))
next_made s bus is = refl

-- and one of another master is none of its walk
pub others_next : (turn : ℕ) (w : Walk) (t : Transfer) → t.master ≢ scrubber → IsNext turn w t
others_next turn w t other is = absurd (other is)
