-- A ledger as it is kept, and what its calls change.
use Rattle.std.proofs.Common.{◌≡◌, ℕ, zero, suc, ◌<◌, Bool, true, false, cond, nat_eq, List, [], ◌∷◌, length, map, slice_index_or, slice_set, refl, sym, ap, ◌∙◌, inl, inr, arith}
use Rattle.std.specs.Prelude.{All}
use Rattle.std.specs.List.{list_any}
use Rattle.std.proofs.lemmas.Bool.{cases_eq, eq-eqb, ne_eqb}
use Rattle.std.proofs.lemmas.List.{get_or_default, get_or-set_same, get_or-set_other, length-set, length-map, map-set}
use Rattle.std.proofs.lemmas.List.Elements.{All-cons}
use Rattle.flip_ledger.specs.Follows.{Keeps}
use Rattle.flip_ledger.specs.Ledger.{Ledger, flip_at, settled}
use Rattle.flip_ledger.specs.Rule.{met_by}
use Rattle.flip_ledger.specs.Standing.{numbers_of}
use Rattle.flip_ledger.specs.declared.record.Encounter.{Encounter}
use Rattle.flip_ledger.specs.declared.record.FlipState.{FlipState}
use Rattle.flip_ledger.specs.declared.record.FlipState.TheVariants.{ToCome}
use Rattle.flip_ledger.specs.declared.standing.Standing.{Standing}
use Rattle.flip_ledger.specs.declared.standing.Standing.TheVariants.{Empty}
use Rattle.flip_ledger.proofs.FlipStates.{leaves, IsAfter, flip_settled}
use Rattle.flip_ledger.proofs.FollowLemmas.{Changes, remembers_met, struck_state, Strikes}

-- a ledger, by its parts
abbrev pub seen_of : List Standing → List FlipState → ℕ → Ledger
seen_of standing flips turn = record { standing = map numbers_of standing; flips = flips; turn = turn }

-- one flip gets a state
pub flips_struck : (flips : List FlipState) (number : ℕ) (state : FlipState) → number < length flips → (i : ℕ)
    → flip_at (slice_set flips number state) i ≡ cond (nat_eq number i) state (flip_at flips i)
flips_struck flips number state fits i = elim (cases_eq number i) [
  | inl same ↦ rw (eq-eqb number i same, ← same) (get_or-set_same flips number state ToCome fits)
  | inr other ↦ rw (ne_eqb number i other) (get_or-set_other flips number i state ToCome (λ e. other (sym e)))
]

-- the flips that stand in a unit, by their numbers
pub numbers_at : (standing : List Standing) (unit : ℕ) → slice_index_or (map numbers_of standing) unit [] ≡ numbers_of (slice_index_or standing unit Empty)
numbers_at [] unit = refl
numbers_at (s ∷ standing) zero = refl
numbers_at (s ∷ standing) (suc unit) = numbers_at standing unit

module _ (standing : List Standing) (unit : ℕ) {now : Standing} (read : now ≡ slice_index_or standing unit now) (within : unit < length standing) where
  here : now ≡ slice_index_or standing unit Empty
  here = read ∙ get_or_default standing unit now Empty within

  pub numbers_here : slice_index_or (map numbers_of standing) unit [] ≡ numbers_of now
  numbers_here = numbers_at standing unit ∙ sym (ap numbers_of here)

  pub known_here : (flips : List FlipState) → ((u : ℕ) → u < length standing → All (λ number. number < length flips) (numbers_of (slice_index_or standing u Empty)))
      → All (λ number. number < length flips) (numbers_of now)
  known_here flips known = rw here (known unit within)

  flips_settled : (encounter : Encounter) (flips : List FlipState) → All (λ number. number < length flips) (numbers_of now) → (i : ℕ)
      → flip_at (settled encounter (numbers_of now) flips) i
      ≡ cond (list_any (λ number. nat_eq number i) (slice_index_or (map numbers_of standing) unit [])) (met_by encounter (flip_at flips i)) (flip_at flips i)
  flips_settled encounter flips known i =
      flip_settled encounter flips i (numbers_of now) known
      ∙ ap (λ (numbers : List ℕ). cond (list_any (λ (number : ℕ). nat_eq number i) numbers) (met_by encounter (flip_at flips i)) (flip_at flips i)) (sym numbers_here)

  -- the flips go on standing, or a write ends it
  pub changes_left : (encounter : Encounter) (flips : List FlipState) (turn : ℕ) → leaves encounter ≡ true → All (λ number. number < length flips) (numbers_of now)
      → Changes encounter unit (seen_of standing flips turn) (seen_of standing (settled encounter (numbers_of now) flips) turn)
  changes_left encounter flips turn left known = record {
    units = refl;
    turn = refl;
    standing_there = λ u other. refl;
    standing_here = ap (λ (b : Bool). cond b (slice_index_or (map numbers_of standing) unit []) []) (sym left);
    flips = flips_settled encounter flips known;
  }

  pub changes_ended : (encounter : Encounter) (flips : List FlipState) (turn : ℕ) → leaves encounter ≡ false → All (λ number. number < length flips) (numbers_of now)
      → Changes encounter unit (seen_of standing flips turn) (seen_of (slice_set standing unit Empty) (settled encounter (numbers_of now) flips) turn)
  changes_ended encounter flips turn ended known = record {
    units = ap (length {A = List ℕ}) (map-set numbers_of standing unit Empty) ∙ length-set (map numbers_of standing) unit [];
    turn = refl;
    standing_there = λ u other.
        ap (λ (s : List (List ℕ)). slice_index_or s u []) (map-set numbers_of standing unit Empty)
        ∙ get_or-set_other (map numbers_of standing) unit u [] [] other;
    standing_here =
        ap (λ (s : List (List ℕ)). slice_index_or s unit []) (map-set numbers_of standing unit Empty)
        ∙ get_or-set_same (map numbers_of standing) unit [] [] (omega (arith, within, length-map standing numbers_of))
        ∙ ap (λ (b : Bool). cond b (slice_index_or (map numbers_of standing) unit []) []) (sym ended);
    flips = flips_settled encounter flips known;
  }

  -- a flip is applied
  pub strikes_applied : (flips : List FlipState) (number turn : ℕ) (s : Standing) → number < length flips → numbers_of s ≡ number ∷ numbers_of now
      → Strikes true number unit (seen_of standing flips turn) (seen_of (slice_set standing unit s) (slice_set flips number (struck_state true unit turn)) turn)
  strikes_applied flips number turn s fits more = record {
    units = ap (length {A = List ℕ}) (map-set numbers_of standing unit s) ∙ length-set (map numbers_of standing) unit (numbers_of s);
    turn = refl;
    standing_there = λ u other.
        ap (λ (x : List (List ℕ)). slice_index_or x u []) (map-set numbers_of standing unit s)
        ∙ get_or-set_other (map numbers_of standing) unit u (numbers_of s) [] other;
    standing_here =
        ap (λ (x : List (List ℕ)). slice_index_or x unit []) (map-set numbers_of standing unit s)
        ∙ get_or-set_same (map numbers_of standing) unit (numbers_of s) [] (omega (arith, within, length-map standing numbers_of))
        ∙ more
        ∙ ap (λ (numbers : List ℕ). number ∷ numbers) (sym numbers_here);
    flips = flips_struck flips number (struck_state true unit turn) fits;
  }

-- a flip is declined
pub strikes_declined : (unit : ℕ) (l : Ledger) (number : ℕ) → number < length l.flips
    → Strikes false number unit l (record l { flips = slice_set l.flips number (struck_state false unit l.turn) })
strikes_declined unit l number fits = record {
  units = refl;
  turn = refl;
  standing_there = λ u other. refl;
  standing_here = refl;
  flips = flips_struck l.flips number (struck_state false unit l.turn) fits;
}

-- what an encounter leaves
pub keeps_changes : (encounter : Encounter) (unit : ℕ) (old l : Ledger) → Changes encounter unit old l → length l.flips ≡ length old.flips → ((t : ℕ) → t < old.turn → IsAfter t encounter) → Keeps old l
keeps_changes encounter unit old l changes flips after = record {
  units = changes.units;
  flips = flips;
  turn = changes.turn;
  remembers = λ budget t past lt. remembers_met encounter unit budget t past old l changes (after t lt);
}

-- the flips that stand stay flips of the script
pub known_struck : (standing : List Standing) (flips : List FlipState) (unit number : ℕ) (s now : Standing) (state : FlipState)
    → ((u : ℕ) → u < length standing → All (λ n. n < length flips) (numbers_of (slice_index_or standing u Empty))) → unit < length standing → number < length flips
    → All (λ n. n < length flips) (numbers_of now) → numbers_of s ≡ number ∷ numbers_of now
    → (u : ℕ) → u < length (slice_set standing unit s) → All (λ n. n < length (slice_set flips number state)) (numbers_of (slice_index_or (slice_set standing unit s) u Empty))
known_struck standing flips unit number s now state known within fits here more u lt =
    let before : u < length standing = omega (arith, lt, length-set standing unit s) in
    rw (length-set flips number state) (elim (cases_eq u unit) [
      | inl same ↦ rw (same, get_or-set_same standing unit s Empty within, more) (All-cons (λ n. n < length flips) number (numbers_of now) fits here)
      | inr other ↦ rw (get_or-set_other standing unit u s Empty other) (known u before)
    ])
