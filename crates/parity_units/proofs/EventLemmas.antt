-- A ledger follows the histories of bytes as an event befalls one after the other.
use Rattle.std.proofs.Common.{◌≡◌, ◌≢◌, ℕ, ◌+◌, ◌<◌, ◌≤◌, Bool, true, false, cond, nat_lt, List, [], ◌∷◌, length, map, refl, sym, ap, ◌∙◌, subst, inl, inr, arith}
use Rattle.std.proofs.Math.Path.{fun_ext}
use Rattle.std.proofs.lemmas.Bool.{cases_eq, cases_lt, lt-ltb, le-ltb}
use Rattle.std.proofs.lemmas.Bool.Decides.{nat_tests}
use Rattle.std.proofs.lemmas.List.{nil_from_length}
use Rattle.flip_ledger.specs.Follows.{Gains, Follows, Keeps, number_of}
use Rattle.flip_ledger.specs.Ledger.{Ledger, standing_in}
use Rattle.flip_ledger.specs.declared.record.Encounter.TheVariants as encounters
use Rattle.flip_ledger.specs.declared.record.Write.TheVariants as writes
use Rattle.flip_ledger.proofs.FollowLemmas.{follows_unstruck}
use Rattle.lf_model.specs.Caches.Slot.{written, checked_byte}
use Rattle.lf_model.specs.Flips.{Moment, Standing, standing, byte_budget, is_struck_byte}
use Rattle.lf_model.specs.Flips.How.{Whole}
use Rattle.lf_model.specs.Flips.Moment.{Written, Found}
use Rattle.parity_units.specs.Events.{moment_of, befallen, over}
use Rattle.parity_units.specs.declared.events.Event.{Event}
use Rattle.parity_units.specs.declared.events.Event.TheVariants.{Write, Check}

-- what a ledger keeps, it keeps over two changes
pub keeps_then : (a b c : Ledger) → Keeps a b → Keeps b c → Keeps a c
keeps_then a b c first second = record {
  units = second.units ∙ first.units;
  flips = second.flips ∙ first.flips;
  turn = second.turn ∙ first.turn;
  remembers = λ budget t past lt remembers. second.remembers budget t past (rw first.turn lt) (first.remembers budget t past lt remembers);
}

pub keeps_same : (l : Ledger) → Keeps l l
keeps_same l = record { units = refl; flips = refl; turn = refl; remembers = λ budget t past lt remembers. remembers }

-- ---- a count of units, as it grows

module _ (first count : ℕ) (f : List Moment → List Moment) (h : ℕ → List Moment) where
  pub over_below : (u : ℕ) → u < first → over first count f h u ≡ h u
  over_below u lt = ap (λ (b : Bool). cond b (h u) (cond (nat_lt u (first + count)) (f (h u)) (h u))) (lt-ltb u first lt)

  pub over_within : (u : ℕ) → first ≤ u → u < first + count → over first count f h u ≡ f (h u)
  over_within u le lt =
      ap (λ (b : Bool). cond b (h u) (cond (nat_lt u (first + count)) (f (h u)) (h u))) (le-ltb u first le)
      ∙ ap (λ (b : Bool). cond b (f (h u)) (h u)) (lt-ltb u (first + count) lt)

  pub over_above : (u : ℕ) → first + count ≤ u → over first count f h u ≡ h u
  over_above u le =
      ap (λ (b : Bool). cond b (h u) (cond (nat_lt u (first + count)) (f (h u)) (h u))) (le-ltb u first (omega arith))
      ∙ ap (λ (b : Bool). cond b (f (h u)) (h u)) (le-ltb u (first + count) le)

pub over_none : (first : ℕ) (f : List Moment → List Moment) (h : ℕ → List Moment) → over first 0 f h ≡ h
over_none first f h = fun_ext (λ u. elim (cases_lt u first) [ inl lt ↦ over_below first 0 f h u lt | inr le ↦ over_above first 0 f h u (omega (arith, le)) ])

-- one more unit
module _ (first i : ℕ) (f : List Moment → List Moment) (h : ℕ → List Moment) where
  pub over_last : over first (i + 1) f h (first + i) ≡ f (h (first + i))
  over_last = over_within first (i + 1) f h (first + i) (omega arith) (omega arith)

  pub over_next : over first i f h (first + i) ≡ h (first + i)
  over_next = over_above first i f h (first + i) (omega arith)

  pub over_other : (u : ℕ) → u ≢ first + i → over first (i + 1) f h u ≡ over first i f h u
  over_other u other = elim (cases_lt u first) [
    | inl lt ↦ over_below first (i + 1) f h u lt ∙ sym (over_below first i f h u lt)
    | inr le ↦ elim (cases_lt u (first + i)) [
      | inl within ↦ over_within first (i + 1) f h u le (omega (arith, within)) ∙ sym (over_within first i f h u le within)
      | inr above ↦
          let past : first + (i + 1) ≤ u = omega (arith, above, other) in
          over_above first (i + 1) f h u past ∙ sym (over_above first i f h u above)
    ]
  ]

  -- nothing befell it
  pub over_same : f (h (first + i)) ≡ h (first + i) → over first (i + 1) f h ≡ over first i f h
  over_same same = fun_ext (λ u. elim (cases_eq u (first + i)) [
    | inl here ↦ subst (λ (v : ℕ). over first (i + 1) f h v ≡ over first i f h v) (sym here) (over_last ∙ same ∙ sym over_next)
    | inr other ↦ over_other u other
  ])

  pub gains_next : (m : Moment) → f (h (first + i)) ≡ m ∷ h (first + i) → Gains (first + i) m (over first i f h) (over first (i + 1) f h)
  gains_next m is = record { here = over_last ∙ is ∙ ap (λ (x : List Moment). m ∷ x) (sym over_next); others = over_other }

-- ---- an event of one unit more

befallen_struck : (event : Event) (h : List Moment) → is_struck_byte h ≡ true → befallen event h ≡ moment_of event ∷ h
befallen_struck Write h struck = refl
befallen_struck Check h struck = ap (λ (b : Bool). cond b (Found ∷ h) h) struck

unstruck_nothing : (h : List Moment) → is_struck_byte h ≡ false → standing byte_budget h ≡ []
unstruck_nothing h unstruck = nothing (standing byte_budget h) unstruck
  where
    nothing : (flips : List Standing) → nat_lt 0 (length flips) ≡ false → flips ≡ []
    nothing flips none = nil_from_length flips (grind (arith, nat_tests))

module _ (first i : ℕ) (h : ℕ → List Moment) (l : Ledger) (within : first + i < length l.standing) where
  pub gains_event : (event : Event) → is_struck_byte (h (first + i)) ≡ true
      → Gains (first + i) (moment_of event) (over first i (befallen event) h) (over first (i + 1) (befallen event) h)
  gains_event event struck = gains_next first i (befallen event) h (moment_of event) (befallen_struck event (h (first + i)) struck)

  -- no flip stands in it
  pub follows_past : (event : Event) → is_struck_byte (h (first + i)) ≡ false → Follows byte_budget (over first i (befallen event) h) l
      → Follows byte_budget (over first (i + 1) (befallen event) h) l
  follows_past Write unstruck follows =
      let empty : standing_in l (first + i) ≡ [] =
      follows.standing_is (first + i) within
      ∙ ap (λ (x : List Moment). map number_of (standing byte_budget x)) (over_next first i written h)
      ∙ ap (map number_of) (unstruck_nothing (h (first + i)) unstruck) in
      follows_unstruck byte_budget (first + i) (over first i written h) (over first (i + 1) written h)
      (encounters.Written writes.Whole l.turn) (Written Whole) l (Whole, (refl, refl)) within (omega arith) empty
      (gains_next first i written h (Written Whole) refl) follows
  follows_past Check unstruck follows =
      subst (λ (x : ℕ → List Moment). Follows byte_budget x l)
      (sym (over_same first i checked_byte h (ap (λ (b : Bool). cond b (Found ∷ h (first + i)) (h (first + i))) unstruck))) follows
