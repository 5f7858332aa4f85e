-- A ledger that follows the histories of its units follows them as they get longer.
use Rattle.std.proofs.Common.{◌≡◌, ◌≢◌, ℕ, ◌<◌, ◌≤◌, Bool, true, false, ◌&&◌, ◌||◌, cond, nat_eq, nat_le, nat_lt, List, [], ◌∷◌, length, map, slice_index_or, None, refl, sym, ap, ◌∙◌, inl, inr, arith}
use Rattle.std.specs.List.{list_any}
use Rattle.std.proofs.lemmas.Bool.Decides.{nat_tests}
use Rattle.std.proofs.lemmas.Bool.{cases_eq, eq-eqb, ne_eqb}
use Rattle.std.proofs.lemmas.List.{length-map}
use Rattle.lf_model.specs.Fates.{stands, fate_of}
use Rattle.lf_model.specs.Flips.{Moment, Standing, standing}
use Rattle.lf_model.specs.Flips.Moment.{Struck}
use Rattle.lf_model.specs.declared.trace.Fate.TheVariants as fates
use Rattle.flip_ledger.specs.Follows.{IsNew, Gains, WasNamed, has_struck, number_of, stands_in, IsPast, Follows, Remembers}
use Rattle.flip_ledger.specs.Ledger.{Ledger, standing_in, flip_at, state_at, fate_at, named_where}
use Rattle.flip_ledger.specs.Rule.{met_by, fate_in, stood_in}
use Rattle.flip_ledger.specs.declared.record.Encounter.{Encounter}
use Rattle.flip_ledger.specs.declared.record.Encounter.TheVariants as encounters
use Rattle.flip_ledger.specs.declared.record.FlipState.{FlipState}
use Rattle.flip_ledger.specs.declared.record.FlipState.TheVariants.{ToCome, Declined, Applied}
use Rattle.flip_ledger.proofs.AbsentFlips.{absent, struck_stands, stands_other, fate_first, any_number}
use Rattle.flip_ledger.proofs.FateRule.{IsMoment, meets, fate_met, fate_other, fate_struck}
use Rattle.flip_ledger.proofs.FlipStates.{fate_met_by, leaves, stands_met, IsAfter, stood_met, IsBy, past_met, stood_past, past_later, flip_named}
use Rattle.flip_ledger.proofs.PastNames.{standing_named, struck_named, stands_named, struck_since, fate_named}

not_both : {b : Bool} → b ≡ true → b ≡ false → ⊥
not_both is is_not = cc

and_false : (a : Bool) → (a && false) ≡ false
and_false true = refl
and_false false = refl

-- ---- flips that meet with something in one unit

-- those meet of which `met` holds
pub record Meeting (budget unit : ℕ) (h new : ℕ → List Moment) (encounter : Encounter) (met : ℕ → Bool) (old l : Ledger) : Type 0 where
  pub within : unit < length old.standing
  pub by : IsBy old.turn encounter
  -- the ledger
  pub units : length l.standing ≡ length old.standing
  pub turn : l.turn ≡ old.turn
  pub standing_there : (u : ℕ) → u ≢ unit → standing_in l u ≡ standing_in old u
  pub standing_here : standing_in l unit ≡ map number_of (standing budget (new unit))
  pub flips : (i : ℕ) → state_at l i ≡ cond (met i) (met_by encounter (state_at old i)) (state_at old i)
  -- the histories
  pub struck : (i : ℕ) → met i ≡ true → has_struck i (h unit) ≡ true
  pub struck_here : (i : ℕ) → has_struck i (new unit) ≡ has_struck i (h unit)
  pub fate_here : (i : ℕ) → fate_of budget i (new unit) ≡ meets encounter (met i) (fate_of budget i (h unit))
  pub stands_here : (i : ℕ) → stands_in unit (cond (met i) (met_by encounter (state_at old i)) (state_at old i)) ≡ stands budget i (new unit)
  pub others : (u : ℕ) → u ≢ unit → new u ≡ h u

module _ {budget unit : ℕ} {h new : ℕ → List Moment} {encounter : Encounter} {met : ℕ → Bool} {old l : Ledger} (meeting : Meeting budget unit h new encounter met old l) (follows : Follows budget h old) where
  struck_same : (i u : ℕ) → has_struck i (new u) ≡ has_struck i (h u)
  struck_same i u = elim (cases_eq u unit) [
    | inl same ↦ rw same (meeting.struck_here i)
    | inr other ↦ ap (has_struck i) (meeting.others u other)
  ]

  -- a flip of another unit does not meet
  not_met : (i u : ℕ) → u ≢ unit → u < length old.standing → has_struck i (h u) ≡ true → met i ≡ false
  not_met i u other lt is = cases (met i) refl
    where
      cases : (b : Bool) → met i ≡ b → b ≡ false
      cases true e = absurd (other (follows.one_unit i u unit lt meeting.within is (meeting.struck i e)))
      cases false e = refl

  fate_meets : (b : Bool) (flip : FlipState) → fate_in (cond b (met_by encounter flip) flip) ≡ meets encounter b (fate_in flip)
  fate_meets true flip = fate_met_by encounter flip
  fate_meets false flip = refl

  -- it stands as before
  stands_there : (i u : ℕ) → u ≢ unit → u < length old.standing → stands_in u (cond (met i) (met_by encounter (state_at old i)) (state_at old i)) ≡ stands budget i (h u)
  stands_there i u other lt = cases (met i) refl (stands budget i (h u)) refl (follows.stay_is i u lt)
    where
      cases : (b : Bool) → met i ≡ b → (t : Bool) → stands budget i (h u) ≡ t → stands_in u (state_at old i) ≡ t → stands_in u (cond b (met_by encounter (state_at old i)) (state_at old i)) ≡ t
      cases false e t is before = before
      cases true e true is before = absurd (not_both e (not_met i u other lt (struck_stands budget i (h u) is)))
      cases true e false is before = stands_met encounter u (state_at old i) ∙ ap (λ (b : Bool). leaves encounter && b) before ∙ and_false (leaves encounter)

  past_now : (i : ℕ) → IsPast old.turn (cond (met i) (met_by encounter (state_at old i)) (state_at old i))
  past_now i = cases (met i)
    where
      cases : (b : Bool) → IsPast old.turn (cond b (met_by encounter (state_at old i)) (state_at old i))
      cases true = past_met old.turn encounter (state_at old i) meeting.by (follows.past i)
      cases false = follows.past i

  within_old : (u : ℕ) → u < length l.standing → u < length old.standing
  within_old u lt = rw (← meeting.units) lt

  within_new : (u : ℕ) → u < length old.standing → u < length l.standing
  within_new u lt = rw meeting.units lt

  fate_now : (i u : ℕ) → u < length old.standing → has_struck i (new u) ≡ true → fate_at l i ≡ fate_of budget i (new u)
  fate_now i u lt is =
      let was : has_struck i (h u) ≡ true = sym (struck_same i u) ∙ is in
      let now : fate_at l i ≡ meets encounter (met i) (fate_of budget i (h u)) =
      ap fate_in (meeting.flips i) ∙ fate_meets (met i) (state_at old i) ∙ ap (meets encounter (met i)) (follows.fate_is i u lt was) in
      elim (cases_eq u unit) [
        | inl same ↦ now ∙ ap (λ (v : ℕ). meets encounter (met i) (fate_of budget i (h v))) same ∙ sym (meeting.fate_here i) ∙ ap (λ (v : ℕ). fate_of budget i (new v)) (sym same)
        | inr other ↦
            now
            ∙ ap (λ (b : Bool). meets encounter b (fate_of budget i (h u))) (not_met i u other lt was)
            ∙ ap (fate_of budget i) (sym (meeting.others u other))
      ]

  none_before : (i : ℕ) → ((u : ℕ) → u < length l.standing → has_struck i (new u) ≡ false) → (u : ℕ) → u < length old.standing → has_struck i (h u) ≡ false
  none_before i none u lt = sym (struck_same i u) ∙ none u (within_new u lt)

  to_come_now : (i : ℕ) → ((u : ℕ) → u < length old.standing → has_struck i (h u) ≡ false) → state_at l i ≡ ToCome
  to_come_now i none = meeting.flips i ∙ cases (met i) refl
    where
      cases : (b : Bool) → met i ≡ b → cond b (met_by encounter (state_at old i)) (state_at old i) ≡ ToCome
      cases true e = absurd (not_both (meeting.struck i e) (none unit meeting.within))
      cases false e = follows.to_come i none

  pub follows_meeting : Follows budget new l
  follows_meeting = record {
    standing_is = λ u lt. elim (cases_eq u unit) [
      | inl same ↦ rw same meeting.standing_here
      | inr other ↦ meeting.standing_there u other ∙ follows.standing_is u (within_old u lt) ∙ ap (λ (x : List Moment). map number_of (standing budget x)) (sym (meeting.others u other))
    ];
    fate_is = λ i u lt is. fate_now i u (within_old u lt) is;
    to_come = λ i none. to_come_now i (none_before i none);
    one_unit = λ i a b a_lt b_lt a_is b_is.
        follows.one_unit i a b (within_old a a_lt) (within_old b b_lt) (sym (struck_same i a) ∙ a_is) (sym (struck_same i b) ∙ b_is);
    stay_is = λ i u lt. elim (cases_eq u unit) [
      | inl same ↦ rw same (ap (stands_in unit) (meeting.flips i) ∙ meeting.stands_here i)
      | inr other ↦ ap (stands_in u) (meeting.flips i) ∙ stands_there i u other (within_old u lt) ∙ ap (stands budget i) (sym (meeting.others u other))
    ];
    past = λ i. rw (meeting.turn, meeting.flips i) (past_now i);
  }

  pub remembers_meeting : (turn : ℕ) (past : ℕ → List Moment) → IsAfter turn encounter → Remembers budget turn past old → Remembers budget turn past l
  remembers_meeting turn past after remembers = record {
    stood = λ i u lt. ap (stood_in u turn) (meeting.flips i) ∙ same i u (met i) ∙ remembers.stood i u (within_old u lt);
  }
    where
      same : (i u : ℕ) (b : Bool) → stood_in u turn (cond b (met_by encounter (state_at old i)) (state_at old i)) ≡ stood_in u turn (state_at old i)
      same i u true = stood_met encounter u turn (state_at old i) after
      same i u false = refl

-- ---- a unit's flips meet with something now

-- the moment of an encounter strikes no flip
struck_after : (encounter : Encounter) (m : Moment) → IsMoment encounter m → (i : ℕ) (h : List Moment) → has_struck i (m ∷ h) ≡ has_struck i h
struck_after encounters.Found m is i h = ap (λ (x : Moment). has_struck i (x ∷ h)) is
struck_after encounters.Named m is i h = ap (λ (x : Moment). has_struck i (x ∷ h)) is
struck_after (encounters.Written write turn) m is i h = ap (λ (x : Moment). has_struck i (x ∷ h)) is.1.0

-- and a write alone ends what stands
stands_after : (budget i : ℕ) (encounter : Encounter) (m : Moment) → IsMoment encounter m → (h : List Moment) → stands budget i (m ∷ h) ≡ (leaves encounter && stands budget i h)
stands_after budget i encounters.Found m is h = ap (λ (x : Moment). stands budget i (x ∷ h)) is
stands_after budget i encounters.Named m is h = ap (λ (x : Moment). stands budget i (x ∷ h)) is
stands_after budget i (encounters.Written write turn) m is h = ap (λ (x : Moment). stands budget i (x ∷ h)) is.1.0

standing_after : (budget : ℕ) (encounter : Encounter) (m : Moment) → IsMoment encounter m → (h : List Moment)
    → cond (leaves encounter) (map number_of (standing budget h)) [] ≡ map number_of (standing budget (m ∷ h))
standing_after budget encounters.Found m is h = ap (λ (x : Moment). map number_of (standing budget (x ∷ h))) (sym is)
standing_after budget encounters.Named m is h = ap (λ (x : Moment). map number_of (standing budget (x ∷ h))) (sym is)
standing_after budget (encounters.Written write turn) m is h = ap (λ (x : Moment). map number_of (standing budget (x ∷ h))) (sym is.1.0)

-- what an encounter does to a ledger
pub record Changes (encounter : Encounter) (unit : ℕ) (old l : Ledger) : Type 0 where
  pub units : length l.standing ≡ length old.standing
  pub turn : l.turn ≡ old.turn
  pub standing_there : (u : ℕ) → u ≢ unit → standing_in l u ≡ standing_in old u
  pub standing_here : standing_in l unit ≡ cond (leaves encounter) (standing_in old unit) []
  pub flips : (i : ℕ) → state_at l i ≡ cond (list_any (λ number. nat_eq number i) (standing_in old unit)) (met_by encounter (state_at old i)) (state_at old i)

module _ (budget unit : ℕ) (h new : ℕ → List Moment) (encounter : Encounter) (m : Moment) (old l : Ledger) (is : IsMoment encounter m) (within : unit < length old.standing) (by : IsBy old.turn encounter)
    (gains : Gains unit m h new) (follows : Follows budget h old) (changes : Changes encounter unit old l) where
  standing_is_any : (i : ℕ) → list_any (λ number. nat_eq number i) (standing_in old unit) ≡ stands budget i (h unit)
  standing_is_any i = ap (list_any (λ (number : ℕ). nat_eq number i)) (follows.standing_is unit within) ∙ any_number i (standing budget (h unit))

  stands_now : (i : ℕ) (s : Bool) → stands budget i (h unit) ≡ s
      → stands_in unit (cond s (met_by encounter (state_at old i)) (state_at old i)) ≡ (leaves encounter && s)
  stands_now i true e = stands_met encounter unit (state_at old i) ∙ ap (λ (b : Bool). leaves encounter && b) (follows.stay_is i unit within ∙ e)
  stands_now i false e = follows.stay_is i unit within ∙ e ∙ sym (and_false (leaves encounter))

  meeting_now : Meeting budget unit h new encounter (λ i. stands budget i (h unit)) old l
  meeting_now = record {
    within = within;
    by = by;
    units = changes.units;
    turn = changes.turn;
    standing_there = changes.standing_there;
    standing_here =
        changes.standing_here
        ∙ ap (λ (numbers : List ℕ). cond (leaves encounter) numbers []) (follows.standing_is unit within)
        ∙ standing_after budget encounter m is (h unit)
        ∙ ap (λ (x : List Moment). map number_of (standing budget x)) (sym gains.here);
    flips = λ i. changes.flips i ∙ ap (λ (b : Bool). cond b (met_by encounter (state_at old i)) (state_at old i)) (standing_is_any i);
    struck = λ i s. struck_stands budget i (h unit) s;
    struck_here = λ i. ap (has_struck i) gains.here ∙ struck_after encounter m is i (h unit);
    fate_here = λ i. ap (fate_of budget i) gains.here ∙ fate_met budget i (h unit) encounter m is;
    stands_here = λ i.
        stands_now i (stands budget i (h unit)) refl
        ∙ sym (stands_after budget i encounter m is (h unit))
        ∙ ap (stands budget i) (sym gains.here);
    others = gains.others;
  }

  pub follows_met : Follows budget new l
  follows_met = follows_meeting meeting_now follows

-- what the ledger remembers of earlier turns
pub remembers_met : (encounter : Encounter) (unit budget turn : ℕ) (past : ℕ → List Moment) (old l : Ledger) → Changes encounter unit old l → IsAfter turn encounter
    → Remembers budget turn past old → Remembers budget turn past l
remembers_met encounter unit budget turn past old l changes after remembers = record {
  stood = λ i u lt.
      ap (stood_in u turn) (changes.flips i)
      ∙ same i u (list_any (λ (number : ℕ). nat_eq number i) (standing_in old unit))
      ∙ remembers.stood i u (rw (← changes.units) lt);
}
  where
    same : (i u : ℕ) (b : Bool) → stood_in u turn (cond b (met_by encounter (state_at old i)) (state_at old i)) ≡ stood_in u turn (state_at old i)
    same i u true = stood_met encounter u turn (state_at old i) after
    same i u false = refl

-- a unit in which no flip stands needs no change
pub follows_unstruck : (budget unit : ℕ) (h new : ℕ → List Moment) (encounter : Encounter) (m : Moment) (l : Ledger) → IsMoment encounter m → unit < length l.standing → IsBy l.turn encounter
    → standing_in l unit ≡ [] → Gains unit m h new → Follows budget h l → Follows budget new l
follows_unstruck budget unit h new encounter m l is within by none gains follows =
    follows_met budget unit h new encounter m l l is within by gains follows (record {
      units = refl;
      turn = refl;
      standing_there = λ u other. refl;
      standing_here = none ∙ empty (leaves encounter) ∙ ap (λ (numbers : List ℕ). cond (leaves encounter) numbers []) (sym none);
      flips = λ i. sym (ap (λ (numbers : List ℕ). cond (list_any (λ (number : ℕ). nat_eq number i) numbers) (met_by encounter (state_at l i)) (state_at l i)) none);
    })
  where
    empty : (b : Bool) → ◌≡◌ {A = List ℕ} [] (cond b [] [])
    empty true = refl
    empty false = refl

-- ---- a unit was named in the past

module _ (budget unit turn : ℕ) (h past new : ℕ → List Moment) (old l : Ledger) (within : unit < length old.standing) (remembers : Remembers budget turn past old) (was : WasNamed unit past h new)
    (follows : Follows budget h old) (same_standing : l.standing ≡ old.standing) (same_turn : l.turn ≡ old.turn) (flips : l.flips ≡ map (named_where unit turn) old.flips) where
  met_then : (i : ℕ) → stood_in unit turn (state_at old i) ≡ stands budget i (past unit)
  met_then i = remembers.stood i unit within

  flips_then : (i : ℕ) → state_at l i ≡ cond (stands budget i (past unit)) (met_by encounters.Named (state_at old i)) (state_at old i)
  flips_then i = ap (λ (fs : List FlipState). flip_at fs i) flips ∙ flip_named unit turn old.flips i ∙ ap (λ (b : Bool). cond b (met_by encounters.Named (state_at old i)) (state_at old i)) (met_then i)

  stands_named_too : (i : ℕ) (b : Bool) → stands_in unit (cond b (met_by encounters.Named (state_at old i)) (state_at old i)) ≡ stands_in unit (state_at old i)
  stands_named_too i true = stands_met encounters.Named unit (state_at old i)
  stands_named_too i false = refl

  meeting_then : Meeting budget unit h new encounters.Named (λ i. stands budget i (past unit)) old l
  meeting_then = record {
    within = within;
    by = tt;
    units = ap (length {A = List ℕ}) same_standing;
    turn = same_turn;
    standing_there = λ u other. ap (λ (s : List (List ℕ)). slice_index_or s u []) same_standing;
    standing_here =
        ap (λ (s : List (List ℕ)). slice_index_or s unit []) same_standing
        ∙ follows.standing_is unit within
        ∙ ap (λ (x : List Moment). map number_of (standing budget x)) was.before
        ∙ ap (map number_of) (sym (standing_named budget 0 (past unit) was.since))
        ∙ ap (λ (x : List Moment). map number_of (standing budget x)) (sym was.here);
    flips = flips_then;
    struck = λ i s. ap (has_struck i) was.before ∙ struck_since budget i (past unit) was.since (struck_stands budget i (past unit) s);
    struck_here = λ i. ap (has_struck i) was.here ∙ struck_named budget i (past unit) was.since ∙ ap (has_struck i) (sym was.before);
    fate_here = λ i.
        ap (fate_of budget i) was.here
        ∙ fate_named budget i (past unit) was.since
        ∙ ap (λ (x : List Moment). meets encounters.Named (stands budget i (past unit)) (fate_of budget i x)) (sym was.before);
    stands_here = λ i.
        stands_named_too i (stands budget i (past unit))
        ∙ follows.stay_is i unit within
        ∙ ap (stands budget i) was.before
        ∙ sym (stands_named budget i (past unit) was.since)
        ∙ ap (stands budget i) (sym was.here);
    others = was.others;
  }

  pub follows_named : Follows budget new l
  follows_named = follows_meeting meeting_then follows

pub remembers_named : (unit turn budget t : ℕ) (past : ℕ → List Moment) (old l : Ledger) → length l.standing ≡ length old.standing → l.flips ≡ map (named_where unit turn) old.flips
    → Remembers budget t past old → Remembers budget t past l
remembers_named unit turn budget t past old l units flips remembers = record {
  stood = λ i u lt.
      ap (λ (fs : List FlipState). stood_in u t (flip_at fs i)) flips
      ∙ ap (stood_in u t) (flip_named unit turn old.flips i)
      ∙ same i u (stood_in unit turn (state_at old i))
      ∙ remembers.stood i u (rw (← units) lt);
}
  where
    same : (i u : ℕ) (b : Bool) → stood_in u t (cond b (met_by encounters.Named (state_at old i)) (state_at old i)) ≡ stood_in u t (state_at old i)
    same i u true = stood_met encounters.Named u t (state_at old i) tt
    same i u false = refl

-- ---- a turn begins

pub follows_begun : (budget turn : ℕ) (h : ℕ → List Moment) (l : Ledger) → l.turn ≤ turn → Follows budget h l → Follows budget h (record l { turn = turn })
follows_begun budget turn h l le follows = record {
  standing_is = follows.standing_is;
  fate_is = follows.fate_is;
  to_come = follows.to_come;
  one_unit = follows.one_unit;
  stay_is = follows.stay_is;
  past = λ i. past_later l.turn turn (state_at l i) le (follows.past i);
}

pub remembers_begun : (budget turn t : ℕ) (h : ℕ → List Moment) (l : Ledger) → l.turn ≤ t → Follows budget h l → Remembers budget t h (record l { turn = turn })
remembers_begun budget turn t h l le follows = record {
  stood = λ i u lt. stood_past u l.turn t (state_at l i) le (follows.past i) ∙ follows.stay_is i u lt;
}

-- ---- a flip strikes

-- it struck no unit before
module _ (budget number : ℕ) (h : ℕ → List Moment) (old : Ledger) (to_come : state_at old number ≡ ToCome) (follows : Follows budget h old) where
  pub not_struck : (u : ℕ) → u < length old.standing → has_struck number (h u) ≡ false
  not_struck u lt = cases (has_struck number (h u)) refl
    where
      cases : (b : Bool) → has_struck number (h u) ≡ b → b ≡ false
      cases true e = absurd (fate_struck budget number (h u) e (sym (follows.fate_is number u lt e) ∙ ap fate_in to_come))
      cases false e = refl

struck_other : (i number bit : ℕ) (h : List Moment) → nat_eq number i ≡ false → has_struck i (Struck number bit ∷ h) ≡ has_struck i h
struck_other i number bit h other = ap (λ (b : Bool). b || has_struck i h) other

struck_itself : (number bit : ℕ) (h : List Moment) → has_struck number (Struck number bit ∷ h) ≡ true
struck_itself number bit h = ap (λ (b : Bool). b || has_struck number h) (eq-eqb number number refl)

-- the state of a flip that struck
abbrev pub struck_state : Bool → ℕ → ℕ → FlipState
struck_state true unit turn = Applied (record { unit = unit; since = turn; until = None; fate = fates.Dormant })
struck_state false unit turn = Declined

-- what a strike does to a ledger, by whether the flip is applied
pub record Strikes (below : Bool) (number unit : ℕ) (old l : Ledger) : Type 0 where
  pub units : length l.standing ≡ length old.standing
  pub turn : l.turn ≡ old.turn
  pub standing_there : (u : ℕ) → u ≢ unit → standing_in l u ≡ standing_in old u
  pub standing_here : standing_in l unit ≡ cond below (number ∷ standing_in old unit) (standing_in old unit)
  pub flips : (i : ℕ) → state_at l i ≡ cond (nat_eq number i) (struck_state below unit old.turn) (state_at old i)

module _ (budget number bit unit : ℕ) (h new : ℕ → List Moment) (old l : Ledger) (within : unit < length old.standing) (to_come : state_at old number ≡ ToCome)
    (below : Bool) (is_below : nat_lt (length (standing_in old unit)) budget ≡ below)
    (gains : Gains unit (Struck number bit) h new) (follows : Follows budget h old) (strikes_it : Strikes below number unit old l) where
  below_here : nat_lt (length (standing budget (h unit))) budget ≡ below
  below_here =
      ap (λ (n : ℕ). nat_lt n budget) (sym (length-map (standing budget (h unit)) number_of) ∙ ap (length {A = ℕ}) (sym (follows.standing_is unit within)))
      ∙ is_below

  none : (u : ℕ) → u < length old.standing → has_struck number (h u) ≡ false
  none = not_struck budget number h old to_come follows

  struck_too : (i u : ℕ) → nat_eq number i ≡ false → has_struck i (new u) ≡ has_struck i (h u)
  struck_too i u other = elim (cases_eq u unit) [
    | inl same ↦ rw same (ap (has_struck i) gains.here ∙ struck_other i number bit (h unit) other)
    | inr elsewhere ↦ ap (has_struck i) (gains.others u elsewhere)
  ]

  -- the flip struck this unit alone
  at_unit : (u : ℕ) → u < length old.standing → has_struck number (new u) ≡ true → u ≡ unit
  at_unit u lt is = elim (cases_eq u unit) [
    | inl same ↦ same
    | inr elsewhere ↦ absurd (not_both is (ap (has_struck number) (gains.others u elsewhere) ∙ none u lt))
  ]

  old_unit : (u : ℕ) → u < length l.standing → u < length old.standing
  old_unit u lt = rw (← strikes_it.units) lt

  state_itself : state_at l number ≡ struck_state below unit old.turn
  state_itself = strikes_it.flips number ∙ ap (λ (b : Bool). cond b (struck_state below unit old.turn) (state_at old number)) (eq-eqb number number refl)

  state_other : (i : ℕ) → nat_eq number i ≡ false → state_at l i ≡ state_at old i
  state_other i other = strikes_it.flips i ∙ ap (λ (b : Bool). cond b (struck_state below unit old.turn) (state_at old i)) other

  fate_in_struck : (b : Bool) → fate_in (struck_state b unit old.turn) ≡ cond b fates.Dormant fates.Declined
  fate_in_struck true = refl
  fate_in_struck false = refl

  fate_itself : fate_at l number ≡ fate_of budget number (new unit)
  fate_itself =
      ap fate_in state_itself
      ∙ fate_in_struck below
      ∙ ap (λ (b : Bool). cond b fates.Dormant fates.Declined) (sym below_here)
      ∙ sym (fate_first budget number (h unit) bit (none unit within))
      ∙ ap (fate_of budget number) (sym gains.here)

  fate_too : (i u : ℕ) → nat_eq number i ≡ false → fate_of budget i (new u) ≡ fate_of budget i (h u)
  fate_too i u other = elim (cases_eq u unit) [
    | inl same ↦ rw same (ap (fate_of budget i) gains.here ∙ fate_other budget i (h unit) number bit other)
    | inr elsewhere ↦ ap (fate_of budget i) (gains.others u elsewhere)
  ]

  stands_too : (i u : ℕ) → nat_eq number i ≡ false → stands budget i (new u) ≡ stands budget i (h u)
  stands_too i u other = elim (cases_eq u unit) [
    | inl same ↦
        rw same
        (ap (stands budget i) gains.here
        ∙ stands_other budget i number bit (standing budget (h unit)) (nat_lt (length (standing budget (h unit))) budget) other)
    | inr elsewhere ↦ ap (stands budget i) (gains.others u elsewhere)
  ]

  -- it stands in the unit where it was applied
  stay_itself : (u : ℕ) → u < length old.standing → stands_in u (struck_state below unit old.turn) ≡ stands budget number (new u)
  stay_itself u lt = elim (cases_eq u unit) [
    | inl same ↦
        rw same
        (here below
        ∙ sym (stood below)
        ∙ ap (λ (b : Bool). list_any (λ (flip : Standing). nat_eq flip.number number) (cond b (record { number = number; bit = bit } ∷ standing budget (h unit)) (standing budget (h unit)))) (sym below_here)
        ∙ ap (stands budget number) (sym gains.here))
    | inr elsewhere ↦
        there below (ne_eqb unit u (λ e. elsewhere (sym e)))
        ∙ sym (absent budget number (h u) (none u lt))
        ∙ ap (stands budget number) (sym (gains.others u elsewhere))
  ]
    where
      here : (b : Bool) → stands_in unit (struck_state b unit old.turn) ≡ b
      here true = ap (λ (b : Bool). b && true) (eq-eqb unit unit refl)
      here false = refl

      there : (b : Bool) → nat_eq unit u ≡ false → stands_in u (struck_state b unit old.turn) ≡ false
      there true apart = ap (λ (b : Bool). b && true) apart
      there false apart = refl

      stood : (b : Bool) → list_any (λ (flip : Standing). nat_eq flip.number number) (cond b (record { number = number; bit = bit } ∷ standing budget (h unit)) (standing budget (h unit))) ≡ b
      stood true = ap (λ (b : Bool). b || list_any (λ (flip : Standing). nat_eq flip.number number) (standing budget (h unit))) (eq-eqb number number refl)
      stood false = absent budget number (h unit) (none unit within)

  past_itself : (b : Bool) → IsPast old.turn (struck_state b unit old.turn)
  past_itself true = (omega arith, tt)
  past_itself false = tt

  standing_struck : (b : Bool) (flips : List Standing)
      → map number_of (cond b (record { number = number; bit = bit } ∷ flips) flips) ≡ cond b (number ∷ map number_of flips) (map number_of flips)
  standing_struck true flips = refl
  standing_struck false flips = refl

  standing_now : standing_in l unit ≡ map number_of (standing budget (new unit))
  standing_now =
      strikes_it.standing_here
      ∙ ap (λ (numbers : List ℕ). cond below (number ∷ numbers) numbers) (follows.standing_is unit within)
      ∙ ap (λ (b : Bool). cond b (number ∷ map number_of (standing budget (h unit))) (map number_of (standing budget (h unit)))) (sym below_here)
      ∙ sym (standing_struck (nat_lt (length (standing budget (h unit))) budget) (standing budget (h unit)))
      ∙ ap (λ (x : List Moment). map number_of (standing budget x)) (sym gains.here)

  pub follows_struck : Follows budget new l
  follows_struck = record {
    standing_is = λ u lt. elim (cases_eq u unit) [
      | inl same ↦ rw same standing_now
      | inr elsewhere ↦
          strikes_it.standing_there u elsewhere
          ∙ follows.standing_is u (old_unit u lt)
          ∙ ap (λ (x : List Moment). map number_of (standing budget x)) (sym (gains.others u elsewhere))
    ];
    fate_is = λ i u lt is. elim (cases_eq number i) [
      | inl same ↦
          let there : u ≡ unit = at_unit u (old_unit u lt) (ap (λ (n : ℕ). has_struck n (new u)) same ∙ is) in
          ap (fate_at l) (sym same) ∙ fate_itself ∙ ap (λ (n : ℕ). fate_of budget n (new unit)) same ∙ ap (λ (v : ℕ). fate_of budget i (new v)) (sym there)
      | inr other ↦
          let apart : nat_eq number i ≡ false = ne_eqb number i other in
          ap fate_in (state_other i apart)
          ∙ follows.fate_is i u (old_unit u lt) (sym (struck_too i u apart) ∙ is)
          ∙ sym (fate_too i u apart)
    ];
    to_come = λ i all. elim (cases_eq number i) [
      | inl same ↦
          absurd
          (not_both (ap (has_struck number) gains.here ∙ struck_itself number bit (h unit))
          (ap (λ (n : ℕ). has_struck n (new unit)) same ∙ all unit (rw strikes_it.units within)))
      | inr other ↦
          let apart : nat_eq number i ≡ false = ne_eqb number i other in
          state_other i apart ∙ follows.to_come i (λ u lt. sym (struck_too i u apart) ∙ all u (rw strikes_it.units lt))
    ];
    one_unit = λ i a b a_lt b_lt a_is b_is. elim (cases_eq number i) [
      | inl same ↦
          at_unit a (old_unit a a_lt) (ap (λ (n : ℕ). has_struck n (new a)) same ∙ a_is)
          ∙ sym (at_unit b (old_unit b b_lt) (ap (λ (n : ℕ). has_struck n (new b)) same ∙ b_is))
      | inr other ↦
          let apart : nat_eq number i ≡ false = ne_eqb number i other in
          follows.one_unit i a b (old_unit a a_lt) (old_unit b b_lt) (sym (struck_too i a apart) ∙ a_is) (sym (struck_too i b apart) ∙ b_is)
    ];
    stay_is = λ i u lt. elim (cases_eq number i) [
      | inl same ↦
          ap (λ (n : ℕ). stands_in u (state_at l n)) (sym same)
          ∙ ap (stands_in u) state_itself
          ∙ stay_itself u (old_unit u lt)
          ∙ ap (λ (n : ℕ). stands budget n (new u)) same
      | inr other ↦
          let apart : nat_eq number i ≡ false = ne_eqb number i other in
          ap (stands_in u) (state_other i apart) ∙ follows.stay_is i u (old_unit u lt) ∙ sym (stands_too i u apart)
    ];
    past = λ i. elim (cases_eq number i) [
      | inl same ↦ rw (strikes_it.turn, ← same, state_itself) (past_itself below)
      | inr other ↦ rw (strikes_it.turn, state_other i (ne_eqb number i other)) (follows.past i)
    ];
  }

-- what the ledger remembers of earlier turns
pub remembers_struck : (below : Bool) (number unit budget turn : ℕ) (past : ℕ → List Moment) (old l : Ledger) → Strikes below number unit old l → state_at old number ≡ ToCome → turn < old.turn
    → Remembers budget turn past old → Remembers budget turn past l
remembers_struck below number unit budget turn past old l strikes_it to_come early remembers = record {
  stood = λ i u lt.
      let before : u < length old.standing = rw (← strikes_it.units) lt in
      elim (cases_eq number i) [
        | inl same ↦
            ap (stood_in u turn) (strikes_it.flips i ∙ ap (λ (b : Bool). cond b (struck_state below unit old.turn) (state_at old i)) (eq-eqb number i same))
            ∙ later u below
            ∙ sym (ap (stood_in u turn) (ap (state_at old) (sym same) ∙ to_come))
            ∙ remembers.stood i u before
        | inr other ↦
            ap (stood_in u turn) (strikes_it.flips i ∙ ap (λ (b : Bool). cond b (struck_state below unit old.turn) (state_at old i)) (ne_eqb number i other))
            ∙ remembers.stood i u before
      ];
}
  where
    later : (u : ℕ) (b : Bool) → stood_in u turn (struck_state b unit old.turn) ≡ false
    later u true =
        let not_yet : nat_le old.turn turn ≡ false = grind (arith, nat_tests) in
        ap (λ (b : Bool). (nat_eq unit u && b) && true) not_yet ∙ ap (λ (b : Bool). b && true) (and_false (nat_eq unit u))
    later u false = refl

-- ---- a ledger at its start

pub follows_start : (budget units flips : ℕ) (h : ℕ → List Moment) (l : Ledger) → IsNew h → length l.standing ≡ units → ((u : ℕ) → standing_in l u ≡ []) → ((i : ℕ) → state_at l i ≡ ToCome) → Follows budget h l
follows_start budget units flips h l is_new units_is empty to_come = record {
  standing_is = λ u lt. empty u ∙ ap (λ (x : List Moment). map number_of (standing budget x)) (sym (is_new u));
  fate_is = λ i u lt is. absurd (not_both is (ap (has_struck i) (is_new u)));
  to_come = λ i all. to_come i;
  one_unit = λ i a b a_lt b_lt a_is b_is. absurd (not_both a_is (ap (has_struck i) (is_new a)));
  stay_is = λ i u lt. ap (stands_in u) (to_come i) ∙ ap (stands budget i) (sym (is_new u));
  past = λ i. rw (to_come i) tt;
}
