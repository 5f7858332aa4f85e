-- The flips of a turn strike their words, one after the other.
use Rattle.std.proofs.Common.{◌≡◌, ◌≢◌, ℕ, zero, suc, ◌+◌, ◌<◌, ◌≤◌, Bool, true, false, ◌||◌, cond, nat_eq, List, [], ◌∷◌, ◌++◌, length, map, Option, Some, None, refl, sym, ap, ◌∙◌, subst, ◌⊎◌, inl, inr, append_assoc, arith}
use Rattle.std.specs.Prelude.{fold, slice_get, All, IfSome, replicate}
use Rattle.std.specs.List.{AllByRecursion, range_with_len, zip}
use Rattle.std.proofs.lemmas.Bool.{cases_eq, cases_Bool, eqb-true, false≢true}
use Rattle.std.proofs.lemmas.List.{get_or-set_same, get_or-set_other, length-set}
use Rattle.std.proofs.lemmas.List.Elements.{All-cons, All-nil, All-head, All-tail}
use Rattle.std.proofs.lemmas.List.Sums.{fold_push}
use Rattle.flip_ledger.proofs.PlanLemmas.{strikes_from, strikes_numbered, given, planned_next}
use Rattle.flip_ledger.specs.Follows.{has_struck}
use Rattle.flip_ledger.specs.Plan.{is_of, strike_of, target_of, bit_of, IsPlanned, GivesDue, due_at, strikes_of}
use Rattle.flip_ledger.specs.declared.plan.Owner.TheVariants.{Memory}
use Rattle.flip_ledger.specs.declared.plan.Strike.{Strike}
use Rattle.flip_ledger.specs.declared.plan.Target.{Target}
use Rattle.flip_ledger.specs.declared.plan.Target.TheVariants as targets
use Rattle.lf_model.proofs.EachLemmas.{each_both, each_at, each_weaker}
use Rattle.lf_model.specs.Bus.Words.{Word, struck_word, strike_word, words_begun}
use Rattle.lf_model.specs.Caches.Slot.{history_at, befalls}
use Rattle.lf_model.specs.Course.Arrays.{struck_by}
use Rattle.lf_model.specs.Flips.{word_bits}
use Rattle.lf_model.specs.declared.flip.Flip.{Flip}
use Rattle.lf_model.specs.declared.flip.Flip.TheVariants.{Mem, Reg, Tag, Line}
use Rattle.replay_units.proofs.PlanLemmas.{plan_of_script, plan_apart}
use Rattle.replay_units.proofs.UnitLemmas.{nothing_at, length_fresh}
use Rattle.replay_units.specs.PlanNumbers.{IsOf}
use Rattle.replay_units.specs.Units.{Units}
use Rattle.replay_words.specs.Places.{place_in, words_of, AreDistinct, IsAimed}
use Rattle.replay_words.specs.Striking.{befallen_at, place_of_target, with_strike, MayStrike, IsFor, IsPending, IsAlong}
use Rattle.replay_words.specs.Writing.{AreWordUnits, KeepsStruck}
use Rattle.replay_words.proofs.PlaceLemmas.{place_within, befalls_at, one_word}
use Rattle.replay_words.proofs.WriteLemmas.{units_kept}

-- ---- one strike

module _ (number bit : ℕ) (units : Units) where
  -- which flips struck a unit after it
  struck_here : (i place unit : ℕ) → place < length units.histories → has_struck i (history_at unit (befalls (struck_by number bit) place units.histories)) ≡ true
      → (has_struck i (history_at unit units.histories) ≡ true) ⊎ ((number ≡ i) × (unit ≡ place))
  struck_here i place unit within struck = elim (cases_eq unit place) [
    | inl same ↦
        let here : (nat_eq number i || has_struck i (history_at place units.histories)) ≡ true = sym
        (ap (λ (u : ℕ). has_struck i (history_at u (befalls (struck_by number bit) place units.histories))) same
        ∙ ap (has_struck i) (get_or-set_same units.histories place (struck_by number bit (history_at place units.histories)) [] within))
        ∙ struck in
        elim (cases_Bool (nat_eq number i)) [
          | inl is ↦ inr (eqb-true number i is, same)
          | inr not_it ↦
              inl
              (ap (λ (u : ℕ). has_struck i (history_at u units.histories)) same
              ∙ sym (ap (λ (b : Bool). b || has_struck i (history_at place units.histories)) not_it)
              ∙ here)
        ]
    | inr other ↦
        inl (sym (ap (has_struck i) (get_or-set_other units.histories place unit (struck_by number bit (history_at place units.histories)) [] other)) ∙ struck)
  ]

  pub came_by : (place : Option ℕ) → ((p : ℕ) → place ≡ Some p → p < length units.histories) → (i unit : ℕ)
      → has_struck i (history_at unit (befallen_at (struck_by number bit) place units).histories) ≡ true
      → (has_struck i (history_at unit units.histories) ≡ true) ⊎ ((number ≡ i) × (place ≡ Some unit))
  came_by None within i unit struck = inl struck
  came_by (Some place) within i unit struck = elim (struck_here i place unit (within place refl) struck) [
    | inl old ↦ inl old
    | inr new ↦ inr (new.0, ap Some (sym new.1))
  ]

  kept_budget : (place : Option ℕ) → (befallen_at (struck_by number bit) place units).budget ≡ units.budget
  kept_budget None = refl
  kept_budget (Some p) = refl

  kept_flips : (place : Option ℕ) → (befallen_at (struck_by number bit) place units).flips ≡ units.flips
  kept_flips None = refl
  kept_flips (Some p) = refl

  kept_long : (place : Option ℕ) → length (befallen_at (struck_by number bit) place units).histories ≡ length units.histories
  kept_long None = refl
  kept_long (Some p) = length-set units.histories p (struck_by number bit (history_at p units.histories))

  histories_at : (place : Option ℕ) → (befallen_at (struck_by number bit) place units).histories ≡ befalls_at (struck_by number bit) place units.histories
  histories_at None = refl
  histories_at (Some p) = refl

-- a strike of the script is for the word at its place
own_place : (addrs : List ℕ) (script : List Flip) (s : Strike) (unit : ℕ) → IsOf Memory script s → place_of_target addrs s.target ≡ Some unit → IsFor addrs unit (slice_get script s.number)
own_place addrs script s unit of is = subst (IsFor addrs unit) (sym of.flip_is) (by of.flip (ap (λ (x : Strike). place_of_target addrs x.target) (sym of.strike_is) ∙ is))
  where
    by : (flip : Flip) → place_of_target addrs (target_of flip) ≡ Some unit → IsFor addrs unit (Some flip)
    by (Mem turn addr bit) e = e
    by (Reg core step cell bit) e = cc
    by (Tag core step fetch way set byte bit) e = cc
    by (Line core step fetch way set byte bit) e = cc

-- the strikes after it stay pending
module _ (script : List Flip) (addrs : List ℕ) (units : Units) (next : Strike) (rest : List Strike) (pending : IsPending script addrs units (next ∷ rest)) where
  abbrev new : Units
  new = with_strike addrs units next

  abbrev there : Option ℕ
  there = place_of_target addrs next.target

  within_there : (p : ℕ) → there ≡ Some p → p < length units.histories
  within_there p is = by next.target is
    where
      by : (target : Target) → place_of_target addrs target ≡ Some p → p < length units.histories
      by (targets.Word addr) e = let lt = place_within addrs addr p e in omega (arith, lt, pending.sound.long)
      by (targets.Register cell) e = cc
      by (targets.Tag fetch way set byte) e = cc
      by (targets.Line fetch way set byte) e = cc

  new_units : AreWordUnits addrs new
  new_units = record {
    budget = kept_budget next.number next.bit units there ∙ pending.sound.budget;
    long = kept_long next.number next.bit units there ∙ pending.sound.long;
  }

  may_still : (s : Strike) → MayStrike addrs units s → s.number ≢ next.number → MayStrike addrs new s
  may_still s may apart = record {
    sound = new_units;
    bit = may.bit;
    number = rw (kept_flips next.number next.bit units there) may.number;
    once = λ unit lt. elim (cases_Bool (has_struck s.number (history_at unit new.histories))) [
      | inl struck ↦
          absurd
          (elim (came_by next.number next.bit units there within_there s.number unit struck) [
            | inl old ↦ false≢true (sym (may.once unit (omega (arith, lt, kept_long next.number next.bit units there))) ∙ old)
            | inr it ↦ apart (sym it.0)
          ])
      | inr none ↦ none
    ];
  }

  pub pending_struck : IsPending script addrs new rest
  pending_struck = record {
    sound = new_units;
    flips = kept_flips next.number next.bit units there ∙ pending.flips;
    strikes = each_both (MayStrike addrs units) (λ s. s.number ≢ next.number) (MayStrike addrs new) rest may_still pending.strikes.1 pending.apart.0;
    apart = pending.apart.1;
    of_script = pending.of_script.1;
    own = λ i place lt struck. elim (came_by next.number next.bit units there within_there i place struck) [
      | inl old ↦ pending.own i place (omega (arith, lt, kept_long next.number next.bit units there)) old
      | inr it ↦ subst (λ (n : ℕ). IsFor addrs place (slice_get script n)) it.0 (own_place addrs script next place pending.of_script.0 it.1)
    ];
  }

-- and where no flip strikes
pub pending_kept : (script : List Flip) (addrs : List ℕ) (old new : Units) (plan : List Strike) → KeepsStruck old new → IsPending script addrs old plan → IsPending script addrs new plan
pending_kept script addrs old new plan keeps pending = record {
  sound = units_kept addrs old new keeps pending.sound;
  flips = keeps.flips ∙ pending.flips;
  strikes = each_weaker (MayStrike addrs old) (MayStrike addrs new) plan may pending.strikes;
  apart = pending.apart;
  of_script = pending.of_script;
  own = λ i place lt struck. pending.own i place (omega (arith, lt, keeps.long)) (sym (keeps.struck i place) ∙ struck);
}
  where
    may : (s : Strike) → MayStrike addrs old s → MayStrike addrs new s
    may s is = record {
      sound = units_kept addrs old new keeps is.sound;
      bit = is.bit;
      number = rw keeps.flips is.number;
      once = λ unit lt. keeps.struck s.number unit ∙ is.once unit (omega (arith, lt, keeps.long));
    }

-- ---- the strikes of a turn

All_append : (P : Strike → Type 0) (xs ys : List Strike) → All P xs → All P ys → All P (xs ++ ys)
All_append P [] ys all more = more
All_append P (x ∷ xs) ys all more = All-cons P x (xs ++ ys) (All-head P x xs all) (All_append P xs ys (All-tail P x xs all) more)

module _ (script : List Flip) (addrs : List ℕ) (turn : ℕ) (first : Units) (plan : List Strike) where
  pub along_start : IsPending script addrs first plan → IsAlong script addrs turn first plan first plan
  along_start pending = record { run = []; split = refl; early = All-nil (λ (s : Strike). s.at ≤ turn); units_are = refl; pending = pending }

  pub along_more : (units : Units) (here : List Strike) → IsAlong script addrs turn first plan units here → (next : Strike) (rest : List Strike) → here ≡ next ∷ rest → next.at ≤ turn
      → {units' : Units} → units' ≡ with_strike addrs units next → IsAlong script addrs turn first plan units' rest
  along_more units here along next rest is now struck = record {
    run = along.run ++ next ∷ [];
    split = along.split ∙ ap (λ (xs : List Strike). along.run ++ xs) is ∙ sym (append_assoc along.run (next ∷ []) rest);
    early =
        All_append (λ (s : Strike). s.at ≤ turn) along.run (next ∷ []) along.early
        (All-cons (λ (s : Strike). s.at ≤ turn) next [] now (All-nil (λ (s : Strike). s.at ≤ turn)));
    units_are = struck ∙ ap (λ (u : Units). with_strike addrs u next) along.units_are ∙ sym (fold_push (with_strike addrs) first along.run next);
    pending = rw struck (pending_struck script addrs units next rest (subst (IsPending script addrs units) is along.pending));
  }

  module _ (planned : IsPlanned Memory script turn plan) (units : Units) (rest : List Strike) (along : IsAlong script addrs turn first plan units rest) (late : All (λ (s : Strike). turn < s.at) rest) where
    pub all_struck : units ≡ fold (with_strike addrs) first (due_at turn (strikes_of Memory script))
    all_struck =
        along.units_are
        ∙ ap (fold (with_strike addrs) first) (given Memory script turn along.run rest (subst (IsPlanned Memory script turn) along.split planned) along.early late)

    pub planned_later : IsPlanned Memory script (turn + 1) rest
    planned_later = planned_next Memory script turn along.run rest (subst (IsPlanned Memory script turn) along.split planned) along.early late

-- the plan gives none: its strikes are of later turns
pub due_end : (turn : ℕ) (old rest : List Strike) (result : Option Strike) → GivesDue turn old result rest → ((s : Strike) → result ≡ Some s → ⊥) → All (λ (s : Strike). turn < s.at) old
due_end turn old rest None gives none = gives.1
due_end turn old rest (Some s) gives none = absurd (none s refl)

-- ---- the words as a turn begins

abbrev due : ℕ → ℕ → List Flip → List Strike
due turn k flips = due_at turn (strikes_from Memory k flips)

abbrev strike_flip : ℕ → List Word → ℕ × Flip → List Word
strike_flip turn words flip = strike_word turn flip.0 words flip.1

abbrev numbered_from : ℕ → List Flip → List (ℕ × Flip)
numbered_from k flips = zip (range_with_len k (length flips)) flips

module _ (addrs : List ℕ) (distinct : AreDistinct addrs) (turn : ℕ) where
  begun_from : (k : ℕ) (flips : List Flip) (units : Units) → length units.histories ≡ length addrs
      → words_of addrs (fold (with_strike addrs) units (due turn k flips)).histories ≡ fold (strike_flip turn) (words_of addrs units.histories) (numbered_from k flips)
  begun_from k [] units long = refl
  begun_from k (Mem t addr bit ∷ flips) units long = by (λ us l. begun_from (k + 1) flips us l) (nat_eq t turn)
    where
      one : words_of addrs (befallen_at (struck_by k bit) (place_in addrs addr) units).histories ≡ map (struck_word k addr bit) (words_of addrs units.histories)
      one = ap (words_of addrs) (histories_at k bit units (place_in addrs addr)) ∙ sym (one_word addr (struck_by k bit) (struck_word k addr bit) (λ w. refl) addrs units.histories distinct long)

      by : ((us : Units) → length us.histories ≡ length addrs
          → words_of addrs (fold (with_strike addrs) us (due turn (k + 1) flips)).histories ≡ fold (strike_flip turn) (words_of addrs us.histories) (numbered_from (k + 1) flips))
          → (b : Bool)
          → words_of addrs (fold (with_strike addrs) units (cond b (strike_of (k, Mem t addr bit) ∷ due turn (k + 1) flips) (due turn (k + 1) flips))).histories
          ≡ fold (strike_flip turn) (cond b (map (struck_word k addr bit) (words_of addrs units.histories)) (words_of addrs units.histories)) (numbered_from (k + 1) flips)
      by rest true =
          rest (befallen_at (struck_by k bit) (place_in addrs addr) units) (kept_long k bit units (place_in addrs addr) ∙ long)
          ∙ ap (λ (ws : List Word). fold (strike_flip turn) ws (numbered_from (k + 1) flips)) one
      by rest false = rest units long
  begun_from k (Reg core step cell bit ∷ flips) units long = begun_from (k + 1) flips units long
  begun_from k (Tag core step fetch way set byte bit ∷ flips) units long = begun_from (k + 1) flips units long
  begun_from k (Line core step fetch way set byte bit ∷ flips) units long = begun_from (k + 1) flips units long

  pub words_begin : (script : List Flip) (units : Units) → length units.histories ≡ length addrs
      → words_of addrs (fold (with_strike addrs) units (due_at turn (strikes_of Memory script))).histories ≡ words_begun script turn (words_of addrs units.histories)
  words_begin script units long =
      ap (λ (run : List Strike). words_of addrs (fold (with_strike addrs) units (due_at turn run)).histories) (sym (strikes_numbered Memory 0 script))
      ∙ begun_from 0 script units long

-- ---- at the start

got_within : (xs : List Flip) (i : ℕ) (x : Flip) → slice_get xs i ≡ Some x → i < length xs
got_within [] i x is = cc
got_within (y ∷ xs) zero x is = omega arith
got_within (y ∷ xs) (suc i) x is = let rest = got_within xs i x is in omega (arith, rest)

module _ (ram : ℕ) (script : List Flip) (aimed : AllByRecursion (IsAimed ram) script) (addrs : List ℕ) (units : Units)
    (fresh : units ≡ record { budget = 2; histories = replicate (length addrs) []; flips = length script }) where
  sound : AreWordUnits addrs units
  sound = rw fresh (record { budget = refl; long = length_fresh (length addrs) })

  nothing : (unit : ℕ) → history_at unit units.histories ≡ []
  nothing unit = rw fresh (nothing_at (length addrs) unit)

  may : (s : Strike) → IsOf Memory script s → MayStrike addrs units s
  may s of = record {
    sound = sound;
    bit = rw of.strike_is (by of.flip of.owned (subst (λ (f : Option Flip). IfSome f (IsAimed ram)) of.flip_is (each_at (IsAimed ram) script s.number aimed)));
    number = rw fresh (got_within script s.number of.flip of.flip_is);
    once = λ unit lt. ap (has_struck s.number) (nothing unit);
  }
    where
      by : (flip : Flip) → is_of Memory flip ≡ true → IsAimed ram flip → bit_of flip < word_bits
      by (Mem turn addr bit) owned is = is.1.1
      by (Reg core step cell bit) owned is = cc
      by (Tag core step fetch way set byte bit) owned is = cc
      by (Line core step fetch way set byte bit) owned is = cc

  pub pending_start : (plan : List Strike) → IsPlanned Memory script 0 plan → IsPending script addrs units plan
  pending_start plan planned = record {
    sound = sound;
    flips = rw fresh refl;
    strikes = each_weaker (IsOf Memory script) (MayStrike addrs units) plan may (plan_of_script Memory script plan planned);
    apart = plan_apart Memory script plan planned;
    of_script = plan_of_script Memory script plan planned;
    own = λ i place lt struck. absurd (false≢true (sym (ap (has_struck i) (nothing place)) ∙ struck));
  }
