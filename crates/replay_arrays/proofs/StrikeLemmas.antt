-- The flips of a step strike the arrays of a core, one after the other.
use Rattle.std.proofs.Common.{◌≡◌, ◌≢◌, ℕ, zero, suc, ◌+◌, ◌*◌, ◌<◌, ◌≤◌, Bool, true, false, ◌||◌, cond, nat_eq, List, [], ◌∷◌, ◌++◌, length, map, slice_index_or, slice_set, Option, Some, None, refl, sym, ap, ◌∙◌, subst, inl, inr, append_assoc, arith}
use Rattle.std.specs.Prelude.{fold, slice_get, All, IfSome, replicate}
use Rattle.std.specs.List.{AllByRecursion}
use Rattle.std.proofs.lemmas.Bool.{cases_eq, ne_eqb, false≢true}
use Rattle.std.proofs.lemmas.List.{get_or-set_same, get_or-set_other, length-set}
use Rattle.std.proofs.lemmas.List.Elements.{All-cons, All-nil, All-head, All-tail}
use Rattle.std.proofs.lemmas.List.Sums.{fold_push}
use Rattle.flip_ledger.proofs.PlanLemmas.{given, planned_next}
use Rattle.flip_ledger.specs.Follows.{has_struck}
use Rattle.flip_ledger.specs.Plan.{time_of, target_of, bit_of, strike_of, due_at, IsPlanned, GivesDue}
use Rattle.flip_ledger.specs.declared.plan.Owner.TheVariants.{Core}
use Rattle.flip_ledger.specs.declared.plan.Strike.{Strike}
use Rattle.flip_ledger.specs.declared.plan.Target.{Target}
use Rattle.flip_ledger.specs.declared.plan.Target.TheVariants.{Word, Register, Tag, Line}
use Rattle.lf_model.proofs.EachLemmas.{each_both, each_at, each_weaker}
use Rattle.lf_model.specs.Caches.Cache.{Cache, empty_cache, slot_at}
use Rattle.lf_model.specs.Caches.Slot.{Slot, empty_slot, history_at, befalls}
use Rattle.lf_model.specs.Course.Arrays.{Arrays, register_cells, struck_by, struck_tag, struck_line, strike, begun, reset_arrays}
use Rattle.lf_model.specs.Course.Core.{strikes_core}
use Rattle.lf_model.specs.Flips.{Moment}
use Rattle.lf_model.specs.declared.config.Config.{Config}
use Rattle.lf_model.specs.declared.config.Shape.{Shape}
use Rattle.lf_model.specs.declared.flip.Flip.{Flip}
use Rattle.lf_model.specs.declared.flip.Flip.TheVariants as flips
use Rattle.replay_arrays.specs.Aims.{own_flips, shape_of, IsByteOf, IsTarget, bits_of, AimsAt}
use Rattle.replay_arrays.specs.Own.{IsOnlyIn, IsOnlyAt}
use Rattle.replay_arrays.specs.Striking.{arrays_of, parts_with, with_arrays, struck_in, with_strike, shape_in, HasNotCome, MayStrike, IsPending, IsAlong}
use Rattle.replay_arrays.specs.declared.parts.Parts.{Parts}
use Rattle.replay_arrays.proofs.OwnLemmas.{only_struck}
use Rattle.replay_caches.specs.SlotsState.{IsToCome as IsToComeInSlots}
use Rattle.replay_units.proofs.PlanLemmas.{plan_of_script, plan_apart}
use Rattle.replay_units.proofs.UnitLemmas.{nothing_at}
use Rattle.replay_units.specs.PlanNumbers.{IsOf}
use Rattle.replay_units.specs.Units.{IsToCome}

-- ---- a flip that has not come still has not once another struck

module _ (k number bit : ℕ) (apart : k ≢ number) where
  not_now : (h : List Moment) → has_struck k h ≡ false → has_struck k (struck_by number bit h) ≡ false
  not_now h none = ap (λ (b : Bool). b || has_struck k h) (ne_eqb number k (λ e. apart (sym e))) ∙ none

  not_in_cells : (hs : List (List Moment)) (cell : ℕ) → IsToCome k hs → IsToCome k (befalls (struck_by number bit) cell hs)
  not_in_cells hs cell none unit lt =
      let long = length-set hs cell (struck_by number bit (history_at cell hs)) in
      let within : unit < length hs = omega (arith, lt, long) in
      elim (cases_eq unit cell) [
        | inl same ↦
            let here : cell < length hs = omega (arith, within, same) in
            ap (λ (u : ℕ). has_struck k (history_at u (befalls (struck_by number bit) cell hs))) same
            ∙ ap (has_struck k) (get_or-set_same hs cell (struck_by number bit (history_at cell hs)) [] here)
            ∙ not_now (history_at cell hs) (none cell here)
        | inr other ↦ ap (has_struck k) (get_or-set_other hs cell unit (struck_by number bit (history_at cell hs)) [] other) ∙ none unit within
      ]

  -- nor in histories at all
  abbrev IsNowhere : List (List Moment) → Type 0
  IsNowhere hs = (byte : ℕ) → has_struck k (history_at byte hs) ≡ false

  nowhere_struck : (hs : List (List Moment)) (byte : ℕ) → IsNowhere hs → IsNowhere (befalls (struck_by number bit) byte hs)
  nowhere_struck [] byte none b = none b
  nowhere_struck (h ∷ hs) zero none zero = not_now h (none zero)
  nowhere_struck (h ∷ hs) zero none (suc b) = none (suc b)
  nowhere_struck (h ∷ hs) (suc byte) none zero = none zero
  nowhere_struck (h ∷ hs) (suc byte) none (suc b) = nowhere_struck hs byte (λ c. none (suc c)) b

  abbrev IsClear : Slot → Type 0
  IsClear slot = IsNowhere slot.tag_histories × IsNowhere slot.line_histories

  -- one slot becomes another
  clear_set : (slots : List Slot) (i : ℕ) (new : Slot) → ((j : ℕ) → IsClear (slice_index_or slots j empty_slot)) → IsClear new
      → (j : ℕ) → IsClear (slice_index_or (slice_set slots i new) j empty_slot)
  clear_set [] i new all is j = all j
  clear_set (s ∷ slots) zero new all is zero = is
  clear_set (s ∷ slots) zero new all is (suc j) = all (suc j)
  clear_set (s ∷ slots) (suc i) new all is zero = all zero
  clear_set (s ∷ slots) (suc i) new all is (suc j) = clear_set slots i new (λ n. all (suc n)) is j

  to_clear : (slots : List Slot) → IsToComeInSlots k slots → (j : ℕ) → IsClear (slice_index_or slots j empty_slot)
  to_clear slots none j = (none.tags j, none.lines j)

  from_clear : (slots : List Slot) → ((j : ℕ) → IsClear (slice_index_or slots j empty_slot)) → IsToComeInSlots k slots
  from_clear slots all = record { tags = λ j. (all j).0; lines = λ j. (all j).1 }

  not_in_tags : (c : Cache) (way set byte : ℕ) → IsToComeInSlots k c.slots → IsToComeInSlots k (struck_tag number bit way set byte c).slots
  not_in_tags c way set byte none =
      let i : ℕ = set * c.shape.ways + way in
      let slot = slot_at (set * c.shape.ways + way) c in
      from_clear (struck_tag number bit way set byte c).slots
      (clear_set c.slots (set * c.shape.ways + way) (record slot { tag_histories = befalls (struck_by number bit) byte slot.tag_histories }) (to_clear c.slots none)
      (nowhere_struck slot.tag_histories byte (none.tags i), none.lines i))

  not_in_lines : (c : Cache) (way set byte : ℕ) → IsToComeInSlots k c.slots → IsToComeInSlots k (struck_line number bit way set byte c).slots
  not_in_lines c way set byte none =
      let i : ℕ = set * c.shape.ways + way in
      let slot = slot_at (set * c.shape.ways + way) c in
      from_clear (struck_line number bit way set byte c).slots
      (clear_set c.slots (set * c.shape.ways + way) (record slot { line_histories = befalls (struck_by number bit) byte slot.line_histories }) (to_clear c.slots none)
      (none.tags i, nowhere_struck slot.line_histories byte (none.lines i)))

  not_come : (a : Parts) (target : Target) → HasNotCome k a → HasNotCome k (with_arrays a (struck_in number bit (arrays_of a) target))
  not_come a (Word addr) none = none
  not_come a (Register cell) none = record { cells = not_in_cells a.cells.histories cell none.cells; fetch_cache = none.fetch_cache; data_cache = none.data_cache }
  not_come a (Tag true way set byte) none = record { cells = none.cells; fetch_cache = not_in_tags a.fetch_cache.cache way set byte none.fetch_cache; data_cache = none.data_cache }
  not_come a (Tag false way set byte) none = record { cells = none.cells; fetch_cache = none.fetch_cache; data_cache = not_in_tags a.data_cache.cache way set byte none.data_cache }
  not_come a (Line true way set byte) none = record { cells = none.cells; fetch_cache = not_in_lines a.fetch_cache.cache way set byte none.fetch_cache; data_cache = none.data_cache }
  not_come a (Line false way set byte) none = record { cells = none.cells; fetch_cache = none.fetch_cache; data_cache = not_in_lines a.data_cache.cache way set byte none.data_cache }

-- ---- the targets stay

module _ (old new : Bool → Shape) (same : (fetch : Bool) → new fetch ≡ old fetch) where
  byte_stays : (fetch : Bool) (bytes way set byte : ℕ) → IsByteOf (old fetch) bytes way set byte → IsByteOf (new fetch) bytes way set byte
  byte_stays fetch bytes way set byte is = let e = same fetch in record { way_fits = rw e is.way_fits; set_fits = rw e is.set_fits; byte_fits = is.byte_fits }

  pub target_stays : (target : Target) → IsTarget old target → IsTarget new target
  target_stays (Word addr) is = is
  target_stays (Register cell) is = is
  target_stays (Tag fetch way set byte) is = byte_stays fetch 4 way set byte is
  target_stays (Line fetch way set byte) is = byte_stays fetch 32 way set byte is

module _ (number bit : ℕ) (a : Parts) where
  abbrev struck : Target → Parts
  struck target = with_arrays a (struck_in number bit (arrays_of a) target)

  shape_stays : (target : Target) (fetch : Bool) → shape_in (struck target) fetch ≡ shape_in a fetch
  shape_stays (Word addr) fetch = refl
  shape_stays (Register cell) fetch = refl
  shape_stays (Tag true way set byte) true = refl
  shape_stays (Tag true way set byte) false = refl
  shape_stays (Tag false way set byte) true = refl
  shape_stays (Tag false way set byte) false = refl
  shape_stays (Line true way set byte) true = refl
  shape_stays (Line true way set byte) false = refl
  shape_stays (Line false way set byte) true = refl
  shape_stays (Line false way set byte) false = refl

  may_still : (target : Target) (s : Strike) → MayStrike a s → s.number ≢ number → MayStrike (struck target) s
  may_still target s may apart = record {
    target = target_stays (shape_in a) (shape_in (struck target)) (shape_stays target) s.target may.target;
    bit = may.bit;
    of_cells = may.of_cells;
    of_fetch_cache = may.of_fetch_cache;
    of_data_cache = may.of_data_cache;
    once = not_come s.number number bit apart a target may.once;
  }

-- the strike of a flip is at its unit
own_target : {core : ℕ} (script : List Flip) (s : Strike) → IsOf (Core core) script s → (number : ℕ) (flip : Flip) → slice_get script number ≡ Some flip
    → s.number ≡ number → target_of flip ≡ s.target
own_target script s of number flip this same =
    let flips : Some flip ≡ Some of.flip = sym this ∙ ap (slice_get script) (sym same) ∙ of.flip_is in
    let it : flip ≡ of.flip = cc in
    ap target_of it ∙ sym (ap (λ (x : Strike). x.target) of.strike_is)

pub pending_struck : (core : ℕ) (script : List Flip) (a : Parts) (next : Strike) (rest : List Strike) → IsPending core script a (next ∷ rest)
    → IsPending core script (with_arrays a (with_strike (arrays_of a) next)) rest
pending_struck core script a next rest pending = record {
  strikes =
      each_both (MayStrike a) (λ (s : Strike). s.number ≢ next.number) (MayStrike (with_arrays a (with_strike (arrays_of a) next))) rest
      (λ s. may_still next.number next.bit a next.target s) pending.strikes.1 pending.apart.0;
  apart = pending.apart.1;
  of_script = pending.of_script.1;
  own = λ number flip this. only_struck number next.number next.bit (target_of flip) a next.target (own_target script next pending.of_script.0 number flip this) (pending.own number flip this);
}

-- ---- the strikes of a step

one_flip : (step number : ℕ) (flip : Flip) (a : Arrays) → strike step number a flip ≡ cond (nat_eq (time_of flip) step) (with_strike a (strike_of (number, flip))) a
one_flip step number (flips.Mem turn addr bit) a = by (nat_eq turn step)
  where
    by : (b : Bool) → a ≡ cond b a a
    by true = refl
    by false = refl
one_flip step number (flips.Reg core t cell bit) a = refl
one_flip step number (flips.Tag core t fetch way set byte bit) a = refl
one_flip step number (flips.Line core t fetch way set byte bit) a = refl

one_due : (b : Bool) (s : Strike) (run : List Strike) (a : Arrays) → fold with_strike (cond b (with_strike a s) a) run ≡ fold with_strike a (cond b (s ∷ run) run)
one_due true s run a = refl
one_due false s run a = refl

pub begun_by_due : (step : ℕ) (numbered : List (ℕ × Flip)) (a : Arrays) → begun numbered step a ≡ fold with_strike a (due_at step (map strike_of numbered))
begun_by_due step [] a = refl
begun_by_due step (flip ∷ numbered) a =
    ap (λ (b : Arrays). begun numbered step b) (one_flip step flip.0 flip.1 a)
    ∙ begun_by_due step numbered (cond (nat_eq (time_of flip.1) step) (with_strike a (strike_of flip)) a)
    ∙ one_due (nat_eq (time_of flip.1) step) (strike_of flip) (due_at step (map strike_of numbered)) a

All_append : (P : Strike → Type 0) (xs ys : List Strike) → All P xs → All P ys → All P (xs ++ ys)
All_append P [] ys all more = more
All_append P (x ∷ xs) ys all more = All-cons P x (xs ++ ys) (All-head P x xs all) (All_append P xs ys (All-tail P x xs all) more)

module _ (core : ℕ) (script : List Flip) (step : ℕ) (first : Parts) (plan : List Strike) where
  pub along_start : IsPending core script first plan → IsAlong core script step first plan first plan
  along_start pending = record { run = []; split = refl; early = All-nil (λ (s : Strike). s.at ≤ step); parts_are = refl; pending = pending }

  pub along_more : (a : Parts) (here : List Strike) → IsAlong core script step first plan a here → (next : Strike) (rest : List Strike) → here ≡ next ∷ rest → next.at ≤ step
      → {a' : Parts} → a' ≡ with_arrays a (with_strike (arrays_of a) next) → IsAlong core script step first plan a' rest
  along_more a here along next rest is now made = record {
    run = along.run ++ next ∷ [];
    split = along.split ∙ ap (λ (xs : List Strike). along.run ++ xs) is ∙ sym (append_assoc along.run (next ∷ []) rest);
    early =
        All_append (λ (s : Strike). s.at ≤ step) along.run (next ∷ []) along.early
        (All-cons (λ (s : Strike). s.at ≤ step) next [] now (All-nil (λ (s : Strike). s.at ≤ step)));
    parts_are =
        made
        ∙ ap (λ (b : Parts). with_arrays b (with_strike (arrays_of b) next)) along.parts_are
        ∙ ap (λ (x : Arrays). with_arrays first x) (sym (fold_push with_strike (arrays_of first) along.run next));
    pending = rw made (pending_struck core script a next rest (subst (IsPending core script a) is along.pending));
  }

  module _ (planned : IsPlanned (Core core) script step plan) (a : Parts) (rest : List Strike) (along : IsAlong core script step first plan a rest) (late : All (λ (s : Strike). step < s.at) rest) where
    pub all_struck : a ≡ with_arrays first (begun (own_flips core script) step (arrays_of first))
    all_struck =
        along.parts_are
        ∙ ap (λ (run : List Strike). with_arrays first (fold with_strike (arrays_of first) run)) (given (Core core) script step along.run rest (subst (IsPlanned (Core core) script step) along.split planned) along.early late)
        ∙ ap (λ (x : Arrays). with_arrays first x) (sym (begun_by_due step (own_flips core script) (arrays_of first)))

    pub planned_later : IsPlanned (Core core) script (step + 1) rest
    planned_later = planned_next (Core core) script step along.run rest (subst (IsPlanned (Core core) script step) along.split planned) along.early late

-- the plan gives none: its strikes are of later steps
pub due_end : (step : ℕ) (old rest : List Strike) (result : Option Strike) → GivesDue step old result rest → ((s : Strike) → result ≡ Some s → ⊥) → All (λ (s : Strike). step < s.at) old
due_end step old rest None gives none = gives.1
due_end step old rest (Some s) gives none = absurd (none s refl)

-- ---- at reset

got_within : (xs : List Flip) (i : ℕ) (x : Flip) → slice_get xs i ≡ Some x → i < length xs
got_within [] i x is = cc
got_within (y ∷ xs) zero x is = omega arith
got_within (y ∷ xs) (suc i) x is = let rest = got_within xs i x is in omega (arith, rest)

none_in_empty : (number n i byte : ℕ) → (has_struck number (history_at byte (slice_index_or (replicate n empty_slot) i empty_slot).tag_histories) ≡ false)
    × (has_struck number (history_at byte (slice_index_or (replicate n empty_slot) i empty_slot).line_histories) ≡ false)
none_in_empty number zero i byte = (ap (has_struck number) (nothing_at 4 byte), ap (has_struck number) (nothing_at 32 byte))
none_in_empty number (suc n) zero byte = (ap (has_struck number) (nothing_at 4 byte), ap (has_struck number) (nothing_at 32 byte))
none_in_empty number (suc n) (suc i) byte = none_in_empty number n i byte

module _ (core : ℕ) (script : List Flip) (config : Config) (n : ℕ) (long : length script ≡ n) where
  abbrev fresh : Parts
  fresh = parts_with n (reset_arrays config)

  not_at_reset : (number : ℕ) → HasNotCome number fresh
  not_at_reset number = record {
    cells = λ unit lt. ap (has_struck number) (nothing_at register_cells unit);
    fetch_cache = record {
      tags = λ i byte. (none_in_empty number (config.fetch_cache.ways * config.fetch_cache.sets) i byte).0;
      lines = λ i byte. (none_in_empty number (config.fetch_cache.ways * config.fetch_cache.sets) i byte).1;
    };
    data_cache = record {
      tags = λ i byte. (none_in_empty number (config.load_cache.ways * config.load_cache.sets) i byte).0;
      lines = λ i byte. (none_in_empty number (config.load_cache.ways * config.load_cache.sets) i byte).1;
    };
  }

  none_in : (number : ℕ) (target : Target) (in_fetch : Bool) (shape : Shape) → IsOnlyIn number target in_fetch (empty_cache shape)
  none_in number target in_fetch shape = record {
    tags = λ slot byte is. absurd (false≢true (sym (none_in_empty number (shape.ways * shape.sets) slot byte).0 ∙ is));
    lines = λ slot byte is. absurd (false≢true (sym (none_in_empty number (shape.ways * shape.sets) slot byte).1 ∙ is));
  }

  none_struck : (number : ℕ) (target : Target) → IsOnlyAt number target fresh
  none_struck number target = record {
    cells = λ cell is. absurd (false≢true (sym (ap (has_struck number) (nothing_at register_cells cell)) ∙ is));
    fetch_cache = none_in number target true config.fetch_cache;
    data_cache = none_in number target false config.load_cache;
  }

  may_first : AllByRecursion (AimsAt core config) script → (s : Strike) → IsOf (Core core) script s → MayStrike fresh s
  may_first aims s of =
      let aim : IfSome (Some of.flip) (AimsAt core config) = subst (λ (f : Option Flip). IfSome f (AimsAt core config)) of.flip_is (each_at (AimsAt core config) script s.number aims) in
      let at = owned of.flip of.owned aim in
      let lt = got_within script s.number of.flip of.flip_is in
      let within : s.number < n = omega (arith, lt, long) in
      record {
        target = subst (IsTarget (shape_of config)) (sym (ap (λ (x : Strike). x.target) of.strike_is)) at.0;
        bit = rw of.strike_is at.1;
        of_cells = within;
        of_fetch_cache = within;
        of_data_cache = within;
        once = not_at_reset s.number;
      }
    where
      owned : (flip : Flip) → strikes_core core flip ≡ true → IfSome (Some flip) (AimsAt core config) → IsTarget (shape_of config) (target_of flip) × (bit_of flip < bits_of (target_of flip))
      owned flip own aim = aim own

  pub pending_start : (plan : List Strike) → AllByRecursion (AimsAt core config) script → IsPlanned (Core core) script 0 plan → IsPending core script fresh plan
  pending_start plan aims planned = record {
    strikes = each_weaker (IsOf (Core core) script) (MayStrike fresh) plan (may_first aims) (plan_of_script (Core core) script plan planned);
    apart = plan_apart (Core core) script plan planned;
    of_script = plan_of_script (Core core) script plan planned;
    own = λ number flip this. none_struck number (target_of flip);
  }
