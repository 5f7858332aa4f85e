-- What holds of the machine between two events holds after the next: a step of a core without a turn, a turn of a core, and one of the scrubber.
use Rattle.leon_core.specs.Moves.{StoresIn, store_steps}
use Rattle.std.proofs.Common.{◌≡◌, ◌≢◌, ◌∙◌, ◌+◌, ◌<◌, ◌≤◌, ◌==◌, ◌++◌, ℕ, zero, suc, true, false, List, [], ◌∷◌, Option, Some, None, IfSome, length, slice_get, slice_set, refl, ap, sym, subst, arith, inl, inr}
use Rattle.std.proofs.lemmas.Bool.{cases_eq, ne_eqb, and_parts}
use Rattle.std.proofs.lemmas.List.Folds.{list_all-append}
use Rattle.std.proofs.lemmas.List.Sums.{fold_push}
use Rattle.std.proofs.lemmas.Option.{slice_get_within}
use Rattle.std.specs.List.{AllByRecursion as Each, list_all}
use Rattle.ahb_bus.specs.BusOk.{BusOk}
use Rattle.ahb_bus.specs.BusState.{BusState, answered}
use Rattle.core_course.specs.Calls.{Joins}
use Rattle.core_course.specs.CoreOk.{CoreOk}
use Rattle.core_parts.specs.Completes.{Keeps}
use Rattle.core_parts.specs.CoreValue.{CoreValue}
use Rattle.lf_model.proofs.EachLemmas.{each_append, each_weaker}
use Rattle.lf_model.specs.Bus.Walk.{Walk, scrubber, next_transfer, walk_start, walk_by, walk_after}
use Rattle.lf_model.specs.Records.BusRecord.{is_in_memory}
use Rattle.lf_model.specs.Records.SeenOrder.{is_entry_of}
use Rattle.lf_model.specs.declared.bus.Entry.{Entry}
use Rattle.lf_model.specs.declared.bus.Transfer.{Transfer}
use Rattle.lf_model.specs.declared.config.Config.{Config}
use Rattle.lf_model.specs.declared.setup.Setup.{Setup}
use Rattle.machine_play.specs.BusTurn.{IsTurnOf}
use Rattle.machine_play.specs.Machine.{IsAtRest, IsCoreAt, IsMachine}
use Rattle.machine_play.specs.MachineValue.{MachineValue, with_core, with_core_turn, with_scrub_turn}
use Rattle.machine_play.proofs.Joining.{joins_whole, joins_later, joins_kept}
use Rattle.scrubber.proofs.WholeWalk.{IsNext, IsWalk, walk_goes_on, next_made, others_next}
use Rattle.scrubber.specs.WalkState.{WalkState, walk_made}

-- ---- an element that takes another's place

pub get_set_same : {X : Type 0} (xs : List X) (n : ℕ) (x y : X) → slice_get xs n ≡ Some x → slice_get (slice_set xs n y) n ≡ Some y
get_set_same [] n x y there = absurd (cc)
get_set_same (z ∷ xs) zero x y there = refl
get_set_same (z ∷ xs) (suc n) x y there = get_set_same xs n x y there

pub get_set_other : {X : Type 0} (xs : List X) (n k : ℕ) (y : X) → k ≢ n → slice_get (slice_set xs n y) k ≡ slice_get xs k
get_set_other [] n k y other = refl
get_set_other (z ∷ xs) zero zero y other = absurd (other refl)
get_set_other (z ∷ xs) zero (suc k) y other = refl
get_set_other (z ∷ xs) (suc n) zero y other = refl
get_set_other (z ∷ xs) (suc n) (suc k) y other = get_set_other xs n k y (λ e. other (ap suc e))

length_slice_set : {X : Type 0} (xs : List X) (n : ℕ) (y : X) → length (slice_set xs n y) ≡ length xs
length_slice_set [] n y = refl
length_slice_set (z ∷ xs) zero y = refl
length_slice_set (z ∷ xs) (suc n) y = ap suc (length_slice_set xs n y)

-- what holds of each at its place
each_set : (P Q : ℕ → CoreValue → Type 0) (vs : List CoreValue) (n : ℕ) (old new : CoreValue) → slice_get vs n ≡ Some old → Q n new
    → ((c : ℕ) (v : CoreValue) → c ≢ n → slice_get vs c ≡ Some v → P c v → Q c v) → ((c : ℕ) → IfSome (slice_get vs c) (P c)) → (c : ℕ) → IfSome (slice_get (slice_set vs n new) c) (Q c)
each_set P Q vs n old new there now others h c = elim (cases_eq c n) [
  | inl same ↦ subst (λ (k : ℕ). IfSome (slice_get (slice_set vs n new) k) (Q k)) (sym same) (subst (λ o. IfSome o (Q n)) (sym (get_set_same vs n old new there)) now)
  | inr other ↦ subst (λ o. IfSome o (Q c)) (sym (get_set_other vs n c new other)) (by other (slice_get vs c) refl (h c))
]
  where
    by : c ≢ n → (found : Option CoreValue) → slice_get vs c ≡ found → IfSome found (P c) → IfSome found (Q c)
    by other None at p = tt
    by other (Some v) at p = others c v other at p

-- ---- its stores retired in steps that it made

pub stores_stepped : (steps : ℕ) (old new : List ℕ) → Each (λ step. step < steps) old → StoresIn steps old new → (later : ℕ) → later ≡ steps + 1 → Each (λ step. step < later) new
stores_stepped steps old new before s later is =
    subst (Each (λ step. step < later)) (sym s.stores)
    (each_append (λ step. step < later) old s.now (each_weaker (λ step. step < steps) (λ step. step < later) old (λ step less. omega (arith, less, is)) before)
    (each_weaker (λ step. step ≡ steps) (λ step. step < later) s.now (λ step e. omega (arith, e, is)) s.in_step))

-- ---- the core that moves

module _ (setup : Setup) (m : MachineValue) (is : IsMachine setup m) where
  pub core_there : (n : ℕ) (v : CoreValue) → slice_get m.cores n ≡ Some v → IsCoreAt setup m.bus n v
  core_there n v there = subst (λ o. IfSome o (IsCoreAt setup m.bus n)) there (is.cores n)

  pub number_within : (n : ℕ) (v : CoreValue) → slice_get m.cores n ≡ Some v → n < setup.config.cores
  number_within n v there = omega (arith, slice_get_within m.cores n v there, is.one_each)

  pub few_cores : setup.config.cores ≤ 8
  few_cores = subst (λ (s : Setup). s.config.cores ≤ 8) is.bus_setup is.bus_ok.cores

  no_scrubber : (n : ℕ) → n < setup.config.cores → n ≢ scrubber
  no_scrubber n within e = omega (arith, within, e, few_cores)

  -- a core of the machine
  module _ (n : ℕ) (old : CoreValue) (there : slice_get m.cores n ≡ Some old) (new : CoreValue) (keeps : Keeps old new) (rests : IsAtRest new.phase) (made : Each (λ step. step < new.steps) (store_steps new.ops)) where
    was : IsCoreAt setup m.bus n old
    was = core_there n old there

    -- ---- a step without a turn

    pub step_keeps : ((log : List Entry) (ts : List Transfer) → CoreOk old log ts → CoreOk new log ts) → IsMachine setup (with_core n new m)
    step_keeps kept = record {
      one_each = length_slice_set m.cores n new ∙ is.one_each;
      cores = each_set (IsCoreAt setup m.bus) (IsCoreAt setup m.bus) m.cores n old new there now (λ c v other at h. h) is.cores;
      bus_setup = is.bus_setup;
      bus_ok = is.bus_ok;
      idle = is.idle;
      scrubber_at = is.scrubber_at;
    }
      where
        now : IsCoreAt setup m.bus n new
        now = record {
          setup_is = keeps.setup ∙ was.setup_is;
          number = keeps.core ∙ was.number;
          rests = rests;
          stores_made = made;
          joins = joins_kept old m.bus.log m.bus.transfers was.joins new keeps kept;
        }

    -- ---- a turn

    module _ (bus : BusState) (t : Transfer) (entries : List Entry) (turn : IsTurnOf n t entries m.bus bus) where
      lies : is_in_memory setup.config.ram t ≡ true
      lies =
          let all : list_all (is_in_memory bus.setup.config.ram) (m.bus.transfers ++ t ∷ []) ≡ true = subst (λ (us : List Transfer). list_all (is_in_memory bus.setup.config.ram) us ≡ true) turn.transfers_is turn.ok.in_memory in
          let last : list_all (is_in_memory bus.setup.config.ram) (t ∷ []) ≡ true = (and_parts _ _ (sym (list_all-append (is_in_memory bus.setup.config.ram) m.bus.transfers (t ∷ [])) ∙ all)).1 in
          subst (λ (s : Setup). is_in_memory s.config.ram t ≡ true) (turn.setup_is ∙ is.bus_setup) (and_parts _ true last).0

      other_core : (c : ℕ) (v : CoreValue) → c ≢ n → slice_get m.cores c ≡ Some v → IsCoreAt setup m.bus c v → IsCoreAt setup bus c v
      other_core c v other at h = record {
        setup_is = h.setup_is;
        number = h.number;
        rests = h.rests;
        stores_made = h.stores_made;
        joins =
            subst (λ (us : List Transfer). Joins v bus.log us) (sym turn.transfers_is)
            (subst (λ (es : List Entry). Joins v es (m.bus.transfers ++ t ∷ [])) (sym turn.log_is)
            (joins_later v m.bus.log m.bus.transfers h.joins entries t
            (each_weaker (λ (e : Entry). e.core ≡ n) (λ (e : Entry). is_entry_of v.arch.core e ≡ false) entries (λ e own. ne_eqb e.core v.arch.core (λ same. other (sym h.number ∙ (sym same ∙ own)))) turn.own)
            (ne_eqb v.arch.core t.master (λ same. other (sym h.number ∙ (same ∙ turn.master_is))))
            (subst (λ (s : Setup). is_in_memory s.config.ram t ≡ true) (sym h.setup_is) lies)));
      }

      walk_stays : walk_after setup.config.scrub bus.transfers ≡ walk_after setup.config.scrub m.bus.transfers
      walk_stays =
          ap (walk_after setup.config.scrub) turn.transfers_is
          ∙ (fold_push (walk_by setup.config.scrub) (walk_start setup.config.scrub) m.bus.transfers t
          ∙ not_its (ne_eqb t.master scrubber (λ e. no_scrubber n (number_within n old there) (sym turn.master_is ∙ e))))
        where
          not_its : (t.master == scrubber) ≡ false → walk_by setup.config.scrub (walk_after setup.config.scrub m.bus.transfers) t ≡ walk_after setup.config.scrub m.bus.transfers
          not_its other = rw other refl

      pub turn_keeps : CoreOk new bus.log bus.transfers → IsMachine setup (with_core_turn n new bus m)
      turn_keeps ok = record {
        one_each = length_slice_set m.cores n new ∙ is.one_each;
        cores = each_set (IsCoreAt setup m.bus) (IsCoreAt setup bus) m.cores n old new there now other_core is.cores;
        bus_setup = turn.setup_is ∙ is.bus_setup;
        bus_ok = turn.ok;
        idle = turn.idle;
        scrubber_at = record {
          config = is.scrubber_at.config;
          walk_is = is.scrubber_at.walk_is ∙ sym walk_stays;
          each = subst (λ (us : List Transfer). IsWalk setup.config.scrub us) (sym turn.transfers_is)
              (walk_goes_on setup.config.scrub m.bus.transfers t is.scrubber_at.each
              (others_next (length m.bus.transfers) (walk_after setup.config.scrub m.bus.transfers) t (λ e. no_scrubber n (number_within n old there) (sym turn.master_is ∙ e))));
        };
      }
        where
          now : IsCoreAt setup bus n new
          now = record {
            setup_is = keeps.setup ∙ was.setup_is;
            number = keeps.core ∙ was.number;
            rests = rests;
            stores_made = made;
            joins = joins_whole new bus.log bus.transfers ok;
          }

  -- ---- a turn of the scrubber

  abbrev pub bus_walked : BusState
  bus_walked = walk_made m.walk (record m.bus { begun = true })

  abbrev pub walk_then : WalkState
  walk_then = record m.walk { walk = walk_after m.walk.config.scrub (walk_made m.walk (record m.bus { begun = true })).transfers }

  pub scrub_keeps : BusOk (walk_made m.walk (record m.bus { begun = true }))
      → IsMachine setup (with_scrub_turn (record m.walk { walk = walk_after m.walk.config.scrub (walk_made m.walk (record m.bus { begun = true })).transfers }) (walk_made m.walk (record m.bus { begun = true })) m)
  scrub_keeps ok = record {
    one_each = is.one_each;
    cores = λ c. core_by c (slice_get m.cores c) refl (is.cores c);
    bus_setup = is.bus_setup;
    bus_ok = ok;
    idle = refl;
    scrubber_at = record {
      config = is.scrubber_at.config;
      walk_is = ap (λ (k : Config). walk_after k.scrub bus_walked.transfers) is.scrubber_at.config;
      each = walk_goes_on setup.config.scrub m.bus.transfers t is.scrubber_at.each
          (subst (λ (w : Walk). IsNext (length m.bus.transfers) w t) is.scrubber_at.walk_is (next_made m.walk (record m.bus { begun = true })));
    };
  }
    where
      t : Transfer
      t = answered (record m.bus { begun = true }) (next_transfer (length m.bus.transfers) m.walk.walk m.walk.walk.noted)

      its_master : (noted : List ℕ) → (next_transfer (length m.bus.transfers) m.walk.walk noted).master ≡ scrubber
      its_master [] = refl
      its_master (addr ∷ rest) = refl

      lies : is_in_memory setup.config.ram t ≡ true
      lies =
          let last : list_all (is_in_memory m.bus.setup.config.ram) (t ∷ []) ≡ true = (and_parts (list_all (is_in_memory m.bus.setup.config.ram) m.bus.transfers) (list_all (is_in_memory m.bus.setup.config.ram) (t ∷ []))
          (sym (list_all-append (is_in_memory m.bus.setup.config.ram) m.bus.transfers (t ∷ [])) ∙ ok.in_memory)).1 in
          subst (λ (s : Setup). is_in_memory s.config.ram t ≡ true) is.bus_setup (and_parts (is_in_memory m.bus.setup.config.ram t) true last).0

      core_by : (c : ℕ) (found : Option CoreValue) → slice_get m.cores c ≡ found → IfSome found (IsCoreAt setup m.bus c) → IfSome found (IsCoreAt setup bus_walked c)
      core_by c None at h = tt
      core_by c (Some v) at h = record {
        setup_is = h.setup_is;
        number = h.number;
        rests = h.rests;
        stores_made = h.stores_made;
        joins = joins_later v m.bus.log m.bus.transfers h.joins [] t tt
            (ne_eqb v.arch.core t.master (λ same. no_scrubber c (number_within c v at) (sym h.number ∙ (same ∙ its_master m.walk.walk.noted))))
            (subst (λ (s : Setup). is_in_memory s.config.ram t ≡ true) (sym h.setup_is) lies);
      }
