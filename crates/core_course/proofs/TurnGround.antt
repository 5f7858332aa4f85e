-- A core as it makes its turn on the bus, after others made theirs: its place, and the ground that it has then.
use Rattle.std.proofs.Common.{◌≡◌, ◌∙◌, ◌+◌, ◌≤◌, ◌==◌, ◌++◌, ℕ, true, false, List, [], ◌∷◌, None, refl, ap, sym, arith}
use Rattle.std.proofs.lemmas.Bool.{and_parts}
use Rattle.std.proofs.lemmas.List.Folds.{list_all-append}
use Rattle.std.specs.List.{AllByRecursion as Each, list_all, flat_map}
use Rattle.core_laws.specs.Running.{with_later, IsNoStop}
use Rattle.core_parts.specs.CoreValue.{CoreValue}
use Rattle.core_parts.specs.Phases.{halt_by}
use Rattle.core_parts.specs.Seat.{errors_by, WaitsBy}
use Rattle.core_parts.specs.declared.phase.Phase.{Phase}
use Rattle.core_parts.specs.declared.phase.Phase.TheVariants.{Between, Begun, Needs, Ended}
use Rattle.core_course.proofs.LaterSeat.{Reaches, reaches_later}
use Rattle.core_course.proofs.LocalGround.{place_of}
use Rattle.core_course.proofs.Reaches.{so_far, read_so_far}
use Rattle.core_course.proofs.Running.{ground_running, IsUnended, RunsOn}
use Rattle.core_course.proofs.TurnReach.{after_others}
use Rattle.core_parts.specs.Completes.{Keeps}
use Rattle.lf_model.specs.Course.Core.{Given, Ground, given_by, ground_of, is_register_stop}
use Rattle.lf_model.specs.Course.Course.{stored_at, with_unseen}
use Rattle.lf_model.specs.Course.Progress.{Progress}
use Rattle.lf_model.specs.Records.BusRecord.{is_in_memory}
use Rattle.lf_model.specs.Run.{Run}
use Rattle.lf_model.specs.declared.bus.Entry.{Entry}
use Rattle.lf_model.specs.declared.bus.Transfer.{Transfer}
use Rattle.lf_model.specs.declared.setup.Setup.{Setup}
use Rattle.lf_model.specs.declared.trace.CoreEnd.{CoreEnd}
use Rattle.lf_model.specs.declared.trace.CoreEnd.TheVariants.{Limit}

-- its place as the turn begins: it has to snoop what others stored
abbrev pub turn_place : CoreValue → List Transfer → List Transfer → Progress
turn_place v ts us = with_unseen (flat_map stored_at us) (place_of v ts)

-- its ground with what it reads and stores later, and this end after so many steps
abbrev pub ground_later : CoreValue → Given → CoreEnd → ℕ → Ground
ground_later v later end last = ground_of v.setup v.arch.core (with_later (given_by v.ops) later) end last

-- ---- it has not ended

halts_none : (phase : Phase) → IsUnended phase → halt_by phase ≡ None
halts_none Between is = refl
halts_none Begun is = refl
halts_none (Needs turn) is = refl
halts_none (Ended end) is = absurd is

pub none_met : (steps turns : ℕ) (phase : Phase) → IsUnended phase → errors_by steps turns phase ≡ []
none_met steps turns Between is = refl
none_met steps turns Begun is = refl
none_met steps turns (Needs turn) is = refl
none_met steps turns (Ended end) is = absurd is

pub some_wait : (n : ℕ) (k : Progress) (phase : Phase) → IsUnended phase → WaitsBy n k phase → k.drained + n ≡ k.stored
some_wait n k Between is h = h
some_wait n k Begun is h = h
some_wait n k (Needs turn) is h = h
some_wait n k (Ended end) is h = absurd is

-- ---- what is asked of its turn: the transfers since its last one are of others, and the new one is its own, of its next step
pub record TakesTurn (old : CoreValue) (ts us : List Transfer) (t : Transfer) : Type 0 where
  pub unended : IsUnended old.phase
  pub others : Each (λ (u : Transfer). (old.arch.core == u.master) ≡ false) us
  pub in_memory : list_all (is_in_memory old.setup.config.ram) ((ts ++ us) ++ t ∷ []) ≡ true
  pub own : (old.arch.core == t.master) ≡ true
  pub step : t.step ≡ old.steps

module _ (old new : CoreValue) (log : List Entry) (ts us : List Transfer) (t : Transfer) (later : Given) (h : RunsOn old log ts) (x : TakesTurn old ts us t)
    (keeps : Keeps old new) (given : given_by new.ops ≡ with_later (given_by old.ops) later) where
  pub ground_new : (end : CoreEnd) (last : ℕ) → ground_of new.setup new.arch.core (given_by new.ops) end last ≡ ground_later old later end last
  ground_new end last =
      ap (λ (s : Setup). ground_of s new.arch.core (given_by new.ops) end last) keeps.setup
      ∙ (ap (λ c. ground_of old.setup c (given_by new.ops) end last) keeps.core
      ∙ ap (λ g. ground_of old.setup old.arch.core g end last) given)

  pub limit_new : new.setup.config.steps ≡ old.setup.config.steps
  limit_new = ap (λ (s : Setup). s.config.steps) keeps.setup

  pub running_new : ground_running new ≡ ground_later old later Limit old.setup.config.steps
  running_new = ap (λ (n : ℕ). ground_of new.setup new.arch.core (given_by new.ops) Limit n) limit_new ∙ ground_new Limit old.setup.config.steps

  seen_in_memory : list_all (is_in_memory old.setup.config.ram) ts ≡ true
  seen_in_memory =
      let all : list_all (is_in_memory old.setup.config.ram) (ts ++ us) ≡ true =
      (and_parts _ _ (sym (list_all-append (is_in_memory old.setup.config.ram) (ts ++ us) (t ∷ [])) ∙ x.in_memory)).0 in
      (and_parts _ _ (sym (list_all-append (is_in_memory old.setup.config.ram) ts us) ∙ all)).0

  -- it has come to its place
  pub come : (end : CoreEnd) (last : ℕ) → last ≤ old.setup.config.steps → old.steps ≤ last → is_register_stop end ≡ false → Each (IsNoStop old.arch.core end) ts
      → Reaches (ground_later old later end last) (ts ++ us) old.steps (turn_place old ts us)
  come end last allowed before no_cell no_stop = after_others (ground_later old later end last) ts us old.steps (place_of old ts) x.others
      (reaches_later old.setup old.arch.core (given_by old.ops) later end last allowed ts old.steps (place_of old ts) no_stop
      (record { read = read_so_far old log ts h; within = omega (arith, h.is_seat.steps, before); last = λ stop. absurd (cc) })
      seen_in_memory (so_far old log ts h))

  pub going : (turn_place old ts us).run.state.halt ≡ None
  going = ap (λ (r : Run). r.state.halt) h.is_seat.run ∙ halts_none old.phase x.unended
