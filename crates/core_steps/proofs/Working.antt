-- What the calls of a try ensure, case by case, is what the course says of it.
use Rattle.std.proofs.Common.{◌≡◌, ◌∙◌, ◌+◌, ◌++◌, ◌-◌, ◌%◌, ℕ, Bool, true, false, cond, List, [], Option, Some, None, is_some, fold, nat_lt, length, refl, sym, ap, arith}
use Rattle.std.specs.Option.{option_map}
use Rattle.std.proofs.lemmas.List.{append_assoc}
use Rattle.core_laws.specs.StepTouches.{access_looks, operation_looks, trap_looks, register_looks}
use Rattle.core_parts.specs.PortState.{arrays_in}
use Rattle.core_parts.specs.Work.{WorkState, work_touch, work_answers}
use Rattle.core_steps.specs.Works.{effect_at, need_at, Works}
use Rattle.lf_model.specs.Caches.Look.{LookUp, look}
use Rattle.lf_model.specs.Caches.Look.LookUp.{Hit, Miss}
use Rattle.lf_model.specs.Course.Arrays.{Arrays, cells_of, read_cells}
use Rattle.lf_model.specs.Course.Attempt.{Attempt, comes_to, attempt}
use Rattle.lf_model.specs.Course.Outcome.{Need, drains, trap_needs}
use Rattle.lf_model.specs.Course.Outcome.Need.{NoTurn, Turn}
use Rattle.lf_model.specs.Course.Outcome.Outcome.{FetchMiss, NoText}
use Rattle.lf_model.specs.Course.Touches.{unless_bad, read_touches}
use Rattle.lf_model.specs.Effect.{AccessKind, Access, Effect}
use Rattle.lf_model.specs.Effects.{effect}
use Rattle.lf_model.specs.Flips.{Moment}
use Rattle.lf_model.specs.Instructions.{instruction_of}
use Rattle.lf_model.specs.Run.{Run, site_of, effect_at_pc}
use Rattle.lf_model.specs.Start.{is_text_word, word_at}
use Rattle.lf_model.specs.State.{State}
use Rattle.lf_model.specs.Step.{Seen, Parts, Does, state_of, run_seen, run_after, counted, first_bad, drains_first, came_to}
use Rattle.lf_model.specs.Traps.{fetch_trap}
use Rattle.lf_model.specs.declared.bus.TurnKind.TheVariants as kinds
use Rattle.lf_model.specs.declared.bus.Why.{Why}
use Rattle.lf_model.specs.declared.bus.Why.TheVariants as whys
use Rattle.lf_model.specs.declared.control.Arch.{Arch}
use Rattle.lf_model.specs.declared.step.Did.{Did}
use Rattle.lf_model.specs.declared.step.Did.TheVariants as answers
use Rattle.lf_model.specs.declared.step.RegBad.{RegBad}
use Rattle.lf_model.specs.declared.step.Turn.{Turn as TurnAsked}
use Rattle.lf_model.specs.declared.step.Turn.TheVariants as turns
use Rattle.lf_model.specs.declared.touch.Touch.{Touch}
use Rattle.lf_model.specs.declared.touch.Touch.TheVariants.{LookFetch}
use Rattle.parity_cache.specs.CacheState.{CacheState, answer_of}
use Rattle.v8_exec.proofs.CourseAnswers.{answered}
use Rattle.v8_exec.proofs.CourseReads.{tried, cell_of, reads_are, finds_bad}
use Rattle.v8_exec.proofs.EffectShape.{IsApart, effect_apart}
use Rattle.v8_exec.specs.CourseParts.{AgreesWith, AnswersBy, did_by}
use Rattle.v8_exec.specs.Touching.{looks_by, looks_of, retires_of, touches_of}

-- ---- what the parts answer is by their arrays

agrees : (addr len : ℕ) (c : CacheState) (found : LookUp) → AgreesWith c.cache found (answer_of addr len c found)
agrees addr len c (Hit slot) = refl
agrees addr len c (Miss why) = refl

answers_by : (s : WorkState) → AnswersBy (arrays_in s.ports) (work_answers s)
answers_by s = record { bad = refl; look_up = λ addr len. agrees addr len s.ports.data_cache (look addr len s.ports.data_cache.cache).answer }

-- ---- an instruction's touches are those of the course

kind_same : (x : Access) (kind : AccessKind) → looks_by x kind ≡ access_looks x kind
kind_same x AccessKind.Load = refl
kind_same x AccessKind.Store = refl
kind_same x AccessKind.Atomic = refl

looks_same : (access : Option Access) → looks_of access ≡ operation_looks access
looks_same None = refl
looks_same (Some x) = kind_same x x.kind

module _ (s : State) (e : Effect) (apart : IsApart s e) where
  trap_same : (trap : Option ℕ) → e.trap ≡ trap → looks_of e.access ≡ trap_looks e trap
  trap_same None is = looks_same e.access
  trap_same (Some tt_) is = rw (apart.trapped tt_ is) refl

  register_same : (found : Option RegBad) (bad : Option ℕ) → bad ≡ option_map cell_of found → unless_bad (is_some found) (looks_of e.access) ≡ register_looks e bad
  register_same None bad is = rw is (trap_same e.trap refl)
  register_same (Some here) bad is = rw is refl

  touches_same : (parts : Parts) (a : Arrays) (did : Did) → AnswersBy a parts → touches_of parts s.ctl.cwp e did
      ≡ (read_touches (cells_of s.ctl.cwp e.reads) a.cells ++ register_looks e (read_cells (cells_of s.ctl.cwp e.reads) a.cells).bad) ++ retires_of e did
  touches_same parts a did says =
      let cells = cells_of s.ctl.cwp e.reads in
      let looks = register_looks e (read_cells cells a.cells).bad in
      ap (λ (l : List Touch). l ++ (unless_bad (is_some (first_bad parts s.ctl.cwp e.reads)) (looks_of e.access) ++ retires_of e did)) (reads_are parts s.ctl.cwp e.reads a.cells says.bad)
      ∙ (ap (λ (l : List Touch). read_touches cells a.cells ++ (l ++ retires_of e did)) (register_same (first_bad parts s.ctl.cwp e.reads) (read_cells cells a.cells).bad (finds_bad parts s.ctl.cwp e.reads a.cells says.bad).bad)
      ∙ sym (append_assoc (read_touches cells a.cells) looks (retires_of e did)))

-- ---- the fetch hits

module _ (was : WorkState) (old new : Arch) (before after : Seen) where
  abbrev pc : ℕ
  pc = old.ctl.pc

  abbrev state : State
  state = state_of old before

  abbrev here : Effect
  here = effect_at old before was

  -- the parts once the fetch cache has answered
  abbrev pub fetched : WorkState
  fetched = work_touch was (LookFetch pc)

  text_effect : is_text_word was.setup.image.text pc ≡ true → here ≡ effect (site_of was.setup old.core) state (instruction_of (word_at was.setup.image pc))
  unfolding effect_at_pc
  text_effect is = rw is refl

  no_text_effect : is_text_word was.setup.image.text pc ≡ false → here ≡ fetch_trap state
  unfolding effect_at_pc
  no_text_effect is = rw is refl

  hit_attempt : (slot : ℕ) → is_text_word was.setup.image.text pc ≡ true → (look pc 4 was.ports.fetch_cache.cache).answer ≡ Hit slot
      → attempt was.setup.image state here (arrays_in was.ports) ≡ tried state here (arrays_in fetched.ports)
  unfolding attempt
  hit_attempt slot is hit = rw (is, hit) refl

  -- what `exec` ensures of the image's word
  pub exec_works : (slot : ℕ) (did : Did) (now : WorkState) (e : Effect) → is_text_word was.setup.image.text pc ≡ true → (look pc 4 was.ports.fetch_cache.cache).answer ≡ Hit slot
      → e ≡ effect (site_of was.setup old.core) state (instruction_of (word_at was.setup.image pc))
      → Does old.core (work_answers fetched) e did (run_seen old before) (run_seen new after)
      → now ≡ fold work_touch fetched (touches_of (work_answers fetched) old.ctl.cwp e did) → new.n ≡ old.n + counted did → new.core ≡ old.core
      → Works false did old new before after was now
  exec_works slot did now e is hit effect_is does touches counts core =
      let same : e ≡ here = effect_is ∙ sym (text_effect is) in
      let apart : IsApart state here = rw (text_effect is) (effect_apart (site_of was.setup old.core) state (instruction_of (word_at was.setup.image pc))) in
      let says = answers_by fetched in
      record {
        answer = does.answer ∙ (ap (came_to (work_answers fetched) state) same ∙ (answered (work_answers fetched) state here apart (arrays_in fetched.ports) says
            ∙ ap (λ (x : Attempt). did_by state here x.arrays.cells (need_at false old was x.outcome)) (sym (hit_attempt slot is hit))));
        run = does.leaves ∙ ap (λ e. run_after old.core (work_answers was) did e (run_seen old before)) same;
        counts = counts;
        core = core;
        left = touches ∙ (ap (λ e. fold work_touch fetched (touches_of (work_answers fetched) old.ctl.cwp e did)) same
            ∙ (ap (fold work_touch fetched) (touches_same state here apart (work_answers fetched) (arrays_in fetched.ports) did says)
            ∙ rw (is, hit) refl));
      }

  -- ---- the fetch misses

  none_retires : (e : Effect) (waits : Bool) (why : Why) (turn : TurnAsked) → retires_of e (cond waits (answers.Need (turns.Drain why)) (answers.Need turn)) ≡ []
  none_retires e true why turn = refl
  none_retires e false why turn = refl

  same_run : (core : ℕ) (parts : Parts) (e : Effect) (r : Run) (waits : Bool) (why : Why) (turn : TurnAsked) → r ≡ run_after core parts (cond waits (answers.Need (turns.Drain why)) (answers.Need turn)) e r
  same_run core parts e r true why turn = refl
  same_run core parts e r false why turn = refl

  none_counted : (n : ℕ) (waits : Bool) (why : Why) (turn : TurnAsked) → n ≡ n + counted (cond waits (answers.Need (turns.Drain why)) (answers.Need turn))
  none_counted n true why turn = omega arith
  none_counted n false why turn = omega arith

  abbrev waits : Bool
  waits = nat_lt 0 (length was.ports.waiting)

  -- a turn that is asked for, or the drain before it, leaves all as it was
  module _ (did : Did) (why : Why) (turn : TurnAsked) (asks : did ≡ drains_first (work_answers was) why (answers.Need turn)) (arch : new ≡ old) (seen : after ≡ before) where
    abbrev asked : Did
    asked = cond waits (answers.Need (turns.Drain why)) (answers.Need turn)

    runs : run_seen new after ≡ run_after old.core (work_answers was) did here (run_seen old before)
    runs = rw (arch, seen, asks) (same_run old.core (work_answers was) here (run_seen old before) waits why turn)

    counts : new.n ≡ old.n + counted did
    counts = rw (arch, asks) (none_counted old.n waits why turn)

    unretired : retires_of here did ≡ []
    unretired = ap (retires_of here) asks ∙ none_retires here waits why turn

  did_drains : (e : Effect) (cells : List (List Moment)) (b : Bool) (why : Why) (turn : TurnAsked) (need : Need) → answers.Need turn ≡ did_by state e cells need
      → cond b (answers.Need (turns.Drain why)) (answers.Need turn) ≡ did_by state e cells (drains b why need)
  did_drains e cells true why turn need is = refl
  did_drains e cells false why turn need is = is

  miss_attempt : (why : Why) → is_text_word was.setup.image.text pc ≡ true → (look pc 4 was.ports.fetch_cache.cache).answer ≡ Miss why
      → attempt was.setup.image state here (arrays_in was.ports) ≡ comes_to (FetchMiss why) (arrays_in fetched.ports)
  unfolding attempt
  miss_attempt why is miss = rw (is, miss) refl

  pub miss_works : (why : Why) (did : Did) (now : WorkState) → is_text_word was.setup.image.text pc ≡ true → (look pc 4 was.ports.fetch_cache.cache).answer ≡ Miss why
      → did ≡ drains_first (work_answers was) whys.Miss (answers.Need (turns.Fetch (pc - pc % 32) why)) → new ≡ old → after ≡ before → now ≡ fetched
      → Works false did old new before after was now
  miss_works why did now is miss asks arch seen left =
      let turn = turns.Fetch (pc - pc % 32) why in
      record {
        answer = asks ∙ (did_drains here (arrays_in fetched.ports).cells waits whys.Miss turn (Turn kinds.Fetch why) refl
            ∙ ap (λ (x : Attempt). did_by state here x.arrays.cells (need_at false old was x.outcome)) (sym (miss_attempt why is miss)));
        run = runs did whys.Miss turn asks arch seen;
        counts = counts did whys.Miss turn asks arch seen;
        core = ap (λ (a : Arch). a.core) arch;
        left = left ∙ rw (unretired did whys.Miss turn asks arch seen) (rw (is, miss) refl);
      }

  -- ---- the window is over

  pub over_works : (did : Did) (now : WorkState) → did ≡ drains_first (work_answers was) whys.Window (answers.Need turns.Snoop) → new ≡ old → after ≡ before → now ≡ was
      → Works true did old new before after was now
  over_works did now asks arch seen left = record {
    answer = asks ∙ did_drains here (arrays_in was.ports).cells waits whys.Window turns.Snoop (Turn kinds.Snoop whys.Window) refl;
    run = runs did whys.Window turns.Snoop asks arch seen;
    counts = counts did whys.Window turns.Snoop asks arch seen;
    core = ap (λ (a : Arch). a.core) arch;
    left = left ∙ rw (unretired did whys.Window turns.Snoop asks arch seen) refl;
  }

  -- ---- PC is no text word

  no_text_attempt : is_text_word was.setup.image.text pc ≡ false → attempt was.setup.image state here (arrays_in was.ports) ≡ comes_to NoText (arrays_in was.ports)
  unfolding attempt
  no_text_attempt is = rw is refl

  trap_answer : (et b : Bool) (cells : List (List Moment)) → old.ctl.et ≡ et → cond et answers.Retired (cond b (answers.Need (turns.Drain whys.End)) (answers.Halt 0x01))
      ≡ did_by state (fetch_trap state) cells (cond et NoTurn (drains b whys.End NoTurn))
  trap_answer true b cells enabled = rw enabled refl
  trap_answer false true cells disabled = refl
  trap_answer false false cells disabled = rw disabled refl

  pub trap_works : (did : Did) (now : WorkState) → is_text_word was.setup.image.text pc ≡ false
      → Does old.core (work_answers was) (fetch_trap state) did (run_seen old before) (run_seen new after)
      → now ≡ fold work_touch was (touches_of (work_answers was) old.ctl.cwp (fetch_trap state) did) → new.n ≡ old.n + counted did → new.core ≡ old.core
      → Works false did old new before after was now
  trap_works did now is does touches counts_ core = record {
    answer = does.answer ∙ (trap_answer old.ctl.et waits (arrays_in was.ports).cells refl
        ∙ (ap (λ e. did_by state e (arrays_in was.ports).cells (trap_needs old.ctl.et waits)) (sym (no_text_effect is))
        ∙ ap (λ (x : Attempt). did_by state here x.arrays.cells (need_at false old was x.outcome)) (sym (no_text_attempt is))));
    run = does.leaves ∙ ap (λ e. run_after old.core (work_answers was) did e (run_seen old before)) (sym (no_text_effect is));
    counts = counts_;
    core = core;
    left = touches ∙ (ap (λ e. fold work_touch was (retires_of e did)) (sym (no_text_effect is)) ∙ rw is refl);
  }
