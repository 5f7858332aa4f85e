-- The touches of an instruction make of the arrays what the course says: first what it tries, and then, where it retires, its
-- effect.
use Rattle.std.proofs.Common.{◌≡◌, ◌∙◌, ◌++◌, ℕ, false, List, Option, Some, None, is_some, fold, refl, sym, ap}
use Rattle.std.proofs.lemmas.List.Sums.{fold-append}
use Rattle.std.specs.Option.{option_map}
use Rattle.lf_model.specs.Course.Arrays.{Arrays, cells_of, read_cells}
use Rattle.lf_model.specs.Course.Attempt.{trap_attempt, operation_attempt, access_attempt, barrier_attempt, register_attempt}
use Rattle.lf_model.specs.Course.LocalStep.{retired_arrays}
use Rattle.lf_model.specs.Course.Touches.{touched, unless_bad}
use Rattle.lf_model.specs.Effect.{AccessKind, Access, Effect}
use Rattle.lf_model.specs.State.{State}
use Rattle.lf_model.specs.Step.{Parts, first_bad}
use Rattle.lf_model.specs.declared.bus.Why.{Why}
use Rattle.lf_model.specs.declared.flip.Flip.{Flip}
use Rattle.lf_model.specs.declared.step.Did.{Did}
use Rattle.lf_model.specs.declared.step.Did.TheVariants.{Retired, Halt}
use Rattle.lf_model.specs.declared.step.RegBad.{RegBad}
use Rattle.lf_model.specs.declared.touch.Touch.{Touch}
use Rattle.lf_model.proofs.TouchLemmas.{read, retire}
use Rattle.v8_exec.specs.CourseParts.{AnswersBy}
use Rattle.v8_exec.specs.Touching.{reads_of, looks_by, looks_of, retires_of, touches_of}
use Rattle.v8_exec.proofs.CourseReads.{tried, cell_of, reads_are, finds_bad}
use Rattle.v8_exec.proofs.EffectShape.{IsApart}

module _ (flips : List (ℕ × Flip)) (parts : Parts) (s : State) (e : Effect) (apart : IsApart s e) where
  -- ---- once its registers are read

  looks : (x : Access) (kind : AccessKind) (a : Arrays) → fold (touched flips) a (looks_by x kind) ≡ (access_attempt x a kind).arrays
  looks x AccessKind.Load a = refl
  looks x AccessKind.Store a = refl
  looks x AccessKind.Atomic a = refl

  waits : (a : Arrays) (barrier : Option Why) → a ≡ (barrier_attempt a barrier).arrays
  waits a None = refl
  waits a (Some why) = refl

  operates : (a : Arrays) (access : Option Access) → fold (touched flips) a (looks_of access) ≡ (operation_attempt e a access).arrays
  operates a None = waits a e.barrier
  operates a (Some x) = looks x x.kind a

  traps : (a : Arrays) (trap : Option ℕ) → e.trap ≡ trap → fold (touched flips) a (looks_of e.access) ≡ (trap_attempt e a trap).arrays
  traps a None is = operates a e.access
  traps a (Some tt_) is = rw (apart.trapped tt_ is) refl

  -- after a bad register nothing is looked up
  acts : (a : Arrays) (found : Option RegBad) (bad : Option ℕ) → bad ≡ option_map cell_of found
      → fold (touched flips) a (unless_bad (is_some found) (looks_of e.access)) ≡ (register_attempt e a bad).arrays
  acts a None bad is = rw is (traps a e.trap refl)
  acts a (Some here) bad is = rw is refl

  -- ---- the whole

  tries : (a : Arrays) → AnswersBy a parts
      → fold (touched flips) a (reads_of parts s.ctl.cwp e.reads ++ unless_bad (is_some (first_bad parts s.ctl.cwp e.reads)) (looks_of e.access)) ≡ (tried s e a).arrays
  tries a answers =
      let window = s.ctl.cwp in
      let later = unless_bad (is_some (first_bad parts window e.reads)) (looks_of e.access) in
      let cells = cells_of window e.reads in
      fold-append (touched flips) a (reads_of parts window e.reads) later
      ∙ ap (λ (l : List Touch). fold (touched flips) (fold (touched flips) a l) later) (reads_are parts window e.reads a.cells answers.bad)
      ∙ ap (λ (b : Arrays). fold (touched flips) b later) (read flips cells a)
      ∙ acts (record a { cells = (read_cells cells a.cells).cells }) (first_bad parts window e.reads) (read_cells cells a.cells).bad
      (finds_bad parts window e.reads a.cells answers.bad).bad

  -- the touches of an instruction that came to this: what it tries, and then what a retiring one does
  pub instruction : (a : Arrays) (did : Did) → AnswersBy a parts
      → fold (touched flips) a (touches_of parts s.ctl.cwp e did) ≡ fold (touched flips) (tried s e a).arrays (retires_of e did)
  instruction a did answers =
      let reads = reads_of parts s.ctl.cwp e.reads in
      let looked = unless_bad (is_some (first_bad parts s.ctl.cwp e.reads)) (looks_of e.access) in
      fold-append (touched flips) a reads (looked ++ retires_of e did)
      ∙ fold-append (touched flips) (fold (touched flips) a reads) looked (retires_of e did)
      ∙ ap (λ (b : Arrays). fold (touched flips) b (retires_of e did)) (sym (fold-append (touched flips) a reads looked) ∙ tries a answers)

  -- one that retires
  pub retired : (a : Arrays) → AnswersBy a parts → fold (touched flips) a (touches_of parts s.ctl.cwp e Retired) ≡ retired_arrays e (tried s e a).arrays
  retired a answers = instruction a Retired answers ∙ retire flips e (tried s e a).arrays

  -- one that halts the core
  pub halted : (a : Arrays) (tt_ : ℕ) → AnswersBy a parts → e.trap ≡ Some tt_ → s.ctl.et ≡ false
      → fold (touched flips) a (touches_of parts s.ctl.cwp e (Halt tt_)) ≡ retired_arrays e (tried s e a).arrays
  halted a tt_ answers trap disabled =
      instruction a (Halt tt_) answers
      ∙ ap (λ (l : List Touch). fold (touched flips) (tried s e a).arrays l) (sym (apart.halted tt_ trap disabled))
      ∙ retire flips e (tried s e a).arrays
