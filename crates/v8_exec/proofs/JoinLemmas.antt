-- An instruction as a whole: it reads its registers, and does no more where one of them is bad.
use Rattle.std.proofs.Common.{◌≡◌, ◌∙◌, ◌++◌, ℕ, Bool, true, false, List, [], Option, Some, None, is_some, fold, refl, sym, ap}
use Rattle.std.proofs.lemmas.List.Sums.{fold-append}
use Rattle.lf_model.specs.Course.Touches.{unless_bad}
use Rattle.lf_model.specs.Effect.{Site, Effect, with_reads}
use Rattle.lf_model.specs.Effects.{completed, effect}
use Rattle.lf_model.specs.Instructions.{registers_read}
use Rattle.lf_model.specs.OrdinaryTraps.{ordinary_trap}
use Rattle.lf_model.specs.Run.{Run}
use Rattle.lf_model.specs.State.{State}
use Rattle.lf_model.specs.Step.{Parts, first_bad, drains_first, Does}
use Rattle.lf_model.specs.Traps.{unless_trap}
use Rattle.lf_model.specs.declared.bus.Why.TheVariants.{End}
use Rattle.lf_model.specs.declared.instruction.Instr.{Instr}
use Rattle.lf_model.specs.declared.step.Did.{Did}
use Rattle.lf_model.specs.declared.step.Did.TheVariants.{Stop}
use Rattle.lf_model.specs.declared.step.RegBad.{RegBad}
use Rattle.lf_model.specs.declared.touch.Touch.{Touch}
use Rattle.v8_exec.specs.Frame.{DoesAfterReads}
use Rattle.v8_exec.specs.Touching.{reads_of, looks_of, retires_of, acts_of, touches_of}

-- ---- which registers an effect reads

unless_trap-reads : (trap : Option ℕ) (s : State) (e : Effect) → (unless_trap trap s e).reads ≡ e.reads
unless_trap-reads None s e = refl
unless_trap-reads (Some tt_) s e = refl

-- an instruction reads its registers whether it traps or not
pub effect-reads : (site : Site) (s : State) (i : Instr) → (effect site s i).reads ≡ registers_read i
unfolding effect
effect-reads site s i = unless_trap-reads (ordinary_trap site s i) s (with_reads (registers_read i) (completed site s i))

-- ---- what it comes to

pub does_good : (core : ℕ) (parts : Parts) (e : Effect) (registers : List ℕ) (did : Did) (old new : Run)
    → e.reads ≡ registers → first_bad parts old.state.ctl.cwp registers ≡ None → DoesAfterReads core parts e did old new → Does core parts e did old new
does_good core parts e registers did old new reads good does =
    let none : first_bad parts old.state.ctl.cwp e.reads ≡ None = ap (λ (l : List ℕ). first_bad parts old.state.ctl.cwp l) reads ∙ good in
    record { answer = rw none does.answer; leaves = does.leaves }

stop_by : (core : ℕ) (parts : Parts) (e : Effect) (bad : RegBad) (r : Run) (waiting : Bool)
    → parts.waiting ≡ waiting → first_bad parts r.state.ctl.cwp e.reads ≡ Some bad
    → Does core parts e (drains_first parts End (Stop 0x20 bad.cell bad.syn)) r r
stop_by core parts e bad r true h found = record { answer = rw found refl; leaves = rw h refl }
stop_by core parts e bad r false h found = record { answer = rw found refl; leaves = rw h refl }

-- a bad register stops the core, and a store that waits drains before
pub does_bad : (core : ℕ) (parts : Parts) (e : Effect) (registers : List ℕ) (bad : RegBad) (r : Run)
    → e.reads ≡ registers → first_bad parts r.state.ctl.cwp registers ≡ Some bad
    → Does core parts e (drains_first parts End (Stop 0x20 bad.cell bad.syn)) r r
does_bad core parts e registers bad r reads found =
    stop_by core parts e bad r parts.waiting refl (ap (λ (l : List ℕ). first_bad parts r.state.ctl.cwp l) reads ∙ found)

-- ---- its touches

touches_by : {X : Type 0} (touch : X → Touch → X) (parts : Parts) (window : ℕ) (e : Effect) (did : Did) (bad : Option RegBad) (acts : List Touch) (x y : X)
    → first_bad parts window e.reads ≡ bad → acts ≡ unless_bad (is_some bad) (looks_of e.access) ++ retires_of e did
    → y ≡ fold touch (fold touch x (reads_of parts window e.reads)) acts → y ≡ fold touch x (touches_of parts window e did)
touches_by {X = X} touch parts window e did bad acts x y found is both =
    both ∙ sym (fold-append touch x (reads_of parts window e.reads) acts)
    ∙ ap (λ (l : List Touch). fold touch x (reads_of parts window e.reads ++ l)) is
    ∙ ap (λ (b : Option RegBad). fold touch x (reads_of parts window e.reads ++ (unless_bad (is_some b) (looks_of e.access) ++ retires_of e did))) (sym found)

pub touches_good : {X : Type 0} (touch : X → Touch → X) (parts : Parts) (window : ℕ) (e : Effect) (registers : List ℕ) (did : Did) (x y : X)
    → e.reads ≡ registers → first_bad parts window registers ≡ None
    → y ≡ fold touch (fold touch x (reads_of parts window registers)) (acts_of e did) → y ≡ fold touch x (touches_of parts window e did)
touches_good {X = X} touch parts window e registers did x y reads good both =
    touches_by touch parts window e did None (acts_of e did) x y
    (ap (λ (l : List ℕ). first_bad parts window l) reads ∙ good) refl
    (both ∙ ap (λ (l : List ℕ). fold touch (fold touch x (reads_of parts window l)) (acts_of e did)) (sym reads))

-- after a bad register there are no others, since the instruction doesn't retire
pub touches_bad : {X : Type 0} (touch : X → Touch → X) (parts : Parts) (window : ℕ) (e : Effect) (registers : List ℕ) (bad : RegBad) (did : Did) (x y : X)
    → e.reads ≡ registers → first_bad parts window registers ≡ Some bad → retires_of e did ≡ []
    → y ≡ fold touch x (reads_of parts window registers) → y ≡ fold touch x (touches_of parts window e did)
touches_bad {X = X} touch parts window e registers bad did x y reads found unretired only =
    touches_by touch parts window e did (Some bad) [] x y
    (ap (λ (l : List ℕ). first_bad parts window l) reads ∙ found) (sym unretired)
    (only ∙ ap (λ (l : List ℕ). fold touch x (reads_of parts window l)) (sym reads))
