-- What an attempt comes to by the footprint of an instruction is what it comes to by the instruction's effect.
use Rattle.std.proofs.Common.{◌≡◌, ◌∙◌, ℕ, Bool, true, false, List, Option, Some, None, is_some, refl, sym, ap, if◌then◌else◌}
use Rattle.std.specs.Option.{option_map}
use Rattle.lf_model.specs.Caches.Look.{LookUp, look}
use Rattle.lf_model.specs.Caches.Look.LookUp.{Hit, Miss}
use Rattle.lf_model.specs.Course.Arrays.{Arrays, CellsRead, cells_of, read_cells}
use Rattle.lf_model.specs.Course.Attempt.{comes_to, barrier_attempt, access_attempt, operation_attempt, trap_attempt, register_attempt, read_attempt, fetch_attempt, looked_attempt, attempt}
use Rattle.lf_model.specs.Course.Outcome.{Outcome}
use Rattle.lf_model.specs.Effect.{AccessKind as Kind, Access as Operation, Effect}
use Rattle.lf_model.specs.Start.{is_text_word}
use Rattle.lf_model.specs.State.{State}
use Rattle.lf_model.specs.declared.bus.Why.{Why}
use Rattle.lf_model.specs.declared.image.Image.{Image}
use Rattle.replay_effects.specs.Attempts.{access_by, operation_by, trap_by, register_by, read_by, fetch_by, looked_by}
use Rattle.replay_effects.specs.Footprints.{kind_of, access_of, IsFootprint}
use Rattle.replay_effects.specs.declared.footprint.Access.{Access}
use Rattle.replay_effects.specs.declared.footprint.Footprint.{Footprint}

accesses : (x : Operation) (a : Arrays) (kind : Kind) → access_by (access_of x) a (kind_of kind) ≡ access_attempt x a kind
accesses x a Kind.Load = refl
accesses x a Kind.Store = refl
accesses x a Kind.Atomic = refl

module _ (s : State) (e : Effect) (f : Footprint) (is : IsFootprint s.ctl.cwp e f) where
  operates : (a : Arrays) (access : Option Operation) → operation_by f a (option_map access_of access) ≡ operation_attempt e a access
  operates a None = ap (λ (barrier : Option Why). barrier_attempt a barrier) is.barrier
  operates a (Some x) = accesses x a x.kind

  traps : (a : Arrays) (trap : Option ℕ) → trap_by f a (is_some trap) ≡ trap_attempt e a trap
  traps a None = ap (λ (access : Option Access). operation_by f a access) is.access ∙ operates a e.access
  traps a (Some tt_) = refl

  registers : (a : Arrays) (bad : Option ℕ) → register_by f a bad ≡ register_attempt e a bad
  registers a None = ap (λ (trap : Bool). trap_by f a trap) is.trap ∙ traps a e.trap
  registers a (Some cell) = refl

  reads : (a : Arrays) (read : CellsRead) → read_by f a read ≡ read_attempt e a read
  reads a read = registers (record a { cells = read.cells }) read.bad

  fetches : (a : Arrays) (answer : LookUp) → fetch_by f a answer ≡ fetch_attempt s e a answer
  fetches a (Hit slot) =
      ap (λ (cells : List ℕ). read_by f a (read_cells cells a.cells)) is.reads
      ∙ reads a (read_cells (cells_of s.ctl.cwp e.reads) a.cells)
  fetches a (Miss why) = refl

  module _ (image : Image) (a : Arrays) where
    -- PC is a text word
    pub at_text : is_text_word image.text s.ctl.pc ≡ true → looked_by f a (look s.ctl.pc 4 a.fetch_cache) ≡ attempt image s e a
    unfolding attempt
    at_text text =
        let looked = look s.ctl.pc 4 a.fetch_cache in
        fetches (record a { fetch_cache = looked.cache }) looked.answer
        ∙ sym (ap (λ (b : Bool). if b then looked_attempt s e a looked else comes_to Outcome.NoText a) text)

    -- it is none
    pub off_text : is_text_word image.text s.ctl.pc ≡ false → comes_to Outcome.NoText a ≡ attempt image s e a
    unfolding attempt
    off_text text = sym (ap (λ (b : Bool). if b then looked_attempt s e a (look s.ctl.pc 4 a.fetch_cache) else comes_to Outcome.NoText a) text)
