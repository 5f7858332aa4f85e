-- The answers of the readers: for a whole text, and for the fields of a line.
use Rattle.std.specs.Prelude.{ℕ, ◌≡◌, ◌⊎◌, List, [], ◌∷◌, Some, None, Result, Ok, Err}
use Rattle.lf_model.specs.declared.config.Config.{Config}
use Rattle.lf_model.specs.declared.config.Shape.{Shape}
use Rattle.lf_model.specs.declared.flip.Flip.{Flip}
use Rattle.lf_model.specs.declared.setup.Actor.{Actor}
use Rattle.lf_model.specs.declared.setup.Event.{Event}
use Rattle.run_texts.specs.declared.error.TextWhy.{TextWhy}
use Rattle.run_texts.specs.declared.flip_line.CacheBit.{CacheBit}
use Rattle.run_texts.specs.declared.flip_line.FlipKind.{FlipKind}
use Rattle.run_texts.specs.Columns.{field_faults, first_fault, values}
use Rattle.run_texts.specs.EventLine.{fields_fault, fields_event, IsEventOf}
use Rattle.run_texts.specs.FlipLine.{columns, cache_columns, flip_with, IsOfMachine, IsStepOf, IsBitOf}

-- the result is this answer, unless memory ran out, which this error tells
abbrev pub IsUnlessMemory : {A E : Type 0} → E → Result A E → Result A E → Type 0
IsUnlessMemory memory answer result = (result ≡ answer) ⊎ (result ≡ Err memory)

-- the answer of the fields behind the first one: the flip that they spell, or else their first fault
abbrev pub IsFlipOrFault : Config → FlipKind → List (List ℕ) → Result Flip TextWhy → Type 0
IsFlipOrFault config kind others (Ok flip) =
    (first_fault (field_faults (columns config kind) others) ≡ None)
    × (flip_with kind (values (columns config kind) others) ≡ Some flip) × IsOfMachine config flip
IsFlipOrFault config kind others (Err why) = first_fault (field_faults (columns config kind) others) ≡ Some why

-- the same of the fields of a bit of a cache of this shape, in a slot of so many bytes
abbrev pub IsBitOrFault : Config → Shape → ℕ → List (List ℕ) → Result CacheBit TextWhy → Type 0
IsBitOrFault config shape bytes others (Ok b) =
    (first_fault (field_faults (cache_columns config shape bytes) others) ≡ None)
    × (values (cache_columns config shape bytes) others ≡ b.core ∷ b.step ∷ b.way ∷ b.set ∷ b.byte ∷ b.bit ∷ [])
    × IsStepOf config b.core b.step × IsBitOf shape bytes b.way b.set b.byte b.bit
IsBitOrFault config shape bytes others (Err why) = first_fault (field_faults (cache_columns config shape bytes) others) ≡ Some why

-- the answer of the fields behind the first one of a line of a schedule, likewise
abbrev pub IsEventOrFault : Config → Actor → List (List ℕ) → Result Event TextWhy → Type 0
IsEventOrFault config actor others (Ok event) =
    (fields_fault config actor others ≡ None) × (fields_event config actor others ≡ Some event) × IsEventOf config event
IsEventOrFault config actor others (Err why) = fields_fault config actor others ≡ Some why
