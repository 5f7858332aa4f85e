-- Words in which a wrong report is written: a right one with a few lines changed.
use Prim.Native.String.{String}
use Rattle.std.specs.Prelude.{ℕ, zero, suc, ◌-◌, ◌++◌, ◌∷◌, [], List, take, drop, slice_set}
use Rattle.lf_model.specs.declared.bus.Transfer.{Transfer}
use Rattle.lf_model.specs.declared.trace.CoreResult.{CoreResult}
use Rattle.lf_model.specs.declared.trace.Fate.{Fate}
use Rattle.lf_model.specs.declared.trace.Op.{Op}
use Rattle.lf_model.specs.declared.trace.Trace.{Trace}
use Rattle.lf_model.specs.declared.trace.Word2.{Word2}

-- with another element at this place
abbrev pub at : {X : Type 0} → ℕ → X → List X → List X
at i x xs = slice_set xs i x

abbrev pub changed_at : {X : Type 0} → ℕ → (X → X) → List X → List X
changed_at i change [] = []
changed_at zero change (x ∷ xs) = change x ∷ xs
changed_at (suc i) change (x ∷ xs) = x ∷ changed_at i change xs

abbrev pub with_core : ℕ → (CoreResult → CoreResult) → Trace → Trace
with_core c change trace = record trace { cores = changed_at c change trace.cores }

abbrev pub with_transfer : ℕ → Transfer → Trace → Trace
with_transfer turn t trace = record trace { transfers = at turn t trace.transfers }

abbrev pub with_operation : ℕ → Op → Trace → Trace
with_operation i o trace = record trace { order = at i o trace.order }

abbrev pub with_fate : ℕ → Fate → Trace → Trace
with_fate i fate trace = record trace { fates = at i fate trace.fates }

abbrev pub with_watched : ℕ → Word2 → Trace → Trace
with_watched i word trace = record trace { watch = at i word trace.watch }

-- the lines of a report with another one in place of the line of this number, from 1
abbrev pub with_line : ℕ → String → List String → List String
with_line number line lines = at (number - 1) line lines

-- and with one more line, which gets this number
abbrev pub with_new_line : ℕ → String → List String → List String
with_new_line number line lines = take (number - 1) lines ++ line ∷ drop (number - 1) lines

abbrev pub without_line : ℕ → List String → List String
without_line number lines = take (number - 1) lines ++ drop number lines
