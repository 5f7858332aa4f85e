-- The fate of each flip, as the record of the one that it strikes says: of a flip of memory the bus's, and of others their core's.
use Rattle.std.specs.Prelude.{ℕ, ◌+◌, List, [], ◌∷◌, slice_get, slice_index_or}
use Rattle.std.specs.Option.{option_map_or}
use Rattle.lf_model.specs.declared.flip.Flip.{Flip}
use Rattle.lf_model.specs.declared.flip.Flip.TheVariants.{Mem, Reg, Tag, Line}
use Rattle.lf_model.specs.declared.record.CoreRecord.{CoreRecord}
use Rattle.lf_model.specs.declared.trace.Fate.{Fate}
use Rattle.lf_model.specs.declared.trace.Fate.TheVariants.{Late}

abbrev pub core_fate : List CoreRecord → ℕ → ℕ → Fate
core_fate records core i = slice_index_or (option_map_or (λ (kept : CoreRecord). kept.fates) (slice_get records core) []) i Late

-- the fate of flip i
abbrev pub fate_recorded : List CoreRecord → List Fate → ℕ → Flip → Fate
fate_recorded records bus i (Mem turn addr bit) = slice_index_or bus i Late
fate_recorded records bus i (Reg core step cell bit) = core_fate records core i
fate_recorded records bus i (Tag core step fetch way set byte bit) = core_fate records core i
fate_recorded records bus i (Line core step fetch way set byte bit) = core_fate records core i

-- those of all flips, the first of which has this number
abbrev pub fates_recorded : List CoreRecord → List Fate → ℕ → List Flip → List Fate
fates_recorded records bus i [] = []
fates_recorded records bus i (flip ∷ script) = fate_recorded records bus i flip ∷ fates_recorded records bus (i + 1) script
