-- An instruction tried on a copy of its core: what is noted of the touches that it makes.
use Rattle.std.specs.Prelude.{ℕ, ◌*◌, ◌^◌, nat_lt, Bool, false, List, [], ◌∷◌, ◌++◌, length, Option, Some, None, if◌then◌else◌}
use Rattle.lf_model.specs.Step.{Parts}
use Rattle.lf_model.specs.declared.step.Look.TheVariants.{Hit}
use Rattle.lf_model.specs.declared.touch.Touch.{Touch}
use Rattle.lf_model.specs.declared.touch.Touch.TheVariants.{StartStep, LookFetch, ReadCell, WriteCell, LookData, StoreData, FlushCaches, SnoopData, FillFetch, FillData}
use Rattle.replay_effects.specs.declared.footprint.Access.{Access}
use Rattle.replay_effects.specs.declared.footprint.AccessKind.TheVariants.{Load, Store}

-- reads and writes: the register cells; access: the load or store; got: what a load reads; waiting: the instruction is made
-- to find a store that waits, by which a barrier shows
pub record Noted : Type 0 where
  pub reads : List ℕ
  pub writes : List ℕ
  pub access : Option Access
  pub got : ℕ
  pub waiting : Bool

-- before the instruction
abbrev pub nothing_noted : ℕ → Bool → Noted
nothing_noted got waiting = record { reads = []; writes = []; access = None; got = got; waiting = waiting }

-- one more cell, where there is room for so many
abbrev pub noted : ℕ → List ℕ → ℕ → List ℕ
noted most cells c = if nat_lt (length cells) most then cells ++ c ∷ [] else cells

abbrev pub most_reads : ℕ
most_reads = 4

abbrev pub most_writes : ℕ
most_writes = 2

-- a number as so many bytes can have it, and 0 in place of another
abbrev pub fitted : ℕ → ℕ → ℕ
fitted got len = if nat_lt got (2 ^ (8 * len)) then got else 0

-- every register reads well, each load hits, and a store always finds room
abbrev pub trial_answers : Noted → Parts
trial_answers s = record { bad = []; look = λ addr len. Hit (fitted s.got len) 0; full = false; waiting = s.waiting }

abbrev pub trial_touch : Noted → Touch → Noted
trial_touch s (ReadCell cell) = record s { reads = noted most_reads s.reads cell }
trial_touch s (WriteCell cell) = record s { writes = noted most_writes s.writes cell }
trial_touch s (LookData addr len) = record s { access = Some (record { kind = Load; addr = addr; len = len; put = 0 }) }
trial_touch s (StoreData addr len value) = record s { access = Some (record { kind = Store; addr = addr; len = len; put = value }) }
trial_touch s (StartStep step) = s
trial_touch s (LookFetch addr) = s
trial_touch s FlushCaches = s
trial_touch s (SnoopData addr) = s
trial_touch s (FillFetch addr valid) = s
trial_touch s (FillData addr valid) = s
