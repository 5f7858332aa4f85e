-- The first place at which each rule of the ledger fails, none where it fails nowhere.
use Rattle.std.specs.Prelude.{◌≡◌, ℕ, List, length, map, Option, slice_get}
use Rattle.lf_model.specs.Bus.Replay.{LogEntry}
use Rattle.lf_model.specs.Bus.Walk.{walk_after, WalkAt}
use Rattle.lf_model.specs.Course.Progress.{Completion}
use Rattle.lf_model.specs.Ledger.Account.{core_reported, map_numbered, turn_reported}
use Rattle.lf_model.specs.Ledger.OrderAccount.{before_all, along, place_by_course, place_as_reported}
use Rattle.lf_model.specs.Ledger.Rule.{TriedBefore, NoneLeft}
use Rattle.lf_model.specs.declared.bus.Transfer.{Transfer as Turn}
use Rattle.lf_model.specs.declared.place.Place.{Place}
use Rattle.lf_model.specs.declared.place.Place.TheVariants.{Transfer, Final}
use Rattle.lf_model.specs.declared.setup.Setup.{Setup}
use Rattle.lf_model.specs.declared.trace.Fate.{Fate}
use Rattle.lf_model.specs.declared.trace.Op.{Op}
use Rattle.lf_model.specs.declared.trace.Trace.{Trace}
use Rattle.ledger_audit.specs.Account.{core_given, turn_given}
use Rattle.ledger_audit.specs.declared.given.CoreGiven.{CoreGiven}
use Rattle.ledger_audit.specs.declared.given.TurnGiven.{TurnGiven}

-- the walk of the scrubber is tried at each transfer, and last at the number of its turns
abbrev pub WalkFailsFirst : Setup → Trace → Option Place → Type 0
WalkFailsFirst setup trace =
    TriedBefore (length trace.transfers) (WalkAt setup.config.scrub trace.transfers) Transfer
    (TriedBefore 1 (λ i. (walk_after setup.config.scrub trace.transfers).turns ≡ setup.config.scrub_turns) (λ i. Final) NoneLeft)

-- ---- the places at which a trace reports what is given

abbrev pub SameCoreAt : List CoreGiven → Trace → ℕ → Type 0
SameCoreAt given trace c = slice_get (map core_given given) c ≡ slice_get (map_numbered (core_reported trace) trace.cores) c

-- by the entries of the log, and the completions of each core
abbrev pub SameOrderAt : List LogEntry → List (List Completion) → List Op → ℕ → Type 0
SameOrderAt log cores order i = slice_get (along (place_by_course log cores) before_all order) i ≡ slice_get (along place_as_reported before_all order) i

abbrev pub SameTurnAt : List TurnGiven → List Turn → ℕ → Type 0
SameTurnAt given told i = slice_get (map turn_given given) i ≡ slice_get (map turn_reported told) i

abbrev pub SameFateAt : List Fate → List Fate → ℕ → Type 0
SameFateAt given told i = slice_get given i ≡ slice_get told i
