-- The files of a run, as they are told: the setup that they spell, or the first of them that is refused. They are tried in
-- the order configuration, image, script, and last the schedule or the report.
use Rattle.std.specs.Prelude.{ℕ, ◌≡◌, ◌<◌, ◌≤◌, ⊤, List, [], length, unwrap_or, Ok, Err}
use Rattle.lf_io.specs.Held.{FileMap}
use Rattle.lf_model.specs.Promise.Regular.{IsRegular}
use Rattle.lf_model.specs.Report as reports
use Rattle.lf_model.specs.declared.config.Config.{Config}
use Rattle.lf_model.specs.declared.flip.Flip.{Flip}
use Rattle.lf_model.specs.declared.image.Image as images
use Rattle.lf_model.specs.declared.setup.Event.{Event}
use Rattle.lf_model.specs.declared.setup.Setup.{Setup}
use Rattle.lf_model.specs.declared.trace.Trace.{Trace}
use Rattle.elf_image.specs.Answer as elf
use Rattle.report_reader.specs.Dashes.{report_at}
use Rattle.run_texts.specs.Configuration.{config_answer}
use Rattle.run_texts.specs.Grammar.{IsFirstFault}
use Rattle.run_texts.specs.Schedule.{event_lines, IsSchedule}
use Rattle.run_texts.specs.Script.{flip_lines, IsScript}
use Rattle.run_texts.specs.declared.config_error.ConfigErr.TheVariants.{Text, Key, Kind, Range}
use Rattle.leon_main.specs.Files.{limit_of, name_in, IsFileOf}
use Rattle.leon_main.specs.Words.{Task, Play, Audit, FileNames}
use Rattle.leon_main.specs.declared.fault.Fault.{Fault}
use Rattle.leon_main.specs.declared.fault.Fault.TheVariants.{TooLong, NotToml, UnknownKey, WrongKind, OutOfRange, BadImage, BadScript, BadSchedule, BadReport}
use Rattle.leon_main.specs.declared.run_file.RunFile.{RunFile}
use Rattle.leon_main.specs.declared.run_file.RunFile.TheVariants.{Configuration, Image, Script, Schedule, Report}

-- the bytes of a file; a missing one reads as an empty one
abbrev pub bytes_of : FileMap → List ℕ → List ℕ
bytes_of files name = unwrap_or (files name) []

-- the bytes are within the limit of this file
abbrev pub IsWithin : RunFile → List ℕ → Type 0
IsWithin file bytes = length bytes ≤ limit_of file

-- the bytes of each file are accepted, and spell this
abbrev pub SpellsConfiguration : List ℕ → Config → Type 0
SpellsConfiguration bytes config = IsWithin Configuration bytes × (config_answer bytes ≡ Ok config)

abbrev pub SpellsImage : Config → List ℕ → images.Image → Type 0
SpellsImage config bytes image = IsWithin Image bytes × elf.IsFileOf config.ram bytes image

abbrev pub SpellsScript : Config → List ℕ → List Flip → Type 0
SpellsScript config bytes flips = IsWithin Script bytes × IsScript config bytes flips

abbrev pub SpellsSchedule : Config → List ℕ → List Event → Type 0
SpellsSchedule config bytes events = IsWithin Schedule bytes × IsSchedule config bytes events

-- the bytes are the report of this trace
abbrev pub SpellsReport : List ℕ → Trace → Type 0
SpellsReport bytes trace = IsWithin Report bytes × (IsRegular trace × (bytes ≡ reports.report trace))

-- what the last file spells: the events of a schedule, or the trace of a report
abbrev pub Spelled : Task → Type 0
Spelled Play = List Event
Spelled Audit = Trace

abbrev pub SpellsLast : (task : Task) → Config → List ℕ → Spelled task → Type 0
SpellsLast Play config bytes events = SpellsSchedule config bytes events
SpellsLast Audit config bytes trace = SpellsReport bytes trace

-- configuration, image and script are accepted, and spell this setup
pub record SpellSetup (names : FileNames) (files : FileMap) (setup : Setup) : Type 0 where
  pub configuration : SpellsConfiguration (bytes_of files names.configuration) setup.config
  pub image : SpellsImage setup.config (bytes_of files names.image) setup.image
  pub script : SpellsScript setup.config (bytes_of files names.script) setup.flips

-- all files are accepted, and spell this setup and these events, or this setup and this trace
pub record AreParts (task : Task) (names : FileNames) (files : FileMap) (setup : Setup) (spelled : Spelled task) : Type 0 where
  pub setup_spelled : SpellSetup names files setup
  pub last : SpellsLast task setup.config (bytes_of files names.last) spelled

-- the files before one are accepted, and spell these parts of a setup
abbrev pub AreAcceptedBefore : RunFile → FileNames → FileMap → Setup → Type 0
AreAcceptedBefore Configuration names files setup = ⊤
AreAcceptedBefore Image names files setup = SpellsConfiguration (bytes_of files names.configuration) setup.config
AreAcceptedBefore Script names files setup = SpellsConfiguration (bytes_of files names.configuration) setup.config
    × SpellsImage setup.config (bytes_of files names.image) setup.image
AreAcceptedBefore Schedule names files setup = SpellSetup names files setup
AreAcceptedBefore Report names files setup = SpellSetup names files setup

-- the bytes of a file are not what its reader takes, and this is what it tells
abbrev pub IsFaulty : RunFile → Config → List ℕ → Fault → Type 0
IsFaulty Configuration config bytes NotToml = config_answer bytes ≡ Err Text
IsFaulty Configuration config bytes UnknownKey = config_answer bytes ≡ Err Key
IsFaulty Configuration config bytes (WrongKind key) = config_answer bytes ≡ Err (Kind key)
IsFaulty Configuration config bytes (OutOfRange key) = config_answer bytes ≡ Err (Range key)
IsFaulty Image config bytes (BadImage number offset) = elf.IsRefused config.ram bytes number offset
IsFaulty Script config bytes (BadScript line why) = IsFirstFault (flip_lines config) bytes line why
IsFaulty Schedule config bytes (BadSchedule line why) = IsFirstFault (event_lines config) bytes line why
IsFaulty Report config bytes (BadReport line) = report_at bytes ≡ Err line
IsFaulty _ config bytes _ = ⊥

-- the bytes of a file are refused: they are too many, or else faulty
abbrev pub IsRefused : RunFile → Config → List ℕ → Fault → Type 0
IsRefused file config bytes (TooLong other) = (other ≡ file) × (limit_of file < length bytes)
IsRefused file config bytes fault = IsWithin file bytes × IsFaulty file config bytes fault

-- the first refusal: a file is refused with this fault, and those before it are accepted; what these do not spell of the
-- setup has no meaning
pub record IsFirstRefusal (task : Task) (names : FileNames) (files : FileMap) (fault : Fault) : Type 0 where
  pub file : RunFile
  pub is_read : IsFileOf file task
  pub setup : Setup
  pub accepted : AreAcceptedBefore file names files setup
  pub refused : IsRefused file setup.config (bytes_of files (name_in names file)) fault
