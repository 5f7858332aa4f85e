-- What the program answers to a call: why each answer comes, its exit status, and its text.
use Rattle.std.specs.Prelude.{ℕ, ◌≡◌, ◌⊎◌, ⊤, List, Option, None, Some, IfSome, Result, Ok, Err}
use Rattle.edac_code.specs.Code.{check_bits}
use Rattle.elf_image.specs.Written.{written}
use Rattle.lf_io.specs.Count.{Rose}
use Rattle.lf_io.specs.Held.{FileMap}
use Rattle.lf_io.specs.Taken.{Takes, TakesPrefix}
use Rattle.lf_model.specs.Promise.Played.{IsPlayedBy}
use Rattle.lf_model.specs.Promise.Regular.{IsRegular}
use Rattle.lf_model.specs.Report.{report}
use Rattle.lf_model.specs.Texts.{hex_field, line_feed}
use Rattle.lf_model.specs.declared.setup.Event.{Event}
use Rattle.lf_model.specs.declared.setup.Setup.{Setup}
use Rattle.lf_model.specs.declared.trace.Trace.{Trace}
use Rattle.machine_play.specs.Playable.{IsPlayable}
use Rattle.leon_main.specs.Accepted.{Spelled, AreParts, IsFirstRefusal}
use Rattle.leon_main.specs.Ends.{status_of_cores}
use Rattle.leon_main.specs.Faults as faults
use Rattle.leon_main.specs.Files.{name_in}
use Rattle.leon_main.specs.Reading.{IsCause}
use Rattle.leon_main.specs.Verdicts.{verdict_line, verdict_status}
use Rattle.leon_main.specs.Words.{Task, Play, Audit, FileNames, Request, OfRun, Generate, Codes, request_of, AsksTo, AsksToGenerate, AsksForCodes}
use Rattle.leon_main.specs.declared.answer.Answer.{Answer}
use Rattle.leon_main.specs.declared.answer.Answer.TheVariants.{Report, Audited, ImageFile, CheckBits}
use Rattle.leon_main.specs.declared.fault.Fault.{Fault}
use Rattle.leon_main.specs.declared.fault.Fault.TheVariants.{Usage, Memory}
use Rattle.leon_main.specs.declared.run_file.RunFile.{RunFile}
use Rattle.tso_audit.specs.Audit.{IsVerdict}
use Rattle.tso_audit.specs.declared.verdict.Verdict.{Verdict}
use Rattle.work_gen.specs.Layout.{generated_image}

-- ---- why each answer comes

-- a report: the words ask for a run, the files that they name, where these are told, spell this setup and these events, and
-- the trace is that of a run of the setup by this schedule
pub record IsReportOf (words : List (List ℕ)) (held : Option FileMap) (trace : Trace) : Type 0 where
  pub names : FileNames
  pub setup : Setup
  pub events : List Event
  pub asked : AsksTo Play words names
  pub spelled : IfSome held (λ files. AreParts Play names files setup events)
  pub playable : IsPlayable setup
  pub played : IsPlayedBy setup events trace

-- a verdict: the words ask for an audit, the files that they name, where these are told, spell this setup and are the report of this
-- trace, and the verdict is what the rules say of it: Yes where none of them fails, else the first that fails with its first place
pub record IsVerdictOf (words : List (List ℕ)) (held : Option FileMap) (verdict : Verdict) : Type 0 where
  pub names : FileNames
  pub setup : Setup
  pub trace : Trace
  pub asked : AsksTo Audit words names
  pub spelled : IfSome held (λ files. AreParts Audit names files setup trace)
  pub playable : IsPlayable setup
  pub regular : IsRegular trace
  pub audited : IsVerdict setup trace verdict

-- the file of the image of a generated program
abbrev pub generated_file : ℕ → ℕ → List ℕ
generated_file start size = written (generated_image start size)

abbrev pub IsAnswer : List (List ℕ) → Option FileMap → Answer → Type 0
IsAnswer words held (Report trace) = IsReportOf words held trace
IsAnswer words held (Audited verdict) = IsVerdictOf words held verdict
IsAnswer words held (ImageFile file) = (start size : ℕ) × AsksToGenerate words start size × (file ≡ generated_file start size)
IsAnswer words held (CheckBits bits) = (word : ℕ) × AsksForCodes words word × (bits ≡ check_bits word)

-- what takes memory: a run, an audit, and the image of a program
abbrev pub TakesMemory : Request → Type 0
TakesMemory (OfRun task names) = ⊤
TakesMemory (Generate start size) = ⊤
TakesMemory (Codes word) = ⊥

-- a fault: the words are not taken; they ask for what takes memory, and there was none; or they ask for a run or an audit, of whose
-- files it is told
abbrev pub IsFault : List (List ℕ) → Option FileMap → (List ℕ → ℕ) → (List ℕ → ℕ) → Fault → Type 0
IsFault words held before after Usage = request_of words ≡ None
IsFault words held before after Memory = (request : Request) × (request_of words ≡ Some request) × TakesMemory request
IsFault words held before after fault =
    (task : Task) × (names : FileNames) × AsksTo task words names × IsCause task names held before after fault

-- what a call comes to, of the files as they are told and of the counts of their faults before and after
abbrev pub IsOutcome :
    List (List ℕ) → Option FileMap → (List ℕ → ℕ) → (List ℕ → ℕ) → Result Answer Fault → Type 0
IsOutcome words held before after (Ok answer) = IsAnswer words held answer
IsOutcome words held before after (Err fault) = IsFault words held before after fault

-- ---- the status and the text

abbrev pub status_of : Result Answer Fault → ℕ
status_of (Ok (Report trace)) = status_of_cores trace.cores
status_of (Ok (Audited verdict)) = verdict_status verdict
status_of (Ok (ImageFile file)) = 0
status_of (Ok (CheckBits bits)) = 0
status_of (Err fault) = faults.status_of fault

-- the report, the bytes of the image, or one line
abbrev pub text_of : Result Answer Fault → List ℕ
text_of (Ok (Report trace)) = report trace
text_of (Ok (Audited verdict)) = verdict_line verdict
text_of (Ok (ImageFile file)) = file
text_of (Ok (CheckBits bits)) = hex_field line_feed 2 bits
text_of (Err fault) = faults.line_of fault

-- the call answered with this status, and its text was taken whole
pub record IsAnswered (words : List (List ℕ)) (held : Option FileMap) (before after : List ℕ → ℕ)
    (old new : Option (List ℕ)) (status : ℕ) : Type 0 where
  pub outcome : Result Answer Fault
  pub cause : IsOutcome words held before after outcome
  pub its_status : status ≡ status_of outcome
  pub taken : Takes old new (text_of outcome)

-- the sink took a part of the text
pub record IsCutOff (words : List (List ℕ)) (held : Option FileMap) (before after : List ℕ → ℕ)
    (old new : Option (List ℕ)) : Type 0 where
  pub outcome : Result Answer Fault
  pub cause : IsOutcome words held before after outcome
  pub part : TakesPrefix old new (text_of outcome)

-- ---- the answer where the files are told and none of their faults was counted

-- no fault was counted of a file that the words name
abbrev pub IsFaultless : List (List ℕ) → (List ℕ → ℕ) → (List ℕ → ℕ) → Type 0
IsFaultless words before after =
    (task : Task) (names : FileNames) (file : RunFile) → AsksTo task words names
    → Rose (before (name_in names file)) (after (name_in names file)) → ⊥

-- the status, with its whole text, unless the sink failed
abbrev pub Tells : ℕ → Option (List ℕ) → Option (List ℕ) → ℕ → List ℕ → Type 0
Tells status old new wanted text = ((status ≡ wanted) × Takes old new text) ⊎ (status ≡ 8)

-- there was no memory, or the sink failed
abbrev pub IsHindered : ℕ → Type 0
IsHindered status = (status ≡ 7) ⊎ (status ≡ 8)

-- the whole line of a refusal, with its status, unless the call was hindered
abbrev pub Refuses : ℕ → Option (List ℕ) → Option (List ℕ) → Fault → Type 0
Refuses status old new fault =
    ((status ≡ faults.status_of fault) × Takes old new (faults.line_of fault)) ⊎ IsHindered status

-- the whole report of a run of this setup by these events, with the status of its ends, unless the call was hindered
abbrev pub Reports : ℕ → Option (List ℕ) → Option (List ℕ) → Setup → List Event → Type 0
Reports status old new setup events =
    ((trace : Trace) × IsPlayedBy setup events trace × (status ≡ status_of_cores trace.cores) × Takes old new (report trace))
    ⊎ IsHindered status

-- the whole line of the verdict on this trace, with its status, unless the call was hindered
abbrev pub Judges : ℕ → Option (List ℕ) → Option (List ℕ) → Setup → Trace → Type 0
Judges status old new setup trace =
    ((verdict : Verdict) × IsVerdict setup trace verdict × (status ≡ verdict_status verdict) × Takes old new (verdict_line verdict))
    ⊎ IsHindered status

-- the whole file of the image of a program, unless the call was hindered
abbrev pub Generates : ℕ → Option (List ℕ) → Option (List ℕ) → ℕ → ℕ → Type 0
Generates status old new start size = ((status ≡ 0) × Takes old new (generated_file start size)) ⊎ IsHindered status

-- words and told files decide the answer, in these six cases
pub record Decides (words : List (List ℕ)) (files : FileMap) (old new : Option (List ℕ)) (status : ℕ) : Type 0 where
  pub usage : request_of words ≡ None → Tells status old new 2 (faults.line_of Usage)
  pub check_bits : (word : ℕ) → AsksForCodes words word
      → Tells status old new 0 (hex_field line_feed 2 (check_bits word))
  pub generated : (start size : ℕ) → AsksToGenerate words start size → Generates status old new start size
  pub refused : (task : Task) (names : FileNames) (fault : Fault) → AsksTo task words names → IsFirstRefusal task names files fault
      → Refuses status old new fault
  pub played : (names : FileNames) (setup : Setup) (events : List Event) → AsksTo Play words names
      → AreParts Play names files setup events → Reports status old new setup events
  pub audited : (names : FileNames) (setup : Setup) (trace : Trace) → AsksTo Audit words names
      → AreParts Audit names files setup trace → Judges status old new setup trace

-- the files spell a setup, and events or a trace; or one of them is the first that is refused
abbrev pub HasParts : Task → FileNames → FileMap → Type 0
HasParts task names files = (setup : Setup) × (spelled : Spelled task) × AreParts task names files setup spelled

abbrev pub HasRefusal : Task → FileNames → FileMap → Type 0
HasRefusal task names files = (fault : Fault) × IsFirstRefusal task names files fault

-- exactly one of the two, and in one way
pub record IsSettled (task : Task) (names : FileNames) (files : FileMap) : Type 0 where
  pub either : HasParts task names files ⊎ HasRefusal task names files
  pub not_both : HasParts task names files → HasRefusal task names files → ⊥
  pub one_setup : (setup other : Setup) (spelled more : Spelled task) → AreParts task names files setup spelled
      → AreParts task names files other more → setup ≡ other
  pub one_last : (setup other : Setup) (spelled more : Spelled task) → AreParts task names files setup spelled
      → AreParts task names files other more → spelled ≡ more
  pub one_fault : (fault other : Fault) → IsFirstRefusal task names files fault → IsFirstRefusal task names files other → fault ≡ other

-- a trace has one verdict
abbrev pub HasOneVerdict : Setup → Trace → Type 0
HasOneVerdict setup trace = (verdict other : Verdict) → IsVerdict setup trace verdict → IsVerdict setup trace other → verdict ≡ other
