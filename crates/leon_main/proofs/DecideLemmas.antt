-- Words and told files decide the answer.
use Rattle.std.proofs.Common.{ℕ, ◌≡◌, ◌≢◌, ◌∙◌, List, Option, Some, None, Result, Ok, Err, refl, sym, subst, inl, inr}
use Rattle.std.proofs.lemmas.Bool.{cases_eq}
use Rattle.edac_code.specs.Code.{check_bits}
use Rattle.lf_io.specs.Held.{FileMap}
use Rattle.lf_io.specs.Taken.{Takes}
use Rattle.lf_model.specs.Report.{report}
use Rattle.lf_model.specs.Texts.{hex_field, line_feed}
use Rattle.lf_model.specs.declared.setup.Setup.{Setup}
use Rattle.lf_model.specs.declared.trace.Trace.{Trace}
use Rattle.tso_audit.specs.declared.verdict.Verdict.{Verdict}
use Rattle.leon_main.proofs.SettledLemmas.{play_not_audit, settled}
use Rattle.leon_main.specs.Accepted.{Spelled, AreParts, IsFirstRefusal}
use Rattle.leon_main.specs.Call.{generated_file, TakesMemory, IsReportOf, IsVerdictOf, IsFault, IsOutcome, status_of, text_of, IsFaultless, IsHindered, Tells, Refuses, Reports, Judges, Decides}
use Rattle.leon_main.specs.Ends.{status_of_cores}
use Rattle.leon_main.specs.Faults as faults
use Rattle.leon_main.specs.Verdicts.{verdict_line, verdict_status}
use Rattle.leon_main.specs.Words.{Task, Play, Audit, FileNames, Request, OfRun, Generate, Codes, request_of, AsksTo}
use Rattle.leon_main.specs.declared.answer.Answer.{Answer}
use Rattle.leon_main.specs.declared.answer.Answer.TheVariants.{Report, Audited, ImageFile, CheckBits}
use Rattle.leon_main.specs.declared.fault.Fault.{Fault}
use Rattle.leon_main.specs.declared.fault.Fault.TheVariants.{Usage, Unread, Memory}

-- words ask for one thing
same_request : (asked : Option Request) (request other : Request) → asked ≡ Some request → asked ≡ Some other → request ≡ other
same_request asked request other first second = let same : Some request ≡ Some other = sym first ∙ second in cc

same_run : (asked : Option Request) (task more : Task) (names other : FileNames) → asked ≡ Some (OfRun task names) → asked ≡ Some (OfRun more other)
    → (task ≡ more) × (names ≡ other)
same_run asked task more names other first second =
    let same : OfRun task names ≡ OfRun more other = same_request asked (OfRun task names) (OfRun more other) first second in (cc, cc)

same_word : (asked : Option Request) (word other : ℕ) → asked ≡ Some (Codes word) → asked ≡ Some (Codes other) → word ≡ other
same_word asked word other first second = cc

same_program : (asked : Option Request) (start size other_start other_size : ℕ) → asked ≡ Some (Generate start size)
    → asked ≡ Some (Generate other_start other_size) → (start ≡ other_start) × (size ≡ other_size)
same_program asked start size other_start other_size first second =
    let same : Some (Generate start size) ≡ Some (Generate other_start other_size) = sym first ∙ second in (cc, cc)

run_not_codes : {X : Type 0} (asked : Option Request) (task : Task) (names : FileNames) (word : ℕ) → asked ≡ Some (OfRun task names) → asked ≡ Some (Codes word) → X
run_not_codes asked task names word first second = absurd (let e : Some (OfRun task names) ≡ Some (Codes word) = sym first ∙ second in cc)

run_not_generate : {X : Type 0} (asked : Option Request) (task : Task) (names : FileNames) (start size : ℕ) → asked ≡ Some (OfRun task names)
    → asked ≡ Some (Generate start size) → X
run_not_generate asked task names start size first second = absurd (let e : Some (OfRun task names) ≡ Some (Generate start size) = sym first ∙ second in cc)

codes_not_generate : {X : Type 0} (asked : Option Request) (word start size : ℕ) → asked ≡ Some (Codes word)
    → asked ≡ Some (Generate start size) → X
codes_not_generate asked word start size first second = absurd (let e : Some (Codes word) ≡ Some (Generate start size) = sym first ∙ second in cc)

pub asked_not_none : {X : Type 0} (asked : Option Request) (request : Request) → asked ≡ Some request → asked ≡ None → X
asked_not_none asked request first second = absurd (let e : Some request ≡ None = sym first ∙ second in cc)

-- ---- of the files of a run or an audit

module _ (words : List (List ℕ)) (files : FileMap) (task : Task) (names : FileNames) (asked : AsksTo task words names) where
  -- the same for files under other names
  renamed_refusal : (more : Task) (other : FileNames) (fault : Fault) → AsksTo more words other → IsFirstRefusal more other files fault → IsFirstRefusal task names files fault
  renamed_refusal more other fault again refusal =
      let same = same_run (request_of words) task more names other asked again in
      subst (λ (t : Task). IsFirstRefusal t names files fault) (sym same.0) (subst (λ (n : FileNames). IsFirstRefusal more n files fault) (sym same.1) refusal)

  renamed_parts : (other : FileNames) (setup : Setup) (spelled : Spelled task) → AsksTo task words other → AreParts task other files setup spelled → AreParts task names files setup spelled
  renamed_parts other setup spelled again parts =
      subst (λ (n : FileNames). AreParts task n files setup spelled) (sym (same_run (request_of words) task task names other asked again).1) parts

  other_task : {X : Type 0} (more : Task) (other : FileNames) → (task ≡ more → X) → AsksTo more words other → X
  other_task more other apart again = apart (same_run (request_of words) task more names other asked again).0

  -- what holds of one setup and what the last file spells holds of those that the files spell
  held_of_parts : (Holds : Setup → Spelled task → Type 0) (setup other : Setup) (spelled more : Spelled task) (others : FileNames) → AreParts task names files setup spelled
      → AsksTo task words others → AreParts task others files other more → Holds setup spelled → Holds other more
  held_of_parts Holds setup other spelled more others parts again others_parts holds =
      let renamed = renamed_parts others other more again others_parts in
      subst (λ (s : Spelled task). Holds other s) ((settled task names files).one_last setup other spelled more parts renamed)
      (subst (λ (s : Setup). Holds s spelled) ((settled task names files).one_setup setup other spelled more parts renamed) holds)

  never_refused : {X : Type 0} (setup : Setup) (spelled : Spelled task) → AreParts task names files setup spelled → (more : Task) (other : FileNames) (fault : Fault)
      → AsksTo more words other → IsFirstRefusal more other files fault → X
  never_refused setup spelled parts more other fault again refusal =
      absurd ((settled task names files).not_both (setup, spelled, parts) (fault, renamed_refusal more other fault again refusal))

-- ---- by what the call came to

by_report : (words : List (List ℕ)) (files : FileMap) (old new : Option (List ℕ)) (trace : Trace) (status : ℕ) → IsReportOf words (Some files) trace
    → Tells status old new (status_of_cores trace.cores) (report trace) → Decides words files old new status
by_report words files old new trace status cause own = record {
  usage = λ none. asked_not_none (request_of words) (OfRun Play cause.names) cause.asked none;
  check_bits = λ word codes. run_not_codes (request_of words) Play cause.names word cause.asked codes;
  generated = λ start size generate. run_not_generate (request_of words) Play cause.names start size cause.asked generate;
  refused = λ task names fault run refusal. never_refused words files Play cause.names cause.asked cause.setup cause.events cause.spelled task names fault run refusal;
  played = λ names setup events asked parts.
      held_of_parts words files Play cause.names cause.asked (Reports status old new) cause.setup setup cause.events events names cause.spelled asked parts own_report;
  audited = λ names setup other asked parts. other_task words files Play cause.names cause.asked Audit names (λ same. play_not_audit Audit (sym same) refl) asked;
}
  where
    own_report : Reports status old new cause.setup cause.events
    own_report = elim own [
      | inl told ↦ inl (trace, cause.played, told.0, told.1)
      | inr fault ↦ inr (inr fault)
    ]

by_verdict : (words : List (List ℕ)) (files : FileMap) (old new : Option (List ℕ)) (verdict : Verdict) (status : ℕ) → IsVerdictOf words (Some files) verdict
    → Tells status old new (verdict_status verdict) (verdict_line verdict) → Decides words files old new status
by_verdict words files old new verdict status cause own = record {
  usage = λ none. asked_not_none (request_of words) (OfRun Audit cause.names) cause.asked none;
  check_bits = λ word codes. run_not_codes (request_of words) Audit cause.names word cause.asked codes;
  generated = λ start size generate. run_not_generate (request_of words) Audit cause.names start size cause.asked generate;
  refused = λ task names fault run refusal. never_refused words files Audit cause.names cause.asked cause.setup cause.trace cause.spelled task names fault run refusal;
  played = λ names setup events asked parts. other_task words files Audit cause.names cause.asked Play names (λ same. play_not_audit Audit same refl) asked;
  audited = λ names setup trace asked parts.
      held_of_parts words files Audit cause.names cause.asked (Judges status old new) cause.setup setup cause.trace trace names cause.spelled asked parts own_verdict;
}
  where
    own_verdict : Judges status old new cause.setup cause.trace
    own_verdict = elim own [
      | inl told ↦ inl (verdict, cause.audited, told.0, told.1)
      | inr fault ↦ inr (inr fault)
    ]

by_check_bits : (words : List (List ℕ)) (files : FileMap) (old new : Option (List ℕ)) (word status : ℕ) → request_of words ≡ Some (Codes word)
    → Tells status old new 0 (hex_field line_feed 2 (check_bits word)) → Decides words files old new status
by_check_bits words files old new word status asked own = record {
  usage = λ none. asked_not_none (request_of words) (Codes word) asked none;
  check_bits = λ other codes.
      subst (λ (w : ℕ). Tells status old new 0 (hex_field line_feed 2 (check_bits w))) (same_word (request_of words) word other asked codes) own;
  generated = λ start size generate. codes_not_generate (request_of words) word start size asked generate;
  refused = λ task names fault run refusal. run_not_codes (request_of words) task names word run asked;
  played = λ names setup events run parts. run_not_codes (request_of words) Play names word run asked;
  audited = λ names setup trace run parts. run_not_codes (request_of words) Audit names word run asked;
}

by_usage : (words : List (List ℕ)) (files : FileMap) (old new : Option (List ℕ)) (status : ℕ) → request_of words ≡ None
    → Tells status old new 2 (faults.line_of Usage) → Decides words files old new status
by_usage words files old new status none own = record {
  usage = λ again. own;
  check_bits = λ word codes. asked_not_none (request_of words) (Codes word) codes none;
  generated = λ start size generate. asked_not_none (request_of words) (Generate start size) generate none;
  refused = λ task names fault run refusal. asked_not_none (request_of words) (OfRun task names) run none;
  played = λ names setup events run parts. asked_not_none (request_of words) (OfRun Play names) run none;
  audited = λ names setup trace run parts. asked_not_none (request_of words) (OfRun Audit names) run none;
}

by_refusal : (words : List (List ℕ)) (files : FileMap) (old new : Option (List ℕ)) (task : Task) (names : FileNames) (fault : Fault) (status : ℕ) → AsksTo task words names
    → IsFirstRefusal task names files fault → Tells status old new (faults.status_of fault) (faults.line_of fault) → Decides words files old new status
by_refusal words files old new task names fault status asked refusal own = record {
  usage = λ none. asked_not_none (request_of words) (OfRun task names) asked none;
  check_bits = λ word codes. run_not_codes (request_of words) task names word asked codes;
  generated = λ start size generate. run_not_generate (request_of words) task names start size asked generate;
  refused = λ more others other run again. subst (λ (f : Fault). Refuses status old new f)
      ((settled task names files).one_fault fault other refusal (renamed_refusal words files task names asked more others other run again)) refuses;
  played = λ others setup events run parts. never_refused words files Play others run setup events parts task names fault asked refusal;
  audited = λ others setup trace run parts. never_refused words files Audit others run setup trace parts task names fault asked refusal;
}
  where
    refuses : Refuses status old new fault
    refuses = elim own [
      | inl told ↦ inl told
      | inr failed ↦ inr (inr failed)
    ]

by_image : (words : List (List ℕ)) (files : FileMap) (old new : Option (List ℕ)) (start size status : ℕ) → request_of words ≡ Some (Generate start size)
    → Tells status old new 0 (generated_file start size) → Decides words files old new status
by_image words files old new start size status asked own = record {
  usage = λ none. asked_not_none (request_of words) (Generate start size) asked none;
  check_bits = λ word codes. codes_not_generate (request_of words) word start size codes asked;
  generated = λ other_start other_size generate. elim own [
    | inl told ↦ inl (told.0, same_file other_start other_size (same_program (request_of words) start size other_start other_size asked generate) told.1)
    | inr fault ↦ inr (inr fault)
  ];
  refused = λ task names fault run refusal. run_not_generate (request_of words) task names start size run asked;
  played = λ names setup events run parts. run_not_generate (request_of words) Play names start size run asked;
  audited = λ names setup trace run parts. run_not_generate (request_of words) Audit names start size run asked;
}
  where
    same_file : (other_start other_size : ℕ) → (start ≡ other_start) × (size ≡ other_size) → Takes old new (generated_file start size)
        → Takes old new (generated_file other_start other_size)
    same_file other_start other_size same taken =
        subst (λ (n : ℕ). Takes old new (generated_file other_start n)) same.1 (subst (λ (n : ℕ). Takes old new (generated_file n size)) same.0 taken)

by_hindrance : (words : List (List ℕ)) (files : FileMap) (old new : Option (List ℕ)) (request : Request) (status : ℕ) → request_of words ≡ Some request
    → TakesMemory request → IsHindered status → Decides words files old new status
by_hindrance words files old new request status asked takes hindered = record {
  usage = λ none. asked_not_none (request_of words) request asked none;
  check_bits = λ word codes. absurd (subst TakesMemory (same_request (request_of words) request (Codes word) asked codes) takes);
  generated = λ start size generate. inr hindered;
  refused = λ task others fault run refusal. inr hindered;
  played = λ others setup events run parts. inr hindered;
  audited = λ others setup trace run parts. inr hindered;
}

by_memory : (words : List (List ℕ)) (files : FileMap) (old new : Option (List ℕ)) (request : Request) (status : ℕ) → request_of words ≡ Some request
    → TakesMemory request → Tells status old new 7 (faults.line_of Memory) → Decides words files old new status
by_memory words files old new request status asked takes (inl told) = by_hindrance words files old new request status asked takes (inl told.0)
by_memory words files old new request status asked takes (inr failed) = by_hindrance words files old new request status asked takes (inr failed)

by_fault : (words : List (List ℕ)) (files : FileMap) (before after : List ℕ → ℕ) (old new : Option (List ℕ)) (fault : Fault) (status : ℕ)
    → IsFault words (Some files) before after fault → IsFaultless words before after → Tells status old new (faults.status_of fault) (faults.line_of fault)
    → Decides words files old new status
by_fault words files before after old new Usage status cause faultless own = by_usage words files old new status cause own
by_fault words files before after old new Memory status cause faultless own = by_memory words files old new cause.0 status cause.1 cause.2 own
by_fault words files before after old new (Unread file) status cause faultless own = absurd (faultless cause.0 cause.1 file cause.2 cause.3.rose)
by_fault words files before after old new fault status cause faultless own = by_refusal words files old new cause.0 cause.1 fault status cause.2 cause.3 own

by_outcome : (words : List (List ℕ)) (files : FileMap) (before after : List ℕ → ℕ) (old new : Option (List ℕ)) (outcome : Result Answer Fault) (status : ℕ)
    → IsOutcome words (Some files) before after outcome → IsFaultless words before after → Tells status old new (status_of outcome) (text_of outcome)
    → Decides words files old new status
by_outcome words files before after old new (Ok (Report trace)) status cause faultless own = by_report words files old new trace status cause own
by_outcome words files before after old new (Ok (Audited verdict)) status cause faultless own = by_verdict words files old new verdict status cause own
by_outcome words files before after old new (Ok (ImageFile file)) status cause faultless own =
    by_image words files old new cause.0 cause.1 status cause.2 (subst (λ (f : List ℕ). Tells status old new 0 f) cause.3 own)
by_outcome words files before after old new (Ok (CheckBits bits)) status cause faultless own =
    by_check_bits words files old new cause.0 status cause.1 (subst (λ (b : ℕ). Tells status old new 0 (hex_field line_feed 2 b)) cause.2 own)
by_outcome words files before after old new (Err fault) status cause faultless own = by_fault words files before after old new fault status cause faultless own

-- the status and the text that are told, or the fault of the sink
pub tells : (status wanted : ℕ) (old new : Option (List ℕ)) (text : List ℕ) → (status ≢ 8 → (status ≡ wanted) × Takes old new text) → Tells status old new wanted text
tells status wanted old new text told =
    elim (cases_eq status 8) [
      | inl fault ↦ inr fault
      | inr no_fault ↦ inl (told no_fault)
    ]

pub decides : (words : List (List ℕ)) (held : Option FileMap) (files : FileMap) (before after : List ℕ → ℕ) (old new : Option (List ℕ)) (outcome : Result Answer Fault) (status : ℕ)
    → held ≡ Some files → IsOutcome words held before after outcome → IsFaultless words before after
    → (status ≢ 8 → (status ≡ status_of outcome) × Takes old new (text_of outcome)) → Decides words files old new status
decides words held files before after old new outcome status told cause faultless own =
    by_outcome words files before after old new outcome status (subst (λ (h : Option FileMap). IsOutcome words h before after outcome) told cause) faultless
    (tells status (status_of outcome) old new (text_of outcome) own)
