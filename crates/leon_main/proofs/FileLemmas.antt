-- One file of a run: its bytes are accepted or refused, and not both, and are refused with one fault.
use Rattle.std.proofs.Common.{ℕ, ◌≡◌, ◌+◌, ◌<◌, ◌≤◌, ◌⊎◌, zero, suc, List, length, Option, Some, None, Result, Ok, Err, refl, sym, subst, ap, ◌∙◌, inl, inr, arith}
use Rattle.std.proofs.lemmas.Bool.{cases_lt}
use Rattle.elf_image.specs.Answer as elf
use Rattle.elf_image.specs.Names.{number_of}
use Rattle.elf_image.specs.Refusals.{conditions, first_fault}
use Rattle.elf_image.specs.Spelled.{image_of}
use Rattle.elf_image.specs.declared.refusal.Fault as refusals
use Rattle.lf_model.specs.Promise.Regular.{IsRegular}
use Rattle.lf_model.specs.Report.{report}
use Rattle.lf_model.specs.declared.config.Config.{Config}
use Rattle.lf_model.specs.declared.flip.Flip.{Flip}
use Rattle.lf_model.specs.declared.image.Image as images
use Rattle.lf_model.specs.declared.setup.Event.{Event}
use Rattle.lf_model.specs.declared.trace.Trace.{Trace}
use Rattle.report_reader.proofs.WholeLaws.{report_takes, report_again}
use Rattle.report_reader.specs.Dashes.{report_at}
use Rattle.run_texts.proofs.AnswerLemmas.{never_memory}
use Rattle.run_texts.specs.Configuration.{config_answer}
use Rattle.run_texts.specs.Faults.{IsFirst}
use Rattle.run_texts.proofs.GrammarLemmas.{fault_past}
use Rattle.run_texts.proofs.TextAnswers.{no_flip_fault, no_event_fault}
use Rattle.run_texts.specs.Grammar.{all_spelled, fault_at}
use Rattle.run_texts.specs.Schedule.{event_lines, IsSchedule}
use Rattle.run_texts.specs.Script.{flip_lines, IsScript}
use Rattle.run_texts.specs.Text.{rows}
use Rattle.run_texts.specs.declared.config_error.ConfigErr.{ConfigErr}
use Rattle.run_texts.specs.declared.config_error.ConfigErr.TheVariants as errors
use Rattle.run_texts.specs.declared.error.TextWhy.{TextWhy}
use Rattle.leon_main.specs.Accepted.{IsWithin, IsFaulty, IsRefused}
use Rattle.leon_main.specs.Faults.{configuration_fault}
use Rattle.leon_main.specs.Files.{limit_of}
use Rattle.leon_main.specs.declared.fault.Fault.{Fault}
use Rattle.leon_main.specs.declared.fault.Fault.TheVariants.{TooLong, NotToml, UnknownKey, WrongKind, OutOfRange, BadImage, BadScript, BadSchedule, BadReport}
use Rattle.leon_main.specs.declared.run_file.RunFile.{RunFile}
use Rattle.leon_main.specs.declared.run_file.RunFile.TheVariants.{Configuration, Image, Script, Schedule, Report}

-- the bytes are what the reader of the file takes
abbrev pub IsSound : RunFile → Config → List ℕ → Type 0
IsSound Configuration config bytes = (spelled : Config) × (config_answer bytes ≡ Ok spelled)
IsSound Image config bytes = (image : images.Image) × elf.IsFileOf config.ram bytes image
IsSound Script config bytes = (flips : List Flip) × IsScript config bytes flips
IsSound Schedule config bytes = (events : List Event) × IsSchedule config bytes events
IsSound Report config bytes = (trace : Trace) × (IsRegular trace × (bytes ≡ report trace))

-- ---- the first fault of a text

option_cases : {X : Type 0} (o : Option X) → (o ≡ None) ⊎ ((x : X) × (o ≡ Some x))
option_cases None = inl refl
option_cases (Some x) = inr (x, refl)

none_below_more : (fault_at_ : ℕ → Option TextWhy) (n : ℕ) → ((place : ℕ) → place < n → fault_at_ place ≡ None) → fault_at_ n ≡ None
    → (place : ℕ) → place < n + 1 → fault_at_ place ≡ None
none_below_more fault_at_ n before here place below =
    elim (cases_lt place n) [
      | inl earlier ↦ before place earlier
      | inr last ↦ let same : n ≡ place = omega arith in subst (λ (p : ℕ). fault_at_ p ≡ None) same here
    ]

-- no line is faulty, or one is the first
first_or_none : (fault_at_ : ℕ → Option TextWhy) (n : ℕ) → ((place : ℕ) → place < n → fault_at_ place ≡ None) ⊎ ((line : ℕ) × ((why : TextWhy) × IsFirst fault_at_ line why))
first_or_none fault_at_ zero = inl (λ place below. absurd (omega arith))
first_or_none fault_at_ (suc n) =
    elim (first_or_none fault_at_ n) [
      | inl before ↦ elim (option_cases (fault_at_ n)) [
        | inl here ↦ inl (λ place below. none_below_more fault_at_ n before here place (omega arith))
        | inr some ↦ inr (n + 1, (some.0, record { place = n; number = refl; fault = some.1; first = before }))
      ]
      | inr earlier ↦ inr earlier
    ]

no_some : {why : TextWhy} (o : Option TextWhy) → o ≡ None → o ≡ Some why → ⊥
no_some o none some = cc

-- a text has one first fault
one_first : (fault_at_ : ℕ → Option TextWhy) (line more : ℕ) (why other : TextWhy) → IsFirst fault_at_ line why → IsFirst fault_at_ more other → (line ≡ more) × (why ≡ other)
one_first fault_at_ line more why other first second =
    elim (cases_lt first.place second.place) [
      | inl below ↦ absurd (no_some (fault_at_ first.place) (second.first first.place below) first.fault)
      | inr above ↦ elim (cases_lt second.place first.place) [
        | inl below ↦ absurd (no_some (fault_at_ second.place) (first.first second.place below) second.fault)
        | inr same ↦
            let place : first.place ≡ second.place = omega arith in
            let lines : line ≡ more = first.number ∙ (ap (λ n. n + 1) place ∙ sym second.number) in
            let faults : fault_at_ first.place ≡ Some other = ap fault_at_ place ∙ second.fault in
            (lines, cc)
      ]
    ]

-- a text without a faulty line has no first one
no_first : (fault_at_ : ℕ → Option TextWhy) (n line : ℕ) (why : TextWhy) → ((place : ℕ) → n ≤ place → fault_at_ place ≡ None)
    → ((place : ℕ) → place < n → fault_at_ place ≡ None) → IsFirst fault_at_ line why → ⊥
no_first fault_at_ n line why past faultless first =
    elim (cases_lt first.place n) [
      | inl within ↦ no_some (fault_at_ first.place) (faultless first.place within) first.fault
      | inr outside ↦ no_some (fault_at_ first.place) (past first.place outside) first.fault
    ]

-- ---- one file

faulty_configuration : (config : Config) (bytes : List ℕ) (fault : Fault) → IsFaulty Configuration config bytes fault
    → (error : ConfigErr) × ((config_answer bytes ≡ Err error) × (fault ≡ configuration_fault error))
faulty_configuration config bytes NotToml told = (errors.Text, (told, refl))
faulty_configuration config bytes UnknownKey told = (errors.Key, (told, refl))
faulty_configuration config bytes (WrongKind key) told = (errors.Kind key, (told, refl))
faulty_configuration config bytes (OutOfRange key) told = (errors.Range key, (told, refl))
faulty_configuration config bytes fault told = absurd told

faulty_image : (config : Config) (bytes : List ℕ) (fault : Fault) → IsFaulty Image config bytes fault
    → (number : ℕ) × ((offset : ℕ) × (elf.IsRefused config.ram bytes number offset × (fault ≡ BadImage number offset)))
faulty_image config bytes (BadImage number offset) told = (number, (offset, (told, refl)))
faulty_image config bytes fault told = absurd told

faulty_script : (config : Config) (bytes : List ℕ) (fault : Fault) → IsFaulty Script config bytes fault
    → (line : ℕ) × ((why : TextWhy) × (IsFirst (fault_at (flip_lines config) bytes) line why × (fault ≡ BadScript line why)))
faulty_script config bytes (BadScript line why) told = (line, (why, (told, refl)))
faulty_script config bytes fault told = absurd told

faulty_schedule : (config : Config) (bytes : List ℕ) (fault : Fault) → IsFaulty Schedule config bytes fault
    → (line : ℕ) × ((why : TextWhy) × (IsFirst (fault_at (event_lines config) bytes) line why × (fault ≡ BadSchedule line why)))
faulty_schedule config bytes (BadSchedule line why) told = (line, (why, (told, refl)))
faulty_schedule config bytes fault told = absurd told

faulty_report : (config : Config) (bytes : List ℕ) (fault : Fault) → IsFaulty Report config bytes fault
    → (line : ℕ) × ((report_at bytes ≡ Err line) × (fault ≡ BadReport line))
faulty_report config bytes (BadReport line) told = (line, (told, refl))
faulty_report config bytes fault told = absurd told

-- what a reader takes is not faulty
sound_not_faulty : (file : RunFile) (config : Config) (bytes : List ℕ) (fault : Fault) → IsSound file config bytes → IsFaulty file config bytes fault → ⊥
sound_not_faulty Configuration config bytes fault sound faulty = let told = faulty_configuration config bytes fault faulty in let both : Ok sound.0 ≡ Err told.0 = sym sound.1 ∙ told.1.0 in cc
sound_not_faulty Image config bytes fault sound faulty =
    let told = faulty_image config bytes fault faulty in
    let both : None ≡ Some told.1.1.0.fault = sym sound.1.accepted ∙ told.1.1.0.first in cc
sound_not_faulty Script config bytes fault sound faulty =
    let told = faulty_script config bytes fault faulty in
    no_first (fault_at (flip_lines config) bytes) (length (rows bytes)) told.0 told.1.0 (fault_past (flip_lines config) (no_flip_fault config) bytes) sound.1.faultless told.1.1.0
sound_not_faulty Schedule config bytes fault sound faulty =
    let told = faulty_schedule config bytes fault faulty in
    no_first (fault_at (event_lines config) bytes) (length (rows bytes)) told.0 told.1.0 (fault_past (event_lines config) (λ earlier. no_event_fault config) bytes) sound.1.faultless told.1.1.0
sound_not_faulty Report config bytes fault sound faulty =
    let told = faulty_report config bytes fault faulty in
    let read : report_at bytes ≡ Ok sound.0 = ap report_at sound.1.1 ∙ report_again sound.0 sound.1.0 in
    let both : Ok sound.0 ≡ Err told.0 = sym read ∙ told.1.0 in cc

-- the same refusal tells the same number and offset
same_refusal : (ram : ℕ) (bytes : List ℕ) (number offset more other : ℕ) → elf.IsRefused ram bytes number offset → elf.IsRefused ram bytes more other → (number ≡ more) × (offset ≡ other)
same_refusal ram bytes number offset more other first second =
    let same : Some first.fault ≡ Some second.fault = sym first.first ∙ second.first in
    let fault : first.fault ≡ second.fault = cc in (
      first.number_told ∙ (ap (λ (f : refusals.Fault). number_of f.refusal) fault ∙ sym second.number_told),
      first.offset_told ∙ (ap (λ (f : refusals.Fault). f.offset) fault ∙ sym second.offset_told),
    )

same_script : (line more : ℕ) (why other : TextWhy) → line ≡ more → why ≡ other → BadScript line why ≡ BadScript more other
same_script line more why other lines_ whys = rw (lines_, whys) refl

same_schedule : (line more : ℕ) (why other : TextWhy) → line ≡ more → why ≡ other → BadSchedule line why ≡ BadSchedule more other
same_schedule line more why other lines_ whys = rw (lines_, whys) refl

same_image : (number offset more other : ℕ) → number ≡ more → offset ≡ other → BadImage number offset ≡ BadImage more other
same_image number offset more other numbers offsets = rw (numbers, offsets) refl

-- what is faulty has one fault
one_fault : (file : RunFile) (config : Config) (bytes : List ℕ) (fault other : Fault) → IsFaulty file config bytes fault → IsFaulty file config bytes other → fault ≡ other
one_fault Configuration config bytes fault other first second =
    let a = faulty_configuration config bytes fault first in
    let b = faulty_configuration config bytes other second in
    let same : Err a.0 ≡ Err b.0 = sym a.1.0 ∙ b.1.0 in
    let errors_ : a.0 ≡ b.0 = cc in
    a.1.1 ∙ (ap configuration_fault errors_ ∙ sym b.1.1)
one_fault Image config bytes fault other first second =
    let a = faulty_image config bytes fault first in
    let b = faulty_image config bytes other second in
    let same = same_refusal config.ram bytes a.0 a.1.0 b.0 b.1.0 a.1.1.0 b.1.1.0 in
    a.1.1.1 ∙ (same_image a.0 a.1.0 b.0 b.1.0 same.0 same.1 ∙ sym b.1.1.1)
one_fault Script config bytes fault other first second =
    let a = faulty_script config bytes fault first in
    let b = faulty_script config bytes other second in
    let same = one_first (fault_at (flip_lines config) bytes) a.0 b.0 a.1.0 b.1.0 a.1.1.0 b.1.1.0 in
    a.1.1.1 ∙ (same_script a.0 b.0 a.1.0 b.1.0 same.0 same.1 ∙ sym b.1.1.1)
one_fault Schedule config bytes fault other first second =
    let a = faulty_schedule config bytes fault first in
    let b = faulty_schedule config bytes other second in
    let same = one_first (fault_at (event_lines config) bytes) a.0 b.0 a.1.0 b.1.0 a.1.1.0 b.1.1.0 in
    a.1.1.1 ∙ (same_schedule a.0 b.0 a.1.0 b.1.0 same.0 same.1 ∙ sym b.1.1.1)
one_fault Report config bytes fault other first second =
    let a = faulty_report config bytes fault first in
    let b = faulty_report config bytes other second in
    let same : Err a.0 ≡ Err b.0 = sym a.1.0 ∙ b.1.0 in
    let lines_ : a.0 ≡ b.0 = cc in
    a.1.1 ∙ (ap BadReport lines_ ∙ sym b.1.1)

-- the bytes are what the reader takes, or faulty
sound_or_faulty : (file : RunFile) (config : Config) (bytes : List ℕ) → IsSound file config bytes ⊎ ((fault : Fault) × IsFaulty file config bytes fault)
sound_or_faulty Configuration config bytes = by_answer (config_answer bytes) refl
  where
    by_answer : (told : Result Config ConfigErr) → config_answer bytes ≡ told → IsSound Configuration config bytes ⊎ ((fault : Fault) × IsFaulty Configuration config bytes fault)
    by_answer (Ok spelled) is = inl (spelled, is)
    by_answer (Err errors.Text) is = inr (NotToml, is)
    by_answer (Err errors.Key) is = inr (UnknownKey, is)
    by_answer (Err (errors.Kind key)) is = inr (WrongKind key, is)
    by_answer (Err (errors.Range key)) is = inr (OutOfRange key, is)
    by_answer (Err errors.Memory) is = absurd (never_memory bytes is)
sound_or_faulty Image config bytes =
    elim (option_cases (first_fault (conditions config.ram bytes))) [
      | inl none ↦ inl (image_of bytes, record { accepted = none; spelled = refl })
      | inr some ↦ inr (BadImage (number_of some.0.refusal) some.0.offset, record { fault = some.0; first = some.1; number_told = refl; offset_told = refl })
    ]
sound_or_faulty Script config bytes =
    elim (first_or_none (fault_at (flip_lines config) bytes) (length (rows bytes))) [
      | inl faultless ↦ inl (all_spelled (flip_lines config) (rows bytes), record { faultless = faultless; spelled = refl })
      | inr first ↦ inr (BadScript first.0 first.1.0, first.1.1)
    ]
sound_or_faulty Schedule config bytes =
    elim (first_or_none (fault_at (event_lines config) bytes) (length (rows bytes))) [
      | inl faultless ↦ inl (all_spelled (event_lines config) (rows bytes), record { faultless = faultless; spelled = refl })
      | inr first ↦ inr (BadSchedule first.0 first.1.0, first.1.1)
    ]
sound_or_faulty Report config bytes = by_answer (report_at bytes) refl
  where
    by_answer : (told : Result Trace ℕ) → report_at bytes ≡ told → IsSound Report config bytes ⊎ ((fault : Fault) × IsFaulty Report config bytes fault)
    by_answer (Ok trace) is = inl (trace, report_takes bytes trace is)
    by_answer (Err line) is = inr (BadReport line, is)

-- ---- with the limit

-- the bytes of a file are accepted
abbrev pub IsAccepted : RunFile → Config → List ℕ → Type 0
IsAccepted file config bytes = IsWithin file bytes × IsSound file config bytes

refusal_cases : (file : RunFile) (config : Config) (bytes : List ℕ) (fault : Fault) → IsRefused file config bytes fault
    → ((fault ≡ TooLong file) × (limit_of file < length bytes)) ⊎ (IsWithin file bytes × IsFaulty file config bytes fault)
refusal_cases file config bytes (TooLong other) refused = inl (ap TooLong refused.0, refused.1)
refusal_cases file config bytes fault refused = inr refused

pub accepted_not_refused : (file : RunFile) (config : Config) (bytes : List ℕ) (fault : Fault) → IsAccepted file config bytes → IsRefused file config bytes fault → ⊥
accepted_not_refused file config bytes fault accepted refused =
    elim (refusal_cases file config bytes fault refused) [
      | inl long ↦ let within = accepted.0 in omega (arith, long.1)
      | inr faulty ↦ sound_not_faulty file config bytes fault accepted.1 faulty.1
    ]

pub one_refusal : (file : RunFile) (config : Config) (bytes : List ℕ) (fault other : Fault) → IsRefused file config bytes fault → IsRefused file config bytes other → fault ≡ other
one_refusal file config bytes fault other first second =
    elim (refusal_cases file config bytes fault first) [
      | inl long ↦ elim (refusal_cases file config bytes other second) [
        | inl longer ↦ long.0 ∙ sym longer.0
        | inr faulty ↦ absurd (omega (arith, long.1, faulty.0))
      ]
      | inr faulty ↦ elim (refusal_cases file config bytes other second) [
        | inl longer ↦ absurd (omega (arith, longer.1, faulty.0))
        | inr others ↦ one_fault file config bytes fault other faulty.1 others.1
      ]
    ]

faulty_refused : (file : RunFile) (config : Config) (bytes : List ℕ) (fault : Fault) → IsWithin file bytes → IsFaulty file config bytes fault → IsRefused file config bytes fault
faulty_refused Configuration config bytes (TooLong other) within faulty = absurd faulty
faulty_refused Image config bytes (TooLong other) within faulty = absurd faulty
faulty_refused Script config bytes (TooLong other) within faulty = absurd faulty
faulty_refused Schedule config bytes (TooLong other) within faulty = absurd faulty
faulty_refused Report config bytes (TooLong other) within faulty = absurd faulty
faulty_refused file config bytes fault within faulty = (within, faulty)

pub accepted_or_refused : (file : RunFile) (config : Config) (bytes : List ℕ) → IsAccepted file config bytes ⊎ ((fault : Fault) × IsRefused file config bytes fault)
accepted_or_refused file config bytes =
    elim (cases_lt (limit_of file) (length bytes)) [
      | inl long ↦ inr (TooLong file, (refl, long))
      | inr within ↦ elim (sound_or_faulty file config bytes) [
        | inl sound ↦ inl (within, sound)
        | inr faulty ↦ inr (faulty.0, faulty_refused file config bytes faulty.0 within faulty.1)
      ]
    ]
