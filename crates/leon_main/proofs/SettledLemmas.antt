-- The files of a run or an audit spell one setup, and one schedule or trace, or have one first refusal, and not both.
use Rattle.std.proofs.Common.{ℕ, ◌≡◌, ◌≤◌, ◌<◌, ◌∙◌, ◌⊎◌, List, Ok, refl, sym, subst, ap, inl, inr, arith}
use Rattle.std.proofs.lemmas.Bool.{cases_lt}
use Rattle.lf_io.specs.Held.{FileMap}
use Rattle.lf_model.specs.declared.config.Config.{Config}
use Rattle.lf_model.specs.declared.flip.Flip.{Flip}
use Rattle.lf_model.specs.declared.image.Image as images
use Rattle.lf_model.specs.declared.setup.Event.{Event}
use Rattle.lf_model.specs.declared.setup.Setup.{Setup}
use Rattle.lf_model.specs.declared.trace.Trace.{Trace}
use Rattle.report_reader.proofs.Told.{equal_texts}
use Rattle.run_texts.specs.Grammar.{all_spelled}
use Rattle.run_texts.specs.Schedule.{event_lines}
use Rattle.run_texts.specs.Script.{flip_lines}
use Rattle.run_texts.specs.Text.{rows}
use Rattle.leon_main.proofs.CauseLemmas.{blank}
use Rattle.leon_main.proofs.FileLemmas.{IsAccepted, accepted_not_refused, one_refusal, accepted_or_refused}
use Rattle.leon_main.specs.Accepted.{bytes_of, SpellsConfiguration, SpellsImage, SpellsScript, SpellsSchedule, SpellsReport, Spelled, SpellsLast, SpellSetup, AreParts, AreAcceptedBefore, IsRefused, IsFirstRefusal}
use Rattle.leon_main.specs.Call.{HasParts, HasRefusal, IsSettled}
use Rattle.leon_main.specs.Files.{name_in, IsFileOf}
use Rattle.leon_main.specs.Words.{Task, Play, Audit, FileNames}
use Rattle.leon_main.specs.declared.fault.Fault.{Fault}
use Rattle.leon_main.specs.declared.fault.Fault.TheVariants.{TooLong, NotToml, UnknownKey, WrongKind, OutOfRange}
use Rattle.leon_main.specs.declared.run_file.RunFile.{RunFile}
use Rattle.leon_main.specs.declared.run_file.RunFile.TheVariants.{Configuration, Image, Script, Schedule, Report}

-- a file of a run is accepted, for this configuration
abbrev IsAcceptedIn : FileNames → FileMap → Config → RunFile → Type 0
IsAcceptedIn names files config file = IsAccepted file config (bytes_of files (name_in names file))

one_config : (bytes : List ℕ) (config other : Config) → SpellsConfiguration bytes config → SpellsConfiguration bytes other → config ≡ other
one_config bytes config other first second = let same : Ok config ≡ Ok other = sym first.1 ∙ second.1 in cc

one_image : (config other : Config) (bytes : List ℕ) (image more : images.Image) → SpellsImage config bytes image → SpellsImage other bytes more → image ≡ more
one_image config other bytes image more first second = first.1.spelled ∙ sym second.1.spelled

one_script : (config other : Config) (bytes : List ℕ) (flips more : List Flip) → config ≡ other → SpellsScript config bytes flips → SpellsScript other bytes more → flips ≡ more
one_script config other bytes flips more same first second = first.1.spelled ∙ (ap (λ (c : Config). all_spelled (flip_lines c) (rows bytes)) same ∙ sym second.1.spelled)

one_schedule : (config other : Config) (bytes : List ℕ) (events more : List Event) → config ≡ other → SpellsSchedule config bytes events
    → SpellsSchedule other bytes more → events ≡ more
one_schedule config other bytes events more same first second =
    first.1.spelled ∙ (ap (λ (c : Config). all_spelled (event_lines c) (rows bytes)) same ∙ sym second.1.spelled)

one_report : (bytes : List ℕ) (trace more : Trace) → SpellsReport bytes trace → SpellsReport bytes more → trace ≡ more
one_report bytes trace more first second = equal_texts trace more first.1.0 second.1.0 (sym first.1.1 ∙ second.1.1)

one_spelled : (task : Task) (config other : Config) (bytes : List ℕ) (spelled more : Spelled task) → config ≡ other → SpellsLast task config bytes spelled
    → SpellsLast task other bytes more → spelled ≡ more
one_spelled Play config other bytes spelled more same first second = one_schedule config other bytes spelled more same first second
one_spelled Audit config other bytes spelled more same first second = one_report bytes spelled more first second

of_parts : (config other : Config) (image more : images.Image) (flips others : List Flip) → config ≡ other → image ≡ more → flips ≡ others
    → ◌≡◌ {A = Setup} (record { config = config; image = image; flips = flips }) (record { config = other; image = more; flips = others })
of_parts config other image more flips others configs images_ all_flips = rw (configs, images_, all_flips) refl

same_setup : (setup other : Setup) → setup.config ≡ other.config → setup.image ≡ other.image → setup.flips ≡ other.flips → setup ≡ other
same_setup setup other configs images_ flips = of_parts setup.config other.config setup.image other.image setup.flips other.flips configs images_ flips

pub play_not_audit : {X : Type 0} (task : Task) → task ≡ Play → task ≡ Audit → X
play_not_audit task first second = absurd (let e : Play ≡ Audit = sym first ∙ second in cc)

-- the place of a file in the order in which the files are read
abbrev place_of : RunFile → ℕ
place_of Configuration = 0
place_of Image = 1
place_of Script = 2
place_of Schedule = 3
place_of Report = 3

at_most : (file : RunFile) → place_of file ≤ 3
at_most Configuration = omega arith
at_most Image = omega arith
at_most Script = omega arith
at_most Schedule = omega arith
at_most Report = omega arith

-- the refusal of a configuration does not depend on the configuration
any_config : (config other : Config) (bytes : List ℕ) (fault : Fault) → IsRefused Configuration config bytes fault → IsRefused Configuration other bytes fault
any_config config other bytes (TooLong file) refused = refused
any_config config other bytes NotToml refused = refused
any_config config other bytes UnknownKey refused = refused
any_config config other bytes (WrongKind key) refused = refused
any_config config other bytes (OutOfRange key) refused = refused
any_config config other bytes fault refused = absurd refused.1

module _ (names : FileNames) (files : FileMap) where
  -- what a file that is accepted behind another one tells of that one
  config_before : (file : RunFile) (setup : Setup) → 0 < place_of file → AreAcceptedBefore file names files setup
      → SpellsConfiguration (bytes_of files names.configuration) setup.config
  config_before Configuration setup later accepted = absurd (omega (arith, later))
  config_before Image setup later accepted = accepted
  config_before Script setup later accepted = accepted.0
  config_before Schedule setup later accepted = accepted.configuration
  config_before Report setup later accepted = accepted.configuration

  image_before : (file : RunFile) (setup : Setup) → 1 < place_of file → AreAcceptedBefore file names files setup
      → SpellsImage setup.config (bytes_of files names.image) setup.image
  image_before Configuration setup later accepted = absurd (omega (arith, later))
  image_before Image setup later accepted = absurd (omega (arith, later))
  image_before Script setup later accepted = accepted.1
  image_before Schedule setup later accepted = accepted.image
  image_before Report setup later accepted = accepted.image

  script_before : (file : RunFile) (setup : Setup) → 2 < place_of file → AreAcceptedBefore file names files setup
      → SpellsScript setup.config (bytes_of files names.script) setup.flips
  script_before Configuration setup later accepted = absurd (omega (arith, later))
  script_before Image setup later accepted = absurd (omega (arith, later))
  script_before Script setup later accepted = absurd (omega (arith, later))
  script_before Schedule setup later accepted = accepted.script
  script_before Report setup later accepted = accepted.script

  accepted_before : (a b : RunFile) (setup : Setup) → place_of a < place_of b → AreAcceptedBefore b names files setup → IsAcceptedIn names files setup.config a
  accepted_before Configuration b setup later accepted = let told = config_before b setup later accepted in (told.0, (setup.config, told.1))
  accepted_before Image b setup later accepted = let told = image_before b setup later accepted in (told.0, (setup.image, told.1))
  accepted_before Script b setup later accepted = let told = script_before b setup later accepted in (told.0, (setup.flips, told.1))
  accepted_before Schedule b setup later accepted = absurd (omega (arith, at_most b, later))
  accepted_before Report b setup later accepted = absurd (omega (arith, at_most b, later))

  -- a refusal is one for the configuration of each setup of which the files before it are accepted
  module _ (fault : Fault) where
    moved : (a b : RunFile) (s t : Setup) → 0 < place_of a → place_of a ≤ place_of b → AreAcceptedBefore a names files s → AreAcceptedBefore b names files t
        → IsRefused a s.config (bytes_of files (name_in names a)) fault → IsRefused a t.config (bytes_of files (name_in names a)) fault
    moved a b s t later ordered accepted more refused =
        subst (λ (c : Config). IsRefused a c (bytes_of files (name_in names a)) fault)
        (one_config (bytes_of files names.configuration) s.config t.config (config_before a s later accepted) (config_before b t (omega (arith, later, ordered)) more))
        refused

    refused_in : (a b : RunFile) (s t : Setup) → place_of a ≤ place_of b → AreAcceptedBefore a names files s → AreAcceptedBefore b names files t
        → IsRefused a s.config (bytes_of files (name_in names a)) fault → IsRefused a t.config (bytes_of files (name_in names a)) fault
    refused_in Configuration b s t ordered accepted more refused = any_config s.config t.config (bytes_of files names.configuration) fault refused
    refused_in Image b s t ordered accepted more refused = moved Image b s t (omega arith) ordered accepted more refused
    refused_in Script b s t ordered accepted more refused = moved Script b s t (omega arith) ordered accepted more refused
    refused_in Schedule b s t ordered accepted more refused = moved Schedule b s t (omega arith) ordered accepted more refused
    refused_in Report b s t ordered accepted more refused = moved Report b s t (omega arith) ordered accepted more refused

    -- a refused file is not accepted, as it is where a later one is tried
    never_later : (a b : RunFile) (s t : Setup) → place_of a < place_of b → AreAcceptedBefore a names files s → AreAcceptedBefore b names files t
        → IsRefused a s.config (bytes_of files (name_in names a)) fault → ⊥
    never_later a b s t lower accepted more refused =
        accepted_not_refused a t.config (bytes_of files (name_in names a)) fault (accepted_before a b t lower more)
        (refused_in a b s t (omega (arith, lower)) accepted more refused)

-- ---- all files of a task

same_file : (task : Task) (a b : RunFile) → IsFileOf a task → IsFileOf b task → place_of a ≡ place_of b → a ≡ b
same_file task Configuration Configuration first second same = refl
same_file task Image Image first second same = refl
same_file task Script Script first second same = refl
same_file task Schedule Schedule first second same = refl
same_file task Report Report first second same = refl
same_file task Schedule Report first second same = absurd (play_not_audit task first second)
same_file task Report Schedule first second same = absurd (play_not_audit task second first)
same_file task a b first second same = absurd (omega (arith, same))

-- each file of a task is accepted where all of them are
accepted_in_parts : (task : Task) (names : FileNames) (files : FileMap) (setup : Setup) (spelled : Spelled task) → AreParts task names files setup spelled
    → (file : RunFile) → IsFileOf file task → IsAcceptedIn names files setup.config file
accepted_in_parts task names files setup spelled parts Configuration is_read =
    let own = parts.setup_spelled.configuration in (own.0, (setup.config, own.1))
accepted_in_parts task names files setup spelled parts Image is_read = let own = parts.setup_spelled.image in (own.0, (setup.image, own.1))
accepted_in_parts task names files setup spelled parts Script is_read = let own = parts.setup_spelled.script in (own.0, (setup.flips, own.1))
accepted_in_parts Play names files setup spelled parts Schedule is_read = (parts.last.0, (spelled, parts.last.1))
accepted_in_parts Audit names files setup spelled parts Report is_read = (parts.last.0, (spelled, parts.last.1))
accepted_in_parts Play names files setup spelled parts Report is_read = absurd (play_not_audit Play refl is_read)
accepted_in_parts Audit names files setup spelled parts Schedule is_read = absurd (play_not_audit Audit is_read refl)

module _ (task : Task) (names : FileNames) (files : FileMap) where
  one_setup : (setup other : Setup) (spelled more : Spelled task) → AreParts task names files setup spelled → AreParts task names files other more → setup ≡ other
  one_setup setup other spelled more first second =
      let own = first.setup_spelled in
      let others = second.setup_spelled in
      let config = one_config (bytes_of files names.configuration) setup.config other.config own.configuration others.configuration in
      same_setup setup other config
      (one_image setup.config other.config (bytes_of files names.image) setup.image other.image own.image others.image)
      (one_script setup.config other.config (bytes_of files names.script) setup.flips other.flips config own.script others.script)

  one_last : (setup other : Setup) (spelled more : Spelled task) → AreParts task names files setup spelled → AreParts task names files other more → spelled ≡ more
  one_last setup other spelled more first second =
      one_spelled task setup.config other.config (bytes_of files names.last) spelled more
      (ap (λ (s : Setup). s.config) (one_setup setup other spelled more first second)) first.last second.last

  -- where all files are accepted none is the first refusal
  not_both : (setup : Setup) (spelled : Spelled task) (fault : Fault) → AreParts task names files setup spelled → IsFirstRefusal task names files fault → ⊥
  not_both setup spelled fault parts refusal =
      accepted_not_refused refusal.file setup.config (bytes_of files (name_in names refusal.file)) fault
      (accepted_in_parts task names files setup spelled parts refusal.file refusal.is_read)
      (refused_in names files fault refusal.file Schedule refusal.setup setup (at_most refusal.file) refusal.accepted parts.setup_spelled refusal.refused)

  -- two first refusals of one file have one fault
  of_one_file : (a b : RunFile) (s t : Setup) (fault other : Fault) → a ≡ b → AreAcceptedBefore a names files s → AreAcceptedBefore b names files t
      → IsRefused a s.config (bytes_of files (name_in names a)) fault → IsRefused b t.config (bytes_of files (name_in names b)) other → fault ≡ other
  of_one_file a b s t fault other same accepted more refused again =
      one_refusal a t.config (bytes_of files (name_in names a)) fault other
      (refused_in names files fault a a s t (omega arith) accepted (subst (λ (f : RunFile). AreAcceptedBefore f names files t) (sym same) more) refused)
      (subst (λ (f : RunFile). IsRefused f t.config (bytes_of files (name_in names f)) other) (sym same) again)

  one_first : (fault other : Fault) → IsFirstRefusal task names files fault → IsFirstRefusal task names files other → fault ≡ other
  one_first fault other first second =
      elim (cases_lt (place_of first.file) (place_of second.file)) [
        | inl lower ↦ absurd (never_later names files fault first.file second.file first.setup second.setup lower first.accepted second.accepted first.refused)
        | inr not_lower ↦ elim (cases_lt (place_of second.file) (place_of first.file)) [
          | inl lower ↦ absurd (never_later names files other second.file first.file second.setup first.setup lower second.accepted first.accepted second.refused)
          | inr not_higher ↦
              of_one_file first.file second.file first.setup second.setup fault other
              (same_file task first.file second.file first.is_read second.is_read (omega (arith, not_lower, not_higher)))
              first.accepted second.accepted first.refused second.refused
        ]
      ]

-- ---- one of the two

refusal_at : (task : Task) (file : RunFile) (names : FileNames) (files : FileMap) (setup : Setup) → IsFileOf file task → AreAcceptedBefore file names files setup
    → ((fault : Fault) × IsRefused file setup.config (bytes_of files (name_in names file)) fault) → HasRefusal task names files
refusal_at task file names files setup is_read accepted refused =
    (refused.0, record { file = file; is_read = is_read; setup = setup; accepted = accepted; refused = refused.1 })

by_last : (task : Task) (names : FileNames) (files : FileMap) (setup : Setup) → SpellSetup names files setup → HasParts task names files ⊎ HasRefusal task names files
by_last Play names files setup first =
    elim (accepted_or_refused Schedule setup.config (bytes_of files names.last)) [
      | inr refused ↦ inr (refusal_at Play Schedule names files setup refl first refused)
      | inl told ↦ inl (setup, told.1.0, record { setup_spelled = first; last = (told.0, told.1.1) })
    ]
by_last Audit names files setup first =
    elim (accepted_or_refused Report setup.config (bytes_of files names.last)) [
      | inr refused ↦ inr (refusal_at Audit Report names files setup refl first refused)
      | inl told ↦ inl (setup, told.1.0, record { setup_spelled = first; last = (told.0, told.1.1) })
    ]

either : (task : Task) (names : FileNames) (files : FileMap) → HasParts task names files ⊎ HasRefusal task names files
either task names files =
    elim (accepted_or_refused Configuration blank.config (bytes_of files names.configuration)) [
      | inr refused ↦ inr (refusal_at task Configuration names files blank tt tt refused)
      | inl configuration ↦
          let with_config : Setup = record blank { config = configuration.1.0 } in
          let config : SpellsConfiguration (bytes_of files names.configuration) with_config.config = (configuration.0, configuration.1.1) in
          elim (accepted_or_refused Image with_config.config (bytes_of files names.image)) [
            | inr refused ↦ inr (refusal_at task Image names files with_config tt config refused)
            | inl image ↦
                let with_image : Setup = record with_config { image = image.1.0 } in
                let loaded : SpellsImage with_image.config (bytes_of files names.image) with_image.image = (image.0, image.1.1) in
                elim (accepted_or_refused Script with_image.config (bytes_of files names.script)) [
                  | inr refused ↦ inr (refusal_at task Script names files with_image tt (config, loaded) refused)
                  | inl script ↦
                      by_last task names files (record with_image { flips = script.1.0 })
                      (record { configuration = config; image = loaded; script = (script.0, script.1.1) })
                ]
          ]
    ]

pub settled : (task : Task) (names : FileNames) (files : FileMap) → IsSettled task names files
settled task names files = record {
  either = either task names files;
  not_both = λ parts refusal. not_both task names files parts.0 parts.1 refusal.0 parts.2 refusal.1;
  one_setup = one_setup task names files;
  one_last = one_last task names files;
  one_fault = one_first task names files;
}
