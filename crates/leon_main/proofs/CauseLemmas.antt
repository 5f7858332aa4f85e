-- Why nothing came of the files of a run, by the file at which they stopped.
use Rattle.std.proofs.Common.{ℕ, ◌≡◌, ◌≤◌, [], List, Option, Some, None, sym, subst, arith}
use Rattle.std.specs.Prelude.{IfSome, ⊤}
use Rattle.lf_io.specs.Count.{Rose}
use Rattle.lf_io.specs.Held.{FileMap, content}
use Rattle.lf_model.specs.declared.setup.Setup.{Setup}
use Rattle.leon_main.specs.Accepted.{bytes_of, SpellsConfiguration, SpellsImage, SpellsScript, SpellSetup, Spelled, SpellsLast, AreParts, AreAcceptedBefore, IsRefused, IsFirstRefusal}
use Rattle.leon_main.specs.Files.{name_in, IsFileOf}
use Rattle.leon_main.specs.Reading.{IsFileCause, IsUnread, IsCause}
use Rattle.leon_main.specs.Words.{Task, FileNames}
use Rattle.leon_main.specs.declared.fault.Fault.{Fault}
use Rattle.leon_main.specs.declared.fault.Fault.TheVariants.{Usage, Unread, Memory}
use Rattle.leon_main.specs.declared.run_file.RunFile.{RunFile}

-- a setup of which nothing has a meaning
abbrev pub blank : Setup
blank = record {
  image = record { entry = 0; segments = []; text = [] };
  config = record {
    cores = 0;
    ram = 0;
    steps = 0;
    window = 0;
    buffer = 0;
    fetch_cache = record { ways = 0; sets = 0 };
    load_cache = record { ways = 0; sets = 0 };
    scrub = record { first = 0; length = 0 };
    scrub_turns = 0;
    watch = [];
  };
  flips = [];
}

-- a count that rose from a later value rose from an earlier one
rose_before : (before mid after : ℕ) → before ≤ mid → Rose mid after → Rose before after
rose_before before mid after falls rose = omega arith

-- what holds of a file's bytes, where it is told
pub file_holds : (held now : Option FileMap) (name : List ℕ) (P : List ℕ → Type 0) → now ≡ held → IfSome (content now name) P → IfSome held (λ files. P (bytes_of files name))
file_holds held now name P kept holds = told held (subst (λ (h : Option FileMap). IfSome (content h name) P) kept holds)
  where
    told : (h : Option FileMap) → IfSome (content h name) P → IfSome h (λ files. P (bytes_of files name))
    told None holds = tt
    told (Some files) holds = holds

pub nothing_before : (held : Option FileMap) → IfSome held (λ _. ⊤)
nothing_before None = tt
nothing_before (Some files) = tt

pub both : (held : Option FileMap) (P Q : FileMap → Type 0) → IfSome held P → IfSome held Q → IfSome held (λ files. P files × Q files)
both None P Q p q = tt
both (Some files) P Q p q = (p, q)

-- what the three files spell is a setup, and with what the last spells it is all that the files spell
pub spell_setup : (held : Option FileMap) (names : FileNames) (setup : Setup)
    → IfSome held (λ files. SpellsConfiguration (bytes_of files names.configuration) setup.config)
    → IfSome held (λ files. SpellsImage setup.config (bytes_of files names.image) setup.image)
    → IfSome held (λ files. SpellsScript setup.config (bytes_of files names.script) setup.flips) → IfSome held (λ files. SpellSetup names files setup)
spell_setup None names setup configuration image script = tt
spell_setup (Some files) names setup configuration image script = record { configuration = configuration; image = image; script = script }

pub are_parts : (task : Task) (held : Option FileMap) (names : FileNames) (setup : Setup) (spelled : Spelled task) → IfSome held (λ files. SpellSetup names files setup)
    → IfSome held (λ files. SpellsLast task setup.config (bytes_of files names.last) spelled) → IfSome held (λ files. AreParts task names files setup spelled)
are_parts task None names setup spelled first last = tt
are_parts task (Some files) names setup spelled first last = record { setup_spelled = first; last = last }

pub with_setup : (held : Option FileMap) (P : Setup → FileMap → Type 0) (setup : Setup) → IfSome held (P setup) → IfSome held (λ files. (s : Setup) × P s files)
with_setup None P setup p = tt
with_setup (Some files) P setup p = (setup, p)

-- a file of a task
module _ (task : Task) (file : RunFile) (is_read : IsFileOf file task) (names : FileNames) where
  -- a file that is refused behind accepted ones is the first refusal
  refused_first : (held : Option FileMap) (setup : Setup) (fault : Fault) → IfSome held (λ files. AreAcceptedBefore file names files setup)
      → IfSome (content held (name_in names file)) (λ bytes. IsRefused file setup.config bytes fault) → IfSome held (λ files. IsFirstRefusal task names files fault)
  refused_first None setup fault accepted refused = tt
  refused_first (Some files) setup fault accepted refused = record { file = file; is_read = is_read; setup = setup; accepted = accepted; refused = refused }

  -- the cause of one file's fault is the cause of the fault of all
  cause_by : (held : Option FileMap) (before mid after : List ℕ → ℕ) (setup : Setup) (fault : Fault)
      → before (name_in names file) ≤ mid (name_in names file) → IfSome held (λ files. AreAcceptedBefore file names files setup)
      → IsFileCause file setup.config (content held (name_in names file)) (mid (name_in names file)) (after (name_in names file)) fault
      → IsCause task names held before after fault
  cause_by held before mid after setup Usage falls accepted cause = cause
  cause_by held before mid after setup Memory falls accepted cause = tt
  cause_by held before mid after setup (Unread unread) falls accepted cause =
      subst (λ (f : RunFile). IsUnread task names held before after f) (sym cause.0) (record {
        is_read = is_read;
        rose = rose_before (before (name_in names file)) (mid (name_in names file)) (after (name_in names file)) falls cause.1;
        accepted = with_setup held (λ s files. AreAcceptedBefore file names files s) setup accepted;
      })
  cause_by held before mid after setup fault falls accepted cause = refused_first held setup fault accepted cause

  pub stage_cause : (held now : Option FileMap) (before mid after : List ℕ → ℕ) (setup : Setup) (fault : Fault)
      → now ≡ held → before (name_in names file) ≤ mid (name_in names file) → IfSome held (λ files. AreAcceptedBefore file names files setup)
      → IsFileCause file setup.config (content now (name_in names file)) (mid (name_in names file)) (after (name_in names file)) fault
      → IsCause task names held before after fault
  stage_cause held now before mid after setup fault kept falls accepted cause =
      cause_by held before mid after setup fault falls accepted
      (subst (λ (h : Option FileMap). IsFileCause file setup.config (content h (name_in names file)) (mid (name_in names file)) (after (name_in names file)) fault) kept cause)
