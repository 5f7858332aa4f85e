-- Why nothing came of a file, or of the files of a run.
use Rattle.std.specs.Prelude.{ℕ, ◌≡◌, ⊤, List, Option, IfSome}
use Rattle.lf_io.specs.Count.{Rose}
use Rattle.lf_io.specs.Held.{FileMap}
use Rattle.lf_model.specs.declared.config.Config.{Config}
use Rattle.lf_model.specs.declared.setup.Setup.{Setup}
use Rattle.leon_main.specs.Accepted.{IsWithin, AreAcceptedBefore, IsRefused, IsFirstRefusal}
use Rattle.leon_main.specs.Files.{name_in, IsFileOf}
use Rattle.leon_main.specs.Words.{Task, FileNames}
use Rattle.leon_main.specs.declared.fault.Fault.{Fault}
use Rattle.leon_main.specs.declared.fault.Fault.TheVariants.{Usage, Unread, Memory}
use Rattle.leon_main.specs.declared.run_file.RunFile.{RunFile}

-- One file, whose bytes are told or not: a read of it failed, so that the count of its name rose; memory ran out, for
-- bytes within the limit only; or its bytes, where they are told, are refused.
abbrev pub IsFileCause : RunFile → Config → Option (List ℕ) → ℕ → ℕ → Fault → Type 0
IsFileCause file config told before after Usage = ⊥
IsFileCause file config told before after (Unread unread) = (unread ≡ file) × Rose before after
IsFileCause file config told before after Memory = IfSome told (IsWithin file)
IsFileCause file config told before after fault = IfSome told (λ bytes. IsRefused file config bytes fault)

-- a file could not be read: the count of its name rose, and the files before it, where they are told, are accepted
pub record IsUnread (task : Task) (names : FileNames) (held : Option FileMap) (before after : List ℕ → ℕ) (file : RunFile) : Type 0 where
  pub is_read : IsFileOf file task
  pub rose : Rose (before (name_in names file)) (after (name_in names file))
  pub accepted : IfSome held (λ files. (setup : Setup) × AreAcceptedBefore file names files setup)

-- all files of a run: a file could not be read; memory ran out; or this is the first refusal, where contents are told
abbrev pub IsCause : Task → FileNames → Option FileMap → (List ℕ → ℕ) → (List ℕ → ℕ) → Fault → Type 0
IsCause task names held before after Usage = ⊥
IsCause task names held before after (Unread file) = IsUnread task names held before after file
IsCause task names held before after Memory = ⊤
IsCause task names held before after fault = IfSome held (λ files. IsFirstRefusal task names files fault)
