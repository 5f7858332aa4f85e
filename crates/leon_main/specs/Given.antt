-- The words of a call as the system gives them, and what is answered to them.
use Rattle.std.specs.Prelude.{ℕ, ◌≡◌, ◌≢◌, ◌⊎◌, List, [], map, Option, Some, Result, Ok, Err, Vec, String, string_bytes}
use Rattle.std.specs.declared.alloc.Global.{Global}
use Rattle.lf_io.specs.Held.{FileMap}
use Rattle.lf_io.specs.Taken.{Takes, TakesPrefix}
use Rattle.leon_main.specs.Call.{IsAnswered, IsCutOff, IsFaultless, Decides}
use Rattle.leon_main.specs.Faults as faults
use Rattle.leon_main.specs.declared.fault.Fault.TheVariants as fault
use Rattle.leon_main.specs.declared.words.WordsErr.{WordsErr}
use Rattle.leon_main.specs.declared.words.WordsErr.TheVariants.{NotText, Memory}

-- the answer to known words, by its status and what a sink took, as `plain_call` gives it
pub record Answers (words : List (List ℕ)) (held : Option FileMap) (before after : List ℕ → ℕ)
    (old new : Option (List ℕ)) (status : ℕ) : Type 0 where
  pub answered : status ≢ 8 → IsAnswered words held before after old new status
  pub memory : status ≡ 7 → Takes old new (faults.line_of fault.Memory)
  pub cut_off : status ≡ 8 → IsCutOff words held before after old new
  pub decides : (files : FileMap) → held ≡ Some files → IsFaultless words before after → Decides words files old new status

-- the answer where there was no memory
pub record TellsMemory (old new : Option (List ℕ)) (status : ℕ) : Type 0 where
  pub only : (status ≡ 7) ⊎ (status ≡ 8)
  pub memory : status ≡ 7 → Takes old new (faults.line_of fault.Memory)
  pub cut_off : status ≡ 8 → TakesPrefix old new (faults.line_of fault.Memory)

-- the answer to what is known of the words: words that are not text are answered as no words are
abbrev pub AnswersGiven : Result (Vec (String Global) Global) WordsErr → Option FileMap → (List ℕ → ℕ) → (List ℕ → ℕ)
    → Option (List ℕ) → Option (List ℕ) → ℕ → Type 0
AnswersGiven (Ok words) held before after old new status =
    Answers (map string_bytes words.items) held before after old new status
AnswersGiven (Err NotText) held before after old new status = Answers [] held before after old new status
AnswersGiven (Err Memory) held before after old new status = TellsMemory old new status
