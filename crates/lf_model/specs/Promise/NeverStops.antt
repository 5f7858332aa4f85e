-- Runs in which no memory word and no register cell ever has two turned bits, and runs in which no error trap stops a core. The first
-- are among the second.
use Rattle.std.specs.Prelude.{ℕ, ◌≡◌, ◌||◌, Bool, true, false, List, [], ◌∷◌, IfSome, slice_get}
use Rattle.std.specs.List.{list_any}
use Rattle.lf_model.specs.Bus.Replay.{Core}
use Rattle.lf_model.specs.Bus.Words.{Word}
use Rattle.lf_model.specs.Flips.{Moment, is_bad_word}
use Rattle.lf_model.specs.Ledger.Account.{replay_of}
use Rattle.lf_model.specs.Places.{FailsNowhere}
use Rattle.lf_model.specs.declared.setup.Setup.{Setup}
use Rattle.lf_model.specs.declared.trace.CoreEnd.{CoreEnd}
use Rattle.lf_model.specs.declared.trace.CoreEnd.TheVariants.{Halt, Stop, Limit}
use Rattle.lf_model.specs.declared.trace.Trace.{Trace}

-- at some moment of its history a word or a cell had two turned bits
abbrev pub was_bad : List Moment → Bool
was_bad [] = false
was_bad (moment ∷ h) = is_bad_word (moment ∷ h) || was_bad h

abbrev pub word_was_bad : Word → Bool
word_was_bad word = was_bad word.history

abbrev pub a_cell_was_bad : Core → Bool
a_cell_was_bad c = list_any was_bad c.progress.arrays.cells

-- in the run of all masters over the transfers of a trace, no word and no cell ever has two turned bits
pub record NeverTwoTurned (setup : Setup) (trace : Trace) : Type 0 where
  pub words : list_any word_was_bad (replay_of setup trace).words ≡ false
  pub cells : list_any a_cell_was_bad (replay_of setup trace).cores ≡ false

abbrev pub is_stop : CoreEnd → Bool
is_stop (Halt tt_) = false
is_stop (Stop tt_ place syn) = true
is_stop Limit = false

-- no error trap stopped core c
abbrev pub NoStopAt : Trace → ℕ → Type 0
NoStopAt trace c = IfSome (slice_get trace.cores c) (λ r. is_stop r.end ≡ false)

-- none stopped a core
abbrev pub NeverStops : Setup → Trace → Type 0
NeverStops setup trace = FailsNowhere setup.config.cores (NoStopAt trace)
