-- Runs in which no word and no register cell ever has two turned bits, and runs in which one has.
use Rattle.std.specs.Prelude.{refl, true}
use Rattle.std.proofs.lemmas.Bool.{true≢false}
use Rattle.lf_model.specs.Promise.NeverStops.{NeverTwoTurned, NeverStops}
use Rattle.lf_model.proofs.NeverStops.{headline_never_stops}
use Rattle.lf_worked.specs.Machine.{machine}
use Rattle.lf_worked.proofs.PromiseTest.{headline}
use Rattle.lf_worked.specs.BadWordsWatched.{bad_words_watched_setup, bad_words_watched_trace}
use Rattle.lf_worked.specs.CorrectedLoad.{corrected_load_setup, corrected_load_trace}
use Rattle.lf_worked.specs.RegisterWrittenBack.{register_written_back_setup, register_written_back_trace}
use Rattle.lf_worked.specs.SameBitTwice.{same_bit_twice_setup, same_bit_twice_trace}
use Rattle.lf_worked.specs.StopAtLoad.{stop_at_load_setup, stop_at_load_trace}
use Rattle.lf_worked.specs.StopAtRegister.{stop_at_register_setup, stop_at_register_trace}

-- one flip of a word, which a load corrects
corrected_load_never : NeverTwoTurned corrected_load_setup corrected_load_trace
unfolding machine corrected_load_setup corrected_load_trace
corrected_load_never = record { words = refl; cells = refl }

-- and so, as its headline says, no error trap stops it
corrected_load_goes_on : NeverStops corrected_load_setup corrected_load_trace
unfolding machine corrected_load_setup corrected_load_trace
corrected_load_goes_on =
    headline_never_stops corrected_load_setup corrected_load_trace (headline corrected_load_setup corrected_load_trace refl) corrected_load_never

-- one flip of a register, which a read corrects
register_written_back_never : NeverTwoTurned register_written_back_setup register_written_back_trace
unfolding machine register_written_back_setup register_written_back_trace
register_written_back_never = record { words = refl; cells = refl }

-- the same bit flipped twice
same_bit_twice_never : NeverTwoTurned same_bit_twice_setup same_bit_twice_trace
unfolding machine same_bit_twice_setup same_bit_twice_trace
same_bit_twice_never = record { words = refl; cells = refl }

-- two flips of the word of a stop
stop_at_load_had : NeverTwoTurned stop_at_load_setup stop_at_load_trace → ⊥
unfolding machine stop_at_load_setup stop_at_load_trace
stop_at_load_had h = true≢false h.words

-- two flips of the cell of a stop
stop_at_register_had : NeverTwoTurned stop_at_register_setup stop_at_register_trace → ⊥
unfolding machine stop_at_register_setup stop_at_register_trace
stop_at_register_had h = true≢false h.cells

-- two flips of a word that no instruction reads
bad_words_watched_had : NeverTwoTurned bad_words_watched_setup bad_words_watched_trace → ⊥
unfolding machine bad_words_watched_setup bad_words_watched_trace
bad_words_watched_had h = true≢false h.words
