-- What AHBSTAT notes of a transfer, by what memory answered it.
use Rattle.std.specs.Prelude.{ℕ, ◌+◌, ◌-◌, ◌*◌, ◌==◌, not, Bool, true, false, List, find, slice_index, slice_index_or, Option, Some, None, if◌then◌else◌}
use Rattle.std.specs.List.{range_with_len}
use Rattle.ahb_status.specs.Note.{note_with, first_of}
use Rattle.lf_model.specs.Bus.Status.{AhbStatus, size_noted, status_start}
use Rattle.lf_model.specs.Bus.Words.{word_of}
use Rattle.lf_model.specs.Names.{same_kind}
use Rattle.lf_model.specs.declared.bus.Line.{Line}
use Rattle.lf_model.specs.declared.bus.Transfer.{Transfer}
use Rattle.lf_model.specs.declared.bus.TurnKind.TheVariants.{Store}
use Rattle.ram_words.specs.declared.answer.Fixed.{Fixed}
use Rattle.ram_words.specs.declared.answer.Fixed.TheVariants as fixes

-- the note of a word of a transfer, by its number
abbrev pub noted_at : Transfer → ℕ → Bool → AhbStatus
noted_at t place bad = note_with (word_of t.addr + 4 * place) (size_noted t.len t.kind) t.master (same_kind t.kind Store) (not bad)

-- the lowest of these words that is not clean, from one of them on
unfoldable pub first_unclean_from : List ℕ → ℕ → Option ℕ
first_unclean_from syndromes place = find (λ j. not (slice_index syndromes j == 0)) (range_with_len place (8 - place))

abbrev pub first_unclean_of : ℕ → List ℕ → Option ℕ
first_unclean_of count syndromes = find (λ place. not (slice_index syndromes place == 0)) (range_with_len 0 count)

-- the registers after a transfer that read one word, with this syndrome
abbrev pub word_noted : AhbStatus → Transfer → ℕ → Bool → AhbStatus
word_noted s t syn bad = if syn == 0 then s else first_of s (noted_at t 0 bad)

-- after one that read a line
abbrev pub place_noted : AhbStatus → Transfer → Line → Option ℕ → AhbStatus
place_noted s t line None = s
place_noted s t line (Some place) = first_of s (noted_at t place (slice_index_or line.bad place false))

abbrev pub line_noted : AhbStatus → Transfer → Line → AhbStatus
line_noted s t line = place_noted s t line (first_unclean_of 8 line.syn)

-- a fix met a bad word
abbrev pub is_bad_fix : Fixed → Bool
is_bad_fix fixes.Clean = false
is_bad_fix (fixes.Corrected bit syn) = false
is_bad_fix (fixes.Bad syn) = true

-- and after a fix, which clears them if they name its word and it was not bad
abbrev pub fix_cleared : AhbStatus → Transfer → Bool → AhbStatus
fix_cleared s t bad = if bad then s else if s.addr == t.addr then status_start else s

abbrev pub fix_noted : AhbStatus → Transfer → ℕ → Bool → AhbStatus
fix_noted s t syn bad = fix_cleared (word_noted s t syn bad) t bad
