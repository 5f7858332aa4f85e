-- The words that a transfer touches follow each other.
use Rattle.std.specs.Prelude.{ℕ, ◌+◌, ◌*◌, ◌&&◌, nat_le, nat_lt, Bool}
use Rattle.replay_words.specs.declared.touched.Span.{Span}

-- a word, by its address, is one of a span
abbrev pub is_in_span : Span → ℕ → Bool
is_in_span span word = nat_le span.first word && nat_lt word (span.first + 4 * span.count)
