-- Spans of addresses, of which a map of text is made. For its own steps.
use Rattle.std.specs.Prelude.{ℕ, ◌≡◌, ◌+◌, ◌<◌, Bool, ◌&&◌, nat_lt, nat_le, List, [], ◌∷◌}
use Rattle.std.specs.List.{list_any, AllByRecursion}
use Rattle.lf_model.specs.Start.{is_text_byte}
use Rattle.lf_model.specs.declared.image.Range.{Range}
use Rattle.text_map.specs.declared.map.Span.{Span}

-- the range has addresses
abbrev pub is_in_use : Range → Bool
is_in_use r = nat_lt 0 r.length

abbrev pub span_of : Range → Span
span_of r = record { first = r.first; end = r.first + r.length }

-- the address is in the span
abbrev pub in_span : ℕ → Span → Bool
in_span a s = nat_le s.first a && nat_lt a s.end

-- the address is in one of the spans
abbrev pub in_spans : List Span → ℕ → Bool
in_spans spans a = list_any (in_span a) spans

-- the span ends behind the address
abbrev pub ends_after : ℕ → Span → Bool
ends_after a s = nat_lt a s.end

-- the four bytes from the address on are in the span, which ends behind it
abbrev pub has_word : ℕ → Span → Bool
has_word a s = nat_le s.first a && nat_le (a + 4) s.end

-- one of so many bytes from the address on is in the span, which ends behind it
abbrev pub has_one : ℕ → ℕ → Span → Bool
has_one a len s = nat_lt 0 len && nat_lt s.first (a + len)

-- spans that have addresses, and follow one another with gaps between them
abbrev pub IsApart : List Span → Type 0
IsApart [] = Unit {0}
IsApart (s ∷ ss) = (s.first < s.end) × AllByRecursion (λ t. s.end < t.first) ss × IsApart ss

-- spans with gaps between them that have the addresses of others
pub record IsMerged (merged spans : List Span) : Type 0 where
  pub apart : IsApart merged
  pub same : (a : ℕ) → in_spans merged a ≡ in_spans spans a

-- spans with gaps between them that have the addresses of text
pub record IsMapOf (spans : List Span) (text : List Range) : Type 0 where
  pub apart : IsApart spans
  pub same : (a : ℕ) → in_spans spans a ≡ is_text_byte text a
