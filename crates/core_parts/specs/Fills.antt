-- A line of memory as a fill gets it: which of its words are bad, and the lowest of them that an access wants.
use Rattle.std.specs.Prelude.{ℕ, ◌≡◌, ◌+◌, ◌*◌, false, Bool, Option, Some, None, Result, Ok, Err, find, slice_index, slice_index_or}
use Rattle.lf_model.specs.Caches.Slot.{line_of, wanted_words}
use Rattle.lf_model.specs.declared.bus.Bad.{Bad}
use Rattle.lf_model.specs.declared.bus.Line.{Line}

-- word j is bad
abbrev pub is_bad_in : Line → ℕ → Bool
is_bad_in line j = slice_index_or line.bad j false

-- word j of the line of an address, with its syndrome
abbrev pub bad_word : Line → ℕ → ℕ → Bad
bad_word line addr j = record { addr = line_of addr + 4 * j; syn = slice_index line.syn j }

-- the lowest bad word of those that an access of so many bytes wants
abbrev pub lowest_bad : Line → ℕ → ℕ → Option ℕ
lowest_bad line addr len = find (is_bad_in line) (wanted_words addr len)

-- a wanted word that is bad is answered
abbrev pub IsAnswered : {U : Type 0} → Line → ℕ → Option ℕ → Result U Bad → Type 0
IsAnswered line addr None (Ok u) = Unit {0}
IsAnswered line addr None (Err bad) = ⊥
IsAnswered line addr (Some j) (Ok u) = ⊥
IsAnswered line addr (Some j) (Err bad) = bad ≡ bad_word line addr j
