-- The places of the words that a script strikes, in the order of the flips that first are for them.
use Rattle.std.specs.Prelude.{◌≡◌, ℕ, suc, ◌%◌, ◌<◌, ◌==◌, List, [], ◌∷◌, ◌++◌, Option, Some, None, is_some, option_map, IsTrue, if◌then◌else◌}
use Rattle.lf_model.specs.Bus.Words.{Word}
use Rattle.lf_model.specs.Flips.{Moment, word_bits}
use Rattle.lf_model.specs.Start.{is_in_ram}
use Rattle.lf_model.specs.declared.flip.Flip.{Flip}
use Rattle.lf_model.specs.declared.flip.Flip.TheVariants.{Mem, Reg, Tag, Line}

abbrev pub addr_of : Word → ℕ
addr_of word = word.addr

-- the place of an address
abbrev pub place_in : List ℕ → ℕ → Option ℕ
place_in [] addr = None
place_in (a ∷ addrs) addr = if a == addr then Some 0 else option_map suc (place_in addrs addr)

-- the addresses with one more, unless it has a place
abbrev pub with_address : List ℕ → ℕ → List ℕ
with_address addrs addr = if is_some (place_in addrs addr) then addrs else addrs ++ addr ∷ []

-- no address stands twice
abbrev pub AreDistinct : List ℕ → Type 0
AreDistinct [] = Unit {0}
AreDistinct (a ∷ addrs) = (place_in addrs a ≡ None) × AreDistinct addrs

abbrev pub IsAligned : ℕ → Type 0
IsAligned addr = addr % 4 ≡ 0

-- the words at these addresses, with these histories
abbrev pub words_of : List ℕ → List (List Moment) → List Word
words_of [] hs = []
words_of (a ∷ addrs) [] = []
words_of (a ∷ addrs) (h ∷ hs) = record { addr = a; history = h } ∷ words_of addrs hs

-- a flip of memory is for a bit of a word of RAM of so many bytes
abbrev pub IsAimed : ℕ → Flip → Type 0
IsAimed ram (Mem turn addr bit) = (addr % 4 ≡ 0) × (IsTrue (is_in_ram ram addr 4) × (bit < word_bits))
IsAimed ram (Reg core step cell bit) = Unit {0}
IsAimed ram (Tag core step fetch way set byte bit) = Unit {0}
IsAimed ram (Line core step fetch way set byte bit) = Unit {0}
