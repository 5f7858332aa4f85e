-- Readers of the fields of a line. A reader answers the value that the bytes begin with, and the bytes after it; `None` where
-- they do not fit. Readers are put together as the fields of a line follow one another.
use Rattle.std.specs.Prelude.{ℕ, ◌==◌, ◌∷◌, [], List, Bool, Option, Some, None, if◌then◌else◌}
use Rattle.std.specs.Option.{option_map, option_or}

infixl 10 ◌>>=◌
abbrev pub Read : Type 0 → Type 0
Read X = Option (X × List ℕ)

-- what a reader of what follows makes of an answer
abbrev pub ◌>>=◌ : {X Y : Type 0} → Option X → (X → Option Y) → Option Y
None >>= f = None
(Some x) >>= f = f x

-- the bytes after this text
abbrev pub without : List ℕ → List ℕ → Option (List ℕ)
without [] bytes = Some bytes
without (t ∷ text) [] = None
without (t ∷ text) (b ∷ bytes) = if t == b then without text bytes else None

-- what is passed over, then a value
abbrev pub past : {X : Type 0} → (List ℕ → Option (List ℕ)) → (List ℕ → Read X) → List ℕ → Read X
past p at bytes = p bytes >>= at

-- a value, then what is passed over
abbrev pub before : {X : Type 0} → (List ℕ → Read X) → (List ℕ → Option (List ℕ)) → List ℕ → Read X
before at p bytes = at bytes >>= λ x. p x.1 >>= λ rest. Some (x.0, rest)

-- a value, then another, whose form may hang on the first
abbrev pub then_at : {X Y : Type 0} → (List ℕ → Read X) → (X → List ℕ → Read Y) → List ℕ → Read (X × Y)
then_at p q bytes = p bytes >>= λ x. q x.0 x.1 >>= λ y. Some ((x.0, y.0), y.1)

-- the value, made into another
abbrev pub as_at : {X Y : Type 0} → (X → Y) → (List ℕ → Read X) → List ℕ → Read Y
as_at f at bytes = at bytes >>= λ x. Some (f x.0, x.1)

-- a value that passes a test
abbrev pub kept : {X : Type 0} → (X → Bool) → (List ℕ → Read X) → List ℕ → Read X
kept test at bytes = at bytes >>= λ x. if test x.0 then Some x else None

-- the first of two forms that fits
abbrev pub either : {X : Type 0} → (List ℕ → Read X) → (List ℕ → Read X) → List ℕ → Read X
either p q bytes = option_or (p bytes) (q bytes)

-- a text that means a value
abbrev pub row : {X : Type 0} → List ℕ → X → List ℕ → Read X
row text x bytes = option_map (λ rest. (x, rest)) (without text bytes)

-- the first of these values whose text the bytes begin with
abbrev pub word_at : {X : Type 0} → (X → List ℕ) → List X → List ℕ → Read X
word_at text [] bytes = None
word_at text (x ∷ xs) bytes = option_or (row (text x) x bytes) (word_at text xs bytes)
