-- Readers of whole lines. Where a line does not fit, a reader answers how many bytes are left from the start of that line.
use Rattle.std.specs.Prelude.{◌≡◌, ℕ, zero, suc, ◌+◌, ◌∷◌, [], List, length, nat_le, Option, Some, None, Result, Ok, Err}
use Rattle.report_fields.specs.Reading.{Read, without, past, kept}
use Rattle.report_fields.specs.Digits.{number_at}
use Rattle.report_fields.specs.declared.unread.Unread.{Unread}
use Rattle.report_fields.specs.declared.unread.Unread.TheVariants.{Memory, Left}

infixl 10 ◌>=>◌
abbrev pub Part : Type 0 → Type 0
Part X = Result (X × List ℕ) ℕ

abbrev pub ◌>=>◌ : {X Y : Type 0} → Result X ℕ → (X → Result Y ℕ) → Result Y ℕ
(Ok x) >=> f = f x
(Err left) >=> f = Err left

-- a line by the reader of its fields
abbrev pub or_left : {X : Type 0} → List ℕ → Option X → Result X ℕ
or_left bytes (Some x) = Ok x
or_left bytes None = Err (length bytes)

abbrev pub line_at : {X : Type 0} → (List ℕ → Read X) → List ℕ → Part X
line_at at bytes = or_left bytes (at bytes)

abbrev pub then_part : {X Y : Type 0} → (List ℕ → Part X) → (X → List ℕ → Part Y) → List ℕ → Part (X × Y)
then_part p q bytes = p bytes >=> λ x. q x.0 x.1 >=> λ y. Ok ((x.0, y.0), y.1)

abbrev pub as_part : {X Y : Type 0} → (X → Y) → (List ℕ → Part X) → List ℕ → Part Y
as_part f at bytes = at bytes >=> λ x. Ok (f x.0, x.1)

-- a line that is passed over, then a part
abbrev pub past_part : {X : Type 0} → (List ℕ → Option (List ℕ)) → (List ℕ → Part X) → List ℕ → Part X
past_part p at bytes = or_left bytes (p bytes) >=> at

-- a part, then a line that is passed over
abbrev pub before_part : {X : Type 0} → (List ℕ → Part X) → (List ℕ → Option (List ℕ)) → List ℕ → Part X
before_part at p bytes = at bytes >=> λ x. or_left x.1 (p x.1) >=> λ rest. Ok (x.0, rest)

-- n items of number i and up
abbrev pub items_at : {X : Type 0} → (ℕ → List ℕ → Part X) → ℕ → ℕ → List ℕ → Part (List X)
items_at at i zero bytes = Ok ([], bytes)
items_at at i (suc n) bytes = at i bytes >=> λ x. items_at at (i + 1) n x.1 >=> λ xs. Ok (x.0 ∷ xs.0, xs.1)

-- a line "HEAD N" with N from a least number to a greatest
unfoldable pub count_at : List ℕ → ℕ → ℕ → List ℕ → Read ℕ
count_at head least most bytes = past (without head) (kept (λ n. nat_le least n) (number_at 10 most)) bytes

-- such a line, and N items
abbrev pub counted_at : {X : Type 0} → List ℕ → ℕ → ℕ → (ℕ → ℕ → List ℕ → Part X) → List ℕ → Part (List X)
counted_at head least most at bytes = line_at (count_at head least most) bytes >=> λ n. items_at (at n.0) 0 n.0 n.1

-- what a call answers: what the reader does, or want of memory
abbrev pub Gives : {X Y : Type 0} → (X → Y) → Result X Unread → Result Y ℕ → Type 0
Gives f (Ok x) answer = answer ≡ Ok (f x)
Gives f (Err (Left n)) answer = answer ≡ Err n
Gives f (Err Memory) answer = Unit {0}
