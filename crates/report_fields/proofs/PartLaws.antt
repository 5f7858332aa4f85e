-- Readers of whole lines and their texts belong together, and so do lists of lines.
use Rattle.std.proofs.Common.{◌≡◌, ℕ, zero, suc, ◌+◌, ◌^◌, ◌≤◌, ◌<◌, List, [], ◌∷◌, ◌++◌, length, refl, sym, ap, subst, ◌∙◌, append_assoc, arith}
use Rattle.std.specs.Prelude.{Option, Some, None, Result, Ok, Err, nat_le, true}
use Rattle.lf_model.specs.Report.{count_line}
use Rattle.report_fields.specs.Reading.{Read}
use Rattle.report_fields.specs.Parts.{Part, ◌>=>◌, or_left, line_at, then_part, as_part, past_part, before_part, items_at, count_at, counted_at}
use Rattle.report_fields.proofs.Laws.{Reads, Passes, past_reads, kept_reads, literal_passes}
use Rattle.report_fields.proofs.Decimal.{number_reads}

pub record PartReads {X : Type 0} (Fits : X → Type 0) (text : X → List ℕ) (at : List ℕ → Part X) : Type 0 where
  pub takes : (bytes : List ℕ) (x : X) (rest : List ℕ) → at bytes ≡ Ok (x, rest) → (bytes ≡ text x ++ rest) × Fits x
  pub again : (x : X) (rest : List ℕ) → Fits x → at (text x ++ rest) ≡ Ok (x, rest)

pub ok_is : {X : Type 0} (x y : X) → ◌≡◌ {A = Result X ℕ} (Ok x) (Ok y) → x ≡ y
ok_is x y e = grind arith

pub err_ok : {X : Type 0} (n : ℕ) (x : X) → ◌≡◌ {A = Result X ℕ} (Err n) (Ok x) → ⊥
err_ok n x e = cc

pub bind_ok : {X Y : Type 0} (r : Result X ℕ) (f : X → Result Y ℕ) (y : Y) → (r >=> f) ≡ Ok y → (x : X) × (r ≡ Ok x) × (f x ≡ Ok y)
bind_ok (Ok x) f y e = (x, refl, e)
bind_ok (Err n) f y e = absurd (err_ok n y e)

or_left_ok : {X : Type 0} (bytes : List ℕ) (o : Option X) (x : X) → or_left bytes o ≡ Ok x → o ≡ Some x
or_left_ok bytes None x e = absurd (err_ok (length bytes) x e)
or_left_ok bytes (Some y) x e = ap Some (ok_is y x e)

pub line_part : {X : Type 0} {Fits : X → Type 0} {text : X → List ℕ} {at : List ℕ → Read X} → Reads Fits text at → PartReads Fits text (line_at at)
line_part {X} {Fits} {text} {at} inner = record {
  takes = λ bytes x rest e. inner.takes bytes x rest (or_left_ok bytes (at bytes) (x, rest) e);
  again = λ x rest fits. rw (inner.again x rest fits) refl;
}

pub past_part_reads : {X : Type 0} {Fits : X → Type 0} {text : X → List ℕ} {at : List ℕ → Part X} {passed : List ℕ} {p : List ℕ → Option (List ℕ)}
    → Passes passed p → PartReads Fits text at → PartReads Fits (λ x. passed ++ text x) (past_part p at)
past_part_reads {X} {Fits} {text} {at} {passed} {p} first second = record {
  takes = λ bytes x rest e.
      let a = bind_ok (or_left bytes (p bytes)) at (x, rest) e in
      let g = second.takes a.0 x rest a.2 in
      (first.takes bytes a.0 (or_left_ok bytes (p bytes) a.0 a.1) ∙ ap (λ (r : List ℕ). passed ++ r) g.0 ∙ sym (append_assoc passed (text x) rest), g.1);
  again = λ x rest fits.
      ap (past_part p at) (append_assoc passed (text x) rest) ∙ rw (first.again (text x ++ rest)) (second.again x rest fits);
}

pub before_part_reads : {X : Type 0} {Fits : X → Type 0} {text : X → List ℕ} {at : List ℕ → Part X} {passed : List ℕ} {p : List ℕ → Option (List ℕ)}
    → PartReads Fits text at → Passes passed p → PartReads Fits (λ x. text x ++ passed) (before_part at p)
before_part_reads {X} {Fits} {text} {at} {passed} {p} first second = record {
  takes = λ bytes x rest e.
      let a = bind_ok (at bytes) (λ y. or_left y.1 (p y.1) >=> λ r. Ok (y.0, r)) (x, rest) e in
      let b = bind_ok (or_left a.0.1 (p a.0.1)) (λ r. Ok (a.0.0, r)) (x, rest) a.2 in
      let f = first.takes bytes a.0.0 a.0.1 a.1 in
      let whole : bytes ≡ (text a.0.0 ++ passed) ++ b.0 =
      f.0 ∙ ap (λ (r : List ℕ). text a.0.0 ++ r) (second.takes a.0.1 b.0 (or_left_ok a.0.1 (p a.0.1) b.0 b.1)) ∙ sym (append_assoc (text a.0.0) passed b.0) in
      subst (λ (w : X × List ℕ). (bytes ≡ (text w.0 ++ passed) ++ w.1) × Fits w.0) (ok_is (a.0.0, b.0) (x, rest) b.2) (whole, f.1);
  again = λ x rest fits.
      ap (before_part at p) (append_assoc (text x) passed rest) ∙ rw (first.again x (passed ++ rest) fits, second.again rest) refl;
}

pub then_part_reads : {X Y : Type 0} {F : X → Type 0} {G : X → Y → Type 0} {s : X → List ℕ} {t : X → Y → List ℕ} {p : List ℕ → Part X} {q : X → List ℕ → Part Y}
    → PartReads F s p → ((x : X) → F x → PartReads (G x) (t x) (q x)) → PartReads (λ z. F z.0 × G z.0 z.1) (λ z. s z.0 ++ t z.0 z.1) (then_part p q)
then_part_reads {X} {Y} {F} {G} {s} {t} {p} {q} first second = record {
  takes = λ bytes z rest e.
      let a = bind_ok (p bytes) (λ x. q x.0 x.1 >=> λ y. Ok ((x.0, y.0), y.1)) (z, rest) e in
      let b = bind_ok (q a.0.0 a.0.1) (λ y. Ok ((a.0.0, y.0), y.1)) (z, rest) a.2 in
      let f = first.takes bytes a.0.0 a.0.1 a.1 in
      let g = (second a.0.0 f.1).takes a.0.1 b.0.0 b.0.1 b.1 in
      let whole : bytes ≡ (s a.0.0 ++ t a.0.0 b.0.0) ++ b.0.1 =
      f.0 ∙ ap (λ (r : List ℕ). s a.0.0 ++ r) g.0 ∙ sym (append_assoc (s a.0.0) (t a.0.0 b.0.0) b.0.1) in
      subst (λ (w : (X × Y) × List ℕ). (bytes ≡ (s w.0.0 ++ t w.0.0 w.0.1) ++ w.1) × (F w.0.0 × G w.0.0 w.0.1)) (ok_is ((a.0.0, b.0.0), b.0.1) (z, rest) b.2) (whole, (f.1, g.1));
  again = λ z rest fits.
      ap (then_part p q) (append_assoc (s z.0) (t z.0 z.1) rest) ∙ rw (first.again z.0 (t z.0 z.1 ++ rest) fits.0, (second z.0 fits.0).again z.1 rest fits.1) refl;
}

pub as_part_reads : {X Y : Type 0} {F : X → Type 0} {s : X → List ℕ} {p : List ℕ → Part X} (G : Y → Type 0) (t : Y → List ℕ) (f : X → Y) (back : Y → X) → PartReads F s p
    → ((x : X) → F x → (t (f x) ≡ s x) × G (f x)) → ((y : Y) → G y → (t y ≡ s (back y)) × ((f (back y) ≡ y) × F (back y))) → PartReads G t (as_part f p)
as_part_reads {X} {Y} {F} {s} {p} G t f back inner there here = record {
  takes = λ bytes y rest e.
      let a = bind_ok (p bytes) (λ x. Ok (f x.0, x.1)) (y, rest) e in
      let g = inner.takes bytes a.0.0 a.0.1 a.1 in
      let h = there a.0.0 g.1 in
      let whole : bytes ≡ t (f a.0.0) ++ a.0.1 = g.0 ∙ ap (λ (r : List ℕ). r ++ a.0.1) (sym h.0) in
      subst (λ (w : Y × List ℕ). (bytes ≡ t w.0 ++ w.1) × G w.0) (ok_is (f a.0.0, a.0.1) (y, rest) a.2) (whole, h.1);
  again = λ y rest fits.
      let h = here y fits in
      ap (λ (r : List ℕ). as_part f p (r ++ rest)) h.0 ∙ rw (inner.again (back y) rest h.1.1) (ap (λ (w : Y). Ok (w, rest)) h.1.0);
}

-- ---- lists

-- the texts of items of number i and up
abbrev pub items_text : {X : Type 0} → (ℕ → X → List ℕ) → ℕ → List X → List ℕ
items_text text i [] = []
items_text text i (x ∷ xs) = text i x ++ items_text text (i + 1) xs

abbrev pub AllFrom : {X : Type 0} → (ℕ → X → Type 0) → ℕ → List X → Type 0
AllFrom F i [] = Unit {0}
AllFrom F i (x ∷ xs) = F i x × AllFrom F (i + 1) xs

items_take : {X : Type 0} {F : ℕ → X → Type 0} {s : ℕ → X → List ℕ} {at : ℕ → List ℕ → Part X} (limit : ℕ) → ((i : ℕ) → i < limit → PartReads (F i) (s i) (at i))
    → (n i : ℕ) → i + n ≤ limit → (bytes : List ℕ) (xs : List X) (rest : List ℕ) → items_at at i n bytes ≡ Ok (xs, rest) → (bytes ≡ items_text s i xs ++ rest) × ((length xs ≡ n) × AllFrom F i xs)
items_take {X} {F} {s} {at} limit reads zero i le bytes xs rest e =
    subst (λ (w : List X × List ℕ). (bytes ≡ items_text s i w.0 ++ w.1) × ((length w.0 ≡ 0) × AllFrom F i w.0)) (ok_is ([], bytes) (xs, rest) e) (refl, (refl, tt))
items_take {X} {F} {s} {at} limit reads (suc n) i le bytes xs rest e =
    let a = bind_ok (at i bytes) (λ x. items_at at (i + 1) n x.1 >=> λ ys. Ok (x.0 ∷ ys.0, ys.1)) (xs, rest) e in
    let b = bind_ok (items_at at (i + 1) n a.0.1) (λ ys. Ok (a.0.0 ∷ ys.0, ys.1)) (xs, rest) a.2 in
    let f = (reads i (omega arith)).takes bytes a.0.0 a.0.1 a.1 in
    let g = items_take {s = s} limit reads n (i + 1) (omega arith) a.0.1 b.0.0 b.0.1 b.1 in
    let whole : bytes ≡ (s i a.0.0 ++ items_text s (i + 1) b.0.0) ++ b.0.1 = f.0 ∙ ap (λ (r : List ℕ). s i a.0.0 ++ r) g.0 ∙ sym (append_assoc (s i a.0.0) (items_text s (i + 1) b.0.0) b.0.1) in
    subst (λ (w : List X × List ℕ). (bytes ≡ items_text s i w.0 ++ w.1) × ((length w.0 ≡ suc n) × AllFrom F i w.0)) (ok_is (a.0.0 ∷ b.0.0, b.0.1) (xs, rest) b.2) (whole, (ap suc g.1.0, (f.1, g.1.1)))

items_again : {X : Type 0} {F : ℕ → X → Type 0} {s : ℕ → X → List ℕ} {at : ℕ → List ℕ → Part X} (limit : ℕ) → ((i : ℕ) → i < limit → PartReads (F i) (s i) (at i))
    → (xs : List X) (i : ℕ) → i + length xs ≤ limit → (rest : List ℕ) → AllFrom F i xs → items_at at i (length xs) (items_text s i xs ++ rest) ≡ Ok (xs, rest)
items_again {X} {F} {s} {at} limit reads [] i le rest fits = refl
items_again {X} {F} {s} {at} limit reads (x ∷ xs) i le rest fits =
    ap (items_at at i (suc (length xs))) (append_assoc (s i x) (items_text s (i + 1) xs) rest)
    ∙ rw ((reads i (omega arith)).again x (items_text s (i + 1) xs ++ rest) fits.0, items_again {s = s} limit reads xs (i + 1) (omega arith) rest fits.1) refl

abbrev pub counted_text : {X : Type 0} → List ℕ → (ℕ → X → List ℕ) → List X → List ℕ
counted_text head text xs = count_line head (length xs) ++ items_text text 0 xs

pub count_reads : (head : List ℕ) (least most : ℕ) → most < 10 ^ 10 → Reads (λ n. (n ≤ most) × (nat_le least n ≡ true)) (count_line head) (count_at head least most)
unfolding count_at
count_reads head least most small = past_reads (literal_passes head) (kept_reads (λ n. nat_le least n) (number_reads 10 most (omega arith) small))

-- how many there are, and that each fits
abbrev pub AllCounted : {X : Type 0} → ℕ → ℕ → (ℕ → ℕ → X → Type 0) → List X → Type 0
AllCounted least most F xs = ((length xs ≤ most) × (nat_le least (length xs) ≡ true)) × AllFrom (F (length xs)) 0 xs

pub counted_reads : {X : Type 0} {F : ℕ → ℕ → X → Type 0} {s : ℕ → X → List ℕ} {at : ℕ → ℕ → List ℕ → Part X} (head : List ℕ) (least most : ℕ) → most < 10 ^ 10
    → ((n i : ℕ) → i < n → n ≤ most → PartReads (F n i) (s i) (at n i)) → PartReads (AllCounted least most F) (counted_text head s) (counted_at head least most at)
counted_reads {X} {F} {s} {at} head least most small reads = record {
  takes = λ bytes xs rest e.
      let a = bind_ok (line_at (count_at head least most) bytes) (λ n. items_at (at n.0) 0 n.0 n.1) (xs, rest) e in
      let f = (line_part (count_reads head least most small)).takes bytes a.0.0 a.0.1 a.1 in
      let g = items_take {F = F a.0.0} {s = s} a.0.0 (λ i below. reads a.0.0 i below f.1.0) a.0.0 0 (omega arith) a.0.1 xs rest a.2 in
      let whole : bytes ≡ (count_line head a.0.0 ++ items_text s 0 xs) ++ rest = f.0 ∙ ap (λ (r : List ℕ). count_line head a.0.0 ++ r) g.0 ∙ sym (append_assoc (count_line head a.0.0) (items_text s 0 xs) rest) in
      subst (λ (n : ℕ). (bytes ≡ (count_line head n ++ items_text s 0 xs) ++ rest) × (((n ≤ most) × (nat_le least n ≡ true)) × AllFrom (F n) 0 xs)) (sym g.1.0) (whole, (f.1, g.1.1));
  again = λ xs rest fits.
      let line = (line_part (count_reads head least most small)).again (length xs) (items_text s 0 xs ++ rest) fits.0 in
      ap (counted_at head least most at) (append_assoc (count_line head (length xs)) (items_text s 0 xs) rest)
      ∙ rw line (items_again {F = F (length xs)} {s = s} (length xs) (λ i below. reads (length xs) i below fits.0.0) xs 0 (omega arith) rest fits.1);
}
