-- Readers and texts belong together: what is read was spelled so, and what is spelled so is read. The laws of joined readers
-- follow from those of their parts.
use Rattle.std.proofs.Common.{◌≡◌, ℕ, List, [], ◌∷◌, ◌++◌, Bool, true, cond, eqb, refl, sym, ap, subst, ◌∙◌, append_assoc, eqb-true, eq-eqb, ◌⊎◌, inl, inr}
use Rattle.std.proofs.lemmas.Bool.{cases_Bool}
use Rattle.std.specs.Prelude.{Option, Some, None}
use Rattle.std.specs.Option.{option_map, option_or}
use Rattle.std.proofs.lemmas.Option.{same_Some, cond_some, none-some}
use Rattle.report_fields.specs.Reading.{Read, ◌>>=◌, without, past, before, then_at, as_at, kept, either, row, word_at}

-- values that fit, their text, and their reader
pub record Reads {X : Type 0} (Fits : X → Type 0) (text : X → List ℕ) (at : List ℕ → Read X) : Type 0 where
  pub takes : (bytes : List ℕ) (x : X) (rest : List ℕ) → at bytes ≡ Some (x, rest) → (bytes ≡ text x ++ rest) × Fits x
  pub again : (x : X) (rest : List ℕ) → Fits x → at (text x ++ rest) ≡ Some (x, rest)

-- a text that is passed over
pub record Passes (text : List ℕ) (p : List ℕ → Option (List ℕ)) : Type 0 where
  pub takes : (bytes rest : List ℕ) → p bytes ≡ Some rest → bytes ≡ text ++ rest
  pub again : (rest : List ℕ) → p (text ++ rest) ≡ Some rest

pub bind_some : {X Y : Type 0} (o : Option X) (f : X → Option Y) (y : Y) → (o >>= f) ≡ Some y → (x : X) × (o ≡ Some x) × (f x ≡ Some y)
bind_some None f y e = absurd (none-some y e)
bind_some (Some x) f y e = (x, refl, e)

-- ---- literals

without_takes : (text bytes rest : List ℕ) → without text bytes ≡ Some rest → bytes ≡ text ++ rest
without_takes [] bytes rest e = same_Some bytes rest e
without_takes (t ∷ text) [] rest e = absurd (none-some rest e)
without_takes (t ∷ text) (b ∷ bytes) rest e =
    elim (cases_Bool (eqb t b)) [
      | inl same ↦ rw (sym (eqb-true t b same), without_takes text bytes rest (rw same at e)) refl
      | inr other ↦ absurd (none-some rest (rw other at e))
    ]

without_again : (text rest : List ℕ) → without text (text ++ rest) ≡ Some rest
without_again [] rest = refl
without_again (t ∷ text) rest = rw (eq-eqb t t refl) (without_again text rest)

pub literal_passes : (text : List ℕ) → Passes text (without text)
literal_passes text = record { takes = without_takes text; again = without_again text }

-- ---- joins

pub past_reads : {X : Type 0} {Fits : X → Type 0} {text : X → List ℕ} {at : List ℕ → Read X} {passed : List ℕ} {p : List ℕ → Option (List ℕ)}
    → Passes passed p → Reads Fits text at → Reads Fits (λ x. passed ++ text x) (past p at)
past_reads {X} {Fits} {text} {at} {passed} {p} first second = record {
  takes = λ bytes x rest e.
      let a = bind_some (p bytes) at (x, rest) e in
      let g = second.takes a.0 x rest a.2 in
      (first.takes bytes a.0 a.1 ∙ ap (λ (r : List ℕ). passed ++ r) g.0 ∙ sym (append_assoc passed (text x) rest), g.1);
  again = λ x rest fits.
      ap (past p at) (append_assoc passed (text x) rest) ∙ rw (first.again (text x ++ rest)) (second.again x rest fits);
}

pub before_reads : {X : Type 0} {Fits : X → Type 0} {text : X → List ℕ} {at : List ℕ → Read X} {passed : List ℕ} {p : List ℕ → Option (List ℕ)}
    → Reads Fits text at → Passes passed p → Reads Fits (λ x. text x ++ passed) (before at p)
before_reads {X} {Fits} {text} {at} {passed} {p} first second = record {
  takes = λ bytes x rest e.
      let a = bind_some (at bytes) (λ y. p y.1 >>= λ r. Some (y.0, r)) (x, rest) e in
      let b = bind_some (p a.0.1) (λ r. Some (a.0.0, r)) (x, rest) a.2 in
      let f = first.takes bytes a.0.0 a.0.1 a.1 in
      let whole : bytes ≡ (text a.0.0 ++ passed) ++ b.0 =
      f.0 ∙ ap (λ (r : List ℕ). text a.0.0 ++ r) (second.takes a.0.1 b.0 b.1) ∙ sym (append_assoc (text a.0.0) passed b.0) in
      subst (λ (w : X × List ℕ). (bytes ≡ (text w.0 ++ passed) ++ w.1) × Fits w.0) (same_Some (a.0.0, b.0) (x, rest) b.2) (whole, f.1);
  again = λ x rest fits.
      ap (before at p) (append_assoc (text x) passed rest) ∙ rw (first.again x (passed ++ rest) fits, second.again rest) refl;
}

pub then_reads : {X Y : Type 0} {F : X → Type 0} {G : X → Y → Type 0} {s : X → List ℕ} {t : X → Y → List ℕ} {p : List ℕ → Read X} {q : X → List ℕ → Read Y}
    → Reads F s p → ((x : X) → F x → Reads (G x) (t x) (q x)) → Reads (λ z. F z.0 × G z.0 z.1) (λ z. s z.0 ++ t z.0 z.1) (then_at p q)
then_reads {X} {Y} {F} {G} {s} {t} {p} {q} first second = record {
  takes = λ bytes z rest e.
      let a = bind_some (p bytes) (λ x. q x.0 x.1 >>= λ y. Some ((x.0, y.0), y.1)) (z, rest) e in
      let b = bind_some (q a.0.0 a.0.1) (λ y. Some ((a.0.0, y.0), y.1)) (z, rest) a.2 in
      let f = first.takes bytes a.0.0 a.0.1 a.1 in
      let g = (second a.0.0 f.1).takes a.0.1 b.0.0 b.0.1 b.1 in
      let whole : bytes ≡ (s a.0.0 ++ t a.0.0 b.0.0) ++ b.0.1 =
      f.0 ∙ ap (λ (r : List ℕ). s a.0.0 ++ r) g.0 ∙ sym (append_assoc (s a.0.0) (t a.0.0 b.0.0) b.0.1) in
      subst (λ (w : (X × Y) × List ℕ). (bytes ≡ (s w.0.0 ++ t w.0.0 w.0.1) ++ w.1) × (F w.0.0 × G w.0.0 w.0.1)) (same_Some ((a.0.0, b.0.0), b.0.1) (z, rest) b.2) (whole, (f.1, g.1));
  again = λ z rest fits.
      ap (then_at p q) (append_assoc (s z.0) (t z.0 z.1) rest) ∙ rw (first.again z.0 (t z.0 z.1 ++ rest) fits.0, (second z.0 fits.0).again z.1 rest fits.1) refl;
}

-- a value made of another, with a way back
pub as_reads : {X Y : Type 0} {F : X → Type 0} {s : X → List ℕ} {p : List ℕ → Read X} (G : Y → Type 0) (t : Y → List ℕ) (f : X → Y) (back : Y → X) → Reads F s p
    → ((x : X) → F x → (t (f x) ≡ s x) × G (f x)) → ((y : Y) → G y → (t y ≡ s (back y)) × ((f (back y) ≡ y) × F (back y))) → Reads G t (as_at f p)
as_reads {X} {Y} {F} {s} {p} G t f back inner there here = record {
  takes = λ bytes y rest e.
      let a = bind_some (p bytes) (λ x. Some (f x.0, x.1)) (y, rest) e in
      let g = inner.takes bytes a.0.0 a.0.1 a.1 in
      let h = there a.0.0 g.1 in
      let whole : bytes ≡ t (f a.0.0) ++ a.0.1 = g.0 ∙ ap (λ (r : List ℕ). r ++ a.0.1) (sym h.0) in
      subst (λ (w : Y × List ℕ). (bytes ≡ t w.0 ++ w.1) × G w.0) (same_Some (f a.0.0, a.0.1) (y, rest) a.2) (whole, h.1);
  again = λ y rest fits.
      let h = here y fits in
      ap (λ (r : List ℕ). as_at f p (r ++ rest)) h.0 ∙ rw (inner.again (back y) rest h.1.1) (ap (λ (w : Y). Some (w, rest)) h.1.0);
}

pub kept_reads : {X : Type 0} {F : X → Type 0} {s : X → List ℕ} {p : List ℕ → Read X} (test : X → Bool) → Reads F s p
    → Reads (λ x. F x × (test x ≡ true)) s (kept test p)
kept_reads {X} {F} {s} {p} test inner = record {
  takes = λ bytes x rest e.
      let a = bind_some (p bytes) (λ y. cond (test y.0) (Some y) None) (x, rest) e in
      let g = cond_some (test a.0.0) a.0 (x, rest) a.2 in
      let f = inner.takes bytes a.0.0 a.0.1 a.1 in
      subst (λ (w : X × List ℕ). (bytes ≡ s w.0 ++ w.1) × (F w.0 × (test w.0 ≡ true))) g.1 (f.0, (f.1, g.0));
  again = λ x rest fits. rw (inner.again x rest fits.0, fits.1) refl;
}

-- the first of two forms, where the first refuses what the second spells
pub either_reads : {X : Type 0} {F G : X → Type 0} {s : X → List ℕ} {p q : List ℕ → Read X} → Reads F s p → Reads G s q
    → ((x : X) (rest : List ℕ) → G x → p (s x ++ rest) ≡ None) → Reads (λ x. F x ⊎ G x) s (either p q)
either_reads {X} {F} {G} {s} {p} {q} first second refuses = record {
  takes = λ bytes x rest e. taken bytes x rest (p bytes) refl e;
  again = λ x rest fits. elim fits [
    | inl f ↦ rw (first.again x rest f) refl
    | inr g ↦ rw (refuses x rest g) (second.again x rest g)
  ];
}
  where
    taken : (bytes : List ℕ) (x : X) (rest : List ℕ) (o : Read X) → p bytes ≡ o → option_or o (q bytes) ≡ Some (x, rest) → (bytes ≡ s x ++ rest) × (F x ⊎ G x)
    taken bytes x rest None is e = let g = second.takes bytes x rest e in (g.0, inr g.1)
    taken bytes x rest (Some y) is e = let f = first.takes bytes x rest (is ∙ e) in (f.0, inl f.1)

-- ---- words

word_chosen : {X : Type 0} (text : X → List ℕ) (y : X) (bytes : List ℕ) (x : X) (rest : List ℕ) (later : Read X) (o : Option (List ℕ)) → without (text y) bytes ≡ o
    → (later ≡ Some (x, rest) → bytes ≡ text x ++ rest) → option_or (option_map {U = X × List ℕ} (λ r. (y, r)) o) later ≡ Some (x, rest) → bytes ≡ text x ++ rest
word_chosen text y bytes x rest later None is more e = more e
word_chosen {X} text y bytes x rest later (Some r) is more e =
    without_takes (text y) bytes r is ∙ ap (λ (w : X × List ℕ). text w.0 ++ w.1) (same_Some (y, r) (x, rest) e)

word_takes : {X : Type 0} (text : X → List ℕ) (xs : List X) (bytes : List ℕ) (x : X) (rest : List ℕ) → word_at text xs bytes ≡ Some (x, rest) → bytes ≡ text x ++ rest
word_takes {X} text [] bytes x rest e = absurd (none-some (x, rest) e)
word_takes {X} text (y ∷ ys) bytes x rest e =
    word_chosen text y bytes x rest (word_at text ys bytes) (without (text y) bytes) refl (word_takes text ys bytes x rest) e

-- words, each of which is read again
pub word_reads : {X : Type 0} (Fits : X → Type 0) (text : X → List ℕ) (xs : List X) → ((bytes : List ℕ) (x : X) (rest : List ℕ) → word_at text xs bytes ≡ Some (x, rest) → Fits x)
    → ((x : X) (rest : List ℕ) → Fits x → word_at text xs (text x ++ rest) ≡ Some (x, rest)) → Reads Fits text (word_at text xs)
word_reads Fits text xs fits again = record { takes = λ bytes x rest e. (word_takes text xs bytes x rest e, fits bytes x rest e); again = again }

row_takes : {X : Type 0} (text : X → List ℕ) (t : List ℕ) (x : X) → text x ≡ t → (bytes : List ℕ) (y : X) (rest : List ℕ) (o : Option (List ℕ)) → without t bytes ≡ o
    → option_map {U = X × List ℕ} (λ r. (x, r)) o ≡ Some (y, rest) → (bytes ≡ text y ++ rest) × (y ≡ x)
row_takes text t x same bytes y rest None is e = absurd (none-some (y, rest) e)
row_takes {X} text t x same bytes y rest (Some r) is e =
    let p = same_Some {A = X × List ℕ} (x, r) (y, rest) e in
    let value : x ≡ y = ap (λ (w : X × List ℕ). w.0) p in
    let left : r ≡ rest = ap (λ (w : X × List ℕ). w.1) p in
    (without_takes t bytes r is ∙ ap (λ (w : List ℕ). w ++ r) (sym same) ∙ ap (λ (w : X). text w ++ r) value ∙ ap (λ (w : List ℕ). text y ++ w) left, sym value)

pub row_reads : {X : Type 0} (text : X → List ℕ) (t : List ℕ) (x : X) → text x ≡ t → Reads (λ y. y ≡ x) text (row t x)
row_reads {X} text t x is = record {
  takes = λ bytes y rest e. row_takes text t x is bytes y rest (without t bytes) refl e;
  again = λ y rest same. rw (same, is, without_again t rest) refl;
}

-- the same reader, with what fits in other words
pub fits_reads : {X : Type 0} {F : X → Type 0} {s : X → List ℕ} {p : List ℕ → Read X} (G : X → Type 0) → Reads F s p → ((x : X) → F x → G x) → ((x : X) → G x → F x) → Reads G s p
fits_reads G inner there back = record {
  takes = λ bytes x rest e. let t = inner.takes bytes x rest e in (t.0, there x t.1);
  again = λ x rest fits. inner.again x rest (back x fits);
}

-- the same reader, with the text in other words
pub text_reads : {X : Type 0} {F : X → Type 0} {s : X → List ℕ} {p : List ℕ → Read X} (t : X → List ℕ) → Reads F s p → ((x : X) → F x → t x ≡ s x) → Reads F t p
text_reads {X} {F} {s} {p} t inner same = record {
  takes = λ bytes x rest e. let g = inner.takes bytes x rest e in (g.0 ∙ ap (λ (w : List ℕ). w ++ rest) (sym (same x g.1)), g.1);
  again = λ x rest fits. ap (λ (w : List ℕ). p (w ++ rest)) (same x fits) ∙ inner.again x rest fits;
}
