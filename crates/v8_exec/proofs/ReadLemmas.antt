-- Registers are read one after another, up to the first that is bad.
use Rattle.std.proofs.Common.{◌≡◌, ◌∙◌, ℕ, List, [], ◌∷◌, ◌++◌, Option, Some, None, is_some, fold, refl, sym, ap, append_assoc}
use Rattle.std.proofs.lemmas.List.Sums.{fold-append}
use Rattle.std.specs.Option.{option_or}
use Rattle.lf_model.specs.Course.Touches.{unless_bad}
use Rattle.lf_model.specs.Step.{Parts, bad_register, first_bad}
use Rattle.lf_model.specs.declared.step.RegBad.{RegBad}
use Rattle.lf_model.specs.declared.touch.Touch.{Touch}
use Rattle.v8_exec.specs.Touching.{read_of, reads_of}

pub append_none : (xs : List Touch) → xs ++ [] ≡ xs
append_none [] = refl
append_none (x ∷ xs) = ap (λ (l : List Touch). x ∷ l) (append_none xs)

module _ (parts : Parts) (window : ℕ) where
  one : (b : Option RegBad) (r : List Touch) (xs ys : List ℕ)
      → reads_of parts window (xs ++ ys) ≡ reads_of parts window xs ++ unless_bad (is_some (first_bad parts window xs)) (reads_of parts window ys)
      → r ++ unless_bad (is_some b) (reads_of parts window (xs ++ ys))
      ≡ (r ++ unless_bad (is_some b) (reads_of parts window xs)) ++ unless_bad (is_some (option_or b (first_bad parts window xs))) (reads_of parts window ys)
  one (Some bad) r xs ys later = sym (append_none (r ++ []))
  one None r xs ys later = rw append_assoc (ap (λ (l : List Touch). r ++ l) later)

  -- after a register that is bad no further one is read
  pub reads_of-append : (xs ys : List ℕ)
      → reads_of parts window (xs ++ ys) ≡ reads_of parts window xs ++ unless_bad (is_some (first_bad parts window xs)) (reads_of parts window ys)
  reads_of-append [] ys = refl
  reads_of-append (n ∷ xs) ys = one (bad_register parts window n) (read_of window n) xs ys (reads_of-append xs ys)

  -- two lists of registers, of which the first are good, are read as one
  pub reads_then : {X : Type 0} (touch : X → Touch → X) (xs ys : List ℕ) (x : X) → first_bad parts window xs ≡ None
      → fold touch (fold touch x (reads_of parts window xs)) (reads_of parts window ys) ≡ fold touch x (reads_of parts window (xs ++ ys))
  reads_then touch xs ys x good =
      sym (fold-append touch x (reads_of parts window xs) (reads_of parts window ys))
      ∙ sym (ap (λ (l : List Touch). fold touch x l) (rw good at (reads_of-append xs ys)))

-- the second list is read in the state that the first one left, in which the parts answer as before
pub reads_both : {X : Type 0} (touch : X → Touch → X) (answers : X → Parts) (window : ℕ) (xs ys : List ℕ) (x y z : X)
    → first_bad (answers x) window xs ≡ None → y ≡ fold touch x (reads_of (answers x) window xs) → answers y ≡ answers x
    → z ≡ fold touch y (reads_of (answers y) window ys) → z ≡ fold touch x (reads_of (answers x) window (xs ++ ys))
reads_both {X = X} touch answers window xs ys x y z good first same second =
    second
    ∙ ap (λ (parts : Parts). fold touch y (reads_of parts window ys)) same
    ∙ ap (λ (w : X). fold touch w (reads_of (answers x) window ys)) first
    ∙ reads_then (answers x) window touch xs ys x good
