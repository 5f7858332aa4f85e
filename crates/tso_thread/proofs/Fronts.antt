-- Operations that are the first ones of a trace, and one more.
use Rattle.std.proofs.Common.{◌≡◌, ◌∙◌, ◌<◌, ◌+◌, ◌++◌, ℕ, Bool, false, List, [], ◌∷◌, length, map, take, get_or, refl, ap, sym, arith, ◌↔◌}
use Rattle.std.specs.Prelude.{IsTrue}
use Rattle.std.proofs.Math.Seq.{take-append_seam, get_or-append_seam}
use Rattle.std.proofs.lemmas.Bool.{false≢true}
use Rattle.std.proofs.lemmas.List.{take_more, map-append, length-map, length-append, length-take-le, take-map}
use Rattle.lf_model.specs.Operation.{made}
use Rattle.lf_model.specs.declared.bus.Entry.{Entry}
use Rattle.lf_model.specs.declared.trace.Op.{Op}
use Rattle.tso_thread.specs.ReplayState.{no_op, IsFront, IsNextEntry}

pub empty_front : (ops : List Op) → IsFront [] ops
empty_front ops = record { few = omega arith; same = refl }

-- the first of all
pub first_front : (es rest : List Entry) (ops : List Op) → es ++ rest ≡ map made ops → IsFront es ops
first_front es rest ops all =
    let long : length es + length rest ≡ length ops = sym (length-append es rest) ∙ (ap length all ∙ length-map ops made) in
    record {
      few = omega (arith, long);
      same = sym (take-append_seam es rest) ∙ (ap (take (length es)) all ∙ take-map made (length es) ops);
    }

module _ (es : List Entry) (x : Entry) (ops : List Op) where
  abbrev n : ℕ
  n = length es

  longer : length (es ++ x ∷ []) ≡ n + 1
  longer = length-append es (x ∷ [])

  -- so many operations of the trace, and the next one
  front_more : n < length ops → map made (take (n + 1) ops) ≡ map made (take n ops) ++ made (get_or ops n no_op) ∷ []
  front_more there = ap (map made) (take_more ops n no_op there) ∙ map-append made (take n ops) (get_or ops n no_op ∷ [])

  module _ (front : IsFront (es ++ x ∷ []) ops) where
    there : n < length ops
    there = omega (arith, front.few, longer)

    both : es ++ x ∷ [] ≡ map made (take n ops) ++ made (get_or ops n no_op) ∷ []
    both = front.same ∙ (ap (λ (m : ℕ). map made (take m ops)) longer ∙ front_more there)

    long : length (map made (take n ops)) ≡ n
    long = length-map (take n ops) made ∙ length-take-le n ops (omega (arith, there))

    pub front_before : IsFront es ops
    front_before = record {
      few = omega (arith, there);
      same =
          sym (take-append_seam es (x ∷ []))
          ∙ (ap (take n) both
          ∙ (ap (λ (m : ℕ). take m (map made (take n ops) ++ made (get_or ops n no_op) ∷ [])) (sym long) ∙ take-append_seam (map made (take n ops)) (made (get_or ops n no_op) ∷ [])));
    }

    pub front_next : IsNextEntry ops n x
    front_next = record {
      there = there;
      same =
          sym (get_or-append_seam es x [] x)
          ∙ (ap (λ (l : List Entry). get_or l n x) both
          ∙ (ap (λ (m : ℕ). get_or (map made (take n ops) ++ made (get_or ops n no_op) ∷ []) m x) (sym long)
          ∙ get_or-append_seam (map made (take n ops)) (made (get_or ops n no_op)) [] x));
    }

-- operations that are not the first ones of the trace stay so with one more
pub not_front : (es : List Entry) (x : Entry) (ops : List Op) (agrees : Bool) → (IsTrue agrees ↔ IsFront es ops) → agrees ≡ false → IsTrue agrees ↔ IsFront (es ++ x ∷ []) ops
not_front es x ops agrees its not = (λ it. absurd (false≢true (sym not ∙ it)), λ all. its.1 (front_before es x ops all))
