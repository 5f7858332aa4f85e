-- What an event makes of all actors, where one core moves or is passed over.
use Rattle.std.proofs.Common.{◌≡◌, ◌∙◌, ℕ, zero, suc, List, [], ◌∷◌, Option, Some, None, slice_get, slice_set, refl, ap, sym, subst}
use Rattle.lf_model.specs.Promise.Turns.{TurnMade, CoreLeft, Actors, Moved, with_option, moved_by}
use Rattle.machine_play.specs.CoreMade.{CoreMade, GoesOnTo, left_of, GoOnTo, left_of_each}

-- ---- one of the cores

-- core number n among these, of which d takes the place of c
pub record Among (alls : List CoreLeft) (cs : List CoreMade) (n : ℕ) (c d : CoreMade) : Type 0 where
  pub all : CoreLeft
  pub goes : GoesOnTo all d
  pub left_there : slice_get (left_of_each alls cs) n ≡ Some (left_of all c)
  pub back : GoesOnTo all c → GoOnTo alls cs
  pub set_left : slice_set (left_of_each alls cs) n (left_of all d) ≡ left_of_each alls (slice_set cs n d)

pub among : (alls : List CoreLeft) (cs : List CoreMade) (n : ℕ) (c d : CoreMade) → slice_get cs n ≡ Some c → GoOnTo alls (slice_set cs n d) → Among alls cs n c d
among [] [] n c d there goes = absurd (cc)
among [] (x ∷ cs) zero c d there goes = absurd goes
among [] (x ∷ cs) (suc n) c d there goes = absurd goes
among (all ∷ alls) [] n c d there goes = absurd (cc)
among (all ∷ alls) (x ∷ cs) zero c d there goes =
    let same : x ≡ c = cc in
    record {
      all = all;
      goes = goes.0;
      left_there = ap (λ (y : CoreMade). Some (left_of all y)) same;
      back = λ g. (subst (GoesOnTo all) (sym same) g, goes.1);
      set_left = refl;
    }
among (all ∷ alls) (x ∷ cs) (suc n) c d there goes =
    let rest = among alls cs n c d there goes.1 in
    record {
      all = rest.all;
      goes = rest.goes;
      left_there = rest.left_there;
      back = λ g. (goes.0, rest.back g);
      set_left = ap (λ (ls : List CoreLeft). left_of all x ∷ ls) rest.set_left;
    }

pub set_same : {X : Type 0} (xs : List X) (n : ℕ) (x : X) → slice_get xs n ≡ Some x → slice_set xs n x ≡ xs
set_same [] n x there = absurd (cc)
set_same (y ∷ xs) zero x there = let same : y ≡ x = cc in ap (λ z. z ∷ xs) (sym same)
set_same (y ∷ xs) (suc n) x there = ap (λ zs. y ∷ zs) (set_same xs n x there)

none_among : (alls : List CoreLeft) (cs : List CoreMade) (n : ℕ) → slice_get cs n ≡ None → slice_get (left_of_each alls cs) n ≡ None
none_among [] cs n none = refl
none_among (all ∷ alls) [] n none = refl
none_among (all ∷ alls) (c ∷ cs) zero none = absurd (cc)
none_among (all ∷ alls) (c ∷ cs) (suc n) none = none_among alls cs n none

-- ---- the event

abbrev pub with_cores : List CoreLeft → ℕ → List TurnMade → Actors
with_cores cores scrub_turns turns = record { cores = cores; scrub_turns = scrub_turns; turns = turns }

-- it comes so far, and goes on
pub record MovedTo (move : CoreLeft → Moved) (n : ℕ) (alls : List CoreLeft) (cs ds : List CoreMade) (turn : Option TurnMade) : Type 0 where
  pub goes : GoOnTo alls cs
  pub is : (scrub_turns : ℕ) (turns : List TurnMade)
      → moved_by move n (with_cores (left_of_each alls cs) scrub_turns turns) (slice_get (left_of_each alls cs) n) ≡ with_cores (left_of_each alls ds) scrub_turns (with_option turn turns)

module _ (move : CoreLeft → Moved) (n : ℕ) (alls : List CoreLeft) (cs : List CoreMade) where
  pub moved_at : (c d : CoreMade) (turn : Option TurnMade) → slice_get cs n ≡ Some c → GoOnTo alls (slice_set cs n d)
      → ((all : CoreLeft) → GoesOnTo all d → GoesOnTo all c × (move (left_of all c) ≡ record { core = left_of all d; turn = turn }))
      → MovedTo move n alls cs (slice_set cs n d) turn
  moved_at c d turn there goes moves =
      let a = among alls cs n c d there goes in
      let one = moves a.all a.goes in
      record {
        goes = a.back one.0;
        is = λ scrub_turns turns.
            ap (moved_by move n (with_cores (left_of_each alls cs) scrub_turns turns)) a.left_there
            ∙ (ap (λ (m : Moved). with_cores (slice_set (left_of_each alls cs) n m.core) scrub_turns (with_option m.turn turns)) one.1
            ∙ ap (λ (ls : List CoreLeft). with_cores ls scrub_turns (with_option turn turns)) a.set_left);
      }

  -- it is passed over
  pub passed_at : (c : CoreMade) → slice_get cs n ≡ Some c → GoOnTo alls cs → ((all : CoreLeft) → GoesOnTo all c → move (left_of all c) ≡ record { core = left_of all c; turn = None })
      → MovedTo move n alls cs cs None
  passed_at c there goes passes =
      subst (λ (ds : List CoreMade). MovedTo move n alls cs ds None) (set_same cs n c there)
      (moved_at c c None there (subst (GoOnTo alls) (sym (set_same cs n c there)) goes) (λ all g. (g, passes all g)))

  -- there is no such core
  pub none_at : slice_get cs n ≡ None → GoOnTo alls cs → MovedTo move n alls cs cs None
  none_at none goes = record { goes = goes; is = λ scrub_turns turns. ap (moved_by move n (with_cores (left_of_each alls cs) scrub_turns turns)) (none_among alls cs n none) }
