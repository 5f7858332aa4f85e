-- The words of a line, tried one after the other until one is not clean.
use Rattle.std.proofs.Common.{◌≡◌, ℕ, suc, ◌+◌, ◌-◌, ◌<◌, not, Bool, true, false, cond, nat_eq, List, Some, None, slice_index, refl, ap, ◌∙◌, arith}
use Rattle.std.specs.Prelude.{find}
use Rattle.std.specs.List.{range_with_len}
use Rattle.ahb_bus.specs.Noting.{first_unclean_of, first_unclean_from}

next : (syndromes : List ℕ) (place : ℕ) → place < 8
    → first_unclean_from syndromes place ≡ cond (not (nat_eq (slice_index syndromes place) 0)) (Some place) (first_unclean_from syndromes (place + 1))
unfolding first_unclean_from
next syndromes place within =
    let left : 8 - place ≡ suc (8 - (place + 1)) = omega arith in
    ap (λ (k : ℕ). find (λ j. not (nat_eq (slice_index syndromes j) 0)) (range_with_len place k)) left

-- this one is clean, or is not
pub unclean_later : (syndromes : List ℕ) (place : ℕ) → place < 8 → nat_eq (slice_index syndromes place) 0 ≡ true
    → first_unclean_from syndromes place ≡ first_unclean_from syndromes (place + 1)
unclean_later syndromes place within clean =
    next syndromes place within ∙ ap (λ (b : Bool). cond (not b) (Some place) (first_unclean_from syndromes (place + 1))) clean

pub unclean_here : (syndromes : List ℕ) (place : ℕ) → place < 8 → nat_eq (slice_index syndromes place) 0 ≡ false → first_unclean_from syndromes place ≡ Some place
unclean_here syndromes place within unclean =
    next syndromes place within ∙ ap (λ (b : Bool). cond (not b) (Some place) (first_unclean_from syndromes (place + 1))) unclean

-- all were clean
pub unclean_none : (syndromes : List ℕ) → first_unclean_from syndromes 8 ≡ None
unfolding first_unclean_from
unclean_none syndromes = refl

pub unclean_start : (syndromes : List ℕ) → first_unclean_from syndromes 0 ≡ first_unclean_of 8 syndromes
unfolding first_unclean_from
unclean_start syndromes = refl
