use Rattle.std.proofs.Common.{◌≡◌, ℕ, zero, suc, [], map, slice_index_or, refl, ◌∙◌}
use Rattle.std.specs.Prelude.{replicate}
use Rattle.std.proofs.lemmas.List.{length-map, length-replicate}
use Rattle.flip_ledger.specs.Standing.{numbers_of}
use Rattle.flip_ledger.specs.Ledger.{flip_at}
use Rattle.flip_ledger.specs.declared.record.FlipState.TheVariants.{ToCome}
use Rattle.flip_ledger.specs.declared.standing.Standing.TheVariants.{Empty}
use Rattle.flip_ledger.proofs.FollowLemmas.{follows_start}
use Rattle.flip_ledger.proofs.ledger.FlipLedger.new.Goals as goal

none_standing : (units u : ℕ) → slice_index_or (map numbers_of (replicate units Empty)) u [] ≡ []
none_standing zero u = refl
none_standing (suc units) zero = refl
none_standing (suc units) (suc u) = none_standing units u

none_came : (flips i : ℕ) → flip_at (replicate flips ToCome) i ≡ ToCome
none_came zero i = refl
none_came (suc flips) zero = refl
none_came (suc flips) (suc i) = none_came flips i

pub returns-clause-follows : goal.returns-clause-follows
returns-clause-follows c =
    let standing = c.in_ok-vec.ensures.items_if_clones_equal (λ y is. is) in
    let flips = c.in_ok-vec-2.ensures.items_if_clones_equal (λ y is. is) in
    rw (standing, flips) (λ budget h is_new. follows_start budget c.args.units c.args.flips h _ is_new
    (length-map (replicate c.args.units Empty) numbers_of ∙ length-replicate c.args.units Empty) (none_standing c.args.units) (none_came c.args.flips))
