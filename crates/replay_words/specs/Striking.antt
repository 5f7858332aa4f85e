-- The strikes of a plan, and the words that they are for.
use Rattle.std.specs.Prelude.{◌≡◌, ℕ, ◌<◌, ◌≤◌, ◌++◌, true, List, length, fold, Option, Some, None, All, slice_get}
use Rattle.std.specs.List.{AllByRecursion}
use Rattle.flip_ledger.specs.Follows.{has_struck}
use Rattle.flip_ledger.specs.declared.plan.Owner.TheVariants.{Memory}
use Rattle.flip_ledger.specs.declared.plan.Strike.{Strike}
use Rattle.flip_ledger.specs.declared.plan.Target.{Target}
use Rattle.flip_ledger.specs.declared.plan.Target.TheVariants as targets
use Rattle.lf_model.specs.Caches.Slot.{history_at}
use Rattle.lf_model.specs.Course.Arrays.{struck_by}
use Rattle.lf_model.specs.Flips.{Moment, word_bits}
use Rattle.lf_model.specs.declared.flip.Flip.{Flip}
use Rattle.lf_model.specs.declared.flip.Flip.TheVariants.{Mem, Reg, Tag, Line}
use Rattle.replay_units.specs.Units.{Units, befallen, IsToCome}
use Rattle.replay_units.specs.PlanNumbers.{IsOf, AreApart}
use Rattle.replay_words.specs.Places.{place_in}
use Rattle.replay_words.specs.Writing.{AreWordUnits}

-- this happens to the word at a place, if there is one
abbrev pub befallen_at : (List Moment → List Moment) → Option ℕ → Units → Units
befallen_at happen None units = units
befallen_at happen (Some place) units = befallen happen place units

abbrev pub place_of_target : List ℕ → Target → Option ℕ
place_of_target addrs (targets.Word addr) = place_in addrs addr
place_of_target addrs (targets.Register cell) = None
place_of_target addrs (targets.Tag fetch way set byte) = None
place_of_target addrs (targets.Line fetch way set byte) = None

-- the words after a strike
abbrev pub with_strike : List ℕ → Units → Strike → Units
with_strike addrs units strike = befallen_at (struck_by strike.number strike.bit) (place_of_target addrs strike.target) units

-- it may strike: it did not yet
pub record MayStrike (addrs : List ℕ) (units : Units) (strike : Strike) : Type 0 where
  pub sound : AreWordUnits addrs units
  pub bit : strike.bit < word_bits
  pub number : strike.number < units.flips
  pub once : IsToCome strike.number units.histories

-- a flip that struck the word at a place is for that word
abbrev pub IsFor : List ℕ → ℕ → Option Flip → Type 0
IsFor addrs place None = ⊥
IsFor addrs place (Some (Mem turn addr bit)) = place_in addrs addr ≡ Some place
IsFor addrs place (Some (Reg core step cell bit)) = ⊥
IsFor addrs place (Some (Tag core step fetch way set byte bit)) = ⊥
IsFor addrs place (Some (Line core step fetch way set byte bit)) = ⊥

-- the strikes of a plan are still to come, each once, and those that came struck their own words
pub record IsPending (script : List Flip) (addrs : List ℕ) (units : Units) (plan : List Strike) : Type 0 where
  pub sound : AreWordUnits addrs units
  pub flips : units.flips ≡ length script
  pub strikes : AllByRecursion (MayStrike addrs units) plan
  pub apart : AreApart plan
  pub of_script : AllByRecursion (IsOf Memory script) plan
  pub own : (i place : ℕ) → place < length units.histories
      → has_struck i (history_at place units.histories) ≡ true → IsFor addrs place (slice_get script i)

-- how far the strikes of a turn have come: those of the run were made, and the rest of the plan is still to come
pub record IsAlong (script : List Flip) (addrs : List ℕ) (turn : ℕ) (first : Units) (plan : List Strike)
    (units : Units) (rest : List Strike) : Type 0 where
  pub run : List Strike
  pub split : plan ≡ run ++ rest
  pub early : All (λ strike. strike.at ≤ turn) run
  pub units_are : units ≡ fold (with_strike addrs) first run
  pub pending : IsPending script addrs units rest
