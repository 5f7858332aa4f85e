-- What is known of the operations of a memory order before one of its places.
use Rattle.std.specs.Prelude.{◌≡◌, Bool, true, List, Option, Some, None}
use Rattle.std.specs.List.{list_all}
use Rattle.lf_model.specs.Ledger.OrderAccount.{Before, after_kind, comes_before, sorted_by}
use Rattle.lf_model.specs.Operation.{is_lost}
use Rattle.lf_model.specs.declared.bus.OpKind.TheVariants.{Load}
use Rattle.lf_model.specs.declared.trace.Op.{Op}
use Rattle.ledger_audit.specs.declared.sorted.SoFar.{SoFar}

-- what stands for an operation that isn't there
abbrev pub no_op : Op
no_op = record { got = 0; put = 0; core = 0; k = 0; step = 0; addr = 0; kind = Load; len = 0; way = 0 }

-- the last of some operations comes before this one, if there is one
abbrev pub after_last : Op → Option Op → Bool
after_last o None = true
after_last o (Some last) = comes_before o last

-- an operation comes after all loads, and after all lost stores, where it comes after the last one
pub record Tells (so_far : SoFar) (b : Before) : Type 0 where
  pub load_is : (o : Op) → list_all (comes_before o) b.loads ≡ after_last o so_far.load
  pub lost_is : (o : Op) → list_all (comes_before o) b.lost ≡ after_last o so_far.lost

-- an operation is sorted, and this is known after it
pub record SortedWith (b : Before) (o : Op) (later : List Op) (so_far : SoFar) : Type 0 where
  pub sorted : sorted_by b o later o.kind ≡ true
  pub tells : Tells so_far (after_kind o b o.kind)
  pub ends : so_far.ends_lost ≡ true → list_all is_lost later ≡ true
