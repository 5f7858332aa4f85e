-- What a footprint says of the effect of an instruction.
use Rattle.std.specs.Prelude.{ℕ, ◌≡◌, is_some}
use Rattle.std.specs.Option.{option_map}
use Rattle.lf_model.specs.Course.Arrays.{cells_of}
use Rattle.lf_model.specs.Effect.{AccessKind as Kind, Access as Operation, Effect}
use Rattle.replay_effects.specs.declared.footprint.Access.{Access}
use Rattle.replay_effects.specs.declared.footprint.AccessKind.{AccessKind}
use Rattle.replay_effects.specs.declared.footprint.AccessKind.TheVariants.{Load, Store, Atomic}
use Rattle.replay_effects.specs.declared.footprint.Footprint.{Footprint}

abbrev pub kind_of : Kind → AccessKind
kind_of Kind.Load = Load
kind_of Kind.Store = Store
kind_of Kind.Atomic = Atomic

-- the operation, without the register that gets what it reads
abbrev pub access_of : Operation → Access
access_of x = record { kind = kind_of x.kind; addr = x.addr; len = x.len; put = x.put }

-- it is the footprint of an instruction with this effect, in this window
pub record IsFootprint (window : ℕ) (e : Effect) (f : Footprint) : Type 0 where
  pub reads : f.reads.items ≡ cells_of window e.reads
  pub trap : f.trap ≡ is_some e.trap
  pub access : f.access ≡ option_map access_of e.access
  pub barrier : f.barrier ≡ e.barrier
  pub writes : f.writes.items ≡ e.writes
