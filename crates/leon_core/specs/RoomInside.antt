-- The room that is reserved for what a core leaves at its end.
use Rattle.std.specs.Prelude.{ℕ, ◌≡◌, [], vec_len}
use Rattle.std.specs.Vec.{vec_capacity}
use Rattle.leon_core.specs.declared.room.Room.{Room}

-- for 32 registers and for one fate of each flip of the script, of which none is put yet, and for the word that its stop names
pub record IsReserved (flips : ℕ) (room : Room) : Type 0 where
  pub no_regs : room.regs.items ≡ []
  pub regs_used : vec_len room.regs ≡ 0
  pub regs_room : vec_capacity room.regs ≡ 32
  pub no_fates : room.fates.items ≡ []
  pub fates_used : vec_len room.fates ≡ 0
  pub fates_room : vec_capacity room.fates ≡ flips
  pub named_room : vec_capacity room.named ≡ 1
