-- The register cells of a core at reset.
use Rattle.std.specs.Prelude.{ℕ, replicate, slice_set}
use Rattle.ft_regfile.specs.Registers.{Registers, fresh_registers}
use Rattle.lf_model.specs.Course.Arrays.{register_cells}
use Rattle.lf_model.specs.State.{cell}

-- %o0 has the core's number and the other registers 0, for a script of so many flips
abbrev pub reset_registers : ℕ → ℕ → Registers
reset_registers core flips = fresh_registers (slice_set (replicate register_cells 0) (cell 0 8) core) flips
