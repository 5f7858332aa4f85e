-- How a register file is kept.
use Rattle.std.specs.Prelude.{◌≡◌, length}
use Rattle.lf_model.specs.Course.Arrays.{register_cells}
use Rattle.ft_regfile.specs.Registers.{Registers}
use Rattle.ft_regfile.specs.declared.regfile.RegFile.TheInside.{Inside}

abbrev pub seen : Inside → Registers
seen file = record { values = file.cells.values; histories = file.cells.histories; flips = file.cells.flips }

pub record AreRegisters (file : Inside) : Type 0 where
  pub count : length file.cells.histories ≡ register_cells
  pub values : length file.cells.values ≡ register_cells
