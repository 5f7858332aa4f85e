use Rattle.v8_windows.proofs.CellTable.{table_cell}
use Rattle.v8_windows.proofs.cell_in_table.Goals as goal

pub returns : goal.returns
returns c = table_cell c.args.cwp c.args.n c.requires.window c.requires.register
