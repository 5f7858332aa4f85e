mod CellTable
