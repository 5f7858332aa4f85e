-- The ways in which a unit is written.
use Rattle.lf_model.specs.Flips.{How as HowWritten}
use Rattle.lf_model.specs.Flips.How.{Whole, ByPartStore, ByAtomic, ByFix, ByReadBack}
use Rattle.flip_ledger.specs.declared.record.Write.{Write}
use Rattle.flip_ledger.specs.declared.record.Write.TheVariants as writes
use Rattle.replay_units.specs.declared.history.How.{How}
use Rattle.replay_units.specs.declared.history.How.TheVariants as ways

-- as histories say it
abbrev pub how_of : How → HowWritten
how_of ways.Whole = Whole
how_of ways.ByPartStore = ByPartStore
how_of ways.ByAtomic = ByAtomic
how_of ways.ByFix = ByFix
how_of ways.ByReadBack = ByReadBack

-- whole, or with a correction
abbrev pub write_of : How → Write
write_of ways.Whole = writes.Whole
write_of ways.ByPartStore = writes.Correcting
write_of ways.ByAtomic = writes.Correcting
write_of ways.ByFix = writes.Correcting
write_of ways.ByReadBack = writes.Correcting
