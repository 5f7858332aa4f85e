-- The keys passed have no fault.
use Rattle.std.proofs.Common.{◌≡◌, drop}
use Rattle.std.specs.List.{flat_map}
use Rattle.toml.specs.View.{table_view}
use Rattle.run_texts.specs.Columns.{first_fault}
use Rattle.run_texts.specs.Configuration.{key_faults}
use Rattle.run_texts.proofs.config.first_fault.Given as goal

abbrev pub invariant-loop-key : goal.invariant-loop-key
invariant-loop-key l =
    first_fault (flat_map (key_faults (table_view l.document) l.config) (drop l.key-index l.keys))
    ≡ first_fault (flat_map (key_faults (table_view l.document) l.config) l.keys)
