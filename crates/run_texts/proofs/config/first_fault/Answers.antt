-- A key without a fault is passed, and the fault of another is told.
use Rattle.toml.specs.View.{table_view}
use Rattle.run_texts.specs.declared.keys.Key.TheVariants.{Cores}
use Rattle.run_texts.specs.Configuration.{key_faults}
use Rattle.run_texts.proofs.FaultLemmas.{passed_key, faulty_key}
use Rattle.run_texts.proofs.config.first_fault.Goals as goal

pub loop-key-preserved : goal.loop-key-preserved
loop-key-preserved c =
    passed_key (key_faults (table_view c.args.document.now) c.args.config.now) c.args.keys.now c.loop-key.key-index Cores _ c.loop-key-test.true c.loop-key.invariant c.in_default.ensures

pub returns-in-Some : goal.returns-in-Some
returns-in-Some c =
    faulty_key (key_faults (table_view c.args.document.now) c.args.config.now) c.args.keys.now c.loop-key.key-index Cores _ _ c.loop-key-test.true c.loop-key.invariant c.in-Some.ensures
