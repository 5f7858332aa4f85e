use Rattle.std.proofs.Common.{ℕ, ◌∙◌, List, Global, map, sym, subst, arith}
use Rattle.std.specs.String.{string_bytes}
use Rattle.lf_io.specs.Taken.{Takes}
use Rattle.lf_model.proofs.NeverStops.{headline_never_stops}
use Rattle.leon_main.proofs.DecideLemmas.{decides}
use Rattle.leon_main.proofs.MemoryLemmas.{memory_line}
use Rattle.leon_main.proofs.SettledLemmas.{settled}
use Rattle.leon_main.proofs.VerdictLemmas.{one_verdict}
use Rattle.leon_main.proofs.call.plain_call.Goals as goal

-- The outcome, and what was told of it, decide the answer.
pub returns-clause-decides : goal.returns-clause-decides
returns-clause-decides g c held told faultless =
    decides (map (string_bytes {Z = Global}) c.args.words.now) (g.F.Files.held c.args.files.now) held (g.F.Files.faults c.args.files.now)
    (g.F.Files.faults c.outcome_of-outcome.new.files) (g.K.Sink.taken c.args.out.now) (g.K.Sink.taken c.tell.new.out) c.outcome_of-outcome.result c.tell.result
    told c.outcome_of-outcome.ensures faultless c.tell.ensures.told

-- A run whose stops have their cause has no stop where no word and no cell ever has two turned bits.
pub returns-clause-never_stops : goal.returns-clause-never_stops
returns-clause-never_stops g c setup events trace played never = headline_never_stops setup trace played.headline never

pub returns-clause-settled : goal.returns-clause-settled
returns-clause-settled g c task names held = settled task names held

pub returns-clause-one_verdict : goal.returns-clause-one_verdict
returns-clause-one_verdict g c setup trace = one_verdict setup trace

pub returns-clause-memory : goal.returns-clause-memory
returns-clause-memory g c seven =
    let told = c.tell.ensures.told (λ eight. omega (arith, seven, eight)) in
    subst (λ (text : List ℕ). Takes (g.K.Sink.taken c.args.out.now) (g.K.Sink.taken c.tell.new.out) text)
    (memory_line c.outcome_of-outcome.result (sym told.0 ∙ seven)) told.1
