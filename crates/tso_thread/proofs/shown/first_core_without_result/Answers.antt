use Rattle.std.proofs.Common.{ℕ, length, refl, sym, ◌∙◌}
use Rattle.std.proofs.lemmas.Bool.{false≢true}
use Rattle.std.proofs.lemmas.Option.{slice_get_read}
use Rattle.lf_model.specs.Records.CoreRules.{HasThread, ShowsResult, core_in_trace}
use Rattle.lf_model.specs.declared.trace.CoreResult.{CoreResult}
use Rattle.tso_thread.proofs.CoreByCore.{holds_at, next_some, fails_at}
use Rattle.tso_thread.proofs.shown.first_core_without_result.Goals as goal

pub has_result-requires-clause-numbered : goal.has_result-requires-clause-numbered
has_result-requires-clause-numbered c = c.requires.numbered c.loop-core.core c.loop-core-test.true

pub has_result-requires-clause-thread : goal.has_result-requires-clause-thread
has_result-requires-clause-thread c =
    let P = λ (k : ℕ) (r : CoreResult). HasThread c.args.program.now.setup.now (core_in_trace c.args.trace.now k r) in
    let results = c.as_slice-results.result.now in
    let is = slice_get_read results (length results) c.loop-core.core c.in-Some.shown.now refl c.in-Some.ensures.lookup.3.0 c.in-Some.ensures.lookup.1 in
    holds_at P results c.args.trace.now.cores c.loop-core.invariant.0 c.loop-core.core c.in-Some.shown.now is (c.requires.thread c.loop-core.core c.loop-core-test.true)

pub returns-then-not-branch : goal.returns-then-not-branch
returns-then-not-branch c =
    let P = λ (k : ℕ) (r : CoreResult). ShowsResult c.args.program.now.setup.now (core_in_trace c.args.trace.now k r) in
    let results = c.as_slice-results.result.now in
    let is = slice_get_read results (length results) c.loop-core.core c.in-Some.shown.now refl c.in-Some.ensures.lookup.3.0 c.in-Some.ensures.lookup.1 in
    fails_at P results c.args.trace.now.cores c.loop-core.invariant.0 c.args.cores c.loop-core.core c.in-Some.shown.now c.loop-core-test.true c.loop-core.invariant.1 is
    (λ h. false≢true (sym c.if-not-branch.true ∙ c.in_ok-has_result.ensures.1 h))

pub loop-core-preserved : goal.loop-core-preserved
loop-core-preserved c =
    let P = λ (k : ℕ) (r : CoreResult). ShowsResult c.args.program.now.setup.now (core_in_trace c.args.trace.now k r) in
    let results = c.as_slice-results.result.now in
    let is = slice_get_read results (length results) c.loop-core.core c.in-Some.shown.now refl c.in-Some.ensures.lookup.3.0 c.in-Some.ensures.lookup.1 in (
      c.loop-core.invariant.0,
      next_some P results c.args.trace.now.cores c.loop-core.invariant.0 c.loop-core.core c.in-Some.shown.now c.loop-core.invariant.1 is (c.in_ok-has_result.ensures.0 c.if-not-branch.false),
    )
