-- What an audit answers of a trace: the first rule that fails, and its first place, or that none fails.
use Rattle.std.specs.Prelude.{◌≡◌, ◌≤◌, ◌^◌, ◌⊎◌, All, IsTrue, length, Option, Some, None}
use Rattle.lf_model.specs.Places.{FailsNowhere}
use Rattle.lf_model.specs.Promise.Headline.{IsTsoExecution}
use Rattle.lf_model.specs.Records.CoreRules.{ResultAt}
use Rattle.lf_model.specs.Results.{ResultAtFinal}
use Rattle.lf_model.specs.Start.{is_in_ram, IsLoadable}
use Rattle.lf_model.specs.declared.place.Place.{Place}
use Rattle.lf_model.specs.declared.setup.Setup.{Setup}
use Rattle.lf_model.specs.declared.trace.Trace.{Trace}
use Rattle.tso_audit.specs.FirstPlaces.{OnceFailsFirst, LoadOpFailsFirst, StoreStoreFailsFirst, ThreadFailsFirst, ResultFailsFirst, ValueFailsFirst}
use Rattle.tso_audit.specs.declared.verdict.Rule.{Rule}
use Rattle.tso_audit.specs.declared.verdict.Rule.TheVariants as rules
use Rattle.tso_audit.specs.declared.verdict.Verdict.{Verdict}
use Rattle.tso_audit.specs.declared.verdict.Verdict.TheVariants.{Yes, No}

-- what the readers of configuration and image accept, as far as the audit needs it
pub record CanAudit (setup : Setup) : Type 0 where
  pub cores : setup.config.cores ≤ 8
  pub ram : setup.config.ram ≤ 2 ^ 24
  pub steps : setup.config.steps ≤ 4000000
  pub image : IsLoadable setup.config.ram setup.image
  pub watch : All (λ addr. IsTrue (is_in_ram setup.config.ram addr 4)) setup.config.watch

-- a rule is tried before later ones: it fails nowhere, and then the answer is that of the later rules, or the answer is the rule with its
-- first place
abbrev pub RuleBefore : (Option Place → Type 0) → Rule → (Verdict → Type 0) → Verdict → Type 0
RuleBefore FailsAt rule Later verdict = (FailsAt None × Later verdict) ⊎ ((place : Place) × FailsAt (Some place) × (verdict ≡ No rule place))

abbrev pub IsVerdict : Setup → Trace → Verdict → Type 0
IsVerdict setup trace =
    RuleBefore (OnceFailsFirst setup trace) rules.Once
    (RuleBefore (LoadOpFailsFirst trace) rules.LoadOp
    (RuleBefore (StoreStoreFailsFirst trace) rules.StoreStore
    (RuleBefore (ThreadFailsFirst setup trace) rules.Thread
    (RuleBefore (ResultFailsFirst setup trace) rules.Result
    (RuleBefore (ValueFailsFirst setup trace) rules.Value
    (λ verdict. verdict ≡ Yes))))))

-- all rules but the ledger: the trace is an execution in total store order, whose results it reports
pub record AllHold (setup : Setup) (trace : Trace) : Type 0 where
  pub execution : IsTsoExecution setup trace
  pub results : FailsNowhere setup.config.cores (ResultAt setup trace)
  pub words : FailsNowhere (length trace.watch) (ResultAtFinal setup trace)
