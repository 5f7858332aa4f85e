-- The ledger of the trace that is gathered: all that it reports is what its masters give.
use Rattle.std.proofs.Common.{◌≡◌, List, refl}
use Rattle.ahb_bus.specs.declared.record.BusRecord.{BusRecord}
use Rattle.lf_model.specs.Ledger.Account.{TurnAccount, FinalAccount, Account}
use Rattle.lf_model.specs.Ledger.CoreAccount.{CoreAccount}
use Rattle.lf_model.specs.Ledger.OrderAccount.{OrderAccount}
use Rattle.lf_model.specs.Ledger.Rule.{KeepsLedger}
use Rattle.lf_model.specs.declared.record.CoreRecord.{CoreRecord}
use Rattle.lf_model.specs.declared.setup.Setup.{Setup}
use Rattle.lf_model.specs.declared.trace.Fate.{Fate}
use Rattle.lf_model.specs.declared.trace.Word2.{Word2}
use Rattle.run_trace.specs.Gathered.{gathered, IsGatherable}
use Rattle.run_trace.proofs.Accounts.{steps_right, cores_right, transfers_right, final_right}
use Rattle.run_trace.proofs.EntriesMade.{logged}
use Rattle.run_trace.proofs.FlipsKept.{fates_kept}
use Rattle.run_trace.proofs.OrderAccounts.{order_right}

five : {cs cs' : List CoreAccount} {os os' : List OrderAccount} {ts ts' : List TurnAccount} {fs fs' : List Fate} {f f' : FinalAccount} → cs ≡ cs' → os ≡ os' → ts ≡ ts' → fs ≡ fs' → f ≡ f'
    → ◌≡◌ {A = Account} (record { cores = cs; order = os; transfers = ts; fates = fs; final = f }) (record { cores = cs'; order = os'; transfers = ts'; fates = fs'; final = f' })
five p q r s t = rw (p, q, r, s, t) refl

pub ledger : (setup : Setup) (records : List CoreRecord) (bus : BusRecord) (watch : List Word2) → IsGatherable setup records bus watch → KeepsLedger setup (gathered setup records bus watch)
ledger setup records bus watch ok = record {
  steps = steps_right setup records bus watch ok;
  same = five (cores_right setup records bus watch ok) (order_right setup records bus watch ok (logged setup records bus watch ok)) (transfers_right setup records bus watch ok)
      (fates_kept setup records bus watch ok) (final_right setup records bus watch ok);
}
