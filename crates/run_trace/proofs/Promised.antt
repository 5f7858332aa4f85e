-- What is promised of the trace that is gathered, where it is made.
use Rattle.std.proofs.Common.{◌≡◌, ◌<◌, ◌^◌, ℕ, true, List, Result, Ok, Err, IfOk, ap, sym, subst}
use Rattle.std.proofs.lemmas.Bool.{lt-ltb}
use Rattle.std.specs.List.{list_all}
use Rattle.ahb_bus.specs.declared.record.BusRecord.{BusRecord}
use Rattle.lf_model.specs.Ledger.Rule.{KeepsLedger}
use Rattle.lf_model.specs.Promise.Headline.{Headline}
use Rattle.lf_model.specs.Promise.Regular.{IsRegular, is_regular_word}
use Rattle.lf_model.specs.declared.record.CoreRecord.{CoreRecord}
use Rattle.lf_model.specs.declared.setup.Setup.{Setup}
use Rattle.lf_model.specs.declared.trace.Trace.{Trace}
use Rattle.lf_model.specs.declared.trace.Word2.{Word2}
use Rattle.run_trace.specs.Gathered.{gathered, IsGatherable}
use Rattle.run_trace.proofs.Headlines.{headline}
use Rattle.run_trace.proofs.LedgerKept.{ledger}
use Rattle.run_trace.proofs.Regularity.{regular}

module _ (setup : Setup) (records : List CoreRecord) (bus : BusRecord) (watch : List Word2) (ok : IsGatherable setup records bus watch) {E : Type 0} where
  pub promised_regular : (result : Result Trace E) → IfOk result (λ trace. trace ≡ gathered setup records bus watch)
      → IfOk result (λ trace. (trace.ahb_addr < 2 ^ 32) × (trace.ahb_status < 2 ^ 32)) → IfOk result (λ trace. list_all is_regular_word trace.watch ≡ true) → IfOk result IsRegular
  promised_regular (Err e) is fits words = tt
  promised_regular (Ok trace) is fits words = subst IsRegular (sym is) (regular setup records bus watch ok
      (lt-ltb bus.ahb_addr (2 ^ 32) (subst (λ (n : ℕ). n < 2 ^ 32) (ap (λ (t : Trace). t.ahb_addr) is) fits.0))
      (lt-ltb bus.ahb_status (2 ^ 32) (subst (λ (n : ℕ). n < 2 ^ 32) (ap (λ (t : Trace). t.ahb_status) is) fits.1))
      (subst (λ (t : Trace). list_all is_regular_word t.watch ≡ true) is words))

  pub promised_headline : (result : Result Trace E) → IfOk result (λ trace. trace ≡ gathered setup records bus watch) → IfOk result (Headline setup)
  promised_headline (Err e) is = tt
  promised_headline (Ok trace) is = subst (Headline setup) (sym is) (headline setup records bus watch ok)

  pub promised_ledger : (result : Result Trace E) → IfOk result (λ trace. trace ≡ gathered setup records bus watch) → IfOk result (KeepsLedger setup)
  promised_ledger (Err e) is = tt
  promised_ledger (Ok trace) is = subst (KeepsLedger setup) (sym is) (ledger setup records bus watch ok)
