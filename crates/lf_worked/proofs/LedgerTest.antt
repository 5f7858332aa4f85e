-- Whether the ledger of a trace is kept, by a test that computes.
use Rattle.std.proofs.Common.{ℕ, ◌≡◌, ◌++◌, ◌&&◌, Bool, true, List, slice_get}
use Rattle.std.specs.Prelude.{◌==◌}
use Rattle.std.specs.Option.{option_map_or}
use Rattle.std.proofs.lemmas.Bool.{eqb-true, and_parts}
use Rattle.lf_model.specs.Ledger.Account.{account_by_course, account_as_reported}
use Rattle.lf_model.specs.Ledger.Rule.{StepsAt, KeepsLedger}
use Rattle.lf_model.specs.Ledger.Same.{same_transfer, same_account}
use Rattle.lf_model.specs.Ledger.Steps.{HasSteps, own_transfers, in_steps, past_steps, ascends_from, is_last_drain, retiring_steps, is_halt, last_retires}
use Rattle.lf_model.specs.Names.{same_kind, same_why}
use Rattle.lf_model.proofs.SameAccount.{accounts}
use Rattle.lf_model.proofs.SameNames.{kinds_same, whys_same}
use Rattle.lf_model.specs.declared.bus.Transfer.{Transfer}
use Rattle.lf_model.specs.declared.setup.Setup.{Setup}
use Rattle.lf_model.specs.declared.trace.CoreResult.{CoreResult}
use Rattle.lf_model.specs.declared.trace.Trace.{Trace}
use Rattle.std.specs.Prelude.{length, not, nat_le, ◌||◌}
use Rattle.std.specs.List.{list_all}
use Rattle.lf_worked.proofs.Numerals.{passes_below, passes_at}
use Rattle.lf_worked.proofs.Tests.{holds_if_some, same_list, is_same_list}

pub is_same_transfer : (t u : Transfer) → same_transfer t u ≡ true → t ≡ u
is_same_transfer t u passes =
    let syn = and_parts (t.syn == u.syn) _ passes in
    let turn = and_parts (t.turn == u.turn) _ syn.1 in
    let master = and_parts (t.master == u.master) _ turn.1 in
    let step = and_parts (t.step == u.step) _ master.1 in
    let addr = and_parts (t.addr == u.addr) _ step.1 in
    let kind = and_parts (same_kind t.kind u.kind) _ addr.1 in
    let why = and_parts (same_why t.why u.why) _ kind.1 in
    let way = and_parts (t.way == u.way) _ why.1 in
    let words = and_parts (t.words == u.words) _ way.1 in
    λ i. record {
      syn = eqb-true t.syn u.syn syn.0 i;
      turn = eqb-true t.turn u.turn turn.0 i;
      master = eqb-true t.master u.master master.0 i;
      step = eqb-true t.step u.step step.0 i;
      addr = eqb-true t.addr u.addr addr.0 i;
      kind = kinds_same t.kind u.kind kind.0 i;
      why = whys_same t.why u.why why.0 i;
      way = eqb-true t.way u.way way.0 i;
      words = eqb-true t.words u.words words.0 i;
      len = eqb-true t.len u.len words.1 i;
    }

-- ---- the steps of a core

abbrev pub has_steps : Setup → CoreResult → List Transfer → Bool
has_steps setup r own = same_list same_transfer own (in_steps r.steps own ++ past_steps r.steps own)
    && (ascends_from 0 (in_steps r.steps own)
    && (list_all (is_last_drain setup.config.steps) (past_steps r.steps own)
    && (nat_le (length (past_steps r.steps own)) 8
    && ((length (past_steps r.steps own) == 0 || r.steps == setup.config.steps)
    && ((retiring_steps r.end r.steps (in_steps r.steps own) == r.n)
    && (not (is_halt r.end) || last_retires r.end r.steps (in_steps r.steps own)))))))

pub has_steps-sound : (setup : Setup) (r : CoreResult) (own : List Transfer) → has_steps setup r own ≡ true → HasSteps setup r own
has_steps-sound setup r own passes =
    let order = and_parts (same_list same_transfer own (in_steps r.steps own ++ past_steps r.steps own)) _ passes in
    let ascending = and_parts (ascends_from 0 (in_steps r.steps own)) _ order.1 in
    let drains = and_parts (list_all (is_last_drain setup.config.steps) (past_steps r.steps own)) _ ascending.1 in
    let few = and_parts (nat_le (length (past_steps r.steps own)) 8) _ drains.1 in
    let all_made = and_parts (length (past_steps r.steps own) == 0 || r.steps == setup.config.steps) _ few.1 in
    let retired = and_parts (retiring_steps r.end r.steps (in_steps r.steps own) == r.n) _ all_made.1 in
    record {
      order = is_same_list same_transfer is_same_transfer own _ order.0;
      ascending = ascending.0;
      drains = drains.0;
      few = few.0;
      all_made = all_made.0;
      retired = eqb-true _ _ retired.0;
      halting = retired.1;
    }

abbrev pub steps_at : Setup → Trace → ℕ → Bool
steps_at setup trace c = option_map_or (λ r. has_steps setup r (own_transfers c trace.transfers)) (slice_get trace.cores c) true

pub steps_at-sound : (setup : Setup) (trace : Trace) (c : ℕ) → steps_at setup trace c ≡ true → StepsAt setup trace c
steps_at-sound setup trace c passes =
    holds_if_some (λ r. has_steps setup r (own_transfers c trace.transfers)) (λ r. HasSteps setup r (own_transfers c trace.transfers))
    (λ r. has_steps-sound setup r (own_transfers c trace.transfers)) (slice_get trace.cores c) passes

-- ---- the ledger

abbrev pub keeps_ledger : Setup → Trace → Bool
keeps_ledger setup trace = passes_below (steps_at setup trace) setup.config.cores
    && same_account (account_by_course setup trace) (account_as_reported trace)

pub ledger : (setup : Setup) (trace : Trace) → keeps_ledger setup trace ≡ true → KeepsLedger setup trace
ledger setup trace passes =
    let parts = and_parts (passes_below (steps_at setup trace) setup.config.cores) _ passes in
    record {
      steps = λ c within. steps_at-sound setup trace c (passes_at (steps_at setup trace) setup.config.cores parts.0 c within);
      same = accounts (account_by_course setup trace) (account_as_reported trace) parts.1;
    }
