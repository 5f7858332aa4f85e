use Rattle.std.proofs.Common.{◌≡◌, ◌≤◌, ◌+◌, ◌∙◌, ℕ, Bool, List, Some, map, drop, get_or, IfSome, subst, sym, arith, below_more, cond, true, false}
use Rattle.std.specs.Option.{option_map}
use Rattle.std.proofs.lemmas.Bool.{false≢true}
use Rattle.lf_model.specs.Course.Progress.{Completion}
use Rattle.lf_model.specs.Ledger.OrderAccount.{completion_of, reported_by, shown}
use Rattle.lf_model.specs.Operation.{enters}
use Rattle.lf_model.specs.declared.trace.Op.{Op}
use Rattle.ledger_audit.proofs.Along.{before_at}
use Rattle.ledger_audit.proofs.OrderPlaces.{next_entries, is_same, other_completion, other_entry, is_unsorted}
use Rattle.ledger_audit.proofs.SortedSoFar.{later_lost, tells_more}
use Rattle.ledger_audit.specs.Account.{completions_of, entry_seen}
use Rattle.ledger_audit.specs.Entries.{after_entries, HasEntry, HasOther}
use Rattle.ledger_audit.specs.FirstPlaces.{SameOrderAt}
use Rattle.ledger_audit.specs.Sorting.{no_op, SortedWith}
use Rattle.ledger_audit.proofs.order.first_other_operation.Goals as goal

more_at_most : (b : Bool) (n i next : ℕ) → n ≤ i → next ≡ cond b (n + 1) n → next ≤ i + 1
more_at_most true n i next low is = omega (arith, low, is)
more_at_most false n i next low is = omega (arith, low, is)

-- an operation is completed as it is reported after so many entries
abbrev CompletedAfter : List (List Completion) → Op → ℕ → Type 0
CompletedAfter cores o entries = option_map (shown o.kind) (completion_of cores o.core o.k) ≡ Some (reported_by (after_entries entries) o o.kind)

pub returns-then-not-is_completed : goal.returns-then-not-is_completed
returns-then-not-is_completed c =
    let order = c.args.order.now in
    let cores = map completions_of c.args.cores.now in
    let i = c.loop-place.place in
    let so_far = c.loop-place.invariant in (
      c.loop-place-test.true,
      other_completion (map entry_seen c.args.log.now) cores order i no_op c.loop-place-test.true
          (λ h. false≢true (sym c.if-not-is_completed.true ∙ c.is_completed.ensures.1 (subst (CompletedAfter cores (get_or order i no_op)) (sym so_far.entries) h))),
      so_far.held,
    )

pub returns-in-None : goal.returns-in-None
returns-in-None c =
    let order = c.args.order.now in
    let log = map entry_seen c.args.log.now in
    let i = c.loop-place.place in
    let so_far = c.loop-place.invariant in (
      c.loop-place-test.true,
      other_entry log (map completions_of c.args.cores.now) order i no_op c.loop-place-test.true
          (subst (λ (n : ℕ). HasOther log n (get_or order i no_op)) so_far.entries (c.next_entry.ensures.other c.in-None.is)),
      so_far.held,
    )

pub next-requires-clause-ends : goal.next-requires-clause-ends
next-requires-clause-ends c = λ lost. later_lost c.args.order.now c.loop-place.place no_op c.loop-place-test.true (c.loop-place.invariant.ends lost)

pub returns-in-None-next : goal.returns-in-None-next
returns-in-None-next c =
    let order = c.args.order.now in
    let i = c.loop-place.place in
    let so_far = c.loop-place.invariant in (
      c.loop-place-test.true,
      is_unsorted (map entry_seen c.args.log.now) (map completions_of c.args.cores.now) order i no_op c.loop-place-test.true
          (c.next.ensures.unsorted (before_at order i) so_far.tells c.in-None-next.is),
      so_far.held,
    )

pub loop-place-preserved : goal.loop-place-preserved
loop-place-preserved c =
    let order = c.args.order.now in
    let log = map entry_seen c.args.log.now in
    let cores = map completions_of c.args.cores.now in
    let i = c.loop-place.place in
    let o = get_or order i no_op in
    let so_far = c.loop-place.invariant in
    let completed : CompletedAfter cores o (before_at order i).entries
    = subst (CompletedAfter cores o) so_far.entries (c.is_completed.ensures.0 c.if-not-is_completed.false) in
    let next : HasEntry log c.loop-place.entries o c.in-Some.next
    = subst (λ r. IfSome r (HasEntry log c.loop-place.entries o)) c.in-Some.is c.next_entry.ensures.next in
    let entry : HasEntry log (before_at order i).entries o c.in-Some.next
    = subst (λ (n : ℕ). HasEntry log n o c.in-Some.next) so_far.entries next in
    let sorted : SortedWith (before_at order i) o (drop (i + 1) order) c.in-Some-next.next
    = subst (λ r. IfSome r (SortedWith (before_at order i) o (drop (i + 1) order))) c.in-Some-next.is (c.next.ensures.sorted (before_at order i) so_far.tells) in
    record {
      entries = next_entries log cores order i no_op c.loop-place-test.true c.in-Some.next entry;
      few = more_at_most (enters o) c.loop-place.entries i c.in-Some.next so_far.few next.next_is;
      tells = tells_more order i no_op c.loop-place-test.true c.in-Some-next.next sorted;
      ends = sorted.ends;
      held = below_more (λ (j : ℕ). SameOrderAt log cores order j) i so_far.held
          (is_same log cores order i no_op c.loop-place-test.true c.in-Some.next entry completed sorted.sorted);
    }
