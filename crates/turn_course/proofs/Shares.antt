-- A core that may make a turn has one left of its share of transfers; and of its share of entries, where it drains a store or makes an
-- atomic.
use Rattle.std.proofs.Common.{◌≡◌, ◌∙◌, ◌+◌, ◌<◌, ◌≤◌, ◌⊎◌, ℕ, true, nat_le, List, [], ◌∷◌, length, take, drop, filter, count_by, ap, sym, arith, inl, inr}
use Rattle.std.proofs.lemmas.Bool.{and_parts, cases_lt, leb-true}
use Rattle.std.proofs.lemmas.List.{length-append, length-map, take-append-drop}
use Rattle.std.proofs.lemmas.List.Sums.{length-filter, count_by-le-length}
use Rattle.std.specs.List.{AllByRecursion as Each}
use Rattle.core_course.proofs.MayTurns.{last_drains}
use Rattle.core_course.proofs.Running.{RunsOn, runs_on}
use Rattle.core_course.proofs.TurnParts.{own_before}
use Rattle.core_course.specs.Calls.{Joins, MayTurn}
use Rattle.core_course.specs.CoreOk.{buffer_of, waiting_of, within_steps, past_its_steps}
use Rattle.core_laws.proofs.ListLemmas.{count_append}
use Rattle.core_laws.proofs.Steps.{none_past}
use Rattle.core_parts.specs.CoreValue.{CoreValue}
use Rattle.lf_model.proofs.EachLemmas.{filter_none}
use Rattle.lf_model.specs.Ledger.Steps.{own_transfers, ascends_from}
use Rattle.lf_model.specs.Operation.{stores, made}
use Rattle.lf_model.specs.Records.SeenOrder.{is_entry_of}
use Rattle.lf_model.specs.declared.bus.Entry.{Entry}
use Rattle.lf_model.specs.declared.bus.Transfer.{Transfer}
use Rattle.lf_model.specs.declared.step.Turn.{Turn}
use Rattle.turn_course.proofs.TurnBegins.{unended_by}

-- a core makes at most one transfer in a step
at_most : (ts : List Transfer) (first last : ℕ) → first ≤ last → ascends_from first ts ≡ true → Each (λ (t : Transfer). t.step < last) ts → first + length ts ≤ last
at_most [] first last below up each = omega (arith, below)
at_most (t ∷ ts) first last below up each =
    let parts = and_parts (nat_le first t.step) (ascends_from (t.step + 1) ts) up in
    let from : first ≤ t.step = leb-true first t.step parts.0 in
    let rest = at_most ts (t.step + 1) last (omega (arith, each.0)) parts.1 each.1 in
    omega (arith, from, rest)

-- t: any transfer
module _ (v : CoreValue) (log : List Entry) (ts : List Transfer) (t : Transfer) (j : Joins v log ts) (turn : Turn) (may : MayTurn v turn) where
  abbrev seen : List Entry
  seen = take v.log_seen log

  abbrev more : List Entry
  more = drop v.log_seen log

  abbrev known : List Transfer
  known = take v.turns_seen ts

  abbrev others : List Transfer
  others = drop v.turns_seen ts

  abbrev limit : ℕ
  limit = v.setup.config.steps

  now : RunsOn v seen known
  now = runs_on v seen known (unended_by v turn v.phase may) j.ok

  within_few : length (within_steps v known) ≤ v.steps
  within_few = omega (arith, at_most (within_steps v known) 0 v.steps (omega arith) now.goes_on.has_steps.ascending now.goes_on.has_steps.in_steps)

  own : length (own_transfers v.arch.core ts) ≡ length (within_steps v known) + length (past_its_steps v known)
  own = ap (λ (us : List Transfer). length (own_transfers v.arch.core us)) (sym (take-append-drop v.turns_seen ts))
      ∙ (ap length (own_before v.arch.core known others j.others ∙ now.goes_on.in_order) ∙ length-append (within_steps v known) (past_its_steps v known))

  pub transfer_left : length (own_transfers v.arch.core ts) < limit + 8
  transfer_left = elim (cases_lt v.steps limit) [
    | inl left ↦
        let none : past_its_steps v known ≡ [] = none_past limit v.steps v.arch.n (length v.ports.waiting) (within_steps v known) (past_its_steps v known) now.goes_on.has_steps left in
        omega (arith, own, within_few, left, ap length none)
    | inr over ↦
        let draining = (last_drains v turn t j.ok.left may over).1 in
        omega (arith, own, within_few, now.goes_on.has_steps.allowed, now.goes_on.has_steps.few, draining.some)
  ]

  -- ---- entries

  none_of_others : count_by (is_entry_of v.arch.core) more ≡ 0
  none_of_others = sym (length-filter (is_entry_of v.arch.core) more) ∙ ap length (filter_none (is_entry_of v.arch.core) more j.entries)

  counted : count_by (is_entry_of v.arch.core) log + length v.ports.waiting ≤ length v.ops
  counted =
      let all : count_by (is_entry_of v.arch.core) log ≡ count_by (is_entry_of v.arch.core) seen + count_by (is_entry_of v.arch.core) more =
      ap (count_by (is_entry_of v.arch.core)) (sym (take-append-drop v.log_seen log)) ∙ count_append (is_entry_of v.arch.core) seen more in
      let entries : length (filter (is_entry_of v.arch.core) seen) + length (buffer_of v) ≡ length (filter stores v.ops) =
      sym (length-append (filter (is_entry_of v.arch.core) seen) (buffer_of v)) ∙ (ap length now.goes_on.has_seen.entries ∙ length-map (filter stores v.ops) made) in
      let waits : length v.ports.waiting ≡ length (buffer_of v) = ap length now.goes_on.waits ∙ length-map (buffer_of v) waiting_of in
      omega (arith, all, none_of_others, entries, waits, length-filter (is_entry_of v.arch.core) seen, length-filter stores v.ops, count_by-le-length stores v.ops)

  -- it drains a store, or makes an atomic in a step: its operations are at most its steps
  pub entry_left : length v.ops ≤ v.steps → (0 < length v.ports.waiting) ⊎ (v.steps < limit) → count_by (is_entry_of v.arch.core) log < limit
  entry_left few (inl some) = omega (arith, counted, few, some, now.goes_on.has_steps.allowed)
  entry_left few (inr left) = omega (arith, counted, few, left)
