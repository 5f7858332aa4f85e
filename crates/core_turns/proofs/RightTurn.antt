-- The transfer that a core makes is the one that its step needs.
use Rattle.std.proofs.Common.{◌≡◌, ◌∙◌, ℕ, true, false, Bool, nat_le, subst, List, [], ◌∷◌, Option, Some, None, length, refl, ap, sym}
use Rattle.std.specs.Prelude.{option_map, slice_get}
use Rattle.ahb_bus.specs.BusState.{BusState, answered}
use Rattle.core_parts.specs.CoreValue.{CoreValue}
use Rattle.core_parts.specs.Needs.{IsLoadOf, IsAtomicOf}
use Rattle.core_parts.specs.PortState.{Waiting, arrays_in}
use Rattle.core_parts.specs.Seat.{NeedsTurn}
use Rattle.lf_model.specs.Bus.Words.{words_read}
use Rattle.lf_model.specs.Caches.Slot.{line_of}
use Rattle.lf_model.specs.Course.Attempt.{attempt}
use Rattle.lf_model.specs.Course.Core.{Ground}
use Rattle.lf_model.specs.Course.Outcome.{drains, step_needs}
use Rattle.lf_model.specs.Course.Outcome.Need.{NoTurn, Turn as Asks}
use Rattle.lf_model.specs.Course.Outcome.Outcome.{NotTried, NoText}
use Rattle.lf_model.specs.Course.Progress.{Progress, store_waits, buffer_full}
use Rattle.lf_model.specs.Course.Syndromes.{has_address}
use Rattle.lf_model.specs.Course.Turn.{line_target, load_target, atomic_target, store_target, target_by, fill_way, arrays_before, is_past_steps, leaves_instruction, turn_attempt, turn_needs}
use Rattle.lf_model.specs.Effect.{Access, Effect}
use Rattle.lf_model.specs.Names.{same_why}
use Rattle.lf_model.specs.Records.OwnTurns.{next_effect, with_word_count, IsRightTurn}
use Rattle.lf_model.specs.Start.{is_text_word}
use Rattle.lf_model.specs.declared.bus.Entry.{Entry}
use Rattle.lf_model.specs.declared.bus.Transfer.{Transfer}
use Rattle.lf_model.specs.declared.bus.TurnKind.TheVariants as kinds
use Rattle.lf_model.specs.declared.bus.Why.{Why}
use Rattle.lf_model.specs.declared.bus.Why.TheVariants as whys
use Rattle.lf_model.specs.declared.step.Turn.{Turn}
use Rattle.lf_model.specs.declared.step.Turn.TheVariants.{Fetch, Load, Atomic, Drain, Snoop}
use Rattle.core_turns.proofs.Arrays.{arrays_ready}
use Rattle.core_turns.specs.AfterTurn.{snooping}
use Rattle.core_turns.specs.AskedTurn.{who_of, asked_drain, transfer_of}
use Rattle.core_turns.specs.BeforeTurn.{seat_at_turn, BeforeTurn}

-- ---- a fetch is needed only where PC is a text word

no_fetch : (waits : Bool) (why w : Why) → drains waits why NoTurn ≡ Asks kinds.Fetch w → ⊥
no_fetch true why w is = absurd cc
no_fetch false why w is = absurd cc

no_fetch_by : (over et waits full : Bool) (w : Why) → step_needs over et waits full NoText ≡ Asks kinds.Fetch w → ⊥
no_fetch_by true et true full w is = absurd cc
no_fetch_by true et false full w is = absurd cc
no_fetch_by false true waits full w is = absurd cc
no_fetch_by false false waits full w is = no_fetch waits whys.End w is

no_fetch_untried : (over et waits full : Bool) (w : Why) → step_needs over et waits full NotTried ≡ Asks kinds.Fetch w → ⊥
no_fetch_untried true et true full w is = absurd cc
no_fetch_untried true et false full w is = absurd cc
no_fetch_untried false et waits full w is = absurd cc

module _ (g : Ground) (k : Progress) (e : Effect) (why w : Why) where
  abbrev Needs : Type 0
  Needs = turn_needs g why (turn_attempt g why e k) k ≡ Asks kinds.Fetch w

  fetches_by : (past sched leaves text : Bool) → is_past_steps g k ≡ past → same_why why whys.Sched ≡ sched → leaves_instruction why ≡ leaves
      → is_text_word g.setup.image.text k.run.state.ctl.pc ≡ text → Needs → text ≡ true
  unfolding attempt
  fetches_by past sched leaves true p s l is needs = refl
  fetches_by true sched leaves false p s l is needs = absurd (no_fetch _ _ w (rw p at needs))
  fetches_by false true leaves false p s l is needs = absurd (no_fetch _ _ w (rw (p, s) at needs))
  fetches_by false false true false p s l is needs = absurd (no_fetch_untried (nat_le g.setup.config.window k.quiet) k.run.state.ctl.et (store_waits k) (buffer_full g k) w (rw (p, l, s) at needs))
  fetches_by false false false false p s l is needs = absurd (no_fetch_by (nat_le g.setup.config.window k.quiet) k.run.state.ctl.et (store_waits k) (buffer_full g k) w (rw (p, l, s, is) at needs))

  fetches_text : Needs → is_text_word g.setup.image.text k.run.state.ctl.pc ≡ true
  fetches_text needs = fetches_by (is_past_steps g k) (same_why why whys.Sched) (leaves_instruction why) (is_text_word g.setup.image.text k.run.state.ctl.pc) refl refl refl refl needs

-- ---- the targets of the turns

load_target_is : (addr len : ℕ) (access : Option Access) → IsLoadOf addr len access → target_by load_target access ≡ Some (line_target addr)
load_target_is addr len None is = absurd is
load_target_is addr len (Some x) is = rw is.0 (ap (λ a. Some (line_target a)) (sym is.1.0))

addr_in : Turn → ℕ
addr_in (Fetch line why) = line
addr_in (Load addr len why) = addr
addr_in (Atomic addr len new rd) = addr
addr_in (Drain why) = 0
addr_in Snoop = 0

len_in : Turn → ℕ
len_in (Fetch line why) = 0
len_in (Load addr len why) = len
len_in (Atomic addr len new rd) = len
len_in (Drain why) = 0
len_in Snoop = 0

atomic_target_is : (number addr len new rd : ℕ) (access : Option Access) → IsAtomicOf (Atomic addr len new rd) access
    → target_by (atomic_target number) access ≡ Some (record { addr = addr; len = len; number = number })
unfolding addr_in len_in
atomic_target_is number addr len new rd None is = absurd is
atomic_target_is number addr len new rd (Some x) is =
    let at : addr ≡ x.addr = ap addr_in is.1 in
    let length_ : len ≡ x.len = ap len_in is.1 in
    rw is.0 (rw (sym at, sym length_) refl)

-- ---- a transfer that has the address, the way and the length asked for

placed_by : (t : Transfer) (addr way len : ℕ) → addr ≡ t.addr → way ≡ t.way → len ≡ t.len → t.words ≡ length (words_read t)
    → record (with_word_count (record t { addr = addr; way = way; words = 0; syn = 0; len = len })) { syn = t.syn } ≡ t
placed_by t addr way len at in_way of_len words = rw (at, in_way, of_len) (ap (λ n. record t { words = n }) (sym words))

-- the store that waits first is the course's next one to drain
abbrev pub waiting_of : Entry → Waiting
waiting_of e = record { addr = e.addr; len = e.len; value = e.put }

store_target_is : (found : Option Entry) (p : Waiting) → option_map waiting_of found ≡ Some p → (n : ℕ) × (option_map store_target found ≡ Some (record { addr = p.addr; len = p.len; number = n }))
store_target_is None p is = absurd cc
store_target_is (Some e) p is = (e.k, rw (sym (ap waiting_in is)) refl)
  where
    waiting_in : Option Waiting → Waiting
    waiting_in None = p
    waiting_in (Some q) = q

-- ---- the turn

module _ (g : Ground) (seat : Progress) (v : CoreValue) (log : List Entry) (bus : BusState) where
  abbrev here : Progress
  here = seat_at_turn log v seat

  abbrev ready : CoreValue
  ready = snooping log v

  abbrev made : Turn → Transfer
  made turn = transfer_of ready bus turn

  -- the step needs the turn; where it is a drain, the store that waits first is the next of the course; another turn has an address
  -- of RAM but a snoop
  pub right_fetch : (line : ℕ) (why : Why) → BeforeTurn g seat v log why → NeedsTurn g seat (Fetch line why) (arrays_in v.ports) → has_address (made (Fetch line why)) ≡ true
      → IsRightTurn g (made (Fetch line why)) here
  right_fetch line why h needs placed = record {
    needed = needs.needed;
    placed = rw (fetches_text g seat (next_effect g seat) why why needs.needed)
        (placed_by (made (Fetch line why)) (line_of seat.run.state.ctl.pc) (fill_way (line_of seat.run.state.ctl.pc) (arrays_before g why (next_effect g seat) here) kinds.Fetch) 0
        (sym needs.aimed)
        (ap (λ a. fill_way (line_of seat.run.state.ctl.pc) a kinds.Fetch) (arrays_ready g seat v log (made (Fetch line why)) h)
        ∙ ap (λ l. fill_way l (arrays_in ready.ports) kinds.Fetch) (sym needs.aimed)) refl (rw placed refl));
  }

  pub right_load : (addr len : ℕ) (why : Why) → BeforeTurn g seat v log why → NeedsTurn g seat (Load addr len why) (arrays_in v.ports)
      → has_address (made (Load addr len why)) ≡ true → IsRightTurn g (made (Load addr len why)) here
  right_load addr len why h needs placed = record {
    needed = needs.needed;
    placed = rw (load_target_is addr len (next_effect g seat).access needs.aimed)
        (placed_by (made (Load addr len why)) (line_of addr) (fill_way (line_of addr) (arrays_before g why (next_effect g seat) here) kinds.Load) 0 refl
        (ap (λ a. fill_way (line_of addr) a kinds.Load) (arrays_ready g seat v log (made (Load addr len why)) h)) refl (rw placed refl));
  }

  pub right_atomic : (addr len new rd : ℕ) → BeforeTurn g seat v log whys.None → NeedsTurn g seat (Atomic addr len new rd) (arrays_in v.ports)
      → has_address (made (Atomic addr len new rd)) ≡ true → IsRightTurn g (made (Atomic addr len new rd)) here
  right_atomic addr len new rd h needs placed = record {
    needed = needs.needed;
    placed = rw (atomic_target_is (length seat.run.ops) addr len new rd (next_effect g seat).access needs.aimed)
        (placed_by (made (Atomic addr len new rd)) addr 0 len refl refl refl (rw placed refl));
  }

  pub right_snoop : BeforeTurn g seat v log whys.Window → NeedsTurn g seat Snoop (arrays_in v.ports) → IsRightTurn g (made Snoop) here
  right_snoop h needs = record { needed = needs.needed; placed = refl }

  -- the drain of this store
  drain_of : Why → Waiting → Transfer
  drain_of why p = answered bus (asked_drain bus (who_of ready) why (p ∷ []))

  right_drain_of : (why : Why) (p : Waiting) → NeedsTurn g seat (Drain why) (arrays_in v.ports) → option_map waiting_of (slice_get g.given.stores seat.drained) ≡ Some p
      → has_address (drain_of why p) ≡ true → IsRightTurn g (drain_of why p) here
  unfolding drain_of
  right_drain_of why p needs next placed = record {
    needed = needs.needed;
    placed = rw ((store_target_is (slice_get g.given.stores seat.drained) p next).1) (placed_by (answered bus (asked_drain bus (who_of ready) why (p ∷ []))) p.addr 0 p.len refl refl refl (rw placed refl));
  }

  pub right_drain : (why : Why) (p : Waiting) (later : List Waiting) → NeedsTurn g seat (Drain why) (arrays_in v.ports) → v.ports.waiting ≡ p ∷ later
      → option_map waiting_of (slice_get g.given.stores seat.drained) ≡ Some p → has_address (made (Drain why)) ≡ true → IsRightTurn g (made (Drain why)) here
  unfolding drain_of
  right_drain why p later needs first next placed =
      let is : made (Drain why) ≡ drain_of why p = ap (λ stores. answered bus (asked_drain bus (who_of ready) why stores)) first in
      subst (λ t. IsRightTurn g t here) (sym is) (right_drain_of why p needs next (ap has_address (sym is) ∙ placed))
