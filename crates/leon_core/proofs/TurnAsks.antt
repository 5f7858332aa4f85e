-- A core that may make a turn on the bus, and joins it, can make the turn: what the turn asks of the core and of the bus.
use Rattle.std.proofs.Common.{◌≡◌, ◌∙◌, ◌+◌, ◌<◌, ◌≤◌, ℕ, nat_le, true, false, [], length, drop, count_by, refl, sym, ap, subst, arith, inl, inr}
use Rattle.std.proofs.lemmas.Bool.{and_parts, le-leb, leb-true, lt-leb}
use Rattle.std.proofs.lemmas.List.{length-map}
use Rattle.std.specs.List.{AllByRecursion}
use Rattle.std.specs.Prelude.{IsTrue}
use Rattle.ahb_bus.proofs.ShareLemmas.{core_left, room_left}
use Rattle.ahb_bus.specs.Asks.{IsCoreTurn}
use Rattle.ahb_bus.specs.BusOk.{BusOk}
use Rattle.ahb_bus.specs.BusState.{BusState, asked_by, most_transfers}
use Rattle.core_course.proofs.MayTurns.{IsDraining, is_draining}
use Rattle.core_course.specs.Calls.{Joins, MayTurn, MayTurnBy}
use Rattle.core_parts.specs.CanRun.{CanRun}
use Rattle.core_parts.specs.CoreValue.{CoreValue}
use Rattle.core_parts.specs.IsCore.{CanStore}
use Rattle.core_parts.specs.Phases.{state_by}
use Rattle.core_parts.specs.Work.{waiting_in}
use Rattle.core_parts.specs.declared.phase.Phase.{Phase}
use Rattle.core_parts.specs.declared.phase.Phase.TheVariants.{Between, Begun, Needs, Ended}
use Rattle.core_turns.proofs.RunsOn.{looked_later}
use Rattle.core_turns.specs.CanTurn.{CanTurn, HasEntryFor, next_atomic_in, who_in, steps_ended, looked_before}
use Rattle.leon_core.specs.CoreInside.{core_seen, in_step, looked_in, NamesBy, AskedBy, IsKept}
use Rattle.leon_core.specs.EndsTurn.{turn_begun}
use Rattle.leon_core.specs.declared.one_core.Core.TheInside.{Inside}
use Rattle.lf_model.specs.Caches.Slot.{line_of}
use Rattle.lf_model.specs.Ledger.Steps.{own_transfers}
use Rattle.lf_model.specs.Records.SeenOrder.{is_entry_of}
use Rattle.lf_model.specs.Start.{ram_first, is_in_ram}
use Rattle.lf_model.specs.declared.bus.Transfer.{Transfer}
use Rattle.lf_model.specs.declared.bus.TurnKind.TheVariants as kinds
use Rattle.lf_model.specs.declared.bus.Why.TheVariants as whys
use Rattle.lf_model.specs.declared.setup.Setup.{Setup}
use Rattle.lf_model.specs.declared.step.Turn.{Turn}
use Rattle.lf_model.specs.declared.step.Turn.TheVariants.{Fetch, Load, Atomic, Drain, Snoop}
use Rattle.order_log.specs.LogState.{IsLogEntry}
use Rattle.turn_course.proofs.Shares.{transfer_left, entry_left}
use Rattle.turn_course.proofs.TakenOfParts.{drain_in_ram, takes_turn}
use Rattle.turn_course.specs.BusStep.{IsInRam, TakesTurn}

-- ---- of the core

module _ (old : Inside) (is : IsKept old) (turn : Turn) (may : MayTurn (core_seen old) turn) where
  abbrev v : CoreValue
  v = core_seen old

  abbrev steps : ℕ
  steps = old.parts.«record».steps

  abbrev limit : ℕ
  limit = old.parts.site.config.steps

  draining : old.phase ≡ Between → MayTurnBy v turn Between → IsDraining v
  draining between may = is_draining v (ap (state_by v) (sym between) ∙ may.1)

  -- the step that is begun ends, and none does after the last
  ended_in : steps + 1 ≤ limit → steps_ended old.parts ≡ steps + 1
  ended_in within = let left : nat_le limit steps ≡ false = lt-leb limit steps (omega (arith, within)) in rw left refl

  ended_past : limit ≤ steps → steps_ended old.parts ≡ steps + 0
  ended_past past = let over : nat_le limit steps ≡ true = le-leb limit steps past in let same : steps ≡ steps + 0 = omega arith in rw over same

  ended_by : (phase : Phase) → MayTurnBy v turn phase → old.phase ≡ phase → steps + in_step phase ≤ limit → steps_ended old.parts ≡ steps + in_step phase
  ended_by (Needs asked) may same within = ended_in within
  ended_by Begun may same within = ended_in within
  ended_by Between may same within = ended_past (draining same may).all_made
  ended_by (Ended end) may same within = absurd may

  pub steps_then : steps_ended old.parts ≡ steps + in_step old.phase
  steps_then = ended_by old.phase may refl is.within

  -- the parts are ready for the steps after the turn
  runs_by : (phase : Phase) → MayTurnBy v turn phase → CanRun (steps + in_step phase) (looked_in phase) old.parts
      → CanRun (steps + in_step phase) (looked_before turn) old.parts
  runs_by (Needs asked) may runs = subst (λ (t : Turn). CanRun (steps + 1) (looked_before t) old.parts) (sym may) (asked_runs asked runs)
    where
      asked_runs : (asked : Turn) → CanRun (steps + 1) (looked_in (Needs asked)) old.parts → CanRun (steps + 1) (looked_before asked) old.parts
      asked_runs (Fetch line why) runs = runs
      asked_runs (Load addr len why) runs = runs
      asked_runs (Atomic addr len new rd) runs = runs
      asked_runs (Drain why) runs = runs
      asked_runs Snoop runs = runs
  runs_by Begun may runs = subst (λ (t : Turn). CanRun (steps + 1) (looked_before t) old.parts) (sym may.0) (looked_later (steps + 1) old.parts runs)
  runs_by Between may runs = subst (λ (t : Turn). CanRun (steps + 0) (looked_before t) old.parts) (sym may.0) (looked_later (steps + 0) old.parts runs)
  runs_by (Ended end) may runs = absurd may

  pub runs_turn : CanRun (steps_ended old.parts) (looked_before turn) old.parts
  runs_turn = subst (λ (n : ℕ). CanRun n (looked_before turn) old.parts) (sym steps_then) (runs_by old.phase may is.runs)

  -- a store waits where it drains one
  some_waits : 0 < length v.ports.waiting → 0 < length old.parts.buffer.waiting
  some_waits some = let same = length-map old.parts.buffer.waiting waiting_in in omega (arith, some, same)

  can_by : (phase : Phase) → MayTurnBy v turn phase → old.phase ≡ phase → AskedBy old.arch old.parts phase → CanTurn turn old.arch old.parts
  can_by (Needs asked) may same can = subst (λ (t : Turn). CanTurn t old.arch old.parts) (sym may) can
  can_by Begun may same can = subst (λ (t : Turn). CanTurn t old.arch old.parts) (sym may.0) (record { cause = refl; some = some_waits may.1 })
  can_by Between may same can = subst (λ (t : Turn). CanTurn t old.arch old.parts) (sym may.0) (record { cause = refl; some = some_waits (draining same may).some })
  can_by (Ended end) may same can = absurd may

  pub can_make : CanTurn turn old.arch old.parts
  can_make = can_by old.phase may refl is.asked

  -- no word is named before the core stops
  none_by : (phase : Phase) → MayTurnBy v turn phase → NamesBy old.room.named.items phase → old.room.named.items ≡ []
  none_by (Needs asked) may none = none
  none_by Begun may none = none
  none_by Between may none = none
  none_by (Ended end) may names = absurd may

  pub named_none : old.room.named.items ≡ []
  named_none = none_by old.phase may is.names

-- ---- of the bus

-- the bus that a core meets in its turn, which is begun
pub record Meets (old : Inside) (turn : Turn) (bus : BusState) : Type 0 where
  pub may : MayTurn (core_seen old) turn
  pub setup : old.parts.site ≡ bus.setup
  pub joins : Joins (core_seen old) bus.log bus.transfers
  pub ok : BusOk bus

-- before: the bus before the turn
pub meets : (old : Inside) (v : CoreValue) (turn : Turn) (before bus : BusState) → core_seen old ≡ v → bus ≡ turn_begun before
    → MayTurn v turn → v.setup ≡ before.setup → Joins v before.log before.transfers → BusOk bus → Meets old turn bus
meets old v turn before bus view begun may setup joins ok = record {
  may = subst (λ (w : CoreValue). MayTurn w turn) (sym view) may;
  setup = ap (λ (w : CoreValue). w.setup) view ∙ (setup ∙ sym (ap (λ (b : BusState). b.setup) begun));
  joins = subst (λ (b : BusState). Joins (core_seen old) b.log b.transfers) (sym begun) (subst (λ (w : CoreValue). Joins w before.log before.transfers) (sym view) joins);
  ok = ok;
}

-- the last address of a line in RAM
line_low : (ram line : ℕ) → ram_first + ram ≤ 4294967296 → IsTrue (is_in_ram ram line 32) → line + 32 ≤ 4294967296
line_low ram line ends is =
    let at = and_parts (nat_le ram_first line) (nat_le (line + 32) (ram_first + ram)) is in
    let high = leb-true (line + 32) (ram_first + ram) at.1 in
    omega (arith, high, ends)

line_word : (line : ℕ) → line + 32 ≤ 4294967296 → line < 4294967296
line_word line low = omega (arith, low)

in_line_word : (addr : ℕ) → line_of addr + 32 ≤ 4294967296 → addr < 4294967296
in_line_word addr low = omega (arith, low)

module _ (old : Inside) (is : IsKept old) (turn : Turn) (bus : BusState) (m : Meets old turn bus) where
  -- any transfer of the core
  abbrev t : Transfer
  t = asked_by bus (who_in old.arch old.parts) kinds.Snoop whys.Window 0 0 0

  -- it has a transfer left, and an entry where it makes a store or an atomic
  share : length (own_transfers old.arch.core bus.transfers) < bus.setup.config.steps + 8
  share = subst (λ (s : Setup). length (own_transfers old.arch.core bus.transfers) < s.config.steps + 8) m.setup
      (transfer_left (core_seen old) bus.log bus.transfers t m.joins turn m.may)

  number : old.arch.core < bus.setup.config.cores
  number = subst (λ (s : Setup). old.arch.core < s.config.cores) m.setup is.number

  pub core_turn : IsCoreTurn (who_in old.arch old.parts) bus
  core_turn = record { master = number; share = share }

  few : length old.parts.«record».ops ≤ old.parts.«record».steps
  few = let made = is.core.made in let made_few = is.made_few in omega (arith, made, made_few)

  some_seen : 0 < length old.parts.buffer.waiting → 0 < length (core_seen old).ports.waiting
  some_seen some = let same = length-map old.parts.buffer.waiting waiting_in in omega (arith, some, same)

  entries_left : count_by (is_entry_of old.arch.core) bus.log < old.parts.site.config.steps
      → count_by (is_entry_of old.arch.core) bus.log < bus.setup.config.steps
  entries_left less = subst (λ (s : Setup). count_by (is_entry_of old.arch.core) bus.log < s.config.steps) m.setup less

  entry_by : (turn : Turn) → MayTurn (core_seen old) turn → CanTurn turn old.arch old.parts → HasEntryFor turn (who_in old.arch old.parts) bus
  entry_by (Fetch line why) may can = tt
  entry_by (Load addr len why) may can = tt
  entry_by (Atomic addr len new rd) may can =
      entries_left (entry_left (core_seen old) bus.log bus.transfers t m.joins (Atomic addr len new rd) may few (inr can.left))
  entry_by (Drain why) may can =
      entries_left (entry_left (core_seen old) bus.log bus.transfers t m.joins (Drain why) may few (inl (some_seen can.some)))
  entry_by Snoop may can = tt

  pub entry_for : HasEntryFor turn (who_in old.arch old.parts) bus
  entry_for = entry_by turn m.may (can_make old is turn m.may)

  -- the transfer, and those before it, can be counted
  pub counts : (turns : ℕ) → turns ≡ length bus.transfers → turns + 1 < 4294967296
  counts turns made =
      let config = bus.setup.config in
      let room = room_left config bus.transfers bus.log m.ok.cores m.ok.shares t (core_left config bus.transfers t m.ok.cores number number share) in
      let most : most_transfers bus.setup.config < 4294967296 =
      subst (λ (s : Setup). most_transfers s.config < 4294967296) m.setup is.setup.transfers in
      below turns (length bus.transfers) (most_transfers config) made room most
    where
      below : (turns made most : ℕ) → turns ≡ made → made < most → most < 4294967296 → turns + 1 < 4294967296
      below turns made most is less few = omega (arith, is, less, few)

  -- ---- where it aims

  ram_ends : ram_first + bus.setup.config.ram ≤ 4294967296
  ram_ends = subst (λ (s : Setup). ram_first + s.config.ram ≤ 4294967296) m.setup is.setup.ram_end

  in_ram_here : (line : ℕ) → IsTrue (is_in_ram old.parts.site.config.ram line 32) → IsTrue (is_in_ram bus.setup.config.ram line 32)
  in_ram_here line lies = subst (λ (s : Setup). IsTrue (is_in_ram s.config.ram line 32)) m.setup lies

  in_ram_by : (turn : Turn) → CanTurn turn old.arch old.parts → IsInRam (core_seen old) bus turn old.parts.buffer.waiting
  in_ram_by (Fetch line why) can =
      let lies : IsTrue (is_in_ram bus.setup.config.ram line 32) =
      subst (λ (n : ℕ). IsTrue (is_in_ram bus.setup.config.ram n 32)) (sym can.at_pc) (in_ram_here (line_of old.arch.ctl.pc) can.fill.in_ram) in
      (line_word line (line_low bus.setup.config.ram line ram_ends lies), lies)
  in_ram_by (Load addr len why) can =
      let lies = in_ram_here (line_of addr) can.fill.in_ram in
      (in_line_word addr (line_low bus.setup.config.ram (line_of addr) ram_ends lies), lies)
  in_ram_by (Atomic addr len new rd) can =
      (can.exchange.size, subst (λ (s : Setup). CanStore s (next_atomic_in addr len new old.arch old.parts)) m.setup can.exchange.store)
  in_ram_by (Drain why) can = drain_in_ram old.arch old.parts is.core old.quiet old.room.named.items old.phase bus m.setup why can.some
  in_ram_by Snoop can = tt

  pub aims : IsInRam (core_seen old) bus turn old.parts.buffer.waiting
  aims = in_ram_by turn (can_make old is turn m.may)

  pub takes : AllByRecursion IsLogEntry (drop old.parts.«record».seen bus.log) → TakesTurn (core_seen old) bus turn old.parts.buffer.waiting
  takes entries = takes_turn old.arch old.parts is.core old.quiet old.room.named.items old.phase bus m.setup turn m.joins m.may m.ok entries aims
