-- What there is to account for of each place of the memory order: an operation's step and way, which entry of the log a store or
-- an atomic is, how many entries come before a load, and that loads at one place, and lost stores, are sorted.
use Rattle.std.specs.Prelude.{ℕ, ◌+◌, ◌==◌, ◌&&◌, ◌||◌, nat_lt, nat_le, Bool, true, List, [], ◌∷◌, Option, Some, None, option_map, option_and_then, slice_get, if◌then◌else◌}
use Rattle.std.specs.List.{list_all}
use Rattle.lf_model.specs.Bus.Replay.{LogEntry}
use Rattle.lf_model.specs.Course.Progress.{Completion}
use Rattle.lf_model.specs.Operation.{enters, is_lost}
use Rattle.lf_model.specs.declared.bus.OpKind.{OpKind}
use Rattle.lf_model.specs.declared.bus.OpKind.TheVariants.{Load, Store, Atomic, Lost}
use Rattle.lf_model.specs.declared.trace.Op.{Op}

-- entry: of a store or an atomic, its entry in the log; retired: its step, the way of a load, and the entries before a load;
-- sorted: it comes right among the loads of its place, or among the lost stores
pub record OrderAccount : Type 0 where
  pub entry : Option LogEntry
  pub retired : Option Completion
  pub sorted : Bool

-- what the order reports of a completion: of a load its way and the entries that it saw, and of the others neither
abbrev pub shown : OpKind → Completion → Completion
shown Load c = c
shown Store c = record c { way = None; seen = 0 }
shown Atomic c = record c { way = None; seen = 0 }
shown Lost c = record c { way = None; seen = 0 }

-- ---- the walk along an order

-- after some operations: how many of them are in the log, the loads after the last of these, and the lost stores
pub record Before : Type 0 where
  pub entries : ℕ
  pub loads : List Op
  pub lost : List Op

abbrev pub before_all : Before
before_all = record { entries = 0; loads = []; lost = [] }

abbrev pub after_kind : Op → Before → OpKind → Before
after_kind o b Load = record b { loads = o ∷ b.loads }
after_kind o b Store = record b { entries = b.entries + 1; loads = [] }
after_kind o b Atomic = record b { entries = b.entries + 1; loads = [] }
after_kind o b Lost = record b { lost = o ∷ b.lost }

-- this of each operation, by what comes before it and by the later ones
abbrev pub along : (Before → Op → List Op → OrderAccount) → Before → List Op → List OrderAccount
along account b [] = []
along account b (o ∷ later) = account b o later ∷ along account (after_kind o b o.kind) later

-- ---- by the course

abbrev pub entry_in_log : List LogEntry → Before → Op → Option LogEntry
entry_in_log log b o = if enters o then slice_get log b.entries else None

-- the completion of operation k of a core, by those of each core
abbrev pub completion_of : List (List Completion) → ℕ → ℕ → Option Completion
completion_of cores core k = option_and_then (λ completions. slice_get completions k) (slice_get cores core)

abbrev pub place_by_course : List LogEntry → List (List Completion) → Before → Op → List Op → OrderAccount
place_by_course log cores b o later = record {
  entry = entry_in_log log b o;
  retired = option_map (shown o.kind) (completion_of cores o.core o.k);
  sorted = true;
}

-- ---- as reported

-- a comes before b by core and program order
abbrev pub comes_before : Op → Op → Bool
comes_before b a = nat_lt a.core b.core || (a.core == b.core && nat_le a.k b.k)

abbrev pub sorted_by : Before → Op → List Op → OpKind → Bool
sorted_by b o later Load = list_all (comes_before o) b.loads
sorted_by b o later Store = true
sorted_by b o later Atomic = true
sorted_by b o later Lost = list_all is_lost later && list_all (comes_before o) b.lost

abbrev pub reported_by : Before → Op → OpKind → Completion
reported_by b o Load = record { step = o.step; way = Some o.way; seen = b.entries }
reported_by b o Store = record { step = o.step; way = None; seen = 0 }
reported_by b o Atomic = record { step = o.step; way = None; seen = 0 }
reported_by b o Lost = record { step = o.step; way = None; seen = 0 }

abbrev pub place_as_reported : Before → Op → List Op → OrderAccount
place_as_reported b o later = record {
  entry = if enters o then Some (record { core = o.core; number = o.k }) else None;
  retired = Some (reported_by b o o.kind);
  sorted = sorted_by b o later o.kind;
}
