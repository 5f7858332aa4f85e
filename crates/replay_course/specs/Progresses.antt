-- How far a core has come, as the course has it: its completions, its error traps and its counts.
use Rattle.std.specs.Prelude.{ℕ, ◌≡◌, ◌<◌, List, [], ◌∷◌, Option, Some, None, vec_len, vec_capacity}
use Rattle.lf_model.specs.Course.Progress.{Completion as Completes, ErrorTrap as Traps}
use Rattle.replay_course.specs.declared.course.Notes.{Notes}
use Rattle.replay_course.specs.declared.need.Need.{Need}
use Rattle.replay_course.specs.declared.need.Need.TheVariants.{NoTurn, Turn, RegisterStop}
use Rattle.replay_course.specs.declared.progress.Completion.{Completion}
use Rattle.replay_course.specs.declared.progress.ErrorTrap.{ErrorTrap}
use Rattle.replay_effects.specs.declared.footprint.Access.{Access}
use Rattle.replay_effects.specs.declared.footprint.AccessKind.{AccessKind}
use Rattle.replay_effects.specs.declared.footprint.AccessKind.TheVariants.{Load, Store, Atomic}

abbrev pub completion_of : Completion → Completes
completion_of c = record { step = c.step; way = c.way; seen = c.seen }

abbrev pub error_of : ErrorTrap → Traps
error_of e = record { trap_type = e.trap_type; place = e.place; syndrome = e.syndrome; steps = e.steps; turns = e.turns }

abbrev pub errors_of : Option ErrorTrap → List Traps
errors_of None = []
errors_of (Some e) = error_of e ∷ []

-- what retires with an instruction that has this operation or none: the completion, and how many stores
abbrev pub completions_with : ℕ → Option ℕ → ℕ → Option Access → List Completes
completions_with step way seen None = []
completions_with step way seen (Some x) = record { step = step; way = way; seen = seen } ∷ []

abbrev pub stores_of_kind : AccessKind → ℕ
stores_of_kind Load = 0
stores_of_kind Store = 1
stores_of_kind Atomic = 0

abbrev pub stores_with : Option Access → ℕ
stores_with None = 0
stores_with (Some x) = stores_of_kind x.kind

-- how many turns a step owes that needs this
abbrev pub owed_by : Need → ℕ
owed_by NoTurn = 0
owed_by (Turn kind why) = 1
owed_by (RegisterStop cell) = 0

-- there is room for one more completion and one more error trap
pub record HasRoom (n : Notes) : Type 0 where
  pub completions : vec_len n.completions < vec_capacity n.completions
  pub errors : vec_len n.errors < vec_capacity n.errors

-- the same is noted
pub record KeepsNotes (old new : Notes) : Type 0 where
  pub unseen : new.unseen.items ≡ old.unseen.items
  pub completions : new.completions.items ≡ old.completions.items
  pub errors : new.errors.items ≡ old.errors.items
