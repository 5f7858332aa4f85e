-- What holds of the state registers and the parts of a core, between steps and in them.
use Rattle.std.specs.Prelude.{ℕ, ◌≡◌, ◌*◌, ◌%◌, ◌^◌, ◌<◌, ◌≤◌, ◌++◌, true, false, IsTrue, List, length, map, filter}
use Rattle.std.specs.List.{AllByRecursion, list_all}
use Rattle.core_parts.specs.declared.parts.Parts.{Parts}
use Rattle.lf_model.specs.Operation.{stores}
use Rattle.lf_model.specs.Promise.Regular.{is_length, is_regular_op}
use Rattle.lf_model.specs.Start.{initial_byte, is_in_ram, touches_text}
use Rattle.lf_model.specs.Step.{IsSound}
use Rattle.lf_model.specs.declared.bus.Pending.{Pending}
use Rattle.lf_model.specs.declared.control.Arch.{Arch}
use Rattle.lf_model.specs.declared.setup.Setup.{Setup}
use Rattle.lf_model.specs.declared.trace.Op.{Op}
use Rattle.parity_cache.specs.Resident.{Holds, IsWellFormed}

-- a store of RAM that changes no text
pub record CanStore (setup : Setup) (p : Pending) : Type 0 where
  pub size : is_length p.len ≡ true
  pub in_ram : IsTrue (is_in_ram setup.config.ram p.addr p.len)
  pub aligned : p.addr % p.len ≡ 0
  pub value : p.value < 2 ^ (8 * p.len)
  pub text : touches_text setup.image.text p.addr p.len ≡ false

-- an operation as its store waits, with its number and its step
abbrev pub pending_of : Op → Pending
pending_of o = record { value = o.put; addr = o.addr; k = o.k; step = o.step; len = o.len }

-- the stores that wait are the last of those that the core made
pub record Waits (ops : List Op) (waiting : List Pending) : Type 0 where
  pub sent : List Op
  pub kept : List Op
  pub split : filter stores ops ≡ sent ++ kept
  pub waiting_are : waiting ≡ map pending_of kept

-- sound, pc, npc: the state registers have their ranges, and PC and nPC are multiples of 4; core, made: the core's number and its
-- count of operations are those of its record; depth, few: its store buffer is as deep as the setup says; waits, can_store: the stores
-- that wait are its own, and can reach memory; fetch_formed, data_formed, fetch_lines: its caches are well formed, and the resident
-- bytes of the fetch cache are the image's; ops_fit: a report can show its operations
pub record IsCore (a : Arch) (p : Parts) : Type 0 where
  pub sound : IsSound a
  pub pc : a.ctl.pc % 4 ≡ 0
  pub npc : a.ctl.npc % 4 ≡ 0
  pub core : p.record.core ≡ a.core
  pub made : a.k ≡ length p.record.ops
  pub depth : p.buffer.depth ≡ p.site.config.buffer
  pub few : p.site.config.buffer ≤ 8
  pub waits : Waits p.record.ops p.buffer.waiting
  pub can_store : AllByRecursion (CanStore p.site) p.buffer.waiting
  pub fetch_formed : IsWellFormed p.arrays.fetch_cache
  pub data_formed : IsWellFormed p.arrays.data_cache
  pub fetch_lines : Holds (initial_byte p.site.image) p.arrays.fetch_cache
  pub ops_fit : list_all is_regular_op p.record.ops ≡ true
