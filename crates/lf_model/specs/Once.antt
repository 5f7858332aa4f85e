-- The rule Once: each operation of a core stands in the order once, and each part of the trace is of the setup.
use Rattle.std.specs.Prelude.{ℕ, ◌≡◌, ◌<◌, ◌==◌, ◌&&◌, Bool, List, length, map, count_by, slice_get, IfSome}
use Rattle.lf_model.specs.Operation.{of_core}
use Rattle.lf_model.specs.declared.bus.Transfer.{Transfer}
use Rattle.lf_model.specs.declared.bus.TurnKind.{TurnKind}
use Rattle.lf_model.specs.declared.bus.TurnKind.TheVariants.{Fetch, Load, Store, Atomic, Snoop, Look, Fix}
use Rattle.lf_model.specs.declared.trace.Op.{Op}
use Rattle.lf_model.specs.declared.trace.Word2.{Word2}
use Rattle.lf_model.specs.declared.trace.Trace.{Trace}
use Rattle.lf_model.specs.declared.setup.Setup.{Setup}

-- it is operation number k of core c
abbrev pub is_number : ℕ → ℕ → Op → Bool
is_number c k o = of_core c o && o.k == k

-- the operations of core c are numbered 0, 1, 2 and so on: each number below their count stands once
abbrev pub OnceAtCore : List Op → ℕ → Type 0
OnceAtCore order c = (k : ℕ) → k < count_by (of_core c) order → count_by (is_number c k) order ≡ 1

-- an operation is of a core of the setup
abbrev pub OnceAtOrder : ℕ → List Op → Op → List Op → Type 0
OnceAtOrder cores earlier o later = o.core < cores

-- a look and a fix are of the scrubber, master 8, and each other transfer is of a core
abbrev pub HasMaster : ℕ → ℕ → TurnKind → Type 0
HasMaster cores master Fetch = master < cores
HasMaster cores master Load = master < cores
HasMaster cores master Store = master < cores
HasMaster cores master Atomic = master < cores
HasMaster cores master Snoop = master < cores
HasMaster cores master Look = master ≡ 8
HasMaster cores master Fix = master ≡ 8

abbrev pub OnceAtTransfer : ℕ → List Transfer → ℕ → Type 0
OnceAtTransfer cores transfers i = IfSome (slice_get transfers i) (λ t. HasMaster cores t.master t.kind)

abbrev pub address_of : Word2 → ℕ
address_of word = word.addr

-- the trace has the setup's cores, flips and watched words
pub record OnceAtFinal (setup : Setup) (trace : Trace) : Type 0 where
  pub cores_shown : length trace.cores ≡ setup.config.cores
  pub fates_shown : length trace.fates ≡ length setup.flips
  pub words_shown : map address_of trace.watch ≡ setup.config.watch
