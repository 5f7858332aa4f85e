-- Which transfer a core makes at its turn.
use Rattle.std.specs.Prelude.{◌≡◌, List, [], ◌∷◌, length}
use Rattle.core_parts.specs.CoreValue.{CoreValue}
use Rattle.core_parts.specs.Needs.{kind_of, why_of}
use Rattle.core_parts.specs.PortState.{Waiting}
use Rattle.lf_model.specs.Bus.Words.{words_read}
use Rattle.lf_model.specs.Caches.Slot.{line_of}
use Rattle.lf_model.specs.Course.Core.{Ground}
use Rattle.lf_model.specs.Course.Progress.{Progress}
use Rattle.lf_model.specs.Course.Turn.{arrays_before, fill_way}
use Rattle.lf_model.specs.Records.OwnTurns.{next_effect}
use Rattle.lf_model.specs.declared.bus.Transfer.{Transfer}
use Rattle.lf_model.specs.declared.step.Turn.{Turn}
use Rattle.lf_model.specs.declared.step.Turn.TheVariants.{Fetch, Load, Atomic, Drain, Snoop}

-- it is of the store that has waited longest
abbrev pub IsOfFront : Transfer → List Waiting → Type 0
IsOfFront t [] = ⊥
IsOfFront t (w ∷ ws) = (t.addr ≡ w.addr) × (t.len ≡ w.len)

-- its address and length: of a fill those of the line, of a drain those of the store, and of a snoop none
abbrev pub IsAimed : List Waiting → Transfer → Turn → Type 0
IsAimed waiting t (Fetch line why) = (t.addr ≡ line) × (t.len ≡ 0)
IsAimed waiting t (Load addr len why) = (t.addr ≡ line_of addr) × (t.len ≡ 0)
IsAimed waiting t (Atomic addr len new rd) = (t.addr ≡ addr) × (t.len ≡ len)
IsAimed waiting t (Drain why) = IsOfFront t waiting
IsAimed waiting t Snoop = (t.addr ≡ 0) × (t.len ≡ 0)

-- the transfer of a core at this place of its course, which asks for this turn
pub record Makes (g : Ground) (k : Progress) (v : CoreValue) (turn : Turn) (t : Transfer) : Type 0 where
  pub kind : t.kind ≡ kind_of turn
  pub why : t.why ≡ why_of turn
  pub aimed : IsAimed v.ports.waiting t turn
  pub way : t.way ≡ fill_way t.addr (arrays_before g t.why (next_effect g k) k) t.kind
  pub words : t.words ≡ length (words_read t)
