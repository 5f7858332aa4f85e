-- Tests whether two names are the same: kinds and causes of transfers, and fates, each by its place in the list of its names.
use Rattle.std.specs.Prelude.{ℕ, ◌==◌, Bool}
use Rattle.lf_model.specs.declared.bus.TurnKind.{TurnKind}
use Rattle.lf_model.specs.declared.bus.TurnKind.TheVariants as kinds
use Rattle.lf_model.specs.declared.bus.Why.{Why}
use Rattle.lf_model.specs.declared.bus.Why.TheVariants as whys
use Rattle.lf_model.specs.declared.trace.Fate.{Fate}
use Rattle.lf_model.specs.declared.trace.Fate.TheVariants as fates

abbrev pub kind_place : TurnKind → ℕ
kind_place kinds.Fetch = 0
kind_place kinds.Load = 1
kind_place kinds.Store = 2
kind_place kinds.Atomic = 3
kind_place kinds.Snoop = 4
kind_place kinds.Look = 5
kind_place kinds.Fix = 6

abbrev pub why_place : Why → ℕ
why_place whys.None = 0
why_place whys.Absent = 1
why_place whys.Word = 2
why_place whys.Tag = 3
why_place whys.Byte = 4
why_place whys.Full = 5
why_place whys.Miss = 6
why_place whys.Stbar = 7
why_place whys.Atomic = 8
why_place whys.Flush = 9
why_place whys.Window = 10
why_place whys.End = 11
why_place whys.Sched = 12

abbrev pub fate_place : Fate → ℕ
fate_place fates.Late = 0
fate_place fates.Declined = 1
fate_place fates.Repaired = 2
fate_place fates.Discarded = 3
fate_place fates.Stopped = 4
fate_place fates.Overwritten = 5
fate_place fates.Dormant = 6

abbrev pub same_kind : TurnKind → TurnKind → Bool
same_kind a b = kind_place a == kind_place b

abbrev pub same_why : Why → Why → Bool
same_why a b = why_place a == why_place b

abbrev pub same_fate : Fate → Fate → Bool
same_fate a b = fate_place a == fate_place b
