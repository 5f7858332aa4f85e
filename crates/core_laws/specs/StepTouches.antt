-- What the step of a core touches, in order: the flips of the script strike as it begins, the fetch cache is looked up, the
-- registers are read, a load looks the data cache up, and what retires updates, empties and writes. In a step with a turn the data
-- cache snoops before the transfer and is filled after it.
use Rattle.std.specs.Prelude.{ℕ, ◌+◌, ◌*◌, not, ◌&&◌, List, [], ◌∷◌, ◌++◌, map, Option, Some, None, if◌then◌else◌}
use Rattle.lf_model.specs.Caches.Look.{LookUp, look}
use Rattle.lf_model.specs.Caches.Look.LookUp.{Hit, Miss}
use Rattle.lf_model.specs.Course.Arrays.{Arrays, begun, cells_of, read_cells}
use Rattle.lf_model.specs.Course.Core.{Ground}
use Rattle.lf_model.specs.Course.Progress.{Progress}
use Rattle.lf_model.specs.Course.Syndromes.{met_bad, has_address, enters_log}
use Rattle.lf_model.specs.Course.Touches.{read_touches, write_touches, retire_touches}
use Rattle.lf_model.specs.Course.Turn.{is_past_steps, leaves_instruction}
use Rattle.lf_model.specs.Course.Turned.{valid_by}
use Rattle.lf_model.specs.Effect.{AccessKind, Access, Effect}
use Rattle.lf_model.specs.Start.{is_text_word}
use Rattle.lf_model.specs.State.{State}
use Rattle.lf_model.specs.declared.bus.Transfer.{Transfer}
use Rattle.lf_model.specs.declared.bus.TurnKind.{TurnKind}
use Rattle.lf_model.specs.declared.bus.TurnKind.TheVariants.{Fetch, Load, Store, Atomic, Snoop, Look, Fix}
use Rattle.lf_model.specs.declared.bus.Why.{Why}
use Rattle.lf_model.specs.declared.image.Image.{Image}
use Rattle.lf_model.specs.declared.touch.Touch.{Touch}
use Rattle.lf_model.specs.declared.touch.Touch.TheVariants.{StartStep, LookFetch, LookData, SnoopData, FillFetch, FillData}

-- ---- an instruction is tried

abbrev pub access_looks : Access → AccessKind → List Touch
access_looks x AccessKind.Load = LookData x.addr x.len ∷ []
access_looks x AccessKind.Store = []
access_looks x AccessKind.Atomic = []

abbrev pub operation_looks : Option Access → List Touch
operation_looks None = []
operation_looks (Some x) = access_looks x x.kind

-- the look-up of a load that takes no trap
abbrev pub trap_looks : Effect → Option ℕ → List Touch
trap_looks e None = operation_looks e.access
trap_looks e (Some tt_) = []

-- and that read no bad register
abbrev pub register_looks : Effect → Option ℕ → List Touch
register_looks e None = trap_looks e e.trap
register_looks e (Some cell) = []

-- these cells are read, and the load looks its bytes up
abbrev pub cell_touches : Effect → List ℕ → Arrays → List Touch
cell_touches e cells a = read_touches cells a.cells ++ register_looks e (read_cells cells a.cells).bad

-- once the fetch cache has answered
abbrev pub fetched_touches : State → Effect → Arrays → LookUp → List Touch
fetched_touches s e a (Miss why) = []
fetched_touches s e a (Hit slot) = cell_touches e (cells_of s.ctl.cwp e.reads) a

-- the instruction at PC, which has this effect, is tried
abbrev pub attempt_touches : Image → State → Effect → Arrays → List Touch
attempt_touches image s e a = if is_text_word image.text s.ctl.pc
    then LookFetch s.ctl.pc ∷ fetched_touches s e a (look s.ctl.pc 4 a.fetch_cache).answer
    else []

-- ---- a step without a turn whose instruction retires

abbrev pub step_touches : Ground → Effect → Progress → List Touch
step_touches g e k =
    StartStep k.steps ∷ (attempt_touches g.setup.image k.run.state e (begun g.flips k.steps k.arrays) ++ retire_touches e)

-- ---- a step with a turn

-- the step begins, and its instruction is tried unless it leaves that for its window or for the schedule
abbrev pub tried_touches : Ground → Why → Effect → Progress → List Touch
tried_touches g why e k = if leaves_instruction why then [] else attempt_touches g.setup.image k.run.state e (begun g.flips k.steps k.arrays)

-- up to the transfer: the data cache snoops what others stored since the last turn
abbrev pub touches_before : Ground → Why → Effect → Progress → List Touch
touches_before g why e k = (if is_past_steps g k then [] else StartStep k.steps ∷ tried_touches g why e k) ++ map SnoopData k.unseen

-- an atomic that met no bad word snoops its own line and writes its cells
abbrev pub exchange_touches : Effect → Transfer → List Touch
exchange_touches e t = if enters_log t then SnoopData t.addr ∷ write_touches e.writes else []

-- the transfer: a fill, or the end of an atomic
abbrev pub transfer_touches : Image → Effect → Transfer → TurnKind → List Touch
transfer_touches image e t Fetch = FillFetch t.addr (valid_by (λ j. not (met_bad t j) && is_text_word image.text (t.addr + 4 * j))) ∷ []
transfer_touches image e t Load = FillData t.addr (valid_by (λ j. not (met_bad t j))) ∷ []
transfer_touches image e t Store = []
transfer_touches image e t Atomic = exchange_touches e t
transfer_touches image e t Snoop = []
transfer_touches image e t Look = []
transfer_touches image e t Fix = []

-- the whole step with this transfer
abbrev pub turn_touches : Ground → Effect → Transfer → Progress → List Touch
turn_touches g e t k = touches_before g t.why e k ++ (if has_address t then transfer_touches g.setup.image e t t.kind else [])
