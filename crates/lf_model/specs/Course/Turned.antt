-- A core's turn on the bus, once memory has answered: fills, an atomic's end, and the error traps that a bad word gives.
use Rattle.std.specs.Prelude.{ℕ, ◌+◌, ◌*◌, ◌/◌, ◌%◌, ◌^◌, ◌&&◌, not, Bool, List, [], ◌∷◌, ◌++◌, length, find, map, sum, slice_index, Option, Some, None, if◌then◌else◌}
use Rattle.std.specs.Int.{from_bool}
use Rattle.std.specs.List.{range_with_len}
use Rattle.lf_model.specs.Caches.Slot.{wanted_words}
use Rattle.lf_model.specs.Caches.Change.{snooped, filled}
use Rattle.lf_model.specs.Course.Arrays.{Arrays, write_cells}
use Rattle.lf_model.specs.Course.Core.{Ground, is_stop_at, data_store_error}
use Rattle.lf_model.specs.Course.Progress.{ErrorTrap, Progress, retired_if}
use Rattle.lf_model.specs.Course.Syndromes.{syndromes_of, met_bad, has_address, enters_log}
use Rattle.lf_model.specs.Course.Turn.{is_past_steps, arrays_before}
use Rattle.lf_model.specs.Effect.{Access, Effect}
use Rattle.lf_model.specs.Names.{same_kind}
use Rattle.lf_model.specs.Run.{effect_at_pc}
use Rattle.lf_model.specs.Start.{is_text_word}
use Rattle.lf_model.specs.Traps.{instruction_access_exception, data_access_exception}
use Rattle.lf_model.specs.declared.bus.Transfer.{Transfer}
use Rattle.lf_model.specs.declared.bus.TurnKind.{TurnKind}
use Rattle.lf_model.specs.declared.bus.TurnKind.TheVariants.{Fetch, Load, Store, Atomic, Snoop, Look, Fix}
use Rattle.lf_model.specs.declared.image.Image.{Image}

-- ---- what the transfer does to the arrays

-- the valid bits of a line of which these words are valid
abbrev pub valid_by : (ℕ → Bool) → ℕ
valid_by is_valid = sum (map (λ j. from_bool (is_valid j) * 2 ^ j) (range_with_len 0 8))

-- a fill of the fetch cache: of a word that memory read clean or fixed, and that is a text word
abbrev pub fetch_filled : Image → Transfer → Arrays → Arrays
fetch_filled image t a = record a { fetch_cache = filled t.addr (valid_by (λ j. not (met_bad t j) && is_text_word image.text (t.addr + 4 * j))) a.fetch_cache }

-- a fill of the data cache
abbrev pub data_filled : Transfer → Arrays → Arrays
data_filled t a = record a { data_cache = filled t.addr (valid_by (λ j. not (met_bad t j))) a.data_cache }

-- an atomic that met no bad word snoops its own line, and its cells are written
abbrev pub exchanged : Effect → Transfer → Arrays → Arrays
exchanged e t a = if enters_log t then write_cells e.writes (record a { data_cache = snooped a.data_cache t.addr }) else a

abbrev pub transferred : Image → Effect → Transfer → Arrays → TurnKind → Arrays
transferred image e t a Fetch = fetch_filled image t a
transferred image e t a Load = data_filled t a
transferred image e t a Store = a
transferred image e t a Atomic = exchanged e t a
transferred image e t a Snoop = a
transferred image e t a Look = a
transferred image e t a Fix = a

-- ---- error traps

-- the words that a load wants
abbrev pub load_wants : Option Access → List ℕ
load_wants None = []
load_wants (Some x) = wanted_words x.addr x.len

-- the words that a turn wants, by their numbers among those that it reads, the lowest first
abbrev pub turn_wants : ℕ → Effect → TurnKind → List ℕ
turn_wants pc e Fetch = pc / 4 % 8 ∷ []
turn_wants pc e Load = load_wants e.access
turn_wants pc e Store = 0 ∷ []
turn_wants pc e Atomic = 0 ∷ []
turn_wants pc e Snoop = []
turn_wants pc e Look = []
turn_wants pc e Fix = []

-- the lowest bad word of those that a turn wants
abbrev pub bad_wanted : ℕ → Effect → Transfer → Option ℕ
bad_wanted pc e t = find (met_bad t) (turn_wants pc e t.kind)

-- the error trap that a bad word gives; those of the last three kinds of turn want none
abbrev pub turn_trap : TurnKind → ℕ
turn_trap Fetch = instruction_access_exception
turn_trap Load = data_access_exception
turn_trap Store = data_store_error
turn_trap Atomic = data_access_exception
turn_trap Snoop = 0
turn_trap Look = 0
turn_trap Fix = 0

abbrev pub turn_errors : Transfer → ℕ → ℕ → Option ℕ → List ErrorTrap
turn_errors t steps turns None = []
turn_errors t steps turns (Some j) =
    record { trap_type = turn_trap t.kind; place = t.turn; syndrome = slice_index (syndromes_of t) j; steps = steps; turns = Some turns } ∷ []

-- ---- the turn

-- an atomic retires its instruction, unless it is the place of the core's stop
abbrev pub retires_by : Ground → Transfer → Bool
retires_by g t = same_kind t.kind Atomic && not (is_stop_at t.turn g.end)

-- a core's turn with this transfer, in the step after those that it made
abbrev pub turned_by : Ground → Effect → Transfer → Progress → Progress
turned_by g e t k =
    let steps = if is_past_steps g k then k.steps else k.steps + 1 in
    let seen = k.seen + length k.unseen + from_bool (enters_log t) in
    let a = arrays_before g t.why e k in
    record (retired_if (retires_by g t) g e None seen k) {
      steps = steps;
      turns = k.turns + 1;
      quiet = 0;
      drained = k.drained + from_bool (same_kind t.kind Store);
      arrays = if has_address t then transferred g.setup.image e t a t.kind else a;
      unseen = [];
      seen = seen;
      errors = k.errors ++ turn_errors t steps (k.turns + 1) (bad_wanted k.run.state.ctl.pc e t);
    }

unfoldable pub own_turn : Ground → Transfer → Progress → Progress
own_turn g t k = turned_by g (effect_at_pc g.setup g.core k.run.state) t k
