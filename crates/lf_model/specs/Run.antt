-- The run of one core: n instructions from reset, each the image's word at PC, with the numbers that its
-- loads and atomics read given as answers. Text is write-protected, so the word at PC is the image's. There is no
-- cache, no store buffer and no bus in it.
use Rattle.std.specs.Prelude.{ℕ, zero, suc, ◌∷◌, ◌++◌, [], List, length, Option, Some, None, option_and_then, is_some, if◌then◌else◌, slice_index, count_by}
use Rattle.lf_model.specs.Start.{is_text_word, word_at}
use Rattle.lf_model.specs.State.{State, reset}
use Rattle.lf_model.specs.Operation.{kind_reads, entry_reads}
use Rattle.lf_model.specs.Effect.{Site, Access, operation_kind, Effect}
use Rattle.lf_model.specs.Traps.{fetch_trap}
use Rattle.lf_model.specs.Effects.{effect}
use Rattle.lf_model.specs.Instructions.{instruction_of}
use Rattle.lf_model.specs.declared.bus.Entry.{Entry}
use Rattle.lf_model.specs.declared.setup.Setup.{Setup}

-- the state after some instructions, and the memory operations that they made, in program order
pub record Run : Type 0 where
  pub state : State
  pub ops : List Entry

-- operation number k of a core, with the number that it read
abbrev pub operation : ℕ → ℕ → ℕ → Access → Entry
operation core k got a = record { got = got; put = a.put; core = core; k = k; addr = a.addr; kind = operation_kind a.kind; len = a.len }

-- the operations with the one asked for, if there is one
abbrev pub with_access : ℕ → ℕ → Option Access → List Entry → List Entry
with_access core got None ops = ops
with_access core got (Some a) ops = ops ++ operation core (length ops) got a ∷ []

-- the run with an instruction done whose operation reads this number
abbrev pub performed : ℕ → ℕ → Effect → Run → Run
performed core got e r = record { state = e.next got; ops = with_access core got e.access r.ops }

-- how many numbers were read so far
abbrev pub reads_of : List Entry → ℕ
reads_of ops = count_by entry_reads ops

-- the number that the operation reads: the next answer, and 0 where it reads none
abbrev pub answer_to : List ℕ → List Entry → Option Access → ℕ
answer_to answers ops None = 0
answer_to answers ops (Some a) = if kind_reads (operation_kind a.kind) then slice_index answers (reads_of ops) else 0

abbrev pub site_of : Setup → ℕ → Site
site_of setup core = record { core = core; image = setup.image; ram = setup.config.ram }

-- the effect of the instruction at PC; a PC that is no text word traps
unfoldable pub effect_at_pc : Setup → ℕ → State → Effect
effect_at_pc setup core s = if is_text_word setup.image.text s.ctl.pc
    then effect (site_of setup core) s (instruction_of (word_at setup.image s.ctl.pc))
    else fetch_trap s

abbrev pub answered : ℕ → List ℕ → Run → Effect → Run
answered core answers r e = performed core (answer_to answers r.ops e.access) e r

-- one more instruction, None where the core has halted
abbrev pub onward : Setup → ℕ → List ℕ → Run → Option Run
onward setup core answers r = if is_some r.state.halt then None
    else Some (answered core answers r (effect_at_pc setup core r.state))

-- n instructions from reset, None where the core halts before
unfoldable pub run : Setup → ℕ → List ℕ → ℕ → Option Run
run setup core answers zero = Some (record { state = reset setup.image.entry core; ops = [] })
run setup core answers (suc n) = option_and_then (onward setup core answers) (run setup core answers n)
