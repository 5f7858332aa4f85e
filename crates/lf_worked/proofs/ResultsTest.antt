-- Whether the results of a trace are those of its execution, by a test that computes.
use Rattle.std.proofs.Common.{ℕ, ◌≡◌, ◌+◌, ◌&&◌, nat_le, nat_lt, Bool, true, false, List, length, slice_get, Option, Some, None, IfSome}
use Rattle.std.specs.Prelude.{◌==◌, count_by, IsSomeAnd}
use Rattle.std.specs.Option.{option_map_or}
use Rattle.std.proofs.lemmas.Bool.{eqb-true, lt-ltb, and_parts, leb-true, false≢true}
use Rattle.lf_model.specs.Start.{number_at}
use Rattle.lf_model.specs.State.{State, register, psr_of}
use Rattle.lf_model.specs.Run.{Run, run}
use Rattle.lf_model.specs.ProgramOrder.{answers_of}
use Rattle.lf_model.specs.Operation.{is_lost}
use Rattle.lf_model.specs.Records.CoreRules.{EndedCore, ShowsState, ShowsResult, ResultAt, core_in_trace}
use Rattle.lf_model.specs.Results.{halt_of, idle_steps, is_in_steps, IsEnd, LosesStores, ShowsRegisters, final_byte, ShowsWord, ResultAtFinal}
use Rattle.lf_model.specs.declared.setup.Setup.{Setup}
use Rattle.lf_model.specs.declared.trace.CoreEnd.{CoreEnd}
use Rattle.lf_model.specs.declared.trace.CoreEnd.TheVariants.{Halt, Stop, Limit}
use Rattle.lf_model.specs.declared.trace.CoreResult.{CoreResult}
use Rattle.lf_model.specs.declared.trace.Trace.{Trace}
use Rattle.lf_model.specs.declared.trace.Word2.{Word2}
use Rattle.lf_worked.proofs.Numerals.{passes_below, passes_at}
use Rattle.lf_worked.proofs.Tests.{implies, implied, holds_if_some, same_numbers, is_same_numbers, same_option, is_same_option}

-- ---- registers

abbrev is_value : ℕ → ℕ → Bool
is_value expected value = value == expected

abbrev is_reported : ℕ → Option ℕ → Bool
is_reported expected reported = option_map_or (is_value expected) reported true

abbrev shows_register : State → List (Option ℕ) → ℕ → Bool
shows_register s regs n = option_map_or (is_reported (register s n)) (slice_get regs n) true

shows_registers : (s : State) (regs : List (Option ℕ)) → passes_below (shows_register s regs) 32 ≡ true → ShowsRegisters s regs
shows_registers s regs passes n within = holds_if_some (is_reported (register s n)) (λ reported. IfSome reported (λ value. value ≡ register s n))
    (holds_if_some (is_value (register s n)) (λ value. value ≡ register s n) (λ value. eqb-true value (register s n)))
    (slice_get regs n) (passes_at (shows_register s regs) 32 passes n within)

-- ---- ends

abbrev is_end : Setup → ℕ → CoreEnd → Bool
is_end setup steps (Halt tt_) = true
is_end setup steps (Stop tt_ place syn) = true
is_end setup steps Limit = steps == setup.config.steps

is_end-sound : (setup : Setup) (steps : ℕ) (end : CoreEnd) → is_end setup steps end ≡ true → IsEnd setup steps end
is_end-sound setup steps (Halt tt_) passes = tt
is_end-sound setup steps (Stop tt_ place syn) passes = tt
is_end-sound setup steps Limit passes = eqb-true steps setup.config.steps passes

abbrev loses_stores : CoreEnd → Bool
loses_stores (Halt tt_) = false
loses_stores (Stop tt_ place syn) = tt_ == 0x2B
loses_stores Limit = false

loses_stores-sound : (end : CoreEnd) → loses_stores end ≡ true → LosesStores end
loses_stores-sound (Halt tt_) passes = false≢true passes
loses_stores-sound (Stop tt_ place syn) passes = eqb-true tt_ 0x2B passes
loses_stores-sound Limit passes = false≢true passes

-- ---- a core's result

abbrev shows_state : Setup → EndedCore → State → Bool
shows_state setup c s = same_numbers c.result.out s.out
    && ((c.result.psr == psr_of s.ctl)
    && ((c.result.wim == s.wim)
    && ((c.result.tbr == s.ctl.tbr)
    && ((c.result.y == s.y)
    && ((c.result.pc == s.ctl.pc)
    && ((c.result.npc == s.ctl.npc)
    && (passes_below (shows_register s c.result.regs) 32
    && (same_option s.halt (halt_of c.result.end)
    && (is_end setup c.result.steps c.result.end
    && (nat_le c.result.steps setup.config.steps
    && (nat_le c.result.steps (c.result.n + count_by (is_in_steps c.core c.result.steps) c.transfers + idle_steps c.result.end)
    && implies (nat_lt 0 (count_by is_lost c.ops)) (loses_stores c.result.end))))))))))))

shows_state-sound : (setup : Setup) (c : EndedCore) (s : State) → shows_state setup c s ≡ true → ShowsState setup c s
shows_state-sound setup c s passes =
    let out = and_parts (same_numbers c.result.out s.out) _ passes in
    let psr = and_parts (c.result.psr == psr_of s.ctl) _ out.1 in
    let wim = and_parts (c.result.wim == s.wim) _ psr.1 in
    let tbr = and_parts (c.result.tbr == s.ctl.tbr) _ wim.1 in
    let y = and_parts (c.result.y == s.y) _ tbr.1 in
    let pc = and_parts (c.result.pc == s.ctl.pc) _ y.1 in
    let npc = and_parts (c.result.npc == s.ctl.npc) _ pc.1 in
    let registers = and_parts (passes_below (shows_register s c.result.regs) 32) _ npc.1 in
    let halt = and_parts (same_option s.halt (halt_of c.result.end)) _ registers.1 in
    let ends = and_parts (is_end setup c.result.steps c.result.end) _ halt.1 in
    let within = and_parts (nat_le c.result.steps setup.config.steps) _ ends.1 in
    let bound = and_parts (nat_le c.result.steps (c.result.n + count_by (is_in_steps c.core c.result.steps) c.transfers + idle_steps c.result.end)) _ within.1 in
    record {
      out = is_same_numbers c.result.out s.out out.0;
      psr = eqb-true _ _ psr.0;
      wim = eqb-true _ _ wim.0;
      tbr = eqb-true _ _ tbr.0;
      y = eqb-true _ _ y.0;
      pc = eqb-true _ _ pc.0;
      npc = eqb-true _ _ npc.0;
      registers = shows_registers s c.result.regs registers.0;
      halt = is_same_option s.halt (halt_of c.result.end) halt.0;
      ends = is_end-sound setup c.result.steps c.result.end ends.0;
      within = leb-true _ _ within.0;
      bound = leb-true _ _ bound.0;
      lost = λ some. loses_stores-sound c.result.end
          (implied (nat_lt 0 (count_by is_lost c.ops)) (loses_stores c.result.end) bound.1 (lt-ltb _ _ some));
    }

abbrev shows_run : Setup → EndedCore → Run → Bool
shows_run setup c q = shows_state setup c q.state

abbrev pub shows_result : Setup → EndedCore → Bool
shows_result setup c = option_map_or (shows_run setup c) (run setup c.core (answers_of c.ops) c.result.n) false

shows_if_run : (setup : Setup) (c : EndedCore) (q : Option Run) → option_map_or (shows_run setup c) q false ≡ true
    → IsSomeAnd q (λ q. ShowsState setup c q.state)
shows_if_run setup c None passes = absurd (false≢true passes)
shows_if_run setup c (Some q) passes = shows_state-sound setup c q.state passes

pub shows_result-sound : (setup : Setup) (c : EndedCore) → shows_result setup c ≡ true → ShowsResult setup c
shows_result-sound setup c passes = shows_if_run setup c (run setup c.core (answers_of c.ops) c.result.n) passes

abbrev pub result_at : Setup → Trace → ℕ → Bool
result_at setup trace c = option_map_or (λ r. shows_result setup (core_in_trace trace c r)) (slice_get trace.cores c) true

pub result_at-sound : (setup : Setup) (trace : Trace) (c : ℕ) → result_at setup trace c ≡ true → ResultAt setup trace c
result_at-sound setup trace c passes = holds_if_some (λ r. shows_result setup (core_in_trace trace c r))
    (λ r. ShowsResult setup (core_in_trace trace c r)) (λ r. shows_result-sound setup (core_in_trace trace c r)) (slice_get trace.cores c) passes

-- ---- watched words

abbrev shows_word : Setup → Trace → Word2 → Bool
shows_word setup trace word = option_map_or (is_value (number_at (final_byte setup trace) word.addr 4)) word.value true

shows_word-sound : (setup : Setup) (trace : Trace) (word : Word2) → shows_word setup trace word ≡ true → ShowsWord setup trace word
shows_word-sound setup trace word passes = holds_if_some (is_value (number_at (final_byte setup trace) word.addr 4))
    (λ value. value ≡ number_at (final_byte setup trace) word.addr 4) (λ value. eqb-true value _) word.value passes

abbrev pub word_at_end : Setup → Trace → ℕ → Bool
word_at_end setup trace i = option_map_or (shows_word setup trace) (slice_get trace.watch i) true

pub word_at_end-sound : (setup : Setup) (trace : Trace) (i : ℕ) → word_at_end setup trace i ≡ true → ResultAtFinal setup trace i
word_at_end-sound setup trace i passes =
    holds_if_some (shows_word setup trace) (ShowsWord setup trace) (shows_word-sound setup trace) (slice_get trace.watch i) passes
