-- The rule Result: what the trace tells of each core and each watched word is that of the execution.
use Rattle.std.specs.Prelude.{ℕ, ◌≡◌, ◌<◌, ◌==◌, ◌&&◌, Bool, ⊤, List, map, filter, slice_get, Option, Some, None, IfSome, nat_lt, if◌then◌else◌}
use Rattle.lf_model.specs.Start.{initial_byte, number_at}
use Rattle.lf_model.specs.State.{State, register}
use Rattle.lf_model.specs.Operation.{enters, made}
use Rattle.lf_model.specs.Value.{stored}
use Rattle.lf_model.specs.declared.bus.Transfer.{Transfer}
use Rattle.lf_model.specs.declared.trace.CoreEnd.{CoreEnd}
use Rattle.lf_model.specs.declared.trace.CoreEnd.TheVariants.{Halt, Stop, Limit}
use Rattle.lf_model.specs.declared.trace.Word2.{Word2}
use Rattle.lf_model.specs.declared.trace.Trace.{Trace}
use Rattle.lf_model.specs.declared.setup.Setup.{Setup}

-- the trap type by which an end enters error mode
abbrev pub halt_of : CoreEnd → Option ℕ
halt_of (Halt tt_) = Some tt_
halt_of (Stop tt_ place syn) = None
halt_of Limit = None

-- the last step of an end that read a bad register retires nothing and makes no transfer
abbrev pub idle_steps : CoreEnd → ℕ
idle_steps (Halt tt_) = 0
idle_steps (Stop tt_ place syn) = if tt_ == 0x20 then 1 else 0
idle_steps Limit = 0

-- the limit comes after all steps
abbrev pub IsEnd : Setup → ℕ → CoreEnd → Type 0
IsEnd setup steps (Halt tt_) = ⊤
IsEnd setup steps (Stop tt_ place syn) = ⊤
IsEnd setup steps Limit = steps ≡ setup.config.steps

-- the end of a core whose part store met a bad word, by which stores are lost
abbrev pub LosesStores : CoreEnd → Type 0
LosesStores (Halt tt_) = ⊥
LosesStores (Stop tt_ place syn) = tt_ ≡ 0x2B
LosesStores Limit = ⊥

-- the transfer is of core c, in one of its steps
abbrev pub is_in_steps : ℕ → ℕ → Transfer → Bool
is_in_steps c steps t = t.master == c && nat_lt t.step steps

-- each printed register that has a value is that of the current window
abbrev pub ShowsRegisters : State → List (Option ℕ) → Type 0
ShowsRegisters s regs = (n : ℕ) → n < 32 → IfSome (slice_get regs n) (λ shown. IfSome shown (λ value. value ≡ register s n))

-- the byte of memory at the end: that of the last store or atomic in the order, lost stores aside
abbrev pub final_byte : Setup → Trace → ℕ → ℕ
final_byte setup trace a = stored a (map made (filter enters trace.order)) (initial_byte setup.image a)

-- Result, of a watched word: if it has a value, it is the word of memory at the end
abbrev pub ShowsWord : Setup → Trace → Word2 → Type 0
ShowsWord setup trace word = IfSome word.value (λ value. value ≡ number_at (final_byte setup trace) word.addr 4)

abbrev pub ResultAtFinal : Setup → Trace → ℕ → Type 0
ResultAtFinal setup trace i = IfSome (slice_get trace.watch i) (ShowsWord setup trace)
