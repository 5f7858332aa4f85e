-- How the eight lines of a core are read.
use Rattle.std.specs.Prelude.{ℕ, zero, suc, ◌*◌, ◌+◌, ◌==◌, ◌∷◌, ◌++◌, [], List, Option, Some, None, Bool, true, false, nat_le, if◌then◌else◌, codes}
use Rattle.lf_model.specs.declared.trace.CoreEnd.TheVariants as ends
use Rattle.lf_model.specs.declared.trace.CoreResult.{CoreResult}
use Rattle.lf_model.specs.declared.trace.Four.{Four}
use Rattle.report_fields.specs.Reading.{Read, ◌>>=◌, without, past, then_at, as_at, kept, either, row, word_at}
use Rattle.report_fields.specs.Digits.{any, number_at, own_at, digit_of, hex_at, value_at}
use Rattle.report_fields.specs.Parts.{Part, line_at, then_part, as_part}
use Rattle.report_lines.specs.declared.endings.EndWord.{EndWord}
use Rattle.report_lines.specs.declared.endings.EndWord.TheVariants.{Halt, Stop, Limit}
use Rattle.report_lines.specs.declared.endings.Ending.{Ending}
use Rattle.report_lines.specs.declared.registers.Control.{Control}

-- ---- how the core ended

abbrev pub end_word : EndWord → List ℕ
end_word Halt = codes "halt "
end_word Stop = codes "stop "
end_word Limit = codes "limit "

abbrev pub end_words : List EndWord
end_words = Halt ∷ Stop ∷ Limit ∷ []

-- TT N STEPS
unfoldable pub halt_at : List ℕ → Read Ending
halt_at bytes = as_at (λ z. record { n = z.1.0; steps = z.1.1; end = ends.Halt z.0 })
    (then_at (hex_at 32 2) (λ code. then_at (number_at 32 any) (λ n. number_at 10 any))) bytes

-- TT N STEPS PLACE SYN
unfoldable pub stop_at : List ℕ → Read Ending
stop_at bytes = as_at (λ z. record { n = z.1.0; steps = z.1.1.0; end = ends.Stop z.0 z.1.1.1.0 z.1.1.1.1 })
    (then_at (hex_at 32 2) (λ code. then_at (number_at 32 any) (λ n. then_at (number_at 32 any) (λ steps.
    then_at (number_at 32 any) (λ place. hex_at 10 2))))) bytes

-- N STEPS
unfoldable pub limit_at : List ℕ → Read Ending
limit_at bytes = as_at (λ z. record { n = z.0; steps = z.1; end = ends.Limit })
    (then_at (number_at 32 any) (λ n. number_at 10 any)) bytes

abbrev pub fields_at : EndWord → List ℕ → Read Ending
fields_at Halt = halt_at
fields_at Stop = stop_at
fields_at Limit = limit_at

-- the steps of each core, times the number of cores, are at most 4,000,000
abbrev pub few_steps : ℕ → Ending → Bool
few_steps cores ending = nat_le (cores * ending.steps) 4000000

unfoldable pub ending_at : ℕ → ℕ → List ℕ → Read Ending
ending_at cores k bytes = past (without (codes "core ")) (past (own_at 32 k)
    (kept (few_steps cores) (as_at (λ z. z.1) (then_at (word_at end_word end_words) fields_at)))) bytes

-- ---- the bytes written

-- a byte whose first digit is this one
abbrev pub pair_at : ℕ → List ℕ → Read ℕ
pair_at b [] = None
pair_at b (c ∷ bytes) = digit_of b >>= λ high. digit_of c >>= λ low. Some (16 * high + low, bytes)

-- bytes of two digits each, up to the line feed
abbrev pub pairs_at : List ℕ → Read (List ℕ)
pairs_at [] = None
pairs_at (b ∷ []) = if b == 10 then Some ([], []) else None
pairs_at (b ∷ c ∷ bytes) = if b == 10 then Some ([], c ∷ bytes)
    else (digit_of b >>= λ high. digit_of c >>= λ low. pairs_at bytes >>= λ x. Some ((16 * high + low) ∷ x.0, x.1))

abbrev pub is_some_list : List ℕ → Bool
is_some_list [] = false
is_some_list (b ∷ bytes) = true

-- a dash where there is none
abbrev pub bytes_at : List ℕ → Read (List ℕ)
bytes_at = either (row (codes "-\n") []) (kept is_some_list pairs_at)

-- what follows the first word and the number of the core
unfoldable pub output_head : ℕ → List ℕ → Option (List ℕ)
output_head k bytes = without (codes "out ") bytes >>= own_at 32 k

unfoldable pub output_at : ℕ → List ℕ → Read (List ℕ)
output_at k bytes = past (without (codes "out ")) (past (own_at 32 k) bytes_at) bytes

-- ---- the registers

-- n words and one more, each or dashes
abbrev pub values_at : ℕ → List ℕ → Read (List (Option ℕ))
values_at zero bytes = as_at (λ v. v ∷ []) (value_at 10) bytes
values_at (suc n) bytes = as_at (λ z. z.0 ∷ z.1) (then_at (value_at 32) (λ v. values_at n)) bytes

-- eight of them behind a letter and the number of the core
unfoldable pub words_at : List ℕ → ℕ → List ℕ → Read (List (Option ℕ))
words_at head k bytes = past (without head) (past (own_at 32 k) (values_at 7)) bytes

unfoldable pub registers_at : ℕ → List ℕ → Part (List (Option ℕ))
registers_at k bytes = as_part (λ z. z.0 ++ (z.1.0 ++ (z.1.1.0 ++ z.1.1.1)))
    (then_part (line_at (words_at (codes "g ") k)) (λ g. then_part (line_at (words_at (codes "o ") k)) (λ o.
    then_part (line_at (words_at (codes "l ") k)) (λ l. line_at (words_at (codes "i ") k))))) bytes

-- PSR, WIM, TBR, Y, PC and nPC
unfoldable pub control_at : ℕ → List ℕ → Read Control
control_at k bytes = past (without (codes "ctl ")) (past (own_at 32 k)
    (as_at (λ z. record { psr = z.0; wim = z.1.0; tbr = z.1.1.0; y = z.1.1.1.0; pc = z.1.1.1.1.0; npc = z.1.1.1.1.1 })
    (then_at (hex_at 32 8) (λ psr. then_at (hex_at 32 8) (λ wim. then_at (hex_at 32 8) (λ tbr.
    then_at (hex_at 32 8) (λ y. then_at (hex_at 32 8) (λ pc. hex_at 10 8)))))))) bytes

-- the counters of parity errors, each at most 3
unfoldable pub parity_at : ℕ → List ℕ → Read Four
parity_at k bytes = past (without (codes "parity ")) (past (own_at 32 k)
    (as_at (λ z. record { fetch_tag = z.0; fetch_byte = z.1.0; data_tag = z.1.1.0; data_byte = z.1.1.1 })
    (then_at (number_at 32 3) (λ a. then_at (number_at 32 3) (λ b. then_at (number_at 32 3) (λ c. number_at 10 3)))))) bytes

-- ---- all eight lines

abbrev pub result_of : Ending → List ℕ → List (Option ℕ) → Control → Four → CoreResult
result_of ending out regs control parity = record {
  end = ending.end;
  n = ending.n;
  steps = ending.steps;
  out = out;
  regs = regs;
  psr = control.psr;
  wim = control.wim;
  tbr = control.tbr;
  y = control.y;
  pc = control.pc;
  npc = control.npc;
  parity = parity;
}

unfoldable pub core_at : ℕ → ℕ → List ℕ → Part CoreResult
core_at cores k bytes = as_part (λ z. result_of z.0 z.1.0 z.1.1.0 z.1.1.1.0 z.1.1.1.1)
    (then_part (line_at (ending_at cores k)) (λ ending. then_part (line_at (output_at k)) (λ out. then_part (registers_at k) (λ regs.
    then_part (line_at (control_at k)) (λ control. line_at (parity_at k)))))) bytes
