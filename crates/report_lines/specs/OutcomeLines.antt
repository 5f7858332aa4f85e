-- How the lines of the AHB status registers, of operations, of flips and of watched words are read.
use Rattle.std.specs.Prelude.{ℕ, ◌*◌, ◌∷◌, [], List, codes}
use Rattle.lf_model.specs.Report.{letter_of, fate_word}
use Rattle.lf_model.specs.declared.bus.OpKind.{OpKind}
use Rattle.lf_model.specs.declared.bus.OpKind.TheVariants.{Load, Store, Atomic, Lost}
use Rattle.lf_model.specs.declared.trace.Fate.{Fate}
use Rattle.lf_model.specs.declared.trace.Fate.TheVariants.{Late, Declined, Repaired, Discarded, Stopped, Overwritten, Dormant}
use Rattle.lf_model.specs.declared.trace.Op.{Op}
use Rattle.lf_model.specs.declared.trace.Word2.{Word2}
use Rattle.report_fields.specs.Reading.{Read, without, past, then_at, as_at, word_at}
use Rattle.report_fields.specs.Digits.{any, number_at, own_at, hex_at, value_at, sized_at}
use Rattle.report_lines.specs.declared.operands.Operands.{Operands}

-- ADDR STATUS
unfoldable pub status_at : List ℕ → Read (ℕ × ℕ)
status_at bytes = past (without (codes "ahb ")) (then_at (hex_at 32 8) (λ addr. hex_at 10 8)) bytes

abbrev pub op_kinds : List OpKind
op_kinds = Load ∷ Store ∷ Atomic ∷ Lost ∷ []

-- GOT WAY, the length of the operation being that of its digits
unfoldable pub loaded_at : List ℕ → Read Operands
loaded_at bytes = as_at (λ z. record { got = z.0.1; put = 0; len = z.0.0; way = z.1 }) (then_at (sized_at 32) (λ got. number_at 10 255)) bytes

-- PUT
unfoldable pub stored_at : List ℕ → Read Operands
stored_at bytes = as_at (λ z. record { got = 0; put = z.1; len = z.0; way = 0 }) (sized_at 10) bytes

-- GOT PUT, both of one length
unfoldable pub swapped_at : List ℕ → Read Operands
swapped_at bytes = as_at (λ z. record { got = z.0.1; put = z.1; len = z.0.0; way = 0 }) (then_at (sized_at 32) (λ got. hex_at 10 (2 * got.0))) bytes

abbrev pub operands_at : OpKind → List ℕ → Read Operands
operands_at Load = loaded_at
operands_at Store = stored_at
operands_at Atomic = swapped_at
operands_at Lost = stored_at

unfoldable pub operation_at : List ℕ → Read Op
operation_at bytes = as_at (λ z. record {
  got = z.1.1.1.1.1.got;
  put = z.1.1.1.1.1.put;
  core = z.1.0;
  k = z.1.1.0;
  step = z.1.1.1.0;
  addr = z.1.1.1.1.0;
  kind = z.0;
  len = z.1.1.1.1.1.len;
  way = z.1.1.1.1.1.way;
}) (then_at (word_at letter_of op_kinds) (λ kind. then_at (number_at 32 any) (λ core. then_at (number_at 32 any) (λ k.
    then_at (number_at 32 any) (λ step. then_at (hex_at 32 8) (λ addr. operands_at kind)))))) bytes

abbrev pub fates : List Fate
fates = Late ∷ Declined ∷ Repaired ∷ Discarded ∷ Stopped ∷ Overwritten ∷ Dormant ∷ []

unfoldable pub fate_at : ℕ → List ℕ → Read Fate
fate_at i bytes = past (without (codes "f ")) (past (own_at 32 i) (word_at fate_word fates)) bytes

unfoldable pub watched_at : List ℕ → Read Word2
watched_at bytes = past (without (codes "w ")) (as_at (λ z. record { addr = z.0; value = z.1 }) (then_at (hex_at 32 8) (λ addr. value_at 10))) bytes
