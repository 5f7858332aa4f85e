-- The lines of the AHB status registers, of operations, of flips and of watched words belong together with their texts.
use Rattle.std.proofs.Common.{◌≡◌, ℕ, ◌*◌, ◌^◌, ◌<◌, List, ◌++◌, true, refl, sym, ap, ◌∙◌, inl, inr, arith}
use Rattle.std.specs.Prelude.{Some, codes}
use Rattle.std.proofs.lemmas.Bool.{and_parts, and_from, or_cases, eqb-true, lt-ltb, ltb-true}
use Rattle.lf_model.specs.Texts.{number, hex_field}
use Rattle.lf_model.specs.Report.{word_field, ahb_line, letter_of, op_text, op_line, fate_word, fate_line, watch_line}
use Rattle.lf_model.specs.Promise.RegularTransfer.{fits_word}
use Rattle.lf_model.specs.Promise.Regular.{is_length, number_fits, numbers_fit, is_regular_op, is_regular_word}
use Rattle.lf_model.specs.declared.bus.OpKind.{OpKind}
use Rattle.lf_model.specs.declared.bus.OpKind.TheVariants.{Load, Store, Atomic, Lost}
use Rattle.lf_model.specs.declared.trace.Fate.{Fate}
use Rattle.lf_model.specs.declared.trace.Fate.TheVariants.{Late, Declined, Repaired, Discarded, Stopped, Overwritten, Dormant}
use Rattle.lf_model.specs.declared.trace.Op.{Op}
use Rattle.report_fields.specs.Reading.{word_at}
use Rattle.report_fields.specs.Digits.{hex_at}
use Rattle.report_fields.proofs.Laws.{Reads, past_reads, then_reads, as_reads, fits_reads, word_reads, literal_passes}
use Rattle.report_fields.proofs.Decimal.{own_passes}
use Rattle.report_fields.proofs.Hexadecimal.{hex_reads}
use Rattle.report_fields.proofs.Values.{any_reads, way_reads, hex_word_reads, value_reads, sized_reads}
use Rattle.report_lines.specs.declared.operands.Operands.{Operands}
use Rattle.report_lines.specs.OutcomeLines.{status_at, op_kinds, loaded_at, stored_at, swapped_at, operands_at, operation_at, fates, fate_at, watched_at}

abbrev pub StatusFits : ℕ × ℕ → Type 0
StatusFits z = (fits_word z.0 ≡ true) × (fits_word z.1 ≡ true)

pub status_reads : Reads StatusFits (λ z. ahb_line z.0 z.1) status_at
unfolding status_at ahb_line
status_reads = past_reads (literal_passes (codes "ahb ")) (then_reads (hex_word_reads 32) (λ addr h. hex_word_reads 10))

-- ---- operations

letter_again : (kind : OpKind) (rest : List ℕ) → word_at letter_of op_kinds (letter_of kind ++ rest) ≡ Some (kind, rest)
letter_again Load rest = refl
letter_again Store rest = refl
letter_again Atomic rest = refl
letter_again Lost rest = refl

letter_reads : Reads (λ (kind : OpKind). Unit {0}) letter_of (word_at letter_of op_kinds)
letter_reads = word_reads (λ kind. Unit {0}) letter_of op_kinds (λ bytes kind rest e. tt) (λ kind rest h. letter_again kind rest)

-- an operation with these operands, and else nothing told
abbrev with : Operands → Op
with o = record { got = o.got; put = o.put; core = 0; k = 0; step = 0; addr = 0; kind = Load; len = o.len; way = o.way }

abbrev OperandsFit : OpKind → Operands → Type 0
OperandsFit kind o = (is_length o.len ≡ true) × (numbers_fit (with o) kind ≡ true)

abbrev shown : OpKind → Operands → List ℕ
shown kind o = op_text kind (with o)

same_load : (o : Operands) → o.put ≡ 0 → ◌≡◌ {A = Operands} (record { got = o.got; put = 0; len = o.len; way = o.way }) o
same_load o none = ap (λ (n : ℕ). record { got = o.got; put = n; len = o.len; way = o.way }) (sym none)

loaded_reads : Reads (OperandsFit Load) (shown Load) loaded_at
unfolding loaded_at
loaded_reads = as_reads (OperandsFit Load) (shown Load) (λ z. record { got = z.0.1; put = 0; len = z.0.0; way = z.1 }) (λ o. ((o.len, o.got), o.way))
    (then_reads (sized_reads 32 (omega arith)) (λ got h. way_reads 10 (omega arith)))
    (λ z h. (refl, (h.0.0, and_from _ _ h.0.1 (and_from _ _ refl h.1))))
    (λ o h. let a = and_parts _ _ h.1 in let b = and_parts _ _ a.1 in (refl, (same_load o (eqb-true o.put 0 b.0), ((h.0, a.0), b.1))))

same_store : (o : Operands) → o.got ≡ 0 → o.way ≡ 0 → ◌≡◌ {A = Operands} (record { got = 0; put = o.put; len = o.len; way = 0 }) o
same_store o no_got no_way =
    ap (λ (n : ℕ). record { got = n; put = o.put; len = o.len; way = 0 }) (sym no_got) ∙ ap (λ (n : ℕ). record { got = o.got; put = o.put; len = o.len; way = n }) (sym no_way)

store_reads : Reads (OperandsFit Store) (shown Store) stored_at
unfolding stored_at
store_reads = as_reads (OperandsFit Store) (shown Store) (λ z. record { got = 0; put = z.1; len = z.0; way = 0 }) (λ o. (o.len, o.put)) (sized_reads 10 (omega arith))
    (λ z h. (refl, (h.0, and_from _ _ refl (and_from _ _ h.1 refl))))
    (λ o h. let a = and_parts _ _ h.1 in let b = and_parts _ _ a.1 in (refl, (same_store o (eqb-true o.got 0 a.0) (eqb-true o.way 0 b.1), (h.0, b.0))))

lost_reads : Reads (OperandsFit Lost) (shown Lost) stored_at
unfolding stored_at
lost_reads = as_reads (OperandsFit Lost) (shown Lost) (λ z. record { got = 0; put = z.1; len = z.0; way = 0 }) (λ o. (o.len, o.put)) (sized_reads 10 (omega arith))
    (λ z h. (refl, (h.0, and_from _ _ refl (and_from _ _ h.1 refl))))
    (λ o h. let a = and_parts _ _ h.1 in let b = and_parts _ _ a.1 in (refl, (same_store o (eqb-true o.got 0 a.0) (eqb-true o.way 0 b.1), (h.0, b.0))))

-- a number of as many digits as the first
bytes_power : (len : ℕ) → is_length len ≡ true → 16 ^ (2 * len) ≡ 256 ^ len
bytes_power len h = elim (or_cases _ _ h) [
  | inl one ↦ rw (eqb-true len 1 one) refl
  | inr more ↦ elim (or_cases _ _ more) [
    | inl two ↦ rw (eqb-true len 2 two) refl
    | inr most ↦ elim (or_cases _ _ most) [
      | inl four ↦ rw (eqb-true len 4 four) refl
      | inr eight ↦ rw (eqb-true len 8 eight) refl
    ]
  ]
]

put_reads : (len : ℕ) → is_length len ≡ true → Reads (λ n. number_fits len n ≡ true) (hex_field 10 (2 * len)) (hex_at 10 (2 * len))
put_reads len h = fits_reads (λ n. number_fits len n ≡ true) (hex_reads 10 (2 * len))
    (λ n small. lt-ltb n (256 ^ len) (rw (← bytes_power len h) small)) (λ n fits. rw (bytes_power len h) (ltb-true n (256 ^ len) fits))

same_swap : (o : Operands) → o.way ≡ 0 → ◌≡◌ {A = Operands} (record { got = o.got; put = o.put; len = o.len; way = 0 }) o
same_swap o none = ap (λ (n : ℕ). record { got = o.got; put = o.put; len = o.len; way = n }) (sym none)

swapped_reads : Reads (OperandsFit Atomic) (shown Atomic) swapped_at
unfolding swapped_at
swapped_reads = as_reads (OperandsFit Atomic) (shown Atomic) (λ z. record { got = z.0.1; put = z.1; len = z.0.0; way = 0 }) (λ o. ((o.len, o.got), o.put))
    (then_reads (sized_reads 32 (omega arith)) (λ got h. put_reads got.0 h.0))
    (λ z h. (refl, (h.0.0, and_from _ _ h.0.1 (and_from _ _ h.1 refl))))
    (λ o h. let a = and_parts _ _ h.1 in let b = and_parts _ _ a.1 in (refl, (same_swap o (eqb-true o.way 0 b.1), ((h.0, a.0), b.0))))

operands_reads : (kind : OpKind) → Reads (OperandsFit kind) (shown kind) (operands_at kind)
operands_reads Load = loaded_reads
operands_reads Store = store_reads
operands_reads Atomic = swapped_reads
operands_reads Lost = lost_reads

abbrev operands_of : Op → Operands
operands_of o = record { got = o.got; put = o.put; len = o.len; way = o.way }

op_text_is : (kind : OpKind) (o : Op) → op_text kind o ≡ shown kind (operands_of o)
op_text_is Load o = refl
op_text_is Store o = refl
op_text_is Atomic o = refl
op_text_is Lost o = refl

numbers_are : (kind : OpKind) (o : Op) → numbers_fit o kind ≡ numbers_fit (with (operands_of o)) kind
numbers_are Load o = refl
numbers_are Store o = refl
numbers_are Atomic o = refl
numbers_are Lost o = refl

abbrev Fields : Type 0
Fields = OpKind × (ℕ × (ℕ × (ℕ × (ℕ × Operands))))

abbrev op_of : Fields → Op
op_of z = record {
  got = z.1.1.1.1.1.got;
  put = z.1.1.1.1.1.put;
  core = z.1.0;
  k = z.1.1.0;
  step = z.1.1.1.0;
  addr = z.1.1.1.1.0;
  kind = z.0;
  len = z.1.1.1.1.1.len;
  way = z.1.1.1.1.1.way;
}

abbrev fields_of : Op → Fields
fields_of o = (o.kind, (o.core, (o.k, (o.step, (o.addr, operands_of o)))))

abbrev FieldsFit : Fields → Type 0
FieldsFit z = Unit {0} × ((fits_word z.1.0 ≡ true) × ((fits_word z.1.1.0 ≡ true) × ((fits_word z.1.1.1.0 ≡ true) × ((fits_word z.1.1.1.1.0 ≡ true) × OperandsFit z.0 z.1.1.1.1.1))))

op_there : (z : Fields) → FieldsFit z → is_regular_op (op_of z) ≡ true
op_there z h =
    let operands = h.1.1.1.1.1 in
    and_from _ _ h.1.0 (and_from _ _ h.1.1.0 (and_from _ _ h.1.1.1.0 (and_from _ _ h.1.1.1.1.0 (and_from _ _ operands.0 (numbers_are z.0 (op_of z) ∙ operands.1)))))

op_back : (o : Op) → is_regular_op o ≡ true → FieldsFit (fields_of o)
op_back o h =
    let a = and_parts _ _ h in let b = and_parts _ _ a.1 in let c = and_parts _ _ b.1 in let d = and_parts _ _ c.1 in let e = and_parts _ _ d.1 in
    (tt, (a.0, (b.0, (c.0, (d.0, (e.0, sym (numbers_are o.kind o) ∙ e.1))))))

op_line_is : (o : Op) → op_line o ≡ letter_of o.kind ++ (number 32 o.core ++ (number 32 o.k ++ (number 32 o.step ++ (hex_field 32 8 o.addr ++ shown o.kind (operands_of o)))))
unfolding op_line
op_line_is o = ap (λ (w : List ℕ). letter_of o.kind ++ (number 32 o.core ++ (number 32 o.k ++ (number 32 o.step ++ (hex_field 32 8 o.addr ++ w))))) (op_text_is o.kind o)

pub operation_reads : Reads (λ o. is_regular_op o ≡ true) op_line operation_at
unfolding operation_at
operation_reads = as_reads (λ o. is_regular_op o ≡ true) op_line op_of fields_of
    (then_reads letter_reads (λ kind a. then_reads (any_reads 32 (omega arith)) (λ core b. then_reads (any_reads 32 (omega arith)) (λ k c.
    then_reads (any_reads 32 (omega arith)) (λ step d. then_reads (hex_word_reads 32) (λ addr e. operands_reads kind))))))
    (λ z h. (op_line_is (op_of z), op_there z h))
    (λ o h. (op_line_is o, (refl, op_back o h)))

-- ---- flips and watched words

fate_again : (fate : Fate) (rest : List ℕ) → word_at fate_word fates (fate_word fate ++ rest) ≡ Some (fate, rest)
fate_again Late rest = refl
fate_again Declined rest = refl
fate_again Repaired rest = refl
fate_again Discarded rest = refl
fate_again Stopped rest = refl
fate_again Overwritten rest = refl
fate_again Dormant rest = refl

pub fate_reads : (i : ℕ) → i < 2 ^ 32 → Reads (λ (fate : Fate). Unit {0}) (fate_line i) (fate_at i)
unfolding fate_at fate_line
fate_reads i small = past_reads (literal_passes (codes "f ")) (past_reads (own_passes 32 i (omega arith) small)
    (word_reads (λ fate. Unit {0}) fate_word fates (λ bytes fate rest e. tt) (λ fate rest h. fate_again fate rest)))

pub watched_reads : Reads (λ w. is_regular_word w ≡ true) watch_line watched_at
unfolding watched_at watch_line
watched_reads = past_reads (literal_passes (codes "w ")) (as_reads (λ w. is_regular_word w ≡ true) (λ w. hex_field 32 8 w.addr ++ word_field 10 w.value)
    (λ z. record { addr = z.0; value = z.1 }) (λ w. (w.addr, w.value))
    (then_reads (hex_word_reads 32) (λ addr h. value_reads 10))
    (λ z h. (refl, and_from _ _ h.0 h.1)) (λ w h. (refl, (refl, and_parts _ _ h))))
