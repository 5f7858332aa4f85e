-- The operations of a record are those that a report can show: one that retires has a length and numbers that fit it, and a store that is
-- lost is a store.
use Rattle.std.proofs.Common.{◌≡◌, ◌∙◌, ◌++◌, ◌*◌, ◌^◌, ◌<◌, ◌==◌, ◌&&◌, ◌||◌, ℕ, Bool, true, false, List, [], ◌∷◌, length, map, Contains, nat_lt, nat_le, if◌then◌else◌, refl, sym, ap, subst, arith, inl, inr}
use Rattle.std.specs.List.{list_all}
use Rattle.std.proofs.lemmas.Bool.{and_from, eqb-true, lt-ltb}
use Rattle.std.proofs.lemmas.List.Folds.{list_all-append}
use Rattle.core_laws.specs.SeenSoFar.{lost_from, losing}
use Rattle.core_parts.specs.RecordState.{RecordState, op_by, fits_bytes}
use Rattle.core_parts.specs.declared.record.Operation.{Operation}
use Rattle.lf_model.specs.Effect.{Site}
use Rattle.lf_model.specs.Promise.Regular.{is_length, number_fits, numbers_fit, is_regular_op}
use Rattle.lf_model.specs.Promise.RegularTransfer.{fits_word, fits_byte}
use Rattle.lf_model.specs.declared.bus.OpKind.{OpKind}
use Rattle.lf_model.specs.declared.bus.OpKind.TheVariants.{Load, Store, Atomic, Lost}
use Rattle.lf_model.specs.declared.trace.Op.{Op}
use Rattle.parity_slots.proofs.AccessLemmas.{len_cases}
use Rattle.parity_slots.specs.SlotState.{IsAccess}
use Rattle.v8_exec.specs.Reading.{is_access_size}
use Rattle.v8_exec.specs.Reading.{IsAccess as InRam}

-- ---- one more

all_more : (ops : List Op) (o : Op) → list_all is_regular_op ops ≡ true → is_regular_op o ≡ true → list_all is_regular_op (ops ++ o ∷ []) ≡ true
all_more ops o all one = list_all-append is_regular_op ops (o ∷ []) ∙ and_from _ _ all (and_from _ _ one refl)

pub regular_more : (ops : List Op) (o : Op) → list_all is_regular_op ops ≡ true → o.core < 2 ^ 32 → o.k < 2 ^ 32 → o.step < 2 ^ 32 → o.addr < 2 ^ 32
    → (is_length o.len && numbers_fit o o.kind) ≡ true → list_all is_regular_op (ops ++ o ∷ []) ≡ true
regular_more ops o all core k step addr fits =
    all_more ops o all (and_from _ _ (lt-ltb o.core (2 ^ 32) core) (and_from _ _ (lt-ltb o.k (2 ^ 32) k) (and_from _ _ (lt-ltb o.step (2 ^ 32) step) (and_from _ _ (lt-ltb o.addr (2 ^ 32) addr) fits))))

-- ---- stores are lost

lost_same : (n : ℕ) (o : Op) (kind : OpKind) → o.kind ≡ kind → is_regular_op (lost_from n o) ≡ is_regular_op o
lost_same n o Load is = rw is refl
lost_same n o Atomic is = rw is refl
lost_same n o Store is = rw is (by (nat_le n o.k))
  where
    by : (late : Bool) → (fits_word o.core && (fits_word o.k && (fits_word o.step && (fits_word o.addr && (is_length o.len && numbers_fit o (if late then Lost else Store))))))
        ≡ (fits_word o.core && (fits_word o.k && (fits_word o.step && (fits_word o.addr && (is_length o.len && numbers_fit o Store)))))
    by true = refl
    by false = refl
lost_same n o Lost is = rw is (by (nat_le n o.k))
  where
    by : (late : Bool) → (fits_word o.core && (fits_word o.k && (fits_word o.step && (fits_word o.addr && (is_length o.len && numbers_fit o (if late then Lost else Lost))))))
        ≡ (fits_word o.core && (fits_word o.k && (fits_word o.step && (fits_word o.addr && (is_length o.len && numbers_fit o Lost)))))
    by true = refl
    by false = refl

pub regular_losing : (n : ℕ) (ops : List Op) → list_all is_regular_op ops ≡ true → list_all is_regular_op (losing n ops) ≡ true
regular_losing n ops all = same ops ∙ all
  where
    same : (os : List Op) → list_all is_regular_op (losing n os) ≡ list_all is_regular_op os
    same [] = refl
    same (o ∷ os) = rw (lost_same n o o.kind refl, same os) refl

-- ---- an access of an instruction is one of a cache

either : (a b : Bool) (P : Type 0) → (a || b) ≡ true → (a ≡ true → P) → (b ≡ true → P) → P
either true b P is first second = first refl
either false b P is first second = second is

size_among : (len : ℕ) → is_access_size len ≡ true → Contains (1 ∷ 2 ∷ 4 ∷ 8 ∷ []) len
size_among len is =
    either ((len == 1 || len == 2) || len == 4) (len == 8) (Contains (1 ∷ 2 ∷ 4 ∷ 8 ∷ []) len) is
    (λ few. either (len == 1 || len == 2) (len == 4) (Contains (1 ∷ 2 ∷ 4 ∷ 8 ∷ []) len) few
    (λ fewer. either (len == 1) (len == 2) (Contains (1 ∷ 2 ∷ 4 ∷ 8 ∷ []) len) fewer (λ one. (0, omega arith, sym (eqb-true len 1 one)))
    (λ two. (1, omega arith, sym (eqb-true len 2 two)))) (λ four. (2, omega arith, sym (eqb-true len 4 four))))
    (λ eight. (3, omega arith, sym (eqb-true len 8 eight)))

pub cache_access : (site : Site) (addr len : ℕ) → InRam site addr len → IsAccess addr len
cache_access site addr len access = record { size = size_among len access.size; aligned = access.aligned }

-- ---- an access whose number has no more bytes than it

record NumberFits (len n : ℕ) : Type 0 where
  size : is_length len ≡ true
  number : number_fits len n ≡ true

number_at_length : (len n : ℕ) → Contains (1 ∷ 2 ∷ 4 ∷ 8 ∷ []) len → n < 2 ^ (8 * len) → NumberFits len n
number_at_length len n size below = elim (len_cases len size) [
  | inl one ↦ by 1 one (λ b. omega (arith, b)) refl
  | inr more ↦ elim more [
    | inl two ↦ by 2 two (λ b. omega (arith, b)) refl
    | inr most ↦ elim most [
      | inl four ↦ by 4 four (λ b. omega (arith, b)) refl
      | inr eight ↦ by 8 eight (λ b. omega (arith, b)) refl
    ]
  ]
]
  where
    by : (m : ℕ) → len ≡ m → (n < 2 ^ (8 * m) → n < 256 ^ m) → is_length m ≡ true → NumberFits len n
    by m is f length_is =
        subst (λ (l : ℕ). NumberFits l n) (sym is)
        (record { size = length_is; number = lt-ltb n (256 ^ m) (f (subst (λ (l : ℕ). n < 2 ^ (8 * l)) is below)) })

pub load_fits : (r : RecordState) (addr len value way : ℕ) → IsAccess addr len → value < 2 ^ (8 * len) → way < 256
    → fits_bytes r (record { got = value; put = 0; kind = Load; addr = addr; len = len; way = way }) ≡ true
load_fits r addr len value way access below few =
    let there = number_at_length len value access.size below in
    and_from _ _ there.size (and_from _ _ there.number (lt-ltb way 256 few))

pub store_fits : (r : RecordState) (addr len value : ℕ) → IsAccess addr len → value < 2 ^ (8 * len)
    → fits_bytes r (record { got = 0; put = value; kind = Store; addr = addr; len = len; way = 0 }) ≡ true
store_fits r addr len value access below =
    let there = number_at_length len value access.size below in
    and_from _ _ there.size (and_from _ _ there.number refl)
