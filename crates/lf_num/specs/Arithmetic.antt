-- The values that the arithmetic instructions of SPARC V8 give, and their condition codes.
-- Words are numbers below 2 ^ 32; a carry is 0 or 1.
use Rattle.std.specs.Prelude.{ℕ, zero, suc, ◌≡◌, ◌+◌, ◌-◌, ◌*◌, ◌/◌, ◌%◌, ◌^◌, ◌==◌, Bool, true, false, not, IsTrue, ◌&&◌, ◌||◌, if◌then◌else◌, nat_lt, nat_le, min, ℤ, pos, negsuc, ◌+ℤ◌, ◌-ℤ◌, ◌*ℤ◌, int_div, bit_and, bit_or, bit_xor}
use Rattle.std.specs.Int.{bit_at, bit_not, from_bool, cast_signed, cast_unsigned, saturate_signed, w32, w64}
use Rattle.lf_num.specs.Bits.{sign_extended}

-- ---- condition codes

-- the sign of a word, its bit 31
abbrev pub sign_of : ℕ → ℕ
sign_of a = bit_at a 31

-- icc: N is bit 3 and the sign of the result, Z is bit 2 and tells that it is 0, V is bit 1, C is bit 0
abbrev pub icc_of : ℕ → Bool → Bool → ℕ
icc_of value v c = sign_of value * 8 + from_bool (value == 0) * 4 + from_bool v * 2 + from_bool c

-- icc of the logical instructions and of the products: V and C are 0
abbrev pub plain_icc : ℕ → ℕ
plain_icc value = icc_of value false false

-- ---- sums: ADD, ADDX and their cc forms

-- a + b + carry modulo 2 ^ 32
abbrev pub word_sum : ℕ → ℕ → ℕ → ℕ
word_sum a b carry = (a + b + carry) % 2 ^ 32

-- the carry out: the sum reaches 2 ^ 32
abbrev pub sum_carries : ℕ → ℕ → ℕ → Bool
sum_carries a b carry = nat_le (2 ^ 32) (a + b + carry)

-- the operands have one sign, and the sum has the other
abbrev pub sum_overflows : ℕ → ℕ → ℕ → Bool
sum_overflows a b carry = (sign_of a == sign_of b) && not (sign_of (word_sum a b carry) == sign_of a)

-- icc of ADDcc and ADDXcc
abbrev pub sum_icc : ℕ → ℕ → ℕ → ℕ
sum_icc a b carry = icc_of (word_sum a b carry) (sum_overflows a b carry) (sum_carries a b carry)

-- ---- differences: SUB, SUBX and their cc forms

-- a - b - carry modulo 2 ^ 32
abbrev pub word_difference : ℕ → ℕ → ℕ → ℕ
word_difference a b carry = (2 ^ 32 + a - (b + carry)) % 2 ^ 32

-- the borrow: a is below b + carry
abbrev pub difference_borrows : ℕ → ℕ → ℕ → Bool
difference_borrows a b carry = nat_lt a (b + carry)

-- the operands' signs differ, and the difference has not the sign of a
abbrev pub difference_overflows : ℕ → ℕ → ℕ → Bool
difference_overflows a b carry = not (sign_of a == sign_of b) && not (sign_of (word_difference a b carry) == sign_of a)

-- icc of SUBcc and SUBXcc
abbrev pub difference_icc : ℕ → ℕ → ℕ → ℕ
difference_icc a b carry = icc_of (word_difference a b carry) (difference_overflows a b carry) (difference_borrows a b carry)

-- ---- logic: ANDN, ORN and XNOR; AND, OR and XOR are `bit_and`, `bit_or` and `bit_xor`

-- a and not b
abbrev pub and_not : ℕ → ℕ → ℕ
and_not a b = bit_and a (bit_not w32 b)

-- a or not b
abbrev pub or_not : ℕ → ℕ → ℕ
or_not a b = bit_or a (bit_not w32 b)

-- not (a xor b)
abbrev pub xor_not : ℕ → ℕ → ℕ
xor_not a b = bit_not w32 (bit_xor a b)

-- ---- shifts, by the low five bits of b

-- SLL
abbrev pub shifted_left : ℕ → ℕ → ℕ
shifted_left a b = a * 2 ^ (b % 32) % 2 ^ 32

-- SRL
abbrev pub shifted_right : ℕ → ℕ → ℕ
shifted_right a b = a / 2 ^ (b % 32)

-- SRA: the sign comes in from the left
abbrev pub shifted_right_signed : ℕ → ℕ → ℕ
shifted_right_signed a b = sign_extended (a / 2 ^ (b % 32)) (32 - b % 32)

-- ---- products: the low word is the result, the high word goes to Y

-- the product of two words: UMUL, or SMUL as a two's complement number of 64 bits
abbrev pub product : Bool → ℕ → ℕ → ℕ
product false a b = a * b
product true a b = cast_unsigned w64 (cast_signed w32 a *ℤ cast_signed w32 b)

-- the low and the high word of a number of 64 bits
abbrev pub low_word : ℕ → ℕ
low_word n = n % 2 ^ 32

abbrev pub high_word : ℕ → ℕ
high_word n = n / 2 ^ 32

-- ---- quotients of Y and a, as one number of 64 bits, by b

-- UDIV's quotient before the limit
abbrev pub unsigned_quotient : ℕ → ℕ → ℕ → ℕ
unsigned_quotient y a b = (y * 2 ^ 32 + a) / b

-- SDIV's quotient before the limits, rounded to zero
abbrev pub signed_quotient : ℕ → ℕ → ℕ → ℤ
signed_quotient y a b = int_div (cast_signed w64 (y * 2 ^ 32 + a)) (cast_signed w32 b)

-- the result: the quotient, or the nearest number of 32 bits
abbrev pub quotient : Bool → ℕ → ℕ → ℕ → ℕ
quotient false y a b = min (unsigned_quotient y a b) (2 ^ 32 - 1)
quotient true y a b = cast_unsigned w32 (saturate_signed w32 (signed_quotient y a b))

-- a number lies from -2 ^ 31 to 2 ^ 31 - 1: a negative one, -(n + 1), where n is below 2 ^ 31
abbrev pub fits_signed_word : ℤ → Bool
fits_signed_word (pos n) = nat_lt n (2 ^ 31)
fits_signed_word (negsuc n) = nat_lt n (2 ^ 31)

-- V of UDIVcc and SDIVcc: the quotient is no number of 32 bits
abbrev pub quotient_overflows : Bool → ℕ → ℕ → ℕ → Bool
quotient_overflows false y a b = nat_lt (2 ^ 32 - 1) (unsigned_quotient y a b)
quotient_overflows true y a b = not (fits_signed_word (signed_quotient y a b))

-- icc of UDIVcc and SDIVcc: C is 0
abbrev pub quotient_icc : Bool → ℕ → ℕ → ℕ → ℕ
quotient_icc signed y a b = icc_of (quotient signed y a b) (quotient_overflows signed y a b) false

-- ---- MULScc: one step of a product, a sum with ADDcc's codes

-- the first operand: N xor V in bit 31, and bits 31 to 1 of a below it
abbrev pub step_augend : ℕ → ℕ → ℕ
step_augend a icc = (bit_at icc 3 + bit_at icc 1) % 2 * 2 ^ 31 + a / 2

-- the second operand: b where bit 0 of Y is 1, else 0
abbrev pub step_addend : ℕ → ℕ → ℕ
step_addend b y = if y % 2 == 1 then b else 0

-- the new Y: bit 0 of a in bit 31, and bits 31 to 1 of Y below it
abbrev pub step_y : ℕ → ℕ → ℕ
step_y a y = a % 2 * 2 ^ 31 + y / 2

-- what MULScc reads of a product in the making, and writes anew: its first operand or result, icc and Y
pub record Steps : Type 0 where
  pub value : ℕ
  pub icc : ℕ
  pub y : ℕ

-- after one MULScc with b
abbrev pub stepped : ℕ → Steps → Steps
stepped b s = record {
  value = word_sum (step_augend s.value s.icc) (step_addend b s.y) 0;
  icc = sum_icc (step_augend s.value s.icc) (step_addend b s.y) 0;
  y = step_y s.value s.y;
}

-- after n of them
unfoldable pub stepped_times : ℕ → ℕ → Steps → Steps
stepped_times zero b s = s
stepped_times (suc n) b s = stepped b (stepped_times n b s)

-- a whole product: 32 steps with b from the value 0, and one with 0, which adds nothing and shifts
abbrev pub product_by_steps : ℕ → ℕ → ℕ → Steps
product_by_steps y b icc = stepped 0 (stepped_times 32 b (record { value = 0; icc = icc; y = y }))

-- Y as it was at first, unsigned, times b, signed, as a two's complement number of 64 bits
abbrev pub mixed_product : ℕ → ℕ → ℕ
mixed_product y b = cast_unsigned w64 (pos y *ℤ cast_signed w32 b)

-- the law of MULScc: from N = V = 0 these steps leave the product's high word as the value, and its low word in Y
abbrev pub StepsMultiply : ℕ → ℕ → Type 0
StepsMultiply y b = (icc : ℕ) → bit_at icc 3 ≡ 0 → bit_at icc 1 ≡ 0 →
    (product_by_steps y b icc).value * 2 ^ 32 + (product_by_steps y b icc).y ≡ mixed_product y b

-- ---- tagged sums and differences: TADDcc and TSUBcc

-- an operand has a tag, its two low bits, other than 0
abbrev pub has_tag : ℕ → ℕ → Bool
has_tag a b = not (a % 4 == 0) || not (b % 4 == 0)

-- icc of TADDcc: as of ADDcc, and V also where an operand has a tag
abbrev pub tagged_sum_icc : ℕ → ℕ → ℕ
tagged_sum_icc a b = icc_of (word_sum a b 0) (sum_overflows a b 0 || has_tag a b) (sum_carries a b 0)

-- icc of TSUBcc: as of SUBcc, and V also where an operand has a tag
abbrev pub tagged_difference_icc : ℕ → ℕ → ℕ
tagged_difference_icc a b = icc_of (word_difference a b 0) (difference_overflows a b 0 || has_tag a b) (difference_borrows a b 0)

-- ---- laws: what V tells of sums and differences of signed numbers

-- a + b + carry and a - b - carry, where a and b are signed numbers, at any size
abbrev pub signed_sum : ℕ → ℕ → ℕ → ℤ
signed_sum a b carry = cast_signed w32 a +ℤ cast_signed w32 b +ℤ pos carry

abbrev pub signed_difference : ℕ → ℕ → ℕ → ℤ
signed_difference a b carry = cast_signed w32 a -ℤ cast_signed w32 b -ℤ pos carry

-- V is 1 exactly where this number is no signed number of 32 bits
abbrev pub OverflowTells : ℕ → ℤ → Type 0
OverflowTells icc n = bit_at icc 1 ≡ from_bool (not (fits_signed_word n))

-- where this number is a signed number of 32 bits, the word is that number
abbrev pub IsWordOf : ℕ → ℤ → Type 0
IsWordOf value n = IsTrue (fits_signed_word n) → cast_signed w32 value ≡ n

-- V of a tagged sum or difference is 1 exactly where this number is no signed number of 32 bits, or an operand has a tag
abbrev pub TaggedOverflowTells : ℕ → ℕ → ℕ → ℤ → Type 0
TaggedOverflowTells a b icc n = bit_at icc 1 ≡ from_bool (not (fits_signed_word n) || has_tag a b)
