-- The conditions of Bicc and Ticc over the integer condition codes (SPARC V8, appendix B, branch on integer condition
-- codes and trap on integer condition codes instructions).
use Rattle.std.specs.Prelude.{ℕ, ◌==◌, Bool, true, false, not, ◌||◌, List, [], ◌∷◌, Option, Some, None}
use Rattle.std.specs.Bool.{beq}
use Rattle.std.specs.Int.{bit_at}
use Rattle.lf_model.specs.Instructions.{row}

-- the condition codes: negative, zero, overflow and carry
pub record Codes : Type 0 where
  pub n : Bool
  pub z : Bool
  pub v : Bool
  pub c : Bool

-- icc has N, Z, V and C as bits 3 to 0
abbrev pub codes_of : ℕ → Codes
codes_of icc = record { n = bit_at icc 3 == 1; z = bit_at icc 2 == 1; v = bit_at icc 1 == 1; c = bit_at icc 0 == 1 }

-- N xor V: by the difference of two signed numbers the first is less
abbrev pub n_xor_v : Codes → Bool
n_xor_v codes = not (beq codes.n codes.v)

-- BN, TN
abbrev pub never : Codes → Bool
never codes = false

-- BE, TE
abbrev pub equal : Codes → Bool
equal codes = codes.z

-- BLE, TLE
abbrev pub less_or_equal : Codes → Bool
less_or_equal codes = codes.z || n_xor_v codes

-- BL, TL
abbrev pub less : Codes → Bool
less codes = n_xor_v codes

-- BLEU, TLEU
abbrev pub less_or_equal_unsigned : Codes → Bool
less_or_equal_unsigned codes = codes.c || codes.z

-- BCS, TCS
abbrev pub carry_set : Codes → Bool
carry_set codes = codes.c

-- BNEG, TNEG
abbrev pub negative : Codes → Bool
negative codes = codes.n

-- BVS, TVS
abbrev pub overflow_set : Codes → Bool
overflow_set codes = codes.v

-- BA, TA
abbrev pub always : Codes → Bool
always codes = true

-- BNE, TNE
abbrev pub not_equal : Codes → Bool
not_equal codes = not codes.z

-- BG, TG
abbrev pub greater : Codes → Bool
greater codes = not (codes.z || n_xor_v codes)

-- BGE, TGE
abbrev pub greater_or_equal : Codes → Bool
greater_or_equal codes = not (n_xor_v codes)

-- BGU, TGU
abbrev pub greater_unsigned : Codes → Bool
greater_unsigned codes = not (codes.c || codes.z)

-- BCC, TCC
abbrev pub carry_clear : Codes → Bool
carry_clear codes = not codes.c

-- BPOS, TPOS
abbrev pub positive : Codes → Bool
positive codes = not codes.n

-- BVC, TVC
abbrev pub overflow_clear : Codes → Bool
overflow_clear codes = not codes.v

-- the conditions by their numbers
abbrev pub conditions : List (ℕ × (Codes → Bool))
conditions =
    (0, never) ∷ (8, always)
    ∷ (1, equal) ∷ (9, not_equal)
    ∷ (2, less_or_equal) ∷ (10, greater)
    ∷ (3, less) ∷ (11, greater_or_equal)
    ∷ (4, less_or_equal_unsigned) ∷ (12, greater_unsigned)
    ∷ (5, carry_set) ∷ (13, carry_clear)
    ∷ (6, negative) ∷ (14, positive)
    ∷ (7, overflow_set) ∷ (15, overflow_clear) ∷ []

-- a condition of the table, by icc; a number from 16 on has none
abbrev pub holds_by : Option (Codes → Bool) → ℕ → Bool
holds_by (Some condition) icc = condition (codes_of icc)
holds_by None icc = false

-- the condition with this number holds
unfoldable pub condition_holds : ℕ → ℕ → Bool
condition_holds cond icc = holds_by (row conditions cond) icc
