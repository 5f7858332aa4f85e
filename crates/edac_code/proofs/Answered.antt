-- The answer for each set of at most two turned bits follows from the rule of the syndrome.
use Rattle.std.proofs.Common.{◌≡◌, ℕ, ◌^◌, ◌<◌, ◌≢◌, [], ◌∷◌, sym, ap, ap₂, ◌∙◌, arith, inl, inr, lit<, subst}
use Rattle.std.specs.Int.Bits.{bit_xor, xor_assoc, xor_self, xor_zero_l, xor_zero_r}
use Rattle.std.proofs.lemmas.Bool.{cases_eq}
use Rattle.lf_num.specs.Toggles.{struck}
use Rattle.lf_num.specs.Columns.{column}
use Rattle.lf_num.proofs.ToggleLemmas.{turned_back, IsPlaceSet-places, struck-differing}
use Rattle.edac_code.specs.Code.{code, data_of, syndrome}
use Rattle.edac_code.specs.Reading.{ReadsBySyndrome, ReadsStruck, HasStruckSyndrome, ReadsByTurnedBits, IsSumOfTurnedBits, turned_bits}
use Rattle.edac_code.specs.declared.answer.Read39.{Read39}
use Rattle.edac_code.specs.declared.answer.Read39.TheVariants.{Clean, Fixed, Bad}
use Rattle.edac_code.proofs.Tables.{column_rule, column-nonzero}
use Rattle.edac_code.proofs.Checks.{code-lt}
use Rattle.edac_code.proofs.Syndromes.{data_of-code, syndrome-struck_code}

-- two equal columns are of one bit
same_bit : (a b : ℕ) → a < 39 → b < 39 → column a ≡ column b → a ≡ b
same_bit a b a_lt b_lt same =
    elim (cases_eq a b) [ inl equal ↦ equal | inr other ↦ absurd ((column_rule a b a a_lt b_lt a_lt).distinct other same) ]

-- the sum modulo 2 of two different columns is neither 0 nor a column
two_nonzero : (a b : ℕ) → a < 39 → b < 39 → b ≢ a → bit_xor (column b) (column a) ≢ 0
two_nonzero a b a_lt b_lt other none =
    let equal : column b ≡ column a =
    sym (xor_zero_r (column b)) ∙ ap (bit_xor (column b)) (sym (xor_self (column a)))
    ∙ sym (xor_assoc (column b) (column a) (column a)) ∙ ap (λ (x : ℕ). bit_xor x (column a)) none ∙ xor_zero_l (column a) in
    other (same_bit b a b_lt a_lt equal)

two_no_column : (a b bit : ℕ) → a < 39 → b < 39 → bit < 39 → bit_xor (column b) (column a) ≢ column bit
two_no_column a b bit a_lt b_lt lt = (column_rule b a bit b_lt a_lt lt).no_sum

-- by the size of the set, and by the answer
none_turned : (word : ℕ) (r : Read39) → word < 2 ^ 32 → ReadsBySyndrome (code word) r → syndrome (code word) ≡ 0 → r ≡ Clean word
none_turned word (Clean value) fits rule clean = ap Clean (rule.1 ∙ data_of-code word fits)
none_turned word (Fixed value bit) fits rule clean = absurd (column-nonzero bit rule.0 (sym rule.1 ∙ clean))
none_turned word (Bad s) fits rule clean = absurd (rule.1 (sym rule.0 ∙ clean))

one_turned : (word bit : ℕ) (r : Read39) → word < 2 ^ 32 → bit < 39 → ReadsBySyndrome (bit_xor (code word) (2 ^ bit)) r
    → syndrome (bit_xor (code word) (2 ^ bit)) ≡ column bit → r ≡ Fixed word bit
one_turned word bit (Clean value) fits lt rule is = absurd (column-nonzero bit lt (sym is ∙ rule.0))
one_turned word bit (Fixed value found) fits lt rule is =
    let same : found ≡ bit = same_bit found bit rule.0 lt (sym rule.1 ∙ is) in
    let shown : value ≡ word =
    rule.2 ∙ ap (λ (x : ℕ). data_of (bit_xor (bit_xor (code word) (2 ^ bit)) (2 ^ x))) same
    ∙ ap data_of (turned_back (code word) bit) ∙ data_of-code word fits in
    ap₂ Fixed shown same
one_turned word bit (Bad s) fits lt rule is = absurd (rule.2 bit lt (sym rule.0 ∙ is))

two_turned : (c a b : ℕ) (r : Read39) → a < 39 → b < 39 → b ≢ a → ReadsBySyndrome c r
    → syndrome c ≡ bit_xor (column b) (column a) → r ≡ Bad (bit_xor (column b) (column a))
two_turned c a b (Clean value) a_lt b_lt other rule is = absurd (two_nonzero a b a_lt b_lt other (sym is ∙ rule.0))
two_turned c a b (Fixed value bit) a_lt b_lt other rule is = absurd (two_no_column a b bit a_lt b_lt rule.0 (sym is ∙ rule.1))
two_turned c a b (Bad s) a_lt b_lt other rule is = ap Bad (sym rule.0 ∙ is)

-- the promise of `read39`
pub reads_struck : (c : ℕ) (r : Read39) → ReadsBySyndrome c r → ReadsStruck c r
reads_struck c r rule word [] fits set few is =
    none_turned word r fits (subst (λ (x : ℕ). ReadsBySyndrome x r) is rule) (syndrome-struck_code word [] fits set)
reads_struck c r rule word (a ∷ []) fits set few is =
    one_turned word a r fits set.0 (subst (λ (x : ℕ). ReadsBySyndrome x r) is rule)
    (syndrome-struck_code word (a ∷ []) fits set ∙ xor_zero_l (column a))
reads_struck c r rule word (a ∷ b ∷ []) fits set few is =
    let first : bit_xor 0 (column b) ≡ column b = xor_zero_l (column b) in
    two_turned c a b r set.0 set.2.0 (set.1 0 0 (lit< tt)) rule
    (ap syndrome is ∙ syndrome-struck_code word (a ∷ b ∷ []) fits set ∙ ap (λ (x : ℕ). bit_xor x (column a)) first)
    ∙ ap (λ (x : ℕ). Bad (bit_xor x (column a))) (sym first)
reads_struck c r rule word (a ∷ b ∷ d ∷ rest) fits set few is = absurd (omega arith)

-- the promise of `syndrome39`
pub has_struck_syndrome : (c s : ℕ) → s ≡ syndrome c → HasStruckSyndrome c s
has_struck_syndrome c s value word turned fits set is = value ∙ ap syndrome is ∙ syndrome-struck_code word turned fits set

-- both promises again, at the bits in which the cell differs from the word's encoding
differs : (c word : ℕ) → c < 2 ^ 39 → word < 2 ^ 32 → c ≡ struck (code word) (turned_bits c word)
differs c word fits word_fits = sym (struck-differing 39 c (code word) fits (code-lt word word_fits))

pub reads_turned : (c : ℕ) (r : Read39) → c < 2 ^ 39 → ReadsStruck c r → ReadsByTurnedBits c r
reads_turned c r fits reads word word_fits few =
    reads word (turned_bits c word) word_fits (IsPlaceSet-places 39 (bit_xor c (code word))) few (differs c word fits word_fits)

pub sum_of_turned : (c s : ℕ) → c < 2 ^ 39 → HasStruckSyndrome c s → IsSumOfTurnedBits c s
sum_of_turned c s fits has word word_fits =
    has word (turned_bits c word) word_fits (IsPlaceSet-places 39 (bit_xor c (code word))) (differs c word fits word_fits)
