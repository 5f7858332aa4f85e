-- Only one word is an instruction and has 0 in the bits that it does not name: that of the definition.
use Rattle.std.proofs.Common.{ℕ, ◌≡◌, ◌+◌, ◌*◌, ◌%◌, ◌^◌, ◌<◌, Bool, true, false, ◌&&◌, List, [], ◌∷◌, Option, Some, refl, subst, arith}
use Rattle.std.specs.Prelude.{if◌then◌else◌, ◌==◌, IfSome}
use Rattle.std.specs.List.{AllByRecursion as Each}
use Rattle.std.proofs.lemmas.Bool.{eqb-true}
use Rattle.std.proofs.lemmas.Bool.Decides.{nat_tests}
use Rattle.lf_model.specs.Fields.{bits_of, op_of, op2_of, op3_of, rd_of, rs1_of, rs2_of, i_of, asi_of, cond_of, simm13_of, src_of}
use Rattle.lf_model.specs.Instructions.{row, made, by_field, calc, mem, alternate, ticc, sethi, always, rd_fits, read_rows, write_rows, branch_rows, arithmetic_rows, memory_rows, op_rows, branch, arithmetic, memory, instruction_of}
use Rattle.lf_model.specs.declared.instruction.Src.TheVariants.{Reg, Imm}
use Rattle.lf_model.specs.declared.instruction.CalcName.{CalcName}
use Rattle.lf_model.specs.declared.instruction.CalcName.TheVariants as calculations
use Rattle.lf_model.specs.declared.instruction.MemName.{MemName}
use Rattle.lf_model.specs.declared.instruction.MemName.TheVariants.{Ld, Ldub, Lduh, Ldd, St, Stb, Sth, Std, Ldsb, Ldsh, Ldstub, Swap}
use Rattle.lf_model.specs.declared.instruction.Instr.{Instr}
use Rattle.lf_model.specs.declared.instruction.Instr.TheVariants.{Illegal, AltIllegal, Stbar, Mem, Alternate}
use Rattle.v8_encode.specs.Words.{UnnamedAreZero, SrcUnnamedAreZero}
use Rattle.work_gen.specs.Encoding.{calc_op3, mem_op3, operand_bits, format3, word_of}

-- ---- words by their fields

-- the low 14 bits of a word are those of its second operand
same_operand : (w : ℕ) (register : Bool) → (bits_of w 13 13 == 0) ≡ register
    → SrcUnnamedAreZero (if register then Reg (rs2_of w) else Imm (simm13_of w)) w
    → operand_bits (if register then Reg (rs2_of w) else Imm (simm13_of w)) ≡ w % 2 ^ 14
same_operand w true is zero = let i = eqb-true (bits_of w 13 13) 0 is in omega (arith, i, zero)
same_operand w false is zero = grind (arith, nat_tests)

same_format3 : (w op op3 rd : ℕ) → w < 2 ^ 32 → op_of w ≡ op → op3_of w ≡ op3 → rd ≡ rd_of w → SrcUnnamedAreZero (src_of w) w
    → format3 op rd op3 (rs1_of w) (src_of w) ≡ w
same_format3 w op op3 rd small is_op is_op3 is_rd zero =
    by_parts (operand_bits (src_of w)) (same_operand w (bits_of w 13 13 == 0) refl zero)
  where
    by_parts : (operand : ℕ) → operand ≡ w % 2 ^ 14 → op * 2 ^ 30 + rd * 2 ^ 25 + op3 * 2 ^ 19 + rs1_of w * 2 ^ 14 + operand ≡ w
    by_parts operand is_operand = omega (arith, small, is_op, is_op3, is_rd, is_operand)

-- ---- tables

-- the conditions of words that reach a table: none, a range, and a range with the field op
abbrev Any : ℕ → Type 0
Any w = Unit {0}

abbrev IsWord : ℕ → Type 0
IsWord w = w < 2 ^ 32

abbrev IsWordOf : ℕ → ℕ → Type 0
IsWordOf op w = (w < 2 ^ 32) × (op_of w ≡ op)

-- the word of this instruction, if it is one of those that have one here, is w
abbrev Tells : ℕ → Instr → Type 0
Tells w instruction = UnnamedAreZero instruction w → IfSome (word_of instruction) (λ word. word ≡ w)

module _ (Holds : ℕ → Type 0) (field : ℕ → ℕ) where
  -- a row tells the words that it takes
  abbrev RowTells : ℕ × (ℕ → Instr) → Type 0
  RowTells r = (w : ℕ) → Holds w → field w ≡ r.0 → Tells w (r.1 w)

  first_row : (r : ℕ × (ℕ → Instr)) (rest : Option (ℕ → Instr)) (w : ℕ) (here : Bool) → (field w == r.0) ≡ here → Holds w
      → RowTells r → Tells w (made rest w) → Tells w (made (if here then Some r.1 else rest) w)
  first_row r rest w true is holds tells others = tells w holds (eqb-true (field w) r.0 is)
  first_row r rest w false is holds tells others = others

  -- so does a table
  by_rows : (rows : List (ℕ × (ℕ → Instr))) → Each RowTells rows → (w : ℕ) → Holds w → Tells w (by_field field rows w)
  by_rows [] each w holds = λ _. tt
  by_rows (r ∷ rs) each w holds =
      first_row r (row rs (field w)) w (field w == r.0) refl holds each.0 (by_rows rs each.1 w holds)

-- ---- the rows

calc_row : (name : CalcName) → RowTells (IsWordOf 2) op3_of (calc_op3 name, calc name)
calc_row name w holds is zero = same_format3 w 2 (calc_op3 name) (rd_of w) holds.0 holds.1 is refl zero

ticc_row : RowTells (IsWordOf 2) op3_of (0x3a, ticc)
ticc_row w holds is zero = same_format3 w 2 0x3a (cond_of w) holds.0 holds.1 is (omega (arith, zero.0)) zero.1

read_row : RowTells (IsWordOf 2) op3_of (0x28, by_field rs1_of read_rows)
read_row w holds is =
    by_rows Any rs1_of read_rows ((λ _ _ _ _. tt), (stbar_row, ((λ _ _ _ _. tt), ((λ _ _ _ _. tt), tt)))) w tt
  where
    stbar_row : RowTells Any rs1_of (15, by_field rd_of ((0, always Stbar) ∷ []))
    stbar_row w holds is = by_rows Any rd_of ((0, always Stbar) ∷ []) ((λ _ _ _ _. tt), tt) w tt

write_row : RowTells (IsWordOf 2) op3_of (0x30, by_field rd_of write_rows)
write_row w holds is = by_rows Any rd_of write_rows ((λ _ _ _ _. tt), ((λ _ _ _ _. tt), ((λ _ _ _ _. tt), tt))) w tt

mem_row : (name : MemName) → RowTells (IsWordOf 3) op3_of (mem_op3 name, mem name)
mem_row name w holds is = told (rd_fits name (rd_of w))
  where
    told : (fits : Bool) → Tells w (if fits then Mem name (rd_of w) (rs1_of w) (src_of w) else Illegal)
    told true zero = same_format3 w 3 (mem_op3 name) (rd_of w) holds.0 holds.1 is refl zero
    told false zero = tt

alternate_row : {n : ℕ} (name : MemName) → RowTells (IsWordOf 3) op3_of (n, alternate name)
alternate_row name w holds is = told (i_of w == 0 && rd_fits name (rd_of w))
  where
    told : (fits : Bool) → Tells w (if fits then Alternate name (rd_of w) (rs1_of w) (rs2_of w) (asi_of w) else AltIllegal)
    told true zero = tt
    told false zero = tt

sethi_row : RowTells (IsWordOf 0) op2_of (4, sethi)
sethi_row w holds is zero = omega (arith, holds.0, holds.1, is)

-- ---- the tables of the decoder

branch_tells : (w : ℕ) → IsWordOf 0 w → Tells w (branch w)
unfolding branch
branch_tells = by_rows (IsWordOf 0) op2_of branch_rows
    ((λ _ _ _ _. tt), (sethi_row, ((λ _ _ _ _. tt), ((λ _ _ _ _. tt), tt))))

arithmetic_tells : (w : ℕ) → IsWordOf 2 w → Tells w (arithmetic w)
unfolding arithmetic
arithmetic_tells = by_rows (IsWordOf 2) op3_of arithmetic_rows (
  calc_row calculations.Add,
  (
    calc_row calculations.AddCc,
    (
      calc_row calculations.And,
      (
        calc_row calculations.AndCc,
        (
          calc_row calculations.Or,
          (
            calc_row calculations.OrCc,
            (
              calc_row calculations.Xor,
              (
                calc_row calculations.XorCc,
                (
                  calc_row calculations.Sub,
                  (
                    calc_row calculations.SubCc,
                    (
                      calc_row calculations.AndN,
                      (
                        calc_row calculations.AndNCc,
                        (
                          calc_row calculations.OrN,
                          (
                            calc_row calculations.OrNCc,
                            (
                              calc_row calculations.XNor,
                              (
                                calc_row calculations.XNorCc,
                                (
                                  calc_row calculations.AddX,
                                  (
                                    calc_row calculations.AddXCc,
                                    (
                                      calc_row calculations.UMul,
                                      (
                                        calc_row calculations.UMulCc,
                                        (
                                          calc_row calculations.SMul,
                                          (
                                            calc_row calculations.SMulCc,
                                            (
                                              calc_row calculations.SubX,
                                              (
                                                calc_row calculations.SubXCc,
                                                (
                                                  calc_row calculations.UDiv,
                                                  (
                                                    calc_row calculations.UDivCc,
                                                    (
                                                      calc_row calculations.SDiv,
                                                      (
                                                        calc_row calculations.SDivCc,
                                                        (
                                                          calc_row calculations.TAddCc,
                                                          (
                                                            calc_row calculations.TSubCc,
                                                            (
                                                              calc_row calculations.TAddCcTv,
                                                              (
                                                                calc_row calculations.TSubCcTv,
                                                                (
                                                                  calc_row calculations.MulScc,
                                                                  (
                                                                    calc_row calculations.Sll,
                                                                    (
                                                                      calc_row calculations.Srl,
                                                                      (
                                                                        calc_row calculations.Sra,
                                                                        (
                                                                          read_row,
                                                                          (
                                                                            (λ _ _ _ _. tt),
                                                                            (
                                                                              (λ _ _ _ _. tt),
                                                                              (
                                                                                (λ _ _ _ _. tt),
                                                                                (
                                                                                  write_row,
                                                                                  (
                                                                                    (λ _ _ _ _. tt),
                                                                                    (
                                                                                      (λ _ _ _ _. tt),
                                                                                      (
                                                                                        (λ _ _ _ _. tt),
                                                                                        (
                                                                                          (λ _ _ _ _. tt),
                                                                                          (
                                                                                            (λ _ _ _ _. tt),
                                                                                            (
                                                                                              (λ _ _ _ _. tt),
                                                                                              (
                                                                                                (λ _ _ _ _. tt),
                                                                                                (
                                                                                                  (λ _ _ _ _. tt),
                                                                                                  (
                                                                                                    (λ _ _ _ _. tt),
                                                                                                    (
                                                                                                      ticc_row,
                                                                                                      (
                                                                                                        (λ _ _ _ _. tt),
                                                                                                        ((λ _ _ _ _. tt), ((λ _ _ _ _. tt), tt)),
                                                                                                      ),
                                                                                                    ),
                                                                                                  ),
                                                                                                ),
                                                                                              ),
                                                                                            ),
                                                                                          ),
                                                                                        ),
                                                                                      ),
                                                                                    ),
                                                                                  ),
                                                                                ),
                                                                              ),
                                                                            ),
                                                                          ),
                                                                        ),
                                                                      ),
                                                                    ),
                                                                  ),
                                                                ),
                                                              ),
                                                            ),
                                                          ),
                                                        ),
                                                      ),
                                                    ),
                                                  ),
                                                ),
                                              ),
                                            ),
                                          ),
                                        ),
                                      ),
                                    ),
                                  ),
                                ),
                              ),
                            ),
                          ),
                        ),
                      ),
                    ),
                  ),
                ),
              ),
            ),
          ),
        ),
      ),
    ),
  ),
)

memory_tells : (w : ℕ) → IsWordOf 3 w → Tells w (memory w)
unfolding memory
memory_tells = by_rows (IsWordOf 3) op3_of memory_rows (
  mem_row Ld,
  (
    alternate_row Ld,
    (
      mem_row Ldub,
      (
        alternate_row Ldub,
        (
          mem_row Lduh,
          (
            alternate_row Lduh,
            (
              mem_row Ldd,
              (
                alternate_row Ldd,
                (
                  mem_row St,
                  (
                    alternate_row St,
                    (
                      mem_row Stb,
                      (
                        alternate_row Stb,
                        (
                          mem_row Sth,
                          (
                            alternate_row Sth,
                            (
                              mem_row Std,
                              (
                                alternate_row Std,
                                (
                                  mem_row Ldsb,
                                  (
                                    alternate_row Ldsb,
                                    (
                                      mem_row Ldsh,
                                      (
                                        alternate_row Ldsh,
                                        (
                                          mem_row Ldstub,
                                          (
                                            alternate_row Ldstub,
                                            (
                                              mem_row Swap,
                                              (
                                                alternate_row Swap,
                                                (
                                                  (λ _ _ _ _. tt),
                                                  (
                                                    (λ _ _ _ _. tt),
                                                    (
                                                      (λ _ _ _ _. tt),
                                                      (
                                                        (λ _ _ _ _. tt),
                                                        (
                                                          (λ _ _ _ _. tt),
                                                          (
                                                            (λ _ _ _ _. tt),
                                                            (
                                                              (λ _ _ _ _. tt),
                                                              (
                                                                (λ _ _ _ _. tt),
                                                                (
                                                                  (λ _ _ _ _. tt),
                                                                  (
                                                                    (λ _ _ _ _. tt),
                                                                    (
                                                                      (λ _ _ _ _. tt),
                                                                      (
                                                                        (λ _ _ _ _. tt),
                                                                        ((λ _ _ _ _. tt), ((λ _ _ _ _. tt), tt)),
                                                                      ),
                                                                    ),
                                                                  ),
                                                                ),
                                                              ),
                                                            ),
                                                          ),
                                                        ),
                                                      ),
                                                    ),
                                                  ),
                                                ),
                                              ),
                                            ),
                                          ),
                                        ),
                                      ),
                                    ),
                                  ),
                                ),
                              ),
                            ),
                          ),
                        ),
                      ),
                    ),
                  ),
                ),
              ),
            ),
          ),
        ),
      ),
    ),
  ),
)

-- the word of an instruction is the one that the encoder gives
pub one_word : (w : ℕ) (instruction : Instr) → w < 2 ^ 32 → instruction_of w ≡ instruction → UnnamedAreZero instruction w
    → IfSome (word_of instruction) (λ word. word ≡ w)
unfolding instruction_of
one_word w instruction small is = subst (Tells w) is (by_rows IsWord op_of op_rows (
  (λ v fits op. branch_tells v (fits, op)),
  (
    (λ _ _ _ _. tt),
    (
      (λ v fits op. arithmetic_tells v (fits, op)),
      ((λ v fits op. memory_tells v (fits, op)), tt),
    ),
  ),
) w small)

-- what an encoder answers for an instruction is its word
pub only_word : (instruction : Instr) (result : Option ℕ) (w : ℕ) → result ≡ Some w → w < 2 ^ 32 → IfSome result (λ v. instruction_of v ≡ instruction)
    → IfSome result (UnnamedAreZero instruction) → (instruction_of w ≡ instruction) × IfSome (word_of instruction) (λ word. word ≡ w)
only_word instruction result w is small back zero =
    let decodes = subst (λ (r : Option ℕ). IfSome r (λ v. instruction_of v ≡ instruction)) is back in
    (decodes, one_word w instruction small decodes (subst (λ (r : Option ℕ). IfSome r (UnnamedAreZero instruction)) is zero))
