-- The syndrome of the one word that was read, by the answer.
use Rattle.std.specs.Prelude.{ℕ, Result, Ok, Err}
use Rattle.lf_model.specs.declared.bus.Bad.{Bad}
use Rattle.ram_words.specs.declared.answer.Fixed.{Fixed}
use Rattle.ram_words.specs.declared.answer.Fixed.TheVariants as fixes
use Rattle.ram_words.specs.declared.answer.Got.{Got}

-- to a store of a byte or half
abbrev pub syndrome_of_answer : Result ℕ Bad → ℕ
syndrome_of_answer (Ok syn) = syn
syndrome_of_answer (Err bad) = bad.syn

-- to an atomic
abbrev pub syndrome_of_read : Result Got Bad → ℕ
syndrome_of_read (Ok got) = got.syn
syndrome_of_read (Err bad) = bad.syn

-- to a fix
abbrev pub syndrome_of_fix : Fixed → ℕ
syndrome_of_fix fixes.Clean = 0
syndrome_of_fix (fixes.Corrected bit syn) = syn
syndrome_of_fix (fixes.Bad syn) = syn
