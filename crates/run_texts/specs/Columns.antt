-- What may stand behind the first field of a line, place by place, and the faults of the fields there.
use Rattle.std.specs.Prelude.{ℕ, ◌%◌, Bool, false, not, ◌==◌, ◌&&◌, nat_lt, List, [], ◌∷◌, length, find, Option, is_none, option_map}
use Rattle.std.specs.List.{filter_map, list_any, zip}
use Rattle.std.specs.Option.{option_map_or}
use Rattle.lf_model.specs.Start.{is_in_ram}
use Rattle.run_texts.specs.declared.error.TextWhy.{TextWhy}
use Rattle.run_texts.specs.declared.error.TextWhy.TheVariants.{Count, Number, Range}
use Rattle.run_texts.specs.Keys.{is_between}
use Rattle.run_texts.specs.Text.{decimal, hexadecimal}

-- one such place: the value of a field, None where the field is not of the form, and whether a value is in range
pub record Column : Type 0 where
  pub value : List ℕ → Option ℕ
  pub is_in_range : ℕ → Bool

-- a number below a bound
abbrev pub below : ℕ → Column
below bound = record { value = decimal; is_in_range = λ n. nat_lt n bound }

-- a number from the least to the most
abbrev pub between : ℕ → ℕ → Column
between least most = record { value = decimal; is_in_range = is_between least most }

-- the address of a word in RAM of this size, in bytes
abbrev pub word_of_ram : ℕ → Column
word_of_ram ram = record { value = hexadecimal; is_in_range = λ addr. addr % 4 == 0 && is_in_ram ram addr 4 }

-- a field is not of the form of its column
abbrev pub is_malformed : Column × List ℕ → Bool
is_malformed (column, field) = is_none (column.value field)

-- a field has a value, which is out of the range of its column
abbrev pub is_out_of_range : Column × List ℕ → Bool
is_out_of_range (column, field) = option_map_or (λ value. not (column.is_in_range value)) (column.value field) false

-- the faults of fields against their columns, in the order in which they are told: each with whether the line has it
abbrev pub field_faults : List Column → List (List ℕ) → List (Bool × TextWhy)
field_faults columns fields =
    (not (length fields == length columns), Count)
    ∷ (list_any is_malformed (zip columns fields), Number)
    ∷ (list_any is_out_of_range (zip columns fields), Range)
    ∷ []

-- the first of these faults that the line has
abbrev pub first_fault : {X : Type 0} → List (Bool × X) → Option X
first_fault faults = option_map (λ fault. fault.1) (find (λ fault. fault.0) faults)

-- the values of fields in their columns
abbrev pub values : List Column → List (List ℕ) → List ℕ
values columns fields = filter_map (λ (place : Column × List ℕ). place.0.value place.1) (zip columns fields)
