-- A configuration: which texts are one, and what is told of another text.
use Rattle.std.specs.Prelude.{ℕ, Bool, false, not, ◌||◌, ◌&&◌, nat_le, List, [], ◌∷◌, length, Option, is_some, Result, Ok, Err}
use Rattle.std.specs.List.{list_all, flat_map}
use Rattle.std.specs.Option.{option_map_or}
use Rattle.toml.specs.Data.{Data, Members, as_integer, as_array}
use Rattle.lf_model.specs.declared.config.Config.{Config}
use Rattle.run_texts.specs.declared.keys.Key.{Key}
use Rattle.run_texts.specs.declared.keys.Kind.{Kind}
use Rattle.run_texts.specs.declared.keys.Kind.TheVariants.{Integer, Integers}
use Rattle.run_texts.specs.declared.config_error.ConfigErr.{ConfigErr}
use Rattle.run_texts.specs.declared.config_error.ConfigErr.TheVariants as told
use Rattle.run_texts.specs.Columns.{first_fault}
use Rattle.run_texts.specs.Keys.{row, keys}
use Rattle.run_texts.specs.Document.{document_of, elements, has_known_keys, is_misplaced, value_at, number, config_of}

-- a value is an integer, of whatever size
abbrev pub is_integer : Data → Bool
is_integer value = is_some (as_integer value)

-- a value is of a kind
abbrev pub is_of_kind : Kind → Data → Bool
is_of_kind (Integer default) value = is_integer value
is_of_kind (Integers most) value = is_some (as_array value) && list_all is_integer (elements value)

-- a value is a number that passes a test
abbrev pub is_number : (ℕ → Bool) → Data → Bool
is_number test value = option_map_or test (number value) false

-- a value of a kind is in range, where this test says which numbers are
abbrev pub is_within : Kind → (ℕ → Bool) → Data → Bool
is_within (Integer default) test value = is_number test value
is_within (Integers most) test value = nat_le (length (elements value)) most && list_all (is_number test) (elements value)

-- another value than a table is named as the section of a key, or the value at the key is of another kind
abbrev pub is_of_other_kind : Members → Key → Bool
is_of_other_kind document key =
    is_misplaced document key
    || option_map_or (λ value. not (is_of_kind (row key).kind value)) (value_at document key) false

-- the value at a key is out of its range, where the keys before it have the values of this configuration
abbrev pub is_out_of_range : Members → Config → Key → Bool
is_out_of_range document config key =
    option_map_or (λ value. not (is_within (row key).kind ((row key).is_in_range config) value)) (value_at document key) false

-- the faults of a document at a key, in the order in which they are told: each with whether the document has it
abbrev pub key_faults : Members → Config → Key → List (Bool × ConfigErr)
key_faults document config key =
    (is_of_other_kind document key, told.Kind key)
    ∷ (is_out_of_range document config key, told.Range key)
    ∷ []

-- the faults of a document, likewise
abbrev pub document_faults : Members → Config → List (Bool × ConfigErr)
document_faults document config =
    (not (has_known_keys document), told.Key) ∷ flat_map (key_faults document config) keys

-- the fault that is told of a document that says this configuration
unfoldable pub fault_of : Members → Config → Option ConfigErr
fault_of document config = first_fault (document_faults document config)

-- the answer to a document: the configuration that it says, where it has no fault
abbrev pub document_answer : Members → Result Config ConfigErr
document_answer document = option_map_or Err (fault_of document (config_of document)) (Ok (config_of document))

-- the answer to a text, where memory does not run out
unfoldable pub config_answer : List ℕ → Result Config ConfigErr
config_answer text = option_map_or document_answer (document_of text) (Err told.Text)
