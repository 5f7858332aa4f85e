-- What a document says at the keys of a configuration. A document is TOML as the crate `toml` reads it, in UTF-8.
use Rattle.std.specs.Prelude.{ℕ, ℤ, pos, negsuc, ◌^◌, Bool, false, ◌&&◌, nat_lt, if◌then◌else◌, List, [], ◌∷◌, Option, Some, None, is_none, option_and_then, unwrap_or}
use Rattle.std.specs.List.{filter_map, list_any, list_all}
use Rattle.std.specs.Option.{option_map_or}
use Rattle.std.specs.Str.{bytes_eq, is_utf8}
use Rattle.toml.specs.Data.{Data, array, table, Items, no_items, item, Members, no_members, member, get_member, as_integer, as_table}
use Rattle.toml.specs.Parse.{parse_document}
use Rattle.lf_model.specs.declared.config.Config.{Config}
use Rattle.run_texts.specs.declared.keys.Key.{Key}
use Rattle.run_texts.specs.declared.keys.Key.TheVariants.{Cores, Ram, Steps, Window, Buffer, Watch, FetchWays, FetchSets, LoadWays, LoadSets, ScrubFirst, ScrubLength, ScrubTurns}
use Rattle.run_texts.specs.Keys.{row, keys, section_of, name_of, default_of}

-- the document that a text spells, None where it spells none
unfoldable pub document_of : List ℕ → Option Members
document_of text = if is_utf8 text then parse_document text else None

-- the values of an array, and of any other value none
abbrev pub values_of : Items → List Data
values_of no_items = []
values_of (item value others) = value ∷ values_of others

abbrev pub elements : Data → List Data
elements (array items) = values_of items
elements _ = []

-- the members of a table, each with its name, and of any other value none
abbrev pub entries_of : Members → List (List ℕ × Data)
entries_of no_members = []
entries_of (member name value others) = (name, value) ∷ entries_of others

abbrev pub entries : Data → List (List ℕ × Data)
entries (table members) = entries_of members
entries _ = []

-- some key has this section, or this section and this name
abbrev pub is_section : List ℕ → Bool
is_section section = list_any (λ key. bytes_eq (section_of key) section) keys

abbrev pub is_key : List ℕ → List ℕ → Bool
is_key section name = list_any (λ key. bytes_eq (section_of key) section && bytes_eq (name_of key) name) keys

-- a document has no key that the table of keys lacks, neither at the top nor in a section
abbrev pub is_known : List ℕ × Data → Bool
is_known (section, value) = is_section section && list_all (λ inner. is_key section inner.0) (entries value)

unfoldable pub has_known_keys : Members → Bool
has_known_keys document = list_all is_known (entries_of document)

-- another value than a table is named as the section of a key
unfoldable pub is_misplaced : Members → Key → Bool
is_misplaced document key = option_map_or (λ value. is_none (as_table value)) (get_member (section_of key) document) false

-- the value at a key, None where the document has none
unfoldable pub value_at : Members → Key → Option Data
value_at document key =
    option_and_then (λ section. get_member (name_of key) section)
    (option_and_then as_table (get_member (section_of key) document))

-- the number that an integer is, None where it is below 0 or not below 2^32
abbrev pub number_of : ℤ → Option ℕ
number_of (pos n) = if nat_lt n (2 ^ 32) then Some n else None
number_of (negsuc n) = None

-- the number that a value is, None where it is no such integer
abbrev pub number : Data → Option ℕ
number value = option_and_then number_of (as_integer value)

-- the number at a key, or else its default
unfoldable pub number_at : Members → Key → ℕ
number_at document key = unwrap_or (option_and_then number (value_at document key)) (default_of (row key).kind)

-- the numbers of the array at a key
unfoldable pub numbers_at : Members → Key → List ℕ
numbers_at document key = option_map_or (λ value. filter_map number (elements value)) (value_at document key) []

-- the configuration that a document says
unfoldable pub config_of : Members → Config
config_of document = record {
  cores = number_at document Cores;
  ram = number_at document Ram;
  steps = number_at document Steps;
  window = number_at document Window;
  buffer = number_at document Buffer;
  fetch_cache = record { ways = number_at document FetchWays; sets = number_at document FetchSets };
  load_cache = record { ways = number_at document LoadWays; sets = number_at document LoadSets };
  scrub = record { first = number_at document ScrubFirst; length = number_at document ScrubLength };
  scrub_turns = number_at document ScrubTurns;
  watch = numbers_at document Watch;
}
