-- A configuration without a fault is one that the table of keys takes.
use Rattle.std.proofs.Common.{ℕ, ◌≡◌, ◌+◌, ◌*◌, ◌%◌, ◌<◌, ◌≤◌, Bool, true, false, not, ◌&&◌, ◌==◌, nat_le, nat_lt, zero, suc, List, [], ◌∷◌, length, get_or, All, Option, Some, None, unwrap_or, option_and_then, refl, sym, arith, lit<}
use Rattle.std.specs.List.{filter_map, flat_map, list_all, cons_option}
use Rattle.std.specs.Option.{option_map_or}
use Rattle.std.proofs.lemmas.Bool.{and_parts, leb-true, le-leb, eqb-true, ltb-true}
use Rattle.toml.specs.Data.{Data, Members}
use Rattle.lf_model.specs.declared.config.Config.{Config}
use Rattle.lf_model.specs.Start.{ram_first, is_in_ram}
use Rattle.run_texts.specs.declared.keys.Key.{Key}
use Rattle.run_texts.specs.declared.keys.Key.TheVariants.{Cores, Ram, Steps, Window, Buffer, Watch, FetchWays, FetchSets, LoadWays, LoadSets, ScrubFirst, ScrubLength, ScrubTurns}
use Rattle.run_texts.specs.declared.keys.Kind.{Kind}
use Rattle.run_texts.specs.declared.keys.Kind.TheVariants.{Integer, Integers}
use Rattle.run_texts.specs.Columns.{first_fault}
use Rattle.run_texts.specs.Keys.{row, keys, default_of, is_between, IsWordOfRam, IsOfTable}
use Rattle.run_texts.specs.Document.{has_known_keys, value_at, number, number_at, numbers_at, elements, config_of}
use Rattle.run_texts.specs.Configuration.{is_number, is_within, key_faults, fault_of}
use Rattle.run_texts.proofs.FaultLemmas.{no_fault_of_parts, no_fault_at}

-- a test that fails is false
none_of_two : {X : Type 0} (a b : Bool) (x y : X) → first_fault ((a, x) ∷ (b, y) ∷ []) ≡ None → b ≡ false
none_of_two true b x y none = absurd cc
none_of_two false true x y none = absurd cc
none_of_two false false x y none = refl

not_false : (b : Bool) → not b ≡ false → b ≡ true
not_false true is = refl
not_false false is = sym is

-- no value at the key is out of range
pub IsKept : Members → Config → Key → Type 0
IsKept document config key =
    option_map_or (λ value. not (is_within (row key).kind ((row key).is_in_range config) value)) (value_at document key) false ≡ false

pub kept : (document : Members) (config : Config) (i : ℕ) → fault_of document config ≡ None → i < length keys → IsKept document config (get_or keys i Cores)
unfolding fault_of IsKept
kept document config i none within =
    let parts = no_fault_of_parts ((not (has_known_keys document), _) ∷ []) (flat_map (key_faults document config) keys) none in
    none_of_two _ _ _ _ (no_fault_at (key_faults document config) keys i Cores within parts.1)

-- the number that a value is, or the default, is in range
number_kept : (test : ℕ → Bool) (n : Option ℕ) (default : ℕ) → not (option_map_or test n false) ≡ false → test (unwrap_or n default) ≡ true
number_kept test None default is = absurd cc
number_kept test (Some n) default is = not_false (test n) is

value_kept : (kind : Kind) (test : ℕ → Bool) (default : ℕ) (value : Option Data) → kind ≡ Integer default → test default ≡ true
    → option_map_or (λ v. not (is_within kind test v)) value false ≡ false → test (unwrap_or (option_and_then number value) (default_of kind)) ≡ true
value_kept kind test default None integer in_range is = rw integer in_range
value_kept kind test default (Some value) integer in_range is =
    number_kept test (number value) (default_of kind) (rw integer at is)

pub number_in_range : (document : Members) (config : Config) (key : Key) (default : ℕ) → (row key).kind ≡ Integer default
    → (row key).is_in_range config default ≡ true → IsKept document config key → (row key).is_in_range config (number_at document key) ≡ true
unfolding number_at IsKept
number_in_range document config key default integer in_range is =
    value_kept (row key).kind ((row key).is_in_range config) default (value_at document key) integer in_range is

-- the numbers of an array are no more than its elements, and each passes the test that all elements pass
few_more : (n : Option ℕ) (numbers : List ℕ) (most : ℕ) → length numbers ≤ most → length (cons_option n numbers) ≤ most + 1
few_more None numbers most few = omega (arith, few)
few_more (Some n) numbers most few = omega (arith, few)

few_numbers : (values : List Data) → length (filter_map number values) ≤ length values
few_numbers [] = omega arith
few_numbers (value ∷ values) = omega (arith, few_more (number value) (filter_map number values) (length values) (few_numbers values))

pass_more : (test : ℕ → Bool) (n : Option ℕ) (numbers : List ℕ) → option_map_or test n false ≡ true
    → All (λ m. test m ≡ true) numbers → All (λ m. test m ≡ true) (cons_option n numbers)
pass_more test None numbers is all = absurd cc
pass_more test (Some n) numbers is all = at
  where
    at : (k d : ℕ) → k < length (n ∷ numbers) → test (get_or (n ∷ numbers) k d) ≡ true
    at zero d within = is
    at (suc k) d within = all k d (omega (arith, within))

all_pass : (test : ℕ → Bool) (values : List Data) → list_all (is_number test) values ≡ true → All (λ m. test m ≡ true) (filter_map number values)
all_pass test [] is = λ k d none. absurd (omega arith)
all_pass test (value ∷ values) is =
    let parts = and_parts (is_number test value) (list_all (is_number test) values) is in
    pass_more test (number value) (filter_map number values) parts.0 (all_pass test values parts.1)

-- the array at the key has few enough elements, each in range
array_kept : (kind : Kind) (most : ℕ) (test : ℕ → Bool) (value : Option Data) → kind ≡ Integers most
    → option_map_or (λ v. not (is_within kind test v)) value false ≡ false
    → (length (option_map_or (λ v. filter_map number (elements v)) value []) ≤ most)
    × All (λ m. test m ≡ true) (option_map_or (λ v. filter_map number (elements v)) value [])
array_kept kind most test None array is = (omega arith, λ k d none. absurd (omega arith))
array_kept kind most test (Some value) array is =
    let parts = and_parts (nat_le (length (elements value)) most) (list_all (is_number test) (elements value)) (not_false _ (rw array at is)) in
    let few : length (elements value) ≤ most = leb-true (length (elements value)) most parts.0 in
    (omega (arith, few, few_numbers (elements value)), all_pass test (elements value) parts.1)

word_facts : (ram addr : ℕ) → (addr % 4 == 0 && is_in_ram ram addr 4) ≡ true → IsWordOfRam ram addr
word_facts ram addr is =
    let parts = and_parts (addr % 4 == 0) (is_in_ram ram addr 4) is in
    (eqb-true (addr % 4) 0 parts.0, parts.1)

watch_facts : (document : Members) (config : Config) → IsKept document config Watch
    → (length (numbers_at document Watch) ≤ 64) × All (IsWordOfRam config.ram) (numbers_at document Watch)
unfolding numbers_at IsKept row
watch_facts document config is =
    let facts = array_kept (row Watch).kind 64 ((row Watch).is_in_range config) (value_at document Watch) refl is in
    (facts.0, λ k d within. word_facts config.ram (get_or (numbers_at document Watch) k d) (facts.1 k d within))

-- what two or three tests say, which all hold
between_facts : (least most n : ℕ) → is_between least most n ≡ true → (least ≤ n) × (n ≤ most)
between_facts least most n is =
    let parts = and_parts (nat_le least n) (nat_le n most) is in
    (leb-true least n parts.0, leb-true n most parts.1)

ram_facts : (n : ℕ) → (n % 65536 == 0 && is_between 65536 16777216 n) ≡ true → (n % 65536 ≡ 0) × (65536 ≤ n) × (n ≤ 16777216)
ram_facts n is =
    let parts = and_parts (n % 65536 == 0) (is_between 65536 16777216 n) is in
    let bounds = between_facts 65536 16777216 n parts.1 in
    (eqb-true (n % 65536) 0 parts.0, bounds.0, bounds.1)

steps_facts : (cores n : ℕ) → (nat_lt 0 n && nat_le (cores * n) 4000000) ≡ true → (0 < n) × (cores * n ≤ 4000000)
steps_facts cores n is =
    let parts = and_parts (nat_lt 0 n) (nat_le (cores * n) 4000000) is in
    (ltb-true 0 n parts.0, leb-true (cores * n) 4000000 parts.1)

steps_default : (cores : ℕ) → cores ≤ 8 → (nat_lt 0 100000 && nat_le (cores * 100000) 4000000) ≡ true
steps_default cores few = le-leb (cores * 100000) 4000000 (omega (arith, few))

first_default : (ram : ℕ) → 65536 ≤ ram → (ram_first % 32 == 0 && is_in_ram ram ram_first 32) ≡ true
first_default ram least = le-leb (ram_first + 32) (ram_first + ram) (omega arith)

length_default : (ram first : ℕ) → (first % 32 == 0 && is_in_ram ram first 32) ≡ true → (32 % 32 == 0 && nat_lt 0 32 && is_in_ram ram first 32) ≡ true
length_default ram first is = (and_parts (first % 32 == 0) (is_in_ram ram first 32) is).1

length_facts : (ram first n : ℕ) → (n % 32 == 0 && nat_lt 0 n && is_in_ram ram first n) ≡ true
    → (n % 32 ≡ 0) × (0 < n) × (is_in_ram ram first n ≡ true)
length_facts ram first n is =
    let parts = and_parts (n % 32 == 0 && nat_lt 0 n) (is_in_ram ram first n) is in
    let tests = and_parts (n % 32 == 0) (nat_lt 0 n) parts.0 in
    (eqb-true (n % 32) 0 tests.0, ltb-true 0 n tests.1, parts.1)

-- each number is in the range of its key
in_range : (document : Members) (key : Key) (i default : ℕ) → fault_of document (config_of document) ≡ None → i < length keys → get_or keys i Cores ≡ key
    → (row key).kind ≡ Integer default → (row key).is_in_range (config_of document) default ≡ true
    → (row key).is_in_range (config_of document) (number_at document key) ≡ true
in_range document key i default none within at integer in_default =
    number_in_range document (config_of document) key default integer in_default (rw at at (kept document (config_of document) i none within))

pub of_table : (document : Members) → fault_of document (config_of document) ≡ None → IsOfTable (config_of document)
unfolding row config_of
of_table document none =
    let c : Config = config_of document in
    let cores = between_facts 1 8 c.cores (in_range document Cores 0 1 none (lit< tt) refl refl refl) in
    let ram = ram_facts c.ram (in_range document Ram 1 1048576 none (lit< tt) refl refl refl) in
    let steps = steps_facts c.cores c.steps (in_range document Steps 2 100000 none (lit< tt) refl refl (steps_default c.cores cores.1)) in
    let window = between_facts 1 1024 c.window (in_range document Window 3 64 none (lit< tt) refl refl refl) in
    let buffer = between_facts 1 8 c.buffer (in_range document Buffer 4 4 none (lit< tt) refl refl refl) in
    let watched = watch_facts document c (kept document c 5 none (lit< tt)) in
    let first_in_range = in_range document ScrubFirst 10 ram_first none (lit< tt) refl refl (first_default c.ram ram.1) in
    let first = and_parts (c.scrub.first % 32 == 0) (is_in_ram c.ram c.scrub.first 32) first_in_range in
    let scrubbed = length_facts c.ram c.scrub.first c.scrub.length (in_range document ScrubLength 11 32 none (lit< tt) refl refl (length_default c.ram c.scrub.first first_in_range)) in
    let turns = between_facts 0 1000000 c.scrub_turns (in_range document ScrubTurns 12 0 none (lit< tt) refl refl refl) in
    let fetch_ways = between_facts 1 4 c.fetch_cache.ways (in_range document FetchWays 6 1 none (lit< tt) refl refl refl) in
    let load_ways = between_facts 1 4 c.load_cache.ways (in_range document LoadWays 8 1 none (lit< tt) refl refl refl) in
    record {
      cores = cores;
      ram = ram.0;
      least_ram = ram.1;
      most_ram = ram.2;
      steps = steps.0;
      all_steps = steps.1;
      window = window;
      buffer = buffer;
      few_watched = watched.0;
      watched = watched.1;
      fetch_cache = record { some_way = fetch_ways.0; few_ways = fetch_ways.1; sets = in_range document FetchSets 7 64 none (lit< tt) refl refl refl };
      load_cache = record { some_way = load_ways.0; few_ways = load_ways.1; sets = in_range document LoadSets 9 64 none (lit< tt) refl refl refl };
      scrub_lines = (eqb-true (c.scrub.first % 32) 0 first.0, scrubbed.0, scrubbed.1);
      scrub_in_ram = scrubbed.2;
      scrub_turns = turns.1;
    }
