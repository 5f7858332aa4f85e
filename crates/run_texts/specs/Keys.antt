-- The table of the keys of a configuration, which is a TOML document. Each key is optional.
use Rattle.std.specs.Prelude.{ℕ, ◌≡◌, ◌<◌, ◌≤◌, ◌*◌, ◌%◌, Bool, true, ◌==◌, ◌&&◌, nat_lt, nat_le, List, [], ◌∷◌, All, length, codes}
use Rattle.std.specs.List.{before_first, after_first}
use Rattle.lf_model.specs.Caches.Cache.{IsCacheShape, is_number_of_sets}
use Rattle.lf_model.specs.declared.config.Config.{Config}
use Rattle.lf_model.specs.Start.{ram_first, is_in_ram}
use Rattle.run_texts.specs.declared.keys.Key.{Key}
use Rattle.run_texts.specs.declared.keys.Key.TheVariants.{Cores, Ram, Steps, Window, Buffer, Watch, FetchWays, FetchSets, LoadWays, LoadSets, ScrubFirst, ScrubLength, ScrubTurns}
use Rattle.run_texts.specs.declared.keys.Kind.{Kind}
use Rattle.run_texts.specs.declared.keys.Kind.TheVariants.{Integer, Integers}

-- What the table says of a key: the section and the name in it, joined by a dot, the kind of its value, and which
-- numbers are in range, where the keys before it have the values of this configuration.
pub record Row : Type 0 where
  pub path : List ℕ
  pub kind : Kind
  pub is_in_range : Config → ℕ → Bool

-- the row of a path, a kind and a range
abbrev pub at_path : List ℕ → Kind → (Config → ℕ → Bool) → Row
at_path path kind is_in_range = record { path = path; kind = kind; is_in_range = is_in_range }

-- the number is one of those from the least to the most
abbrev pub is_between : ℕ → ℕ → ℕ → Bool
is_between least most n = nat_le least n && nat_le n most

-- The table: an integer with its default, or an array of at most so many integers, which is empty by default.
unfoldable pub row : Key → Row
row Cores = at_path (codes "machine.cores") (Integer 1) (λ config n. is_between 1 8 n)
row Ram = at_path (codes "machine.ram") (Integer 1048576) (λ config n. n % 65536 == 0 && is_between 65536 16777216 n)
row Steps = at_path (codes "machine.steps") (Integer 100000) (λ config n. nat_lt 0 n && nat_le (config.cores * n) 4000000)
row Window = at_path (codes "machine.window") (Integer 64) (λ config n. is_between 1 1024 n)
row Buffer = at_path (codes "machine.buffer") (Integer 4) (λ config n. is_between 1 8 n)
row Watch = at_path (codes "machine.watch") (Integers 64) (λ config a. a % 4 == 0 && is_in_ram config.ram a 4)
row FetchWays = at_path (codes "icache.ways") (Integer 1) (λ config n. is_between 1 4 n)
row FetchSets = at_path (codes "icache.sets") (Integer 64) (λ config n. is_number_of_sets n)
row LoadWays = at_path (codes "dcache.ways") (Integer 1) (λ config n. is_between 1 4 n)
row LoadSets = at_path (codes "dcache.sets") (Integer 64) (λ config n. is_number_of_sets n)
row ScrubFirst = at_path (codes "scrub.first") (Integer ram_first) (λ config a. a % 32 == 0 && is_in_ram config.ram a 32)
row ScrubLength =
    at_path (codes "scrub.length") (Integer 32)
    (λ config n. n % 32 == 0 && nat_lt 0 n && is_in_ram config.ram config.scrub.first n)
row ScrubTurns = at_path (codes "scrub.turns") (Integer 0) (λ config n. is_between 0 1000000 n)

-- the keys, in the order in which their faults are told
abbrev pub keys : List Key
keys =
    Cores ∷ Ram ∷ Steps ∷ Window ∷ Buffer ∷ Watch ∷ FetchWays ∷ FetchSets ∷ LoadWays ∷ LoadSets
    ∷ ScrubFirst ∷ ScrubLength ∷ ScrubTurns ∷ []

-- the section of a key stands before the dot of its path, and the name in it behind the dot
abbrev pub section_of : Key → List ℕ
section_of key = before_first (λ byte. byte == 46) (row key).path

abbrev pub name_of : Key → List ℕ
name_of key = after_first (λ byte. byte == 46) (row key).path

-- the default of a key whose value is an integer
abbrev pub default_of : Kind → ℕ
default_of (Integer default) = default
default_of (Integers most) = 0

-- a word stands at this address in RAM of this size, in bytes
abbrev pub IsWordOfRam : ℕ → ℕ → Type 0
IsWordOfRam ram addr = (addr % 4 ≡ 0) × (is_in_ram ram addr 4 ≡ true)

-- what the table of keys asks of a configuration
pub record IsOfTable (config : Config) : Type 0 where
  pub cores : (1 ≤ config.cores) × (config.cores ≤ 8)
  pub ram : config.ram % 65536 ≡ 0
  pub least_ram : 65536 ≤ config.ram
  pub most_ram : config.ram ≤ 16777216
  pub steps : 0 < config.steps
  pub all_steps : config.cores * config.steps ≤ 4000000
  pub window : (0 < config.window) × (config.window ≤ 1024)
  pub buffer : (0 < config.buffer) × (config.buffer ≤ 8)
  pub few_watched : length config.watch ≤ 64
  pub watched : All (IsWordOfRam config.ram) config.watch
  pub fetch_cache : IsCacheShape config.fetch_cache
  pub load_cache : IsCacheShape config.load_cache
  pub scrub_lines : (config.scrub.first % 32 ≡ 0) × (config.scrub.length % 32 ≡ 0) × (0 < config.scrub.length)
  pub scrub_in_ram : is_in_ram config.ram config.scrub.first config.scrub.length ≡ true
  pub scrub_turns : config.scrub_turns ≤ 1000000
