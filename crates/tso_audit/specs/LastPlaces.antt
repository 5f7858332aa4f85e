-- Where each byte of RAM was last put: of the stores and atomics in memory so far, and of those of one core. The audit keeps one
-- more than such a place for each byte, and 0 where there is none.
use Rattle.std.specs.Prelude.{ℕ, zero, suc, true, ◌≡◌, ◌<◌, ◌≤◌, ◌+◌, ◌-◌, ◌&&◌, Bool, List, [], ◌∷◌, length, max, min, Option, Some, None, IfSome, take, get_or, slice_index, if◌then◌else◌}
use Rattle.lf_model.specs.Operation.{of_core, reads, enters, stores, made, touches, byte_put}
use Rattle.lf_model.specs.Start.{ram_first, number_at}
use Rattle.lf_model.specs.Value.{ValueAt}
use Rattle.lf_model.specs.declared.trace.Op.{Op}
use Rattle.lf_model.specs.declared.trace.Word2.{Word2}
use Rattle.tso_thread.specs.ReplayState.{no_op}

-- a store or an atomic of core c, lost or not
abbrev pub store_of : ℕ → Op → Bool
store_of c o = stores o && of_core c o

-- it passes, and its bytes hold the address
abbrev pub at_address : ℕ → (Op → Bool) → Op → Bool
at_address a p o = p o && touches a (made o)

abbrev pub place_if : (Op → Bool) → ℕ → Op → ℕ
place_if t n o = if t o then n + 1 else 0

-- one more than the last place of those that pass, where the first of these operations stands at place n; 0 where none passes
abbrev pub last_place : (Op → Bool) → ℕ → List Op → ℕ
last_place t n [] = 0
last_place t n (o ∷ os) = max (place_if t n o) (last_place t (n + 1) os)

-- the byte that the operation before this place puts at the address; before the first place the byte b
abbrev pub byte_before : List Op → ℕ → ℕ → ℕ → ℕ
byte_before order a b zero = b
byte_before order a b (suc j) = byte_put a (made (get_or order j no_op))

-- the later of two places of an address: among the first i operations that of the last store or atomic in memory, and among the
-- first j that of the last store or atomic of core c
abbrev pub later_place : List Op → ℕ → ℕ → ℕ → ℕ → ℕ
later_place order c i j a = max (last_place (at_address a enters) 0 (take i order)) (last_place (at_address a (store_of c)) 0 (take j order))

-- a table with the later place of each byte of RAM
abbrev pub HasLaterPlaces : List Op → ℕ → ℕ → ℕ → List ℕ → Type 0
HasLaterPlaces order c i j places = (x : ℕ) → x < length places → slice_index places x ≡ later_place order c i j (ram_first + x)

-- each of the core's stores and atomics among the first j operations comes, in program order, before each load or atomic of the
-- core from place i on
abbrev pub AreBeforeReads : List Op → ℕ → ℕ → ℕ → Type 0
AreBeforeReads order c i j = (s r : ℕ) → s < j → i ≤ r → r < length order → store_of c (get_or order s no_op) ≡ true
    → reads (get_or order r no_op) ≡ true → (get_or order r no_op).core ≡ c → (get_or order s no_op).k < (get_or order r no_op).k

-- the byte at the start, of the bytes of RAM from its first address on
abbrev pub start_in : List ℕ → ℕ → ℕ
start_in initial a = slice_index initial (a - ram_first)

-- the byte of RAM that stands after the places of a table
abbrev pub byte_left : List Op → List ℕ → List ℕ → ℕ → ℕ
byte_left order initial places a = byte_before order a (start_in initial a) (slice_index places (a - ram_first))

-- a watched word has no value, or that which stands in RAM
abbrev pub ShowsLeft : List Op → List ℕ → List ℕ → Word2 → Type 0
ShowsLeft order initial places word = IfSome word.value (λ value. value ≡ number_at (byte_left order initial places) word.addr 4)

-- Value, of the loads and atomics of core c alone
abbrev pub ValueOf : ℕ → (ℕ → ℕ) → List Op → Op → List Op → Type 0
ValueOf c initial earlier r later = r.core ≡ c → ValueAt initial earlier r later

-- the lesser of two places, where there are any
abbrev pub earlier_of : Option ℕ → Option ℕ → Option ℕ
earlier_of None b = b
earlier_of (Some a) None = Some a
earlier_of (Some a) (Some b) = Some (min a b)
