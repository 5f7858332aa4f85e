-- What holds of the bus goes on to hold as a turn's transfer is made, and what users see of it.
use Rattle.std.proofs.Common.{◌≡◌, ℕ, ◌+◌, ◌*◌, ◌/◌, ◌%◌, ◌^◌, ◌<◌, ◌≤◌, ◌&&◌, ◌||◌, cond, nat_lt, nat_eq, slice_set, Ok, Err, IsTrue, inl, inr, Bool, true, false, List, [], ◌∷◌, ◌++◌, length, refl, sym, ap, ap₂, ◌∙◌, subst, arith}
use Rattle.std.proofs.lemmas.List.{append-nil}
use Rattle.std.specs.Prelude.{is_ok, Contains}
use Rattle.std.proofs.lemmas.Bool.{cases_eq}
use Rattle.std.proofs.lemmas.Bool.Decides.{nat_tests}
use Rattle.bus_memory.specs.MemoryState.{MemoryState, words_met, made, merged_in, stored, is_bad_at, value_at, syndrome_at, store_answer, read_answer}
use Rattle.lf_model.specs.Bus.Words.{word_of}
use Rattle.lf_model.specs.Promise.Regular.{is_length}
use Rattle.lf_model.specs.declared.bus.Bad.{Bad}
use Rattle.lf_model.specs.declared.bus.Pending.{Pending}
use Rattle.lf_model.specs.declared.bus.TurnKind.{TurnKind}
use Rattle.lf_model.specs.declared.bus.TurnKind.TheVariants.{Store, Atomic}
use Rattle.lf_model.specs.declared.bus.Why.{Why}
use Rattle.lf_model.specs.declared.bus.Why.TheVariants as whys
use Rattle.ram_words.specs.Parts.{merged}
use Rattle.ram_words.specs.Ram.{place_of, first_words}
use Rattle.lf_model.specs.declared.setup.Setup.{Setup}
use Rattle.ram_words.specs.declared.answer.Got.{Got}
use Rattle.ahb_bus.specs.declared.record.Who.{Who}
use Rattle.lf_model.specs.Records.BusMemory.{with_answer}
use Rattle.lf_model.specs.declared.bus.Entry.{Entry}
use Rattle.lf_model.specs.declared.bus.Transfer.{Transfer}
use Rattle.lf_model.specs.declared.flip.Flip.{Flip}
use Rattle.order_log.specs.LogState.{LogState}
use Rattle.ahb_bus.specs.Asks.{IsTaken}
use Rattle.ahb_bus.specs.BusOk.{BusOk, HasBytes}
use Rattle.ahb_bus.specs.BusState.{BusState, most_transfers, most_entries, memory_of, asked_by, after_turn, store_entry, atomic_entry, word_of_answer}
use Rattle.ahb_bus.specs.Inside.{seen, IsBus}
use Rattle.ahb_bus.specs.declared.bus.Bus.TheInside.{Inside}
use Rattle.ahb_bus.proofs.StoreLemmas.{leaves_store, leaves_atomic}
use Rattle.ahb_bus.proofs.TakenLemmas.{MayStore}
use Rattle.ahb_bus.proofs.OkLemmas.{Leaves, leaves_none, ok_made, ok_start, started}
use Rattle.ahb_bus.proofs.ShareLemmas.{room_left, log_room_left}
use Rattle.lf_model.specs.Bus.Status.{AhbStatus, status_start, status_by}
use Rattle.lf_model.specs.TransferLines.{makes_entry}

-- a new bus
pub is_bus : (setup : Setup) (bus : Inside) → setup.config.ram % 4 ≡ 0 → setup.config.cores ≤ 8 → HasBytes setup.image
    → bus.memory ≡ record { script = setup.flips; transfers = []; begun = false; values = first_words setup.config.ram setup.image; room = most_transfers setup.config }
    → bus.log ≡ record { entries = []; room = most_entries setup.config } → bus.status ≡ status_start → bus.setup.value ≡ setup → IsBus bus
is_bus setup bus whole cores bytes memory log status value =
    let same : seen bus ≡ started setup =
    ap₂ (λ (m : MemoryState) (l : LogState). record { setup = bus.setup.value; log = l.entries; transfers = m.transfers; begun = m.begun; values = m.values; status = bus.status }) memory log
    ∙ ap₂ (λ (s : AhbStatus) (x : Setup). record { setup = x; log = []; transfers = []; begun = false; values = first_words setup.config.ram setup.image; status = s }) status value in
    record {
      script = ap (λ (m : MemoryState). m.script) memory ∙ ap (λ (s : Setup). s.flips) (sym value);
      room = ap (λ (m : MemoryState). m.room) memory ∙ ap (λ (s : Setup). most_transfers s.config) (sym value);
      log_room = ap (λ (l : LogState). l.room) log ∙ ap (λ (s : Setup). most_entries s.config) (sym value);
      ok = subst BusOk (sym same) (ok_start setup whole cores bytes);
    }

module _ (old : Inside) (is : IsBus old) where
  -- memory as users see it
  pub memory_is : old.memory ≡ memory_of (seen old)
  memory_is =
      ap₂ (λ (script : List Flip) (room : ℕ). record { script = script; transfers = old.memory.transfers; begun = old.memory.begun; values = old.memory.values; room = room }) is.script is.room

  module _ (asked : Transfer) (taken : IsTaken (seen old) asked) where
    pub room_for : length old.memory.transfers < old.memory.room
    room_for =
        let less = room_left old.setup.value.config old.memory.transfers old.log.entries is.ok.cores is.ok.shares asked taken.left in
        omega (arith, less, is.room)

    -- the transfer is made, and memory, log and AHBSTAT are these
    module _ (values : List ℕ) (entries : List Entry) {memory : MemoryState} {log : LogState} {status : AhbStatus}
        (turned : memory ≡ made asked (record old.memory { values = values }))
        (entered : log ≡ record old.log { entries = old.log.entries ++ entries })
        (noted : status ≡ status_by old.status (with_answer (words_met old.memory) asked)) where
      pub seen_made : seen (record old { memory = memory; log = log; status = status }) ≡ after_turn asked entries values (seen old)
      seen_made =
          ap₂ (λ (m : MemoryState) (l : LogState). record { setup = old.setup.value; log = l.entries; transfers = m.transfers; begun = m.begun; values = m.values; status = status }) turned entered
          ∙ ap (λ (s : AhbStatus). record {
            setup = old.setup.value;
            log = old.log.entries ++ entries;
            transfers = old.memory.transfers ++ with_answer (words_met old.memory) asked ∷ [];
            begun = false;
            values = values;
            status = s;
          }) noted
          ∙ ap (λ (m : MemoryState). record {
            setup = old.setup.value;
            log = old.log.entries ++ entries;
            transfers = old.memory.transfers ++ with_answer (words_met m) asked ∷ [];
            begun = false;
            values = values;
            status = status_by old.status (with_answer (words_met m) asked);
          }) memory_is

      pub bus_made : old.memory.begun ≡ true → Leaves (seen old) asked entries values → IsBus (record old { memory = memory; log = log; status = status })
      bus_made begun leaves = record {
        script = ap (λ (m : MemoryState). m.script) turned ∙ is.script;
        room = ap (λ (m : MemoryState). m.room) turned ∙ is.room;
        log_room = ap (λ (l : LogState). l.room) entered ∙ is.log_room;
        ok = subst BusOk (sym seen_made) (ok_made (seen old) asked entries values is.ok begun taken leaves);
      }

    -- the same with the log as before
    module _ {memory : MemoryState} {status : AhbStatus} (turned : memory ≡ made asked old.memory)
        (noted : status ≡ status_by old.status (with_answer (words_met old.memory) asked)) where
      same_log : old.log ≡ record old.log { entries = old.log.entries ++ [] }
      same_log = ap (λ (es : List Entry). record old.log { entries = es }) (sym (append-nil old.log.entries))

      pub bus_read : old.memory.begun ≡ true → makes_entry asked.kind ≡ false → asked.len ≡ 0 → IsBus (record old { memory = memory; status = status })
      bus_read begun makes len = bus_made old.memory.values [] turned same_log noted begun (leaves_none (seen old) asked is.ok taken makes len)

      pub seen_read : seen (record old { memory = memory; status = status }) ≡ after_turn asked [] old.memory.values (seen old)
      seen_read = seen_made old.memory.values [] turned same_log noted

-- the fields that users see
pub begun_in : (old : Inside) (s : BusState) → seen old ≡ s → s.begun ≡ true → old.memory.begun ≡ true
begun_in old s view begun = ap (λ (b : BusState). b.begun) view ∙ begun

pub taken_in : (old : Inside) (s : BusState) (asked : Transfer) → seen old ≡ s → IsTaken s asked → IsTaken (seen old) asked
taken_in old s asked view taken = subst (λ (b : BusState). IsTaken b asked) (sym view) taken

-- ---- the transfer that is asked for

module _ (s : BusState) (w : Who) (kind : TurnKind) (why : Why) (addr turn : ℕ) {t : Transfer}
    (is : t ≡ record { syn = 0; turn = turn; master = w.master; step = w.step; addr = addr; kind = kind; why = why; way = 0; words = 0; len = 0 })
    (now : turn ≡ length s.transfers) where
  pub plain_asked : t ≡ asked_by s w kind why addr 0 0
  plain_asked = is ∙ ap (λ (n : ℕ). record { syn = 0; turn = n; master = w.master; step = w.step; addr = addr; kind = kind; why = why; way = 0; words = 0; len = 0 }) now

  pub way_asked : (way : ℕ) → record t { way = way } ≡ asked_by s w kind why addr way 0
  way_asked way = ap (λ (u : Transfer). record u { way = way }) plain_asked

  pub len_asked : (len : ℕ) → record t { len = len } ≡ asked_by s w kind why addr 0 len
  len_asked len = ap (λ (u : Transfer). record u { len = len }) plain_asked

-- ---- stores and atomics

values_alone : (m : MemoryState) (b : Bool) (values : List ℕ) → cond b m (record m { values = values }) ≡ record m { values = (cond b m (record m { values = values })).values }
values_alone m true values = refl
values_alone m false values = refl

pub merged_values : (addr len value : ℕ) (m : MemoryState) → merged_in addr len value m ≡ record m { values = (merged_in addr len value m).values }
merged_values addr len value m = values_alone m (is_bad_at m (word_of addr)) (slice_set m.values (place_of addr) (merged (value_at m addr) addr len value))

pub stored_values : (addr len value : ℕ) (m : MemoryState) → stored addr len value m ≡ record m { values = (stored addr len value m).values }
stored_values addr len value m = by (nat_lt len 4) (nat_eq len 4)
  where
    by : (short word : Bool) → cond short (merged_in addr len value m) (cond word (record m { values = slice_set m.values (place_of addr) value })
        (record m { values = slice_set (slice_set m.values (place_of addr) (value / 2 ^ 32)) (place_of (addr + 4)) (value % 2 ^ 32) }))
        ≡ record m {
          values = (cond short (merged_in addr len value m) (cond word (record m { values = slice_set m.values (place_of addr) value })
              (record m { values = slice_set (slice_set m.values (place_of addr) (value / 2 ^ 32)) (place_of (addr + 4)) (value % 2 ^ 32) }))).values;
        }
    by true word = merged_values addr len value m
    by false true = refl
    by false false = refl

-- the word of a store or an atomic, and whether it is bad, as memory has it
abbrev pub bad_in : MemoryState → ℕ → Bool
bad_in m addr = is_bad_at m (word_of addr)

abbrev pub lost_in : MemoryState → ℕ → ℕ → Bool
lost_in m addr len = nat_lt len 4 && is_bad_at m (word_of addr)

abbrev pub word_at : MemoryState → ℕ → ℕ
word_at m addr = value_at m (word_of addr)

-- a store has its entry exactly where it is not lost
pub store_entered : (m : MemoryState) (addr len : ℕ) (e : Entry) → cond (is_ok (store_answer m addr len)) (e ∷ []) [] ≡ cond (nat_lt len 4 && is_bad_at m (word_of addr)) [] (e ∷ [])
unfolding store_answer
store_entered m addr len e = by (nat_lt len 4 && is_bad_at m (word_of addr))
  where
    by : (b : Bool) → cond (is_ok {T = ℕ} {E = Bad} (cond b (Err (record { addr = word_of addr; syn = syndrome_at m (word_of addr) })) (Ok (cond (nat_lt len 4) (syndrome_at m (word_of addr)) 0)))) (e ∷ []) [] ≡ cond b [] (e ∷ [])
    by true = refl
    by false = refl

-- an atomic has its entry exactly where its word is not bad
pub atomic_entered : (m : MemoryState) (w : Who) (p : Pending) (addr : ℕ)
    → cond (is_ok (read_answer m addr)) (atomic_entry w p (word_of_answer (read_answer m addr)) ∷ []) [] ≡ cond (is_bad_at m addr) [] (atomic_entry w p (value_at m addr) ∷ [])
unfolding read_answer
atomic_entered m w p addr = by (is_bad_at m addr)
  where
    by : (b : Bool) → cond (is_ok {T = Got} {E = Bad} (cond b (Err (record { addr = addr; syn = syndrome_at m addr })) (Ok (record { value = value_at m addr; syn = syndrome_at m addr }))))
        (atomic_entry w p (word_of_answer (cond b (Err (record { addr = addr; syn = syndrome_at m addr })) (Ok (record { value = value_at m addr; syn = syndrome_at m addr })))) ∷ []) []
        ≡ cond b [] (atomic_entry w p (value_at m addr) ∷ [])
    by true = refl
    by false = refl

-- ---- what is known of a core's store or atomic

module _ (old : Inside) (is : IsBus old) (w : Who) (p : Pending) (may : MayStore w p (seen old)) where
  pub entry_room : length old.log.entries < old.log.room
  entry_room =
      let less = log_room_left old.setup.value.config old.memory.transfers old.log.entries is.ok.cores is.ok.shares w.master may.turn.master may.entry in
      omega (arith, less, is.log_room)

  pub master_in : w.master < 9
  master_in = let core = may.turn.master in let few = is.ok.cores in omega (arith, core, few)

  module _ (aligned : p.addr % p.len ≡ 0) (fits : p.value < 2 ^ (8 * p.len)) where
    pub store_leaves : (why : Why) → is_length p.len ≡ true → IsTaken (seen old) (asked_by (seen old) w Store why p.addr 0 p.len)
        → Leaves (seen old) (asked_by (seen old) w Store why p.addr 0 p.len) (cond (lost_in old.memory p.addr p.len) [] (store_entry w p ∷ [])) (stored p.addr p.len p.value old.memory).values
    store_leaves why size taken =
        subst (λ (m : MemoryState). Leaves (seen old) (asked_by (seen old) w Store why p.addr 0 p.len) (cond (lost_in m p.addr p.len) [] (store_entry w p ∷ [])) (stored p.addr p.len p.value m).values)
        (sym (memory_is old is)) (leaves_store (seen old) is.ok w p may.turn may.entry may.in_ram aligned fits may.text why size taken)

    pub atomic_leaves : IsTrue (nat_eq p.len 1 || nat_eq p.len 4) → IsTaken (seen old) (asked_by (seen old) w Atomic whys.None p.addr 0 p.len)
        → Leaves (seen old) (asked_by (seen old) w Atomic whys.None p.addr 0 p.len) (cond (bad_in old.memory p.addr) [] (atomic_entry w p (word_at old.memory p.addr) ∷ [])) (merged_in p.addr p.len p.value old.memory).values
    atomic_leaves size taken =
        subst (λ (m : MemoryState). Leaves (seen old) (asked_by (seen old) w Atomic whys.None p.addr 0 p.len) (cond (bad_in m p.addr) [] (atomic_entry w p (word_at m p.addr) ∷ [])) (merged_in p.addr p.len p.value m).values)
        (sym (memory_is old is)) (leaves_atomic (seen old) is.ok w p may.turn may.entry may.in_ram aligned fits may.text size (word_at (memory_of (seen old)) p.addr) taken)

-- entries that the log takes
pub is_length_of : (len : ℕ) → is_length len ≡ true → Contains (1 ∷ 2 ∷ 4 ∷ 8 ∷ []) len
is_length_of len is = elim (cases_eq len 1) [
  | inl one ↦ (0, omega arith, sym one)
  | inr no_one ↦ elim (cases_eq len 2) [
    | inl two ↦ (1, omega arith, sym two)
    | inr no_two ↦ elim (cases_eq len 4) [
      | inl four ↦ (2, omega arith, sym four)
      | inr no_four ↦ let eight : len ≡ 8 = grind (arith, nat_tests) in (3, omega arith, sym eight)
    ]
  ]
]

pub atomic_is_length : (len : ℕ) → IsTrue (nat_eq len 1 || nat_eq len 4) → is_length len ≡ true
atomic_is_length len is = grind (arith, nat_tests)
