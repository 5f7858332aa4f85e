-- The bus stays right: at the start, as a turn begins, and as its transfer is made.
use Rattle.std.proofs.Common.{◌≡◌, ℕ, zero, suc, ◌+◌, ◌*◌, ◌/◌, ◌%◌, ◌^◌, ◌≤◌, ◌&&◌, Bool, true, false, cond, List, [], ◌∷◌, ◌++◌, length, map, refl, sym, ap, ap₂, ◌∙◌, subst, arith}
use Rattle.std.specs.Prelude.{filter}
use Rattle.std.specs.List.{list_all, range_with_len}
use Rattle.std.proofs.lemmas.Bool.{lt-ltb, eq-eqb, false≢true}
use Rattle.std.proofs.lemmas.List.{append-nil, map-append, length-append}
use Rattle.std.proofs.lemmas.List.Elements.{filter-append}
use Rattle.std.proofs.lemmas.List.Folds.{list_all-append}
use Rattle.std.proofs.lemmas.List.FromFn.{length-map-range_with_len, get_or-map-range_with_len}
use Rattle.std.proofs.lemmas.List.Sums.{fold_push}
use Rattle.bus_memory.proofs.HistoryLemmas.{answers_push, words_in_turn}
use Rattle.bus_memory.specs.MemoryState.{words_at, words_met}
use Rattle.lf_model.specs.Bus.Status.{AhbStatus, status_start, status_by}
use Rattle.lf_model.specs.Bus.Words.{Word, words_begun}
use Rattle.lf_model.specs.Promise.Regular.{turn_of}
use Rattle.lf_model.specs.Promise.RegularTransfer.{is_regular_on_bus}
use Rattle.lf_model.specs.Records.BusMemory.{memory_after, with_answer}
use Rattle.lf_model.specs.Records.BusRecord.{Placed, is_successful, entry_placed, transfer_placed, leaves_text, length_fits, has_length, is_in_memory}
use Rattle.lf_model.specs.TransferLines.{makes_entry}
use Rattle.lf_model.specs.Start.{ram_first, word_at}
use Rattle.lf_model.specs.declared.setup.Setup.{Setup}
use Rattle.ram_words.specs.Ram.{first_words}
use Rattle.lf_model.specs.declared.bus.Entry.{Entry}
use Rattle.lf_model.specs.declared.bus.Transfer.{Transfer}
use Rattle.lf_model.specs.declared.bus.TurnKind.{TurnKind}
use Rattle.lf_model.specs.declared.bus.TurnKind.TheVariants.{Fetch, Load, Store, Atomic, Snoop, Look, Fix}
use Rattle.ahb_bus.specs.Asks.{IsTaken}
use Rattle.ahb_bus.specs.BusOk.{AreLeft, AreShared, BusOk, HasBytes}
use Rattle.ahb_bus.specs.BusState.{BusState, memory_of, answered, after_turn}
use Rattle.ahb_bus.proofs.AnsweredLemmas.{other_successful, words_answered, syndromes_answered}
use Rattle.ahb_bus.proofs.ShareLemmas.{shared_made}

-- both tests pass
both : {a b : Bool} → a ≡ true → b ≡ true → (a && b) ≡ true
both ea eb = rw (ea, eb) refl

-- a test passes of all elements and of one more
all_push : {X : Type 0} (p : X → Bool) (xs : List X) (x : X) → list_all p xs ≡ true → p x ≡ true → list_all p (xs ++ x ∷ []) ≡ true
all_push p xs x all is = list_all-append p xs (x ∷ []) ∙ both all (both is refl)

-- the numbers from one on, and one more
range_more : (a n : ℕ) → range_with_len a (n + 1) ≡ range_with_len a n ++ (a + n) ∷ []
range_more a zero = ap (λ (k : ℕ). k ∷ []) (let e : a ≡ a + 0 = omega arith in e)
range_more a (suc n) = ap (range_with_len a) (let e : suc n + 1 ≡ suc (n + 1) = omega arith in e) ∙ ap (λ (xs : List ℕ). a ∷ xs) (range_more (a + 1) n ∙ ap (λ (k : ℕ). range_with_len (a + 1) n ++ k ∷ []) (let e : a + 1 + n ≡ a + suc n = omega arith in e))

-- ---- at the start

abbrev pub started : Setup → BusState
started setup = record {
  setup = setup;
  log = [];
  transfers = [];
  begun = false;
  values = first_words setup.config.ram setup.image;
  status = status_start;
}

pub ok_start : (setup : Setup) → setup.config.ram % 4 ≡ 0 → setup.config.cores ≤ 8 → HasBytes setup.image → BusOk (started setup)
ok_start setup whole cores bytes = record {
  cores = cores;
  log_is = refl;
  text = refl;
  bytes = bytes;
  size = let long : length (first_words setup.config.ram setup.image) ≡ setup.config.ram / 4 = length-map-range_with_len _ 0 (setup.config.ram / 4) in omega (arith, long, whole);
  memory_is = λ place within.
      let long : length (first_words setup.config.ram setup.image) ≡ setup.config.ram / 4 = length-map-range_with_len _ 0 (setup.config.ram / 4) in
      get_or-map-range_with_len (λ k. word_at setup.image (ram_first + 4 * k)) 0 (setup.config.ram / 4) place place 0 (omega (arith, within, long)) (omega arith);
  answered = refl;
  status_is = refl;
  turns = refl;
  regular = refl;
  lengths = refl;
  in_memory = refl;
  shares = record {
    masters = tt;
    core_share = λ c lt. omega arith;
    scrub_share = omega arith;
    cores_of_entries = tt;
    entries_share = λ c lt. omega arith;
  };
}

-- ---- a turn begins

pub ok_begun : (bus : BusState) → BusOk bus → BusOk (record bus { begun = true })
ok_begun bus ok = record {
  cores = ok.cores;
  log_is = ok.log_is;
  text = ok.text;
  bytes = ok.bytes;
  size = ok.size;
  memory_is = ok.memory_is;
  answered = ok.answered;
  status_is = ok.status_is;
  turns = ok.turns;
  regular = ok.regular;
  lengths = ok.lengths;
  in_memory = ok.in_memory;
  shares = ok.shares;
}

-- ---- its transfer is made

module _ (bus : BusState) (asked : Transfer) where
  -- what it leaves: the log has these entries more, and memory these numbers
  pub record Leaves (entries : List Entry) (values : List ℕ) : Type 0 where
    pub log : map entry_placed entries ≡ map transfer_placed (filter is_successful (answered bus asked ∷ []))
    pub text : list_all (leaves_text bus.setup.image.text) entries ≡ true
    pub length_is : has_length (answered bus asked) ≡ true
    pub count : length values ≡ length bus.values
    pub left : AreLeft bus.setup.image (bus.log ++ entries) values
    pub shares : AreShared bus.setup.config (bus.transfers ++ answered bus asked ∷ []) (bus.log ++ entries)

  regular_made : IsTaken bus asked → is_regular_on_bus (answered bus asked) ≡ true
  regular_made taken =
      both (lt-ltb asked.turn (2 ^ 32) taken.fields.turn) (both (lt-ltb asked.master (2 ^ 32) taken.fields.master) (both (lt-ltb asked.step (2 ^ 32) taken.fields.step)
      (both taken.cause (both taken.address (both taken.way
      (both (words_answered asked.addr asked.len asked.kind) (syndromes_answered (words_met (memory_of bus)) asked)))))))

  -- the words that it meets are the definitions'
  words_are : bus.begun ≡ true → words_met (memory_of bus) ≡ words_begun bus.setup.flips (length bus.transfers) (memory_after bus.setup.flips [] bus.transfers).words
  words_are begun = ap (words_at bus.setup.flips bus.transfers) begun ∙ words_in_turn bus.setup.flips bus.transfers

  answered_made : BusOk bus → bus.begun ≡ true → (memory_after bus.setup.flips [] (bus.transfers ++ answered bus asked ∷ [])).answers ≡ bus.transfers ++ answered bus asked ∷ []
  answered_made ok begun =
      answers_push bus.setup.flips [] bus.transfers (answered bus asked)
      ∙ ap₂ (λ (ts : List Transfer) (words : List Word). ts ++ with_answer words asked ∷ []) ok.answered (sym (words_are begun))

  turns_made : BusOk bus → IsTaken bus asked → map turn_of (bus.transfers ++ answered bus asked ∷ []) ≡ range_with_len 0 (length (bus.transfers ++ answered bus asked ∷ []))
  turns_made ok taken =
      map-append turn_of bus.transfers (answered bus asked ∷ [])
      ∙ ap₂ (λ (ns : List ℕ) (n : ℕ). ns ++ n ∷ []) ok.turns (taken.turn ∙ (let e : length bus.transfers ≡ 0 + length bus.transfers = omega arith in e))
      ∙ sym (range_more 0 (length bus.transfers))
      ∙ ap (range_with_len 0) (sym (length-append bus.transfers (answered bus asked ∷ [])))

  pub ok_made : (entries : List Entry) (values : List ℕ) → BusOk bus → bus.begun ≡ true → IsTaken bus asked → Leaves entries values → BusOk (after_turn asked entries values bus)
  ok_made entries values ok begun taken leaves = record {
    cores = ok.cores;
    log_is =
        map-append entry_placed bus.log entries
        ∙ ap₂ (λ (xs ys : List Placed). xs ++ ys) ok.log_is leaves.log
        ∙ sym (map-append transfer_placed (filter is_successful bus.transfers) (filter is_successful (answered bus asked ∷ [])))
        ∙ ap (map transfer_placed) (sym (filter-append is_successful bus.transfers (answered bus asked ∷ [])));
    text = list_all-append (leaves_text bus.setup.image.text) bus.log entries ∙ both ok.text leaves.text;
    bytes = ok.bytes;
    size = ap (λ (n : ℕ). 4 * n) leaves.count ∙ ok.size;
    memory_is = leaves.left;
    answered = answered_made ok begun;
    status_is = ap (λ (s : AhbStatus). status_by s (answered bus asked)) ok.status_is ∙ sym (fold_push status_by status_start bus.transfers (answered bus asked));
    turns = turns_made ok taken;
    regular = all_push is_regular_on_bus bus.transfers (answered bus asked) ok.regular (regular_made taken);
    lengths = all_push has_length bus.transfers (answered bus asked) ok.lengths leaves.length_is;
    in_memory = all_push (is_in_memory bus.setup.config.ram) bus.transfers (answered bus asked) ok.in_memory taken.place;
    shares = leaves.shares;
  }

  -- the share of its master
  pub shares_made : BusOk bus → IsTaken bus asked → AreShared bus.setup.config (bus.transfers ++ answered bus asked ∷ []) bus.log
  shares_made ok taken =
      shared_made bus.setup.config bus.transfers bus.log ok.cores ok.shares (answered bus asked)
      (record { master = taken.left.master; core_share = taken.left.core_share; scrub_share = taken.left.scrub_share })

-- ---- a transfer that makes no entry

no_length : (t : Transfer) (kind : TurnKind) → makes_entry kind ≡ false → t.len ≡ 0 → length_fits t kind ≡ true
no_length t Fetch makes len = eq-eqb t.len 0 len
no_length t Load makes len = eq-eqb t.len 0 len
no_length t Store makes len = absurd (false≢true (sym makes))
no_length t Atomic makes len = absurd (false≢true (sym makes))
no_length t Snoop makes len = eq-eqb t.len 0 len
no_length t Look makes len = eq-eqb t.len 0 len
no_length t Fix makes len = eq-eqb t.len 0 len

pub leaves_none : (bus : BusState) (asked : Transfer) → BusOk bus → IsTaken bus asked → makes_entry asked.kind ≡ false → asked.len ≡ 0 → Leaves bus asked [] bus.values
leaves_none bus asked ok taken makes len = record {
  log = ap (λ (b : Bool). map transfer_placed (cond b (answered bus asked ∷ []) [])) (sym (other_successful (words_met (memory_of bus)) asked makes));
  text = refl;
  length_is = no_length (answered bus asked) asked.kind makes len;
  count = refl;
  left = subst (λ (log : List Entry). AreLeft bus.setup.image log bus.values) (sym (append-nil bus.log)) ok.memory_is;
  shares = subst (AreShared bus.setup.config (bus.transfers ++ answered bus asked ∷ [])) (sym (append-nil bus.log)) (shares_made bus asked ok taken);
}
