-- What holds of memory over the transfers goes on to hold as a turn's transfer is made.
use Rattle.std.proofs.Common.{◌≡◌, ◌≢◌, ℕ, ◌+◌, ◌*◌, ◌/◌, ◌%◌, ◌^◌, ◌<◌, ◌≤◌, Bool, true, false, ◌||◌, cond, nat_eq, nat_lt, zero, suc, List, [], ◌∷◌, ◌++◌, length, map, slice_index, slice_set, Option, Some, None, Result, Ok, Err, IsTrue, Vec, Global, vec_len, vec_capacity, refl, sym, ap, ap₂, ◌∙◌, subst, ◌&&◌, inl, inr, arith}
use Rattle.std.specs.List.{AllByRecursion}
use Rattle.std.proofs.lemmas.Bool.{lt-ltb, ltb-true, eq-eqb, ne_eqb, cases_eq, false≢true}
use Rattle.std.proofs.lemmas.Bool.Decides.{nat_tests}
use Rattle.std.proofs.lemmas.List.{set-get_or, length-set, length-append}
use Rattle.coded_words.specs.Words.{Words, ended, written}
use Rattle.flip_ledger.specs.declared.plan.Strike.{Strike}
use Rattle.ft_memory.specs.Memory.{answer_of_read, answer_of_part, answer_of_fix, line_of, fixed, at_start, value_shown as value_in, word_shown as shown_in, syndrome_at as syndrome_in, is_bad_at as bad_in, with_write as written_in}
use Rattle.lf_num.specs.Columns.{columns_sum}
use Rattle.bus_memory.specs.Answers.{syndrome_of_answer, syndrome_of_read, syndrome_of_fix}
use Rattle.lf_model.specs.Bus.Words.{Word, word_of, words_of_line, write_of, with_write, touches_word}
use Rattle.lf_model.specs.Caches.Slot.{history_at, befalls}
use Rattle.std.specs.Prelude.{filter, fold}
use Rattle.lf_model.specs.Flips.{How, Moment, Standing, places_below, is_turned, turned, turned_bits, word_bits, word_budget, is_bad_word, is_fixed_word, syndrome}
use Rattle.lf_model.specs.Flips.How.{Whole, ByPartStore}
use Rattle.lf_model.specs.Records.BusMemory.{words_asked, with_answer}
use Rattle.lf_model.specs.Start.{ram_first, is_in_ram}
use Rattle.lf_model.specs.declared.bus.Bad.{Bad}
use Rattle.lf_model.specs.declared.bus.Line.{Line}
use Rattle.lf_model.specs.declared.bus.Transfer.{Transfer}
use Rattle.lf_model.specs.declared.bus.TurnKind.{TurnKind}
use Rattle.lf_model.specs.declared.bus.TurnKind.TheVariants.{Fetch, Load, Store, Atomic, Snoop, Look, Fix}
use Rattle.bus_memory.specs.Followed.{IsWordAt}
use Rattle.bus_memory.specs.Inside.{seen, IsBusMemory}
use Rattle.bus_memory.specs.Kept.{IsKept}
use Rattle.bus_memory.specs.MemoryState.{MemoryState, words_at, met, read_answer, store_answer, line_shown, word_shown, value_shown, fix_answer, is_bad_at, syndrome_at, made, merged_in, reads_line}
use Rattle.bus_memory.specs.declared.memory.BusMemory.TheInside.{Inside}
use Rattle.bus_memory.proofs.AskedLemmas.{joined, line_words, map_agree, line_answered, word_answered, none_answered}
use Rattle.lf_model.proofs.EachLemmas.{each_weaker}
use Rattle.bus_memory.proofs.KeptLemmas.{kept_start, kept_made}
use Rattle.bus_memory.specs.Strikes.{AimsAt}
use Rattle.flip_ledger.specs.Plan.{IsPlanned}
use Rattle.flip_ledger.specs.declared.plan.Owner.TheVariants.{Memory}
use Rattle.lf_model.specs.declared.setup.Setup.{Setup}
use Rattle.std.proofs.lemmas.List.FromFn.{length-map-range_with_len}
use Rattle.lf_model.specs.Start.{word_at as word_at_image}
use Rattle.bus_memory.proofs.PlaceLemmas.{place_of-word}
use Rattle.bus_memory.proofs.ReadLemmas.{standing_same, syndrome_same, bad_same, fixed_same}
use Rattle.bus_memory.proofs.WriteLemmas.{Writes, writes_word, written_whole, touches_own, touches_no_other}
use Rattle.ram_words.specs.Parts.{is_part, merged}
use Rattle.ram_words.specs.Ram.{place_of}
use Rattle.ram_words.specs.declared.answer.Fixed.{Fixed}
use Rattle.ram_words.specs.declared.answer.Fixed.TheVariants as fixes
use Rattle.ram_words.specs.declared.answer.Got.{Got}

-- ---- addresses

pub ram_above : (count addr len : ℕ) → IsTrue (is_in_ram (4 * count) addr len) → ram_first ≤ addr
ram_above count addr len in_ram = grind (arith, nat_tests)

pub ram_below : (count addr len : ℕ) → IsTrue (is_in_ram (4 * count) addr len) → addr + len ≤ ram_first + 4 * count
ram_below count addr len in_ram = grind (arith, nat_tests)

place_within : (count addr len : ℕ) → ram_first ≤ addr → addr + len ≤ ram_first + 4 * count → 0 < len → place_of addr < count
place_within count addr len above below some = omega arith

line_within : (count line : ℕ) → ram_first ≤ line → line + 32 ≤ ram_first + 4 * count → place_of line + 8 ≤ count
line_within count line above below = omega arith

word_is_aligned : (addr : ℕ) → word_of addr % 4 ≡ 0
word_is_aligned addr = omega arith

word_above : (addr : ℕ) → ram_first ≤ addr → ram_first ≤ word_of addr
word_above addr above = omega arith

word_itself : (addr : ℕ) → addr % 4 ≡ 0 → word_of addr ≡ addr
word_itself addr aligned = omega arith

-- the word that an address of RAM lies in
pub word_there : (count addr len : ℕ) → IsTrue (is_in_ram (4 * count) addr len) → 0 < len → IsWordAt count (word_of addr)
word_there count addr len in_ram some =
    let above : ram_first ≤ addr = ram_above count addr len in_ram in
    record {
      aligned = word_is_aligned addr;
      above = word_above addr above;
      within = rw (place_of-word addr above) (place_within count addr len above (ram_below count addr len in_ram) some);
    }

pub word_at : (count addr : ℕ) → IsTrue (is_in_ram (4 * count) addr 4) → addr % 4 ≡ 0 → IsWordAt count addr
word_at count addr in_ram aligned = subst (IsWordAt count) (word_itself addr aligned) (word_there count addr 4 in_ram (omega arith))

-- ---- reading

module _ (old : Inside) (is : IsBusMemory old) where
  words_of_old : List Word
  words_of_old = words_at old.script.value old.transfers.items old.begun

  module _ (addr : ℕ) (at : IsWordAt (length old.memory.histories) addr) where
    here : List Moment
    here = history_at (place_of addr) old.memory.histories

    bad_is : is_bad_word (history_at (place_of addr) old.memory.histories) ≡ is_bad_at (seen old) addr
    bad_is = sym (bad_same (words_at old.script.value old.transfers.items old.begun) old.memory.histories addr is.kept.follows at)

    fixed_is : is_fixed_word (history_at (place_of addr) old.memory.histories) ≡ is_fixed_word (met (seen old) addr)
    fixed_is = sym (fixed_same (words_at old.script.value old.transfers.items old.begun) old.memory.histories addr is.kept.follows at)

    turned_is : turned_bits (history_at (place_of addr) old.memory.histories) ≡ turned_bits (met (seen old) addr)
    turned_is = ap (turned word_bits) (sym (standing_same (words_at old.script.value old.transfers.items old.begun) old.memory.histories addr is.kept.follows at word_budget))

    pub syndrome_is : syndrome (history_at (place_of addr) old.memory.histories) ≡ syndrome_at (seen old) addr
    syndrome_is = sym (syndrome_same (words_at old.script.value old.transfers.items old.begun) old.memory.histories addr is.kept.follows at)

    shown_is : shown_in old.memory addr ≡ word_shown (seen old) addr
    shown_is = ap (λ (bad : Bool). cond bad 0 (slice_index old.memory.values (place_of addr))) bad_is

    reads_as : Bool → ℕ → Result Got Bad
    reads_as bad syn = cond bad (Err (record { addr = addr; syn = syn })) (Ok (record { value = slice_index old.memory.values (place_of addr); syn = syn }))

    pub read_is : answer_of_read old.memory addr ≡ read_answer (seen old) addr
    unfolding answer_of_read read_answer reads_as
    read_is = ap₂ reads_as bad_is syndrome_is

    part_as : Bool → ℕ → Result ℕ Bad
    part_as bad syn = cond bad (Err (record { addr = addr; syn = syn })) (Ok syn)

    peeks_as : Bool → Option ℕ
    peeks_as bad = cond bad None (Some (slice_index old.memory.values (place_of addr)))

    pub peek_is : value_in old.memory addr ≡ value_shown (seen old) addr
    unfolding value_in value_shown peeks_as
    peek_is = ap peeks_as bad_is

    fix_as : Bool → Bool → List ℕ → ℕ → Fixed
    fix_as bad fixed bits syn = cond bad (fixes.Bad syn) (cond fixed (fixes.Corrected (slice_index bits 0) syn) fixes.Clean)

    pub fix_is : answer_of_fix old.memory addr ≡ fix_answer (seen old) addr
    unfolding answer_of_fix fix_answer fix_as
    fix_is =
        ap₂ (λ (bad : Bool) (syn : ℕ). fix_as bad (is_fixed_word (history_at (place_of addr) old.memory.histories)) (turned_bits (history_at (place_of addr) old.memory.histories)) syn) bad_is syndrome_is
        ∙ ap₂ (λ (fixed : Bool) (bits : List ℕ). fix_as (is_bad_at (seen old) addr) fixed bits (syndrome_at (seen old) addr)) fixed_is turned_is

  module _ (line : ℕ) (all : AllByRecursion (IsWordAt (length old.memory.histories)) (words_of_line line)) where
    pub syndromes_are : map (syndrome_in old.memory) (words_of_line line) ≡ map (syndrome_at (seen old)) (words_of_line line)
    syndromes_are =
        map_agree (syndrome_in old.memory) (syndrome_at (seen old)) (words_of_line line)
        (each_weaker (IsWordAt (length old.memory.histories)) (λ addr. syndrome_in old.memory addr ≡ syndrome_at (seen old) addr) (words_of_line line) syndrome_is all)

    pub line_is : line_of old.memory line ≡ line_shown (seen old) line
    line_is =
        ap₂ (λ (words : List ℕ) (syns : List ℕ). record { words = words; syn = syns; bad = map (bad_in old.memory) (words_of_line line) })
        (map_agree (shown_in old.memory) (word_shown (seen old)) (words_of_line line)
        (each_weaker (IsWordAt (length old.memory.histories)) (λ addr. shown_in old.memory addr ≡ word_shown (seen old) addr) (words_of_line line) shown_is all))
        syndromes_are
        ∙ ap (λ (bad : List Bool). record { words = map (word_shown (seen old)) (words_of_line line); syn = map (syndrome_at (seen old)) (words_of_line line); bad = bad })
        (map_agree (bad_in old.memory) (is_bad_at (seen old)) (words_of_line line)
        (each_weaker (IsWordAt (length old.memory.histories)) (λ addr. bad_in old.memory addr ≡ is_bad_at (seen old) addr) (words_of_line line) bad_is all))

  -- ---- the turn's transfer

  module _ (begun : old.begun ≡ true) (room : length old.transfers.items < vec_capacity old.transfers) where
    pub room_for : vec_len old.transfers < vec_capacity old.transfers
    room_for = omega (arith, room, old.transfers.ok.0)

    pub past_fits : length old.memory.past + 1 < 2 ^ 32
    past_fits = omega (arith, room, is.kept.past, is.room)

    words_begun_is : words_at old.script.value old.transfers.items true ≡ words_at old.script.value old.transfers.items old.begun
    words_begun_is = ap (words_at old.script.value old.transfers.items) (sym begun)

    -- the words and syndromes that were read
    module _ (asked : Transfer) where
      pub line_made : (line : Line) → line ≡ line_of old.memory asked.addr → reads_line asked.kind ≡ true
          → AllByRecursion (IsWordAt (length old.memory.histories)) (words_of_line asked.addr)
          → record asked { syn = joined line.syn; words = 8 } ≡ with_answer (words_at old.script.value old.transfers.items old.begun) asked
      line_made line read kind all =
          ap (λ (syns : List ℕ). record asked { syn = joined syns; words = 8 }) (ap (λ (l : Line). l.syn) read ∙ syndromes_are asked.addr all)
          ∙ sym (line_answered asked (words_at old.script.value old.transfers.items old.begun) kind)

      pub word_made : (addr syn : ℕ) → words_asked asked ≡ addr ∷ [] → IsWordAt (length old.memory.histories) addr → syn ≡ syndrome (history_at (place_of addr) old.memory.histories)
          → record asked { syn = syn * 2 ^ 56; words = 1 } ≡ with_answer (words_at old.script.value old.transfers.items old.begun) asked
      word_made addr syn read at was =
          ap (λ (n : ℕ). record asked { syn = n * 2 ^ 56; words = 1 }) (was ∙ syndrome_is addr at)
          ∙ sym (word_answered asked (words_at old.script.value old.transfers.items old.begun) addr read)

      pub none_made : words_asked asked ≡ [] → record asked { syn = 0; words = 0 } ≡ with_answer (words_at old.script.value old.transfers.items old.begun) asked
      none_made read = sym (none_answered asked (words_at old.script.value old.transfers.items old.begun) read)

      module _ (transfer : Transfer) (values : List ℕ) (hs : List (List Moment)) (memory : Words) (transfers : Vec Transfer Global)
          (written : memory ≡ ended (record old.memory { values = values; histories = hs }))
          (noted : transfers.items ≡ old.transfers.items ++ transfer ∷ [])
          (reserved : vec_capacity transfers ≡ vec_capacity old.transfers)
          (answer : transfer ≡ with_answer (words_at old.script.value old.transfers.items old.begun) asked) where
        pub closed : length values ≡ length old.memory.values → Writes asked old.memory.histories hs
            → IsBusMemory (record old { memory = memory; transfers = transfers; begun = false })
        closed same writes =
            let kept : IsKept old.script.value old.transfers.items true old.memory old.plan = subst (λ (b : Bool). IsKept old.script.value old.transfers.items b old.memory old.plan) begun is.kept in
            let after : IsKept old.script.value (old.transfers.items ++ with_answer (words_at old.script.value old.transfers.items true) asked ∷ []) false (ended (record old.memory { values = values; histories = hs })) old.plan =
            kept_made old.script.value old.transfers.items old.memory old.plan asked values hs kept same writes in
            let items : transfers.items ≡ old.transfers.items ++ with_answer (words_at old.script.value old.transfers.items true) asked ∷ [] =
            noted ∙ ap (λ (t : Transfer). old.transfers.items ++ t ∷ []) (answer ∙ ap (λ (ws : List Word). with_answer ws asked) (sym words_begun_is)) in
            let long : length transfers.items ≡ length old.transfers.items + 1 = ap (length {A = Transfer}) noted ∙ length-append old.transfers.items (transfer ∷ []) in
            record {
              kept = rw (items, written) after;
              room = rw reserved is.room;
              within = omega (arith, long, room, reserved);
              flips = is.flips;
              ram = is.ram ∙ sym (ap (λ (m : Words). length m.histories) written ∙ writes.long);
              fates = is.fates;
            }

        pub closed_seen : (values_are : List ℕ) → values ≡ values_are
            → seen (record old { memory = memory; transfers = transfers; begun = false }) ≡ made asked (record (seen old) { values = values_are })
        closed_seen values_are same =
            ap₂ (λ (ts : List Transfer) (vs : List ℕ). record { script = old.script.value; transfers = ts; begun = false; values = vs; room = vec_capacity transfers })
            (noted ∙ ap (λ (t : Transfer). old.transfers.items ++ t ∷ []) answer) (ap (λ (m : Words). m.values) written ∙ same)
            ∙ ap (λ (room : ℕ). record (made asked (record (seen old) { values = values_are })) { room = room }) reserved

-- ---- writing

write_split : (how : Option How) (addr value : ℕ) (m : Words)
    → written_in how addr value m ≡ record m { values = (written_in how addr value m).values; histories = befalls (with_write how) (place_of addr) m.histories }
write_split None addr value m = ap (λ (hs : List (List Moment)). record m { histories = hs }) (sym (set-get_or m.histories (place_of addr) []))
write_split (Some how) addr value m = refl

length_written : (how : Option How) (addr value : ℕ) (m : Words) → length (written_in how addr value m).values ≡ length m.values
length_written None addr value m = refl
length_written (Some how) addr value m = length-set m.values (place_of addr) value

-- what a word is written with, if it is: what is shown of it once the write's way is known
pub record IsWritten (m m' : Words) (kind : TurnKind) (addr len value : ℕ) : Type 0 where
  pub values : List ℕ
  pub is : m' ≡ record m { values = values; histories = befalls (λ h. with_write (write_of len h kind) h) (place_of addr) m.histories }
  pub long : length values ≡ length m.values
  pub values_are : values ≡ (written_in (write_of len (history_at (place_of addr) m.histories) kind) addr value m).values

pub written_one : (m : Words) (kind : TurnKind) (addr len value : ℕ)
    → IsWritten m (written_in (write_of len (history_at (place_of addr) m.histories) kind) addr value m) kind addr len value
written_one m kind addr len value = record {
  values = (written_in (write_of len (history_at (place_of addr) m.histories) kind) addr value m).values;
  is = write_split (write_of len (history_at (place_of addr) m.histories) kind) addr value m;
  long = length_written (write_of len (history_at (place_of addr) m.histories) kind) addr value m;
  values_are = refl;
}

-- a store or an atomic in one word, as the array has it
pub writes_one : (kind : TurnKind) (t : Transfer) (hs : List (List Moment)) → t.kind ≡ kind
    → ((w : ℕ) → touches_word t.addr t.len w kind ≡ (nat_lt t.addr (w + 4) && nat_lt w (t.addr + t.len)))
    → 0 < t.len → t.addr % 4 + t.len ≤ 4 → ram_first ≤ t.addr → place_of t.addr < length hs
    → Writes t hs (befalls (λ h. with_write (write_of t.len h kind) h) (place_of (word_of t.addr)) hs)
writes_one kind t hs is touch some fits above within =
    rw (place_of-word t.addr above)
    (subst (λ (k : TurnKind). Writes t hs (befalls (λ h. with_write (write_of t.len h k) h) (place_of t.addr) hs)) is
    (writes_word t hs above within
    (ap (touches_word t.addr t.len (word_of t.addr)) is ∙ touch (word_of t.addr) ∙ touches_own t.addr t.len some)
    (λ w aligned other. ap (touches_word t.addr t.len w) is ∙ touch w ∙ touches_no_other t.addr t.len w fits aligned other)))

-- a store of a word
pub writes_store_word : (t : Transfer) (hs : List (List Moment)) → t.kind ≡ Store → t.len ≡ 4 → t.addr % 4 ≡ 0 → ram_first ≤ t.addr → place_of t.addr < length hs
    → Writes t hs (befalls written_whole (place_of t.addr) hs)
writes_store_word t hs store four aligned above within =
    subst (λ (h : List Moment). Writes t hs (slice_set hs (place_of t.addr) h))
    (ap (λ (how : Option How). with_write how (history_at (place_of t.addr) hs))
    (ap₂ (λ (len : ℕ) (kind : TurnKind). write_of len (history_at (place_of t.addr) hs) kind) four store))
    (writes_word t hs above within
    (ap (touches_word t.addr t.len (word_of t.addr)) store ∙ touches_own t.addr t.len (omega (arith, four)))
    (λ w whole other. ap (touches_word t.addr t.len w) store ∙ touches_no_other t.addr t.len w (omega (arith, four, aligned)) whole other))

-- a fix
pub writes_fix : (t : Transfer) (hs : List (List Moment)) → t.kind ≡ Fix → t.addr % 4 ≡ 0 → ram_first ≤ t.addr → place_of t.addr < length hs
    → Writes t hs (befalls (λ h. with_write (write_of 0 h Fix) h) (place_of t.addr) hs)
writes_fix t hs fix aligned above within =
    subst (λ (k : TurnKind). Writes t hs (befalls (λ h. with_write (write_of t.len h k) h) (place_of t.addr) hs)) fix
    (writes_word t hs above within
    (ap (touches_word t.addr t.len (word_of t.addr)) fix ∙ eq-eqb t.addr (word_of t.addr) (sym (word_itself t.addr aligned)))
    (λ w whole other. ap (touches_word t.addr t.len w) fix ∙ ne_eqb t.addr w (λ e. other (sym (word_itself t.addr aligned ∙ e)))))

-- the kinds that write nothing
pub line_unwritten : (kind : TurnKind) (len : ℕ) (h : List Moment) → reads_line kind ≡ true → write_of len h kind ≡ None
line_unwritten Fetch len h is = refl
line_unwritten Load len h is = refl
line_unwritten Store len h is = absurd (false≢true is)
line_unwritten Atomic len h is = absurd (false≢true is)
line_unwritten Snoop len h is = absurd (false≢true is)
line_unwritten Look len h is = refl
line_unwritten Fix len h is = absurd (false≢true is)

-- ---- what users see of a write

-- the word at an address of RAM is merged with a number, unless it is bad
pub merged_is : (old : Inside) (is : IsBusMemory old) (kind : TurnKind) (how : How) (addr len value : ℕ) → ram_first ≤ addr → IsWordAt (length old.memory.histories) (word_of addr)
    → write_of len (history_at (place_of (word_of addr)) old.memory.histories) kind ≡ cond (is_bad_word (history_at (place_of (word_of addr)) old.memory.histories)) None (Some how)
    → record (seen old) { values = (written_in (write_of len (history_at (place_of (word_of addr)) old.memory.histories) kind) (word_of addr) (merged (slice_index old.memory.values (place_of (word_of addr))) addr len value) old.memory).values }
    ≡ merged_in addr len value (seen old)
merged_is old is kind how addr len value above at way =
    ap (λ (h : Option How). record (seen old) { values = (written_in h (word_of addr) (merged (slice_index old.memory.values (place_of (word_of addr))) addr len value) old.memory).values })
    (way ∙ ap (λ (b : Bool). cond b None (Some how)) (bad_is old is (word_of addr) at))
    ∙ by (is_bad_at (seen old) (word_of addr))
    ∙ ap (λ (p : ℕ). cond (is_bad_at (seen old) (word_of addr)) (seen old) (record (seen old) { values = slice_set old.memory.values p (merged (slice_index old.memory.values p) addr len value) }))
    (place_of-word addr above)
  where
    by : (b : Bool) → record (seen old) { values = (written_in (cond b None (Some how)) (word_of addr) (merged (slice_index old.memory.values (place_of (word_of addr))) addr len value) old.memory).values }
        ≡ cond b (seen old) (record (seen old) { values = slice_set old.memory.values (place_of (word_of addr)) (merged (slice_index old.memory.values (place_of (word_of addr))) addr len value) })
    by true = refl
    by false = refl

pub part_way : (len : ℕ) (h : List Moment) → len < 4 → write_of len h Store ≡ cond (is_bad_word h) None (Some ByPartStore)
part_way len h short = ap (λ (b : Bool). cond b (cond (is_bad_word h) None (Some ByPartStore)) (Some Whole)) (lt-ltb len 4 short)

-- ---- the syndromes in answers

pub part_syndrome : (m : Words) (addr : ℕ) → syndrome_of_answer (answer_of_part m addr) ≡ syndrome (history_at (place_of (word_of addr)) m.histories)
unfolding answer_of_part
part_syndrome m addr = by (bad_in m (word_of addr))
  where
    by : (b : Bool) → syndrome_of_answer (cond b (Err (record { addr = word_of addr; syn = syndrome_in m (word_of addr) })) (Ok (syndrome_in m (word_of addr)))) ≡ syndrome_in m (word_of addr)
    by true = refl
    by false = refl

pub read_syndrome : (m : Words) (addr : ℕ) → syndrome_of_read (answer_of_read m addr) ≡ syndrome (history_at (place_of addr) m.histories)
unfolding answer_of_read
read_syndrome m addr = by (bad_in m addr)
  where
    by : (b : Bool) → syndrome_of_read (cond b (Err (record { addr = addr; syn = syndrome_in m addr })) (Ok (record { value = slice_index m.values (place_of addr); syn = syndrome_in m addr }))) ≡ syndrome_in m addr
    by true = refl
    by false = refl

clean_syndrome : (bits : List ℕ) → length bits ≤ 2 → nat_eq (length bits) 2 ≡ false → nat_eq (length bits) 1 ≡ false → columns_sum bits ≡ 0
clean_syndrome [] few two one = refl
clean_syndrome (a ∷ []) few two one = absurd (false≢true (sym one))
clean_syndrome (a ∷ b ∷ []) few two one = absurd (false≢true (sym two))
clean_syndrome (a ∷ b ∷ c ∷ bits) few two one = absurd (omega arith)

pub fix_syndrome : (m : Words) (addr : ℕ) → length (turned_bits (history_at (place_of addr) m.histories)) ≤ 2
    → syndrome_of_fix (answer_of_fix m addr) ≡ syndrome (history_at (place_of addr) m.histories)
unfolding answer_of_fix
fix_syndrome m addr few = by (bad_in m addr) (is_fixed_word (history_at (place_of addr) m.histories)) refl refl
  where
    by : (b f : Bool) → bad_in m addr ≡ b → is_fixed_word (history_at (place_of addr) m.histories) ≡ f
        → syndrome_of_fix (cond b (fixes.Bad (syndrome_in m addr)) (cond f (fixes.Corrected (slice_index (turned_bits (history_at (place_of addr) m.histories)) 0) (syndrome_in m addr)) fixes.Clean)) ≡ syndrome_in m addr
    by true f bad fixed = refl
    by false true bad fixed = refl
    by false false bad fixed = sym (clean_syndrome (turned_bits (history_at (place_of addr) m.histories)) few bad fixed)

-- ---- the value that users see, and the fields

pub begun_in : (old : Inside) (s : MemoryState) → seen old ≡ s → s.begun ≡ true → old.begun ≡ true
begun_in old s view begun = ap (λ (m : MemoryState). m.begun) view ∙ begun

pub room_in : (old : Inside) (s : MemoryState) → seen old ≡ s → length s.transfers < s.room → length old.transfers.items < vec_capacity old.transfers
room_in old s view room = subst (λ (m : MemoryState). length m.transfers < m.room) (sym view) room

pub in_array : (old : Inside) (s : MemoryState) (addr len : ℕ) → IsBusMemory old → seen old ≡ s → IsTrue (is_in_ram (4 * length s.values) addr len)
    → IsTrue (is_in_ram (4 * length old.memory.histories) addr len)
in_array old s addr len is view in_ram =
    subst (λ (n : ℕ). IsTrue (is_in_ram (4 * n) addr len)) is.kept.values (subst (λ (m : MemoryState). IsTrue (is_in_ram (4 * length m.values) addr len)) (sym view) in_ram)

-- a store of a byte or half answers as its read does
pub part_is : (old : Inside) (is : IsBusMemory old) (addr len : ℕ) → len < 4 → IsWordAt (length old.memory.histories) (word_of addr)
    → answer_of_part old.memory addr ≡ store_answer (seen old) addr len
unfolding answer_of_part store_answer
part_is old is addr len short at =
    ap₂ answers (bad_is old is (word_of addr) at) (syndrome_is old is (word_of addr) at)
    ∙ ap (λ (b : Bool). cond (b && is_bad_at (seen old) (word_of addr)) (answers true (syndrome_at (seen old) (word_of addr))) (Ok (cond b (syndrome_at (seen old) (word_of addr)) 0)))
    (sym (lt-ltb len 4 short))
  where
    answers : Bool → ℕ → Result ℕ Bad
    answers bad syn = cond bad (Err (record { addr = word_of addr; syn = syn })) (Ok syn)

-- a store of words answers that it read none
pub whole_is : (s : MemoryState) (addr len : ℕ) → nat_lt len 4 ≡ false → Ok 0 ≡ store_answer s addr len
unfolding store_answer
whole_is s addr len long =
    sym (ap (λ (b : Bool). cond (b && is_bad_at s (word_of addr)) (lost s addr) (Ok (cond b (syndrome_at s (word_of addr)) 0))) long)
  where
    lost : MemoryState → ℕ → Result ℕ Bad
    lost s addr = Err (record { addr = word_of addr; syn = syndrome_at s (word_of addr) })

-- a line of RAM is eight words of it
pub line_all : (count line : ℕ) → IsTrue (is_in_ram (4 * count) line 32) → line % 32 ≡ 0 → AllByRecursion (IsWordAt count) (words_of_line line)
line_all count line in_ram aligned =
    line_words count line aligned (ram_above count line 32 in_ram) (line_within count line (ram_above count line 32 in_ram) (ram_below count line 32 in_ram))

pub part_short : (len : ℕ) → IsTrue (is_part len) → (len < 4) × (0 < len)
part_short len is = grind (arith, nat_tests)

pub in_word : (addr len : ℕ) → IsTrue (is_part len) → addr % len ≡ 0 → addr % 4 + len ≤ 4
in_word addr len is aligned = elim (cases_eq len 1) [
  | inl byte ↦ omega arith
  | inr not_byte ↦
      let half : len ≡ 2 = grind (arith, nat_tests) in
      let even : addr % 2 ≡ 0 = rw half at aligned in
      omega arith
]

pub second_within : (count addr : ℕ) → IsTrue (is_in_ram (4 * count) addr 8) → place_of (addr + 4) < count
second_within count addr in_ram =
    let above = ram_above count addr 8 in_ram in
    let below = ram_below count addr 8 in_ram in
    omega arith

pub place_same : (count addr : ℕ) → ram_first ≤ addr → place_of (word_of addr) < count → place_of addr < count
place_same count addr above within = subst (λ (p : ℕ). p < count) (place_of-word addr above) within

pub past_written : (how : Option How) (addr value : ℕ) (m : Words) → (written_in how addr value m).past ≡ m.past
past_written None addr value m = refl
past_written (Some how) addr value m = refl

-- an atomic is of a byte or a word
pub atomic_length : (len : ℕ) → IsTrue (nat_eq len 1 || nat_eq len 4) → (len < 8) × (0 < len)
atomic_length len is = grind (arith, nat_tests)

pub atomic_in_word : (addr len : ℕ) → IsTrue (nat_eq len 1 || nat_eq len 4) → addr % len ≡ 0 → addr % 4 + len ≤ 4
atomic_in_word addr len is aligned = elim (cases_eq len 1) [
  | inl byte ↦ omega arith
  | inr not_byte ↦
      let four : len ≡ 4 = grind (arith, nat_tests) in
      let whole : addr % 4 ≡ 0 = rw four at aligned in
      omega arith
]

-- ---- no more bits stand flipped than flips

agree : (p q : ℕ → Bool) (n : ℕ) → ((k : ℕ) → k < n → p k ≡ q k) → filter p (places_below n) ≡ filter q (places_below n)
agree p q zero same = refl
agree p q (suc n) same =
    ap₂ (λ (b : Bool) (rest : List ℕ). cond b (n ∷ rest) rest) (same n (omega arith)) (agree p q n (λ k lt. same k (omega (arith, lt))))

one_apart : (p q : ℕ → Bool) (bit n : ℕ) → ((k : ℕ) → k ≢ bit → p k ≡ q k) → length (filter p (places_below n)) ≤ length (filter q (places_below n)) + 1
one_apart p q bit zero same = omega arith
one_apart p q bit (suc n) same = elim (cases_eq n bit) [
  | inl here ↦
      let rest : filter p (places_below n) ≡ filter q (places_below n) = agree p q n (λ k lt. same k (λ e. omega (arith, lt, e, here))) in
      both (p n) (q n) (filter p (places_below n)) (filter q (places_below n)) (ap length rest)
  | inr other ↦ one (p n) (q n) (filter p (places_below n)) (filter q (places_below n)) (same n other) (one_apart p q bit n same)
]
  where
    both : (a b : Bool) (xs ys : List ℕ) → length xs ≡ length ys → length (cond a (n ∷ xs) xs) ≤ length (cond b (n ∷ ys) ys) + 1
    both true true xs ys long = omega (arith, long)
    both true false xs ys long = omega (arith, long)
    both false true xs ys long = omega (arith, long)
    both false false xs ys long = omega (arith, long)

    one : (a b : Bool) (xs ys : List ℕ) → a ≡ b → length xs ≤ length ys + 1 → length (cond a (n ∷ xs) xs) ≤ length (cond b (n ∷ ys) ys) + 1
    one true true xs ys is le = omega (arith, le)
    one true false xs ys is le = absurd (false≢true (sym is))
    one false true xs ys is le = absurd (false≢true is)
    one false false xs ys is le = le

none_below : (n : ℕ) → length (filter (is_turned []) (places_below n)) ≤ 0
none_below zero = omega arith
none_below (suc n) = none_below n

pub few_turned : (flips : List Standing) → length (turned word_bits flips) ≤ length flips
few_turned [] = none_below word_bits
few_turned (f ∷ flips) =
    let rest = few_turned flips in
    let step : length (turned word_bits (f ∷ flips)) ≤ length (turned word_bits flips) + 1 =
    one_apart (is_turned (f ∷ flips)) (is_turned flips) f.bit word_bits (λ k other. ap (λ (b : Bool). nat_eq (fold (λ (n : ℕ) (flip : Standing). n + cond (nat_eq flip.bit k) 1 0) (0 + cond b 1 0) flips % 2) 1) (ne_eqb f.bit k (λ e. other (sym e)))) in
    omega (arith, rest, step)

-- a fix, as the array has it
pub record FixWritten (m m' : Words) (addr : ℕ) : Type 0 where
  pub values : List ℕ
  pub is : m' ≡ record m { values = values; histories = befalls (λ h. with_write (write_of 0 h Fix) h) (place_of addr) m.histories }
  pub long : length values ≡ length m.values
  pub values_are : values ≡ m'.values

pub fix_written : (m : Words) (addr : ℕ) (m' : Words) → m' ≡ fixed addr m → FixWritten m m' addr
fix_written m addr m' is = record {
  values = (fixed addr m).values;
  is = is ∙ write_split (write_of 0 (history_at (place_of addr) m.histories) Fix) addr (slice_index m.values (place_of addr)) m;
  long = length_written (write_of 0 (history_at (place_of addr) m.histories) Fix) addr (slice_index m.values (place_of addr)) m;
  values_are = sym (ap (λ (w : Words). w.values) is);
}

-- ---- before the first turn

pub kept_new : (setup : Setup) (flips : ℕ) (memory : Words) (plan : List Strike) → AllByRecursion (AimsAt (setup.config.ram / 4)) setup.flips → memory ≡ at_start setup.config.ram setup.image flips
    → flips ≡ length setup.flips → IsPlanned Memory setup.flips 0 plan → IsKept setup.flips [] false memory plan
kept_new setup flips memory plan aims start all planned =
    kept_start (setup.config.ram / 4) setup.flips memory plan aims
    (ap (λ (m : Words). length m.values) start ∙ length-map-range_with_len (λ place. word_at_image setup.image (ram_first + 4 * place)) 0 (setup.config.ram / 4))
    (ap (λ (m : Words). m.flips) start ∙ all) (ap (λ (m : Words). m.histories) start) (ap (λ (m : Words). m.past) start) planned

pub long_length : (len : ℕ) → 4 ≤ len → nat_lt len 4 ≡ false
long_length len long = by (nat_lt len 4) refl
  where
    by : (b : Bool) → nat_lt len 4 ≡ b → b ≡ false
    by true is = absurd (let lt : len < 4 = ltb-true len 4 is in omega (arith, lt, long))
    by false is = refl

pub double_written : (m : Words) (p q v w : ℕ) {one two : Words} → one ≡ written Whole p v m → two ≡ written Whole q w one
    → two ≡ record m { values = slice_set (slice_set m.values p v) q w; histories = befalls written_whole q (befalls written_whole p m.histories) }
double_written m p q v w first second = second ∙ ap (written Whole q w) first

pub double_long : (m : Words) (p q v w : ℕ) → length (slice_set (slice_set m.values p v) q w) ≡ length m.values
double_long m p q v w = length-set (slice_set m.values p v) q w ∙ length-set m.values p v
