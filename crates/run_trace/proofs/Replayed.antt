-- The run of all masters over the transfers of right records makes just these transfers, with the words of memory and the walk of
-- the scrubber that the record of the bus says.
use Rattle.std.proofs.Common.{◌≡◌, ◌∙◌, ◌+◌, ◌<◌, ◌≤◌, ◌==◌, ◌++◌, ℕ, zero, suc, Bool, true, false, nat_le, List, [], ◌∷◌, length, take, fold, map, slice_get, Option, ◌⊎◌, Some, None, IfSome, refl, ap, sym, subst, inl, inr, arith, add-one, if◌then◌else◌}
use Rattle.std.proofs.lemmas.Bool.{cases_Bool, cases_eq, eq-eqb, ne_eqb, leb-true, and_parts}
use Rattle.std.proofs.lemmas.List.{append_assoc, append-nil, take_all, take-append-le}
use Rattle.std.proofs.lemmas.List.Sums.{fold-append}
use Rattle.std.proofs.lemmas.Option.{slice_get-map, slice_get_within, same_Some}
use Rattle.std.specs.List.{enumerate_from, list_all, range_with_len}
use Rattle.std.specs.Option.{option_map, option_map_or}
use Rattle.lf_model.proofs.RecordsCompose.{IsNamed, IsRight, IsAnswered, Along, is_name, along_all, along_start}
use Rattle.lf_model.proofs.RecordsCompose.IsRight.{ByScrubber, ByCore}
use Rattle.lf_model.specs.Bus.Replay.{name_of}
use Rattle.lf_model.specs.Bus.Status.{AhbStatus}
use Rattle.lf_model.specs.Bus.Walk.{Walk, scrubber, next_transfer, walked, walk_by, walk_after}
use Rattle.lf_model.specs.Bus.Words.{Word, words_begun, words_by_kind, words_read, answered}
use Rattle.lf_model.specs.Course.Core.{Ground}
use Rattle.lf_model.specs.Course.Course.{up_to, course}
use Rattle.lf_model.specs.Course.Syndromes.{has_address}
use Rattle.lf_model.specs.Course.Turned.{bad_wanted}
use Rattle.lf_model.specs.Ledger.Account.{map_numbered}
use Rattle.lf_model.specs.Names.{same_kind}
use Rattle.lf_model.specs.Once.{HasMaster}
use Rattle.lf_model.specs.Promise.Regular.{turn_of}
use Rattle.lf_model.specs.Records.AllRecords.{AreRecordsOk, words_named_by_all}
use Rattle.lf_model.specs.Records.BusMemory.{Memory, memory_start, memory_turn, memory_after, with_answer, names_word}
use Rattle.lf_model.specs.Records.BusRecord.{is_in_memory}
use Rattle.lf_model.specs.Records.CoreRecord.{RecordOk, core_of_record}
use Rattle.lf_model.specs.Records.CoreRules.{ground_of_ended}
use Rattle.lf_model.specs.Records.OwnTurns.{IsRightTurn, next_effect, before_turn}
use Rattle.lf_model.specs.Start.{is_in_ram, ram_first}
use Rattle.lf_model.specs.declared.bus.Entry.{Entry}
use Rattle.lf_model.specs.declared.bus.Transfer.{Transfer}
use Rattle.lf_model.specs.declared.bus.TurnKind.{TurnKind}
use Rattle.lf_model.specs.declared.bus.TurnKind.TheVariants.{Fetch, Load, Store, Atomic, Snoop, Look, Fix}
use Rattle.lf_model.specs.declared.flip.Flip.{Flip}
use Rattle.lf_model.specs.declared.image.Range.{Range}
use Rattle.lf_model.specs.declared.record.CoreRecord.{CoreRecord}
use Rattle.lf_model.specs.declared.setup.Setup.{Setup}
use Rattle.lf_model.specs.declared.trace.Fate.{Fate}
use Rattle.lf_model.specs.declared.trace.Word2.{Word2}
use Rattle.run_trace.proofs.Cores.{some_at}
use Rattle.run_trace.proofs.NamedWords.{one_names, others_unnamed, own_named}
use Rattle.run_trace.proofs.Together.{record_at}

-- ---- lists

numbered_from : {X Y : Type 0} (f : ℕ → X → Y) (n : ℕ) (xs : List X) (i m : ℕ) → m ≡ n + i
    → slice_get (map (λ (x : ℕ × X). f x.0 x.1) (enumerate_from n xs)) i ≡ option_map (f m) (slice_get xs i)
numbered_from f n [] i m e = refl
numbered_from f n (x ∷ xs) zero m e = ap (λ j. Some (f j x)) (omega (arith, e))
numbered_from f n (x ∷ xs) (suc i) m e = numbered_from f (n + 1) xs i m (omega (arith, e, add-one i))

-- the element at a place, with its number
pub numbered_at : {X Y : Type 0} (f : ℕ → X → Y) (xs : List X) (i : ℕ) → slice_get (map_numbered f xs) i ≡ option_map (f i) (slice_get xs i)
numbered_at f xs i = numbered_from f 0 xs i i (omega arith)

pub seam : {X : Type 0} (xs : List X) (x : X) (ys : List X) (n : ℕ) → n ≡ length xs → slice_get (xs ++ x ∷ ys) n ≡ Some x
seam [] x ys n e = ap (λ i. slice_get (x ∷ ys) i) e
seam (y ∷ xs) x ys zero e = absurd (omega (arith, e, add-one (length xs)))
seam (y ∷ xs) x ys (suc n) e = seam xs x ys n (omega (arith, e, add-one n, add-one (length xs)))

first_of : {X : Type 0} (xs ys : List X) → take (length xs) (xs ++ ys) ≡ xs
first_of xs ys = take-append-le (length xs) xs ys (omega arith) ∙ take_all (length xs) xs (omega arith)

range_at : (n len i : ℕ) (x : ℕ) → slice_get (range_with_len n len) i ≡ Some x → x ≡ n + i
range_at n zero i x e = absurd (none_is_some e)
  where
    none_is_some : None ≡ Some x → ⊥
    none_is_some q = cc
range_at n (suc len) zero x e = omega (arith, same_Some _ _ e)
range_at n (suc len) (suc i) x e = omega (arith, range_at (n + 1) len i x e, add-one i)

-- the turns that a walk has made
walk_turns : (range : Range) (w : Walk) (t : Transfer) (ts : List Transfer) → w.turns ≤ (fold (walk_by range) w ts).turns
walk_turns range w t [] = omega arith
walk_turns range w t (u ∷ us) = omega (arith, one_turn (u.master == scrubber) refl, walk_turns range (walk_by range w u) t us)
  where
    walked_turns : (noted : List ℕ) → (walked range u w noted).turns ≡ w.turns + 1
    walked_turns [] = refl
    walked_turns (a ∷ rest) = refl

    one_turn : (own : Bool) → (u.master == scrubber) ≡ own → w.turns ≤ (walk_by range w u).turns
    one_turn true e = rw e (omega (arith, walked_turns w.noted))
    one_turn false e = rw e (omega arith)

module _ (range : Range) (w : Walk) (t : Transfer) where
  pub walked_turns : (noted : List ℕ) → (walked range t w noted).turns ≡ w.turns + 1
  walked_turns [] = refl
  walked_turns (a ∷ rest) = refl

  pub own_walk_turn : t.master ≡ scrubber → (walk_by range w t).turns ≡ w.turns + 1
  own_walk_turn own = rw (eq-eqb t.master scrubber own) (walked_turns w.noted)

-- ---- what memory answers

module _ (script : List Flip) (named : List Word2) where
  -- after these transfers there is an answer more for each
  record Grown (m : Memory) (ts : List Transfer) : Type 0 where
    more : List Transfer
    answers : (fold (memory_turn script named) m ts).answers ≡ m.answers ++ more
    count : length more ≡ length ts

  answers_grow : (m : Memory) (ts : List Transfer) → Grown m ts
  answers_grow m [] = record { more = []; answers = sym (append-nil m.answers); count = refl }
  answers_grow m (t ∷ ts) =
      let rest = answers_grow (memory_turn script named m t) ts in
      record {
        more = with_answer (words_begun script m.turns m.words) t ∷ rest.more;
        answers = rest.answers ∙ append_assoc m.answers (with_answer (words_begun script m.turns m.words) t ∷ []) rest.more;
        count = ap (λ n. suc n) rest.count;
      }

  turns_grow : (m : Memory) (ts : List Transfer) → (fold (memory_turn script named) m ts).turns ≡ m.turns + length ts
  turns_grow m [] = omega arith
  turns_grow m (t ∷ ts) = omega (arith, turns_grow (memory_turn script named m t) ts, add-one (length ts))

  pub memory_turns : (ts : List Transfer) → (memory_after script named ts).turns ≡ length ts
  memory_turns ts = omega (arith, turns_grow (memory_start script) ts)

  answers_first : (pre : List Transfer) → length (memory_after script named pre).answers ≡ length pre
  answers_first pre = let all = answers_grow (memory_start script) pre in ap length all.answers ∙ all.count

  -- the answer to the transfer after these is as memory is then
  pub answer_at : (pre post : List Transfer) (t : Transfer) → (memory_after script named (pre ++ t ∷ post)).answers ≡ pre ++ t ∷ post
      → with_answer (words_begun script (length pre) (memory_after script named pre).words) t ≡ t
  answer_at pre post t all =
      let m = memory_after script named pre in
      let rest = answers_grow (memory_turn script named m t) post in
      let here = with_answer (words_begun script m.turns m.words) t in
      let shape : (memory_after script named (pre ++ t ∷ post)).answers ≡ m.answers ++ here ∷ rest.more =
      ap (λ (n : Memory). n.answers) (fold-append (memory_turn script named) (memory_start script) pre (t ∷ post))
      ∙ (rest.answers ∙ append_assoc m.answers (here ∷ []) rest.more) in
      ap (λ n. with_answer (words_begun script n m.words) t) (sym (memory_turns pre))
      ∙ same_Some _ _ (
      sym (seam m.answers here rest.more (length pre) (sym (answers_first pre)))
      ∙ (ap (λ (ts : List Transfer). slice_get ts (length pre)) (sym shape ∙ all)
      ∙ seam pre t post (length pre) refl))

snoop_reads : (addr len : ℕ) (kind : TurnKind) → same_kind kind Snoop ≡ true → words_by_kind addr len kind ≡ []
snoop_reads addr len Fetch e = absurd (cc)
snoop_reads addr len Load e = absurd (cc)
snoop_reads addr len Store e = absurd (cc)
snoop_reads addr len Atomic e = absurd (cc)
snoop_reads addr len Snoop e = refl
snoop_reads addr len Look e = absurd (cc)
snoop_reads addr len Fix e = absurd (cc)

-- a transfer in memory reads the words of its kind
pub read_in_memory : (ram : ℕ) (t : Transfer) → is_in_memory ram t ≡ true → words_read t ≡ words_by_kind t.addr t.len t.kind
read_in_memory ram t h = elim (cases_Bool (same_kind t.kind Snoop)) [
  | inl snoop ↦ by_snoop (has_address t) (snoop_reads t.addr t.len t.kind snoop)
  | inr other ↦ let inside : is_in_ram ram t.addr 1 ≡ true = rw other at h in
      let low = leb-true ram_first t.addr (and_parts (nat_le ram_first t.addr) (nat_le (t.addr + 1) (ram_first + ram)) inside).0 in
      rw (ne_eqb t.addr 0 (λ e. absurd (omega (arith, e, low)))) refl
]
  where
    by_snoop : (b : Bool) → words_by_kind t.addr t.len t.kind ≡ [] → (if b then words_by_kind t.addr t.len t.kind else []) ≡ words_by_kind t.addr t.len t.kind
    by_snoop true e = refl
    by_snoop false e = sym e

-- what holds of all holds of one of them
pub all_at : {X : Type 0} (p : X → Bool) (xs ys : List X) (x : X) → list_all p (xs ++ x ∷ ys) ≡ true → p x ≡ true
all_at p [] ys x h = (and_parts (p x) _ h).0
all_at p (z ∷ xs) ys x h = all_at p xs ys x (and_parts (p z) _ h).1

-- the master of a transfer that isn't the scrubber's is a core
pub core_master : (cores master : ℕ) (kind : TurnKind) → HasMaster cores master kind → (master ≡ 8 → ⊥) → master < cores
core_master cores master Fetch h other = h
core_master cores master Load h other = h
core_master cores master Store h other = h
core_master cores master Atomic h other = h
core_master cores master Snoop h other = h
core_master cores master Look h other = absurd (other h)
core_master cores master Fix h other = absurd (other h)

module _ (setup : Setup) (few : setup.config.cores ≤ 8) (records : List CoreRecord) (log : List Entry) (transfers : List Transfer) (status : AhbStatus) (fates : List Fate)
    (watch : List Word2) (ok : AreRecordsOk setup records log transfers status fates watch) where
  abbrev pub ground_at : ℕ → CoreRecord → Ground
  ground_at c kept = ground_of_ended setup (core_of_record c kept transfers)

  -- what the cores run on
  abbrev pub grounds : List Ground
  grounds = map_numbered ground_at records

  abbrev pub named : List Word2
  named = words_named_by_all records

  pub ground_found : (c : ℕ) (kept : CoreRecord) → slice_get records c ≡ Some kept → slice_get grounds c ≡ Some (ground_at c kept)
  ground_found c kept found = numbered_at ground_at records c ∙ ap (option_map (ground_at c)) found

  record_ok : (c : ℕ) (kept : CoreRecord) → slice_get records c ≡ Some kept → RecordOk setup c kept log transfers
  record_ok c kept found = subst (λ o. IfSome o (λ (k : CoreRecord). RecordOk setup c k log transfers)) found (record_at setup records log transfers status fates watch ok c)

  turns : (i : ℕ) (t : Transfer) → slice_get transfers i ≡ Some t → t.turn ≡ i
  turns i t found = range_at 0 (length transfers) i t.turn (
      ap (λ ns. slice_get ns i) (sym ok.bus.turns) ∙ (slice_get-map turn_of transfers i ∙ ap (option_map turn_of) found)) ∙ omega arith

  module _ (pre post : List Transfer) (t : Transfer) (split : transfers ≡ pre ++ t ∷ post) where
    at_place : slice_get transfers (length pre) ≡ Some t
    at_place = ap (λ (ts : List Transfer). slice_get ts (length pre)) split ∙ seam pre t post (length pre) refl

    before : take (length pre) transfers ≡ pre
    before = ap (take (length pre)) split ∙ first_of pre (t ∷ post)

    within : length pre < length transfers
    within = slice_get_within transfers (length pre) t at_place

    pub answered_here : IsAnswered setup grounds named pre t
    answered_here = record {
      turn = turns (length pre) t at_place;
      answer =
          let as_read = read_in_memory setup.config.ram t (all_at (is_in_memory setup.config.ram) pre post t (subst (λ (ts : List Transfer). list_all (is_in_memory setup.config.ram) ts ≡ true) split ok.bus.in_memory)) in
          let asked = answer_at setup.flips named pre post t (subst (λ (ts : List Transfer). (memory_after setup.flips named ts).answers ≡ ts) split ok.bus.answered) in
          same_answer (words_begun setup.flips (length pre) (memory_after setup.flips named pre).words) as_read ∙ asked;
    }
      where
        same_answer : (words : List Word) → words_read t ≡ words_by_kind t.addr t.len t.kind → answered words t ≡ with_answer words t
        same_answer words e = rw e refl

    -- ---- a turn of the scrubber

    unnamed_at : (c : ℕ) (found : Option CoreRecord) → slice_get records c ≡ found → (c ≡ t.master → ⊥) → (addr : ℕ)
        → IfSome found (λ kept. names_word kept.named (length pre) addr ≡ false)
    unnamed_at c None e other addr = tt
    unnamed_at c (Some kept) e other addr =
        ap (λ (ws : List Word2). names_word ws (length pre) addr) (record_ok c kept e).named
        ∙ others_unnamed transfers turns (ground_at c kept) (length pre) addr t at_place (ne_eqb c t.master other)

    named_here : (addr : ℕ) → names_word named (length pre) addr ≡ names_word (option_map_or (λ (kept : CoreRecord). kept.named) (slice_get records t.master) []) (length pre) addr
    named_here addr = one_names (length pre) addr records t.master (λ c other. unnamed_at c (slice_get records c) refl other addr)

    no_record : 8 ≡ t.master → slice_get records t.master ≡ None
    no_record e = elim (found_or_none (slice_get records t.master) refl) [
      | inl none ↦ none
      | inr some ↦ absurd (omega (arith, e, some, ok.one_each, few))
    ]
      where
        found_or_none : (found : Option CoreRecord) → slice_get records t.master ≡ found → (slice_get records t.master ≡ None) ⊎ (t.master < length records)
        found_or_none None q = inl q
        found_or_none (Some kept) q = inr (slice_get_within records t.master kept q)

    abbrev walk_here : Walk
    walk_here = walk_after setup.config.scrub pre

    turns_left : t.master ≡ scrubber → walk_here.turns < setup.config.scrub_turns
    turns_left own =
        let all : (walk_after setup.config.scrub transfers).turns ≡ (fold (walk_by setup.config.scrub) (walk_by setup.config.scrub walk_here t) post).turns =
        ap (λ (ts : List Transfer). (walk_after setup.config.scrub ts).turns) split ∙ ap (λ (w : Walk). w.turns) (fold-append (walk_by setup.config.scrub) _ pre (t ∷ post)) in
        omega (arith, all, ok.walk.all, own_walk_turn setup.config.scrub walk_here t own, walk_turns setup.config.scrub (walk_by setup.config.scrub walk_here t) t post)

    by_scrubber : t.master ≡ scrubber → IsRight setup grounds named pre t
    by_scrubber own = ByScrubber own none_named (turns_left own) walks
      where
        none_named : IsNamed setup grounds named pre None
        none_named addr = named_here addr ∙ ap (λ found. names_word (option_map_or (λ (kept : CoreRecord). kept.named) found []) (length pre) addr) (no_record (sym own))

        walks : record (next_transfer (length pre) walk_here walk_here.noted) { words = t.words; syn = t.syn } ≡ t
        walks = subst (λ (w : Walk). record (next_transfer (length pre) w w.noted) { words = t.words; syn = t.syn } ≡ t) (ap (walk_after setup.config.scrub) before)
            (subst (λ found. IfSome found (λ (u : Transfer). u.master ≡ scrubber
            → record (next_transfer (length pre) (walk_after setup.config.scrub (take (length pre) transfers)) (walk_after setup.config.scrub (take (length pre) transfers)).noted) { words = u.words; syn = u.syn } ≡ u))
            at_place (ok.walk.each (length pre) within) own)

    -- ---- a turn of a core

    -- as the record of its core says
    pub own_right : (kept : CoreRecord) → slice_get records t.master ≡ Some kept → IsRightTurn (ground_at t.master kept) t (up_to (ground_at t.master kept) t (course (ground_at t.master kept) pre))
    own_right kept found =
        let g = ground_at t.master kept in
        subst (λ (ts : List Transfer). IsRightTurn g t (up_to g t (course g ts))) before
        (subst (λ found. IfSome found (λ (u : Transfer). g.core ≡ u.master → IsRightTurn g u (before_turn g transfers (length pre) u))) at_place
        ((record_ok t.master kept found).turns (length pre) within) refl)

    by_core : (kept : CoreRecord) → slice_get records t.master ≡ Some kept → (t.master == scrubber) ≡ false → IsRight setup grounds named pre t
    by_core kept found other = ByCore (ground_at t.master kept) other (ground_found t.master kept found) (own_right kept found) name
      where
        g : Ground
        g = ground_at t.master kept

        name : IsNamed setup grounds named pre (name_of g t (bad_wanted (up_to g t (course g pre)).run.state.ctl.pc (next_effect g (up_to g t (course g pre))) t))
        name addr =
            named_here addr
            ∙ (ap (λ o. names_word (option_map_or (λ (k : CoreRecord). k.named) o []) (length pre) addr) found
            ∙ (ap (λ (ws : List Word2). names_word ws (length pre) addr) (record_ok t.master kept found).named
            ∙ (own_named transfers turns g (length pre) addr t at_place (eq-eqb t.master t.master refl)
            ∙ ap (λ (ts : List Transfer). is_name (name_of g t (bad_wanted (up_to g t (course g ts)).run.state.ctl.pc (next_effect g (up_to g t (course g ts))) t)) addr) before)))

    pub right_here : IsRight setup grounds named pre t
    right_here = elim (cases_eq t.master scrubber) [
      | inl own ↦ by_scrubber own
      | inr other ↦
          let inside = core_master setup.config.cores t.master t.kind master other in
          let kept = some_at records t.master (omega (arith, inside, ok.one_each)) in
          by_core kept.0 kept.1 (ne_eqb t.master scrubber other)
    ]
      where
        master : HasMaster setup.config.cores t.master t.kind
        master = subst (λ found. IfSome found (λ (u : Transfer). HasMaster setup.config.cores u.master u.kind)) at_place (ok.bus.masters (length pre) within)

  pub along : Along setup grounds named transfers
  along = along_all setup grounds named [] transfers (along_start setup grounds named) (λ us vs t split. (right_here us vs t split, answered_here us vs t split))
