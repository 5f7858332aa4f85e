-- The registers AHBSTAT after a transfer are those of the definitions, by what memory answered it.
use Rattle.std.proofs.Common.{◌≡◌, ℕ, zero, suc, ◌&&◌, Bool, true, false, not, nat_lt, nat_eq, cond, List, [], ◌∷◌, length, map, slice_index, slice_index_or, Option, Some, None, Result, Ok, Err, ◌≤◌, refl, sym, ap, ◌∙◌, arith}
use Rattle.std.specs.Prelude.{is_err}
use Rattle.std.proofs.lemmas.Bool.{false≢true}
use Rattle.ahb_status.specs.Note.{first_of}
use Rattle.bus_memory.specs.Answers.{syndrome_of_answer, syndrome_of_read, syndrome_of_fix}
use Rattle.bus_memory.specs.MemoryState.{MemoryState, words_met, met, is_bad_at, syndrome_at, value_at, line_shown, store_answer, read_answer, fix_answer, reads_line}
use Rattle.bus_memory.proofs.InsideLemmas.{few_turned}
use Rattle.lf_model.proofs.SyndromeLaw.{bad_by_syndrome, few}
use Rattle.lf_model.specs.Bus.Status.{AhbStatus, noted, cleared, first_unclean, status_start, status_by}
use Rattle.lf_model.specs.Bus.Words.{Word, word_of, words_of_line, words_by_kind}
use Rattle.lf_model.specs.Course.Syndromes.{syndromes_of, is_bad_syndrome}
use Rattle.lf_model.specs.Flips.{Moment, is_bad_word, is_fixed_word, turned_bits, standing, word_budget, syndrome}
use Rattle.lf_num.specs.Columns.{columns_sum}
use Rattle.lf_model.specs.Names.{same_kind}
use Rattle.lf_model.specs.Records.BusMemory.{words_asked, with_answer}
use Rattle.lf_model.specs.declared.bus.Bad.{Bad}
use Rattle.lf_model.specs.declared.bus.Transfer.{Transfer}
use Rattle.lf_model.specs.declared.bus.TurnKind.{TurnKind}
use Rattle.lf_model.specs.declared.bus.TurnKind.TheVariants.{Fetch, Load, Store, Atomic, Snoop, Look, Fix}
use Rattle.ram_words.specs.declared.answer.Fixed.{Fixed}
use Rattle.ram_words.specs.declared.answer.Fixed.TheVariants as fixes
use Rattle.ram_words.specs.declared.answer.Got.{Got}
use Rattle.ahb_bus.specs.Noting.{noted_at, first_unclean_of, word_noted, place_noted, line_noted, fix_cleared, fix_noted, is_bad_fix}
use Rattle.ahb_bus.proofs.AnsweredLemmas.{syndrome_in, syndromes_read}

-- the registers after a transfer that read so many words, with these syndromes
abbrev noted_by : AhbStatus → Transfer → List ℕ → Option ℕ → AhbStatus
noted_by s t syndromes None = s
noted_by s t syndromes (Some place) = first_of s (noted_at t place (is_bad_syndrome (slice_index syndromes place)))

abbrev cleared_by : AhbStatus → Transfer → List ℕ → AhbStatus
cleared_by s t syndromes = cond (same_kind t.kind Fix && not (is_bad_syndrome (slice_index syndromes 0)) && nat_eq s.addr t.addr) status_start s

abbrev registers_by : AhbStatus → Transfer → ℕ → List ℕ → AhbStatus
registers_by s t count syndromes = cleared_by (noted_by s t syndromes (first_unclean_of count syndromes)) t syndromes

module _ (s : AhbStatus) (t : Transfer) (words : List Word) where
  noted_same : (place : Option ℕ) → noted s (with_answer words t) place ≡ noted_by s t (syndromes_of (with_answer words t)) place
  noted_same None = refl
  noted_same (Some place) = refl

  registers_are : status_by s (with_answer words t) ≡ registers_by s t (length (words_asked t)) (map (syndrome_in words) (words_asked t))
  registers_are =
      ap (λ (r : AhbStatus). cleared r (with_answer words t)) (noted_same (first_unclean (with_answer words t)))
      ∙ ap (registers_by s t (length (words_asked t))) (syndromes_read words t)

-- ---- one word

module _ (s : AhbStatus) (t : Transfer) where
  unclean_one : (x : ℕ) (clean : Bool) → noted_by s t (x ∷ []) (cond (not clean) (Some 0) None) ≡ cond clean s (first_of s (noted_at t 0 (is_bad_syndrome x)))
  unclean_one x true = refl
  unclean_one x false = refl

  one_noted : (x : ℕ) → noted_by s t (x ∷ []) (first_unclean_of 1 (x ∷ [])) ≡ word_noted s t x (is_bad_syndrome x)
  one_noted x = unclean_one x (nat_eq x 0)

  not_cleared : (r : AhbStatus) (syndromes : List ℕ) → same_kind t.kind Fix ≡ false → cleared_by r t syndromes ≡ r
  not_cleared r syndromes other = ap (λ (b : Bool). cond (b && not (is_bad_syndrome (slice_index syndromes 0)) && nat_eq r.addr t.addr) status_start r) other

  clears : (r : AhbStatus) (x : ℕ) → same_kind t.kind Fix ≡ true → cleared_by r t (x ∷ []) ≡ fix_cleared r t (is_bad_syndrome x)
  clears r x fix =
      ap (λ (b : Bool). cond (b && not (is_bad_syndrome x) && nat_eq r.addr t.addr) status_start r) fix ∙ by (is_bad_syndrome x)
    where
      by : (bad : Bool) → cond (not bad && nat_eq r.addr t.addr) status_start r ≡ fix_cleared r t bad
      by true = refl
      by false = refl

-- the bad words of some
pub bad_at : (m : MemoryState) (addrs : List ℕ) (place : ℕ) → is_bad_syndrome (slice_index (map (syndrome_at m) addrs) place) ≡ slice_index_or (map (is_bad_at m) addrs) place false
bad_at m [] place = refl
bad_at m (addr ∷ addrs) zero = bad_by_syndrome (met m addr)
bad_at m (addr ∷ addrs) (suc place) = bad_at m addrs place

-- the words of a line
pub line_asked : (addr len : ℕ) (kind : TurnKind) → reads_line kind ≡ true → words_by_kind addr len kind ≡ words_of_line addr
line_asked addr len Fetch is = refl
line_asked addr len Load is = refl
line_asked addr len Store is = absurd (false≢true is)
line_asked addr len Atomic is = absurd (false≢true is)
line_asked addr len Snoop is = absurd (false≢true is)
line_asked addr len Look is = refl
line_asked addr len Fix is = absurd (false≢true is)

-- a word that is neither bad nor fixed has syndrome 0
no_bit : (bits : List ℕ) → length bits ≤ 2 → nat_eq (length bits) 2 ≡ false → nat_eq (length bits) 1 ≡ false → columns_sum bits ≡ 0
no_bit [] least two one = refl
no_bit (a ∷ []) least two one = absurd (false≢true (sym one))
no_bit (a ∷ b ∷ []) least two one = absurd (false≢true (sym two))
no_bit (a ∷ b ∷ c ∷ bits) least two one = absurd (omega (arith, least))

clean_syndrome : (h : List Moment) → is_bad_word h ≡ false → is_fixed_word h ≡ false → syndrome h ≡ 0
clean_syndrome h bad fixed =
    let turned = few_turned (standing word_budget h) in
    let stand = few h in
    no_bit (turned_bits h) (omega (arith, turned, stand)) bad fixed

module _ (s : AhbStatus) (t : Transfer) (m : MemoryState) where
  asks : (addrs : List ℕ) → words_asked t ≡ addrs → status_by s (with_answer (words_met m) t) ≡ registers_by s t (length addrs) (map (syndrome_at m) addrs)
  asks addrs is = registers_are s t (words_met m) ∙ ap (λ (xs : List ℕ). registers_by s t (length xs) (map (syndrome_at m) xs)) is

  word_status : (addr : ℕ) → words_asked t ≡ addr ∷ [] → same_kind t.kind Fix ≡ false → status_by s (with_answer (words_met m) t) ≡ word_noted s t (syndrome_at m addr) (is_bad_at m addr)
  word_status addr is other =
      asks (addr ∷ []) is
      ∙ not_cleared s t _ (syndrome_at m addr ∷ []) other
      ∙ one_noted s t (syndrome_at m addr)
      ∙ ap (word_noted s t (syndrome_at m addr)) (bad_by_syndrome (met m addr))

  none_status : words_asked t ≡ [] → same_kind t.kind Fix ≡ false → status_by s (with_answer (words_met m) t) ≡ s
  none_status is other = asks [] is ∙ not_cleared s t s [] other

  -- a transfer that reads nothing leaves them
  pub snoop_status : t.kind ≡ Snoop → status_by s (with_answer (words_met m) t) ≡ s
  snoop_status is = none_status (ap (words_by_kind t.addr t.len) is) (ap (λ (k : TurnKind). same_kind k Fix) is)

  -- what memory answers, by whether the word is bad or fixed
  abbrev store_answered : Bool → Bool → Result ℕ Bad
  store_answered short bad = cond (short && bad) (Err (record { addr = word_of t.addr; syn = syndrome_at m (word_of t.addr) })) (Ok (cond short (syndrome_at m (word_of t.addr)) 0))

  abbrev atomic_answered : Bool → Result Got Bad
  atomic_answered bad = cond bad (Err (record { addr = word_of t.addr; syn = syndrome_at m (word_of t.addr) })) (Ok (record { value = value_at m (word_of t.addr); syn = syndrome_at m (word_of t.addr) }))

  abbrev fix_answered : Bool → Bool → Fixed
  fix_answered bad fixed = cond bad (fixes.Bad (syndrome_at m t.addr)) (cond fixed (fixes.Corrected (slice_index (turned_bits (met m t.addr)) 0) (syndrome_at m t.addr)) fixes.Clean)

  pub store_status : t.kind ≡ Store → status_by s (with_answer (words_met m) t)
      ≡ word_noted s t (syndrome_of_answer (store_answer m t.addr t.len)) (is_err (store_answer m t.addr t.len))
  unfolding store_answer
  store_status is = by (nat_lt t.len 4) refl
    where
      other : same_kind t.kind Fix ≡ false
      other = ap (λ (k : TurnKind). same_kind k Fix) is

      asked : (b : Bool) → nat_lt t.len 4 ≡ b → words_asked t ≡ cond b (word_of t.addr ∷ []) []
      asked b short = ap (words_by_kind t.addr t.len) is ∙ ap (λ (c : Bool). cond c (word_of t.addr ∷ []) []) short

      by_bad : (bad : Bool) → word_noted s t (syndrome_at m (word_of t.addr)) bad ≡ word_noted s t (syndrome_of_answer (store_answered true bad)) (is_err (store_answered true bad))
      by_bad true = refl
      by_bad false = refl

      by : (short : Bool) → nat_lt t.len 4 ≡ short → status_by s (with_answer (words_met m) t)
          ≡ word_noted s t (syndrome_of_answer (store_answered (nat_lt t.len 4) (is_bad_at m (word_of t.addr)))) (is_err (store_answered (nat_lt t.len 4) (is_bad_at m (word_of t.addr))))
      by true short =
          word_status (word_of t.addr) (asked true short) other ∙ by_bad (is_bad_at m (word_of t.addr))
          ∙ ap (λ (b : Bool). word_noted s t (syndrome_of_answer (store_answered b (is_bad_at m (word_of t.addr)))) (is_err (store_answered b (is_bad_at m (word_of t.addr))))) (sym short)
      by false short =
          none_status (asked false short) other
          ∙ ap (λ (b : Bool). word_noted s t (syndrome_of_answer (store_answered b (is_bad_at m (word_of t.addr)))) (is_err (store_answered b (is_bad_at m (word_of t.addr))))) (sym short)

  pub atomic_status : t.kind ≡ Atomic → status_by s (with_answer (words_met m) t)
      ≡ word_noted s t (syndrome_of_read (read_answer m (word_of t.addr))) (is_err (read_answer m (word_of t.addr)))
  unfolding read_answer
  atomic_status is =
      word_status (word_of t.addr) (ap (words_by_kind t.addr t.len) is) (ap (λ (k : TurnKind). same_kind k Fix) is)
      ∙ by_bad (is_bad_at m (word_of t.addr))
    where
      by_bad : (bad : Bool) → word_noted s t (syndrome_at m (word_of t.addr)) bad ≡ word_noted s t (syndrome_of_read (atomic_answered bad)) (is_err (atomic_answered bad))
      by_bad true = refl
      by_bad false = refl

  pub fix_status : t.kind ≡ Fix → status_by s (with_answer (words_met m) t)
      ≡ fix_noted s t (syndrome_of_fix (fix_answer m t.addr)) (is_bad_fix (fix_answer m t.addr))
  unfolding fix_answer
  fix_status is =
      asks (t.addr ∷ []) (ap (words_by_kind t.addr t.len) is)
      ∙ clears s t _ (syndrome_at m t.addr) (ap (λ (k : TurnKind). same_kind k Fix) is)
      ∙ ap (λ (r : AhbStatus). fix_cleared r t (is_bad_syndrome (syndrome_at m t.addr))) (one_noted s t (syndrome_at m t.addr))
      ∙ ap (fix_noted s t (syndrome_at m t.addr)) (bad_by_syndrome (met m t.addr))
      ∙ by (is_bad_at m t.addr) (is_fixed_word (met m t.addr)) refl refl
    where
      by : (bad fixed : Bool) → is_bad_at m t.addr ≡ bad → is_fixed_word (met m t.addr) ≡ fixed
          → fix_noted s t (syndrome_at m t.addr) bad ≡ fix_noted s t (syndrome_of_fix (fix_answered bad fixed)) (is_bad_fix (fix_answered bad fixed))
      by true fixed is_bad is_fixed = refl
      by false true is_bad is_fixed = refl
      by false false is_bad is_fixed = ap (λ (x : ℕ). fix_noted s t x false) (clean_syndrome (met m t.addr) is_bad is_fixed)

  -- ---- a line

  line_place : (line : ℕ) (place : Option ℕ) → noted_by s t (map (syndrome_at m) (words_of_line line)) place ≡ place_noted s t (line_shown m line) place
  line_place line None = refl
  line_place line (Some place) = ap (λ (b : Bool). first_of s (noted_at t place b)) (bad_at m (words_of_line line) place)

  pub line_status : reads_line t.kind ≡ true → status_by s (with_answer (words_met m) t) ≡ line_noted s t (line_shown m t.addr)
  line_status is =
      asks (words_of_line t.addr) (line_asked t.addr t.len t.kind is)
      ∙ not_cleared s t _ (map (syndrome_at m) (words_of_line t.addr)) (not_fix t.kind is)
      ∙ line_place t.addr (first_unclean_of 8 (map (syndrome_at m) (words_of_line t.addr)))
    where
      not_fix : (kind : TurnKind) → reads_line kind ≡ true → same_kind kind Fix ≡ false
      not_fix Fetch is = refl
      not_fix Load is = refl
      not_fix Store is = refl
      not_fix Atomic is = refl
      not_fix Snoop is = refl
      not_fix Look is = refl
      not_fix Fix is = absurd (false≢true is)
