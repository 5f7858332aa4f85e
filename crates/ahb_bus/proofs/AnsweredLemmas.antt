-- What a transfer shows of the words that it read: the syndrome of each, by which it is known whether a store or an atomic reached
-- memory.
use Rattle.std.proofs.Common.{◌≡◌, ℕ, ◌+◌, ◌-◌, ◌*◌, ◌/◌, ◌%◌, ◌^◌, ◌<◌, ◌==◌, ◌&&◌, ◌||◌, Bool, true, false, not, nat_lt, cond, List, [], ◌∷◌, length, map, refl, ap, ap₂, ◌∙◌, arith}
use Rattle.std.specs.List.{list_any, range_with_len}
use Rattle.std.proofs.lemmas.Bool.{lt-ltb, eq-eqb}
use Rattle.lf_model.proofs.GoodWords.{eight_back}
use Rattle.lf_model.proofs.SyndromeLaw.{bad_by_syndrome, syndrome_below}
use Rattle.lf_model.specs.Bus.Words.{Word, word_of, words_by_kind, word_history}
use Rattle.lf_model.specs.Course.Syndromes.{packed, syndromes_of, is_bad_syndrome}
use Rattle.lf_model.specs.Flips.{syndrome, is_bad_word}
use Rattle.lf_model.specs.Promise.RegularTransfer.{words_fit, syndromes_fit}
use Rattle.lf_model.specs.Records.BusMemory.{words_asked, with_answer}
use Rattle.lf_model.specs.Records.BusRecord.{is_successful}
use Rattle.lf_model.specs.TransferLines.{makes_entry}
use Rattle.lf_model.specs.declared.bus.Transfer.{Transfer}
use Rattle.lf_model.specs.declared.bus.TurnKind.{TurnKind}
use Rattle.lf_model.specs.declared.bus.TurnKind.TheVariants.{Fetch, Load, Store, Atomic, Snoop, Look, Fix}

-- a transfer reads no word, one, or the eight of a line
data IsRead : List ℕ → Type 0 where
  NoWord : IsRead []
  OneWord : (a : ℕ) → IsRead (a ∷ [])
  OneLine : (a b c d e f g h : ℕ) → IsRead (a ∷ b ∷ c ∷ d ∷ e ∷ f ∷ g ∷ h ∷ [])

is_read : (addr len : ℕ) (kind : TurnKind) → IsRead (words_by_kind addr len kind)
is_read addr len Fetch = OneLine _ _ _ _ _ _ _ _
is_read addr len Load = OneLine _ _ _ _ _ _ _ _
is_read addr len Store = part (nat_lt len 4)
  where
    part : (b : Bool) → IsRead (cond b (word_of addr ∷ []) [])
    part true = OneWord (word_of addr)
    part false = NoWord
is_read addr len Atomic = OneWord (word_of addr)
is_read addr len Snoop = NoWord
is_read addr len Look = OneLine _ _ _ _ _ _ _ _
is_read addr len Fix = OneWord addr

-- ---- so many numbers of seven bits, packed

module _ (f : ℕ → ℕ) (below : (a : ℕ) → f a < 128) where
  one_back : (a : ℕ) → (0 * 256 + f a) * 2 ^ 56 / 2 ^ 56 % 256 ≡ f a
  one_back a = omega (arith, below a)

  read_back : (addrs : List ℕ) → IsRead addrs → map (λ j. packed (map f addrs) / 2 ^ (56 - 8 * j) % 256) (range_with_len 0 (length addrs)) ≡ map f addrs
  read_back addrs NoWord = refl
  read_back addrs (OneWord a) = ap (λ (s : ℕ). s ∷ []) (one_back a)
  read_back addrs (OneLine a b c d e g h i) =
      eight_back (f a) (f b) (f c) (f d) (f e) (f g) (f h) (f i) (below a) (below b) (below c) (below d) (below e) (below g) (below h) (below i)

  abbrev packed_fits : List ℕ → Bool
  packed_fits addrs = nat_lt (packed (map f addrs)) (2 ^ 64) && packed (map f addrs) % 2 ^ (64 - 8 * length addrs) == 0

  fits : (n count : ℕ) → n < 2 ^ 64 → n % 2 ^ (64 - 8 * count) ≡ 0 → (nat_lt n (2 ^ 64) && n % 2 ^ (64 - 8 * count) == 0) ≡ true
  fits n count small whole = ap₂ (λ (a b : Bool). a && b) (lt-ltb n (2 ^ 64) small) (eq-eqb (n % 2 ^ (64 - 8 * count)) 0 whole)

  read_fits : (addrs : List ℕ) → IsRead addrs → packed_fits addrs ≡ true
  read_fits addrs NoWord = fits (packed []) 0 (omega arith) (omega arith)
  read_fits addrs (OneWord a) =
      let s = below a in fits (packed (f a ∷ [])) 1 (omega (arith, s)) (omega (arith, s))
  read_fits addrs (OneLine a b c d e g h i) =
      fits (packed (f a ∷ f b ∷ f c ∷ f d ∷ f e ∷ f g ∷ f h ∷ f i ∷ [])) 8
      (omega (arith, below a, below b, below c, below d, below e, below g, below h, below i)) (omega arith)

-- ---- a transfer with what memory answers

abbrev pub syndrome_in : List Word → ℕ → ℕ
syndrome_in words addr = syndrome (word_history words addr)

in_range : (words : List Word) (addr : ℕ) → syndrome_in words addr < 128
in_range words addr = syndrome_below (word_history words addr)

module _ (words : List Word) (t : Transfer) where
  pub syndromes_read : syndromes_of (with_answer words t) ≡ map (syndrome_in words) (words_asked t)
  syndromes_read = read_back (syndrome_in words) (in_range words) (words_asked t) (is_read t.addr t.len t.kind)

  pub syndromes_answered : syndromes_fit (with_answer words t) ≡ true
  syndromes_answered = read_fits (syndrome_in words) (in_range words) (words_asked t) (is_read t.addr t.len t.kind)

  abbrev kept_by : List ℕ → Bool
  kept_by syndromes = makes_entry t.kind && not (list_any is_bad_syndrome syndromes)

  -- a store or an atomic that read one word is successful unless that was bad
  one_successful : (addr : ℕ) → makes_entry t.kind ≡ true → words_asked t ≡ addr ∷ [] → is_successful (with_answer words t) ≡ not (is_bad_word (word_history words addr))
  one_successful addr makes asked =
      ap kept_by (syndromes_read ∙ ap (map (syndrome_in words)) asked)
      ∙ ap₂ (λ (a b : Bool). a && not (b || false)) makes (bad_by_syndrome (word_history words addr))
      ∙ or_none (is_bad_word (word_history words addr))
    where
      or_none : (b : Bool) → not (b || false) ≡ not b
      or_none true = refl
      or_none false = refl

  none_successful : makes_entry t.kind ≡ true → words_asked t ≡ [] → is_successful (with_answer words t) ≡ true
  none_successful makes asked = ap kept_by (syndromes_read ∙ ap (map (syndrome_in words)) asked) ∙ ap (λ (b : Bool). b && true) makes

  pub store_successful : t.kind ≡ Store → is_successful (with_answer words t) ≡ not (nat_lt t.len 4 && is_bad_word (word_history words (word_of t.addr)))
  store_successful is = by (nat_lt t.len 4) refl
    where
      asks : (b : Bool) → nat_lt t.len 4 ≡ b → words_asked t ≡ cond b (word_of t.addr ∷ []) []
      asks b short = ap (words_by_kind t.addr t.len) is ∙ ap (λ (c : Bool). cond c (word_of t.addr ∷ []) []) short

      by : (b : Bool) → nat_lt t.len 4 ≡ b → is_successful (with_answer words t) ≡ not (b && is_bad_word (word_history words (word_of t.addr)))
      by true short = one_successful (word_of t.addr) (ap makes_entry is) (asks true short)
      by false short = none_successful (ap makes_entry is) (asks false short)

  pub atomic_successful : t.kind ≡ Atomic → is_successful (with_answer words t) ≡ not (is_bad_word (word_history words (word_of t.addr)))
  atomic_successful is = one_successful (word_of t.addr) (ap makes_entry is) (ap (words_by_kind t.addr t.len) is)

  pub other_successful : makes_entry t.kind ≡ false → is_successful (with_answer words t) ≡ false
  other_successful other = ap (λ (b : Bool). b && not (list_any is_bad_syndrome (syndromes_of (with_answer words t)))) other

-- each kind of transfer reads as many words as a line of a report shows
pub words_answered : (addr len : ℕ) (kind : TurnKind) → words_fit (length (words_by_kind addr len kind)) kind ≡ true
words_answered addr len Fetch = refl
words_answered addr len Load = refl
words_answered addr len Store = part (nat_lt len 4)
  where
    part : (b : Bool) → nat_lt (length (cond b (word_of addr ∷ []) [])) 2 ≡ true
    part true = refl
    part false = refl
words_answered addr len Atomic = refl
words_answered addr len Snoop = refl
words_answered addr len Look = refl
words_answered addr len Fix = refl
