-- The line of a transfer and its text belong together.
use Rattle.std.proofs.Common.{◌≡◌, ℕ, ◌-◌, ◌*◌, ◌/◌, ◌%◌, ◌^◌, ◌<◌, List, [], ◌∷◌, ◌++◌, Bool, true, false, refl, sym, ap, ◌∙◌, inl, inr, ◌⊎◌, arith}
use Rattle.std.specs.Prelude.{Option, Some, None, ◌&&◌, ◌||◌, ◌==◌, nat_lt, codes}
use Rattle.std.specs.List.{list_any}
use Rattle.std.specs.Option.{option_or, option_map}
use Rattle.std.proofs.lemmas.Bool.{and_parts, and_from, or_cases, eq-eqb, eqb-true, ne_eqb, lt-ltb, ltb-true, cases_eq, false≢true}
use Rattle.std.proofs.Math.Nat.{div-one}
use Rattle.std.proofs.lemmas.Option.{same_Some, none-some}
use Rattle.lf_model.specs.Texts.{number, hex_field}
use Rattle.lf_model.specs.Names.{why_place, same_why}
use Rattle.lf_model.specs.TransferLines.{kind_word, why_word, way_field, syndromes_field, syn_field}
use Rattle.lf_model.specs.Promise.RegularTransfer.{fits_word, causes_of_fill, causes_of_drain, causes_of, way_fits, words_fit, address_fits, syndromes_fit, is_regular_on_bus}
use Rattle.lf_model.specs.declared.bus.TurnKind.{TurnKind}
use Rattle.lf_model.specs.declared.bus.TurnKind.TheVariants.{Fetch, Load, Store, Atomic, Snoop, Look, Fix}
use Rattle.lf_model.specs.declared.bus.Why.{Why}
use Rattle.lf_model.specs.declared.bus.Why.TheVariants as whys
use Rattle.lf_model.specs.declared.bus.Transfer.{Transfer}
use Rattle.report_fields.specs.Reading.{Read, without, row, word_at}
use Rattle.report_fields.proofs.Laws.{Reads, past_reads, then_reads, as_reads, kept_reads, either_reads, row_reads, fits_reads, text_reads, word_reads, literal_passes}
use Rattle.report_fields.proofs.Decimal.{own_passes}
use Rattle.report_fields.proofs.Hexadecimal.{hex_reads, no_dash}
use Rattle.report_fields.proofs.Values.{any_reads, way_reads, hex_word_reads}
use Rattle.report_lines.specs.declared.syndromes.Syndromes.{Syndromes}
use Rattle.report_lines.specs.TransferLine.{shows_dashes, kinds, address_at, no_way_at, way_at, line_syndromes_at, word_syndrome_at, no_words, store_syndrome_at, snoop_at, syndromes_at, transfer_at}

-- ---- the kind and its cause

kind_again : (kind : TurnKind) (rest : List ℕ) → word_at kind_word kinds (kind_word kind ++ rest) ≡ Some (kind, rest)
kind_again Fetch rest = refl
kind_again Load rest = refl
kind_again Store rest = refl
kind_again Atomic rest = refl
kind_again Snoop rest = refl
kind_again Look rest = refl
kind_again Fix rest = refl

kind_reads : Reads (λ (kind : TurnKind). Unit {0}) kind_word (word_at kind_word kinds)
kind_reads = word_reads (λ kind. Unit {0}) kind_word kinds (λ bytes kind rest e. tt) (λ kind rest h. kind_again kind rest)

fill_again : (why : Why) (rest : List ℕ) → list_any (same_why why) causes_of_fill ≡ true → word_at why_word causes_of_fill (why_word why ++ rest) ≡ Some (why, rest)
fill_again whys.Absent rest h = refl
fill_again whys.Word rest h = refl
fill_again whys.Tag rest h = refl
fill_again whys.Byte rest h = refl
fill_again whys.None rest h = absurd cc
fill_again whys.Full rest h = absurd cc
fill_again whys.Miss rest h = absurd cc
fill_again whys.Stbar rest h = absurd cc
fill_again whys.Atomic rest h = absurd cc
fill_again whys.Flush rest h = absurd cc
fill_again whys.Window rest h = absurd cc
fill_again whys.End rest h = absurd cc
fill_again whys.Sched rest h = absurd cc

drain_again : (why : Why) (rest : List ℕ) → list_any (same_why why) causes_of_drain ≡ true → word_at why_word causes_of_drain (why_word why ++ rest) ≡ Some (why, rest)
drain_again whys.Full rest h = refl
drain_again whys.Miss rest h = refl
drain_again whys.Stbar rest h = refl
drain_again whys.Atomic rest h = refl
drain_again whys.Flush rest h = refl
drain_again whys.Window rest h = refl
drain_again whys.End rest h = refl
drain_again whys.Sched rest h = refl
drain_again whys.None rest h = absurd cc
drain_again whys.Absent rest h = absurd cc
drain_again whys.Word rest h = absurd cc
drain_again whys.Tag rest h = absurd cc
drain_again whys.Byte rest h = absurd cc

none_again : (why : Why) (rest : List ℕ) → list_any (same_why why) (whys.None ∷ []) ≡ true → word_at why_word (whys.None ∷ []) (why_word why ++ rest) ≡ Some (why, rest)
none_again whys.None rest h = refl
none_again whys.Absent rest h = absurd cc
none_again whys.Word rest h = absurd cc
none_again whys.Tag rest h = absurd cc
none_again whys.Byte rest h = absurd cc
none_again whys.Full rest h = absurd cc
none_again whys.Miss rest h = absurd cc
none_again whys.Stbar rest h = absurd cc
none_again whys.Atomic rest h = absurd cc
none_again whys.Flush rest h = absurd cc
none_again whys.Window rest h = absurd cc
none_again whys.End rest h = absurd cc
none_again whys.Sched rest h = absurd cc

window_again : (why : Why) (rest : List ℕ) → list_any (same_why why) (whys.Window ∷ []) ≡ true → word_at why_word (whys.Window ∷ []) (why_word why ++ rest) ≡ Some (why, rest)
window_again whys.None rest h = absurd cc
window_again whys.Absent rest h = absurd cc
window_again whys.Word rest h = absurd cc
window_again whys.Tag rest h = absurd cc
window_again whys.Byte rest h = absurd cc
window_again whys.Full rest h = absurd cc
window_again whys.Miss rest h = absurd cc
window_again whys.Stbar rest h = absurd cc
window_again whys.Atomic rest h = absurd cc
window_again whys.Flush rest h = absurd cc
window_again whys.Window rest h = refl
window_again whys.End rest h = absurd cc
window_again whys.Sched rest h = absurd cc

cause_again : (kind : TurnKind) (why : Why) (rest : List ℕ) → list_any (same_why why) (causes_of kind) ≡ true → word_at why_word (causes_of kind) (why_word why ++ rest) ≡ Some (why, rest)
cause_again Fetch = fill_again
cause_again Load = fill_again
cause_again Store = drain_again
cause_again Atomic = none_again
cause_again Snoop = window_again
cause_again Look = none_again
cause_again Fix = none_again

any_true : (a b : Bool) → (a ≡ true) ⊎ (b ≡ true) → (a || b) ≡ true
any_true true b h = refl
any_true false b (inl h) = absurd (false≢true h)
any_true false b (inr h) = h

chosen : (x : Why) (xs : List Why) (o : Option (List ℕ)) (bytes : List ℕ) (why : Why) (rest : List ℕ) → (word_at why_word xs bytes ≡ Some (why, rest) → list_any (same_why why) xs ≡ true)
    → option_or (option_map {U = Why × List ℕ} (λ r. (x, r)) o) (word_at why_word xs bytes) ≡ Some (why, rest) → list_any (same_why why) (x ∷ xs) ≡ true
chosen x xs None bytes why rest later e = any_true _ _ (inr (later e))
chosen x xs (Some r) bytes why rest later e =
    let same : x ≡ why = ap (λ (w : Why × List ℕ). w.0) (same_Some (x, r) (why, rest) e) in
    any_true _ _ (inl (eq-eqb (why_place why) (why_place x) (ap why_place (sym same))))

cause_listed : (xs : List Why) (bytes : List ℕ) (why : Why) (rest : List ℕ) → word_at why_word xs bytes ≡ Some (why, rest) → list_any (same_why why) xs ≡ true
cause_listed [] bytes why rest e = absurd (none-some (why, rest) e)
cause_listed (x ∷ xs) bytes why rest e = chosen x xs (without (why_word x) bytes) bytes why rest (cause_listed xs bytes why rest) e

cause_reads : (kind : TurnKind) → Reads (λ why. list_any (same_why why) (causes_of kind) ≡ true) why_word (word_at why_word (causes_of kind))
cause_reads kind = word_reads (λ why. list_any (same_why why) (causes_of kind) ≡ true) why_word (causes_of kind) (cause_listed (causes_of kind)) (cause_again kind)

-- ---- the address

address_word : (addr : ℕ) (kind : TurnKind) → address_fits addr kind ≡ true → fits_word addr ≡ true
address_word addr Fetch h = h
address_word addr Load h = h
address_word addr Store h = h
address_word addr Atomic h = h
address_word addr Snoop h = rw (eqb-true addr 0 h) refl
address_word addr Look h = h
address_word addr Fix h = h

address_reads : (kind : TurnKind) → Reads (λ addr. address_fits addr kind ≡ true) (hex_field 32 8) (address_at kind)
unfolding address_at
address_reads kind = fits_reads (λ addr. address_fits addr kind ≡ true) (kept_reads (λ addr. address_fits addr kind) (hex_word_reads 32))
    (λ addr h. h.1) (λ addr h. (address_word addr kind h, h))

-- ---- the way

no_way_reads : (text : ℕ → List ℕ) (fits : ℕ → Bool) → text 0 ≡ codes "- " → ((way : ℕ) → fits way ≡ (way == 0)) → Reads (λ way. fits way ≡ true) text no_way_at
no_way_reads text fits none zero_fits = fits_reads (λ way. fits way ≡ true) (row_reads text (codes "- ") 0 none)
    (λ way h. zero_fits way ∙ eq-eqb way 0 h) (λ way h. eqb-true way 0 (sym (zero_fits way) ∙ h))

way_at_reads : (kind : TurnKind) → Reads (λ way. way_fits way kind ≡ true) (way_field kind) (way_at kind)
way_at_reads Fetch = way_reads 32 (omega arith)
way_at_reads Load = way_reads 32 (omega arith)
way_at_reads Store = no_way_reads (way_field Store) (λ way. way_fits way Store) refl (λ way. refl)
way_at_reads Atomic = no_way_reads (way_field Atomic) (λ way. way_fits way Atomic) refl (λ way. refl)
way_at_reads Snoop = no_way_reads (way_field Snoop) (λ way. way_fits way Snoop) refl (λ way. refl)
way_at_reads Look = no_way_reads (way_field Look) (λ way. way_fits way Look) refl (λ way. refl)
way_at_reads Fix = no_way_reads (way_field Fix) (λ way. way_fits way Fix) refl (λ way. refl)

-- ---- the syndromes

-- a transfer with these syndromes, and else nothing told
abbrev with : Syndromes → Transfer
with s = record { syn = s.syn; turn = 0; master = 0; step = 0; addr = 0; kind = Fetch; why = whys.None; way = 0; words = s.words; len = s.len }

-- the length is 8 for four dashes, and else 0
abbrev pub length_fits : TurnKind → ℕ → ℕ → Bool
length_fits kind words len = len == 0 || (shows_dashes kind words && len == 8)

abbrev SyndromesFit : TurnKind → Syndromes → Type 0
SyndromesFit kind s = (words_fit s.words kind ≡ true) × ((syndromes_fit (with s) ≡ true) × (length_fits kind s.words s.len ≡ true))

abbrev shown : TurnKind → Syndromes → List ℕ
shown kind s = syn_field kind s.len (with s)

abbrev Words : ℕ → Syndromes → Type 0
Words words s = (s.words ≡ words) × ((syndromes_fit (with s) ≡ true) × (s.len ≡ 0))

line_back : (syn words len : ℕ) → words ≡ 8 → (nat_lt syn (2 ^ 64) && syn % 2 ^ (64 - 8 * words) == 0) ≡ true → len ≡ 0
    → (hex_field 10 (2 * words) (syn / 2 ^ (64 - 8 * words)) ≡ hex_field 10 16 syn)
    × ((◌≡◌ {A = Syndromes} (record { syn = syn; words = 8; len = 0 }) (record { syn = syn; words = words; len = len })) × (syn < 16 ^ 16))
line_back syn words len is fits none = (rw (is, div-one syn) refl, (rw (is, none) refl, ltb-true syn (2 ^ 64) (and_parts _ _ fits).0))

line_reads : Reads (Words 8) (λ s. syndromes_field (with s)) line_syndromes_at
unfolding line_syndromes_at
line_reads = as_reads (Words 8) (λ s. syndromes_field (with s)) (λ v. record { syn = v; words = 8; len = 0 }) (λ s. s.syn) (hex_reads 10 16)
    (λ v small. (rw (div-one v) refl, (refl, (and_from _ _ (lt-ltb v (2 ^ 64) small) (eq-eqb (v % 1) 0 (omega arith)), refl))))
    (λ s h. line_back s.syn s.words s.len h.0 h.1.0 h.1.1)

word_back : (syn words len : ℕ) → words ≡ 1 → (nat_lt syn (2 ^ 64) && syn % 2 ^ (64 - 8 * words) == 0) ≡ true → len ≡ 0
    → (hex_field 10 (2 * words) (syn / 2 ^ (64 - 8 * words)) ≡ hex_field 10 2 (syn / 2 ^ 56))
    × ((◌≡◌ {A = Syndromes} (record { syn = syn / 2 ^ 56 * 2 ^ 56; words = 1; len = 0 }) (record { syn = syn; words = words; len = len })) × (syn / 2 ^ 56 < 16 ^ 2))
word_back syn words len is fits none =
    let both = and_parts _ _ (rw is at fits) in
    let small : syn < 2 ^ 64 = ltb-true syn (2 ^ 64) both.0 in
    let round : syn % 2 ^ 56 ≡ 0 = eqb-true (syn % 2 ^ 56) 0 both.1 in
    let value : syn / 2 ^ 56 * 2 ^ 56 ≡ syn = omega arith in
    (rw is refl, (rw (is, none, value) refl, omega arith))

word_syndrome_reads : Reads (Words 1) (λ s. syndromes_field (with s)) word_syndrome_at
unfolding word_syndrome_at
word_syndrome_reads = as_reads (Words 1) (λ s. syndromes_field (with s)) (λ v. record { syn = v * 2 ^ 56; words = 1; len = 0 }) (λ s. s.syn / 2 ^ 56) (hex_reads 10 2)
    (λ v small.
    let value : v * 2 ^ 56 / 2 ^ 56 ≡ v = omega arith in
    let below : v * 2 ^ 56 < 2 ^ 64 = omega arith in
    let round : v * 2 ^ 56 % 2 ^ 56 ≡ 0 = omega arith in
    (ap (hex_field 10 2) value, (refl, (and_from _ _ (lt-ltb (v * 2 ^ 56) (2 ^ 64) below) (eq-eqb (v * 2 ^ 56 % 2 ^ 56) 0 round), refl))))
    (λ s h. word_back s.syn s.words s.len h.0 h.1.0 h.1.1)

no_dashes : (a b : Bool) → a ≡ false → (a && b) ≡ true → ⊥
no_dashes a b none h = false≢true (sym none ∙ (and_parts a b h).0)

-- a length of 0, where no dashes are shown
no_length : (kind : TurnKind) (words len : ℕ) → shows_dashes kind words ≡ false → length_fits kind words len ≡ true → len ≡ 0
no_length kind words len none h = elim (or_cases _ _ h) [ inl short ↦ eqb-true len 0 short | inr long ↦ absurd (no_dashes (shows_dashes kind words) (len == 8) none long) ]

-- a kind that reads so many words, and shows no dashes
counted_there : (kind : TurnKind) (words : ℕ) → ((n : ℕ) → words_fit n kind ≡ (n == words)) → ((n : ℕ) → shows_dashes kind n ≡ false) → (s : Syndromes) → Words words s → SyndromesFit kind s
counted_there kind words fits none s h = (fits s.words ∙ eq-eqb s.words words h.0, (h.1.0, rw h.1.1 refl))

counted_back : (kind : TurnKind) (words : ℕ) → ((n : ℕ) → words_fit n kind ≡ (n == words)) → ((n : ℕ) → shows_dashes kind n ≡ false) → (s : Syndromes) → SyndromesFit kind s → Words words s
counted_back kind words fits none s h =
    let len : length_fits kind s.words s.len ≡ true = h.1.1 in
    (eqb-true s.words words (sym (fits s.words) ∙ h.0), (h.1.0, no_length kind s.words s.len (none s.words) len))

snoop_there : (s : Syndromes) → s ≡ no_words 0 → SyndromesFit Snoop s
snoop_there s is = rw is (refl, (refl, refl))

nothing : (syn words len whole : ℕ) → words ≡ 0 → (nat_lt syn (2 ^ 64) && syn % 2 ^ (64 - 8 * words) == 0) ≡ true → len ≡ whole
    → ◌≡◌ {A = Syndromes} (record { syn = syn; words = words; len = len }) (no_words whole)
nothing syn words len whole is fits long =
    let both = and_parts _ _ (rw is at fits) in
    let small : syn < 2 ^ 64 = ltb-true syn (2 ^ 64) both.0 in
    let round : syn % 2 ^ 64 ≡ 0 = eqb-true (syn % 2 ^ 64) 0 both.1 in
    let none : syn ≡ 0 = omega arith in
    rw (is, long, none) refl

snoop_back : (s : Syndromes) → SyndromesFit Snoop s → s ≡ no_words 0
snoop_back s h = nothing s.syn s.words s.len 0 (eqb-true s.words 0 h.0) h.1.0 (no_length Snoop s.words s.len refl h.1.1)

abbrev StoreShows : Syndromes → Type 0
StoreShows s = (s ≡ no_words 8) ⊎ ((s ≡ no_words 0) ⊎ Words 1 s)

store_there : (s : Syndromes) → StoreShows s → SyndromesFit Store s
store_there s (inl is) = rw is (refl, (refl, refl))
store_there s (inr (inl is)) = rw is (refl, (refl, refl))
store_there s (inr (inr h)) = (rw h.0 refl, (h.1.0, rw h.1.1 refl))

store_back : (s : Syndromes) → SyndromesFit Store s → StoreShows s
store_back s h =
    elim (cases_eq s.words 0) [
      | inl none ↦
          elim (or_cases _ _ h.1.1) [
            | inl short ↦ inr (inl (nothing s.syn s.words s.len 0 none h.1.0 (eqb-true s.len 0 short)))
            | inr long ↦ inl (nothing s.syn s.words s.len 8 none h.1.0 (eqb-true s.len 8 (and_parts _ _ long).1))
          ]
      | inr some ↦
          let one : s.words ≡ 1 = omega (arith, ltb-true s.words 2 h.0) in
          let hidden : shows_dashes Store s.words ≡ false = ne_eqb s.words 0 some in
          inr (inr (one, (h.1.0, no_length Store s.words s.len hidden h.1.1)))
    ]

one_shown : (s : Syndromes) → Words 1 s → shown Store s ≡ syndromes_field (with s)
one_shown s h = rw h.0 refl

digits_no_dash : (s : Syndromes) (text rest : List ℕ) → Words 1 s → without (45 ∷ text) (shown Store s ++ rest) ≡ None
digits_no_dash s text rest h = rw h.0 (no_dash 10 1 (s.syn / 2 ^ 56) text rest)

two_refuse : (s : Syndromes) (rest : List ℕ) → Words 1 s → ◌≡◌ {A = Read Syndromes} (row {X = Syndromes} (codes "--\n") (no_words 0) (shown Store s ++ rest)) None
two_refuse s rest h = rw (digits_no_dash s (codes "-\n") rest h) refl

four_refuse : (s : Syndromes) (rest : List ℕ) → (s ≡ no_words 0) ⊎ Words 1 s → ◌≡◌ {A = Read Syndromes} (row {X = Syndromes} (codes "----\n") (no_words 8) (shown Store s ++ rest)) None
four_refuse s rest (inl is) = rw is refl
four_refuse s rest (inr h) = rw (digits_no_dash s (codes "---\n") rest h) refl

store_reads : Reads (SyndromesFit Store) (shown Store) store_syndrome_at
unfolding store_syndrome_at
store_reads = fits_reads (SyndromesFit Store)
    (either_reads (row_reads (shown Store) (codes "----\n") (no_words 8) refl)
    (either_reads (row_reads (shown Store) (codes "--\n") (no_words 0) refl) (text_reads (shown Store) word_syndrome_reads one_shown) two_refuse) four_refuse)
    store_there store_back

syndromes_reads : (kind : TurnKind) → Reads (SyndromesFit kind) (shown kind) (syndromes_at kind)
unfolding snoop_at
syndromes_reads Fetch = fits_reads (SyndromesFit Fetch) line_reads (counted_there Fetch 8 (λ n. refl) (λ n. refl)) (counted_back Fetch 8 (λ n. refl) (λ n. refl))
syndromes_reads Load = fits_reads (SyndromesFit Load) line_reads (counted_there Load 8 (λ n. refl) (λ n. refl)) (counted_back Load 8 (λ n. refl) (λ n. refl))
syndromes_reads Store = store_reads
syndromes_reads Atomic = fits_reads (SyndromesFit Atomic) word_syndrome_reads (counted_there Atomic 1 (λ n. refl) (λ n. refl)) (counted_back Atomic 1 (λ n. refl) (λ n. refl))
syndromes_reads Snoop = fits_reads (SyndromesFit Snoop) (row_reads (shown Snoop) (codes "-\n") (no_words 0) refl) snoop_there snoop_back
syndromes_reads Look = fits_reads (SyndromesFit Look) line_reads (counted_there Look 8 (λ n. refl) (λ n. refl)) (counted_back Look 8 (λ n. refl) (λ n. refl))
syndromes_reads Fix = fits_reads (SyndromesFit Fix) word_syndrome_reads (counted_there Fix 1 (λ n. refl) (λ n. refl)) (counted_back Fix 1 (λ n. refl) (λ n. refl))

-- ---- the line

-- a transfer of this turn, with its length as its dashes say
abbrev pub TransferFits : ℕ → Transfer → Type 0
TransferFits turn t = (t.turn ≡ turn) × ((is_regular_on_bus t ≡ true) × (length_fits t.kind t.words t.len ≡ true))

abbrev syndromes_of : Transfer → Syndromes
syndromes_of t = record { syn = t.syn; words = t.words; len = t.len }

abbrev Fields : Type 0
Fields = ℕ × (ℕ × (TurnKind × (Why × (ℕ × (ℕ × Syndromes)))))

abbrev fields_of : Transfer → Fields
fields_of t = (t.master, (t.step, (t.kind, (t.why, (t.addr, (t.way, syndromes_of t))))))

abbrev transfer_of : ℕ → Fields → Transfer
transfer_of turn z = record {
  syn = z.1.1.1.1.1.1.syn;
  turn = turn;
  master = z.0;
  step = z.1.0;
  addr = z.1.1.1.1.0;
  kind = z.1.1.0;
  why = z.1.1.1.0;
  way = z.1.1.1.1.1.0;
  words = z.1.1.1.1.1.1.words;
  len = z.1.1.1.1.1.1.len;
}

abbrev FieldsFit : Fields → Type 0
FieldsFit z = (fits_word z.0 ≡ true) × ((fits_word z.1.0 ≡ true) × (Unit {0} × ((list_any (same_why z.1.1.1.0) (causes_of z.1.1.0) ≡ true)
    × ((address_fits z.1.1.1.1.0 z.1.1.0 ≡ true) × ((way_fits z.1.1.1.1.1.0 z.1.1.0 ≡ true) × SyndromesFit z.1.1.0 z.1.1.1.1.1.1)))))

transfer_there : (turn : ℕ) (z : Fields) → turn < 2 ^ 32 → FieldsFit z → TransferFits turn (transfer_of turn z)
transfer_there turn z small h =
    let s = h.1.1.1.1.1.1 in (
      refl,
      (
        and_from _ _ (lt-ltb turn (2 ^ 32) small) (and_from _ _ h.0 (and_from _ _ h.1.0 (and_from _ _ h.1.1.1.0 (and_from _ _ h.1.1.1.1.0 (and_from _ _ h.1.1.1.1.1.0
            (and_from _ _ s.0 s.1.0)))))),
        s.1.1,
      ),
    )

transfer_back : (turn : ℕ) (t : Transfer) → TransferFits turn t → (transfer_of turn (fields_of t) ≡ t) × FieldsFit (fields_of t)
transfer_back turn t h =
    let a = and_parts _ _ h.1.0 in let b = and_parts _ _ a.1 in let c = and_parts _ _ b.1 in let d = and_parts _ _ c.1 in
    let e = and_parts _ _ d.1 in let f = and_parts _ _ e.1 in let g = and_parts _ _ f.1 in
    (ap (λ (n : ℕ). transfer_of n (fields_of t)) (sym h.0), (b.0, (c.0, (tt, (d.0, (e.0, (f.0, (g.0, (g.1, h.1.1)))))))))

-- the field of the syndromes tells nothing else of a transfer
syn_field_is : (kind : TurnKind) (len : ℕ) (t : Transfer) → syn_field kind len t ≡ syn_field kind len (with (syndromes_of t))
syn_field_is Fetch len t = refl
syn_field_is Load len t = refl
syn_field_is Store len t = refl
syn_field_is Atomic len t = refl
syn_field_is Snoop len t = refl
syn_field_is Look len t = refl
syn_field_is Fix len t = refl

abbrev fields_text : Fields → List ℕ
fields_text z = number 32 z.0 ++ (number 32 z.1.0 ++ (kind_word z.1.1.0 ++ (why_word z.1.1.1.0 ++ (hex_field 32 8 z.1.1.1.1.0
    ++ (way_field z.1.1.0 z.1.1.1.1.1.0 ++ shown z.1.1.0 z.1.1.1.1.1.1)))))

abbrev behind_turn : Transfer → List ℕ
behind_turn t = number 32 t.master ++ (number 32 t.step ++ (kind_word t.kind ++ (why_word t.why ++ (hex_field 32 8 t.addr
    ++ (way_field t.kind t.way ++ syn_field t.kind t.len t)))))

behind_is : (t : Transfer) → behind_turn t ≡ fields_text (fields_of t)
behind_is t = ap (λ (w : List ℕ). number 32 t.master ++ (number 32 t.step ++ (kind_word t.kind ++ (why_word t.why ++ (hex_field 32 8 t.addr
    ++ (way_field t.kind t.way ++ w)))))) (syn_field_is t.kind t.len t)

-- the line of a transfer by its own length
abbrev pub loose_line : ℕ → Transfer → List ℕ
loose_line turn t = codes "t " ++ (number 32 turn ++ behind_turn t)

pub transfer_reads : (turn : ℕ) → turn < 2 ^ 32 → Reads (TransferFits turn) (loose_line turn) (transfer_at turn)
unfolding transfer_at
transfer_reads turn small = past_reads (literal_passes (codes "t ")) (past_reads (own_passes 32 turn (omega arith) small)
    (as_reads (TransferFits turn) behind_turn (transfer_of turn) fields_of
    (then_reads (any_reads 32 (omega arith)) (λ master a. then_reads (any_reads 32 (omega arith)) (λ step b. then_reads kind_reads (λ kind c.
    then_reads (cause_reads kind) (λ why d. then_reads (address_reads kind) (λ addr e. then_reads (way_at_reads kind) (λ way f. syndromes_reads kind)))))))
    (λ z h. (behind_is (transfer_of turn z), transfer_there turn z small h))
    (λ t h. (behind_is t, transfer_back turn t h))))
