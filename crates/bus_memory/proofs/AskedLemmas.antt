-- What memory answers to a transfer: how many words it read, and their syndromes.
use Rattle.std.proofs.Common.{◌≡◌, ℕ, zero, suc, ◌+◌, ◌*◌, ◌%◌, ◌^◌, ◌<◌, ◌≤◌, Bool, true, false, cond, nat_lt, List, [], ◌∷◌, length, map, refl, ap, ap₂, ◌∙◌, arith}
use Rattle.std.specs.Prelude.{fold}
use Rattle.std.specs.List.{AllByRecursion, range_with_len}
use Rattle.std.proofs.lemmas.Bool.{false≢true, lt-ltb, ltb-true}
use Rattle.lf_model.specs.Bus.Words.{Word, word_of, words_of_line, words_by_kind, word_history}
use Rattle.lf_model.specs.Course.Syndromes.{packed}
use Rattle.lf_model.specs.Flips.{syndrome}
use Rattle.lf_model.specs.Records.BusMemory.{words_asked, with_answer}
use Rattle.lf_model.specs.Start.{ram_first}
use Rattle.lf_model.specs.declared.bus.Transfer.{Transfer}
use Rattle.lf_model.specs.declared.bus.TurnKind.{TurnKind}
use Rattle.lf_model.specs.declared.bus.TurnKind.TheVariants.{Fetch, Load, Store, Atomic, Snoop, Look, Fix}
use Rattle.bus_memory.specs.MemoryState.{reads_line}
use Rattle.bus_memory.specs.Followed.{IsWordAt}
use Rattle.ram_words.specs.Ram.{place_of}

-- the words that each kind reads
line_asked : (kind : TurnKind) (addr len : ℕ) → reads_line kind ≡ true → words_by_kind addr len kind ≡ words_of_line addr
line_asked Fetch addr len is = refl
line_asked Load addr len is = refl
line_asked Store addr len is = absurd (false≢true is)
line_asked Atomic addr len is = absurd (false≢true is)
line_asked Snoop addr len is = absurd (false≢true is)
line_asked Look addr len is = refl
line_asked Fix addr len is = absurd (false≢true is)

pub part_asked : (t : Transfer) → t.kind ≡ Store → t.len < 4 → words_asked t ≡ word_of t.addr ∷ []
part_asked t store short =
    ap (words_by_kind t.addr t.len) store ∙ ap (λ (b : Bool). cond b (word_of t.addr ∷ []) []) (lt-ltb t.len 4 short)

not_short : (len : ℕ) → 4 ≤ len → nat_lt len 4 ≡ false
not_short len long = by (nat_lt len 4) refl
  where
    by : (b : Bool) → nat_lt len 4 ≡ b → b ≡ false
    by true is = absurd (let lt : len < 4 = ltb-true len 4 is in omega (arith, lt, long))
    by false is = refl

pub whole_asked : (t : Transfer) → t.kind ≡ Store → 4 ≤ t.len → words_asked t ≡ []
whole_asked t store long = ap (words_by_kind t.addr t.len) store ∙ ap (λ (b : Bool). cond b (word_of t.addr ∷ []) []) (not_short t.len long)

pub atomic_asked : (t : Transfer) → t.kind ≡ Atomic → words_asked t ≡ word_of t.addr ∷ []
atomic_asked t atomic = ap (words_by_kind t.addr t.len) atomic

pub fix_asked : (t : Transfer) → t.kind ≡ Fix → words_asked t ≡ t.addr ∷ []
fix_asked t fix = ap (words_by_kind t.addr t.len) fix

pub snoop_asked : (t : Transfer) → t.kind ≡ Snoop → words_asked t ≡ []
snoop_asked t snoop = ap (words_by_kind t.addr t.len) snoop

-- the answers
abbrev answered_with : Transfer → List Word → List ℕ → Transfer
answered_with t words asked = record t { words = length asked; syn = packed (map (λ addr. syndrome (word_history words addr)) asked) }

abbrev pub line_syndromes : List Word → ℕ → List ℕ
line_syndromes words line = map (λ addr. syndrome (word_history words addr)) (words_of_line line)

abbrev pub joined : List ℕ → ℕ
joined syns = fold (λ number syndrome. number * 2 ^ 8 + syndrome) 0 syns

times_one : (n : ℕ) → n * 1 ≡ n
times_one n = omega arith

pub line_answered : (t : Transfer) (words : List Word) → reads_line t.kind ≡ true
    → with_answer words t ≡ record t { syn = joined (line_syndromes words t.addr); words = 8 }
line_answered t words is =
    ap (answered_with t words) (line_asked t.kind t.addr t.len is)
    ∙ ap (λ (n : ℕ). record t { words = 8; syn = n }) (times_one (joined (line_syndromes words t.addr)))

one_packed : (syn : ℕ) → packed (syn ∷ []) ≡ syn * 2 ^ 56
one_packed syn = omega arith

pub word_answered : (t : Transfer) (words : List Word) (addr : ℕ) → words_asked t ≡ addr ∷ []
    → with_answer words t ≡ record t { syn = syndrome (word_history words addr) * 2 ^ 56; words = 1 }
word_answered t words addr is =
    ap (answered_with t words) is
    ∙ ap (λ (n : ℕ). record t { words = 1; syn = n }) (one_packed (syndrome (word_history words addr)))

pub none_answered : (t : Transfer) (words : List Word) → words_asked t ≡ [] → with_answer words t ≡ record t { syn = 0; words = 0 }
none_answered t words is = ap (answered_with t words) is

-- ---- the words of a line

words_from : (count line j n : ℕ) → line % 32 ≡ 0 → ram_first ≤ line → place_of line + 8 ≤ count → j + n ≤ 8
    → AllByRecursion (IsWordAt count) (map (λ i. line + 4 * i) (range_with_len j n))
words_from count line j zero aligned above within few = tt
words_from count line j (suc n) aligned above within few = (
  record {
    aligned = omega arith;
    above = omega arith;
    within = omega arith;
  },
  words_from count line (j + 1) n aligned above within (omega arith),
)

pub line_words : (count line : ℕ) → line % 32 ≡ 0 → ram_first ≤ line → place_of line + 8 ≤ count → AllByRecursion (IsWordAt count) (words_of_line line)
line_words count line aligned above within = words_from count line 0 8 aligned above within (omega arith)

-- two lists made by functions that agree
pub map_agree : {X : Type 0} (f g : ℕ → X) (xs : List ℕ) → AllByRecursion (λ x. f x ≡ g x) xs → map f xs ≡ map g xs
map_agree {X} f g [] all = refl
map_agree {X} f g (x ∷ xs) all = ap₂ (λ (y : X) (ys : List X). y ∷ ys) all.0 (map_agree f g xs all.1)
