-- The table of places as it is built.
use Rattle.std.proofs.Common.{◌≡◌, ℕ, zero, suc, ◌+◌, ◌-◌, ◌*◌, ◌/◌, ◌<◌, ◌≤◌, false, nat_le, List, [], ◌∷◌, ◌++◌, length, map, take, slice_index, slice_index_or, slice_set, Option, Some, None, refl, sym, ap, ◌∙◌, subst, inl, inr, arith}
use Rattle.std.specs.Prelude.{replicate, is_some, fold}
use Rattle.std.specs.List.{AllByRecursion}
use Rattle.std.specs.Option.{option_map_or}
use Rattle.std.proofs.lemmas.Bool.{cases_eq, and_parts, leb-true}
use Rattle.std.proofs.lemmas.List.{get_or-set_same, get_or-set_other, length-set, take_more}
use Rattle.std.proofs.lemmas.List.Sums.{fold_push}
use Rattle.lf_model.proofs.EachLemmas.{each_append, each_weaker}
use Rattle.lf_model.specs.Bus.Words.{with_struck}
use Rattle.lf_model.specs.Start.{ram_first}
use Rattle.lf_model.specs.declared.flip.Flip.{Flip}
use Rattle.lf_model.specs.declared.flip.Flip.TheVariants.{Mem, Reg, Tag, Line}
use Rattle.replay_words.specs.Places.{addr_of, place_in, with_address, IsAligned, IsAimed}
use Rattle.replay_words.specs.Table.{IsWord, entry_for, IsTable}
use Rattle.replay_words.proofs.PlaceLemmas.{place_push_other, place_push_here, distinct_push, address_more}

zero_at : (n i : ℕ) → slice_index (replicate n 0) i ≡ 0
zero_at zero i = refl
zero_at (suc n) zero = refl
zero_at (suc n) (suc i) = zero_at n i

pub table_empty : (n : ℕ) → IsTable (replicate n 0) []
table_empty n = record { entries = λ word lt. zero_at n word; words = tt; distinct = tt }

-- one address more
module _ (table addrs : List ℕ) (addr : ℕ) (is : IsTable table addrs) (word : IsWord (length table) addr) (none : place_in addrs addr ≡ None) where
  abbrev there : ℕ
  there = (addr - 1073741824) / 4

  back : ram_first + 4 * there ≡ addr
  back = omega (arith, word.above, word.aligned)

  within : there < length table
  within = omega (arith, word.above, word.below, word.aligned)

  abbrev new : List ℕ
  new = slice_set table there (suc (length addrs))

  entries : (i : ℕ) → i < length new → slice_index new i ≡ entry_for (addrs ++ addr ∷ []) (ram_first + 4 * i)
  entries i lt = elim (cases_eq i there) [
    | inl same ↦
        let here : place_in (addrs ++ addr ∷ []) (ram_first + 4 * i) ≡ Some (length addrs) = ap (place_in (addrs ++ addr ∷ [])) (ap (λ (k : ℕ). ram_first + 4 * k) same ∙ back) ∙ place_push_here addrs addr none in
        ap (slice_index new) same
        ∙ get_or-set_same table there (suc (length addrs)) 0 within
        ∙ sym (ap (λ (place : Option ℕ). option_map_or suc place 0) here)
    | inr other ↦
        get_or-set_other table there i (suc (length addrs)) 0 other
        ∙ is.entries i (omega (arith, lt, length-set table there (suc (length addrs))))
        ∙ sym (ap (λ (place : Option ℕ). option_map_or suc place 0) (place_push_other addrs addr (ram_first + 4 * i) (λ e. other (omega (arith, e, back)))))
  ]

  pub table_push : IsTable (slice_set table ((addr - 1073741824) / 4) (suc (length addrs))) (addrs ++ addr ∷ [])
  table_push = record {
    entries = entries;
    words = rw (length-set table there (suc (length addrs))) (each_append (IsWord (length table)) addrs (addr ∷ []) is.words (word, tt));
    distinct = distinct_push addrs addr is.distinct none;
  }

pub is_none : (place : Option ℕ) → is_some place ≡ false → place ≡ None
is_none None is = refl
is_none (Some p) is = cc

-- ---- the flips of the script, one after the other

pub aimed_word : (ram turn addr bit : ℕ) → IsAimed ram (Mem turn addr bit) → IsWord (ram / 4) addr
aimed_word ram turn addr bit aimed =
    let parts = and_parts (nat_le ram_first addr) (nat_le (addr + 4) (ram_first + ram)) aimed.1.0 in
    let above : ram_first ≤ addr = leb-true _ _ parts.0 in
    let below : addr + 4 ≤ ram_first + ram = leb-true _ _ parts.1 in
    record { aligned = aimed.0; above = above; below = omega (arith, above, below, aimed.0) }

pub struck_more : (flips : List Flip) (i : ℕ) (d : Flip) → i < length flips
    → fold with_struck [] (take (i + 1) flips) ≡ with_struck (fold with_struck [] (take i flips)) (slice_index_or flips i d)
struck_more flips i d lt = ap (fold with_struck []) (take_more flips i d lt) ∙ fold_push with_struck [] (take i flips) (slice_index_or flips i d)

pub all_aligned : (count : ℕ) (addrs : List ℕ) → AllByRecursion (IsWord count) addrs → AllByRecursion IsAligned addrs
all_aligned count addrs all = each_weaker (IsWord count) IsAligned addrs (λ a w. w.aligned) all

each_index : {X : Type 0} (P : X → Type 0) (xs : List X) (i : ℕ) (d : X) → i < length xs → AllByRecursion P xs → P (slice_index_or xs i d)
each_index P [] i d lt all = absurd (omega (arith, lt))
each_index P (x ∷ xs) zero d lt all = all.0
each_index P (x ∷ xs) (suc i) d lt all = each_index P xs i d (omega (arith, lt)) all.1

-- what one more flip adds
module _ (flips : List Flip) (i : ℕ) (d : Flip) (within : i < length flips) where
  abbrev flip : Flip
  flip = slice_index_or flips i d

  more : fold with_struck [] (take (i + 1) flips) ≡ with_struck (fold with_struck [] (take i flips)) flip
  more = struck_more flips i d within

  pub more_mem : {turn addr bit : ℕ} → flip ≡ Mem turn addr bit
      → map addr_of (fold with_struck [] (take (i + 1) flips)) ≡ with_address (map addr_of (fold with_struck [] (take i flips))) addr
  more_mem {turn} {addr} {bit} is = ap (map addr_of) (more ∙ ap (with_struck (fold with_struck [] (take i flips))) is) ∙ address_more (fold with_struck [] (take i flips)) addr

  pub more_other : ((turn addr bit : ℕ) → flip ≡ Mem turn addr bit → ⊥) → map addr_of (fold with_struck [] (take (i + 1) flips)) ≡ map addr_of (fold with_struck [] (take i flips))
  more_other not_it = ap (map addr_of) (more ∙ by flip refl)
    where
      by : (f : Flip) → flip ≡ f → with_struck (fold with_struck [] (take i flips)) f ≡ fold with_struck [] (take i flips)
      by (Mem turn addr bit) is = absurd (not_it turn addr bit is)
      by (Reg core step cell bit) is = refl
      by (Tag core step fetch way set byte bit) is = refl
      by (Line core step fetch way set byte bit) is = refl

  pub aimed_here : (ram : ℕ) {turn addr bit : ℕ} → flip ≡ Mem turn addr bit → AllByRecursion (IsAimed ram) flips → IsWord (ram / 4) addr
  aimed_here ram {turn} {addr} {bit} is all = aimed_word ram turn addr bit (subst (IsAimed ram) is (each_index (IsAimed ram) flips i d within all))
