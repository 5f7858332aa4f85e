-- Spans: merging them, and finding an address among them.
use Rattle.std.proofs.Common.{◌≡◌, ℕ, zero, suc, ◌+◌, ◌-◌, ◌<◌, ◌≤◌, max, Bool, true, false, ◌&&◌, ◌||◌, nat_lt, nat_le, leb, List, [], ◌∷◌, ◌++◌, length, get_or, take, map, filter, All, refl, sym, ap, subst, ◌∙◌, arith, inl, inr}
use Rattle.std.specs.Prelude.{find}
use Rattle.std.specs.List.{list_any, list_all, range_with_len, slice_get, AllByRecursion as Each}
use Rattle.std.specs.Option.{option_map_or}
use Rattle.std.specs.List.Sorted.{IsNonDecreasingBy, IsPartitionPoint}
use Rattle.std.proofs.lemmas.Bool.{cases_Bool, cases_lt, or_from, and_from, and_left, and_right, lt-ltb, le-ltb, le-leb, leb-true}
use Rattle.std.proofs.lemmas.Bool.Decides.{nat_tests}
use Rattle.std.proofs.lemmas.List.{take_more, get_or_default}
use Rattle.std.proofs.lemmas.List.Elements.{All-map, All-from_recursion, filter_passes}
use Rattle.std.proofs.lemmas.List.Folds.{list_any-append, list_any_at, list_any_none}
use Rattle.std.proofs.lemmas.List.FromFn.{get_or-range_with_len, length-range_with_len}
use Rattle.lf_model.proofs.EachLemmas.{each_append, each_first, each_second, each_weaker}
use Rattle.lf_model.specs.Start.{in_range, is_text_byte, is_text_word, touches_text}
use Rattle.text_map.specs.Spans.{is_in_use, span_of, in_span, in_spans, ends_after, has_word, has_one, IsApart, IsMapOf}
use Rattle.lf_model.specs.declared.image.Range.{Range}
use Rattle.text_map.specs.declared.map.Span.{Span}

-- the spans of ranges

pub spans_text : (text : List Range) (a : ℕ) → in_spans (map span_of (filter is_in_use text)) a ≡ is_text_byte text a
spans_text [] a = refl
spans_text (r ∷ text) a = elim (cases_Bool (is_in_use r)) [
  | inl used ↦ rw used (ap (λ b. in_range a r || b) (spans_text text a))
  | inr empty ↦ rw empty (spans_text text a ∙ ap (λ b. b || is_text_byte text a) (sym (none r a empty)))
]
  where
    none : (r : Range) (a : ℕ) → is_in_use r ≡ false → in_range a r ≡ false
    none r a empty = grind (arith, nat_tests)

pub spans_used : (text : List Range) → All (λ s. s.first < s.end) (map span_of (filter is_in_use text))
spans_used text = All-map (λ (s : Span). s.first < s.end) span_of (filter is_in_use text)
    (λ k d below. used (get_or (filter is_in_use text) k d) (filter_passes is_in_use text k d below))
  where
    used : (r : Range) → is_in_use r ≡ true → r.first < r.first + r.length
    used r h = grind (arith, nat_tests)

-- merging

-- the merged spans so far, and the last one, which may grow
pub record IsSoFar (merged : List Span) (last : Span) (spans : List Span) (i : ℕ) : Type 0 where
  pub apart : IsApart (merged ++ last ∷ [])
  pub used : last.first < last.end
  pub same : (a : ℕ) → in_spans (merged ++ last ∷ []) a ≡ in_spans (take i spans) a
  pub later : (j : ℕ) (d : Span) → i ≤ j → j < length spans → last.first ≤ (get_or spans j d).first

apart_push : (xs : List Span) (s : Span) → IsApart xs → Each (λ t. t.end < s.first) xs → s.first < s.end → IsApart (xs ++ s ∷ [])
apart_push [] s apart before used = (used, tt, tt)
apart_push (x ∷ xs) s apart before used =
    (apart.0, each_append (λ t. x.end < t.first) xs (s ∷ []) apart.1 (before.0, tt), apart_push xs s apart.2 before.1 used)

apart_last : (xs : List Span) (s t : Span) → IsApart (xs ++ s ∷ []) → t.first ≡ s.first → t.first < t.end → IsApart (xs ++ t ∷ [])
apart_last [] s t apart e used = (used, tt, tt)
apart_last (x ∷ xs) s t apart e used =
    let behind = (each_second (λ u. x.end < u.first) xs (s ∷ []) apart.1).0 in (
      apart.0,
      each_append (λ u. x.end < u.first) xs (t ∷ []) (each_first (λ u. x.end < u.first) xs (s ∷ []) apart.1)
          (omega (arith, behind), tt),
      apart_last xs s t apart.2 e used,
    )

ends_below : (xs : List Span) (s : Span) → s.first < s.end → IsApart (xs ++ s ∷ []) → Each (λ t. t.end ≤ s.end) (xs ++ s ∷ [])
ends_below [] s used apart = (omega arith, tt)
ends_below (x ∷ xs) s used apart =
    let behind = (each_second (λ u. x.end < u.first) xs (s ∷ []) apart.1).0 in
    (omega (arith, behind), ends_below xs s used apart.2)

regroup : (x o s : Bool) → (x || ((o || s) || false)) ≡ ((x || (o || false)) || (s || false))
regroup true o s = refl
regroup false true s = refl
regroup false false true = refl
regroup false false false = refl

-- a span that begins in the last one, or right behind it, is merged with it
pub merge_more : (merged spans : List Span) (last wider s d : Span) (i : ℕ) → i < length spans → s ≡ get_or spans i d
    → s.first ≤ last.end → wider.first ≡ last.first → wider.end ≡ max last.end s.end → IsSoFar merged last spans i
    → IsSoFar merged wider spans (i + 1)
merge_more merged spans last wider s d i below is near first end h =
    let from = h.later i d (omega arith) below in
    let reached : last.first ≤ s.first = rw (← is) at from in
    let used : wider.first < wider.end = omega (arith, h.used) in
    record {
      apart = apart_last merged last wider h.apart first used;
      used = used;
      same = λ a.
          list_any-append (in_span a) merged (wider ∷ [])
          ∙ ap (λ b. in_spans merged a || (b || false)) (joined last wider s a reached near first end)
          ∙ regroup (in_spans merged a) (in_span a last) (in_span a s)
          ∙ ap (λ b. b || (in_span a s || false)) (sym (list_any-append (in_span a) merged (last ∷ [])) ∙ h.same a)
          ∙ more spans s d i a below is;
      later = λ j d from_ within. rw first (h.later j d (omega arith) within);
    }
  where
    joined : (last wider s : Span) (a : ℕ) → last.first ≤ s.first → s.first ≤ last.end → wider.first ≡ last.first
        → wider.end ≡ max last.end s.end → in_span a wider ≡ (in_span a last || in_span a s)
    joined last wider s a reached near first end = grind (arith, nat_tests)

    more : (spans : List Span) (s d : Span) (i a : ℕ) → i < length spans → s ≡ get_or spans i d
        → (in_spans (take i spans) a || (in_span a s || false)) ≡ in_spans (take (i + 1) spans) a
    more spans s d i a below is =
        sym (list_any-append (in_span a) (take i spans) (s ∷ []))
        ∙ ap (λ xs. in_spans xs a) (ap (λ x. take i spans ++ x ∷ []) is ∙ sym (take_more spans i d below))

-- a span that begins further behind begins a gap
pub push_more : (merged pushed spans : List Span) (last s d : Span) (i : ℕ) → i < length spans → s ≡ get_or spans i d
    → last.end < s.first → pushed ≡ merged ++ last ∷ [] → IsNonDecreasingBy (λ t. t.first) spans → s.first < s.end
    → IsSoFar merged last spans i → IsSoFar pushed s spans (i + 1)
push_more merged pushed spans last s d i below is far push sorted used h = rw push (record {
  apart = apart_push (merged ++ last ∷ []) s h.apart
      (each_weaker (λ t. t.end ≤ last.end) (λ t. t.end < s.first) (merged ++ last ∷ []) (λ t most. omega arith) (ends_below merged last h.used h.apart)) used;
  used = used;
  same = λ a. list_any-append (in_span a) (merged ++ last ∷ []) (s ∷ [])
      ∙ ap (λ b. b || (in_span a s || false)) (h.same a)
      ∙ sym (list_any-append (in_span a) (take i spans) (s ∷ []))
      ∙ ap (λ xs. in_spans xs a) (ap (λ x. take i spans ++ x ∷ []) is ∙ sym (take_more spans i d below));
  later = λ j e from within. later_of j e from within;
})
  where
    later_of : (j : ℕ) (e : Span) → i + 1 ≤ j → j < length spans → s.first ≤ (get_or spans j e).first
    later_of j e from within =
        let rises = sorted i j e (omega arith) within in
        let same : get_or spans i e ≡ s = get_or_default spans i e d below ∙ sym is in
        rw same at rises

-- finding

below_none : (ss : List Span) (e b : ℕ) → Each (λ t. e < t.first) ss → b ≤ e → in_spans ss b ≡ false
below_none [] e b h within = refl
below_none (t ∷ ss) e b h within =
    let behind = h.0 in
    let before : nat_le t.first b ≡ false = grind (arith, nat_tests) in
    or_from (in_span b t) (in_spans ss b) (and_left (nat_le t.first b) (nat_lt b t.end) before) (below_none ss e b h.1 within)

past_span : (s : Span) (ss : List Span) (b : ℕ) → s.end ≤ b → in_spans (s ∷ ss) b ≡ in_spans ss b
past_span s ss b past = ap (λ x. x || in_spans ss b) (and_right (nat_le s.first b) (nat_lt b s.end) (le-ltb b s.end past))

all_same : (f g : ℕ → Bool) (xs : List ℕ) → ((i : ℕ) → f i ≡ g i) → list_all f xs ≡ list_all g xs
all_same f g [] e = refl
all_same f g (x ∷ xs) e = ap (λ b. b && list_all f xs) (e x) ∙ ap (λ b. g x && b) (all_same f g xs e)

any_same : (f g : ℕ → Bool) (xs : List ℕ) → ((i : ℕ) → f i ≡ g i) → list_any f xs ≡ list_any g xs
any_same f g [] e = refl
any_same f g (x ∷ xs) e = ap (λ b. b || list_any f xs) (e x) ∙ ap (λ b. g x || b) (any_same f g xs e)

all_four : (f : ℕ → Bool) → f 0 ≡ true → f 1 ≡ true → f 2 ≡ true → f 3 ≡ true → list_all f (range_with_len 0 4) ≡ true
all_four f a b c d = rw (a, b, c, d) refl

not_all_four : (f : ℕ → Bool) (k : ℕ) → k < 4 → f k ≡ false → list_all f (range_with_len 0 4) ≡ false
not_all_four f zero below e = rw e refl
not_all_four f (suc zero) below e = and_right (f 0) (f 1 && (f 2 && (f 3 && true))) (rw e refl)
not_all_four f (suc (suc zero)) below e = and_right (f 0) (f 1 && (f 2 && (f 3 && true))) (and_right (f 1) (f 2 && (f 3 && true)) (rw e refl))
not_all_four f (suc (suc (suc zero))) below e =
    and_right (f 0) (f 1 && (f 2 && (f 3 && true))) (and_right (f 1) (f 2 && (f 3 && true)) (and_right (f 2) (f 3 && true) (rw e refl)))
not_all_four f (suc (suc (suc (suc k)))) below e = absurd (omega arith)

-- the bytes at a span, with those after it behind a gap

inside : (s : Span) (ss : List Span) (b : ℕ) → s.first ≤ b → b < s.end → in_spans (s ∷ ss) b ≡ true
inside s ss b low high =
    ap (λ x. x || in_spans ss b) (and_from (nat_le s.first b) (nat_lt b s.end) (le-leb s.first b low) (lt-ltb b s.end high))

at_end : (s : Span) (ss : List Span) (b : ℕ) → Each (λ t. s.end < t.first) ss → b ≡ s.end → in_spans (s ∷ ss) b ≡ false
at_end s ss b behind e =
    or_from (in_span b s) (in_spans ss b) (and_right (nat_le s.first b) (nat_lt b s.end) (le-ltb b s.end (omega arith)))
    (below_none ss s.end b behind (omega arith))

outside : (s : Span) (ss : List Span) (b : ℕ) → Each (λ t. s.end < t.first) ss → b < s.first → b ≤ s.end → in_spans (s ∷ ss) b ≡ false
outside s ss b behind low within =
    let before : nat_le s.first b ≡ false = grind (arith, nat_tests) in
    or_from (in_span b s) (in_spans ss b) (and_left (nat_le s.first b) (nat_lt b s.end) before) (below_none ss s.end b behind within)

word_at_span : (s : Span) (ss : List Span) (a : ℕ) → IsApart (s ∷ ss) → a < s.end
    → list_all (λ i. in_spans (s ∷ ss) (a + i)) (range_with_len 0 4) ≡ has_word a s
word_at_span s ss a apart before = elim (cases_lt s.end (a + 4)) [
  | inl short ↦ not_all_four (λ i. in_spans (s ∷ ss) (a + i)) (s.end - a) (omega arith) (at_end s ss (a + (s.end - a)) apart.1 (omega arith))
      ∙ sym (and_right (nat_le s.first a) (nat_le (a + 4) s.end) (grind (arith, nat_tests)))
  | inr long ↦ elim (cases_lt a s.first) [
    | inl early ↦ not_all_four (λ i. in_spans (s ∷ ss) (a + i)) 0 (omega arith) (outside s ss (a + 0) apart.1 (omega arith) (omega arith))
        ∙ sym (and_left (nat_le s.first a) (nat_le (a + 4) s.end) (grind (arith, nat_tests)))
    | inr in_ ↦ all_four (λ i. in_spans (s ∷ ss) (a + i)) (inside s ss (a + 0) (omega arith) (omega arith)) (inside s ss (a + 1) (omega arith) (omega arith))
        (inside s ss (a + 2) (omega arith) (omega arith)) (inside s ss (a + 3) (omega arith) (omega arith))
        ∙ sym (and_from (nat_le s.first a) (nat_le (a + 4) s.end) (le-leb s.first a in_) (le-leb (a + 4) s.end long))
  ]
]

pub word_found : (ss : List Span) (a : ℕ) → IsApart ss
    → list_all (λ i. in_spans ss (a + i)) (range_with_len 0 4) ≡ option_map_or (has_word a) (find (ends_after a) ss) false
word_found [] a apart = refl
word_found (s ∷ ss) a apart = elim (cases_lt a s.end) [
  | inl before ↦ rw (lt-ltb a s.end before) (word_at_span s ss a apart before)
  | inr past ↦ rw (le-ltb a s.end past)
      (all_same (λ i. in_spans (s ∷ ss) (a + i)) (λ i. in_spans ss (a + i)) (range_with_len 0 4) (λ i. past_span s ss (a + i) (omega arith))
      ∙ word_found ss a apart.2)
]

-- the map's answer for a word
pub is_word : (spans : List Span) (text : List Range) (a : ℕ) → IsMapOf spans text
    → is_text_word text a ≡ option_map_or (has_word a) (find (ends_after a) spans) false
is_word spans text a map_ =
    all_same (λ i. is_text_byte text (a + i)) (λ i. in_spans spans (a + i)) (range_with_len 0 4) (λ i. sym (map_.same (a + i)))
    ∙ word_found spans a map_.apart

touched_at_span : (s : Span) (ss : List Span) (a len : ℕ) → IsApart (s ∷ ss) → a < s.end
    → list_any (λ i. in_spans (s ∷ ss) (a + i)) (range_with_len 0 len) ≡ has_one a len s
touched_at_span s ss a len apart before = elim (cases_Bool (has_one a len s)) [
  | inl touched ↦ list_any_at (λ i. in_spans (s ∷ ss) (a + i)) (range_with_len 0 len) (max a s.first - a) 0
      (let far : max a s.first - a < len = reach s a len touched in omega (arith, length-range_with_len 0 len))
      (witness s ss a len apart.0 before touched)
      ∙ sym touched
  | inr clear ↦ list_any_none (λ i. in_spans (s ∷ ss) (a + i)) (range_with_len 0 len)
      (λ k d below. none s ss a len k d apart clear (omega (arith, length-range_with_len 0 len)))
      ∙ sym clear
]
  where
    reach : (s : Span) (a len : ℕ) → has_one a len s ≡ true → max a s.first - a < len
    reach s a len touched = grind (arith, nat_tests)

    witness : (s : Span) (ss : List Span) (a len : ℕ) → s.first < s.end → a < s.end → has_one a len s ≡ true
        → in_spans (s ∷ ss) (a + get_or (range_with_len 0 len) (max a s.first - a) 0) ≡ true
    witness s ss a len used before touched =
        subst (λ n. in_spans (s ∷ ss) (a + n) ≡ true) (sym (get_or-range_with_len 0 len (max a s.first - a) 0 (reach s a len touched)))
        (inside s ss (a + (0 + (max a s.first - a))) (omega arith) (omega arith))

    none : (s : Span) (ss : List Span) (a len k d : ℕ) → IsApart (s ∷ ss) → has_one a len s ≡ false → k < len
        → in_spans (s ∷ ss) (a + get_or (range_with_len 0 len) k d) ≡ false
    none s ss a len k d apart clear below =
        let past : a + len ≤ s.first = grind (arith, nat_tests) in
        let used = apart.0 in
        subst (λ n. in_spans (s ∷ ss) (a + n) ≡ false) (sym (get_or-range_with_len 0 len k d below)) (outside s ss (a + (0 + k)) apart.1 (omega arith) (omega arith))

pub touched_found : (ss : List Span) (a len : ℕ) → IsApart ss
    → list_any (λ i. in_spans ss (a + i)) (range_with_len 0 len) ≡ option_map_or (has_one a len) (find (ends_after a) ss) false
touched_found [] a len apart = list_any_none (λ i. false) (range_with_len 0 len) (λ k d below. refl)
touched_found (s ∷ ss) a len apart = elim (cases_lt a s.end) [
  | inl before ↦ rw (lt-ltb a s.end before) (touched_at_span s ss a len apart before)
  | inr past ↦ rw (le-ltb a s.end past)
      (any_same (λ i. in_spans (s ∷ ss) (a + i)) (λ i. in_spans ss (a + i)) (range_with_len 0 len) (λ i. past_span s ss (a + i) (omega arith))
      ∙ touched_found ss a len apart.2)
]

-- the map's answer for the bytes of a store
pub is_touched : (spans : List Span) (text : List Range) (a len : ℕ) → IsMapOf spans text
    → touches_text text a len ≡ option_map_or (has_one a len) (find (ends_after a) spans) false
is_touched spans text a len map_ =
    any_same (λ i. is_text_byte text (a + i)) (λ i. in_spans spans (a + i)) (range_with_len 0 len) (λ i. sym (map_.same (a + i)))
    ∙ touched_found spans a len map_.apart

-- the binary search

ends_behind : (s : Span) (ss : List Span) → Each (λ t. s.end < t.first) ss → IsApart ss → Each (λ t. s.end ≤ t.end) ss
ends_behind s [] behind apart = tt
ends_behind s (t ∷ ss) behind apart =
    let first = behind.0 in
    let used = apart.0 in
    (omega arith, ends_behind s ss behind.1 apart.2)

pub ends_rise : (ss : List Span) → IsApart ss → IsNonDecreasingBy (λ t. t.end) ss
ends_rise [] apart i j d order below = absurd (omega arith)
ends_rise (s ∷ ss) apart zero zero d order below = omega arith
ends_rise (s ∷ ss) apart zero (suc j) d order below =
    All-from_recursion (λ t. s.end ≤ t.end) ss (ends_behind s ss apart.1 apart.2) j d (omega arith)
ends_rise (s ∷ ss) apart (suc i) zero d order below = absurd (omega arith)
ends_rise (s ∷ ss) apart (suc i) (suc j) d order below = ends_rise ss apart.2 i j d (omega arith) (omega arith)

pub found_at : (ss : List Span) (a k : ℕ) → IsPartitionPoint (λ t. leb t.end a ≡ true) (λ t. leb t.end a ≡ false) ss k
    → slice_get ss k ≡ find (ends_after a) ss
found_at [] a k point = refl
found_at (s ∷ ss) a zero point =
    let past : leb s.end a ≡ false = point.1 0 s (omega arith) (omega arith) in
    let before : nat_lt a s.end ≡ true = grind (arith, nat_tests) in
    rw before refl
found_at (s ∷ ss) a (suc k) point =
    let ended : leb s.end a ≡ true = point.0 0 s (omega arith) (omega arith) in
    let past : nat_lt a s.end ≡ false = le-ltb a s.end (leb-true s.end a ended) in
    rw past (found_at ss a k
    (λ i d low high. point.0 (suc i) d (omega arith) (omega arith), λ i d low high. point.1 (suc i) d (omega arith) (omega arith)))
