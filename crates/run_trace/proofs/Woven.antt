-- A woven list: where an element of it stands, and what a test that passes nothing between the entries keeps of it.
use Rattle.std.proofs.Common.{◌≡◌, ◌∙◌, ◌+◌, ◌≤◌, ◌<◌, ◌++◌, ◌⊎◌, ℕ, Bool, List, [], ◌∷◌, length, filter, refl, ap, sym, inl, inr, arith, add-one, append_assoc}
use Rattle.std.proofs.lemmas.List.{append-nil}
use Rattle.std.proofs.lemmas.List.Elements.{filter-append}
use Rattle.std.specs.List.{AllByRecursion as Each}
use Rattle.lf_model.proofs.EachLemmas.{each_append}
use Rattle.run_trace.specs.Order.{woven}
use Rattle.run_trace.proofs.Placing.{woven_before}
use Rattle.run_trace.proofs.Lists.{split_append}

-- all that stands after the elements of place n, before these entries
abbrev pub woven_after : {X : Type 0} → (ℕ → List X) → ℕ → List X → List X
woven_after at n [] = []
woven_after at n (e ∷ es) = e ∷ woven at (n + 1) es

-- the element is one of place n
pub record AtAPlace {X : Type 0} (at : ℕ → List X) (s : ℕ) (es pre : List X) (r : X) (post : List X) : Type 0 where
  pub front : List X
  pub back : List X
  pub left : List X
  pub right : List X
  pub n : ℕ
  pub parts : es ≡ front ++ back
  pub n_is : n ≡ s + length front
  pub here : at n ≡ left ++ (r ∷ right)
  pub pre_is : pre ≡ woven_before at s front ++ left
  pub post_is : post ≡ right ++ woven_after at n back

-- it is an entry
pub record IsEntry {X : Type 0} (at : ℕ → List X) (s : ℕ) (es pre : List X) (r : X) (post : List X) : Type 0 where
  pub front : List X
  pub back : List X
  pub n : ℕ
  pub parts : es ≡ front ++ (r ∷ back)
  pub n_is : n ≡ s + length front
  pub pre_is : pre ≡ woven_before at s front ++ at n
  pub post_is : post ≡ woven at (n + 1) back

abbrev Found : {X : Type 0} → (ℕ → List X) → ℕ → List X → List X → X → List X → Type 0
Found at s es pre r post = AtAPlace at s es pre r post ⊎ IsEntry at s es pre r post

module _ {X : Type 0} (at : ℕ → List X) where
  later : (s : ℕ) (e : X) (es pre ms : List X) (r : X) (post : List X) → pre ≡ at s ++ (e ∷ ms) → Found at (s + 1) es ms r post → Found at s (e ∷ es) pre r post
  later s e es pre ms r post pre_is (inl h) =
      let parts : es ≡ h.front ++ h.back = h.parts in
      inl (record {
        front = e ∷ h.front;
        back = h.back;
        left = h.left;
        right = h.right;
        n = h.n;
        parts = cc;
        n_is = omega (arith, h.n_is, add-one (length h.front));
        here = h.here;
        pre_is = pre_is ∙ (ap (λ (xs : List X). at s ++ (e ∷ xs)) h.pre_is ∙ sym (append_assoc (at s) (e ∷ woven_before at (s + 1) h.front) h.left));
        post_is = h.post_is;
      })
  later s e es pre ms r post pre_is (inr h) =
      let parts : es ≡ h.front ++ (r ∷ h.back) = h.parts in
      inr (record {
        front = e ∷ h.front;
        back = h.back;
        n = h.n;
        parts = cc;
        n_is = omega (arith, h.n_is, add-one (length h.front));
        pre_is = pre_is ∙ (ap (λ (xs : List X). at s ++ (e ∷ xs)) h.pre_is ∙ sym (append_assoc (at s) (e ∷ woven_before at (s + 1) h.front) (at h.n)));
        post_is = h.post_is;
      })

  behind : (s : ℕ) (e : X) (es pre mid : List X) (r : X) (post : List X) → pre ≡ at s ++ mid → (e ∷ woven at (s + 1) es) ≡ mid ++ (r ∷ post)
      → ((ms : List X) → woven at (s + 1) es ≡ ms ++ (r ∷ post) → Found at (s + 1) es ms r post) → Found at s (e ∷ es) pre r post
  behind s e es pre [] r post pre_is second rest =
      inr (record {
        front = [];
        back = es;
        n = s;
        parts = cc;
        n_is = omega arith;
        pre_is = pre_is ∙ append-nil (at s);
        post_is = cc;
      })
  behind s e es pre (m ∷ ms) r post pre_is second rest = later s e es pre ms r post first (rest ms tails)
    where
      tails : woven at (s + 1) es ≡ ms ++ (r ∷ post)
      tails = cc

      same : m ≡ e
      same = cc

      first : pre ≡ at s ++ (e ∷ ms)
      first = pre_is ∙ ap (λ (x : X). at s ++ (x ∷ ms)) same

  pub split_woven : (s : ℕ) (es pre : List X) (r : X) (post : List X) → woven at s es ≡ pre ++ (r ∷ post) → AtAPlace at s es pre r post ⊎ IsEntry at s es pre r post
  split_woven s [] pre r post e =
      inl (record {
        front = [];
        back = [];
        left = pre;
        right = post;
        n = s;
        parts = refl;
        n_is = omega arith;
        here = e;
        pre_is = refl;
        post_is = sym (append-nil post);
      })
  split_woven s (x ∷ es) pre r post e = elim (split_append (at s) (x ∷ woven at (s + 1) es) pre r post e) [
    | inl h ↦ inl (record {
      front = [];
      back = x ∷ es;
      left = pre;
      right = h.mid;
      n = s;
      parts = refl;
      n_is = omega arith;
      here = h.first;
      pre_is = refl;
      post_is = h.after;
    })
    | inr h ↦ behind s x es pre h.mid r post h.before h.second (λ ms tails. split_woven (s + 1) es ms r post tails)
  ]

  -- ---- a test that passes nothing of any place

  module _ (p : X → Bool) (none : (i : ℕ) → filter p (at i) ≡ []) where
    pub filter_woven : (s : ℕ) (es : List X) → filter p (woven at s es) ≡ filter p es
    filter_woven s [] = none s
    filter_woven s (e ∷ es) =
        filter-append p (at s) (e ∷ woven at (s + 1) es)
        ∙ (ap (λ (xs : List X). xs ++ filter p (e ∷ woven at (s + 1) es)) (none s)
        ∙ (filter-append p (e ∷ []) (woven at (s + 1) es)
        ∙ (ap (λ (xs : List X). filter p (e ∷ []) ++ xs) (filter_woven (s + 1) es)
        ∙ sym (filter-append p (e ∷ []) es))))

    pub filter_before : (s : ℕ) (es : List X) → filter p (woven_before at s es) ≡ filter p es
    filter_before s [] = refl
    filter_before s (e ∷ es) =
        filter-append p (at s) (e ∷ woven_before at (s + 1) es)
        ∙ (ap (λ (xs : List X). xs ++ filter p (e ∷ woven_before at (s + 1) es)) (none s)
        ∙ (filter-append p (e ∷ []) (woven_before at (s + 1) es)
        ∙ (ap (λ (xs : List X). filter p (e ∷ []) ++ xs) (filter_before (s + 1) es)
        ∙ sym (filter-append p (e ∷ []) es))))

    pub filter_after : (n : ℕ) (es : List X) → filter p (woven_after at n es) ≡ filter p es
    filter_after n [] = refl
    filter_after n (e ∷ es) =
        filter-append p (e ∷ []) (woven at (n + 1) es)
        ∙ (ap (λ (xs : List X). filter p (e ∷ []) ++ xs) (filter_woven (n + 1) es)
        ∙ sym (filter-append p (e ∷ []) es))

  -- ---- what holds of each

  pub each_before : (P : X → Type 0) (s : ℕ) (es : List X) → ((i : ℕ) → s ≤ i → i < s + length es → Each P (at i)) → Each P es → Each P (woven_before at s es)
  each_before P s [] places entries = tt
  each_before P s (e ∷ es) places entries =
      each_append P (at s) (e ∷ woven_before at (s + 1) es) (places s (omega arith) (omega (arith, add-one (length es))))
      (entries.0, each_before P (s + 1) es (λ i low high. places i (omega (arith, low)) (omega (arith, high, add-one (length es)))) entries.1)

  pub each_woven : (P : X → Type 0) (s : ℕ) (es : List X) → ((i : ℕ) → Each P (at i)) → Each P es → Each P (woven at s es)
  each_woven P s [] places entries = places s
  each_woven P s (e ∷ es) places entries = each_append P (at s) (e ∷ woven at (s + 1) es) (places s) (entries.0, each_woven P (s + 1) es places entries.1)
