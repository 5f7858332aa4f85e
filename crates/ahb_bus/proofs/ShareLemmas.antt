-- Shares: where each master keeps to its own, there is room for a transfer more while one of them has one left.
use Rattle.std.proofs.Common.{◌≡◌, ◌≢◌, ℕ, zero, suc, ◌+◌, ◌*◌, ◌<◌, ◌≤◌, Bool, false, cond, nat_eq, List, [], ◌∷◌, ◌++◌, length, refl, sym, ap, ap₂, ◌∙◌, subst, ◌⊎◌, inl, inr, ⊎_elim, arith}
use Rattle.std.specs.Prelude.{filter, count_by}
use Rattle.std.specs.List.{AllByRecursion}
use Rattle.std.proofs.lemmas.Bool.{cases_eq, eq-eqb, ne_eqb}
use Rattle.std.proofs.lemmas.List.{length-append}
use Rattle.std.proofs.lemmas.List.Elements.{filter-append}
use Rattle.std.proofs.lemmas.List.Sums.{length-filter}
use Rattle.lf_model.proofs.EachLemmas.{each_append, each_weaker, filter_none}
use Rattle.lf_model.specs.Bus.Walk.{scrubber}
use Rattle.lf_model.specs.Ledger.Steps.{own_transfers}
use Rattle.lf_model.specs.Once.{HasMaster}
use Rattle.lf_model.specs.Records.SeenOrder.{is_entry_of}
use Rattle.lf_model.specs.declared.bus.Entry.{Entry}
use Rattle.lf_model.specs.declared.bus.Transfer.{Transfer}
use Rattle.lf_model.specs.declared.bus.TurnKind.{TurnKind}
use Rattle.lf_model.specs.declared.bus.TurnKind.TheVariants.{Fetch, Load, Store, Atomic, Snoop, Look, Fix}
use Rattle.lf_model.specs.declared.config.Config.{Config}
use Rattle.ahb_bus.specs.Asks.{HasLeft}
use Rattle.ahb_bus.specs.BusState.{most_transfers, most_entries}
use Rattle.ahb_bus.specs.BusOk.{IsOfMaster, AreShared}

-- ---- sums of counts

abbrev total : (ℕ → ℕ) → ℕ → ℕ
total f zero = 0
total f (suc n) = total f n + f n

total_same : (f g : ℕ → ℕ) (n : ℕ) → ((c : ℕ) → c < n → g c ≡ f c) → total g n ≡ total f n
total_same f g zero same = refl
total_same f g (suc n) same = ap₂ (λ (a b : ℕ). a + b) (total_same f g n (λ c lt. same c (omega (arith, lt)))) (same n (omega arith))

total_more : (f g : ℕ → ℕ) (m n : ℕ) → m < n → g m ≡ f m + 1 → ((c : ℕ) → c ≢ m → g c ≡ f c) → total g n ≡ total f n + 1
total_more f g m zero within one same = absurd (omega arith)
total_more f g m (suc n) within one same = elim (cases_eq n m) [
  | inl last ↦
      let before : total g n ≡ total f n = total_same f g n (λ c lt. same c (λ e. omega (arith, lt, e, last))) in
      let here : g n ≡ f n + 1 = ap g last ∙ one ∙ ap (λ (k : ℕ). f k + 1) (sym last) in
      omega (arith, before, here)
  | inr other ↦
      let before = total_more f g m n (omega (arith, within, other)) one same in
      let here = same n other in
      omega (arith, before, here)
]

total_within : (f : ℕ → ℕ) (b n : ℕ) → ((c : ℕ) → c < n → f c ≤ b) → total f n ≤ n * b
total_within f b zero each = omega arith
total_within f b (suc n) each =
    let before = total_within f b n (λ c lt. each c (omega (arith, lt))) in
    let here = each n (omega arith) in
    omega (arith, before, here)

total_below : (f : ℕ → ℕ) (b m n : ℕ) → m < n → f m < b → ((c : ℕ) → c < n → f c ≤ b) → total f n < n * b
total_below f b m zero within less each = absurd (omega arith)
total_below f b m (suc n) within less each = elim (cases_eq n m) [
  | inl last ↦
      let before = total_within f b n (λ c lt. each c (omega (arith, lt))) in
      let here : f n < b = subst (λ (k : ℕ). f k < b) (sym last) less in
      omega (arith, before, here)
  | inr other ↦
      let before = total_below f b m n (omega (arith, within, other)) less (λ c lt. each c (omega (arith, lt))) in
      let here = each n (omega arith) in
      omega (arith, before, here)
]

total_none : (n : ℕ) → total (λ _. 0) n ≡ 0
total_none zero = refl
total_none (suc n) = let before = total_none n in omega (arith, before)

-- the elements of each key below a number, and of one other key
module _ {X : Type 0} (key : X → ℕ) where
  abbrev pub own : ℕ → List X → List X
  own c xs = filter (λ x. nat_eq (key x) c) xs

  own_same : (c : ℕ) (x : X) (xs : List X) → key x ≡ c → length (own c (x ∷ xs)) ≡ length (own c xs) + 1
  own_same c x xs is = ap (λ (b : Bool). length (cond b (x ∷ own c xs) (own c xs))) (eq-eqb (key x) c is) ∙ (let e : length (x ∷ own c xs) ≡ length (own c xs) + 1 = omega arith in e)

  own_other : (c : ℕ) (x : X) (xs : List X) → key x ≢ c → length (own c (x ∷ xs)) ≡ length (own c xs)
  own_other c x xs other = ap (λ (b : Bool). length (cond b (x ∷ own c xs) (own c xs))) (ne_eqb (key x) c other)

  pub counted : (n special : ℕ) (xs : List X) → n ≤ special → AllByRecursion (λ x. (key x < n) ⊎ (key x ≡ special)) xs
      → length xs ≡ total (λ c. length (own c xs)) n + length (own special xs)
  counted n special [] le all = let none = total_none n in omega (arith, none)
  counted n special (x ∷ xs) le all =
      let rest = counted n special xs le all.1 in
      ⊎_elim
      (λ below.
      let more : total (λ c. length (own c (x ∷ xs))) n ≡ total (λ c. length (own c xs)) n + 1 =
      total_more (λ c. length (own c xs)) (λ c. length (own c (x ∷ xs))) (key x) n below (own_same (key x) x xs refl) (λ c other. own_other c x xs (λ e. other (sym e))) in
      let same = own_other special x xs (λ e. omega (arith, e, below, le)) in
      omega (arith, rest, more, same))
      (λ is.
      let same : total (λ c. length (own c (x ∷ xs))) n ≡ total (λ c. length (own c xs)) n =
      total_same (λ c. length (own c xs)) (λ c. length (own c (x ∷ xs))) n (λ c lt. own_other c x xs (λ e. omega (arith, e, is, lt, le))) in
      let more = own_same special x xs is in
      omega (arith, rest, same, more))
      all.0

  own_push : (c : ℕ) (xs : List X) (x : X) → length (own c (xs ++ x ∷ [])) ≡ length (own c xs) + length (own c (x ∷ []))
  own_push c xs x = ap length (filter-append (λ y. nat_eq (key y) c) xs (x ∷ [])) ∙ length-append (own c xs) (own c (x ∷ []))

  -- one element more
  pub push_other : (c : ℕ) (xs : List X) (x : X) → key x ≢ c → length (own c (xs ++ x ∷ [])) ≡ length (own c xs)
  push_other c xs x other = let push = own_push c xs x in let none = own_other c x [] other in omega (arith, push, none)

  pub push_same : (c : ℕ) (xs : List X) (x : X) → key x ≡ c → length (own c (xs ++ x ∷ [])) ≡ length (own c xs) + 1
  push_same c xs x is = let push = own_push c xs x in let one = own_same c x [] is in omega (arith, push, one)

-- ---- transfers

abbrev master_of : Transfer → ℕ
master_of t = t.master

a_master : (cores : ℕ) (t : Transfer) (kind : TurnKind) → HasMaster cores t.master kind → (t.master < cores) ⊎ (t.master ≡ scrubber)
a_master cores t Fetch has = inl has
a_master cores t Load has = inl has
a_master cores t Store has = inl has
a_master cores t Atomic has = inl has
a_master cores t Snoop has = inl has
a_master cores t Look has = inr has
a_master cores t Fix has = inr has

-- masters are numbered from 0 to 8
pub master_below : (cores : ℕ) (t : Transfer) → cores ≤ 8 → HasMaster cores t.master t.kind → t.master < 9
master_below cores t few has = ⊎_elim (λ core. omega (arith, core, few)) (λ scrub. omega (arith, scrub)) (a_master cores t t.kind has)

module _ (config : Config) (ts : List Transfer) (log : List Entry) (cores : config.cores ≤ 8) (shared : AreShared config ts log) where
  pub room_left : (t : Transfer) → HasLeft config ts t → length ts < most_transfers config
  room_left t left =
      let all = counted master_of config.cores scrubber ts cores
      (each_weaker (IsOfMaster config.cores) (λ u. (u.master < config.cores) ⊎ (u.master ≡ scrubber)) ts (λ u has. a_master config.cores u u.kind has) shared.masters) in
      ⊎_elim
      (λ core.
      let few = total_below (λ c. length (own_transfers c ts)) (config.steps + 8) t.master config.cores core (left.core_share core) shared.core_share in
      omega (arith, all, few, shared.scrub_share))
      (λ scrub.
      let few = total_within (λ c. length (own_transfers c ts)) (config.steps + 8) config.cores shared.core_share in
      let less = left.scrub_share scrub in
      omega (arith, all, few, less))
      (a_master config.cores t t.kind left.master)

  pub shared_made : (t : Transfer) → HasLeft config ts t → AreShared config (ts ++ t ∷ []) log
  shared_made t left = record {
    masters = each_append (IsOfMaster config.cores) ts (t ∷ []) shared.masters (left.master, tt);
    core_share = λ c lt. elim (cases_eq t.master c) [
      | inl is ↦
          let less : length (own_transfers c ts) < config.steps + 8 = subst (λ (m : ℕ). length (own_transfers m ts) < config.steps + 8) is (left.core_share (subst (λ (m : ℕ). m < config.cores) (sym is) lt)) in
          let push = push_same master_of c ts t is in
          omega (arith, less, push)
      | inr other ↦ let push = push_other master_of c ts t other in let few = shared.core_share c lt in omega (arith, few, push)
    ];
    scrub_share = elim (cases_eq t.master scrubber) [
      | inl is ↦ let less = left.scrub_share is in let push = push_same master_of scrubber ts t is in omega (arith, less, push)
      | inr other ↦ let push = push_other master_of scrubber ts t other in let few = shared.scrub_share in omega (arith, few, push)
    ];
    cores_of_entries = shared.cores_of_entries;
    entries_share = shared.entries_share;
  }

  -- ---- entries

  abbrev core_of : Entry → ℕ
  core_of e = e.core

  counts : (c : ℕ) (es : List Entry) → length (own core_of c es) ≡ count_by (is_entry_of c) es
  counts c es = length-filter (is_entry_of c) es

  pub log_room_left : (core : ℕ) → core < config.cores → count_by (is_entry_of core) log < config.steps → length log < most_entries config
  log_room_left core within less =
      let all = counted core_of config.cores config.cores log (omega arith) (each_weaker (λ e. e.core < config.cores) (λ e. (e.core < config.cores) ⊎ (e.core ≡ config.cores)) log (λ e lt. inl lt) shared.cores_of_entries) in
      let none : own core_of config.cores log ≡ [] =
      filter_none (λ e. nat_eq e.core config.cores) log
      (each_weaker (λ e. e.core < config.cores) (λ e. nat_eq e.core config.cores ≡ false) log (λ e lt. ne_eqb e.core config.cores (λ is. omega (arith, is, lt))) shared.cores_of_entries) in
      let few = total_below (λ c. length (own core_of c log)) config.steps core config.cores within (subst (λ (n : ℕ). n < config.steps) (sym (counts core log)) less)
      (λ c lt. subst (λ (n : ℕ). n ≤ config.steps) (sym (counts c log)) (shared.entries_share c lt)) in
      let nothing : length (own core_of config.cores log) ≡ 0 = ap length none in
      omega (arith, all, few, nothing)

  pub shared_entered : (e : Entry) → e.core < config.cores → count_by (is_entry_of e.core) log < config.steps → AreShared config ts (log ++ e ∷ [])
  shared_entered e within less = record {
    masters = shared.masters;
    core_share = shared.core_share;
    scrub_share = shared.scrub_share;
    cores_of_entries = each_append (λ x. x.core < config.cores) log (e ∷ []) shared.cores_of_entries (within, tt);
    entries_share = λ c lt. elim (cases_eq e.core c) [
      | inl is ↦
          let push = push_same core_of c log e is in
          let before = counts c log in
          let after = counts c (log ++ e ∷ []) in
          let few : count_by (is_entry_of c) log < config.steps = subst (λ (m : ℕ). count_by (is_entry_of m) log < config.steps) is less in
          omega (arith, push, before, after, few)
      | inr other ↦
          let push = push_other core_of c log e other in
          let before = counts c log in
          let after = counts c (log ++ e ∷ []) in
          let few = shared.entries_share c lt in
          omega (arith, push, before, after, few)
    ];
  }

-- who has one left, by its kind
pub core_left : (config : Config) (ts : List Transfer) (t : Transfer) → config.cores ≤ 8 → HasMaster config.cores t.master t.kind → t.master < config.cores
    → length (own_transfers t.master ts) < config.steps + 8 → HasLeft config ts t
core_left config ts t cores has within less = record {
  master = has;
  core_share = λ _. less;
  scrub_share = λ is. absurd (omega (arith, is, within, cores));
}

pub scrub_left : (config : Config) (ts : List Transfer) (t : Transfer) → config.cores ≤ 8 → HasMaster config.cores t.master t.kind → t.master ≡ scrubber
    → length (own_transfers scrubber ts) < config.scrub_turns → HasLeft config ts t
scrub_left config ts t cores has is less = record {
  master = has;
  core_share = λ within. absurd (omega (arith, is, within, cores));
  scrub_share = λ _. less;
}
