-- A transfer that enters the log is that of the entry at its place there: of the same core, and with the number of the operation that
-- the core's course gives it.
use Rattle.std.proofs.Common.{◌≡◌, ◌∙◌, ◌<◌, ◌≤◌, ◌==◌, ◌&&◌, ◌||◌, ◌++◌, ℕ, zero, suc, Bool, true, false, List, [], ◌∷◌, length, drop, filter, map, slice_get, slice_index, Option, Some, None, IfSome, refl, ap, sym, subst, inl, inr, arith, add-one}
use Rattle.std.proofs.lemmas.Bool.{cases_eq, and_parts, ne_eqb, eqb-true}
use Rattle.std.proofs.lemmas.List.{get_or_append_left}
use Rattle.std.proofs.lemmas.List.Elements.{filter-append}
use Rattle.std.proofs.lemmas.Option.{same_Some}
use Rattle.std.specs.List.{AllByRecursion as Each}
use Rattle.std.specs.List.{zip}
use Rattle.std.specs.Option.{is_some}
use Rattle.lf_model.specs.Course.Core.{is_store_kind, is_store, is_stop_at, is_register_stop}
use Rattle.lf_model.specs.Course.Progress.{Completion, ErrorTrap}
use Rattle.lf_model.specs.Course.Turn.{Target, atomic_target, target_by}
use Rattle.lf_model.specs.Effect.{AccessKind, Access}
use Rattle.lf_model.specs.Ledger.CoreAccount.{errors_reported, turns_reported}
use Rattle.lf_model.specs.Names.{same_kind}
use Rattle.lf_model.specs.Operation.{stores, made}
use Rattle.lf_model.specs.Records.BusRecord.{kind_entered}
use Rattle.lf_model.specs.Records.CoreRecord.{completion_reported}
use Rattle.lf_model.specs.declared.bus.OpKind.{OpKind}
use Rattle.lf_model.specs.declared.bus.OpKind.TheVariants as ops
use Rattle.lf_model.specs.declared.bus.Transfer.{Transfer}
use Rattle.lf_model.specs.declared.bus.TurnKind.{TurnKind}
use Rattle.lf_model.specs.declared.bus.TurnKind.TheVariants.{Fetch, Load, Store, Atomic, Snoop, Look, Fix}
use Rattle.lf_model.specs.declared.trace.CoreEnd.{CoreEnd}
use Rattle.lf_model.specs.declared.trace.CoreEnd.TheVariants.{Halt, Stop, Limit}
use Rattle.lf_model.specs.declared.trace.Op.{Op}
use Rattle.run_trace.proofs.CourseKept.{IsFailedAt, is_turns}
use Rattle.run_trace.proofs.Lists.{filter_filter}
use Rattle.run_trace.proofs.Shares.{fewer}

-- ---- lists

pub get_in_first : {X : Type 0} (xs ys : List X) (k : ℕ) (x : X) → slice_get xs k ≡ Some x → slice_get (xs ++ ys) k ≡ Some x
get_in_first [] ys k x e = absurd (cc)
get_in_first (y ∷ xs) ys zero x e = e
get_in_first (y ∷ xs) ys (suc k) x e = get_in_first xs ys k x e

pub filter_here : {X : Type 0} (p : X → Bool) (xs : List X) (x : X) (ys : List X) → p x ≡ true → filter p (xs ++ x ∷ ys) ≡ filter p xs ++ x ∷ filter p ys
filter_here p xs x ys e = filter-append p xs (x ∷ ys) ∙ rw e refl

pub count_within : (p q : Transfer → Bool) (ts : List Transfer) → length (filter (λ t. p t && q t) ts) ≤ length (filter p ts)
count_within p q ts = subst (λ n. n ≤ length (filter p ts)) (ap (λ (us : List Transfer). length us) (filter_filter q p ts)) (fewer q (filter p ts))

-- ---- kinds

pub store_entered : (kind : TurnKind) → is_store_kind (kind_entered kind) ≡ same_kind kind Store
store_entered Fetch = refl
store_entered Load = refl
store_entered Store = refl
store_entered Atomic = refl
store_entered Snoop = refl
store_entered Look = refl
store_entered Fix = refl

pub store_made : (kind : OpKind) (o : Op) → o.kind ≡ kind → is_store o ≡ is_store_kind (made o).kind
store_made ops.Load o e = rw e refl
store_made ops.Store o e = rw e refl
store_made ops.Atomic o e = rw e refl
store_made ops.Lost o e = rw e refl

pub store_stores : (kind : OpKind) (o : Op) → o.kind ≡ kind → (stores o && is_store o) ≡ is_store o
store_stores ops.Load o e = rw e refl
store_stores ops.Store o e = rw e refl
store_stores ops.Atomic o e = rw e refl
store_stores ops.Lost o e = rw e refl

-- ---- error traps of an end

first_same : {X : Type 0} (x y : X) (xs ys : List X) → (x ∷ xs) ≡ (y ∷ ys) → x ≡ y
first_same x y xs ys e = same_Some x y (ap (λ zs. slice_get zs 0) e)

rest_same : {X : Type 0} (x y : X) (xs ys : List X) → (x ∷ xs) ≡ (y ∷ ys) → xs ≡ ys
rest_same x y xs ys e = ap (λ zs. drop 1 zs) e

first_none : {X : Type 0} (xs ys : List X) → xs ++ ys ≡ [] → xs ≡ []
first_none [] ys e = refl
first_none (x ∷ xs) ys e = absurd (cc)

number_most : (end : CoreEnd) (total m : ℕ) → m < total → IfSome (turns_reported end total) (λ n. n ≤ m) → is_some (turns_reported end total) ≡ false
number_most end total m less h = by (is_register_stop end) refl
  where
    by : (b : Bool) → is_register_stop end ≡ b → is_some (turns_reported end total) ≡ false
    by true e = rw e refl
    by false e = let most : total ≤ m = rw e at h in absurd (omega (arith, most, less))

-- of an end whose turn is still to come, none is met yet
pub none_yet : (end : CoreEnd) (steps total m : ℕ) (xs met : List ErrorTrap) → xs ++ met ≡ errors_reported end steps total → m < total
    → Each (λ (x : ErrorTrap). IfSome x.turns (λ n. n ≤ m)) xs → filter is_turns xs ≡ []
none_yet end steps total m [] met e less h = refl
none_yet (Halt tt_) steps total m (x ∷ xs) met e less h = absurd (cc)
none_yet Limit steps total m (x ∷ xs) met e less h = absurd (cc)
none_yet (Stop tt_ place syn) steps total m (x ∷ xs) met e less h =
    let here = first_same x _ (xs ++ met) [] e in
    let rest = first_none xs met (rest_same x _ (xs ++ met) [] e) in
    let turns : x.turns ≡ turns_reported (Stop tt_ place syn) total = ap (λ (y : ErrorTrap). y.turns) here in
    let unmet : is_turns x ≡ false = ap is_some turns ∙ number_most (Stop tt_ place syn) total m less (subst (λ o. IfSome o (λ n. n ≤ m)) turns h.0) in
    rw (rest, unmet) refl

no_register : (tt_ : ℕ) → (tt_ == 1 || tt_ == 9 || tt_ == 0x2B) ≡ true → (tt_ == 0x20) ≡ false
no_register tt_ h = elim (cases_eq tt_ 0x20) [
  | inl same ↦ absurd (wrong (subst (λ n. (n == 1 || n == 9 || n == 0x2B) ≡ true) same h))
  | inr other ↦ ne_eqb tt_ 0x20 other
]
  where
    wrong : (0x20 == 1 || 0x20 == 9 || 0x20 == 0x2B) ≡ true → ⊥
    wrong e = cc

-- a stop at a transfer has failed there
pub failed_stop : (ts : List Transfer) (end : CoreEnd) (steps total turn : ℕ) → is_stop_at turn end ≡ true
    → Each (λ (x : ErrorTrap). is_turns x ≡ true → IsFailedAt ts x.place) (errors_reported end steps total) → IsFailedAt ts turn
failed_stop ts (Halt tt_) steps total turn e h = absurd (cc)
failed_stop ts Limit steps total turn e h = absurd (cc)
failed_stop ts (Stop tt_ place syn) steps total turn e h =
    let parts = and_parts (place == turn) _ e in
    subst (IsFailedAt ts) (eqb-true place turn parts.0) (h.0 (rw (no_register tt_ parts.1) refl))

-- ---- what was seen, by the completions

abbrev pub seen_of : Completion → ℕ
seen_of c = c.seen

pub seen_reported : (os : List Op) (ns : List ℕ) → length ns ≡ length os → map seen_of (map (λ (x : Op × ℕ). completion_reported x.0 x.1) (zip os ns)) ≡ ns
seen_reported [] [] e = refl
seen_reported [] (n ∷ ns) e = absurd (omega (arith, e, add-one (length ns)))
seen_reported (o ∷ os) [] e = absurd (omega (arith, e, add-one (length os)))
seen_reported (o ∷ os) (n ∷ ns) e = ap (λ (ms : List ℕ). n ∷ ms) (seen_reported os ns (omega (arith, e, add-one (length os), add-one (length ns))))

pub index_most : (n : ℕ) (cs : List Completion) (i : ℕ) → Each (λ (c : Completion). c.seen ≤ n) cs → i < length cs → slice_index (map seen_of cs) i ≤ n
index_most n [] i h less = absurd (omega (arith, less))
index_most n (c ∷ cs) zero h less = h.0
index_most n (c ∷ cs) (suc i) h less = index_most n cs i h.1 (omega (arith, less, add-one i, add-one (length cs)))

pub index_in_first : (xs ys : List ℕ) (i : ℕ) → i < length xs → slice_index (xs ++ ys) i ≡ slice_index xs i
index_in_first xs ys i less = get_or_append_left xs ys 0 i less

pub index_at_seam : (xs : List ℕ) (x : ℕ) (ys : List ℕ) (n : ℕ) → n ≡ length xs → slice_index (xs ++ x ∷ ys) n ≡ x
index_at_seam [] x ys n e = ap (λ i. slice_index (x ∷ ys) i) e
index_at_seam (y ∷ xs) x ys zero e = absurd (omega (arith, e, add-one (length xs)))
index_at_seam (y ∷ xs) x ys (suc n) e = index_at_seam xs x ys n (omega (arith, e, add-one n, add-one (length xs)))

-- the number of an atomic's target
pub record AtomicTarget (m : ℕ) (x : Option Access) (p : Target) : Type 0 where
  pub access : Access
  pub is : x ≡ Some access
  pub number : p.number ≡ m

pub atomic_is : (m : ℕ) (x : Option Access) (p : Target) → target_by (atomic_target m) x ≡ Some p → AtomicTarget m x p
atomic_is m None p e = absurd (cc)
atomic_is m (Some a) p e = by a.kind refl
  where
    by : (kind : AccessKind) → a.kind ≡ kind → AtomicTarget m (Some a) p
    by AccessKind.Load q = absurd (let none = rw q at e in cc)
    by AccessKind.Store q = absurd (let none = rw q at e in cc)
    by AccessKind.Atomic q = record { access = a; is = refl; number = ap (λ (u : Target). u.number) (sym (same_Some _ _ (rw q at e))) }
