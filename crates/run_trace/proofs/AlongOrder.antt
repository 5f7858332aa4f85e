-- The walk along an order: how many operations are in the log, and which loads and lost stores came before, at each of its places.
use Rattle.std.proofs.Common.{◌≡◌, ◌∙◌, ◌+◌, ◌≤◌, ◌==◌, ◌&&◌, ◌||◌, ◌++◌, ℕ, Bool, true, false, nat_lt, nat_le, List, [], ◌∷◌, length, filter, fold, refl, ap, sym, inl, inr, arith, add-one}
use Rattle.std.proofs.lemmas.Bool.{cases_eq, eq-eqb, lt-ltb, le-leb}
use Rattle.std.proofs.lemmas.List.Sums.{fold-append}
use Rattle.std.specs.List.{AllByRecursion as Each}
use Rattle.lf_model.specs.Ledger.OrderAccount.{OrderAccount, Before, after_kind, along, comes_before}
use Rattle.lf_model.specs.Operation.{kind_enters, enters, kind_is_lost, is_lost}
use Rattle.lf_model.specs.declared.bus.OpKind.{OpKind}
use Rattle.lf_model.specs.declared.bus.OpKind.TheVariants.{Load, Store, Atomic, Lost}
use Rattle.lf_model.specs.declared.trace.Op.{Op}
use Rattle.run_trace.proofs.Placing.{woven_before}

-- after these operations
abbrev pub past : Before → List Op → Before
past b os = fold (λ (x : Before) (o : Op). after_kind o x o.kind) b os

-- two accounts that are the same at each place are the same
pub along_same : (f g : Before → Op → List Op → OrderAccount) (b : Before) (os : List Op)
    → ((pre later : List Op) (o : Op) → os ≡ pre ++ (o ∷ later) → f (past b pre) o later ≡ g (past b pre) o later) → along f b os ≡ along g b os
along_same f g b [] each = refl
along_same f g b (o ∷ os) each = both (each [] os o refl) (along_same f g (after_kind o b o.kind) os (λ pre later x e. each (o ∷ pre) later x (ap (λ (ys : List Op). o ∷ ys) e)))
  where
    both : {a a' : OrderAccount} {as' bs : List OrderAccount} → a ≡ a' → as' ≡ bs → (a ∷ as') ≡ (a' ∷ bs)
    both p q = rw (p, q) refl

-- ---- the entries

entries_by : (kind : OpKind) (o : Op) (b : Before) (rest : List Op) → o.kind ≡ kind → b.entries + length (filter enters (o ∷ rest)) ≡ (after_kind o b o.kind).entries + length (filter enters rest)
entries_by Load o b rest e = rw e (omega arith)
entries_by Store o b rest e = rw e (omega (arith, add-one (length (filter enters rest))))
entries_by Atomic o b rest e = rw e (omega (arith, add-one (length (filter enters rest))))
entries_by Lost o b rest e = rw e (omega arith)

pub past_entries : (b : Before) (os : List Op) → (past b os).entries ≡ b.entries + length (filter enters os)
past_entries b [] = omega arith
past_entries b (o ∷ os) = past_entries (after_kind o b o.kind) os ∙ sym (entries_by o.kind o b os refl)

-- ---- loads since the last entry, and lost stores

loads_by : (P : Op → Type 0) (kind : OpKind) (o : Op) (b : Before) → P o → Each P b.loads → Each P (after_kind o b kind).loads
loads_by P Load o b here h = (here, h)
loads_by P Store o b here h = tt
loads_by P Atomic o b here h = tt
loads_by P Lost o b here h = h

pub past_loads : (P : Op → Type 0) (b : Before) (os : List Op) → Each P os → Each P b.loads → Each P (past b os).loads
past_loads P b [] each h = h
past_loads P b (o ∷ os) each h = past_loads P (after_kind o b o.kind) os each.1 (loads_by P o.kind o b each.0 h)

lost_by : (P : Op → Type 0) (kind : OpKind) (o : Op) (b : Before) → (kind_is_lost kind ≡ true → P o) → Each P b.lost → Each P (after_kind o b kind).lost
lost_by P Load o b here h = h
lost_by P Store o b here h = h
lost_by P Atomic o b here h = h
lost_by P Lost o b here h = (here refl, h)

pub past_lost : (P : Op → Type 0) (b : Before) (os : List Op) → Each (λ (o : Op). is_lost o ≡ true → P o) os → Each P b.lost → Each P (past b os).lost
past_lost P b [] each h = h
past_lost P b (o ∷ os) each h = past_lost P (after_kind o b o.kind) os each.1 (lost_by P o.kind o b each.0 h)

cleared : (kind : OpKind) (o : Op) (b : Before) → kind_enters kind ≡ true → (after_kind o b kind).loads ≡ []
cleared Load o b e = absurd (cc)
cleared Store o b e = refl
cleared Atomic o b e = refl
cleared Lost o b e = absurd (cc)

-- after an entry no load has come
pub past_woven : (at : ℕ → List Op) (b : Before) (s : ℕ) (es : List Op) → Each (λ (o : Op). enters o ≡ true) es → b.loads ≡ [] → (past b (woven_before at s es)).loads ≡ []
past_woven at b s [] enter h = h
past_woven at b s (e ∷ es) enter h =
    ap (λ (x : Before). x.loads) (fold-append (λ (x : Before) (o : Op). after_kind o x o.kind) b (at s) (e ∷ woven_before at (s + 1) es))
    ∙ past_woven at (after_kind e (past b (at s)) e.kind) (s + 1) es enter.1 (cleared e.kind e (past b (at s)) enter.0)

-- ---- sorted by core and program order

pub before_by_core : (a b : Op) → a.core ≤ b.core → (a.core ≡ b.core → a.k ≤ b.k) → comes_before b a ≡ true
before_by_core a b le same = elim (cases_eq a.core b.core) [
  | inl e ↦ by_number (nat_lt a.core b.core) (eq-eqb a.core b.core e) (le-leb a.k b.k (same e))
  | inr other ↦ rw (lt-ltb a.core b.core (omega (arith, le, other))) refl
]
  where
    by_number : (lower : Bool) → (a.core == b.core) ≡ true → nat_le a.k b.k ≡ true → (lower || (a.core == b.core && nat_le a.k b.k)) ≡ true
    by_number true p q = refl
    by_number false p q = rw (p, q) refl
