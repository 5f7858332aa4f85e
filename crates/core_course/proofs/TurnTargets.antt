-- Where the transfer of a core's turn is, by the turn that its step asks for.
use Rattle.std.proofs.Common.{◌≡◌, ◌∙◌, ◌+◌, ◌++◌, ℕ, Bool, true, false, List, [], ◌∷◌, Option, Some, None, length, map, filter, slice_get, refl, ap, sym, subst, arith}
use Rattle.std.proofs.lemmas.List.{length-append, length-map, map-append}
use Rattle.std.proofs.lemmas.List.Elements.{filter-append}
use Rattle.core_laws.proofs.ListLemmas.{get_behind, filter_all, filter_within}
use Rattle.core_laws.proofs.SeenEnd.{first, rest, parts, rest_made, rest_stores}
use Rattle.core_laws.specs.SeenSoFar.{HasSeenSoFar}
use Rattle.core_parts.specs.Needs.{IsLoadOf, IsAtomicOf}
use Rattle.core_parts.specs.PortState.{Waiting}
use Rattle.core_course.specs.CoreOk.{waiting_of}
use Rattle.core_parts.specs.Makes.{IsOfFront}
use Rattle.lf_model.specs.Course.Core.{is_store, is_store_kind}
use Rattle.lf_model.specs.Course.Outcome.{Need, drains, trap_needs, step_needs}
use Rattle.lf_model.specs.Course.Outcome.Need.{NoTurn, RegisterStop}
use Rattle.lf_model.specs.Course.Outcome.Need.{Turn as Asks}
use Rattle.lf_model.specs.Course.Outcome.Outcome.{NotTried, NoText}
use Rattle.lf_model.specs.Course.Turn.{line_target, load_target, atomic_target, target_by}
use Rattle.lf_model.specs.Effect.{Access}
use Rattle.lf_model.specs.Names.{same_kind}
use Rattle.lf_model.specs.Operation.{stores, kind_stores, made}
use Rattle.lf_model.specs.declared.bus.Entry.{Entry}
use Rattle.lf_model.specs.declared.bus.OpKind.{OpKind}
use Rattle.lf_model.specs.declared.bus.OpKind.TheVariants as ops
use Rattle.lf_model.specs.declared.bus.Transfer.{Transfer}
use Rattle.lf_model.specs.declared.bus.TurnKind.TheVariants as kinds
use Rattle.lf_model.specs.declared.bus.Why.{Why}
use Rattle.lf_model.specs.declared.bus.Why.TheVariants as whys
use Rattle.lf_model.specs.declared.step.Turn.TheVariants.{Atomic}
use Rattle.lf_model.specs.declared.trace.Op.{Op}

-- ---- a fetch

-- no step that needs this asks for a fetch
abbrev pub NoFetch : Need → Type 0
NoFetch NoTurn = Unit {0}
NoFetch (Asks kind why) = same_kind kind kinds.Fetch ≡ false
NoFetch (RegisterStop cell) = Unit {0}

pub drains_no_fetch : (waits : Bool) (why : Why) (need : Need) → NoFetch need → NoFetch (drains waits why need)
drains_no_fetch true why need h = refl
drains_no_fetch false why need h = h

trap_no_fetch : (et waits : Bool) → NoFetch (trap_needs et waits)
trap_no_fetch true waits = tt
trap_no_fetch false waits = drains_no_fetch waits whys.End NoTurn tt

-- nor one that leaves its instruction
pub untried_no_fetch : (over et waits full : Bool) → NoFetch (step_needs over et waits full NotTried)
untried_no_fetch true et waits full = drains_no_fetch waits whys.Window (Asks kinds.Snoop whys.Window) refl
untried_no_fetch false et waits full = tt

-- nor one whose PC is no text word
pub no_text_no_fetch : (over et waits full : Bool) → NoFetch (step_needs over et waits full NoText)
no_text_no_fetch true et waits full = drains_no_fetch waits whys.Window (Asks kinds.Snoop whys.Window) refl
no_text_no_fetch false et waits full = trap_no_fetch et waits

pub fetch_asked : (need : Need) (why : Why) → need ≡ Asks kinds.Fetch why → NoFetch need → ⊥
fetch_asked need why asks h = let no : false ≡ true = sym (subst NoFetch asks h) in absurd (cc)

-- ---- a load, and an atomic

pub load_target_is : (access : Option Access) (addr len : ℕ) → IsLoadOf addr len access → target_by load_target access ≡ Some (line_target addr)
load_target_is None addr len h = absurd h
load_target_is (Some x) addr len h = ap (load_target x) h.0 ∙ ap (λ a. Some (line_target a)) (sym h.1.0)

same_addr : (addr len new rd addr' len' new' rd' : ℕ) → Atomic addr len new rd ≡ Atomic addr' len' new' rd' → addr ≡ addr'
same_addr addr len new rd addr' len' new' rd' e = cc

same_len : (addr len new rd addr' len' new' rd' : ℕ) → Atomic addr len new rd ≡ Atomic addr' len' new' rd' → len ≡ len'
same_len addr len new rd addr' len' new' rd' e = cc

pub atomic_target_is : (access : Option Access) (number addr len new rd : ℕ) → IsAtomicOf (Atomic addr len new rd) access
    → target_by (atomic_target number) access ≡ Some (record { addr = addr; len = len; number = number })
atomic_target_is None number addr len new rd h = absurd h
atomic_target_is (Some x) number addr len new rd h =
    let same_a = same_addr addr len new rd x.addr x.len x.put x.rd h.1 in
    let same_l = same_len addr len new rd x.addr x.len x.put x.rd h.1 in
    ap (atomic_target number x) h.0 ∙ rw (same_a, same_l) refl

-- ---- a drain

-- among the stores of the core, the next to drain is the first that waits
pub record Front (drained : ℕ) (all : List Entry) (t : Transfer) : Type 0 where
  pub entry : Entry
  pub there : slice_get all drained ≡ Some entry
  pub addr : t.addr ≡ entry.addr
  pub len : t.len ≡ entry.len

store_stores : (kind : OpKind) → is_store_kind kind ≡ true → kind_stores kind ≡ true
store_stores ops.Load e = absurd (cc)
store_stores ops.Store e = refl
store_stores ops.Atomic e = refl
store_stores ops.Lost e = refl

module _ (initial : ℕ → ℕ) (c : ℕ) (os : List Op) (seen : List ℕ) (log : List Entry) where
  module _ (e : Entry) (later : List Entry) (h : HasSeenSoFar initial c os seen log (e ∷ later)) where
    abbrev gone : List Op
    gone = filter is_store (first initial c os seen log e later h)

    abbrev waiting : List Op
    waiting = rest initial c os seen log e later h

    all_stores : filter is_store os ≡ gone ++ waiting
    all_stores =
        sym (filter_within is_store stores os (λ o store. store_stores o.kind store))
        ∙ (ap (filter is_store) (sym (parts initial c os seen log e later h))
        ∙ (filter-append is_store (first initial c os seen log e later h) waiting
        ∙ ap (λ xs. gone ++ xs) (filter_all is_store waiting (rest_stores initial c os seen log e later h))))

    stores_are : map made (filter is_store os) ≡ map made gone ++ e ∷ later
    stores_are = ap (map made) all_stores ∙ (map-append made gone waiting ∙ ap (λ es. map made gone ++ es) (rest_made initial c os seen log e later h))

    first_waits : (drained : ℕ) → drained + length (e ∷ later) ≡ length (filter is_store os) → slice_get (map made (filter is_store os)) drained ≡ Some e
    first_waits drained count =
        let many : length (filter is_store os) ≡ length (map made gone) + length (e ∷ later) =
        sym (length-map (filter is_store os) made) ∙ (ap length stores_are ∙ length-append (map made gone) (e ∷ later)) in
        let at : length (map made gone) ≡ drained = omega (arith, many, count) in
        ap (λ es. slice_get es drained) stores_are ∙ subst (λ n. slice_get (map made gone ++ e ∷ later) n ≡ Some e) at (get_behind (map made gone) later e)

  front_by : (buffer : List Entry) (h : HasSeenSoFar initial c os seen log buffer) (t : Transfer) (drained : ℕ) → drained + length (map waiting_of buffer) ≡ length (filter is_store os)
      → IsOfFront t (map waiting_of buffer) → Front drained (map made (filter is_store os)) t
  front_by [] h t drained count front = absurd front
  front_by (e ∷ later) h t drained count front = record {
    entry = e;
    there = first_waits e later h drained (omega (arith, count, length-map later waiting_of));
    addr = front.0;
    len = front.1;
  }

  pub front_is : (buffer : List Entry) (ws : List Waiting) → HasSeenSoFar initial c os seen log buffer → ws ≡ map waiting_of buffer → (t : Transfer) (drained : ℕ)
      → drained + length ws ≡ length (filter is_store os) → IsOfFront t ws → Front drained (map made (filter is_store os)) t
  front_is buffer ws h is t drained count front =
      front_by buffer h t drained (subst (λ (l : List Waiting). drained + length l ≡ length (filter is_store os)) is count) (subst (IsOfFront t) is front)
