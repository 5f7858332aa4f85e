-- The first place at which Once fails, from the first place of each of its parts.
use Rattle.std.proofs.Common.{◌≡◌, ◌∙◌, ◌<◌, ℕ, Bool, true, false, List, length, get_or, sym, subst, inl, inr, refl, Option, Some, None, arith, count_by}
use Rattle.std.specs.Prelude.{All}
use Rattle.std.proofs.lemmas.Grind.{get_or_default_zero}
use Rattle.lf_model.specs.Operation.{of_core}
use Rattle.lf_model.specs.Once.{is_number, OnceAtCore, OnceAtOrder, OnceAtTransfer, OnceAtFinal}
use Rattle.lf_model.specs.Places.{FailsFirst, FailsFirstIn}
use Rattle.lf_model.specs.declared.bus.Transfer.{Transfer as Turn}
use Rattle.lf_model.specs.declared.place.Place.TheVariants.{Core, Order, Transfer, Final}
use Rattle.lf_model.specs.declared.setup.Setup.{Setup}
use Rattle.lf_model.specs.declared.trace.Op.{Op}
use Rattle.lf_model.specs.declared.trace.Trace.{Trace}
use Rattle.tso_audit.specs.FirstPlaces.{OnceFailsFirst}

-- ---- how often each number of a core stands

module _ (xs times : List ℕ) (order : List Op) (c n : ℕ) (same : xs ≡ times) (is : n ≡ count_by (of_core c) order) (size : length times ≡ n)
    (counted : (k : ℕ) → k < n → get_or times k 0 ≡ count_by (is_number c k) order) where
  pub all_once : All (λ t. t ≡ 1) xs → OnceAtCore order c
  all_once all k low =
      let inside : k < length times = omega (arith, is, size, low) in
      let one : All (λ t. t ≡ 1) times = subst (λ (ys : List ℕ). All (λ t. t ≡ 1) ys) same all in
      sym (counted k (omega (arith, is, low))) ∙ one k 0 inside

  pub once_all : OnceAtCore order c → All (λ t. t ≡ 1) xs
  once_all once = subst (λ (ys : List ℕ). All (λ t. t ≡ 1) ys) (sym same) one
    where
      one : All (λ t. t ≡ 1) times
      one k d low = get_or_default_zero times k d low ∙ (counted k (omega (arith, size, low)) ∙ once k (omega (arith, is, size, low)))

-- ---- the parts of Once, one after the other

module _ (setup : Setup) (trace : Trace) (order : List Op) (transfers : List Turn) (core op turn : Option ℕ) (order_is : order ≡ trace.order) (transfers_are : transfers ≡ trace.transfers)
    (cores : FailsFirst setup.config.cores (OnceAtCore order) core) (ops : FailsFirstIn (OnceAtOrder setup.config.cores) order op)
    (turns : FailsFirst (length transfers) (OnceAtTransfer setup.config.cores transfers) turn) where
  cores_of : (p : Option ℕ) → core ≡ p → FailsFirst setup.config.cores (OnceAtCore trace.order) p
  cores_of p is =
      subst (λ (os : List Op). FailsFirst setup.config.cores (OnceAtCore os) p) order_is (subst (λ (q : Option ℕ). FailsFirst setup.config.cores (OnceAtCore order) q) is cores)

  ops_of : (p : Option ℕ) → op ≡ p → FailsFirstIn (OnceAtOrder setup.config.cores) trace.order p
  ops_of p is =
      subst (λ (os : List Op). FailsFirstIn (OnceAtOrder setup.config.cores) os p) order_is (subst (λ (q : Option ℕ). FailsFirstIn (OnceAtOrder setup.config.cores) order q) is ops)

  turns_of : (p : Option ℕ) → turn ≡ p → FailsFirst (length trace.transfers) (OnceAtTransfer setup.config.cores trace.transfers) p
  turns_of p is =
      subst (λ (ts : List Turn). FailsFirst (length ts) (OnceAtTransfer setup.config.cores ts) p) transfers_are
      (subst (λ (q : Option ℕ). FailsFirst (length transfers) (OnceAtTransfer setup.config.cores transfers) q) is turns)

  pub once_turn : core ≡ None → op ≡ None → (i : ℕ) → turn ≡ Some i → OnceFailsFirst setup trace (Some (Transfer i))
  once_turn no_core no_op i is = inl (cores_of None no_core, inl (ops_of None no_op, inr (i, turns_of (Some i) is, refl)))

  pub once_nowhere : core ≡ None → op ≡ None → turn ≡ None → OnceAtFinal setup trace → OnceFailsFirst setup trace None
  once_nowhere no_core no_op no_turn final = inl (cores_of None no_core, inl (ops_of None no_op, inl (turns_of None no_turn, inl ((λ i low. final), refl))))

  pub once_final : core ≡ None → op ≡ None → turn ≡ None → (OnceAtFinal setup trace → ⊥) → OnceFailsFirst setup trace (Some Final)
  once_final no_core no_op no_turn fails =
      inl (cores_of None no_core, inl (ops_of None no_op, inl (turns_of None no_turn, inr (0, (omega arith, fails, (λ j low. absurd (omega (arith, low)))), refl))))

pub once_core : (setup : Setup) (trace : Trace) (order : List Op) (core : Option ℕ) → order ≡ trace.order → FailsFirst setup.config.cores (OnceAtCore order) core
    → (c : ℕ) → core ≡ Some c → OnceFailsFirst setup trace (Some (Core c))
once_core setup trace order core order_is cores c is =
    inr (c, subst (λ (os : List Op). FailsFirst setup.config.cores (OnceAtCore os) (Some c)) order_is (subst (λ (q : Option ℕ). FailsFirst setup.config.cores (OnceAtCore order) q) is cores), refl)

pub once_op : (setup : Setup) (trace : Trace) (order : List Op) (core op : Option ℕ) → order ≡ trace.order → FailsFirst setup.config.cores (OnceAtCore order) core
    → FailsFirstIn (OnceAtOrder setup.config.cores) order op → core ≡ None → (i : ℕ) → op ≡ Some i → OnceFailsFirst setup trace (Some (Order i))
once_op setup trace order core op order_is cores ops no_core i is =
    inl (
      subst (λ (os : List Op). FailsFirst setup.config.cores (OnceAtCore os) None) order_is (subst (λ (q : Option ℕ). FailsFirst setup.config.cores (OnceAtCore order) q) no_core cores),
      inr (i, subst (λ (os : List Op). FailsFirstIn (OnceAtOrder setup.config.cores) os (Some i)) order_is (subst (λ (q : Option ℕ). FailsFirstIn (OnceAtOrder setup.config.cores) order q) is ops), refl),
    )

pub unlike : (b : Bool) → b ≡ true → b ≡ false → ⊥
unlike b is not = cc
