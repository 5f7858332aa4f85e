-- A transfer that was right by what a core had read and stored so far is right by what is known later.
use Rattle.std.proofs.Common.{◌≡◌, ◌∙◌, ◌++◌, ℕ, nat_le, [], Option, Some, None, slice_get, option_map, refl, ap}
use Rattle.std.proofs.lemmas.List.{append-nil}
use Rattle.core_laws.specs.Running.{running, with_later}
use Rattle.lf_model.specs.Course.Core.{Given, Ground, ground_of}
use Rattle.lf_model.specs.Course.Progress.{Progress}
use Rattle.lf_model.specs.Course.Turn.{Target, store_target, target_of, arrays_before, fill_way, addressed_at}
use Rattle.lf_model.specs.Effect.{Effect}
use Rattle.lf_model.specs.Records.OwnTurns.{next_effect, with_word_count, IsRightTurn}
use Rattle.lf_model.specs.declared.bus.Transfer.{Transfer}
use Rattle.lf_model.specs.declared.bus.TurnKind.{TurnKind}
use Rattle.lf_model.specs.declared.bus.TurnKind.TheVariants.{Fetch, Load, Store, Atomic, Snoop, Look, Fix}
use Rattle.lf_model.specs.declared.bus.Why.{Why}
use Rattle.lf_model.specs.declared.setup.Setup.{Setup}
use Rattle.lf_model.specs.declared.trace.CoreEnd.{CoreEnd}

-- no store is made later, and its turn is past the steps that the core makes just where it is past those allowed
module _ (setup : Setup) (core : ℕ) (given later : Given) (end : CoreEnd) (last : ℕ) (k : Progress) (t : Transfer)
    (none : later.stores ≡ []) (past : nat_le last k.steps ≡ nat_le setup.config.steps k.steps) where
  abbrev was : Ground
  was = running setup core given

  abbrev is : Ground
  is = ground_of setup core (with_later given later) end last

  target_same : (kind : TurnKind) (e : Effect) → target_of is k e kind ≡ target_of was k e kind
  target_same Store e = ap (λ ss. option_map store_target (slice_get (given.stores ++ ss) k.drained)) none
      ∙ ap (λ ss. option_map store_target (slice_get ss k.drained)) (append-nil given.stores)
  target_same Fetch e = refl
  target_same Load e = refl
  target_same Atomic e = refl
  target_same Snoop e = refl
  target_same Look e = refl
  target_same Fix e = refl

  arrays_same : (why : Why) (e : Effect) → arrays_before is why e k ≡ arrays_before was why e k
  arrays_same why e = rw past refl

  addressed_same : (p : Option Target) (e : Effect) → addressed_at is e k t p ≡ addressed_at was e k t p
  addressed_same None e = refl
  addressed_same (Some p) e = ap (λ a. record t { addr = p.addr; way = fill_way p.addr a t.kind; words = 0; syn = 0; len = p.len }) (arrays_same t.why e)

  pub right_later : IsRightTurn was t k → IsRightTurn is t k
  right_later right = record {
    needed = rw past right.needed;
    placed = ap (λ u. record (with_word_count u) { syn = t.syn })
        (ap (addressed_at is (next_effect is k) k t) (target_same t.kind (next_effect was k)) ∙ addressed_same (target_of was k (next_effect was k) t.kind) (next_effect was k))
        ∙ right.placed;
  }
