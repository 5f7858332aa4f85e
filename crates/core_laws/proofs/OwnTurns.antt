-- The turns that a core made as it ran were right by what it went by then, and are right by what is known of it later.
use Rattle.std.proofs.Common.{◌≡◌, ◌∙◌, ◌+◌, ◌-◌, ◌<◌, ◌≤◌, ◌++◌, ℕ, Bool, true, nat_le, List, [], ◌∷◌, Option, Some, None, length, take, drop, fold, refl, ap, sym, subst, arith}
use Rattle.std.proofs.lemmas.Bool.{leb-true, eq-eqb, and_parts}
use Rattle.std.proofs.lemmas.List.{take_at, take-append-le}
use Rattle.std.proofs.lemmas.List.Folds.{list_all-append}
use Rattle.std.proofs.lemmas.List.Sums.{fold-append}
use Rattle.std.proofs.lemmas.Option.{slice_get_within}
use Rattle.std.specs.List.{AllByRecursion as Each, list_all, slice_get}
use Rattle.std.specs.Option.{option_map, IfSome}
use Rattle.core_laws.proofs.Growing.{grows_local_steps, grows_own_turn, grows_transfers}
use Rattle.core_laws.proofs.LaterGround.{NoStop, before_earlier, same_past, local_steps_same, course_same}
use Rattle.core_laws.proofs.ListLemmas.{get_first, get_behind}
use Rattle.core_laws.specs.Running.{running, with_later, IsBefore}
use Rattle.lf_model.proofs.CourseLemmas.{IsAt, observe_own, local_steps_count}
use Rattle.lf_model.proofs.EachLemmas.{each_first}
use Rattle.lf_model.proofs.SplitLemmas.{split_at}
use Rattle.lf_model.specs.Course.Core.{Given, Ground, ground_of}
use Rattle.lf_model.specs.Course.Course.{up_to, observe, course}
use Rattle.lf_model.specs.Course.LocalStep.{local_steps}
use Rattle.lf_model.specs.Course.Progress.{Progress, start}
use Rattle.lf_model.specs.Course.Turn.{Target, store_target, target_of, fill_way, arrays_before, addressed_at, addressed}
use Rattle.lf_model.specs.Course.Turned.{own_turn}
use Rattle.lf_model.specs.Effect.{Effect}
use Rattle.lf_model.specs.Records.BusRecord.{is_in_memory}
use Rattle.lf_model.specs.Records.OwnTurns.{next_effect, with_word_count, IsRightTurn, before_turn, OwnTurnAt}
use Rattle.lf_model.specs.Start.{ram_first}
use Rattle.lf_model.specs.declared.bus.Entry.{Entry}
use Rattle.lf_model.specs.declared.bus.Transfer.{Transfer}
use Rattle.lf_model.specs.declared.bus.TurnKind.{TurnKind}
use Rattle.lf_model.specs.declared.bus.TurnKind.TheVariants.{Fetch, Load, Store, Atomic, Snoop, Look, Fix}
use Rattle.lf_model.specs.declared.bus.Why.{Why}
use Rattle.lf_model.specs.declared.setup.Setup.{Setup}
use Rattle.lf_model.specs.declared.trace.CoreEnd.{CoreEnd}

-- a test that all elements pass is passed by the one at a split
all_at : {X : Type 0} (p : X → Bool) (xs ys : List X) (x : X) → list_all p (xs ++ x ∷ ys) ≡ true → p x ≡ true
all_at p xs ys x passes = (and_parts (p x) _ (and_parts (list_all p xs) _ (sym (list_all-append p xs (x ∷ ys)) ∙ passes)).1).0

-- ---- longer lists of transfers

module _ (g : Ground) where
  same_at : (ts us : List Transfer) (turn : ℕ) → take turn (ts ++ us) ≡ take turn ts → (found : Option Transfer) → slice_get (ts ++ us) turn ≡ found
      → slice_get ts turn ≡ found → OwnTurnAt g ts turn → OwnTurnAt g (ts ++ us) turn
  same_at ts us turn same None longer shorter h = rw longer tt
  same_at ts us turn same (Some t) longer shorter h = rw (longer, same) (rw shorter at h)

  -- transfers that are appended leave earlier turns
  pub own_turn_at_longer : (ts us : List Transfer) (turn : ℕ) → turn < length ts → OwnTurnAt g ts turn → OwnTurnAt g (ts ++ us) turn
  own_turn_at_longer ts us turn within h =
      same_at ts us turn (take-append-le turn ts us (omega arith)) (slice_get ts turn) (get_first ts us turn within) refl h

  -- a core whose next step is that of this transfer has come up to it
  pub up_to_next : (ts : List Transfer) (n : ℕ) (k : Progress) (t : Transfer) → IsAt g ts n k → t.step ≡ k.steps → up_to g t (course g ts) ≡ k
  up_to_next ts n k t h step =
      ap (λ m. local_steps g m (course g ts)) (left (course g ts).steps n t.step (step ∙ (ap (λ (j : Progress). j.steps) h.at ∙ local_steps_count g n (course g ts)))) ∙ sym h.at
    where
      left : (steps n step : ℕ) → step ≡ steps + n → step - steps ≡ n
      left steps n step e = omega arith

  -- the turn that the core makes, in the step after those that it made
  pub own_turn_at_made : (ts : List Transfer) (n : ℕ) (k : Progress) (t : Transfer) → IsAt g ts n k → t.step ≡ k.steps → (g.core ≡ t.master → IsRightTurn g t k)
      → OwnTurnAt g (ts ++ t ∷ []) (length ts)
  own_turn_at_made ts n k t h step right = rw (get_behind ts [] t, take_at ts (t ∷ []) (length ts) refl)
      (λ own. subst (IsRightTurn g t) (sym (up_to_next ts n k t h step)) (right own))

-- ---- what is known later

module _ (setup : Setup) (core : ℕ) (given later : Given) (end : CoreEnd) (steps : ℕ) (allowed : steps ≤ setup.config.steps) where
  abbrev was : Ground
  was = running setup core given

  abbrev is : Ground
  is = ground_of setup core (with_later given later) end steps

  -- a drain is of a store that was made by then
  store_there : (t : Transfer) (k : Progress) (e : Effect) (found : Option Entry) → slice_get given.stores k.drained ≡ found
      → is_in_memory setup.config.ram (record t { kind = Store }) ≡ true
      → record (with_word_count (addressed_at was e k (record t { kind = Store }) (option_map store_target found))) { syn = t.syn } ≡ record t { kind = Store }
      → slice_get (given.stores ++ later.stores) k.drained ≡ slice_get given.stores k.drained
  store_there t k e (Some entry) there in_memory placed = get_first given.stores later.stores k.drained (slice_get_within given.stores k.drained entry there)
  store_there t k e None there in_memory placed =
      absurd (omega (arith, ap (λ (u : Transfer). u.addr) placed, leb-true ram_first t.addr (and_parts _ _ in_memory).0))

  target_same : (kind : TurnKind) (t : Transfer) (k : Progress) (e : Effect) → is_in_memory setup.config.ram (record t { kind = kind }) ≡ true
      → record (with_word_count (addressed was e k (record t { kind = kind }))) { syn = t.syn } ≡ record t { kind = kind }
      → target_of is k e kind ≡ target_of was k e kind
  target_same Store t k e in_memory placed = ap (option_map store_target) (store_there t k e (slice_get given.stores k.drained) refl in_memory placed)
  target_same Fetch t k e in_memory placed = refl
  target_same Load t k e in_memory placed = refl
  target_same Atomic t k e in_memory placed = refl
  target_same Snoop t k e in_memory placed = refl
  target_same Look t k e in_memory placed = refl
  target_same Fix t k e in_memory placed = refl

  arrays_same : (why : Why) (e : Effect) (k : Progress) → nat_le steps k.steps ≡ nat_le setup.config.steps k.steps → arrays_before is why e k ≡ arrays_before was why e k
  arrays_same why e k past = rw past refl

  addressed_same : (p : Option Target) (t : Transfer) (e : Effect) (k : Progress) → nat_le steps k.steps ≡ nat_le setup.config.steps k.steps
      → addressed_at is e k t p ≡ addressed_at was e k t p
  addressed_same None t e k past = refl
  addressed_same (Some p) t e k past = ap (λ a. record t { addr = p.addr; way = fill_way p.addr a t.kind; words = 0; syn = 0; len = p.len }) (arrays_same t.why e k past)

  -- a turn that the core made stays right
  pub right_turn_same : (t : Transfer) (k : Progress) → nat_le steps k.steps ≡ nat_le setup.config.steps k.steps → is_in_memory setup.config.ram t ≡ true
      → IsRightTurn was t k → IsRightTurn is t k
  right_turn_same t k past in_memory right = record {
    needed = rw past right.needed;
    placed = ap (λ u. record (with_word_count u) { syn = t.syn })
        (ap (addressed_at is (next_effect is k) k t) (target_same t.kind t k (next_effect was k) in_memory right.placed)
        ∙ addressed_same (target_of was k (next_effect was k) t.kind) t (next_effect was k) k past)
        ∙ right.placed;
  }

  past_turn : (t : Transfer) (k : Progress) → IsBefore given.answers end steps (own_turn was t k) → nat_le steps k.steps ≡ nat_le setup.config.steps k.steps
  unfolding own_turn
  past_turn t k h = same_past given.answers end steps setup.config.steps k.steps allowed h.within

  right_turn_before : (pre : List Transfer) (t : Transfer) → Each (NoStop setup core given later end steps allowed) pre
      → IsBefore given.answers end steps (own_turn was t (up_to was t (course was pre))) → is_in_memory setup.config.ram t ≡ true
      → IsRightTurn was t (up_to was t (course was pre)) → IsRightTurn is t (up_to is t (course is pre))
  right_turn_before pre t goes_on now in_memory right =
      let turning : IsBefore given.answers end steps (up_to was t (course was pre)) = before_earlier given.answers end steps _ _ (grows_own_turn was t (up_to was t (course was pre))) now in
      let before : IsBefore given.answers end steps (course was pre) = before_earlier given.answers end steps _ _ (grows_local_steps was (t.step - (course was pre).steps) (course was pre)) turning in
      subst (IsRightTurn is t)
      (sym (ap (up_to is t) (course_same setup core given later end steps allowed pre goes_on before)
      ∙ local_steps_same setup core given later end steps allowed (t.step - (course was pre).steps) (course was pre) turning))
      (right_turn_same t (up_to was t (course was pre)) (past_turn t (up_to was t (course was pre)) now) in_memory right)

  own_turn_at_split : (ts : List Transfer) (turn : ℕ) (found : Option Transfer) → slice_get ts turn ≡ found
      → Each (NoStop setup core given later end steps allowed) ts → IsBefore given.answers end steps (course was ts) → list_all (is_in_memory setup.config.ram) ts ≡ true
      → IfSome found (λ t. core ≡ t.master → IsRightTurn was t (before_turn was ts turn t))
      → IfSome found (λ t. core ≡ t.master → IsRightTurn is t (before_turn is ts turn t))
  own_turn_at_split ts turn None there goes_on before in_memory h = tt
  own_turn_at_split ts turn (Some t) there goes_on before in_memory h = λ own.
      let split : ts ≡ take turn ts ++ t ∷ drop (turn + 1) ts = split_at ts turn t there in
      let after : course was ts ≡ fold (observe was) (observe was (course was (take turn ts)) t) (drop (turn + 1) ts) =
      ap (course was) split ∙ fold-append (observe was) (start was) (take turn ts) (t ∷ drop (turn + 1) ts) in
      let now : IsBefore given.answers end steps (own_turn was t (before_turn was ts turn t)) =
      subst (IsBefore given.answers end steps) (observe_own was t (course was (take turn ts)) (eq-eqb core t.master own))
      (before_earlier given.answers end steps _ _ (grows_transfers was (observe was (course was (take turn ts)) t) (drop (turn + 1) ts)) (subst (IsBefore given.answers end steps) after before)) in
      right_turn_before (take turn ts) t
      (each_first (NoStop setup core given later end steps allowed) (take turn ts) (t ∷ drop (turn + 1) ts) (subst (Each (NoStop setup core given later end steps allowed)) split goes_on))
      now
      (all_at (is_in_memory setup.config.ram) (take turn ts) (drop (turn + 1) ts) t (subst (λ us. list_all (is_in_memory setup.config.ram) us ≡ true) split in_memory))
      (h own)

  -- each turn that the core made stays right
  pub own_turn_at_same : (ts : List Transfer) (turn : ℕ) → Each (NoStop setup core given later end steps allowed) ts → IsBefore given.answers end steps (course was ts)
      → list_all (is_in_memory setup.config.ram) ts ≡ true → OwnTurnAt was ts turn → OwnTurnAt is ts turn
  own_turn_at_same ts turn goes_on before in_memory h = own_turn_at_split ts turn (slice_get ts turn) refl goes_on before in_memory h
