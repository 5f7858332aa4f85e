-- What the course of a core keeps over the transfers: what it has seen of the log, its completions, its drains and its error traps.
use Rattle.std.proofs.Common.{◌≡◌, ◌∙◌, ◌+◌, ◌-◌, ◌≤◌, ◌==◌, ◌&&◌, ◌||◌, ◌++◌, ℕ, zero, suc, Bool, true, false, not, List, [], ◌∷◌, length, filter, fold, find, slice_get, slice_index, Option, Some, None, IfSome, IsSomeAnd, is_some, refl, ap, sym, subst, inl, inr, arith, add-one, if◌then◌else◌}
use Rattle.std.proofs.lemmas.Bool.{cases_Bool}
use Rattle.std.proofs.lemmas.List.{append-nil, append_assoc, length-append}
use Rattle.std.proofs.lemmas.List.Elements.{filter-append}
use Rattle.std.proofs.lemmas.List.Sums.{fold-append}
use Rattle.std.proofs.lemmas.Option.{same_Some}
use Rattle.std.specs.Int.{from_bool}
use Rattle.std.specs.List.{AllByRecursion as Each}
use Rattle.std.specs.List.{list_any}
use Rattle.lf_model.proofs.EachLemmas.{each_append, each_weaker}
use Rattle.lf_model.proofs.CourseLemmas.{observe_own}
use Rattle.lf_model.specs.Course.Arrays.{Arrays, begun}
use Rattle.lf_model.specs.Course.Attempt.{attempt}
use Rattle.lf_model.specs.Course.Core.{Ground}
use Rattle.lf_model.specs.Course.Course.{stored_at, others_turn, up_to, observe, course, finished}
use Rattle.lf_model.specs.Course.LocalStep.{is_last_stop, register_errors, way_hit, local_step, local_steps}
use Rattle.lf_model.specs.Course.Outcome.{Need}
use Rattle.lf_model.specs.Course.Outcome.Need.{NoTurn, Turn, RegisterStop}
use Rattle.lf_model.specs.Course.Progress.{Completion, ErrorTrap, Progress, start, next_needs, completed}
use Rattle.lf_model.specs.Course.Syndromes.{is_bad_syndrome, syndromes_of, met_bad, enters_log}
use Rattle.lf_model.specs.Course.Turned.{bad_wanted, retires_by, turn_wants, turn_errors, own_turn}
use Rattle.lf_model.specs.Course.Turn.{is_past_steps}
use Rattle.lf_model.specs.Effect.{Access, Effect}
use Rattle.lf_model.specs.Names.{same_kind}
use Rattle.lf_model.specs.Run.{operation, with_access, answer_to, effect_at_pc, answered}
use Rattle.lf_model.specs.declared.bus.Entry.{Entry}
use Rattle.lf_model.specs.declared.bus.Transfer.{Transfer}
use Rattle.lf_model.specs.declared.bus.TurnKind.{TurnKind}
use Rattle.lf_model.specs.declared.bus.TurnKind.TheVariants.{Fetch, Load, Store, Atomic, Snoop, Look, Fix}

-- ---- counts of one transfer more

module _ (p : Transfer → Bool) (pre : List Transfer) (t : Transfer) where
  pub count_one : length (filter p (pre ++ t ∷ [])) ≡ length (filter p pre) + from_bool (p t)
  count_one = ap (λ (ts : List Transfer). length ts) (filter-append p pre (t ∷ [])) ∙ (length-append (filter p pre) (filter p (t ∷ [])) ∙ by (p t) refl)
    where
      by : (b : Bool) → p t ≡ b → length (filter p pre) + length (filter p (t ∷ [])) ≡ length (filter p pre) + from_bool (p t)
      by true e = rw e refl
      by false e = rw e refl

-- ---- an instruction retires, or doesn't

added : (step : ℕ) (way : Option ℕ) (seen core got : ℕ) (x : Option Access) (cs : List Completion) (ops : List Entry) → length cs ≡ length ops
    → length (cs ++ completed step way seen x) ≡ length (with_access core got x ops)
added step way seen core got None cs ops h = ap (λ (ds : List Completion). length ds) (append-nil cs) ∙ h
added step way seen core got (Some a) cs ops h = omega (arith, h, length-append cs (record { step = step; way = way; seen = seen } ∷ []), length-append ops (operation core (length ops) got a ∷ []))

completed_if : (retires : Bool) (g : Ground) (e : Effect) (way : Option ℕ) (seen : ℕ) (k : Progress) → length k.completions ≡ length k.run.ops
    → length (if retires then k.completions ++ completed k.steps way seen e.access else k.completions) ≡ length (if retires then answered g.core g.given.answers k.run e else k.run).ops
completed_if true g e way seen k h = added k.steps way seen g.core (answer_to g.given.answers k.run.ops e.access) e.access k.completions k.run.ops h
completed_if false g e way seen k h = h

each_added : (n step : ℕ) (way : Option ℕ) (seen : ℕ) (x : Option Access) → seen ≤ n → Each (λ (c : Completion). c.seen ≤ n) (completed step way seen x)
each_added n step way seen None le = tt
each_added n step way seen (Some a) le = (le, tt)

each_if : (retires : Bool) (e : Effect) (way : Option ℕ) (seen n : ℕ) (k : Progress) → seen ≤ n → Each (λ (c : Completion). c.seen ≤ n) k.completions
    → Each (λ (c : Completion). c.seen ≤ n) (if retires then k.completions ++ completed k.steps way seen e.access else k.completions)
each_if true e way seen n k le h = each_append (λ (c : Completion). c.seen ≤ n) k.completions (completed k.steps way seen e.access) h (each_added n k.steps way seen e.access le)
each_if false e way seen n k le h = h

-- ---- error traps

-- a turn met the error
abbrev pub is_turns : ErrorTrap → Bool
is_turns x = is_some x.turns

-- the transfer at this turn met a bad word
abbrev pub IsFailedAt : List Transfer → ℕ → Type 0
IsFailedAt ts place = IsSomeAnd (slice_get ts place) (λ u. list_any is_bad_syndrome (syndromes_of u) ≡ true)

failed_more : (ts us : List Transfer) (place : ℕ) → IsFailedAt ts place → IsFailedAt (ts ++ us) place
failed_more [] us place h = absurd h
failed_more (t ∷ ts) us zero h = h
failed_more (t ∷ ts) us (suc place) h = failed_more ts us place h

failed_last : (ts : List Transfer) (t : Transfer) (place : ℕ) → place ≡ length ts → list_any is_bad_syndrome (syndromes_of t) ≡ true → IsFailedAt (ts ++ t ∷ []) place
failed_last [] t place e bad = subst (λ n. IsFailedAt (t ∷ []) n) (sym e) bad
failed_last (u ∷ ts) t zero e bad = absurd (omega (arith, e, add-one (length ts)))
failed_last (u ∷ ts) t (suc place) e bad = failed_last ts t place (omega (arith, e, add-one place, add-one (length ts))) bad

register_none : (a : Arrays) (k : Progress) (need : Need) → filter is_turns (register_errors a k need) ≡ []
register_none a k NoTurn = refl
register_none a k (Turn kind why) = refl
register_none a k (RegisterStop cell) = refl

register_each : (P : ErrorTrap → Type 0) → ((x : ErrorTrap) → x.turns ≡ None → P x) → (a : Arrays) (k : Progress) (need : Need) → Each P (register_errors a k need)
register_each P h a k NoTurn = tt
register_each P h a k (Turn kind why) = tt
register_each P h a k (RegisterStop cell) = (h _ refl, tt)

bad_among : (xs : List ℕ) (j : ℕ) → is_bad_syndrome (slice_index xs j) ≡ true → list_any is_bad_syndrome xs ≡ true
bad_among [] j h = absurd (cc)
bad_among (x ∷ xs) zero h = rw h refl
bad_among (x ∷ xs) (suc j) h = by (is_bad_syndrome x) (bad_among xs j h)
  where
    by : (b : Bool) → list_any is_bad_syndrome xs ≡ true → (b || list_any is_bad_syndrome xs) ≡ true
    by true e = refl
    by false e = e

found_bad : (t : Transfer) (js : List ℕ) (j : ℕ) → find (met_bad t) js ≡ Some j → met_bad t j ≡ true
found_bad t [] j e = absurd (cc)
found_bad t (i ∷ js) j e = elim (cases_Bool (met_bad t i)) [
  | inl bad ↦ subst (λ n. met_bad t n ≡ true) (same_Some _ _ (rw bad at e)) bad
  | inr good ↦ found_bad t js j (rw good at e)
]

-- ---- what is kept

module _ (g : Ground) where
  abbrev pub is_own : Transfer → Bool
  is_own t = g.core == t.master

  abbrev pub is_drain : Transfer → Bool
  is_drain t = is_own t && same_kind t.kind Store

  abbrev pub is_entered_drain : Transfer → Bool
  is_entered_drain t = is_drain t && enters_log t

  pub record Keeps (pre : List Transfer) (k : Progress) : Type 0 where
    pub seen : k.seen + length k.unseen ≡ length (filter enters_log pre)
    pub seen_most : Each (λ (c : Completion). c.seen ≤ k.seen) k.completions
    pub completed : length k.completions ≡ length k.run.ops
    pub turns : k.turns ≡ length (filter is_own pre)
    pub drained : k.drained ≡ length (filter is_drain pre)
    pub failed : k.drained ≤ length (filter is_entered_drain pre) + length (filter is_turns k.errors)
    pub numbers : Each (λ (x : ErrorTrap). IfSome x.turns (λ n. n ≤ k.turns)) k.errors
    pub places : Each (λ (x : ErrorTrap). is_turns x ≡ true → IsFailedAt pre x.place) k.errors

  -- a transfer after these: its number, and a store of it that enters no log met its word bad
  pub record IsSound (pre : List Transfer) (t : Transfer) : Type 0 where
    pub turn : t.turn ≡ length pre
    pub fails : same_kind t.kind Store ≡ true → enters_log t ≡ false → met_bad t 0 ≡ true

  pub keeps_start : Keeps [] (start g)
  keeps_start = record { seen = refl; seen_most = tt; completed = refl; turns = refl; drained = refl; failed = omega arith; numbers = tt; places = tt }

  no_register : (x : ErrorTrap) → x.turns ≡ None → is_turns x ≡ true → ⊥
  no_register x e is = absurd (let none = rw e at is in cc)

  pub keeps_local_step : (pre : List Transfer) (k : Progress) → Keeps pre k → Keeps pre (local_step g k)
  unfolding local_step
  keeps_local_step pre k h =
      let e = effect_at_pc g.setup g.core k.run.state in
      let x = attempt g.setup.image k.run.state e (begun g.flips k.steps k.arrays) in
      let need = next_needs g k x.outcome in
      let new = register_errors x.arrays k need in
      let retires = not (is_last_stop g k.steps) in
      let way = way_hit x.arrays.data_cache x.outcome in
      record {
        seen = h.seen;
        seen_most = each_if retires e way k.seen k.seen k (omega arith) h.seen_most;
        completed = completed_if retires g e way k.seen k h.completed;
        turns = h.turns;
        drained = h.drained;
        failed = subst (λ (xs : List ErrorTrap). k.drained ≤ length (filter is_entered_drain pre) + length xs)
            (sym (filter-append is_turns k.errors new ∙ (ap (λ (xs : List ErrorTrap). filter is_turns k.errors ++ xs) (register_none x.arrays k need) ∙ append-nil (filter is_turns k.errors)))) h.failed;
        numbers = each_append (λ (y : ErrorTrap). IfSome y.turns (λ n. n ≤ k.turns)) k.errors new h.numbers
            (register_each (λ (y : ErrorTrap). IfSome y.turns (λ n. n ≤ k.turns)) (λ y none. subst (λ o. IfSome o (λ n. n ≤ k.turns)) (sym none) tt) x.arrays k need);
        places = each_append (λ (y : ErrorTrap). is_turns y ≡ true → IsFailedAt pre y.place) k.errors new h.places
            (register_each (λ (y : ErrorTrap). is_turns y ≡ true → IsFailedAt pre y.place) (λ y none is. absurd (no_register y none is)) x.arrays k need);
      }

  stored_count : (t : Transfer) → length (stored_at t) ≡ from_bool (enters_log t)
  stored_count t = by (enters_log t) refl
    where
      by : (b : Bool) → enters_log t ≡ b → length (stored_at t) ≡ from_bool (enters_log t)
      by true e = rw e refl
      by false e = rw e refl

  counts_not : (b : Bool) → b ≡ false → from_bool b ≡ 0
  counts_not b e = rw e refl

  drain_not : (t : Transfer) → is_own t ≡ false → is_drain t ≡ false
  drain_not t other = rw other refl

  keeps_others : (pre : List Transfer) (k : Progress) (t : Transfer) → is_own t ≡ false → Keeps pre k → Keeps (pre ++ t ∷ []) (others_turn t k)
  keeps_others pre k t other h = record {
    seen = omega (arith, h.seen, length-append k.unseen (stored_at t), stored_count t, count_one enters_log pre t);
    seen_most = h.seen_most;
    completed = h.completed;
    turns = omega (arith, h.turns, count_one is_own pre t, counts_not (is_own t) other);
    drained = omega (arith, h.drained, count_one is_drain pre t, counts_not (is_drain t) (drain_not t other));
    failed = omega (arith, h.failed, count_one is_entered_drain pre t);
    numbers = h.numbers;
    places = each_weaker (λ (x : ErrorTrap). is_turns x ≡ true → IsFailedAt pre x.place) (λ (x : ErrorTrap). is_turns x ≡ true → IsFailedAt (pre ++ t ∷ []) x.place) k.errors
        (λ x f is. failed_more pre (t ∷ []) x.place (f is)) h.places;
  }

  -- ---- its own turn

  wants_bad : (kind : TurnKind) (pc : ℕ) (e : Effect) (t : Transfer) → same_kind kind Store ≡ true → met_bad t 0 ≡ true → is_some (find (met_bad t) (turn_wants pc e kind)) ≡ true
  wants_bad Fetch pc e t s bad = absurd (cc)
  wants_bad Load pc e t s bad = absurd (cc)
  wants_bad Store pc e t s bad = rw bad refl
  wants_bad Atomic pc e t s bad = absurd (cc)
  wants_bad Snoop pc e t s bad = absurd (cc)
  wants_bad Look pc e t s bad = absurd (cc)
  wants_bad Fix pc e t s bad = absurd (cc)

  turn_count : (t : Transfer) (steps n : ℕ) (bad : Option ℕ) → length (filter is_turns (turn_errors t steps n bad)) ≡ from_bool (is_some bad)
  turn_count t steps n None = refl
  turn_count t steps n (Some j) = refl

  own_drain : (t : Transfer) → is_own t ≡ true → from_bool (is_drain t) ≡ from_bool (same_kind t.kind Store)
  own_drain t own = rw own refl

  own_entered : (t : Transfer) → is_own t ≡ true → from_bool (is_entered_drain t) ≡ from_bool (same_kind t.kind Store && enters_log t)
  own_entered t own = rw own refl

  counts_own : (b : Bool) → b ≡ true → from_bool b ≡ 1
  counts_own b e = rw e refl

  -- a store that enters no log is an error
  fails_or_enters : (t : Transfer) (bad : Option ℕ) (s enters : Bool) → (s ≡ true → enters ≡ false → is_some bad ≡ true) → from_bool s ≤ from_bool (s && enters) + from_bool (is_some bad)
  fails_or_enters t bad false enters f = omega arith
  fails_or_enters t bad true true f = omega arith
  fails_or_enters t bad true false f = rw (f refl refl) (omega arith)

  numbers_new : (t : Transfer) (steps n : ℕ) (bad : Option ℕ) → Each (λ (x : ErrorTrap). IfSome x.turns (λ m. m ≤ n)) (turn_errors t steps n bad)
  numbers_new t steps n None = tt
  numbers_new t steps n (Some j) = (omega arith, tt)

  numbers_more : (n m : ℕ) (o : Option ℕ) → n ≤ m → IfSome o (λ i. i ≤ n) → IfSome o (λ i. i ≤ m)
  numbers_more n m None le h = tt
  numbers_more n m (Some i) le h = omega (arith, le, h)

  places_new : (pre : List Transfer) (t : Transfer) (steps n : ℕ) (js : List ℕ) (bad : Option ℕ) → t.turn ≡ length pre → find (met_bad t) js ≡ bad
      → Each (λ (x : ErrorTrap). is_turns x ≡ true → IsFailedAt (pre ++ t ∷ []) x.place) (turn_errors t steps n bad)
  places_new pre t steps n js None e found = tt
  places_new pre t steps n js (Some j) e found = ((λ is. failed_last pre t t.turn e (bad_among (syndromes_of t) j (found_bad t js j found))), tt)

  keeps_own_turn : (pre : List Transfer) (k : Progress) (t : Transfer) → is_own t ≡ true → IsSound pre t → Keeps pre k → Keeps (pre ++ t ∷ []) (own_turn g t k)
  unfolding own_turn
  keeps_own_turn pre k t own sound h =
      let e = effect_at_pc g.setup g.core k.run.state in
      let pc = k.run.state.ctl.pc in
      let bad = bad_wanted pc e t in
      let steps = if is_past_steps g k then k.steps else k.steps + 1 in
      let seen = k.seen + length k.unseen + from_bool (enters_log t) in
      record {
        seen = omega (arith, h.seen, count_one enters_log pre t);
        seen_most = each_if (retires_by g t) e None seen seen k (omega arith)
            (each_weaker (λ (c : Completion). c.seen ≤ k.seen) (λ (c : Completion). c.seen ≤ seen) k.completions (λ c le. omega (arith, le)) h.seen_most);
        completed = completed_if (retires_by g t) g e None seen k h.completed;
        turns = omega (arith, h.turns, count_one is_own pre t, counts_own (is_own t) own);
        drained = omega (arith, h.drained, count_one is_drain pre t, own_drain t own);
        failed = subst (λ n. k.drained + from_bool (same_kind t.kind Store) ≤ length (filter is_entered_drain (pre ++ t ∷ [])) + n)
            (sym (ap (λ (xs : List ErrorTrap). length xs) (filter-append is_turns k.errors (turn_errors t steps (k.turns + 1) bad)) ∙ length-append (filter is_turns k.errors) (filter is_turns (turn_errors t steps (k.turns + 1) bad))))
            (omega (
              arith,
              h.failed,
              count_one is_entered_drain pre t,
              own_entered t own,
              turn_count t steps (k.turns + 1) bad,
              fails_or_enters t bad (same_kind t.kind Store) (enters_log t) (λ s not. wants_bad t.kind pc e t s (sound.fails s not)),
            ));
        numbers = each_append (λ (x : ErrorTrap). IfSome x.turns (λ n. n ≤ k.turns + 1)) k.errors (turn_errors t steps (k.turns + 1) bad)
            (each_weaker (λ (x : ErrorTrap). IfSome x.turns (λ n. n ≤ k.turns)) (λ (x : ErrorTrap). IfSome x.turns (λ n. n ≤ k.turns + 1)) k.errors
            (λ x. numbers_more k.turns (k.turns + 1) x.turns (omega arith)) h.numbers)
            (numbers_new t steps (k.turns + 1) bad);
        places = each_append (λ (x : ErrorTrap). is_turns x ≡ true → IsFailedAt (pre ++ t ∷ []) x.place) k.errors (turn_errors t steps (k.turns + 1) bad)
            (each_weaker (λ (x : ErrorTrap). is_turns x ≡ true → IsFailedAt pre x.place) (λ (x : ErrorTrap). is_turns x ≡ true → IsFailedAt (pre ++ t ∷ []) x.place) k.errors
            (λ x f is. failed_more pre (t ∷ []) x.place (f is)) h.places)
            (places_new pre t steps (k.turns + 1) (turn_wants pc e t.kind) bad sound.turn refl);
      }

  -- ---- along all transfers

  pub keeps_local_steps : (n : ℕ) (pre : List Transfer) (k : Progress) → Keeps pre k → Keeps pre (local_steps g n k)
  keeps_local_steps zero pre k h = h
  keeps_local_steps (suc n) pre k h = keeps_local_steps n pre (local_step g k) (keeps_local_step pre k h)

  observe_others : (k : Progress) (t : Transfer) → is_own t ≡ false → observe g k t ≡ others_turn t k
  unfolding observe
  observe_others k t other = rw other refl

  keeps_observe : (pre : List Transfer) (k : Progress) (t : Transfer) → IsSound pre t → Keeps pre k → Keeps (pre ++ t ∷ []) (observe g k t)
  keeps_observe pre k t sound h = elim (cases_Bool (is_own t)) [
    | inl own ↦ subst (Keeps (pre ++ t ∷ [])) (sym (observe_own g t k own)) (keeps_own_turn pre (up_to g t k) t own sound (keeps_local_steps (t.step - k.steps) pre k h))
    | inr other ↦ subst (Keeps (pre ++ t ∷ [])) (sym (observe_others k t other)) (keeps_others pre k t other h)
  ]

  keeps_from : (pre ts : List Transfer) (k : Progress) → ((us vs : List Transfer) (t : Transfer) → ts ≡ us ++ t ∷ vs → IsSound (pre ++ us) t) → Keeps pre k → Keeps (pre ++ ts) (fold (observe g) k ts)
  keeps_from pre [] k each h = subst (λ us. Keeps us k) (sym (append-nil pre)) h
  keeps_from pre (t ∷ ts) k each h =
      subst (λ us. Keeps us (fold (observe g) (observe g k t) ts)) (append_assoc pre (t ∷ []) ts)
      (keeps_from (pre ++ t ∷ []) ts (observe g k t)
      (λ us vs u split. subst (λ ws. IsSound ws u) (sym (append_assoc pre (t ∷ []) us)) (each (t ∷ us) vs u (ap (λ ws. t ∷ ws) split)))
      (keeps_observe pre k t (subst (λ ws. IsSound ws t) (append-nil pre) (each [] ts t refl)) h))

  pub keeps_course : (ts : List Transfer) → ((us vs : List Transfer) (t : Transfer) → ts ≡ us ++ t ∷ vs → IsSound us t) → Keeps ts (course g ts)
  keeps_course ts each = keeps_from [] ts (start g) each keeps_start

  -- ---- a core makes more completions, and meets more error traps, never fewer

  pub record Grown (k j : Progress) : Type 0 where
    pub later : List Completion
    pub completions : j.completions ≡ k.completions ++ later
    pub met : List ErrorTrap
    pub errors : j.errors ≡ k.errors ++ met

  grown_by : (k j : Progress) (retires : Bool) (new : List Completion) (met : List ErrorTrap) → j.completions ≡ (if retires then k.completions ++ new else k.completions)
      → j.errors ≡ k.errors ++ met → Grown k j
  grown_by k j true new met cs es = record { later = new; completions = cs; met = met; errors = es }
  grown_by k j false new met cs es = record { later = []; completions = cs ∙ sym (append-nil k.completions); met = met; errors = es }

  grown_none : (k : Progress) → Grown k k
  grown_none k = record { later = []; completions = sym (append-nil k.completions); met = []; errors = sym (append-nil k.errors) }

  pub grown_through : (i j k : Progress) → Grown i j → Grown j k → Grown i k
  grown_through i j k first second = record {
    later = first.later ++ second.later;
    completions = second.completions ∙ (ap (λ (cs : List Completion). cs ++ second.later) first.completions ∙ append_assoc i.completions first.later second.later);
    met = first.met ++ second.met;
    errors = second.errors ∙ (ap (λ (es : List ErrorTrap). es ++ second.met) first.errors ∙ append_assoc i.errors first.met second.met);
  }

  grown_local_step : (k : Progress) → Grown k (local_step g k)
  unfolding local_step
  grown_local_step k =
      let e = effect_at_pc g.setup g.core k.run.state in
      let x = attempt g.setup.image k.run.state e (begun g.flips k.steps k.arrays) in
      grown_by k (local_step g k) (not (is_last_stop g k.steps)) (completed k.steps (way_hit x.arrays.data_cache x.outcome) k.seen e.access)
      (register_errors x.arrays k (next_needs g k x.outcome)) refl refl

  pub grown_own_turn : (t : Transfer) (k : Progress) → Grown k (own_turn g t k)
  unfolding own_turn
  grown_own_turn t k =
      let e = effect_at_pc g.setup g.core k.run.state in
      grown_by k (own_turn g t k) (retires_by g t) (completed k.steps None (k.seen + length k.unseen + from_bool (enters_log t)) e.access)
      (turn_errors t (if is_past_steps g k then k.steps else k.steps + 1) (k.turns + 1) (bad_wanted k.run.state.ctl.pc e t)) refl refl

  pub grown_local_steps : (n : ℕ) (k : Progress) → Grown k (local_steps g n k)
  grown_local_steps zero k = grown_none k
  grown_local_steps (suc n) k = grown_through k (local_step g k) (local_steps g n (local_step g k)) (grown_local_step k) (grown_local_steps n (local_step g k))

  grown_observe : (t : Transfer) (k : Progress) → Grown k (observe g k t)
  grown_observe t k = elim (cases_Bool (is_own t)) [
    | inl own ↦ subst (Grown k) (sym (observe_own g t k own))
        (grown_through k (up_to g t k) (own_turn g t (up_to g t k)) (grown_local_steps (t.step - k.steps) k) (grown_own_turn t (up_to g t k)))
    | inr other ↦ subst (Grown k) (sym (observe_others k t other)) (record { later = []; completions = sym (append-nil k.completions); met = []; errors = sym (append-nil k.errors) })
  ]

  pub grown_transfers : (k : Progress) (ts : List Transfer) → Grown k (fold (observe g) k ts)
  grown_transfers k [] = grown_none k
  grown_transfers k (t ∷ ts) = grown_through k (observe g k t) (fold (observe g) (observe g k t) ts) (grown_observe t k) (grown_transfers (observe g k t) ts)

  -- to its end, over these transfers and later ones
  pub grown_finished : (ts us : List Transfer) → Grown (course g ts) (finished g (course g (ts ++ us)))
  grown_finished ts us =
      let all = course g (ts ++ us) in
      grown_through (course g ts) all (finished g all)
      (subst (Grown (course g ts)) (sym (fold-append (observe g) (start g) ts us)) (grown_transfers (course g ts) us))
      (grown_local_steps (g.steps - all.steps) all)
