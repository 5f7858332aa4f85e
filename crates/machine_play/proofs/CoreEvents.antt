-- What an event makes of a core, as the schedule's definitions have it: where it makes a step, a turn or a drain, and where it is passed over.
use Rattle.leon_core.specs.Moves.{StoresIn}
use Rattle.std.proofs.Common.{◌≡◌, ◌∙◌, ◌+◌, ◌<◌, ◌≤◌, ℕ, zero, suc, Bool, true, false, cond, nat_lt, List, [], ◌∷◌, ◌++◌, None, length, drop, count_by, refl, ap, ap₂, sym, arith, append_assoc, inl, inr}
use Rattle.std.proofs.lemmas.Bool.{lt-ltb, ltb-true, ne_eqb, eq-eqb, cases_Bool}
use Rattle.std.proofs.lemmas.List.{drop_at}
use Rattle.std.specs.Int.{from_bool}
use Rattle.std.specs.List.{AllByRecursion as Each}
use Rattle.core_laws.proofs.ListLemmas.{count_append}
use Rattle.lf_model.proofs.EachLemmas.{each_append, each_weaker}
use Rattle.lf_model.specs.Promise.Turns.{CoreLeft, Moved, turn_by, has_ended, turns_in, waits, core_moved, drain_moved}
use Rattle.lf_model.specs.declared.bus.Transfer.{Transfer}
use Rattle.machine_play.specs.CoreMade.{CoreMade, is_drain, IsMade, GoesOnTo, left_of, StepsAlone, StepsWithTurn, DrainsLast}

-- ---- by the numbers

pub not_less : (a b : ℕ) → b ≤ a → nat_lt a b ≡ false
not_less a b le = elim (cases_Bool (nat_lt a b)) [
  | inl is ↦ absurd (omega (arith, le, ltb-true a b is))
  | inr is ↦ is
]

-- a core on its way, with these numbers
abbrev on_way : CoreLeft → ℕ → ℕ → List Transfer → CoreLeft
on_way all made drained ts = record all { made = made; drained = drained; transfers = ts }

module _ (n : ℕ) (all : CoreLeft) (made drained : ℕ) where
  abbrev after_turn : ℕ → Transfer → List Transfer → CoreLeft
  after_turn steps t ts = on_way all steps (drained + from_bool (is_drain t)) ts

  -- it has steps left
  module _ (less : made < all.steps) where
    alone : (ts : List Transfer) → turns_in made ts ≡ false → core_moved n (on_way all made drained ts) ≡ record { core = on_way all (made + 1) drained ts; turn = None }
    alone ts none = rw (lt-ltb made all.steps less, none) refl

    with_turn : (t : Transfer) (ts : List Transfer) → t.step ≡ made → core_moved n (on_way all made drained (t ∷ ts)) ≡ record { core = after_turn (made + 1) t ts; turn = turn_by n false }
    with_turn t ts now = rw (lt-ltb made all.steps less, eq-eqb t.step made now) refl

    drain_in_step : (t : Transfer) (ts : List Transfer) → t.step ≡ made → waits (on_way all made drained (t ∷ ts)) ≡ true
        → drain_moved n (on_way all made drained (t ∷ ts)) ≡ record { core = after_turn (made + 1) t ts; turn = turn_by n true }
    drain_in_step t ts now waiting = rw (waiting, lt-ltb made all.steps less, eq-eqb t.step made now) refl

  -- its steps are made
  module _ (over : all.steps ≤ made) where
    last : (t : Transfer) (ts : List Transfer) → core_moved n (on_way all made drained (t ∷ ts)) ≡ record { core = after_turn made t ts; turn = turn_by n false }
    last t ts = rw (not_less made all.steps over) refl

    drain_last : (t : Transfer) (ts : List Transfer) → waits (on_way all made drained (t ∷ ts)) ≡ true
        → drain_moved n (on_way all made drained (t ∷ ts)) ≡ record { core = after_turn made t ts; turn = turn_by n false }
    drain_last t ts waiting = rw (waiting, not_less made all.steps over) refl

    made_all : core_moved n (on_way all made drained []) ≡ record { core = on_way all made drained []; turn = None }
    made_all = rw (not_less made all.steps over) refl

    drain_ended : drain_moved n (on_way all made drained []) ≡ record { core = on_way all made drained []; turn = None }
    drain_ended = rw (not_less made all.steps over) refl

-- a drain without a store that waits is passed over
none_waits : (n : ℕ) (c : CoreLeft) → waits c ≡ false → drain_moved n c ≡ record { core = c; turn = None }
none_waits n c none = rw none (either (has_ended c) (record { core = c; turn = None }))
  where
    either : (b : Bool) (m : Moved) → cond b m m ≡ m
    either true m = refl
    either false m = refl

-- ---- what is left

module _ (all : CoreLeft) (c : CoreMade) where
  pub left_is : (later : List Transfer) → all.transfers ≡ c.transfers ++ later → left_of all c ≡ on_way all c.steps (count_by is_drain c.transfers) later
  left_is later is = ap (on_way all c.steps (count_by is_drain c.transfers)) (ap (drop (length c.transfers)) is ∙ drop_at c.transfers later (length c.transfers) refl)

-- before its first step all is left
pub left_at_start : (all : CoreLeft) (c : CoreMade) → all.made ≡ 0 → all.drained ≡ 0 → c.steps ≡ 0 → c.transfers ≡ [] → left_of all c ≡ all
left_at_start all c none none_drained steps transfers = rw (steps, transfers) (ap₂ (λ made drained. record all { made = made; drained = drained }) (sym none) (sym none_drained))

-- ---- a store waits

count_by_all : (p : ℕ → Bool) (xs : List ℕ) → Each (λ x. p x ≡ true) xs → count_by p xs ≡ length xs
count_by_all p [] h = refl
count_by_all p (x ∷ xs) h = let one : count_by p (x ∷ []) ≡ 1 = rw h.0 refl in omega (arith, one, count_by_all p xs h.1, count_append p (x ∷ []) xs)

count_by_none : (p : ℕ → Bool) (xs : List ℕ) → Each (λ x. p x ≡ false) xs → count_by p xs ≡ 0
count_by_none p [] h = refl
count_by_none p (x ∷ xs) h = let none : count_by p (x ∷ []) ≡ 0 = rw h.0 refl in omega (arith, none, count_by_none p xs h.1, count_append p (x ∷ []) xs)

-- the stores that retired so far are those of the steps so far
stores_before : (all : CoreLeft) (c : CoreMade) → IsMade c → GoesOnTo all c → count_by (λ step. nat_lt step c.steps) all.stores ≡ length c.stores
stores_before all c is g =
    let before : Each (λ step. nat_lt step c.steps ≡ true) c.stores = each_weaker (λ step. step < c.steps) (λ step. nat_lt step c.steps ≡ true) c.stores (λ step less. lt-ltb step c.steps less) is.before in
    let after : Each (λ step. nat_lt step c.steps ≡ false) g.later_stores = each_weaker (λ step. c.steps ≤ step) (λ step. nat_lt step c.steps ≡ false) g.later_stores (λ step le. not_less step c.steps le) g.stores_later in
    ap (count_by (λ step. nat_lt step c.steps)) g.stores
    ∙ omega (arith, count_append (λ step. nat_lt step c.steps) c.stores g.later_stores, count_by_all (λ step. nat_lt step c.steps) c.stores before, count_by_none (λ step. nat_lt step c.steps) g.later_stores after)

-- what the schedule's definitions count is what waits
pub waits_is : (all : CoreLeft) (c : CoreMade) → IsMade c → GoesOnTo all c → c.ended ≡ false → waits (left_of all c) ≡ nat_lt 0 c.waiting
waits_is all c is g unended = by (is.waits unended) (stores_before all c is g)
  where
    less_by : (drained waiting stores : ℕ) → drained + waiting ≡ stores → nat_lt drained stores ≡ nat_lt 0 waiting
    less_by drained zero stores e = not_less drained stores (omega (arith, e)) ∙ sym (not_less 0 zero (omega arith))
    less_by drained (suc waiting) stores e = lt-ltb drained stores (omega (arith, e)) ∙ sym (lt-ltb 0 (suc waiting) (omega arith))

    by : count_by is_drain c.transfers + c.waiting ≡ length c.stores → count_by (λ step. nat_lt step c.steps) all.stores ≡ length c.stores → waits (left_of all c) ≡ nat_lt 0 c.waiting
    by count stores = ap (nat_lt (count_by is_drain c.transfers)) stores ∙ less_by (count_by is_drain c.transfers) c.waiting (length c.stores) count

-- ---- one transfer more

drains_more : (ts : List Transfer) (t : Transfer) → count_by is_drain (ts ++ t ∷ []) ≡ count_by is_drain ts + from_bool (is_drain t)
drains_more ts t = omega (arith, count_append is_drain ts (t ∷ []), one (is_drain t))
  where
    one : (b : Bool) → cond b 1 0 + 0 ≡ from_bool b
    one true = refl
    one false = refl

-- ---- back from what it comes to

-- what goes on from a step goes on from before it
stores_back : (all : CoreLeft) (steps later_steps : ℕ) (old new : List ℕ) (later : List ℕ) → steps ≤ later_steps → (s : StoresIn steps old new)
    → all.stores ≡ new ++ later → (all.stores ≡ old ++ (s.now ++ later))
stores_back all steps later_steps old new later le s is = is ∙ (ap (λ (xs : List ℕ). xs ++ later) s.stores ∙ append_assoc old s.now later)

stores_later_back : (steps later_steps : ℕ) (now later : List ℕ) → steps ≤ later_steps → Each (λ s. s ≡ steps) now → Each (λ step. later_steps ≤ step) later → Each (λ step. steps ≤ step) (now ++ later)
stores_later_back steps later_steps now later le same after =
    each_append (λ step. steps ≤ step) now later (each_weaker (λ s. s ≡ steps) (λ step. steps ≤ step) now (λ s e. omega (arith, e)) same)
    (each_weaker (λ step. later_steps ≤ step) (λ step. steps ≤ step) later (λ s l. omega (arith, le, l)) after)

transfers_back : (all : CoreLeft) (old new later : List Transfer) (t : Transfer) → new ≡ old ++ t ∷ [] → all.transfers ≡ new ++ later → all.transfers ≡ old ++ (t ∷ later)
transfers_back all old new later t made is = is ∙ (ap (λ (xs : List Transfer). xs ++ later) made ∙ append_assoc old (t ∷ []) later)

steps_after : (steps later_steps : ℕ) (later : List Transfer) → steps ≤ later_steps → Each (λ (t : Transfer). later_steps ≤ t.step) later → Each (λ (t : Transfer). steps ≤ t.step) later
steps_after steps later_steps later le after = each_weaker (λ (t : Transfer). later_steps ≤ t.step) (λ (t : Transfer). steps ≤ t.step) later (λ t l. omega (arith, le, l)) after

-- it runs, so it has not ended
not_both : (c : CoreMade) → IsMade c → c.runs ≡ true → c.ended ≡ true → ⊥
not_both c is runs ended = let none = is.at_end ended in absurd (cc)

module _ (n : ℕ) (all : CoreLeft) (c d : CoreMade) (is : IsMade c) (g : GoesOnTo all d) where
  -- ---- a step without a turn

  module _ (s : StepsAlone c d) where
    pub alone_back : GoesOnTo all c
    alone_back = record {
      none_made = g.none_made;
      none_drained = g.none_drained;
      steps = omega (arith, g.steps, s.steps);
      later_stores = s.stores.now ++ g.later_stores;
      stores = stores_back all c.steps d.steps c.stores d.stores g.later_stores (omega (arith, s.steps)) s.stores g.stores;
      stores_later = stores_later_back c.steps d.steps s.stores.now g.later_stores (omega (arith, s.steps)) s.stores.in_step g.stores_later;
      later = g.later;
      transfers = g.transfers ∙ ap (λ (ts : List Transfer). ts ++ g.later) s.transfers;
      transfers_later = steps_after c.steps d.steps g.later (omega (arith, s.steps)) g.transfers_later;
      all_made = λ none. absurd (cc);
      none_left = λ ended. absurd (not_both c is s.runs ended);
    }

    none_now : (later : List Transfer) → Each (λ (t : Transfer). d.steps ≤ t.step) later → turns_in c.steps later ≡ false
    none_now [] h = refl
    none_now (t ∷ ts) h = ne_eqb t.step c.steps (λ same. omega (arith, same, h.0, s.steps))

    pub alone_moved : core_moved n (left_of all c) ≡ record { core = left_of all d; turn = None }
    unfolding alone_back
    alone_moved =
        ap (core_moved n) (left_is all c g.later alone_back.transfers)
        ∙ (alone n all c.steps (count_by is_drain c.transfers) (omega (arith, g.steps, s.steps)) g.later (none_now g.later g.transfers_later)
        ∙ ap (λ (core : CoreLeft). record { core = core; turn = None }) (same ∙ sym (left_is all d g.later g.transfers)))
      where
        same : on_way all (c.steps + 1) (count_by is_drain c.transfers) g.later ≡ on_way all d.steps (count_by is_drain d.transfers) g.later
        same = rw (s.steps, s.transfers) refl

  -- ---- a step with a turn

  module _ (t : Transfer) (s : StepsWithTurn t c d) where
    pub turn_back : GoesOnTo all c
    turn_back = record {
      none_made = g.none_made;
      none_drained = g.none_drained;
      steps = omega (arith, g.steps, s.steps);
      later_stores = s.stores.now ++ g.later_stores;
      stores = stores_back all c.steps d.steps c.stores d.stores g.later_stores (omega (arith, s.steps)) s.stores g.stores;
      stores_later = stores_later_back c.steps d.steps s.stores.now g.later_stores (omega (arith, s.steps)) s.stores.in_step g.stores_later;
      later = t ∷ g.later;
      transfers = transfers_back all c.transfers d.transfers g.later t s.transfers g.transfers;
      transfers_later = (omega (arith, s.in_step), steps_after c.steps d.steps g.later (omega (arith, s.steps)) g.transfers_later);
      all_made = λ none. absurd (cc);
      none_left = λ ended. absurd (not_both c is s.runs ended);
    }

    left_then : on_way all (c.steps + 1) (count_by is_drain c.transfers + from_bool (is_drain t)) g.later ≡ left_of all d
    left_then =
        ap (λ (k : ℕ). on_way all (c.steps + 1) k g.later) (sym (drains_more c.transfers t))
        ∙ (ap (λ (k : ℕ). on_way all k (count_by is_drain (c.transfers ++ t ∷ [])) g.later) (sym s.steps)
        ∙ (ap (λ (ts : List Transfer). on_way all d.steps (count_by is_drain ts) g.later) (sym s.transfers)
        ∙ sym (left_is all d g.later g.transfers)))

    pub turn_moved : core_moved n (left_of all c) ≡ record { core = left_of all d; turn = turn_by n false }
    unfolding turn_back
    turn_moved =
        ap (core_moved n) (left_is all c (t ∷ g.later) turn_back.transfers)
        ∙ (with_turn n all c.steps (count_by is_drain c.transfers) (omega (arith, g.steps, s.steps)) t g.later s.in_step
        ∙ ap (λ (core : CoreLeft). record { core = core; turn = turn_by n false }) left_then)

    -- the schedule asks for a drain in the step
    pub drain_moved_in_step : 0 < c.waiting → drain_moved n (left_of all c) ≡ record { core = left_of all d; turn = turn_by n true }
    unfolding turn_back
    drain_moved_in_step some =
        ap (drain_moved n) left_so
        ∙ (drain_in_step n all c.steps (count_by is_drain c.transfers) (omega (arith, g.steps, s.steps)) t g.later s.in_step
        (ap waits (sym left_so) ∙ (waits_is all c is turn_back (unended c.ended refl) ∙ lt-ltb 0 c.waiting some))
        ∙ ap (λ (core : CoreLeft). record { core = core; turn = turn_by n true }) left_then)
      where
        left_so : left_of all c ≡ on_way all c.steps (count_by is_drain c.transfers) (t ∷ g.later)
        left_so = left_is all c (t ∷ g.later) turn_back.transfers

        unended : (b : Bool) → c.ended ≡ b → c.ended ≡ false
        unended true so = absurd (not_both c is s.runs so)
        unended false so = so

  -- ---- a drain after the last step

  module _ (t : Transfer) (s : DrainsLast t c d) where
    same_steps : all.steps ≡ c.steps
    same_steps = g.all_made s.still_none ∙ s.steps

    pub drain_back : GoesOnTo all c
    drain_back = record {
      none_made = g.none_made;
      none_drained = g.none_drained;
      steps = omega (arith, g.steps, s.steps);
      later_stores = g.later_stores;
      stores = g.stores ∙ ap (λ (xs : List ℕ). xs ++ g.later_stores) s.stores;
      stores_later = each_weaker (λ step. d.steps ≤ step) (λ step. c.steps ≤ step) g.later_stores (λ x l. omega (arith, l, s.steps)) g.stores_later;
      later = t ∷ g.later;
      transfers = transfers_back all c.transfers d.transfers g.later t s.transfers g.transfers;
      transfers_later = (s.after, steps_after c.steps d.steps g.later (omega (arith, s.steps)) g.transfers_later);
      all_made = λ none. same_steps;
      none_left = λ ended. absurd (cc);
    }

    drained_then : on_way all c.steps (count_by is_drain c.transfers + from_bool (is_drain t)) g.later ≡ left_of all d
    drained_then =
        ap (λ (k : ℕ). on_way all c.steps k g.later) (sym (drains_more c.transfers t))
        ∙ (ap (λ (k : ℕ). on_way all k (count_by is_drain (c.transfers ++ t ∷ [])) g.later) (sym s.steps)
        ∙ (ap (λ (ts : List Transfer). on_way all d.steps (count_by is_drain ts) g.later) (sym s.transfers)
        ∙ sym (left_is all d g.later g.transfers)))

    pub last_moved : core_moved n (left_of all c) ≡ record { core = left_of all d; turn = turn_by n false }
    unfolding drain_back
    last_moved =
        ap (core_moved n) (left_is all c (t ∷ g.later) drain_back.transfers)
        ∙ (last n all c.steps (count_by is_drain c.transfers) (omega (arith, same_steps)) t g.later
        ∙ ap (λ (core : CoreLeft). record { core = core; turn = turn_by n false }) drained_then)

    pub drain_moved_last : 0 < c.waiting → drain_moved n (left_of all c) ≡ record { core = left_of all d; turn = turn_by n false }
    unfolding drain_back
    drain_moved_last some =
        ap (drain_moved n) left_so
        ∙ (drain_last n all c.steps (count_by is_drain c.transfers) (omega (arith, same_steps)) t g.later
        (ap waits (sym left_so) ∙ (waits_is all c is drain_back s.unended ∙ lt-ltb 0 c.waiting some))
        ∙ ap (λ (core : CoreLeft). record { core = core; turn = turn_by n false }) drained_then)
      where
        left_so : left_of all c ≡ on_way all c.steps (count_by is_drain c.transfers) (t ∷ g.later)
        left_so = left_is all c (t ∷ g.later) drain_back.transfers

-- ---- an event that is passed over

module _ (n : ℕ) (all : CoreLeft) (c : CoreMade) (is : IsMade c) (g : GoesOnTo all c) where
  ended_left : c.ended ≡ true → left_of all c ≡ on_way all c.steps (count_by is_drain c.transfers) []
  ended_left ended = left_is all c [] (g.transfers ∙ ap (λ (ts : List Transfer). c.transfers ++ ts) (g.none_left ended))

  over : c.ended ≡ true → all.steps ≤ c.steps
  over ended = omega (arith, g.all_made (is.at_end ended))

  pub ended_passed : c.ended ≡ true → core_moved n (left_of all c) ≡ record { core = left_of all c; turn = None }
  ended_passed ended =
      ap (core_moved n) (ended_left ended)
      ∙ (made_all n all c.steps (count_by is_drain c.transfers) (over ended)
      ∙ ap (λ (core : CoreLeft). record { core = core; turn = None }) (sym (ended_left ended)))

  pub ended_drain_passed : c.ended ≡ true → drain_moved n (left_of all c) ≡ record { core = left_of all c; turn = None }
  ended_drain_passed ended =
      ap (drain_moved n) (ended_left ended)
      ∙ (drain_ended n all c.steps (count_by is_drain c.transfers) (over ended)
      ∙ ap (λ (core : CoreLeft). record { core = core; turn = None }) (sym (ended_left ended)))

  pub drain_passed : c.waiting ≡ 0 → drain_moved n (left_of all c) ≡ record { core = left_of all c; turn = None }
  drain_passed none = by c.ended refl
    where
      by : (b : Bool) → c.ended ≡ b → drain_moved n (left_of all c) ≡ record { core = left_of all c; turn = None }
      by true so = ended_drain_passed so
      by false so = none_waits n (left_of all c) (waits_is all c is g so ∙ not_less 0 c.waiting (omega (arith, none)))
