-- The steps of a core and its transfers at its end are what its record says.
use Rattle.std.proofs.Common.{◌≡◌, ◌∙◌, ◌+◌, ◌-◌, ◌<◌, ◌≤◌, ◌==◌, ◌&&◌, ◌||◌, ◌++◌, ℕ, Bool, true, false, not, nat_lt, nat_le, List, [], ◌∷◌, length, filter, refl, ap, sym, subst, arith, inl, inr, if◌then◌else◌}
use Rattle.std.proofs.lemmas.Bool.{cases_Bool, lt-ltb, le-ltb, lt-leb, le-leb, eqb-true, eq-eqb, ne_eqb, or_left, and_parts, and_from, and_right}
use Rattle.std.proofs.lemmas.List.{append-nil, length_push}
use Rattle.std.proofs.lemmas.List.Elements.{filter-append}
use Rattle.std.proofs.lemmas.List.Sums.{length-filter}
use Rattle.std.specs.Int.{from_bool}
use Rattle.std.specs.List.{count_by, list_all, list_any}
use Rattle.std.specs.List.{AllByRecursion as Each}
use Rattle.core_laws.proofs.ListLemmas.{count_append, filter_all}
use Rattle.core_laws.proofs.Steps.{ascends_more, ascends_few, none_past}
use Rattle.core_laws.proofs.Stops.{register_at_no_turn, turn_by_no_register}
use Rattle.core_laws.specs.StepsSoFar.{HasStepsSoFar}
use Rattle.lf_model.proofs.EachLemmas.{each_append, each_weaker, filter_none, filter_same}
use Rattle.lf_model.specs.Course.Core.{is_register_stop, is_stop_at}
use Rattle.lf_model.specs.Ledger.Steps.{HasSteps, own_transfers, in_steps, past_steps, ascends_from, is_last_drain, is_of_last_step, retires_instruction, stops_in_last, retiring_steps, is_halt, last_retires}
use Rattle.lf_model.specs.Names.{same_kind, same_why}
use Rattle.lf_model.specs.Results.{idle_steps, is_in_steps}
use Rattle.lf_model.specs.declared.bus.Transfer.{Transfer}
use Rattle.lf_model.specs.declared.bus.TurnKind.TheVariants as kinds
use Rattle.lf_model.specs.declared.bus.Why.TheVariants as whys
use Rattle.lf_model.specs.declared.setup.Setup.{Setup}
use Rattle.lf_model.specs.declared.trace.CoreEnd.{CoreEnd}
use Rattle.lf_model.specs.declared.trace.CoreEnd.TheVariants.{Halt, Stop, Limit}
use Rattle.lf_model.specs.declared.trace.CoreResult.{CoreResult}

all_pass : {X : Type 0} (p : X → Bool) (xs : List X) → Each (λ x. p x ≡ true) xs → list_all p xs ≡ true
all_pass p [] h = refl
all_pass p (x ∷ xs) h = and_from (p x) (list_all p xs) h.0 (all_pass p xs h.1)

none_passes : {X : Type 0} (p : X → Bool) (xs : List X) → Each (λ x. p x ≡ false) xs → list_any p xs ≡ false
none_passes p [] h = refl
none_passes p (x ∷ xs) h = rw h.0 (none_passes p xs h.1)

-- transfers that are no stops retire as many instructions by any end
same_retiring : (end : CoreEnd) (ts : List Transfer) → Each (λ (t : Transfer). is_stop_at t.turn end ≡ false) ts → count_by (retires_instruction end) ts ≡ count_by (retires_instruction Limit) ts
same_retiring end ts no_stop =
    sym (length-filter (retires_instruction end) ts)
    ∙ (ap length (filter_same (retires_instruction end) (retires_instruction Limit) ts
    (each_weaker (λ (t : Transfer). is_stop_at t.turn end ≡ false) (λ (t : Transfer). retires_instruction end t ≡ retires_instruction Limit t) ts (λ t f. rw f refl) no_stop))
    ∙ length-filter (retires_instruction Limit) ts)

-- none of them is of the step after these
none_last : (steps : ℕ) (ts : List Transfer) → Each (λ (t : Transfer). t.step < steps) ts → Each (λ (t : Transfer). is_of_last_step (steps + 1) t ≡ false) ts
none_last steps ts below =
    each_weaker (λ (t : Transfer). t.step < steps) (λ (t : Transfer). is_of_last_step (steps + 1) t ≡ false) ts
    (λ t less. ne_eqb (t.step + 1) (steps + 1) (λ same. absurd (omega (arith, less, same)))) below

-- a drain after the last step
drain_step : (limit : ℕ) (t : Transfer) → is_last_drain limit t ≡ true → t.step ≡ limit
drain_step limit t drain = eqb-true t.step limit (and_parts (t.step == limit) _ (and_parts (t.step == limit && same_kind t.kind kinds.Store) (same_why t.why whys.End) drain).0).0

stop_no_halt : (end : CoreEnd) (turn : ℕ) → is_stop_at turn end ≡ true → is_halt end ≡ false
stop_no_halt (Stop tt_ place syn) turn e = refl
stop_no_halt (Halt tt_) turn e = absurd (cc)
stop_no_halt Limit turn e = refl

register_no_halt : (end : CoreEnd) → is_register_stop end ≡ true → is_halt end ≡ false
register_no_halt (Stop tt_ place syn) e = refl
register_no_halt (Halt tt_) e = absurd (cc)
register_no_halt Limit e = refl

retiring_by : (end : CoreEnd) (steps : ℕ) (within : List Transfer) (stopped : Bool) (counted : ℕ) → stops_in_last end steps within ≡ stopped
    → count_by (retires_instruction end) within ≡ counted → retiring_steps end steps within ≡ steps - length within - from_bool stopped + counted
retiring_by end steps within stopped counted e f = rw (e, f) refl

module _ (setup : Setup) (r : CoreResult) where
  abbrev limit : ℕ
  limit = setup.config.steps

  -- ---- two parts

  module _ (within past : List Transfer) (below : Each (λ (t : Transfer). t.step < r.steps) within) (above : Each (λ (t : Transfer). r.steps ≤ t.step) past) where
    first_part : in_steps r.steps (within ++ past) ≡ within
    first_part =
        filter-append (λ (t : Transfer). nat_lt t.step r.steps) within past
        ∙ (ap (λ us. us ++ filter (λ (t : Transfer). nat_lt t.step r.steps) past)
        (filter_all (λ (t : Transfer). nat_lt t.step r.steps) within
        (each_weaker (λ (t : Transfer). t.step < r.steps) (λ (t : Transfer). nat_lt t.step r.steps ≡ true) within (λ t less. lt-ltb t.step r.steps less) below))
        ∙ (ap (λ us. within ++ us)
        (filter_none (λ (t : Transfer). nat_lt t.step r.steps) past
        (each_weaker (λ (t : Transfer). r.steps ≤ t.step) (λ (t : Transfer). nat_lt t.step r.steps ≡ false) past (λ t le. le-ltb t.step r.steps le) above))
        ∙ append-nil within))

    second_part : past_steps r.steps (within ++ past) ≡ past
    second_part =
        filter-append (λ (t : Transfer). nat_le r.steps t.step) within past
        ∙ (ap (λ us. us ++ filter (λ (t : Transfer). nat_le r.steps t.step) past)
        (filter_none (λ (t : Transfer). nat_le r.steps t.step) within
        (each_weaker (λ (t : Transfer). t.step < r.steps) (λ (t : Transfer). nat_le r.steps t.step ≡ false) within (λ t less. lt-leb r.steps t.step less) below))
        ∙ filter_all (λ (t : Transfer). nat_le r.steps t.step) past
        (each_weaker (λ (t : Transfer). r.steps ≤ t.step) (λ (t : Transfer). nat_le r.steps t.step ≡ true) past (λ t le. le-leb r.steps t.step le) above))

  -- what a record says, by the two parts
  by_parts : (within past : List Transfer) → Each (λ (t : Transfer). t.step < r.steps) within → Each (λ t. is_last_drain limit t ≡ true) past → r.steps ≤ limit
      → ascends_from 0 within ≡ true → length past ≤ 8 → (length past == 0 || r.steps == limit) ≡ true → retiring_steps r.end r.steps within ≡ r.n
      → (not (is_halt r.end) || last_retires r.end r.steps within) ≡ true → HasSteps setup r (within ++ past)
  by_parts within past below drains allowed up few all_made retired halting =
      let above : Each (λ (t : Transfer). r.steps ≤ t.step) past = each_weaker (λ t. is_last_drain limit t ≡ true) (λ (t : Transfer). r.steps ≤ t.step) past
      (λ t drain. omega (arith, allowed, drain_step limit t drain)) drains in
      let first : within ≡ in_steps r.steps (within ++ past) = sym (first_part within past below above) in
      let second : past ≡ past_steps r.steps (within ++ past) = sym (second_part within past below above) in
      record {
        order = ap (λ us. us ++ past) first ∙ ap (λ us. in_steps r.steps (within ++ past) ++ us) second;
        ascending = subst (λ us. ascends_from 0 us ≡ true) first up;
        drains = subst (λ us. list_all (is_last_drain limit) us ≡ true) second (all_pass (is_last_drain limit) past drains);
        few = subst (λ (us : List Transfer). nat_le (length us) 8 ≡ true) second (le-leb (length past) 8 few);
        all_made = subst (λ (us : List Transfer). (length us == 0 || r.steps == limit) ≡ true) second all_made;
        retired = subst (λ us. retiring_steps r.end r.steps us ≡ r.n) first retired;
        halting = subst (λ us. (not (is_halt r.end) || last_retires r.end r.steps us) ≡ true) first halting;
      }

  -- ---- its ends

  -- the limit, with each waiting store drained, or a stop at one of these drains
  pub ends_past_steps : (waiting : ℕ) (within past : List Transfer) → HasStepsSoFar limit r.steps r.n waiting within past → is_register_stop r.end ≡ false
      → Each (λ (t : Transfer). is_stop_at t.turn r.end ≡ false) within → (not (is_halt r.end) || last_retires r.end r.steps within) ≡ true → HasSteps setup r (within ++ past)
  ends_past_steps waiting within past h no_cell no_stop halting =
      by_parts within past h.in_steps h.drains h.allowed h.ascending (omega (arith, h.few)) h.all_made
      (retiring_by r.end r.steps within false (count_by (retires_instruction Limit) within) (rw no_cell refl) (same_retiring r.end within no_stop)
      ∙ omega (arith, h.retired, ascends_few 0 r.steps within (omega arith) h.ascending h.in_steps))
      halting

  module _ (steps n waiting : ℕ) (within past : List Transfer) (h : HasStepsSoFar limit steps n waiting within past) (below : steps < limit) (made : r.steps ≡ steps + 1) where
    few_within : length within ≤ steps
    few_within = omega (arith, ascends_few 0 steps within (omega arith) h.ascending h.in_steps)

    in_result : Each (λ (t : Transfer). t.step < r.steps) within
    in_result = each_weaker (λ (t : Transfer). t.step < steps) (λ (t : Transfer). t.step < r.steps) within (λ t less. omega (arith, less, made)) h.in_steps

    none_after : (length past == 0 || r.steps == limit) ≡ true
    none_after = or_left (length past == 0) (r.steps == limit) (eq-eqb (length past) 0 (ap length (none_past limit steps n waiting within past h below)))

    few_past : length past ≤ 8
    few_past = omega (arith, h.few)

    -- the last step, without a turn, entered error mode by an ordinary trap
    pub ends_halted : (tt_ : ℕ) → r.end ≡ Halt tt_ → r.n ≡ n + 1 → HasSteps setup r (within ++ past)
    ends_halted tt_ end counted =
        by_parts within past in_result h.drains (omega (arith, made)) h.ascending few_past none_after
        (retiring_by r.end r.steps within false (count_by (retires_instruction Limit) within) (rw end refl) (rw end refl) ∙ omega (arith, h.retired, few_within, made, counted))
        (rw (end, made) (all_pass _ within (each_weaker (λ (t : Transfer). is_of_last_step (steps + 1) t ≡ false)
        (λ (t : Transfer). (not (is_of_last_step (steps + 1) t) || retires_instruction (Halt tt_) t) ≡ true) within (λ t not_last. rw not_last refl) (none_last steps within h.in_steps))))

    -- a register cell stopped the core in its last step, without a turn
    pub ends_at_register : is_register_stop r.end ≡ true → r.n ≡ n → HasSteps setup r (within ++ past)
    ends_at_register stop counted =
        by_parts within past in_result h.drains (omega (arith, made)) h.ascending few_past none_after
        (retiring_by r.end r.steps within true (count_by (retires_instruction Limit) within)
        (rw (stop, made) (ap not (none_passes (is_of_last_step (steps + 1)) within (none_last steps within h.in_steps))))
        (same_retiring r.end within (each_weaker (λ (t : Transfer). t.step < steps) (λ (t : Transfer). is_stop_at t.turn r.end ≡ false) within (λ t less. register_at_no_turn r.end t.turn stop) h.in_steps))
        ∙ omega (arith, h.retired, few_within, made, counted))
        (or_left (not (is_halt r.end)) (last_retires r.end r.steps within) (ap not (register_no_halt r.end stop)))

    -- the turn of its last step stopped it
    pub ends_at_turn : (t : Transfer) → t.step ≡ steps → is_stop_at t.turn r.end ≡ true → Each (λ (u : Transfer). is_stop_at u.turn r.end ≡ false) within → r.n ≡ n
        → HasSteps setup r ((within ++ t ∷ []) ++ past)
    ends_at_turn t step stop no_stop counted =
        by_parts (within ++ t ∷ []) past
        (each_append (λ (u : Transfer). u.step < r.steps) within (t ∷ []) in_result (omega (arith, step, made), tt))
        h.drains (omega (arith, made))
        (ascends_more 0 within t (omega arith) h.ascending (subst (λ s. Each (λ (u : Transfer). u.step < s) within) (sym step) h.in_steps))
        few_past none_after
        (retiring_by r.end r.steps (within ++ t ∷ []) false (count_by (retires_instruction Limit) within)
        (rw (turn_by_no_register r.end t.turn stop) refl)
        (count_append (retires_instruction r.end) within (t ∷ []) ∙ omega (arith, same_retiring r.end within no_stop, retires_nothing))
        ∙ omega (arith, h.retired, few_within, made, counted, length_push within t))
        (or_left (not (is_halt r.end)) (last_retires r.end r.steps (within ++ t ∷ [])) (ap not (stop_no_halt r.end t.turn stop)))
      where
        retires_nothing : count_by (retires_instruction r.end) (t ∷ []) ≡ 0
        retires_nothing = rw (stop, and_right (same_kind t.kind kinds.Atomic) false refl) refl

-- ---- the bound on steps

filter_filter : {X : Type 0} (p q : X → Bool) (xs : List X) → filter p (filter q xs) ≡ filter (λ x. q x && p x) xs
filter_filter p q [] = refl
filter_filter p q (x ∷ xs) = elim (cases_Bool (q x)) [
  | inl is_so ↦ rw is_so (ap (λ ys. if p x then x ∷ ys else ys) (filter_filter p q xs))
  | inr not_so ↦ rw not_so (filter_filter p q xs)
]

stop_if : (stop idle : Bool) → from_bool (stop && idle) ≤ (if stop then 1 else 0)
stop_if true true = omega arith
stop_if true false = omega arith
stop_if false idle = omega arith

stop_is_idle : (end : CoreEnd) (steps : ℕ) (within : List Transfer) → from_bool (stops_in_last end steps within) ≤ idle_steps end
stop_is_idle (Stop tt_ place syn) steps within = stop_if (tt_ == 0x20) (not (list_any (is_of_last_step steps) within))
stop_is_idle (Halt tt_) steps within = omega arith
stop_is_idle Limit steps within = omega arith

-- no more steps than instructions, transfers in steps, and the step of a stop by a register cell
pub steps_bound : (setup : Setup) (r : CoreResult) (c : ℕ) (ts : List Transfer) → HasSteps setup r (own_transfers c ts)
    → r.steps ≤ r.n + count_by (is_in_steps c r.steps) ts + idle_steps r.end
steps_bound setup r c ts h =
    let within : length (in_steps r.steps (own_transfers c ts)) ≡ count_by (is_in_steps c r.steps) ts =
    ap length (filter_filter (λ (t : Transfer). nat_lt t.step r.steps) (λ (t : Transfer). t.master == c) ts) ∙ length-filter (is_in_steps c r.steps) ts in
    omega (arith, h.retired, within, stop_is_idle r.end r.steps (in_steps r.steps (own_transfers c ts)))
