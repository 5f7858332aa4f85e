-- The words that the stops of all cores name at a turn are those that the core of that turn's transfer names.
use Rattle.std.proofs.Common.{◌≡◌, ◌∙◌, ◌+◌, ◌*◌, ◌==◌, ◌&&◌, ◌||◌, ℕ, zero, suc, Bool, true, false, List, [], ◌∷◌, slice_get, Option, Some, None, IfSome, refl, ap, sym, inl, inr, arith, add-one, if◌then◌else◌}
use Rattle.std.proofs.lemmas.Bool.{cases_Bool, cases_eq, eq-eqb, ne_eqb, eqb-true, eqb-false}
use Rattle.std.proofs.lemmas.List.Folds.{list_any-append}
use Rattle.std.specs.Option.{option_map, option_map_or, option_to_list}
use Rattle.lf_model.specs.Bus.Replay.{name_of}
use Rattle.lf_model.specs.Bus.Words.{word_of}
use Rattle.lf_model.specs.Course.Core.{Ground, is_stop_at}
use Rattle.lf_model.specs.Course.Progress.{Progress}
use Rattle.lf_model.specs.Course.Turned.{bad_wanted}
use Rattle.lf_model.specs.Records.AllRecords.{words_named_by_all}
use Rattle.lf_model.specs.Records.BusMemory.{names_word}
use Rattle.lf_model.specs.Records.OwnTurns.{before_turn, next_effect, place_of_end, named_by, named_at, words_named_by, words_named}
use Rattle.lf_model.specs.declared.bus.Transfer.{Transfer}
use Rattle.lf_model.specs.declared.record.CoreRecord.{CoreRecord}
use Rattle.lf_model.specs.declared.trace.CoreEnd.{CoreEnd}
use Rattle.lf_model.specs.declared.trace.CoreEnd.TheVariants.{Halt, Stop, Limit}
use Rattle.lf_model.specs.declared.trace.Word2.{Word2}
use Rattle.lf_model.proofs.RecordsCompose.{is_name}

and_none : (b : Bool) → (b && false) ≡ false
and_none true = refl
and_none false = refl

or_none : (b : Bool) → (b || false) ≡ b
or_none true = refl
or_none false = refl

pub same_both_ways : (a b : ℕ) → (a == b) ≡ (b == a)
same_both_ways a b = elim (cases_Bool (b == a)) [
  | inl same ↦ rw same (eq-eqb a b (sym (eqb-true b a same)))
  | inr other ↦ rw other (ne_eqb a b (λ same. eqb-false b a other (sym same)))
]

-- ---- the words named by all

module _ (turn addr : ℕ) where
  abbrev Names : List Word2 → Bool
  Names named = names_word named turn addr

  none_names : (records : List CoreRecord) → ((c : ℕ) → IfSome (slice_get records c) (λ kept. Names kept.named ≡ false)) → Names (words_named_by_all records) ≡ false
  none_names [] h = refl
  none_names (kept ∷ records) h = list_any-append _ kept.named (words_named_by_all records) ∙ rw (h 0, none_names records (λ c. h (suc c))) refl

  named_of : Option CoreRecord → List Word2
  named_of found = option_map_or (λ (kept : CoreRecord). kept.named) found []

  -- all but core m name none
  pub one_names : (records : List CoreRecord) (m : ℕ) → ((c : ℕ) → (c ≡ m → ⊥) → IfSome (slice_get records c) (λ kept. Names kept.named ≡ false))
      → Names (words_named_by_all records) ≡ Names (option_map_or (λ (kept : CoreRecord). kept.named) (slice_get records m) [])
  one_names [] m h = refl
  one_names (kept ∷ records) zero h =
      list_any-append _ kept.named (words_named_by_all records)
      ∙ rw (none_names records (λ c. h (suc c) (λ e. absurd (omega (arith, e, add-one c))))) (or_none (Names kept.named))
  one_names (kept ∷ records) (suc m) h =
      list_any-append _ kept.named (words_named_by_all records)
      ∙ rw (h 0 (λ e. absurd (omega (arith, e, add-one m)))) (one_names records m (λ c other. h (suc c) (λ e. other (omega (arith, e, add-one c, add-one m)))))

-- ---- the word named by one core

module _ (transfers : List Transfer) (turns : (i : ℕ) (t : Transfer) → slice_get transfers i ≡ Some t → t.turn ≡ i) (g : Ground) (turn addr : ℕ) where
  name_elsewhere : (t : Transfer) (bad : Option ℕ) → (t.turn ≡ turn → ⊥)
      → names_word (option_to_list (option_map (λ j. record { addr = word_of t.addr + 4 * j; value = Some t.turn }) bad)) turn addr ≡ false
  name_elsewhere t None other = refl
  name_elsewhere t (Some j) other = rw (ne_eqb t.turn turn other, and_none (word_of t.addr + 4 * j == addr)) refl

  at_elsewhere : (stops : Bool) (t : Transfer) (k : Progress) → (t.turn ≡ turn → ⊥) → names_word (if stops then named_by g t k else []) turn addr ≡ false
  at_elsewhere true t k other = name_elsewhere t (bad_wanted k.run.state.ctl.pc (next_effect g k) t) other
  at_elsewhere false t k other = refl

  place_elsewhere : (place : ℕ) (found : Option Transfer) → slice_get transfers place ≡ found → (place ≡ turn → ⊥) → names_word (named_at g transfers place found) turn addr ≡ false
  place_elsewhere place None e other = refl
  place_elsewhere place (Some t) e other = at_elsewhere (is_stop_at place g.end && g.core == t.master) t (before_turn g transfers place t) (λ same. other (sym (turns place t e) ∙ same))

  -- the end isn't at this turn
  not_here : (tt_ place syn : ℕ) → (place ≡ turn → ⊥) → is_stop_at turn (Stop tt_ place syn) ≡ false
  not_here tt_ place syn other = rw (ne_eqb place turn other) refl

  here_or_none : (end : CoreEnd) → g.end ≡ end → names_word (words_named_by g transfers (place_of_end end)) turn addr
      ≡ (is_stop_at turn end && names_word (named_at g transfers turn (slice_get transfers turn)) turn addr)
  here_or_none (Halt tt_) e = refl
  here_or_none Limit e = refl
  here_or_none (Stop tt_ place syn) e = elim (cases_eq place turn) [
    | inl same ↦ rw same (stops_here (is_stop_at turn (Stop tt_ turn syn)) (slice_get transfers turn) (ap (is_stop_at turn) (e ∙ ap (λ p. Stop tt_ p syn) same)))
    | inr other ↦ rw (not_here tt_ place syn other) (place_elsewhere place (slice_get transfers place) refl other)
  ]
    where
      stops_here : (stops : Bool) (found : Option Transfer) → is_stop_at turn g.end ≡ stops
          → names_word (named_at g transfers turn found) turn addr ≡ (stops && names_word (named_at g transfers turn found) turn addr)
      stops_here true found e = refl
      stops_here false None e = refl
      stops_here false (Some t) e = rw e refl

  names_by_stop : (t : Transfer) → slice_get transfers turn ≡ Some t → names_word (words_named g transfers) turn addr
      ≡ (is_stop_at turn g.end && names_word (if g.core == t.master then named_by g t (before_turn g transfers turn t) else []) turn addr)
  names_by_stop t found = here_or_none g.end refl ∙ rw found (again (is_stop_at turn g.end) (g.core == t.master) (before_turn g transfers turn t))
    where
      again : (stops own : Bool) (k : Progress) → (stops && names_word (if stops && own then named_by g t k else []) turn addr) ≡ (stops && names_word (if own then named_by g t k else []) turn addr)
      again true own k = refl
      again false own k = refl

  -- of another's transfer
  pub others_unnamed : (t : Transfer) → slice_get transfers turn ≡ Some t → (g.core == t.master) ≡ false → names_word (words_named g transfers) turn addr ≡ false
  others_unnamed t found other = names_by_stop t found ∙ rw other (and_none (is_stop_at turn g.end))

  -- of its own
  pub own_named : (t : Transfer) → slice_get transfers turn ≡ Some t → (g.core == t.master) ≡ true
      → names_word (words_named g transfers) turn addr
      ≡ is_name (name_of g t (bad_wanted (before_turn g transfers turn t).run.state.ctl.pc (next_effect g (before_turn g transfers turn t)) t)) addr
  own_named t found own =
      names_by_stop t found
      ∙ rw own (named (is_stop_at turn g.end) (bad_wanted (before_turn g transfers turn t).run.state.ctl.pc (next_effect g (before_turn g transfers turn t)) t)
      (ap (λ n. is_stop_at n g.end) (turns turn t found)))
    where
      named : (stops : Bool) (bad : Option ℕ) → is_stop_at t.turn g.end ≡ stops
          → (stops && names_word (option_to_list (option_map (λ j. record { addr = word_of t.addr + 4 * j; value = Some t.turn }) bad)) turn addr)
          ≡ is_name (name_of g t bad) addr
      named true None e = rw e refl
      named true (Some j) e = rw (e, eq-eqb t.turn turn (turns turn t found)) (last (word_of t.addr + 4 * j == addr) ∙ same_both_ways (word_of t.addr + 4 * j) addr)
        where
          last : (b : Bool) → ((b && true) || false) ≡ b
          last true = refl
          last false = refl
      named false bad e = rw e refl
