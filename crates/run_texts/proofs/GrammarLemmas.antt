-- A text that is read line by line.
use Rattle.std.proofs.Common.{ℕ, ◌≡◌, ◌+◌, ◌<◌, ◌≤◌, List, [], ◌∷◌, ◌++◌, length, take, drop, map, get_or, Option, Some, None, count_by, Ok, Err, refl, sym, ap, ap₂, subst, ◌∙◌, inl, inr, arith, length-append, below_more}
use Rattle.std.specs.List.{filter_map, cons_option}
use Rattle.std.specs.Str.Lines.{lines}
use Rattle.std.proofs.lemmas.Bool.{cases_lt}
use Rattle.std.proofs.lemmas.List.Elements.{filter_map-append}
use Rattle.std.proofs.lemmas.List.Sums.{count_by_more_yes, count_by_more_no}
use Rattle.std.proofs.lemmas.List.{take_more, take_all, append-nil, length-drop, get_or_past, get_or_append_left, get_or_push}
use Rattle.run_texts.specs.declared.error.TextWhy.{TextWhy}
use Rattle.run_texts.specs.Text.{fields, rows, is_statement}
use Rattle.run_texts.specs.Grammar.{Grammar, all_spelled, fault_at, IsReadAs, IsFirstFault, IsLineAnswer}
use Rattle.run_texts.proofs.LineLemmas.{length-lines}
use Rattle.run_texts.proofs.RowLemmas.{at_drop}

-- each of these fits behind those before it
abbrev pub AllFit : {X : Type 0} → (ℕ → X → Type 0) → List X → Type 0
AllFit {X} Fits items = (i : ℕ) (d : X) → i < length items → Fits i (get_or items i d)

-- lines of a grammar, which spell what fits behind so many others
module _ {X : Type 0} (grammar : Grammar X) (Fits : ℕ → X → Type 0) (text : List ℕ) where
  fit_more : (items : List X) (item : X) → AllFit Fits items → Fits (length items) item → AllFit Fits (items ++ item ∷ [])
  fit_more items item fit fits i d within =
      below_more (λ k. Fits k (get_or (items ++ item ∷ []) k d)) (length items)
      (λ k before. subst (Fits k) (sym (get_or_append_left items (item ∷ []) d k before)) (fit k d before))
      (subst (Fits (length items)) (sym (get_or_push items item d (length items) refl)) fits)
      i (omega (arith, within, length-append items (item ∷ [])))

  -- so many lines of the text are read, as these items, and these lines are left; none of those read is faulty
  pub record IsReadTo (number : ℕ) (items : List X) (left : List (List ℕ)) : Type 0 where
    pub behind : map fields left ≡ drop number (rows text)
    pub faultless : (place : ℕ) → place < number → fault_at grammar text place ≡ None
    pub spelled : items ≡ all_spelled grammar (take number (rows text))
    pub each : length items ≡ count_by is_statement (take number (rows text))
    pub fit : AllFit Fits items
    pub short : number + length left ≤ length text

  pub start : IsReadTo 0 [] (lines text)
  unfolding rows
  start = record {
    behind = refl;
    faultless = λ place none. absurd (omega arith);
    spelled = refl;
    each = refl;
    fit = λ i d none. absurd (omega arith);
    short = omega (arith, length-lines text);
  }

  -- one more line is left, behind so many lines that were read as these items
  module _ (line : List ℕ) (number : ℕ) (items : List X) (left : List (List ℕ)) (so_far : IsReadTo number items (line ∷ left)) where
    -- the fault of the line that is read next
    fault_next : fault_at grammar text number ≡ grammar.fault (length items) (fields line)
    unfolding fault_at
    fault_next =
        let next = at_drop (rows text) number (fields line) (map fields left) [] so_far.behind in
        ap₂ grammar.fault (ap length (sym so_far.spelled)) next.here

    -- nor is the line that is read next, where it has no fault behind these items
    faultless_more : grammar.fault (length items) (fields line) ≡ None → (place : ℕ) → place < number + 1 → fault_at grammar text place ≡ None
    faultless_more none = below_more (λ place. fault_at grammar text place ≡ None) number so_far.faultless (fault_next ∙ none)

    -- one more line spells what it spells
    spelled_more : (item : Option X) → item ≡ grammar.spelled (fields line)
        → items ++ cons_option item [] ≡ all_spelled grammar (take (number + 1) (rows text))
    spelled_more item is =
        let next = at_drop (rows text) number (fields line) (map fields left) [] so_far.behind in
        ap₂ (λ (all : List X) (one : Option X). all ++ cons_option one []) so_far.spelled is
        ∙ sym (
        ap (all_spelled grammar) (take_more (rows text) number [] next.within)
        ∙ filter_map-append grammar.spelled (take number (rows text)) (get_or (rows text) number [] ∷ [])
        ∙ ap (λ (r : List (List ℕ)). all_spelled grammar (take number (rows text)) ++ filter_map grammar.spelled (r ∷ [])) next.here)

    -- an empty line or a comment is read
    pub passed : IsLineAnswer grammar Fits (length items) (fields line) (Ok None) → IsReadTo (number + 1) items left
    passed answer =
        let next = at_drop (rows text) number (fields line) (map fields left) [] so_far.behind in
        record {
          behind = next.behind;
          faultless = faultless_more answer.0;
          spelled = sym (append-nil items) ∙ spelled_more None answer.1;
          each = so_far.each ∙ sym (count_by_more_no is_statement (rows text) number [] next.within (ap is_statement next.here ∙ sym answer.2));
          fit = so_far.fit;
          short = omega (arith, so_far.short);
        }

    -- a line that spells something is read
    pub more : (item : X) → IsLineAnswer grammar Fits (length items) (fields line) (Ok (Some item)) → IsReadTo (number + 1) (items ++ item ∷ []) left
    more item answer =
        let next = at_drop (rows text) number (fields line) (map fields left) [] so_far.behind in
        record {
          behind = next.behind;
          faultless = faultless_more answer.0;
          spelled = spelled_more (Some item) answer.1;
          each =
              length-append items (item ∷ []) ∙ ap (λ n. n + 1) so_far.each
              ∙ sym (count_by_more_yes is_statement (rows text) number [] next.within (ap is_statement next.here ∙ sym answer.2));
          fit = fit_more items item so_far.fit answer.3;
          short = omega (arith, so_far.short);
        }

    -- a faulty line is the first one
    pub faulty : (why : TextWhy) → IsLineAnswer grammar Fits (length items) (fields line) (Err why) → IsFirstFault grammar text (number + 1) why
    faulty why answer = record {
      place = number;
      number = refl;
      fault = fault_next ∙ answer;
      first = so_far.faultless;
    }

  -- where no line is left, all lines are read, and the text is read as these items
  pub whole : (number : ℕ) (items : List X) → IsReadTo number items [] → IsReadAs grammar text items
  whole number items so_far =
      let all : length (rows text) ≤ number = omega (arith, ap length so_far.behind, length-drop number (rows text)) in
      record {
        faultless = λ place within. so_far.faultless place (omega arith);
        spelled = so_far.spelled ∙ ap (all_spelled grammar) (take_all number (rows text) all);
      }

  -- and so many lines of it say something
  pub each_spells : (number : ℕ) (items : List X) → IsReadTo number items [] → length items ≡ count_by is_statement (rows text)
  each_spells number items so_far =
      let all : length (rows text) ≤ number = omega (arith, ap length so_far.behind, length-drop number (rows text)) in
      so_far.each ∙ ap (count_by is_statement) (take_all number (rows text) all)

-- a text that is read has no faulty line, where a line without fields has no fault
module _ {X : Type 0} (grammar : Grammar X) (blank : (earlier : ℕ) → grammar.fault earlier [] ≡ None) (text : List ℕ) where
  -- past the last line no fault is told
  pub fault_past : (place : ℕ) → length (rows text) ≤ place → fault_at grammar text place ≡ None
  unfolding fault_at
  fault_past place past =
      ap (grammar.fault (length (all_spelled grammar (take place (rows text))))) (get_or_past (rows text) place [] past) ∙ blank _

  pub no_fault_in_read : (items : List X) (line : ℕ) (why : TextWhy) → IsReadAs grammar text items → IsFirstFault grammar text line why → ⊥
  no_fault_in_read items line why read fault =
      let some : fault_at grammar text fault.place ≡ Some why = fault.fault in
      elim (cases_lt fault.place (length (rows text))) [
        | inl within ↦ let none = read.faultless fault.place within in cc
        | inr past ↦ let none = fault_past fault.place past in cc
      ]
