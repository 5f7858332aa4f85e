-- What became of each flip of the script, as the array has it, is what the definitions say.
use Rattle.std.proofs.Common.{◌≡◌, ℕ, zero, suc, ◌+◌, ◌*◌, ◌<◌, ◌≤◌, ◌%◌, Bool, true, false, List, [], ◌∷◌, ◌++◌, length, map, take, get_or, Some, IsTrue, refl, sym, ap, ap₂, ◌∙◌, subst, inl, inr, arith}
use Rattle.std.specs.Prelude.{slice_get, slice_set}
use Rattle.std.specs.List.{AllByRecursion, range_with_len, zip}
use Rattle.std.proofs.lemmas.Bool.{cases_Bool}
use Rattle.std.proofs.lemmas.Bool.Decides.{nat_tests}
use Rattle.std.proofs.lemmas.List.{take_all, take_more, take_more_set}
use Rattle.coded_words.specs.Words.{Words, IsToCome}
use Rattle.flip_ledger.proofs.FateRule.{fate_when}
use Rattle.flip_ledger.specs.Follows.{has_struck}
use Rattle.lf_model.specs.Bus.Words.{Word, word_history}
use Rattle.lf_model.specs.Caches.Slot.{history_at}
use Rattle.lf_model.specs.Fates.{happened, is_applied, is_found, is_repaired, is_named, is_overwritten, fate_of}
use Rattle.lf_model.specs.Flips.{Moment, word_budget}
use Rattle.lf_model.specs.Ledger.FlipFate.{unit_history, budget_of, flip_fates}
use Rattle.lf_model.specs.Records.BusMemory.{memory_after}
use Rattle.lf_model.specs.Records.BusRecord.{no_arrays}
use Rattle.lf_model.specs.Start.{ram_first, is_in_ram}
use Rattle.lf_model.specs.declared.bus.Transfer.{Transfer}
use Rattle.lf_model.specs.declared.flip.Flip.{Flip}
use Rattle.lf_model.specs.declared.flip.Flip.TheVariants.{Mem, Reg, Tag, Line}
use Rattle.lf_model.specs.declared.trace.Fate.{Fate}
use Rattle.lf_model.specs.declared.trace.Fate.TheVariants.{Late}
use Rattle.lf_model.specs.declared.trace.Word2.{Word2}
use Rattle.bus_memory.specs.Followed.{IsWordAt}
use Rattle.bus_memory.specs.Named.{IsNamed}
use Rattle.bus_memory.specs.Strikes.{AimsAt, IsCovered, CameBefore}
use Rattle.bus_memory.proofs.BeginLemmas.{covered_map}
use Rattle.bus_memory.proofs.KeptLemmas.{covered_start}
use Rattle.bus_memory.proofs.NamedWord.{addr_run}
use Rattle.bus_memory.proofs.ReadLemmas.{word_found}
use Rattle.bus_memory.proofs.WordRun.{run_one, words_run}
use Rattle.lf_model.specs.Bus.Words.{words_struck}
use Rattle.ram_words.specs.Ram.{place_of}

-- ---- a flip that struck no unit is late

late_where_none : (budget i : ℕ) (h : List Moment) → has_struck i h ≡ false → Late ≡ fate_of budget i h
late_where_none budget i h none =
    sym
    (ap (λ (struck : Bool). fate_when struck (happened (is_applied budget i) h) (happened (is_found budget i) h) (happened (is_repaired budget i) h) (happened (is_named budget i) h) (happened (is_overwritten budget i) h))
    none)

-- ---- one flip

-- a word of the array is one of RAM
in_ram : (count addr : ℕ) → IsWordAt count addr → IsTrue (is_in_ram (4 * count) addr 4)
in_ram count addr at =
    let above : ram_first ≤ addr = at.above in
    let below : addr + 4 ≤ ram_first + 4 * count = omega (arith, at.aligned, at.above, at.within) in
    grind (arith, nat_tests)

-- the words have that of each flip of memory, whatever traps name
covered_named : (script : List Flip) (named : List Word2) (ts : List Transfer) → AllByRecursion (IsCovered (memory_after script named ts).words) script
covered_named script named ts =
    rw (words_run script named ts) (covered_map (run_one script named 0 ts) (addr_run script named 0 ts) (words_struck script) script (covered_start script []))

each_at : {X : Type 0} (P : X → Type 0) (xs : List X) (i : ℕ) (x : X) → slice_get xs i ≡ Some x → AllByRecursion P xs → P x
each_at P [] i x is all = cc
each_at P (y ∷ xs) zero x is all = let e : y ≡ x = cc in subst P e all.0
each_at P (y ∷ xs) (suc i) x is all = each_at P xs i x is all.1

module _ (script : List Flip) (ts : List Transfer) (count : ℕ) (named : List Word2) (m : Words) (is : IsNamed script ts count named m) (i : ℕ) (fate : Fate)
    (struck : (addr : ℕ) → IsTrue (is_in_ram (4 * length m.histories) addr 4) → addr % 4 ≡ 0 → has_struck i (history_at (place_of addr) m.histories) ≡ true
    → fate ≡ fate_of word_budget i (history_at (place_of addr) m.histories))
    (late : IsToCome i m.histories → fate ≡ Late) where
  words_are : List Word
  words_are = (memory_after script named ts).words

  -- no word was struck by a flip that is not of memory, or that did not strike its own
  to_come : (flip : Flip) → slice_get script i ≡ Some flip → ((place : ℕ) → place < length m.histories → CameBefore (length ts) place (Some flip) → has_struck i (history_at place m.histories) ≡ false)
      → IsToCome i m.histories
  to_come flip this none place lt = elim (cases_Bool (has_struck i (history_at place m.histories))) [
    | inl now ↦ none place lt (subst (CameBefore (length ts) place) this (is.now.came i place lt now))
    | inr not_it ↦ not_it
  ]

  pub fate_is : (flip : Flip) → slice_get script i ≡ Some flip → fate ≡ fate_of (budget_of flip) i (unit_history (memory_after script named ts).words no_arrays flip)
  fate_is (Mem turn addr bit) this =
      let aims : AimsAt count (Mem turn addr bit) = each_at (AimsAt count) script i (Mem turn addr bit) this is.aims in
      let at : IsWordAt (length m.histories) addr = record { aligned = aims.0; above = aims.1; within = rw is.now.long aims.2 } in
      let history : word_history (memory_after script named ts).words addr ≡ history_at (place_of addr) m.histories =
      word_found (memory_after script named ts).words m.histories addr is.now.follows at
      (each_at (IsCovered (memory_after script named ts).words) script i (Mem turn addr bit) this (covered_named script named ts)) in
      rw history (elim (cases_Bool (has_struck i (history_at (place_of addr) m.histories))) [
        | inl now ↦ struck addr (in_ram (length m.histories) addr at) aims.0 now
        | inr none ↦
            late (to_come (Mem turn addr bit) this (λ place lt came. ap (λ (p : ℕ). has_struck i (history_at p m.histories)) (sym came.1) ∙ none))
            ∙ late_where_none word_budget i (history_at (place_of addr) m.histories) none
      ])
  fate_is (Reg core step cell bit) this = late (to_come (Reg core step cell bit) this (λ place lt came. absurd came))
  fate_is (Tag core step fetch way set byte bit) this = late (to_come (Tag core step fetch way set byte bit) this (λ place lt came. absurd came))
  fate_is (Line core step fetch way set byte bit) this = late (to_come (Line core step fetch way set byte bit) this (λ place lt came. absurd came))

-- ---- all flips

module _ (script : List Flip) (words : List Word) where
  abbrev fate_by : ℕ × Flip → Fate
  fate_by flip = fate_of (budget_of flip.1) flip.0 (unit_history words no_arrays flip.1)

  length_from : (k : ℕ) (flips : List Flip) → length (map fate_by (zip (range_with_len k (length flips)) flips)) ≡ length flips
  length_from k [] = refl
  length_from k (flip ∷ flips) = ap suc (length_from (k + 1) flips)

  pub length_fates : length (flip_fates script words no_arrays) ≡ length script
  length_fates = length_from 0 script

  -- the fate of flip number i
  at_from : (k i : ℕ) (flips : List Flip) (d : Fate) (flip : Flip) → slice_get flips i ≡ Some flip
      → get_or (map fate_by (zip (range_with_len k (length flips)) flips)) i d ≡ fate_by (k + i, flip)
  at_from k i [] d flip is = cc
  at_from k zero (f ∷ flips) d flip is = let e : f ≡ flip = cc in let same : k ≡ k + 0 = omega arith in ap₂ (λ (n : ℕ) (g : Flip). fate_by (n, g)) same e
  at_from k (suc i) (f ∷ flips) d flip is = at_from (k + 1) i flips d flip is ∙ (let e : k + 1 + i ≡ k + suc i = omega arith in ap (λ (n : ℕ). fate_by (n, flip)) e)

  pub fate_at : (i : ℕ) (d : Fate) (flip : Flip) → slice_get script i ≡ Some flip
      → get_or (flip_fates script words no_arrays) i d ≡ fate_of (budget_of flip) i (unit_history words no_arrays flip)
  fate_at i d flip is = at_from 0 i script d flip is ∙ (let e : 0 + i ≡ i = omega arith in ap (λ (n : ℕ). fate_by (n, flip)) e)

-- ---- the fates of the flips so far

some_at : {X : Type 0} (xs : List X) (i : ℕ) → i < length xs → (x : X) × (slice_get xs i ≡ Some x)
some_at [] i lt = absurd (omega arith)
some_at (x ∷ xs) zero lt = (x, refl)
some_at (x ∷ xs) (suc i) lt = some_at xs i (omega (arith, lt))

module _ (script : List Flip) (ts : List Transfer) (count : ℕ) (named : List Word2) (m : Words) (is : IsNamed script ts count named m) (fates : List Fate) (all : length fates ≡ length script) where
  abbrev whole : List Fate
  whole = flip_fates script (memory_after script named ts).words no_arrays

  -- one more is noted
  pub fates_next : (i : ℕ) (fate : Fate) → i < length fates → take i fates ≡ take i whole
      → ((addr : ℕ) → IsTrue (is_in_ram (4 * length m.histories) addr 4) → addr % 4 ≡ 0 → has_struck i (history_at (place_of addr) m.histories) ≡ true
      → fate ≡ fate_of word_budget i (history_at (place_of addr) m.histories))
      → (IsToCome i m.histories → fate ≡ Late)
      → take (i + 1) (slice_set fates i fate) ≡ take (i + 1) whole
  fates_next i fate lt so_far struck late =
      let in_script : i < length script = omega (arith, lt, all) in
      let in_whole : i < length whole = rw (length_fates script (memory_after script named ts).words) in_script in
      let flip = some_at script i in_script in
      take_more_set fates i fate lt
      ∙ ap₂ (λ (front : List Fate) (last : Fate). front ++ last ∷ []) so_far
      (fate_is script ts count named m is i fate struck late flip.0 flip.1 ∙ sym (fate_at script (memory_after script named ts).words i fate flip.0 flip.1))
      ∙ sym (take_more whole i fate in_whole)

  -- all are
  pub fates_all : (i : ℕ) → length fates ≤ i → take i fates ≡ take i whole → fates ≡ whole
  fates_all i le so_far =
      sym (take_all i fates le) ∙ so_far ∙ take_all i whole (let long = length_fates script (memory_after script named ts).words in omega (arith, le, all, long))
