-- Array, plan and transfers stand together, at the start, as a turn begins and as its transfer is made.
use Rattle.std.proofs.Common.{◌≡◌, ℕ, zero, suc, ◌+◌, ◌<◌, ◌≤◌, ◌%◌, Bool, true, false, ◌||◌, cond, List, [], ◌∷◌, ◌++◌, length, None, refl, sym, ap, ap₂, ◌∙◌, inl, inr, arith}
use Rattle.std.specs.Prelude.{fold, replicate}
use Rattle.std.specs.List.{AllByRecursion, list_any}
use Rattle.std.proofs.lemmas.Bool.{cases_eq, false≢true, eq-eqb}
use Rattle.std.proofs.lemmas.List.{length-append, take_all, take-append-le}
use Rattle.std.proofs.lemmas.List.Folds.{list_any-append}
use Rattle.coded_words.proofs.PastLemmas.{past_before, past_last}
use Rattle.coded_words.specs.Words.{Words, ended}
use Rattle.flip_ledger.proofs.PlanLemmas.{strikes_numbered}
use Rattle.flip_ledger.specs.Plan.{IsPlanned, due_at, strikes_of}
use Rattle.flip_ledger.specs.declared.plan.Owner.TheVariants.{Memory}
use Rattle.flip_ledger.specs.declared.plan.Strike.{Strike}
use Rattle.lf_model.specs.Bus.Words.{Word, is_at, with_word, with_struck, words_begun, words_after}
use Rattle.lf_model.specs.Caches.Slot.{history_at}
use Rattle.lf_model.specs.Flips.{Moment}
use Rattle.lf_model.specs.Records.BusMemory.{with_answer}
use Rattle.lf_model.specs.Start.{ram_first}
use Rattle.lf_model.specs.NumberedFlips.{numbered_flips}
use Rattle.lf_model.specs.declared.bus.Transfer.{Transfer}
use Rattle.lf_model.specs.declared.flip.Flip.{Flip}
use Rattle.lf_model.specs.declared.flip.Flip.TheVariants.{Mem, Reg, Tag, Line}
use Rattle.bus_memory.specs.Followed.{IsShown, Follows}
use Rattle.bus_memory.specs.Kept.{turns_struck, IsKept}
use Rattle.bus_memory.specs.MemoryState.{words_between, words_at}
use Rattle.bus_memory.specs.Strikes.{with_strike, AimsAt, IsCovered, Came}
use Rattle.bus_memory.proofs.BeginLemmas.{covered_map, covered_begun, due, begun_follows, length_strikes, due_of_script, came_next, came_same}
use Rattle.bus_memory.proofs.HistoryLemmas.{words_push, answers_push, words_between_turns, words_in_turn}
use Rattle.bus_memory.proofs.WriteLemmas.{word_after, Writes}
use Rattle.ram_words.specs.Ram.{place_of}

-- ---- at the start

-- words are only added
kept_word : (addr : ℕ) (words : List Word) (a : ℕ) → list_any (is_at addr) words ≡ true → list_any (is_at addr) (with_word words a) ≡ true
kept_word addr words a has = by (list_any (is_at a) words)
  where
    by : (b : Bool) → list_any (is_at addr) (cond b words (words ++ record { addr = a; history = [] } ∷ [])) ≡ true
    by true = has
    by false =
        list_any-append (is_at addr) words (record { addr = a; history = [] } ∷ [])
        ∙ ap (λ (b : Bool). b || list_any (is_at addr) (record { addr = a; history = [] } ∷ [])) has

kept_flip : (addr : ℕ) (words : List Word) (flip : Flip) → list_any (is_at addr) words ≡ true → list_any (is_at addr) (with_struck words flip) ≡ true
kept_flip addr words (Mem turn a bit) has = kept_word addr words a has
kept_flip addr words (Reg core step cell bit) has = has
kept_flip addr words (Tag core step fetch way set byte bit) has = has
kept_flip addr words (Line core step fetch way set byte bit) has = has

kept_flips : (addr : ℕ) (flips : List Flip) (words : List Word) → list_any (is_at addr) words ≡ true → list_any (is_at addr) (fold with_struck words flips) ≡ true
kept_flips addr [] words has = has
kept_flips addr (flip ∷ flips) words has = kept_flips addr flips (with_struck words flip) (kept_flip addr words flip has)

or_true : (b : Bool) → (b || true) ≡ true
or_true true = refl
or_true false = refl

has_word : (words : List Word) (a : ℕ) → list_any (is_at a) (with_word words a) ≡ true
has_word words a = by (list_any (is_at a) words) refl
  where
    by : (b : Bool) → list_any (is_at a) words ≡ b → list_any (is_at a) (cond b words (words ++ record { addr = a; history = [] } ∷ [])) ≡ true
    by true has = has
    by false none =
        list_any-append (is_at a) words (record { addr = a; history = [] } ∷ [])
        ∙ ap (λ (b : Bool). list_any (is_at a) words || (b || false)) (eq-eqb a a refl)
        ∙ or_true (list_any (is_at a) words)

pub covered_start : (flips : List Flip) (words : List Word) → AllByRecursion (IsCovered (fold with_struck words flips)) flips
covered_start [] words = tt
covered_start (Mem turn a bit ∷ flips) words = (kept_flips a flips (with_word words a) (has_word words a), covered_start flips (with_word words a))
covered_start (Reg core step cell bit ∷ flips) words = (tt, covered_start flips words)
covered_start (Tag core step fetch way set byte bit ∷ flips) words = (tt, covered_start flips words)
covered_start (Line core step fetch way set byte bit ∷ flips) words = (tt, covered_start flips words)

-- nothing befell any word
nothing_at : (count place : ℕ) → history_at place (replicate count []) ≡ []
nothing_at zero place = refl
nothing_at (suc count) zero = refl
nothing_at (suc count) (suc place) = nothing_at count place

pub length_nothing : (count : ℕ) → length (replicate {A = List Moment} count []) ≡ count
length_nothing zero = refl
length_nothing (suc count) = ap suc (length_nothing count)

each_push : (P : Word → Type 0) (words : List Word) (w : Word) → AllByRecursion P words → P w → AllByRecursion P (words ++ w ∷ [])
each_push P [] w all is = (is, tt)
each_push P (v ∷ words) w all is = (all.0, each_push P words w all.1 is)

module _ (count : ℕ) where
  shown_word : (words : List Word) (a : ℕ) → (a % 4 ≡ 0) × (ram_first ≤ a) × (place_of a < count) → AllByRecursion (IsShown (replicate count [])) words
      → AllByRecursion (IsShown (replicate count [])) (with_word words a)
  shown_word words a aims all = by (list_any (is_at a) words)
    where
      by : (b : Bool) → AllByRecursion (IsShown (replicate count [])) (cond b words (words ++ record { addr = a; history = [] } ∷ []))
      by true = all
      by false =
          each_push (IsShown (replicate count [])) words (record { addr = a; history = [] }) all
          (record { aligned = aims.0; above = aims.1; within = rw (length_nothing count) aims.2; history = nothing_at count (place_of a) })

  shown_start : (flips : List Flip) (words : List Word) → AllByRecursion (AimsAt count) flips → AllByRecursion (IsShown (replicate count [])) words
      → AllByRecursion (IsShown (replicate count [])) (fold with_struck words flips)
  shown_start [] words aims all = all
  shown_start (Mem turn a bit ∷ flips) words aims all = shown_start flips (with_word words a) aims.1 (shown_word words a (aims.0.0, aims.0.1, aims.0.2) all)
  shown_start (Reg core step cell bit ∷ flips) words aims all = shown_start flips words aims.1 all
  shown_start (Tag core step fetch way set byte bit ∷ flips) words aims all = shown_start flips words aims.1 all
  shown_start (Line core step fetch way set byte bit ∷ flips) words aims all = shown_start flips words aims.1 all

  pub kept_start : (script : List Flip) (memory : Words) (plan : List Strike) → AllByRecursion (AimsAt count) script → length memory.values ≡ count → memory.flips ≡ length script
      → memory.histories ≡ replicate count [] → memory.past ≡ [] → IsPlanned Memory script 0 plan → IsKept script [] false memory plan
  kept_start script memory plan aims values flips new no_past planned =
      let long : length memory.histories ≡ count = ap length new ∙ length_nothing count in
      record {
        values = values ∙ sym long;
        flips = flips;
        aims = rw long aims;
        covered = rw (words_between_turns script []) (covered_start script []);
        follows = rw (words_between_turns script [], new) (record {
          shown = shown_start script [] aims tt;
          others = λ place lt none. λ i. rw (nothing_at count place) refl;
        });
        planned = planned;
        came = λ i place lt struck. absurd (false≢true (sym (rw (new, nothing_at count place) refl) ∙ struck));
        answered = refl;
        past = ap length no_past;
        passed = λ t lt. absurd (omega arith);
      }

-- ---- a turn begins

pub due_is : (script : List Flip) (turn : ℕ) → due_at turn (strikes_of Memory script) ≡ due turn 0 script
due_is script turn = ap (due_at turn) (sym (strikes_numbered Memory 0 script))

pub kept_begun : (script : List Flip) (ts : List Transfer) (memory : Words) (plan plan' : List Strike) → IsKept script ts false memory plan → IsPlanned Memory script (length ts + 1) plan'
    → IsKept script ts true (record memory { histories = fold with_strike memory.histories (due_at (length ts) (strikes_of Memory script)) }) plan'
kept_begun script ts memory plan plan' kept planned =
    let hs : List (List Moment) = fold with_strike memory.histories (due (length ts) 0 script) in
    let long : length hs ≡ length memory.histories = length_strikes (due (length ts) 0 script) memory.histories in
    let turn : turns_struck (length ts) false ≡ length ts = omega arith in
    rw (due_is script (length ts)) (record {
      values = kept.values ∙ sym long;
      flips = kept.flips;
      aims = rw long kept.aims;
      covered =
          rw (words_in_turn script ts)
          (covered_begun (length ts) (numbered_flips script) (words_between script ts) script (rw (words_between_turns script ts) at kept.covered));
      follows =
          rw (words_in_turn script ts)
          (begun_follows (length ts) 0 script (words_between script ts) memory.histories kept.aims (rw (words_between_turns script ts) at kept.covered)
          (rw (words_between_turns script ts) at kept.follows));
      planned = planned;
      came =
          came_next script (length memory.histories) (length ts) memory.histories (due (length ts) 0 script)
          (due_of_script script (length memory.histories) (length ts) 0 script (λ j. ap (Rattle.std.specs.Prelude.slice_get script) (omega arith)) kept.aims)
          (rw turn at kept.came);
      answered = kept.answered;
      past = kept.past;
      passed = λ t lt. rw long (kept.passed t lt);
    })

-- ---- its transfer is made

pub kept_made : (script : List Flip) (ts : List Transfer) (memory : Words) (plan : List Strike) (t : Transfer) (values : List ℕ) (hs : List (List Moment))
    → IsKept script ts true memory plan → length values ≡ length memory.values → Writes t memory.histories hs
    → IsKept script (ts ++ with_answer (words_at script ts true) t ∷ []) false (ended (record memory { values = values; histories = hs })) plan
kept_made script ts memory plan t values hs kept same writes =
    let made : Transfer = with_answer (words_at script ts true) t in
    let met : words_at script ts true ≡ words_begun script (length ts) (words_between script ts) = words_in_turn script ts in
    let after : words_between script (ts ++ made ∷ []) ≡ words_after t None (words_at script ts true) = words_push script ts made ∙ ap (words_after t None) (sym met) in
    let long : length (ts ++ made ∷ []) ≡ length ts + 1 = length-append ts (made ∷ []) in
    let turns : turns_struck (length (ts ++ made ∷ [])) false ≡ turns_struck (length ts) true = omega (arith, long) in
    let now : Follows (words_between script (ts ++ made ∷ [])) hs = rw after (writes.follows (words_at script ts true) kept.follows) in
    let came_now : Came script (length ts + 1) hs = came_same script (length ts + 1) memory.histories hs writes.long writes.struck kept.came in
    record {
      values = same ∙ kept.values ∙ sym writes.long;
      flips = kept.flips;
      aims = rw writes.long kept.aims;
      covered = rw (words_between_turns script (ts ++ made ∷ []), after)
          (covered_map (word_after t) (λ w. refl) (words_at script ts true) script kept.covered);
      follows = rw (words_between_turns script (ts ++ made ∷ [])) now;
      planned = rw turns kept.planned;
      came = rw turns came_now;
      answered =
          answers_push script [] ts made
          ∙ ap₂ (λ (answers : List Transfer) (ws : List Word). answers ++ with_answer ws made ∷ []) kept.answered (sym met);
      past = length-append memory.past (hs ∷ []) ∙ ap (λ (n : ℕ). n + 1) kept.past ∙ sym long;
      passed = λ u lt. elim (cases_eq u (length ts)) [
        | inl last ↦
            rw (last, take_all (length ts + 1) (ts ++ made ∷ []) (omega (arith, long)), ← kept.past, past_last memory.past hs) (record {
              long = refl;
              follows = now;
              came = rw kept.past came_now;
            })
        | inr other ↦
            let early : u < length ts = omega (arith, lt, other, long) in
            rw (take-append-le (u + 1) ts (made ∷ []) (omega (arith, early)), past_before memory.past hs u (omega (arith, early, kept.past)), writes.long) (kept.passed u early)
      ];
    }
