-- The array, as it is and as a turn ended, follows the definitions' words as one name more is taken.
use Rattle.std.proofs.Common.{◌≡◌, ℕ, ◌+◌, ◌-◌, ◌<◌, ◌≤◌, true, false, List, [], ◌∷◌, ◌++◌, length, map, take, get_or, Some, refl, sym, ap, ap₂, ◌∙◌, subst, ◌⊎◌, inl, inr, arith}
use Rattle.std.specs.Prelude.{slice_get}
use Rattle.std.specs.List.{AllByRecursion}
use Rattle.std.proofs.lemmas.Bool.{cases_eq, cases_lt, cases_Bool, false≢true}
use Rattle.std.proofs.lemmas.List.{get_or-set_same, get_or-set_other, length-set, length-take, length-take-le, take-take, take_more, append_assoc}
use Rattle.coded_words.proofs.PastLemmas.{since_before, since_then, length_since}
use Rattle.coded_words.specs.Past.{past_at, named_behind}
use Rattle.coded_words.specs.Words.{Words, named_in}
use Rattle.flip_ledger.specs.Follows.{has_struck}
use Rattle.lf_model.specs.Bus.Words.{Word, words_struck}
use Rattle.lf_model.specs.Caches.Slot.{history_at, befalls}
use Rattle.lf_model.specs.Flips.{Moment}
use Rattle.lf_model.specs.Flips.Moment.{Named}
use Rattle.lf_model.specs.Records.BusMemory.{names_word, memory_after}
use Rattle.lf_model.specs.declared.bus.Transfer.{Transfer}
use Rattle.lf_model.specs.declared.flip.Flip.{Flip}
use Rattle.lf_model.specs.declared.trace.Word2.{Word2}
use Rattle.bus_memory.specs.Followed.{IsShown, IsWordAt}
use Rattle.bus_memory.specs.Kept.{IsArrayOf, IsKept}
use Rattle.bus_memory.specs.Named.{IsNamed}
use Rattle.bus_memory.specs.Names.{IsNewName, NamesNothing}
use Rattle.bus_memory.specs.Strikes.{CameBefore, Came}
use Rattle.bus_memory.proofs.BeginLemmas.{came_later}
use Rattle.bus_memory.proofs.HistoryLemmas.{words_between_turns}
use Rattle.bus_memory.proofs.NamedFollows.{struck_take, struck_append, named_follows}
use Rattle.bus_memory.proofs.NameLemmas.{other_turn, names_same}
use Rattle.bus_memory.proofs.NamedWord.{addr_run, run_same}
use Rattle.bus_memory.proofs.WordRun.{run_one, words_run}
use Rattle.flip_ledger.specs.declared.plan.Strike.{Strike}
use Rattle.ram_words.specs.Ram.{place_of}

-- ---- a flip that struck a word once it is named struck it before, or as it was then

struck_behind : (i : ℕ) (earlier h : List Moment) → has_struck i (named_behind earlier h) ≡ true → (has_struck i h ≡ true) ⊎ (has_struck i earlier ≡ true)
struck_behind i earlier h struck = elim (cases_Bool (has_struck i h)) [
  | inl now ↦ inl now
  | inr none ↦ elim (cases_Bool (has_struck i earlier)) [
    | inl then_ ↦ inr then_
    | inr none_then ↦
        absurd
        (false≢true
        (sym (struck_append i (take (length h - length earlier) h) (Named ∷ earlier) (struck_take i (length h - length earlier) h none) none_then)
        ∙ struck))
  ]
]

came_behind : (script : List Flip) (early turn place : ℕ) (past hs : List (List Moment)) → early ≤ turn → place < length past → place < length hs
    → Came script early past → Came script turn hs → Came script turn (befalls (named_behind (history_at place past)) place hs)
came_behind script early turn place past hs le within_past within came_then came i p lt struck = elim (cases_eq p place) [
  | inl same ↦
      let here : has_struck i (named_behind (history_at place past) (history_at place hs)) ≡ true =
      sym
      (ap (λ (q : ℕ). has_struck i (history_at q (befalls (named_behind (history_at place past)) place hs))) same
      ∙ ap (has_struck i) (get_or-set_same hs place (named_behind (history_at place past) (history_at place hs)) [] within))
      ∙ struck in
      elim (struck_behind i (history_at place past) (history_at place hs) here) [
        | inl now ↦ subst (λ (q : ℕ). CameBefore turn q (slice_get script i)) (sym same) (came i place within now)
        | inr then_ ↦ subst (λ (q : ℕ). CameBefore turn q (slice_get script i)) (sym same) (came_later early turn place (slice_get script i) le (came_then i place within_past then_))
      ]
  | inr other ↦
      let before : p < length hs = omega (arith, lt, length-set hs place (named_behind (history_at place past) (history_at place hs))) in
      came i p before
      (sym (ap (has_struck i) (get_or-set_other hs place p (named_behind (history_at place past) (history_at place hs)) [] other)) ∙ struck)
]

-- ---- a name that is taken

module _ (script : List Flip) (named : List Word2) (name : Word2) (count : ℕ) where
  abbrev more_named : List Word2
  more_named = named ++ name ∷ []

  -- the words are the same where the name names none of them
  same_words : (f g : Word → Word) (hs : List (List Moment)) (ws : List Word) → ((w : Word) → IsShown hs (f w) → g w ≡ f w) → AllByRecursion (IsShown hs) (map f ws) → map g ws ≡ map f ws
  same_words f g hs [] same all = refl
  same_words f g hs (w ∷ ws) same all = ap₂ (λ (v : Word) (vs : List Word). v ∷ vs) (same w all.0) (same_words f g hs ws same all.1)

  pub unnamed_array : (ts : List Transfer) (turn : ℕ) (hs : List (List Moment))
      → ((u addr : ℕ) → u < length ts → IsWordAt count addr → names_word more_named u addr ≡ names_word named u addr)
      → IsArrayOf script (memory_after script named ts).words turn count hs → IsArrayOf script (memory_after script more_named ts).words turn count hs
  unnamed_array ts turn hs agree is =
      let shown = rw (words_run script named ts) at is.follows.shown in
      let same : (memory_after script more_named ts).words ≡ (memory_after script named ts).words =
      words_run script more_named ts
      ∙ same_words (run_one script named 0 ts) (run_one script more_named 0 ts) hs (words_struck script)
      (λ w shows. run_same script named name ts w (λ u lt. agree u w.addr lt (record {
        aligned = rw (addr_run script named 0 ts w) at shows.aligned;
        above = rw (addr_run script named 0 ts w) at shows.above;
        within = rw (addr_run script named 0 ts w, is.long) at shows.within;
      })))
      shown
      ∙ sym (words_run script named ts) in
      rw same is

  module _ (turn : ℕ) (value : name.value ≡ Some turn) (word : IsWordAt count name.addr) (none : names_word named turn name.addr ≡ false) where
    named_array : (ts : List Transfer) (turns : ℕ) (hs past : List (List Moment)) → turn < length ts → turn + 1 ≤ turns
        → IsArrayOf script (memory_after script named ts).words turns count hs → IsArrayOf script (memory_after script named (take (turn + 1) ts)).words (turn + 1) count past
        → IsArrayOf script (memory_after script more_named ts).words turns count (befalls (named_behind (history_at (place_of name.addr) past)) (place_of name.addr) hs)
    named_array ts turns hs past within early now then_ =
        let at : place_of name.addr < length hs = rw now.long word.within in
        let at_past : place_of name.addr < length past = rw then_.long word.within in
        record {
          long = length-set hs (place_of name.addr) (named_behind (history_at (place_of name.addr) past) (history_at (place_of name.addr) hs)) ∙ now.long;
          follows = named_follows script named name turn value word.aligned word.above none ts hs past within at at_past now.follows then_.follows;
          came = came_behind script (turn + 1) turns (place_of name.addr) past hs early at_past at then_.came now.came;
        }

    pub named_new : (ts : List Transfer) (m : Words) → turn < length ts → IsNamed script ts count named m → IsNamed script ts count more_named (named_in (place_of name.addr) turn m)
    named_new ts m made is =
        let ended : turn < length m.past = rw is.past made in
        let then_ : IsArrayOf script (memory_after script named (take (turn + 1) ts)).words (turn + 1) count (past_at turn m.past) = is.passed turn made in
        let f : List (List Moment) → List (List Moment) = befalls (named_behind (history_at (place_of name.addr) (past_at turn m.past))) (place_of name.addr) in
        record {
          flips = is.flips;
          aims = is.aims;
          now = named_array ts (length ts) m.histories (past_at turn m.past) made (omega (arith, made)) is.now then_;
          past = length_since f m.past turn ∙ is.past;
          passed = λ t lt.
              let in_past : t < length m.past = rw is.past lt in
              elim (cases_lt t turn) [
                | inl before ↦
                    rw (since_before f m.past turn t before ended)
                    (unnamed_array (take (t + 1) ts) (t + 1) (past_at t m.past)
                    (λ u addr u_lt at. names_same named name u addr (other_turn name turn u addr value (λ e. let long = length-take (t + 1) ts in omega (arith, e, before, u_lt, long)))) (is.passed t lt))
                | inr after ↦
                    rw (since_then f m.past turn t after in_past)
                    (named_array (take (t + 1) ts) (t + 1) (past_at t m.past) (past_at turn m.past) (let long = length-take-le (t + 1) ts (omega (arith, lt)) in omega (arith, after, long)) (omega (arith, after)) (is.passed t lt)
                    (rw (take-take (turn + 1) (t + 1) ts (omega (arith, after))) then_))
              ];
        }

  -- a name that names nothing more
  pub named_same : (ts : List Transfer) (m : Words) → NamesNothing count (length ts) named name → IsNamed script ts count named m → IsNamed script ts count more_named m
  named_same ts m nothing is = record {
    flips = is.flips;
    aims = is.aims;
    now = unnamed_array ts (length ts) m.histories nothing.same is.now;
    past = is.past;
    passed = λ t lt.
        unnamed_array (take (t + 1) ts) (t + 1) (past_at t m.past) (λ u addr u_lt at. nothing.same u addr (let long = length-take (t + 1) ts in omega (arith, u_lt, lt, long)) at) (is.passed t lt);
  }

-- before any name
pub named_none : (script : List Flip) (ts : List Transfer) (m : Words) (plan : List Strike) (count : ℕ) → count ≡ length m.histories → IsKept script ts false m plan → IsNamed script ts count [] m
named_none script ts m plan count ram kept =
    let none : length ts + 0 ≡ length ts = omega arith in
    record {
      flips = kept.flips;
      aims = rw ram kept.aims;
      now = record {
        long = sym ram;
        follows = rw (words_between_turns script ts) at kept.follows;
        came = rw none at kept.came;
      };
      past = kept.past;
      passed = λ t lt. rw ram (kept.passed t lt);
    }

-- ---- the names of a core, one after another

module _ (script : List Flip) (ts : List Transfer) (count : ℕ) (before own : List Word2) (k : ℕ) (d : Word2) (within : k < length own) where
  more_own : (before ++ take k own) ++ get_or own k d ∷ [] ≡ before ++ take (k + 1) own
  more_own = append_assoc before (take k own) (get_or own k d ∷ []) ∙ ap (λ (names : List Word2). before ++ names) (sym (take_more own k d within))

  pub next_new : (addr turn : ℕ) (m m' : Words) → IsNewName count (length ts) (before ++ take k own) (get_or own k d) addr turn → m' ≡ named_in (place_of addr) turn m
      → IsNamed script ts count (before ++ take k own) m → IsNamed script ts count (before ++ take (k + 1) own) m'
  next_new addr turn m m' new done is =
      let here : (get_or own k d).addr ≡ addr = ap (λ (n : Word2). n.addr) new.name_is in
      rw (← more_own, done, ← here)
      (named_new script (before ++ take k own) (get_or own k d) count turn (ap (λ (n : Word2). n.value) new.name_is) (rw here new.word) (rw here new.new) ts m new.made is)

  pub next_same : (m m' : Words) → NamesNothing count (length ts) (before ++ take k own) (get_or own k d) → m' ≡ m → IsNamed script ts count (before ++ take k own) m
      → IsNamed script ts count (before ++ take (k + 1) own) m'
  next_same m m' nothing same is = rw (← more_own, same) (named_same script (before ++ take k own) (get_or own k d) count ts m nothing is)
