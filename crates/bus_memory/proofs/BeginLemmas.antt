-- A turn begins: its flips strike the definitions' words and the array alike.
use Rattle.std.proofs.Common.{◌≡◌, ℕ, suc, ◌+◌, ◌<◌, ◌≤◌, ◌%◌, Bool, true, false, ◌||◌, cond, nat_eq, List, [], ◌∷◌, ◌++◌, length, map, Option, Some, None, refl, sym, ap, ◌∙◌, subst, ◌⊎◌, inl, inr, ⊎_elim, arith}
use Rattle.std.specs.Prelude.{fold, slice_get}
use Rattle.std.specs.List.{AllByRecursion, list_any, range_with_len, zip}
use Rattle.std.proofs.lemmas.Bool.{cases_eq, cases_Bool, false≢true, eq-eqb, ne_eqb, eqb-true}
use Rattle.std.proofs.lemmas.List.{get_or-set_same, get_or-set_other, length-set}
use Rattle.flip_ledger.proofs.PlanLemmas.{strikes_from}
use Rattle.flip_ledger.specs.Follows.{has_struck}
use Rattle.flip_ledger.specs.Plan.{due_at, strike_of}
use Rattle.flip_ledger.specs.declared.plan.Owner.TheVariants.{Memory}
use Rattle.flip_ledger.specs.declared.plan.Strike.{Strike}
use Rattle.flip_ledger.specs.declared.plan.Target.{Target}
use Rattle.flip_ledger.specs.declared.plan.Target.TheVariants as targets
use Rattle.coded_words.specs.Words.{IsToCome}
use Rattle.lf_model.specs.Bus.Words.{Word, is_at, struck_word, strike_word}
use Rattle.lf_model.specs.Caches.Slot.{history_at, befalls}
use Rattle.lf_model.specs.Course.Arrays.{struck_by}
use Rattle.lf_model.specs.Flips.{Moment}
use Rattle.lf_model.specs.Flips.Moment.{Struck}
use Rattle.lf_model.specs.Start.{ram_first}
use Rattle.lf_model.specs.declared.flip.Flip.{Flip}
use Rattle.lf_model.specs.declared.flip.Flip.TheVariants.{Mem, Reg, Tag, Line}
use Rattle.bus_memory.specs.Followed.{Follows}
use Rattle.bus_memory.specs.Strikes.{struck_in, with_strike, CameBefore, Came, AimsAt, IsCovered}
use Rattle.bus_memory.proofs.FollowLemmas.{is_at_map, follows_one}
use Rattle.bus_memory.proofs.PlaceLemmas.{address_back}
use Rattle.ram_words.specs.Ram.{place_of}

-- ---- one flip

struck_addr : (number addr bit : ℕ) (w : Word) → (struck_word number addr bit w).addr ≡ w.addr
struck_addr number addr bit w = by (nat_eq w.addr addr)
  where
    by : (b : Bool) → (cond b (record w { history = Struck number bit ∷ w.history }) w).addr ≡ w.addr
    by true = refl
    by false = refl

pub follows_struck : (number addr bit : ℕ) (words : List Word) (hs : List (List Moment)) → addr % 4 ≡ 0 → ram_first ≤ addr → place_of addr < length hs
    → list_any (is_at addr) words ≡ true → Follows words hs
    → Follows (map (struck_word number addr bit) words) (befalls (struck_by number bit) (place_of addr) hs)
follows_struck number addr bit words hs aligned above within covered follows =
    follows_one (struck_word number addr bit) (struck_by number bit) (place_of addr) words hs within (struck_addr number addr bit)
    (λ w same.
    ap (λ (b : Bool). (cond b (record w { history = Struck number bit ∷ w.history }) w).history) (eq-eqb w.addr addr (same ∙ address_back addr aligned above)))
    (λ w _ other.
    ap (λ (b : Bool). (cond b (record w { history = Struck number bit ∷ w.history }) w).history)
    (ne_eqb w.addr addr (λ e. other (e ∙ sym (address_back addr aligned above)))))
    (λ none un. absurd (false≢true (sym none ∙ ap (λ (a : ℕ). list_any (is_at a) words) (address_back addr aligned above) ∙ covered)))
    follows

pub covered_map : (g : Word → Word) → ((w : Word) → (g w).addr ≡ w.addr) → (words : List Word) (flips : List Flip) → AllByRecursion (IsCovered words) flips
    → AllByRecursion (IsCovered (map g words)) flips
covered_map g keeps words [] all = tt
covered_map g keeps words (Mem turn at b ∷ flips) all = (is_at_map g keeps at words ∙ all.0, covered_map g keeps words flips all.1)
covered_map g keeps words (Reg core step cell b ∷ flips) all = (tt, covered_map g keeps words flips all.1)
covered_map g keeps words (Tag core step fetch way set byte b ∷ flips) all = (tt, covered_map g keeps words flips all.1)
covered_map g keeps words (Line core step fetch way set byte b ∷ flips) all = (tt, covered_map g keeps words flips all.1)

covered_struck : (number addr bit : ℕ) (words : List Word) (flips : List Flip) → AllByRecursion (IsCovered words) flips
    → AllByRecursion (IsCovered (map (struck_word number addr bit) words)) flips
covered_struck number addr bit words flips all = covered_map (struck_word number addr bit) (struck_addr number addr bit) words flips all

-- ---- all flips of a turn

-- the strikes of flips, numbered from k on, that are for memory and for this turn
abbrev pub due : ℕ → ℕ → List Flip → List Strike
due turn k flips = due_at turn (strikes_from Memory k flips)

abbrev pub strike_flip : ℕ → List Word → ℕ × Flip → List Word
strike_flip turn words flip = strike_word turn flip.0 words flip.1

abbrev numbered_from : ℕ → List Flip → List (ℕ × Flip)
numbered_from k flips = zip (range_with_len k (length flips)) flips

pub begun_follows : (turn k : ℕ) (flips : List Flip) (words : List Word) (hs : List (List Moment)) → AllByRecursion (AimsAt (length hs)) flips
    → AllByRecursion (IsCovered words) flips → Follows words hs
    → Follows (fold (strike_flip turn) words (numbered_from k flips)) (fold with_strike hs (due turn k flips))
begun_follows turn k [] words hs aims covered follows = follows
begun_follows turn k (Mem t addr bit ∷ flips) words hs aims covered follows =
    by (λ ws hs' aims' covered' follows'. begun_follows turn (k + 1) flips ws hs' aims' covered' follows') (nat_eq t turn)
  where
    by : ((ws : List Word) (hs' : List (List Moment)) → AllByRecursion (AimsAt (length hs')) flips → AllByRecursion (IsCovered ws) flips → Follows ws hs'
        → Follows (fold (strike_flip turn) ws (numbered_from (k + 1) flips)) (fold with_strike hs' (due turn (k + 1) flips)))
        → (b : Bool)
        → Follows (fold (strike_flip turn) (cond b (map (struck_word k addr bit) words) words) (numbered_from (k + 1) flips))
        (fold with_strike hs (cond b (strike_of (k, Mem t addr bit) ∷ due turn (k + 1) flips) (due turn (k + 1) flips)))
    by rest true =
        rest (map (struck_word k addr bit) words) (befalls (struck_by k bit) (place_of addr) hs)
        (rw (length-set hs (place_of addr) (struck_by k bit (history_at (place_of addr) hs))) aims.1)
        (covered_struck k addr bit words flips covered.1)
        (follows_struck k addr bit words hs aims.0.0 aims.0.1 aims.0.2 covered.0 follows)
    by rest false = rest words hs aims.1 covered.1 follows
begun_follows turn k (Reg core step cell bit ∷ flips) words hs aims covered follows = begun_follows turn (k + 1) flips words hs aims.1 covered.1 follows
begun_follows turn k (Tag core step fetch way set byte bit ∷ flips) words hs aims covered follows = begun_follows turn (k + 1) flips words hs aims.1 covered.1 follows
begun_follows turn k (Line core step fetch way set byte bit ∷ flips) words hs aims covered follows = begun_follows turn (k + 1) flips words hs aims.1 covered.1 follows

-- the words keep their addresses
covered_strike : (turn number : ℕ) (words : List Word) (flip : Flip) (flips : List Flip) → AllByRecursion (IsCovered words) flips
    → AllByRecursion (IsCovered (strike_word turn number words flip)) flips
covered_strike turn number words (Mem t addr bit) flips all = by (nat_eq t turn)
  where
    by : (b : Bool) → AllByRecursion (IsCovered (cond b (map (struck_word number addr bit) words) words)) flips
    by true = covered_struck number addr bit words flips all
    by false = all
covered_strike turn number words (Reg core step cell bit) flips all = all
covered_strike turn number words (Tag core step fetch way set byte bit) flips all = all
covered_strike turn number words (Line core step fetch way set byte bit) flips all = all

pub covered_begun : (turn : ℕ) (struck : List (ℕ × Flip)) (words : List Word) (flips : List Flip) → AllByRecursion (IsCovered words) flips
    → AllByRecursion (IsCovered (fold (strike_flip turn) words struck)) flips
covered_begun turn [] words flips all = all
covered_begun turn (flip ∷ struck) words flips all =
    covered_begun turn struck (strike_flip turn words flip) flips (covered_strike turn flip.0 words flip.1 flips all)

pub length_strikes : (run : List Strike) (hs : List (List Moment)) → length (fold with_strike hs run) ≡ length hs
length_strikes [] hs = refl
length_strikes (s ∷ run) hs = length_strikes run (with_strike hs s) ∙ one s.target
  where
    one : (target : Target) → length (struck_in s.number s.bit hs target) ≡ length hs
    one (targets.Word addr) = length-set hs (place_of addr) (struck_by s.number s.bit (history_at (place_of addr) hs))
    one (targets.Register cell) = refl
    one (targets.Tag fetch way set byte) = refl
    one (targets.Line fetch way set byte) = refl

-- ---- which flips struck

-- one of these strikes is of flip number i and for this word
abbrev pub IsFor : ℕ → ℕ → Strike → Type 0
IsFor i place s = (s.number ≡ i) × (addr : ℕ) × ((s.target ≡ targets.Word addr) × (place_of addr ≡ place))

abbrev pub HasStrike : ℕ → ℕ → List Strike → Type 0
HasStrike i place [] = ⊥
HasStrike i place (s ∷ run) = IsFor i place s ⊎ HasStrike i place run

struck_one : (i place : ℕ) (s : Strike) (hs : List (List Moment)) → place < length hs → (target : Target) → s.target ≡ target
    → has_struck i (history_at place (struck_in s.number s.bit hs target)) ≡ true
    → (has_struck i (history_at place hs) ≡ true) ⊎ IsFor i place s
struck_one i place s hs within (targets.Word addr) is struck = elim (cases_eq place (place_of addr)) [
  | inl same ↦
      let here : has_struck i (struck_by s.number s.bit (history_at (place_of addr) hs)) ≡ true = sym
      (ap (λ (p : ℕ). has_struck i (history_at p (befalls (struck_by s.number s.bit) (place_of addr) hs))) same
      ∙ ap (has_struck i) (get_or-set_same hs (place_of addr) (struck_by s.number s.bit (history_at (place_of addr) hs)) [] (rw (← same) within)))
      ∙ struck in
      elim (cases_Bool (nat_eq s.number i)) [
        | inl number ↦ inr (eqb-true s.number i number, addr, (is, sym same))
        | inr not_it ↦
            inl
            (ap (λ (p : ℕ). has_struck i (history_at p hs)) same
            ∙ sym (ap (λ (b : Bool). b || has_struck i (history_at (place_of addr) hs)) not_it)
            ∙ here)
      ]
  | inr other ↦
      inl (sym (ap (has_struck i) (get_or-set_other hs (place_of addr) place (struck_by s.number s.bit (history_at (place_of addr) hs)) [] other)) ∙ struck)
]
struck_one i place s hs within (targets.Register cell) is struck = inl struck
struck_one i place s hs within (targets.Tag fetch way set byte) is struck = inl struck
struck_one i place s hs within (targets.Line fetch way set byte) is struck = inl struck

pub strikes_struck : (i place : ℕ) (run : List Strike) (hs : List (List Moment)) → place < length hs → has_struck i (history_at place (fold with_strike hs run)) ≡ true
    → (has_struck i (history_at place hs) ≡ true) ⊎ HasStrike i place run
strikes_struck i place [] hs within struck = inl struck
strikes_struck i place (s ∷ run) hs within struck =
    ⊎_elim
    (λ before. ⊎_elim (λ old. inl old) (λ it. inr (inl it)) (struck_one i place s hs within s.target refl before))
    (λ later. inr (inr later))
    (strikes_struck i place run (with_strike hs s) (rw (length_strikes (s ∷ []) hs) within) struck)

-- a strike is of a flip of the script, for this turn and for a word of RAM
pub record IsOfScript (script : List Flip) (count turn : ℕ) (s : Strike) : Type 0 where
  pub addr : ℕ
  pub flip : slice_get script s.number ≡ Some (Mem turn addr s.bit)
  pub target : s.target ≡ targets.Word addr
  pub aims : AimsAt count (Mem turn addr s.bit)

pub due_of_script : (script : List Flip) (count turn k : ℕ) (flips : List Flip) → ((j : ℕ) → slice_get flips j ≡ slice_get script (k + j)) → AllByRecursion (AimsAt count) flips
    → AllByRecursion (IsOfScript script count turn) (due turn k flips)
due_of_script script count turn k [] are aims = tt
due_of_script script count turn k (Mem t addr bit ∷ flips) are aims =
    by (due_of_script script count turn (k + 1) flips (λ j. are (suc j) ∙ ap (slice_get script) (omega arith)) aims.1) (nat_eq t turn) refl
  where
    by : AllByRecursion (IsOfScript script count turn) (due turn (k + 1) flips) → (b : Bool) → nat_eq t turn ≡ b
        → AllByRecursion (IsOfScript script count turn) (cond b (strike_of (k, Mem t addr bit) ∷ due turn (k + 1) flips) (due turn (k + 1) flips))
    by rest true is = (
      record {
        addr = addr;
        flip = ap (slice_get script) (omega arith) ∙ sym (are 0) ∙ ap (λ (now : ℕ). Some (Mem now addr bit)) (eqb-true t turn is);
        target = refl;
        aims = aims.0;
      },
      rest,
    )
    by rest false is = rest
due_of_script script count turn k (Reg core step cell bit ∷ flips) are aims = due_of_script script count turn (k + 1) flips (λ j. are (suc j) ∙ ap (slice_get script) (omega arith)) aims.1
due_of_script script count turn k (Tag core step fetch way set byte bit ∷ flips) are aims = due_of_script script count turn (k + 1) flips (λ j. are (suc j) ∙ ap (slice_get script) (omega arith)) aims.1
due_of_script script count turn k (Line core step fetch way set byte bit ∷ flips) are aims = due_of_script script count turn (k + 1) flips (λ j. are (suc j) ∙ ap (slice_get script) (omega arith)) aims.1

-- numbers ascend
abbrev pub Ascends : ℕ → List Strike → Type 0
Ascends k [] = Unit {0}
Ascends k (s ∷ run) = (k ≤ s.number) × Ascends (s.number + 1) run

ascends_earlier : (j k : ℕ) (run : List Strike) → j ≤ k → Ascends k run → Ascends j run
ascends_earlier j k [] le ascends = tt
ascends_earlier j k (s ∷ run) le ascends = (omega (arith, le, ascends.0), ascends.1)

pub due_ascends : (turn k : ℕ) (flips : List Flip) → Ascends k (due turn k flips)
due_ascends turn k [] = tt
due_ascends turn k (Mem t addr bit ∷ flips) = by (due_ascends turn (k + 1) flips) (nat_eq t turn)
  where
    by : Ascends (k + 1) (due turn (k + 1) flips) → (b : Bool) → Ascends k (cond b (strike_of (k, Mem t addr bit) ∷ due turn (k + 1) flips) (due turn (k + 1) flips))
    by rest true = (omega arith, rest)
    by rest false = ascends_earlier k (k + 1) (due turn (k + 1) flips) (omega arith) rest
due_ascends turn k (Reg core step cell bit ∷ flips) = ascends_earlier k (k + 1) (due turn (k + 1) flips) (omega arith) (due_ascends turn (k + 1) flips)
due_ascends turn k (Tag core step fetch way set byte bit ∷ flips) = ascends_earlier k (k + 1) (due turn (k + 1) flips) (omega arith) (due_ascends turn (k + 1) flips)
due_ascends turn k (Line core step fetch way set byte bit ∷ flips) = ascends_earlier k (k + 1) (due turn (k + 1) flips) (omega arith) (due_ascends turn (k + 1) flips)

-- the strike after a run has a number above all of the run
last_above : (k : ℕ) (run : List Strike) (s : Strike) (more : List Strike) → Ascends k (run ++ s ∷ more) → k ≤ s.number
last_above k [] s more ascends = ascends.0
last_above k (r ∷ run) s more ascends = let above = last_above (r.number + 1) run s more ascends.1 in omega (arith, above, ascends.0)

not_again : (k place : ℕ) (run : List Strike) (s : Strike) (more : List Strike) → Ascends k (run ++ s ∷ more) → HasStrike s.number place run → ⊥
not_again k place [] s more ascends has = has
not_again k place (r ∷ run) s more ascends has =
    ⊎_elim (λ it. let above = last_above (r.number + 1) run s more ascends.1 in omega (arith, above, it.0)) (λ later. not_again (r.number + 1) place run s more ascends.1 later) has

-- a strike that comes next struck no word yet
pub next_to_come : (script : List Flip) (count turn : ℕ) (hs : List (List Moment)) (run : List Strike) (s : Strike) (more : List Strike)
    → Ascends 0 (run ++ s ∷ more) → IsOfScript script count turn s → Came script turn hs → IsToCome s.number (fold with_strike hs run)
next_to_come script count turn hs run s more ascends of came place lt = elim (cases_Bool (has_struck s.number (history_at place (fold with_strike hs run)))) [
  | inl struck ↦
      let within : place < length hs = omega (arith, lt, length_strikes run hs) in
      absurd
      (⊎_elim
      (λ old. let before : CameBefore turn place (Some (Mem turn of.addr s.bit)) = subst (CameBefore turn place) of.flip (came s.number place within old) in omega (arith, before.0))
      (λ again. not_again 0 place run s more ascends again)
      (strikes_struck s.number place run hs within struck))
  | inr none ↦ none
]

-- ---- the next turn

pub came_later : (early turn place : ℕ) (flip : Option Flip) → early ≤ turn → CameBefore early place flip → CameBefore turn place flip
came_later early turn place None le came = came
came_later early turn place (Some (Mem t addr bit)) le came = (omega (arith, le, came.0), came.1)
came_later early turn place (Some (Reg core step cell bit)) le came = came
came_later early turn place (Some (Tag core step fetch way set byte bit)) le came = came
came_later early turn place (Some (Line core step fetch way set byte bit)) le came = came

word_is : (a b : ℕ) → targets.Word a ≡ targets.Word b → a ≡ b
word_is a b e = cc

came_due : (script : List Flip) (count turn i place : ℕ) (run : List Strike) → AllByRecursion (IsOfScript script count turn) run → HasStrike i place run
    → CameBefore (turn + 1) place (slice_get script i)
came_due script count turn i place [] of has = absurd has
came_due script count turn i place (s ∷ run) of has =
    ⊎_elim
    (λ it.
    let same : of.0.addr ≡ it.1 = word_is of.0.addr it.1 (sym of.0.target ∙ it.2.0) in
    subst (CameBefore (turn + 1) place) (sym of.0.flip ∙ ap (slice_get script) it.0) (omega arith, ap place_of same ∙ it.2.1))
    (λ later. came_due script count turn i place run of.1 later) has

pub came_next : (script : List Flip) (count turn : ℕ) (hs : List (List Moment)) (run : List Strike) → AllByRecursion (IsOfScript script count turn) run → Came script turn hs
    → Came script (turn + 1) (fold with_strike hs run)
came_next script count turn hs run of came i place lt struck =
    let within : place < length hs = omega (arith, lt, length_strikes run hs) in
    ⊎_elim (λ old. came_later turn (turn + 1) place (slice_get script i) (omega arith) (came i place within old)) (λ now. came_due script count turn i place run of now)
    (strikes_struck i place run hs within struck)

-- nothing comes where no flip strikes
pub came_same : (script : List Flip) (turn : ℕ) (hs hs' : List (List Moment)) → length hs' ≡ length hs
    → ((i place : ℕ) → has_struck i (history_at place hs') ≡ has_struck i (history_at place hs)) → Came script turn hs → Came script turn hs'
came_same script turn hs hs' long same came i place lt struck = came i place (omega (arith, lt, long)) (sym (same i place) ∙ struck)
