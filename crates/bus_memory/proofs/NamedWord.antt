-- A word over the transfers, with one name more: the name stands in its history where the turn ended, and nothing else is different.
use Rattle.std.proofs.Common.{◌≡◌, ℕ, suc, ◌+◌, ◌<◌, ◌≤◌, Bool, true, false, ◌&&◌, cond, nat_eq, nat_lt, List, [], ◌∷◌, ◌++◌, length, Option, Some, None, refl, sym, ap, ap₂, ◌∙◌, arith}
use Rattle.coded_words.proofs.PastLemmas.{behind_is}
use Rattle.coded_words.specs.Past.{named_behind}
use Rattle.lf_model.specs.Bus.Words.{Word, struck_word, touches_word, write_of, with_write, write_by}
use Rattle.lf_model.specs.Course.Syndromes.{has_address}
use Rattle.lf_model.specs.Flips.{How, Moment, Standing, standing, struck, turned, word_bits, word_budget, is_bad_word, is_fixed_word}
use Rattle.lf_model.specs.Flips.How.{Whole, ByPartStore, ByAtomic, ByFix}
use Rattle.lf_model.specs.Flips.Moment.{Struck, Written, Found, Named}
use Rattle.lf_model.specs.Records.BusMemory.{names_word, with_names}
use Rattle.lf_model.specs.NumberedFlips.{numbered_flips}
use Rattle.lf_model.specs.declared.bus.Transfer.{Transfer}
use Rattle.lf_model.specs.declared.bus.TurnKind.{TurnKind}
use Rattle.lf_model.specs.declared.bus.TurnKind.TheVariants.{Fetch, Load, Store, Atomic, Snoop, Look, Fix}
use Rattle.lf_model.specs.declared.flip.Flip.{Flip}
use Rattle.lf_model.specs.declared.flip.Flip.TheVariants.{Mem, Reg, Tag, Line}
use Rattle.lf_model.specs.declared.trace.Word2.{Word2}
use Rattle.bus_memory.proofs.NameLemmas.{other_turn, names_same, names_now}
use Rattle.bus_memory.proofs.WordRun.{strike_one, strikes_one, turn_one, run_one}
use Rattle.bus_memory.proofs.WriteLemmas.{word_after}

-- ---- a name changes nothing of what a word reads as

standing_since : (since h : List Moment) (budget : ℕ) → standing budget (since ++ Named ∷ h) ≡ standing budget (since ++ h)
standing_since [] h budget = refl
standing_since (Struck number bit ∷ since) h budget = ap (struck budget number bit) (standing_since since h budget)
standing_since (Written how ∷ since) h budget = refl
standing_since (Found ∷ since) h budget = standing_since since h budget
standing_since (Named ∷ since) h budget = standing_since since h budget

-- two histories that differ by a name behind the same moments
pub record Differ (h a b : List Moment) : Type 0 where
  pub since : List Moment
  pub without : a ≡ since ++ h
  pub with : b ≡ since ++ Named ∷ h

-- what is written goes by the flips that stand
module _ (a b : List Moment) (standing_is : standing word_budget b ≡ standing word_budget a) where
  same_bad : is_bad_word b ≡ is_bad_word a
  same_bad = ap (λ (flips : List Standing). nat_eq (length (turned word_bits flips)) 2) standing_is

  same_fixed : is_fixed_word b ≡ is_fixed_word a
  same_fixed = ap (λ (flips : List Standing). nat_eq (length (turned word_bits flips)) 1) standing_is

  pub same_write : (len : ℕ) (kind : TurnKind) → write_of len b kind ≡ write_of len a kind
  same_write len Fetch = refl
  same_write len Load = refl
  same_write len Store = ap (λ (bad : Bool). cond (nat_lt len 4) (cond bad None (Some ByPartStore)) (Some Whole)) same_bad
  same_write len Atomic = ap (λ (bad : Bool). cond bad None (Some ByAtomic)) same_bad
  same_write len Snoop = refl
  same_write len Look = refl
  same_write len Fix = ap (λ (fixed : Bool). cond fixed (Some ByFix) None) same_fixed

module _ {h a b : List Moment} (differ : Differ h a b) where
  same_standing : standing word_budget b ≡ standing word_budget a
  same_standing = ap (standing word_budget) differ.with ∙ standing_since differ.since h word_budget ∙ sym (ap (standing word_budget) differ.without)

  -- one moment more of both
  more : (m : Moment) → Differ h (m ∷ a) (m ∷ b)
  more m = record { since = m ∷ differ.since; without = ap (λ (x : List Moment). m ∷ x) differ.without; with = ap (λ (x : List Moment). m ∷ x) differ.with }

  written : (how : Option How) → Differ h (with_write how a) (with_write how b)
  written None = differ
  written (Some how) = more (Written how)

-- ---- two words at one address whose histories differ so

pub record Words (h : List Moment) (w v : Word) : Type 0 where
  pub addr : v.addr ≡ w.addr
  pub differ : Differ h w.history v.history

strike_differ : (h : List Moment) (turn number : ℕ) (flip : Flip) (w v : Word) → Words h w v → Words h (strike_one turn number flip w) (strike_one turn number flip v)
strike_differ h turn number (Mem t addr bit) w v are = by (nat_eq t turn)
  where
    struck_both : (b : Bool) → nat_eq w.addr addr ≡ b → Words h (struck_word number addr bit w) (struck_word number addr bit v)
    struck_both b is =
        let left : struck_word number addr bit w ≡ cond b (record w { history = Struck number bit ∷ w.history }) w =
        ap (λ (x : Bool). cond x (record w { history = Struck number bit ∷ w.history }) w) is in
        let right : struck_word number addr bit v ≡ cond b (record v { history = Struck number bit ∷ v.history }) v =
        ap (λ (x : Bool). cond x (record v { history = Struck number bit ∷ v.history }) v) (ap (λ (a : ℕ). nat_eq a addr) are.addr ∙ is) in
        rw (left, right) (cases b)
      where
        cases : (b : Bool) → Words h (cond b (record w { history = Struck number bit ∷ w.history }) w) (cond b (record v { history = Struck number bit ∷ v.history }) v)
        cases true = record { addr = are.addr; differ = more are.differ (Struck number bit) }
        cases false = are

    by : (b : Bool) → Words h (cond b (struck_word number addr bit w) w) (cond b (struck_word number addr bit v) v)
    by true = struck_both (nat_eq w.addr addr) refl
    by false = are
strike_differ h turn number (Reg core step cell bit) w v are = are
strike_differ h turn number (Tag core step fetch way set byte bit) w v are = are
strike_differ h turn number (Line core step fetch way set byte bit) w v are = are

strikes_differ : (h : List Moment) (turn : ℕ) (flips : List (ℕ × Flip)) (w v : Word) → Words h w v → Words h (strikes_one turn flips w) (strikes_one turn flips v)
strikes_differ h turn [] w v are = are
strikes_differ h turn (flip ∷ flips) w v are =
    strikes_differ h turn flips (strike_one turn flip.0 flip.1 w) (strike_one turn flip.0 flip.1 v) (strike_differ h turn flip.0 flip.1 w v are)

write_same : (h : List Moment) (t : Transfer) (w v : Word) → Words h w v → write_by t v ≡ write_by t w
write_same h t w v are =
    ap₂ (λ (b : Bool) (how : Option How). cond (has_address t && b) how None) (ap (λ (a : ℕ). touches_word t.addr t.len a t.kind) are.addr) (same_write w.history v.history (same_standing are.differ) t.len t.kind)

after_differ : (h : List Moment) (t : Transfer) (w v : Word) → Words h w v → Words h (word_after t w) (word_after t v)
after_differ h t w v are = record {
  addr = are.addr;
  differ = rw (write_same h t w v are) (written are.differ (write_by t w));
}

names_differ : (h : List Moment) (named : List Word2) (turn : ℕ) (w v : Word) → Words h w v → Words h (with_names named turn w) (with_names named turn v)
names_differ h named turn w v are =
    let right : with_names named turn v ≡ cond (names_word named turn w.addr) (record v { history = Named ∷ v.history }) v =
    ap (λ (a : ℕ). cond (names_word named turn a) (record v { history = Named ∷ v.history }) v) are.addr in
    rw right (by (names_word named turn w.addr))
  where
    by : (b : Bool) → Words h (cond b (record w { history = Named ∷ w.history }) w) (cond b (record v { history = Named ∷ v.history }) v)
    by true = record { addr = are.addr; differ = more are.differ Named }
    by false = are

-- ---- the address of a word stays

addr_strike : (turn number : ℕ) (flip : Flip) (w : Word) → (strike_one turn number flip w).addr ≡ w.addr
addr_strike turn number (Mem t addr bit) w = by (nat_eq t turn) (nat_eq w.addr addr)
  where
    by : (b c : Bool) → (cond b (cond c (record w { history = Struck number bit ∷ w.history }) w) w).addr ≡ w.addr
    by true true = refl
    by true false = refl
    by false c = refl
addr_strike turn number (Reg core step cell bit) w = refl
addr_strike turn number (Tag core step fetch way set byte bit) w = refl
addr_strike turn number (Line core step fetch way set byte bit) w = refl

addr_strikes : (turn : ℕ) (flips : List (ℕ × Flip)) (w : Word) → (strikes_one turn flips w).addr ≡ w.addr
addr_strikes turn [] w = refl
addr_strikes turn (flip ∷ flips) w = addr_strikes turn flips (strike_one turn flip.0 flip.1 w) ∙ addr_strike turn flip.0 flip.1 w

addr_names : (named : List Word2) (turn : ℕ) (w : Word) → (with_names named turn w).addr ≡ w.addr
addr_names named turn w = by (names_word named turn w.addr)
  where
    by : (b : Bool) → (cond b (record w { history = Named ∷ w.history }) w).addr ≡ w.addr
    by true = refl
    by false = refl

module _ (script : List Flip) where
  addr_turn : (named : List Word2) (turn : ℕ) (t : Transfer) (w : Word) → (turn_one script named turn t w).addr ≡ w.addr
  addr_turn named turn t w = addr_names named turn (word_after t (strikes_one turn (numbered_flips script) w)) ∙ addr_strikes turn (numbered_flips script) w

  pub addr_run : (named : List Word2) (turn : ℕ) (ts : List Transfer) (w : Word) → (run_one script named turn ts w).addr ≡ w.addr
  addr_run named turn [] w = refl
  addr_run named turn (t ∷ ts) w = addr_run named (turn + 1) ts (turn_one script named turn t w) ∙ addr_turn named turn t w

  run_differ : (h : List Moment) (named : List Word2) (turn : ℕ) (ts : List Transfer) (w v : Word) → Words h w v → Words h (run_one script named turn ts w) (run_one script named turn ts v)
  run_differ h named turn [] w v are = are
  run_differ h named turn (t ∷ ts) w v are =
      run_differ h named (turn + 1) ts (turn_one script named turn t w) (turn_one script named turn t v)
      (names_differ h named turn (word_after t (strikes_one turn (numbered_flips script) w)) (word_after t (strikes_one turn (numbered_flips script) v))
      (after_differ h t (strikes_one turn (numbered_flips script) w) (strikes_one turn (numbered_flips script) v) (strikes_differ h turn (numbered_flips script) w v are)))

  run_append : (named : List Word2) (turn : ℕ) (xs ys : List Transfer) (w : Word) → run_one script named turn (xs ++ ys) w ≡ run_one script named (turn + length xs) ys (run_one script named turn xs w)
  run_append named turn [] ys w = ap (λ (n : ℕ). run_one script named n ys w) (omega arith)
  run_append named turn (x ∷ xs) ys w =
      run_append named (turn + 1) xs ys (turn_one script named turn x w)
      ∙ ap (λ (n : ℕ). run_one script named n ys (run_one script named (turn + 1) xs (turn_one script named turn x w))) (let e : turn + 1 + length xs ≡ turn + suc (length xs) = omega arith in e)

  -- names that agree at a word, from a turn on and below another, make the same of it
  run_agree : (some others : List Word2) (addr turn : ℕ) (ts : List Transfer) (w : Word) → w.addr ≡ addr
      → ((u : ℕ) → turn ≤ u → u < turn + length ts → names_word some u addr ≡ names_word others u addr)
      → run_one script some turn ts w ≡ run_one script others turn ts w
  run_agree some others addr turn [] w at agree = refl
  run_agree some others addr turn (t ∷ ts) w at agree =
      let struck_ : Word = word_after t (strikes_one turn (numbered_flips script) w) in
      let there : struck_.addr ≡ addr = addr_strikes turn (numbered_flips script) w ∙ at in
      let here : names_word some turn struck_.addr ≡ names_word others turn struck_.addr =
      ap (names_word some turn) there ∙ agree turn (omega arith) (omega arith) ∙ ap (names_word others turn) (sym there) in
      let first : turn_one script some turn t w ≡ turn_one script others turn t w =
      ap (λ (b : Bool). cond b (record struck_ { history = Named ∷ struck_.history }) struck_) here in
      ap (run_one script some (turn + 1) ts) first
      ∙ run_agree some others addr (turn + 1) ts (turn_one script others turn t w) (addr_turn others turn t w ∙ at)
      (λ u from to. agree u (omega (arith, from)) (omega (arith, to)))

  -- ---- one name more

  module _ (named : List Word2) (name : Word2) where
    abbrev more_named : List Word2
    more_named = named ++ name ∷ []

    -- it names none of the turns that were made at this word
    pub run_same : (ts : List Transfer) (w : Word) → ((u : ℕ) → u < length ts → names_word more_named u w.addr ≡ names_word named u w.addr)
        → run_one script more_named 0 ts w ≡ run_one script named 0 ts w
    run_same ts w agree = run_agree more_named named w.addr 0 ts w refl (λ u from to. agree u (omega (arith, to)))

    -- it names a word at a turn at which none was
    module _ (turn : ℕ) (value : name.value ≡ Some turn) where
      run_at : (front : List Transfer) (t : Transfer) (rest : List Transfer) (w : Word) → length front ≡ turn → name.addr ≡ w.addr → names_word named turn w.addr ≡ false
          → Words (run_one script named 0 (front ++ t ∷ []) w).history (run_one script named 0 (front ++ t ∷ rest) w) (run_one script more_named 0 (front ++ t ∷ rest) w)
      run_at front t rest w long here none =
          let before : Word = run_one script named 0 front w in
          let at : before.addr ≡ w.addr = addr_run named 0 front w in
          let same_before : run_one script more_named 0 front w ≡ before =
          run_agree more_named named w.addr 0 front w refl (λ u from to. names_same named name u w.addr (other_turn name turn u w.addr value (λ e. omega (arith, to, e, long)))) in
          let struck_ : Word = word_after t (strikes_one turn (numbered_flips script) before) in
          let there : struck_.addr ≡ w.addr = addr_strikes turn (numbered_flips script) before ∙ at in
          let without_ : turn_one script named turn t before ≡ struck_ =
          ap (λ (b : Bool). cond b (record struck_ { history = Named ∷ struck_.history }) struck_) (ap (names_word named turn) there ∙ none) in
          let with_ : turn_one script more_named turn t before ≡ record struck_ { history = Named ∷ struck_.history } =
          ap (λ (b : Bool). cond b (record struck_ { history = Named ∷ struck_.history }) struck_) (ap (names_word more_named turn) there ∙ names_now named name turn w.addr value here none) in
          let zero_turn : 0 + length front ≡ turn = omega (arith, long) in
          let reach : (names : List Word2) (ts : List Transfer) → run_one script names 0 (front ++ t ∷ ts) w ≡ run_one script names (turn + 1) ts (turn_one script names turn t (run_one script names 0 front w)) =
          λ names ts. run_append names 0 front (t ∷ ts) w ∙ ap (λ (n : ℕ). run_one script names (n + 1) ts (turn_one script names n t (run_one script names 0 front w))) zero_turn in
          let later : run_one script more_named (turn + 1) rest (record struck_ { history = Named ∷ struck_.history }) ≡ run_one script named (turn + 1) rest (record struck_ { history = Named ∷ struck_.history }) =
          run_agree more_named named w.addr (turn + 1) rest (record struck_ { history = Named ∷ struck_.history }) there
          (λ u from to. names_same named name u w.addr (other_turn name turn u w.addr value (λ e. omega (arith, from, e)))) in
          let both : Words struck_.history (run_one script named (turn + 1) rest struck_) (run_one script named (turn + 1) rest (record struck_ { history = Named ∷ struck_.history })) =
          run_differ struck_.history named (turn + 1) rest struck_ (record struck_ { history = Named ∷ struck_.history })
          (record { addr = refl; differ = record { since = []; without = refl; with = refl } }) in
          let past_is : (run_one script named 0 (front ++ t ∷ []) w).history ≡ struck_.history = ap (λ (v : Word). v.history) (reach named [] ∙ without_) in
          let plain_is : run_one script named 0 (front ++ t ∷ rest) w ≡ run_one script named (turn + 1) rest struck_ = reach named rest ∙ ap (run_one script named (turn + 1) rest) without_ in
          let named_is : run_one script more_named 0 (front ++ t ∷ rest) w ≡ run_one script named (turn + 1) rest (record struck_ { history = Named ∷ struck_.history }) =
          reach more_named rest ∙ ap (λ (v : Word). run_one script more_named (turn + 1) rest (turn_one script more_named turn t v)) same_before ∙ ap (run_one script more_named (turn + 1) rest) with_ ∙ later in
          rw (past_is, plain_is, named_is) both

      -- so the name stands behind what came since
      pub run_named : (front : List Transfer) (t : Transfer) (rest : List Transfer) (w : Word) → length front ≡ turn → name.addr ≡ w.addr → names_word named turn w.addr ≡ false
          → (run_one script more_named 0 (front ++ t ∷ rest) w).history
          ≡ named_behind (run_one script named 0 (front ++ t ∷ []) w).history (run_one script named 0 (front ++ t ∷ rest) w).history
      run_named front t rest w long here none =
          let both = (run_at front t rest w long here none).differ in
          both.with
          ∙ sym (behind_is (run_one script named 0 (front ++ t ∷ []) w).history (run_one script named 0 (front ++ t ∷ rest) w).history (record { since = both.since; is = both.without }))
