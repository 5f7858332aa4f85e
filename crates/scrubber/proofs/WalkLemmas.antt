-- The walk of the scrubber with one more of its turns.
use Rattle.std.proofs.Common.{◌≡◌, ℕ, zero, suc, ◌+◌, ◌*◌, ◌%◌, ◌<◌, ◌≤◌, ◌&&◌, Bool, true, false, not, cond, nat_eq, nat_le, IsTrue, ◌≢◌, List, [], ◌∷◌, ◌++◌, length, map, slice_index, slice_index_or, refl, sym, ap, ◌∙◌, arith}
use Rattle.std.specs.Prelude.{filter, fold, remove}
use Rattle.std.specs.List.{AllByRecursion, range_with_len}
use Rattle.std.proofs.lemmas.Bool.{eq-eqb, and_parts, leb-true, false≢true}
use Rattle.std.proofs.lemmas.Bool.Decides.{nat_tests}
use Rattle.std.proofs.lemmas.List.Sums.{fold_push}
use Rattle.ahb_bus.proofs.AnsweredLemmas.{syndromes_read}
use Rattle.ahb_bus.specs.Asks.{IsScrubTurn}
use Rattle.ahb_bus.specs.BusState.{BusState, memory_of, answered, asked_by, after_turn}
use Rattle.ahb_bus.specs.declared.record.Who.{Who}
use Rattle.bus_memory.specs.MemoryState.{words_met, line_shown}
use Rattle.lf_model.specs.Bus.Walk.{Walk, scrubber, walk_start, next_line, next_transfer, words_noted, walked, walk_by, walk_after}
use Rattle.lf_model.specs.Ledger.Steps.{own_transfers}
use Rattle.lf_model.specs.Start.{ram_first, is_in_ram}
use Rattle.lf_model.specs.declared.bus.Line.{Line}
use Rattle.lf_model.specs.declared.bus.Transfer.{Transfer}
use Rattle.lf_model.specs.declared.bus.TurnKind.TheVariants.{Look, Fix}
use Rattle.lf_model.specs.declared.bus.Why.TheVariants as whys
use Rattle.lf_model.specs.declared.config.Config.{Config}
use Rattle.lf_model.specs.declared.image.Range.{Range}
use Rattle.scrubber.specs.Inside.{IsWordOfRam}
use Rattle.scrubber.specs.WalkState.{WalkState, IsScrubRange, MayWalk, walk_made, noted_in}

-- ---- it made as many turns as it has transfers

walked_turns : (range : Range) (t : Transfer) (w : Walk) (noted : List ℕ) → (walked range t w noted).turns ≡ w.turns + 1
walked_turns range t w [] = refl
walked_turns range t w (addr ∷ rest) = refl

turns_on : (range : Range) (w : Walk) (ts : List Transfer) → (fold (walk_by range) w ts).turns ≡ w.turns + length (own_transfers scrubber ts)
turns_on range w [] = let e : w.turns ≡ w.turns + 0 = omega arith in e
turns_on range w (t ∷ ts) = by (nat_eq t.master scrubber) refl (turns_on range (walk_by range w t) ts)
  where
    by : (b : Bool) → nat_eq t.master scrubber ≡ b → (fold (walk_by range) (walk_by range w t) ts).turns ≡ (walk_by range w t).turns + length (own_transfers scrubber ts)
        → (fold (walk_by range) (walk_by range w t) ts).turns ≡ w.turns + length (cond (nat_eq t.master scrubber) (t ∷ own_transfers scrubber ts) (own_transfers scrubber ts))
    by true is rest =
        let step : (walk_by range w t).turns ≡ w.turns + 1 = ap (λ (b : Bool). (cond b (walked range t w w.noted) w).turns) is ∙ walked_turns range t w w.noted in
        let more : length (cond (nat_eq t.master scrubber) (t ∷ own_transfers scrubber ts) (own_transfers scrubber ts)) ≡ length (own_transfers scrubber ts) + 1 =
        ap (λ (b : Bool). length (cond b (t ∷ own_transfers scrubber ts) (own_transfers scrubber ts))) is ∙ (let e : length (t ∷ own_transfers scrubber ts) ≡ length (own_transfers scrubber ts) + 1 = omega arith in e) in
        omega (arith, rest, step, more)
    by false is rest =
        let step : (walk_by range w t).turns ≡ w.turns = ap (λ (b : Bool). (cond b (walked range t w w.noted) w).turns) is in
        let more : length (cond (nat_eq t.master scrubber) (t ∷ own_transfers scrubber ts) (own_transfers scrubber ts)) ≡ length (own_transfers scrubber ts) =
        ap (λ (b : Bool). length (cond b (t ∷ own_transfers scrubber ts) (own_transfers scrubber ts))) is in
        omega (arith, rest, step, more)

pub turns_made : (range : Range) (ts : List Transfer) → (walk_after range ts).turns ≡ length (own_transfers scrubber ts)
turns_made range ts = turns_on range (walk_start range) ts ∙ (let e : 0 + length (own_transfers scrubber ts) ≡ length (own_transfers scrubber ts) = omega arith in e)

-- so it has one left on the bus
pub scrub_turn : (s : WalkState) (bus : BusState) (w : Who) → MayWalk s bus → w.master ≡ scrubber → IsScrubTurn w bus
scrub_turn s bus w may is = record {
  master = is;
  share =
      let made : (walk_after s.config.scrub bus.transfers).turns ≡ length (own_transfers scrubber bus.transfers) = turns_made s.config.scrub bus.transfers in
      let walk : s.walk.turns ≡ (walk_after s.config.scrub bus.transfers).turns = ap (λ (x : Walk). x.turns) may.own in
      let most : bus.setup.config.scrub_turns ≡ s.config.scrub_turns = ap (λ (c : Config). c.scrub_turns) may.setup in
      let left = may.left in
      omega (arith, made, walk, most, left);
}

-- ---- one more transfer

pub walk_push : (range : Range) (ts : List Transfer) (t : Transfer) → t.master ≡ scrubber
    → walk_after range (ts ++ t ∷ []) ≡ walked range t (walk_after range ts) (walk_after range ts).noted
walk_push range ts t is =
    fold_push (walk_by range) (walk_start range) ts t
    ∙ ap (λ (b : Bool). cond b (walked range t (walk_after range ts) (walk_after range ts).noted) (walk_after range ts)) (eq-eqb t.master scrubber is)

-- what is noted by a look
pub look_noted : (bus : BusState) (w : Who) (line : ℕ)
    → words_noted (answered bus (asked_by bus w Look whys.None line 0 0)) ≡ noted_in line (line_shown (memory_of bus) line).syn
look_noted bus w line =
    ap (λ (syndromes : List ℕ). map (λ j. line + 4 * j) (filter (λ j. not (nat_eq (slice_index syndromes j) 0)) (range_with_len 0 8)))
    (syndromes_read (words_met (memory_of bus)) (asked_by bus w Look whys.None line 0 0))

-- ---- its line stays in its range, and the words that it notes lie in RAM

pub record IsLine (config : Config) (line : ℕ) : Type 0 where
  pub aligned : line % 32 ≡ 0
  pub low : config.scrub.first ≤ line
  pub high : line + 32 ≤ config.scrub.first + config.scrub.length

pub first_is_line : (config : Config) → IsScrubRange config → IsLine config config.scrub.first
first_is_line config range = record { aligned = range.first; low = omega arith; high = omega (arith, range.lines, range.some_line) }

pub next_is_line : (config : Config) (line : ℕ) → IsScrubRange config → IsLine config line → IsLine config (next_line config.scrub line)
next_is_line config line range is = by (nat_eq (line + 32) (config.scrub.first + config.scrub.length)) refl
  where
    by : (b : Bool) → nat_eq (line + 32) (config.scrub.first + config.scrub.length) ≡ b → IsLine config (cond b config.scrub.first (line + 32))
    by true last = record { aligned = range.first; low = omega arith; high = omega (arith, range.first, range.lines, range.some_line) }
    by false inside =
        let other : line + 32 ≢ config.scrub.first + config.scrub.length = λ e. false≢true (sym inside ∙ eq-eqb (line + 32) (config.scrub.first + config.scrub.length) e) in
        record {
          aligned = omega (arith, is.aligned);
          low = omega (arith, is.low);
          high = omega (arith, is.aligned, is.high, range.first, range.lines, other);
        }

pub line_in_ram : (config : Config) (line : ℕ) → IsScrubRange config → IsLine config line → IsTrue (is_in_ram config.ram line 32)
line_in_ram config line range is =
    let tests = and_parts (nat_le ram_first config.scrub.first) (nat_le (config.scrub.first + config.scrub.length) (ram_first + config.ram)) range.in_ram in
    let low = leb-true ram_first config.scrub.first tests.0 in
    let high = leb-true (config.scrub.first + config.scrub.length) (ram_first + config.ram) tests.1 in
    let from = is.low in
    let to = is.high in
    in_ram (omega (arith, low, from)) (omega (arith, high, to))
  where
    in_ram : ram_first ≤ line → line + 32 ≤ ram_first + config.ram → IsTrue (nat_le ram_first line && nat_le (line + 32) (ram_first + config.ram))
    in_ram low high = grind (arith, nat_tests)

word_in : (ram line place : ℕ) → line % 32 ≡ 0 → IsTrue (is_in_ram ram line 32) → place < 8 → IsWordOfRam ram (line + 4 * place)
word_in ram line place aligned inside within = record { aligned = omega (arith, aligned); in_ram = grind (arith, nat_tests) }

noted_words : (ram line : ℕ) (syndromes : List ℕ) (first count : ℕ) → line % 32 ≡ 0 → IsTrue (is_in_ram ram line 32) → first + count ≤ 8
    → AllByRecursion (IsWordOfRam ram) (map (λ place. line + 4 * place) (filter (λ place. not (nat_eq (slice_index syndromes place) 0)) (range_with_len first count)))
noted_words ram line syndromes first zero aligned inside few = tt
noted_words ram line syndromes first (suc count) aligned inside few =
    by (not (nat_eq (slice_index syndromes first) 0)) (noted_words ram line syndromes (first + 1) count aligned inside (omega (arith, few)))
  where
    by : (b : Bool) → AllByRecursion (IsWordOfRam ram) (map (λ place. line + 4 * place) (filter (λ place. not (nat_eq (slice_index syndromes place) 0)) (range_with_len (first + 1) count)))
        → AllByRecursion (IsWordOfRam ram) (map (λ place. line + 4 * place)
        (cond b (first ∷ filter (λ place. not (nat_eq (slice_index syndromes place) 0)) (range_with_len (first + 1) count)) (filter (λ place. not (nat_eq (slice_index syndromes place) 0)) (range_with_len (first + 1) count))))
    by true rest = (word_in ram line first aligned inside (omega (arith, few)), rest)
    by false rest = rest

pub noted_in_ram : (ram line : ℕ) (syndromes : List ℕ) → line % 32 ≡ 0 → IsTrue (is_in_ram ram line 32) → AllByRecursion (IsWordOfRam ram) (noted_in line syndromes)
noted_in_ram ram line syndromes aligned inside = noted_words ram line syndromes 0 8 aligned inside (omega arith)

-- ---- a look

module _ (s : WalkState) (bus : BusState) (may : MayWalk s bus) (w : Who) (who : w ≡ record { master = scrubber; step = s.walk.turns }) where
  by_scrubber : w.master ≡ scrubber
  by_scrubber = ap (λ (x : Who). x.master) who

  pub look_made : s.walk.noted ≡ [] → after_turn (asked_by bus w Look whys.None s.walk.line 0 0) [] bus.values bus ≡ walk_made s bus
  look_made none =
      ap (λ (x : Who). after_turn (asked_by bus x Look whys.None s.walk.line 0 0) [] bus.values bus) who
      ∙ ap (λ (noted : List ℕ). after_turn (next_transfer (length bus.transfers) s.walk noted) [] bus.values bus) (sym none)

  pub look_walked : (new : BusState) (read : Line) → new ≡ after_turn (asked_by bus w Look whys.None s.walk.line 0 0) [] bus.values bus → s.walk.noted ≡ []
      → read ≡ line_shown (memory_of bus) s.walk.line
      → record { line = next_line s.config.scrub s.walk.line; noted = noted_in s.walk.line read.syn; turns = s.walk.turns + 1 } ≡ walk_after s.config.scrub new.transfers
  look_walked new read made none shown = sym (
      ap (λ (b : BusState). walk_after s.config.scrub b.transfers) made
      ∙ walk_push s.config.scrub bus.transfers (answered bus (asked_by bus w Look whys.None s.walk.line 0 0)) by_scrubber
      ∙ ap (λ (x : Walk). walked s.config.scrub (answered bus (asked_by bus w Look whys.None s.walk.line 0 0)) x x.noted) (sym may.own)
      ∙ ap (walked s.config.scrub (answered bus (asked_by bus w Look whys.None s.walk.line 0 0)) s.walk) none
      ∙ ap (λ (noted : List ℕ). record { line = next_line s.config.scrub s.walk.line; noted = noted; turns = s.walk.turns + 1 })
      (look_noted bus w s.walk.line ∙ ap (λ (line : Line). noted_in s.walk.line line.syn) (sym shown))
      )

  -- ---- a fix

  pub fix_made : (addr : ℕ) (rest : List ℕ) → s.walk.noted ≡ addr ∷ rest → after_turn (asked_by bus w Fix whys.None addr 0 0) [] bus.values bus ≡ walk_made s bus
  fix_made addr rest some =
      ap (λ (x : Who). after_turn (asked_by bus x Fix whys.None addr 0 0) [] bus.values bus) who
      ∙ ap (λ (noted : List ℕ). after_turn (next_transfer (length bus.transfers) s.walk noted) [] bus.values bus) (sym some)

  pub fix_walked : (new : BusState) (addr : ℕ) (rest : List ℕ) → new ≡ after_turn (asked_by bus w Fix whys.None addr 0 0) [] bus.values bus → s.walk.noted ≡ addr ∷ rest
      → record { line = s.walk.line; noted = rest; turns = s.walk.turns + 1 } ≡ walk_after s.config.scrub new.transfers
  fix_walked new addr rest made some = sym (
      ap (λ (b : BusState). walk_after s.config.scrub b.transfers) made
      ∙ walk_push s.config.scrub bus.transfers (answered bus (asked_by bus w Fix whys.None addr 0 0)) by_scrubber
      ∙ ap (λ (x : Walk). walked s.config.scrub (answered bus (asked_by bus w Fix whys.None addr 0 0)) x x.noted) (sym may.own)
      ∙ ap (walked s.config.scrub (answered bus (asked_by bus w Fix whys.None addr 0 0)) s.walk) some
      )

-- the first of some words, and those after it
pub first_and_rest : (noted : List ℕ) (addr : ℕ) → 0 < length noted → addr ≡ slice_index_or noted 0 addr → noted ≡ addr ∷ remove noted 0
first_and_rest [] addr some is = absurd (omega arith)
first_and_rest (x ∷ xs) addr some is = ap (λ (y : ℕ). y ∷ xs) (sym is)
