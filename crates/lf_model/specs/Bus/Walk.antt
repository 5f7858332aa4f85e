-- The walk of the scrubber (GRLIB, MEMSCRUB, scrub mode): it looks at its range line by line, round and round, and after each
-- look makes one fix for each word that it read not clean, in the order of their addresses. The order is this machine's own.
use Rattle.std.specs.Prelude.{ℕ, ◌≡◌, ◌<◌, ◌+◌, ◌*◌, ◌==◌, not, List, [], ◌∷◌, length, filter, map, fold, take, slice_get, slice_index, IfSome, if◌then◌else◌}
use Rattle.std.specs.List.{range_with_len}
use Rattle.lf_model.specs.Course.Syndromes.{syndromes_of}
use Rattle.lf_model.specs.declared.bus.Transfer.{Transfer}
use Rattle.lf_model.specs.declared.bus.TurnKind.TheVariants.{Look, Fix}
use Rattle.lf_model.specs.declared.bus.Why.TheVariants as whys
use Rattle.lf_model.specs.declared.image.Range.{Range}

-- the scrubber's number as a master of the bus
abbrev pub scrubber : ℕ
scrubber = 8

-- the line that it looks at next, the words that it still has to fix, and how many turns it made
pub record Walk : Type 0 where
  pub line : ℕ
  pub noted : List ℕ
  pub turns : ℕ

abbrev pub walk_start : Range → Walk
walk_start range = record { line = range.first; noted = []; turns = 0 }

-- the line after this one, round the range
abbrev pub next_line : Range → ℕ → ℕ
next_line range line = if line + 32 == range.first + range.length then range.first else line + 32

-- the scrubber's next transfer, at this turn, before memory answers
abbrev pub next_transfer : ℕ → Walk → List ℕ → Transfer
next_transfer turn w [] = record {
  syn = 0;
  turn = turn;
  master = scrubber;
  step = w.turns;
  addr = w.line;
  kind = Look;
  why = whys.None;
  way = 0;
  words = 0;
  len = 0;
}
next_transfer turn w (addr ∷ rest) = record {
  syn = 0;
  turn = turn;
  master = scrubber;
  step = w.turns;
  addr = addr;
  kind = Fix;
  why = whys.None;
  way = 0;
  words = 0;
  len = 0;
}

-- the words that a look read not clean
abbrev pub words_noted : Transfer → List ℕ
words_noted t = map (λ j. t.addr + 4 * j) (filter (λ j. not (slice_index (syndromes_of t) j == 0)) (range_with_len 0 t.words))

-- the walk after its next transfer, to which memory answered this
abbrev pub walked : Range → Transfer → Walk → List ℕ → Walk
walked range t w [] = record { line = next_line range w.line; noted = words_noted t; turns = w.turns + 1 }
walked range t w (addr ∷ rest) = record w { noted = rest; turns = w.turns + 1 }

-- ---- the transfers of the scrubber among all transfers

abbrev pub walk_by : Range → Walk → Transfer → Walk
walk_by range w t = if t.master == scrubber then walked range t w w.noted else w

-- the walk after these transfers
abbrev pub walk_after : Range → List Transfer → Walk
walk_after range transfers = fold (walk_by range) (walk_start range) transfers

-- the transfer at this turn, if it is the scrubber's, is the next of its walk
abbrev pub WalkAt : Range → List Transfer → ℕ → Type 0
WalkAt range transfers turn = IfSome (slice_get transfers turn) (λ t. t.master ≡ scrubber
    → record (next_transfer turn (walk_after range (take turn transfers)) (walk_after range (take turn transfers)).noted) { words = t.words; syn = t.syn } ≡ t)

-- the scrubber's transfers are its whole walk over this range, with so many turns
pub record IsWholeWalk (range : Range) (turns : ℕ) (transfers : List Transfer) : Type 0 where
  pub each : (turn : ℕ) → turn < length transfers → WalkAt range transfers turn
  pub all : (walk_after range transfers).turns ≡ turns
