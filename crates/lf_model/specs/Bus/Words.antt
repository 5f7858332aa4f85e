-- The memory words that the script strikes, each with its history: flips strike as a turn of the bus begins, and transfers read
-- and write (GRLIB, FTAHBRAM). A word that no flip strikes reads clean.
use Rattle.std.specs.Prelude.{ℕ, ◌+◌, ◌-◌, ◌*◌, ◌%◌, ◌==◌, ◌&&◌, nat_lt, Bool, false, List, [], ◌∷◌, ◌++◌, length, map, find, fold, Option, Some, None, if◌then◌else◌}
use Rattle.std.specs.List.{list_any, range_with_len}
use Rattle.std.specs.Option.{option_map_or}
use Rattle.lf_model.specs.Course.Syndromes.{has_address, packed}
use Rattle.lf_model.specs.Flips.{How, Moment, is_bad_word, is_fixed_word, syndrome}
use Rattle.lf_model.specs.Flips.How.{Whole, ByPartStore, ByAtomic, ByFix}
use Rattle.lf_model.specs.Flips.Moment.{Struck, Written, Named}
use Rattle.lf_model.specs.NumberedFlips.{numbered_flips}
use Rattle.lf_model.specs.declared.bus.Transfer.{Transfer}
use Rattle.lf_model.specs.declared.bus.TurnKind.{TurnKind}
use Rattle.lf_model.specs.declared.bus.TurnKind.TheVariants.{Fetch, Load, Store, Atomic, Snoop, Look, Fix}
use Rattle.lf_model.specs.declared.flip.Flip.{Flip}
use Rattle.lf_model.specs.declared.flip.Flip.TheVariants.{Mem, Reg, Tag, Line}

-- a word by its address, which is a multiple of 4, and its history
pub record Word : Type 0 where
  pub addr : ℕ
  pub history : List Moment

abbrev pub is_at : ℕ → Word → Bool
is_at addr word = word.addr == addr

-- the words with one more of this address, unless it is there
abbrev pub with_word : List Word → ℕ → List Word
with_word words addr = if list_any (is_at addr) words then words else words ++ record { addr = addr; history = [] } ∷ []

abbrev pub with_struck : List Word → Flip → List Word
with_struck words (Mem turn addr bit) = with_word words addr
with_struck words (Reg core step cell bit) = words
with_struck words (Tag core step fetch way set byte bit) = words
with_struck words (Line core step fetch way set byte bit) = words

-- the words that a script strikes, as they are at the start
abbrev pub words_struck : List Flip → List Word
words_struck script = fold with_struck [] script

abbrev pub history_of : Word → List Moment
history_of word = word.history

-- the history of the word at an address
abbrev pub word_history : List Word → ℕ → List Moment
word_history words addr = option_map_or history_of (find (is_at addr) words) []

-- ---- a turn begins

abbrev pub struck_word : ℕ → ℕ → ℕ → Word → Word
struck_word number addr bit word = if word.addr == addr then record word { history = Struck number bit ∷ word.history } else word

-- a flip with this number strikes, if it is for this turn
abbrev pub strike_word : ℕ → ℕ → List Word → Flip → List Word
strike_word at number words (Mem turn addr bit) = if turn == at then map (struck_word number addr bit) words else words
strike_word at number words (Reg core step cell bit) = words
strike_word at number words (Tag core step fetch way set byte bit) = words
strike_word at number words (Line core step fetch way set byte bit) = words

-- the flips of the script for a turn strike, in the order of the script
abbrev pub words_begun : List Flip → ℕ → List Word → List Word
words_begun script turn words = fold (λ ws (flip : ℕ × Flip). strike_word turn flip.0 ws flip.1) words (numbered_flips script)

-- ---- what a transfer reads

-- the word in which a byte lies, and the words of a line
abbrev pub word_of : ℕ → ℕ
word_of addr = addr - addr % 4

abbrev pub words_of_line : ℕ → List ℕ
words_of_line line = map (λ j. line + 4 * j) (range_with_len 0 8)

-- the words that a transfer reads: a store of words reads none
abbrev pub words_by_kind : ℕ → ℕ → TurnKind → List ℕ
words_by_kind addr len Fetch = words_of_line addr
words_by_kind addr len Load = words_of_line addr
words_by_kind addr len Store = if nat_lt len 4 then word_of addr ∷ [] else []
words_by_kind addr len Atomic = word_of addr ∷ []
words_by_kind addr len Snoop = []
words_by_kind addr len Look = words_of_line addr
words_by_kind addr len Fix = addr ∷ []

abbrev pub words_read : Transfer → List ℕ
words_read t = if has_address t then words_by_kind t.addr t.len t.kind else []

-- the transfer with what memory answers: the number of words read, and their syndromes
abbrev pub answered : List Word → Transfer → Transfer
answered words t = record t {
  words = length (words_read t);
  syn = packed (map (λ addr. syndrome (word_history words addr)) (words_read t));
}

-- ---- what a transfer writes

-- it touches the word: a store or an atomic where one of its bytes lies in it, and a fix its own word
abbrev pub touches_word : ℕ → ℕ → ℕ → TurnKind → Bool
touches_word addr len word Fetch = false
touches_word addr len word Load = false
touches_word addr len word Store = nat_lt addr (word + 4) && nat_lt word (addr + len)
touches_word addr len word Atomic = nat_lt addr (word + 4) && nat_lt word (addr + len)
touches_word addr len word Snoop = false
touches_word addr len word Look = false
touches_word addr len word Fix = addr == word

-- how it writes a word of this history that it touches, if it does: a store of words whole; a part store and an atomic
-- unless the word is bad; a fix where the word is fixed
abbrev pub write_of : ℕ → List Moment → TurnKind → Option How
write_of len h Fetch = None
write_of len h Load = None
write_of len h Store = if nat_lt len 4 then (if is_bad_word h then None else Some ByPartStore) else Some Whole
write_of len h Atomic = if is_bad_word h then None else Some ByAtomic
write_of len h Snoop = None
write_of len h Look = None
write_of len h Fix = if is_fixed_word h then Some ByFix else None

abbrev pub with_write : Option How → List Moment → List Moment
with_write None h = h
with_write (Some how) h = Written how ∷ h

abbrev pub write_by : Transfer → Word → Option How
write_by t word = if has_address t && touches_word t.addr t.len word.addr t.kind then write_of t.len word.history t.kind else None

-- an error trap at the transfer names the word
abbrev pub with_name : Option ℕ → Word → Word
with_name None word = word
with_name (Some addr) word = if word.addr == addr then record word { history = Named ∷ word.history } else word

-- the words after a transfer, at which an error trap names a word or none
abbrev pub words_after : Transfer → Option ℕ → List Word → List Word
words_after t named words = map (λ word. with_name named (record word { history = with_write (write_by t word) word.history })) words
