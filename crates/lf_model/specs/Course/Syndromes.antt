-- What a transfer shows of the words that it read: their syndromes, by which each of them was clean, fixed or bad.
use Rattle.std.specs.Prelude.{ℕ, ◌+◌, ◌-◌, ◌*◌, ◌/◌, ◌%◌, ◌^◌, ◌==◌, ◌&&◌, not, Bool, List, length, map, fold, slice_index}
use Rattle.std.specs.List.{list_any, range_with_len}
use Rattle.lf_num.specs.Columns.{columns}
use Rattle.lf_model.specs.TransferLines.{makes_entry}
use Rattle.lf_model.specs.declared.bus.Transfer.{Transfer}

-- a word with this syndrome is bad: two of its bits are turned, and no single one explains it. Of a word with a history this is so
-- exactly where `is_bad_word` holds of that: the lemma `bad_by_syndrome`.
abbrev pub is_bad_syndrome : ℕ → Bool
is_bad_syndrome syn = not (syn == 0) && not (list_any (λ column. column == syn) columns)

-- up to eight syndromes in one number, eight bits each, the first in the top byte
abbrev pub packed : List ℕ → ℕ
packed syns = fold (λ n syn. n * 256 + syn) 0 syns * 2 ^ (64 - 8 * length syns)

-- the syndromes of the words that a transfer read, in the order of their addresses
abbrev pub syndromes_of : Transfer → List ℕ
syndromes_of t = map (λ j. t.syn / 2 ^ (56 - 8 * j) % 256) (range_with_len 0 t.words)

-- word j of those that a transfer read was bad
abbrev pub met_bad : Transfer → ℕ → Bool
met_bad t j = is_bad_syndrome (slice_index (syndromes_of t) j)

-- address 0, which is outside RAM, is that of a transfer that only catches up
abbrev pub has_address : Transfer → Bool
has_address t = not (t.addr == 0)

-- the transfer enters the log: it is a store or an atomic, and met no bad word
abbrev pub enters_log : Transfer → Bool
enters_log t = makes_entry t.kind && has_address t && not (list_any is_bad_syndrome (syndromes_of t))
