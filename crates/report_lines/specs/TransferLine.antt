-- How the line of a transfer is read. Of a store that read no word the length is read off its dashes, 8 or else 0; of any other
-- transfer it is 0.
use Rattle.std.specs.Prelude.{ℕ, ◌*◌, ◌^◌, ◌==◌, ◌∷◌, [], List, Bool, false, codes}
use Rattle.lf_model.specs.TransferLines.{kind_word, why_word}
use Rattle.lf_model.specs.Promise.RegularTransfer.{causes_of, address_fits}
use Rattle.lf_model.specs.declared.bus.TurnKind.{TurnKind}
use Rattle.lf_model.specs.declared.bus.TurnKind.TheVariants.{Fetch, Load, Store, Atomic, Snoop, Look, Fix}
use Rattle.lf_model.specs.declared.bus.Transfer.{Transfer}
use Rattle.report_fields.specs.Reading.{Read, without, past, then_at, as_at, kept, either, row, word_at}
use Rattle.report_fields.specs.Digits.{any, number_at, own_at, hex_at}
use Rattle.report_lines.specs.declared.syndromes.Syndromes.{Syndromes}

abbrev pub kinds : List TurnKind
kinds = Fetch ∷ Load ∷ Store ∷ Atomic ∷ Snoop ∷ Look ∷ Fix ∷ []

-- a snoop is at address 0
unfoldable pub address_at : TurnKind → List ℕ → Read ℕ
address_at kind bytes = kept (λ addr. address_fits addr kind) (hex_at 32 8) bytes

-- the way of a fill, else a dash
abbrev pub filled_at : List ℕ → Read ℕ
filled_at = number_at 32 255

abbrev pub no_way_at : List ℕ → Read ℕ
no_way_at = row (codes "- ") 0

abbrev pub way_at : TurnKind → List ℕ → Read ℕ
way_at Fetch = filled_at
way_at Load = filled_at
way_at Store = no_way_at
way_at Atomic = no_way_at
way_at Snoop = no_way_at
way_at Look = no_way_at
way_at Fix = no_way_at

-- the syndromes of a line of eight words
unfoldable pub line_syndromes_at : List ℕ → Read Syndromes
line_syndromes_at bytes = as_at (λ v. record { syn = v; words = 8; len = 0 }) (hex_at 10 16) bytes

-- the syndrome of one word stands in the top byte
unfoldable pub word_syndrome_at : List ℕ → Read Syndromes
word_syndrome_at bytes = as_at (λ v. record { syn = v * 2 ^ 56; words = 1; len = 0 }) (hex_at 10 2) bytes

abbrev pub no_words : ℕ → Syndromes
no_words len = record { syn = 0; words = 0; len = len }

-- dashes, or the syndrome of the word that a part store read
unfoldable pub store_syndrome_at : List ℕ → Read Syndromes
store_syndrome_at bytes = either (row (codes "----\n") (no_words 8)) (either (row (codes "--\n") (no_words 0)) word_syndrome_at) bytes

-- a store that read no word
abbrev pub shows_dashes : TurnKind → ℕ → Bool
shows_dashes Fetch words = false
shows_dashes Load words = false
shows_dashes Store words = words == 0
shows_dashes Atomic words = false
shows_dashes Snoop words = false
shows_dashes Look words = false
shows_dashes Fix words = false

unfoldable pub snoop_at : List ℕ → Read Syndromes
snoop_at bytes = row (codes "-\n") (no_words 0) bytes

abbrev pub syndromes_at : TurnKind → List ℕ → Read Syndromes
syndromes_at Fetch = line_syndromes_at
syndromes_at Load = line_syndromes_at
syndromes_at Store = store_syndrome_at
syndromes_at Atomic = word_syndrome_at
syndromes_at Snoop = snoop_at
syndromes_at Look = line_syndromes_at
syndromes_at Fix = word_syndrome_at

unfoldable pub transfer_at : ℕ → List ℕ → Read Transfer
transfer_at turn bytes = past (without (codes "t ")) (past (own_at 32 turn) (as_at (λ z. record {
  syn = z.1.1.1.1.1.1.syn;
  turn = turn;
  master = z.0;
  step = z.1.0;
  addr = z.1.1.1.1.0;
  kind = z.1.1.0;
  why = z.1.1.1.0;
  way = z.1.1.1.1.1.0;
  words = z.1.1.1.1.1.1.words;
  len = z.1.1.1.1.1.1.len;
}) (then_at (number_at 32 any) (λ master. then_at (number_at 32 any) (λ step. then_at (word_at kind_word kinds) (λ kind.
    then_at (word_at why_word (causes_of kind)) (λ why. then_at (address_at kind) (λ addr. then_at (way_at kind) (λ way.
    syndromes_at kind))))))))) bytes
