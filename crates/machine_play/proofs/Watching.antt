-- The watched words as memory shows them at the end are those of the definitions, whichever words the stops of the cores name.
use Rattle.std.proofs.Common.{◌≡◌, ◌∙◌, ◌+◌, ◌*◌, ◌<◌, ℕ, Bool, true, false, List, [], ◌∷◌, Option, Some, None, length, map, if◌then◌else◌, refl, ap, ap₂, sym, arith}
use Rattle.std.proofs.lemmas.Bool.{and_parts, leb-true}
use Rattle.std.specs.List.{AllByRecursion}
use Rattle.ahb_bus.specs.BusOk.{BusOk}
use Rattle.ahb_bus.specs.BusState.{BusState, memory_of}
use Rattle.bus_memory.proofs.NamesUnseen.{answer_same, same_turns}
use Rattle.bus_memory.specs.MemoryState.{MemoryState, words_between, words_at, words_met, value_at, value_shown}
use Rattle.lf_model.proofs.SyndromeLaw.{bad_by_syndrome}
use Rattle.lf_model.specs.Bus.Words.{Word, word_history}
use Rattle.lf_model.specs.Course.Syndromes.{packed, is_bad_syndrome}
use Rattle.lf_model.specs.Flips.{is_bad_word, syndrome}
use Rattle.lf_model.specs.Records.AllRecords.{number_left, watched_word}
use Rattle.lf_model.specs.Records.BusMemory.{memory_start, memory_after}
use Rattle.lf_model.specs.Start.{ram_first}
use Rattle.lf_model.specs.declared.bus.Transfer.{Transfer}
use Rattle.lf_model.specs.declared.bus.TurnKind.TheVariants.{Fix}
use Rattle.lf_model.specs.declared.bus.Why.TheVariants as whys
use Rattle.lf_model.specs.declared.flip.Flip.{Flip}
use Rattle.lf_model.specs.declared.trace.Word2.{Word2}
use Rattle.machine_play.specs.Ending.{watched_on}
use Rattle.machine_play.specs.Playable.{IsWordOfRam}
use Rattle.ram_words.specs.Ram.{place_of}

-- ---- a word is bad whichever words are named

-- a transfer that reads this word alone
abbrev reads_word : ℕ → Transfer
reads_word addr = record { turn = 0; master = 0; step = 0; kind = Fix; why = whys.None; addr = addr; way = 0; words = 0; syn = 0; len = 0 }

one_packed : (a b : ℕ) → packed (a ∷ []) ≡ packed (b ∷ []) → a ≡ b
one_packed a b is = omega (arith, is)

module _ (script : List Flip) (named : List Word2) (transfers : List Transfer) (addr : ℕ) where
  abbrev words_named : List Word
  words_named = (memory_after script named transfers).words

  abbrev words_unnamed : List Word
  words_unnamed = (memory_after script [] transfers).words

  same_syndrome : syndrome (word_history words_named addr) ≡ syndrome (word_history words_unnamed addr)
  same_syndrome =
      let same = same_turns script named (memory_start script) (memory_start script) transfers (record { words = refl; turns = refl; answers = refl }) in
      one_packed (syndrome (word_history words_named addr)) (syndrome (word_history words_unnamed addr))
      (ap (λ (t : Transfer). t.syn) (answer_same script words_named words_unnamed (reads_word addr) same.words))

  bad_either_way : is_bad_word (word_history words_unnamed addr) ≡ is_bad_word (word_history words_named addr)
  bad_either_way =
      sym (bad_by_syndrome (word_history words_unnamed addr))
      ∙ (ap is_bad_syndrome (sym same_syndrome) ∙ bad_by_syndrome (word_history words_named addr))

-- ---- the watched words

-- a word of RAM lies at its place
in_place : (ram n addr : ℕ) → IsWordOfRam ram addr → 4 * n ≡ ram → (place_of addr < n) × (ram_first + 4 * place_of addr ≡ addr)
in_place ram n addr at size =
    let parts = and_parts _ _ at.in_ram in
    let low = leb-true ram_first addr parts.0 in
    let high = leb-true (addr + 4) (ram_first + ram) parts.1 in
    let aligned = at.aligned in
    (omega (arith, aligned, low, high, size), omega (arith, aligned, low))

-- no turn is begun: memory meets the words between turns
between : (script : List Flip) (transfers : List Transfer) (begun : Bool) → begun ≡ false → words_at script transfers begun ≡ words_between script transfers
unfolding words_at
between script transfers false idle = refl
between script transfers true idle = absurd cc

shown_by : (m : MemoryState) (ws : List Word) (addr : ℕ) → words_met m ≡ ws → value_shown m addr ≡ (if is_bad_word (word_history ws addr) then None else Some (value_at m addr))
unfolding value_shown
shown_by m ws addr is = ap (λ (vs : List Word). if is_bad_word (word_history vs addr) then None else Some (value_at m addr)) is

abbrev with_value : ℕ → Option ℕ → Word2
with_value addr value = record { addr = addr; value = value }

abbrev shown_as : ℕ → Bool → ℕ → Word2
shown_as addr bad value = record { addr = addr; value = if bad then None else Some value }

module _ (bus : BusState) (ok : BusOk bus) (idle : bus.begun ≡ false) (named : List Word2) where
  one_watched : (addr : ℕ) → IsWordOfRam bus.setup.config.ram addr → watched_on bus addr ≡ watched_word bus.setup.image bus.log (memory_after bus.setup.flips named bus.transfers).words addr
  one_watched addr at =
      let place = in_place bus.setup.config.ram (length bus.values) addr at ok.size in
      let left = ok.memory_is (place_of addr) place.0 ∙ ap (number_left bus.setup.image bus.log) place.1 in
      ap (with_value addr)
      (shown_by (memory_of bus) (words_between bus.setup.flips bus.transfers) addr (between bus.setup.flips bus.transfers bus.begun idle))
      ∙ ap₂ (shown_as addr) (bad_either_way bus.setup.flips named bus.transfers addr) left

  pub all_watched : (addrs : List ℕ) → AllByRecursion (IsWordOfRam bus.setup.config.ram) addrs
      → map (watched_on bus) addrs ≡ map (watched_word bus.setup.image bus.log (memory_after bus.setup.flips named bus.transfers).words) addrs
  all_watched [] all = refl
  all_watched (addr ∷ addrs) all = ap₂ (λ (w : Word2) (ws : List Word2). w ∷ ws) (one_watched addr all.0) (all_watched addrs all.1)
