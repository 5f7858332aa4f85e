-- The flips of a drill are of its machine, and no two of them strike the same memory word.
use Rattle.std.proofs.Common.{ℕ, zero, suc, ◌≡◌, ◌+◌, ◌*◌, ◌/◌, ◌%◌, ◌<◌, ◌≤◌, ◌^◌, ◌==◌, Bool, true, false, All, AllPairs, length, refl, ap, arith}
use Rattle.std.specs.Prelude.{if◌then◌else◌}
use Rattle.std.proofs.Math.Nat.{mod-lt}
use Rattle.std.proofs.lemmas.Bool.{le-leb}
use Rattle.std.proofs.lemmas.List.Elements.{All-cons, All-nil}
use Rattle.std.proofs.lemmas.List.Kept.{AllPairs-cons}
use Rattle.lf_model.specs.Start.{ram_first}
use Rattle.lf_model.specs.declared.flip.Flip.{Flip}
use Rattle.run_texts.specs.FlipLine.{IsStepOf, IsOfMachine}
use Rattle.run_texts.specs.Keys.{IsWordOfRam}
use Rattle.work_gen.specs.Draws.{next_state, drawn}
use Rattle.work_gen.specs.Drill.{core_of, step_of, memory_flip, line_flip, tag_flip, flip_of, flips_from, drill_flips, drill_config, StrikesNoCell, StrikeOtherWords, IsCorrectable}

-- ---- flips one by one

module _ (size : ℕ) where
  -- what holds of the flip with this number, whatever is drawn, holds of all flips with such numbers
  each_flip : (P : Flip → Type 0) (n i count state : ℕ) → ((j draw : ℕ) → i ≤ j → j < n → P (flip_of size j draw)) → i + count ≤ n
      → All P (flips_from size i count state)
  each_flip P n i zero state holds within = All-nil P
  each_flip P n i (suc count) state holds within =
      All-cons P _ _ (holds i (drawn (next_state state)) (omega arith) (omega (arith, within)))
      (each_flip P n (i + 1) count (next_state state) (λ j draw from. holds j draw (omega (arith, from))) (omega (arith, within)))

  -- the same of pairs
  each_pair : (R : Flip → Flip → Type 0) → ((i j first second : ℕ) → i < j → R (flip_of size i first) (flip_of size j second))
      → (i count state : ℕ) → AllPairs R (flips_from size i count state)
  each_pair R holds i zero state = λ a b d before within. absurd (omega (arith, before, within))
  each_pair R holds i (suc count) state =
      AllPairs-cons R _ _
      (each_flip (R (flip_of size i (drawn (next_state state)))) (i + 1 + count) (i + 1) count (next_state state)
      (λ j draw from within. holds i j (drawn (next_state state)) draw (omega (arith, from))) (omega arith))
      (each_pair R holds (i + 1) count (next_state state))

  length_flips : (i count state : ℕ) → length (flips_from size i count state) ≡ count
  length_flips i zero state = refl
  length_flips i (suc count) state = ap suc (length_flips (i + 1) count (next_state state))

  -- what holds of each kind of flip holds of a flip
  of_kinds : (P : Flip → Type 0) (i draw : ℕ) → P (memory_flip i draw) → P (line_flip true size draw) → P (line_flip false size draw)
      → P (tag_flip size draw) → P (flip_of size i draw)
  of_kinds P i draw of_memory of_fetch of_load of_tag = by_number (i % 4 == 0) (i % 4 == 1) (i % 4 == 2)
    where
      by_number : (zeroth first second : Bool)
          → P (if zeroth then memory_flip i draw
          else (if first then line_flip true size draw else (if second then line_flip false size draw else tag_flip size draw)))
      by_number true first second = of_memory
      by_number false true second = of_fetch
      by_number false false true = of_load
      by_number false false false = of_tag

  -- ---- the machine has what they strike

  word_of_ram : (i : ℕ) → i < 65536 → IsWordOfRam 1048576 (ram_first + 4 * i)
  word_of_ram i few =
      (omega arith, rw (le-leb ram_first (ram_first + 4 * i) (omega arith), le-leb (ram_first + 4 * i + 4) (ram_first + 1048576) (omega (arith, few))) refl)

  flip_fits : (i draw : ℕ) → 0 < size → i < 65536 → IsOfMachine (drill_config size) (flip_of size i draw)
  flip_fits i draw some few =
      let below : draw / 4 % size < size = mod-lt (draw / 4) some in
      let step : IsStepOf (drill_config size) (core_of draw) (step_of size draw) = (omega arith, omega (arith, below)) in
      of_kinds (IsOfMachine (drill_config size)) i draw
      (omega arith, word_of_ram i few, omega arith)
      (step, (omega arith, omega arith, omega arith, omega arith))
      (step, (omega arith, omega arith, omega arith, omega arith))
      (step, (omega arith, omega arith, omega arith, omega arith))

  pub fit : (start count : ℕ) → 0 < size → count ≤ 65536 → All (IsOfMachine (drill_config size)) (drill_flips start size count)
  fit start count some few =
      each_flip (IsOfMachine (drill_config size)) 65536 0 count ((start + 1) % 2 ^ 64) (λ i draw from within. flip_fits i draw some within) (omega (arith, few))

  -- ---- they strike no register, and words that differ

  no_cell : (i draw : ℕ) → StrikesNoCell (flip_of size i draw)
  no_cell i draw = of_kinds StrikesNoCell i draw tt tt tt tt

  words_differ : (i j first second : ℕ) → i < j → StrikeOtherWords (flip_of size i first) (flip_of size j second)
  words_differ i j first second before =
      of_kinds (λ flip. StrikeOtherWords flip (flip_of size j second)) i first
      (of_kinds (StrikeOtherWords (memory_flip i first)) j second (omega (arith, before)) tt tt tt) tt tt tt

  pub correctable : (start count : ℕ) → IsCorrectable (drill_flips start size count)
  correctable start count = record {
    cells = each_flip StrikesNoCell count 0 count ((start + 1) % 2 ^ 64) (λ i draw from within. no_cell i draw) (omega arith);
    words = each_pair StrikeOtherWords words_differ 0 count ((start + 1) % 2 ^ 64);
  }

  pub length-drill_flips : (start count : ℕ) → length (drill_flips start size count) ≡ count
  length-drill_flips start count = length_flips 0 count ((start + 1) % 2 ^ 64)
