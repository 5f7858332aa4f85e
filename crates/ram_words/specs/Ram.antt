-- The words of RAM, by their numbers from the first address of RAM on, and what they hold at the start.
use Rattle.std.specs.Prelude.{ℕ, ◌+◌, ◌-◌, ◌*◌, ◌/◌, List, map, All, IsTrue}
use Rattle.std.specs.List.{range_with_len}
use Rattle.lf_model.specs.Start.{ram_first, is_in_ram, word_at}
use Rattle.lf_model.specs.declared.image.Image.{Image}

-- the number of the word of RAM that an address lies in
abbrev pub place_of : ℕ → ℕ
place_of addr = (addr - ram_first) / 4

-- each segment of the image lies in RAM of this size
abbrev pub IsInRam : ℕ → Image → Type 0
IsInRam ram image = All (λ segment. IsTrue (is_in_ram ram segment.addr segment.size)) image.segments

-- the words of RAM of this size at the start: each is the image's word at its address
abbrev pub first_words : ℕ → Image → List ℕ
first_words ram image = map (λ place. word_at image (ram_first + 4 * place)) (range_with_len 0 (ram / 4))
