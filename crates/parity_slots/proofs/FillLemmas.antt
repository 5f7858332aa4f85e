-- The bytes that a fill writes are bytes.
use Rattle.std.proofs.Common.{◌≡◌, ℕ, zero, suc, ◌/◌, ◌%◌, ◌^◌, ◌<◌, List, length, map, slice_index, sym, ap, ◌∙◌, subst, lit<, arith}
use Rattle.std.proofs.lemmas.List.{get_or-map}
use Rattle.std.proofs.lemmas.List.FromFn.{get_or-map-range_with_len}
use Rattle.lf_model.specs.Caches.Slot.{tag_of}
use Rattle.lf_model.specs.Operation.{byte_of}
use Rattle.parity_slots.specs.SlotState.{bytes_of}
use Rattle.parity_units.specs.Bytes.{fresh_byte}
use Rattle.parity_units.specs.Events.{no_byte, byte_at}

pub tag_fits : (addr valid : ℕ) → valid < 2 ^ 8 → (i : ℕ) → slice_index (tag_of addr valid) i < 2 ^ 8
tag_fits addr valid fits zero = omega arith
tag_fits addr valid fits (suc zero) = omega arith
tag_fits addr valid fits (suc (suc zero)) = omega arith
tag_fits addr valid fits (suc (suc (suc zero))) = fits
tag_fits addr valid fits (suc (suc (suc (suc i)))) = lit< tt

-- byte i of eight words
pub byte_in : (words : List ℕ) (i : ℕ) → i < 32 → slice_index (bytes_of words) i ≡ byte_of (slice_index words (i / 4)) 4 (i % 4)
byte_in words i lt = get_or-map-range_with_len (λ j. byte_of (slice_index words (j / 4)) 4 (j % 4)) 0 32 i i 0 lt (omega arith)

pub bytes_fit : (words : List ℕ) (i : ℕ) → i < length (bytes_of words) → slice_index (bytes_of words) i < 2 ^ 8
bytes_fit words i lt =
    let within : i < 32 = lt in
    let small : byte_of (slice_index words (i / 4)) 4 (i % 4) < 2 ^ 8 = omega arith in
    subst (λ (b : ℕ). b < 2 ^ 8) (sym (byte_in words i within)) small

pub fresh_in : (words : List ℕ) (i : ℕ) → i < 32 → byte_at (map fresh_byte (bytes_of words)) i ≡ fresh_byte (byte_of (slice_index words (i / 4)) 4 (i % 4))
fresh_in words i lt = get_or-map fresh_byte (bytes_of words) i 0 no_byte lt ∙ ap fresh_byte (byte_in words i lt)
