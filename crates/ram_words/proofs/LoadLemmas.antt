-- The bytes of RAM while segments are loaded, the last one first.
use Rattle.std.proofs.Common.{◌≡◌, ℕ, zero, suc, ◌+◌, ◌*◌, ◌^◌, ◌<◌, ◌≤◌, ◌/◌, ◌%◌, List, [], ◌∷◌, ◌++◌, map, length, slice_index_or, slice_index, refl, sym, ap, ap₂, ◌∙◌, IsTrue, arith}
use Rattle.std.specs.Prelude.{find}
use Rattle.std.specs.Option.{option_map_or}
use Rattle.std.specs.List.{range_with_len}
use Rattle.std.proofs.lemmas.List.FromFn.{get_or-map-range_with_len, map-range_with_len_more}
use Rattle.std.proofs.lemmas.Bool.Decides.{nat_tests}
use Rattle.ram_words.specs.Ram.{place_of, first_words}
use Rattle.lf_model.specs.Start.{ram_first, is_in_ram, covers, byte_in, initial_byte, number_at, word_at}
use Rattle.lf_model.specs.declared.image.Segment.{Segment}
use Rattle.lf_model.specs.declared.image.Image.{Image}

-- the bytes are those of the segments, 0 elsewhere
pub record AreLoaded (segments : List Segment) (bytes : List ℕ) : Type 0 where
  pub at : (k : ℕ) → k < length bytes → slice_index bytes k ≡ option_map_or (byte_in (ram_first + k)) (find (covers (ram_first + k)) segments) 0

-- numbers of equal bytes are equal
pub number_at-same : (f g : ℕ → ℕ) (a b n : ℕ) → ((i : ℕ) → i < n → f (a + i) ≡ g (b + i)) → number_at f a n ≡ number_at g b n
unfolding number_at
number_at-same f g a b zero same = refl
number_at-same f g a b (suc n) same =
    ap₂ (λ (high low : ℕ). high * 2 ^ 8 + low) (number_at-same f g a b n (λ i lt. same i (omega arith))) (same n (omega arith))

-- a word of the loaded bytes is the image's word
pub word_loaded : (image : Image) (bytes : List ℕ) (ram place : ℕ) → ((k : ℕ) → k < ram → slice_index bytes k ≡ initial_byte image (ram_first + k))
    → 4 * place + 4 ≤ ram → number_at (slice_index bytes) (4 * place) 4 ≡ word_at image (ram_first + 4 * place)
word_loaded image bytes ram place loaded within =
    number_at-same (slice_index bytes) (initial_byte image) (4 * place) (ram_first + 4 * place) 4
    (λ i lt. loaded (4 * place + i) (omega arith) ∙ ap (initial_byte image) (omega arith))

-- the first words of RAM
abbrev pub words_to : Image → ℕ → List ℕ
words_to image count = map (λ place. word_at image (ram_first + 4 * place)) (range_with_len 0 count)

-- one more
pub words_to-more : (image : Image) (count : ℕ) {word : ℕ} → word ≡ word_at image (ram_first + 4 * count) → words_to image count ++ word ∷ [] ≡ words_to image (count + 1)
words_to-more image count is =
    ap (λ (last : ℕ). words_to image count ++ last ∷ []) is
    ∙ sym (map-range_with_len_more (λ place. word_at image (ram_first + 4 * place)) 0 count count (omega arith))

-- the word at an address
pub first_word-at : (ram : ℕ) (image : Image) (addr default : ℕ) → ram % 4 ≡ 0 → IsTrue (is_in_ram ram addr 4) → addr % 4 ≡ 0
    → slice_index_or (first_words ram image) (place_of addr) default ≡ word_at image addr
first_word-at ram image addr default whole in_ram aligned =
    let within : place_of addr < ram / 4 = grind (arith, nat_tests) in
    let address : ram_first + 4 * place_of addr ≡ addr = grind (arith, nat_tests) in
    get_or-map-range_with_len (λ place. word_at image (ram_first + 4 * place)) 0 (ram / 4) (place_of addr) (place_of addr) default within (omega arith)
    ∙ ap (word_at image) address
