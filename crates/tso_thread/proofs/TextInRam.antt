-- A text word lies in RAM, and the bytes of RAM at the start hold it.
use Rattle.std.proofs.Common.{◌≡◌, ℕ, ◌+◌, ◌-◌, ◌<◌, ◌≤◌, Bool, true, nat_le, nat_lt, List, [], ◌∷◌, slice_index, sym, ap, ◌∙◌, arith, inl, inr, IsTrue, cond, Some, None}
use Rattle.std.specs.Prelude.{All}
use Rattle.std.specs.List.{list_any}
use Rattle.std.proofs.lemmas.Bool.{cases_Bool, and_parts, leb-true, ltb-true}
use Rattle.std.proofs.lemmas.List.Elements.{All-head, All-tail}
use Rattle.lf_model.specs.Start.{ram_first, initial_byte, number_at, word_at, in_range, is_text_byte, is_text_word, is_in_ram, IsLoadable}
use Rattle.lf_model.specs.declared.image.Range.{Range}
use Rattle.lf_model.specs.declared.image.Image.{Image}
use Rattle.ram_words.proofs.LoadLemmas.{number_at-same}

-- a word of the loaded bytes is the image's word
word_loaded : (image : Image) (bytes : List ℕ) (ram place : ℕ) → ((k : ℕ) → k < ram → slice_index bytes k ≡ initial_byte image (ram_first + k))
    → place + 4 ≤ ram → number_at (slice_index bytes) place 4 ≡ word_at image (ram_first + place)
word_loaded image bytes ram place loaded within =
    number_at-same (slice_index bytes) (initial_byte image) place (ram_first + place) 4
    (λ i lt. loaded (place + i) (omega arith) ∙ ap (initial_byte image) (omega arith))

-- a text byte is in RAM
record IsByteInRam (ram a : ℕ) : Type 0 where
  low : ram_first ≤ a
  high : a < ram_first + ram

range_in_ram : (ram a : ℕ) (r : Range) → IsTrue (is_in_ram ram r.first r.length) → in_range a r ≡ true → IsByteInRam ram a
range_in_ram ram a r inside here =
    let ends = and_parts (nat_le ram_first r.first) (nat_le (r.first + r.length) (ram_first + ram)) inside in
    let its = and_parts (nat_le r.first a) (nat_lt a (r.first + r.length)) here in
    let low : ram_first ≤ r.first = leb-true ram_first r.first ends.0 in
    let high : r.first + r.length ≤ ram_first + ram = leb-true (r.first + r.length) (ram_first + ram) ends.1 in
    let from : r.first ≤ a = leb-true r.first a its.0 in
    let to : a < r.first + r.length = ltb-true a (r.first + r.length) its.1 in
    record { low = omega arith; high = omega arith }

text_byte_in_ram : (ram a : ℕ) (text : List Range) → All (λ r. IsTrue (is_in_ram ram r.first r.length)) text → list_any (in_range a) text ≡ true → IsByteInRam ram a
text_byte_in_ram ram a [] all here = absurd cc
text_byte_in_ram ram a (r ∷ text) all here = elim (cases_Bool (in_range a r)) [
  | inl its ↦ range_in_ram ram a r (All-head (λ r. IsTrue (is_in_ram ram r.first r.length)) r text all) its
  | inr other ↦ text_byte_in_ram ram a text (All-tail (λ r. IsTrue (is_in_ram ram r.first r.length)) r text all) (rw other at here)
]

-- a text word is in RAM
pub record IsWordInRam (ram a : ℕ) : Type 0 where
  pub low : ram_first ≤ a
  pub high : a - ram_first + 4 ≤ ram

text_in_ram : (ram a : ℕ) (image : Image) → IsLoadable ram image → is_text_word image.text a ≡ true → IsWordInRam ram a
text_in_ram ram a image loads is =
    let first = and_parts (is_text_byte image.text (a + 0)) _ is in
    let second = and_parts (is_text_byte image.text (a + 1)) _ first.1 in
    let third = and_parts (is_text_byte image.text (a + 2)) _ second.1 in
    let fourth = and_parts (is_text_byte image.text (a + 3)) _ third.1 in
    let low = text_byte_in_ram ram (a + 0) image.text loads.text first.0 in
    let high = text_byte_in_ram ram (a + 3) image.text loads.text fourth.0 in
    record { low = omega (arith, low.low); high = omega (arith, high.high, low.low) }

-- the same where the text was read from a map of it
pub fetched_in_ram : (ram a : ℕ) (text : List Range) (image : Image) (found : Bool) → text ≡ image.text → IsLoadable ram image → found ≡ is_text_word text a → found ≡ true
    → IsWordInRam ram a
fetched_in_ram ram a text image found same loads is true_is =
    text_in_ram ram a image loads (ap (λ (ranges : List Range). is_text_word ranges a) (sym same) ∙ sym is ∙ true_is)

pub fetched_word : (ram a word : ℕ) (text : List Range) (image : Image) (bytes : List ℕ) (found : Bool) → text ≡ image.text → IsLoadable ram image → found ≡ is_text_word text a → found ≡ true
    → ((k : ℕ) → k < ram → slice_index bytes k ≡ initial_byte image (ram_first + k)) → word ≡ number_at (slice_index bytes) (a - ram_first) 4
    → Some word ≡ cond (is_text_word image.text a) (Some (word_at image a)) None
fetched_word ram a word text image bytes found same loads is true_is loaded read =
    let inside = fetched_in_ram ram a text image found same loads is true_is in
    let here : is_text_word image.text a ≡ true = ap (λ (ranges : List Range). is_text_word ranges a) (sym same) ∙ sym is ∙ true_is in
    let back : ram_first + (a - ram_first) ≡ a = omega (arith, inside.low) in
    let value : word ≡ word_at image a = read ∙ word_loaded image bytes ram (a - ram_first) loaded inside.high ∙ ap (λ (n : ℕ). word_at image n) back in
    ap Some value ∙ sym (ap (λ (b : Bool). cond b (Some (word_at image a)) None) here)
