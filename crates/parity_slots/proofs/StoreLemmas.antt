-- A store writes one byte after the other.
use Rattle.std.proofs.Common.{◌≡◌, ℕ, ◌+◌, ◌-◌, ◌/◌, ◌%◌, Bool, true, false, cond, List, [], ◌∷◌, ◌++◌, slice_set, sym, ap, ap₂, ◌∙◌, add-one, arith}
use Rattle.std.proofs.lemmas.Grind.{fold-append}
use Rattle.std.proofs.lemmas.List.{append-nil}
use Rattle.lf_model.specs.Caches.Change.{stored_bytes, stored_in}
use Rattle.lf_model.specs.Caches.Slot.{is_valid_word, befalls, befalls_each, written}
use Rattle.lf_model.specs.Flips.{Moment}
use Rattle.lf_model.specs.Operation.{byte_of}
use Rattle.parity_slots.specs.SlotState.{SlotState, bytes_stored, byte_stored}
use Rattle.parity_slots.proofs.RangeLemmas.{filtered_more}

-- the slot and its line when so many bytes of the store have been written
abbrev pub stored_so_far : ℕ → ℕ → ℕ → ℕ → SlotState → SlotState
stored_so_far addr len value i s = record { slot = stored_in addr i s.slot; bytes = bytes_stored addr len value (stored_bytes addr i s.slot) s.bytes }

module _ (addr len value i : ℕ) (s : SlotState) where
  more : stored_bytes addr (i + 1) s.slot ≡ stored_bytes addr i s.slot ++ cond (is_valid_word s.slot ((addr % 32 + i) / 4)) ((addr % 32 + i) ∷ []) []
  more = ap (λ (n : ℕ). stored_bytes addr n s.slot) (add-one i) ∙ filtered_more (λ j. is_valid_word s.slot (j / 4)) (addr % 32) i

  made : List ℕ → SlotState
  made places = record { slot = record s.slot { line_histories = befalls_each written places s.slot.line_histories }; bytes = bytes_stored addr len value places s.bytes }

  pub stored_next : is_valid_word s.slot ((addr % 32 + i) / 4) ≡ true
      → byte_stored (addr % 32 + i) (byte_of value len i) (stored_so_far addr len value i s) ≡ stored_so_far addr len value (i + 1) s
  unfolding made
  stored_next valid =
      let places : List ℕ = stored_bytes addr i s.slot in
      let all : stored_bytes addr (i + 1) s.slot ≡ stored_bytes addr i s.slot ++ (addr % 32 + i) ∷ [] = more ∙ ap (λ (b : Bool). stored_bytes addr i s.slot ++ cond b ((addr % 32 + i) ∷ []) []) valid in
      let back : addr % 32 + i - addr % 32 ≡ i = omega arith in
      ap₂ (λ (hs : List (List Moment)) (bs : List ℕ). record { slot = record s.slot { line_histories = hs }; bytes = bs })
      (sym (fold-append (λ hs place. befalls written place hs) s.slot.line_histories (stored_bytes addr i s.slot) ((addr % 32 + i) ∷ [])))
      (ap (λ (n : ℕ). slice_set (bytes_stored addr len value (stored_bytes addr i s.slot) s.bytes) (addr % 32 + i) (byte_of value len n)) (sym back)
      ∙ sym (fold-append (λ bs place. slice_set bs place (byte_of value len (place - addr % 32))) s.bytes (stored_bytes addr i s.slot) ((addr % 32 + i) ∷ [])))
      ∙ ap made (sym all)

  pub stored_not : is_valid_word s.slot ((addr % 32 + i) / 4) ≡ false → stored_so_far addr len value i s ≡ stored_so_far addr len value (i + 1) s
  unfolding made
  stored_not invalid =
      let all : stored_bytes addr (i + 1) s.slot ≡ stored_bytes addr i s.slot = more ∙ ap (λ (b : Bool). stored_bytes addr i s.slot ++ cond b ((addr % 32 + i) ∷ []) []) invalid ∙ append-nil (stored_bytes addr i s.slot) in
      ap made (sym all)
