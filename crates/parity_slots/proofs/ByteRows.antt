-- A row of bytes under parity follows its histories.
use Rattle.std.proofs.Common.{◌≡◌, ℕ, ◌^◌, ◌<◌, ◌≤◌, List, [], ◌∷◌, length, map, slice_index, slice_set, refl, sym, ◌∙◌, subst, inl, inr, arith, lit<}
use Rattle.std.specs.Prelude.{replicate}
use Rattle.std.proofs.lemmas.Bool.{cases_eq, cases_lt}
use Rattle.std.proofs.lemmas.List.{get_or-map, get_or-replicate, get_or-set_same, get_or-set_other, length-map, length-replicate, length-set, set-get_or, set_past}
use Rattle.lf_model.specs.Caches.Slot.{history_at, befalls, befalls_each, written, checked_byte}
use Rattle.lf_model.specs.Course.Arrays.{struck_by}
use Rattle.lf_model.specs.Flips.{Moment}
use Rattle.lf_model.specs.Flips.How.{Whole}
use Rattle.parity_slots.specs.Inside.{AreBytes}
use Rattle.parity_units.specs.Bytes.{byte_bits, fresh_byte, flipped_byte, IsByteOf}
use Rattle.parity_units.specs.Events.{no_byte, byte_at}
use Rattle.parity_units.specs.declared.byte.ParityByte.{ParityByte}
use Rattle.parity_units.proofs.ByteLemmas.{byte_new, byte_written, byte_checked, byte_struck}

-- a byte of equal parts
same_byte : (v v' : ℕ) (h h' : List Moment) (b b' : ParityByte) → v ≡ v' → h ≡ h' → b ≡ b' → IsByteOf v h b → IsByteOf v' h' b'
same_byte v v' h h' b b' ve he be is = rw (← ve, ← he, ← be) is

-- ---- all bytes of a row

pub row_new : (n : ℕ) → AreBytes (replicate n 0) (replicate n []) (replicate n (fresh_byte 0))
row_new n = record {
  each = λ i lt.
      let within : i < n = rw (sym (length-replicate n (fresh_byte 0))) lt in
      same_byte 0 (slice_index (replicate n 0) i) [] (history_at i (replicate n [])) (fresh_byte 0) (byte_at (replicate n (fresh_byte 0)) i)
      (sym (get_or-replicate n i 0 0 within)) (sym (get_or-replicate n i [] [] within)) (sym (get_or-replicate n i (fresh_byte 0) no_byte within)) (byte_new 0 (lit< tt));
  all_histories = length-replicate n [] ∙ sym (length-replicate n (fresh_byte 0));
  all_values = length-replicate n 0 ∙ sym (length-replicate n (fresh_byte 0));
}

-- a row is written
pub row_written : (vs : List ℕ) (hs : List (List Moment)) (bs : List ParityByte) (ws : List ℕ) → AreBytes vs hs bs → length ws ≡ length bs
    → ((i : ℕ) → i < length ws → slice_index ws i < 2 ^ 8) → AreBytes ws (map written hs) (map fresh_byte ws)
row_written vs hs bs ws are len fits = record {
  each = λ i lt.
      let within : i < length ws = omega (arith, lt, length-map ws fresh_byte) in
      let has : i < length hs = omega (arith, within, len, are.all_histories) in
      same_byte (slice_index ws i) (slice_index ws i) (written (history_at i hs)) (history_at i (map written hs)) (fresh_byte (slice_index ws i)) (byte_at (map fresh_byte ws) i)
      refl (sym (get_or-map written hs i [] [] has)) (sym (get_or-map fresh_byte ws i 0 no_byte within)) (byte_written Whole (slice_index ws i) (history_at i hs) (fits i within));
  all_histories = length-map hs written ∙ are.all_histories ∙ sym len ∙ sym (length-map ws fresh_byte);
  all_values = sym (length-map ws fresh_byte);
}

-- a row is checked
pub row_checked : (vs : List ℕ) (hs : List (List Moment)) (bs : List ParityByte) → AreBytes vs hs bs → AreBytes vs (map checked_byte hs) bs
row_checked vs hs bs are = record {
  each = λ i lt.
      let has : i < length hs = omega (arith, lt, are.all_histories) in
      same_byte (slice_index vs i) (slice_index vs i) (checked_byte (history_at i hs)) (history_at i (map checked_byte hs)) (byte_at bs i) (byte_at bs i)
      refl (sym (get_or-map checked_byte hs i [] [] has)) refl (byte_checked (slice_index vs i) (history_at i hs) (byte_at bs i) (are.each i lt));
  all_histories = length-map hs checked_byte ∙ are.all_histories;
  all_values = are.all_values;
}

-- ---- one byte of a row

module _ (vs : List ℕ) (hs : List (List Moment)) (bs : List ParityByte) (are : AreBytes vs hs bs) (place : ℕ) where
  pub row_set : (v : ℕ) (h : List Moment) (b : ParityByte) → IsByteOf v h b → AreBytes (slice_set vs place v) (slice_set hs place h) (slice_set bs place b)
  row_set v h b is = record {
    each = λ i lt.
        let within : i < length bs = omega (arith, lt, length-set bs place b) in
        let has : i < length hs = omega (arith, within, are.all_histories) in
        let valued : i < length vs = omega (arith, within, are.all_values) in
        elim (cases_eq i place) [
          | inl here ↦
              subst (λ (j : ℕ). IsByteOf (slice_index (slice_set vs place v) j) (history_at j (slice_set hs place h)) (byte_at (slice_set bs place b) j)) (sym here)
              (same_byte v (slice_index (slice_set vs place v) place) h (history_at place (slice_set hs place h)) b (byte_at (slice_set bs place b) place)
              (sym (get_or-set_same vs place v 0 (rw (← here) valued))) (sym (get_or-set_same hs place h [] (rw (← here) has))) (sym (get_or-set_same bs place b no_byte (rw (← here) within))) is)
          | inr other ↦
              same_byte (slice_index vs i) (slice_index (slice_set vs place v) i) (history_at i hs) (history_at i (slice_set hs place h)) (byte_at bs i) (byte_at (slice_set bs place b) i)
              (sym (get_or-set_other vs place i v 0 other)) (sym (get_or-set_other hs place i h [] other)) (sym (get_or-set_other bs place i b no_byte other)) (are.each i within)
        ];
    all_histories = length-set hs place h ∙ are.all_histories ∙ sym (length-set bs place b);
    all_values = length-set vs place v ∙ are.all_values ∙ sym (length-set bs place b);
  }

  -- it is written, it is struck, and it is checked
  pub row_byte_written : (v : ℕ) → v < 2 ^ 8 → AreBytes (slice_set vs place v) (befalls written place hs) (slice_set bs place (fresh_byte v))
  row_byte_written v fits = row_set v (written (history_at place hs)) (fresh_byte v) (byte_written Whole v (history_at place hs) fits)

  pub row_byte_struck : (number bit : ℕ) → place < length bs → bit < byte_bits → AreBytes vs (befalls (struck_by number bit) place hs) (slice_set bs place (flipped_byte bit (byte_at bs place)))
  row_byte_struck number bit within lt =
      subst (λ (ws : List ℕ). AreBytes ws (befalls (struck_by number bit) place hs) (slice_set bs place (flipped_byte bit (byte_at bs place)))) (set-get_or vs place 0)
      (row_set (slice_index vs place) (struck_by number bit (history_at place hs)) (flipped_byte bit (byte_at bs place))
      (byte_struck (slice_index vs place) number bit (history_at place hs) (byte_at bs place) lt (are.each place within)))

  pub row_byte_checked : AreBytes vs (befalls checked_byte place hs) bs
  row_byte_checked = elim (cases_lt place (length bs)) [
    | inl within ↦
        subst (λ (ws : List ℕ). AreBytes ws (befalls checked_byte place hs) bs) (set-get_or vs place 0)
        (subst (λ (cs : List ParityByte). AreBytes (slice_set vs place (slice_index vs place)) (befalls checked_byte place hs) cs) (set-get_or bs place no_byte)
        (row_set (slice_index vs place) (checked_byte (history_at place hs)) (byte_at bs place) (byte_checked (slice_index vs place) (history_at place hs) (byte_at bs place) (are.each place within))))
    | inr past ↦
        let beyond : length hs ≤ place = omega (arith, past, are.all_histories) in
        subst (λ (gs : List (List Moment)). AreBytes vs gs bs) (sym (set_past hs place (checked_byte (history_at place hs)) beyond)) are
  ]

-- some bytes are checked
pub row_bytes_checked : (vs : List ℕ) (bs : List ParityByte) (places : List ℕ) (hs : List (List Moment)) → AreBytes vs hs bs → AreBytes vs (befalls_each checked_byte places hs) bs
row_bytes_checked vs bs [] hs are = are
row_bytes_checked vs bs (place ∷ places) hs are = row_bytes_checked vs bs places (befalls checked_byte place hs) (row_byte_checked vs hs bs are place)
