-- Bytes that follow each other, one more of them.
use Rattle.std.proofs.Common.{◌≡◌, ℕ, zero, suc, ◌+◌, ◌/◌, ◌%◌, ◌<◌, Bool, true, false, ◌&&◌, ◌||◌, cond, List, [], ◌∷◌, ◌++◌, length, map, slice_set, refl, sym, ap, ap₂, ◌∙◌, subst, arith, add-one}
use Rattle.std.specs.Prelude.{filter}
use Rattle.std.specs.List.{list_all, list_any, range_with_len}
use Rattle.std.proofs.lemmas.List.{get_or-set_same, set-set, set-get_or}
use Rattle.std.proofs.lemmas.List.Sums.{fold-append}
use Rattle.lf_model.specs.Caches.Change.{stored_bytes, stored_in}
use Rattle.lf_model.specs.Caches.Slot.{Slot, empty_slot, history_at, befalls, befalls_each, written, checked_byte, is_valid_word, has_struck_tag}
use Rattle.lf_model.specs.Flips.{Moment, is_struck_byte}
use Rattle.lf_model.specs.Flips.Moment.{Found}
use Rattle.replay_units.specs.Units.{found}
use Rattle.replay_caches.specs.Part.{size_of, histories_in, with_histories, befallen_in, each_in, all_in, byte_stored}
use Rattle.replay_caches.specs.SlotsState.{SlotsState, slot_in, changed}
use Rattle.replay_caches.specs.declared.part.Part.{Part}
use Rattle.replay_caches.specs.declared.part.Part.TheVariants.{Tag, Line}

-- ---- tests of a run of numbers

module _ (p : ℕ → Bool) where
  -- none passed, and the next one doesn't
  pub any_more : (a n : ℕ) → list_any p (range_with_len a n) ≡ false → p (a + n) ≡ false → list_any p (range_with_len a (suc n)) ≡ false
  any_more a zero none next = ap (λ (b : Bool). b || false) (subst (λ (i : ℕ). p i ≡ false) (omega arith) next)
  any_more a (suc n) none next = both (p a) none (λ e. any_more (a + 1) n e (subst (λ (i : ℕ). p i ≡ false) (omega arith) next))
    where
      both : (b : Bool) → (b || list_any p (range_with_len (a + 1) n)) ≡ false → (list_any p (range_with_len (a + 1) n) ≡ false → list_any p (range_with_len (a + 1) (suc n)) ≡ false)
          → (b || list_any p (range_with_len (a + 1) (suc n))) ≡ false
      both true e later = e
      both false e later = later e

  -- one passes
  pub any_found : (a n i : ℕ) → i < n → p (a + i) ≡ true → list_any p (range_with_len a n) ≡ true
  any_found a zero i lt is = absurd (omega arith)
  any_found a (suc n) zero lt is = ap (λ (b : Bool). b || list_any p (range_with_len (a + 1) n)) (subst (λ (j : ℕ). p j ≡ true) (omega arith) is)
  any_found a (suc n) (suc i) lt is = later (p a) (any_found (a + 1) n i (omega arith) (subst (λ (j : ℕ). p j ≡ true) (omega arith) is))
    where
      later : (b : Bool) → list_any p (range_with_len (a + 1) n) ≡ true → (b || list_any p (range_with_len (a + 1) n)) ≡ true
      later true e = refl
      later false e = e

  -- all passed, and the next one does
  pub all_more : (a n : ℕ) → list_all p (range_with_len a n) ≡ true → p (a + n) ≡ true → list_all p (range_with_len a (suc n)) ≡ true
  all_more a zero all next = ap (λ (b : Bool). b && true) (subst (λ (i : ℕ). p i ≡ true) (omega arith) next)
  all_more a (suc n) all next = both (p a) all (λ e. all_more (a + 1) n e (subst (λ (i : ℕ). p i ≡ true) (omega arith) next))
    where
      both : (b : Bool) → (b && list_all p (range_with_len (a + 1) n)) ≡ true → (list_all p (range_with_len (a + 1) n) ≡ true → list_all p (range_with_len (a + 1) (suc n)) ≡ true)
          → (b && list_all p (range_with_len (a + 1) (suc n))) ≡ true
      both true e later = later e
      both false e later = e

  -- one fails
  pub all_failed : (a n i : ℕ) → i < n → p (a + i) ≡ false → list_all p (range_with_len a n) ≡ false
  all_failed a zero i lt is = absurd (omega arith)
  all_failed a (suc n) zero lt is = ap (λ (b : Bool). b && list_all p (range_with_len (a + 1) n)) (subst (λ (j : ℕ). p j ≡ false) (omega arith) is)
  all_failed a (suc n) (suc i) lt is = later (p a) (all_failed (a + 1) n i (omega arith) (subst (λ (j : ℕ). p j ≡ false) (omega arith) is))
    where
      later : (b : Bool) → list_all p (range_with_len (a + 1) n) ≡ false → (b && list_all p (range_with_len (a + 1) n)) ≡ false
      later true e = e
      later false e = refl

-- a run with one number more
pub range_more : (a n : ℕ) → range_with_len a (n + 1) ≡ range_with_len a n ++ (a + n) ∷ []
range_more a n = ap (range_with_len a) (add-one n) ∙ by a n
  where
    by : (a n : ℕ) → range_with_len a (suc n) ≡ range_with_len a n ++ (a + n) ∷ []
    by a zero = ap (λ (i : ℕ). i ∷ []) (omega arith)
    by a (suc n) = ap (λ (rest : List ℕ). a ∷ rest) (by (a + 1) n ∙ ap (λ (i : ℕ). range_with_len (a + 1) n ++ i ∷ []) (omega arith))

filter-append : (p : ℕ → Bool) (xs ys : List ℕ) → filter p (xs ++ ys) ≡ filter p xs ++ filter p ys
filter-append p [] ys = refl
filter-append p (x ∷ xs) ys = one (p x) (filter-append p xs ys)
  where
    one : (b : Bool) → filter p (xs ++ ys) ≡ filter p xs ++ filter p ys → cond b (x ∷ filter p (xs ++ ys)) (filter p (xs ++ ys)) ≡ cond b (x ∷ filter p xs) (filter p xs) ++ filter p ys
    one true e = ap (λ (rest : List ℕ). x ∷ rest) e
    one false e = e

-- ---- a slot that changes more than once

module _ (i : ℕ) (s : SlotsState) where
  pub changed_as : (f g : Slot → Slot) → f (slot_in i s) ≡ g (slot_in i s) → changed f i s ≡ changed g i s
  changed_as f g same = ap (λ (slot : Slot). record s { slots = slice_set s.slots i slot }) same

  pub changed_same : (f : Slot → Slot) → f (slot_in i s) ≡ slot_in i s → changed f i s ≡ s
  changed_same f same = changed_as f (λ slot. slot) same ∙ ap (λ (slots : List Slot). record s { slots = slots }) (set-get_or s.slots i empty_slot)

  pub changed_then : (f g : Slot → Slot) → i < length s.slots → changed g i (changed f i s) ≡ changed (λ slot. g (f slot)) i s
  changed_then f g within =
      ap (λ (slots : List Slot). record s { slots = slots })
      (ap (λ (slot : Slot). slice_set (slice_set s.slots i (f (slot_in i s))) i (g slot)) (get_or-set_same s.slots i (f (slot_in i s)) empty_slot within)
      ∙ set-set s.slots i (f (slot_in i s)) (g (f (slot_in i s))))

-- ---- bytes of a part

pub part_same : (part : Part) (slot : Slot) → with_histories part (histories_in part slot) slot ≡ slot
part_same Tag slot = refl
part_same Line slot = refl

part_read : (part : Part) (hs : List (List Moment)) (slot : Slot) → histories_in part (with_histories part hs slot) ≡ hs
part_read Tag hs slot = refl
part_read Line hs slot = refl

part_again : (part : Part) (hs new : List (List Moment)) (slot : Slot) → with_histories part new (with_histories part hs slot) ≡ with_histories part new slot
part_again Tag hs new slot = refl
part_again Line hs new slot = refl

-- a check leaves a byte that is not struck
pub check_same : (part : Part) (byte i : ℕ) (s : SlotsState) → is_struck_byte (history_at byte (histories_in part (slot_in i s))) ≡ false → changed (befallen_in part checked_byte byte) i s ≡ s
check_same part byte i s good = changed_same i s (befallen_in part checked_byte byte)
    (ap (λ (h : List Moment). with_histories part (slice_set (histories_in part (slot_in i s)) byte h) (slot_in i s))
    (ap (λ (b : Bool). cond b (Found ∷ history_at byte (histories_in part (slot_in i s))) (history_at byte (histories_in part (slot_in i s)))) good)
    ∙ ap (λ (hs : List (List Moment)). with_histories part hs (slot_in i s)) (set-get_or (histories_in part (slot_in i s)) byte [])
    ∙ part_same part (slot_in i s))

-- a check finds a struck one so
pub check_struck : (part : Part) (byte i : ℕ) (s : SlotsState) → is_struck_byte (history_at byte (histories_in part (slot_in i s))) ≡ true
    → changed (befallen_in part found byte) i s ≡ changed (befallen_in part checked_byte byte) i s
check_struck part byte i s struck = changed_as i s (befallen_in part found byte) (befallen_in part checked_byte byte)
    (ap (λ (h : List Moment). with_histories part (slice_set (histories_in part (slot_in i s)) byte h) (slot_in i s))
    (sym (ap (λ (b : Bool). cond b (Found ∷ history_at byte (histories_in part (slot_in i s))) (history_at byte (histories_in part (slot_in i s)))) struck)))

-- one byte more
module _ (part : Part) (f : List Moment → List Moment) (slot : Slot) where
  each_push : (bytes : List ℕ) (byte : ℕ) → befallen_in part f byte (each_in part f bytes slot) ≡ each_in part f (bytes ++ byte ∷ []) slot
  each_push bytes byte =
      ap (λ (hs : List (List Moment)). with_histories part (befalls f byte hs) (each_in part f bytes slot)) (part_read part (befalls_each f bytes (histories_in part slot)) slot)
      ∙ part_again part (befalls_each f bytes (histories_in part slot)) (befalls f byte (befalls_each f bytes (histories_in part slot))) slot
      ∙ ap (λ (hs : List (List Moment)). with_histories part hs slot) (sym (fold-append (λ (hs : List (List Moment)) (b : ℕ). befalls f b hs) (histories_in part slot) bytes (byte ∷ [])))

  pub each_more : (first n : ℕ) → befallen_in part f (first + n) (each_in part f (range_with_len first n) slot) ≡ each_in part f (range_with_len first (n + 1)) slot
  each_more first n = each_push (range_with_len first n) (first + n) ∙ ap (λ (bytes : List ℕ). each_in part f bytes slot) (sym (range_more first n))

-- each byte, and all of them
each_all : (f : List Moment → List Moment) (done hs : List (List Moment)) → befalls_each f (range_with_len (length done) (length hs)) (done ++ hs) ≡ done ++ map f hs
each_all f done [] = refl
each_all f done (h ∷ hs) =
    ap (befalls_each f (range_with_len (length done + 1) (length hs))) (set_in done)
    ∙ ap₂ (λ (n : ℕ) (xs : List (List Moment)). befalls_each f (range_with_len n (length hs)) xs) (sym (longer done)) (sym (joined done hs))
    ∙ each_all f (done ++ f h ∷ []) hs
    ∙ joined done (map f hs)
  where
    set_in : (xs : List (List Moment)) → befalls f (length xs) (xs ++ h ∷ hs) ≡ xs ++ f h ∷ hs
    set_in [] = refl
    set_in (x ∷ xs) = ap (λ (ys : List (List Moment)). x ∷ ys) (set_in xs)

    longer : (xs : List (List Moment)) → length (xs ++ f h ∷ []) ≡ length xs + 1
    longer [] = refl
    longer (x ∷ xs) = let n = longer xs in omega (arith, n)

    joined : (xs zs : List (List Moment)) → (xs ++ f h ∷ []) ++ zs ≡ xs ++ f h ∷ zs
    joined [] zs = refl
    joined (x ∷ xs) zs = ap (λ (all : List (List Moment)). x ∷ all) (joined xs zs)

pub all_of_part : (part : Part) (f : List Moment → List Moment) (slot : Slot) → length (histories_in part slot) ≡ size_of part → each_in part f (range_with_len 0 (size_of part)) slot ≡ all_in part f slot
all_of_part part f slot is =
    ap (λ (n : ℕ). each_in part f (range_with_len 0 n) slot) (sym is) ∙ ap (λ (hs : List (List Moment)). with_histories part hs slot) (each_all f [] (histories_in part slot))

-- ---- an own store

-- the words of a slot are valid as they were
pub stored_more : (addr k : ℕ) (slot : Slot) → byte_stored (addr % 32 + k) (stored_in addr k slot) ≡ stored_in addr (k + 1) slot
stored_more addr k slot = by (is_valid_word slot ((addr % 32 + k) / 4)) refl
  where
    valid : ℕ → Bool
    valid i = is_valid_word slot (i / 4)

    more : stored_bytes addr (k + 1) slot ≡ stored_bytes addr k slot ++ cond (is_valid_word slot ((addr % 32 + k) / 4)) ((addr % 32 + k) ∷ []) []
    more = ap (filter (λ i. is_valid_word slot (i / 4))) (range_more (addr % 32) k) ∙ filter-append (λ i. is_valid_word slot (i / 4)) (range_with_len (addr % 32) k) ((addr % 32 + k) ∷ [])

    by : (b : Bool) → is_valid_word slot ((addr % 32 + k) / 4) ≡ b → cond b (befallen_in Line written (addr % 32 + k) (stored_in addr k slot)) (stored_in addr k slot) ≡ stored_in addr (k + 1) slot
    by true e =
        each_push Line written slot (stored_bytes addr k slot) (addr % 32 + k)
        ∙ ap (λ (bytes : List ℕ). each_in Line written bytes slot) (sym (more ∙ ap (λ (b : Bool). stored_bytes addr k slot ++ cond b ((addr % 32 + k) ∷ []) []) e))
    by false e = ap (λ (bytes : List ℕ). each_in Line written bytes slot) (sym (more ∙ ap (λ (b : Bool). stored_bytes addr k slot ++ cond b ((addr % 32 + k) ∷ []) []) e ∙ nothing (stored_bytes addr k slot)))
      where
        nothing : (xs : List ℕ) → xs ++ [] ≡ xs
        nothing [] = refl
        nothing (x ∷ xs) = ap (λ (ys : List ℕ). x ∷ ys) (nothing xs)

-- ---- a struck tag byte

any_by_place : (done hs : List (List Moment)) → list_any (λ i. is_struck_byte (history_at i (done ++ hs))) (range_with_len (length done) (length hs)) ≡ list_any is_struck_byte hs
any_by_place done [] = refl
any_by_place done (h ∷ hs) =
    ap₂ (λ (b c : Bool). b || c) (ap is_struck_byte (here done))
    (ap₂ (λ (n : ℕ) (all : List (List Moment)). list_any (λ i. is_struck_byte (history_at i all)) (range_with_len n (length hs))) (sym (longer done)) (sym (joined done))
    ∙ any_by_place (done ++ h ∷ []) hs)
  where
    here : (xs : List (List Moment)) → history_at (length xs) (xs ++ h ∷ hs) ≡ h
    here [] = refl
    here (x ∷ xs) = here xs

    longer : (xs : List (List Moment)) → length (xs ++ h ∷ []) ≡ length xs + 1
    longer [] = refl
    longer (x ∷ xs) = let n = longer xs in omega (arith, n)

    joined : (xs : List (List Moment)) → (xs ++ h ∷ []) ++ hs ≡ xs ++ h ∷ hs
    joined [] = refl
    joined (x ∷ xs) = ap (λ (all : List (List Moment)). x ∷ all) (joined xs)

pub any_tag : (slot : Slot) → length slot.tag_histories ≡ 4 → list_any (λ i. is_struck_byte (history_at i slot.tag_histories)) (range_with_len 0 4) ≡ has_struck_tag slot
any_tag slot is = ap (λ (n : ℕ). list_any (λ i. is_struck_byte (history_at i slot.tag_histories)) (range_with_len 0 n)) (sym is) ∙ any_by_place [] slot.tag_histories
