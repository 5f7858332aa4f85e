-- The array follows the words that the script strikes, as words change.
use Rattle.std.proofs.Common.{◌≡◌, ◌≢◌, ℕ, ◌<◌, ◌%◌, Bool, false, ◌||◌, nat_eq, List, [], ◌∷◌, length, map, refl, sym, ap, ap₂, ◌∙◌, subst, inl, inr, arith}
use Rattle.std.specs.List.{AllByRecursion, list_any}
use Rattle.std.proofs.lemmas.Bool.{cases_eq}
use Rattle.std.proofs.lemmas.List.{get_or-set_same, get_or-set_other, length-set}
use Rattle.lf_model.specs.Bus.Words.{Word, is_at}
use Rattle.lf_model.specs.Caches.Slot.{history_at, befalls}
use Rattle.lf_model.specs.Flips.{Moment}
use Rattle.bus_memory.specs.Followed.{address_of, IsUnstruck, IsShown, Follows}
use Rattle.bus_memory.proofs.PlaceLemmas.{place_back, address_back}
use Rattle.ram_words.specs.Ram.{place_of}

-- words that change are at the same addresses
pub is_at_map : (g : Word → Word) → ((w : Word) → (g w).addr ≡ w.addr) → (addr : ℕ) (words : List Word) → list_any (is_at addr) (map g words) ≡ list_any (is_at addr) words
is_at_map g keeps addr [] = refl
is_at_map g keeps addr (w ∷ ws) = ap₂ (λ (a : ℕ) (b : Bool). nat_eq a addr || b) (keeps w) (is_at_map g keeps addr ws)

-- words and array change together
pub follows_map : (g : Word → Word) (words : List Word) (hs hs' : List (List Moment)) → length hs' ≡ length hs
    → ((w : Word) → (g w).addr ≡ w.addr)
    → ((w : Word) → IsShown hs w → history_at (place_of w.addr) hs' ≡ (g w).history)
    → ((place : ℕ) → place < length hs → list_any (is_at (address_of place)) words ≡ false → IsUnstruck (history_at place hs) → IsUnstruck (history_at place hs'))
    → Follows words hs → Follows (map g words) hs'
follows_map g words hs hs' long keeps shows stays follows = record {
  shown = all words follows.shown;
  others = λ place lt none.
      let before : place < length hs = omega (arith, lt, long) in
      let absent : list_any (is_at (address_of place)) words ≡ false = sym (is_at_map g keeps (address_of place) words) ∙ none in
      stays place before absent (follows.others place before absent);
}
  where
    one : (w : Word) → IsShown hs w → IsShown hs' (g w)
    one w is = record {
      aligned = rw (keeps w) is.aligned;
      above = rw (keeps w) is.above;
      within = rw (keeps w, long) is.within;
      history = rw (keeps w) (shows w is);
    }

    all : (ws : List Word) → AllByRecursion (IsShown hs) ws → AllByRecursion (IsShown hs') (map g ws)
    all [] h = tt
    all (w ∷ ws) h = (one w h.0, all ws h.1)

-- one word changes
pub follows_one : (g : Word → Word) (f : List Moment → List Moment) (place : ℕ) (words : List Word) (hs : List (List Moment)) → place < length hs
    → ((w : Word) → (g w).addr ≡ w.addr)
    → ((w : Word) → w.addr ≡ address_of place → (g w).history ≡ f w.history)
    → ((w : Word) → w.addr % 4 ≡ 0 → w.addr ≢ address_of place → (g w).history ≡ w.history)
    → (list_any (is_at (address_of place)) words ≡ false → IsUnstruck (history_at place hs) → IsUnstruck (f (history_at place hs)))
    → Follows words hs → Follows (map g words) (befalls f place hs)
follows_one g f place words hs within keeps here there quiet follows =
    follows_map g words hs (befalls f place hs) (length-set hs place (f (history_at place hs))) keeps shows stays follows
  where
    new : List Moment
    new = f (history_at place hs)

    shows : (w : Word) → IsShown hs w → history_at (place_of w.addr) (befalls f place hs) ≡ (g w).history
    shows w is = elim (cases_eq w.addr (address_of place)) [
      | inl same ↦
          let at : place_of w.addr ≡ place = ap place_of same ∙ place_back place in
          ap (λ (p : ℕ). history_at p (befalls f place hs)) at
          ∙ get_or-set_same hs place (f (history_at place hs)) [] within
          ∙ ap (λ (p : ℕ). f (history_at p hs)) (sym at)
          ∙ ap f is.history
          ∙ sym (here w same)
      | inr other ↦
          let apart : place_of w.addr ≢ place = λ e. other (sym (address_back w.addr is.aligned is.above) ∙ ap address_of e) in
          get_or-set_other hs place (place_of w.addr) (f (history_at place hs)) [] apart ∙ is.history ∙ sym (there w is.aligned other)
    ]

    stays : (p : ℕ) → p < length hs → list_any (is_at (address_of p)) words ≡ false → IsUnstruck (history_at p hs) → IsUnstruck (history_at p (befalls f place hs))
    stays p lt none un = elim (cases_eq p place) [
      | inl same ↦
          subst IsUnstruck (sym (ap (λ (q : ℕ). history_at q (befalls f place hs)) same ∙ get_or-set_same hs place (f (history_at place hs)) [] within))
          (quiet (ap (λ (q : ℕ). list_any (is_at (address_of q)) words) (sym same) ∙ none) (subst (λ (q : ℕ). IsUnstruck (history_at q hs)) same un))
      | inr other ↦ subst IsUnstruck (sym (get_or-set_other hs place p (f (history_at place hs)) [] other)) un
    ]
