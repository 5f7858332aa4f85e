-- What the values of `toml` show of a document.
use Rattle.std.proofs.Common.{ℕ, ◌≡◌, ◌≤◌, Bool, ◌&&◌, le-leb, length, List, [], ◌∷◌, map, Option, Some, None, is_some, true, refl, ap, sym, ◌∙◌, string_bytes, String, Global, inl, inr}
use Rattle.std.specs.Prelude.{IsUtf8}
use Rattle.std.specs.Str.{is_utf8}
use Rattle.std.proofs.lemmas.List.{length-map}
use Rattle.std.proofs.lemmas.Bool.{cases_Bool}
use Rattle.std.proofs.lemmas.Str.{IsUtf8-from_is_utf8, is_utf8-from_IsUtf8}
use Rattle.std.proofs.Common.{Bor, Vec, BTreeMap, option_map}
use Rattle.std.specs.List.{list_all, filter_map, cons_option}
use Rattle.std.specs.BTreeMap.{keys}
use Rattle.std.proofs.lemmas.List.Folds.{list_all-map}
use Rattle.toml.specs.Data.{Data, string, integer, float, boolean, datetime, array, table, Items, Members, as_array, as_table}
use Rattle.toml.specs.Parse.{parse_document}
use Rattle.toml.specs.View.{view, items_view, members_view, array_view, table_view}
use Rattle.toml.specs.declared.value.Value.{Value}
use Rattle.run_texts.specs.declared.keys.Key.{Key}
use Rattle.run_texts.specs.declared.keys.Kind.TheVariants.{Integers}
use Rattle.run_texts.specs.Document.{document_of, values_of, elements, entries_of, entries, is_section, is_key, is_known, number, value_at, numbers_at}
use Rattle.run_texts.specs.Configuration.{is_integer, is_of_kind, is_number, is_within}

-- UTF-8 that is TOML spells a document
pub document_read : (text : List ℕ) (document : Members) → IsUtf8 text → parse_document text ≡ Some document → document_of text ≡ Some document
unfolding document_of
document_read text document utf8 parsed = rw (is_utf8-from_IsUtf8 text utf8) parsed

-- what is no UTF-8, or no TOML, spells none
pub document_refused : (text : List ℕ) → (IsUtf8 text → parse_document text ≡ None) → document_of text ≡ None
unfolding document_of
document_refused text refused =
    elim (cases_Bool (is_utf8 text)) [
      | inl valid ↦ rw valid (refused (IsUtf8-from_is_utf8 text valid))
      | inr invalid ↦ rw invalid refl
    ]

-- the values of an array are those of the list that it holds
pub values_of-view : (values : List Value) → values_of (items_view values) ≡ map view values
values_of-view [] = refl
values_of-view (value ∷ values) = ap (λ (others : List Data). view value ∷ others) (values_of-view values)

pub elements-array : (value : Data) (items : Items) → Some items ≡ as_array value → elements value ≡ values_of items
elements-array (string s) items is = absurd cc
elements-array (integer z) items is = absurd cc
elements-array (float x) items is = absurd cc
elements-array (boolean b) items is = absurd cc
elements-array (datetime dt) items is = absurd cc
elements-array (array ds) items is = let same : ds ≡ items = cc in ap values_of same
elements-array (table ms) items is = absurd cc

some_of-map : {A B : Type 0} (f : A → B) (o : Option A) (x : Option B) → option_map f o ≡ x → is_some o ≡ true → is_some x ≡ true
some_of-map f None x same some = absurd cc
some_of-map f (Some a) x same some = rw (← same) refl

-- an array of integers is of the kind of an array
pub integers_of_kind : (most : ℕ) (value : Data) (list : Option (Bor (Vec Value Global))) (values : List Value) (are_integers : Bool)
    → option_map (λ v. array_view v.now) list ≡ as_array value → is_some list ≡ true
    → map view values ≡ elements value → are_integers ≡ list_all (λ v. is_integer (view v)) values
    → are_integers ≡ is_of_kind (Integers most) value
integers_of_kind most value list values are_integers seen some same all =
    rw (some_of-map _ list (as_array value) seen some) (all ∙ sym (list_all-map is_integer view values) ∙ ap (list_all is_integer) same)

-- an array of at most so many numbers in range is within it
pub integers_within : (most : ℕ) (test : ℕ → Bool) (value : Data) (values : List Value) (are_in_range : Bool) → length values ≤ most
    → map view values ≡ elements value → are_in_range ≡ list_all (λ v. is_number test (view v)) values
    → are_in_range ≡ is_within (Integers most) test value
integers_within most test value values are_in_range few same all =
    let count : length (elements value) ≤ most = rw (← same, length-map) few in
    rw (le-leb (length (elements value)) most count) (all ∙ sym (list_all-map (is_number test) view values) ∙ ap (list_all (is_number test)) same)

-- a table has the keys of its map
pub keys_of-view : (test : List ℕ → Bool) (es : List (String Global × Value))
    → list_all (λ name. test (string_bytes name)) (map (λ e. e.0) es) ≡ list_all (λ member. test member.0) (entries_of (members_view es))
keys_of-view test [] = refl
keys_of-view test (e ∷ es) = ap (λ others. test (string_bytes e.0) && others) (keys_of-view test es)

entries-table : (value : Data) (shown : Members) → Some shown ≡ as_table value → entries value ≡ entries_of shown
entries-table (string s) shown is = absurd cc
entries-table (integer z) shown is = absurd cc
entries-table (float x) shown is = absurd cc
entries-table (boolean b) shown is = absurd cc
entries-table (datetime dt) shown is = absurd cc
entries-table (array ds) shown is = absurd cc
entries-table (table ms) shown is = let same : ms ≡ shown = cc in ap entries_of same

-- a member that is a table is known where its section and its keys are
pub known_table : (section : List ℕ) (value : Data) (m : BTreeMap (String Global) Value) (are_keys : Bool) → is_section section ≡ true
    → Some (table_view m) ≡ as_table value → are_keys ≡ list_all (λ name. is_key section (string_bytes name)) (keys m)
    → are_keys ≡ is_known (section, value)
known_table section value m are_keys known is all =
    rw known
    (all ∙ keys_of-view (is_key section) m.entries
    ∙ ap (list_all (λ member. is_key section member.0)) (sym (entries-table value (table_view m) is)))

-- the numbers of the array at a key
pub numbers_of_elements : (document : Members) (key : Key) (value : Data) (values : List Value) (numbers : List ℕ) → Some value ≡ value_at document key
    → map view values ≡ elements value → numbers ≡ filter_map (λ v. number (view v)) values → numbers ≡ numbers_at document key
unfolding numbers_at
numbers_of_elements document key value values numbers is same all =
    rw (← is) (all ∙ sym (filter_map-map number view values) ∙ ap (filter_map number) same)
  where
    filter_map-map : {X Y Z : Type 0} (f : Y → Option Z) (g : X → Y) (xs : List X) → filter_map f (map g xs) ≡ filter_map (λ x. f (g x)) xs
    filter_map-map f g [] = refl
    filter_map-map f g (x ∷ xs) = ap (cons_option (f (g x))) (filter_map-map f g xs)
