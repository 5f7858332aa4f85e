-- A map in the code, as the finite map from names to bytes that clauses see.
use Rattle.std.proofs.Common.{◌≡◌, ℕ, List, [], ◌∷◌, refl, ap, sym, ◌∙◌, Bool, true, false, cond, map}
use Rattle.std.specs.Prelude.{Option, Some, String, Vec, string_bytes}
use Rattle.std.specs.declared.alloc.Global.{Global}
use Rattle.std.specs.Option.{option_map}
use Rattle.std.specs.Ordering.{nat_cmp, is_eq, eq_by_cmp}
use Rattle.std.specs.Cmp.{eq_by_cmp_equiv}
use Rattle.std.specs.Cmp.Lexicographic.{slice_cmp, nat_list_cmp_total}
use Rattle.std.specs.String.{string_cmp}
use Rattle.std.specs.Str.{bytes_eq}
use Rattle.std.specs.Map.{lookup}
use Rattle.std.specs.BTreeMap.{BTreeMap, is_at, get_by_text, Updates}
use Rattle.std.specs.FinMap as fin
use Rattle.std.specs.FinMap.{find, from_entries, get-from_entries, get-insert, same_map, slice_cmp-IsAntisymmetric, nat_cmp-IsAntisymmetric}
use Rattle.std.proofs.lemmas.Map.Text.{btree_map_updates_text, is_eq-slice_cmp}
use Rattle.lf_io.specs.Memory.{shown_file}

abbrev Files : Type 0
Files = BTreeMap (String Global) (Vec ℕ Global)

-- the files that clauses see
abbrev shown : Files → fin.FinMap (slice_cmp nat_cmp) (List ℕ)
shown m = from_entries (map shown_file m.entries)

shown_first : (b : Bool) (v : Vec ℕ Global) (x : Option (List ℕ)) (y : Option (Vec ℕ Global)) → x ≡ option_map (λ f. f.items) y → cond b (Some v.items) x ≡ option_map (λ f. f.items) (cond b (Some v) y)
shown_first true v x y same = refl
shown_first false v x y same = same

find_shown : (q : List ℕ) (es : List (String Global × Vec ℕ Global)) → find (slice_cmp nat_cmp) q (map shown_file es) ≡ option_map (λ f. f.items) (lookup (is_at (λ k. slice_cmp nat_cmp q (string_bytes k))) es)
find_shown q [] = refl
find_shown q (e ∷ es) = shown_first (is_eq (slice_cmp nat_cmp q (string_bytes e.0))) e.1 _ _ (find_shown q es)

-- what a name finds
pub get_shown : (m : Files) (q : List ℕ) → fin.get (from_entries {R = slice_cmp nat_cmp} (map shown_file m.entries)) q ≡ option_map (λ f. f.items) (get_by_text m q)
get_shown m q = get-from_entries nat_list_cmp_total _ q ∙ find_shown q m.entries

same_test : (k q : List ℕ) → bytes_eq k q ≡ eq_by_cmp (slice_cmp nat_cmp) q k
same_test k q = sym (is_eq-slice_cmp k q) ∙ (eq_by_cmp_equiv nat_list_cmp_total).symm k q

-- a file that is put
pub insert_shown : (m n : Files) (k : String Global) (v : Vec ℕ Global) → Updates string_cmp m n k (Some v) → from_entries {R = slice_cmp nat_cmp} (map shown_file n.entries) ≡ fin.insert (from_entries (map shown_file m.entries)) (string_bytes k) v.items
insert_shown m n k v put = same_map nat_list_cmp_total (slice_cmp-IsAntisymmetric nat_cmp-IsAntisymmetric) _ _ (λ q.
    get_shown n q
    ∙ ap (option_map (λ f. f.items)) (btree_map_updates_text (string_bytes k) m n (Some v) put q)
    ∙ sym (shown_first (bytes_eq (string_bytes k) q) v _ _ (get_shown m q))
    ∙ ap (λ b. cond b (Some v.items) (fin.get (shown m) q)) (same_test (string_bytes k) q)
    ∙ sym (get-insert nat_list_cmp_total (shown m) (string_bytes k) v.items q))
