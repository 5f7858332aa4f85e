-- Items of a list, read one after another: those read already stand before those that are left.
use Rattle.std.proofs.Common.{◌≡◌, ℕ, zero, suc, ◌+◌, List, [], ◌∷◌, ◌++◌, refl, sym, append_assoc, ◌∙◌, arith, ◌<◌}
use Rattle.std.specs.Prelude.{Result, Ok, Err, false, if◌then◌else◌}
use Rattle.std.specs.Result.{is_ok, is_err}
use Rattle.report_fields.specs.Parts.{Part, ◌>=>◌, items_at, Gives}
use Rattle.report_fields.specs.declared.unread.Unread.{Unread}
use Rattle.report_fields.specs.declared.unread.Unread.TheVariants.{Memory, Left}

abbrev pub front : {X : Type 0} → List X → Part (List X) → Part (List X)
front xs answer = answer >=> λ y. Ok (xs ++ y.0, y.1)

pub front_none : {X : Type 0} (answer : Part (List X)) → front [] answer ≡ answer
front_none (Ok y) = refl
front_none (Err left) = refl

pub item_refused : {X : Type 0} (at : ℕ → List ℕ → Part X) (xs : List X) (i n left : ℕ) (bytes : List ℕ) → 0 < n → at i bytes ≡ Err left
    → front xs (items_at at i n bytes) ≡ Err left
item_refused at xs i zero left bytes some e = absurd (omega arith)
item_refused at xs i (suc n) left bytes some e = rw e refl

fronted : {X : Type 0} (xs : List X) (x : X) (answer : Part (List X)) → front xs (answer >=> λ ys. Ok (x ∷ ys.0, ys.1)) ≡ front (xs ++ x ∷ []) answer
fronted xs x (Ok y) = rw append_assoc refl
fronted xs x (Err left) = refl

pub item_read : {X : Type 0} (at : ℕ → List ℕ → Part X) (xs ys : List X) (i n m : ℕ) (x : X) (bytes rest : List ℕ) → n ≡ m + 1 → at i bytes ≡ Ok (x, rest)
    → ys ≡ xs ++ x ∷ [] → front ys (items_at at (i + 1) m rest) ≡ front xs (items_at at i n bytes)
item_read at xs ys i zero m x bytes rest more e push = absurd (omega arith)
item_read at xs ys i (suc n) m x bytes rest more e push =
    let same : m ≡ n = omega arith in
    rw (push, e, same) (sym (fronted xs x (items_at at (i + 1) n rest)))

pub items_refused : {X A B : Type 0} (f : A → X × List ℕ) (h : B → List X × List ℕ) (at : ℕ → List ℕ → Part X) (xs : List X) (i n : ℕ) (bytes : List ℕ) (unread : Unread)
    (whole : Part (List X)) → 0 < n → Gives f (Err unread) (at i bytes) → front xs (items_at at i n bytes) ≡ whole → Gives h (Err unread) whole
items_refused f h at xs i n bytes Memory whole some e is = tt
items_refused f h at xs i n bytes (Left left) whole some e is = sym is ∙ item_refused at xs i n left bytes some e

pub pushed : {X E : Type 0} (xs ys zs : List X) (r : Result (Unit {0}) E) → zs ≡ (if is_ok r then ys else xs) → is_err r ≡ false → zs ≡ ys
pushed xs ys zs (Ok x) e good = e
pushed xs ys zs (Err x) e good = absurd cc
