-- What a core is given by its operations: more of them give more, and it is the same where stores are lost.
use Rattle.std.proofs.Common.{◌≡◌, ◌∙◌, ◌++◌, ℕ, Bool, true, false, nat_le, List, [], ◌∷◌, map, filter, refl, ap}
use Rattle.std.proofs.lemmas.List.{map-append}
use Rattle.std.proofs.lemmas.List.Elements.{filter-append}
use Rattle.core_laws.proofs.LostKinds.{lost_reads, lost_stays_store, lost_kind_made}
use Rattle.core_laws.specs.Running.{with_later}
use Rattle.core_laws.specs.SeenSoFar.{lost_from, losing}
use Rattle.lf_model.specs.Course.Core.{Given, is_store, given_by}
use Rattle.lf_model.specs.ProgramOrder.{got_of, answers_of}
use Rattle.lf_model.specs.Operation.{kind_reads, reads, made}
use Rattle.lf_model.specs.declared.bus.Entry.{Entry}
use Rattle.lf_model.specs.declared.trace.Op.{Op}

both_given : {answers answers' : List ℕ} {stores stores' : List Entry} → answers ≡ answers' → stores ≡ stores'
    → ◌≡◌ {A = Given} (record { answers = answers; stores = stores }) (record { answers = answers'; stores = stores' })
both_given p q = rw (p, q) refl

pub given_more : (ops more : List Op) → given_by (ops ++ more) ≡ with_later (given_by ops) (given_by more)
given_more ops more = both_given
    (ap (map got_of) (filter-append reads ops more) ∙ map-append got_of (filter reads ops) (filter reads more))
    (ap (map made) (filter-append is_store ops more) ∙ map-append made (filter is_store ops) (filter is_store more))

-- ---- lost stores

-- the program made the same operation
pub lost_made : (n : ℕ) (o : Op) → made (lost_from n o) ≡ made o
lost_made n o = ap (λ kind. record (made o) { kind = kind }) (lost_kind_made o.kind (nat_le n o.k))

pub losing_made : (n : ℕ) (ops : List Op) → map made (losing n ops) ≡ map made ops
losing_made n [] = refl
losing_made n (o ∷ ops) = let first = lost_made n o in let later = losing_made n ops in cc

read_first : (n : ℕ) (o : Op) (ops : List Op) (is : Bool) → kind_reads o.kind ≡ is → answers_of (losing n ops) ≡ answers_of ops → answers_of (losing n (o ∷ ops)) ≡ answers_of (o ∷ ops)
read_first n o ops true e later = rw (lost_reads o.kind (nat_le n o.k), e) (ap (λ answers. o.got ∷ answers) later)
read_first n o ops false e later = rw (lost_reads o.kind (nat_le n o.k), e) later

answers_lost : (n : ℕ) (ops : List Op) → answers_of (losing n ops) ≡ answers_of ops
answers_lost n [] = refl
answers_lost n (o ∷ ops) = read_first n o ops (kind_reads o.kind) refl (answers_lost n ops)

abbrev stores_of : List Op → List Entry
stores_of ops = map made (filter is_store ops)

stored_first : (n : ℕ) (o : Op) (ops : List Op) (is : Bool) → is_store o ≡ is → stores_of (losing n ops) ≡ stores_of ops → stores_of (losing n (o ∷ ops)) ≡ stores_of (o ∷ ops)
stored_first n o ops true e later = rw (lost_stays_store o.kind (nat_le n o.k), e) (let first = lost_made n o in cc)
stored_first n o ops false e later = rw (lost_stays_store o.kind (nat_le n o.k), e) later

stores_lost : (n : ℕ) (ops : List Op) → stores_of (losing n ops) ≡ stores_of ops
stores_lost n [] = refl
stores_lost n (o ∷ ops) = stored_first n o ops (is_store o) refl (stores_lost n ops)

pub given_lost : (n : ℕ) (ops : List Op) → given_by (losing n ops) ≡ given_by ops
given_lost n ops = both_given (answers_lost n ops) (stores_lost n ops)
