-- A transfer on the bus that is a snoop or in RAM: what memory answers it, and whether it enters the log, are the same by its kind
-- alone, as the record of the bus says, and by the mark of a transfer that only catches up, as a core's course says.
use Rattle.std.proofs.Common.{◌≡◌, ◌+◌, ◌&&◌, ℕ, Bool, true, false, not, nat_le, List, [], if◌then◌else◌, refl, ap, arith}
use Rattle.std.proofs.lemmas.Bool.{leb-true, ne_eqb, and_parts}
use Rattle.lf_model.specs.Bus.Words.{Word, answered}
use Rattle.lf_model.specs.Course.Syndromes.{has_address, enters_log}
use Rattle.lf_model.specs.Records.BusMemory.{with_answer}
use Rattle.lf_model.specs.Records.BusRecord.{is_successful, is_in_memory}
use Rattle.lf_model.specs.Start.{ram_first}
use Rattle.lf_model.specs.declared.bus.Transfer.{Transfer}
use Rattle.lf_model.specs.declared.bus.TurnKind.{TurnKind}
use Rattle.lf_model.specs.declared.bus.TurnKind.TheVariants.{Fetch, Load, Store, Atomic, Snoop, Look, Fix}

abbrev no_words : List ℕ
no_words = []

-- a list that is empty in both cases
none_either : (b : Bool) → (if b then no_words else no_words) ≡ no_words
none_either true = refl
none_either false = refl

module _ (ram : ℕ) where
  -- an address in RAM is not 0
  has : (t : Transfer) → nat_le ram_first t.addr && nat_le (t.addr + 1) (ram_first + ram) ≡ true → has_address t ≡ true
  has t is = ap not (ne_eqb t.addr 0 (λ none. omega (arith, none, leb-true ram_first t.addr (and_parts _ _ is).0)))

  answer_of : (kind : TurnKind) (words : List Word) (t : Transfer) → is_in_memory ram (record t { kind = kind }) ≡ true
      → with_answer words (record t { kind = kind }) ≡ answered words (record t { kind = kind })
  answer_of Snoop words t is = rw (none_either (has_address t)) refl
  answer_of Fetch words t is = rw (has t is) refl
  answer_of Load words t is = rw (has t is) refl
  answer_of Store words t is = rw (has t is) refl
  answer_of Atomic words t is = rw (has t is) refl
  answer_of Look words t is = rw (has t is) refl
  answer_of Fix words t is = rw (has t is) refl

  -- memory answers it the same
  pub answer-answered : (words : List Word) (t : Transfer) → is_in_memory ram t ≡ true → with_answer words t ≡ answered words t
  answer-answered words t is = answer_of t.kind words t is

  entered_of : (kind : TurnKind) (t : Transfer) → is_in_memory ram (record t { kind = kind }) ≡ true
      → is_successful (record t { kind = kind }) ≡ enters_log (record t { kind = kind })
  entered_of Snoop t is = refl
  entered_of Fetch t is = refl
  entered_of Load t is = refl
  entered_of Store t is = rw (has t is) refl
  entered_of Atomic t is = rw (has t is) refl
  entered_of Look t is = refl
  entered_of Fix t is = refl

  -- it puts an entry into the log in both readings
  pub successful-enters : (t : Transfer) → is_in_memory ram t ≡ true → is_successful t ≡ enters_log t
  successful-enters t is = entered_of t.kind t is
