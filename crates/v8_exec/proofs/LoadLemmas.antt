-- A load that hits retires, and its operation is counted.
use Rattle.std.proofs.Common.{◌≡◌, ℕ, ◌+◌, ◌/◌, ◌%◌, ◌^◌, ◌≤◌, ◌++◌, List, length, Some, None, refl, sym, ap, subst, arith, ◌∙◌}
use Rattle.std.proofs.lemmas.List.{length-append}
use Rattle.lf_model.specs.State.{State, advanced, with_register}
use Rattle.lf_model.specs.Effect.{Access, operates, cell_written}
use Rattle.lf_model.specs.Memory.{size_of, extended, with_words, load_effect, load_double_effect}
use Rattle.lf_model.specs.Run.{Run, with_access}
use Rattle.lf_model.specs.Step.{IsSound, Seen, Parts, state_of, run_seen, recorded, access_row, answer_of}
use Rattle.lf_model.specs.declared.bus.Entry.{Entry}
use Rattle.lf_model.specs.declared.control.Arch.{Arch}
use Rattle.lf_model.specs.declared.step.Did.TheVariants.{Retired}
use Rattle.lf_model.specs.declared.instruction.MemName.{MemName}
use Rattle.v8_exec.specs.Accesses.{load_access, Reads}
use Rattle.v8_exec.specs.Frame.{DoesAfterReads, Keeps}

same_run : (s t : State) (p q : List Entry) → s ≡ t → p ≡ q → ◌≡◌ {A = Run} (record { state = s; ops = p }) (record { state = t; ops = q })
same_run s t p q states ops = rw states (rw ops refl)

-- an operation that the parts grant, recorded with the number that they answer, and with the next state made of it
pub operation_does : (seen mid after : Seen) (parts : Parts) (a b : Arch) (access : Access) (cells : List ℕ) (next : ℕ → State) (value : ℕ)
    → access_row parts (Some access) ≡ None → answer_of parts (Some access) ≡ value → mid ≡ recorded value access seen
    → state_of b after ≡ next value → after.ops ≡ mid.ops
    → DoesAfterReads seen.site.core parts (operates access cells next) Retired (run_seen a seen) (run_seen b after)
operation_does seen mid after parts a b access cells next value row answer record_made state ops = record {
  answer = rw row refl;
  leaves = same_run (state_of b after) (next (answer_of parts (Some access))) after.ops (with_access seen.site.core (answer_of parts (Some access)) (Some access) seen.ops)
      (state ∙ ap next (sym answer))
      (ops ∙ ap (λ (t : Seen). t.ops) record_made ∙ ap (λ (v : ℕ). with_access seen.site.core v (Some access) seen.ops) (sym answer));
}

-- one operation more is recorded, and counted
pub operation_keeps : (seen mid after : Seen) (a b : Arch) (access : Access) (value spare between left : ℕ)
    → mid ≡ recorded value access seen → after.ops ≡ mid.ops → after.site ≡ mid.site
    → IsSound b → b.core ≡ a.core → b.n ≡ a.n → b.k ≡ a.k + 1 → spare ≤ between + 1 → between ≤ left
    → Keeps Retired a b seen after spare left
operation_keeps seen mid after a b access value spare between left record_made ops site sound core n k room kept = record {
  sound = sound;
  core = core;
  n = n;
  k = rw k (rw counted (omega arith));
  site = site ∙ ap (λ (t : Seen). t.site) record_made;
  room = omega arith;
}
  where
    counted : length after.ops ≡ length seen.ops + 1
    counted = ap (λ (es : List Entry). length es) ops ∙ ap (λ (t : Seen). length t.ops) record_made ∙ length-append seen.ops _

-- LD, LDUB, LDUH, LDSB, LDSH
pub load_does : (seen mid after : Seen) (parts : Parts) (a b : Arch) (name : MemName) (addr rd len got value : ℕ)
    → len ≡ size_of name → Reads parts addr len seen mid got → value ≡ extended name got
    → state_of b after ≡ advanced (with_register rd value (state_of a mid)) → after.ops ≡ mid.ops
    → DoesAfterReads seen.site.core parts (load_effect name addr rd (state_of a seen)) Retired (run_seen a seen) (run_seen b after)
load_does seen mid after parts a b name addr rd len got value size reads is state ops =
    let here : Reads parts addr (size_of name) seen mid got = subst (λ (n : ℕ). Reads parts addr n seen mid got) size reads in
    let next : ℕ → State = λ v. advanced (with_register rd (extended name v) (state_of a seen)) in
    operation_does seen mid after parts a b (load_access addr (size_of name) rd) (cell_written (state_of a seen) rd) next got
    (here.hit rd) here.read (here.made rd)
    (state ∙ ap (λ (v : ℕ). advanced (with_register rd v (state_of a mid))) is
    ∙ ap (λ (t : Seen). advanced (with_register rd (extended name got) (state_of a t))) (here.made rd))
    ops

-- LDD, which writes two registers
pub load_double_does : (seen mid wrote after : Seen) (parts : Parts) (a b : Arch) (addr rd got high low : ℕ)
    → Reads parts addr 8 seen mid got → high ≡ got / 2 ^ 32 → low ≡ got % 2 ^ 32
    → state_of a wrote ≡ with_register rd high (state_of a mid) → wrote.ops ≡ mid.ops
    → state_of b after ≡ advanced (with_register (rd + 1) low (state_of a wrote)) → after.ops ≡ wrote.ops
    → DoesAfterReads seen.site.core parts (load_double_effect addr rd (state_of a seen)) Retired (run_seen a seen) (run_seen b after)
load_double_does seen mid wrote after parts a b addr rd got high low reads high_is low_is first first_ops second second_ops =
    let next : ℕ → State = λ v. advanced (with_words rd v (state_of a seen)) in
    let one : state_of a wrote ≡ with_register rd (got / 2 ^ 32) (state_of a seen) = first ∙ ap (λ (v : ℕ). with_register rd v (state_of a mid)) high_is
    ∙ ap (λ (t : Seen). with_register rd (got / 2 ^ 32) (state_of a t)) (reads.made rd) in
    operation_does seen mid after parts a b (load_access addr 8 rd) (cell_written (state_of a seen) rd ++ cell_written (state_of a seen) (rd + 1)) next got
    (reads.hit rd) reads.read (reads.made rd)
    (second ∙ ap (λ (v : ℕ). advanced (with_register (rd + 1) v (state_of a wrote))) low_is
    ∙ ap (λ (t : State). advanced (with_register (rd + 1) (got % 2 ^ 32) t)) one)
    (second_ops ∙ first_ops)
