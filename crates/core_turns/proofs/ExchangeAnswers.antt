-- An atomic on the bus: whether its entry is in the log, what it answers, and the number that it read.
use Rattle.std.proofs.Common.{◌≡◌, ◌∙◌, ◌+◌, ◌++◌, ◌≤◌, ◌==◌, ◌||◌, ℕ, Bool, true, false, IsTrue, Result, Ok, Err, [], ◌∷◌, length, cond, refl, ap, sym, arith, if◌then◌else◌}
use Rattle.std.proofs.lemmas.Bool.Decides.{nat_tests}
use Rattle.std.proofs.lemmas.List.{length-append}
use Rattle.std.specs.Prelude.{is_ok}
use Rattle.ahb_bus.proofs.ShownLemmas.{atomic_shown, atomic_log}
use Rattle.ahb_bus.specs.BusOk.{BusOk}
use Rattle.ahb_bus.specs.BusState.{BusState, memory_of, asked_by, answered, part_of, atomic_entry, exchanged_by}
use Rattle.ahb_bus.specs.declared.record.Who.{Who}
use Rattle.bus_memory.specs.MemoryState.{MemoryState, is_bad_at, syndrome_at, value_at, read_answer}
use Rattle.core_parts.specs.CoreValue.{CoreValue}
use Rattle.lf_model.specs.Bus.Words.{word_of}
use Rattle.lf_model.specs.Course.Syndromes.{has_address, enters_log}
use Rattle.lf_model.specs.declared.bus.Bad.{Bad}
use Rattle.lf_model.specs.declared.bus.Pending.{Pending}
use Rattle.lf_model.specs.declared.bus.Transfer.{Transfer}
use Rattle.lf_model.specs.declared.bus.TurnKind.TheVariants as kinds
use Rattle.lf_model.specs.declared.bus.Why.TheVariants as whys
use Rattle.lf_model.specs.declared.step.Turn.TheVariants.{Atomic}
use Rattle.ram_words.specs.declared.answer.Got.{Got}
use Rattle.core_turns.proofs.Answers.{did_by, atomic_answer}
use Rattle.core_turns.proofs.DrainLemmas.{in_ram_placed}
use Rattle.core_turns.specs.AfterTurn.{exchanged}
use Rattle.core_turns.specs.AskedTurn.{turn_answer}
use Rattle.core_turns.specs.Exchanging.{CanExchange, exchanged_if}

some_bytes : (len : ℕ) → IsTrue (len == 1 || len == 4) → 1 ≤ len
some_bytes len is = grind (arith, nat_tests)

abbrev value_in : Result Got Bad → ℕ
value_in (Ok got) = got.value
value_in (Err bad) = 0

-- a word that reads well reads as the number that was last written to it
pub value_read : (m : MemoryState) (addr : ℕ) (got : Got) → Ok got ≡ read_answer m addr → got.value ≡ value_at m addr
unfolding read_answer
value_read m addr got is = by (is_bad_at m addr) is
  where
    by : (bad : Bool)
        → Ok got ≡ cond {A = Result Got Bad} bad (Err (record { addr = addr; syn = syndrome_at m addr })) (Ok (record { value = value_at m addr; syn = syndrome_at m addr }))
        → got.value ≡ value_at m addr
    by true is = absurd cc
    by false is = ap value_in is

module _ (bus : BusState) (who : Who) (p : Pending) (rd : ℕ) (ok : BusOk bus) (h : CanExchange bus.setup p rd) where
  abbrev pub t : Transfer
  t = answered bus (asked_by bus who kinds.Atomic whys.None p.addr 0 p.len)

  some : 1 ≤ p.len
  some = some_bytes p.len h.size

  placed : has_address t ≡ true
  placed = in_ram_placed bus.setup.config.ram p.addr p.len h.store.in_ram

  shown : is_ok (read_answer (memory_of bus) (word_of p.addr)) ≡ enters_log t
  shown = atomic_shown bus ok who p some h.store.in_ram

  pub enters : (got : Got) → Ok got ≡ read_answer (memory_of bus) (word_of p.addr) → enters_log t ≡ true
  enters got is = sym shown ∙ ap is_ok (sym is)

  pub refused : (bad : Bad) → Err bad ≡ read_answer (memory_of bus) (word_of p.addr) → enters_log t ≡ false
  refused bad is = sym shown ∙ ap is_ok (sym is)

  -- its entry is one more
  pub log_longer : (got : Got) → Ok got ≡ read_answer (memory_of bus) (word_of p.addr) → length (exchanged_by who p bus).log ≡ length bus.log + 1
  log_longer got is =
      ap length (atomic_log bus ok who p some h.store.in_ram
      ∙ ap (λ b. bus.log ++ cond b (atomic_entry who p (value_at (memory_of bus) (word_of p.addr)) ∷ []) []) (enters got is))
      ∙ length-append bus.log (atomic_entry who p (value_at (memory_of bus) (word_of p.addr)) ∷ [])

  pub answers : (pc : ℕ) (r : Result Got Bad) → r ≡ read_answer (memory_of bus) (word_of p.addr)
      → did_by (Atomic p.addr p.len p.value rd) r ≡ turn_answer pc (Atomic p.addr p.len p.value rd) t
  answers pc r is = ap (did_by (Atomic p.addr p.len p.value rd)) is ∙ atomic_answer bus who p some h.store.in_ram ok pc p.value rd placed

  -- the core after it: before, v; and after it, made
  abbrev number : ℕ
  number = part_of (value_at (memory_of bus) (word_of p.addr)) p.addr p.len

  pub core_exchanged : (got : Got) → Ok got ≡ read_answer (memory_of bus) (word_of p.addr) → (read : ℕ) → read ≡ part_of got.value p.addr p.len
      → (v made : CoreValue) → made ≡ exchanged p.addr p.len p.value rd read v → made ≡ exchanged_if (enters_log t) p rd number v
  core_exchanged got is read reads v made m =
      m
      ∙ (ap (λ n. exchanged p.addr p.len p.value rd n v) (reads ∙ ap (λ w. part_of w p.addr p.len) (value_read (memory_of bus) (word_of p.addr) got is))
      ∙ taken (enters_log t) (enters got is))
    where
      taken : (b : Bool) → b ≡ true → exchanged p.addr p.len p.value rd number v ≡ (if b then exchanged p.addr p.len p.value rd number v else v)
      taken b is = rw is refl

  pub core_same : (bad : Bad) → Err bad ≡ read_answer (memory_of bus) (word_of p.addr)
      → (v : CoreValue) → v ≡ exchanged_if (enters_log t) p rd number v
  core_same bad is v = same (enters_log t) (refused bad is)
    where
      same : (b : Bool) → b ≡ false → v ≡ (if b then exchanged p.addr p.len p.value rd number v else v)
      same b is = rw is refl
