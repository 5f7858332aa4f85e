use Rattle.std.proofs.Common.{◌≡◌, ◌<◌, ℕ, Bool, cond, Result, List, [], ◌∷◌, ◌++◌, refl, sym, ap, ap₂, ◌∙◌, subst}
use Rattle.std.specs.Prelude.{is_ok, is_err}
use Rattle.bus_memory.specs.Answers.{syndrome_of_read}
use Rattle.bus_memory.specs.MemoryState.{MemoryState, made, merged_in, read_answer}
use Rattle.lf_model.specs.Bus.Words.{word_of}
use Rattle.lf_model.specs.declared.bus.Bad.{Bad}
use Rattle.lf_model.specs.declared.bus.Entry.{Entry}
use Rattle.lf_model.specs.declared.bus.Transfer.{Transfer}
use Rattle.lf_model.specs.declared.bus.TurnKind.TheVariants.{Atomic}
use Rattle.lf_model.specs.declared.bus.Why.TheVariants as whys
use Rattle.ram_words.specs.declared.answer.Got.{Got}
use Rattle.ahb_bus.specs.Asks.{HasFields}
use Rattle.ahb_bus.specs.BusState.{asked_by, after_turn, atomic_entry, word_of_answer, exchanged_by}
use Rattle.ahb_bus.specs.Inside.{seen}
use Rattle.ahb_bus.specs.Noting.{word_noted}
use Rattle.ahb_bus.proofs.InsideLemmas.{begun_in, bad_in, word_at, memory_is, room_for, bus_made, seen_made, len_asked, merged_values, atomic_entered, entry_room, master_in, atomic_leaves, is_length_of, atomic_is_length}
use Rattle.ahb_bus.proofs.NotingLemmas.{atomic_status}
use Rattle.ahb_bus.proofs.TakenLemmas.{MayStore, taken_atomic, fields_len, some_length}
use Rattle.ahb_bus.proofs.bus.Bus.atomic.Goals as goal

pub exchange-answer-requires-clause-room : goal.exchange-answer-requires-clause-room
exchange-answer-requires-clause-room c =
    let old = c.self.inside in
    let is = c.self.invariant in
    let may : MayStore c.args.w c.args.p.now (seen old) =
    subst (MayStore c.args.w c.args.p.now) (sym c.self.view_is) (record { turn = c.requires.turn; entry = c.requires.entry; in_ram = c.requires.in_ram; text = c.requires.text }) in
    let asked = asked_by (seen old) c.args.w Atomic whys.None c.args.p.now.addr 0 c.args.p.now.len in
    let same = len_asked (seen old) c.args.w Atomic whys.None c.args.p.now.addr c.turns.result c.asked.ensures.value c.turns.ensures c.args.p.now.len in
    let fields = subst HasFields same (fields_len _ c.args.p.now.len c.asked.ensures.fields) in
    let taken = taken_atomic (seen old) is.ok c.args.w c.args.p.now may (some_length c.args.p.now.len (atomic_is_length c.args.p.now.len c.requires.length)) fields in
    room_for old is asked taken

pub note_atomic-requires : goal.note_atomic-requires
note_atomic-requires c =
    let old = c.self.inside in
    let is = c.self.invariant in
    let may : MayStore c.args.w c.args.p.now (seen old) =
    subst (MayStore c.args.w c.args.p.now) (sym c.self.view_is) (record { turn = c.requires.turn; entry = c.requires.entry; in_ram = c.requires.in_ram; text = c.requires.text }) in
    subst (λ (t : Transfer). t.master < 9) (sym c.asked.ensures.value) (master_in old is c.args.w c.args.p.now may)

pub enter-requires-clause-room : goal.enter-requires-clause-room
enter-requires-clause-room c =
    let old = c.self.inside in
    let is = c.self.invariant in
    let may : MayStore c.args.w c.args.p.now (seen old) =
    subst (MayStore c.args.w c.args.p.now) (sym c.self.view_is) (record { turn = c.requires.turn; entry = c.requires.entry; in_ram = c.requires.in_ram; text = c.requires.text }) in
    entry_room old is c.args.w c.args.p.now may

pub enter-requires-clause-entry : goal.enter-requires-clause-entry
enter-requires-clause-entry c =
    rw c.entry_of_atomic.ensures (record { kind = refl; len = is_length_of c.args.p.now.len (atomic_is_length c.args.p.now.len c.requires.length); aligned = c.requires.aligned; put = c.requires.value })

pub invariant_of-self : goal.invariant_of-self
invariant_of-self c =
    let old = c.self.inside in
    let is = c.self.invariant in
    let may : MayStore c.args.w c.args.p.now (seen old) =
    subst (MayStore c.args.w c.args.p.now) (sym c.self.view_is) (record { turn = c.requires.turn; entry = c.requires.entry; in_ram = c.requires.in_ram; text = c.requires.text }) in
    let asked = asked_by (seen old) c.args.w Atomic whys.None c.args.p.now.addr 0 c.args.p.now.len in
    let same = len_asked (seen old) c.args.w Atomic whys.None c.args.p.now.addr c.turns.result c.asked.ensures.value c.turns.ensures c.args.p.now.len in
    let fields = subst HasFields same (fields_len _ c.args.p.now.len c.asked.ensures.fields) in
    let taken = taken_atomic (seen old) is.ok c.args.w c.args.p.now may (some_length c.args.p.now.len (atomic_is_length c.args.p.now.len c.requires.length)) fields in
    let values : List ℕ = (merged_in c.args.p.now.addr c.args.p.now.len c.args.p.now.value old.memory).values in
    let entries = cond (bad_in old.memory c.args.p.now.addr) [] (atomic_entry c.args.w c.args.p.now (word_at old.memory c.args.p.now.addr) ∷ []) in
    let turned : c.exchange-answer.new.self ≡ made asked (record old.memory { values = values }) =
    c.exchange-answer.ensures.made
    ∙ ap (λ (t : Transfer). made t (merged_in t.addr t.len c.args.p.now.value old.memory)) same
    ∙ ap (made asked) (merged_values c.args.p.now.addr c.args.p.now.len c.args.p.now.value old.memory) in
    let answer = c.exchange-answer.ensures.answer ∙ ap (λ (t : Transfer). read_answer old.memory (word_of t.addr)) same in
    let noted = c.note_atomic.ensures ∙ ap₂ (λ (t : Transfer) (a : Result Got Bad). word_noted old.status t (syndrome_of_read a) (is_err a)) same answer ∙ sym (atomic_status old.status asked old.memory refl) in
    let entered : c.enter.new.log ≡ record old.log { entries = old.log.entries ++ cond (bad_in old.memory c.args.p.now.addr) [] (atomic_entry c.args.w c.args.p.now (word_at old.memory c.args.p.now.addr) ∷ []) } =
    c.enter.ensures
    ∙ ap (λ (es : List Entry). record old.log { entries = old.log.entries ++ es })
    (ap₂ (λ (b : Bool) (e : Entry). cond b (e ∷ []) []) (c.is_ok.ensures.value ∙ ap is_ok answer) (c.entry_of_atomic.ensures ∙ ap (atomic_entry c.args.w c.args.p.now) (c.word_read-word.ensures ∙ ap word_of_answer answer)) ∙ atomic_entered old.memory c.args.w c.args.p.now (word_of c.args.p.now.addr)) in
    bus_made old is asked taken values entries turned entered noted (begun_in old c.args.self.now c.self.view_is c.requires.begun)
    (atomic_leaves old is c.args.w c.args.p.now may c.requires.aligned c.requires.value c.requires.length taken)

pub returns-clause-ok : goal.returns-clause-ok
returns-clause-ok c = (invariant_of-self c).ok

pub returns-clause-made : goal.returns-clause-made
returns-clause-made c =
    let old = c.self.inside in
    let is = c.self.invariant in
    let may : MayStore c.args.w c.args.p.now (seen old) =
    subst (MayStore c.args.w c.args.p.now) (sym c.self.view_is) (record { turn = c.requires.turn; entry = c.requires.entry; in_ram = c.requires.in_ram; text = c.requires.text }) in
    let asked = asked_by (seen old) c.args.w Atomic whys.None c.args.p.now.addr 0 c.args.p.now.len in
    let same = len_asked (seen old) c.args.w Atomic whys.None c.args.p.now.addr c.turns.result c.asked.ensures.value c.turns.ensures c.args.p.now.len in
    let fields = subst HasFields same (fields_len _ c.args.p.now.len c.asked.ensures.fields) in
    let taken = taken_atomic (seen old) is.ok c.args.w c.args.p.now may (some_length c.args.p.now.len (atomic_is_length c.args.p.now.len c.requires.length)) fields in
    let values : List ℕ = (merged_in c.args.p.now.addr c.args.p.now.len c.args.p.now.value old.memory).values in
    let entries = cond (bad_in old.memory c.args.p.now.addr) [] (atomic_entry c.args.w c.args.p.now (word_at old.memory c.args.p.now.addr) ∷ []) in
    let turned : c.exchange-answer.new.self ≡ made asked (record old.memory { values = values }) =
    c.exchange-answer.ensures.made
    ∙ ap (λ (t : Transfer). made t (merged_in t.addr t.len c.args.p.now.value old.memory)) same
    ∙ ap (made asked) (merged_values c.args.p.now.addr c.args.p.now.len c.args.p.now.value old.memory) in
    let answer = c.exchange-answer.ensures.answer ∙ ap (λ (t : Transfer). read_answer old.memory (word_of t.addr)) same in
    let noted = c.note_atomic.ensures ∙ ap₂ (λ (t : Transfer) (a : Result Got Bad). word_noted old.status t (syndrome_of_read a) (is_err a)) same answer ∙ sym (atomic_status old.status asked old.memory refl) in
    let entered : c.enter.new.log ≡ record old.log { entries = old.log.entries ++ cond (bad_in old.memory c.args.p.now.addr) [] (atomic_entry c.args.w c.args.p.now (word_at old.memory c.args.p.now.addr) ∷ []) } =
    c.enter.ensures
    ∙ ap (λ (es : List Entry). record old.log { entries = old.log.entries ++ es })
    (ap₂ (λ (b : Bool) (e : Entry). cond b (e ∷ []) []) (c.is_ok.ensures.value ∙ ap is_ok answer) (c.entry_of_atomic.ensures ∙ ap (atomic_entry c.args.w c.args.p.now) (c.word_read-word.ensures ∙ ap word_of_answer answer)) ∙ atomic_entered old.memory c.args.w c.args.p.now (word_of c.args.p.now.addr)) in
    seen_made old is asked taken values entries turned entered noted
    ∙ ap (λ (m : MemoryState). after_turn asked (cond (bad_in m c.args.p.now.addr) [] (atomic_entry c.args.w c.args.p.now (word_at m c.args.p.now.addr) ∷ [])) (merged_in c.args.p.now.addr c.args.p.now.len c.args.p.now.value m).values (seen old)) (memory_is old is)
    ∙ ap (exchanged_by c.args.w c.args.p.now) c.self.view_is
