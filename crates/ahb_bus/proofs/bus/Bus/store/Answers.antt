use Rattle.std.proofs.Common.{◌≡◌, ◌<◌, ℕ, Bool, cond, Result, List, [], ◌∷◌, ◌++◌, refl, sym, ap, ap₂, ◌∙◌, subst}
use Rattle.std.specs.Prelude.{is_ok, is_err}
use Rattle.bus_memory.specs.Answers.{syndrome_of_answer}
use Rattle.bus_memory.specs.MemoryState.{MemoryState, made, stored, store_answer}
use Rattle.lf_model.specs.declared.bus.Bad.{Bad}
use Rattle.lf_model.specs.declared.bus.Entry.{Entry}
use Rattle.lf_model.specs.declared.bus.Transfer.{Transfer}
use Rattle.lf_model.specs.declared.bus.TurnKind.TheVariants.{Store}
use Rattle.ahb_bus.specs.Asks.{HasFields}
use Rattle.ahb_bus.specs.BusState.{asked_by, after_turn, store_entry, stored_by}
use Rattle.ahb_bus.specs.Inside.{seen}
use Rattle.ahb_bus.specs.Noting.{word_noted}
use Rattle.ahb_bus.proofs.InsideLemmas.{begun_in, lost_in, memory_is, room_for, bus_made, seen_made, len_asked, stored_values, store_entered, entry_room, master_in, store_leaves, is_length_of}
use Rattle.ahb_bus.proofs.NotingLemmas.{store_status}
use Rattle.ahb_bus.proofs.TakenLemmas.{MayStore, taken_store, fields_len, some_length}
use Rattle.ahb_bus.proofs.bus.Bus.store.Goals as goal

pub store-answer-requires-clause-room : goal.store-answer-requires-clause-room
store-answer-requires-clause-room c =
    let old = c.self.inside in
    let is = c.self.invariant in
    let may : MayStore c.args.w c.args.p.now (seen old) =
    subst (MayStore c.args.w c.args.p.now) (sym c.self.view_is) (record { turn = c.requires.turn; entry = c.requires.entry; in_ram = c.requires.in_ram; text = c.requires.text }) in
    let asked = asked_by (seen old) c.args.w Store c.args.why c.args.p.now.addr 0 c.args.p.now.len in
    let same = len_asked (seen old) c.args.w Store c.args.why c.args.p.now.addr c.turns.result c.asked.ensures.value c.turns.ensures c.args.p.now.len in
    let fields = subst HasFields same (fields_len _ c.args.p.now.len c.asked.ensures.fields) in
    let taken = taken_store (seen old) is.ok c.args.w c.args.why c.args.p.now may c.requires.cause (some_length c.args.p.now.len c.requires.length) fields in
    room_for old is asked taken

pub note_store-requires : goal.note_store-requires
note_store-requires c =
    let old = c.self.inside in
    let is = c.self.invariant in
    let may : MayStore c.args.w c.args.p.now (seen old) =
    subst (MayStore c.args.w c.args.p.now) (sym c.self.view_is) (record { turn = c.requires.turn; entry = c.requires.entry; in_ram = c.requires.in_ram; text = c.requires.text }) in
    subst (λ (t : Transfer). t.master < 9) (sym c.asked.ensures.value) (master_in old is c.args.w c.args.p.now may)

pub enter-requires-clause-room : goal.enter-requires-clause-room
enter-requires-clause-room c =
    let old = c.self.inside in
    let is = c.self.invariant in
    let may : MayStore c.args.w c.args.p.now (seen old) =
    subst (MayStore c.args.w c.args.p.now) (sym c.self.view_is) (record { turn = c.requires.turn; entry = c.requires.entry; in_ram = c.requires.in_ram; text = c.requires.text }) in
    entry_room old is c.args.w c.args.p.now may

pub enter-requires-clause-entry : goal.enter-requires-clause-entry
enter-requires-clause-entry c =
    rw c.entry_of_store.ensures (record { kind = refl; len = is_length_of c.args.p.now.len c.requires.length; aligned = c.requires.aligned; put = c.requires.value })

pub invariant_of-self : goal.invariant_of-self
invariant_of-self c =
    let old = c.self.inside in
    let is = c.self.invariant in
    let may : MayStore c.args.w c.args.p.now (seen old) =
    subst (MayStore c.args.w c.args.p.now) (sym c.self.view_is) (record { turn = c.requires.turn; entry = c.requires.entry; in_ram = c.requires.in_ram; text = c.requires.text }) in
    let asked = asked_by (seen old) c.args.w Store c.args.why c.args.p.now.addr 0 c.args.p.now.len in
    let same = len_asked (seen old) c.args.w Store c.args.why c.args.p.now.addr c.turns.result c.asked.ensures.value c.turns.ensures c.args.p.now.len in
    let fields = subst HasFields same (fields_len _ c.args.p.now.len c.asked.ensures.fields) in
    let taken = taken_store (seen old) is.ok c.args.w c.args.why c.args.p.now may c.requires.cause (some_length c.args.p.now.len c.requires.length) fields in
    let values : List ℕ = (stored c.args.p.now.addr c.args.p.now.len c.args.p.now.value old.memory).values in
    let entries = cond (lost_in old.memory c.args.p.now.addr c.args.p.now.len) [] (store_entry c.args.w c.args.p.now ∷ []) in
    let turned : c.store-answer.new.self ≡ made asked (record old.memory { values = values }) =
    c.store-answer.ensures.made
    ∙ ap (λ (t : Transfer). made t (stored t.addr t.len c.args.p.now.value old.memory)) same
    ∙ ap (made asked) (stored_values c.args.p.now.addr c.args.p.now.len c.args.p.now.value old.memory) in
    let answer = c.store-answer.ensures.answer ∙ ap (λ (t : Transfer). store_answer old.memory t.addr t.len) same in
    let noted = c.note_store.ensures ∙ ap₂ (λ (t : Transfer) (a : Result ℕ Bad). word_noted old.status t (syndrome_of_answer a) (is_err a)) same answer ∙ sym (store_status old.status asked old.memory refl) in
    let entered : c.enter.new.log ≡ record old.log { entries = old.log.entries ++ cond (lost_in old.memory c.args.p.now.addr c.args.p.now.len) [] (store_entry c.args.w c.args.p.now ∷ []) } =
    c.enter.ensures
    ∙ ap (λ (es : List Entry). record old.log { entries = old.log.entries ++ es })
    (ap₂ (λ (b : Bool) (e : Entry). cond b (e ∷ []) []) (c.is_ok.ensures.value ∙ ap is_ok answer) c.entry_of_store.ensures ∙ store_entered old.memory c.args.p.now.addr c.args.p.now.len (store_entry c.args.w c.args.p.now)) in
    bus_made old is asked taken values entries turned entered noted (begun_in old c.args.self.now c.self.view_is c.requires.begun)
    (store_leaves old is c.args.w c.args.p.now may c.requires.aligned c.requires.value c.args.why c.requires.length taken)

pub returns-clause-ok : goal.returns-clause-ok
returns-clause-ok c = (invariant_of-self c).ok

pub returns-clause-made : goal.returns-clause-made
returns-clause-made c =
    let old = c.self.inside in
    let is = c.self.invariant in
    let may : MayStore c.args.w c.args.p.now (seen old) =
    subst (MayStore c.args.w c.args.p.now) (sym c.self.view_is) (record { turn = c.requires.turn; entry = c.requires.entry; in_ram = c.requires.in_ram; text = c.requires.text }) in
    let asked = asked_by (seen old) c.args.w Store c.args.why c.args.p.now.addr 0 c.args.p.now.len in
    let same = len_asked (seen old) c.args.w Store c.args.why c.args.p.now.addr c.turns.result c.asked.ensures.value c.turns.ensures c.args.p.now.len in
    let fields = subst HasFields same (fields_len _ c.args.p.now.len c.asked.ensures.fields) in
    let taken = taken_store (seen old) is.ok c.args.w c.args.why c.args.p.now may c.requires.cause (some_length c.args.p.now.len c.requires.length) fields in
    let values : List ℕ = (stored c.args.p.now.addr c.args.p.now.len c.args.p.now.value old.memory).values in
    let entries = cond (lost_in old.memory c.args.p.now.addr c.args.p.now.len) [] (store_entry c.args.w c.args.p.now ∷ []) in
    let turned : c.store-answer.new.self ≡ made asked (record old.memory { values = values }) =
    c.store-answer.ensures.made
    ∙ ap (λ (t : Transfer). made t (stored t.addr t.len c.args.p.now.value old.memory)) same
    ∙ ap (made asked) (stored_values c.args.p.now.addr c.args.p.now.len c.args.p.now.value old.memory) in
    let answer = c.store-answer.ensures.answer ∙ ap (λ (t : Transfer). store_answer old.memory t.addr t.len) same in
    let noted = c.note_store.ensures ∙ ap₂ (λ (t : Transfer) (a : Result ℕ Bad). word_noted old.status t (syndrome_of_answer a) (is_err a)) same answer ∙ sym (store_status old.status asked old.memory refl) in
    let entered : c.enter.new.log ≡ record old.log { entries = old.log.entries ++ cond (lost_in old.memory c.args.p.now.addr c.args.p.now.len) [] (store_entry c.args.w c.args.p.now ∷ []) } =
    c.enter.ensures
    ∙ ap (λ (es : List Entry). record old.log { entries = old.log.entries ++ es })
    (ap₂ (λ (b : Bool) (e : Entry). cond b (e ∷ []) []) (c.is_ok.ensures.value ∙ ap is_ok answer) c.entry_of_store.ensures ∙ store_entered old.memory c.args.p.now.addr c.args.p.now.len (store_entry c.args.w c.args.p.now)) in
    seen_made old is asked taken values entries turned entered noted
    ∙ ap (λ (m : MemoryState). after_turn asked (cond (lost_in m c.args.p.now.addr c.args.p.now.len) [] (store_entry c.args.w c.args.p.now ∷ [])) (stored c.args.p.now.addr c.args.p.now.len c.args.p.now.value m).values (seen old)) (memory_is old is)
    ∙ ap (stored_by c.args.w c.args.why c.args.p.now) c.self.view_is
