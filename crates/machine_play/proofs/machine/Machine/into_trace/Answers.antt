use Rattle.std.proofs.Common.{◌≡◌, ◌∙◌, true, ℕ, List, map, fold, sym, ap, subst}
use Rattle.bus_memory.specs.Names.{names_of}
use Rattle.lf_model.specs.Promise.Follows.{scheduled, rounds, Follows}
use Rattle.lf_model.specs.Promise.Turns.{Actors}
use Rattle.lf_model.specs.Records.BusRecord.{BusRecordOk}
use Rattle.lf_model.specs.declared.setup.Event.{Event}
use Rattle.machine_play.proofs.AllOver.{each_ended}
use Rattle.machine_play.proofs.Played.{if_ok}
use Rattle.machine_play.proofs.Traced.{gatherable, follows_so}
use Rattle.machine_play.proofs.machine.Machine.into_trace.Goals as goal
use Rattle.machine_play.specs.Ending.{watched_on, named_of, AllLeave}
use Rattle.machine_play.specs.MachineInside.{seen}
use Rattle.machine_play.specs.MachineMade.{ComesTo}
use Rattle.machine_play.specs.MachineValue.{MachineValue}
use Rattle.machine_play.specs.Moved.{IsSound, is_over}
use Rattle.std.proofs.lemmas.Bool.{and_parts}
use Rattle.run_trace.specs.Gathered.{gathered}

pub records_of-requires : goal.records_of-requires
records_of-requires c =
    let over : is_over (seen c.self.inside) ≡ true = subst (λ (m : MachineValue). is_over m ≡ true) (sym c.self.view_is) c.requires.ended in
    each_ended c.self.inside.cores.items (and_parts _ _ over).0

pub gather-requires : goal.gather-requires
gather-requires c =
    let over : is_over (seen c.self.inside) ≡ true = subst (λ (m : MachineValue). is_over m ≡ true) (sym c.self.view_is) c.requires.ended in
    let sound : IsSound (seen c.self.inside) = subst IsSound (sym c.self.view_is) c.requires.machine in
    let setup = ap (λ (m : MachineValue). m.bus.setup) c.self.view_is ∙ c.requires.setup in
    let all = subst (AllLeave c.self.inside.cores.items) (sym c.from_vec.ensures.items) c.in_ok-records.ensures in
    let names = c.deref-2.ensures.value in
    let named = c.in_ok-named.ensures in
    let those = c.deref.ensures.value in
    let items = c.from_vec.ensures.items in
    let same : c.deref-2.result.now ≡ map named_of c.from_vec.result = cc in
    let right = subst (λ ns. BusRecordOk c.self.inside.bus.setup c.finish-bus.result.log.entries c.finish-bus.result.transfers (record { addr = c.finish-bus.result.ahb_addr; status = c.finish-bus.result.ahb_status }) c.finish-bus.result.fates (names_of ns)) same c.finish-bus.ensures.ok in
    let shown = c.in_ok-watch.ensures ∙ ap (map (watched_on c.self.inside.bus)) c.as_slice.ensures.items in
    record { records = gatherable c.args.s.now (seen c.self.inside) c.requires.playable setup sound over c.from_vec.result all c.finish-bus.result c.finish-bus.ensures.log c.finish-bus.ensures.transfers right c.in_ok-watch.watch shown }

pub returns-clause-follows : goal.returns-clause-follows
returns-clause-follows c =
    let over : is_over (seen c.self.inside) ≡ true = subst (λ (m : MachineValue). is_over m ≡ true) (sym c.self.view_is) c.requires.ended in
    let sound : IsSound (seen c.self.inside) = subst IsSound (sym c.self.view_is) c.requires.machine in
    let setup = ap (λ (m : MachineValue). m.bus.setup) c.self.view_is ∙ c.requires.setup in
    let all = subst (AllLeave c.self.inside.cores.items) (sym c.from_vec.ensures.items) c.in_ok-records.ensures in
    let names = c.deref-2.ensures.value in
    let named = c.in_ok-named.ensures in
    let those = c.deref.ensures.value in
    let items = c.from_vec.ensures.items in
    let same : c.deref-2.result.now ≡ map named_of c.from_vec.result = cc in
    let right = subst (λ ns. BusRecordOk c.self.inside.bus.setup c.finish-bus.result.log.entries c.finish-bus.result.transfers (record { addr = c.finish-bus.result.ahb_addr; status = c.finish-bus.result.ahb_status }) c.finish-bus.result.fates (names_of ns)) same c.finish-bus.ensures.ok in
    let shown = c.in_ok-watch.ensures ∙ ap (map (watched_on c.self.inside.bus)) c.as_slice.ensures.items in
    if_ok (λ trace. trace ≡ gathered c.args.s.now c.from_vec.result c.finish-bus.result c.in_ok-watch.watch)
    (λ trace. (events : List Event) (count : ℕ) → ComesTo c.args.s.now (λ (a : Actors). rounds count (fold scheduled a events)) c.args.self → Follows c.args.s.now events trace)
    c.gather.result
    (λ trace gathered_so events count comes.
    follows_so c.args.s.now (seen c.self.inside) c.requires.playable setup sound over c.from_vec.result all c.finish-bus.result c.finish-bus.ensures.log c.finish-bus.ensures.transfers right c.in_ok-watch.watch shown
    trace gathered_so events count (subst (ComesTo c.args.s.now (λ (a : Actors). rounds count (fold scheduled a events))) (sym c.self.view_is) comes))
    c.gather.ensures.gathered
