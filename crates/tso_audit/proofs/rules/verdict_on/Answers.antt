use Rattle.std.proofs.Common.{refl, subst, inl, inr}
use Rattle.tso_audit.proofs.AuditFacts.{regular_reads, regular_lengths, once_numbered, once_below, watched_in_ram, ops_in_ram}
use Rattle.tso_audit.proofs.rules.verdict_on.Goals as goal
use Rattle.tso_audit.specs.FirstPlaces.{OnceFailsFirst, LoadOpFailsFirst, StoreStoreFailsFirst, ThreadFailsFirst, ResultFailsFirst, ValueFailsFirst}

pub thread-requires-clause-numbered : goal.thread-requires-clause-numbered
thread-requires-clause-numbered c =
    let setup = c.args.setup.now in
    let trace = c.args.trace.now in
    let once = subst (OnceFailsFirst setup trace) c.in_default.is c.in_ok-place.ensures.first in
    once_numbered setup trace once

pub thread-requires-clause-fit : goal.thread-requires-clause-fit
thread-requires-clause-fit c = regular_reads c.args.trace.now c.requires.regular

pub results-requires-clause-numbered : goal.results-requires-clause-numbered
results-requires-clause-numbered c =
    let setup = c.args.setup.now in
    let trace = c.args.trace.now in
    let once = subst (OnceFailsFirst setup trace) c.in_default.is c.in_ok-place.ensures.first in
    once_numbered setup trace once

pub results-requires-clause-fit : goal.results-requires-clause-fit
results-requires-clause-fit c = regular_reads c.args.trace.now c.requires.regular

pub results-requires-clause-addresses : goal.results-requires-clause-addresses
results-requires-clause-addresses c =
    let setup = c.args.setup.now in
    let trace = c.args.trace.now in
    let once = subst (OnceFailsFirst setup trace) c.in_default.is c.in_ok-place.ensures.first in
    let thread = subst (ThreadFailsFirst setup trace) c.in_default-2.is c.in_ok-place-2.ensures.first in
    ops_in_ram setup trace once thread

pub results-requires-clause-watch : goal.results-requires-clause-watch
results-requires-clause-watch c =
    let setup = c.args.setup.now in
    let trace = c.args.trace.now in
    let once = subst (OnceFailsFirst setup trace) c.in_default.is c.in_ok-place.ensures.first in
    watched_in_ram setup trace once c.requires.setup.watch

pub value-requires-clause-cores : goal.value-requires-clause-cores
value-requires-clause-cores c =
    let setup = c.args.setup.now in
    let trace = c.args.trace.now in
    let once = subst (OnceFailsFirst setup trace) c.in_default.is c.in_ok-place.ensures.first in
    once_below setup trace once

pub value-requires-clause-addresses : goal.value-requires-clause-addresses
value-requires-clause-addresses c =
    let setup = c.args.setup.now in
    let trace = c.args.trace.now in
    let once = subst (OnceFailsFirst setup trace) c.in_default.is c.in_ok-place.ensures.first in
    let thread = subst (ThreadFailsFirst setup trace) c.in_default-2.is c.in_ok-place-2.ensures.first in
    ops_in_ram setup trace once thread

pub returns-in-Some-4 : goal.returns-in-Some-4
returns-in-Some-4 c =
    let setup = c.args.setup.now in
    let trace = c.args.trace.now in
    let once = subst (OnceFailsFirst setup trace) c.in_default.is c.in_ok-place.ensures.first in
    let load_op = subst (LoadOpFailsFirst trace) c.in_default-load_op.is c.load_op.ensures.first in
    let store_store = subst (StoreStoreFailsFirst trace) c.in_default-store_store.is c.store_store.ensures.first in
    let thread = subst (ThreadFailsFirst setup trace) c.in_default-2.is c.in_ok-place-2.ensures.first in
    let results = subst (ResultFailsFirst setup trace) c.in_default-3.is c.in_ok-place-3.ensures.first in
    let value = subst (ValueFailsFirst setup trace) c.in-Some-4.is c.in_ok-place-4.ensures.first in
    inl (once, inl (load_op, inl (store_store, inl (thread, inl (results, inr (c.in-Some-4.place, value, refl))))))

pub results-requires-clause-lengths : goal.results-requires-clause-lengths
results-requires-clause-lengths c = regular_lengths c.args.trace.now c.requires.regular

pub value-requires-clause-lengths : goal.value-requires-clause-lengths
value-requires-clause-lengths c = regular_lengths c.args.trace.now c.requires.regular
