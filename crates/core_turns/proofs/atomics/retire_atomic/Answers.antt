use Rattle.std.proofs.Common.{◌≡◌, ◌∙◌, true, ap, sym, subst, arith}
use Rattle.core_parts.specs.RecordState.{fits_bytes}
use Rattle.core_parts.specs.Work.{with_operation}
use Rattle.core_turns.proofs.AtomicKept.{retire_fits, leaves_exchanged, core_exchanged}
use Rattle.core_turns.proofs.RetiredAtomic.{EndsAtomic, Retires, atomic_made, room_kept, value_retired}
use Rattle.core_turns.proofs.RunsOn.{runs_over}
use Rattle.core_turns.proofs.Transferring.{op_left}
use Rattle.core_turns.proofs.atomics.retire_atomic.Goals as goal
use Rattle.core_turns.specs.CanTurn.{steps_ended}

pub see_entry-requires : goal.see_entry-requires
see_entry-requires c = c.requires.seen

pub finish_atomic-requires-clause-sound : goal.finish_atomic-requires-clause-sound
finish_atomic-requires-clause-sound c = c.requires.core.sound

pub finish_atomic-requires-clause-instructions : goal.finish_atomic-requires-clause-instructions
finish_atomic-requires-clause-instructions c = c.requires.can.instructions

pub finish_atomic-requires-clause-operations : goal.finish_atomic-requires-clause-operations
finish_atomic-requires-clause-operations c = c.requires.can.operations

pub finish_atomic-requires-clause-register : goal.finish_atomic-requires-clause-register
finish_atomic-requires-clause-register c = c.requires.can.exchange.register

pub retire-requires-clause-fits : goal.retire-requires-clause-fits
retire-requires-clause-fits c = subst (λ n. fits_bytes c.finish_atomic.new.p.«record» (atomic_made c.args.asked.now.addr c.args.asked.now.len c.args.asked.now.value n) ≡ true) (sym c.from.ensures)
    (retire_fits c.finish_atomic.new.p.«record» c.args.parts.now.site c.args.asked.now c.args.rd c.args.got c.requires.can.exchange c.requires.number)

pub retire-requires-clause-room : goal.retire-requires-clause-room
retire-requires-clause-room c =
    let ends : EndsAtomic c.args.arch.now c.finish_atomic.new.a c.see_entry.new.parts c.finish_atomic.new.p c.args.rd c.args.got = record {
      state = c.finish_atomic.ensures.state;
      core = c.finish_atomic.ensures.core;
      n = c.finish_atomic.ensures.instructions;
      k = c.finish_atomic.ensures.operations;
      touches = c.finish_atomic.ensures.touches;
    } in
    room_kept c.args.arch.now c.finish_atomic.new.a c.args.parts.now c.see_entry.new.parts c.finish_atomic.new.p c.args.asked.now.addr c.args.rd c.args.got c.see_entry.ensures.seen ends
    (op_left c.args.parts.now (steps_ended c.args.parts.now) 1 c.requires.can.left c.requires.runs)

pub returns-clause-core : goal.returns-clause-core
returns-clause-core c = λ quiet named phase.
    value_retired c.args.arch.now c.finish_atomic.new.a c.args.parts.now c.see_entry.new.parts c.finish_atomic.new.p c.args.asked.now.addr c.args.rd c.args.got c.retire.new.self c.args.asked.now.len c.args.asked.now.value
    (record {
      core = c.requires.core.core;
      seen = c.see_entry.ensures.seen;
      ends = record {
        state = c.finish_atomic.ensures.state;
        core = c.finish_atomic.ensures.core;
        n = c.finish_atomic.ensures.instructions;
        k = c.finish_atomic.ensures.operations;
        touches = c.finish_atomic.ensures.touches;
      };
      made = c.retire.ensures ∙ ap (λ got. with_operation (atomic_made c.args.asked.now.addr c.args.asked.now.len c.args.asked.now.value got) c.finish_atomic.new.p.«record») c.from.ensures;
    }) quiet named phase

pub returns-clause-keeps : goal.returns-clause-keeps
returns-clause-keeps c =
    let h : Retires c.args.arch.now c.finish_atomic.new.a c.args.parts.now c.see_entry.new.parts c.finish_atomic.new.p c.args.asked.now.addr c.args.rd c.args.got c.retire.new.self c.args.asked.now.len c.args.asked.now.value = record {
      core = c.requires.core.core;
      seen = c.see_entry.ensures.seen;
      ends = record {
        state = c.finish_atomic.ensures.state;
        core = c.finish_atomic.ensures.core;
        n = c.finish_atomic.ensures.instructions;
        k = c.finish_atomic.ensures.operations;
        touches = c.finish_atomic.ensures.touches;
      };
      made = c.retire.ensures ∙ ap (λ got. with_operation (atomic_made c.args.asked.now.addr c.args.asked.now.len c.args.asked.now.value got) c.finish_atomic.new.p.«record») c.from.ensures;
    } in
    core_exchanged c.args.arch.now c.finish_atomic.new.a c.args.parts.now c.see_entry.new.parts c.finish_atomic.new.p c.args.asked.now c.args.rd c.args.got c.retire.new.self h
    c.requires.core c.requires.can c.finish_atomic.ensures.sound c.fits.ensures.fit

pub returns-clause-runs : goal.returns-clause-runs
returns-clause-runs c =
    let h : Retires c.args.arch.now c.finish_atomic.new.a c.args.parts.now c.see_entry.new.parts c.finish_atomic.new.p c.args.asked.now.addr c.args.rd c.args.got c.retire.new.self c.args.asked.now.len c.args.asked.now.value = record {
      core = c.requires.core.core;
      seen = c.see_entry.ensures.seen;
      ends = record {
        state = c.finish_atomic.ensures.state;
        core = c.finish_atomic.ensures.core;
        n = c.finish_atomic.ensures.instructions;
        k = c.finish_atomic.ensures.operations;
        touches = c.finish_atomic.ensures.touches;
      };
      made = c.retire.ensures ∙ ap (λ got. with_operation (atomic_made c.args.asked.now.addr c.args.asked.now.len c.args.asked.now.value got) c.finish_atomic.new.p.«record») c.from.ensures;
    } in
    runs_over (steps_ended c.args.parts.now) 1 1 0 c.args.parts.now (record c.finish_atomic.new.p { «record» = c.retire.new.self }) (omega arith) (omega arith)
    (leaves_exchanged c.args.arch.now c.finish_atomic.new.a c.args.parts.now c.see_entry.new.parts c.finish_atomic.new.p c.args.asked.now c.args.rd c.args.got c.retire.new.self h c.see_entry.ensures.uses c.finish_atomic.ensures.room)
    c.requires.runs
