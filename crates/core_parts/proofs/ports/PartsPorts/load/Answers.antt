use Rattle.std.proofs.Common.{length}
use Rattle.std.specs.Vec.{vec_capacity}
use Rattle.core_parts.proofs.PortLemmas.{room_taken, room_after_look, ops_after_look, uses_after_look}
use Rattle.core_parts.proofs.RegularMade.{cache_access}
use Rattle.core_parts.specs.Inside.{seen_in}
use Rattle.core_parts.specs.Work.{load_made}
use Rattle.v8_exec.specs.Calls.{spent_by_look}
use Rattle.core_parts.proofs.ports.PartsPorts.load.Goals as goal

pub note_look-requires-clause-access : goal.note_look-requires-clause-access
note_look-requires-clause-access c = cache_access (seen_in c.args.self.now).site c.args.addr c.args.len c.requires.access

pub returns-clause-room : goal.returns-clause-room
returns-clause-room c =
    rw c.note_look.ensures
    (room_taken (length c.args.self.now.record.ops) (length (load_made c.args.addr c.args.len c.look-answer.result c.args.self.now.record).ops) c.args.self.now.record.room
    (load_made c.args.addr c.args.len c.look-answer.result c.args.self.now.record).room (length c.args.self.now.out.items)
    (vec_capacity c.args.self.now.out) c.args.self.now.arrays.data_cache.cache.uses c.look-answer.new.self.cache.uses 4294967295 (spent_by_look c.look-answer.result)
    (room_after_look c.args.addr c.args.len c.look-answer.result c.args.self.now.record)
    (ops_after_look c.args.addr c.args.len c.look-answer.result c.args.self.now.record)
    (uses_after_look c.args.addr c.args.len c.args.self.now.arrays.data_cache c.look-answer.new.self c.look-answer.result c.look-answer.ensures.answer c.look-answer.ensures.looked))
