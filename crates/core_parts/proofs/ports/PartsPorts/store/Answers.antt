use Rattle.std.proofs.Common.{length, refl}
use Rattle.std.proofs.lemmas.List.{length-append}
use Rattle.std.specs.Vec.{vec_capacity}
use Rattle.core_parts.proofs.PortLemmas.{room_taken, uses_after_store}
use Rattle.core_parts.specs.Work.{store_made}
use Rattle.lf_model.specs.Caches.Change.{updated}
use Rattle.core_parts.proofs.ports.PartsPorts.store.Goals as goal

pub returns-clause-room : goal.returns-clause-room
returns-clause-room c =
    rw c.retire_store.ensures
    (room_taken (length c.args.self.now.record.ops) (length (store_made c.args.addr c.args.len c.args.value c.args.self.now.record).ops) c.args.self.now.record.room c.args.self.now.record.room
    (length c.args.self.now.out.items) (vec_capacity c.args.self.now.out) c.args.self.now.arrays.data_cache.cache.uses
    (updated c.args.addr c.args.len c.args.self.now.arrays.data_cache.cache).uses 4294967295 1 refl
    (length-append c.args.self.now.record.ops _)
    (uses_after_store c.args.addr c.args.len c.args.self.now.arrays.data_cache.cache))
