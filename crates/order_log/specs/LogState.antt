-- The log as its users see it.
use Rattle.std.specs.Prelude.{◌≡◌, ℕ, ◌*◌, ◌%◌, ◌^◌, ◌<◌, true, List, [], ◌∷◌, Contains}
use Rattle.lf_model.specs.Operation.{kind_enters}
use Rattle.lf_model.specs.declared.bus.Entry.{Entry}

pub record LogState : Type 0 where
  -- the stores and atomics that reached memory, in the order in which they did
  pub entries : List Entry
  -- how many it has room for in all
  pub room : ℕ

-- what the log asks of an entry: a store or an atomic of one, two, four or eight bytes, at a multiple of its length, with a
-- number that these bytes hold
pub record IsLogEntry (e : Entry) : Type 0 where
  pub kind : kind_enters e.kind ≡ true
  pub len : Contains (1 ∷ 2 ∷ 4 ∷ 8 ∷ []) e.len
  pub aligned : e.addr % e.len ≡ 0
  pub put : e.put < 2 ^ (8 * e.len)
