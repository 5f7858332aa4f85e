-- Operations that are made, numbered in their order.
use Rattle.std.specs.Prelude.{List, [], ◌∷◌, ◌++◌, length}
use Rattle.lf_model.specs.declared.bus.Entry.{Entry}
use Rattle.replay_effects.specs.declared.made.Operation.{Operation}

abbrev pub entry_of : Operation → List Entry → Entry
entry_of o made = record { got = o.got; put = o.put; core = o.core; k = length made; addr = o.addr; kind = o.kind; len = o.len }

abbrev pub with_operation : Operation → List Entry → List Entry
with_operation o made = made ++ entry_of o made ∷ []
