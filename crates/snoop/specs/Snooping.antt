-- What a cache snoops.
use Rattle.std.specs.Prelude.{ℕ}
use Rattle.lf_model.specs.declared.bus.Entry.{Entry}

-- the address of a store or an atomic
abbrev pub address_of : Entry → ℕ
address_of e = e.addr
