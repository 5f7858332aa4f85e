-- Memory operations: what each kind does, and the bytes that it reads and stores
-- (SPARC V8, chapter 6, memory model).
use Rattle.std.specs.Prelude.{ℕ, ◌+◌, ◌-◌, ◌/◌, ◌%◌, ◌^◌, ◌==◌, ◌&&◌, Bool, true, false, nat_lt, nat_le}
use Rattle.lf_model.specs.declared.bus.OpKind.{OpKind}
use Rattle.lf_model.specs.declared.bus.OpKind.TheVariants.{Load, Store, Atomic, Lost}
use Rattle.lf_model.specs.declared.bus.Entry.{Entry}
use Rattle.lf_model.specs.declared.trace.Op.{Op}

-- it reads memory
abbrev pub kind_reads : OpKind → Bool
kind_reads Load = true
kind_reads Store = false
kind_reads Atomic = true
kind_reads Lost = false

-- it reaches memory with a number stored
abbrev pub kind_enters : OpKind → Bool
kind_enters Load = false
kind_enters Store = true
kind_enters Atomic = true
kind_enters Lost = false

-- it stores: a store or an atomic, whether it reached memory or was lost
abbrev pub kind_stores : OpKind → Bool
kind_stores Load = false
kind_stores Store = true
kind_stores Atomic = true
kind_stores Lost = true

-- the kind that the program made: a lost store is a store
abbrev pub kind_made : OpKind → OpKind
kind_made Load = Load
kind_made Store = Store
kind_made Atomic = Atomic
kind_made Lost = Store

-- it is a store that never reached memory
abbrev pub kind_is_lost : OpKind → Bool
kind_is_lost Load = false
kind_is_lost Store = false
kind_is_lost Atomic = false
kind_is_lost Lost = true

abbrev pub reads : Op → Bool
reads o = kind_reads o.kind

abbrev pub enters : Op → Bool
enters o = kind_enters o.kind

abbrev pub stores : Op → Bool
stores o = kind_stores o.kind

abbrev pub is_lost : Op → Bool
is_lost o = kind_is_lost o.kind

-- it is an operation of this core
abbrev pub of_core : ℕ → Op → Bool
of_core c o = o.core == c

-- an operation as the program made it, with what it read
abbrev pub made : Op → Entry
made o = record { got = o.got; put = o.put; core = o.core; k = o.k; addr = o.addr; kind = kind_made o.kind; len = o.len }

abbrev pub entry_reads : Entry → Bool
entry_reads e = kind_reads e.kind

-- it touches the byte at this address
abbrev pub touches : ℕ → Entry → Bool
touches a e = nat_le e.addr a && nat_lt a (e.addr + e.len)

-- byte i of a big-endian number of this many bytes
abbrev pub byte_of : ℕ → ℕ → ℕ → ℕ
byte_of value len i = value / 256 ^ (len - 1 - i) % 256

-- the byte that it reads at this address, and the one that it stores there
abbrev pub byte_got : ℕ → Entry → ℕ
byte_got a e = byte_of e.got e.len (a - e.addr)

abbrev pub byte_put : ℕ → Entry → ℕ
byte_put a e = byte_of e.put e.len (a - e.addr)
