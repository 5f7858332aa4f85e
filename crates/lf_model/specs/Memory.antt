-- Loads, stores, atomics and barriers (SPARC V8, appendix B, load, store, atomic load-store unsigned byte, SWAP, store
-- barrier and flush instructions). Where an access traps, and the output word, are this machine's own.
use Rattle.std.specs.Prelude.{ℕ, ◌+◌, ◌*◌, ◌/◌, ◌%◌, ◌^◌, ◌==◌, ◌∷◌, ◌++◌, [], Bool, not, ◌&&◌, ◌||◌, Some, None, if◌then◌else◌}
use Rattle.lf_num.specs.Bits.{sign_extended}
use Rattle.lf_model.specs.Start.{output_word, is_in_ram, touches_text}
use Rattle.lf_model.specs.State.{State, register, with_register, advanced}
use Rattle.lf_model.specs.Effect.{Site, Effect, cell_written, changes, operates}
use Rattle.lf_model.specs.Effect.AccessKind.{Load, Store, Atomic}
use Rattle.lf_model.specs.declared.bus.Why.{Why}
use Rattle.lf_model.specs.declared.instruction.MemName.{MemName}
use Rattle.lf_model.specs.declared.instruction.MemName.TheVariants.{Ld, Ldub, Lduh, Ldd, St, Stb, Sth, Std, Ldsb, Ldsh, Ldstub, Swap}

-- the size of an access in bytes
abbrev pub size_of : MemName → ℕ
size_of Ldub = 1
size_of Ldsb = 1
size_of Stb = 1
size_of Ldstub = 1
size_of Lduh = 2
size_of Ldsh = 2
size_of Sth = 2
size_of Ld = 4
size_of St = 4
size_of Swap = 4
size_of Ldd = 8
size_of Std = 8

-- ---- the traps of an address

-- where a load may not read: it reads RAM alone
abbrev pub load_refused : Site → ℕ → ℕ → Bool
load_refused site addr len = not (is_in_ram site.ram addr len)

-- where a store may not write: it writes RAM alone, where text is write-protected
abbrev pub store_refused : Site → ℕ → ℕ → Bool
store_refused site addr len = touches_text site.image.text addr len || not (is_in_ram site.ram addr len)

-- an atomic is a load and a store
abbrev pub atomic_refused : Site → ℕ → ℕ → Bool
atomic_refused site addr len = load_refused site addr len || store_refused site addr len

-- the address is no multiple of the size
abbrev pub access_misaligned : MemName → ℕ → Bool
access_misaligned name addr = not (addr % size_of name == 0)

-- the access may not have this address; ST may write the output word, too
abbrev pub access_refused : Site → MemName → ℕ → Bool
access_refused site St addr = not (addr == output_word) && store_refused site addr 4
access_refused site Stb addr = store_refused site addr 1
access_refused site Sth addr = store_refused site addr 2
access_refused site Std addr = store_refused site addr 8
access_refused site Ldstub addr = atomic_refused site addr 1
access_refused site Swap addr = atomic_refused site addr 4
access_refused site Ld addr = load_refused site addr 4
access_refused site Ldub addr = load_refused site addr 1
access_refused site Ldsb addr = load_refused site addr 1
access_refused site Lduh addr = load_refused site addr 2
access_refused site Ldsh addr = load_refused site addr 2
access_refused site Ldd addr = load_refused site addr 8

-- ---- loads

-- what a load puts into a register of the bytes that it reads: LDSB and LDSH extend their sign
abbrev pub extended : MemName → ℕ → ℕ
extended Ldsb got = sign_extended got 8
extended Ldsh got = sign_extended got 16
extended Ld got = got
extended Ldub got = got
extended Lduh got = got
extended Ldd got = got
extended St got = got
extended Stb got = got
extended Sth got = got
extended Std got = got
extended Ldstub got = got
extended Swap got = got

-- a load of one register
abbrev pub load_effect : MemName → ℕ → ℕ → State → Effect
load_effect name addr rd s =
    operates (record { kind = Load; addr = addr; len = size_of name; put = 0; rd = rd })
    (cell_written s rd) (λ got. advanced (with_register rd (extended name got) s))

-- LDD: the first word goes to register rd, and the second to register rd + 1
abbrev pub with_words : ℕ → ℕ → State → State
with_words rd got s = with_register (rd + 1) (got % 2 ^ 32) (with_register rd (got / 2 ^ 32) s)

abbrev pub load_double_effect : ℕ → ℕ → State → Effect
load_double_effect addr rd s =
    operates (record { kind = Load; addr = addr; len = 8; put = 0; rd = rd })
    (cell_written s rd ++ cell_written s (rd + 1)) (λ got. advanced (with_words rd got s))

-- ---- stores and atomics

-- the number that is stored: the low byte, low half or word of register rd, or the words of registers rd and rd + 1;
-- LDSTUB stores a byte of ones, and a load stores nothing
abbrev pub stored_number : MemName → ℕ → State → ℕ
stored_number Stb rd s = register s rd % 2 ^ 8
stored_number Sth rd s = register s rd % 2 ^ 16
stored_number St rd s = register s rd
stored_number Std rd s = register s rd * 2 ^ 32 + register s (rd + 1)
stored_number Ldstub rd s = 0xff
stored_number Swap rd s = register s rd
stored_number Ld rd s = 0
stored_number Ldub rd s = 0
stored_number Lduh rd s = 0
stored_number Ldsb rd s = 0
stored_number Ldsh rd s = 0
stored_number Ldd rd s = 0

abbrev pub store_effect : MemName → ℕ → ℕ → State → Effect
store_effect name addr rd s =
    operates (record { kind = Store; addr = addr; len = size_of name; put = stored_number name rd s; rd = 0 })
    [] (λ _. advanced s)

-- a word stored to the output word: its low byte goes to the output
abbrev pub output_effect : ℕ → State → Effect
output_effect rd s = changes [] (advanced (record s { out = s.out ++ register s rd % 256 ∷ [] }))

-- LDSTUB and SWAP: register rd gets the old byte or word
abbrev pub atomic_effect : MemName → ℕ → ℕ → State → Effect
atomic_effect name addr rd s =
    operates (record { kind = Atomic; addr = addr; len = size_of name; put = stored_number name rd s; rd = rd })
    (cell_written s rd) (λ got. advanced (with_register rd got s))

-- a load, store or atomic at an address
abbrev pub mem_effect : MemName → ℕ → ℕ → State → Effect
mem_effect Ldd addr rd s = load_double_effect addr rd s
mem_effect St addr rd s = if addr == output_word then output_effect rd s else store_effect St addr rd s
mem_effect Stb addr rd s = store_effect Stb addr rd s
mem_effect Sth addr rd s = store_effect Sth addr rd s
mem_effect Std addr rd s = store_effect Std addr rd s
mem_effect Ldstub addr rd s = atomic_effect Ldstub addr rd s
mem_effect Swap addr rd s = atomic_effect Swap addr rd s
mem_effect Ld addr rd s = load_effect Ld addr rd s
mem_effect Ldub addr rd s = load_effect Ldub addr rd s
mem_effect Lduh addr rd s = load_effect Lduh addr rd s
mem_effect Ldsb addr rd s = load_effect Ldsb addr rd s
mem_effect Ldsh addr rd s = load_effect Ldsh addr rd s

-- ---- barriers

-- STBAR or FLUSH: earlier stores come first
abbrev pub barrier_effect : Why → State → Effect
barrier_effect why s = record {
  reads = [];
  trap = None;
  access = None;
  barrier = Some why;
  writes = [];
  next = λ _. advanced s;
}
