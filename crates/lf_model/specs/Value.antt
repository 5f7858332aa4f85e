-- Total store order: the rule Value about what a load or an atomic reads, byte by byte
-- (after SPARC V8, appendix K, formal specification of the memory model), over one order of loads and stores.
use Rattle.std.specs.Prelude.{ℕ, ◌≡◌, ◌==◌, ◌∷◌, ◌++◌, [], ◌&&◌, ◌||◌, Bool, true, List, filter, map, nat_lt, if◌then◌else◌}
use Rattle.lf_model.specs.Operation.{reads, enters, stores, made, touches, byte_got, byte_put}
use Rattle.lf_model.specs.declared.bus.Entry.{Entry}
use Rattle.lf_model.specs.declared.trace.Op.{Op}

-- the byte at an address after these stores and atomics: each that touches it puts its byte there in turn, so that
-- the byte of the last one stands, and where none touches it the byte before them
abbrev pub stored : ℕ → List Entry → ℕ → ℕ
stored a [] byte = byte
stored a (e ∷ es) byte = stored a es (if touches a e then byte_put a e else byte)

-- a store or an atomic of the reader's own core that the program makes before it
abbrev pub own_before : Op → Op → Bool
own_before r o = (stores o && o.core == r.core) && nat_lt o.k r.k

-- the candidates of a reader, in their order: the stores and atomics in memory that stand before it, and those
-- of its own core that the program makes before it, lost ones among them
abbrev pub candidates : List Op → Op → List Op → List Op
candidates earlier r later = filter (λ o. enters o || own_before r o) earlier ++ filter (own_before r) later

-- each byte read is that of the last of these operations which touches it, else the byte at the start
abbrev pub Reads : (ℕ → ℕ) → Entry → List Entry → Type 0
Reads initial r es = (a : ℕ) → touches a r ≡ true → byte_got a r ≡ stored a es (initial a)

-- Value: each byte that a load or an atomic reads is that of the last of its candidates which touches it
abbrev pub ValueAt : (ℕ → ℕ) → List Op → Op → List Op → Type 0
ValueAt initial earlier r later = reads r ≡ true → Reads initial (made r) (map made (candidates earlier r later))
