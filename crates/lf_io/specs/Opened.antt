-- A file of the system that is open, by the name that it keeps.
use Rattle.std.specs.Prelude.{ℕ, ◌≡◌, List, Option, String, string_bytes, IfSome}
use Rattle.std.specs.declared.alloc.Global.{Global}

-- the name that is kept, where there was memory for one, is this
abbrev pub IsOpenedBy : Option (String Global) → List ℕ → Type 0
IsOpenedBy kept name = IfSome kept (λ text. string_bytes text ≡ name)
