-- What the answers of `read_whole` say of a file, whose bytes are `told` where its object tells them.
use Rattle.std.specs.Prelude.{◌≡◌, ℕ, ◌+◌, ◌<◌, ◌≤◌, List, length, take, Option, IfSome}
use Rattle.lf_io.specs.Count.{Rose}
use Rattle.lf_io.specs.declared.read.ReadErr.{ReadErr}
use Rattle.lf_io.specs.declared.read.ReadErr.TheVariants.{Fault, TooLong, Memory}

-- the file was read whole, and is within the limit
pub record IsWhole (told : Option (List ℕ)) (limit : ℕ) (bytes : List ℕ) : Type 0 where
  pub within : length bytes ≤ limit
  pub whole : IfSome told (λ file. bytes ≡ file)

-- the file is longer than the limit, and has at least one byte more
pub record IsTooLong (told : Option (List ℕ)) (limit least : ℕ) : Type 0 where
  pub one_more : least ≡ limit + 1
  pub longer : IfSome told (λ file. limit < length file)

-- the file has at least so many bytes
abbrev pub ReachesTo : Option (List ℕ) → ℕ → Type 0
ReachesTo told place = IfSome told (λ file. place ≤ length file)

-- the file has no byte from a place on
abbrev pub EndsBy : Option (List ℕ) → ℕ → Type 0
EndsBy told place = IfSome told (λ file. length file ≤ place)

-- each error comes only with its cause: a fault with a count that rose, from `before` to `after`; and want of memory only
-- for a file within the limit, so that a longer one never answers it
abbrev pub HasCause : Option (List ℕ) → ℕ → ℕ → ℕ → ReadErr → Type 0
HasCause told limit before after Fault = Rose before after
HasCause told limit before after (TooLong least) = IsTooLong told limit least
HasCause told limit before after Memory = EndsBy told limit

-- the bytes are the first ones of the file
abbrev pub IsStart : Option (List ℕ) → List ℕ → Type 0
IsStart told bytes = IfSome told (λ file. bytes ≡ take (length bytes) file)
