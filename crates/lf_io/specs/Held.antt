-- What an object of files holds, and what a read of it gives.
--     `None`             the object does not tell what it holds
--     `Some files`       it tells, and holds this map from names to files
--     `files name`       the bytes of that file, `None` where the name is missing
use Rattle.std.specs.Prelude.{◌≡◌, ℕ, ◌-◌, ◌<◌, ◌≤◌, List, [], length, take, drop, Option, Some, None, unwrap_or}

-- a map from names to the bytes of files
abbrev pub FileMap : Type 0
FileMap = List ℕ → Option (List ℕ)

-- the bytes of the named file, where contents are told: a missing name reads as an empty file
abbrev pub content : Option FileMap → List ℕ → Option (List ℕ)
content None name = None
content (Some files) name = Some (unwrap_or (files name) [])

-- the first n bytes of the buffer are those of the file from a place on; none with room left is the end
pub record ReadsAt (file : List ℕ) (place : ℕ) (buffer : List ℕ) (n : ℕ) : Type 0 where
  pub same : take n buffer ≡ take n (drop place file)
  pub within : n ≤ length file - place
  pub at_end : n ≡ 0 → 0 < length buffer → length file ≤ place
