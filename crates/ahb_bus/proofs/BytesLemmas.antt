-- The bytes of an image are bytes where those of each of its segments are.
use Rattle.std.proofs.Common.{ℕ, suc, ◌-◌, ◌^◌, ◌<◌, Bool, true, false, cond, List, [], ◌∷◌, length, slice_index, slice_index_or, Option, Some, arith}
use Rattle.std.specs.Prelude.{find}
use Rattle.std.specs.Option.{option_map_or}
use Rattle.lf_model.specs.Start.{covers, byte_in}
use Rattle.lf_model.specs.declared.image.Segment.{Segment}

-- the first of these segments have bytes
abbrev pub HaveBytes : List Segment → ℕ → Type 0
HaveBytes segments count = (i : ℕ) (d : Segment) → i < count → (k : ℕ) → slice_index (slice_index_or segments i d).bytes k < 2 ^ 8

by_cover : (a : ℕ) (s : Segment) (rest : Option Segment) (b : Bool) → ((k : ℕ) → slice_index s.bytes k < 2 ^ 8) → option_map_or (byte_in a) rest 0 < 2 ^ 8
    → option_map_or (byte_in a) (cond b (Some s) rest) 0 < 2 ^ 8
by_cover a s rest true here later = here (a - s.addr)
by_cover a s rest false here later = later

pub byte_found : (a : ℕ) (segments : List Segment) → HaveBytes segments (length segments) → option_map_or (byte_in a) (find (covers a) segments) 0 < 2 ^ 8
byte_found a [] all = omega arith
byte_found a (s ∷ segments) all =
    by_cover a s (find (covers a) segments) (covers a s) (all 0 s (omega arith)) (byte_found a segments (λ i d lt. all (suc i) d (omega (arith, lt))))
