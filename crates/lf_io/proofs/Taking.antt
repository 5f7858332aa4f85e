-- A piece that is taken part by part.
use Rattle.std.proofs.Common.{ℕ, ◌+◌, ◌-◌, List, length, take, drop, append_assoc}
use Rattle.std.specs.Prelude.{Option, None, Some}
use Rattle.std.proofs.Math.Seq.{take-add}
use Rattle.std.proofs.lemmas.List.{take_rest}
use Rattle.lf_io.specs.Taken.{Takes}

-- after the first `at` bytes, the first n of the rest
pub takes_more : (old mid new : Option (List ℕ)) (at n : ℕ) (piece : List ℕ) → Takes old mid (take at piece) → Takes mid new (take n (take (length piece - at) (drop at piece))) → Takes old new (take (at + n) piece)
takes_more None mid new at n piece first next = tt
takes_more (Some bytes) mid new at n piece first next =
    let more = rw first at next in
    rw take-add (rw (← append_assoc) (rw (take_rest piece at) at more))
