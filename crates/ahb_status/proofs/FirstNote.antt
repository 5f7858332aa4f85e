-- The registers show the first error that was noted since they were 0, whatever is noted after it.
use Rattle.std.proofs.Common.{◌≡◌, ℕ, ◌<◌, refl, true, Bool, List, [], ◌∷◌, arith}
use Rattle.std.specs.Prelude.{fold}
use Rattle.lf_model.specs.Bus.Status.{AhbStatus, status_start, is_noted}
use Rattle.ahb_status.specs.Note.{note_with, first_of, hsize}
use Rattle.ahb_status.specs.declared.size.Size.{Size}

-- a note sets NE
pub is_noted-note_with : (addr : ℕ) (size : Size) (master : ℕ) (write fixable : Bool) → master < 9
    → is_noted (note_with addr (hsize size) master write fixable) ≡ true
is_noted-note_with addr size master write fixable within = grind arith

-- what is noted stays
pub first_of-stays : (s : AhbStatus) (notes : List AhbStatus) → is_noted s ≡ true → fold first_of s notes ≡ s
first_of-stays s [] noted = refl
first_of-stays s (n ∷ ns) noted = rw noted (first_of-stays s ns noted)

-- of errors noted since the registers were 0 they show the first
pub first_of-first : (n : AhbStatus) (notes : List AhbStatus) → is_noted n ≡ true → fold first_of status_start (n ∷ notes) ≡ n
first_of-first n notes noted = first_of-stays n notes noted
