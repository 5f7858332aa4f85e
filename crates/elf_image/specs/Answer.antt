-- What an answer of the reader says of the bytes of a file.
use Rattle.std.specs.Prelude.{ℕ, ◌≡◌, List, Some, None}
use Rattle.lf_model.specs.declared.image.Image.{Image}
use Rattle.elf_image.specs.declared.error.ImageErr.{ImageErr}
use Rattle.elf_image.specs.declared.error.ImageErr.TheVariants.{Refused, Memory}
use Rattle.elf_image.specs.declared.refusal.Fault.{Fault}
use Rattle.elf_image.specs.Names.{number_of}
use Rattle.elf_image.specs.Refusals.{conditions, first_fault}
use Rattle.elf_image.specs.Spelled.{image_of}

-- for RAM of this size, no condition for a refusal holds of these bytes, and they spell this image
pub record IsFileOf (ram : ℕ) (file : List ℕ) (image : Image) : Type 0 where
  pub accepted : first_fault (conditions ram file) ≡ None
  pub spelled : image ≡ image_of file

-- the first condition for a refusal that holds of these bytes has this number and tells this offset
pub record IsRefused (ram : ℕ) (file : List ℕ) (number offset : ℕ) : Type 0 where
  pub fault : Fault
  pub first : first_fault (conditions ram file) ≡ Some fault
  pub number_told : number ≡ number_of fault.refusal
  pub offset_told : offset ≡ fault.offset

-- why there is no image: a refusal comes exactly where it is the first; want of memory may come at any bytes
abbrev pub IsCause : ℕ → List ℕ → ImageErr → Type 0
IsCause ram file (Refused number offset) = IsRefused ram file number offset
IsCause ram file Memory = Unit {0}
