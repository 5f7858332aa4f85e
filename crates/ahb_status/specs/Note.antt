-- A note in AHBSTAT (GRLIB, AHBSTAT), and which of two stays.
use Rattle.std.specs.Prelude.{ℕ, ◌+◌, ◌*◌, Bool, if◌then◌else◌}
use Rattle.std.specs.Int.{from_bool}
use Rattle.lf_model.specs.Bus.Status.{AhbStatus, is_noted}
use Rattle.ahb_status.specs.declared.size.Size.{Size}
use Rattle.ahb_status.specs.declared.size.Size.TheVariants.{Byte, Half, Word}

abbrev pub hsize : Size → ℕ
hsize Byte = 0
hsize Half = 1
hsize Word = 2

-- the registers with a note: HSIZE, HMASTER from bit 3, HWRITE bit 7, NE bit 8, and CE bit 9 where the word was corrected
abbrev pub note_with : ℕ → ℕ → ℕ → Bool → Bool → AhbStatus
note_with addr size master write fixable = record {
  addr = addr;
  status = size + 8 * master + 128 * from_bool write + 256 + 512 * from_bool fixable;
}

-- the registers after a further error: what they have noted stays
abbrev pub first_of : AhbStatus → AhbStatus → AhbStatus
first_of s n = if is_noted s then s else n
