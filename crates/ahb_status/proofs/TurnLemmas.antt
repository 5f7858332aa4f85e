-- The registers after a transfer, by the calls that its turn makes.
use Rattle.std.proofs.Common.{◌≡◌, ℕ, ◌+◌, ◌-◌, ◌*◌, ◌%◌, true, false, not, Bool, ◌&&◌, Some, None, if◌then◌else◌, refl}
use Rattle.std.specs.Prelude.{◌==◌, slice_index}
use Rattle.lf_model.specs.Bus.Status.{AhbStatus, status_start, size_noted, first_unclean, noted, status_by}
use Rattle.lf_model.specs.Course.Syndromes.{syndromes_of, is_bad_syndrome}
use Rattle.lf_model.specs.Names.{same_kind}
use Rattle.lf_model.specs.declared.bus.Transfer.{Transfer}
use Rattle.lf_model.specs.declared.bus.TurnKind.TheVariants.{Store, Fix}
use Rattle.ahb_status.specs.Note.{note_with, first_of}

-- the transfer is a fix that read its word clean or corrected
abbrev pub is_good_fix : Transfer → Bool
is_good_fix t = same_kind t.kind Fix && not (is_bad_syndrome (slice_index (syndromes_of t) 0))

-- a transfer that read each of its words clean notes nothing
pub noted-clean : (s : AhbStatus) (t : Transfer) → first_unclean t ≡ None → noted s t (first_unclean t) ≡ s
noted-clean s t clean = rw clean refl

-- one that did not notes the lowest such word, unless NE is set
pub noted-unclean : (s : AhbStatus) (t : Transfer) (j : ℕ) → first_unclean t ≡ Some j
    → noted s t (first_unclean t) ≡ first_of s
    (note_with (t.addr - t.addr % 4 + 4 * j) (size_noted t.len t.kind) t.master (same_kind t.kind Store)
    (not (is_bad_syndrome (slice_index (syndromes_of t) j))))
noted-unclean s t j unclean = rw unclean refl

-- then a good fix clears the registers, if they name that word
pub status_by-good_fix : (s : AhbStatus) (t : Transfer) → is_good_fix t ≡ true
    → status_by s t ≡ (let after = noted s t (first_unclean t) in if after.addr == t.addr then status_start else after)
status_by-good_fix s t good = rw good refl

-- and no other transfer does
pub status_by-other : (s : AhbStatus) (t : Transfer) → is_good_fix t ≡ false → status_by s t ≡ noted s t (first_unclean t)
status_by-other s t other = rw other refl
