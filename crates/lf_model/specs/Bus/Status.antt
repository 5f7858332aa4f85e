-- AHBSTAT, the AHB failing address and status registers (GRLIB, AHBSTAT): the first word that was read not clean since they
-- were cleared. That a fix of the scrubber clears them is this machine's own.
use Rattle.std.specs.Prelude.{ℕ, ◌+◌, ◌-◌, ◌*◌, ◌%◌, ◌==◌, ◌&&◌, not, Bool, List, find, fold, slice_index, Option, Some, None, if◌then◌else◌}
use Rattle.std.specs.Int.{bit_at, from_bool}
use Rattle.std.specs.List.{range_with_len}
use Rattle.lf_model.specs.Course.Syndromes.{syndromes_of, is_bad_syndrome}
use Rattle.lf_model.specs.Names.{same_kind}
use Rattle.lf_model.specs.declared.bus.Transfer.{Transfer}
use Rattle.lf_model.specs.declared.bus.TurnKind.{TurnKind}
use Rattle.lf_model.specs.declared.bus.TurnKind.TheVariants.{Fetch, Load, Store, Atomic, Snoop, Look, Fix}

pub record AhbStatus : Type 0 where
  pub addr : ℕ
  pub status : ℕ

abbrev pub status_start : AhbStatus
status_start = record { addr = 0; status = 0 }

-- HSIZE: 0 for a byte, 1 for a half, 2 for a word or a line
abbrev pub size_by_length : ℕ → ℕ
size_by_length len = if len == 1 then 0 else if len == 2 then 1 else 2

abbrev pub size_noted : ℕ → TurnKind → ℕ
size_noted len Fetch = 2
size_noted len Load = 2
size_noted len Store = size_by_length len
size_noted len Atomic = size_by_length len
size_noted len Snoop = 2
size_noted len Look = 2
size_noted len Fix = 2

-- NE: an error was noted, and not yet cleared
abbrev pub is_noted : AhbStatus → Bool
is_noted s = bit_at s.status 8 == 1

-- the lowest word, of those that a transfer read, that was not clean
abbrev pub first_unclean : Transfer → Option ℕ
first_unclean t = find (λ j. not (slice_index (syndromes_of t) j == 0)) (range_with_len 0 t.words)

-- word j of a transfer as it is noted: HSIZE, HMASTER from bit 3, HWRITE bit 7 for a store, NE bit 8, and CE bit 9 where the
-- word was fixed
abbrev pub note_of : Transfer → ℕ → AhbStatus
note_of t j = record {
  addr = t.addr - t.addr % 4 + 4 * j;
  status = size_noted t.len t.kind + 8 * t.master + 128 * from_bool (same_kind t.kind Store) + 256
      + 512 * from_bool (not (is_bad_syndrome (slice_index (syndromes_of t) j)));
}

abbrev pub noted : AhbStatus → Transfer → Option ℕ → AhbStatus
noted s t None = s
noted s t (Some j) = if is_noted s then s else note_of t j

-- a fix that read its word clean or fixed clears the registers, if they name that word
abbrev pub cleared : AhbStatus → Transfer → AhbStatus
cleared s t = if same_kind t.kind Fix && not (is_bad_syndrome (slice_index (syndromes_of t) 0)) && s.addr == t.addr then status_start else s

-- the registers after a transfer, and after all
abbrev pub status_by : AhbStatus → Transfer → AhbStatus
status_by s t = cleared (noted s t (first_unclean t)) t

abbrev pub status_after : List Transfer → AhbStatus
status_after transfers = fold status_by status_start transfers
