-- Traces that a report can show: every number is in the range of its field, every field that no line shows is 0, and the bounds
-- of a report hold.
use Rattle.std.specs.Prelude.{ℕ, ◌≡◌, ◌≤◌, ◌*◌, ◌^◌, ◌==◌, ◌&&◌, ◌||◌, nat_lt, nat_le, Bool, true, length, map, Option, Some, None}
use Rattle.std.specs.List.{list_all, range_with_len}
use Rattle.lf_model.specs.Promise.RegularTransfer.{fits_word, fits_byte, is_regular_transfer}
use Rattle.lf_model.specs.declared.bus.OpKind.{OpKind}
use Rattle.lf_model.specs.declared.bus.OpKind.TheVariants.{Load, Store, Atomic, Lost}
use Rattle.lf_model.specs.declared.bus.Transfer.{Transfer}
use Rattle.lf_model.specs.declared.trace.CoreEnd.{CoreEnd}
use Rattle.lf_model.specs.declared.trace.CoreEnd.TheVariants.{Halt, Stop, Limit}
use Rattle.lf_model.specs.declared.trace.CoreResult.{CoreResult}
use Rattle.lf_model.specs.declared.trace.Four.{Four}
use Rattle.lf_model.specs.declared.trace.Op.{Op}
use Rattle.lf_model.specs.declared.trace.Trace.{Trace}
use Rattle.lf_model.specs.declared.trace.Word2.{Word2}

-- ---- results of cores

abbrev pub end_fits : CoreEnd → Bool
end_fits (Halt tt_) = fits_byte tt_
end_fits (Stop tt_ place syn) = fits_byte tt_ && (fits_word place && fits_byte syn)
end_fits Limit = true

-- a word, or none
abbrev pub value_fits : Option ℕ → Bool
value_fits None = true
value_fits (Some value) = fits_word value

-- a counter of parity errors stops at 3
abbrev pub parity_fits : Four → Bool
parity_fits p = nat_le p.fetch_tag 3 && (nat_le p.fetch_byte 3 && (nat_le p.data_tag 3 && nat_le p.data_byte 3))

abbrev pub control_fits : CoreResult → Bool
control_fits r = fits_word r.psr && (fits_word r.wim && (fits_word r.tbr && (fits_word r.y && (fits_word r.pc && fits_word r.npc))))

abbrev pub is_regular_core : CoreResult → Bool
is_regular_core r = end_fits r.end && (fits_word r.n && (fits_word r.steps && (list_all fits_byte r.out
    && (length r.regs == 32 && (list_all value_fits r.regs && (control_fits r && parity_fits r.parity))))))

-- ---- operations

-- the number fits the bytes of the operation
abbrev pub number_fits : ℕ → ℕ → Bool
number_fits len n = nat_lt n (256 ^ len)

-- what an operation reads and stores, and its way: each 0 where its kind has none
abbrev pub numbers_fit : Op → OpKind → Bool
numbers_fit o Load = number_fits o.len o.got && (o.put == 0 && fits_byte o.way)
numbers_fit o Store = o.got == 0 && (number_fits o.len o.put && o.way == 0)
numbers_fit o Atomic = number_fits o.len o.got && (number_fits o.len o.put && o.way == 0)
numbers_fit o Lost = o.got == 0 && (number_fits o.len o.put && o.way == 0)

abbrev pub is_length : ℕ → Bool
is_length len = len == 1 || (len == 2 || (len == 4 || len == 8))

abbrev pub is_regular_op : Op → Bool
is_regular_op o = fits_word o.core && (fits_word o.k && (fits_word o.step && (fits_word o.addr && (is_length o.len && numbers_fit o o.kind))))

-- ---- the trace

abbrev pub is_regular_word : Word2 → Bool
is_regular_word word = fits_word word.addr && value_fits word.value

abbrev pub turn_of : Transfer → ℕ
turn_of t = t.turn

-- the steps of each core, times the number of cores, are at most 4,000,000
abbrev pub steps_fit : ℕ → CoreResult → Bool
steps_fit cores r = nat_le (cores * r.steps) 4000000

pub record IsRegular (trace : Trace) : Type 0 where
  pub some_core : 1 ≤ length trace.cores
  pub few_cores : length trace.cores ≤ 8
  pub few_steps : list_all (steps_fit (length trace.cores)) trace.cores ≡ true
  pub few_transfers : length trace.transfers ≤ 5000064
  pub few_operations : length trace.order ≤ 4000000
  pub few_fates : length trace.fates ≤ 65536
  pub few_words : length trace.watch ≤ 64
  pub cores : list_all is_regular_core trace.cores ≡ true
  pub status : (fits_word trace.ahb_addr && fits_word trace.ahb_status) ≡ true
  pub turns : map turn_of trace.transfers ≡ range_with_len 0 (length trace.transfers)
  pub transfers : list_all is_regular_transfer trace.transfers ≡ true
  pub operations : list_all is_regular_op trace.order ≡ true
  pub words : list_all is_regular_word trace.watch ≡ true
