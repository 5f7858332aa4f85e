-- Status 7 comes with the line of want of memory.
use Rattle.std.proofs.Common.{ℕ, ◌≡◌, Bool, true, false, if◌then◌else◌, Result, Ok, Err, refl, arith}
use Rattle.tso_audit.specs.declared.verdict.Verdict.TheVariants.{Yes, No}
use Rattle.leon_main.specs.Call.{status_of, text_of}
use Rattle.leon_main.specs.Ends.{is_stop, is_limit, some_end}
use Rattle.leon_main.specs.Faults.{line_of}
use Rattle.leon_main.specs.declared.answer.Answer.{Answer}
use Rattle.leon_main.specs.declared.answer.Answer.TheVariants.{Report, Audited, ImageFile, CheckBits}
use Rattle.leon_main.specs.declared.fault.Fault.{Fault}
use Rattle.leon_main.specs.declared.fault.Fault.TheVariants.{Usage, Unread, TooLong, NotToml, UnknownKey, WrongKind, OutOfRange, BadImage, BadScript, BadSchedule, BadReport, Memory}

not_seven : (p q : Bool) → ◌≡◌ {A = ℕ} (if p then 10 else (if q then 11 else 0)) 7 → ⊥
not_seven true q e = omega (arith, e)
not_seven false true e = omega (arith, e)
not_seven false false e = omega (arith, e)

pub memory_line : (outcome : Result Answer Fault) → status_of outcome ≡ 7 → text_of outcome ≡ line_of Memory
memory_line (Ok (Report trace)) e = absurd (not_seven (some_end is_stop trace.cores) (some_end is_limit trace.cores) e)
memory_line (Ok (Audited Yes)) e = absurd (omega (arith, e))
memory_line (Ok (Audited (No rule place))) e = absurd (omega (arith, e))
memory_line (Ok (ImageFile file)) e = absurd (omega (arith, e))
memory_line (Ok (CheckBits bits)) e = absurd (omega (arith, e))
memory_line (Err Memory) e = refl
memory_line (Err Usage) e = absurd (omega (arith, e))
memory_line (Err (Unread file)) e = absurd (omega (arith, e))
memory_line (Err (TooLong file)) e = absurd (omega (arith, e))
memory_line (Err NotToml) e = absurd (omega (arith, e))
memory_line (Err UnknownKey) e = absurd (omega (arith, e))
memory_line (Err (WrongKind key)) e = absurd (omega (arith, e))
memory_line (Err (OutOfRange key)) e = absurd (omega (arith, e))
memory_line (Err (BadImage number_ offset)) e = absurd (omega (arith, e))
memory_line (Err (BadScript line why)) e = absurd (omega (arith, e))
memory_line (Err (BadSchedule line why)) e = absurd (omega (arith, e))
memory_line (Err (BadReport line)) e = absurd (omega (arith, e))
