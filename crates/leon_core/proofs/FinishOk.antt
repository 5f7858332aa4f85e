-- What a core that has ended leaves is right beside each bus that it joins.
use Rattle.std.proofs.Common.{◌≡◌, ℕ, true, List, Option, refl, sym, subst}
use Rattle.std.specs.List.{list_all}
use Rattle.core_parts.specs.CoreValue.{CoreValue}
use Rattle.core_parts.specs.Phases.{state_of_core}
use Rattle.core_parts.specs.declared.phase.CoreState.TheVariants as states
use Rattle.core_course.proofs.Joined.{record_right}
use Rattle.core_course.specs.Calls.{Joins}
use Rattle.leon_core.specs.Ends.{record_by, fates_of, LeavesBy, Leaves}
use Rattle.core_course.specs.Result.{result_of}
use Rattle.lf_model.specs.Promise.Regular.{is_regular_core, is_regular_op}
use Rattle.lf_model.specs.Records.CoreRecord.{RecordOk}
use Rattle.lf_model.specs.declared.bus.Entry.{Entry}
use Rattle.lf_model.specs.declared.bus.Transfer.{Transfer}
use Rattle.lf_model.specs.declared.record.CoreRecord.{CoreRecord}
use Rattle.lf_model.specs.declared.trace.CoreEnd.{CoreEnd}
use Rattle.lf_model.specs.declared.trace.Fate.{Fate}
use Rattle.lf_model.specs.declared.trace.Four.{Four}
use Rattle.lf_model.specs.declared.trace.Op.{Op}
use Rattle.lf_model.specs.declared.trace.Word2.{Word2}

-- a record by the parts of it that are read one by one
abbrev pub record_with : CoreEnd → ℕ → ℕ → ℕ → ℕ → ℕ → ℕ → ℕ → ℕ → List ℕ → List (Option ℕ) → Four → List Op → List ℕ → List Word2 → List Fate → CoreRecord
record_with end n wim tbr y pc npc steps psr out regs parity ops seen named fates = record {
  result = record {
    end = end;
    n = n;
    steps = steps;
    out = out;
    regs = regs;
    psr = psr;
    wim = wim;
    tbr = tbr;
    y = y;
    pc = pc;
    npc = npc;
    parity = parity;
  };
  ops = ops;
  seen = seen;
  named = named;
  fates = fates;
}

pub same_record : (end : CoreEnd) (n wim tbr y pc npc : ℕ) {steps steps' psr psr' : ℕ} {out out' : List ℕ} {regs regs' : List (Option ℕ)} {parity parity' : Four}
    {ops ops' : List Op} {seen seen' : List ℕ} {named named' : List Word2} {fates fates' : List Fate}
    → steps ≡ steps' → psr ≡ psr' → out ≡ out' → regs ≡ regs' → parity ≡ parity' → ops ≡ ops' → seen ≡ seen' → named ≡ named' → fates ≡ fates'
    → record_with end n wim tbr y pc npc steps psr out regs parity ops seen named fates ≡ record_with end n wim tbr y pc npc steps' psr' out' regs' parity' ops' seen' named' fates'
same_record end n wim tbr y pc npc p1 p2 p3 p4 p5 p6 p7 p8 p9 = rw (p1, p2, p3, p4, p5, p6, p7, p8, p9) refl

module _ (v : CoreValue) (kept : CoreRecord) (end : CoreEnd) (shown : state_of_core v ≡ states.Ended end) (left : kept ≡ record_by v end) where
  pub leaves_it : Leaves v kept
  leaves_it = subst (LeavesBy v kept) (sym shown) left

  pub leaves_ok : is_regular_core (result_of v end) ≡ true → list_all is_regular_op v.ops ≡ true
      → (log : List Entry) (ts : List Transfer) → Joins v log ts → RecordOk v.setup v.arch.core kept log ts
  leaves_ok core_fits ops_fit log ts joins =
      subst (λ (r : CoreRecord). RecordOk v.setup v.arch.core r log ts) (sym left) (record_right v log ts joins end (fates_of v) shown core_fits ops_fit refl)
