use Rattle.std.proofs.Common.{◌≡◌, ◌∙◌, ◌+◌, ◌<◌, ◌^◌, ℕ, true, List, Option, ap, sym, subst}
use Rattle.std.proofs.lemmas.List.FromFn.{length-map-range_with_len}
use Rattle.std.specs.List.{list_all}
use Rattle.core_course.specs.Calls.{Joins}
use Rattle.core_course.specs.Result.{register_shown, result_of}
use Rattle.core_parts.specs.CoreValue.{CoreValue}
use Rattle.core_parts.specs.Phases.{state_of_core}
use Rattle.core_parts.specs.Strikes.{arrays_of, IsFor, Came}
use Rattle.leon_core.proofs.FinishOk.{record_with, same_record, leaves_it, leaves_ok}
use Rattle.leon_core.proofs.RegularResult.{Fits, regular}
use Rattle.leon_core.specs.CoreInside.{core_seen, in_step}
use Rattle.leon_core.specs.Ends.{Leaves}
use Rattle.lf_model.specs.Promise.Regular.{value_fits, parity_fits}
use Rattle.lf_model.specs.Promise.RegularTransfer.{fits_byte}
use Rattle.lf_model.specs.Records.CoreRecord.{RecordOk}
use Rattle.lf_model.specs.declared.record.CoreRecord.{CoreRecord}
use Rattle.lf_model.specs.declared.trace.Four.{Four}
use Rattle.leon_core.proofs.one_core.Core.finish.Goals as goal

pub returns-clause-leaves : goal.returns-clause-leaves
returns-clause-leaves c =
    let inside = c.self.inside in
    let is = c.self.invariant in
    let site = inside.parts.site in
    let registers = c.put_registers.ensures.shown inside.quiet inside.room.named.items inside.phase in
    let units = subst (λ (n : ℕ). IsFor n site.flips inside.parts.arrays) is.core.core is.runs.units in
    let came = subst (λ (n : ℕ). Came site.flips n (inside.parts.«record».steps + in_step inside.phase) (arrays_of inside.parts.arrays)) is.core.core is.runs.came in
    let fates = c.put_fates.ensures site.flips inside.arch.core (inside.parts.«record».steps + in_step inside.phase) units came (sym is.flips) in
    let kept : CoreRecord =
    record_with c.end-end.result inside.arch.n inside.arch.wim inside.arch.ctl.tbr inside.arch.y inside.arch.ctl.pc inside.arch.ctl.npc c.steps-steps.result c.psr-psr.result
    c.output.result c.from_vec.result c.parity-parity.result c.from_vec-2.result c.from_vec-3.result c.from_vec-4.result c.from_vec-5.result in
    subst (λ (v : CoreValue). Leaves v kept) c.self.view_is
    (leaves_it (core_seen inside) kept c.end-end.result (ap state_of_core c.self.view_is ∙ c.end-end.ensures.ended)
    (same_record c.end-end.result inside.arch.n inside.arch.wim inside.arch.ctl.tbr inside.arch.y inside.arch.ctl.pc inside.arch.ctl.npc c.steps-steps.ensures.steps c.psr-psr.ensures c.output.ensures.items
    (c.from_vec.ensures.items ∙ registers) c.parity-parity.ensures.counts (c.from_vec-2.ensures.items ∙ c.into_completed-completed.ensures.ops)
    (c.from_vec-3.ensures.items ∙ c.into_completed-completed.ensures.seen_by) c.from_vec-4.ensures.items (c.from_vec-5.ensures.items ∙ fates)))

pub returns-clause-ok : goal.returns-clause-ok
returns-clause-ok c = λ log ts joins.
    let inside = c.self.inside in
    let is = c.self.invariant in
    let site = inside.parts.site in
    let end = c.end-end.result in
    let v : CoreValue = core_seen inside in
    let registers = c.put_registers.ensures.shown inside.quiet inside.room.named.items inside.phase in
    let units = subst (λ (n : ℕ). IsFor n site.flips inside.parts.arrays) is.core.core is.runs.units in
    let came = subst (λ (n : ℕ). Came site.flips n (inside.parts.«record».steps + in_step inside.phase) (arrays_of inside.parts.arrays)) is.core.core is.runs.came in
    let fates = c.put_fates.ensures site.flips inside.arch.core (inside.parts.«record».steps + in_step inside.phase) units came (sym is.flips) in
    let words = c.are_words.ensures in
    let fits : Fits (result_of v end) = record {
      end = c.end-end.ensures.fits;
      n = words.n;
      steps = subst (λ (n : ℕ). n < 2 ^ 32) c.steps-steps.ensures.steps words.steps;
      out = subst (λ (bytes : List ℕ). list_all fits_byte bytes ≡ true) c.output.ensures.items c.output.ensures.fit;
      count = length-map-range_with_len (register_shown v) 0 32;
      regs = subst (λ (values : List (Option ℕ)). list_all value_fits values ≡ true) registers c.put_registers.ensures.fit;
      psr = subst (λ (n : ℕ). n < 2 ^ 32) c.psr-psr.ensures words.psr;
      wim = words.wim;
      tbr = words.tbr;
      y = words.y;
      pc = words.pc;
      npc = words.npc;
      parity = subst (λ (p : Four). parity_fits p ≡ true) c.parity-parity.ensures.counts c.parity-parity.ensures.fits;
    } in
    let kept : CoreRecord =
    record_with c.end-end.result inside.arch.n inside.arch.wim inside.arch.ctl.tbr inside.arch.y inside.arch.ctl.pc inside.arch.ctl.npc c.steps-steps.result c.psr-psr.result
    c.output.result c.from_vec.result c.parity-parity.result c.from_vec-2.result c.from_vec-3.result c.from_vec-4.result c.from_vec-5.result in
    subst (λ (w : CoreValue). RecordOk w.setup w.arch.core kept log ts) c.self.view_is
    (leaves_ok v kept end (ap state_of_core c.self.view_is ∙ c.end-end.ensures.ended)
    (same_record c.end-end.result inside.arch.n inside.arch.wim inside.arch.ctl.tbr inside.arch.y inside.arch.ctl.pc inside.arch.ctl.npc c.steps-steps.ensures.steps c.psr-psr.ensures c.output.ensures.items
    (c.from_vec.ensures.items ∙ registers) c.parity-parity.ensures.counts (c.from_vec-2.ensures.items ∙ c.into_completed-completed.ensures.ops)
    (c.from_vec-3.ensures.items ∙ c.into_completed-completed.ensures.seen_by) c.from_vec-4.ensures.items (c.from_vec-5.ensures.items ∙ fates))
    (regular (result_of v end) fits) is.core.ops_fit log ts (subst (λ (w : CoreValue). Joins w log ts) (sym c.self.view_is) joins))
