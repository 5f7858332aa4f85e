-- A core whose step has come to its answer keeps what its type promises.
use Rattle.std.proofs.Common.{◌≡◌, ◌∙◌, ℕ, ◌+◌, ◌≤◌, List, [], length, Option, Some, None, refl, sym, ap, subst, arith}
use Rattle.std.proofs.lemmas.List.{length-append}
use Rattle.core_course.specs.Settled.{phase_after, settled}
use Rattle.core_parts.specs.CanRun.{CanRun}
use Rattle.core_parts.specs.CoreValue.{CoreValue}
use Rattle.core_parts.specs.Inside.{value_of}
use Rattle.core_parts.specs.IsCore.{IsCore}
use Rattle.core_parts.specs.RecordState.{RecordState}
use Rattle.core_parts.specs.declared.parts.Parts.{Parts}
use Rattle.core_parts.specs.declared.phase.Phase.{Phase}
use Rattle.core_parts.specs.declared.phase.Phase.TheVariants.{Begun}
use Rattle.core_steps.specs.RunsAfter.{past_step, uses_before, RunsAfter}
use Rattle.core_steps.specs.Tries.{effect_here, op_by, ops_by, ops_here, Tries}
use Rattle.ft_regfile.specs.Registers.{Registers}
use Rattle.leon_core.proofs.NamedCell.{with_cells, can_run_named}
use Rattle.leon_core.specs.CoreInside.{core_seen, in_step, looked_in, NamesBy, AskedBy, IsKept}
use Rattle.leon_core.specs.LocalStep.{named_after, ends_after}
use Rattle.leon_core.specs.declared.one_core.Core.TheInside.{Inside}
use Rattle.lf_model.specs.Effect.{AccessKind, Access}
use Rattle.lf_model.specs.Step.{counted}
use Rattle.lf_model.specs.declared.control.Arch.{Arch}
use Rattle.lf_model.specs.declared.setup.Setup.{Setup}
use Rattle.lf_model.specs.declared.step.Did.{Did}
use Rattle.lf_model.specs.declared.step.Did.TheVariants.{Retired, Turned, Need, Halt, Stop}
use Rattle.lf_model.specs.declared.trace.Word2.{Word2}

-- ---- numbers

-- the step that is begun has ended, or is still begun
settles_one : (did : Did) → ends_after did + in_step (phase_after did) ≡ 1
settles_one Retired = refl
settles_one Turned = refl
settles_one (Need turn) = refl
settles_one (Halt tt_) = refl
settles_one (Stop tt_ place syn) = refl

-- an instruction is counted only where its step ends
counted_ends : (did : Did) → counted did ≤ ends_after did
counted_ends Retired = omega arith
counted_ends Turned = omega arith
counted_ends (Need turn) = omega arith
counted_ends (Halt tt_) = omega arith
counted_ends (Stop tt_ place syn) = omega arith

names_none : (named : List Word2) (did : Did) → named ≡ [] → NamesBy named (phase_after did)
names_none named Retired none = none
names_none named Turned none = none
names_none named (Need turn) none = none
names_none named (Halt tt_) none = tt
names_none named (Stop tt_ place syn) none = tt

-- ---- the parts

-- the step of these parts has come to its answer
abbrev pub settled_parts : Did → Parts → Parts
settled_parts did p = let q = with_cells (named_after did p.arrays.registers.histories) p in record q { «record» = record q.«record» { steps = q.«record».steps + ends_after did } }

core_settled : (a : Arch) (p : Parts) (did : Did) → IsCore a p → IsCore a (settled_parts did p)
core_settled a p did is = record {
  sound = is.sound;
  pc = is.pc;
  npc = is.npc;
  core = is.core;
  made = is.made;
  depth = is.depth;
  few = is.few;
  waits = is.waits;
  can_store = is.can_store;
  fetch_formed = is.fetch_formed;
  data_formed = is.data_formed;
  fetch_lines = is.fetch_lines;
  ops_fit = is.ops_fit;
}

-- as its users see it
seen_settled : (a : Arch) (p : Parts) (quiet : ℕ) (named : List Word2) (did : Did) → value_of a (settled_parts did p) (quiet + ends_after did) named (phase_after did) ≡ settled did (value_of a p quiet named Begun)
seen_settled a p quiet named Retired = refl
seen_settled a p quiet named Turned = refl
seen_settled a p quiet named (Need turn) =
    let steps : p.«record».steps + 0 ≡ p.«record».steps = omega arith in
    let few : quiet + 0 ≡ quiet = omega arith in
    rw (steps, few) refl
seen_settled a p quiet named (Halt tt_) = refl
seen_settled a p quiet named (Stop tt_ place syn) = refl

-- the parts are ready for the steps to come
runs_settled : (did : Did) (old p : Parts) → RunsAfter did old p → CanRun (old.«record».steps + 1) (looked_in (phase_after did)) (settled_parts did p)
runs_settled Retired old p runs = runs
runs_settled Turned old p runs = absurd runs
runs_settled (Need turn) old p runs =
    let same : p.«record».steps + 0 ≡ p.«record».steps = omega arith in
    subst (λ (n : ℕ). CanRun (old.«record».steps + 1) (uses_before turn) (record p { «record» = record p.«record» { steps = n } })) (sym same) runs
runs_settled (Halt tt_) old p runs = runs
runs_settled (Stop tt_ cell syn) old p runs = can_run_named cell (past_step p) (old.«record».steps + 1) 0 runs

-- an instruction makes an operation only where its step ends
one_made : (v : CoreValue) (x : Access) (kind : AccessKind) → length (op_by v x kind) ≤ 1
one_made v x AccessKind.Load = omega arith
one_made v x AccessKind.Store = omega arith
one_made v x AccessKind.Atomic = omega arith

made_by : (v : CoreValue) (access : Option Access) → length (ops_by v access) ≤ 1
made_by v None = omega arith
made_by v (Some x) = one_made v x x.kind

made_ends : (v : CoreValue) (did : Did) → length (ops_here v did) ≤ ends_after did
made_ends v Retired = made_by v (effect_here v).access
made_ends v Turned = omega arith
made_ends v (Need turn) = omega arith
made_ends v (Halt tt_) = omega arith
made_ends v (Stop tt_ cell syn) = omega arith

-- ---- the step that is begun

module _ (old : Inside) (is : IsKept old) (begun : old.phase ≡ Begun) where
  pub runs_begun : CanRun (old.parts.«record».steps + 1) 0 old.parts
  runs_begun = subst (λ (ph : Phase). CanRun (old.parts.«record».steps + in_step ph) (looked_in ph) old.parts) begun is.runs

  pub left_begun : old.parts.«record».steps + 1 ≤ old.parts.site.config.steps
  left_begun = subst (λ (ph : Phase). old.parts.«record».steps + in_step ph ≤ old.parts.site.config.steps) begun is.within

-- ---- the whole

module _ (old : Inside) (is : IsKept old) (begun : old.phase ≡ Begun) (did : Did) (arch : Arch) (p : Parts)
    (t : Tries did (value_of old.arch old.parts old.quiet old.room.named.items Begun) (value_of arch p old.quiet old.room.named.items Begun)) where
  site_stays : p.site ≡ old.parts.site
  site_stays = ap (λ (v : CoreValue). v.setup) t.stays

  pub steps_stay : p.«record».steps ≡ old.parts.«record».steps
  steps_stay = ap (λ (v : CoreValue). v.steps) t.stays

  abbrev pub inside : Inside
  inside = record old { arch = arch; parts = settled_parts did p; quiet = old.quiet + ends_after did; phase = phase_after did }

  steps_then : p.«record».steps + ends_after did + in_step (phase_after did) ≡ old.parts.«record».steps + 1
  steps_then = let one = settles_one did in let same = steps_stay in omega (arith, one, same)

  steps_begun : old.parts.«record».steps + in_step old.phase ≡ old.parts.«record».steps + 1
  steps_begun = rw begun refl

  pub made_few : IsCore arch p → arch.k ≤ old.parts.«record».steps + ends_after did
  made_few core =
      let v = value_of old.arch old.parts old.quiet old.room.named.items Begun in
      let now : length p.«record».ops ≡ length old.parts.«record».ops + length (ops_here v did) = ap length t.ops ∙ length-append old.parts.«record».ops (ops_here v did) in
      let most = made_ends v did in
      let before = is.made_few in
      let made = core.made in
      let made_before = is.core.made in
      omega (arith, now, most, before, made, made_before)

  pub is_settled : IsCore arch p → RunsAfter did old.parts p → AskedBy arch (settled_parts did p) (phase_after did) → IsKept inside
  is_settled core runs asked = record {
    window = is.window ∙ ap (λ (s : Setup). s.config.window) (sym site_stays);
    limit = is.limit ∙ ap (λ (s : Setup). s.config.steps) (sym site_stays);
    flips = is.flips ∙ ap (λ (s : Setup). length s.flips) (sym site_stays);
    setup = rw site_stays is.setup;
    number = rw (t.core, site_stays) is.number;
    core = core_settled arch p did core;
    planned = let same = core.core ∙ (t.core ∙ sym is.core.core) in rw (steps_then, same, site_stays) (rw steps_begun at is.planned);
    runs = rw steps_then (runs_settled did old.parts p runs);
    within = rw (steps_then, site_stays) (rw steps_begun at is.within);
    counted = let same = steps_stay in let most = counted_ends did in let before = is.counted in let now = t.counts in omega (arith, same, most, before, now);
    made_few = let same = steps_stay in let made = made_few core in omega (arith, same, made);
    quiet_few = let same = steps_stay in let before = is.quiet_few in omega (arith, same, before);
    room = is.room;
    asked = asked;
    names = names_none old.room.named.items did (subst (NamesBy old.room.named.items) begun is.names);
  }

  -- the same, put together of what each part has become
  abbrev pub inside_of : Registers → RecordState → ℕ → Phase → Inside
  inside_of registers made quiet phase = record old {
    arch = arch;
    parts = record p { arrays = record p.arrays { registers = registers }; «record» = made };
    quiet = quiet;
    phase = phase;
  }

  pub same_inside : (registers : Registers) (made : RecordState) (quiet : ℕ) (phase : Phase)
      → registers ≡ record p.arrays.registers { histories = named_after did p.arrays.registers.histories }
      → made ≡ record p.«record» { steps = p.«record».steps + ends_after did } → quiet ≡ old.quiet + ends_after did → phase ≡ phase_after did
      → inside_of registers made quiet phase ≡ inside
  same_inside registers made quiet phase r m q ph = rw (r, m, q, ph) refl

  pub seen_is : core_seen inside ≡ settled did (value_of arch p old.quiet old.room.named.items Begun)
  seen_is = seen_settled arch p old.quiet old.room.named.items did
