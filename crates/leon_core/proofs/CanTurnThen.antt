-- A core whose step needs a turn can make it.
use Rattle.std.proofs.Common.{◌≡◌, ◌∙◌, ◌<◌, ◌≤◌, nat_lt, nat_le, true, false, List, [], ◌∷◌, length, refl, sym, ap, arith}
use Rattle.std.proofs.lemmas.Bool.{ltb-true, ltb-false, leb-true}
use Rattle.std.proofs.lemmas.List.{length-map}
use Rattle.core_parts.specs.CoreValue.{CoreValue}
use Rattle.core_parts.specs.Inside.{ports_of, seen_in, value_of}
use Rattle.core_parts.specs.PortState.{PortState, arrays_in}
use Rattle.core_parts.specs.Work.{waiting_in}
use Rattle.core_parts.specs.declared.parts.Parts.{Parts}
use Rattle.core_parts.specs.declared.phase.Phase.TheVariants.{Begun}
use Rattle.core_steps.proofs.Needing.{AsksBy, asks_by}
use Rattle.core_steps.proofs.TouchesLeave.{arrays_left, waiting_tried}
use Rattle.core_steps.specs.Tries.{state_here, effect_here, window_over, try_here, need_here, Tries}
use Rattle.core_turns.specs.CanTurn.{CanTurn}
use Rattle.leon_core.proofs.AskedTurn.{step_can}
use Rattle.leon_core.proofs.MissesSo.{Misses, misses_so}
use Rattle.leon_core.specs.CoreInside.{IsKept}
use Rattle.leon_core.specs.declared.one_core.Core.TheInside.{Inside}
use Rattle.lf_model.specs.Run.{Run}
use Rattle.lf_model.specs.declared.bus.Pending.{Pending}
use Rattle.lf_model.specs.declared.control.Arch.{Arch}
use Rattle.lf_model.specs.declared.setup.Setup.{Setup}
use Rattle.lf_model.specs.declared.step.Did.TheVariants.{Need as Asks}
use Rattle.lf_model.specs.declared.step.Turn.{Turn}
use Rattle.v8_exec.specs.Accesses.{AsksTurn}

none_of : (ps : List Pending) → length ps ≤ 0 → ps ≡ []
none_of [] le = refl
none_of (p ∷ ps) le = absurd (omega (arith, le))

module _ (old : Inside) (is : IsKept old) (left : old.parts.«record».steps < old.parts.site.config.steps) (few : old.parts.site.config.steps < 4294967296) (turn : Turn) (arch : Arch) (p : Parts)
    (t : Tries (Asks turn) (value_of old.arch old.parts old.quiet old.room.named.items Begun) (value_of arch p old.quiet old.room.named.items Begun))
    (asks : AsksTurn (seen_in old.parts).site turn) (made : arch.k ≤ old.parts.«record».steps) where
  abbrev v : CoreValue
  v = value_of old.arch old.parts old.quiet old.room.named.items Begun

  abbrev w : CoreValue
  w = value_of arch p old.quiet old.room.named.items Begun

  site_stays : p.site ≡ old.parts.site
  site_stays = ap (λ (x : CoreValue). x.setup) t.stays

  steps_stay : p.«record».steps ≡ old.parts.«record».steps
  steps_stay = ap (λ (x : CoreValue). x.steps) t.stays

  waiting_stays : length p.buffer.waiting ≡ length v.ports.waiting
  waiting_stays =
      sym (length-map p.buffer.waiting waiting_in)
      ∙ ap length (ap (λ (s : PortState). s.waiting) t.ports ∙ waiting_tried v (Asks turn) refl)

  arrays_are : arrays_in w.ports ≡ (try_here v).arrays
  arrays_are = ap arrays_in t.ports ∙ arrays_left v (Asks turn)

  pc_stays : arch.ctl.pc ≡ v.arch.ctl.pc
  pc_stays = ap (λ (r : Run). r.state.ctl.pc) t.run

  counted : arch.n ≤ p.«record».steps
  counted = let n = t.counts in let before = is.counted in let same = steps_stay in omega (arith, n, before, same)

  some : nat_lt 0 (length v.ports.waiting) ≡ true → 0 < length p.buffer.waiting
  some waits = let lt = ltb-true 0 (length v.ports.waiting) waits in let same = waiting_stays in omega (arith, lt, same)

  filled : nat_le v.ports.depth (length v.ports.waiting) ≡ true → 0 < length p.buffer.waiting
  filled full =
      let le = leb-true v.ports.depth (length v.ports.waiting) full in
      let same = waiting_stays in
      let depth = is.core.depth in
      let place = is.setup.some_place in
      omega (arith, le, same, depth, place)

  none : nat_lt 0 (length v.ports.waiting) ≡ false → p.buffer.waiting ≡ []
  none empty = let le = ltb-false 0 (length v.ports.waiting) empty in let same = waiting_stays in none_of p.buffer.waiting (omega (arith, le, same))

  tried_misses : window_over v ≡ false → Misses v.arch.ctl.pc (effect_here v) v.setup.image.text (try_here v).arrays (try_here v).outcome
  tried_misses open_ = rw open_ (misses_so v.setup v.arch.core (state_here v) (arrays_in v.ports))

  misses : window_over v ≡ false → Misses v.arch.ctl.pc (effect_here v) p.site.image.text (arrays_in (ports_of p)) (try_here v).outcome
  misses open_ = rw (arrays_are, site_stays) (tried_misses open_)

  asked : AsksBy (state_here v) (effect_here v) turn (need_here v (try_here v).outcome)
  asked = asks_by (state_here v) (effect_here v) (try_here v).arrays.cells turn (need_here v (try_here v).outcome) t.answer

  pub can_turn : CanTurn turn arch p
  can_turn =
      let same : p.«record».steps ≡ old.parts.«record».steps = steps_stay in
      let limit : p.site.config.steps ≡ old.parts.site.config.steps = ap (λ (s : Setup). s.config.steps) site_stays in
      let left_now : p.«record».steps < p.site.config.steps = omega (arith, same, limit, left) in
      let few_now : p.site.config.steps < 4294967296 = omega (arith, limit, few) in
      let made_now : arch.k ≤ p.«record».steps = omega (arith, same, made) in
      step_can (state_here v) (effect_here v) (seen_in old.parts).site arch p left_now few_now counted made_now pc_stays
      (rw site_stays is.setup.image) (rw site_stays is.setup.ram) (ap (λ (s : Setup). s.config.ram) (sym site_stays)) (ap (λ (s : Setup). s.image) (sym site_stays)) turn asks
      (nat_lt 0 (length v.ports.waiting)) (nat_le v.ports.depth (length v.ports.waiting)) some filled none
      (window_over v) old.arch.ctl.et (try_here v).outcome misses asked.kind asked.why asked.need_is asked.turn_is
