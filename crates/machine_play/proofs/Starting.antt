-- The machine that is made from a setup is the one before its first event.
use Rattle.std.proofs.Common.{◌≡◌, ◌∙◌, ◌+◌, ◌++◌, ℕ, false, [], ◌∷◌, map, ap, ap₂, sym, subst, arith, add-one}
use Rattle.std.proofs.lemmas.List.{map-append}
use Rattle.std.specs.List.{range_with_len}
use Rattle.ahb_bus.specs.BusOk.{BusOk}
use Rattle.core_parts.specs.CoreValue.{start_value}
use Rattle.lf_model.specs.Bus.Walk.{walk_start}
use Rattle.lf_model.specs.declared.setup.Setup.{Setup}
use Rattle.machine_play.specs.AtStart.{machine_at_start}
use Rattle.machine_play.specs.Machine.{IsMachine}
use Rattle.machine_play.specs.MachineMade.{ComesTo}
use Rattle.machine_play.specs.MachineValue.{MachineValue}
use Rattle.machine_play.specs.Moved.{IsSound}
use Rattle.machine_play.specs.Playable.{IsPlayable}
use Rattle.machine_play.proofs.ScheduleLoops.{range_more}
use Rattle.machine_play.proofs.MachineStarts.{starts_with_nothing, machine_starts}

-- one core more at reset
pub cores_next : (setup : Setup) (n : ℕ) → map (start_value setup) (range_with_len 0 (n + 1)) ≡ map (start_value setup) (range_with_len 0 n) ++ start_value setup n ∷ []
cores_next setup n =
    ap (λ (k : ℕ). map (start_value setup) (range_with_len 0 k)) (add-one n)
    ∙ (ap (map (start_value setup)) (range_more 0 n)
    ∙ (map-append (start_value setup) (range_with_len 0 n) ((0 + n) ∷ [])
    ∙ ap (λ (k : ℕ). map (start_value setup) (range_with_len 0 n) ++ start_value setup k ∷ []) (none_before n)))
  where
    none_before : (k : ℕ) → 0 + k ≡ k
    none_before k = omega arith

-- ---- the machine

module _ (setup : Setup) (m : MachineValue) (cores : m.cores ≡ map (start_value setup) (range_with_len 0 setup.config.cores))
    (walk : m.walk ≡ record { config = setup.config; walk = walk_start setup.config.scrub }) (no_log : m.bus.log ≡ []) (no_transfers : m.bus.transfers ≡ []) where
  same : machine_at_start setup m.bus ≡ m
  same = ap₂ (λ vs w. record { cores = vs; bus = m.bus; walk = w }) (sym cores) (sym walk)

  pub new_comes : ComesTo setup (λ a. a) m
  new_comes = subst (ComesTo setup (λ a. a)) same (starts_with_nothing setup m.bus no_log no_transfers)

  pub new_sound : IsPlayable setup → m.bus.setup ≡ setup → BusOk m.bus → m.bus.begun ≡ false → IsSound m
  new_sound playable bus_setup ok idle =
      subst (λ (s : Setup). IsMachine s m) (sym bus_setup)
      (subst (IsMachine setup) same (machine_starts setup m.bus no_log no_transfers playable.load_cache playable.fetch_cache bus_setup ok idle))
