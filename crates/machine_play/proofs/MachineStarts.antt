-- What holds of the machine between two events holds before the first, and no schedule has brought it further.
use Rattle.std.proofs.Common.{◌≡◌, ◌∙◌, ◌+◌, ℕ, zero, suc, false, List, [], IfSome, length, map, slice_get, refl, ap, sym, subst, arith}
use Rattle.std.proofs.lemmas.List.{length-map}
use Rattle.std.proofs.lemmas.List.FromFn.{length-range_with_len}
use Rattle.std.specs.List.{AllByRecursion as Each, range_with_len}
use Rattle.ahb_bus.specs.BusOk.{BusOk}
use Rattle.ahb_bus.specs.BusState.{BusState}
use Rattle.core_course.proofs.Starts.{ok_at_start}
use Rattle.core_course.specs.Calls.{Joins}
use Rattle.core_parts.specs.CoreValue.{start_value}
use Rattle.lf_model.specs.Bus.Walk.{walk_after}
use Rattle.lf_model.specs.Caches.Cache.{IsCacheShape}
use Rattle.lf_model.specs.Ledger.Account.{without_length}
use Rattle.lf_model.specs.declared.bus.Entry.{Entry}
use Rattle.lf_model.specs.declared.bus.Transfer.{Transfer}
use Rattle.lf_model.specs.declared.setup.Setup.{Setup}
use Rattle.machine_play.specs.AtStart.{machine_at_start}
use Rattle.machine_play.specs.Machine.{IsCoreAt, IsMachine}
use Rattle.machine_play.specs.MachineMade.{core_made, ComesTo}
use Rattle.machine_play.proofs.Joining.{joins_whole}
use Rattle.machine_play.proofs.ScrubEvents.{HasMadeNothing, start_comes}

module _ (setup : Setup) (bus : BusState) (no_log : bus.log ≡ []) (no_transfers : bus.transfers ≡ []) where
  -- ---- its cores have made nothing

  nothing_made : (first n : ℕ) → Each HasMadeNothing (map (core_made (map without_length bus.transfers)) (map (start_value setup) (range_with_len first n)))
  nothing_made first n = subst (λ (ts : List Transfer). Each HasMadeNothing (map (core_made (map without_length ts)) (map (start_value setup) (range_with_len first n)))) (sym no_transfers) (by first n)
    where
      by : (k j : ℕ) → Each HasMadeNothing (map (core_made []) (map (start_value setup) (range_with_len k j)))
      by k zero = tt
      by k (suc j) = (record { steps = refl; transfers = refl }, by (k + 1) j)

  pub starts_with_nothing : ComesTo setup (λ a. a) (machine_at_start setup bus)
  starts_with_nothing = start_comes setup (machine_at_start setup bus) (nothing_made 0 setup.config.cores) refl no_transfers

  -- ---- it is a machine

  module _ (load : IsCacheShape setup.config.load_cache) (fetch : IsCacheShape setup.config.fetch_cache) where
    core_at_start : (c : ℕ) → IsCoreAt setup bus c (start_value setup c)
    core_at_start c = record {
      setup_is = refl;
      number = refl;
      rests = tt;
      stores_made = tt;
      joins =
          subst (λ (us : List Transfer). Joins (start_value setup c) bus.log us) (sym no_transfers)
          (subst (λ (es : List Entry). Joins (start_value setup c) es []) (sym no_log) (joins_whole (start_value setup c) [] [] (ok_at_start setup c load fetch)));
    }

    cores_at_start : (first n i c : ℕ) → c ≡ first + i → IfSome (slice_get (map (start_value setup) (range_with_len first n)) i) (IsCoreAt setup bus c)
    cores_at_start first zero i c at = tt
    cores_at_start first (suc n) zero c at = let same : first ≡ c = omega (arith, at) in subst (λ (k : ℕ). IsCoreAt setup bus k (start_value setup first)) same (core_at_start first)
    cores_at_start first (suc n) (suc i) c at = cores_at_start (first + 1) n i c (omega (arith, at))

    pub machine_starts : bus.setup ≡ setup → BusOk bus → bus.begun ≡ false → IsMachine setup (machine_at_start setup bus)
    machine_starts bus_setup ok idle = record {
      one_each = length-map (range_with_len 0 setup.config.cores) (start_value setup) ∙ length-range_with_len 0 setup.config.cores;
      cores = λ c. cores_at_start 0 setup.config.cores c c (omega arith);
      bus_setup = bus_setup;
      bus_ok = ok;
      idle = idle;
      scrubber_at = record {
        config = refl;
        walk_is = ap (walk_after setup.config.scrub) (sym no_transfers);
        each = λ turn within. absurd (omega (arith, within, ap (λ (ts : List Transfer). length ts) no_transfers));
      };
    }
