-- A core whose error trap names a register cell: its parts are as ready for steps as before.
use Rattle.std.proofs.Common.{◌≡◌, ℕ, true, List, [], ◌∷◌, refl, ⊎_elim}
use Rattle.std.proofs.lemmas.List.{length-set}
use Rattle.core_parts.proofs.Quiet.{quiet_named, QuietArrays}
use Rattle.core_parts.proofs.Stays.{came_stays, units_of_script_stay}
use Rattle.core_parts.proofs.StrikeLemmas.{changed}
use Rattle.core_parts.specs.CanRun.{CanRun}
use Rattle.core_parts.specs.Strikes.{arrays_of}
use Rattle.core_parts.specs.declared.parts.Parts.{Parts}
use Rattle.flip_ledger.specs.Follows.{has_struck}
use Rattle.lf_model.specs.Caches.Slot.{history_at, befalls}
use Rattle.lf_model.specs.Flips.{Moment}
use Rattle.lf_model.specs.Flips.Moment.{Named}

-- the parts with these histories of the register cells
abbrev pub with_cells : List (List Moment) → Parts → Parts
with_cells cells p = record p { arrays = record p.arrays { registers = record p.arrays.registers { histories = cells } } }

module _ (cell : ℕ) (p : Parts) where
  abbrev pub named : Parts
  named = with_cells (befalls (λ h. Named ∷ h) cell p.arrays.registers.histories) p

  quiet : QuietArrays (arrays_of p.arrays) (arrays_of named.arrays)
  quiet = record {
    count = length-set p.arrays.registers.histories cell (Named ∷ history_at cell p.arrays.registers.histories);
    cells = λ i place struck.
        ⊎_elim (λ old. old) (λ it. quiet_named i (history_at place p.arrays.registers.histories) it.1)
        (changed (λ (h : List Moment). has_struck i h ≡ true) (λ h. Named ∷ h) p.arrays.registers.histories cell place [] struck);
    fetch_cache = record { shape = refl; units = λ tag i byte j struck. struck };
    data_cache = record { shape = refl; units = λ tag i byte j struck. struck };
  }

  pub can_run_named : (begun looked : ℕ) → CanRun begun looked p → CanRun begun looked named
  can_run_named begun looked runs = record {
    units = units_of_script_stay p.«record».core p.site.flips p.arrays named.arrays quiet refl refl refl runs.units;
    came = came_stays (arrays_of p.arrays) (arrays_of named.arrays) quiet p.site.flips p.«record».core begun runs.came;
    room = runs.room;
    fetch_room = runs.fetch_room;
  }
