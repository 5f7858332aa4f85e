-- The cells of registers are register cells of a core.
use Rattle.std.proofs.Common.{◌<◌, ◌==◌, not, ℕ, List, [], ◌∷◌, filter, sym, subst}
use Rattle.std.specs.Prelude.{All}
use Rattle.std.proofs.lemmas.List.Elements.{All-nil, All-cons, All-map}
use Rattle.lf_model.specs.Course.Arrays.{register_cells, cells_of}
use Rattle.lf_model.specs.Effect.{Effect}
use Rattle.lf_model.specs.Run.{effect_at_pc}
use Rattle.lf_model.specs.State.{State, cell}
use Rattle.lf_model.specs.declared.setup.Setup.{Setup}
use Rattle.replay_effects.proofs.EffectForm.{cell_low, formed}
use Rattle.replay_effects.specs.Footprints.{IsFootprint}
use Rattle.replay_effects.specs.declared.footprint.Footprint.{Footprint}

all_low : (window : ℕ) (ns : List ℕ) → All (λ n. cell window n < register_cells) ns
all_low window [] = All-nil (λ n. cell window n < register_cells)
all_low window (n ∷ ns) = All-cons (λ m. cell window m < register_cells) n ns (cell_low window n) (all_low window ns)

cells_low : (window : ℕ) (ns : List ℕ) → All (λ c. c < register_cells) (cells_of window ns)
cells_low window ns =
    let named = filter (λ n. not (n == 0)) ns in
    All-map (λ c. c < register_cells) (cell window) named (all_low window named)

-- a footprint reads no others
pub reads_low : (window : ℕ) (e : Effect) (f : Footprint) → IsFootprint window e f → All (λ c. c < register_cells) f.reads.items
reads_low window e f is = subst (All (λ c. c < register_cells)) (sym is.reads) (cells_low window e.reads)

-- and the footprint of an instruction at PC writes no others
pub writes_low : (setup : Setup) (core : ℕ) (s : State) (window : ℕ) (f : Footprint) → IsFootprint window (effect_at_pc setup core s) f
    → All (λ c. c < register_cells) f.writes.items
writes_low setup core s window f is = subst (All (λ c. c < register_cells)) (sym is.writes) (formed setup core s).low
