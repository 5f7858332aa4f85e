-- A replayed core at reset.
use Rattle.std.proofs.Common.{◌≡◌, ◌∙◌, ◌<◌, ◌≤◌, ◌-◌, ◌^◌, ℕ, List, [], length, Option, None, refl, sym, ap, ap₂, subst, arith}
use Rattle.std.specs.Prelude.{replicate, slice_set}
use Rattle.lf_model.specs.Run.{site_of}
use Rattle.lf_model.specs.State.{State, cell, reset, reset_control}
use Rattle.lf_model.specs.Step.{IsSound}
use Rattle.lf_model.specs.declared.bus.Entry.{Entry}
use Rattle.lf_model.specs.declared.control.Arch.{Arch}
use Rattle.lf_model.specs.declared.control.Ctl.{Ctl}
use Rattle.lf_model.specs.declared.setup.Setup.{Setup}
use Rattle.lf_model.specs.declared.trace.Op.{Op}
use Rattle.tso_thread.proofs.ThreadReplay.{replays_reset}
use Rattle.tso_thread.specs.ReplayInside.{room_in}
use Rattle.tso_thread.specs.ThreadState.{setup_in, run_in, IsAt, Replays}
use Rattle.tso_thread.specs.declared.running.Thread.{Thread}

-- the state of these parts is that at reset
reset_is : (entry core wim y : ℕ) (ctl : Ctl) (cells out : List ℕ) (halt : Option ℕ) → ctl ≡ reset_control entry → wim ≡ 2 → y ≡ 0 → cells ≡ slice_set (replicate 136 0) (cell 0 8) core
    → out ≡ [] → halt ≡ None → ◌≡◌ {A = State} (record { cells = cells; ctl = ctl; wim = wim; y = y; out = out; halt = halt }) (reset entry core)
unfolding reset
reset_is entry core wim y ctl cells out halt ctl_is wim_is y_is cells_are out_is halt_is = rw (ctl_is, wim_is, y_is, cells_are, out_is, halt_is) refl

sound : (a : Arch) (entry core : ℕ) → a.ctl ≡ reset_control entry → a.wim ≡ 2 → a.core ≡ core → core < 8 → IsSound a
sound a entry core ctl wim its low = record {
  icc = rw ctl (omega arith);
  pil = rw ctl (omega arith);
  cwp = rw ctl (omega arith);
  wim = rw wim (omega arith);
  tbr = rw ctl refl;
  core = rw its low;
}

pub at_reset : (setup : Setup) (core : ℕ) (ops : List Op) (room : ℕ) → core < 8 → room < 2 ^ 32 - 1 → (t : Thread) → t.halt ≡ None → t.arch.ctl ≡ reset_control setup.image.entry
    → (t.arch.wim ≡ 2) × (t.arch.y ≡ 0) × (t.arch.core ≡ core) × (t.arch.n ≡ 0) × (t.arch.k ≡ 0) → setup_in t ≡ setup → t.replay.ops.now ≡ ops → t.replay.core ≡ core
    → t.replay.cells ≡ slice_set (replicate 136 0) (cell 0 8) core → (t.replay.out.items ≡ []) × (t.replay.made ≡ []) → room ≤ room_in t.replay → IsAt setup core ops 0 room t
at_reset setup core ops room low small t halt ctl rest setup_is ops_are core_is cells empty enough =
    let run_is : run_in t ≡ record { state = reset setup.image.entry core; ops = [] } =
    ap₂ (λ (s : State) (es : List Entry). record { state = s; ops = es })
    (reset_is setup.image.entry core t.arch.wim t.arch.y t.arch.ctl t.replay.cells t.replay.out.items t.halt ctl rest.0 rest.1 cells empty.0 halt) empty.1 in
    let none : length t.replay.made ≡ 0 = ap length empty.1 in
    let count : t.arch.n ≡ 0 = rest.3 in
    let k : t.arch.k ≡ 0 = rest.4 in
    record {
      is = record {
        site = ap₂ (λ (x : Setup) (c : ℕ). site_of x c) setup_is core_is;
        reads = ops_are;
        sound = sound t.arch setup.image.entry core ctl rest.0 rest.2 low;
        number = rest.2;
        k = k ∙ sym none;
        n = omega (arith, count, small);
        room = enough;
      };
      replays = subst (Replays setup core ops 0) (sym run_is) (replays_reset setup core ops);
    }
