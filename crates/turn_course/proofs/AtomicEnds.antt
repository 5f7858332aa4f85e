-- An instruction at PC whose operation is an atomic, LDSTUB or SWAP, gives its register what it reads, and writes no other cell.
use Rattle.std.proofs.Common.{ℕ, Bool, true, false, refl, if◌then◌else◌}
use Rattle.lf_model.specs.Effects.{effect}
use Rattle.lf_model.specs.Instructions.{instruction_of}
use Rattle.lf_model.specs.Run.{site_of, effect_at_pc}
use Rattle.lf_model.specs.Start.{is_text_word, word_at}
use Rattle.lf_model.specs.State.{State}
use Rattle.lf_model.specs.Traps.{fetch_trap}
use Rattle.lf_model.specs.declared.setup.Setup.{Setup}
use Rattle.v8_exec.proofs.AtomicLemmas.{EndsAtomic, ends_without, ends_effect}

by_text : (setup : Setup) (core : ℕ) (s : State) (text : Bool)
    → EndsAtomic s (if text then effect (site_of setup core) s (instruction_of (word_at setup.image s.ctl.pc)) else fetch_trap s)
by_text setup core s true = ends_effect (site_of setup core) s (instruction_of (word_at setup.image s.ctl.pc))
by_text setup core s false = ends_without s (fetch_trap s) refl

pub ends_at_pc : (setup : Setup) (core : ℕ) (s : State) → EndsAtomic s (effect_at_pc setup core s)
unfolding effect_at_pc
ends_at_pc setup core s = by_text setup core s (is_text_word setup.image.text s.ctl.pc)
