-- What the readers promise of the texts of a run makes its setup one that the machine can play, and that can be audited.
use Rattle.std.proofs.Common.{ℕ, ◌≤◌, ◌*◌, List, All, length, get_or, arith}
use Rattle.std.specs.Prelude.{IsTrue}
use Rattle.std.specs.List.{AllByRecursion}
use Rattle.std.proofs.lemmas.List.Elements.{All-from_recursion, recursion_from_All}
use Rattle.std.proofs.Math.Nat.{mul-le-mul_right}
use Rattle.lf_model.specs.Start.{is_in_ram, IsLoadable}
use Rattle.lf_model.specs.declared.config.Config.{Config}
use Rattle.lf_model.specs.declared.flip.Flip.{Flip}
use Rattle.lf_model.specs.declared.flip.Flip.TheVariants.{Mem, Reg, Tag, Line}
use Rattle.lf_model.specs.declared.setup.Setup.{Setup}
use Rattle.machine_play.specs.Playable as machine
use Rattle.machine_play.specs.Playable.{IsPlayable}
use Rattle.tso_audit.specs.Audit.{CanAudit}
use Rattle.run_texts.specs.FlipLine as texts
use Rattle.run_texts.specs.FlipLine.{most_flips}
use Rattle.run_texts.specs.Keys as keys
use Rattle.run_texts.specs.Keys.{IsOfTable}

-- where each element has one property, each has what follows from it
mapped : {X : Type 0} (P Q : X → Type 0) → ((x : X) → P x → Q x) → (xs : List X) → All P xs → AllByRecursion Q xs
mapped P Q follows xs each = recursion_from_All Q xs (λ k d within. follows (get_or xs k d) (each k d within))

word_of_ram : (ram addr : ℕ) → keys.IsWordOfRam ram addr → machine.IsWordOfRam ram addr
word_of_ram ram addr word = record { aligned = word.0; in_ram = word.1 }

-- a flip that a line of a script may spell is of a bit that the machine has
of_machine : (config : Config) (flip : Flip) → texts.IsOfMachine config flip → machine.IsOfMachine config flip
of_machine config (Mem turn addr bit) fits = (word_of_ram config.ram addr fits.1, fits.2)
of_machine config (Reg core step cell bit) fits = (fits.1, fits.2)
of_machine config (Tag core step fetch way set byte bit) fits =
    (record { way_fits = fits.1.0; set_fits = fits.1.1 }, (fits.1.2, fits.1.3))
of_machine config (Line core step fetch way set byte bit) fits =
    (record { way_fits = fits.1.0; set_fits = fits.1.1 }, (fits.1.2, fits.1.3))

pub playable : (setup : Setup) → IsOfTable setup.config → IsLoadable setup.config.ram setup.image → length setup.flips ≤ most_flips
    → All (texts.IsOfMachine setup.config) setup.flips → IsPlayable setup
playable setup table image few flips = record {
  limits = record {
    some_core = table.cores.0;
    few_cores = table.cores.1;
    few_steps = table.all_steps;
    few_scrub_turns = table.scrub_turns;
    few_flips = few;
    few_words = table.few_watched;
  };
  ram = table.ram;
  most_ram = table.most_ram;
  least_depth = table.buffer.0;
  most_depth = table.buffer.1;
  fetch_cache = table.fetch_cache;
  load_cache = table.load_cache;
  scrub = record {
    first = table.scrub_lines.0;
    lines = table.scrub_lines.1;
    some_line = table.scrub_lines.2;
    in_ram = table.scrub_in_ram;
    ram = table.most_ram;
    turns = table.scrub_turns;
  };
  image = image;
  flips = mapped (texts.IsOfMachine setup.config) (machine.IsOfMachine setup.config) (of_machine setup.config) setup.flips flips;
  watch = mapped (keys.IsWordOfRam setup.config.ram) (machine.IsWordOfRam setup.config.ram) (word_of_ram setup.config.ram) setup.config.watch table.watched;
}

-- a machine that can be played is one of which a report can be audited
few_steps_each : (cores steps : ℕ) → 1 ≤ cores → cores * steps ≤ 4000000 → steps ≤ 4000000
few_steps_each cores steps some few = omega (arith, mul-le-mul_right steps some, few)

pub can_audit : (setup : Setup) → IsPlayable setup → CanAudit setup
can_audit setup able = record {
  cores = able.limits.few_cores;
  ram = able.most_ram;
  steps = few_steps_each setup.config.cores setup.config.steps able.limits.some_core able.limits.few_steps;
  image = able.image;
  watch = All-from_recursion in_ram setup.config.watch
      (mapped words in_ram (λ addr word. word.in_ram) setup.config.watch (All-from_recursion words setup.config.watch able.watch));
}
  where
    words : ℕ → Type 0
    words = machine.IsWordOfRam setup.config.ram

    in_ram : ℕ → Type 0
    in_ram addr = IsTrue (is_in_ram setup.config.ram addr 4)
