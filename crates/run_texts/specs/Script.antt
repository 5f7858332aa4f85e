-- A script of bit flips: which texts are one, which flips they spell, and which line of another text is told.
use Rattle.std.specs.Prelude.{ℕ, ◌<◌, List}
use Rattle.lf_model.specs.declared.config.Config.{Config}
use Rattle.lf_model.specs.declared.flip.Flip.{Flip}
use Rattle.run_texts.specs.Grammar.{Grammar, IsReadAs}
use Rattle.run_texts.specs.FlipLine.{most_flips, fault_of, flip_of, IsOfMachine}

-- what is said of the lines of a script
abbrev pub flip_lines : Config → Grammar Flip
flip_lines config = record { fault = fault_of config; spelled = flip_of config }

-- the text is the script of these flips: no line is faulty, and they are the flips that the lines spell
abbrev pub IsScript : Config → List ℕ → List Flip → Type 0
IsScript config text flips = IsReadAs (flip_lines config) text flips

-- a flip behind so many others is one of those that a script may have, and of a bit of the machine
abbrev pub IsFlipBehind : Config → ℕ → Flip → Type 0
IsFlipBehind config earlier flip = (earlier < most_flips) × IsOfMachine config flip
