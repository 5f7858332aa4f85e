-- The words in the lines of faults are short.
use Rattle.std.proofs.Common.{ℕ, ◌≤◌, [], length, Option, Some, None, lit≤}
use Rattle.std.specs.Option.{option_map_or}
use Rattle.elf_image.specs.Names.{name_of, refusal_of, refusal_name}
use Rattle.elf_image.specs.declared.refusal.Refusal.{Refusal}
use Rattle.elf_image.specs.declared.refusal.Refusal.TheVariants as refusals
use Rattle.run_texts.specs.Faults.{word_of}
use Rattle.run_texts.specs.Keys.{row}
use Rattle.run_texts.specs.declared.error.TextWhy.{TextWhy}
use Rattle.run_texts.specs.declared.keys.Key.{Key}
use Rattle.run_texts.specs.declared.error.TextWhy.TheVariants as whys
use Rattle.run_texts.specs.declared.keys.Key.TheVariants as keys

pub why_short : (why : TextWhy) → length (word_of why) ≤ 20
why_short whys.Word = lit≤ tt
why_short whys.Many = lit≤ tt
why_short whys.Count = lit≤ tt
why_short whys.Number = lit≤ tt
why_short whys.Range = lit≤ tt

pub key_short : (key : Key) → length (row key).path ≤ 20
unfolding row
key_short keys.Cores = lit≤ tt
key_short keys.Ram = lit≤ tt
key_short keys.Steps = lit≤ tt
key_short keys.Window = lit≤ tt
key_short keys.Buffer = lit≤ tt
key_short keys.Watch = lit≤ tt
key_short keys.FetchWays = lit≤ tt
key_short keys.FetchSets = lit≤ tt
key_short keys.LoadWays = lit≤ tt
key_short keys.LoadSets = lit≤ tt
key_short keys.ScrubFirst = lit≤ tt
key_short keys.ScrubLength = lit≤ tt
key_short keys.ScrubTurns = lit≤ tt

name_short : (refusal : Refusal) → length (name_of refusal) ≤ 20
name_short refusals.Archive = lit≤ tt
name_short refusals.Short = lit≤ tt
name_short refusals.Magic = lit≤ tt
name_short refusals.Class = lit≤ tt
name_short refusals.Order = lit≤ tt
name_short refusals.Version = lit≤ tt
name_short refusals.FileType = lit≤ tt
name_short refusals.Machine = lit≤ tt
name_short refusals.Table = lit≤ tt
name_short refusals.Dynamic = lit≤ tt
name_short refusals.Compressed = lit≤ tt
name_short refusals.Segment = lit≤ tt
name_short refusals.WritableCode = lit≤ tt
name_short refusals.Entry = lit≤ tt

named_short : (refusal : Option Refusal) → length (option_map_or name_of refusal []) ≤ 20
named_short None = lit≤ tt
named_short (Some refusal) = name_short refusal

pub refusal_short : (n : ℕ) → length (refusal_name n) ≤ 20
refusal_short n = named_short (refusal_of n)
