-- The words of a call: the program's name, a command, and what the command is given.
use Rattle.std.specs.Prelude.{ℕ, ◌≡◌, ◌≤◌, ◌^◌, ⊤, Bool, ◌&&◌, ◌||◌, nat_eq, nat_le, nat_lt, List, [], ◌∷◌, length, codes, Option, Some, None, option_map, if◌then◌else◌}
use Rattle.std.specs.List.{starts_with}
use Rattle.std.specs.Cmp.Lexicographic.{pointwise}
use Rattle.std.specs.Option.{option_and_then}
use Rattle.run_texts.specs.Text.{numeral, hexadecimal}
use Rattle.leon_main.specs.declared.words.Command.{Command}
use Rattle.leon_main.specs.declared.words.Command.TheVariants as code
use Rattle.leon_main.specs.declared.words.Names.{Names}

-- what is done with the files of a run: the run is played by a schedule, or the report of it is audited
pub data Task : Type 0 where
  Play : Task
  Audit : Task

-- the names of the files of a run; the last is its schedule or its report
pub record FileNames : Type 0 where
  pub image : List ℕ
  pub configuration : List ℕ
  pub script : List ℕ
  pub last : List ℕ

-- what a call asks for: a run of these files, the image of a generated program, or the check bits of a word
pub data Request : Type 0 where
  OfRun : (task : Task) (names : FileNames) → Request
  Generate : (start size : ℕ) → Request
  Codes : (word : ℕ) → Request

-- the word is this text
abbrev pub is_text : List ℕ → List ℕ → Bool
is_text text word = pointwise nat_eq word text

-- the word begins with a dash
abbrev pub is_dashed : List ℕ → Bool
is_dashed word = starts_with nat_eq word (codes "-")

-- names of which none begins with a dash
abbrev pub undashed : FileNames → Option FileNames
undashed names =
    if is_dashed names.image || is_dashed names.configuration || is_dashed names.script || is_dashed names.last then None
    else Some names

-- a number: 1 to 20 decimal digits, which may begin with zeros, of a number below 2 ^ 64
abbrev pub numeral_word : List ℕ → Option ℕ
numeral_word word = if nat_le 1 (length word) && nat_le (length word) 20 then numeral 10 word else None

abbrev pub below : ℕ → ℕ → Option ℕ
below most n = if nat_lt n most then Some n else None

unfoldable pub number : List ℕ → Option ℕ
number word = option_and_then (below (2 ^ 64)) (numeral_word word)

-- the size of a program: a number from 16 to 100000
abbrev pub if_size : ℕ → Option ℕ
if_size n = if nat_le 16 n && nat_le n 100000 then Some n else None

unfoldable pub size : List ℕ → Option ℕ
size word = option_and_then if_size (number word)

-- what a command asks for with these words, None where they are not taken: `play` or `audit` with the names of four files, `gen`
-- with a start and a size, and `codes` with a word of 8 hexadecimal digits
unfoldable pub run_request : List ℕ → FileNames → Option Request
run_request command names =
    if is_text (codes "play") command then option_map (OfRun Play) (undashed names)
    else (if is_text (codes "audit") command then option_map (OfRun Audit) (undashed names) else None)

abbrev pub generate_request : (command start_word size_word : List ℕ) → Option Request
generate_request command start_word size_word =
    if is_text (codes "gen") command
    then option_and_then (λ start. option_map (Generate start) (size size_word)) (number start_word)
    else None

abbrev pub codes_request : List ℕ → List ℕ → Option Request
codes_request command word = if is_text (codes "codes") command then option_map Codes (hexadecimal word) else None

-- what the words of a call ask for, None where they are not taken
unfoldable pub request_of : List (List ℕ) → Option Request
request_of (program ∷ command ∷ image ∷ configuration ∷ script ∷ last ∷ []) =
    run_request command (record { image = image; configuration = configuration; script = script; last = last })
request_of (program ∷ command ∷ start_word ∷ size_word ∷ []) = generate_request command start_word size_word
request_of (program ∷ command ∷ word ∷ []) = codes_request command word
request_of _ = None

-- the words ask for this of the files of a run, for the image of a program, or for the check bits of this word
abbrev pub AsksTo : Task → List (List ℕ) → FileNames → Type 0
AsksTo task words names = request_of words ≡ Some (OfRun task names)

abbrev pub AsksToGenerate : List (List ℕ) → ℕ → ℕ → Type 0
AsksToGenerate words start size = request_of words ≡ Some (Generate start size)

abbrev pub AsksForCodes : List (List ℕ) → ℕ → Type 0
AsksForCodes words word = request_of words ≡ Some (Codes word)

-- the names as the program keeps them, and what it makes of the words
abbrev pub told : Names → FileNames
told names = record {
  image = names.image.now;
  configuration = names.configuration.now;
  script = names.script.now;
  last = names.last.now;
}

abbrev pub asked : Command → Request
asked (code.Play names) = OfRun Play (told names)
asked (code.Audit names) = OfRun Audit (told names)
asked (code.Generate start size) = Generate start size
asked (code.Codes word) = Codes word

-- the size of a program is in its range
abbrev pub SizeFits : Command → Type 0
SizeFits (code.Play names) = ⊤
SizeFits (code.Audit names) = ⊤
SizeFits (code.Generate start size) = (16 ≤ size) × (size ≤ 100000)
SizeFits (code.Codes word) = ⊤
