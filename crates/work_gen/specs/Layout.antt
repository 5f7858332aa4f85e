-- The image of a generated program: its code from the first address of RAM on, and its data from the next multiple of 4096 on.
use Rattle.std.specs.Prelude.{ℕ, ◌≡◌, ◌<◌, ◌+◌, ◌*◌, ◌/◌, true, false, List, [], ◌∷◌, length, slice_get, Some}
use Rattle.lf_model.specs.Start.{ram_first, word_at}
use Rattle.lf_model.specs.Instructions.{instruction_of}
use Rattle.lf_model.specs.declared.instruction.Instr.{Instr}
use Rattle.lf_model.specs.declared.image.Range.{Range}
use Rattle.lf_model.specs.declared.image.Segment.{Segment}
use Rattle.lf_model.specs.declared.image.Image.{Image}
use Rattle.work_gen.specs.Program.{program}
use Rattle.work_gen.specs.Encoding.{bytes_of}

-- the bytes of the code: a word for each draw, and eight more of start-up code and end
abbrev pub code_length : ℕ → ℕ
code_length size = 4 * (size + 8)

-- the address of the data: the first multiple of 4096 that is not below the end of the code
abbrev pub data_address : ℕ → ℕ
data_address size = ram_first + (code_length size + 4095) / 4096 * 4096

-- the bytes of the data, all of them 0 at the start
abbrev pub data_length : ℕ
data_length = 1024

-- the first address behind the data
abbrev pub data_end : ℕ → ℕ
data_end size = data_address size + data_length

-- the instructions of the image
abbrev pub instructions : ℕ → ℕ → List Instr
instructions start size = program (data_address size) start size

-- the segments: code that is read and executed, data that are read and written
abbrev pub segments : List ℕ → ℕ → List Segment
segments code size =
    record { addr = ram_first; bytes = code; size = code_length size; write = false; exec = true }
    ∷ record { addr = data_address size; bytes = []; size = data_length; write = true; exec = false } ∷ []

-- the text: the code
abbrev pub text : ℕ → List Range
text size = record { first = ram_first; length = code_length size } ∷ []

unfoldable pub generated_image : ℕ → ℕ → Image
generated_image start size = record {
  entry = ram_first;
  segments = segments (bytes_of (instructions start size)) size;
  text = text size;
}

-- the words from the entry on are these instructions
abbrev pub HoldsProgram : List Instr → Image → Type 0
HoldsProgram list image =
    (i : ℕ) → i < length list → slice_get list i ≡ Some (instruction_of (word_at image (image.entry + 4 * i)))
