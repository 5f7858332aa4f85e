-- The numbers and names of the refusals.
use Rattle.std.specs.Prelude.{ℕ, ◌==◌, [], ◌∷◌, List, codes, find, Option}
use Rattle.std.specs.Option.{option_map_or}
use Rattle.elf_image.specs.declared.refusal.Refusal.{Refusal}
use Rattle.elf_image.specs.declared.refusal.Refusal.TheVariants.{Archive, Short, Magic, Class, Order, Version, FileType, Machine, Table, Dynamic, Compressed, Segment, WritableCode, Entry}

abbrev pub number_of : Refusal → ℕ
number_of Archive = 1
number_of Short = 2
number_of Magic = 3
number_of Class = 4
number_of Order = 5
number_of Version = 6
number_of FileType = 7
number_of Machine = 8
number_of Table = 9
number_of Dynamic = 10
number_of Compressed = 11
number_of Segment = 12
number_of WritableCode = 13
number_of Entry = 14

abbrev pub name_of : Refusal → List ℕ
name_of Archive = codes "Archive"
name_of Short = codes "Short"
name_of Magic = codes "Magic"
name_of Class = codes "Class"
name_of Order = codes "Order"
name_of Version = codes "Version"
name_of FileType = codes "Type"
name_of Machine = codes "Machine"
name_of Table = codes "Table"
name_of Dynamic = codes "Dynamic"
name_of Compressed = codes "Compressed"
name_of Segment = codes "Segment"
name_of WritableCode = codes "WritableCode"
name_of Entry = codes "Entry"

-- the refusal of a number
abbrev pub refusal_of : ℕ → Option Refusal
refusal_of number = find (λ refusal. number_of refusal == number) (Archive ∷ Short ∷ Magic ∷ Class ∷ Order ∷ Version ∷ FileType
    ∷ Machine ∷ Table ∷ Dynamic ∷ Compressed ∷ Segment ∷ WritableCode ∷ Entry ∷ [])

-- the name of the refusal of a number; no text where there is none
abbrev pub refusal_name : ℕ → List ℕ
refusal_name number = option_map_or name_of (refusal_of number) []
