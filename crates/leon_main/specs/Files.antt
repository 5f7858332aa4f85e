-- The files of a run: the word that names each in a line, and the most bytes that it may have.
use Rattle.std.specs.Prelude.{ℕ, ◌≡◌, ⊤, List, codes}
use Rattle.leon_main.specs.declared.run_file.RunFile.{RunFile}
use Rattle.leon_main.specs.declared.run_file.RunFile.TheVariants.{Configuration, Image, Script, Schedule, Report}
use Rattle.leon_main.specs.Words.{Task, Play, Audit, FileNames}

abbrev pub file_word : RunFile → List ℕ
file_word Configuration = codes "configuration"
file_word Image = codes "image"
file_word Script = codes "script"
file_word Schedule = codes "schedule"
file_word Report = codes "report"

abbrev pub limit_of : RunFile → ℕ
limit_of Configuration = 1048576
limit_of Image = 67108864
limit_of Script = 16777216
limit_of Schedule = 16777216
limit_of Report = 536870912

-- the name that the words of a call give a file
abbrev pub name_in : FileNames → RunFile → List ℕ
name_in names Configuration = names.configuration
name_in names Image = names.image
name_in names Script = names.script
name_in names Schedule = names.last
name_in names Report = names.last

-- the files that are read: configuration, image and script, and then a schedule to play by or a report to audit
abbrev pub IsFileOf : RunFile → Task → Type 0
IsFileOf Configuration task = ⊤
IsFileOf Image task = ⊤
IsFileOf Script task = ⊤
IsFileOf Schedule task = task ≡ Play
IsFileOf Report task = task ≡ Audit
