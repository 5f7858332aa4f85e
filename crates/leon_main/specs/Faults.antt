-- Why a call has no result: the exit status and the line that tell it.
use Rattle.std.specs.Prelude.{ℕ, List, ◌++◌, codes}
use Rattle.elf_image.specs.Names.{refusal_name}
use Rattle.elf_image.specs.declared.error.ImageErr.{ImageErr}
use Rattle.elf_image.specs.declared.error.ImageErr.TheVariants as image
use Rattle.lf_io.specs.declared.read.ReadErr.{ReadErr}
use Rattle.lf_io.specs.declared.read.ReadErr.TheVariants as reading
use Rattle.lf_model.specs.Texts.{number, space, line_feed}
use Rattle.report_reader.specs.declared.error.ReportErr.{ReportErr}
use Rattle.report_reader.specs.declared.error.ReportErr.TheVariants as reports
use Rattle.run_texts.specs.Faults.{word_of}
use Rattle.run_texts.specs.Keys.{row}
use Rattle.run_texts.specs.declared.config_error.ConfigErr.{ConfigErr}
use Rattle.run_texts.specs.declared.config_error.ConfigErr.TheVariants as configuration
use Rattle.run_texts.specs.declared.error.TextErr.{TextErr}
use Rattle.run_texts.specs.declared.error.TextErr.TheVariants as text
use Rattle.leon_main.specs.Files.{file_word, limit_of}
use Rattle.leon_main.specs.declared.fault.Fault.{Fault}
use Rattle.leon_main.specs.declared.fault.Fault.TheVariants.{Usage, Unread, TooLong, NotToml, UnknownKey, WrongKind, OutOfRange, BadImage, BadScript, BadSchedule, BadReport, Memory}
use Rattle.leon_main.specs.declared.run_file.RunFile.{RunFile}

abbrev pub status_of : Fault → ℕ
status_of Usage = 2
status_of (Unread file) = 3
status_of (TooLong file) = 12
status_of NotToml = 6
status_of UnknownKey = 6
status_of (WrongKind key) = 6
status_of (OutOfRange key) = 6
status_of (BadImage number_ offset) = 4
status_of (BadScript line why) = 5
status_of (BadSchedule line why) = 5
status_of (BadReport line) = 9
status_of Memory = 7

unfoldable pub line_of : Fault → List ℕ
line_of Usage = codes "error 2 usage\n"
line_of (Unread file) = codes "error 3 " ++ file_word file ++ codes "\n"
line_of (TooLong file) = codes "error 12 " ++ file_word file ++ codes " " ++ number line_feed (limit_of file)
line_of NotToml = codes "error 6 text -\n"
line_of UnknownKey = codes "error 6 key -\n"
line_of (WrongKind key) = codes "error 6 kind " ++ (row key).path ++ codes "\n"
line_of (OutOfRange key) = codes "error 6 range " ++ (row key).path ++ codes "\n"
line_of (BadImage number_ offset) = codes "error 4 " ++ refusal_name number_ ++ codes " " ++ number line_feed offset
line_of (BadScript line why) = codes "error 5 script " ++ number space line ++ word_of why ++ codes "\n"
line_of (BadSchedule line why) = codes "error 5 schedule " ++ number space line ++ word_of why ++ codes "\n"
line_of (BadReport line) = codes "error 9 " ++ number line_feed line
line_of Memory = codes "error 7 memory\n"

-- the faults that the errors of the readers are: in reading a file's bytes, and in what they spell
abbrev pub read_fault : RunFile → ReadErr → Fault
read_fault file reading.Fault = Unread file
read_fault file (reading.TooLong least) = TooLong file
read_fault file reading.Memory = Memory

abbrev pub configuration_fault : ConfigErr → Fault
configuration_fault configuration.Text = NotToml
configuration_fault configuration.Key = UnknownKey
configuration_fault (configuration.Kind key) = WrongKind key
configuration_fault (configuration.Range key) = OutOfRange key
configuration_fault configuration.Memory = Memory

abbrev pub image_fault : ImageErr → Fault
image_fault (image.Refused number_ offset) = BadImage number_ offset
image_fault image.Memory = Memory

abbrev pub script_fault : TextErr → Fault
script_fault (text.At line why) = BadScript line why
script_fault text.Memory = Memory

abbrev pub schedule_fault : TextErr → Fault
schedule_fault (text.At line why) = BadSchedule line why
schedule_fault text.Memory = Memory

abbrev pub report_fault : ReportErr → Fault
report_fault (reports.At line) = BadReport line
report_fault reports.Memory = Memory
