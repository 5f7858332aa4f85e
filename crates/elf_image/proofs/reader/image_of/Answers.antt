use Rattle.std.proofs.Common.{◌≡◌, false, sym, ap, ◌∙◌, filter, length}
use Rattle.std.proofs.lemmas.List.Elements.{All-same}
use Rattle.elf_image.specs.declared.header.ProgramHeader.{ProgramHeader}
use Rattle.elf_image.specs.Headers.{is_load}
use Rattle.elf_image.specs.Refusals.{is_cut_off}
use Rattle.elf_image.specs.Tables.{HeaderIn}
use Rattle.elf_image.proofs.ReaderLemmas.{uncut, places_fit}
use Rattle.elf_image.proofs.reader.image_of.Goals as goal

pub header_fault-requires : goal.header_fault-requires
header_fault-requires c =
    let loads = c.deref-4.ensures.value ∙ c.in_ok-loads.ensures ∙ ap (filter is_load) (c.deref.ensures.value ∙ c.in_ok-programs.ensures) in
    All-same (λ (load : ProgramHeader). HeaderIn load.place) _ _ loads
    (places_fit c.args.file.now c.in_ok-header.header.programs c.requires c.in_ok-header.ensures.tables.programs)

pub segments_of-requires : goal.segments_of-requires
segments_of-requires c =
    All-same (λ load. is_cut_off (length c.args.file.now) load ≡ false) _ _ (c.deref-7.ensures.value ∙ sym c.deref-4.ensures.value)
    (uncut c.args.ram (length c.args.file.now) c.deref-2.result.now c.deref-3.result.now c.deref-4.result.now
    (sym c.header_fault.ensures ∙ c.in_default.is))
