-- The elements of an array.
use Rattle.std.proofs.Common.{sym, ap, ◌∙◌, map}
use Rattle.toml.specs.View.{view}
use Rattle.run_texts.proofs.DocumentLemmas.{values_of-view, elements-array}
use Rattle.run_texts.proofs.values.elements.Goals as goal

pub returns-in-Some : goal.returns-in-Some
returns-in-Some c =
    ap (map view) c.as_slice.ensures.value ∙ sym (values_of-view _) ∙ sym (elements-array _ _ c.in-Some.ensures)
