use Rattle.std.proofs.Common.{◌∙◌, ap}
use Rattle.std.specs.List.{list_all}
use Rattle.leon_core.proofs.OutputBytes.{all_fit}
use Rattle.lf_model.specs.Promise.RegularTransfer.{fits_byte}
use Rattle.leon_core.proofs.finish.output.Goals as goal

pub returns-clause-fit : goal.returns-clause-fit
returns-clause-fit c = ap (list_all fits_byte) c.from_vec.ensures.items ∙ all_fit _ c.are_bytes.ensures
