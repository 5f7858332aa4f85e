use Rattle.std.proofs.Common.{◌^◌, ap, ◌∙◌}
use Rattle.std.proofs.lemmas.Bool.{ltb-true}
use Rattle.edac_code.specs.Code.{data_of}
use Rattle.edac_code.specs.declared.answer.Read39.TheVariants.{Clean}
use Rattle.edac_code.proofs.Syndromes.{data_of-code}
use Rattle.ft_cells.proofs.word39.Word39Protect.unstruck.Goals as goal

pub returns : goal.returns
returns c = λ word is same. ap Clean (c.word.ensures ∙ ap data_of same ∙ data_of-code word (ltb-true word (2 ^ 32) is))
