-- One word that opens the definitions of the machine, so that they compute on closed reports.
use Rattle.std.specs.Prelude.{⊤}
use Rattle.std.specs.Fmt.{digits}
use Rattle.lf_model.specs.Bus.Replay.{made_turn, replay_turn, replay}
use Rattle.lf_model.specs.Caches.Change.{updated, snooped, victim, filled, flushed}
use Rattle.lf_model.specs.Caches.Look.{look}
use Rattle.lf_model.specs.Calculation.{result_of, icc_after}
use Rattle.lf_model.specs.Conditions.{condition_holds}
use Rattle.lf_model.specs.Course.Attempt.{attempt}
use Rattle.lf_model.specs.Course.Course.{observe}
use Rattle.lf_model.specs.Course.LocalStep.{local_step}
use Rattle.lf_model.specs.Course.Turned.{own_turn}
use Rattle.lf_model.specs.Effects.{effect}
use Rattle.lf_model.specs.ProgramOrder.{program_order}
use Rattle.lf_model.specs.Families.{y_after, overflows_tag, divides_by_zero}
use Rattle.lf_model.specs.Instructions.{branch, arithmetic, memory, instruction_of}
use Rattle.lf_model.specs.Promise.Follows.{turns_of}
use Rattle.lf_model.specs.Report.{end_line, out_line, word_field, words_line, register_lines, control_line, parity_line, core_lines, ahb_line, op_line, fate_line, watch_line, cores_part, transfers_part, order_part, flips_part, watch_part, report}
use Rattle.lf_model.specs.Run.{effect_at_pc, run}
use Rattle.lf_model.specs.Start.{number_at}
use Rattle.lf_model.specs.State.{reset}
use Rattle.lf_model.specs.Texts.{hex}
use Rattle.lf_model.specs.TransferLines.{transfer_line, transfer_lines}
use Rattle.lf_num.specs.Arithmetic.{stepped_times}
use Rattle.lf_num.specs.Bits.{sum_below}
use Rattle.lf_num.specs.Columns.{columns, column}
use Rattle.lf_num.specs.Toggles.{places}

unfoldable pub machine : ⊤
unfolding digits made_turn replay_turn replay updated snooped victim filled flushed look result_of icc_after condition_holds attempt observe local_step own_turn effect program_order y_after overflows_tag divides_by_zero branch arithmetic memory instruction_of turns_of end_line out_line word_field words_line register_lines control_line parity_line core_lines ahb_line op_line fate_line watch_line cores_part transfers_part order_part flips_part watch_part report effect_at_pc run number_at reset hex transfer_line transfer_lines stepped_times sum_below columns column places
machine = tt
