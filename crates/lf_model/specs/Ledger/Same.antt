-- A test whether two accounts are the same, part by part.
use Rattle.std.specs.Prelude.{ℕ, ◌==◌, ◌&&◌, Bool, true, false, List, [], ◌∷◌, Option, Some, None, not}
use Rattle.lf_model.specs.Bus.Replay.{LogEntry}
use Rattle.lf_model.specs.Bus.Status.{AhbStatus}
use Rattle.lf_model.specs.Course.Outcome.{Need}
use Rattle.lf_model.specs.Course.Outcome.Need.{NoTurn, Turn, RegisterStop}
use Rattle.lf_model.specs.Course.Progress.{Completion, ErrorTrap}
use Rattle.lf_model.specs.Ledger.Account.{TurnAccount, FinalAccount, Account}
use Rattle.lf_model.specs.Ledger.CoreAccount.{CoreAccount}
use Rattle.lf_model.specs.Ledger.OrderAccount.{OrderAccount}
use Rattle.lf_model.specs.Names.{same_kind, same_why, same_fate}
use Rattle.lf_model.specs.declared.bus.Transfer.{Transfer}
use Rattle.lf_model.specs.declared.trace.Four.{Four}

abbrev pub same_bool : Bool → Bool → Bool
same_bool true b = b
same_bool false b = not b

abbrev pub same_number : ℕ → ℕ → Bool
same_number a b = a == b

-- options and lists, by a test for what is in them
abbrev pub same_option : {X : Type 0} → (X → X → Bool) → Option X → Option X → Bool
same_option same None None = true
same_option same None (Some y) = false
same_option same (Some x) None = false
same_option same (Some x) (Some y) = same x y

abbrev pub same_list : {X : Type 0} → (X → X → Bool) → List X → List X → Bool
same_list same [] [] = true
same_list same [] (y ∷ ys) = false
same_list same (x ∷ xs) [] = false
same_list same (x ∷ xs) (y ∷ ys) = same x y && same_list same xs ys

abbrev pub same_error : ErrorTrap → ErrorTrap → Bool
same_error a b = a.trap_type == b.trap_type && (a.place == b.place && (a.syndrome == b.syndrome && (a.steps == b.steps && same_option same_number a.turns b.turns)))

abbrev pub same_parity : Four → Four → Bool
same_parity a b = a.fetch_tag == b.fetch_tag && (a.fetch_byte == b.fetch_byte && (a.data_tag == b.data_tag && a.data_byte == b.data_byte))

abbrev pub same_core : CoreAccount → CoreAccount → Bool
same_core a b = a.owed == b.owed && (same_list same_error a.errors b.errors && (same_list same_number a.lost b.lost
    && (same_parity a.parity b.parity && same_list same_bool a.blank b.blank)))

abbrev pub same_entry : LogEntry → LogEntry → Bool
same_entry a b = a.core == b.core && a.number == b.number

abbrev pub same_completion : Completion → Completion → Bool
same_completion a b = a.step == b.step && (same_option same_number a.way b.way && a.seen == b.seen)

abbrev pub same_place : OrderAccount → OrderAccount → Bool
same_place a b = same_option same_entry a.entry b.entry && (same_option same_completion a.retired b.retired && same_bool a.sorted b.sorted)

abbrev pub same_transfer : Transfer → Transfer → Bool
same_transfer a b = a.syn == b.syn && (a.turn == b.turn && (a.master == b.master && (a.step == b.step && (a.addr == b.addr
    && (same_kind a.kind b.kind && (same_why a.why b.why && (a.way == b.way && (a.words == b.words && a.len == b.len))))))))

abbrev pub same_need : Need → Need → Bool
same_need NoTurn NoTurn = true
same_need NoTurn (Turn kind why) = false
same_need NoTurn (RegisterStop cell) = false
same_need (Turn kind why) NoTurn = false
same_need (Turn kind why) (Turn kind' why') = same_kind kind kind' && same_why why why'
same_need (Turn kind why) (RegisterStop cell) = false
same_need (RegisterStop cell) NoTurn = false
same_need (RegisterStop cell) (Turn kind why) = false
same_need (RegisterStop cell) (RegisterStop cell') = cell == cell'

abbrev pub same_turn : TurnAccount → TurnAccount → Bool
same_turn a b = same_transfer a.transfer b.transfer && same_need a.need b.need

abbrev pub same_status : AhbStatus → AhbStatus → Bool
same_status a b = a.addr == b.addr && a.status == b.status

abbrev pub same_final : FinalAccount → FinalAccount → Bool
same_final a b = same_status a.ahb b.ahb && (same_list same_bool a.watch b.watch && a.scrub_turns == b.scrub_turns)

-- two accounts are the same
abbrev pub same_account : Account → Account → Bool
same_account a b = same_list same_core a.cores b.cores && (same_list same_place a.order b.order && (same_list same_turn a.transfers b.transfers
    && (same_list same_fate a.fates b.fates && same_final a.final b.final)))
