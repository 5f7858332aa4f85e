-- The line that tells the verdict of an audit, and its exit status.
use Rattle.std.specs.Prelude.{ℕ, List, ◌++◌, codes}
use Rattle.lf_model.specs.Texts.{number, line_feed}
use Rattle.lf_model.specs.declared.place.Place.{Place}
use Rattle.lf_model.specs.declared.place.Place.TheVariants.{Core, Order, Transfer, Flip, Final}
use Rattle.tso_audit.specs.declared.verdict.Rule.{Rule}
use Rattle.tso_audit.specs.declared.verdict.Rule.TheVariants as rules
use Rattle.tso_audit.specs.declared.verdict.Verdict.{Verdict}
use Rattle.tso_audit.specs.declared.verdict.Verdict.TheVariants.{Yes, No}

abbrev pub rule_word : Rule → List ℕ
rule_word rules.Once = codes "Once"
rule_word rules.LoadOp = codes "LoadOp"
rule_word rules.StoreStore = codes "StoreStore"
rule_word rules.Thread = codes "Thread"
rule_word rules.Result = codes "Result"
rule_word rules.Value = codes "Value"
rule_word rules.Ledger = codes "Ledger"

-- the kind of a place
abbrev pub kind_word : Place → List ℕ
kind_word (Core c) = codes "core"
kind_word (Order i) = codes "order"
kind_word (Transfer turn) = codes "transfer"
kind_word (Flip i) = codes "flip"
kind_word Final = codes "final"

-- the number of a place among those of its kind; the whole trace has the number 0
abbrev pub number_of : Place → ℕ
number_of (Core c) = c
number_of (Order i) = i
number_of (Transfer turn) = turn
number_of (Flip i) = i
number_of Final = 0

unfoldable pub verdict_line : Verdict → List ℕ
verdict_line Yes = codes "audit yes\n"
verdict_line (No rule place) =
    codes "audit no " ++ rule_word rule ++ codes " " ++ kind_word place ++ codes " " ++ number line_feed (number_of place)

abbrev pub verdict_status : Verdict → ℕ
verdict_status Yes = 0
verdict_status (No rule place) = 1
