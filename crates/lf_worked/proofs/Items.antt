-- The items of an account, as numbers, and how two accounts are shown to differ in one.
use Rattle.std.proofs.Common.{ℕ, ◌≡◌, ◌≤◌, ◌<◌, ◌+◌, Bool, false, List, slice_get, Option, sym, ap, ◌∙◌, arith, nat_le, nat_lt}
use Rattle.std.specs.Prelude.{◌==◌, slice_index, length, option_map}
use Rattle.std.specs.Int.{from_bool}
use Rattle.std.specs.Option.{option_map_or}
use Rattle.std.proofs.lemmas.Bool.{eqb-false, leb-false, ltb-false}
use Rattle.lf_model.specs.Course.Outcome.{Need}
use Rattle.lf_model.specs.Course.Outcome.Need.{NoTurn, Turn, RegisterStop}
use Rattle.lf_model.specs.Course.Progress.{Completion, ErrorTrap}
use Rattle.lf_model.specs.Ledger.Account.{TurnAccount, FinalAccount, Account}
use Rattle.lf_model.specs.Ledger.CoreAccount.{CoreAccount}
use Rattle.lf_model.specs.Ledger.OrderAccount.{OrderAccount}
use Rattle.lf_model.specs.Promise.Turns.{TurnMade}
use Rattle.lf_model.specs.Names.{kind_place, why_place, fate_place}
use Rattle.lf_model.specs.declared.bus.Entry.{Entry}
use Rattle.lf_model.specs.declared.bus.Transfer.{Transfer}
use Rattle.lf_model.specs.declared.trace.Fate.{Fate}

-- things with different numbers
pub differ : {A : Type 0} {a b : A} (f : A → ℕ) (x y : ℕ) → f a ≡ x → f b ≡ y → (x == y) ≡ false → a ≡ b → ⊥
differ f x y ea eb other e = eqb-false x y other (sym ea ∙ ap f e ∙ eb)

pub not_at_most : (a b : ℕ) → nat_le a b ≡ false → a ≤ b → ⊥
not_at_most a b over h = omega (arith, leb-false a b over, h)

pub not_below : (a b : ℕ) → nat_lt a b ≡ false → a < b → ⊥
not_below a b over h = omega (arith, ltb-false a b over, h)

-- a number that may be absent, as a number
abbrev pub if_some : Option ℕ → ℕ
if_some n = option_map_or (λ n. n + 1) n 0

-- ---- of a core

abbrev of_core : (CoreAccount → ℕ) → ℕ → Account → ℕ
of_core item c a = option_map_or item (slice_get a.cores c) 0

abbrev pub owed_by : ℕ → Account → ℕ
owed_by c a = of_core (λ k. k.owed) c a

abbrev pub error_count : ℕ → Account → ℕ
error_count c a = of_core (λ k. length k.errors) c a

abbrev of_error : (ErrorTrap → ℕ) → ℕ → Account → ℕ
of_error item c a = of_core (λ k. option_map_or item (slice_get k.errors 0) 0) c a

abbrev pub error_type : ℕ → Account → ℕ
error_type c a = of_error (λ e. e.trap_type) c a

abbrev pub error_place : ℕ → Account → ℕ
error_place c a = of_error (λ e. e.place) c a

abbrev pub error_syndrome : ℕ → Account → ℕ
error_syndrome c a = of_error (λ e. e.syndrome) c a

abbrev pub error_steps : ℕ → Account → ℕ
error_steps c a = of_error (λ e. e.steps) c a

abbrev pub lost_count : ℕ → Account → ℕ
lost_count c a = of_core (λ k. length k.lost) c a

abbrev pub fetch_tag_errors : ℕ → Account → ℕ
fetch_tag_errors c a = of_core (λ k. k.parity.fetch_tag) c a

abbrev pub fetch_byte_errors : ℕ → Account → ℕ
fetch_byte_errors c a = of_core (λ k. k.parity.fetch_byte) c a

abbrev pub data_tag_errors : ℕ → Account → ℕ
data_tag_errors c a = of_core (λ k. k.parity.data_tag) c a

abbrev pub data_byte_errors : ℕ → Account → ℕ
data_byte_errors c a = of_core (λ k. k.parity.data_byte) c a

-- 1 where register n has no value
abbrev pub register_blank : ℕ → ℕ → Account → ℕ
register_blank n c a = of_core (λ k. option_map_or from_bool (slice_get k.blank n) 0) c a

-- ---- of a place of the order

abbrev of_place : (OrderAccount → ℕ) → ℕ → Account → ℕ
of_place item i a = option_map_or item (slice_get a.order i) 0

abbrev of_completion : (Completion → ℕ) → ℕ → Account → ℕ
of_completion item i a = of_place (λ o. option_map_or item o.retired 0) i a

-- the core whose entry it is, and its number, each with one added
abbrev pub entry_core : ℕ → Account → ℕ
entry_core i a = of_place (λ o. if_some (option_map (λ e. e.core) o.entry)) i a

abbrev pub entry_number : ℕ → Account → ℕ
entry_number i a = of_place (λ o. if_some (option_map (λ e. e.number) o.entry)) i a

abbrev pub retired_in : ℕ → Account → ℕ
retired_in i a = of_completion (λ c. c.step) i a

-- with one added
abbrev pub way_hit : ℕ → Account → ℕ
way_hit i a = of_completion (λ c. if_some c.way) i a

abbrev pub entries_seen : ℕ → Account → ℕ
entries_seen i a = of_completion (λ c. c.seen) i a

abbrev pub is_sorted : ℕ → Account → ℕ
is_sorted i a = of_place (λ o. from_bool o.sorted) i a

-- ---- of a transfer

abbrev of_turn : (TurnAccount → ℕ) → ℕ → Account → ℕ
of_turn item i a = option_map_or item (slice_get a.transfers i) 0

-- the kind and the cause of what a step needed, by their places among kinds and causes, each with one added
abbrev kind_of : Need → ℕ
kind_of NoTurn = 0
kind_of (Turn kind why) = kind_place kind + 1
kind_of (RegisterStop cell) = 0

abbrev cause_of : Need → ℕ
cause_of NoTurn = 0
cause_of (Turn kind why) = why_place why + 1
cause_of (RegisterStop cell) = 0

abbrev pub kind_needed : ℕ → Account → ℕ
kind_needed i a = of_turn (λ t. kind_of t.need) i a

abbrev pub cause_needed : ℕ → Account → ℕ
cause_needed i a = of_turn (λ t. cause_of t.need) i a

abbrev pub turn_number : ℕ → Account → ℕ
turn_number i a = of_turn (λ t. t.transfer.turn) i a

abbrev pub master_of : ℕ → Account → ℕ
master_of i a = of_turn (λ t. t.transfer.master) i a

abbrev pub step_of : ℕ → Account → ℕ
step_of i a = of_turn (λ t. t.transfer.step) i a

abbrev pub kind_made : ℕ → Account → ℕ
kind_made i a = of_turn (λ t. kind_place t.transfer.kind) i a

abbrev pub address_of : ℕ → Account → ℕ
address_of i a = of_turn (λ t. t.transfer.addr) i a

abbrev pub way_filled : ℕ → Account → ℕ
way_filled i a = of_turn (λ t. t.transfer.way) i a

abbrev pub words_read : ℕ → Account → ℕ
words_read i a = of_turn (λ t. t.transfer.words) i a

abbrev pub syndromes : ℕ → Account → ℕ
syndromes i a = of_turn (λ t. t.transfer.syn) i a

-- ---- of a flip

-- the fate's place among fates, with one added
abbrev pub fate : ℕ → Account → ℕ
fate i a = option_map_or (λ f. fate_place f + 1) (slice_get a.fates i) 0

-- ---- at the end

abbrev pub ahb_address : Account → ℕ
ahb_address a = a.final.ahb.addr

abbrev pub ahb_status : Account → ℕ
ahb_status a = a.final.ahb.status

abbrev pub word_blank : ℕ → Account → ℕ
word_blank i a = option_map_or from_bool (slice_get a.final.watch i) 0

abbrev pub scrub_turns : Account → ℕ
scrub_turns a = a.final.scrub_turns

-- ---- of a list of transfers

abbrev pub first_turn : List Transfer → ℕ
first_turn transfers = option_map_or (λ t. t.turn) (slice_get transfers 0) 0

-- ---- of lists of numbers, and of operations as a program makes them

abbrev pub first_number : List ℕ → ℕ
first_number ns = slice_index ns 0

abbrev pub first_address : List Entry → ℕ
first_address ops = option_map_or (λ e. e.addr) (slice_get ops 0) 0

abbrev pub put_of : ℕ → List Entry → ℕ
put_of k ops = option_map_or (λ e. e.put) (slice_get ops k) 0

-- ---- of lists of turns, error traps and answers

abbrev pub master_at : ℕ → List TurnMade → ℕ
master_at i turns = option_map_or (λ t. t.master) (slice_get turns i) 0

-- 1 where the schedule asked for the drain
abbrev pub scheduled_at : ℕ → List TurnMade → ℕ
scheduled_at i turns = option_map_or (λ t. from_bool t.scheduled) (slice_get turns i) 0

abbrev pub first_syndrome : List ErrorTrap → ℕ
first_syndrome errors = option_map_or (λ e. e.syndrome) (slice_get errors 0) 0

abbrev pub first_place : List ErrorTrap → ℕ
first_place errors = option_map_or (λ e. e.place) (slice_get errors 0) 0

abbrev pub yes_at : ℕ → List Bool → ℕ
yes_at i answers = option_map_or from_bool (slice_get answers i) 0

-- ---- of the core, the place, the transfer or the flip at one place of an account

abbrev pub owed_there : Option CoreAccount → ℕ
owed_there k = option_map_or (λ k. k.owed) k 0

abbrev pub lost_there : Option CoreAccount → ℕ
lost_there k = option_map_or (λ k. length k.lost) k 0

abbrev pub way_there : Option OrderAccount → ℕ
way_there o = option_map_or (λ o. option_map_or (λ c. if_some c.way) o.retired 0) o 0

-- the kind of the turn that was needed, with one added
abbrev pub need_there : Option TurnAccount → ℕ
need_there t = option_map_or (λ t. kind_of t.need) t 0

abbrev pub fate_there : Option Fate → ℕ
fate_there f = option_map_or (λ f. fate_place f + 1) f 0

abbrev pub status_there : FinalAccount → ℕ
status_there final = final.ahb.status
