-- Two accounts that pass the test for being the same are the same.
use Rattle.std.proofs.Common.{◌≡◌, ℕ, Bool, true, false, ◌&&◌, List, [], ◌∷◌, Option, Some, None, refl, ap}
use Rattle.std.proofs.lemmas.Bool.{eqb-true}
use Rattle.lf_model.proofs.SameNames.{kinds_same, whys_same, fates_same}
use Rattle.lf_model.specs.Bus.Replay.{LogEntry}
use Rattle.lf_model.specs.Bus.Status.{AhbStatus}
use Rattle.lf_model.specs.Course.Outcome.{Need}
use Rattle.lf_model.specs.Course.Outcome.Need.{NoTurn, Turn, RegisterStop}
use Rattle.lf_model.specs.Course.Progress.{Completion, ErrorTrap}
use Rattle.lf_model.specs.Ledger.Account.{TurnAccount, FinalAccount, Account}
use Rattle.lf_model.specs.Ledger.CoreAccount.{CoreAccount}
use Rattle.lf_model.specs.Ledger.OrderAccount.{OrderAccount}
use Rattle.lf_model.specs.Ledger.Same.{same_bool, same_number, same_option, same_list, same_error, same_parity, same_core, same_entry, same_completion, same_place, same_transfer, same_need, same_turn, same_status, same_final, same_account}
use Rattle.lf_model.specs.Names.{same_fate}
use Rattle.lf_model.specs.declared.bus.Transfer.{Transfer}
use Rattle.lf_model.specs.declared.bus.TurnKind.{TurnKind}
use Rattle.lf_model.specs.declared.bus.Why.{Why}
use Rattle.lf_model.specs.declared.trace.Fate.{Fate}
use Rattle.lf_model.specs.declared.trace.Four.{Four}

both : (p q : Bool) → (p && q) ≡ true → (p ≡ true) × (q ≡ true)
both true q h = (refl, h)
both false q h = absurd cc

numbers : (a b : ℕ) → same_number a b ≡ true → a ≡ b
numbers a b h = eqb-true a b h

pub bools : (a b : Bool) → same_bool a b ≡ true → a ≡ b
bools true true h = refl
bools true false h = absurd cc
bools false true h = absurd cc
bools false false h = refl

pub options : {X : Type 0} (same : X → X → Bool) → ((a b : X) → same a b ≡ true → a ≡ b) → (a b : Option X) → same_option same a b ≡ true → a ≡ b
options same test None None h = refl
options same test None (Some y) h = absurd cc
options same test (Some x) None h = absurd cc
options same test (Some x) (Some y) h = ap Some (test x y h)

lists : {X : Type 0} (same : X → X → Bool) → ((a b : X) → same a b ≡ true → a ≡ b) → (a b : List X) → same_list same a b ≡ true → a ≡ b
lists same test [] [] h = refl
lists same test [] (y ∷ ys) h = absurd cc
lists same test (x ∷ xs) [] h = absurd cc
lists same test (x ∷ xs) (y ∷ ys) h = let p = both (same x y) (same_list same xs ys) h in rw (test x y p.0, lists same test xs ys p.1) refl

-- equal functions of equal things
on : {A B : Type 0} {f g : A → B} {a b : A} → f ≡ g → a ≡ b → f a ≡ g b
on e h = rw (e, h) refl

abbrev make_errors : ℕ → ℕ → ℕ → ℕ → Option ℕ → ErrorTrap
make_errors x0 x1 x2 x3 x4 = record { trap_type = x0; place = x1; syndrome = x2; steps = x3; turns = x4 }

errors : (a b : ErrorTrap) → same_error a b ≡ true → a ≡ b
errors a b h =
    let p0 = both _ _ h in
    let e0 = numbers a.trap_type b.trap_type p0.0 in
    let p1 = both _ _ p0.1 in
    let e1 = numbers a.place b.place p1.0 in
    let p2 = both _ _ p1.1 in
    let e2 = numbers a.syndrome b.syndrome p2.0 in
    let p3 = both _ _ p2.1 in
    let e3 = numbers a.steps b.steps p3.0 in
    let e4 = options same_number numbers a.turns b.turns p3.1 in
    on (on (on (on (ap (make_errors) e0) e1) e2) e3) e4

abbrev make_parities : ℕ → ℕ → ℕ → ℕ → Four
make_parities x0 x1 x2 x3 = record { fetch_tag = x0; fetch_byte = x1; data_tag = x2; data_byte = x3 }

parities : (a b : Four) → same_parity a b ≡ true → a ≡ b
parities a b h =
    let p0 = both _ _ h in
    let e0 = numbers a.fetch_tag b.fetch_tag p0.0 in
    let p1 = both _ _ p0.1 in
    let e1 = numbers a.fetch_byte b.fetch_byte p1.0 in
    let p2 = both _ _ p1.1 in
    let e2 = numbers a.data_tag b.data_tag p2.0 in
    let e3 = numbers a.data_byte b.data_byte p2.1 in
    on (on (on (ap (make_parities) e0) e1) e2) e3

abbrev make_cores : ℕ → List ErrorTrap → List ℕ → Four → List Bool → CoreAccount
make_cores x0 x1 x2 x3 x4 = record { owed = x0; errors = x1; lost = x2; parity = x3; blank = x4 }

pub cores : (a b : CoreAccount) → same_core a b ≡ true → a ≡ b
cores a b h =
    let p0 = both _ _ h in
    let e0 = numbers a.owed b.owed p0.0 in
    let p1 = both _ _ p0.1 in
    let e1 = lists same_error errors a.errors b.errors p1.0 in
    let p2 = both _ _ p1.1 in
    let e2 = lists same_number numbers a.lost b.lost p2.0 in
    let p3 = both _ _ p2.1 in
    let e3 = parities a.parity b.parity p3.0 in
    let e4 = lists same_bool bools a.blank b.blank p3.1 in
    on (on (on (on (ap (make_cores) e0) e1) e2) e3) e4

abbrev make_entries : ℕ → ℕ → LogEntry
make_entries x0 x1 = record { core = x0; number = x1 }

entries : (a b : LogEntry) → same_entry a b ≡ true → a ≡ b
entries a b h =
    let p0 = both _ _ h in
    let e0 = numbers a.core b.core p0.0 in
    let e1 = numbers a.number b.number p0.1 in
    on (ap (make_entries) e0) e1

abbrev make_completions : ℕ → Option ℕ → ℕ → Completion
make_completions x0 x1 x2 = record { step = x0; way = x1; seen = x2 }

completions : (a b : Completion) → same_completion a b ≡ true → a ≡ b
completions a b h =
    let p0 = both _ _ h in
    let e0 = numbers a.step b.step p0.0 in
    let p1 = both _ _ p0.1 in
    let e1 = options same_number numbers a.way b.way p1.0 in
    let e2 = numbers a.seen b.seen p1.1 in
    on (on (ap (make_completions) e0) e1) e2

abbrev make_places : Option LogEntry → Option Completion → Bool → OrderAccount
make_places x0 x1 x2 = record { entry = x0; retired = x1; sorted = x2 }

pub places : (a b : OrderAccount) → same_place a b ≡ true → a ≡ b
places a b h =
    let p0 = both _ _ h in
    let e0 = options same_entry entries a.entry b.entry p0.0 in
    let p1 = both _ _ p0.1 in
    let e1 = options same_completion completions a.retired b.retired p1.0 in
    let e2 = bools a.sorted b.sorted p1.1 in
    on (on (ap (make_places) e0) e1) e2

abbrev make_transfers : ℕ → ℕ → ℕ → ℕ → ℕ → TurnKind → Why → ℕ → ℕ → ℕ → Transfer
make_transfers x0 x1 x2 x3 x4 x5 x6 x7 x8 x9 = record { syn = x0; turn = x1; master = x2; step = x3; addr = x4; kind = x5; why = x6; way = x7; words = x8; len = x9 }

transfers : (a b : Transfer) → same_transfer a b ≡ true → a ≡ b
transfers a b h =
    let p0 = both _ _ h in
    let e0 = numbers a.syn b.syn p0.0 in
    let p1 = both _ _ p0.1 in
    let e1 = numbers a.turn b.turn p1.0 in
    let p2 = both _ _ p1.1 in
    let e2 = numbers a.master b.master p2.0 in
    let p3 = both _ _ p2.1 in
    let e3 = numbers a.step b.step p3.0 in
    let p4 = both _ _ p3.1 in
    let e4 = numbers a.addr b.addr p4.0 in
    let p5 = both _ _ p4.1 in
    let e5 = kinds_same a.kind b.kind p5.0 in
    let p6 = both _ _ p5.1 in
    let e6 = whys_same a.why b.why p6.0 in
    let p7 = both _ _ p6.1 in
    let e7 = numbers a.way b.way p7.0 in
    let p8 = both _ _ p7.1 in
    let e8 = numbers a.words b.words p8.0 in
    let e9 = numbers a.len b.len p8.1 in
    on (on (on (on (on (on (on (on (on (ap (make_transfers) e0) e1) e2) e3) e4) e5) e6) e7) e8) e9

needs : (a b : Need) → same_need a b ≡ true → a ≡ b
needs NoTurn NoTurn h = refl
needs NoTurn (Turn kind why) h = absurd cc
needs NoTurn (RegisterStop cell) h = absurd cc
needs (Turn kind why) NoTurn h = absurd cc
needs (Turn kind why) (Turn kind' why') h = let p = both _ _ h in rw (kinds_same kind kind' p.0, whys_same why why' p.1) refl
needs (Turn kind why) (RegisterStop cell) h = absurd cc
needs (RegisterStop cell) NoTurn h = absurd cc
needs (RegisterStop cell) (Turn kind why) h = absurd cc
needs (RegisterStop cell) (RegisterStop cell') h = ap RegisterStop (numbers cell cell' h)

abbrev make_turns : Transfer → Need → TurnAccount
make_turns x0 x1 = record { transfer = x0; need = x1 }

pub turns : (a b : TurnAccount) → same_turn a b ≡ true → a ≡ b
turns a b h =
    let p0 = both _ _ h in
    let e0 = transfers a.transfer b.transfer p0.0 in
    let e1 = needs a.need b.need p0.1 in
    on (ap (make_turns) e0) e1

abbrev make_statuses : ℕ → ℕ → AhbStatus
make_statuses x0 x1 = record { addr = x0; status = x1 }

statuses : (a b : AhbStatus) → same_status a b ≡ true → a ≡ b
statuses a b h =
    let p0 = both _ _ h in
    let e0 = numbers a.addr b.addr p0.0 in
    let e1 = numbers a.status b.status p0.1 in
    on (ap (make_statuses) e0) e1

abbrev make_finals : AhbStatus → List Bool → ℕ → FinalAccount
make_finals x0 x1 x2 = record { ahb = x0; watch = x1; scrub_turns = x2 }

finals : (a b : FinalAccount) → same_final a b ≡ true → a ≡ b
finals a b h =
    let p0 = both _ _ h in
    let e0 = statuses a.ahb b.ahb p0.0 in
    let p1 = both _ _ p0.1 in
    let e1 = lists same_bool bools a.watch b.watch p1.0 in
    let e2 = numbers a.scrub_turns b.scrub_turns p1.1 in
    on (on (ap (make_finals) e0) e1) e2

abbrev make_accounts : List CoreAccount → List OrderAccount → List TurnAccount → List Fate → FinalAccount → Account
make_accounts x0 x1 x2 x3 x4 = record { cores = x0; order = x1; transfers = x2; fates = x3; final = x4 }

-- two accounts that pass the test are the same
pub accounts : (a b : Account) → same_account a b ≡ true → a ≡ b
accounts a b h =
    let p0 = both _ _ h in
    let e0 = lists same_core cores a.cores b.cores p0.0 in
    let p1 = both _ _ p0.1 in
    let e1 = lists same_place places a.order b.order p1.0 in
    let p2 = both _ _ p1.1 in
    let e2 = lists same_turn turns a.transfers b.transfers p2.0 in
    let p3 = both _ _ p2.1 in
    let e3 = lists same_fate fates_same a.fates b.fates p3.0 in
    let e4 = finals a.final b.final p3.1 in
    on (on (on (on (ap (make_accounts) e0) e1) e2) e3) e4
