-- The stores that wait can reach memory, whatever an instruction touches: they lie in RAM and change no text, and their numbers fit their
-- bytes, as those of all operations of a record do.
use Rattle.std.proofs.Common.{◌≡◌, ◌*◌, ◌^◌, ◌<◌, ◌%◌, ◌==◌, ◌||◌, ℕ, Bool, true, false, cond, IsTrue, List, [], ◌∷◌, map, filter, fold, refl, sym, subst, arith}
use Rattle.std.specs.List.{AllByRecursion as Each, list_all}
use Rattle.std.proofs.lemmas.Bool.{and_parts, eqb-true, false≢true, ltb-true}
use Rattle.core_parts.specs.IsCore.{CanStore, Waits, pending_of}
use Rattle.core_parts.specs.Work.{WorkState, next_pending, work_touch}
use Rattle.lf_model.proofs.EachLemmas.{each_append, each_second, each_both}
use Rattle.lf_model.specs.Operation.{stores}
use Rattle.lf_model.specs.Promise.Regular.{is_length, number_fits, numbers_fit, is_regular_op}
use Rattle.lf_model.specs.Promise.RegularTransfer.{fits_word}
use Rattle.lf_model.specs.Start.{is_in_ram, touches_text}
use Rattle.lf_model.specs.declared.bus.OpKind.{OpKind}
use Rattle.lf_model.specs.declared.bus.OpKind.TheVariants.{Load, Store, Atomic, Lost}
use Rattle.lf_model.specs.declared.bus.Pending.{Pending}
use Rattle.lf_model.specs.declared.setup.Setup.{Setup}
use Rattle.lf_model.specs.declared.touch.Touch.{Touch}
use Rattle.lf_model.specs.declared.touch.Touch.TheVariants.{StartStep, LookFetch, ReadCell, WriteCell, LookData, StoreData, FlushCaches, SnoopData, FillFetch, FillData}
use Rattle.lf_model.specs.declared.trace.Op.{Op}

-- ---- where they lie

pub record IsPlaced (setup : Setup) (addr len : ℕ) : Type 0 where
  pub in_ram : IsTrue (is_in_ram setup.config.ram addr len)
  pub aligned : addr % len ≡ 0
  pub text : touches_text setup.image.text addr len ≡ false

abbrev pub Placed : Setup → Pending → Type 0
Placed setup p = IsPlaced setup p.addr p.len

-- a touch that is an own store is one of RAM that changes no text
abbrev pub StoresWell : Setup → Touch → Type 0
StoresWell setup (StoreData addr len value) = IsPlaced setup addr len
StoresWell setup (StartStep step) = Unit {0}
StoresWell setup (LookFetch addr) = Unit {0}
StoresWell setup (ReadCell cell) = Unit {0}
StoresWell setup (WriteCell cell) = Unit {0}
StoresWell setup (LookData addr len) = Unit {0}
StoresWell setup FlushCaches = Unit {0}
StoresWell setup (SnoopData addr) = Unit {0}
StoresWell setup (FillFetch addr valid) = Unit {0}
StoresWell setup (FillData addr valid) = Unit {0}

placed_touched : (setup : Setup) (t : Touch) (s : WorkState) → StoresWell setup t → Each (Placed setup) s.pending → Each (Placed setup) (work_touch s t).pending
placed_touched setup (StoreData addr len value) s well placed = each_append (Placed setup) s.pending (next_pending addr len value s.made ∷ []) placed (well, tt)
placed_touched setup (LookData addr len) s well placed = placed
placed_touched setup (StartStep step) s well placed = placed
placed_touched setup (LookFetch addr) s well placed = placed
placed_touched setup (ReadCell cell) s well placed = placed
placed_touched setup (WriteCell cell) s well placed = placed
placed_touched setup FlushCaches s well placed = placed
placed_touched setup (SnoopData addr) s well placed = placed
placed_touched setup (FillFetch addr valid) s well placed = placed
placed_touched setup (FillData addr valid) s well placed = placed

pub placed_on : (setup : Setup) (ts : List Touch) (s : WorkState) → Each (StoresWell setup) ts → Each (Placed setup) s.pending → Each (Placed setup) (fold work_touch s ts).pending
placed_on setup [] s well placed = placed
placed_on setup (t ∷ ts) s well placed = placed_on setup ts (work_touch s t) well.1 (placed_touched setup t s well.0 placed)

-- ---- their numbers

record NumberFits (len put : ℕ) : Type 0 where
  size : is_length len ≡ true
  value : put < 2 ^ (8 * len)

either : (a b : Bool) (P : Type 0) → (a || b) ≡ true → (a ≡ true → P) → (b ≡ true → P) → P
either true b P is first second = first refl
either false b P is first second = second is

at_length : (len put : ℕ) → is_length len ≡ true → number_fits len put ≡ true → put < 2 ^ (8 * len)
at_length len put size fits =
    either (len == 1) (len == 2 || (len == 4 || len == 8)) (put < 2 ^ (8 * len)) size (λ one. by 1 (eqb-true len 1 one) (λ below. omega (arith, below)))
    (λ more. either (len == 2) (len == 4 || len == 8) (put < 2 ^ (8 * len)) more (λ two. by 2 (eqb-true len 2 two) (λ below. omega (arith, below)))
    (λ most. either (len == 4) (len == 8) (put < 2 ^ (8 * len)) most (λ four. by 4 (eqb-true len 4 four) (λ below. omega (arith, below)))
    (λ eight. by 8 (eqb-true len 8 eight) (λ below. omega (arith, below)))))
  where
    below_len : put < 256 ^ len
    below_len = ltb-true put (256 ^ len) fits

    by : (n : ℕ) → len ≡ n → (put < 256 ^ n → put < 2 ^ (8 * n)) → put < 2 ^ (8 * len)
    by n is f = subst (λ (m : ℕ). put < 2 ^ (8 * m)) (sym is) (f (subst (λ (m : ℕ). put < 256 ^ m) is below_len))

abbrev FitsOp : Op → Type 0
FitsOp o = NumberFits o.len o.put

-- what a report asks of an operation
record Shown (o : Op) : Type 0 where
  size : is_length o.len ≡ true
  numbers : numbers_fit o o.kind ≡ true

shown : (o : Op) → is_regular_op o ≡ true → Shown o
shown o is =
    let core = and_parts (fits_word o.core) _ is in
    let k = and_parts (fits_word o.k) _ core.1 in
    let step = and_parts (fits_word o.step) _ k.1 in
    let addr = and_parts (fits_word o.addr) _ step.1 in
    let size = and_parts (is_length o.len) _ addr.1 in
    record { size = size.0; numbers = size.1 }

put_fits : (o : Op) (kind : OpKind) → o.kind ≡ kind → numbers_fit o kind ≡ true → stores o ≡ true → number_fits o.len o.put ≡ true
put_fits o Load is fits storing = absurd (false≢true (rw is at storing))
put_fits o Store is fits storing = (and_parts _ _ (and_parts _ _ fits).1).0
put_fits o Atomic is fits storing = (and_parts _ _ (and_parts _ _ fits).1).0
put_fits o Lost is fits storing = (and_parts _ _ (and_parts _ _ fits).1).0

op_fits : (o : Op) → is_regular_op o ≡ true → stores o ≡ true → FitsOp o
op_fits o regular storing =
    let there = shown o regular in
    record { size = there.size; value = at_length o.len o.put there.size (put_fits o o.kind refl there.numbers storing) }

one_stored : (o : Op) (ops : List Op) → is_regular_op o ≡ true → Each FitsOp (filter stores ops) → (storing : Bool) → stores o ≡ storing
    → Each FitsOp (cond storing (o ∷ filter stores ops) (filter stores ops))
one_stored o ops regular later true is = (op_fits o regular is, later)
one_stored o ops regular later false is = later

stores_fit : (ops : List Op) → list_all is_regular_op ops ≡ true → Each FitsOp (filter stores ops)
stores_fit [] fit = tt
stores_fit (o ∷ ops) fit =
    let parts = and_parts (is_regular_op o) (list_all is_regular_op ops) fit in
    one_stored o ops parts.0 (stores_fit ops parts.1) (stores o) refl

each_map : (f : Op → Pending) (P : Pending → Type 0) (xs : List Op) → Each (λ o. P (f o)) xs → Each P (map f xs)
each_map f P [] h = tt
each_map f P (x ∷ xs) h = (h.0, each_map f P xs h.1)

abbrev FitsPending : Pending → Type 0
FitsPending p = NumberFits p.len p.value

waiting_fit : (ops : List Op) (waiting : List Pending) → Waits ops waiting → list_all is_regular_op ops ≡ true → Each FitsPending waiting
waiting_fit ops waiting w fit =
    subst (Each FitsPending) (sym w.waiting_are)
    (each_map pending_of FitsPending w.kept (each_second FitsOp w.sent w.kept (subst (Each FitsOp) w.split (stores_fit ops fit))))

-- the stores that wait can reach memory
pub can_store_each : (setup : Setup) (ops : List Op) (waiting : List Pending) → Waits ops waiting → list_all is_regular_op ops ≡ true → Each (Placed setup) waiting
    → Each (CanStore setup) waiting
can_store_each setup ops waiting w fit placed =
    each_both FitsPending (Placed setup) (CanStore setup) waiting
    (λ p number place. record { size = number.size; in_ram = place.in_ram; aligned = place.aligned; value = number.value; text = place.text })
    (waiting_fit ops waiting w fit) placed
