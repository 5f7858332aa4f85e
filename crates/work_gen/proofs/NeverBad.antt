-- Where no two flips of a script strike the same memory word, no word ever has two flipped bits, whatever the transfers are.
use Rattle.std.proofs.Common.{ℕ, zero, suc, ◌≡◌, ◌+◌, ◌%◌, ◌≤◌, ◌==◌, ◌&&◌, ◌||◌, nat_eq, nat_lt, nat_le, List, [], ◌∷◌, ◌++◌, Bool, true, false, Option, Some, None, length, map, fold, filter, refl, sym, ap, ◌∙◌, arith, subst}
use Rattle.std.specs.Prelude.{if◌then◌else◌, AllPairs}
use Rattle.std.specs.List.{list_any, range_with_len, AllByRecursion as Each}
use Rattle.std.proofs.lemmas.Bool.{eqb-true, ne_eqb, false≢true}
use Rattle.std.proofs.lemmas.Bool.Decides.{nat_tests}
use Rattle.std.proofs.lemmas.List.Elements.{recursion_from_All}
use Rattle.std.proofs.lemmas.List.FromFn.{length-range_with_len}
use Rattle.std.proofs.lemmas.Slice.Zip.{seconds-zip}
use Rattle.lf_model.proofs.EachLemmas.{each_append, each_weaker}
use Rattle.lf_model.specs.Bus.Replay.{Replay, replay_start, made_turn, replay_turn, replay}
use Rattle.lf_model.specs.Bus.Words.{Word, is_at, with_struck, words_struck, struck_word, strike_word, words_begun, with_write, write_by, with_name, words_after}
use Rattle.lf_model.specs.Flips.{How, Moment, Standing, standing, places_below, is_turned, turned, turned_bits, is_bad_word, word_budget, word_bits}
use Rattle.lf_model.specs.Flips.Moment.{Struck, Written, Found, Named}
use Rattle.lf_model.specs.Ledger.Account.{grounds_in, replay_of}
use Rattle.lf_model.specs.NumberedFlips.{numbered_flips}
use Rattle.lf_model.specs.Promise.NeverStops.{was_bad, word_was_bad}
use Rattle.lf_model.specs.declared.bus.Transfer.{Transfer}
use Rattle.lf_model.specs.declared.flip.Flip.{Flip}
use Rattle.lf_model.specs.declared.flip.Flip.TheVariants.{Mem, Reg, Tag, Line}
use Rattle.lf_model.specs.declared.setup.Setup.{Setup}
use Rattle.lf_model.specs.declared.trace.Trace.{Trace}
use Rattle.work_gen.specs.Drill.{StrikeOtherWords}

-- ---- a history in which at most one flip struck

-- how many flips struck, whether they were applied or not
abbrev pub strikes : List Moment → ℕ
strikes [] = 0
strikes (Struck number bit ∷ h) = strikes h + 1
strikes (Written how ∷ h) = strikes h
strikes (Found ∷ h) = strikes h
strikes (Named ∷ h) = strikes h

one_more : (flip : Standing) (flips : List Standing) (b : Bool) → length (if b then flip ∷ flips else flips) ≤ length flips + 1
one_more flip flips true = omega arith
one_more flip flips false = omega arith

few_stand : (h : List Moment) → length (standing word_budget h) ≤ strikes h
few_stand [] = omega arith
few_stand (Struck number bit ∷ h) =
    let before = few_stand h in
    let after = one_more (record { number = number; bit = bit }) (standing word_budget h) (nat_lt (length (standing word_budget h)) word_budget) in
    omega (arith, before, after)
few_stand (Written how ∷ h) = omega arith
few_stand (Found ∷ h) = few_stand h
few_stand (Named ∷ h) = few_stand h

none_turned : (n : ℕ) → length (filter (is_turned []) (places_below n)) ≡ 0
none_turned zero = refl
none_turned (suc n) = none_turned n

-- by one flip one bit is flipped
record OfOne (flip : Standing) (n : ℕ) : Type 0 where
  few : length (filter (is_turned (flip ∷ [])) (places_below n)) ≤ 1
  none : n ≤ flip.bit → length (filter (is_turned (flip ∷ [])) (places_below n)) ≡ 0

place_kept : (b : Bool) (n : ℕ) (rest : List ℕ) → b ≡ true → length rest ≡ 0 → length (if b then n ∷ rest else rest) ≤ 1
place_kept true n rest is none = omega (arith, none)
place_kept false n rest is none = absurd (false≢true is)

place_left : (b : Bool) (n : ℕ) (rest : List ℕ) → b ≡ false → length (if b then n ∷ rest else rest) ≡ length rest
place_left true n rest is = absurd (false≢true (sym is))
place_left false n rest is = refl

one_place : (flip : Standing) (n : ℕ) → OfOne flip n → (b : Bool) → (flip.bit == n) ≡ b → OfOne flip (suc n)
one_place flip n before true is =
    let at = eqb-true flip.bit n is in
    let none = before.none (omega (arith, at)) in
    let here : is_turned (flip ∷ []) n ≡ true = ap (λ (b : Bool). nat_eq ((0 + (if b then 1 else 0)) % 2) 1) is in
    record {
      few = place_kept (is_turned (flip ∷ []) n) n (filter (is_turned (flip ∷ [])) (places_below n)) here none;
      none = λ below. absurd (omega (arith, below, at));
    }
one_place flip n before false is =
    let few = before.few in
    let here : is_turned (flip ∷ []) n ≡ false = ap (λ (b : Bool). nat_eq ((0 + (if b then 1 else 0)) % 2) 1) is in
    let same = place_left (is_turned (flip ∷ []) n) n (filter (is_turned (flip ∷ [])) (places_below n)) here in
    record { few = omega (arith, few, same); none = λ below. same ∙ before.none (omega (arith, below)) }

one_turned : (flip : Standing) (n : ℕ) → OfOne flip n
one_turned flip zero = record { few = omega arith; none = λ below. refl }
one_turned flip (suc n) = one_place flip n (one_turned flip n) (flip.bit == n) refl

few_turned : (flips : List Standing) → length flips ≤ 1 → length (turned word_bits flips) ≤ 1
few_turned [] few = let none = none_turned word_bits in omega (arith, none)
few_turned (flip ∷ []) few = (one_turned flip word_bits).few
few_turned (flip ∷ other ∷ flips) few = absurd (omega (arith, few))

not_two : (n : ℕ) → n ≤ 1 → (n == 2) ≡ false
not_two zero few = refl
not_two (suc zero) few = refl
not_two (suc (suc n)) few = absurd (omega (arith, few))

not_bad : (h : List Moment) → strikes h ≤ 1 → is_bad_word h ≡ false
not_bad h few = let stand = few_stand h in not_two (length (turned_bits h)) (few_turned (standing word_budget h) (omega (arith, stand, few)))

earlier : (moment : Moment) (h : List Moment) → strikes h ≤ strikes (moment ∷ h)
earlier (Struck number bit) h = omega arith
earlier (Written how) h = omega arith
earlier Found h = omega arith
earlier Named h = omega arith

neither : (a b : Bool) → a ≡ false → b ≡ false → (a || b) ≡ false
neither true b first second = first
neither false b first second = second

pub never_bad : (h : List Moment) → strikes h ≤ 1 → was_bad h ≡ false
never_bad [] few = refl
never_bad (moment ∷ h) few =
    let before = earlier moment h in neither (is_bad_word (moment ∷ h)) (was_bad h) (not_bad (moment ∷ h) few) (never_bad h (omega (arith, before, few)))

-- ---- what holds of each word

pub each_map : {X Y : Type 0} (P : X → Type 0) (Q : Y → Type 0) (f : X → Y) → ((x : X) → P x → Q (f x)) → (xs : List X) → Each P xs → Each Q (map f xs)
each_map P Q f goes [] h = tt
each_map P Q f goes (x ∷ xs) h = (goes x h.0, each_map P Q f goes xs h.1)

-- the flips that struck it, and those that still may, are together at most one
abbrev Room : (ℕ → ℕ) → Word → Type 0
Room left word = strikes word.history + left word.addr ≤ 1

-- ---- the flips of a script at an address: those for a turn, and those for it or a later one

abbrev one_if : Bool → ℕ
one_if b = if b then 1 else 0

abbrev due : ℕ → ℕ → Flip → ℕ
due turn addr (Mem at a bit) = one_if (addr == a && at == turn)
due turn addr (Reg core step cell bit) = 0
due turn addr (Tag core step fetch way set byte bit) = 0
due turn addr (Line core step fetch way set byte bit) = 0

abbrev left : ℕ → ℕ → Flip → ℕ
left turn addr (Mem at a bit) = one_if (addr == a && nat_le turn at)
left turn addr (Reg core step cell bit) = 0
left turn addr (Tag core step fetch way set byte bit) = 0
left turn addr (Line core step fetch way set byte bit) = 0

abbrev all_due : ℕ → List Flip → ℕ → ℕ
all_due turn [] addr = 0
all_due turn (flip ∷ flips) addr = due turn addr flip + all_due turn flips addr

abbrev all_left : ℕ → List Flip → ℕ → ℕ
all_left turn [] addr = 0
all_left turn (flip ∷ flips) addr = left turn addr flip + all_left turn flips addr

-- as a turn is made
turn_splits : (turn at : ℕ) (b : Bool) → one_if (b && nat_le turn at) ≡ one_if (b && at == turn) + one_if (b && nat_le (turn + 1) at)
turn_splits turn at true = grind (arith, nat_tests)
turn_splits turn at false = refl

flip_splits : (turn addr : ℕ) (flip : Flip) → left turn addr flip ≡ due turn addr flip + left (turn + 1) addr flip
flip_splits turn addr (Mem at a bit) = turn_splits turn at (addr == a)
flip_splits turn addr (Reg core step cell bit) = refl
flip_splits turn addr (Tag core step fetch way set byte bit) = refl
flip_splits turn addr (Line core step fetch way set byte bit) = refl

all_split : (turn addr : ℕ) (flips : List Flip) → all_left turn flips addr ≡ all_due turn flips addr + all_left (turn + 1) flips addr
all_split turn addr [] = refl
all_split turn addr (flip ∷ flips) = let here = flip_splits turn addr flip in let later = all_split turn addr flips in omega (arith, here, later)

-- ---- a turn begins

strike_one : (number bit : ℕ) (rest : ℕ → ℕ) (word : Word) (here : Bool) → strikes word.history + (one_if (here && true) + rest word.addr) ≤ 1
    → Room rest (if here then record word { history = Struck number bit ∷ word.history } else word)
strike_one number bit rest word true room = omega (arith, room)
strike_one number bit rest word false room = omega (arith, room)

strike_none : (n m : ℕ) (here : Bool) → n + (one_if (here && false) + m) ≤ 1 → n + m ≤ 1
strike_none n m true room = omega (arith, room)
strike_none n m false room = omega (arith, room)

-- what a flip takes of the room of each word
abbrev Takes : (ℕ → ℕ) → (ℕ → ℕ) → Word → Type 0
Takes first rest word = strikes word.history + (first word.addr + rest word.addr) ≤ 1

no_flip : (rest : ℕ → ℕ) (words : List Word) → Each (Takes (λ _. 0) rest) words → Each (Room rest) words
no_flip rest words room = each_weaker (Takes (λ _. 0) rest) (Room rest) words (λ word h. omega (arith, h)) room

one_strike : (turn number : ℕ) (flip : Flip) (rest : ℕ → ℕ) (words : List Word) → Each (Takes (λ addr. due turn addr flip) rest) words
    → Each (Room rest) (strike_word turn number words flip)
one_strike turn number (Mem at a bit) rest words room = by_turn (at == turn) room
  where
    by_turn : (now : Bool) → Each (Takes (λ addr. one_if (addr == a && now)) rest) words → Each (Room rest) (if now then map (struck_word number a bit) words else words)
    by_turn true room = each_map (Takes (λ addr. one_if (addr == a && true)) rest) (Room rest) (struck_word number a bit)
        (λ word h. strike_one number bit rest word (word.addr == a) h) words room
    by_turn false room = each_weaker (Takes (λ addr. one_if (addr == a && false)) rest) (Room rest) words
        (λ word h. strike_none (strikes word.history) (rest word.addr) (word.addr == a) h) room
one_strike turn number (Reg core step cell bit) rest words room = no_flip rest words room
one_strike turn number (Tag core step fetch way set byte bit) rest words room = no_flip rest words room
one_strike turn number (Line core step fetch way set byte bit) rest words room = no_flip rest words room

abbrev second : ℕ × Flip → Flip
second flip = flip.1

all_strike : (turn : ℕ) (flips : List (ℕ × Flip)) (rest : ℕ → ℕ) (words : List Word) → Each (Takes (all_due turn (map second flips)) rest) words
    → Each (Room rest) (fold (λ ws (flip : ℕ × Flip). strike_word turn flip.0 ws flip.1) words flips)
all_strike turn [] rest words room = no_flip rest words room
all_strike turn (flip ∷ flips) rest words room =
    let later : ℕ → ℕ = λ addr. all_due turn (map second flips) addr + rest addr in
    all_strike turn flips rest (strike_word turn flip.0 words flip.1)
    (one_strike turn flip.0 flip.1 later words
    (each_weaker (Takes (all_due turn (map second (flip ∷ flips))) rest) (Takes (λ addr. due turn addr flip.1) later) words (λ word h. omega (arith, h)) room))

begun_room : (script : List Flip) (turn : ℕ) (words : List Word) → Each (Room (all_left turn script)) words → Each (Room (all_left (turn + 1) script)) (words_begun script turn words)
begun_room script turn words room =
    all_strike turn (numbered_flips script) (all_left (turn + 1) script) words
    (subst (λ (flips : List Flip). Each (Takes (all_due turn flips) (all_left (turn + 1) script)) words)
    (sym (seconds-zip (range_with_len 0 (length script)) script (sym (length-range_with_len 0 (length script)))))
    (each_weaker (Room (all_left turn script)) (Takes (all_due turn script) (all_left (turn + 1) script)) words
    (λ word h. let split = all_split turn word.addr script in omega (arith, h, split)) room))

-- ---- a transfer is made

write_room : (how : Option How) (h : List Moment) → strikes (with_write how h) ≡ strikes h
write_room None h = refl
write_room (Some how) h = refl

name_room : (rest : ℕ → ℕ) (name : Option ℕ) (word : Word) → Room rest word → Room rest (with_name name word)
name_room rest None word room = room
name_room rest (Some addr) word room = by_address (word.addr == addr)
  where
    by_address : (b : Bool) → Room rest (if b then record word { history = Named ∷ word.history } else word)
    by_address true = room
    by_address false = room

after_room : (t : Transfer) (name : Option ℕ) (rest : ℕ → ℕ) (words : List Word) → Each (Room rest) words → Each (Room rest) (words_after t name words)
after_room t name rest words room =
    each_map (Room rest) (Room rest) (λ word. with_name name (record word { history = with_write (write_by t word) word.history }))
    (λ word h. name_room rest name (record word { history = with_write (write_by t word) word.history })
    (let same = write_room (write_by t word) word.history in omega (arith, h, same))) words room

-- ---- all turns

module _ (setup : Setup) where
  turn_room : (r : Replay) (t : Transfer) → Each (Room (all_left r.turns setup.flips)) r.words
      → Each (Room (all_left (replay_turn setup r t).turns setup.flips)) (replay_turn setup r t).words
  unfolding replay_turn
  turn_room r t room =
      let made = made_turn setup r (words_begun setup.flips r.turns r.words) t in
      after_room made.transfer made.named (all_left (r.turns + 1) setup.flips) (words_begun setup.flips r.turns r.words)
      (begun_room setup.flips r.turns r.words room)

  turns_room : (ts : List Transfer) (r : Replay) → Each (Room (all_left r.turns setup.flips)) r.words
      → Each (Room (all_left (fold (replay_turn setup) r ts).turns setup.flips)) (fold (replay_turn setup) r ts).words
  turns_room [] r room = room
  turns_room (t ∷ ts) r room = turns_room ts (replay_turn setup r t) (turn_room r t room)

none_bad : (rest : ℕ → ℕ) (words : List Word) → Each (Room rest) words → list_any word_was_bad words ≡ false
none_bad rest [] room = refl
none_bad rest (word ∷ words) room = rw (never_bad word.history (let here = room.0 in omega (arith, here)), none_bad rest words room.1) refl

-- ---- the script

abbrev Fresh : Word → Type 0
Fresh word = word.history ≡ []

fresh_more : (words : List Word) (flip : Flip) → Each Fresh words → Each Fresh (with_struck words flip)
fresh_more words (Mem turn addr bit) fresh = by_address (list_any (is_at addr) words)
  where
    by_address : (b : Bool) → Each Fresh (if b then words else words ++ record { addr = addr; history = [] } ∷ [])
    by_address true = fresh
    by_address false = each_append Fresh words (record { addr = addr; history = [] } ∷ []) fresh (refl, tt)
fresh_more words (Reg core step cell bit) fresh = fresh
fresh_more words (Tag core step fetch way set byte bit) fresh = fresh
fresh_more words (Line core step fetch way set byte bit) fresh = fresh

all_fresh : (flips : List Flip) (words : List Word) → Each Fresh words → Each Fresh (fold with_struck words flips)
all_fresh [] words fresh = fresh
all_fresh (flip ∷ flips) words fresh = all_fresh flips (with_struck words flip) (fresh_more words flip fresh)

other_flip : (turn addr bit : ℕ) (flip : Flip) → StrikeOtherWords (Mem turn addr bit) flip → left 0 addr flip ≡ 0
other_flip turn addr bit (Mem at a place) other = rw (ne_eqb addr a other) refl
other_flip turn addr bit (Reg core step cell place) other = refl
other_flip turn addr bit (Tag core step fetch way set byte place) other = refl
other_flip turn addr bit (Line core step fetch way set byte place) other = refl

none_more : (turn addr bit : ℕ) (flips : List Flip) → Each (StrikeOtherWords (Mem turn addr bit)) flips → all_left 0 flips addr ≡ 0
none_more turn addr bit [] others = refl
none_more turn addr bit (flip ∷ flips) others =
    let here = other_flip turn addr bit flip others.0 in let later = none_more turn addr bit flips others.1 in omega (arith, here, later)

-- each flip strikes another word than those behind it
abbrev Apart : List Flip → Type 0
Apart [] = Unit {0}
Apart (flip ∷ flips) = Each (StrikeOtherWords flip) flips × Apart flips

apart : (flips : List Flip) → AllPairs StrikeOtherWords flips → Apart flips
apart [] pairs = tt
apart (flip ∷ flips) pairs = (
  recursion_from_All (StrikeOtherWords flip) flips (λ k d within. pairs 0 (suc k) d (omega arith) (omega (arith, within))),
  apart flips (λ i j d before within. pairs (suc i) (suc j) d (omega (arith, before)) (omega (arith, within))),
)

few_one : (b : Bool) → one_if (true && b) ≤ 1
few_one true = omega arith
few_one false = omega arith

first_or_later : (turn addr a bit : ℕ) (flips : List Flip) → Each (StrikeOtherWords (Mem turn a bit)) flips → all_left 0 flips addr ≤ 1
    → (here : Bool) → (addr == a) ≡ here → one_if (here && nat_le 0 turn) + all_left 0 flips addr ≤ 1
first_or_later turn addr a bit flips others later true is =
    let same = eqb-true addr a is in
    let none : all_left 0 flips addr ≡ 0 = rw same (none_more turn a bit flips others) in
    let few = few_one (nat_le 0 turn) in
    omega (arith, none, few)
first_or_later turn addr a bit flips others later false is = omega (arith, later)

at_most_one : (addr : ℕ) (flips : List Flip) → Apart flips → all_left 0 flips addr ≤ 1
at_most_one addr [] others = omega arith
at_most_one addr (Mem turn a bit ∷ flips) others =
    first_or_later turn addr a bit flips others.0 (at_most_one addr flips others.1) (addr == a) refl
at_most_one addr (Reg core step cell bit ∷ flips) others = let later = at_most_one addr flips others.1 in omega (arith, later)
at_most_one addr (Tag core step fetch way set byte bit ∷ flips) others = let later = at_most_one addr flips others.1 in omega (arith, later)
at_most_one addr (Line core step fetch way set byte bit ∷ flips) others = let later = at_most_one addr flips others.1 in omega (arith, later)

start_room : (flips : List Flip) → Apart flips → Each (Room (all_left 0 flips)) (words_struck flips)
start_room flips others =
    each_weaker Fresh (Room (all_left 0 flips)) (words_struck flips)
    (λ word fresh. let none : strikes word.history ≡ 0 = ap (λ (h : List Moment). strikes h) fresh in let few = at_most_one word.addr flips others in omega (arith, none, few))
    (all_fresh flips [] tt)

-- no word ever is bad in the run of all masters over whatever transfers
pub words_never_bad : (setup : Setup) (trace : Trace) → AllPairs StrikeOtherWords setup.flips → list_any word_was_bad (replay_of setup trace).words ≡ false
unfolding replay
words_never_bad setup trace pairs =
    let first = replay_start setup (grounds_in setup trace) in
    let last = fold (replay_turn setup) first trace.transfers in
    none_bad (all_left last.turns setup.flips) last.words (turns_room setup trace.transfers first (start_room setup.flips (apart setup.flips pairs)))
