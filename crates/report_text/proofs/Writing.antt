-- A text that goes to a sink piece by piece: what several calls add to it, one after another.
use Rattle.std.proofs.Common.{◌≡◌, ℕ, ◌+◌, ◌<◌, ◌≤◌, Bool, true, false, List, [], ◌∷◌, ◌++◌, length, take, drop, Option, Some, None, refl, sym, ap, subst, ◌∙◌, append_assoc, length-append, length-drop, arith}
use Rattle.std.proofs.Math.Seq.{take-append_seam}
use Rattle.std.proofs.lemmas.List.{append-nil, take-append-drop}
use Rattle.lf_io.specs.Count.{Rose}
use Rattle.lf_io.specs.Taken.{Takes, TakesNothing, TakesPrefix}
use Rattle.report_text.specs.Written.{Progress, Passed, CutOff, GoesOn, Writes}

-- ---- what a sink took, in two calls

takes_then : (old mid new : Option (List ℕ)) (first second : List ℕ) → Takes old mid first → Takes mid new second → Takes old new (first ++ second)
takes_then None mid new first second h k = tt
takes_then (Some bytes) mid new first second h k =
    let more = rw h at k in more ∙ ap Some (append_assoc bytes first second)

nothing_then : (old mid new : Option (List ℕ)) → TakesNothing old mid → TakesNothing mid new → TakesNothing old new
nothing_then None mid new h k = tt
nothing_then (Some bytes) mid new h k = rw h at k

takes_then_nothing : (old mid new : Option (List ℕ)) (first : List ℕ) → Takes old mid first → TakesNothing mid new → Takes old new first
takes_then_nothing None mid new first h k = tt
takes_then_nothing (Some bytes) mid new first h k = rw h at k

-- a first part and what it leaves, and a second part and what it leaves
two_parts : (first left second rest waited text more : List ℕ) → first ++ left ≡ waited ++ text → second ++ rest ≡ left ++ more
    → (first ++ second) ++ rest ≡ waited ++ (text ++ more)
two_parts first left second rest waited text more one two =
    append_assoc first second rest ∙ ap (λ (xs : List ℕ). first ++ xs) two ∙ sym (append_assoc first left more)
    ∙ ap (λ (xs : List ℕ). xs ++ more) one ∙ append_assoc waited text more

passed_then : (a b c : Progress) (text more : List ℕ) → Passed a.taken b.taken a.waiting b.waiting text
    → Passed b.taken c.taken b.waiting c.waiting more → Passed a.taken c.taken a.waiting c.waiting (text ++ more)
passed_then a b c text more first second = record {
  part = first.part ++ second.part;
  taken = takes_then a.taken b.taken c.taken first.part second.part first.taken second.taken;
  whole = two_parts first.part b.waiting second.part c.waiting a.waiting text more first.whole second.whole;
}

passed_then_cut : (a b c : Progress) (text more : List ℕ) → Passed a.taken b.taken a.waiting b.waiting text
    → CutOff b.taken c.taken b.waiting more → CutOff a.taken c.taken a.waiting (text ++ more)
passed_then_cut a b c text more first second = record {
  part = first.part ++ second.part;
  lost = second.lost;
  taken = takes_then a.taken b.taken c.taken first.part second.part first.taken second.taken;
  whole = two_parts first.part b.waiting second.part second.lost a.waiting text more first.whole second.whole;
  some_lost = second.some_lost;
}

cut_then_nothing : (a b c : Progress) (text more : List ℕ) → CutOff a.taken b.taken a.waiting text → TakesNothing b.taken c.taken
    → CutOff a.taken c.taken a.waiting (text ++ more)
cut_then_nothing a b c text more first second =
    let some = first.some_lost in
    record {
      part = first.part;
      lost = first.lost ++ more;
      taken = takes_then_nothing a.taken b.taken c.taken first.part first.taken second;
      whole = sym (append_assoc first.part first.lost more) ∙ ap (λ (xs : List ℕ). xs ++ more) first.whole ∙ append_assoc a.waiting text more;
      some_lost = omega (arith, some, length-append first.lost more);
    }

rose_later : (before mid after : ℕ) → Rose before mid → mid ≤ after → Rose before after
rose_later before mid after rose falls = omega arith

rose_earlier : (before mid after : ℕ) → before ≤ mid → Rose mid after → Rose before after
rose_earlier before mid after falls rose = omega arith

goes_on_then : (p q r : Bool) (a b c : Progress) (text more : List ℕ) → a.faults ≤ b.faults → b.faults ≤ c.faults
    → GoesOn p q a b text → GoesOn q r b c more → GoesOn p r a c (text ++ more)
goes_on_then false false false a b c text more f g first second = passed_then a b c text more first second
goes_on_then false false true a b c text more f g first second =
    (passed_then_cut a b c text more first second.0, rose_earlier a.faults b.faults c.faults f second.1)
goes_on_then false true true a b c text more f g first second =
    (cut_then_nothing a b c text more first.0 second, rose_later a.faults b.faults c.faults first.1 g)
goes_on_then true true true a b c text more f g first second = nothing_then a.taken b.taken c.taken first second
goes_on_then p true false a b c text more f g first second = absurd second
goes_on_then true false r a b c text more f g first second = absurd first

-- two texts, one written behind the other
pub writes_then : {a b c : Progress} {text more : List ℕ} → Writes a b text → Writes b c more → Writes a c (text ++ more)
writes_then {a} {b} {c} {text} {more} first second =
    let f = first.never_falls in
    let g = second.never_falls in
    record {
      never_falls = omega (arith, f, g);
      goes_on = goes_on_then a.failed b.failed c.failed a b c text more f g first.goes_on second.goes_on;
    }

-- ---- what waits is written, or was lost before

takes_nothing : (old : Option (List ℕ)) → Takes old old []
takes_nothing None = tt
takes_nothing (Some bytes) = ap Some (sym (append-nil bytes))

stays : (old : Option (List ℕ)) → TakesNothing old old
stays None = tt
stays (Some bytes) = refl

pub still_failed : (failed : Bool) (taken : Option (List ℕ)) (faults : ℕ) (waited : List ℕ) → failed ≡ true
    → Writes (record { taken = taken; faults = faults; waiting = waited; failed = failed })
    (record { taken = taken; faults = faults; waiting = []; failed = true }) []
still_failed failed taken faults waited e = rw e (record { never_falls = omega arith; goes_on = stays taken })

pub piece_taken : (failed : Bool) (old new : Option (List ℕ)) (before after : ℕ) (waited : List ℕ) → failed ≡ false → before ≤ after
    → Takes old new waited
    → Writes (record { taken = old; faults = before; waiting = waited; failed = failed })
    (record { taken = new; faults = after; waiting = []; failed = false }) []
piece_taken failed old new before after waited e falls taken =
    rw e (record { never_falls = falls; goes_on = record { part = waited; taken = taken; whole = refl } })

cut_piece : (old new : Option (List ℕ)) (waited : List ℕ) → TakesPrefix old new waited → CutOff old new waited []
cut_piece old new waited (n, short, taken) = record {
  part = take n waited;
  lost = drop n waited;
  taken = taken;
  whole = take-append-drop n waited ∙ sym (append-nil waited);
  some_lost = omega (arith, short, length-drop n waited);
}

pub piece_cut : (failed : Bool) (old new : Option (List ℕ)) (before after : ℕ) (waited : List ℕ) → failed ≡ false → before ≤ after
    → TakesPrefix old new waited → Rose before after
    → Writes (record { taken = old; faults = before; waiting = waited; failed = failed })
    (record { taken = new; faults = after; waiting = []; failed = true }) []
piece_cut failed old new before after waited e falls prefix rose =
    rw e (record { never_falls = falls; goes_on = (cut_piece old new waited prefix, rose) })

-- ---- a text that is put into the piece

put_on : (failed : Bool) (taken : Option (List ℕ)) (faults : ℕ) (waited waits text : List ℕ) → waits ≡ waited ++ text
    → GoesOn failed failed (record { taken = taken; faults = faults; waiting = waited; failed = failed })
    (record { taken = taken; faults = faults; waiting = waits; failed = failed }) text
put_on false taken faults waited waits text e = record { part = []; taken = takes_nothing taken; whole = e }
put_on true taken faults waited waits text e = stays taken

pub puts : (failed : Bool) (taken : Option (List ℕ)) (faults : ℕ) (waited waits text : List ℕ) → waits ≡ waited ++ text
    → Writes (record { taken = taken; faults = faults; waiting = waited; failed = failed })
    (record { taken = taken; faults = faults; waiting = waits; failed = failed }) text
puts failed taken faults waited waits text e =
    record { never_falls = omega arith; goes_on = put_on failed taken faults waited waits text e }

-- a line that is put into the piece once there is room for it
pub line_put : (a : Progress) (failed : Bool) (taken : Option (List ℕ)) (faults : ℕ) (waited waits text : List ℕ)
    → Writes a (record { taken = taken; faults = faults; waiting = waited; failed = failed }) [] → waits ≡ waited ++ text
    → Writes a (record { taken = taken; faults = faults; waiting = waits; failed = failed }) text
line_put a failed taken faults waited waits text made e = writes_then made (puts failed taken faults waited waits text e)

-- ---- lines of a list, one after another

-- what is written so far, and the lines that are left
pub record Behind (a b : Progress) (left whole : List ℕ) : Type 0 where
  pub done : List ℕ
  pub written : Writes a b done
  pub rest : done ++ left ≡ whole

nothing_more : (a : Progress) → Writes a a []
nothing_more a = puts a.failed a.taken a.faults a.waiting a.waiting [] (sym (append-nil a.waiting))

pub begins : (a : Progress) (whole : List ℕ) → Behind a a whole whole
begins a whole = record { done = []; written = nothing_more a; rest = refl }

pub behind_more : {a b c : Progress} {line later left whole : List ℕ} → Behind a b left whole → Writes b c line → line ++ later ≡ left
    → Behind a c later whole
behind_more {a} {b} {c} {line} {later} {left} {whole} inv next here = record {
  done = inv.done ++ line;
  written = writes_then inv.written next;
  rest = append_assoc inv.done line later ∙ ap (λ (more : List ℕ). inv.done ++ more) here ∙ inv.rest;
}

pub ends : {a b : Progress} {left whole : List ℕ} → left ≡ [] → Behind a b left whole → Writes a b whole
ends {a} {b} {left} {whole} none inv =
    let all : inv.done ≡ whole = sym (append-nil inv.done) ∙ ap (λ (more : List ℕ). inv.done ++ more) (sym none) ∙ inv.rest in
    subst (λ (text : List ℕ). Writes a b text) all inv.written

-- ---- the whole text

pub written_as : {a b : Progress} {text whole : List ℕ} → text ≡ whole → Writes a b text → Writes a b whole
written_as {a} {b} e written = subst (λ (t : List ℕ). Writes a b t) e written

reaches : (a b c : Progress) (text : List ℕ) → Writes a b text → Writes b c [] → Writes a c text
reaches a b c text first second = subst (λ (t : List ℕ). Writes a c t) (append-nil text) (writes_then first second)

cut_of : (p q : Bool) (a c : Progress) (text : List ℕ) → p ≡ false → q ≡ true → GoesOn p q a c text
    → CutOff a.taken c.taken a.waiting text × Rose a.faults c.faults
cut_of false true a c text e f on = on
cut_of true q a c text e f on = absurd cc
cut_of p false a c text e f on = absurd cc

passed_of : (p q : Bool) (a c : Progress) (text : List ℕ) → p ≡ false → q ≡ false → GoesOn p q a c text
    → Passed a.taken c.taken a.waiting c.waiting text
passed_of false false a c text e f on = on
passed_of true q a c text e f on = absurd cc
passed_of p true a c text e f on = absurd cc

prefix_of : (old new : Option (List ℕ)) (waited text : List ℕ) → waited ≡ [] → CutOff old new waited text → TakesPrefix old new text
prefix_of old new waited text nothing cut =
    let some = cut.some_lost in
    let all : cut.part ++ cut.lost ≡ text = cut.whole ∙ ap (λ (xs : List ℕ). xs ++ text) nothing in
    let front : take (length cut.part) text ≡ cut.part = ap (take (length cut.part)) (sym all) ∙ take-append_seam cut.part cut.lost in
    let long : length (cut.part ++ cut.lost) ≡ length text = ap (λ (xs : List ℕ). length xs) all in
    (length cut.part, omega (arith, some, long, length-append cut.part cut.lost), subst (λ (xs : List ℕ). Takes old new xs) (sym front) cut.taken)

-- a text whose first write failed is cut off
pub text_cut : (a b c : Progress) (text : List ℕ) → a.waiting ≡ [] → a.failed ≡ false → Writes a b text → Writes b c [] → c.failed ≡ true
    → TakesPrefix a.taken c.taken text
text_cut a b c text nothing fresh first second failed =
    prefix_of a.taken c.taken a.waiting text nothing
    (cut_of a.failed c.failed a c text fresh failed (reaches a b c text first second).goes_on).0

pub text_cause : (a b c : Progress) (text : List ℕ) → a.failed ≡ false → Writes a b text → Writes b c [] → c.failed ≡ true
    → Rose a.faults c.faults
text_cause a b c text fresh first second failed =
    (cut_of a.failed c.failed a c text fresh failed (reaches a b c text first second).goes_on).1

-- a text of which no write failed, and nothing waits, was taken
pub text_taken : (a b c : Progress) (text : List ℕ) → a.waiting ≡ [] → a.failed ≡ false → Writes a b text → Writes b c [] → c.waiting ≡ []
    → c.failed ≡ false → Takes a.taken c.taken text
text_taken a b c text nothing fresh first second empty whole =
    let passed = passed_of a.failed c.failed a c text fresh whole (reaches a b c text first second).goes_on in
    let all : passed.part ≡ text =
    sym (append-nil passed.part) ∙ ap (λ (xs : List ℕ). passed.part ++ xs) (sym empty) ∙ passed.whole ∙ ap (λ (xs : List ℕ). xs ++ text) nothing in
    subst (λ (xs : List ℕ). Takes a.taken c.taken xs) all passed.taken

pub text_falls : (a b c : Progress) (text : List ℕ) → Writes a b text → Writes b c [] → a.faults ≤ c.faults
text_falls a b c text first second = (reaches a b c text first second).never_falls
