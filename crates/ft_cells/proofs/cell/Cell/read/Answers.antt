use Rattle.std.proofs.Common.{◌≡◌, false, List, ℕ, None, sym, ap, ◌∙◌}
use Rattle.std.specs.Prelude.{IfSome}
use Rattle.ft_cells.proofs.StoredLemmas.{unstruck_bits, single, pair}
use Rattle.ft_cells.proofs.cell.Cell.read.Goals as goal

pub returns-then-self-eq0-clause-answer : goal.returns-then-self-eq0-clause-answer
returns-then-self-eq0-clause-answer g c =
    let value = c.self.inside.written.value in
    let fits = g.met.P.Protect.encoding_fits value c.self.invariant.value in
    let none = unstruck_bits c.self.invariant fits c.if-self-eq0.true in
    rw (← c.self.view_is) (c.unstruck.ensures value c.self.invariant.value none.0 ∙ ap (g.P.Protect.answer value) (sym none.1))

pub returns-then-self-eq0-clause-clean : goal.returns-then-self-eq0-clause-clean
returns-then-self-eq0-clause-clean g c =
    let value = c.self.inside.written.value in
    let fits = g.met.P.Protect.encoding_fits value c.self.invariant.value in
    let none = unstruck_bits c.self.invariant fits c.if-self-eq0.true in
    let is = c.unstruck.ensures value c.self.invariant.value none.0 in
    let back = g.met.P.Protect.reads_back value c.self.invariant.value in
    λ _. rw (← c.self.view_is) (ap g.P.Protect.shown is ∙ back.0, ap g.P.Protect.is_clean is ∙ back.1)

pub returns-clause-told : goal.returns-clause-told
returns-clause-told g c =
    let P = g.P.Protect in
    let state = c.args.self.now in
    let Told : List ℕ → Type 0 = λ set. (P.is_clean (P.answer state.value set) ≡ false) × IfSome (P.shown (P.answer state.value set)) (λ v. v ≡ state.value) in
    λ one. rw c.read_struck.ensures.answer
    (single P.BITS Told (λ bit lt. g.met.P.Protect.one_flip state.value bit c.read_struck.ensures.value lt) state.toggled c.read_struck.ensures.cell.set one)

pub returns-clause-lost : goal.returns-clause-lost
returns-clause-lost g c =
    let P = g.P.Protect in
    let state = c.args.self.now in
    let Lost : List ℕ → Type 0 = λ set. (P.is_clean (P.answer state.value set) ≡ false) × (P.shown (P.answer state.value set) ≡ None) in
    λ budget two. rw c.read_struck.ensures.answer
    (pair P.BITS Lost (λ a b a_lt b_lt other. g.met.P.Protect.two_flips state.value a b budget c.read_struck.ensures.value a_lt b_lt other) state.toggled c.read_struck.ensures.cell.set two)
