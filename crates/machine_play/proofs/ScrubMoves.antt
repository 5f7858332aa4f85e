-- What a turn of the scrubber makes of the machine.
use Rattle.std.proofs.Common.{◌≡◌, ◌∙◌, ◌+◌, ◌-◌, ◌<◌, ◌≤◌, ◌==◌, ◌++◌, ℕ, true, false, List, [], ◌∷◌, length, refl, ap, sym, subst, arith, inl, inr}
use Rattle.std.proofs.lemmas.Bool.{eq-eqb}
use Rattle.std.proofs.lemmas.List.{length-append}
use Rattle.std.proofs.lemmas.List.Elements.{filter-append}
use Rattle.ahb_bus.specs.BusOk.{BusOk}
use Rattle.ahb_bus.specs.BusState.{BusState, answered}
use Rattle.lf_model.specs.Bus.Walk.{Walk, scrubber, next_transfer, walk_after}
use Rattle.lf_model.specs.Ledger.Steps.{own_transfers}
use Rattle.lf_model.specs.Names.{same_why}
use Rattle.lf_model.specs.Promise.Turns.{scrubbed}
use Rattle.lf_model.specs.declared.bus.Transfer.{Transfer}
use Rattle.lf_model.specs.declared.bus.Why.TheVariants.{Sched}
use Rattle.lf_model.specs.declared.config.Config.{Config}
use Rattle.lf_model.specs.declared.image.Range.{Range}
use Rattle.machine_play.specs.MachineValue.{MachineValue, with_scrub_turn}
use Rattle.machine_play.specs.Moved.{IsSound, IsMoved, scrubber_over, Advances}
use Rattle.machine_play.proofs.CoresMade.{are_made}
use Rattle.machine_play.proofs.LeftInMachine.{scrub_less}
use Rattle.machine_play.proofs.MachineKeeps.{few_cores, scrub_keeps}
use Rattle.machine_play.proofs.OwnShares.{walk_turns}
use Rattle.machine_play.proofs.ScrubEvents.{scrub_comes, scrub_passed}
use Rattle.scrubber.specs.WalkState.{WalkState, walk_made}

-- the transfer is its own, and no schedule asks for it
its_master : (turn : ℕ) (w : Walk) (noted : List ℕ) → (next_transfer turn w noted).master ≡ scrubber
its_master turn w [] = refl
its_master turn w (addr ∷ rest) = refl

its_cause : (turn : ℕ) (w : Walk) (noted : List ℕ) → same_why (next_transfer turn w noted).why Sched ≡ false
its_cause turn w [] = refl
its_cause turn w (addr ∷ rest) = refl

one_turn_more : (range : Range) (ts : List Transfer) (t : Transfer) → t.master ≡ scrubber → (walk_after range (ts ++ t ∷ [])).turns ≡ (walk_after range ts).turns + 1
one_turn_more range ts t own =
    walk_turns range (ts ++ t ∷ [])
    ∙ (ap (λ (us : List Transfer). length us) (filter-append (λ (u : Transfer). u.master == scrubber) ts (t ∷ []))
    ∙ (length-append (own_transfers scrubber ts) (own_transfers scrubber (t ∷ []))
    ∙ (ap (λ (n : ℕ). length (own_transfers scrubber ts) + n) one ∙ ap (λ (n : ℕ). n + 1) (sym (walk_turns range ts)))))
  where
    one : length (own_transfers scrubber (t ∷ [])) ≡ 1
    one = rw (eq-eqb t.master scrubber own) refl

module _ (m : MachineValue) (is : IsSound m) where
  -- none is left
  pub scrub_stays : m.bus.setup.config.scrub_turns ≤ m.walk.walk.turns → IsMoved scrubbed m m
  scrub_stays none = record {
    setup = refl;
    machine = is;
    makes = λ before comes. scrub_passed m.bus.setup before m (are_made m.bus.setup m is) comes 0 none;
  }

  -- one is left
  module _ (left : m.walk.walk.turns < m.bus.setup.config.scrub_turns) (ok : BusOk (walk_made m.walk (record m.bus { begun = true }))) where
    abbrev bus : BusState
    bus = walk_made m.walk (record m.bus { begun = true })

    abbrev walk : WalkState
    walk = record m.walk { walk = walk_after m.walk.config.scrub bus.transfers }

    abbrev t : Transfer
    t = answered (record m.bus { begun = true }) (next_transfer (length m.bus.transfers) m.walk.walk m.walk.walk.noted)

    own : t.master ≡ scrubber
    own = its_master (length m.bus.transfers) m.walk.walk m.walk.walk.noted

    turns : walk.walk.turns ≡ m.walk.walk.turns + 1
    turns = one_turn_more m.walk.config.scrub m.bus.transfers t own
        ∙ ap (λ (n : ℕ). n + 1) (ap (λ (k : Config). (walk_after k.scrub m.bus.transfers).turns) is.scrubber_at.config ∙ ap (λ (w : Walk). w.turns) (sym is.scrubber_at.walk_is))

    pub scrub_moved : IsMoved scrubbed m (with_scrub_turn walk bus m)
    scrub_moved = record {
      setup = refl;
      machine = scrub_keeps m.bus.setup m is ok;
      makes = λ before comes. scrub_comes m.bus.setup before m (are_made m.bus.setup m is) comes walk bus t left turns refl own (its_cause (length m.bus.transfers) m.walk.walk m.walk.walk.noted)
          (omega (arith, is.one_each, few_cores m.bus.setup m is)) 0;
    }

    pub scrub_advances : Advances (scrubber_over m ≡ true) m (with_scrub_turn walk bus m)
    scrub_advances = inr (scrub_less m bus t ok refl refl)

-- ---- as the scrubber makes it

module _ (m : MachineValue) (is : IsSound m) (s : MachineValue) (same : s ≡ m) (left : s.walk.walk.turns < s.walk.config.scrub_turns) (walk : WalkState) (bus : BusState)
    (made : bus ≡ walk_made s.walk (record s.bus { begun = true })) (walk_is : walk ≡ record s.walk { walk = walk_after s.walk.config.scrub bus.transfers }) (ok : BusOk bus) where
  sound : IsSound s
  sound = subst IsSound (sym same) is

  left_then : s.walk.walk.turns < s.bus.setup.config.scrub_turns
  left_then = omega (arith, left, ap (λ (k : Config). k.scrub_turns) sound.scrubber_at.config)

  ok_then : BusOk (walk_made s.walk (record s.bus { begun = true }))
  ok_then = subst BusOk made ok

  new_is : with_scrub_turn (record s.walk { walk = walk_after s.walk.config.scrub (walk_made s.walk (record s.bus { begun = true })).transfers }) (walk_made s.walk (record s.bus { begun = true })) s
      ≡ with_scrub_turn walk bus s
  new_is =
      ap (λ (b : BusState). with_scrub_turn (record s.walk { walk = walk_after s.walk.config.scrub b.transfers }) b s) (sym made)
      ∙ ap (λ (w : WalkState). with_scrub_turn w bus s) (sym walk_is)

  pub turn_moved : IsMoved scrubbed m (with_scrub_turn walk bus s)
  turn_moved = subst (λ (x : MachineValue). IsMoved scrubbed x (with_scrub_turn walk bus s)) same (subst (IsMoved scrubbed s) new_is (scrub_moved s sound left_then ok_then))

  pub turn_advances : Advances (scrubber_over m ≡ true) m (with_scrub_turn walk bus s)
  turn_advances = subst (λ (x : MachineValue). Advances (scrubber_over x ≡ true) x (with_scrub_turn walk bus s)) same
      (subst (Advances (scrubber_over s ≡ true) s) new_is (scrub_advances s sound left_then ok_then))

module _ (m : MachineValue) (is : IsSound m) (none : m.walk.config.scrub_turns ≤ m.walk.walk.turns) where
  none_then : m.bus.setup.config.scrub_turns ≤ m.walk.walk.turns
  none_then = omega (arith, none, ap (λ (k : Config). k.scrub_turns) is.scrubber_at.config)

  pub none_moved : IsMoved scrubbed m m
  none_moved = scrub_stays m is none_then

  pub none_advances : Advances (scrubber_over m ≡ true) m m
  none_advances = inl (eq-eqb (m.bus.setup.config.scrub_turns - m.walk.walk.turns) 0 (omega (arith, none_then)), refl)
