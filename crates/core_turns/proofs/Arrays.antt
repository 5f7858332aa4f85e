-- The arrays of a core after its turn are those of the definitions: it catches up, and the transfer fills a line, ends an atomic, or leaves
-- them.
use Rattle.std.proofs.Common.{◌≡◌, ◌∙◌, ◌+◌, ℕ, true, false, List, length, drop, refl, ap, sym, arith}
use Rattle.std.proofs.lemmas.List.{length-map, length-drop}
use Rattle.std.specs.Int.{from_bool}
use Rattle.core_parts.specs.CoreValue.{CoreValue}
use Rattle.core_parts.specs.Moves.{seen_with}
use Rattle.core_parts.specs.PortState.{arrays_in}
use Rattle.lf_model.specs.Course.Core.{Ground}
use Rattle.lf_model.specs.Course.Progress.{Progress}
use Rattle.lf_model.specs.Course.Syndromes.{has_address, enters_log}
use Rattle.lf_model.specs.Course.Turn.{caught_up, arrays_before}
use Rattle.lf_model.specs.Course.Turned.{own_turn, fetch_filled, transferred}
use Rattle.lf_model.specs.Effect.{cell_written}
use Rattle.lf_model.specs.Records.OwnTurns.{next_effect}
use Rattle.lf_model.specs.declared.bus.Entry.{Entry}
use Rattle.lf_model.specs.declared.bus.Transfer.{Transfer}
use Rattle.lf_model.specs.declared.bus.TurnKind.TheVariants.{Fetch, Load, Store, Atomic}
use Rattle.snoop.specs.Snooping.{address_of}
use Rattle.core_turns.specs.AfterTurn.{text_valid, data_valid, unseen_in, snooping, fetched, loaded, state_in, exchanged}
use Rattle.core_turns.specs.BeforeTurn.{seat_at_turn, BeforeTurn}

module _ (g : Ground) (seat : Progress) (v : CoreValue) (log : List Entry) (t : Transfer) (h : BeforeTurn g seat v log t.why) where
  abbrev pub at_turn : Progress
  at_turn = seat_at_turn log v seat

  -- the core once it has caught up
  abbrev pub ready : CoreValue
  ready = snooping log v

  -- ---- what it has seen then: all the log, and its own entry

  pub seen_all : seen_with t at_turn ≡ length log + from_bool (enters_log t)
  seen_all =
      rw (h.is_seat.unseen, h.is_seat.seen)
      (omega (arith, h.within, length-map (drop v.log_seen log) address_of, length-drop v.log_seen log))

  -- ---- its arrays

  -- as the transfer begins
  pub arrays_ready : arrays_before g t.why (next_effect g seat) at_turn ≡ arrays_in ready.ports
  arrays_ready = rw h.is_seat.unseen (ap (caught_up (unseen_in log v)) (sym h.tried))

  pub arrays_stay : has_address t ≡ false → arrays_in ready.ports ≡ (own_turn g t at_turn).arrays
  unfolding own_turn
  arrays_stay nowhere = rw (nowhere, h.is_seat.unseen) (ap (caught_up (unseen_in log v)) h.tried)

  pub arrays_made : has_address t ≡ true → transferred g.setup.image (next_effect g seat) t (arrays_in ready.ports) t.kind ≡ (own_turn g t at_turn).arrays
  unfolding own_turn
  arrays_made placed = rw (placed, h.is_seat.unseen)
      (ap (λ a. transferred g.setup.image (next_effect g seat) t (caught_up (unseen_in log v) a) t.kind) h.tried)

  module _ (placed : has_address t ≡ true) where
    pub arrays_fetched : (words : List ℕ) → t.kind ≡ Fetch → arrays_in (fetched t words ready).ports ≡ (own_turn g t at_turn).arrays
    unfolding text_valid
    arrays_fetched words kind =
        ap (λ s. fetch_filled s.image t (arrays_in ready.ports)) (sym h.setup)
        ∙ (ap (transferred g.setup.image (next_effect g seat) t (arrays_in ready.ports)) (sym kind) ∙ arrays_made placed)

    pub arrays_loaded : (words : List ℕ) → t.kind ≡ Load → arrays_in (loaded t words ready).ports ≡ (own_turn g t at_turn).arrays
    unfolding data_valid
    arrays_loaded words kind = ap (transferred g.setup.image (next_effect g seat) t (arrays_in ready.ports)) (sym kind) ∙ arrays_made placed

    pub arrays_drained : t.kind ≡ Store → arrays_in ready.ports ≡ (own_turn g t at_turn).arrays
    arrays_drained kind = ap (transferred g.setup.image (next_effect g seat) t (arrays_in ready.ports)) (sym kind) ∙ arrays_made placed

    -- an atomic that met no bad word
    pub arrays_exchanged : (addr len new rd got : ℕ) → t.kind ≡ Atomic → enters_log t ≡ true → t.addr ≡ addr → (next_effect g seat).writes ≡ cell_written (state_in ready) rd
        → arrays_in (exchanged addr len new rd got ready).ports ≡ (own_turn g t at_turn).arrays
    arrays_exchanged addr len new rd got kind enters at writes =
        exchanged_at ∙ (ap (transferred g.setup.image (next_effect g seat) t (arrays_in ready.ports)) (sym kind) ∙ arrays_made placed)
      where
        exchanged_at : arrays_in (exchanged addr len new rd got ready).ports ≡ transferred g.setup.image (next_effect g seat) t (arrays_in ready.ports) Atomic
        exchanged_at = rw (enters, at, writes) refl

    -- one that met a bad word
    pub arrays_refused : t.kind ≡ Atomic → enters_log t ≡ false → arrays_in ready.ports ≡ (own_turn g t at_turn).arrays
    arrays_refused kind refused = stays ∙ (ap (transferred g.setup.image (next_effect g seat) t (arrays_in ready.ports)) (sym kind) ∙ arrays_made placed)
      where
        stays : arrays_in ready.ports ≡ transferred g.setup.image (next_effect g seat) t (arrays_in ready.ports) Atomic
        stays = rw refused refl
