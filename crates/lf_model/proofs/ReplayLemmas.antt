-- The run of all masters: each of its cores is that core's course over the transfers that were made, and where every transfer
-- reported is the one made, these are the transfers reported.
use Rattle.std.proofs.Common.{◌≡◌, ◌∙◌, ◌++◌, List, [], ◌∷◌, fold, map, refl, ap, sym}
use Rattle.std.proofs.lemmas.List.{append_assoc, append-nil, map-append, map-id}
use Rattle.std.proofs.lemmas.Simd.{map-map}
use Rattle.lf_model.specs.Bus.Replay.{Core, Replay, core_start, core_after, replay_start, made_turn, replay_turn}
use Rattle.lf_model.specs.Bus.Words.{words_begun}
use Rattle.lf_model.specs.Course.Core.{Ground}
use Rattle.lf_model.specs.Course.Course.{observe, course}
use Rattle.lf_model.specs.Ledger.Account.{transfer_made, without_length}
use Rattle.lf_model.specs.declared.bus.Transfer.{Transfer}
use Rattle.lf_model.specs.declared.setup.Setup.{Setup}

module _ (setup : Setup) where
  -- the transfer that is made where this one is reported
  abbrev pub made_in : Replay → Transfer → Transfer
  made_in r t = (made_turn setup r (words_begun setup.flips r.turns r.words) t).transfer

  -- those that are made where these are reported
  abbrev pub made_from : Replay → List Transfer → List Transfer
  made_from r [] = []
  made_from r (t ∷ ts) = made_in r t ∷ made_from (replay_turn setup r t) ts

  -- a core after these transfers
  abbrev pub core_over : List Transfer → Core → Core
  core_over ts c = record c { progress = fold (observe c.on) c.progress ts }

  turn_cores : (r : Replay) (t : Transfer) → (replay_turn setup r t).cores ≡ map (core_after (made_in r t)) r.cores
  unfolding replay_turn
  turn_cores r t = refl

  turn_made : (r : Replay) (t : Transfer) → map transfer_made (replay_turn setup r t).made ≡ map transfer_made r.made ++ made_in r t ∷ []
  unfolding replay_turn
  turn_made r t = map-append transfer_made r.made _

  pub cores_after : (r : Replay) (ts : List Transfer) → (fold (replay_turn setup) r ts).cores ≡ map (core_over (made_from r ts)) r.cores
  cores_after r [] = sym (map-id r.cores)
  cores_after r (t ∷ ts) =
      cores_after (replay_turn setup r t) ts
      ∙ (ap (map (core_over (made_from (replay_turn setup r t) ts))) (turn_cores r t)
      ∙ map-map (core_over (made_from (replay_turn setup r t) ts)) (core_after (made_in r t)) r.cores)

  pub made_after : (r : Replay) (ts : List Transfer) → map transfer_made (fold (replay_turn setup) r ts).made ≡ map transfer_made r.made ++ made_from r ts
  made_after r [] = sym (append-nil (map transfer_made r.made))
  made_after r (t ∷ ts) =
      made_after (replay_turn setup r t) ts
      ∙ (ap (λ us. us ++ made_from (replay_turn setup r t) ts) (turn_made r t)
      ∙ append_assoc (map transfer_made r.made) (made_in r t ∷ []) (made_from (replay_turn setup r t) ts))

  -- a core that has made nothing yet, after these transfers
  abbrev pub core_after_all : List Transfer → Ground → Core
  core_after_all ts g = record { on = g; progress = course g ts }

  -- each core is its course over the transfers that were made
  pub cores_are_courses : (grounds : List Ground) (ts : List Transfer)
      → (fold (replay_turn setup) (replay_start setup grounds) ts).cores
      ≡ map (core_after_all (map transfer_made (fold (replay_turn setup) (replay_start setup grounds) ts).made)) grounds
  cores_are_courses grounds ts =
      cores_after (replay_start setup grounds) ts
      ∙ (map-map (core_over (made_from (replay_start setup grounds) ts)) core_start grounds
      ∙ ap (λ us. map (core_after_all us) grounds) (sym (made_after (replay_start setup grounds) ts)))

  -- where each transfer reported is the one that is made, those made are those reported
  pub made_as_reported : (r : Replay) (ts : List Transfer)
      → ((pre post : List Transfer) (t : Transfer) → ts ≡ pre ++ t ∷ post → made_in (fold (replay_turn setup) r pre) t ≡ t) → made_from r ts ≡ ts
  made_as_reported r [] each = refl
  made_as_reported r (t ∷ ts) each = rw (each [] ts t refl, made_as_reported (replay_turn setup r t) ts (λ pre post u split. each (t ∷ pre) post u (ap (λ us. t ∷ us) split))) refl

  -- the run of all masters doesn't look at the lengths that transfers report
  pub turn_without_length : (r : Replay) (t : Transfer) → replay_turn setup r (without_length t) ≡ replay_turn setup r t
  unfolding replay_turn made_turn
  turn_without_length r t = refl

  pub turns_without_length : (r : Replay) (ts : List Transfer) → fold (replay_turn setup) r (map without_length ts) ≡ fold (replay_turn setup) r ts
  turns_without_length r [] = refl
  turns_without_length r (t ∷ ts) = ap (λ q. fold (replay_turn setup) q (map without_length ts)) (turn_without_length r t) ∙ turns_without_length (replay_turn setup r t) ts
