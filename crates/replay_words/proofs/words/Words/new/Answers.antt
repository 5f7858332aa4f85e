use Rattle.std.proofs.Common.{◌≡◌, ℕ, List, [], length, map, ap, ap₂, ◌∙◌}
use Rattle.std.specs.Prelude.{replicate}
use Rattle.lf_model.specs.Bus.Words.{Word, words_struck}
use Rattle.lf_model.specs.declared.flip.Flip.{Flip}
use Rattle.replay_units.specs.Units.{Units}
use Rattle.replay_words.specs.Places.{addr_of, words_of}
use Rattle.replay_words.specs.WordsState.{WordsState}
use Rattle.replay_words.proofs.PlaceLemmas.{words_at_start}
use Rattle.replay_words.proofs.StrikeLemmas.{pending_start}
use Rattle.replay_words.proofs.words.Words.new.Goals as goal

pub invariant_of-result : goal.invariant_of-result
invariant_of-result c =
    let script = c.args.setup.now.flips in
    let places = c.in_ok-places.places in
    let fresh : c.in_ok-new.field-0 ≡ record { budget = 2; histories = replicate (length places) []; flips = length script } =
    c.in_ok-new.ensures ∙ ap₂ (λ (n k : ℕ). record { budget = 2; histories = replicate n []; flips = k }) c.len.ensures (ap length c.as_slice-flips.ensures.items) in
    let planned = rw c.as_slice-flips.ensures.items at c.in_ok-new-2.ensures in
    rw c.of.ensures (record {
      distinct = c.in_ok-places.ensures.distinct;
      aligned = c.in_ok-places.ensures.aligned;
      planned = planned;
      pending = pending_start c.args.setup.now.config.ram script c.requires.aimed places c.in_ok-new.field-0 fresh c.in_ok-new-2.field-0 planned;
    })

pub returns : goal.returns
returns c =
    let script = c.args.setup.now.flips in
    let places = c.in_ok-places.places in
    let fresh : c.in_ok-new.field-0 ≡ record { budget = 2; histories = replicate (length places) []; flips = length script } =
    c.in_ok-new.ensures ∙ ap₂ (λ (n k : ℕ). record { budget = 2; histories = replicate n []; flips = k }) c.len.ensures (ap length c.as_slice-flips.ensures.items) in
    let addresses = c.in_ok-places.ensures.addresses ∙ ap (λ (flips : List Flip). map addr_of (words_struck flips)) c.as_slice-flips.ensures.items in
    let made : List Flip → List Word → WordsState = λ flips words. record { script = flips; words = words; turns = 0 } in
    ap₂ made c.of.ensures
    (ap (λ (u : Units). words_of places u.histories) fresh ∙ ap (λ (addrs : List ℕ). words_of addrs (replicate (length addrs) [])) addresses ∙ words_at_start script)
