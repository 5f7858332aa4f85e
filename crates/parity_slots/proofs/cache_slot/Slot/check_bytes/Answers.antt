use Rattle.std.proofs.Common.{ℕ, ◌+◌, ◌*◌, ◌≤◌, subst, arith}
use Rattle.flip_ledger.specs.Follows.{Follows}
use Rattle.lf_model.specs.Flips.{byte_budget}
use Rattle.parity_slots.specs.ParityWords.{bytes_in}
use Rattle.parity_units.specs.Events.{befallen, over}
use Rattle.lf_model.specs.Caches.Slot.{wanted_bytes}
use Rattle.parity_units.specs.declared.events.Event.TheVariants.{Check}
use Rattle.parity_slots.specs.Units.{with_units}
use Rattle.parity_slots.proofs.AccessLemmas.{lies}
use Rattle.parity_slots.proofs.ByteRows.{row_bytes_checked}
use Rattle.parity_slots.proofs.SlotLemmas.{run_units, follows_run, run_length}
use Rattle.parity_slots.proofs.cache_slot.Slot.check_bytes.Goals as goal

pub invariant_of-self : goal.invariant_of-self
invariant_of-self c =
    let inside = c.self.inside in
    let is = c.self.invariant in
    rw c.change.ensures.value (record {
      tag_bytes = is.tag_bytes;
      line_bytes = row_bytes_checked inside.state.bytes (bytes_in 32 inside.line) (wanted_bytes c.args.addr c.args.len) inside.state.slot.line_histories is.line_bytes;
      line_length = is.line_length;
      last_used = is.last_used;
    })

pub returns-clause-follows : goal.returns-clause-follows
returns-clause-follows c =
    let inside = c.self.inside in
    let is = c.self.invariant in
    let place = c.wanted_first-place.result in
    let count = c.wanted_count-count.result in
    let at = lies c.args.addr c.args.len c.requires.access in
    let fits : c.wanted_first-place.result + c.wanted_count-count.result ≤ 8 = omega (arith, at.bytes_fit, c.wanted_first-place.ensures, c.wanted_count-count.ensures) in
    let bytes : 4 * c.wanted_first-place.result + 4 * c.wanted_count-count.result ≤ 32 = omega (arith, fits) in
    let len = run_length inside.line c.wanted_first-place.result c.wanted_count-count.result is.line_length fits in
    rw (← c.self.view_is, ← c.wanted_first-place.ensures, ← c.wanted_count-count.ensures) (λ h follows.
    follows_run inside.state inside.tag inside.line inside.used is c.args.first h Check c.note_words.new.ledger (4 * place) (4 * count) bytes
    (subst (λ (n : ℕ). Follows byte_budget (over (c.args.first + 4 + 4 * c.wanted_first-place.result) (4 * n) (befallen Check) (with_units c.args.first inside.state.slot h)) c.note_words.new.ledger) len
    (c.note_words.ensures.follows (with_units c.args.first inside.state.slot h)
    (run_units inside.state inside.tag inside.line inside.used is c.args.first h place count fits) follows)))
