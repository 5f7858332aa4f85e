use Rattle.std.proofs.Common.{◌≡◌, ℕ, List, length, arith, subst, sym}
use Rattle.std.proofs.lemmas.Grind.{common_steps}
use Rattle.tso_audit.specs.LastPlaces.{HasLaterPlaces}
use Rattle.tso_audit.proofs.WatchedWords.{words_final, final_words}
use Rattle.tso_audit.proofs.watched.watched_words.Goals as goal

pub returns : goal.returns
returns c =
    let size : length c.deref-2.result.now ≡ c.args.setup.now.config.ram = grind (arith, common_steps) in
    let noted : HasLaterPlaces c.as_slice-order.result.now 0 (length c.as_slice-order.result.now) 0 c.deref-2.result.now =
    let same : c.deref-2.result.now ≡ c.note_all.new.places = grind (arith, common_steps) in
    subst (λ (xs : List ℕ). HasLaterPlaces c.as_slice-order.result.now 0 (length c.as_slice-order.result.now) 0 xs) (sym same) c.note_all.ensures in
    record {
      right = (
        (λ is. words_final c.args.setup.now c.args.trace.now c.as_slice-order.result.now c.deref.result.now c.in_ok-at_start.at_start.items c.deref-2.result.now c.as_slice.result.now
            c.as_slice-order.ensures.items c.deref.ensures.value c.as_slice.ensures.items c.in_ok-at_start.ensures.bytes size noted c.requires.watch (c.show_words.ensures.0 is)),
        (λ all. c.show_words.ensures.1
            (final_words c.args.setup.now c.args.trace.now c.as_slice-order.result.now c.deref.result.now c.in_ok-at_start.at_start.items c.deref-2.result.now c.as_slice.result.now
            c.as_slice-order.ensures.items c.deref.ensures.value c.as_slice.ensures.items c.in_ok-at_start.ensures.bytes size noted c.requires.watch all)),
      );
    }
