use Rattle.std.proofs.Common.{◌≡◌, ◌+◌, ◌*◌, ◌^◌, ◌<◌, ◌&&◌, not}
use Rattle.core_parts.proofs.ValidBits.{valid_below}
use Rattle.core_parts.specs.Fills.{is_bad_in}
use Rattle.core_parts.proofs.fill.good_text_words.Given as goal
use Rattle.lf_model.specs.Start.{is_text_word}

abbrev pub invariant-loop-j : goal.invariant-loop-j
invariant-loop-j l = record {
  bits : l.valid ≡ valid_below (λ j. not (is_bad_in l.got j) && is_text_word l.site.image.text (l.line + 4 * j)) l.j;
  below : l.valid < 2 ^ l.j;
}
