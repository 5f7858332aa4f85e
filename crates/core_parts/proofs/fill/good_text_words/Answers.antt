use Rattle.std.proofs.Common.{ℕ, ◌+◌, ◌*◌, ◌^◌, ◌&&◌, Bool, not, ap, ◌∙◌}
use Rattle.std.specs.Int.{from_bool}
use Rattle.core_parts.proofs.ValidBits.{bit_by, valid_more}
use Rattle.core_parts.specs.Fills.{is_bad_in}
use Rattle.lf_model.specs.Start.{is_text_word}
use Rattle.core_parts.proofs.fill.good_text_words.Goals as goal

pub loop-j-preserved : goal.loop-j-preserved
loop-j-preserved c =
    let is_valid : ℕ → Bool = λ j. not (is_bad_in c.args.got.now j) && is_text_word c.args.site.now.image.text (c.args.line + 4 * j) in
    record {
      bits =
          c.with_word-valid.ensures.bits
          ∙ ap (λ (b : Bool). c.loop-j.valid + from_bool b * 2 ^ c.loop-j.j) c.is_good_text.ensures
          ∙ ap (λ (n : ℕ). n + bit_by is_valid c.loop-j.j) c.loop-j.invariant.bits
          ∙ valid_more is_valid c.loop-j.j;
      below = c.with_word-valid.ensures.below;
    }
