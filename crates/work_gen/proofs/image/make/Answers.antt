-- The image is the one of the definition, of which the rest is shown.
use Rattle.std.proofs.Common.{List, ℕ, ◌≡◌, ◌≤◌, ◌+◌, refl, subst}
use Rattle.std.specs.Prelude.{All}
use Rattle.lf_model.specs.declared.image.Image.{Image}
use Rattle.lf_model.specs.declared.image.Range.{Range}
use Rattle.lf_model.specs.declared.image.Segment.{Segment}
use Rattle.lf_model.specs.Start.{ram_first, IsLoadable}
use Rattle.work_gen.specs.Encoding.{bytes_of, IsEncoded}
use Rattle.work_gen.specs.Layout.{data_address, data_end, segments, text, instructions, generated_image, HoldsProgram}
use Rattle.work_gen.specs.Program.{program}
use Rattle.work_gen.proofs.Fetched.{decodes, loadable}
use Rattle.work_gen.proofs.image.make.Goals as goal

same_image : (start size address : ℕ) (code : List ℕ) (listed : List Segment) (ranges : List Range) → address ≡ data_address size
    → code ≡ bytes_of (program address start size) → listed ≡ segments code size → ranges ≡ text size
    → generated_image start size ≡ record { entry = ram_first; segments = listed; text = ranges }
unfolding generated_image
same_image start size address code listed ranges at is_code is_listed is_text = rw (is_text, is_listed, is_code, at) refl

encoded : (start size address : ℕ) → address ≡ data_address size → All IsEncoded (program address start size) → All IsEncoded (instructions start size)
encoded start size address at all = subst (λ (a : ℕ). All IsEncoded (program a start size)) at all

pub returns-clause-loadable : goal.returns-clause-loadable
returns-clause-loadable c =
    subst (λ (image : Image). (ram : ℕ) → data_end c.args.size ≤ ram_first + ram → IsLoadable ram image)
    (same_image c.args.start c.args.size c.data_address-address.result c.in_ok-code.code.items c.in_ok-segments.segments c.in_ok-text.text
    c.data_address-address.ensures c.in_ok-code.ensures.bytes c.in_ok-segments.ensures c.in_ok-text.ensures)
    (loadable c.args.start c.args.size
    (encoded c.args.start c.args.size c.data_address-address.result c.data_address-address.ensures c.in_ok-code.ensures.encoded))

pub returns-clause-decodes : goal.returns-clause-decodes
returns-clause-decodes c =
    subst (HoldsProgram (instructions c.args.start c.args.size))
    (same_image c.args.start c.args.size c.data_address-address.result c.in_ok-code.code.items c.in_ok-segments.segments c.in_ok-text.text
    c.data_address-address.ensures c.in_ok-code.ensures.bytes c.in_ok-segments.ensures c.in_ok-text.ensures)
    (decodes c.args.start c.args.size
    (encoded c.args.start c.args.size c.data_address-address.result c.data_address-address.ensures c.in_ok-code.ensures.encoded))
