-- The image of a generated program can be written, and what its file takes.
use Rattle.std.proofs.Common.{ℕ, ◌≡◌, ◌≤◌, ◌+◌, ◌^◌, length, subst, sym, arith}
use Rattle.std.specs.Prelude.{All}
use Rattle.std.proofs.lemmas.List.Elements.{All-from_recursion, recursion_from_All}
use Rattle.lf_model.specs.Start.{ram_first, IsLoadable}
use Rattle.lf_model.specs.declared.image.Image.{Image}
use Rattle.lf_model.specs.declared.image.Segment.{Segment}
use Rattle.work_gen.specs.Layout.{data_end, generated_image}

-- each segment has few bytes
short : (start size : ℕ) → size ≤ 100000 → ((ram : ℕ) → data_end size ≤ ram_first + ram → IsLoadable ram (generated_image start size))
    → All (λ s. length s.bytes ≤ 2 ^ 24) (generated_image start size).segments
unfolding generated_image
short start size most loads =
    let image = generated_image start size in
    let whole : Segment → Type 0 = λ s. length s.bytes ≤ s.size in
    let few : Segment → Type 0 = λ s. length s.bytes ≤ 2 ^ 24 in
    let each = recursion_from_All whole image.segments (loads (2 ^ 24) (omega (arith, most))).bytes in
    All-from_recursion few image.segments (omega (arith, each.0, most), (omega arith, tt))

few : (start size : ℕ) → length (generated_image start size).segments ≤ 64
unfolding generated_image
few start size = omega arith

-- what the writer of images requires
pub few_segments : (start size : ℕ) (image : Image) → image ≡ generated_image start size → length image.segments ≤ 64
few_segments start size image is = subst (λ (i : Image). length i.segments ≤ 64) (sym is) (few start size)

pub short_segments : (start size : ℕ) (image : Image) → size ≤ 100000 → image ≡ generated_image start size
    → ((ram : ℕ) → data_end size ≤ ram_first + ram → IsLoadable ram image) → All (λ s. length s.bytes ≤ 2 ^ 24) image.segments
short_segments start size image most is loads =
    subst (λ (i : Image). All (λ s. length s.bytes ≤ 2 ^ 24) i.segments) (sym is)
    (short start size most (λ ram room. subst (IsLoadable ram) is (loads ram room)))
