-- The image of a generated program has two segments, which are short.
use Rattle.leon_main.proofs.ImageLemmas.{few_segments, short_segments}
use Rattle.leon_main.proofs.call.image_file.Goals as goal

pub write_image-requires-clause-few : goal.write_image-requires-clause-few
write_image-requires-clause-few c = few_segments c.args.start c.args.size c.in_ok-image.image c.in_ok-image.ensures.image

pub write_image-requires-clause-short : goal.write_image-requires-clause-short
write_image-requires-clause-short c =
    short_segments c.args.start c.args.size c.in_ok-image.image c.requires.most c.in_ok-image.ensures.image c.in_ok-image.ensures.loadable
