use Rattle.std.proofs.Common.{◌≡◌, ◌+◌, ◌*◌, ◌/◌, ◌≤◌, [], ◌∷◌, ap, ◌∙◌, arith}
use Rattle.std.proofs.lemmas.Slice.{pushed}
use Rattle.ram_words.proofs.LoadLemmas.{word_loaded, words_to, words_to-more}
use Rattle.ram_words.proofs.start.initial_words.Goals as goal

pub loop-place-preserved : goal.loop-place-preserved
loop-place-preserved c =
    let within : 4 * c.loop-place.place + 4 ≤ c.args.ram = omega (arith, c.loop-place-test.true, c.len-count.ensures, c.in_ok-bytes.ensures.length) in
    let image_word = word_loaded c.args.image.now c.in_ok-bytes.bytes.items c.args.ram c.loop-place.place c.in_ok-bytes.ensures.bytes within in
    let word = rw c.deref.ensures.value at c.word_at.ensures in
    pushed (c.word_at.result ∷ []) c.loop-place.invariant c.in_ok-push.was c.push.ensures.items
    ∙ words_to-more c.args.image.now c.loop-place.place (word ∙ image_word)

pub returns : goal.returns
returns c =
    let all : c.loop-place.place ≡ c.args.ram / 4 =
    omega (arith, c.loop-place-test.false, c.loop-place.auto.place-end, c.len-count.ensures, c.in_ok-bytes.ensures.length) in
    c.loop-place.invariant ∙ ap (words_to c.args.image.now) all
