use Rattle.std.proofs.Common.{◌≡◌, [], map, take}
use Rattle.coded_words.proofs.words.fresh_words.Given as goal

abbrev pub invariant-loop-v : goal.invariant-loop-v
invariant-loop-v l = l.words.items ≡ map (λ v. record { value = v; history = [] }) (take l.v-index l.values)
