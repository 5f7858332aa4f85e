use Rattle.std.proofs.Common.{◌≡◌, ℕ, ◌+◌, ◌-◌, ◌<◌, ◌≤◌, List, [], ◌∷◌, ◌++◌, length, map, take, drop, slice_index_or, sym, ap, ◌∙◌, subst, arith}
use Rattle.std.specs.Prelude.{fold}
use Rattle.std.specs.List.{AllByRecursion}
use Rattle.std.proofs.lemmas.Grind.{fold-append}
use Rattle.std.proofs.lemmas.List.{take_all, take_more, get_or-drop, length-drop, map-append}
use Rattle.std.proofs.lemmas.Option.{get_or_from_slice_get}
use Rattle.lf_model.specs.Caches.Cache.{Cache}
use Rattle.lf_model.specs.Caches.Change.{snooped}
use Rattle.lf_model.specs.declared.bus.Entry.{Entry}
use Rattle.order_log.specs.LogState.{IsLogEntry}
use Rattle.parity_cache.proofs.KeepLemmas.{keeps_same, keeps_then}
use Rattle.parity_cache.specs.CacheState.{CacheState, with_cache}
use Rattle.snoop.specs.Snooping.{address_of}
use Rattle.snoop.proofs.catch_up.Goals as goal

-- the addresses of the entries from one on, with one entry more
addresses_more : (entries : List Entry) (seen i : ℕ) (e : Entry) → seen ≤ i → i < length entries → slice_index_or entries i e ≡ e
    → map address_of (take (i + 1 - seen) (drop seen entries)) ≡ map address_of (take (i - seen) (drop seen entries)) ++ e.addr ∷ []
addresses_more entries seen i e from lt is =
    let next : i + 1 - seen ≡ i - seen + 1 = omega arith in
    let place : seen + (i - seen) ≡ i = omega arith in
    let within : i - seen < length (drop seen entries) = omega (arith, length-drop seen entries, from, lt) in
    ap (λ (n : ℕ). map address_of (take n (drop seen entries))) next
    ∙ ap (map address_of) (take_more (drop seen entries) (i - seen) e within)
    ∙ map-append address_of (take (i - seen) (drop seen entries)) (slice_index_or (drop seen entries) (i - seen) e ∷ [])
    ∙ ap (λ (x : Entry). map address_of (take (i - seen) (drop seen entries)) ++ x.addr ∷ []) (get_or-drop seen entries (i - seen) e ∙ ap (λ (n : ℕ). slice_index_or entries n e) place ∙ is)

all_with : (xs : List Entry) (e : Entry) → AllByRecursion IsLogEntry xs → IsLogEntry e → AllByRecursion IsLogEntry (xs ++ e ∷ [])
all_with [] e all is = (is, tt)
all_with (x ∷ xs) e all is = (all.0, all_with xs e all.1 is)

-- and what the log says of each of them
entries_more : (entries : List Entry) (seen i : ℕ) (e : Entry) → seen ≤ i → i < length entries → slice_index_or entries i e ≡ e
    → AllByRecursion IsLogEntry (take (i - seen) (drop seen entries)) → IsLogEntry e → AllByRecursion IsLogEntry (take (i + 1 - seen) (drop seen entries))
entries_more entries seen i e from lt is all entry =
    let next : i + 1 - seen ≡ i - seen + 1 = omega arith in
    let place : seen + (i - seen) ≡ i = omega arith in
    let within : i - seen < length (drop seen entries) = omega (arith, length-drop seen entries, from, lt) in
    let here = get_or-drop seen entries (i - seen) e ∙ ap (λ (n : ℕ). slice_index_or entries n e) place ∙ is in
    subst (AllByRecursion IsLogEntry)
    (sym (ap (λ (n : ℕ). take n (drop seen entries)) next ∙ take_more (drop seen entries) (i - seen) e within ∙ ap (λ (x : Entry). take (i - seen) (drop seen entries) ++ x ∷ []) here))
    (all_with (take (i - seen) (drop seen entries)) e all entry)

pub loop-i-preserved : goal.loop-i-preserved
loop-i-preserved c =
    let entries : List Entry = c.args.log.now.entries in
    let lt : c.loop-i.i < length c.args.log.now.entries = omega (arith, c.loop-i-test.true, c.len-i-end.ensures.length) in
    let here = get_or_from_slice_get c.args.log.now.entries c.loop-i.i c.at.result c.at.result c.at.ensures.listed in
    let more = addresses_more c.args.log.now.entries c.args.seen c.loop-i.i c.at.result (omega arith) lt here in
    record {
      snooped =
          c.drop_line.ensures.dropped
          ∙ ap (λ (s : CacheState). with_cache (snooped s.cache c.at.result.addr) s) c.loop-i.invariant.snooped
          ∙ ap (λ (cache : Cache). with_cache cache c.args.cache.now)
          (sym (ap (fold snooped c.args.cache.now.cache) more
          ∙ fold-append snooped c.args.cache.now.cache (map address_of (take (c.loop-i.i - c.args.seen) (drop c.args.seen c.args.log.now.entries))) (c.at.result.addr ∷ [])));
      entries = entries_more c.args.log.now.entries c.args.seen c.loop-i.i c.at.result (omega arith) lt here c.loop-i.invariant.entries c.at.ensures.entry;
      clean = λ addr clean. c.drop_line.ensures.clean addr (c.loop-i.invariant.clean addr clean);
      keeps = keeps_then 0 0 0 c.args.cache.now c.loop-i.cache c.drop_line.new.self (omega arith) c.loop-i.invariant.keeps c.drop_line.ensures.keeps;
    }

pub loop-i-init : goal.loop-i-init
loop-i-init c =
    let none : c.args.seen - c.args.seen ≡ 0 = omega arith in
    record {
      snooped = sym (ap (λ (n : ℕ). with_cache (fold snooped c.args.cache.now.cache (map address_of (take n (drop c.args.seen c.args.log.now.entries)))) c.args.cache.now) none);
      entries = subst (λ (n : ℕ). AllByRecursion IsLogEntry (take n (drop c.args.seen c.args.log.now.entries))) (sym none) tt;
      clean = λ addr clean. clean;
      keeps = keeps_same c.args.cache.now;
    }

pub returns-clause-entries : goal.returns-clause-entries
returns-clause-entries c =
    let all : length (drop c.args.seen c.args.log.now.entries) ≤ c.loop-i.i - c.args.seen = omega (arith, length-drop c.args.seen c.args.log.now.entries, c.loop-i-test.false, c.len-i-end.ensures.length) in
    subst (AllByRecursion IsLogEntry) (take_all (c.loop-i.i - c.args.seen) (drop c.args.seen c.args.log.now.entries) all) c.loop-i.invariant.entries
