-- The transfer that a core makes at its turn is the one that its step needed.
use Rattle.std.proofs.Common.{◌≡◌, ◌∙◌, ℕ, true, false, nat_le, List, Option, Some, None, length, refl, ap, sym, inl, inr, option_map}
use Rattle.std.proofs.lemmas.Bool.{cases_Bool}
use Rattle.core_parts.specs.CoreValue.{CoreValue}
use Rattle.core_parts.specs.Seat.{NeedsTurn}
use Rattle.core_course.proofs.TurnTargets.{NoFetch, drains_no_fetch, untried_no_fetch, no_text_no_fetch, fetch_asked, load_target_is, atomic_target_is, Front}
use Rattle.core_parts.specs.Makes.{Makes}
use Rattle.lf_model.specs.Bus.Words.{words_read}
use Rattle.lf_model.specs.Course.Arrays.{Arrays, begun}
use Rattle.lf_model.specs.Course.Attempt.{comes_to, attempt}
use Rattle.lf_model.specs.Course.Core.{Ground}
use Rattle.lf_model.specs.Course.Course.{with_unseen}
use Rattle.lf_model.specs.Course.Outcome.Need.{NoTurn}
use Rattle.lf_model.specs.Course.Outcome.Need.{Turn as Asks}
use Rattle.lf_model.specs.Course.Outcome.Outcome.{NoText}
use Rattle.lf_model.specs.Course.Progress.{Progress, store_waits, buffer_full}
use Rattle.lf_model.specs.Course.Turn.{Target, is_past_steps, turn_attempt, turn_needs, arrays_before, line_target, store_target, target_of, fill_way, addressed_at}
use Rattle.lf_model.specs.Effect.{Effect}
use Rattle.lf_model.specs.Names.{same_why}
use Rattle.lf_model.specs.Records.OwnTurns.{next_effect, with_word_count, IsRightTurn}
use Rattle.lf_model.specs.Start.{is_text_word}
use Rattle.lf_model.specs.declared.bus.Transfer.{Transfer}
use Rattle.lf_model.specs.declared.bus.TurnKind.TheVariants as kinds
use Rattle.lf_model.specs.declared.bus.Why.{Why}
use Rattle.lf_model.specs.declared.bus.Why.TheVariants as whys
use Rattle.lf_model.specs.declared.step.Turn.{Turn}
use Rattle.lf_model.specs.declared.step.Turn.TheVariants.{Fetch, Load, Atomic, Drain, Snoop}

-- ---- a transfer with these fields

same_transfer : (t : Transfer) (addr way len words : ℕ) → t.addr ≡ addr → t.way ≡ way → t.len ≡ len → t.words ≡ words → record t { addr = addr; way = way; len = len; words = words } ≡ t
same_transfer t addr way len words a b c d = rw (sym a, sym b, sym c, sym d) refl

module _ (g : Ground) (k : Progress) (t : Transfer) where
  abbrev e : Effect
  e = next_effect g k

  abbrev Placed : Option Target → Type 0
  Placed p = record (with_word_count (addressed_at g e k t p)) { syn = t.syn } ≡ t

  placed_at : (p : Target) → t.addr ≡ p.addr → t.len ≡ p.len → t.way ≡ fill_way t.addr (arrays_before g t.why e k) t.kind → t.words ≡ length (words_read t) → Placed (Some p)
  placed_at p addr len way words =
      let read : length (words_read t) ≡ length (words_read (record t { addr = p.addr; len = p.len })) =
      ap (λ a. length (words_read (record t { addr = a }))) addr ∙ ap (λ n. length (words_read (record t { addr = p.addr; len = n }))) len in
      same_transfer t p.addr (fill_way p.addr (arrays_before g t.why e k) t.kind) p.len (length (words_read (record t { addr = p.addr; len = p.len })))
      addr (way ∙ ap (λ a. fill_way a (arrays_before g t.why e k) t.kind) addr) len (words ∙ read)

  placed_nowhere : t.addr ≡ 0 → t.len ≡ 0 → t.way ≡ 0 → t.words ≡ length (words_read t) → Placed None
  placed_nowhere addr len way words = same_transfer t 0 0 0 0 addr way len (words ∙ ap (λ a. length (words_read (record t { addr = a }))) addr)

  -- by its target
  pub right_at : (p : Option Target) → target_of g k e t.kind ≡ p → Placed p → turn_needs g t.why (turn_attempt g t.why e k) k ≡ Asks t.kind t.why → IsRightTurn g t k
  right_at p target placed needed = record { needed = needed; placed = ap (λ o. record (with_word_count (addressed_at g e k t o)) { syn = t.syn }) target ∙ placed }

-- ---- by kinds

attempt_no_text : (g : Ground) (k : Progress) (e : Effect) (a : Arrays) → is_text_word g.setup.image.text k.run.state.ctl.pc ≡ false
    → attempt g.setup.image k.run.state e a ≡ comes_to NoText a
unfolding attempt
attempt_no_text g k e a not_text = rw not_text refl

-- where PC is no text word, no step asks for a fetch
turn_no_fetch : (g : Ground) (k : Progress) (e : Effect) (why : Why) → is_text_word g.setup.image.text k.run.state.ctl.pc ≡ false
    → NoFetch (turn_needs g why (turn_attempt g why e k) k)
turn_no_fetch g k e why not_text = elim (cases_Bool (is_past_steps g k)) [
  | inl past ↦ rw past (drains_no_fetch (store_waits k) whys.End NoTurn tt)
  | inr in_step ↦ elim (cases_Bool (same_why why whys.Sched)) [
    | inl sched ↦ rw (in_step, sched) (drains_no_fetch (store_waits k) whys.Sched NoTurn tt)
    | inr other ↦ elim (cases_Bool (same_why why whys.Window)) [
      | inl leaves ↦ rw (in_step, other, leaves) (untried_no_fetch (nat_le g.setup.config.window k.quiet) k.run.state.ctl.et (store_waits k) (buffer_full g k))
      | inr tries ↦ rw (in_step, other, tries, attempt_no_text g k e (begun g.flips k.steps k.arrays) not_text)
          (no_text_no_fetch (nat_le g.setup.config.window k.quiet) k.run.state.ctl.et (store_waits k) (buffer_full g k))
    ]
  ]
]

module _ (g : Ground) (k : Progress) (addrs : List ℕ) (v : CoreValue) (t : Transfer) where
  abbrev at : Progress
  at = with_unseen addrs k

  -- a drain
  right_drain : t.kind ≡ kinds.Store → (why : Why) → Makes g at v (Drain why) t → Front k.drained g.given.stores t
      → turn_needs g t.why (turn_attempt g t.why (next_effect g at) at) at ≡ Asks t.kind t.why → IsRightTurn g t at
  right_drain kind why m f needed = right_at g at t (Some (store_target f.entry))
      (ap (target_of g at (next_effect g at)) kind ∙ ap (option_map store_target) f.there)
      (placed_at g at t (store_target f.entry) f.addr f.len m.way m.words) needed

  module _ (waits : store_waits k ≡ true) (f : Front k.drained g.given.stores t) where
    -- by the schedule
    pub right_sched : is_past_steps g k ≡ false → Makes g at v (Drain whys.Sched) t → IsRightTurn g t at
    right_sched in_step m = right_drain m.kind whys.Sched m f (rw (m.why, m.kind, in_step, waits) refl)

    -- after the last step
    pub right_last : is_past_steps g k ≡ true → Makes g at v (Drain whys.End) t → IsRightTurn g t at
    right_last past m = right_drain m.kind whys.End m f (rw (m.why, m.kind, past, waits) refl)

  -- the turn that a step needs
  needed_by : (turn : Turn) (a : Arrays) → NeedsTurn g k turn a → Makes g at v turn t → turn_needs g t.why (turn_attempt g t.why (next_effect g at) at) at ≡ Asks t.kind t.why
  needed_by turn a n m = rw (m.why, m.kind) n.needed

  -- a drain is of the first store that waits
  abbrev pub Drains : Turn → Type 0
  Drains (Fetch line why) = Unit {0}
  Drains (Load addr len why) = Unit {0}
  Drains (Atomic addr len new rd) = Unit {0}
  Drains (Drain why) = Front k.drained g.given.stores t
  Drains Snoop = Unit {0}

  is_text : (line : ℕ) (why : Why) (a : Arrays) → NeedsTurn g k (Fetch line why) a → is_text_word g.setup.image.text k.run.state.ctl.pc ≡ true
  is_text line why a n = elim (cases_Bool (is_text_word g.setup.image.text k.run.state.ctl.pc)) [
    | inl so ↦ so
    | inr not_text ↦ absurd (fetch_asked _ why n.needed (turn_no_fetch g k (next_effect g k) why not_text))
  ]

  pub right_needed : (turn : Turn) (a : Arrays) → NeedsTurn g k turn a → Makes g at v turn t → Drains turn → IsRightTurn g t at
  right_needed (Fetch line why) a n m f = right_at g at t (Some (line_target k.run.state.ctl.pc))
      (ap (target_of g at (next_effect g at)) m.kind ∙ rw (is_text line why a n) refl)
      (placed_at g at t (line_target k.run.state.ctl.pc) (m.aimed.0 ∙ n.aimed) m.aimed.1 m.way m.words) (needed_by (Fetch line why) a n m)
  right_needed (Load addr len why) a n m f = right_at g at t (Some (line_target addr))
      (ap (target_of g at (next_effect g at)) m.kind ∙ load_target_is (next_effect g at).access addr len n.aimed)
      (placed_at g at t (line_target addr) m.aimed.0 m.aimed.1 m.way m.words) (needed_by (Load addr len why) a n m)
  right_needed (Atomic addr len new rd) a n m f = right_at g at t (Some (record { addr = addr; len = len; number = length k.run.ops }))
      (ap (target_of g at (next_effect g at)) m.kind ∙ atomic_target_is (next_effect g at).access (length k.run.ops) addr len new rd n.aimed)
      (placed_at g at t (record { addr = addr; len = len; number = length k.run.ops }) m.aimed.0 m.aimed.1 m.way m.words) (needed_by (Atomic addr len new rd) a n m)
  right_needed (Drain why) a n m f = right_drain m.kind why m f (needed_by (Drain why) a n m)
  right_needed Snoop a n m f = right_at g at t None
      (ap (target_of g at (next_effect g at)) m.kind)
      (placed_nowhere g at t m.aimed.0 m.aimed.1 (m.way ∙ ap (fill_way t.addr (arrays_before g t.why (next_effect g at) at)) m.kind) m.words) (needed_by Snoop a n m)
