-- A turn on the bus after which a core goes on: from what the core knew, and what came to log and transfers since.
use Rattle.std.proofs.Common.{◌≡◌, ◌∙◌, ◌+◌, ◌<◌, ◌≤◌, ◌==◌, ◌++◌, ℕ, true, false, List, [], ◌∷◌, None, length, take, drop, refl, ap, sym, subst}
use Rattle.std.proofs.lemmas.Bool.{eq-eqb}
use Rattle.std.proofs.lemmas.List.{append-nil, take-append-drop}
use Rattle.std.specs.List.{AllByRecursion as Each, list_all}
use Rattle.core_laws.proofs.Given.{given_more}
use Rattle.core_laws.specs.Running.{with_later}
use Rattle.core_parts.specs.CoreValue.{CoreValue}
use Rattle.core_parts.specs.Moves.{Turns, Exchanges}
use Rattle.core_parts.specs.declared.phase.Phase.TheVariants.{Between}
use Rattle.core_course.proofs.MayTurns.{may_right}
use Rattle.core_course.proofs.RightLater.{right_later}
use Rattle.core_course.proofs.Running.{ground_running, IsUnended, RunsOn, runs_on}
use Rattle.core_course.proofs.TurnGround.{turn_place, TakesTurn, running_new}
use Rattle.core_course.proofs.TurnSees.{sees_turn, sees_drain, sees_atomic}
use Rattle.core_course.proofs.Completing.{Sees}
use Rattle.core_course.proofs.Turns.{Shown, turn_on, exchange_on, drain_on}
use Rattle.core_course.specs.Calls.{MayTurn}
use Rattle.core_parts.specs.Completes.{Keeps, op_of, CompletesNone, Completes}
use Rattle.core_course.specs.CoreOk.{buffer_of, CoreOk}
use Rattle.core_course.specs.Lines.{LinesAre}
use Rattle.core_parts.specs.Makes.{Makes}
use Rattle.lf_model.specs.Course.Core.{given_by}
use Rattle.lf_model.specs.Course.Turned.{bad_wanted}
use Rattle.lf_model.specs.Effect.{Access, AccessKind}
use Rattle.lf_model.specs.Ledger.Steps.{is_last_drain}
use Rattle.lf_model.specs.Names.{same_kind}
use Rattle.lf_model.specs.Operation.{made}
use Rattle.lf_model.specs.Records.BusRecord.{is_in_memory}
use Rattle.lf_model.specs.Records.OwnTurns.{next_effect, IsRightTurn}
use Rattle.lf_model.specs.Records.SeenOrder.{is_entry_of}
use Rattle.lf_model.specs.Start.{initial_byte}
use Rattle.lf_model.specs.Value.{Reads}
use Rattle.lf_model.specs.declared.bus.Entry.{Entry}
use Rattle.lf_model.specs.declared.bus.Transfer.{Transfer}
use Rattle.lf_model.specs.declared.bus.TurnKind.TheVariants.{Store, Atomic}
use Rattle.lf_model.specs.declared.step.Turn.{Turn}
use Rattle.lf_model.specs.declared.trace.CoreEnd.TheVariants.{Limit}
use Rattle.lf_model.specs.declared.trace.Op.{Op}

-- ---- what is shown of every turn

-- seen and ts: the entries and transfers that the core had seen; more and us: those that came since, all of others; t: its own transfer
pub record MakesTurn (old : CoreValue) (seen more : List Entry) (ts us : List Transfer) (turn : Turn) (t : Transfer) : Type 0 where
  pub ok : CoreOk old seen ts
  pub unended : IsUnended old.phase
  pub may : MayTurn old turn
  pub makes : Makes (ground_running old) (turn_place old ts us) old turn t
  pub entries : Each (λ e. is_entry_of old.arch.core e ≡ false) more
  pub others : Each (λ (u : Transfer). (old.arch.core == u.master) ≡ false) us
  pub in_memory : list_all (is_in_memory old.setup.config.ram) ((ts ++ us) ++ t ∷ []) ≡ true
  pub master : t.master ≡ old.arch.core
  pub step : t.step ≡ old.steps

-- the core after it goes on; it remembers how long this log is, and how many transfers there are
pub record GoesOnAfter (old new : CoreValue) (log : List Entry) (transfers : List Transfer) : Type 0 where
  pub keeps : Keeps old new
  pub phase : new.phase ≡ Between
  pub named : new.named ≡ old.named
  pub log_length : length log ≡ new.log_seen
  pub turns : length transfers ≡ new.turns_seen
  pub few : length new.ports.waiting ≤ 8

module _ (old new : CoreValue) (seen more : List Entry) (ts us : List Transfer) (turn : Turn) (t : Transfer) (x : MakesTurn old seen more ts us turn t) where
  pub now : RunsOn old seen ts
  now = runs_on old seen ts x.unended x.ok

  pub takes : TakesTurn old ts us t
  takes = record { unended = x.unended; others = x.others; in_memory = x.in_memory; own = eq-eqb old.arch.core t.master (sym x.master); step = x.step }

  -- its transfer is right
  pub right_so_far : IsRightTurn (ground_running old) t (turn_place old ts us)
  right_so_far = may_right old seen ts us t now x.ok.left turn x.unended x.may x.makes

  module _ (ops : List Op) (added : new.ops ≡ old.ops ++ ops) (no_store : (given_by ops).stores ≡ []) (log : List Entry) (y : GoesOnAfter old new log ((ts ++ us) ++ t ∷ [])) where
    given : given_by new.ops ≡ with_later (given_by old.ops) (given_by ops)
    given = ap given_by added ∙ given_more old.ops ops

    right : IsRightTurn (ground_running new) t (turn_place old ts us)
    right = subst (λ g. IsRightTurn g t (turn_place old ts us)) (sym (running_new old new seen ts us t (given_by ops) now takes y.keeps given))
        (right_later old.setup old.arch.core (given_by old.ops) (given_by ops) Limit old.setup.config.steps (turn_place old ts us) t no_store refl right_so_far)

    shown : (buffer : List Entry) → Sees old new log buffer → LinesAre new log buffer → Shown old new seen ts us t (given_by ops) now takes y.keeps given log buffer
    shown buffer sees lines = record {
      right = right;
      phase = y.phase;
      sees = sees;
      log_length = y.log_length;
      turns = y.turns;
      few = y.few;
      lines = lines;
      named = y.named;
    }

  -- ---- by kinds

  none_added : new.ops ≡ old.ops → new.ops ≡ old.ops ++ []
  none_added same = same ∙ sym (append-nil old.ops)

  -- a fill or a snoop
  pub fills : GoesOnAfter old new (seen ++ more) ((ts ++ us) ++ t ∷ []) → CompletesNone old new → Turns (ground_running new) (turn_place old ts us) t old new
      → same_kind t.kind Atomic ≡ false → old.steps < old.setup.config.steps
      → bad_wanted (turn_place old ts us).run.state.ctl.pc (next_effect (ground_running new) (turn_place old ts us)) t ≡ None
      → LinesAre new (seen ++ more) (buffer_of old) → CoreOk new (seen ++ more) ((ts ++ us) ++ t ∷ [])
  fills y c r plain left good lines =
      turn_on old new seen ts us t (given_by []) now takes y.keeps (given [] (none_added c.ops) refl (seen ++ more) y) (seen ++ more) (buffer_of old)
      (shown [] (none_added c.ops) refl (seen ++ more) y (buffer_of old) (sees_turn old new seen ts more now.goes_on x.entries c) lines) good r plain left

  module _ (y : GoesOnAfter old new ((seen ++ more) ++ take 1 (buffer_of old)) ((ts ++ us) ++ t ∷ [])) (some : 0 < length old.ports.waiting)
      (same_ops : new.ops ≡ old.ops) (same_seen : new.seen_by ≡ old.seen_by) (waiting : new.ports.waiting ≡ drop 1 old.ports.waiting)
      (r : Turns (ground_running new) (turn_place old ts us) t old new) (plain : same_kind t.kind Atomic ≡ false)
      (good : bad_wanted (turn_place old ts us).run.state.ctl.pc (next_effect (ground_running new) (turn_place old ts us)) t ≡ None)
      (lines : LinesAre new ((seen ++ more) ++ take 1 (buffer_of old)) (drop 1 (buffer_of old))) where
    abbrev log : List Entry
    log = (seen ++ more) ++ take 1 (buffer_of old)

    drain_shown : Shown old new seen ts us t (given_by []) now takes y.keeps (given [] (none_added same_ops) refl log y) log (drop 1 (buffer_of old))
    drain_shown = shown [] (none_added same_ops) refl log y (drop 1 (buffer_of old)) (sees_drain old new seen ts more now.goes_on x.entries some same_ops same_seen waiting) lines

    -- a drain in a step
    pub drains : old.steps < old.setup.config.steps → CoreOk new log ((ts ++ us) ++ t ∷ [])
    drains left = turn_on old new seen ts us t (given_by []) now takes y.keeps (given [] (none_added same_ops) refl log y) log (drop 1 (buffer_of old)) drain_shown good r plain left

    -- after the last step
    pub drains_last : same_kind t.kind Store ≡ true → is_last_drain old.setup.config.steps t ≡ true → old.steps ≡ old.setup.config.steps → CoreOk new log ((ts ++ us) ++ t ∷ [])
    drains_last store drain last =
        drain_on old new seen ts us t (given_by []) now takes y.keeps (given [] (none_added same_ops) refl log y) log (drop 1 (buffer_of old)) drain_shown good r plain store drain last

  -- an atomic
  atomic_no_store : (x : Access) (got way : ℕ) → x.kind ≡ AccessKind.Atomic → (given_by (op_of old x got way ∷ [])).stores ≡ []
  atomic_no_store x got way kind = rw kind refl

  pub exchanges : (a : Access) (got way : ℕ) → GoesOnAfter old new ((seen ++ more) ++ made (op_of old a got way) ∷ []) ((ts ++ us) ++ t ∷ [])
      → Completes (op_of old a got way) old new → a.kind ≡ AccessKind.Atomic → length old.ports.waiting ≡ 0 → new.log_seen ≡ length (seen ++ more) + 1
      → Reads (initial_byte old.setup.image) (made (op_of old a got way)) (seen ++ more)
      → Exchanges (ground_running new) (turn_place old ts us) t old new → same_kind t.kind Atomic ≡ true → old.steps < old.setup.config.steps
      → bad_wanted (turn_place old ts us).run.state.ctl.pc (next_effect (ground_running new) (turn_place old ts us)) t ≡ None
      → LinesAre new ((seen ++ more) ++ made (op_of old a got way) ∷ []) [] → CoreOk new ((seen ++ more) ++ made (op_of old a got way) ∷ []) ((ts ++ us) ++ t ∷ [])
  exchanges a got way y c kind none seen_then reads r atomic left good lines =
      let o = op_of old a got way in
      let log = (seen ++ more) ++ made o ∷ [] in
      exchange_on old new seen ts us t (given_by (o ∷ [])) now takes y.keeps (given (o ∷ []) c.ops (atomic_no_store a got way kind) log y) log []
      (shown (o ∷ []) c.ops (atomic_no_store a got way kind) log y [] (sees_atomic old new seen ts more now.goes_on x.entries a got way c kind none seen_then reads) lines) good r atomic left

-- ---- the whole log and all transfers

pub joined : (v : CoreValue) (a b : ℕ) (log es : List Entry) (ts more : List Transfer) → CoreOk v ((take a log ++ drop a log) ++ es) ((take b ts ++ drop b ts) ++ more) → CoreOk v (log ++ es) (ts ++ more)
joined v a b log es ts more h =
    subst (λ us. CoreOk v (log ++ es) (us ++ more)) (take-append-drop b ts)
    (subst (λ l. CoreOk v (l ++ es) ((take b ts ++ drop b ts) ++ more)) (take-append-drop a log) h)
