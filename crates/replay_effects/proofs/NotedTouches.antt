-- What is noted of an instruction: the cells that it reads, its load or store, and, where it retires, the cells that it writes.
use Rattle.std.proofs.Common.{◌≡◌, ◌∙◌, ◌+◌, ◌<◌, ◌≤◌, ◌==◌, ℕ, zero, suc, not, Bool, cond, true, false, List, [], ◌∷◌, ◌++◌, length, map, Option, Some, None, is_some, refl, sym, ap, arith, append_assoc, length-append}
use Rattle.std.specs.Prelude.{fold, filter, slice_set}
use Rattle.std.proofs.lemmas.List.{append-nil, length-map}
use Rattle.std.proofs.lemmas.List.Sums.{fold-append, length-filter, count_by-le-length}
use Rattle.std.proofs.lemmas.Bool.{lt-ltb}
use Rattle.lf_model.specs.Caches.Slot.{history_at}
use Rattle.lf_model.specs.Course.Arrays.{cells_of, read_back}
use Rattle.lf_model.specs.Course.Touches.{unless_bad, read_touches, access_touches, store_touches, barrier_touches, write_touches}
use Rattle.lf_model.specs.Effect.{AccessKind, Access as Operation, Effect}
use Rattle.lf_model.specs.Flips.{Moment, is_bad_word}
use Rattle.lf_model.specs.Names.{same_why}
use Rattle.lf_model.specs.State.{cell}
use Rattle.lf_model.specs.Step.{first_bad}
use Rattle.lf_model.specs.declared.bus.Why.{Why}
use Rattle.lf_model.specs.declared.bus.Why.TheVariants.{Flush}
use Rattle.lf_model.specs.declared.step.Did.{Did}
use Rattle.lf_model.specs.declared.step.Did.TheVariants.{Retired}
use Rattle.lf_model.specs.declared.step.RegBad.{RegBad}
use Rattle.lf_model.specs.declared.touch.Touch.{Touch}
use Rattle.lf_model.specs.declared.touch.Touch.TheVariants.{ReadCell, WriteCell, FlushCaches}
use Rattle.replay_effects.proofs.ComesTo.{first_none}
use Rattle.replay_effects.proofs.EffectForm.{LoadsOnly}
use Rattle.replay_effects.specs.Footprints.{access_of}
use Rattle.replay_effects.specs.Noted.{Noted, nothing_noted, noted, trial_answers, trial_touch}
use Rattle.replay_effects.specs.declared.footprint.Access.{Access}
use Rattle.replay_effects.specs.declared.footprint.AccessKind.TheVariants.{Load}
use Rattle.v8_exec.proofs.CourseReads.{reads_are}
use Rattle.v8_exec.specs.Touching.{reads_of, looks_of, looks_by, retires_of, touches_of}

-- ---- cells

noted_one : (most c : ℕ) (cells : List ℕ) → length cells < most → noted most cells c ≡ cells ++ c ∷ []
noted_one most c cells room = rw (lt-ltb (length cells) most room) refl

-- the next cell of some for which there is room
module _ (most c : ℕ) (cs cells : List ℕ) (few : length cells + length (c ∷ cs) ≤ most) where
  room : length cells < most
  room = omega arith

  pub joined : noted most cells c ++ cs ≡ cells ++ c ∷ cs
  joined = ap (λ (l : List ℕ). l ++ cs) (noted_one most c cells room) ∙ append_assoc cells (c ∷ []) cs

  pub later_few : length (noted most cells c) + length cs ≤ most
  later_few = omega (arith, ap length (noted_one most c cells room), length-append cells (c ∷ []))

reads_noted : (cs : List ℕ) (s : Noted) → length s.reads + length cs ≤ 4 → fold trial_touch s (map ReadCell cs) ≡ record s { reads = s.reads ++ cs }
reads_noted [] s few = ap (λ (l : List ℕ). record s { reads = l }) (sym (append-nil s.reads))
reads_noted (c ∷ cs) s few =
    reads_noted cs (trial_touch s (ReadCell c)) (later_few 4 c cs s.reads few)
    ∙ ap (λ (l : List ℕ). record s { reads = l }) (joined 4 c cs s.reads few)

writes_noted : (cs : List ℕ) (s : Noted) → length s.writes + length cs ≤ 2 → fold trial_touch s (write_touches cs) ≡ record s { writes = s.writes ++ cs }
writes_noted [] s few = ap (λ (l : List ℕ). record s { writes = l }) (sym (append-nil s.writes))
writes_noted (c ∷ cs) s few =
    writes_noted cs (trial_touch s (WriteCell c)) (later_few 2 c cs s.writes few)
    ∙ ap (λ (l : List ℕ). record s { writes = l }) (joined 2 c cs s.writes few)

-- ---- the load or store

-- the load or store that is noted, if the instruction makes one
abbrev by_kind : Operation → AccessKind → Option Access → Option Access
by_kind x AccessKind.Load before = Some (access_of x)
by_kind x AccessKind.Store before = Some (access_of x)
by_kind x AccessKind.Atomic before = before

abbrev pub access_noted : Option Operation → Option Access
access_noted None = None
access_noted (Some x) = by_kind x x.kind None

module _ (s : Noted) (x : Operation) where
  -- a load, which is noted as it looks its bytes up
  looked_by : (kind : AccessKind) → x.kind ≡ kind → LoadsOnly (Some x)
      → fold trial_touch (fold trial_touch s (looks_by x x.kind)) (store_touches x) ≡ record s { access = by_kind x x.kind s.access }
  looked_by AccessKind.Load is loads = rw is (ap (λ (put : ℕ). record s { access = Some (record (access_of x) { kind = Load; put = put }) }) (sym (loads is)))
  looked_by AccessKind.Store is loads = rw is refl
  looked_by AccessKind.Atomic is loads = rw is refl

operation_noted : (s : Noted) (access : Option Operation) → s.access ≡ None → LoadsOnly access
    → fold trial_touch (fold trial_touch s (looks_of access)) (access_touches access) ≡ record s { access = access_noted access }
operation_noted s None none loads = ap (λ (a : Option Access). record s { access = a }) none
operation_noted s (Some x) none loads = looked_by s x x.kind refl loads ∙ ap (λ (a : Option Access). record s { access = by_kind x x.kind a }) none

-- ---- a barrier is not noted

flush_noted : (s : Noted) (b : Bool) → fold trial_touch s (cond b (FlushCaches ∷ []) []) ≡ s
flush_noted s true = refl
flush_noted s false = refl

barrier_noted : (s : Noted) (barrier : Option Why) → fold trial_touch s (barrier_touches barrier) ≡ s
barrier_noted s None = refl
barrier_noted s (Some why) = flush_noted s (same_why why Flush)

-- ---- the reads

no_history : (c : ℕ) → history_at c [] ≡ []
no_history zero = refl
no_history (suc c) = refl

no_cells : (c : ℕ) (h : List Moment) → slice_set [] c h ≡ []
no_cells zero h = refl
no_cells (suc c) h = refl

all_read : (cs : List ℕ) → read_touches cs [] ≡ map ReadCell cs
all_read [] = refl
all_read (c ∷ cs) =
    ap (λ (l : List Touch). ReadCell c ∷ l)
    (ap (λ (h : List Moment). unless_bad (is_bad_word h) (read_touches cs (slice_set [] c (read_back h)))) (no_history c)
    ∙ ap (λ (cells : List (List Moment)). read_touches cs cells) (no_cells c (read_back []))
    ∙ all_read cs)

few_cells : (window : ℕ) (ns : List ℕ) → length ns ≤ 4 → length (cells_of window ns) ≤ 4
few_cells window ns few =
    let numbered : List ℕ = filter (λ n. not (n == 0)) ns in
    omega (arith, length-map numbered (cell window), length-filter (λ n. not (n == 0)) ns, count_by-le-length (λ n. not (n == 0)) ns)

-- ---- the whole

module _ (got : ℕ) (waiting : Bool) (window : ℕ) (e : Effect) (loads : LoadsOnly e.access) (few_reads : length e.reads ≤ 4) (few_writes : length e.writes ≤ 2) where
  abbrev fresh : Noted
  fresh = nothing_noted got waiting

  abbrev reads : List Touch
  reads = reads_of (trial_answers fresh) window e.reads

  abbrev after_reads : Noted
  after_reads = record fresh { reads = cells_of window e.reads }

  reads_all : fold trial_touch fresh reads ≡ after_reads
  reads_all =
      ap (λ (l : List Touch). fold trial_touch fresh l) (reads_are (trial_answers fresh) window e.reads [] refl ∙ all_read (cells_of window e.reads))
      ∙ reads_noted (cells_of window e.reads) fresh (omega (arith, few_cells window e.reads few_reads))

  -- behind the reads, none of which is bad
  behind : (did : Did) → fold trial_touch fresh (touches_of (trial_answers fresh) window e did) ≡ fold trial_touch after_reads (looks_of e.access ++ retires_of e did)
  behind did =
      fold-append trial_touch fresh reads (unless_bad (is_some (first_bad (trial_answers fresh) window e.reads)) (looks_of e.access) ++ retires_of e did)
      ∙ ap (λ (bad : Option RegBad). fold trial_touch (fold trial_touch fresh reads) (unless_bad (is_some bad) (looks_of e.access) ++ retires_of e did))
      (first_none got waiting window e.reads)
      ∙ ap (λ (s : Noted). fold trial_touch s (looks_of e.access ++ retires_of e did)) reads_all

  operated : fold trial_touch (fold trial_touch after_reads (looks_of e.access)) (access_touches e.access) ≡ record after_reads { access = access_noted e.access }
  operated = operation_noted after_reads e.access refl loads

  -- an instruction that retires
  pub retired_noted : fold trial_touch fresh (touches_of (trial_answers fresh) window e Retired)
      ≡ record fresh { reads = cells_of window e.reads; writes = e.writes; access = access_noted e.access }
  retired_noted =
      let later : List Touch = barrier_touches e.barrier ++ write_touches e.writes in
      let s : Noted = record after_reads { access = access_noted e.access } in
      behind Retired
      ∙ fold-append trial_touch after_reads (looks_of e.access) (access_touches e.access ++ later)
      ∙ fold-append trial_touch (fold trial_touch after_reads (looks_of e.access)) (access_touches e.access) later
      ∙ ap (λ (t : Noted). fold trial_touch t later) operated
      ∙ fold-append trial_touch s (barrier_touches e.barrier) (write_touches e.writes)
      ∙ ap (λ (t : Noted). fold trial_touch t (write_touches e.writes)) (barrier_noted s e.barrier)
      ∙ writes_noted e.writes s (omega (arith, few_writes))

  -- one that doesn't, and has no load
  pub reads_only : (did : Did) → retires_of e did ≡ [] → looks_of e.access ≡ []
      → fold trial_touch fresh (touches_of (trial_answers fresh) window e did) ≡ record fresh { reads = cells_of window e.reads }
  reads_only did unretired bare = behind did ∙ ap (λ (l : List Touch). fold trial_touch after_reads (l ++ retires_of e did)) bare ∙ ap (λ (l : List Touch). fold trial_touch after_reads l) unretired
