-- An instruction whose parts answer by the arrays of its core's course reads the cells that the course reads, and finds the same
-- one bad first.
use Rattle.std.proofs.Common.{◌≡◌, ◌∙◌, ◌==◌, ℕ, Bool, true, false, List, [], ◌∷◌, length, map, Option, Some, None, is_some, slice_index_or, if◌then◌else◌, refl, sym, ap}
use Rattle.std.proofs.Math.ListN.{get_or-map}
use Rattle.std.proofs.Math.Seq.{map-set_same}
use Rattle.std.proofs.lemmas.Bool.{eqb-true, false≢true}
use Rattle.std.specs.Option.{option_or, option_map}
use Rattle.std.specs.Prelude.{⊤}
use Rattle.lf_model.specs.Caches.Slot.{history_at, befalls}
use Rattle.lf_model.specs.Course.Arrays.{Arrays, CellsRead, cells_of, read_back, read_then, read_cells}
use Rattle.lf_model.specs.Course.Attempt.{Attempt, read_attempt}
use Rattle.lf_model.specs.Course.Touches.{unless_bad, read_touches}
use Rattle.lf_model.specs.Effect.{Effect}
use Rattle.lf_model.specs.Flips.How.{ByReadBack}
use Rattle.lf_model.specs.Flips.Moment.{Written}
use Rattle.lf_model.specs.Flips.{Moment, is_fixed_word, is_bad_word, syndrome, turned_bits}
use Rattle.lf_model.specs.State.{State, cell}
use Rattle.lf_model.specs.Step.{Parts, syndrome_read, bad_by, first_bad}
use Rattle.lf_model.specs.declared.step.RegBad.{RegBad}
use Rattle.lf_model.specs.declared.touch.Touch.{Touch}
use Rattle.lf_model.specs.declared.touch.Touch.TheVariants.{ReadCell}
use Rattle.v8_exec.specs.CourseParts.{bad_syndrome}
use Rattle.v8_exec.specs.Touching.{read_of, reads_of}

-- what the course says that an instruction with this effect comes to once its word is fetched, with the arrays then
abbrev pub tried : State → Effect → Arrays → Attempt
tried s e a = read_attempt e a (read_cells (cells_of s.ctl.cwp e.reads) a.cells)

-- ---- which cells are bad

only_one : (n : ℕ) → (n == 1) ≡ true → (n == 2) ≡ false
only_one n is = ap (λ (m : ℕ). m == 2) (eqb-true n 1 is)

none_by : (b : Bool) (syn : ℕ) → b ≡ false → ◌≡◌ {A = Option ℕ} None (if b then Some syn else None)
none_by true syn is = absurd (false≢true (sym is))
none_by false syn is = refl

back_by : (fixed : Bool) (h : List Moment) → (fixed ≡ true → is_bad_word h ≡ false) → bad_syndrome (if fixed then Written ByReadBack ∷ h else h) ≡ bad_syndrome h
back_by true h good = none_by (is_bad_word h) (syndrome h) (good refl)
back_by false h good = refl

syndrome_back : (h : List Moment) → bad_syndrome (read_back h) ≡ bad_syndrome h
syndrome_back h = back_by (is_fixed_word h) h (only_one (length (turned_bits h)))

-- a write-back never changes which cells are bad
pub syndromes_back : (c : ℕ) (cells : List (List Moment)) → map bad_syndrome (befalls read_back c cells) ≡ map bad_syndrome cells
syndromes_back c cells = map-set_same bad_syndrome cells c (read_back (history_at c cells)) [] (syndrome_back (history_at c cells))

some_by : (b : Bool) (syn : ℕ) → is_some (if b then Some syn else None) ≡ b
some_by true syn = refl
some_by false syn = refl

is_some-syndrome : (h : List Moment) → is_some (bad_syndrome h) ≡ is_bad_word h
is_some-syndrome h = some_by (is_bad_word h) (syndrome h)

same_by : (b : Bool) (here syn : ℕ) → ◌≡◌ {A = Option ℕ} (if b then Some here else None) (Some syn) → here ≡ syn
same_by true here syn is = cc
same_by false here syn is = absurd (cc)

syndrome_of_bad : (h : List Moment) (syn : ℕ) → bad_syndrome h ≡ Some syn → syndrome h ≡ syn
syndrome_of_bad h syn is = same_by (is_bad_word h) (syndrome h) syn is

-- a register is bad where its cell is
bad_by-is_some : (o : Option ℕ) (c : ℕ) → is_some (bad_by o c) ≡ is_some o
bad_by-is_some None c = refl
bad_by-is_some (Some syn) c = refl

-- ---- the first of some registers that is bad

abbrev pub cell_of : RegBad → ℕ
cell_of bad = bad.cell

-- the cell of the register is the one that the course finds, and no cell reads otherwise than before
pub record FindsBad (found : Option RegBad) (cells : List (List Moment)) (read : CellsRead) : Type 0 where
  pub bad : read.bad ≡ option_map cell_of found
  pub kept : map bad_syndrome read.cells ≡ map bad_syndrome cells

-- its cell answers its syndrome
abbrev ReadsAs : Parts → Option RegBad → Type 0
ReadsAs parts None = ⊤
ReadsAs parts (Some bad) = syndrome_read parts bad.cell ≡ Some bad.syn

module _ (parts : Parts) (window : ℕ) where
  -- a cell that is read answers its syndrome where it is bad
  pub syndrome_read_is : (cells : List (List Moment)) → parts.bad ≡ map bad_syndrome cells → (c : ℕ) → syndrome_read parts c ≡ bad_syndrome (history_at c cells)
  syndrome_read_is cells answers c = ap (λ (l : List (Option ℕ)). slice_index_or l c None) answers ∙ get_or-map bad_syndrome cells c []

  is_bad_here : (cells : List (List Moment)) (c : ℕ) → parts.bad ≡ map bad_syndrome cells → is_some (syndrome_read parts c) ≡ is_bad_word (history_at c cells)
  is_bad_here cells c answers = ap (λ (o : Option ℕ). is_some o) (syndrome_read_is cells answers c) ∙ is_some-syndrome (history_at c cells)

  is_bad : (cells : List (List Moment)) (c : ℕ) → parts.bad ≡ map bad_syndrome cells → is_some (bad_by (syndrome_read parts c) c) ≡ is_bad_word (history_at c cells)
  is_bad cells c answers = bad_by-is_some (syndrome_read parts c) c ∙ is_bad_here cells c answers

  -- ---- the reads

  ReadsSame : List ℕ → Type 0
  ReadsSame ns = (cells : List (List Moment)) → parts.bad ≡ map bad_syndrome cells → reads_of parts window ns ≡ read_touches (cells_of window ns) cells

  read_one : (n : ℕ) (ns : List ℕ) (zero_ : Bool) → (n == 0) ≡ zero_ → ReadsSame ns → ReadsSame (n ∷ ns)
  unfolding read_of ReadsSame
  read_one n ns true is later cells answers = rw is (later cells answers)
  read_one n ns false is later cells answers =
      rw is (ap (λ (l : List Touch). ReadCell (cell window n) ∷ l)
      (ap (λ (b : Bool). unless_bad b (reads_of parts window ns)) (is_bad cells (cell window n) answers)
      ∙ ap (λ (l : List Touch). unless_bad (is_bad_word (history_at (cell window n) cells)) l)
      (later (befalls read_back (cell window n) cells) (answers ∙ sym (syndromes_back (cell window n) cells)))))

  reads_same : (ns : List ℕ) → ReadsSame ns
  unfolding ReadsSame
  reads_same [] cells answers = refl
  reads_same (n ∷ ns) cells answers = read_one n ns (n == 0) refl (reads_same ns) cells answers

  -- an instruction reads the cells that the course reads
  pub reads_are : (ns : List ℕ) (cells : List (List Moment)) → parts.bad ≡ map bad_syndrome cells → reads_of parts window ns ≡ read_touches (cells_of window ns) cells
  unfolding ReadsSame
  reads_are ns cells answers = reads_same ns cells answers

  -- ---- the first bad one

  Finds : List ℕ → Type 0
  Finds ns = (cells : List (List Moment)) → parts.bad ≡ map bad_syndrome cells
      → FindsBad (first_bad parts window ns) cells (read_cells (cells_of window ns) cells) × ReadsAs parts (first_bad parts window ns)

  find_here : (c : ℕ) (ns : List ℕ) (cells : List (List Moment)) (o : Option ℕ) (bad : Bool) → syndrome_read parts c ≡ o → is_some o ≡ bad
      → FindsBad (first_bad parts window ns) (befalls read_back c cells) (read_cells (cells_of window ns) (befalls read_back c cells)) × ReadsAs parts (first_bad parts window ns)
      → FindsBad (option_or (bad_by o c) (first_bad parts window ns)) cells
      (read_then c bad (befalls read_back c cells) (read_cells (cells_of window ns) (befalls read_back c cells)))
      × ReadsAs parts (option_or (bad_by o c) (first_bad parts window ns))
  find_here c ns cells None false reads is later = (record { bad = later.0.bad; kept = later.0.kept ∙ syndromes_back c cells }, later.1)
  find_here c ns cells (Some syn) true reads is later = (record { bad = refl; kept = syndromes_back c cells }, reads)
  find_here c ns cells None true reads is later = absurd (false≢true is)
  find_here c ns cells (Some syn) false reads is later = absurd (false≢true (sym is))

  find_one : (n : ℕ) (ns : List ℕ) (zero_ : Bool) → (n == 0) ≡ zero_ → Finds ns → Finds (n ∷ ns)
  unfolding Finds
  find_one n ns true is later cells answers = rw is (later cells answers)
  find_one n ns false is later cells answers =
      let c = cell window n in
      rw is (find_here c ns cells (syndrome_read parts c) (is_bad_word (history_at c cells)) refl (is_bad_here cells c answers)
      (later (befalls read_back c cells) (answers ∙ sym (syndromes_back c cells))))

  finds : (ns : List ℕ) → Finds ns
  unfolding Finds
  finds [] cells answers = (record { bad = refl; kept = refl }, tt)
  finds (n ∷ ns) cells answers = find_one n ns (n == 0) refl (finds ns) cells answers

  -- the course finds the cell of the first bad register, and no cell's answer changes by the reads
  pub finds_bad : (ns : List ℕ) (cells : List (List Moment)) → parts.bad ≡ map bad_syndrome cells
      → FindsBad (first_bad parts window ns) cells (read_cells (cells_of window ns) cells)
  unfolding Finds
  finds_bad ns cells answers = (finds ns cells answers).0

  by_answer : (ns : List ℕ) (bad : RegBad) (cells left : List (List Moment)) (found : Option RegBad) → found ≡ Some bad → ReadsAs parts found
      → parts.bad ≡ map bad_syndrome left → syndrome (history_at bad.cell left) ≡ bad.syn
  by_answer ns bad cells left None is reads answers = absurd (cc)
  by_answer ns bad cells left (Some here) is reads answers =
      let same : here ≡ bad = cc in
      syndrome_of_bad (history_at bad.cell left) bad.syn
      (sym (syndrome_read_is left answers bad.cell) ∙ ap (λ (b : RegBad). syndrome_read parts b.cell) (sym same) ∙ reads ∙ ap (λ (b : RegBad). Some b.syn) same)

  -- its syndrome is that of the cell's history, after the reads as before them
  pub syndrome_found : (ns : List ℕ) (cells : List (List Moment)) (bad : RegBad) → parts.bad ≡ map bad_syndrome cells → first_bad parts window ns ≡ Some bad
      → syndrome (history_at bad.cell (read_cells (cells_of window ns) cells).cells) ≡ bad.syn
  unfolding Finds
  syndrome_found ns cells bad answers is =
      let found = finds ns cells answers in
      by_answer ns bad cells (read_cells (cells_of window ns) cells).cells (first_bad parts window ns) is found.1 (answers ∙ sym found.0.kept)
