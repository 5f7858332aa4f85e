-- A whole report, line by line, belongs together with its text; and what fits is a regular trace with its dashes.
use Rattle.std.proofs.Common.{◌≡◌, ℕ, ◌+◌, List, [], ◌∷◌, ◌++◌, length, map, filter, Bool, true, refl, sym, ap, subst, ◌∙◌, append_assoc, arith}
use Rattle.std.specs.Prelude.{Option, Some, None, Result, Ok, Err, nat_le, codes}
use Rattle.std.specs.List.{list_all, flat_map}
use Rattle.std.proofs.lemmas.Bool.{and_parts, and_from, le-leb, leb-true}
use Rattle.std.proofs.lemmas.List.{append-nil, length-map}
use Rattle.lf_model.specs.Operation.{enters}
use Rattle.lf_model.specs.TransferLines.{transfer_lines}
use Rattle.lf_model.specs.Report.{count_line, core_lines, cores_lines, ahb_line, op_line, fate_line, fate_lines, watch_line, cores_part, transfers_part, order_part, flips_part, watch_part, report}
use Rattle.lf_model.specs.Promise.Regular.{IsRegular, is_regular_core, steps_fit, is_regular_op, is_regular_word}
use Rattle.lf_model.specs.declared.bus.Transfer.{Transfer}
use Rattle.lf_model.specs.declared.trace.CoreResult.{CoreResult}
use Rattle.lf_model.specs.declared.trace.Fate.{Fate}
use Rattle.lf_model.specs.declared.trace.Op.{Op}
use Rattle.lf_model.specs.declared.trace.Word2.{Word2}
use Rattle.lf_model.specs.declared.trace.Trace.{Trace}
use Rattle.report_fields.specs.Parts.{Part}
use Rattle.report_fields.proofs.Laws.{literal_passes}
use Rattle.report_fields.proofs.PartLaws.{PartReads, line_part, then_part_reads, as_part_reads, past_part_reads, before_part_reads, counted_reads, counted_text, items_text, AllCounted, AllFrom, ok_is, err_ok}
use Rattle.report_reader.specs.Whole.{ending_part_at, body_at, trace_of, lines_at, whole, line_of, numbered, loose_at}
use Rattle.report_reader.specs.Dashes.{bare, bare_trace, wrong_at, judged, checked, report_at}
use Rattle.report_lines.proofs.CoreLaws.{CoreFits, core_reads}
use Rattle.report_lines.proofs.TransferLaws.{TransferFits, loose_line, transfer_reads}
use Rattle.report_lines.proofs.OutcomeLaws.{StatusFits, status_reads, operation_reads, fate_reads, watched_reads}
use Rattle.report_reader.proofs.DashLaws.{dashed, length_dashed, lines_are, dashed_right, right_dashed, bare_dashed, transfers_fit, bare_regular}

-- ---- what fits, and its text, transfers having the lengths that their dashes say

abbrev CoresFit : List CoreResult → Type 0
CoresFit = AllCounted 1 8 (λ n i r. CoreFits n r)

abbrev TransfersFit : List Transfer → Type 0
TransfersFit = AllCounted 0 5000064 (λ n i t. TransferFits i t)

abbrev OrderFits : List Op → Type 0
OrderFits = AllCounted 0 4000000 (λ n i o. is_regular_op o ≡ true)

abbrev FatesFit : List Fate → Type 0
FatesFit = AllCounted 0 65536 (λ n i fate. Unit {0})

abbrev WatchFits : List Word2 → Type 0
WatchFits = AllCounted 0 64 (λ n i w. is_regular_word w ≡ true)

abbrev Ending : Type 0
Ending = List Fate × List Word2

abbrev Body : Type 0
Body = List Transfer × (List Op × Ending)

abbrev EndingFits : Ending → Type 0
EndingFits z = FatesFit z.0 × WatchFits z.1

abbrev ending_text : Ending → List ℕ
ending_text z = counted_text (codes "flips ") fate_line z.0 ++ (counted_text (codes "watch ") (λ i. watch_line) z.1 ++ codes "end\n")

ending_reads : PartReads EndingFits ending_text ending_part_at
unfolding ending_part_at
ending_reads = then_part_reads
    (counted_reads {F = λ n i fate. Unit {0}} (codes "flips ") 0 65536 (omega arith) (λ n i below few. line_part (fate_reads i (omega arith))))
    (λ fates h. before_part_reads (counted_reads {F = λ n i w. is_regular_word w ≡ true} (codes "watch ") 0 64 (omega arith) (λ n i below few. line_part watched_reads)) (literal_passes (codes "end\n")))

abbrev BodyFits : Body → Type 0
BodyFits z = TransfersFit z.0 × (OrderFits z.1.0 × EndingFits z.1.1)

abbrev body_text : Body → List ℕ
body_text z = counted_text (codes "transfers ") loose_line z.0 ++ (counted_text (codes "order ") (λ i. op_line) z.1.0 ++ ending_text z.1.1)

body_reads : PartReads BodyFits body_text body_at
unfolding body_at
body_reads = then_part_reads
    (counted_reads {F = λ n i t. TransferFits i t} (codes "transfers ") 0 5000064 (omega arith) (λ n i below few. line_part (transfer_reads i (omega arith))))
    (λ transfers h. then_part_reads
    (counted_reads {F = λ n i o. is_regular_op o ≡ true} (codes "order ") 0 4000000 (omega arith) (λ n i below few. line_part operation_reads))
    (λ order g. ending_reads))

abbrev body_of : Trace → Body
body_of t = (t.transfers, (t.order, (t.fates, t.watch)))

abbrev pub LooseFits : Trace → Type 0
LooseFits t = CoresFit t.cores × (StatusFits (t.ahb_addr, t.ahb_status) × BodyFits (body_of t))

abbrev parts_text : Trace → List ℕ
parts_text t = counted_text (codes "cores ") core_lines t.cores ++ (ahb_line t.ahb_addr t.ahb_status ++ body_text (body_of t))

abbrev pub loose_text : Trace → List ℕ
loose_text t = codes "leon3ft report 1\n" ++ parts_text t

pub lines_reads : PartReads LooseFits loose_text lines_at
unfolding lines_at
lines_reads = past_part_reads (literal_passes (codes "leon3ft report 1\n"))
    (as_part_reads LooseFits parts_text (λ z. trace_of z.0 z.1.0 z.1.1) (λ t. (t.cores, ((t.ahb_addr, t.ahb_status), body_of t)))
    (then_part_reads
    (counted_reads {F = λ n i r. CoreFits n r} (codes "cores ") 1 8 (omega arith) (λ n i below few. core_reads n i (omega arith)))
    (λ cores h. then_part_reads (line_part status_reads) (λ status g. body_reads)))
    (λ z h. (refl, h)) (λ t h. (refl, (refl, h))))

-- ---- the whole of the bytes

whole_ok : (bytes : List ℕ) (p : Part Trace) (t : Trace) → numbered bytes (whole p) ≡ Ok t → p ≡ Ok (t, [])
whole_ok bytes (Ok (u, [])) t e = ap (λ (w : Trace). Ok (w, [])) (ok_is u t e)
whole_ok bytes (Ok (u, b ∷ rest)) t e = absurd (err_ok (line_of bytes (length (b ∷ rest))) t e)
whole_ok bytes (Err n) t e = absurd (err_ok (line_of bytes n) t e)

loose_takes : (bytes : List ℕ) (t : Trace) → loose_at bytes ≡ Ok t → (bytes ≡ loose_text t) × LooseFits t
unfolding loose_at
loose_takes bytes t e =
    let g = lines_reads.takes bytes t [] (whole_ok bytes (lines_at bytes) t e) in
    (g.0 ∙ append-nil (loose_text t), g.1)

loose_again : (t : Trace) → LooseFits t → loose_at (loose_text t) ≡ Ok t
unfolding loose_at
loose_again t fits =
    let read : lines_at (loose_text t) ≡ Ok (t, []) = ap lines_at (sym (append-nil (loose_text t))) ∙ lines_reads.again t [] fits in
    rw read refl

-- ---- the report of a trace is the text of the trace with its dashes

abbrev pub dashed_trace : Trace → Trace
dashed_trace t = record t { transfers = dashed t.cores (filter enters t.order) t.transfers }

cores_are : (i : ℕ) (rs : List CoreResult) → cores_lines i rs ≡ items_text core_lines i rs
cores_are i [] = refl
cores_are i (r ∷ rs) = ap (λ (w : List ℕ). core_lines i r ++ w) (cores_are (i + 1) rs)

order_is : (i : ℕ) (os : List Op) → flat_map op_line os ≡ items_text (λ i. op_line) i os
order_is i [] = refl
order_is i (o ∷ os) = ap (λ (w : List ℕ). op_line o ++ w) (order_is (i + 1) os)

fates_are : (i : ℕ) (fs : List Fate) → fate_lines i fs ≡ items_text fate_line i fs
fates_are i [] = refl
fates_are i (f ∷ fs) = ap (λ (w : List ℕ). fate_line i f ++ w) (fates_are (i + 1) fs)

watch_is : (i : ℕ) (ws : List Word2) → flat_map watch_line ws ≡ items_text (λ i. watch_line) i ws
watch_is i [] = refl
watch_is i (w ∷ ws) = ap (λ (more : List ℕ). watch_line w ++ more) (watch_is (i + 1) ws)

abbrev ts_of : Trace → List Transfer
ts_of t = dashed t.cores (filter enters t.order) t.transfers

-- the parts, joined
joined : (title c' a e : List ℕ) {c t t' o o' f f' w w' : List ℕ} → c ≡ title ++ c' → t ≡ t' → o ≡ o' → f ≡ f' → w ≡ w'
    → c ++ (a ++ (t ++ (o ++ (f ++ (w ++ e))))) ≡ title ++ (c' ++ (a ++ (t' ++ (o' ++ (f' ++ (w' ++ e))))))
joined title c' a e {c} {t} {t'} {o} {o'} {f} {f'} {w} {w'} hc ht ho hf hw =
    rw (hc, ht, ho, hf, hw) (append_assoc title c' (a ++ (t' ++ (o' ++ (f' ++ (w' ++ e))))))

pub report_is : (t : Trace) → IsRegular t → report t ≡ loose_text (dashed_trace t)
unfolding report cores_part transfers_part transfer_lines order_part flips_part watch_part
report_is t regular =
    let lines = lines_are t.cores (filter enters t.order) 0 t.transfers regular.turns in
    let long : length t.transfers ≡ length (ts_of t) = sym (length_dashed t.cores (filter enters t.order) t.transfers) in
    let cores : cores_part t.cores ≡ codes "leon3ft report 1\n" ++ counted_text (codes "cores ") core_lines t.cores =
    ap (λ (w : List ℕ). codes "leon3ft report 1\n" ++ (count_line (codes "cores ") (length t.cores) ++ w)) (cores_are 0 t.cores) in
    let transfers : transfers_part t ≡ counted_text (codes "transfers ") loose_line (ts_of t) =
    ap (λ (w : List ℕ). count_line (codes "transfers ") (length t.transfers) ++ w) lines
    ∙ ap (λ (n : ℕ). count_line (codes "transfers ") n ++ items_text loose_line 0 (ts_of t)) long in
    let order : order_part t.order ≡ counted_text (codes "order ") (λ i. op_line) t.order =
    ap (λ (w : List ℕ). count_line (codes "order ") (length t.order) ++ w) (order_is 0 t.order) in
    let flips : flips_part t.fates ≡ counted_text (codes "flips ") fate_line t.fates =
    ap (λ (w : List ℕ). count_line (codes "flips ") (length t.fates) ++ w) (fates_are 0 t.fates) in
    let watch : watch_part t.watch ≡ counted_text (codes "watch ") (λ i. watch_line) t.watch =
    ap (λ (w : List ℕ). count_line (codes "watch ") (length t.watch) ++ w) (watch_is 0 t.watch) in
    joined (codes "leon3ft report 1\n") (counted_text (codes "cores ") core_lines t.cores) (ahb_line t.ahb_addr t.ahb_status) (codes "end\n") cores transfers order flips watch

-- ---- regular traces

to_all : {X : Type 0} (F : ℕ → X → Type 0) (p : X → Bool) → ((i : ℕ) (x : X) → F i x → p x ≡ true) → (i : ℕ) (xs : List X) → AllFrom F i xs → list_all p xs ≡ true
to_all F p there i [] h = refl
to_all F p there i (x ∷ xs) h = and_from _ _ (there i x h.0) (to_all F p there (i + 1) xs h.1)

from_all : {X : Type 0} (F : ℕ → X → Type 0) (p : X → Bool) → ((i : ℕ) (x : X) → p x ≡ true → F i x) → (i : ℕ) (xs : List X) → list_all p xs ≡ true → AllFrom F i xs
from_all F p back i [] h = tt
from_all F p back i (x ∷ xs) h = let both = and_parts _ _ h in (back i x both.0, from_all F p back (i + 1) xs both.1)

all_cores : (n i : ℕ) (rs : List CoreResult) → list_all is_regular_core rs ≡ true → list_all (steps_fit n) rs ≡ true → AllFrom (λ k r. CoreFits n r) i rs
all_cores n i [] h g = tt
all_cores n i (r ∷ rs) h g = let a = and_parts _ _ h in let b = and_parts _ _ g in ((a.0, b.0), all_cores n (i + 1) rs a.1 b.1)

all_fates : (i : ℕ) (fs : List Fate) → AllFrom (λ k fate. Unit {0}) i fs
all_fates i [] = tt
all_fates i (f ∷ fs) = (tt, all_fates (i + 1) fs)

least_0 : (n : ℕ) → nat_le 0 n ≡ true
least_0 n = le-leb 0 n (omega arith)

pub regular_fits : (t : Trace) → IsRegular t → LooseFits (dashed_trace t)
regular_fits t h =
    let n : ℕ = length t.cores in
    let long : length (ts_of t) ≡ length t.transfers = length_dashed t.cores (filter enters t.order) t.transfers in (
      ((h.few_cores, le-leb 1 n h.some_core), all_cores n 0 t.cores h.cores h.few_steps),
      (
        and_parts _ _ h.status,
        (
          ((omega (arith, long, h.few_transfers), least_0 (length (ts_of t))), transfers_fit t.cores (filter enters t.order) 0 t.transfers h.transfers h.turns),
          (
            ((h.few_operations, least_0 (length t.order)), from_all (λ i o. is_regular_op o ≡ true) is_regular_op (λ i o e. e) 0 t.order h.operations),
            (
              ((h.few_fates, least_0 (length t.fates)), all_fates 0 t.fates),
              ((h.few_words, least_0 (length t.watch)), from_all (λ i w. is_regular_word w ≡ true) is_regular_word (λ i w e. e) 0 t.watch h.words),
            ),
          ),
        ),
      ),
    )

pub bare_is_regular : (t : Trace) → LooseFits t → IsRegular (bare_trace t)
bare_is_regular t h =
    let n : ℕ = length t.cores in
    let plain = bare_regular 0 t.transfers h.1.1.0.1 in
    let long : length (map bare t.transfers) ≡ length t.transfers = length-map t.transfers bare in
    record {
      some_core = leb-true 1 n h.0.0.1;
      few_cores = h.0.0.0;
      few_steps = to_all (λ i r. CoreFits n r) (steps_fit n) (λ i r e. e.1) 0 t.cores h.0.1;
      few_transfers = omega (arith, long, h.1.1.0.0.0);
      few_operations = h.1.1.1.0.0.0;
      few_fates = h.1.1.1.1.0.0.0;
      few_words = h.1.1.1.1.1.0.0;
      cores = to_all (λ i r. CoreFits n r) is_regular_core (λ i r e. e.0) 0 t.cores h.0.1;
      status = and_from _ _ h.1.0.0 h.1.0.1;
      turns = plain.1;
      transfers = plain.0;
      operations = to_all (λ i o. is_regular_op o ≡ true) is_regular_op (λ i o e. e) 0 t.order h.1.1.1.0.1;
      words = to_all (λ i w. is_regular_word w ≡ true) is_regular_word (λ i w e. e) 0 t.watch h.1.1.1.1.1.1;
    }

-- ---- the laws of the whole

judged_ok : (u t : Trace) (o : Option ℕ) → judged u o ≡ Ok t → (o ≡ None) × (bare_trace u ≡ t)
judged_ok u t None e = (refl, ok_is (bare_trace u) t e)
judged_ok u t (Some i) e = absurd (err_ok _ t e)

checked_ok : (r : Result Trace ℕ) (t : Trace) → checked r ≡ Ok t → (u : Trace) × (r ≡ Ok u) × ((wrong_at u.cores (filter enters u.order) 0 u.transfers ≡ None) × (bare_trace u ≡ t))
checked_ok (Ok u) t e = (u, refl, judged_ok u t (wrong_at u.cores (filter enters u.order) 0 u.transfers) e)
checked_ok (Err n) t e = absurd (err_ok n t e)

-- what is read is a regular trace, of which the bytes are the report
pub report_takes : (bytes : List ℕ) (t : Trace) → report_at bytes ≡ Ok t → IsRegular t × (bytes ≡ report t)
unfolding report_at
report_takes bytes t e =
    let a = checked_ok (loose_at bytes) t e in
    let u : Trace = a.0 in
    let g = loose_takes bytes u a.1 in
    let regular : IsRegular (bare_trace u) = bare_is_regular u g.1 in
    let same : dashed u.cores (filter enters u.order) (map bare u.transfers) ≡ u.transfers = right_dashed u.cores (filter enters u.order) 0 u.transfers a.2.0 in
    let text : bytes ≡ report (bare_trace u) = g.0 ∙ ap (λ (ts : List Transfer). loose_text (record u { transfers = ts })) (sym same) ∙ sym (report_is (bare_trace u) regular) in
    subst (λ (w : Trace). IsRegular w × (bytes ≡ report w)) a.2.1 (regular, text)

-- the report of a regular trace is read as that trace
pub report_again : (t : Trace) → IsRegular t → report_at (report t) ≡ Ok t
unfolding report_at
report_again t regular =
    let loose : loose_at (report t) ≡ Ok (dashed_trace t) = ap loose_at (report_is t regular) ∙ loose_again (dashed_trace t) (regular_fits t regular) in
    let plain : map bare (ts_of t) ≡ t.transfers = bare_dashed t.cores (filter enters t.order) t.transfers regular.transfers in
    rw (loose, dashed_right t.cores (filter enters t.order) 0 t.transfers) (ap (λ (ts : List Transfer). Ok (record t { transfers = ts })) plain)

-- no report begins another, and equal reports are of equal traces
pub one_report : (t u : Trace) (more : List ℕ) → IsRegular t → IsRegular u → report t ++ more ≡ report u → (t ≡ u) × (more ≡ [])
one_report t u more first second e =
    let a : lines_at (report t ++ more) ≡ Ok (dashed_trace t, more) = ap (λ (w : List ℕ). lines_at (w ++ more)) (report_is t first) ∙ lines_reads.again (dashed_trace t) more (regular_fits t first) in
    let b : lines_at (report u) ≡ Ok (dashed_trace u, []) =
    ap lines_at (report_is u second ∙ sym (append-nil (loose_text (dashed_trace u)))) ∙ lines_reads.again (dashed_trace u) [] (regular_fits u second) in
    let pair : ◌≡◌ {A = Trace × List ℕ} (dashed_trace t, more) (dashed_trace u, []) = ok_is (dashed_trace t, more) (dashed_trace u, []) (sym a ∙ ap lines_at e ∙ b) in
    let none : more ≡ [] = ap (λ (w : Trace × List ℕ). w.1) pair in
    let same : report t ≡ report u = sym (append-nil (report t)) ∙ ap (λ (w : List ℕ). report t ++ w) (sym none) ∙ e in
    (ok_is t u (sym (report_again t first) ∙ ap report_at same ∙ report_again u second), none)
