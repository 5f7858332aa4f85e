-- The lines of a list, the line of an item and those after it, and a line of words with another byte behind the last.
use Rattle.std.proofs.Common.{◌≡◌, ℕ, ◌+◌, ◌<◌, List, [], ◌∷◌, ◌++◌, length, get_or, drop, Option, Bool, true, false, if◌then◌else◌, refl, sym, ap, ◌∙◌, append_assoc, add-one}
use Rattle.std.proofs.Math.Seq.{drop-cons}
use Rattle.std.proofs.lemmas.List.{append-nil}
use Rattle.std.specs.Prelude.{slice_get, codes, filter}
use Rattle.std.specs.List.{flat_map}
use Rattle.std.specs.Option.{option_map_or}
use Rattle.lf_model.specs.declared.bus.Transfer.{Transfer}
use Rattle.lf_model.specs.declared.trace.CoreResult.{CoreResult}
use Rattle.lf_model.specs.declared.trace.Fate.{Fate}
use Rattle.lf_model.specs.declared.trace.Op.{Op}
use Rattle.lf_model.specs.declared.trace.Trace.{Trace}
use Rattle.lf_model.specs.declared.trace.Word2.{Word2}
use Rattle.lf_model.specs.Operation.{enters}
use Rattle.lf_model.specs.Texts.{space, line_feed, number}
use Rattle.lf_model.specs.Report.{count_line, bytes_text, out_line, word_field, words_text, core_lines, cores_lines, cores_part, ahb_line, transfers_part, fate_line, fate_lines, order_part, flips_part, watch_part, report}
use Rattle.lf_model.specs.TransferLines.{has_entry, length_of, transfer_line, lines_of, transfer_lines}

-- an item and those after it
item_on : {X : Type 0} (xs : List X) (i : ℕ) (d : X) → i < length xs → get_or xs i d ∷ drop (i + 1) xs ≡ drop i xs
item_on xs i d within = rw add-one (sym (drop-cons xs i d within))

-- the line of a transfer and those after it, by whether it has an entry
chosen : (b : Bool) (cores : List CoreResult) (entries : List Op) (t : Transfer) (ts : List Transfer)
    → transfer_line (if b then option_map_or length_of (slice_get entries 0) 0 else 0) t ++ lines_of cores (if b then drop 1 entries else entries) ts
    ≡ (if b then transfer_line (option_map_or length_of (slice_get entries 0) 0) t ++ lines_of cores (drop 1 entries) ts
    else transfer_line 0 t ++ lines_of cores entries ts)
chosen true cores entries t ts = refl
chosen false cores entries t ts = refl

pub transfers_on : (cores : List CoreResult) (entries later : List Op) (transfers : List Transfer) (i len : ℕ) (d : Transfer)
    → i < length transfers
    → len ≡ (if has_entry cores (get_or transfers i d) then option_map_or length_of (slice_get entries 0) 0 else 0)
    → later ≡ (if has_entry cores (get_or transfers i d) then drop 1 entries else entries)
    → transfer_line len (get_or transfers i d) ++ lines_of cores later (drop (i + 1) transfers) ≡ lines_of cores entries (drop i transfers)
transfers_on cores entries later transfers i len d within long left =
    let t : Transfer = get_or transfers i d in
    let ts : List Transfer = drop (i + 1) transfers in
    rw (long, left) (chosen (has_entry cores t) cores entries t ts ∙ ap (lines_of cores entries) (item_on transfers i d within))

-- the line of an item and those after it
pub lines_on : {X : Type 0} (f : X → List ℕ) (xs : List X) (i : ℕ) (d : X) → i < length xs
    → f (get_or xs i d) ++ flat_map f (drop (i + 1) xs) ≡ flat_map f (drop i xs)
lines_on f xs i d within = ap (flat_map f) (item_on xs i d within)

pub fates_on : (fates : List Fate) (i : ℕ) (d : Fate) → i < length fates
    → fate_line i (get_or fates i d) ++ fate_lines (i + 1) (drop (i + 1) fates) ≡ fate_lines i (drop i fates)
fates_on fates i d within = ap (fate_lines i) (item_on fates i d within)

pub cores_on : (cores : List CoreResult) (k : ℕ) (core : CoreResult) → k < length cores → core ≡ get_or cores k core
    → core_lines k core ++ cores_lines (k + 1) (drop (k + 1) cores) ≡ cores_lines k (drop k cores)
cores_on cores k core within is =
    ap (cores_lines k) (ap (λ (c : CoreResult). c ∷ drop (k + 1) cores) is ∙ item_on cores k core within)

-- the parts of the report, of the lists that the trace holds
pub out_as : (k : ℕ) (core : CoreResult) (bytes : List ℕ) → bytes ≡ core.out
    → (codes "out " ++ number space k) ++ (bytes_text bytes ++ codes "\n") ≡ out_line k core
unfolding out_line
out_as k core bytes is = rw is refl

pub transfers_as : (trace : Trace) (transfers : List Transfer) (cores : List CoreResult) (order : List Op) → transfers ≡ trace.transfers
    → cores ≡ trace.cores → order ≡ trace.order
    → count_line (codes "transfers ") (length transfers) ++ lines_of cores (filter enters order) transfers ≡ transfers_part trace
unfolding transfers_part transfer_lines
transfers_as trace transfers cores order first second third = rw (first, second, third) refl

pub report_as : (trace : Trace) (cores : List CoreResult) (order : List Op) (fates : List Fate) (watch : List Word2) → cores ≡ trace.cores
    → order ≡ trace.order → fates ≡ trace.fates → watch ≡ trace.watch
    → cores_part cores ++ (ahb_line trace.ahb_addr trace.ahb_status ++ (transfers_part trace ++ (order_part order ++ (flips_part fates
    ++ (watch_part watch ++ codes "end\n"))))) ≡ report trace
unfolding report
report_as trace cores order fates watch first second third fourth = rw (first, second, third, fourth) refl

-- words are those before the last and the last
pub words_last : (front : List (Option ℕ)) (last : Option ℕ)
    → words_text (front ++ last ∷ []) ≡ flat_map (word_field space) front ++ word_field line_feed last
words_last [] last = refl
words_last (w ∷ []) last = rw (append-nil (word_field space w)) refl
words_last (w ∷ v ∷ front) last =
    ap (λ (more : List ℕ). word_field space w ++ more) (words_last (v ∷ front) last)
    ∙ sym (append_assoc (word_field space w) (flat_map (word_field space) (v ∷ front)) (word_field line_feed last))

pub words_put : (before middle after : List ℕ) (words front : List (Option ℕ)) (last : Option ℕ) → words ≡ front ++ last ∷ []
    → middle ≡ before ++ flat_map (word_field space) front → after ≡ middle ++ word_field line_feed last → after ≡ before ++ words_text words
words_put before middle after words front last is first second =
    rw (second, first, is, words_last front last) (append_assoc before (flat_map (word_field space) front) (word_field line_feed last))
