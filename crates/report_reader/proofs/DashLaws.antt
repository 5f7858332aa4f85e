-- The dashes of stores: a text shows them by the lengths of entries, and a reader that finds them right can drop them.
use Rattle.std.proofs.Common.{◌≡◌, ℕ, suc, ◌+◌, List, [], ◌∷◌, ◌++◌, length, map, drop, Bool, true, false, eqb, refl, sym, ap, ◌∙◌, inl, inr}
use Rattle.std.specs.Prelude.{None, ◌==◌, ◌&&◌, ◌||◌, slice_get, codes, if◌then◌else◌}
use Rattle.std.specs.List.{list_all, range_with_len}
use Rattle.std.specs.Option.{option_map_or}
use Rattle.std.proofs.lemmas.Bool.{cases_Bool, and_parts, and_from, eq-eqb, eqb-true}
use Rattle.std.proofs.lemmas.Option.{none-some}
use Rattle.lf_model.specs.TransferLines.{kind_word, why_word, way_field, syndromes_field, syn_field, transfer_line, has_entry, length_of, lines_of}
use Rattle.lf_model.specs.Texts.{number, hex_field}
use Rattle.lf_model.specs.Promise.Regular.{turn_of}
use Rattle.lf_model.specs.Promise.RegularTransfer.{is_regular_transfer}
use Rattle.lf_model.specs.declared.bus.TurnKind.{TurnKind}
use Rattle.lf_model.specs.declared.bus.TurnKind.TheVariants.{Fetch, Load, Store, Atomic, Snoop, Look, Fix}
use Rattle.lf_model.specs.declared.bus.Transfer.{Transfer}
use Rattle.lf_model.specs.declared.trace.CoreResult.{CoreResult}
use Rattle.lf_model.specs.declared.trace.Op.{Op}
use Rattle.report_fields.proofs.PartLaws.{items_text, AllFrom}
use Rattle.report_lines.specs.TransferLine.{shows_dashes}
use Rattle.report_reader.specs.Dashes.{dashes, entry_length, entries_after, wrong_at, bare}
use Rattle.report_lines.proofs.TransferLaws.{loose_line, TransferFits}

-- a transfer with the length that its dashes say
abbrev pub with_dashes : List CoreResult → List Op → Transfer → Transfer
with_dashes cores entries t = record t { len = dashes (entry_length cores entries t) t }

abbrev pub dashed : List CoreResult → List Op → List Transfer → List Transfer
dashed cores entries [] = []
dashed cores entries (t ∷ ts) = with_dashes cores entries t ∷ dashed cores (entries_after cores entries t) ts

pub length_dashed : (cores : List CoreResult) (entries : List Op) (ts : List Transfer) → length (dashed cores entries ts) ≡ length ts
length_dashed cores entries [] = refl
length_dashed cores entries (t ∷ ts) = ap suc (length_dashed cores (entries_after cores entries t) ts)

-- ---- the text

store_same : (len : ℕ) (t : Transfer) (words_none long : Bool) → (if words_none then (if long then codes "----\n" else codes "--\n") else syndromes_field t)
    ≡ (if words_none then (if (if words_none && long then 8 else 0) == 8 then codes "----\n" else codes "--\n") else syndromes_field t)
store_same len t true true = refl
store_same len t true false = refl
store_same len t false long = refl

syn_same : (kind : TurnKind) (len : ℕ) (t : Transfer) → syn_field kind len t ≡ syn_field kind (if shows_dashes kind t.words && len == 8 then 8 else 0) t
syn_same Fetch len t = refl
syn_same Load len t = refl
syn_same Store len t = store_same len t (t.words == 0) (len == 8)
syn_same Atomic len t = refl
syn_same Snoop len t = refl
syn_same Look len t = refl
syn_same Fix len t = refl

-- the field does not read the transfer's own length
syn_bare : (kind : TurnKind) (shown len : ℕ) (t : Transfer) → syn_field kind shown t ≡ syn_field kind shown (record t { len = len })
syn_bare Fetch shown len t = refl
syn_bare Load shown len t = refl
syn_bare Store shown len t = refl
syn_bare Atomic shown len t = refl
syn_bare Snoop shown len t = refl
syn_bare Look shown len t = refl
syn_bare Fix shown len t = refl

line_same : (len turn : ℕ) (t : Transfer) → t.turn ≡ turn → transfer_line len t ≡ loose_line turn (record t { len = dashes len t })
unfolding transfer_line
line_same len turn t is =
    let field : syn_field t.kind len t ≡ syn_field t.kind (dashes len t) (record t { len = dashes len t }) = syn_same t.kind len t ∙ syn_bare t.kind (dashes len t) (dashes len t) t in
    ap (λ (w : List ℕ). codes "t " ++ (number 32 t.turn ++ (number 32 t.master ++ (number 32 t.step ++ (kind_word t.kind ++ (why_word t.why ++ (hex_field 32 8 t.addr
    ++ (way_field t.kind t.way ++ w)))))))) field
    ∙ ap (λ (n : ℕ). loose_line n (record t { len = dashes len t })) is

-- the line of a transfer and those after it, by whether it has an entry
by_entry : (b : Bool) (cores : List CoreResult) (entries : List Op) (t : Transfer) (ts : List Transfer)
    → (if b then transfer_line (option_map_or length_of (slice_get entries 0) 0) t ++ lines_of cores (drop 1 entries) ts else transfer_line 0 t ++ lines_of cores entries ts)
    ≡ transfer_line (if b then option_map_or length_of (slice_get entries 0) 0 else 0) t ++ lines_of cores (if b then drop 1 entries else entries) ts
by_entry true cores entries t ts = refl
by_entry false cores entries t ts = refl

abbrev first_or : ℕ → List ℕ → ℕ
first_or d [] = d
first_or d (x ∷ xs) = x

turns_split : (i : ℕ) (t : Transfer) (ts : List Transfer) → map turn_of (t ∷ ts) ≡ range_with_len i (length (t ∷ ts)) → (t.turn ≡ i) × (map turn_of ts ≡ range_with_len (i + 1) (length ts))
turns_split i t ts e = (ap (first_or 0) e, ap (drop 1) e)

pub lines_are : (cores : List CoreResult) (entries : List Op) (i : ℕ) (ts : List Transfer) → map turn_of ts ≡ range_with_len i (length ts)
    → lines_of cores entries ts ≡ items_text loose_line i (dashed cores entries ts)
lines_are cores entries i [] turns = refl
lines_are cores entries i (t ∷ ts) turns =
    let both = turns_split i t ts turns in
    by_entry (has_entry cores t) cores entries t ts
    ∙ ap (λ (w : List ℕ). w ++ lines_of cores (entries_after cores entries t) ts) (line_same (entry_length cores entries t) i t both.0)
    ∙ ap (λ (w : List ℕ). loose_line i (with_dashes cores entries t) ++ w) (lines_are cores (entries_after cores entries t) (i + 1) ts both.1)

-- ---- reading back

pub dashed_right : (cores : List CoreResult) (entries : List Op) (i : ℕ) (ts : List Transfer) → wrong_at cores entries i (dashed cores entries ts) ≡ None
dashed_right cores entries i [] = refl
dashed_right cores entries i (t ∷ ts) =
    rw (eq-eqb (dashes (entry_length cores entries t) t) (dashes (entry_length cores entries t) t) refl) (dashed_right cores (entries_after cores entries t) (i + 1) ts)

pub right_dashed : (cores : List CoreResult) (entries : List Op) (i : ℕ) (ts : List Transfer) → wrong_at cores entries i ts ≡ None → dashed cores entries (map bare ts) ≡ ts
right_dashed cores entries i [] right = refl
right_dashed cores entries i (t ∷ ts) right =
    elim (cases_Bool (eqb t.len (dashes (entry_length cores entries t) t))) [
      | inl same ↦
          let len : t.len ≡ dashes (entry_length cores entries t) t = eqb-true _ _ same in
          let more : dashed cores (entries_after cores entries t) (map bare ts) ≡ ts = right_dashed cores (entries_after cores entries t) (i + 1) ts (rw same at right) in
          ap (λ (n : ℕ). record t { len = n } ∷ dashed cores (entries_after cores entries t) (map bare ts)) (sym len) ∙ ap (λ (us : List Transfer). t ∷ us) more
      | inr other ↦ absurd (none-some i (sym (rw other at right)))
    ]

pub bare_dashed : (cores : List CoreResult) (entries : List Op) (ts : List Transfer) → list_all is_regular_transfer ts ≡ true → map bare (dashed cores entries ts) ≡ ts
bare_dashed cores entries [] fits = refl
bare_dashed cores entries (t ∷ ts) fits =
    let both = and_parts _ _ fits in
    let none : t.len ≡ 0 = eqb-true t.len 0 (and_parts _ _ both.0).1 in
    ap (λ (n : ℕ). record t { len = n } ∷ map bare (dashed cores (entries_after cores entries t) ts)) (sym none)
    ∙ ap (λ (us : List Transfer). t ∷ us) (bare_dashed cores (entries_after cores entries t) ts both.1)

-- ---- what fits

dashes_fit : (kind : TurnKind) (words : ℕ) (shows long : Bool) (len : ℕ) → len ≡ (if shows && long then 8 else 0) → (len == 0 || (shows && len == 8)) ≡ true
dashes_fit kind words true true len is = rw is refl
dashes_fit kind words true false len is = rw is refl
dashes_fit kind words false long len is = rw is refl

pub transfers_fit : (cores : List CoreResult) (entries : List Op) (i : ℕ) (ts : List Transfer) → list_all is_regular_transfer ts ≡ true → map turn_of ts ≡ range_with_len i (length ts)
    → AllFrom TransferFits i (dashed cores entries ts)
transfers_fit cores entries i [] fits turns = tt
transfers_fit cores entries i (t ∷ ts) fits turns =
    let both = and_parts _ _ fits in
    let place = turns_split i t ts turns in (
      (place.0, ((and_parts _ _ both.0).0, dashes_fit t.kind t.words (shows_dashes t.kind t.words) (entry_length cores entries t == 8) (dashes (entry_length cores entries t) t) refl)),
      transfers_fit cores (entries_after cores entries t) (i + 1) ts both.1 place.1,
    )

pub bare_regular : (i : ℕ) (ts : List Transfer) → AllFrom TransferFits i ts → (list_all is_regular_transfer (map bare ts) ≡ true) × (map turn_of (map bare ts) ≡ range_with_len i (length (map bare ts)))
bare_regular i [] fits = (refl, refl)
bare_regular i (t ∷ ts) fits =
    let more = bare_regular (i + 1) ts fits.1 in
    (and_from _ _ (and_from _ _ fits.0.1.0 refl) more.0, rw (fits.0.0, more.1) refl)
