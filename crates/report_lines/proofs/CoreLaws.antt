-- The lines of a core and their texts belong together.
use Rattle.std.proofs.Common.{◌≡◌, ℕ, zero, suc, ◌+◌, ◌*◌, ◌/◌, ◌%◌, ◌^◌, ◌<◌, List, [], ◌∷◌, ◌++◌, length, take, drop, true, eqb, refl, sym, ap, subst, ◌∙◌, append_assoc, length-append, length-drop, inl, inr, ◌⊎◌, arith}
use Rattle.std.specs.Prelude.{Option, Some, None, nat_le, codes}
use Rattle.std.specs.List.{list_all, flat_map}
use Rattle.std.proofs.lemmas.Bool.{and_parts, and_from, cases_Bool, eq-eqb, eqb-true, ne_eqb, lt-ltb, ltb-true}
use Rattle.std.proofs.lemmas.Option.{same_Some, cond_some, none-some}
use Rattle.std.proofs.lemmas.List.{take-append-drop, drop-drop, length-take-le}
use Rattle.std.proofs.lemmas.List.Folds.{list_all-append}
use Rattle.std.proofs.Math.Seq.{take-append_seam, drop-append-add, take-length}
use Rattle.lf_model.specs.Texts.{number, hex_field, hex, glyph}
use Rattle.lf_model.specs.Report.{end_text, end_line, bytes_text, out_line, word_field, words_text, words_line, register_lines, control_line, parity_line, core_lines}
use Rattle.lf_model.specs.Promise.RegularTransfer.{fits_word, fits_byte}
use Rattle.lf_model.specs.Promise.Regular.{end_fits, value_fits, parity_fits, control_fits, is_regular_core, steps_fit}
use Rattle.lf_model.specs.declared.trace.CoreEnd.{CoreEnd}
use Rattle.lf_model.specs.declared.trace.CoreEnd.TheVariants as ends
use Rattle.lf_model.specs.declared.trace.CoreResult.{CoreResult}
use Rattle.lf_model.specs.declared.trace.Four.{Four}
use Rattle.report_fields.specs.Reading.{Read, ◌>>=◌, then_at, as_at, row, word_at}
use Rattle.report_fields.specs.Digits.{number_at, digit_of, hex_more}
use Rattle.report_fields.proofs.Laws.{Reads, past_reads, then_reads, as_reads, kept_reads, either_reads, row_reads, fits_reads, text_reads, word_reads, literal_passes, bind_some}
use Rattle.report_fields.proofs.Decimal.{own_passes}
use Rattle.report_fields.proofs.Hexadecimal.{digits_reads, glyph_digit, glyph_above}
use Rattle.report_lines.proofs.Pairs.{pairs_end}
use Rattle.report_fields.proofs.Values.{any_reads, up_to_reads, byte_reads, hex_word_reads, value_reads}
use Rattle.report_fields.proofs.PartLaws.{PartReads, line_part, then_part_reads, as_part_reads}
use Rattle.report_lines.specs.declared.endings.EndWord.{EndWord}
use Rattle.report_lines.specs.declared.endings.EndWord.TheVariants.{Halt, Stop, Limit}
use Rattle.report_lines.specs.declared.endings.Ending.{Ending}
use Rattle.report_lines.specs.declared.registers.Control.{Control}
use Rattle.report_lines.specs.CoreLines.{end_word, end_words, halt_at, stop_at, limit_at, fields_at, few_steps, ending_at, pairs_at, is_some_list, bytes_at, output_at, values_at, words_at, registers_at, control_at, parity_at, result_of, core_at}

-- ---- how the core ended

abbrev word_of : CoreEnd → EndWord
word_of (ends.Halt code) = Halt
word_of (ends.Stop code place syn) = Stop
word_of ends.Limit = Limit

-- what stands behind the word
abbrev after_word : ℕ → ℕ → CoreEnd → List ℕ
after_word n steps (ends.Halt code) = hex_field 32 2 code ++ (number 32 n ++ number 10 steps)
after_word n steps (ends.Stop code place syn) = hex_field 32 2 code ++ (number 32 n ++ (number 32 steps ++ (number 32 place ++ hex_field 10 2 syn)))
after_word n steps ends.Limit = number 32 n ++ number 10 steps

abbrev after : Ending → List ℕ
after e = after_word e.n e.steps e.end

abbrev EndingFits : Ending → Type 0
EndingFits e = (end_fits e.end ≡ true) × ((fits_word e.n ≡ true) × (fits_word e.steps ≡ true))

abbrev FitsWord : EndWord → Ending → Type 0
FitsWord word e = (word_of e.end ≡ word) × EndingFits e

-- the numbers of an end, 0 where it has none
abbrev code_of : CoreEnd → ℕ
code_of (ends.Halt code) = code
code_of (ends.Stop code place syn) = code
code_of ends.Limit = 0

abbrev place_of : CoreEnd → ℕ
place_of (ends.Halt code) = 0
place_of (ends.Stop code place syn) = place
place_of ends.Limit = 0

abbrev syn_of : CoreEnd → ℕ
syn_of (ends.Halt code) = 0
syn_of (ends.Stop code place syn) = syn
syn_of ends.Limit = 0

halt_back : (n steps : ℕ) (end : CoreEnd) → word_of end ≡ Halt → end_fits end ≡ true → (fits_word n ≡ true) × (fits_word steps ≡ true)
    → (after_word n steps end ≡ hex_field 32 2 (code_of end) ++ (number 32 n ++ number 10 steps))
    × ((◌≡◌ {A = Ending} (record { n = n; steps = steps; end = ends.Halt (code_of end) }) (record { n = n; steps = steps; end = end }))
    × ((fits_byte (code_of end) ≡ true) × ((fits_word n ≡ true) × (fits_word steps ≡ true))))
halt_back n steps (ends.Halt code) is fits more = (refl, (refl, (fits, more)))
halt_back n steps (ends.Stop code place syn) is fits more = absurd cc
halt_back n steps ends.Limit is fits more = absurd cc

halt_reads : Reads (FitsWord Halt) after halt_at
unfolding halt_at
halt_reads = as_reads (FitsWord Halt) after (λ z. record { n = z.1.0; steps = z.1.1; end = ends.Halt z.0 }) (λ e. (code_of e.end, (e.n, e.steps)))
    (then_reads (byte_reads 32) (λ code h. then_reads (any_reads 32 (omega arith)) (λ n g. any_reads 10 (omega arith))))
    (λ z h. (refl, (refl, (h.0, h.1))))
    (λ e h. halt_back e.n e.steps e.end h.0 h.1.0 h.1.1)

limit_back : (n steps : ℕ) (end : CoreEnd) → word_of end ≡ Limit → (fits_word n ≡ true) × (fits_word steps ≡ true)
    → (after_word n steps end ≡ number 32 n ++ number 10 steps)
    × ((◌≡◌ {A = Ending} (record { n = n; steps = steps; end = ends.Limit }) (record { n = n; steps = steps; end = end }))
    × ((fits_word n ≡ true) × (fits_word steps ≡ true)))
limit_back n steps (ends.Halt code) is more = absurd cc
limit_back n steps (ends.Stop code place syn) is more = absurd cc
limit_back n steps ends.Limit is more = (refl, (refl, more))

limit_reads : Reads (FitsWord Limit) after limit_at
unfolding limit_at
limit_reads = as_reads (FitsWord Limit) after (λ z. record { n = z.0; steps = z.1; end = ends.Limit }) (λ e. (e.n, e.steps))
    (then_reads (any_reads 32 (omega arith)) (λ n g. any_reads 10 (omega arith)))
    (λ z h. (refl, (refl, (refl, h))))
    (λ e h. limit_back e.n e.steps e.end h.0 h.1.1)

abbrev StopNumbers : ℕ × (ℕ × (ℕ × (ℕ × ℕ))) → Type 0
StopNumbers z = (fits_byte z.0 ≡ true) × ((fits_word z.1.0 ≡ true) × ((fits_word z.1.1.0 ≡ true) × ((fits_word z.1.1.1.0 ≡ true) × (fits_byte z.1.1.1.1 ≡ true))))

stop_back : (n steps : ℕ) (end : CoreEnd) → word_of end ≡ Stop → end_fits end ≡ true → (fits_word n ≡ true) × (fits_word steps ≡ true)
    → (after_word n steps end ≡ hex_field 32 2 (code_of end) ++ (number 32 n ++ (number 32 steps ++ (number 32 (place_of end) ++ hex_field 10 2 (syn_of end)))))
    × ((◌≡◌ {A = Ending} (record { n = n; steps = steps; end = ends.Stop (code_of end) (place_of end) (syn_of end) }) (record { n = n; steps = steps; end = end }))
    × StopNumbers (code_of end, (n, (steps, (place_of end, syn_of end)))))
stop_back n steps (ends.Halt code) is fits more = absurd cc
stop_back n steps (ends.Stop code place syn) is fits more =
    let first = and_parts _ _ fits in
    let later = and_parts _ _ first.1 in
    (refl, (refl, (first.0, (more.0, (more.1, (later.0, later.1))))))
stop_back n steps ends.Limit is fits more = absurd cc

stop_reads : Reads (FitsWord Stop) after stop_at
unfolding stop_at
stop_reads = as_reads (FitsWord Stop) after (λ z. record { n = z.1.0; steps = z.1.1.0; end = ends.Stop z.0 z.1.1.1.0 z.1.1.1.1 })
    (λ e. (code_of e.end, (e.n, (e.steps, (place_of e.end, syn_of e.end)))))
    (then_reads (byte_reads 32) (λ code h. then_reads (any_reads 32 (omega arith)) (λ n g. then_reads (any_reads 32 (omega arith)) (λ steps f.
    then_reads (any_reads 32 (omega arith)) (λ place d. byte_reads 10)))))
    (λ z h. (refl, (refl, (and_from _ _ h.0 (and_from _ _ h.1.1.1.0 h.1.1.1.1), (h.1.0, h.1.1.0)))))
    (λ e h. stop_back e.n e.steps e.end h.0 h.1.0 h.1.1)

fields_reads : (word : EndWord) → Reads (FitsWord word) after (fields_at word)
fields_reads Halt = halt_reads
fields_reads Stop = stop_reads
fields_reads Limit = limit_reads

end_word_again : (word : EndWord) (rest : List ℕ) → word_at end_word end_words (end_word word ++ rest) ≡ Some (word, rest)
end_word_again Halt rest = refl
end_word_again Stop rest = refl
end_word_again Limit rest = refl

end_word_reads : Reads (λ (word : EndWord). Unit {0}) end_word (word_at end_word end_words)
end_word_reads = word_reads (λ word. Unit {0}) end_word end_words (λ bytes word rest e. tt) (λ word rest h. end_word_again word rest)

end_text_is : (n steps : ℕ) (end : CoreEnd) → end_text n steps end ≡ end_word (word_of end) ++ after_word n steps end
end_text_is n steps (ends.Halt code) = refl
end_text_is n steps (ends.Stop code place syn) = refl
end_text_is n steps ends.Limit = refl

abbrev ending_text : Ending → List ℕ
ending_text e = end_text e.n e.steps e.end

ending_reads : Reads EndingFits ending_text (as_at (λ z. z.1) (then_at (word_at end_word end_words) fields_at))
ending_reads = as_reads EndingFits ending_text (λ z. z.1) (λ e. (word_of e.end, e)) (then_reads end_word_reads (λ word h. fields_reads word))
    (λ z h. (end_text_is z.1.n z.1.steps z.1.end ∙ ap (λ (w : EndWord). end_word w ++ after z.1) h.1.0, h.1.1))
    (λ e h. (end_text_is e.n e.steps e.end, (refl, (tt, (refl, h)))))

abbrev ending_line : ℕ → Ending → List ℕ
ending_line k e = codes "core " ++ (number 32 k ++ ending_text e)

ending_line_reads : (cores k : ℕ) → k < 2 ^ 32 → Reads (λ e. EndingFits e × (few_steps cores e ≡ true)) (ending_line k) (ending_at cores k)
unfolding ending_at
ending_line_reads cores k small = past_reads (literal_passes (codes "core ")) (past_reads (own_passes 32 k (omega arith) small) (kept_reads (few_steps cores) ending_reads))

-- ---- the bytes written

-- bytes as two digits each, up to the line feed
abbrev pairs_text : List ℕ → List ℕ
pairs_text bs = flat_map (hex 2) bs ++ 10 ∷ []

-- ---- registers

abbrev first_value : List (Option ℕ) → Option ℕ
first_value [] = None
first_value (v ∷ vs) = v

one_back : (vs : List (Option ℕ)) → length vs ≡ 1 → list_all value_fits vs ≡ true → (words_text vs ≡ word_field 10 (first_value vs)) × ((first_value vs ∷ [] ≡ vs) × (value_fits (first_value vs) ≡ true))
one_back [] few fits = absurd (omega arith)
one_back (v ∷ []) few fits = (refl, (refl, (and_parts _ _ fits).0))
one_back (v ∷ w ∷ vs) few fits = absurd (omega arith)

more_there : (n : ℕ) (v : Option ℕ) (vs : List (Option ℕ)) → value_fits v ≡ true → (length vs ≡ suc n) × (list_all value_fits vs ≡ true)
    → (words_text (v ∷ vs) ≡ word_field 32 v ++ words_text vs) × ((length (v ∷ vs) ≡ suc (suc n)) × (list_all value_fits (v ∷ vs) ≡ true))
more_there n v [] fits h = absurd (omega (arith, h.0))
more_there n v (w ∷ vs) fits h = (refl, (ap suc h.0, and_from _ _ fits h.1))

more_back : (n : ℕ) (vs : List (Option ℕ)) → length vs ≡ suc (suc n) → list_all value_fits vs ≡ true
    → (words_text vs ≡ word_field 32 (first_value vs) ++ words_text (drop 1 vs)) × ((first_value vs ∷ drop 1 vs ≡ vs) × ((value_fits (first_value vs) ≡ true) × ((length (drop 1 vs) ≡ suc n) × (list_all value_fits (drop 1 vs) ≡ true))))
more_back n [] long fits = absurd (omega arith)
more_back n (v ∷ []) long fits = absurd (omega arith)
more_back n (v ∷ w ∷ vs) long fits = let both = and_parts _ _ fits in (refl, (refl, (both.0, (omega (arith, long), both.1))))

values_reads : (n : ℕ) → Reads (λ vs. (length vs ≡ suc n) × (list_all value_fits vs ≡ true)) words_text (values_at n)
values_reads zero = as_reads (λ vs. (length vs ≡ 1) × (list_all value_fits vs ≡ true)) words_text (λ v. v ∷ []) first_value (value_reads 10)
    (λ v h. (refl, (refl, and_from _ _ h refl)))
    (λ vs h. one_back vs h.0 h.1)
values_reads (suc n) = as_reads (λ vs. (length vs ≡ suc (suc n)) × (list_all value_fits vs ≡ true)) words_text (λ z. z.0 ∷ z.1) (λ vs. (first_value vs, drop 1 vs))
    (then_reads (value_reads 32) (λ v h. values_reads n))
    (λ z h. more_there n z.0 z.1 h.0 h.1)
    (λ vs h. more_back n vs h.0 h.1)

abbrev Eight : List (Option ℕ) → Type 0
Eight vs = (length vs ≡ 8) × (list_all value_fits vs ≡ true)

words_reads : (head : List ℕ) (k : ℕ) → k < 2 ^ 32 → Reads Eight (words_line head k) (words_at head k)
unfolding words_at words_line
words_reads head k small = past_reads (literal_passes head) (past_reads (own_passes 32 k (omega arith) small) (values_reads 7))

abbrev registers_text : ℕ → List (Option ℕ) → List ℕ
registers_text k regs = words_line (codes "g ") k (take 8 regs) ++ (words_line (codes "o ") k (take 8 (drop 8 regs))
    ++ (words_line (codes "l ") k (take 8 (drop 16 regs)) ++ words_line (codes "i ") k (take 8 (drop 24 regs))))

abbrev AllRegisters : List (Option ℕ) → Type 0
AllRegisters regs = (length regs ≡ 32) × (list_all value_fits regs ≡ true)

take_front : (xs ys : List (Option ℕ)) (n : ℕ) → length xs ≡ n → take n (xs ++ ys) ≡ xs
take_front xs ys n is = ap (λ (k : ℕ). take k (xs ++ ys)) (sym is) ∙ take-append_seam xs ys

drop_front : (xs ys : List (Option ℕ)) (n m whole : ℕ) → length xs ≡ n → whole ≡ n + m → drop whole (xs ++ ys) ≡ drop m ys
drop_front xs ys n m whole is all =
    let same : whole ≡ length xs + m = omega (arith, is, all) in
    ap (λ (k : ℕ). drop k (xs ++ ys)) same ∙ drop-append-add xs ys m

take_all : (xs : List (Option ℕ)) (n : ℕ) → length xs ≡ n → take n xs ≡ xs
take_all xs n is = ap (λ (k : ℕ). take k xs) (sym is) ∙ take-length xs

registers_there : (k : ℕ) (g o l i : List (Option ℕ)) → Eight g → Eight o → Eight l → Eight i
    → (registers_text k (g ++ (o ++ (l ++ i))) ≡ words_line (codes "g ") k g ++ (words_line (codes "o ") k o ++ (words_line (codes "l ") k l ++ words_line (codes "i ") k i)))
    × AllRegisters (g ++ (o ++ (l ++ i)))
registers_there k g o l i hg ho hl hi =
    let whole : List (Option ℕ) = g ++ (o ++ (l ++ i)) in
    let first : take 8 whole ≡ g = take_front g (o ++ (l ++ i)) 8 hg.0 in
    let from8 : drop 8 whole ≡ o ++ (l ++ i) = drop_front g (o ++ (l ++ i)) 8 0 8 hg.0 refl in
    let from16 : drop 16 whole ≡ l ++ i = drop_front g (o ++ (l ++ i)) 8 8 16 hg.0 refl ∙ drop_front o (l ++ i) 8 0 8 ho.0 refl in
    let from24 : drop 24 whole ≡ i = drop_front g (o ++ (l ++ i)) 8 16 24 hg.0 refl ∙ drop_front o (l ++ i) 8 8 16 ho.0 refl ∙ drop_front l i 8 0 8 hl.0 refl in
    let second : take 8 (drop 8 whole) ≡ o = ap (take 8) from8 ∙ take_front o (l ++ i) 8 ho.0 in
    let third : take 8 (drop 16 whole) ≡ l = ap (take 8) from16 ∙ take_front l i 8 hl.0 in
    let last : take 8 (drop 24 whole) ≡ i = ap (take 8) from24 ∙ take_all i 8 hi.0 in
    let long : length whole ≡ 32 = omega (arith, length-append g (o ++ (l ++ i)), length-append o (l ++ i), length-append l i, hg.0, ho.0, hl.0, hi.0) in
    let fit : list_all value_fits whole ≡ true =
    list_all-append value_fits g (o ++ (l ++ i)) ∙ and_from _ _ hg.1 (list_all-append value_fits o (l ++ i) ∙ and_from _ _ ho.1 (list_all-append value_fits l i ∙ and_from _ _ hl.1 hi.1)) in
    (rw (first, second, third, last) refl, (long, fit))

parts_fit : (n : ℕ) (vs : List (Option ℕ)) → list_all value_fits vs ≡ true → (list_all value_fits (take n vs) ≡ true) × (list_all value_fits (drop n vs) ≡ true)
parts_fit n vs fits = and_parts _ _ (sym (list_all-append value_fits (take n vs) (drop n vs)) ∙ ap (list_all value_fits) (take-append-drop n vs) ∙ fits)

registers_back : (regs : List (Option ℕ)) → AllRegisters regs
    → (take 8 regs ++ (take 8 (drop 8 regs) ++ (take 8 (drop 16 regs) ++ take 8 (drop 24 regs))) ≡ regs)
    × (Eight (take 8 regs) × (Eight (take 8 (drop 8 regs)) × (Eight (take 8 (drop 16 regs)) × Eight (take 8 (drop 24 regs)))))
registers_back regs h =
    let from16 : drop 8 (drop 8 regs) ≡ drop 16 regs = drop-drop 8 8 regs in
    let from24 : drop 8 (drop 16 regs) ≡ drop 24 regs = drop-drop 8 16 regs in
    let len8 : length (drop 8 regs) ≡ 24 = omega (arith, length-drop 8 regs, h.0) in
    let len16 : length (drop 16 regs) ≡ 16 = omega (arith, length-drop 16 regs, h.0) in
    let len24 : length (drop 24 regs) ≡ 8 = omega (arith, length-drop 24 regs, h.0) in
    let a = parts_fit 8 regs h.1 in
    let b = parts_fit 8 (drop 8 regs) a.1 in
    let c = parts_fit 8 (drop 16 regs) (ap (list_all value_fits) (sym from16) ∙ b.1) in
    let d = parts_fit 8 (drop 24 regs) (ap (list_all value_fits) (sym from24) ∙ c.1) in
    let last : take 8 (drop 24 regs) ≡ drop 24 regs = take_all (drop 24 regs) 8 len24 in
    let third : take 8 (drop 16 regs) ++ take 8 (drop 24 regs) ≡ drop 16 regs = ap (λ (r : List (Option ℕ)). take 8 (drop 16 regs) ++ r) (last ∙ sym from24) ∙ take-append-drop 8 (drop 16 regs) in
    let second : take 8 (drop 8 regs) ++ (take 8 (drop 16 regs) ++ take 8 (drop 24 regs)) ≡ drop 8 regs = ap (λ (r : List (Option ℕ)). take 8 (drop 8 regs) ++ r) (third ∙ sym from16) ∙ take-append-drop 8 (drop 8 regs) in
    let first : take 8 regs ++ (take 8 (drop 8 regs) ++ (take 8 (drop 16 regs) ++ take 8 (drop 24 regs))) ≡ regs = ap (λ (r : List (Option ℕ)). take 8 regs ++ r) second ∙ take-append-drop 8 regs in (
      first,
      (
        (length-take-le 8 regs (omega (arith, h.0)), a.0),
        (
          (length-take-le 8 (drop 8 regs) (omega (arith, len8)), b.0),
          ((length-take-le 8 (drop 16 regs) (omega (arith, len16)), c.0), (length-take-le 8 (drop 24 regs) (omega (arith, len24)), d.0)),
        ),
      ),
    )

registers_reads : (k : ℕ) → k < 2 ^ 32 → PartReads AllRegisters (registers_text k) (registers_at k)
unfolding registers_at
registers_reads k small = as_part_reads AllRegisters (registers_text k) (λ z. z.0 ++ (z.1.0 ++ (z.1.1.0 ++ z.1.1.1)))
    (λ regs. (take 8 regs, (take 8 (drop 8 regs), (take 8 (drop 16 regs), take 8 (drop 24 regs)))))
    (then_part_reads (line_part (words_reads (codes "g ") k small)) (λ g hg. then_part_reads (line_part (words_reads (codes "o ") k small)) (λ o ho.
    then_part_reads (line_part (words_reads (codes "l ") k small)) (λ l hl. line_part (words_reads (codes "i ") k small)))))
    (λ z h. registers_there k z.0 z.1.0 z.1.1.0 z.1.1.1 h.0 h.1.0 h.1.1.0 h.1.1.1)
    (λ regs h. (refl, registers_back regs h))

-- ---- PSR, WIM, TBR, Y, PC and nPC

abbrev control_text : ℕ → Control → List ℕ
control_text k c = words_line (codes "ctl ") k (Some c.psr ∷ Some c.wim ∷ Some c.tbr ∷ Some c.y ∷ Some c.pc ∷ Some c.npc ∷ [])

abbrev ControlFits : Control → Type 0
ControlFits c = (fits_word c.psr ≡ true) × ((fits_word c.wim ≡ true) × ((fits_word c.tbr ≡ true) × ((fits_word c.y ≡ true) × ((fits_word c.pc ≡ true) × (fits_word c.npc ≡ true)))))

control_reads : (k : ℕ) → k < 2 ^ 32 → Reads ControlFits (control_text k) (control_at k)
unfolding control_at words_line word_field
control_reads k small = past_reads (literal_passes (codes "ctl ")) (past_reads (own_passes 32 k (omega arith) small)
    (as_reads ControlFits (λ c. words_text (Some c.psr ∷ Some c.wim ∷ Some c.tbr ∷ Some c.y ∷ Some c.pc ∷ Some c.npc ∷ []))
    (λ z. record { psr = z.0; wim = z.1.0; tbr = z.1.1.0; y = z.1.1.1.0; pc = z.1.1.1.1.0; npc = z.1.1.1.1.1 })
    (λ c. (c.psr, (c.wim, (c.tbr, (c.y, (c.pc, c.npc))))))
    (then_reads (hex_word_reads 32) (λ psr a. then_reads (hex_word_reads 32) (λ wim b. then_reads (hex_word_reads 32) (λ tbr c.
    then_reads (hex_word_reads 32) (λ y d. then_reads (hex_word_reads 32) (λ pc e. hex_word_reads 10))))))
    (λ z h. (refl, h)) (λ c h. (refl, (refl, h)))))

-- ---- the counters of parity errors

counter : Reads (λ n. nat_le n 3 ≡ true) (number 32) (number_at 32 3)
counter = up_to_reads 32 3 (omega arith) (omega arith)

parity_reads : (k : ℕ) → k < 2 ^ 32 → Reads (λ p. parity_fits p ≡ true) (parity_line k) (parity_at k)
unfolding parity_at parity_line
parity_reads k small = past_reads (literal_passes (codes "parity ")) (past_reads (own_passes 32 k (omega arith) small)
    (as_reads (λ p. parity_fits p ≡ true) (λ p. number 32 p.fetch_tag ++ (number 32 p.fetch_byte ++ (number 32 p.data_tag ++ number 10 p.data_byte)))
    (λ z. record { fetch_tag = z.0; fetch_byte = z.1.0; data_tag = z.1.1.0; data_byte = z.1.1.1 })
    (λ p. (p.fetch_tag, (p.fetch_byte, (p.data_tag, p.data_byte))))
    (then_reads counter (λ a h. then_reads counter (λ b g. then_reads counter (λ c f. up_to_reads 10 3 (omega arith) (omega arith)))))
    (λ z h. (refl, and_from _ _ h.0 (and_from _ _ h.1.0 (and_from _ _ h.1.1.0 h.1.1.1))))
    (λ p h. let a = and_parts _ _ h in let b = and_parts _ _ a.1 in let c = and_parts _ _ b.1 in (refl, (refl, (a.0, (b.0, (c.0, c.1))))))))

-- ---- bytes of two digits

pair_read : (b c high low : ℕ) (bytes : List ℕ) → digit_of b ≡ Some high → digit_of c ≡ Some low → hex_more 2 0 (b ∷ c ∷ bytes) ≡ Some (16 * high + low, bytes)
pair_read b c high low bytes first second =
    let value : 16 * (16 * 0 + high) + low ≡ 16 * high + low = omega arith in
    rw (first, second) (ap (λ (n : ℕ). Some (n, bytes)) value)

joined : (a b rest : List ℕ) → a ++ ((b ++ 10 ∷ []) ++ rest) ≡ ((a ++ b) ++ 10 ∷ []) ++ rest
joined a b rest = sym (append_assoc a (b ++ 10 ∷ []) rest) ∙ ap (λ (w : List ℕ). w ++ rest) (sym (append_assoc a b (10 ∷ [])))

pair_on : (b : ℕ) (more stop rest bs later : List ℕ) → b < 256 → pairs_at ((more ++ stop) ++ rest) ≡ Some (bs, later) → pairs_at (((hex 2 b ++ more) ++ stop) ++ rest) ≡ Some (b ∷ bs, later)
unfolding hex
pair_on b more stop rest bs later small e =
    let high : ℕ = b / 16 ^ 1 % 16 in
    let low : ℕ = b / 16 ^ 0 % 16 in
    let value : 16 * high + low ≡ b = omega arith in
    rw (ne_eqb (glyph high) 10 (λ same. omega (arith, same, glyph_above high)), glyph_digit high (omega arith), glyph_digit low (omega arith), e) (ap (λ (n : ℕ). Some (n ∷ bs, later)) value)

pairs_take : (bytes bs rest : List ℕ) → pairs_at bytes ≡ Some (bs, rest) → (bytes ≡ pairs_text bs ++ rest) × (list_all fits_byte bs ≡ true)
pairs_take [] bs rest e = absurd (none-some (bs, rest) e)
pairs_take (b ∷ []) bs rest e =
    let g = cond_some (eqb b 10) ([], []) (bs, rest) e in
    subst (λ (w : List ℕ × List ℕ). (b ∷ [] ≡ pairs_text w.0 ++ w.1) × (list_all fits_byte w.0 ≡ true)) g.1 (ap (λ (x : ℕ). x ∷ []) (eqb-true b 10 g.0), refl)
pairs_take (b ∷ c ∷ bytes) bs rest e =
    elim (cases_Bool (eqb b 10)) [
      | inl is_so ↦
          let g = same_Some ([], c ∷ bytes) (bs, rest) (rw is_so at e) in
          subst (λ (w : List ℕ × List ℕ). (b ∷ c ∷ bytes ≡ pairs_text w.0 ++ w.1) × (list_all fits_byte w.0 ≡ true)) g (ap (λ (x : ℕ). x ∷ c ∷ bytes) (eqb-true b 10 is_so), refl)
      | inr not_so ↦
          let high = bind_some (digit_of b) (λ h. digit_of c >>= λ l. pairs_at bytes >>= λ x. Some ((16 * h + l) ∷ x.0, x.1)) (bs, rest) (rw not_so at e) in
          let low = bind_some (digit_of c) (λ l. pairs_at bytes >>= λ x. Some ((16 * high.0 + l) ∷ x.0, x.1)) (bs, rest) high.2 in
          let more = bind_some (pairs_at bytes) (λ x. Some ((16 * high.0 + low.0) ∷ x.0, x.1)) (bs, rest) low.2 in
          let value : ℕ = 16 * high.0 + low.0 in
          let pair : hex_more 2 0 (b ∷ c ∷ bytes) ≡ Some (value, bytes) = pair_read b c high.0 low.0 bytes high.1 low.1 in
          let shown = (digits_reads 2).takes (b ∷ c ∷ bytes) value bytes pair in
          let ih = pairs_take bytes more.0.0 more.0.1 more.1 in
          let text : b ∷ c ∷ bytes ≡ pairs_text (value ∷ more.0.0) ++ more.0.1 =
          shown.0 ∙ ap (λ (r : List ℕ). hex 2 value ++ r) ih.0 ∙ joined (hex 2 value) (flat_map (hex 2) more.0.0) more.0.1 in
          subst (λ (w : List ℕ × List ℕ). (b ∷ c ∷ bytes ≡ pairs_text w.0 ++ w.1) × (list_all fits_byte w.0 ≡ true)) (same_Some (value ∷ more.0.0, more.0.1) (bs, rest) more.2)
          (text, and_from _ _ (lt-ltb value 256 shown.1) ih.1)
    ]

pairs_again : (bs rest : List ℕ) → list_all fits_byte bs ≡ true → pairs_at (pairs_text bs ++ rest) ≡ Some (bs, rest)
pairs_again [] rest fits = pairs_end rest
pairs_again (b ∷ bs) rest fits =
    let both = and_parts _ _ fits in
    let small : b < 256 = ltb-true b 256 both.0 in
    pair_on b (flat_map (hex 2) bs) (10 ∷ []) rest bs rest small (pairs_again bs rest both.1)

pairs_reads : Reads (λ bs. list_all fits_byte bs ≡ true) pairs_text pairs_at
pairs_reads = record { takes = pairs_take; again = pairs_again }

abbrev bytes_line : List ℕ → List ℕ
bytes_line bs = bytes_text bs ++ 10 ∷ []

some_text : (bs : List ℕ) → is_some_list bs ≡ true → bytes_line bs ≡ pairs_text bs
some_text [] some = absurd cc
some_text (b ∷ bs) some = refl

dash_refuses : (bs rest : List ℕ) → is_some_list bs ≡ true → ◌≡◌ {A = Read (List ℕ)} (row {X = List ℕ} (codes "-\n") [] (bytes_line bs ++ rest)) None
unfolding hex
dash_refuses [] rest some = absurd cc
dash_refuses (b ∷ bs) rest some = rw (ne_eqb 45 (glyph (b / 16 ^ 1 % 16)) (λ same. omega (arith, same, glyph_above (b / 16 ^ 1 % 16)))) refl

empty_or_some : (bs : List ℕ) → list_all fits_byte bs ≡ true → (bs ≡ []) ⊎ ((list_all fits_byte bs ≡ true) × (is_some_list bs ≡ true))
empty_or_some [] fits = inl refl
empty_or_some (b ∷ bs) fits = inr (fits, refl)

bytes_fit : (bs : List ℕ) → (bs ≡ []) ⊎ ((list_all fits_byte bs ≡ true) × (is_some_list bs ≡ true)) → list_all fits_byte bs ≡ true
bytes_fit bs (inl none) = ap (list_all fits_byte) none
bytes_fit bs (inr h) = h.0

bytes_reads : Reads (λ bs. list_all fits_byte bs ≡ true) bytes_line bytes_at
bytes_reads = fits_reads (λ bs. list_all fits_byte bs ≡ true)
    (either_reads (row_reads bytes_line (codes "-\n") [] refl) (text_reads bytes_line (kept_reads is_some_list pairs_reads) (λ bs h. some_text bs h.1)) (λ bs rest h. dash_refuses bs rest h.1))
    bytes_fit empty_or_some

abbrev output_line : ℕ → List ℕ → List ℕ
output_line k bs = codes "out " ++ (number 32 k ++ bytes_line bs)

output_reads : (k : ℕ) → k < 2 ^ 32 → Reads (λ bs. list_all fits_byte bs ≡ true) (output_line k) (output_at k)
unfolding output_at
output_reads k small = past_reads (literal_passes (codes "out ")) (past_reads (own_passes 32 k (omega arith) small) bytes_reads)

-- ---- all eight lines

abbrev pub CoreFits : ℕ → CoreResult → Type 0
CoreFits cores r = (is_regular_core r ≡ true) × (steps_fit cores r ≡ true)

abbrev ending_of : CoreResult → Ending
ending_of r = record { n = r.n; steps = r.steps; end = r.end }

abbrev control_of : CoreResult → Control
control_of r = record { psr = r.psr; wim = r.wim; tbr = r.tbr; y = r.y; pc = r.pc; npc = r.npc }

abbrev PartsFit : ℕ → Ending → List ℕ → List (Option ℕ) → Control → Four → Type 0
PartsFit cores e out regs c p = (EndingFits e × (few_steps cores e ≡ true)) × ((list_all fits_byte out ≡ true) × (AllRegisters regs × (ControlFits c × (parity_fits p ≡ true))))

core_there : (cores : ℕ) (e : Ending) (out : List ℕ) (regs : List (Option ℕ)) (c : Control) (p : Four) → PartsFit cores e out regs c p → CoreFits cores (result_of e out regs c p)
core_there cores e out regs c p h =
    let control : control_fits (result_of e out regs c p) ≡ true =
    let d = h.1.1.1.0 in and_from _ _ d.0 (and_from _ _ d.1.0 (and_from _ _ d.1.1.0 (and_from _ _ d.1.1.1.0 (and_from _ _ d.1.1.1.1.0 d.1.1.1.1.1)))) in (
      and_from _ _ h.0.0.0 (and_from _ _ h.0.0.1.0 (and_from _ _ h.0.0.1.1 (and_from _ _ h.1.0 (and_from _ _ (eq-eqb (length regs) 32 h.1.1.0.0) (and_from _ _ h.1.1.0.1
          (and_from _ _ control h.1.1.1.1)))))),
      h.0.1,
    )

core_back : (cores : ℕ) (r : CoreResult) → CoreFits cores r → PartsFit cores (ending_of r) r.out r.regs (control_of r) r.parity
core_back cores r h =
    let a = and_parts _ _ h.0 in let b = and_parts _ _ a.1 in let c = and_parts _ _ b.1 in let d = and_parts _ _ c.1 in let e = and_parts _ _ d.1 in
    let f = and_parts _ _ e.1 in let g = and_parts _ _ f.1 in
    let q = and_parts _ _ g.0 in let s = and_parts _ _ q.1 in let t = and_parts _ _ s.1 in let u = and_parts _ _ t.1 in let v = and_parts _ _ u.1 in
    (((a.0, (b.0, c.0)), h.1), (d.0, ((eqb-true (length r.regs) 32 e.0, f.0), ((q.0, (s.0, (t.0, (u.0, (v.0, v.1))))), g.1))))

pub core_reads : (cores k : ℕ) → k < 2 ^ 32 → PartReads (CoreFits cores) (core_lines k) (core_at cores k)
unfolding core_at core_lines end_line out_line register_lines control_line
core_reads cores k small = as_part_reads (CoreFits cores) (core_lines k) (λ z. result_of z.0 z.1.0 z.1.1.0 z.1.1.1.0 z.1.1.1.1)
    (λ r. (ending_of r, (r.out, (r.regs, (control_of r, r.parity)))))
    (then_part_reads (line_part (ending_line_reads cores k small)) (λ e h. then_part_reads (line_part (output_reads k small)) (λ out g.
    then_part_reads (registers_reads k small) (λ regs f. then_part_reads (line_part (control_reads k small)) (λ c d. line_part (parity_reads k small))))))
    (λ z h. (refl, core_there cores z.0 z.1.0 z.1.1.0 z.1.1.1.0 z.1.1.1.1 h))
    (λ r h. (refl, (refl, core_back cores r h)))
