-- Wrong reports that the ledger refuses at a flip. Numbers of fates: 1 late, 2 declined, 3 repaired, 4 discarded, 5 stopped,
-- 6 overwritten, 7 dormant.
use Rattle.std.specs.Prelude.{◌≡◌, refl}
use Rattle.lf_model.specs.Ledger.Rule.{KeepsLedger}
use Rattle.lf_model.specs.Report.{report}
use Rattle.lf_model.specs.declared.trace.Trace.{Trace}
use Rattle.lf_worked.specs.Edits.{with_fate, with_line}
use Rattle.lf_worked.specs.Machine.{machine}
use Rattle.lf_worked.specs.Rows.{text_lines}
use Rattle.lf_worked.proofs.Items.{differ, fate}
use Rattle.lf_model.specs.declared.trace.Fate.TheVariants as fates
use Rattle.lf_worked.specs.CorrectedLoad.{corrected_load_setup, corrected_load_trace, corrected_load_lines}
use Rattle.lf_worked.specs.FlipsOfTags.{flips_of_tags_setup, flips_of_tags_trace, flips_of_tags_lines}
use Rattle.lf_worked.specs.FlipsOfWords.{flips_of_words_setup, flips_of_words_trace, flips_of_words_lines}
use Rattle.lf_worked.specs.HalfStoreByCoreOne.{half_store_by_core_one_setup, half_store_by_core_one_trace, half_store_by_core_one_lines}
use Rattle.lf_worked.specs.SameBitTwice.{same_bit_twice_setup, same_bit_twice_trace, same_bit_twice_lines}
use Rattle.lf_worked.specs.StopAtLoad.{stop_at_load_setup, stop_at_load_trace, stop_at_load_lines}
use Rattle.lf_worked.specs.StruckLine.{struck_line_setup, struck_line_trace, struck_line_lines}
use Rattle.lf_worked.specs.StruckTag.{struck_tag_setup, struck_tag_trace, struck_tag_lines}
use Rattle.lf_worked.specs.WordStoreMends.{word_store_mends_setup, word_store_mends_trace, word_store_mends_lines}

-- a word is never discarded
unfoldable dormant_as_discarded : Trace
unfolding corrected_load_trace
dormant_as_discarded = with_fate 0 fates.Discarded corrected_load_trace

dormant_as_discarded_text : report dormant_as_discarded ≡ text_lines (with_line 18 "f 0 discarded" corrected_load_lines)
unfolding machine dormant_as_discarded corrected_load_lines
dormant_as_discarded_text = refl

dormant_as_discarded_refused : KeepsLedger corrected_load_setup dormant_as_discarded → ⊥
unfolding machine corrected_load_setup dormant_as_discarded
dormant_as_discarded_refused h = differ (fate 0) 7 4 refl refl refl h.same

-- a read does not write memory
unfoldable dormant_as_repaired : Trace
unfolding corrected_load_trace
dormant_as_repaired = with_fate 0 fates.Repaired corrected_load_trace

dormant_as_repaired_text : report dormant_as_repaired ≡ text_lines (with_line 18 "f 0 repaired" corrected_load_lines)
unfolding machine dormant_as_repaired corrected_load_lines
dormant_as_repaired_text = refl

dormant_as_repaired_refused : KeepsLedger corrected_load_setup dormant_as_repaired → ⊥
unfolding machine corrected_load_setup dormant_as_repaired
dormant_as_repaired_refused h = differ (fate 0) 7 3 refl refl refl h.same

-- a stop met it
unfoldable stopped_as_dormant : Trace
unfolding stop_at_load_trace
stopped_as_dormant = with_fate 1 fates.Dormant stop_at_load_trace

stopped_as_dormant_text : report stopped_as_dormant ≡ text_lines (with_line 18 "f 1 dormant" stop_at_load_lines)
unfolding machine stopped_as_dormant stop_at_load_lines
stopped_as_dormant_text = refl

stopped_as_dormant_refused : KeepsLedger stop_at_load_setup stopped_as_dormant → ⊥
unfolding machine stop_at_load_setup stopped_as_dormant
stopped_as_dormant_refused h = differ (fate 1) 5 7 refl refl refl h.same

-- its byte was struck already
unfoldable declined_as_dormant : Trace
unfolding struck_line_trace
declined_as_dormant = with_fate 4 fates.Dormant struck_line_trace

declined_as_dormant_text : report declined_as_dormant ≡ text_lines (with_line 24 "f 4 dormant" struck_line_lines)
unfolding machine declined_as_dormant struck_line_lines
declined_as_dormant_text = refl

declined_as_dormant_refused : KeepsLedger struck_line_setup declined_as_dormant → ⊥
unfolding machine struck_line_setup declined_as_dormant
declined_as_dormant_refused h = differ (fate 4) 2 7 refl refl refl h.same

-- its turn never came
unfoldable late_as_dormant : Trace
unfolding flips_of_words_trace
late_as_dormant = with_fate 5 fates.Dormant flips_of_words_trace

late_as_dormant_text : report late_as_dormant ≡ text_lines (with_line 27 "f 5 dormant" flips_of_words_lines)
unfolding machine late_as_dormant flips_of_words_lines
late_as_dormant_text = refl

late_as_dormant_refused : KeepsLedger flips_of_words_setup late_as_dormant → ⊥
unfolding machine flips_of_words_setup late_as_dormant
late_as_dormant_refused h = differ (fate 5) 1 7 refl refl refl h.same

-- a word store corrects nothing
unfoldable overwritten_as_repaired : Trace
unfolding word_store_mends_trace
overwritten_as_repaired = with_fate 0 fates.Repaired word_store_mends_trace

overwritten_as_repaired_text : report overwritten_as_repaired ≡ text_lines (with_line 21 "f 0 repaired" word_store_mends_lines)
unfolding machine overwritten_as_repaired word_store_mends_lines
overwritten_as_repaired_text = refl

overwritten_as_repaired_refused : KeepsLedger word_store_mends_setup overwritten_as_repaired → ⊥
unfolding machine word_store_mends_setup overwritten_as_repaired
overwritten_as_repaired_refused h = differ (fate 0) 6 3 refl refl refl h.same

-- a part store corrects the word
unfoldable repaired_as_overwritten : Trace
unfolding half_store_by_core_one_trace
repaired_as_overwritten = with_fate 0 fates.Overwritten half_store_by_core_one_trace

repaired_as_overwritten_text : report repaired_as_overwritten ≡ text_lines (with_line 27 "f 0 overwritten" half_store_by_core_one_lines)
unfolding machine repaired_as_overwritten half_store_by_core_one_lines
repaired_as_overwritten_text = refl

repaired_as_overwritten_refused : KeepsLedger half_store_by_core_one_setup repaired_as_overwritten → ⊥
unfolding machine half_store_by_core_one_setup repaired_as_overwritten
repaired_as_overwritten_refused h = differ (fate 0) 3 6 refl refl refl h.same

-- a check found it
unfoldable discarded_as_overwritten : Trace
unfolding struck_tag_trace
discarded_as_overwritten = with_fate 0 fates.Overwritten struck_tag_trace

discarded_as_overwritten_text : report discarded_as_overwritten ≡ text_lines (with_line 20 "f 0 overwritten" struck_tag_lines)
unfolding machine discarded_as_overwritten struck_tag_lines
discarded_as_overwritten_text = refl

discarded_as_overwritten_refused : KeepsLedger struck_tag_setup discarded_as_overwritten → ⊥
unfolding machine struck_tag_setup discarded_as_overwritten
discarded_as_overwritten_refused h = differ (fate 0) 4 6 refl refl refl h.same

-- FLUSH does not check
unfoldable overwritten_as_discarded : Trace
unfolding flips_of_tags_trace
overwritten_as_discarded = with_fate 2 fates.Discarded flips_of_tags_trace

overwritten_as_discarded_text : report overwritten_as_discarded ≡ text_lines (with_line 23 "f 2 discarded" flips_of_tags_lines)
unfolding machine overwritten_as_discarded flips_of_tags_lines
overwritten_as_discarded_text = refl

overwritten_as_discarded_refused : KeepsLedger flips_of_tags_setup overwritten_as_discarded → ⊥
unfolding machine flips_of_tags_setup overwritten_as_discarded
overwritten_as_discarded_refused h = differ (fate 2) 6 4 refl refl refl h.same

-- it came
unfoldable dormant_as_late : Trace
unfolding same_bit_twice_trace
dormant_as_late = with_fate 0 fates.Late same_bit_twice_trace

dormant_as_late_text : report dormant_as_late ≡ text_lines (with_line 18 "f 0 late" same_bit_twice_lines)
unfolding machine dormant_as_late same_bit_twice_lines
dormant_as_late_text = refl

dormant_as_late_refused : KeepsLedger same_bit_twice_setup dormant_as_late → ⊥
unfolding machine same_bit_twice_setup dormant_as_late
dormant_as_late_refused h = differ (fate 0) 7 1 refl refl refl h.same
