-- Wrong reports whose results are not those of the execution.
use Rattle.std.specs.Prelude.{◌≡◌, refl, ◌∷◌, [], Some}
use Rattle.lf_model.specs.Promise.Headline.{Headline}
use Rattle.lf_model.specs.Report.{report}
use Rattle.lf_model.specs.declared.trace.CoreEnd.TheVariants.{Halt, Limit}
use Rattle.lf_model.specs.declared.trace.Trace.{Trace}
use Rattle.lf_worked.specs.Edits.{at, with_core, with_operation, with_watched, with_line}
use Rattle.lf_worked.specs.Machine.{machine}
use Rattle.lf_worked.specs.Rows.{lost, word, text_lines}
use Rattle.lf_worked.proofs.Numerals.{apart, lt}
use Rattle.lf_worked.proofs.Items.{differ, not_at_most, first_number, if_some}
use Rattle.lf_worked.specs.ByteOut.{byte_out_setup, byte_out_trace, byte_out_lines}
use Rattle.lf_worked.specs.FiveSteps.{five_steps_setup, five_steps_trace, five_steps_lines}
use Rattle.lf_worked.specs.FourSteps.{four_steps_setup, four_steps_trace, four_steps_lines}
use Rattle.lf_worked.specs.ScrubbedWord.{scrubbed_word_setup, scrubbed_word_trace, scrubbed_word_lines}
use Rattle.lf_worked.specs.StopAtLoad.{stop_at_load_setup, stop_at_load_trace, stop_at_load_lines}
use Rattle.lf_worked.specs.StoreBuffering.{store_buffering_setup, store_buffering_trace, store_buffering_lines}
use Rattle.lf_worked.specs.UnsignedQuotient.{unsigned_quotient_setup, unsigned_quotient_trace, unsigned_quotient_lines}

-- another byte of output
unfoldable output : Trace
unfolding byte_out_trace
output = with_core 0 (λ r. record r { out = 0x42 ∷ [] }) byte_out_trace

output_text : report output ≡ text_lines (with_line 4 "out 0 42" byte_out_lines)
unfolding machine output byte_out_lines
output_text = refl

output_refused : Headline byte_out_setup output → ⊥
unfolding machine byte_out_setup output
output_refused h = differ first_number 0x42 0x41 refl refl refl (h.results 0 (lt 0 1 refl)).out

-- another window in PSR
unfoldable psr : Trace
unfolding byte_out_trace
psr = with_core 0 (λ r. record r { psr = 0xF3000082 }) byte_out_trace

psr_text : report psr ≡ text_lines (with_line 9 "ctl 0 F3000082 00000002 00000000 00000000 4000000C 40000010" byte_out_lines)
unfolding machine psr byte_out_lines
psr_text = refl

psr_refused : Headline byte_out_setup psr → ⊥
unfolding machine byte_out_setup psr
psr_refused h = apart 0xF3000082 0xF3000080 refl (h.results 0 (lt 0 1 refl)).psr

-- another WIM
unfoldable wim : Trace
unfolding byte_out_trace
wim = with_core 0 (λ r. record r { wim = 0x000000B2 }) byte_out_trace

wim_text : report wim ≡ text_lines (with_line 9 "ctl 0 F3000080 000000B2 00000000 00000000 4000000C 40000010" byte_out_lines)
unfolding machine wim byte_out_lines
wim_text = refl

wim_refused : Headline byte_out_setup wim → ⊥
unfolding machine byte_out_setup wim
wim_refused h = apart 0xB2 2 refl (h.results 0 (lt 0 1 refl)).wim

-- another TBR
unfoldable tbr : Trace
unfolding byte_out_trace
tbr = with_core 0 (λ r. record r { tbr = 0x0000000D }) byte_out_trace

tbr_text : report tbr ≡ text_lines (with_line 9 "ctl 0 F3000080 00000002 0000000D 00000000 4000000C 40000010" byte_out_lines)
unfolding machine tbr byte_out_lines
tbr_text = refl

tbr_refused : Headline byte_out_setup tbr → ⊥
unfolding machine byte_out_setup tbr
tbr_refused h = apart 0xD 0 refl (h.results 0 (lt 0 1 refl)).tbr

-- another Y
unfoldable y_register : Trace
unfolding unsigned_quotient_trace
y_register = with_core 0 (λ r. record r { y = 0x00000000 }) unsigned_quotient_trace

y_register_text : report y_register ≡ text_lines (with_line 9 "ctl 0 F3A00080 00000002 00000000 00000000 40000008 4000000C" unsigned_quotient_lines)
unfolding machine y_register unsigned_quotient_lines
y_register_text = refl

y_register_refused : Headline unsigned_quotient_setup y_register → ⊥
unfolding machine unsigned_quotient_setup y_register
y_register_refused h = apart 0 1 refl (h.results 0 (lt 0 1 refl)).y

-- PC after the load that was stopped
unfoldable pc : Trace
unfolding stop_at_load_trace
pc = with_core 0 (λ r. record r { pc = 0x4000000C; npc = 0x40000010 }) stop_at_load_trace

pc_text : report pc ≡ text_lines (with_line 9 "ctl 0 F3000080 00000002 00000000 00000000 4000000C 40000010" stop_at_load_lines)
unfolding machine pc stop_at_load_lines
pc_text = refl

pc_refused : Headline stop_at_load_setup pc → ⊥
unfolding machine stop_at_load_setup pc
pc_refused h = apart 0x4000000C 0x40000008 refl (h.results 0 (lt 0 1 refl)).pc

-- another nPC
unfoldable npc : Trace
unfolding byte_out_trace
npc = with_core 0 (λ r. record r { npc = 0x40006010 }) byte_out_trace

npc_text : report npc ≡ text_lines (with_line 9 "ctl 0 F3000080 00000002 00000000 00000000 4000000C 40006010" byte_out_lines)
unfolding machine npc byte_out_lines
npc_text = refl

npc_refused : Headline byte_out_setup npc → ⊥
unfolding machine byte_out_setup npc
npc_refused h = apart 0x40006010 0x40000010 refl (h.results 0 (lt 0 1 refl)).npc

-- another value of %g1
unfoldable register : Trace
unfolding byte_out_trace
register = with_core 0 (λ r. record r { regs = at 1 (Some 0x80090000) r.regs }) byte_out_trace

register_text : report register ≡ text_lines (with_line 5 "g 0 00000000 80090000 00000000 00000000 00000000 00000000 00000000 00000000" byte_out_lines)
unfolding machine register byte_out_lines
register_text = refl

register_refused : Headline byte_out_setup register → ⊥
unfolding machine byte_out_setup register
register_refused h = apart 0x80090000 0x80000000 refl ((h.results 0 (lt 0 1 refl)).registers 1 (lt 1 32 refl))

-- the register of a load that was stopped, reported as written
unfoldable written_before_a_stop : Trace
unfolding stop_at_load_trace
written_before_a_stop = with_core 0 (λ r. record r { regs = at 8 (Some 0x0000005A) r.regs }) stop_at_load_trace

written_before_a_stop_text : report written_before_a_stop ≡ text_lines (with_line 6 "o 0 0000005A 00000000 00000000 00000000 00000000 00000000 00000000 00000000" stop_at_load_lines)
unfolding machine written_before_a_stop stop_at_load_lines
written_before_a_stop_text = refl

written_before_a_stop_refused : Headline stop_at_load_setup written_before_a_stop → ⊥
unfolding machine stop_at_load_setup written_before_a_stop
written_before_a_stop_refused h = apart 0x5A 0 refl ((h.results 0 (lt 0 1 refl)).registers 8 (lt 8 32 refl))

-- a halt by another trap
unfoldable other_trap : Trace
unfolding byte_out_trace
other_trap = with_core 0 (λ r. record r { end = Halt 0x79 }) byte_out_trace

other_trap_text : report other_trap ≡ text_lines (with_line 3 "core 0 halt 79 4 5" byte_out_lines)
unfolding machine other_trap byte_out_lines
other_trap_text = refl

other_trap_refused : Headline byte_out_setup other_trap → ⊥
unfolding machine byte_out_setup other_trap
other_trap_refused h = differ if_some 0x81 0x7A refl refl refl (h.results 0 (lt 0 1 refl)).halt

-- a limit reported of a core that halted
unfoldable limit_for_a_halt : Trace
unfolding five_steps_trace
limit_for_a_halt = with_core 0 (λ r. record r { end = Limit }) five_steps_trace

limit_for_a_halt_text : report limit_for_a_halt ≡ text_lines (with_line 3 "core 0 limit 4 5" five_steps_lines)
unfolding machine limit_for_a_halt five_steps_lines
limit_for_a_halt_text = refl

limit_for_a_halt_refused : Headline five_steps_setup limit_for_a_halt → ⊥
unfolding machine five_steps_setup limit_for_a_halt
limit_for_a_halt_refused h = differ if_some 0x81 0 refl refl refl (h.results 0 (lt 0 1 refl)).halt

-- a limit before all steps are made
unfoldable limit_before_the_last_step : Trace
unfolding four_steps_trace
limit_before_the_last_step = with_core 0 (λ r. record r { steps = 3 }) four_steps_trace

limit_before_the_last_step_text : report limit_before_the_last_step ≡ text_lines (with_line 3 "core 0 limit 3 3" four_steps_lines)
unfolding machine limit_before_the_last_step four_steps_lines
limit_before_the_last_step_text = refl

limit_before_the_last_step_refused : Headline four_steps_setup limit_before_the_last_step → ⊥
unfolding machine four_steps_setup limit_before_the_last_step
limit_before_the_last_step_refused h = apart 3 4 refl (h.results 0 (lt 0 1 refl)).ends

-- more steps than the configuration allows
unfoldable more_steps_than_allowed : Trace
unfolding five_steps_trace
more_steps_than_allowed = with_core 0 (λ r. record r { steps = 6 }) five_steps_trace

more_steps_than_allowed_text : report more_steps_than_allowed ≡ text_lines (with_line 3 "core 0 halt 80 4 6" five_steps_lines)
unfolding machine more_steps_than_allowed five_steps_lines
more_steps_than_allowed_text = refl

more_steps_than_allowed_refused : Headline five_steps_setup more_steps_than_allowed → ⊥
unfolding machine five_steps_setup more_steps_than_allowed
more_steps_than_allowed_refused h = not_at_most 6 5 refl (h.results 0 (lt 0 1 refl)).within

-- a step that neither counts an instruction nor makes a transfer
unfoldable idle_step : Trace
unfolding byte_out_trace
idle_step = with_core 0 (λ r. record r { steps = 6 }) byte_out_trace

idle_step_text : report idle_step ≡ text_lines (with_line 3 "core 0 halt 80 4 6" byte_out_lines)
unfolding machine idle_step byte_out_lines
idle_step_text = refl

idle_step_refused : Headline byte_out_setup idle_step → ⊥
unfolding machine byte_out_setup idle_step
idle_step_refused h = not_at_most 6 5 refl (h.results 0 (lt 0 1 refl)).bound

-- a lost store of a core that halted
unfoldable lost_without_a_stop : Trace
unfolding store_buffering_trace
lost_without_a_stop = with_operation 4 (lost 0 1 7 0x40001000 4 0x00000001) store_buffering_trace

lost_without_a_stop_text : report lost_without_a_stop ≡ text_lines (with_line 32 "X 0 1 7 40001000 00000001" store_buffering_lines)
unfolding machine lost_without_a_stop store_buffering_lines
lost_without_a_stop_text = refl

lost_without_a_stop_refused : Headline store_buffering_setup lost_without_a_stop → ⊥
unfolding machine store_buffering_setup lost_without_a_stop
lost_without_a_stop_refused h = (h.results 0 (lt 0 2 refl)).lost (lt 0 1 refl)

-- another value of a watched word
unfoldable watched_word : Trace
unfolding scrubbed_word_trace
watched_word = with_watched 0 (word 0x40001000 (Some 0x06000001)) scrubbed_word_trace

watched_word_text : report watched_word ≡ text_lines (with_line 22 "w 40001000 06000001" scrubbed_word_lines)
unfolding machine watched_word scrubbed_word_lines
watched_word_text = refl

watched_word_refused : Headline scrubbed_word_setup watched_word → ⊥
unfolding machine scrubbed_word_setup watched_word
watched_word_refused h = apart 0x06000001 1 refl (h.words 0 (lt 0 1 refl))
