-- The report of a trace: its bytes, a definition for each kind of line and one for the whole.
use Rattle.std.specs.Prelude.{ℕ, ◌+◌, ◌*◌, ◌∷◌, ◌++◌, [], List, length, take, drop, codes, Option, Some, None}
use Rattle.std.specs.List.{flat_map}
use Rattle.lf_model.specs.Texts.{space, line_feed, number, hex, hex_field}
use Rattle.lf_model.specs.declared.bus.OpKind.{OpKind}
use Rattle.lf_model.specs.declared.bus.OpKind.TheVariants.{Load, Store, Atomic, Lost}
use Rattle.lf_model.specs.declared.trace.CoreEnd.{CoreEnd}
use Rattle.lf_model.specs.declared.trace.CoreEnd.TheVariants.{Halt, Stop, Limit}
use Rattle.lf_model.specs.declared.trace.CoreResult.{CoreResult}
use Rattle.lf_model.specs.declared.trace.Four.{Four}
use Rattle.lf_model.specs.declared.trace.Fate.{Fate}
use Rattle.lf_model.specs.declared.trace.Fate.TheVariants.{Late, Declined, Repaired, Discarded, Stopped, Overwritten, Dormant}
use Rattle.lf_model.specs.declared.trace.Op.{Op}
use Rattle.lf_model.specs.declared.trace.Word2.{Word2}
use Rattle.lf_model.specs.declared.trace.Trace.{Trace}
use Rattle.lf_model.specs.TransferLines.{transfer_lines}

-- a line "HEAD N" that says how many lines follow
abbrev pub count_line : List ℕ → ℕ → List ℕ
count_line head n = head ++ number line_feed n

-- how a core ended, with its instruction count and its steps
abbrev pub end_text : ℕ → ℕ → CoreEnd → List ℕ
end_text n steps (Halt tt_) = codes "halt " ++ (hex_field space 2 tt_ ++ (number space n ++ number line_feed steps))
end_text n steps (Stop tt_ place syn) = codes "stop " ++ (hex_field space 2 tt_ ++ (number space n ++ (number space steps
    ++ (number space place ++ hex_field line_feed 2 syn))))
end_text n steps Limit = codes "limit " ++ (number space n ++ number line_feed steps)

unfoldable pub end_line : ℕ → CoreResult → List ℕ
end_line k r = codes "core " ++ (number space k ++ end_text r.n r.steps r.end)

-- bytes as two digits each, and a dash where there is none
abbrev pub bytes_text : List ℕ → List ℕ
bytes_text [] = codes "-"
bytes_text (b ∷ bs) = flat_map (hex 2) (b ∷ bs)

unfoldable pub out_line : ℕ → CoreResult → List ℕ
out_line k r = codes "out " ++ (number space k ++ (bytes_text r.out ++ line_feed ∷ []))

-- a word in eight digits, or dashes where it reads bad
unfoldable pub word_field : ℕ → Option ℕ → List ℕ
word_field stop (Some w) = hex_field stop 8 w
word_field stop None = codes "--------" ++ stop ∷ []

-- words with a space between, and a line feed behind the last
abbrev pub words_text : List (Option ℕ) → List ℕ
words_text [] = []
words_text (w ∷ []) = word_field line_feed w
words_text (w ∷ v ∷ ws) = word_field space w ++ words_text (v ∷ ws)

-- a line of words of core k
unfoldable pub words_line : List ℕ → ℕ → List (Option ℕ) → List ℕ
words_line head k words = head ++ (number space k ++ words_text words)

-- the globals, outs, locals and ins of the current window
unfoldable pub register_lines : ℕ → CoreResult → List ℕ
register_lines k r = words_line (codes "g ") k (take 8 r.regs) ++ (words_line (codes "o ") k (take 8 (drop 8 r.regs))
    ++ (words_line (codes "l ") k (take 8 (drop 16 r.regs)) ++ words_line (codes "i ") k (take 8 (drop 24 r.regs))))

-- PSR, WIM, TBR, Y, PC and nPC
unfoldable pub control_line : ℕ → CoreResult → List ℕ
control_line k r = words_line (codes "ctl ") k (Some r.psr ∷ Some r.wim ∷ Some r.tbr ∷ Some r.y ∷ Some r.pc ∷ Some r.npc ∷ [])

-- the counters of parity errors
unfoldable pub parity_line : ℕ → Four → List ℕ
parity_line k p = codes "parity " ++ (number space k ++ (number space p.fetch_tag ++ (number space p.fetch_byte
    ++ (number space p.data_tag ++ number line_feed p.data_byte))))

unfoldable pub core_lines : ℕ → CoreResult → List ℕ
core_lines k r = end_line k r ++ (out_line k r ++ (register_lines k r ++ (control_line k r ++ parity_line k r.parity)))

abbrev pub cores_lines : ℕ → List CoreResult → List ℕ
cores_lines k [] = []
cores_lines k (r ∷ rs) = core_lines k r ++ cores_lines (k + 1) rs

-- the AHB failing address and status registers
unfoldable pub ahb_line : ℕ → ℕ → List ℕ
ahb_line addr status = codes "ahb " ++ (hex_field space 8 addr ++ hex_field line_feed 8 status)

-- a memory operation; the digits of a number tell its length
abbrev pub op_text : OpKind → Op → List ℕ
op_text Load o = hex_field space (2 * o.len) o.got ++ number line_feed o.way
op_text Store o = hex_field line_feed (2 * o.len) o.put
op_text Atomic o = hex_field space (2 * o.len) o.got ++ hex_field line_feed (2 * o.len) o.put
op_text Lost o = hex_field line_feed (2 * o.len) o.put

abbrev pub letter_of : OpKind → List ℕ
letter_of Load = codes "L "
letter_of Store = codes "S "
letter_of Atomic = codes "A "
letter_of Lost = codes "X "

unfoldable pub op_line : Op → List ℕ
op_line o = letter_of o.kind ++ (number space o.core ++ (number space o.k ++ (number space o.step
    ++ (hex_field space 8 o.addr ++ op_text o.kind o))))

abbrev pub fate_word : Fate → List ℕ
fate_word Late = codes "late\n"
fate_word Declined = codes "declined\n"
fate_word Repaired = codes "repaired\n"
fate_word Discarded = codes "discarded\n"
fate_word Stopped = codes "stopped\n"
fate_word Overwritten = codes "overwritten\n"
fate_word Dormant = codes "dormant\n"

unfoldable pub fate_line : ℕ → Fate → List ℕ
fate_line i fate = codes "f " ++ (number space i ++ fate_word fate)

abbrev pub fate_lines : ℕ → List Fate → List ℕ
fate_lines i [] = []
fate_lines i (fate ∷ fates) = fate_line i fate ++ fate_lines (i + 1) fates

unfoldable pub watch_line : Word2 → List ℕ
watch_line word = codes "w " ++ (hex_field space 8 word.addr ++ word_field line_feed word.value)

-- the parts of a report
unfoldable pub cores_part : List CoreResult → List ℕ
cores_part cores = codes "leon3ft report 1\n" ++ (count_line (codes "cores ") (length cores) ++ cores_lines 0 cores)

unfoldable pub transfers_part : Trace → List ℕ
transfers_part trace = count_line (codes "transfers ") (length trace.transfers) ++ transfer_lines trace

unfoldable pub order_part : List Op → List ℕ
order_part order = count_line (codes "order ") (length order) ++ flat_map op_line order

unfoldable pub flips_part : List Fate → List ℕ
flips_part fates = count_line (codes "flips ") (length fates) ++ fate_lines 0 fates

unfoldable pub watch_part : List Word2 → List ℕ
watch_part words = count_line (codes "watch ") (length words) ++ flat_map watch_line words

-- the report
unfoldable pub report : Trace → List ℕ
report trace = cores_part trace.cores ++ (ahb_line trace.ahb_addr trace.ahb_status ++ (transfers_part trace
    ++ (order_part trace.order ++ (flips_part trace.fates ++ (watch_part trace.watch ++ codes "end\n")))))
