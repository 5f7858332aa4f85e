-- The lines of a report that tell the transfers on the bus.
use Rattle.std.specs.Prelude.{ℕ, ◌-◌, ◌*◌, ◌/◌, ◌^◌, ◌==◌, ◌&&◌, ◌||◌, ◌∷◌, ◌++◌, [], List, filter, drop, slice_get, codes, Bool, true, false, not, if◌then◌else◌}
use Rattle.std.specs.List.{list_any}
use Rattle.std.specs.Option.{option_map_or}
use Rattle.lf_model.specs.Texts.{space, line_feed, number, hex_field}
use Rattle.lf_model.specs.Operation.{enters}
use Rattle.lf_model.specs.declared.bus.TurnKind.{TurnKind}
use Rattle.lf_model.specs.declared.bus.TurnKind.TheVariants.{Fetch, Load, Store, Atomic, Snoop, Look, Fix}
use Rattle.lf_model.specs.declared.bus.Why.{Why}
use Rattle.lf_model.specs.declared.bus.Why.TheVariants as whys
use Rattle.lf_model.specs.declared.bus.Transfer.{Transfer}
use Rattle.lf_model.specs.declared.trace.CoreEnd.{CoreEnd}
use Rattle.lf_model.specs.declared.trace.CoreEnd.TheVariants as ends
use Rattle.lf_model.specs.declared.trace.CoreResult.{CoreResult}
use Rattle.lf_model.specs.declared.trace.Op.{Op}
use Rattle.lf_model.specs.declared.trace.Trace.{Trace}

abbrev pub kind_word : TurnKind → List ℕ
kind_word Fetch = codes "fetch "
kind_word Load = codes "load "
kind_word Store = codes "store "
kind_word Atomic = codes "atomic "
kind_word Snoop = codes "snoop "
kind_word Look = codes "look "
kind_word Fix = codes "fix "

abbrev pub why_word : Why → List ℕ
why_word whys.None = codes "- "
why_word whys.Absent = codes "absent "
why_word whys.Word = codes "word "
why_word whys.Tag = codes "tag "
why_word whys.Byte = codes "data "
why_word whys.Full = codes "full "
why_word whys.Miss = codes "miss "
why_word whys.Stbar = codes "stbar "
why_word whys.Atomic = codes "atomic "
why_word whys.Flush = codes "flush "
why_word whys.Window = codes "window "
why_word whys.End = codes "end "
why_word whys.Sched = codes "sched "

-- fetch and load fill a way, and the others show a dash
abbrev pub way_field : TurnKind → ℕ → List ℕ
way_field Fetch way = number space way
way_field Load way = number space way
way_field Store way = codes "- "
way_field Atomic way = codes "- "
way_field Snoop way = codes "- "
way_field Look way = codes "- "
way_field Fix way = codes "- "

-- the syndromes of the words read stand in the top bytes
abbrev pub syndromes_field : Transfer → List ℕ
syndromes_field t = hex_field line_feed (2 * t.words) (t.syn / 2 ^ (64 - 8 * t.words))

-- a store that reads no word stores a word or a doubleword
abbrev pub store_field : ℕ → Transfer → List ℕ
store_field len t = if t.words == 0 then (if len == 8 then codes "----\n" else codes "--\n") else syndromes_field t

abbrev pub syn_field : TurnKind → ℕ → Transfer → List ℕ
syn_field Fetch len t = syndromes_field t
syn_field Load len t = syndromes_field t
syn_field Store len t = store_field len t
syn_field Atomic len t = syndromes_field t
syn_field Snoop len t = codes "-\n"
syn_field Look len t = syndromes_field t
syn_field Fix len t = syndromes_field t

-- a transfer, whose entry in the log has this length
unfoldable pub transfer_line : ℕ → Transfer → List ℕ
transfer_line len t = codes "t " ++ (number space t.turn ++ (number space t.master ++ (number space t.step
    ++ (kind_word t.kind ++ (why_word t.why ++ (hex_field space 8 t.addr ++ (way_field t.kind t.way ++ syn_field t.kind len t)))))))

-- a store or an atomic
abbrev pub makes_entry : TurnKind → Bool
makes_entry Fetch = false
makes_entry Load = false
makes_entry Store = true
makes_entry Atomic = true
makes_entry Snoop = false
makes_entry Look = false
makes_entry Fix = false

-- the end is a stop at this transfer: at an atomic or a load, or at a part store
abbrev pub stops_at : ℕ → CoreEnd → Bool
stops_at turn (ends.Halt tt_) = false
stops_at turn (ends.Stop tt_ place syn) = place == turn && (tt_ == 0x09 || tt_ == 0x2B)
stops_at turn ends.Limit = false

abbrev pub core_stops_at : ℕ → CoreResult → Bool
core_stops_at turn r = stops_at turn r.end

-- the transfer has an entry in the log: it is a store or an atomic that met no bad word
abbrev pub has_entry : List CoreResult → Transfer → Bool
has_entry cores t = makes_entry t.kind && not (list_any (core_stops_at t.turn) cores)

abbrev pub length_of : Op → ℕ
length_of o = o.len

-- transfers with entries take the stores and atomics of the order one by one
abbrev pub lines_of : List CoreResult → List Op → List Transfer → List ℕ
lines_of cores entries [] = []
lines_of cores entries (t ∷ ts) = if has_entry cores t
    then transfer_line (option_map_or length_of (slice_get entries 0) 0) t ++ lines_of cores (drop 1 entries) ts
    else transfer_line 0 t ++ lines_of cores entries ts

unfoldable pub transfer_lines : Trace → List ℕ
transfer_lines trace = lines_of trace.cores (filter enters trace.order) trace.transfers
