-- Transfers whose fields are those that a line of a report can show; fields that no line shows are 0.
use Rattle.std.specs.Prelude.{ℕ, ◌-◌, ◌*◌, ◌%◌, ◌^◌, ◌==◌, ◌&&◌, nat_lt, Bool, List, [], ◌∷◌}
use Rattle.std.specs.List.{list_any}
use Rattle.lf_model.specs.Names.{same_why}
use Rattle.lf_model.specs.declared.bus.Transfer.{Transfer}
use Rattle.lf_model.specs.declared.bus.TurnKind.{TurnKind}
use Rattle.lf_model.specs.declared.bus.TurnKind.TheVariants.{Fetch, Load, Store, Atomic, Snoop, Look, Fix}
use Rattle.lf_model.specs.declared.bus.Why.{Why}
use Rattle.lf_model.specs.declared.bus.Why.TheVariants as whys

-- a number that a field of decimal digits or of eight hexadecimal digits holds
abbrev pub fits_word : ℕ → Bool
fits_word n = nat_lt n (2 ^ 32)

abbrev pub fits_byte : ℕ → Bool
fits_byte n = nat_lt n 256

-- the causes of a fill, and of a drain
abbrev pub causes_of_fill : List Why
causes_of_fill = whys.Absent ∷ whys.Word ∷ whys.Tag ∷ whys.Byte ∷ []

abbrev pub causes_of_drain : List Why
causes_of_drain = whys.Full ∷ whys.Miss ∷ whys.Stbar ∷ whys.Atomic ∷ whys.Flush ∷ whys.Window ∷ whys.End ∷ whys.Sched ∷ []

-- the causes of each kind of transfer
abbrev pub causes_of : TurnKind → List Why
causes_of Fetch = causes_of_fill
causes_of Load = causes_of_fill
causes_of Store = causes_of_drain
causes_of Atomic = whys.None ∷ []
causes_of Snoop = whys.Window ∷ []
causes_of Look = whys.None ∷ []
causes_of Fix = whys.None ∷ []

abbrev pub has_cause : Transfer → Bool
has_cause t = list_any (same_why t.why) (causes_of t.kind)

-- a fill shows a way
abbrev pub way_fits : ℕ → TurnKind → Bool
way_fits way Fetch = fits_byte way
way_fits way Load = fits_byte way
way_fits way Store = way == 0
way_fits way Atomic = way == 0
way_fits way Snoop = way == 0
way_fits way Look = way == 0
way_fits way Fix = way == 0

-- how many words each kind of transfer reads: a store one or none
abbrev pub words_fit : ℕ → TurnKind → Bool
words_fit words Fetch = words == 8
words_fit words Load = words == 8
words_fit words Store = nat_lt words 2
words_fit words Atomic = words == 1
words_fit words Snoop = words == 0
words_fit words Look = words == 8
words_fit words Fix = words == 1

-- a snoop is at address 0
abbrev pub address_fits : ℕ → TurnKind → Bool
address_fits addr Fetch = fits_word addr
address_fits addr Load = fits_word addr
address_fits addr Store = fits_word addr
address_fits addr Atomic = fits_word addr
address_fits addr Snoop = addr == 0
address_fits addr Look = fits_word addr
address_fits addr Fix = fits_word addr

-- eight bits for each word read, in the top bytes
abbrev pub syndromes_fit : Transfer → Bool
syndromes_fit t = nat_lt t.syn (2 ^ 64) && t.syn % 2 ^ (64 - 8 * t.words) == 0

-- all but its length, which the bus alone keeps
abbrev pub is_regular_on_bus : Transfer → Bool
is_regular_on_bus t = fits_word t.turn && (fits_word t.master && (fits_word t.step && (has_cause t && (address_fits t.addr t.kind
    && (way_fits t.way t.kind && (words_fit t.words t.kind && syndromes_fit t))))))

abbrev pub is_regular_transfer : Transfer → Bool
is_regular_transfer t = is_regular_on_bus t && t.len == 0
