-- The transfers that masters ask for are such as the bus takes.
use Rattle.std.proofs.Common.{◌≡◌, ℕ, ◌^◌, ◌<◌, ◌≤◌, ◌||◌, Bool, true, false, nat_eq, IsTrue, refl, ap, ◌∙◌, arith}
use Rattle.std.proofs.lemmas.Bool.{lt-ltb, false≢true}
use Rattle.std.proofs.lemmas.Bool.Decides.{nat_tests}
use Rattle.lf_model.specs.Names.{kind_place}
use Rattle.lf_model.specs.Once.{HasMaster}
use Rattle.lf_model.specs.Promise.Regular.{is_length}
use Rattle.lf_model.specs.Promise.RegularTransfer.{fits_word, fits_byte, address_fits, way_fits}
use Rattle.lf_model.specs.Start.{is_in_ram, touches_text}
use Rattle.lf_model.specs.declared.bus.Pending.{Pending}
use Rattle.lf_model.specs.declared.bus.Transfer.{Transfer}
use Rattle.lf_model.specs.declared.bus.TurnKind.{TurnKind}
use Rattle.lf_model.specs.declared.bus.TurnKind.TheVariants.{Fetch, Load, Store, Atomic, Snoop, Look, Fix}
use Rattle.lf_model.specs.declared.bus.Why.{Why}
use Rattle.lf_model.specs.declared.bus.Why.TheVariants as whys
use Rattle.ahb_bus.specs.Asks.{IsCoreTurn, IsScrubTurn, HasEntryLeft, IsCauseOf, HasFields, IsTaken, is_fill}
use Rattle.ahb_bus.specs.BusOk.{BusOk}
use Rattle.ahb_bus.specs.BusState.{BusState, asked_by}
use Rattle.ahb_bus.specs.declared.record.Who.{Who}
use Rattle.ahb_bus.proofs.ShareLemmas.{core_left, scrub_left}

-- the first of some bytes in RAM is in RAM
pub first_in : (ram addr len : ℕ) → 1 ≤ len → IsTrue (is_in_ram ram addr len) → is_in_ram ram addr 1 ≡ true
first_in ram addr len some inside = grind (arith, nat_tests)

pub some_length : (len : ℕ) → is_length len ≡ true → 1 ≤ len
some_length len is = grind (arith, nat_tests)

-- the fields of a transfer with another way or length
pub fields_way : (t : Transfer) (way : ℕ) → HasFields t → way < 2 ^ 8 → HasFields (record t { way = way })
fields_way t way fields fits = record { turn = fields.turn; master = fields.master; step = fields.step; addr = fields.addr; way = fits }

pub fields_len : (t : Transfer) (len : ℕ) → HasFields t → HasFields (record t { len = len })
fields_len t len fields = record { turn = fields.turn; master = fields.master; step = fields.step; addr = fields.addr; way = fields.way }

-- what a store or an atomic asks of the bus
pub record MayStore (w : Who) (p : Pending) (bus : BusState) : Type 0 where
  pub turn : IsCoreTurn w bus
  pub entry : HasEntryLeft w bus
  pub in_ram : IsTrue (is_in_ram bus.setup.config.ram p.addr p.len)
  pub text : touches_text bus.setup.image.text p.addr p.len ≡ false

module _ (bus : BusState) (ok : BusOk bus) (w : Who) where
  pub taken_store : (why : Why) (p : Pending) → MayStore w p bus → IsCauseOf Store why → 1 ≤ p.len → HasFields (asked_by bus w Store why p.addr 0 p.len)
      → IsTaken bus (asked_by bus w Store why p.addr 0 p.len)
  taken_store why p may cause some fields = record {
    left = core_left bus.setup.config bus.transfers (asked_by bus w Store why p.addr 0 p.len) ok.cores may.turn.master may.turn.master may.turn.share;
    turn = refl;
    fields = fields;
    cause = cause;
    address = lt-ltb p.addr (2 ^ 32) fields.addr;
    way = refl;
    place = first_in bus.setup.config.ram p.addr p.len some may.in_ram;
  }

  pub taken_atomic : (p : Pending) → MayStore w p bus → 1 ≤ p.len → HasFields (asked_by bus w Atomic whys.None p.addr 0 p.len)
      → IsTaken bus (asked_by bus w Atomic whys.None p.addr 0 p.len)
  taken_atomic p may some fields = record {
    left = core_left bus.setup.config bus.transfers (asked_by bus w Atomic whys.None p.addr 0 p.len) ok.cores may.turn.master may.turn.master may.turn.share;
    turn = refl;
    fields = fields;
    cause = refl;
    address = lt-ltb p.addr (2 ^ 32) fields.addr;
    way = refl;
    place = first_in bus.setup.config.ram p.addr p.len some may.in_ram;
  }

  pub taken_snoop : IsCoreTurn w bus → HasFields (asked_by bus w Snoop whys.Window 0 0 0) → IsTaken bus (asked_by bus w Snoop whys.Window 0 0 0)
  taken_snoop turn fields = record {
    left = core_left bus.setup.config bus.transfers (asked_by bus w Snoop whys.Window 0 0 0) ok.cores turn.master turn.master turn.share;
    turn = refl;
    fields = fields;
    cause = refl;
    address = refl;
    way = refl;
    place = refl;
  }

  -- fills
  fill_master : (kind : TurnKind) → is_fill kind ≡ true → w.master < bus.setup.config.cores → HasMaster bus.setup.config.cores w.master kind
  fill_master Fetch is core = core
  fill_master Load is core = core
  fill_master Store is core = core
  fill_master Atomic is core = core
  fill_master Snoop is core = core
  fill_master Look is core = absurd (false≢true is)
  fill_master Fix is core = absurd (false≢true is)

  fill_address : (kind : TurnKind) (addr : ℕ) → is_fill kind ≡ true → fits_word addr ≡ true → address_fits addr kind ≡ true
  fill_address Fetch addr is fits = fits
  fill_address Load addr is fits = fits
  fill_address Store addr is fits = fits
  fill_address Atomic addr is fits = fits
  fill_address Snoop addr is fits = absurd (false≢true is)
  fill_address Look addr is fits = fits
  fill_address Fix addr is fits = fits

  fill_way : (kind : TurnKind) (way : ℕ) → is_fill kind ≡ true → fits_byte way ≡ true → way_fits way kind ≡ true
  fill_way Fetch way is fits = fits
  fill_way Load way is fits = fits
  fill_way Store way is fits = absurd (false≢true is)
  fill_way Atomic way is fits = absurd (false≢true is)
  fill_way Snoop way is fits = absurd (false≢true is)
  fill_way Look way is fits = absurd (false≢true is)
  fill_way Fix way is fits = absurd (false≢true is)

  or_true : (b : Bool) → (b || true) ≡ true
  or_true true = refl
  or_true false = refl

  pub taken_fill : (kind : TurnKind) (why : Why) (line way : ℕ) → IsCoreTurn w bus → is_fill kind ≡ true → IsCauseOf kind why → IsTrue (is_in_ram bus.setup.config.ram line 32)
      → HasFields (asked_by bus w kind why line way 0) → IsTaken bus (asked_by bus w kind why line way 0)
  taken_fill kind why line way turn is cause inside fields = record {
    left = core_left bus.setup.config bus.transfers (asked_by bus w kind why line way 0) ok.cores (fill_master kind is turn.master) turn.master turn.share;
    turn = refl;
    fields = fields;
    cause = cause;
    address = fill_address kind line is (lt-ltb line (2 ^ 32) fields.addr);
    way = fill_way kind way is (lt-ltb way 256 fields.way);
    place = ap (λ (b : Bool). nat_eq (kind_place kind) 4 || b) (first_in bus.setup.config.ram line 32 (omega arith) inside) ∙ or_true _;
  }

  -- the scrubber
  pub taken_look : (line : ℕ) → IsScrubTurn w bus → IsTrue (is_in_ram bus.setup.config.ram line 32) → HasFields (asked_by bus w Look whys.None line 0 0)
      → IsTaken bus (asked_by bus w Look whys.None line 0 0)
  taken_look line turn inside fields = record {
    left = scrub_left bus.setup.config bus.transfers (asked_by bus w Look whys.None line 0 0) ok.cores turn.master turn.master turn.share;
    turn = refl;
    fields = fields;
    cause = refl;
    address = lt-ltb line (2 ^ 32) fields.addr;
    way = refl;
    place = first_in bus.setup.config.ram line 32 (omega arith) inside;
  }

  pub taken_fix : (addr : ℕ) → IsScrubTurn w bus → IsTrue (is_in_ram bus.setup.config.ram addr 4) → HasFields (asked_by bus w Fix whys.None addr 0 0)
      → IsTaken bus (asked_by bus w Fix whys.None addr 0 0)
  taken_fix addr turn inside fields = record {
    left = scrub_left bus.setup.config bus.transfers (asked_by bus w Fix whys.None addr 0 0) ok.cores turn.master turn.master turn.share;
    turn = refl;
    fields = fields;
    cause = refl;
    address = lt-ltb addr (2 ^ 32) fields.addr;
    way = refl;
    place = first_in bus.setup.config.ram addr 4 (omega arith) inside;
  }
