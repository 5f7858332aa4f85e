-- The kinds of operations of which the stores, and no others, are lost or not.
use Rattle.std.proofs.Common.{◌≡◌, ◌&&◌, Bool, true, false, refl, if◌then◌else◌}
use Rattle.lf_model.specs.Course.Core.{is_store_kind}
use Rattle.lf_model.specs.Operation.{kind_reads, kind_enters, kind_stores, kind_made, kind_is_lost}
use Rattle.lf_model.specs.Records.SeenOrder.{is_load_kind}
use Rattle.lf_model.specs.declared.bus.OpKind.{OpKind}
use Rattle.lf_model.specs.declared.bus.OpKind.TheVariants.{Load, Store, Atomic, Lost}

abbrev pub lost_if : Bool → OpKind → OpKind
lost_if late kind = if is_store_kind kind && late then Lost else kind

pub lost_reads : (kind : OpKind) (late : Bool) → kind_reads (lost_if late kind) ≡ kind_reads kind
lost_reads Load late = refl
lost_reads Store true = refl
lost_reads Store false = refl
lost_reads Atomic late = refl
lost_reads Lost true = refl
lost_reads Lost false = refl

pub lost_stays_store : (kind : OpKind) (late : Bool) → is_store_kind (lost_if late kind) ≡ is_store_kind kind
lost_stays_store Load late = refl
lost_stays_store Store true = refl
lost_stays_store Store false = refl
lost_stays_store Atomic late = refl
lost_stays_store Lost true = refl
lost_stays_store Lost false = refl

pub lost_kind_made : (kind : OpKind) (late : Bool) → kind_made (lost_if late kind) ≡ kind_made kind
lost_kind_made Load late = refl
lost_kind_made Store true = refl
lost_kind_made Store false = refl
lost_kind_made Atomic late = refl
lost_kind_made Lost true = refl
lost_kind_made Lost false = refl

pub load_stays : (kind : OpKind) (late : Bool) → is_load_kind (lost_if late kind) ≡ is_load_kind kind
load_stays Load late = refl
load_stays Store true = refl
load_stays Store false = refl
load_stays Atomic late = refl
load_stays Lost true = refl
load_stays Lost false = refl

pub stores_stays : (kind : OpKind) (late : Bool) → kind_stores (lost_if late kind) ≡ kind_stores kind
stores_stays Load late = refl
stores_stays Store true = refl
stores_stays Store false = refl
stores_stays Atomic late = refl
stores_stays Lost true = refl
stores_stays Lost false = refl

pub enters_stores : (kind : OpKind) (late : Bool) → kind_enters (lost_if late kind) ≡ true → kind_stores kind ≡ true
enters_stores Load late e = absurd (cc)
enters_stores Store late e = refl
enters_stores Atomic late e = refl
enters_stores Lost late e = refl

pub enters_early : (kind : OpKind) → kind_stores kind ≡ true → kind_is_lost kind ≡ false → kind_enters (lost_if false kind) ≡ true
enters_early Load stores_ not_lost = absurd (cc)
enters_early Store stores_ not_lost = refl
enters_early Atomic stores_ not_lost = refl
enters_early Lost stores_ not_lost = absurd (cc)

pub lost_late : (kind : OpKind) → is_store_kind kind ≡ true → kind_enters (lost_if true kind) ≡ false
lost_late Load store = absurd (cc)
lost_late Store store = refl
lost_late Atomic store = absurd (cc)
lost_late Lost store = refl

pub late_lost : (kind : OpKind) (late : Bool) → kind_is_lost kind ≡ false → kind_is_lost (lost_if late kind) ≡ true → late ≡ true
late_lost Load late e f = absurd (cc)
late_lost Store true e f = refl
late_lost Store false e f = absurd (cc)
late_lost Atomic late e f = absurd (cc)
late_lost Lost late e f = absurd (cc)

pub plain_store : (kind : OpKind) → kind_stores kind ≡ true → kind_reads (kind_made kind) ≡ false → is_store_kind kind ≡ true
plain_store Load stores_ plain = absurd (cc)
plain_store Store stores_ plain = refl
plain_store Atomic stores_ plain = absurd (cc)
plain_store Lost stores_ plain = refl

pub enters_by_stores : (kind : OpKind) → kind_is_lost kind ≡ false → kind_stores kind ≡ kind_enters kind
enters_by_stores Load e = refl
enters_by_stores Store e = refl
enters_by_stores Atomic e = refl
enters_by_stores Lost e = absurd (cc)
