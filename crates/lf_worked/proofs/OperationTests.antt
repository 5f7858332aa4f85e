-- Whether two operations as a program makes them are the same, by a test.
use Rattle.std.proofs.Common.{◌≡◌, ◌&&◌, Bool, true, false, refl, List}
use Rattle.std.specs.Prelude.{◌==◌}
use Rattle.std.proofs.lemmas.Bool.{eqb-true, and_parts, false≢true}
use Rattle.lf_model.specs.declared.bus.OpKind.{OpKind}
use Rattle.lf_model.specs.declared.bus.OpKind.TheVariants.{Load, Store, Atomic, Lost}
use Rattle.lf_model.specs.declared.bus.Entry.{Entry}
use Rattle.lf_worked.proofs.Tests.{same_list, is_same_list}

abbrev pub same_kind : OpKind → OpKind → Bool
same_kind Load Load = true
same_kind Store Store = true
same_kind Atomic Atomic = true
same_kind Lost Lost = true
same_kind _ _ = false

is_same_kind : (k l : OpKind) → same_kind k l ≡ true → k ≡ l
is_same_kind Load Load passes = refl
is_same_kind Store Store passes = refl
is_same_kind Atomic Atomic passes = refl
is_same_kind Lost Lost passes = refl
is_same_kind _ _ passes = absurd (false≢true passes)

abbrev pub same_entry : Entry → Entry → Bool
same_entry e f = (e.got == f.got) && ((e.put == f.put) && ((e.core == f.core) && ((e.k == f.k) && ((e.addr == f.addr)
    && (same_kind e.kind f.kind && (e.len == f.len))))))

is_same_entry : (e f : Entry) → same_entry e f ≡ true → e ≡ f
is_same_entry e f passes =
    let got = and_parts (e.got == f.got) _ passes in
    let put = and_parts (e.put == f.put) _ got.1 in
    let core = and_parts (e.core == f.core) _ put.1 in
    let k = and_parts (e.k == f.k) _ core.1 in
    let addr = and_parts (e.addr == f.addr) _ k.1 in
    let kind = and_parts (same_kind e.kind f.kind) _ addr.1 in
    λ i. record {
      got = eqb-true e.got f.got got.0 i;
      put = eqb-true e.put f.put put.0 i;
      core = eqb-true e.core f.core core.0 i;
      k = eqb-true e.k f.k k.0 i;
      addr = eqb-true e.addr f.addr addr.0 i;
      kind = is_same_kind e.kind f.kind kind.0 i;
      len = eqb-true e.len f.len kind.1 i;
    }

abbrev pub same_entries : List Entry → List Entry → Bool
same_entries es fs = same_list same_entry es fs

pub is_same_entries : (es fs : List Entry) → same_entries es fs ≡ true → es ≡ fs
is_same_entries es fs passes = is_same_list same_entry is_same_entry es fs passes
