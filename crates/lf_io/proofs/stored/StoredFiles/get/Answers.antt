use Rattle.std.proofs.Common.{ℕ, List, Vec, Global, ap, sym, ◌∙◌}
use Rattle.std.specs.Prelude.{Some}
use Rattle.std.specs.Option.{option_map}
use Rattle.std.specs.FinMap as map
use Rattle.lf_io.specs.Memory.{Stored}
use Rattle.lf_io.proofs.Storing.{get_shown}
use Rattle.lf_io.proofs.stored.StoredFiles.get.Goals as goal

pub returns-in-Some : goal.returns-in-Some
returns-in-Some c =
    ap (λ (bytes : List ℕ). Some bytes) c.as_slice.ensures.value
    ∙ ap (option_map (λ (f : Vec ℕ Global). f.items)) c.in-Some.ensures.value
    ∙ sym (get_shown c.self.inside.files c.args.name.now)
    ∙ ap (λ (m : Stored). map.get m c.args.name.now) c.self.view_is

pub returns-in-None : goal.returns-in-None
returns-in-None c =
    ap (option_map (λ (f : Vec ℕ Global). f.items)) c.in-None.ensures.value
    ∙ sym (get_shown c.self.inside.files c.args.name.now)
    ∙ ap (λ (m : Stored). map.get m c.args.name.now) c.self.view_is
