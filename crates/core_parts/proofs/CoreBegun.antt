-- A core stays well made as its flips strike: they take bytes of its caches out of residency, and change no line.
use Rattle.std.proofs.Common.{◌≡◌, ℕ, List, refl, sym, subst}
use Rattle.core_parts.proofs.FormsKept.{HasForms, forms_less}
use Rattle.core_parts.specs.Inside.{ports_of}
use Rattle.core_parts.specs.IsCore.{IsCore}
use Rattle.core_parts.specs.Strikes.{arrays_of, with_arrays}
use Rattle.core_parts.specs.declared.arrays.Arrays.{Arrays}
use Rattle.core_parts.specs.declared.parts.Parts.{Parts}
use Rattle.lf_model.specs.Course.Arrays.{begun}
use Rattle.lf_model.specs.Start.{initial_byte}
use Rattle.lf_model.specs.declared.control.Arch.{Arch}
use Rattle.lf_model.specs.declared.flip.Flip.{Flip}
use Rattle.lf_model.specs.declared.touch.Touch.TheVariants.{StartStep}

-- the caches of a core
pub forms_of : (a : Arch) (p : Parts) → IsCore a p → HasForms (initial_byte p.site.image) (ports_of p)
forms_of a p is = record { fetch_formed = is.fetch_formed; data_formed = is.data_formed; fetch_lines = is.fetch_lines }

-- other arrays in their place
pub core_with_arrays : (a : Arch) (p : Parts) (arrays : Arrays) → IsCore a p → HasForms (initial_byte p.site.image) (ports_of (record p { arrays = arrays })) → IsCore a (record p { arrays = arrays })
core_with_arrays a p arrays is forms = record {
  sound = is.sound;
  pc = is.pc;
  npc = is.npc;
  core = is.core;
  made = is.made;
  depth = is.depth;
  few = is.few;
  waits = is.waits;
  can_store = is.can_store;
  fetch_formed = forms.fetch_formed;
  data_formed = forms.data_formed;
  fetch_lines = forms.fetch_lines;
  ops_fit = is.ops_fit;
}

pub core_struck : (a : Arch) (p : Parts) (flips : List (ℕ × Flip)) (step : ℕ) → IsCore a p → IsCore a (record p { arrays = with_arrays p.arrays (begun flips step (arrays_of p.arrays)) })
core_struck a p flips step is =
    let forms = forms_less (initial_byte p.site.image) flips (StartStep step) (ports_of p) (refl, refl) (forms_of a p is) in
    core_with_arrays a p (with_arrays p.arrays (begun flips step (arrays_of p.arrays))) is
    (record { fetch_formed = forms.fetch_formed; data_formed = forms.data_formed; fetch_lines = forms.fetch_lines })

pub core_begun : (a : Arch) (p new : Parts) (flips : List (ℕ × Flip)) (step : ℕ) → new ≡ record p { arrays = with_arrays p.arrays (begun flips step (arrays_of p.arrays)) } → IsCore a p → IsCore a new
core_begun a p new flips step e is = subst (λ (q : Parts). IsCore a q) (sym e) (core_struck a p flips step is)
