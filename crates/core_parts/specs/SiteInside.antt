-- How a site is kept: the text and the bytes of RAM are those of the setup.
use Rattle.std.specs.Prelude.{◌≡◌}
use Rattle.core_parts.specs.declared.site.Site.TheInside.{Inside}
use Rattle.lf_model.specs.declared.setup.Setup.{Setup}

abbrev pub setup_of : Inside → Setup
setup_of s = s.setup.value

pub record IsSite (s : Inside) : Type 0 where
  pub text : s.text ≡ s.setup.value.image.text
  pub ram : s.ram ≡ s.setup.value.config.ram
