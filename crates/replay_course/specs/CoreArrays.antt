-- The arrays of a core as its instructions look them up: how often they may, and what no look-up changes.
use Rattle.std.specs.Prelude.{ℕ, ◌+◌, ◌-◌, ◌^◌, List}
use Rattle.lf_model.specs.Course.Arrays.{Arrays}
use Rattle.lf_model.specs.declared.flip.Flip.{Flip}
use Rattle.replay_course.specs.declared.core_arrays.CoreArrays.{CoreArrays}

-- steps: how many began
pub record Rest : Type 0 where
  pub script : List Flip
  pub core : ℕ
  pub steps : ℕ

abbrev pub rest_of : CoreArrays → Rest
rest_of a = record { script = a.arrays.script; core = a.arrays.core; steps = a.arrays.steps }

-- how often slots of the caches were used
abbrev pub uses_of : CoreArrays → ℕ
uses_of a = a.arrays.arrays.fetch_cache.uses + a.arrays.arrays.data_cache.uses

-- each cache counts its uses in 64 bits
abbrev pub left_of : CoreArrays → ℕ
left_of a = 2 ^ 64 - (uses_of a + 1)

abbrev pub with_arrays : Arrays → CoreArrays → CoreArrays
with_arrays arrays a = record a { arrays = record a.arrays { arrays = arrays } }
