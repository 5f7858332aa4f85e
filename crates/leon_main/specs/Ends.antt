-- The exit status of a run, by the ends of its cores.
use Rattle.std.specs.Prelude.{ℕ, Bool, true, false, if◌then◌else◌, List}
use Rattle.std.specs.List.{list_any}
use Rattle.lf_model.specs.declared.trace.CoreEnd.{CoreEnd}
use Rattle.lf_model.specs.declared.trace.CoreEnd.TheVariants.{Halt, Stop, Limit}
use Rattle.lf_model.specs.declared.trace.CoreResult.{CoreResult}

abbrev pub is_stop : CoreEnd → Bool
is_stop (Halt tt_) = false
is_stop (Stop tt_ place syn) = true
is_stop Limit = false

abbrev pub is_limit : CoreEnd → Bool
is_limit (Halt tt_) = false
is_limit (Stop tt_ place syn) = false
is_limit Limit = true

-- a core has such an end
abbrev pub some_end : (CoreEnd → Bool) → List CoreResult → Bool
some_end test cores = list_any (λ core. test core.end) cores

-- 10 where a core stopped, else 11 where one reached its limit, else 0
abbrev pub status_of_cores : List CoreResult → ℕ
status_of_cores cores = if some_end is_stop cores then 10 else (if some_end is_limit cores then 11 else 0)
