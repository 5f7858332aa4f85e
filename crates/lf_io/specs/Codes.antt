-- How the values of the objects in memory are stored, as tuples of their fields.
use Rattle.std.specs.Prelude.{ℕ, List, refl}
use Rattle.std.specs.Coded.{Coded, code_by, coded_ℕ, coded_list, coded×}
use Rattle.std.specs.FinMap.{code}
use Rattle.lf_io.specs.Memory.{Stored, Calls, MemoryFiles}

abbrev pub stored_code : Coded Stored
stored_code = code (coded_list coded_ℕ) (coded_list coded_ℕ)

abbrev pub calls_code : Coded Calls
calls_code =
    code_by (ℕ × (List ℕ × ℕ)) (coded× coded_ℕ (coded× (coded_list coded_ℕ) coded_ℕ))
    (λ c. (c.made, (c.failing, c.faults))) (λ p. record { made = p.0; failing = p.1.0; faults = p.1.1 }) (λ _. refl)

abbrev pub memory_files_code : Coded MemoryFiles
memory_files_code =
    code_by (Stored × Calls) (coded× stored_code calls_code)
    (λ m. (m.files, m.calls)) (λ p. record { files = p.0; calls = p.1 }) (λ _. refl)
