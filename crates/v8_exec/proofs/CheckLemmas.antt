-- The first trap of an instruction that has only some.
use Rattle.std.proofs.Common.{◌≡◌, Bool, false, Option, None, ℕ, refl, subst}
use Rattle.std.specs.Option.{option_or}
use Rattle.lf_model.specs.Traps.{privileged_instruction, mem_address_not_aligned, data_access_exception, when, no_checks, traps_in_order, first_trap}
use Rattle.lf_model.specs.declared.trap.Checks.{Checks}

same : (fetch privileged illegal fp_off cp_off over under align access tag zero : Bool) (ticc : Option ℕ)
    → fetch ≡ false → privileged ≡ false → illegal ≡ false → fp_off ≡ false → cp_off ≡ false → over ≡ false → under ≡ false
    → align ≡ false → access ≡ false → tag ≡ false → zero ≡ false → ticc ≡ None
    → ◌≡◌ {A = Checks} (record { fetch = fetch; privileged = privileged; illegal = illegal; fp_off = fp_off; cp_off = cp_off; over = over; under = under; align = align; access = access; tag = tag; zero = zero; ticc = ticc }) no_checks
same fetch privileged illegal fp_off cp_off over under align access tag zero ticc e0 e1 e2 e3 e4 e5 e6 e7 e8 e9 e10 e11 =
    rw e0 (rw e1 (rw e2 (rw e3 (rw e4 (rw e5 (rw e6 (rw e7 (rw e8 (rw e9 (rw e10 (rw e11 refl)))))))))))

-- tests of which none holds
pub cleared : (c : Checks)
    → (c.fetch ≡ false × (c.privileged ≡ false × (c.illegal ≡ false × (c.fp_off ≡ false × (c.cp_off ≡ false × (c.over ≡ false × (c.under ≡ false × (c.align ≡ false × (c.access ≡ false × (c.tag ≡ false × (c.zero ≡ false × (c.ticc ≡ None))))))))))))
    → c ≡ no_checks
cleared c e = same c.fetch c.privileged c.illegal c.fp_off c.cp_off c.over c.under c.align c.access c.tag c.zero c.ticc
    e.0 e.1.0 e.1.1.0 e.1.1.1.0 e.1.1.1.1.0 e.1.1.1.1.1.0 e.1.1.1.1.1.1.0 e.1.1.1.1.1.1.1.0 e.1.1.1.1.1.1.1.1.0 e.1.1.1.1.1.1.1.1.1.0 e.1.1.1.1.1.1.1.1.1.1.0 e.1.1.1.1.1.1.1.1.1.1.1

-- an access to an alternate space
pub privileged_access : (clear : Checks) (answer : Option ℕ) (privileged align access : Bool) → clear ≡ no_checks
    → answer ≡ first_trap (traps_in_order (record clear { privileged = privileged; align = align; access = access }))
    → answer ≡ option_or (when privileged privileged_instruction) (option_or (when align mem_address_not_aligned) (option_or (when access data_access_exception) None))
privileged_access clear answer privileged align access is value =
    subst (λ (c : Checks). answer ≡ first_trap (traps_in_order (record c { privileged = privileged; align = align; access = access }))) is value
