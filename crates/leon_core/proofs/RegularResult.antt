-- The result of a core, each of whose fields fits, is one that a report can show.
use Rattle.std.proofs.Common.{◌≡◌, ◌<◌, ◌^◌, true, length, lt-ltb, eq-eqb}
use Rattle.std.proofs.lemmas.Bool.{and_from}
use Rattle.std.specs.List.{list_all}
use Rattle.lf_model.specs.Promise.Regular.{end_fits, value_fits, parity_fits, control_fits, is_regular_core}
use Rattle.lf_model.specs.Promise.RegularTransfer.{fits_byte}
use Rattle.lf_model.specs.declared.trace.CoreResult.{CoreResult}

pub record Fits (r : CoreResult) : Type 0 where
  pub end : end_fits r.end ≡ true
  pub n : r.n < 2 ^ 32
  pub steps : r.steps < 2 ^ 32
  pub out : list_all fits_byte r.out ≡ true
  pub count : length r.regs ≡ 32
  pub regs : list_all value_fits r.regs ≡ true
  pub psr : r.psr < 2 ^ 32
  pub wim : r.wim < 2 ^ 32
  pub tbr : r.tbr < 2 ^ 32
  pub y : r.y < 2 ^ 32
  pub pc : r.pc < 2 ^ 32
  pub npc : r.npc < 2 ^ 32
  pub parity : parity_fits r.parity ≡ true

module _ (r : CoreResult) (f : Fits r) where
  control : control_fits r ≡ true
  control =
      and_from _ _ (lt-ltb r.psr (2 ^ 32) f.psr)
      (and_from _ _ (lt-ltb r.wim (2 ^ 32) f.wim) (and_from _ _ (lt-ltb r.tbr (2 ^ 32) f.tbr) (and_from _ _ (lt-ltb r.y (2 ^ 32) f.y) (and_from _ _ (lt-ltb r.pc (2 ^ 32) f.pc) (lt-ltb r.npc (2 ^ 32) f.npc)))))

  pub regular : is_regular_core r ≡ true
  regular =
      and_from _ _ f.end
      (and_from _ _ (lt-ltb r.n (2 ^ 32) f.n)
      (and_from _ _ (lt-ltb r.steps (2 ^ 32) f.steps) (and_from _ _ f.out (and_from _ _ (eq-eqb (length r.regs) 32 f.count) (and_from _ _ f.regs (and_from _ _ control f.parity))))))
