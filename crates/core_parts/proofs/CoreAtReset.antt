-- A core at reset is well made: its state registers have their ranges, no store waits, and its caches are empty.
use Rattle.std.proofs.Common.{◌≡◌, ℕ, ◌%◌, ◌<◌, ◌≤◌, [], length, refl, sym, ap, ◌∙◌, subst, arith}
use Rattle.std.specs.List.{AllByRecursion}
use Rattle.core_parts.specs.CoreValue.{start_value}
use Rattle.core_parts.specs.Inside.{StartsAt}
use Rattle.core_parts.specs.IsCore.{CanStore, IsCore}
use Rattle.core_parts.specs.RecordState.{RecordState}
use Rattle.core_parts.specs.declared.parts.Parts.{Parts}
use Rattle.lf_model.specs.Caches.Cache.{IsCacheShape}
use Rattle.lf_model.specs.Start.{initial_byte}
use Rattle.lf_model.specs.State.{reset}
use Rattle.lf_model.specs.declared.setup.Setup.{Setup}
use Rattle.parity_cache.proofs.Bytes.{formed_reset, holds_reset}
use Rattle.parity_cache.specs.CacheState.{CacheState}
use Rattle.parity_cache.specs.Resident.{Holds, IsWellFormed}
use Rattle.store_buffer.specs.BufferState.{BufferState}

pub core_at_reset : (setup : Setup) (core : ℕ) (p : Parts) → StartsAt setup core p → core < 8 → IsCacheShape setup.config.fetch_cache → IsCacheShape setup.config.load_cache
    → setup.image.entry % 4 ≡ 0 → setup.config.buffer ≤ 8 → IsCore (start_value setup core).arch p
unfolding reset
core_at_reset setup core p s is_number fetch_shape data_shape aligned few = record {
  sound = record { icc = omega arith; pil = omega arith; cwp = omega arith; wim = omega arith; tbr = refl; core = is_number };
  pc = aligned;
  npc = omega (arith, aligned);
  core = ap (λ (r : RecordState). r.core) s.made;
  made = sym (ap (λ (r : RecordState). length r.ops) s.made);
  depth = ap (λ (b : BufferState). b.depth) s.buffer ∙ sym (ap (λ (x : Setup). x.config.buffer) s.site);
  few = subst (λ (x : Setup). x.config.buffer ≤ 8) (sym s.site) few;
  waits = record { sent = []; kept = []; split = rw s.made refl; waiting_are = ap (λ (b : BufferState). b.waiting) s.buffer };
  can_store = subst (λ (b : BufferState). AllByRecursion (CanStore p.site) b.waiting) (sym s.buffer) tt;
  fetch_formed = subst IsWellFormed (sym s.fetch_cache) (formed_reset setup.config.fetch_cache (length setup.flips) fetch_shape);
  data_formed = subst IsWellFormed (sym s.data_cache) (formed_reset setup.config.load_cache (length setup.flips) data_shape);
  fetch_lines = subst (λ (c : CacheState). Holds (initial_byte p.site.image) c) (sym s.fetch_cache) (holds_reset setup.config.fetch_cache (length setup.flips) fetch_shape (initial_byte p.site.image));
  ops_fit = rw s.made refl;
}
