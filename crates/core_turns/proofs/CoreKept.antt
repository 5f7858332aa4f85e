-- What holds of a core and its parts stays through a turn that retires no instruction: it catches up, fills a line, or drains a store.
use Rattle.std.proofs.Common.{◌∙◌, ◌^◌, ◌<◌, ℕ, Bool, true, false, List, drop, sym}
use Rattle.std.proofs.lemmas.List.{length-map}
use Rattle.core_laws.specs.SeenSoFar.{lost_from, losing}
use Rattle.core_parts.proofs.RegularMade.{regular_losing}
use Rattle.core_parts.proofs.WaitsKept.{waits_none, waits_drained, can_store_drained}
use Rattle.core_parts.specs.IsCore.{IsCore}
use Rattle.core_parts.specs.Losing.{first_number}
use Rattle.core_parts.specs.declared.parts.Parts.{Parts}
use Rattle.lf_model.specs.Start.{initial_byte}
use Rattle.lf_model.specs.declared.bus.Entry.{Entry}
use Rattle.lf_model.specs.declared.control.Arch.{Arch}
use Rattle.parity_cache.proofs.FilledBytes.{formed_filled, holds_filled}
use Rattle.parity_cache.specs.CacheState.{filled_cache}
use Rattle.snoop.proofs.CaughtUp.{formed_caught}
use Rattle.core_turns.proofs.TextLine.{HasLine}
use Rattle.core_turns.specs.CatchingUp.{caught_up_parts}
use Rattle.core_turns.specs.Drains.{store_drained, stores_dropped, drained_if}

-- ---- the core

module _ (arch : Arch) (p : Parts) (is : IsCore arch p) where
  pub core_caught : (log : List Entry) → IsCore arch (caught_up_parts log p)
  core_caught log = record {
    sound = is.sound;
    pc = is.pc;
    npc = is.npc;
    core = is.core;
    made = is.made;
    depth = is.depth;
    few = is.few;
    waits = is.waits;
    can_store = is.can_store;
    fetch_formed = is.fetch_formed;
    data_formed = formed_caught (drop p.«record».seen log) p.arrays.data_cache is.data_formed;
    fetch_lines = is.fetch_lines;
    ops_fit = is.ops_fit;
  }

  pub core_fetched : (line valid : ℕ) (words : List ℕ) → line < 2 ^ 32 → HasLine (initial_byte p.site.image) line valid words
      → IsCore arch (record p { arrays = record p.arrays { fetch_cache = filled_cache line valid words p.arrays.fetch_cache } })
  core_fetched line valid words bound right = record {
    sound = is.sound;
    pc = is.pc;
    npc = is.npc;
    core = is.core;
    made = is.made;
    depth = is.depth;
    few = is.few;
    waits = is.waits;
    can_store = is.can_store;
    fetch_formed = formed_filled line valid words p.arrays.fetch_cache is.fetch_formed;
    data_formed = is.data_formed;
    fetch_lines = holds_filled line valid words p.arrays.fetch_cache is.fetch_formed (initial_byte p.site.image) bound right is.fetch_lines;
    ops_fit = is.ops_fit;
  }

  pub core_loaded : (line valid : ℕ) (words : List ℕ) → IsCore arch (record p { arrays = record p.arrays { data_cache = filled_cache line valid words p.arrays.data_cache } })
  core_loaded line valid words = record {
    sound = is.sound;
    pc = is.pc;
    npc = is.npc;
    core = is.core;
    made = is.made;
    depth = is.depth;
    few = is.few;
    waits = is.waits;
    can_store = is.can_store;
    fetch_formed = is.fetch_formed;
    data_formed = formed_filled line valid words p.arrays.data_cache is.data_formed;
    fetch_lines = is.fetch_lines;
    ops_fit = is.ops_fit;
  }

  core_drained : IsCore arch (store_drained p)
  core_drained = record {
    sound = is.sound;
    pc = is.pc;
    npc = is.npc;
    core = is.core;
    made = is.made;
    depth = is.depth;
    few = is.few;
    waits = waits_drained p.«record».ops p.buffer.waiting is.waits;
    can_store = can_store_drained p.site p.buffer.waiting is.can_store;
    fetch_formed = is.fetch_formed;
    data_formed = is.data_formed;
    fetch_lines = is.fetch_lines;
    ops_fit = is.ops_fit;
  }

  core_dropped : IsCore arch (stores_dropped p)
  core_dropped = record {
    sound = is.sound;
    pc = is.pc;
    npc = is.npc;
    core = is.core;
    made = is.made ∙ sym (length-map p.«record».ops (lost_from (first_number p.buffer.waiting)));
    depth = is.depth;
    few = is.few;
    waits = waits_none (losing (first_number p.buffer.waiting) p.«record».ops);
    can_store = tt;
    fetch_formed = is.fetch_formed;
    data_formed = is.data_formed;
    fetch_lines = is.fetch_lines;
    ops_fit = regular_losing (first_number p.buffer.waiting) p.«record».ops is.ops_fit;
  }

  pub core_drains : (enters : Bool) → IsCore arch (drained_if enters p)
  core_drains true = core_drained
  core_drains false = core_dropped
