-- What the calls of a fetch ensure, in their own terms, is what the course says of it.
use Rattle.std.proofs.Common.{◌≡◌, ◌∙◌, ◌+◌, ◌%◌, ◌^◌, ◌<◌, ℕ, true, false, fold, refl}
use Rattle.core_parts.specs.Work.{WorkState, work_touch, work_answers}
use Rattle.core_steps.specs.Works.{Works}
use Rattle.core_steps.proofs.FetchHit.{reads_word}
use Rattle.core_steps.proofs.Working.{exec_works}
use Rattle.lf_model.specs.Caches.Look.{LookUp, look}
use Rattle.lf_model.specs.Caches.Look.LookUp.{Hit as Hits, Miss as Misses}
use Rattle.lf_model.specs.Effects.{effect}
use Rattle.lf_model.specs.Instructions.{instruction_of}
use Rattle.lf_model.specs.Run.{site_of}
use Rattle.lf_model.specs.Start.{initial_byte, is_text_word, word_at}
use Rattle.lf_model.specs.Step.{Seen, Does, state_of, run_seen, counted}
use Rattle.lf_model.specs.declared.bus.Why.{Why}
use Rattle.lf_model.specs.declared.control.Arch.{Arch}
use Rattle.lf_model.specs.declared.image.Image.{Image}
use Rattle.lf_model.specs.declared.step.Did.{Did}
use Rattle.lf_model.specs.declared.step.Look.TheVariants.{Hit, Miss}
use Rattle.lf_model.specs.declared.touch.Touch.TheVariants.{LookFetch}
use Rattle.parity_cache.specs.CacheState.{CacheState, line_at, answer_of}
use Rattle.parity_cache.specs.Resident.{Holds, IsWellFormed}
use Rattle.parity_slots.specs.SlotState.{value_at}
use Rattle.v8_exec.specs.Touching.{touches_of}

-- a look-up that hit did so in a slot, and read its line
pub record HitsIn (addr len : ℕ) (c : CacheState) (found : LookUp) (value : ℕ) : Type 0 where
  pub slot : ℕ
  pub found_is : found ≡ Hits slot
  pub value_is : value ≡ value_at addr len (line_at slot c)

pub hit_of : (addr len : ℕ) (c : CacheState) (found : LookUp) (value way : ℕ) → Hit value way ≡ answer_of addr len c found → HitsIn addr len c found value
hit_of addr len c (Hits slot) value way is = record { slot = slot; found_is = refl; value_is = cc }
hit_of addr len c (Misses why) value way is = absurd cc

pub miss_of : (addr len : ℕ) (c : CacheState) (found : LookUp) (why : Why) → Miss why ≡ answer_of addr len c found → found ≡ Misses why
miss_of addr len c (Hits slot) why is = absurd cc
miss_of addr len c (Misses cause) why is = cc

-- the number read by a fetch is the image's word
pub word_of : (image : Image) (addr : ℕ) (c : CacheState) (value way : ℕ) → addr % 4 ≡ 0 → addr < 2 ^ 32 → IsWellFormed c → Holds (initial_byte image) c → Hit value way ≡ answer_of addr 4 c (look addr 4 c.cache).answer
    → value ≡ word_at image addr
word_of image addr c value way aligned fits formed bytes is =
    let hits = hit_of addr 4 c (look addr 4 c.cache).answer value way is in
    hits.value_is ∙ reads_word addr hits.slot aligned c hits.found_is (initial_byte image) fits formed bytes

module _ (was mid now : WorkState) (old new : Arch) (before after : Seen) (core_ w : ℕ) (did : Did) where
  pub hit_works : (slot : ℕ) → mid ≡ work_touch was (LookFetch old.ctl.pc) → old.core ≡ core_ → w ≡ word_at was.setup.image old.ctl.pc
      → is_text_word was.setup.image.text old.ctl.pc ≡ true → (look old.ctl.pc 4 was.ports.fetch_cache.cache).answer ≡ Hits slot
      → Does core_ (work_answers mid) (effect (site_of was.setup core_) (state_of old before) (instruction_of w)) did (run_seen old before) (run_seen new after)
      → now ≡ fold work_touch mid (touches_of (work_answers mid) old.ctl.cwp (effect (site_of was.setup core_) (state_of old before) (instruction_of w)) did)
      → new.n ≡ old.n + counted did → new.core ≡ old.core → Works false did old new before after was now
  hit_works slot mid_is core word text hit does touches counts same =
      exec_works was old new before after slot did now (effect (site_of was.setup old.core) (state_of old before) (instruction_of (word_at was.setup.image old.ctl.pc))) text hit refl
      (rw (← core, word, mid_is) at does) (rw (← core, word, mid_is) at touches) counts same
