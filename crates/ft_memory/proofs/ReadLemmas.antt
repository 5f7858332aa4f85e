-- What a read of a word answers.
use Rattle.std.proofs.Common.{◌≡◌, ℕ, Bool, true, false, cond, Some, None, Ok, Err, refl, sym, ap, ap₂, ◌∙◌}
use Rattle.coded_words.specs.Words.{Words}
use Rattle.lf_model.specs.Caches.Slot.{history_at}
use Rattle.lf_model.specs.Flips.{syndrome}
use Rattle.lf_model.specs.declared.bus.Bad.{Bad}
use Rattle.ram_words.specs.Ram.{place_of}
use Rattle.ram_words.specs.declared.answer.Got.{Got}
use Rattle.ft_memory.specs.Memory.{value_at, is_bad_at, syndrome_at, answer_of_read, value_shown}

good_of : (b : Bool) (e : Bad) (g got : Got) → Ok got ≡ cond b (Err e) (Ok g) → (got ≡ g) × (b ≡ false)
good_of true e g got is = cc
good_of false e g got is = (let given : Ok got ≡ Ok g = is in let same : got ≡ g = cc in same, refl)

bad_of : (b : Bool) (e bad : Bad) (g : Got) → Err bad ≡ cond b (Err e) (Ok g) → (bad ≡ e) × (b ≡ true)
bad_of true e bad g is = (let given : Err bad ≡ Err e = is in let same : bad ≡ e = cc in same, refl)
bad_of false e bad g is = cc

-- the syndrome that was read at a place
pub same_syndrome : (n m : Words) (place addr syn : ℕ) → n ≡ m → place ≡ place_of addr → syn ≡ syndrome (history_at place n.histories) → syn ≡ syndrome_at m addr
same_syndrome n m place addr syn same here is = is ∙ ap₂ (λ (w : Words) (p : ℕ). syndrome (history_at p w.histories)) same here

module _ (m : Words) (addr : ℕ) where
  pub good_read : (v syn : ℕ) → v ≡ value_at m addr → syn ≡ syndrome_at m addr → is_bad_at m addr ≡ false
      → Ok (record { value = v; syn = syn }) ≡ answer_of_read m addr
  unfolding answer_of_read
  good_read v syn value is good =
      ap₂ (λ (x s : ℕ). Ok (record { value = x; syn = s })) value is
      ∙ sym (ap (λ (b : Bool). cond b (Err (record { addr = addr; syn = syndrome_at m addr })) (Ok (record { value = value_at m addr; syn = syndrome_at m addr }))) good)

  pub bad_read : (syn : ℕ) → syn ≡ syndrome_at m addr → is_bad_at m addr ≡ true → Err (record { addr = addr; syn = syn }) ≡ answer_of_read m addr
  unfolding answer_of_read
  bad_read syn is bad =
      ap (λ (s : ℕ). Err (record { addr = addr; syn = s })) is
      ∙ sym (ap (λ (b : Bool). cond b (Err (record { addr = addr; syn = syndrome_at m addr })) (Ok (record { value = value_at m addr; syn = syndrome_at m addr }))) bad)

  -- what holds of the word by the answer
  pub record IsGood (got : Got) : Type 0 where
    pub value : got.value ≡ value_at m addr
    pub syn : got.syn ≡ syndrome_at m addr
    pub not_bad : is_bad_at m addr ≡ false

  pub record IsLost (word : Bad) : Type 0 where
    pub addr_is : word.addr ≡ addr
    pub syn : word.syn ≡ syndrome_at m addr
    pub bad : is_bad_at m addr ≡ true

  pub good_answer : (got : Got) → Ok got ≡ answer_of_read m addr → IsGood got
  unfolding answer_of_read
  good_answer got is =
      let both = good_of (is_bad_at m addr) (record { addr = addr; syn = syndrome_at m addr }) (record { value = value_at m addr; syn = syndrome_at m addr }) got is in
      record {
        value = ap (λ (g : Got). g.value) both.0;
        syn = ap (λ (g : Got). g.syn) both.0;
        not_bad = both.1;
      }

  pub lost_answer : (word : Bad) → Err word ≡ answer_of_read m addr → IsLost word
  unfolding answer_of_read
  lost_answer word is =
      let both = bad_of (is_bad_at m addr) (record { addr = addr; syn = syndrome_at m addr }) word (record { value = value_at m addr; syn = syndrome_at m addr }) is in
      record {
        addr_is = ap (λ (b : Bad). b.addr) both.0;
        syn = ap (λ (b : Bad). b.syn) both.0;
        bad = both.1;
      }

  -- what is shown of it
  pub good_shown : (v : ℕ) → v ≡ value_at m addr → is_bad_at m addr ≡ false → Some v ≡ value_shown m addr
  unfolding value_shown
  good_shown v value good = ap Some value ∙ sym (ap (λ (b : Bool). cond b None (Some (value_at m addr))) good)

  pub bad_shown : is_bad_at m addr ≡ true → None ≡ value_shown m addr
  unfolding value_shown
  bad_shown bad = sym (ap (λ (b : Bool). cond b None (Some (value_at m addr))) bad)
