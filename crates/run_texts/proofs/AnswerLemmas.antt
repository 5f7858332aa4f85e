-- Want of memory is no fault of a text.
use Rattle.std.proofs.Common.{ℕ, ◌≡◌, Bool, true, false, List, [], ◌∷◌, Option, Some, None, Ok, Err, inl, inr}
use Rattle.std.proofs.lemmas.Bool.{cases_Bool}
use Rattle.std.specs.List.{flat_map}
use Rattle.std.specs.Option.{option_map_or}
use Rattle.toml.specs.Data.{Members}
use Rattle.lf_model.specs.declared.config.Config.{Config}
use Rattle.run_texts.specs.declared.config_error.ConfigErr.{ConfigErr}
use Rattle.run_texts.specs.declared.config_error.ConfigErr.TheVariants as told
use Rattle.run_texts.specs.declared.keys.Key.{Key}
use Rattle.run_texts.specs.Columns.{first_fault}
use Rattle.run_texts.specs.Keys.{keys}
use Rattle.run_texts.specs.Document.{document_of, has_known_keys, config_of}
use Rattle.run_texts.specs.Configuration.{is_of_other_kind, is_out_of_range, key_faults, fault_of, document_answer, config_answer}

-- of two faults and more faults, none is x where neither of the two is, nor is one of the more
neither : {X : Type 0} (a b : Bool) (x y z : X) (more : List (Bool × X)) → (x ≡ z → ⊥) → (y ≡ z → ⊥) → (first_fault more ≡ Some z → ⊥)
    → first_fault ((a, x) ∷ (b, y) ∷ more) ≡ Some z → ⊥
neither true b x y z more first second rest is = first cc
neither false true x y z more first second rest is = second cc
neither false false x y z more first second rest is = rest is

not_at_keys : (document : Members) (config : Config) (ks : List Key) → first_fault (flat_map (key_faults document config) ks) ≡ Some told.Memory → ⊥
not_at_keys document config [] is = absurd cc
not_at_keys document config (key ∷ ks) is =
    neither (is_of_other_kind document key) (is_out_of_range document config key) (told.Kind key) (told.Range key) told.Memory (flat_map (key_faults document config) ks) (λ e. absurd cc) (λ e. absurd cc)
    (not_at_keys document config ks) is

not_of_document : (document : Members) (config : Config) → fault_of document config ≡ Some told.Memory → ⊥
unfolding fault_of
not_of_document document config is =
    elim (cases_Bool (has_known_keys document)) [
      | inl known ↦ not_at_keys document config keys (rw known at is)
      | inr other ↦ let never : Some told.Key ≡ Some told.Memory = rw other at is in cc
    ]

not_of_answer : (fault : Option ConfigErr) (config : Config) → (fault ≡ Some told.Memory → ⊥) → option_map_or Err fault (Ok config) ≡ Err told.Memory → ⊥
not_of_answer None config never is = absurd cc
not_of_answer (Some fault) config never is = never cc

not_of_text : (document : Option Members) → option_map_or document_answer document (Err told.Text) ≡ Err told.Memory → ⊥
not_of_text None is = absurd cc
not_of_text (Some document) is = not_of_answer (fault_of document (config_of document)) (config_of document) (not_of_document document (config_of document)) is

pub never_memory : (text : List ℕ) → config_answer text ≡ Err told.Memory → ⊥
unfolding config_answer
never_memory text is = not_of_text (document_of text) is
