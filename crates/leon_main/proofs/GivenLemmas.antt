-- What is answered to words that ask for nothing.
use Rattle.std.proofs.Common.{ℕ, ◌≡◌, ◌≢◌, ◌∙◌, [], List, Option, None, Result, Ok, Err, refl, ap, subst}
use Rattle.lf_io.specs.Held.{FileMap}
use Rattle.lf_io.specs.Taken.{Takes}
use Rattle.leon_main.proofs.DecideLemmas.{asked_not_none, tells}
use Rattle.leon_main.specs.Call.{IsOutcome, IsAnswered, Tells, status_of, text_of}
use Rattle.leon_main.specs.Faults as faults
use Rattle.leon_main.specs.Words.{Play, Audit, OfRun, Generate, Codes, request_of}
use Rattle.leon_main.specs.declared.answer.Answer.{Answer}
use Rattle.leon_main.specs.declared.answer.Answer.TheVariants.{Report, Audited, ImageFile, CheckBits}
use Rattle.leon_main.specs.declared.fault.Fault.{Fault}
use Rattle.leon_main.specs.declared.fault.Fault.TheVariants.{Usage, Memory}

pub no_words : request_of [] ≡ None
unfolding request_of
no_words = refl

-- such words come to a wrong usage
comes_to_usage : (words : List (List ℕ)) (held : Option FileMap) (before after : List ℕ → ℕ) (outcome : Result Answer Fault) → request_of words ≡ None
    → IsOutcome words held before after outcome → outcome ≡ Err Usage
comes_to_usage words held before after (Ok (Report trace)) none cause = asked_not_none (request_of words) (OfRun Play cause.names) cause.asked none
comes_to_usage words held before after (Ok (Audited verdict)) none cause = asked_not_none (request_of words) (OfRun Audit cause.names) cause.asked none
comes_to_usage words held before after (Ok (ImageFile file)) none cause = asked_not_none (request_of words) (Generate cause.0 cause.1) cause.2 none
comes_to_usage words held before after (Ok (CheckBits bits)) none cause = asked_not_none (request_of words) (Codes cause.0) cause.1 none
comes_to_usage words held before after (Err Usage) none cause = refl
comes_to_usage words held before after (Err Memory) none cause = asked_not_none (request_of words) cause.0 cause.1 none
comes_to_usage words held before after (Err fault) none cause = asked_not_none (request_of words) (OfRun cause.0 cause.1) cause.2 none

-- and are answered by its line
pub tells_usage : (words : List (List ℕ)) (held : Option FileMap) (before after : List ℕ → ℕ) (old new : Option (List ℕ)) (status : ℕ) → request_of words ≡ None
    → (status ≢ 8 → IsAnswered words held before after old new status) → Tells status old new 2 (faults.line_of Usage)
tells_usage words held before after old new status none answered =
    tells status 2 old new (faults.line_of Usage) (λ no_fault.
    let answer = answered no_fault in
    let usage : answer.outcome ≡ Err Usage = comes_to_usage words held before after answer.outcome none answer.cause in
    (answer.its_status ∙ ap status_of usage, subst (λ (o : Result Answer Fault). Takes old new (text_of o)) usage answer.taken))
