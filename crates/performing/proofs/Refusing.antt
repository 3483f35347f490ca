-- Refusals, in results and in replies.
use Rattle.std.proofs.Common.{◌≡◌, ℕ, true, is_err, Some, None, Ok, Err, Option, Result, sym, refl, ap, ◌∙◌}
use Rattle.model.specs.declared.calls.Reply.{Reply}
use Rattle.model.specs.declared.refusals.Refusal.{Refusal}
use Rattle.model.specs.Replies.{numbered, loaded, granted, is_refusal}

-- a refusal in a reply is one in the result that it was made of
pub numbered_refusal : (x : Result ℕ Refusal) (r : Reply) → r ≡ numbered x → is_refusal r ≡ true → is_err x ≡ true
numbered_refusal (Ok n) r e t = sym (ap is_refusal e) ∙ t
numbered_refusal (Err d) r e t = refl

pub loaded_refusal : (x : Result (Option ℕ) Refusal) (r : Reply) → r ≡ loaded x → is_refusal r ≡ true → is_err x ≡ true
loaded_refusal (Ok (Some n)) r e t = sym (ap is_refusal e) ∙ t
loaded_refusal (Ok None) r e t = sym (ap is_refusal e) ∙ t
loaded_refusal (Err d) r e t = refl

pub granted_refusal : {U : Type 0} (x : Result U Refusal) (r : Reply) → r ≡ granted x → is_refusal r ≡ true → is_err x ≡ true
granted_refusal (Ok u) r e t = sym (ap is_refusal e) ∙ t
granted_refusal (Err d) r e t = refl
