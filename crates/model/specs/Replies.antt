-- What a call's result says, as a reply.
use Rattle.std.specs.Prelude.{ℕ, Bool, true, false, Some, None, Ok, Err, Option, Result}
use Rattle.model.specs.State.{State}
use Rattle.model.specs.Calls.{Answered}
use Rattle.model.specs.declared.calls.Reply.{Reply}
use Rattle.model.specs.declared.calls.Reply.TheVariants.{Number, Nothing, Done, Refused}
use Rattle.model.specs.declared.refusals.Refusal.{Refusal}

abbrev pub numbered : Result ℕ Refusal → Reply
numbered (Ok n) = Number n
numbered (Err e) = Refused e

abbrev pub granted : {U : Type 0} → Result U Refusal → Reply
granted (Ok u) = Done
granted (Err e) = Refused e

abbrev pub loaded : Result (Option ℕ) Refusal → Reply
loaded (Ok (Some n)) = Number n
loaded (Ok None) = Nothing
loaded (Err e) = Refused e

-- a reply and the store that is left with it
abbrev pub leaving : Reply → State → Answered
leaving r s = record { reply = r; store = s }

abbrev pub is_refusal : Reply → Bool
is_refusal (Number n) = false
is_refusal Nothing = false
is_refusal Done = false
is_refusal (Refused e) = true
