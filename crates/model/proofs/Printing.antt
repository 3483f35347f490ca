-- Where a transcript ends: once one of its lists has no more.
use Rattle.std.proofs.Common.{◌≡◌, ◌⊎◌, List, [], ◌∷◌, length, refl, inl, inr, arith}
use Rattle.model.specs.Texts.{transcript}
use Rattle.model.specs.declared.calls.Call.{Call}
use Rattle.model.specs.declared.calls.Reply.{Reply}

pub ended : (calls : List Call) (replies : List Reply) → (length calls ≡ 0) ⊎ (length replies ≡ 0) → transcript calls replies ≡ []
ended [] replies none = refl
ended (c ∷ calls) [] none = refl
ended (c ∷ calls) (r ∷ replies) (inl none) = let no : ⊥ = omega arith in absurd no
ended (c ∷ calls) (r ∷ replies) (inr none) = let no : ⊥ = omega arith in absurd no
