-- A head that was altered: what the store means then.
use Rattle.std.proofs.Common.{◌≡◌, ℕ, ap, ◌∙◌}
use Rattle.model.specs.Headers.{Header, header}
use Rattle.model.specs.Release.{turn}
use Rattle.model.specs.State.{head}
use Rattle.model.specs.Walk.{Progress}
use Rattle.model.specs.declared.heads.Head.{Head}

-- where what was done to the head means f, the head of record r is f of what it was
pub turned :
    {P : Head → Head → Type 0} (f : Header → Header) (y z : Progress) (r : ℕ) → ((a b : Head) → P a b → header b ≡ f (header a)) →
    ((a : Head) × (b : Head) × (header a ≡ head y.store r) × P a b × (z ≡ turn y r (header b))) → z ≡ turn y r (f (head y.store r))
turned f y z r says d = d.4 ∙ ap (turn y r) (says d.0 d.1 d.3 ∙ ap f d.2)
