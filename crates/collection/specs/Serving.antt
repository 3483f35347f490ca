-- What holds where a listed record is served.
use Rattle.std.specs.Prelude.{ℕ, ◌<◌, ◌≤◌, [], ◌∷◌, length}
use Rattle.kinds.specs.Rows.{Shape}
use Rattle.model.specs.Headers.{unlisted}
use Rattle.model.specs.Colouring.{Marking, Gathering}
use Rattle.model.specs.Release.{at, turn}
use Rattle.model.specs.Releasing.{FewGiven}
use Rattle.model.specs.State.{Within}
use Rattle.model.specs.Walk.{Progress}
use Rattle.model.specs.Walk.Task.{visit}

-- by mark: it can be walked or given up, and there is room for it on the list
pub record Marks (k : Shape) (g : Progress) (r : ℕ) : Type 0 where
  pub inside : Within g.store r
  pub walks : Marking k g (visit r ∷ [])
  pub front_small : g.store.front ≤ 4095
  pub given_small : g.given < 4095
  pub room : length g.store.candidates < length g.store.rows

-- by gather: it can be walked once it waits no longer
pub record Gathers (k : Shape) (g : Progress) (r : ℕ) : Type 0 where
  pub inside : Within g.store r
  pub walks : Gathering k (turn g r (unlisted (at g r))) (visit r ∷ [])
  pub few_given : FewGiven (turn g r (unlisted (at g r)))
