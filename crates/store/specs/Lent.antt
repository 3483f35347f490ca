-- What the host lends, as clauses see it: each table as it is now, and as it will be handed back.
use Rattle.std.specs.Prelude.{ℕ, List}
use Rattle.std.specs.Borrow.{MutBor}
use Rattle.model.specs.declared.heads.Head.{Head}

pub record Lent (K : Type 0) : Type 0 where
  pub records : MutBor (List K)
  pub heads : MutBor (List Head)
  pub list : MutBor (List ℕ)
  pub work : MutBor (List ℕ)
