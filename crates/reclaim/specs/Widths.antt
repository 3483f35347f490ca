-- How many links a record has.
use Rattle.std.specs.Prelude.{ℕ, List, ◌≤◌, ◌≡◌}
use mathlib.Core.Path.{sym, subst}
use Rattle.kinds.specs.Rows.{Shape}
use Rattle.model.specs.Walk.{Progress, Rule, Task, Keeps}

-- p is the number of links of the shape, and at most 16
abbrev pub Narrow : Shape → ℕ → Type 0
Narrow k p = (p ≡ k.links) × (k.links ≤ 16)

-- what steps keep of records with as many links as the shape, they keep where there are p
pub keeps_over :
    {R : Rule} {I : Progress → List Task → Type 0} {room : Progress → List Task → ℕ} (k : Shape) {p : ℕ} → Narrow k p → Keeps k.links R I room →
    Keeps p R I room
keeps_over {R = R} {I = I} {room = room} k n K = subst (λ w. Keeps w R I room) (sym n.0) K
