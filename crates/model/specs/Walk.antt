-- A walk goes depth first over the links, from link 0 upward, and passes empty links.
use Rattle.std.specs.Prelude.{◌≡◌, ℕ, zero, suc, ◌<◌, ◌≤◌, Bool, true, false, ◌≢◌, List, [], ◌∷◌, ◌++◌, map, length, ◌==◌}
use Rattle.model.specs.State.{State, Within, row}

-- a store on its way through a call, with the records given up so far
pub record Progress : Type 0 where
  pub store : State
  pub given : ℕ

-- What a walk does at a record: where a link to it is followed; whether its own links are walked; where they begin to
-- be, or where it is passed; and once all its links are done.
pub record Rule : Type 0 where
  pub follow : Progress → ℕ → Progress
  pub enters : Progress → ℕ → Bool
  pub enter : Progress → ℕ → Progress
  pub pass : Progress → ℕ → Progress
  pub leave : Progress → ℕ → Progress

-- f at each link that is not empty, from the first on
unfoldable pub runs : (Progress → ℕ → Progress) → Progress → List ℕ → Progress
runs f g [] = g
runs f g (t ∷ ts) = runs f (elim (t == 0) [ true ↦ g | false ↦ f g t ]) ts

-- the walk from record t, at most d records deep
unfoldable pub walk : Rule → ℕ → Progress → ℕ → Progress
walk R zero g t = g
walk R (suc d) g t =
    elim (R.enters g t) [
      | true ↦ R.leave (runs (λ p u. walk R d (R.follow p u) u) (R.enter g t) (row (R.enter g t).store t).links) t
      | false ↦ R.pass g t
    ]

-- The walk to its end: it enters no record that it has not left yet, so it is never deeper than there are records.
abbrev pub full : Rule → Progress → ℕ → Progress
full R g t = walk R (suc (length g.store.rows)) g t

-- what is still to be done of a walk, the innermost first
pub data Task : Type 0 where
  follow : ℕ → Task
  visit : ℕ → Task
  leave : ℕ → Task

-- record t is not among those to be left
abbrev pub Absent : ℕ → List Task → Type 0
Absent t [] = Unit {0}
Absent t (follow u ∷ Q) = Absent t Q
Absent t (visit u ∷ Q) = Absent t Q
Absent t (leave u ∷ Q) = (u ≢ t) × Absent t Q

-- One step turns g with the tasks P into z with the tasks Q: the links stand, no more records are left to enter, and
-- what the steps rely on holds again.
pub record Turned (I : Progress → List Task → Type 0) (room : Progress → List Task → ℕ) (g : Progress) (P : List Task) (z : Progress) (Q : List Task) : Type 0 where
  pub rows : z.store.rows ≡ g.store.rows
  pub fewer : room z Q ≤ room g P
  pub fits : I z Q

-- The same of the step that leaves record t, which may alter the links of t.
pub record Left (I : Progress → List Task → Type 0) (room : Progress → List Task → ℕ) (t : ℕ) (g : Progress) (P : List Task) (z : Progress) (Q : List Task) : Type 0 where
  pub size : length z.store.rows ≡ length g.store.rows
  pub others : (r : ℕ) → 1 ≤ r → r ≢ t → row z.store r ≡ row g.store r
  pub fewer : room z Q ≤ room g P
  pub fits : I z Q

-- What the steps of a walk keep, where each record has p links: I is what they rely on, of the store and of the tasks
-- still to be done, and room bounds how many records can still be entered.
pub record Keeps (p : ℕ) (R : Rule) (I : Progress → List Task → Type 0) (room : Progress → List Task → ℕ) : Type 0 where
  pub wide : (g : Progress) (Q : List Task) → I g Q → (r : ℕ) → Within g.store r → length (row g.store r).links ≡ p
  pub most : (g : Progress) (Q : List Task) → I g Q → room g Q ≤ length g.store.rows
  pub within : (g : Progress) (t : ℕ) (Q : List Task) → I g (visit t ∷ Q) → Within g.store t
  pub once : (g : Progress) (t : ℕ) (Q : List Task) → I g (leave t ∷ Q) → Absent t Q
  pub empty : (g : Progress) (Q : List Task) → I g (follow 0 ∷ Q) → Turned I room g (follow 0 ∷ Q) g Q
  pub follows :
      (g : Progress) (t : ℕ) (Q : List Task) → t ≢ 0 → I g (follow t ∷ Q) → Turned I room g (follow t ∷ Q) (R.follow g t) (visit t ∷ Q)
  pub begins :
      (g : Progress) (t : ℕ) (Q : List Task) → R.enters g t ≡ true → I g (visit t ∷ Q) →
      Turned I room g (visit t ∷ Q) (R.enter g t) (map follow (row (R.enter g t).store t).links ++ (leave t ∷ Q))
  pub lowers :
      (g : Progress) (t : ℕ) (Q : List Task) → R.enters g t ≡ true → I g (visit t ∷ Q) →
      room (R.enter g t) (map follow (row (R.enter g t).store t).links ++ (leave t ∷ Q)) < room g (visit t ∷ Q)
  pub passes :
      (g : Progress) (t : ℕ) (Q : List Task) → R.enters g t ≡ false → I g (visit t ∷ Q) → Turned I room g (visit t ∷ Q) (R.pass g t) Q
  pub leaves :
      (g : Progress) (t : ℕ) (Q : List Task) → I g (leave t ∷ Q) → Left I room t g (leave t ∷ Q) (R.leave g t) Q

-- the task a is next
pub record Ready (I : Progress → List Task → Type 0) (g : Progress) (a : Task) : Type 0 where
  pub rest : List Task
  pub fits : I g (a ∷ rest)
