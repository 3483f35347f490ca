-- Which records a walk enters, and what can be said of every walk.
use Rattle.std.specs.Prelude.{◌≡◌, ℕ, zero, suc, ◌+◌, ◌<◌, ◌≤◌, true, false, ◌≢◌, List, [], ◌∷◌, ◌++◌, map, length, ◌==◌}
use Rattle.model.specs.State.{row}
use Rattle.model.specs.Lawful.{naming, once}
use Rattle.model.specs.Walk.{Progress, Rule, Task, runs, walk, full}
use Rattle.model.specs.Walk.Task.{follow, visit, leave}

-- what e says of each link that is not empty, one after the other, where f is what is done at it
unfoldable pub along : (Progress → ℕ → Progress) → (Progress → ℕ → List ℕ) → Progress → List ℕ → List ℕ
along f e g [] = []
along f e g (t ∷ ts) = elim (t == 0) [ true ↦ along f e g ts | false ↦ e g t ++ along f e (f g t) ts ]

-- the records that the walk from t enters, in the order in which it does
unfoldable pub entered : Rule → ℕ → Progress → ℕ → List ℕ
entered R zero g t = []
entered R (suc d) g t =
    elim (R.enters g t) [
      | true ↦
          t
          ∷ along (λ p u. walk R d (R.follow p u) u) (λ p u. entered R d (R.follow p u) u) (R.enter g t)
          (row (R.enter g t).store t).links
      | false ↦ []
    ]

-- What holds of the walk from t, for every set of steps.
pub record Laws (R : Rule) (g : Progress) (t : ℕ) : Type 0 where
  -- each link is wholly finished before the next
  pub in_turn :
      (d : ℕ) (y : Progress) (us vs : List ℕ) →
      runs (λ p u. walk R d (R.follow p u) u) y (us ++ vs)
      ≡ runs (λ p u. walk R d (R.follow p u) u) (runs (λ p u. walk R d (R.follow p u) u) y us) vs
  -- it comes to its end: no greater depth alters it
  pub to_its_end : (d : ℕ) → length g.store.rows < d → walk R d g t ≡ full R g t
  -- it enters no record twice
  pub enters_once : (r : ℕ) → 1 ≤ r → naming r (entered R (suc (length g.store.rows)) g t) ≤ 1

-- How often a record can still be entered, once at most: no step makes it more, and to enter it makes it less.
pub record Opens (R : Rule) (I : Progress → List Task → Type 0) (left : Progress → List Task → ℕ → ℕ) : Type 0 where
  pub single : (g : Progress) (Q : List Task) (r : ℕ) → left g Q r ≤ 1
  pub empty : (g : Progress) (Q : List Task) → I g (follow 0 ∷ Q) → (r : ℕ) → 1 ≤ r → left g Q r ≤ left g (follow 0 ∷ Q) r
  pub follows :
      (g : Progress) (t : ℕ) (Q : List Task) → t ≢ 0 → I g (follow t ∷ Q) → (r : ℕ) → 1 ≤ r →
      left (R.follow g t) (visit t ∷ Q) r ≤ left g (follow t ∷ Q) r
  pub begins :
      (g : Progress) (t : ℕ) (Q : List Task) → R.enters g t ≡ true → I g (visit t ∷ Q) → (r : ℕ) → 1 ≤ r →
      once (t == r) + left (R.enter g t) (map follow (row (R.enter g t).store t).links ++ (leave t ∷ Q)) r
      ≤ left g (visit t ∷ Q) r
  pub passes :
      (g : Progress) (t : ℕ) (Q : List Task) → R.enters g t ≡ false → I g (visit t ∷ Q) → (r : ℕ) → 1 ≤ r →
      left (R.pass g t) Q r ≤ left g (visit t ∷ Q) r
  pub leaves :
      (g : Progress) (t : ℕ) (Q : List Task) → I g (leave t ∷ Q) → (r : ℕ) → 1 ≤ r →
      left (R.leave g t) Q r ≤ left g (leave t ∷ Q) r
