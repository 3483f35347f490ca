-- What holds at each moment of a release, of the store and of what is still to be done.
use Rattle.std.specs.Prelude.{◌≡◌, ℕ, ◌+◌, ◌<◌, ◌≤◌, true, cond, not, ◌⊎◌, List, [], ◌∷◌, length, count_by, ◌==◌}
use Rattle.kinds.specs.Rows.{Row, Shape}
use Rattle.model.specs.State.{State, Within, head, row, in_use}
use Rattle.model.specs.Headers.{Header}
use Rattle.model.specs.Lawful.{From, Held, Links, Candidate, Chain, Settled, Coloured, Resting, naming, once}
use Rattle.model.specs.Walk.{Progress, Task, Absent}
use Rattle.model.specs.Walk.Task.{follow, visit, leave}

-- how many links of the records that have a count name t
abbrev pub naming_live : ℕ → List Header → List Row → ℕ
naming_live t [] ws = 0
naming_live t (h ∷ hs) [] = 0
naming_live t (h ∷ hs) (w ∷ ws) = cond (h.count == 0) 0 (naming t w.links) + naming_live t hs ws

abbrev pub live_named : State → ℕ → ℕ
live_named s t = naming_live t s.heads s.rows

-- how many links to t are still to be lowered; a record that is visited with no count left stands for its links
abbrev pub pending : State → ℕ → List Task → ℕ
pending s t [] = 0
pending s t (follow u ∷ Q) = once (u == t) + pending s t Q
pending s t (visit u ∷ Q) = cond ((head s u).count == 0) (naming t (row s u).links) 0 + pending s t Q
pending s t (leave u ∷ Q) = pending s t Q

-- a record to be visited, and one to be left: in use, and to be left once; the latter has no count any more
pub record Visiting (s : State) (t : ℕ) (Q : List Task) : Type 0 where
  pub inside : Within s t
  pub in_use : (head s t).used ≡ true
  pub once_only : Absent t Q

pub record Ending (s : State) (t : ℕ) (Q : List Task) : Type 0 where
  pub inside : Within s t
  pub in_use : (head s t).used ≡ true
  pub uncounted : (head s t).count ≡ 0
  pub once_only : Absent t Q

-- tasks none of which is a visit, and tasks of which the first may be
abbrev pub Calm : State → List Task → Type 0
Calm s [] = Unit {0}
Calm s (follow u ∷ Q) = ((u ≡ 0) ⊎ Within s u) × Calm s Q
Calm s (visit u ∷ Q) = ⊥
Calm s (leave u ∷ Q) = Ending s u Q × Calm s Q

abbrev pub Tidy : State → List Task → Type 0
Tidy s [] = Unit {0}
Tidy s (follow u ∷ Q) = ((u ≡ 0) ⊎ Within s u) × Calm s Q
Tidy s (visit u ∷ Q) = Visiting s u Q × Calm s Q
Tidy s (leave u ∷ Q) = Ending s u Q × Calm s Q

-- r is to be visited or to be left
abbrev pub Busy : ℕ → List Task → Type 0
Busy r [] = ⊥
Busy r (follow u ∷ Q) = Busy r Q
Busy r (visit u ∷ Q) = (u ≡ r) ⊎ Busy r Q
Busy r (leave u ∷ Q) = (u ≡ r) ⊎ Busy r Q

-- r is to be visited next
abbrev pub Next : ℕ → List Task → Type 0
Next r [] = ⊥
Next r (follow u ∷ Q) = ⊥
Next r (visit u ∷ Q) = u ≡ r
Next r (leave u ∷ Q) = ⊥

-- where what is in use hangs on, while a release is under way
abbrev pub Start : State → List Task → ℕ → Type 0
Start s Q r = Held s r ⊎ (Candidate s r ⊎ ((Within s r × (0 < pending s r Q)) ⊎ Next r Q))

-- a link of a record that has a count
abbrev pub LiveLink : State → ℕ → ℕ → Type 0
LiveLink s r t = Within s r × ((0 < (head s r).count) × Links s r t)

pub record Releasing (k : Shape) (g : Progress) (Q : List Task) : Type 0 where
  pub few : length g.store.rows ≤ 4095
  pub heads_fit : length g.store.heads ≡ length g.store.rows
  pub each : (r : ℕ) → Within g.store r → Settled k (head g.store r) (row g.store r)
  pub coloured : (r : ℕ) → Within g.store r → Coloured (head g.store r)
  pub spent_waits :
      (r : ℕ) → Within g.store r → (head g.store r).used ≡ true → (head g.store r).count ≡ 0 →
      Resting k (head g.store r) (row g.store r) ⊎ Busy r Q
  pub links_within : (r t : ℕ) → Within g.store r → Links g.store r t → Within g.store t
  pub listed : (r : ℕ) → Within g.store r → naming r g.store.candidates ≡ once (head g.store r).waiting
  pub listed_within : (r : ℕ) → 0 < naming r g.store.candidates → Within g.store r
  pub chain :
      (rs : List ℕ) × Chain g.store g.store.front rs
      × ((r : ℕ) → Within g.store r → naming r rs + once (head g.store r).used ≡ 1)
  -- a count is the holds, the links of the records that have a count, and what is still to be lowered
  pub counts :
      (r : ℕ) → Within g.store r →
      (head g.store r).count ≡ (head g.store r).holds + (live_named g.store r + pending g.store r Q)
  pub cover :
      (r : ℕ) → Within g.store r → 0 < (head g.store r).count → From (Start g.store Q) (LiveLink g.store) r
  pub tidy : Tidy g.store Q

-- how many records have a count; one that is visited with none left is still to be entered
abbrev pub visited_ended : State → List Task → ℕ
visited_ended s [] = 0
visited_ended s (follow u ∷ Q) = 0
visited_ended s (visit u ∷ Q) = once ((head s u).count == 0)
visited_ended s (leave u ∷ Q) = 0

abbrev pub counted_room : Progress → List Task → ℕ
counted_room g Q = count_by (λ h. not (h.count == 0)) g.store.heads + visited_ended g.store Q

-- how often record r can still be entered: once if it has a count or is visited with none left
abbrev pub visited_next : ℕ → List Task → ℕ
visited_next r [] = 0
visited_next r (follow u ∷ Q) = 0
visited_next r (visit u ∷ Q) = once (u == r)
visited_next r (leave u ∷ Q) = 0

abbrev pub counted_open : Progress → List Task → ℕ → ℕ
counted_open g Q r = cond ((head g.store r).count == 0) (visited_next r Q) 1

-- what is in use and what is given up are no more than the records that there can be
abbrev pub FewGiven : Progress → Type 0
FewGiven g = in_use g.store + g.given ≤ 4095
