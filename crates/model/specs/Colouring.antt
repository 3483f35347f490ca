-- What the walks of a collection have in common: whether a record can be entered goes by its colour, no record is
-- entered twice, and the counts leave out the links of the records of some colours.
use Rattle.std.specs.Prelude.{◌≡◌, ℕ, ◌+◌, ◌<◌, ◌≤◌, Bool, true, false, cond, not, ◌⊎◌, List, [], ◌∷◌, length, count_by, ◌==◌, ◌≢◌}
use Rattle.kinds.specs.Rows.{Row, Shape}
use Rattle.model.specs.State.{State, Within, head, row}
use Rattle.model.specs.Headers.{Header, is_black, is_gray, is_white}
use Rattle.model.specs.Lawful.{Links, Used, Chain, Settled, naming, once}
use Rattle.model.specs.Walk.{Progress, Task, Absent}
use Rattle.model.specs.Walk.Task.{follow, visit, leave}
use Rattle.model.specs.Releasing.{live_named, Next}
use Rattle.model.specs.declared.heads.Colour.TheVariants.{Purple}

-- how many links of the records that keep p name t
abbrev pub naming_where : (Header → Bool) → ℕ → List Header → List Row → ℕ
naming_where p t [] ws = 0
naming_where p t (h ∷ hs) [] = 0
naming_where p t (h ∷ hs) (w ∷ ws) = cond (p h) (naming t w.links) 0 + naming_where p t hs ws

abbrev pub named_where : (Header → Bool) → State → ℕ → ℕ
named_where p s t = naming_where p t s.heads s.rows

-- how many links to t are still to be followed
abbrev pub due : ℕ → List Task → ℕ
due t [] = 0
due t (follow u ∷ Q) = once (u == t) + due t Q
due t (visit u ∷ Q) = due t Q
due t (leave u ∷ Q) = due t Q

-- t is still to be walked
abbrev pub Awaited : ℕ → List Task → Type 0
Awaited t Q = (0 < due t Q) ⊎ Next t Q

-- Tasks none of which is a visit, and tasks of which the first may be: E holds of each record to be left, which is in
-- use and to be left once, and V of the one that is visited.
abbrev pub Queue : (Header → Type 0) → State → List Task → Type 0
Queue E s [] = Unit {0}
Queue E s (follow u ∷ Q) = ((u ≡ 0) ⊎ Within s u) × Queue E s Q
Queue E s (visit u ∷ Q) = ⊥
Queue E s (leave u ∷ Q) = (Used s u × (E (head s u) × Absent u Q)) × Queue E s Q

abbrev pub Orderly : (Header → Type 0) → (Header → Type 0) → State → List Task → Type 0
Orderly V E s [] = Unit {0}
Orderly V E s (follow u ∷ Q) = ((u ≡ 0) ⊎ Within s u) × Queue E s Q
Orderly V E s (visit u ∷ Q) = (Within s u × V (head s u)) × Queue E s Q
Orderly V E s (leave u ∷ Q) = (Used s u × (E (head s u) × Absent u Q)) × Queue E s Q

-- how many records keep p, and whether record r does: those that can still be entered
abbrev pub open_room : (Header → Bool) → Progress → List Task → ℕ
open_room p g Q = count_by p g.store.heads

abbrev pub open_once : (Header → Bool) → Progress → List Task → ℕ → ℕ
open_once p g Q r = once (p (head g.store r))

-- what every walk of a collection relies on
pub record Sized (k : Shape) (s : State) : Type 0 where
  pub few : length s.rows ≤ 4095
  pub heads_fit : length s.heads ≡ length s.rows
  pub each : (r : ℕ) → Within s r → Settled k (head s r) (row s r)
  pub links_within : (r t : ℕ) → Within s r → Links s r t → Within s t

-- Mark enters what is not gray. A count is the holds, the links of the records that are not gray, and those that are
-- still to be followed.
abbrev pub ungray : Header → Bool
ungray h = not (is_gray h.colour)

pub record Marking (k : Shape) (g : Progress) (Q : List Task) : Type 0 where
  pub sized : Sized k g.store
  pub counts :
      (r : ℕ) → Within g.store r →
      (head g.store r).count ≡ (head g.store r).holds + (named_where ungray g.store r + due r Q)
  pub orderly : Orderly (λ h. h.used ≡ true) (λ h. is_gray h.colour ≡ true) g.store Q

-- Restore enters what is not black. A count and the links still to be followed are the holds and the links of the records
-- that are alive, neither gray nor white. No record is purple any more. Links lead to records in use: a free record, which
-- has no count, would else be counted up.
abbrev pub unblack : Header → Bool
unblack h = not (is_black h.colour)

pub record Restoring (k : Shape) (g : Progress) (Q : List Task) : Type 0 where
  pub sized : Sized k g.store
  pub links_used : (r t : ℕ) → Within g.store r → Links g.store r t → Used g.store t
  pub unsuspected : (r : ℕ) → Within g.store r → (head g.store r).colour ≢ Purple
  pub counts :
      (r : ℕ) → Within g.store r →
      (head g.store r).count + due r Q
      ≡ (head g.store r).holds + named_where (λ h. is_black h.colour) g.store r
  pub orderly : Orderly (λ h. Unit {0}) (λ h. is_black h.colour ≡ true) g.store Q

-- Scan enters what is gray. A count is the holds and the links of the records that are alive.
abbrev pub gray : Header → Bool
gray h = is_gray h.colour

pub record Scanning (k : Shape) (g : Progress) (Q : List Task) : Type 0 where
  pub sized : Sized k g.store
  pub links_used : (r t : ℕ) → Within g.store r → Links g.store r t → Used g.store t
  pub unsuspected : (r : ℕ) → Within g.store r → (head g.store r).colour ≢ Purple
  pub counts :
      (r : ℕ) → Within g.store r →
      (head g.store r).count ≡ (head g.store r).holds + named_where (λ h. is_black h.colour) g.store r
  pub orderly : Orderly (λ h. Unit {0}) (λ h. is_gray h.colour ≡ false) g.store Q

-- Gather enters what is white, and a white record has no count. A count is the holds and the links of the records that
-- have a count.
abbrev pub white : Header → Bool
white h = is_white h.colour

pub record Gathering (k : Shape) (g : Progress) (Q : List Task) : Type 0 where
  pub sized : Sized k g.store
  pub uncounted : (r : ℕ) → Within g.store r → is_white (head g.store r).colour ≡ true → (head g.store r).count ≡ 0
  pub counts :
      (r : ℕ) → Within g.store r → (head g.store r).count ≡ (head g.store r).holds + live_named g.store r
  pub chain :
      (rs : List ℕ) × Chain g.store g.store.front rs
      × ((r : ℕ) → Within g.store r → naming r rs + once (head g.store r).used ≡ 1)
  pub orderly :
      Orderly (λ h. Unit {0}) (λ h. (is_white h.colour ≡ false) × (h.count ≡ 0)) g.store Q
