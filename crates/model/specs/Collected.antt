-- What each part of a collection does, in the words of the subject.
use Rattle.std.specs.Prelude.{◌≡◌, ℕ, ◌+◌, ◌<◌, false, ◌⊎◌, List, [], length}
use Rattle.kinds.specs.Rows.{Shape}
use Rattle.model.specs.State.{State, Within, head, row, in_use}
use Rattle.model.specs.Headers.{is_black}
use Rattle.model.specs.Lawful.{From, Lawful, Links, Used, Spent, Candidate, Chain, Reachable, naming, once}
use Rattle.model.specs.Walk.{Progress}
use Rattle.model.specs.Colouring.{Sized, named_where, ungray}
use Rattle.model.specs.declared.heads.Colour.TheVariants.{Black, Gray, White}

-- r hangs on a candidate, itself one or not
abbrev pub Hanging : State → ℕ → Type 0
Hanging s r = From (Candidate s) (Links s) r

abbrev pub Listed : State → ℕ → Type 0
Listed s r = 0 < naming r s.candidates

-- The records of z are those of s, but for counts, colours and the list; the spent ones are free.
pub record Kept (s z : State) : Type 0 where
  pub rows_same : z.rows ≡ s.rows
  pub spent_free : (r : ℕ) → Spent s r → (head z r).used ≡ false
  pub use_same : (r : ℕ) → Within s r → (Spent s r → ⊥) → (head z r).used ≡ (head s r).used
  pub holds_same : (r : ℕ) → Within s r → (head z r).holds ≡ (head s r).holds

-- The list names the waiting records, each once, and the chain the free ones.
pub record Filed (s : State) : Type 0 where
  pub listed : (r : ℕ) → Within s r → naming r s.candidates ≡ once (head s r).waiting
  pub listed_within : (r : ℕ) → Listed s r → Within s r
  pub chain : (rs : List ℕ) × Chain s s.front rs × ((r : ℕ) → Within s r → naming r rs + once (head s r).used ≡ 1)

-- what is in use and what is given up since g are what was in use and given up then
abbrev pub Accounted : Progress → Progress → Type 0
Accounted g z = in_use z.store + z.given ≡ in_use g.store + g.given

-- Mark, from g to z.
pub record AfterMark (k : Shape) (g z : Progress) : Type 0 where
  pub sized : Sized k z.store
  pub kept : Kept g.store z.store
  pub colours :
      (r : ℕ) → Within g.store r → ((head z.store r).colour ≡ Black) ⊎ ((head z.store r).colour ≡ Gray)
  -- gray is exactly what hangs on a candidate, and hangs on the list that is left
  pub gray_hangs : (r : ℕ) → Within g.store r → (head z.store r).colour ≡ Gray → Hanging g.store r
  pub hanging_gray : (r : ℕ) → Hanging g.store r → (head z.store r).colour ≡ Gray
  pub gray_listed :
      (r : ℕ) → Within g.store r → (head z.store r).colour ≡ Gray → From (Listed z.store) (Links g.store) r
  -- what is left on the list is gray: scan begins there
  pub listed_gray : (r : ℕ) → Listed z.store r → (head z.store r).colour ≡ Gray
  -- each count is what comes from outside the gray
  pub counts :
      (r : ℕ) → Within g.store r → (head z.store r).count ≡ (head z.store r).holds + named_where ungray z.store r
  pub filed : Filed z.store
  pub accounted : Accounted g z

-- Scan, where mark began from g and scan ends in z.
pub record AfterScan (k : Shape) (g z : Progress) : Type 0 where
  pub sized : Sized k z.store
  pub kept : Kept g.store z.store
  pub colours :
      (r : ℕ) → Within g.store r → ((head z.store r).colour ≡ Black) ⊎ ((head z.store r).colour ≡ White)
  -- of what is in use, white is exactly what is unreachable, and hangs on the list
  pub white_unreachable : (r : ℕ) → Within g.store r → (head z.store r).colour ≡ White → Reachable g.store r → ⊥
  pub black_reachable : (r : ℕ) → Used z.store r → (head z.store r).colour ≡ Black → Reachable g.store r
  pub white_listed :
      (r : ℕ) → Within g.store r → (head z.store r).colour ≡ White → From (Listed z.store) (Links g.store) r
  -- each count is what comes from the black, and none is left to the white
  pub counts :
      (r : ℕ) → Within g.store r →
      (head z.store r).count ≡ (head z.store r).holds + named_where (λ h. is_black h.colour) z.store r
  pub white_uncounted : (r : ℕ) → Within g.store r → (head z.store r).colour ≡ White → (head z.store r).count ≡ 0
  pub filed : Filed z.store
  pub accounted : Accounted g z

-- A whole collection, from g to z.
pub record AfterCollection (k : Shape) (g z : Progress) : Type 0 where
  pub lawful : Lawful k z.store
  pub size : length z.store.rows ≡ length g.store.rows
  -- exactly the reachable records are in use, with holds, links and bytes untouched
  pub reachable_used : (r : ℕ) → Reachable g.store r → Used z.store r
  pub used_reachable : (r : ℕ) → Used z.store r → Reachable g.store r
  pub holds_same : (r : ℕ) → Reachable g.store r → (head z.store r).holds ≡ (head g.store r).holds
  pub rows_same : (r : ℕ) → Reachable g.store r → row z.store r ≡ row g.store r
  -- all are black and the list is empty
  pub all_black : (r : ℕ) → Within g.store r → (head z.store r).colour ≡ Black
  pub list_empty : z.store.candidates ≡ []
  pub accounted : Accounted g z
