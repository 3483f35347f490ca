-- The rules that every store keeps between calls.
use Rattle.std.specs.Prelude.{◌≡◌, ℕ, ◌+◌, ◌<◌, ◌≤◌, Bool, true, false, cond, ◌⊎◌, List, [], ◌∷◌, length, sum_by, count_by, nat_eq, slice_index}
use Rattle.kinds.specs.Rows.{Row, Shape, blank}
use Rattle.model.specs.State.{State, Within, head, row}
use Rattle.model.specs.Headers.{Header, free_header}
use Rattle.model.specs.declared.heads.Colour.TheVariants.{Black, Purple}

abbrev pub Used : State → ℕ → Type 0
Used s r = Within s r × ((head s r).used ≡ true)

abbrev pub Held : State → ℕ → Type 0
Held s r = Within s r × (0 < (head s r).holds)

-- record r has a link to t
abbrev pub Links : State → ℕ → ℕ → Type 0
Links s r t = (1 ≤ t) × ((i : ℕ) × (slice_index (row s r).links i ≡ t))

-- what can be come to from the records of P along links
pub data From (P : ℕ → Type 0) (To : ℕ → ℕ → Type 0) : ℕ → Type 0 where
  here : {r : ℕ} → P r → From P To r
  along : {r t : ℕ} → From P To r → To r t → From P To t

abbrev pub Reachable : State → ℕ → Type 0
Reachable s r = From (Held s) (Links s) r

-- spent: in use, with nothing that refers to it; it only waits to be taken off the candidate list
abbrev pub Spent : State → ℕ → Type 0
Spent s r = Used s r × ((head s r).count ≡ 0)

-- how many entries of the list are r
abbrev pub naming : ℕ → List ℕ → ℕ
naming r ls = count_by (λ t. nat_eq t r) ls

-- how many links of all records name r
abbrev pub named : State → ℕ → ℕ
named s r = sum_by (λ w. naming r w.links) s.rows

-- a candidate: on the list, and suspected of hanging in a dead ring
abbrev pub Candidate : State → ℕ → Type 0
Candidate s r = (0 < naming r s.candidates) × ((head s r).colour ≡ Purple)

-- the chain of free records from r on is the list
abbrev pub Chain : State → ℕ → List ℕ → Type 0
Chain s r [] = r ≡ 0
Chain s r (x ∷ xs) = (r ≡ x) × (Within s x × (((head s x).used ≡ false) × Chain s (head s x).next xs))

abbrev pub once : Bool → ℕ
once b = cond b 1 0

-- what each record keeps by itself at every moment, inside a call too
pub record Settled (k : Shape) (h : Header) (w : Row) : Type 0 where
  pub links_fit : length w.links ≡ k.links
  pub bytes_fit : length w.bytes ≡ k.bytes
  pub holds_few : h.holds ≤ 1000
  pub holds_counted : h.holds ≤ h.count
  -- in use: out of the chain
  pub used_unchained : h.used ≡ true → h.next ≡ 0
  -- free: blank, black, not waiting, with no hold and no count
  pub free_blank : h.used ≡ false → (w ≡ blank k) × (h ≡ free_header h.next)

-- black, or purple and waiting
abbrev pub Coloured : Header → Type 0
Coloured h = (h.colour ≡ Black) ⊎ ((h.colour ≡ Purple) × (h.waiting ≡ true))

-- spent: blank and black, and waiting to be taken off the list
abbrev pub Resting : Shape → Header → Row → Type 0
Resting k h w = (w ≡ blank k) × ((h.colour ≡ Black) × (h.waiting ≡ true))

-- what each record keeps by itself between calls
pub record Proper (k : Shape) (h : Header) (w : Row) : Type 0 where
  pub settled : Settled k h w
  pub coloured : Coloured h
  pub spent_waits : h.used ≡ true → h.count ≡ 0 → Resting k h w

pub record Lawful (k : Shape) (s : State) : Type 0 where
  pub few : length s.rows ≤ 4095
  pub heads_fit : length s.heads ≡ length s.rows
  pub each : (r : ℕ) → Within s r → Proper k (head s r) (row s r)
  pub links_used : (r t : ℕ) → Within s r → Links s r t → Used s t
  -- the list names the waiting records, each once, and nothing else
  pub listed : (r : ℕ) → Within s r → naming r s.candidates ≡ once (head s r).waiting
  pub listed_within : (r : ℕ) → 0 < naming r s.candidates → Within s r
  -- the heads chain the free records, each once
  pub chain : (rs : List ℕ) × Chain s s.front rs × ((r : ℕ) → Within s r → naming r rs + once (head s r).used ≡ 1)
  pub counts : (r : ℕ) → Within s r → (head s r).count ≡ (head s r).holds + named s r
  -- no ring is lost: what is in use can be come to from a held record, is spent, or hangs on a candidate
  pub cover : (r : ℕ) → Used s r → Reachable s r ⊎ (Spent s r ⊎ From (Candidate s) (Links s) r)
