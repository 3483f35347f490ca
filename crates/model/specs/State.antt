-- What a store means: a header and a row for each record, the candidate list, and the front of the chain of free
-- records. Record r stands at index r - 1 of each list; the number 0 names no record.
use Rattle.std.specs.Prelude.{ℕ, ◌-◌, ◌≤◌, List, [], length, count_by, slice_index_or, slice_set}
use Rattle.kinds.specs.Rows.{Row}
use Rattle.model.specs.Headers.{Header, free_header}

pub record State : Type 0 where
  pub heads : List Header
  pub rows : List Row
  pub candidates : List ℕ
  pub front : ℕ

abbrev pub head : State → ℕ → Header
head s r = slice_index_or s.heads (r - 1) (free_header 0)

abbrev pub no_row : Row
no_row = record { links = []; bytes = [] }

abbrev pub row : State → ℕ → Row
row s r = slice_index_or s.rows (r - 1) no_row

-- r is the number of a record
abbrev pub Within : State → ℕ → Type 0
Within s r = (1 ≤ r) × (r ≤ length s.rows)

-- how many records are in use
abbrev pub in_use : State → ℕ
in_use s = count_by (λ h. h.used) s.heads

-- the store with one part of it changed
abbrev pub with_head : State → ℕ → Header → State
with_head s r h = record { heads = slice_set s.heads (r - 1) h; rows = s.rows; candidates = s.candidates; front = s.front }

abbrev pub with_row : State → ℕ → Row → State
with_row s r w = record { heads = s.heads; rows = slice_set s.rows (r - 1) w; candidates = s.candidates; front = s.front }

abbrev pub with_candidates : State → List ℕ → State
with_candidates s l = record { heads = s.heads; rows = s.rows; candidates = l; front = s.front }

abbrev pub with_front : State → ℕ → State
with_front s r = record { heads = s.heads; rows = s.rows; candidates = s.candidates; front = r }
