-- The image of a store, and the store that an image says.
use Rattle.std.specs.Prelude.{ℕ, ◌+◌, ◌-◌, Bool, true, false, cond, not, ◌&&◌, List, [], ◌∷◌, ◌++◌, map, length, take, drop, Some, None, fold, sum_by, count_by, Option, ◌==◌, nat_lt, slice_index, slice_index_or}
use Rattle.std.specs.List.{range_with_len}
use Rattle.kinds.specs.Rows.{Row, Shape, blank}
use Rattle.model.specs.State.{State, in_use}
use Rattle.model.specs.Headers.{Header, free_header, painted, is_white}
use Rattle.model.specs.Lawful.{naming}
use Rattle.model.specs.Walk.{Progress, Rule, full}
use Rattle.model.specs.Release.{at, turn}
use Rattle.model.specs.Collection.{stay}
use Rattle.model.specs.Calls.{Answered, refused, started, new}
use Rattle.model.specs.Format.{Contents, Parsed, is_some, contents_image, read_contents}
use Rattle.model.specs.Format.Parsed.{says, fails}
use Rattle.model.specs.declared.calls.Reply.{Reply}
use Rattle.model.specs.declared.calls.Reply.TheVariants.{Number, Refused}
use Rattle.model.specs.declared.heads.Colour.TheVariants.{Black, White}
use Rattle.model.specs.declared.refusals.Refusal.{Refusal}
use Rattle.model.specs.declared.refusals.Refusal.TheVariants.{ListNotEmpty, OutputTooShort, BytesFollow, AbsentRecord, NotReachable}

-- what a store says of each record: its holds, links and bytes, where it is in use
abbrev pub contents_of : List Header → List Row → Contents
contents_of [] ws = []
contents_of (h ∷ hs) [] = []
contents_of (h ∷ hs) (w ∷ ws) = cond h.used (Some (h.holds ∷ (w.links ++ w.bytes))) None ∷ contents_of hs ws

abbrev pub contents : State → Contents
contents s = contents_of s.heads s.rows

abbrev pub image : Shape → State → List ℕ
image k s = contents_image k (contents s)

-- Writing: the image at the start of the output; what is behind it stays. A refusal leaves the output as it was.
pub record Written : Type 0 where
  pub reply : Reply
  pub output : List ℕ

abbrev pub unwritten : Refusal → List ℕ → Written
unwritten e out = record { reply = Refused e; output = out }

abbrev pub write : Shape → State → List ℕ → Written
write k s out =
    cond (length s.candidates == 0)
    (cond (nat_lt (length out) (length (image k s))) (unwritten OutputTooShort out)
    (record { reply = Number (length (image k s)); output = image k s ++ drop (length (image k s)) out }))
    (unwritten ListNotEmpty out)

-- The store of what an image says: counts by holds and links, all black, the list empty, the chain of free records rising.
abbrev pub row_of : Shape → Option (List ℕ) → Row
row_of k None = blank k
row_of k (Some vs) = record { links = take k.links (drop 1 vs); bytes = drop (1 + k.links) vs }

abbrev pub rows_of : Shape → Contents → List Row
rows_of k c = map (row_of k) c

-- the first free record of those from r on
abbrev pub first_free : ℕ → Contents → ℕ
first_free r [] = 0
first_free r (None ∷ c) = r
first_free r (Some vs ∷ c) = first_free (r + 1) c

abbrev pub used_header : List Row → ℕ → ℕ → Header
used_header ws r holds = record {
  used = true;
  holds = holds;
  count = holds + sum_by (λ w. naming r w.links) ws;
  colour = Black;
  waiting = false;
  next = 0;
}

-- the heads of the records from r on, where ws are the rows of all
abbrev pub heads_of : List Row → ℕ → Contents → List Header
heads_of ws r [] = []
heads_of ws r (None ∷ c) = free_header (first_free (r + 1) c) ∷ heads_of ws (r + 1) c
heads_of ws r (Some vs ∷ c) = used_header ws r (slice_index vs 0) ∷ heads_of ws (r + 1) c

abbrev pub store_of : Shape → Contents → State
store_of k c = record { heads = heads_of (rows_of k c) 1 c; rows = rows_of k c; candidates = []; front = first_free 1 c }

-- how many links name a record that is not in use, or none of the store
abbrev pub is_absent : Contents → ℕ → Bool
is_absent c t = not (t == 0) && not (is_some (slice_index_or c (t - 1) None))

abbrev pub absent_links : Shape → Contents → ℕ
absent_links k c = sum_by (λ w. count_by (is_absent c) w.links) (rows_of k c)

-- Reachability: every record in use is white at first, and what is come to from a held one turns black.
abbrev pub reaching : Rule
reaching = record {
  follow = stay;
  enters = λ g t. is_white (at g t).colour;
  enter = λ g t. turn g t (painted Black (at g t));
  pass = stay;
  leave = stay;
}

abbrev pub whitened : State → State
whitened s = record {
  heads = map (λ h. cond h.used (painted White h) h) s.heads;
  rows = s.rows;
  candidates = s.candidates;
  front = s.front;
}

abbrev pub reach_one : Progress → ℕ → Progress
reach_one g r = elim (nat_lt 0 (at g r).holds) [ true ↦ full reaching g r | false ↦ g ]

abbrev pub reached : State → Progress
reached s = fold reach_one (started (whitened s)) (range_with_len 1 (length s.rows))

-- how many records in use are not come to
abbrev pub unreached : State → ℕ
unreached s = count_by (λ h. is_white h.colour) (reached s).store.heads

-- Reading: what the bytes say replaces the store; a refusal leaves a new one.
abbrev pub judged : Shape → ℕ → Parsed Contents → Answered
judged k n (fails e) = refused e (new k n)
judged k n (says c rest) =
    cond (length rest == 0)
    (cond (absent_links k c == 0)
    (cond (unreached (store_of k c) == 0) (record { reply = Number (in_use (store_of k c)); store = store_of k c })
    (refused NotReachable (new k n)))
    (refused AbsentRecord (new k n)))
    (refused BytesFollow (new k n))

abbrev pub read : Shape → ℕ → List ℕ → Answered
read k n bytes = judged k n (read_contents k n bytes)
