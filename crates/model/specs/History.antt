-- What the calls and their answers alone say, and what a store promises of it.
use Rattle.std.specs.Prelude.{◌≡◌, ℕ, ◌+◌, ◌-◌, ◌<◌, ◌≤◌, Bool, true, false, cond, not, ◌&&◌, List, [], ◌∷◌, ◌++◌, map, length, replicate, fold, sum_by, ◌==◌, slice_index, slice_index_or, slice_set}
use Rattle.kinds.specs.Rows.{Shape, Row, blank, with_link, with_byte}
use Rattle.model.specs.State.{State, Within, head, row, no_row, in_use}
use Rattle.model.specs.Headers.{Header}
use Rattle.model.specs.Calls.{new, played}
use Rattle.model.specs.Lawful.{From, Lawful, Used, naming}
use Rattle.model.specs.declared.calls.Call.{Call}
use Rattle.model.specs.declared.calls.Call.TheVariants.{Make, Hold, Load, Link, Byte, Look, Drop, Collect, Tally}
use Rattle.model.specs.declared.calls.Reply.{Reply}
use Rattle.model.specs.declared.calls.Reply.TheVariants.{Number, Nothing, Done, Refused}

-- a call with its answer
pub record Event : Type 0 where
  pub call : Call
  pub reply : Reply

-- the ledger: for each number, the holds that are handed out and not dropped, and the links and bytes as last written
pub record Entry : Type 0 where
  pub holds : ℕ
  pub row : Row

abbrev pub Ledger : Type 0
Ledger = List Entry

abbrev pub no_entry : Entry
no_entry = record { holds = 0; row = no_row }

abbrev pub entry : Ledger → ℕ → Entry
entry l r = slice_index_or l (r - 1) no_entry

abbrev pub empty_ledger : Shape → ℕ → Ledger
empty_ledger k n = replicate n (record { holds = 0; row = blank k })

abbrev pub one_more : Ledger → ℕ → Ledger
one_more l r = slice_set l (r - 1) (record { holds = (entry l r).holds + 1; row = (entry l r).row })

abbrev pub one_less : Ledger → ℕ → Ledger
one_less l r = slice_set l (r - 1) (record { holds = (entry l r).holds - 1; row = (entry l r).row })

abbrev pub linked : Ledger → ℕ → ℕ → ℕ → Ledger
linked l r i t = slice_set l (r - 1) (record { holds = (entry l r).holds; row = with_link (entry l r).row i t })

abbrev pub byte_written : Ledger → ℕ → ℕ → ℕ → Ledger
byte_written l r b v = slice_set l (r - 1) (record { holds = (entry l r).holds; row = with_byte (entry l r).row b v })

-- what one call adds that was answered by a number, or by a bare yes
abbrev pub numbered : Shape → Ledger → Call → ℕ → Ledger
numbered k l Make n = slice_set l (n - 1) (record { holds = 1; row = blank k })
numbered k l (Hold r) n = one_more l r
numbered k l (Load r i) n = one_more l n
numbered k l (Link r i t) n = linked l r i t
numbered k l (Byte r b v) n = l
numbered k l (Look r b) n = l
numbered k l (Drop r) n = one_less l r
numbered k l Collect n = l
numbered k l Tally n = l

abbrev pub done : Ledger → Call → Ledger
done l Make = l
done l (Hold r) = l
done l (Load r i) = l
done l (Link r i t) = l
done l (Byte r b v) = byte_written l r b v
done l (Look r b) = l
done l (Drop r) = l
done l Collect = l
done l Tally = l

-- a refused call and an empty load add nothing
abbrev pub noted : Shape → Ledger → Call → Reply → Ledger
noted k l c (Number n) = numbered k l c n
noted k l c Nothing = l
noted k l c Done = done l c
noted k l c (Refused x) = l

abbrev pub ledger : Shape → ℕ → List Event → Ledger
ledger k n es = fold (λ l e. noted k l e.call e.reply) (empty_ledger k n) es

-- accepted makes, and give-ups reported
abbrev pub is_make : Call → ℕ
is_make Make = 1
is_make (Hold r) = 0
is_make (Load r i) = 0
is_make (Link r i t) = 0
is_make (Byte r b v) = 0
is_make (Look r b) = 0
is_make (Drop r) = 0
is_make Collect = 0
is_make Tally = 0

abbrev pub gives_up : Call → ℕ → ℕ
gives_up Make n = 0
gives_up (Hold r) n = 0
gives_up (Load r i) n = 0
gives_up (Link r i t) n = n
gives_up (Byte r b v) n = 0
gives_up (Look r b) n = 0
gives_up (Drop r) n = n
gives_up Collect n = n
gives_up Tally n = 0

abbrev pub made_by : Call → Reply → ℕ
made_by c (Number n) = is_make c
made_by c Nothing = 0
made_by c Done = 0
made_by c (Refused x) = 0

abbrev pub given_by : Call → Reply → ℕ
given_by c (Number n) = gives_up c n
given_by c Nothing = 0
given_by c Done = 0
given_by c (Refused x) = 0

abbrev pub makes : List Event → ℕ
makes es = sum_by (λ e. made_by e.call e.reply) es

abbrev pub give_ups : List Event → ℕ
give_ups es = sum_by (λ e. given_by e.call e.reply) es

abbrev pub is_collect : Call → Bool
is_collect Make = false
is_collect (Hold r) = false
is_collect (Load r i) = false
is_collect (Link r i t) = false
is_collect (Byte r b v) = false
is_collect (Look r b) = false
is_collect (Drop r) = false
is_collect Collect = true
is_collect Tally = false

-- the last call was a collection; false of no calls
abbrev pub ends_in_collection : List Event → Bool
ends_in_collection es = fold (λ _ e. is_collect e.call) false es

-- held and reachable by the calls alone
abbrev pub Handed : Ledger → ℕ → Type 0
Handed l r = (1 ≤ r) × ((r ≤ length l) × (0 < (entry l r).holds))

abbrev pub Tied : Ledger → ℕ → ℕ → Type 0
Tied l r t = (1 ≤ t) × ((i : ℕ) × (slice_index (entry l r).row.links i ≡ t))

abbrev pub Live : Ledger → ℕ → Type 0
Live l r = From (Handed l) (Tied l) r

-- in use and not spent
abbrev pub in_play : Header → Bool
in_play h = h.used && not (h.count == 0)

-- the ledger's links that name r, of the records in use that are not spent
abbrev pub tied_among : ℕ → List Header → Ledger → ℕ
tied_among r [] es = 0
tied_among r (h ∷ hs) [] = 0
tied_among r (h ∷ hs) (e ∷ es) = cond (in_play h) (naming r e.row.links) 0 + tied_among r hs es

abbrev pub tied_in : State → Ledger → ℕ → ℕ
tied_in s l r = tied_among r s.heads l

-- What holds of a store of n records after the calls and answers `es`, from its making on.
pub record Promises (k : Shape) (n : ℕ) (es : List Event) (s : State) : Type 0 where
  pub counts_agree : (r : ℕ) → Within s r → (head s r).count ≡ (entry (ledger k n es) r).holds + tied_in s (ledger k n es) r
  pub reachable_kept : (r : ℕ) → Live (ledger k n es) r → Used s r × (row s r ≡ (entry (ledger k n es) r).row)
  pub makes_accounted : makes es ≡ in_use s + give_ups es
  -- After a collection what is in use is exactly what can be come to, by the calls alone, from a held record. This says
  -- that nothing else is in use; that all of it is, `reachable_kept` says of every moment between calls.
  pub exactly_reachable : ends_in_collection es ≡ true → (r : ℕ) → Used s r → Live (ledger k n es) r

-- The calls of `es`, made one after another on a new store of n records, are answered as `es` says and leave s.
pub record After (k : Shape) (n : ℕ) (es : List Event) (s : State) : Type 0 where
  pub few : n ≤ 4095
  pub replies : (played k (new k n) (map (λ e. e.call) es)).replies ≡ map (λ e. e.reply) es
  pub store : (played k (new k n) (map (λ e. e.call) es)).store ≡ s

-- The theorem: whatever calls were made, of any number and in any order, refused ones among them, the store is lawful
-- and keeps the promises.
abbrev pub EveryHistory : Type 0
EveryHistory = (k : Shape) (n : ℕ) (es : List Event) (s : State) → After k n es s → Lawful k s × Promises k n es s

-- calls and their answers side by side
abbrev pub events : List Call → List Reply → List Event
events [] rs = []
events (c ∷ cs) [] = []
events (c ∷ cs) (r ∷ rs) = record { call = c; reply = r } ∷ events cs rs

-- one call more
abbrev pub then : List Event → Call → Reply → List Event
then es c r = es ++ (record { call = c; reply = r } ∷ [])

-- Whatever history led to the store s, the call c with its answer r goes on with it and leads to the store t.
abbrev pub GoesOn : Shape → State → Call → Reply → State → Type 0
GoesOn k s c r t =
    (n : ℕ) (es : List Event) → After k n es s → After k n (then es c r) t × Promises k n (then es c r) t
