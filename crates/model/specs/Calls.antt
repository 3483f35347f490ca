-- What each call answers, and the store that it leaves.
use Rattle.std.specs.Prelude.{ℕ, ◌+◌, min, Bool, true, false, cond, not, ◌&&◌, ◌||◌, List, [], ◌∷◌, map, length, replicate, ◌==◌, nat_le, nat_lt, slice_index}
use Rattle.std.specs.List.{range_with_len}
use Rattle.kinds.specs.Rows.{Shape, blank, with_link, with_byte}
use Rattle.model.specs.State.{State, head, row, in_use, with_head, with_row, with_front}
use Rattle.model.specs.Headers.{raised, held_more, held_less, free_header, made_header}
use Rattle.model.specs.Release.{lower}
use Rattle.model.specs.Collection.{collected}
use Rattle.model.specs.Walk.{Progress}
use Rattle.model.specs.declared.calls.Call.{Call}
use Rattle.model.specs.declared.calls.Call.TheVariants.{Make, Hold, Load, Link, Byte, Look, Drop, Collect, Tally}
use Rattle.model.specs.declared.calls.Reply.{Reply}
use Rattle.model.specs.declared.calls.Reply.TheVariants.{Number, Nothing, Done, Refused}
use Rattle.model.specs.declared.refusals.Refusal.{Refusal}
use Rattle.model.specs.declared.refusals.Refusal.TheVariants.{NotHeld, NoSuchField, Full, TooManyHolds}

-- an answer beside the store afterwards
pub record Answered : Type 0 where
  pub reply : Reply
  pub store : State

-- a refusal leaves the store as it was
abbrev pub refused : Refusal → State → Answered
refused e s = record { reply = Refused e; store = s }

-- r is a record of the store, and held
abbrev pub is_held : State → ℕ → Bool
is_held s r = not (r == 0) && (nat_le r (length s.rows) && nat_lt 0 (head s r).holds)

-- what is asked of a held record and of a field that it has
abbrev pub asked : Bool → Bool → State → (Unit {0} → Answered) → Answered
asked held field s f =
    elim held [ true ↦ elim field [ true ↦ f tt | false ↦ refused NoSuchField s ] | false ↦ refused NotHeld s ]

-- Make: takes the front of the free chain, with one hold. A free record is blank already.
abbrev pub taken : State → ℕ → State
taken s r = with_front (with_head s r made_header) (head s r).next

abbrev pub make : State → Answered
make s = cond (s.front == 0) (refused Full s) (record { reply = Number s.front; store = taken s s.front })

-- One more hold: the record is raised and gets a hold, unless it has the most that are allowed.
abbrev pub hold_more : State → ℕ → ℕ → Answered
hold_more s r answer =
    cond (nat_lt (head s r).holds 1000) (record { reply = Number answer; store = with_head s r (held_more (raised (head s r))) })
    (refused TooManyHolds s)

-- Hold: answers the holds.
abbrev pub hold_answer : State → ℕ → Answered
hold_answer s r = hold_more s r ((head s r).holds + 1)

abbrev pub hold : State → ℕ → Answered
hold s r = asked (is_held s r) true s (λ _. hold_answer s r)

-- Load: an empty link gives no record and takes no hold; else the record that it names gets a hold, and is the answer.
abbrev pub load_link : State → ℕ → Answered
load_link s t = cond (t == 0) (record { reply = Nothing; store = s }) (hold_more s t t)

abbrev pub load_answer : State → ℕ → ℕ → Answered
load_answer s r l = load_link s (slice_index (row s r).links l)

abbrev pub load : Shape → State → ℕ → ℕ → Answered
load k s r l = asked (is_held s r) (nat_lt l k.links) s (λ _. load_answer s r l)

abbrev pub started : State → Progress
started s = record { store = s; given = 0 }

abbrev pub given_ups : Progress → Answered
given_ups g = record { reply = Number g.given; store = g.store }

-- Link: the new target is raised, the link is written, and then the old target is lowered.
abbrev pub raised_at : State → ℕ → State
raised_at s t = cond (t == 0) s (with_head s t (raised (head s t)))

abbrev pub relinked : State → ℕ → ℕ → ℕ → State
relinked s r l t = with_row s r (with_link (row s r) l t)

abbrev pub link_answer : Shape → State → ℕ → ℕ → ℕ → Answered
link_answer k s r l t = given_ups (lower k (started (relinked (raised_at s t) r l t)) (slice_index (row s r).links l))

abbrev pub link : Shape → State → ℕ → ℕ → ℕ → Answered
link k s r l t = asked (is_held s r && (t == 0 || is_held s t)) (nat_lt l k.links) s (λ _. link_answer k s r l t)

-- Byte write, and look.
abbrev pub byte_answer : State → ℕ → ℕ → ℕ → Answered
byte_answer s r b v = record { reply = Done; store = with_row s r (with_byte (row s r) b v) }

abbrev pub byte : Shape → State → ℕ → ℕ → ℕ → Answered
byte k s r b v = asked (is_held s r) (nat_lt b k.bytes) s (λ _. byte_answer s r b v)

abbrev pub look_answer : State → ℕ → ℕ → Answered
look_answer s r b = record { reply = Number (slice_index (row s r).bytes b); store = s }

abbrev pub look : Shape → State → ℕ → ℕ → Answered
look k s r b = asked (is_held s r) (nat_lt b k.bytes) s (λ _. look_answer s r b)

-- Drop: takes the hold, and then lowers the record.
abbrev pub drop_answer : Shape → State → ℕ → Answered
drop_answer k s r = given_ups (lower k (started (with_head s r (held_less (head s r)))) r)

abbrev pub drop : Shape → State → ℕ → Answered
drop k s r = asked (is_held s r) true s (λ _. drop_answer k s r)

-- Collect: never refused; answers how many records it gives up.
abbrev pub collect : Shape → State → Answered
collect k s = given_ups (collected k (started s))

abbrev pub answered : Shape → State → Call → Answered
answered k s Make = make s
answered k s (Hold r) = hold s r
answered k s (Load r l) = load k s r l
answered k s (Link r l t) = link k s r l t
answered k s (Byte r b v) = byte k s r b v
answered k s (Look r b) = look k s r b
answered k s (Drop r) = drop k s r
answered k s Collect = collect k s
answered k s Tally = record { reply = Number (in_use s); store = s }

-- a new store of n records: all are free and blank, chained 1, 2, up to n
abbrev pub next_free : ℕ → ℕ → ℕ
next_free n r = cond (nat_lt r n) (r + 1) 0

abbrev pub new : Shape → ℕ → State
new k n = record {
  heads = map (λ r. free_header (next_free n r)) (range_with_len 1 n);
  rows = replicate n (blank k);
  candidates = [];
  front = min n 1;
}

-- the answers to a list of calls, and the store after them
pub record Played : Type 0 where
  pub replies : List Reply
  pub store : State

abbrev pub played : Shape → State → List Call → Played
played k s [] = record { replies = []; store = s }
played k s (c ∷ cs) =
    let a : Answered = answered k s c in
    let p : Played = played k a.store cs in
    record { replies = a.reply ∷ p.replies; store = p.store }
