-- What a head says, the heads that a store begins with, and the changes of one head.
use Rattle.std.specs.Prelude.{ℕ, ◌+◌, ◌-◌, Bool, true, false}
use Rattle.model.specs.declared.heads.Head.{Head}
use Rattle.model.specs.declared.heads.Colour.{Colour}
use Rattle.model.specs.declared.heads.Colour.TheVariants.{Black, Gray, White, Purple}

-- what a head says
pub record Header : Type 0 where
  pub used : Bool
  pub holds : ℕ
  pub count : ℕ
  pub colour : Colour
  pub waiting : Bool
  pub next : ℕ

abbrev pub header : Head → Header
header h = record { used = h.used; holds = h.holds; count = h.count; colour = h.colour; waiting = h.waiting; next = h.next }

-- a free record whose chain goes on at `next`, and a record just made
abbrev pub free_header : ℕ → Header
free_header next = record { used = false; holds = 0; count = 0; colour = Black; waiting = false; next = next }

abbrev pub made_header : Header
made_header = record { used = true; holds = 1; count = 1; colour = Black; waiting = false; next = 0 }

abbrev pub is_black : Colour → Bool
is_black Black = true
is_black Gray = false
is_black White = false
is_black Purple = false

abbrev pub is_gray : Colour → Bool
is_gray Black = false
is_gray Gray = true
is_gray White = false
is_gray Purple = false

abbrev pub is_white : Colour → Bool
is_white Black = false
is_white Gray = false
is_white White = true
is_white Purple = false

abbrev pub is_purple : Colour → Bool
is_purple Black = false
is_purple Gray = false
is_purple White = false
is_purple Purple = true

-- one part of a header changed
abbrev pub painted : Colour → Header → Header
painted c h = record { used = h.used; holds = h.holds; count = h.count; colour = c; waiting = h.waiting; next = h.next }

abbrev pub less_one : Header → Header
less_one h = record { used = h.used; holds = h.holds; count = h.count - 1; colour = h.colour; waiting = h.waiting; next = h.next }

-- suspected of hanging in a dead ring: purple, and waiting for a collection
abbrev pub suspected : Header → Header
suspected h = record { used = h.used; holds = h.holds; count = h.count; colour = Purple; waiting = true; next = h.next }

-- Raise: one more reference, and no longer suspected of hanging in a dead ring.
abbrev pub raised : Header → Header
raised h = record { used = h.used; holds = h.holds; count = h.count + 1; colour = Black; waiting = h.waiting; next = h.next }

-- one hold more, once the count has room for it
abbrev pub held_more : Header → Header
held_more h = record { used = h.used; holds = h.holds + 1; count = h.count; colour = h.colour; waiting = h.waiting; next = h.next }

-- one hold less
abbrev pub held_less : Header → Header
held_less h = record { used = h.used; holds = h.holds - 1; count = h.count; colour = h.colour; waiting = h.waiting; next = h.next }

-- one reference more, of the same colour
abbrev pub more_one : Header → Header
more_one h = record { used = h.used; holds = h.holds; count = h.count + 1; colour = h.colour; waiting = h.waiting; next = h.next }

-- no longer waiting on the candidate list
abbrev pub unlisted : Header → Header
unlisted h = record { used = h.used; holds = h.holds; count = h.count; colour = h.colour; waiting = false; next = h.next }
