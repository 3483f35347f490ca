-- Raise and lower: the reference counts, and what is given back when a count comes to 0.
use Rattle.std.specs.Prelude.{ℕ, ◌+◌, true, false, cond, [], ◌∷◌, ◌++◌, ◌==◌}
use Rattle.kinds.specs.Rows.{Shape, blank}
use Rattle.model.specs.State.{State, head, with_head, with_row, with_front, with_candidates}
use Rattle.model.specs.Headers.{Header, free_header, is_purple, painted, less_one, suspected}
use Rattle.model.specs.Walk.{Progress, Rule, full}
use Rattle.model.specs.declared.heads.Colour.TheVariants.{Black, Purple}

abbrev pub at : Progress → ℕ → Header
at g r = head g.store r

abbrev pub moved : Progress → State → Progress
moved g s = record { store = s; given = g.given }

-- the head of record r becomes h
abbrev pub turn : Progress → ℕ → Header → Progress
turn g r h = moved g (with_head g.store r h)

-- A record that lost a link or a hold and has others: it turns purple and, if it does not wait yet, goes to the end of
-- the list.
abbrev pub listed_too : Progress → ℕ → Progress
listed_too g r = moved g (with_candidates (with_head g.store r (suspected (at g r))) (g.store.candidates ++ (r ∷ [])))

abbrev pub suspect : Progress → ℕ → Progress
suspect g r = cond (is_purple (at g r).colour) g (cond (at g r).waiting (turn g r (painted Purple (at g r))) (listed_too g r))

-- A record whose links are all lowered is blanked. While it waits it stays in use, spent and black; else it is given
-- up: it becomes free, at the front of the chain.
abbrev pub spent : Shape → Progress → ℕ → Progress
spent k g r = moved g (with_head (with_row g.store r (blank k)) r (painted Black (at g r)))

abbrev pub given_up : Shape → Progress → ℕ → Progress
given_up k g r = record {
  store = with_front (with_head (with_row g.store r (blank k)) r (free_header g.store.front)) r;
  given = g.given + 1;
}

abbrev pub released : Shape → Progress → ℕ → Progress
released k g r = cond (at g r).waiting (spent k g r) (given_up k g r)

-- To lower a record is to take 1 from its count. At 0 its links are lowered, from link 0 upward.
abbrev pub releasing : Shape → Rule
releasing k = record {
  follow = λ g t. turn g t (less_one (at g t));
  enters = λ g t. ((at g t).count == 0);
  enter = λ g t. g;
  pass = suspect;
  leave = released k;
}

-- an empty link is not lowered
abbrev pub lower : Shape → Progress → ℕ → Progress
lower k g t = elim (t == 0) [ true ↦ g | false ↦ full (releasing k) ((releasing k).follow g t) t ]
