-- The collection of dead rings, by trial deletion: mark, scan with restore, and gather, each of them walks from the
-- records of the candidate list.
use Rattle.std.specs.Prelude.{ℕ, true, false, cond, not, ◌&&◌, [], ◌∷◌, ◌++◌, fold, ◌==◌}
use Rattle.kinds.specs.Rows.{Shape}
use Rattle.model.specs.State.{with_candidates}
use Rattle.model.specs.Walk.{Progress, Rule, full}
use Rattle.model.specs.Release.{at, moved, turn, given_up}
use Rattle.model.specs.Headers.{painted, less_one, is_purple, more_one, unlisted, is_black, is_gray, is_white}
use Rattle.model.specs.declared.heads.Colour.TheVariants.{Black, Gray, White}

abbrev pub stay : Progress → ℕ → Progress
stay g t = g

-- Mark: what hangs on a candidate turns gray, and each link of a gray record is taken from the count of its target.
abbrev pub marking : Rule
marking = record {
  follow = λ g t. turn g t (less_one (at g t));
  enters = λ g t. not (is_gray (at g t).colour);
  enter = λ g t. turn g t (painted Gray (at g t));
  pass = stay;
  leave = stay;
}

-- Restore: what hangs on a record that is alive turns black, white records too, and its links are counted again.
abbrev pub restoring : Rule
restoring = record {
  follow = λ g t. turn g t (more_one (at g t));
  enters = λ g t. not (is_black (at g t).colour);
  enter = λ g t. turn g t (painted Black (at g t));
  pass = stay;
  leave = stay;
}

-- Scan: a gray record to which a count is left is alive, and restored; one with none turns white.
abbrev pub scanning : Rule
scanning = record {
  follow = stay;
  enters = λ g t. is_gray (at g t).colour && ((at g t).count == 0);
  enter = λ g t. turn g t (painted White (at g t));
  pass = λ g t. elim (is_gray (at g t).colour) [ true ↦ full restoring g t | false ↦ g ];
  leave = stay;
}

-- Gather: a white record that no longer waits is given up, once what it links to is gathered.
abbrev pub gathering : Shape → Rule
gathering k = record {
  follow = stay;
  enters = λ g t. is_white (at g t).colour && not (at g t).waiting;
  enter = λ g t. turn g t (painted Black (at g t));
  pass = stay;
  leave = given_up k;
}

-- the candidate list taken away, and one record put at its end
abbrev pub list_taken : Progress → Progress
list_taken g = moved g (with_candidates g.store [])

abbrev pub kept_listed : Progress → ℕ → Progress
kept_listed g r = moved g (with_candidates g.store (g.store.candidates ++ (r ∷ [])))

-- A listed record that is not purple leaves the list and stops waiting. A spent one, black with no count, is given up.
abbrev pub struck : Shape → Progress → ℕ → Progress
struck k g r = cond (is_black (at g r).colour && (at g r).count == 0) (given_up k g r) (turn g r (unlisted (at g r)))

abbrev pub mark_one : Shape → Progress → ℕ → Progress
mark_one k g r = elim (is_purple (at g r).colour) [ true ↦ kept_listed (full marking g r) r | false ↦ struck k g r ]

abbrev pub scan_one : Progress → ℕ → Progress
scan_one g r = full scanning g r

abbrev pub gather_one : Shape → Progress → ℕ → Progress
gather_one k g r = full (gathering k) (turn g r (unlisted (at g r))) r

-- each part goes through the list in order
abbrev pub marked : Shape → Progress → Progress
marked k g = fold (mark_one k) (list_taken g) g.store.candidates

abbrev pub scanned : Progress → Progress
scanned g = fold scan_one g g.store.candidates

abbrev pub gathered : Shape → Progress → Progress
gathered k g = fold (gather_one k) (list_taken g) g.store.candidates

abbrev pub collected : Shape → Progress → Progress
collected k g = gathered k (scanned (marked k g))
