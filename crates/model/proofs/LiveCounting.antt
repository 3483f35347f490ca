-- The links of the records that have a count, and those still to be lowered.
use Rattle.std.proofs.Common.{◌≡◌, ℕ, zero, suc, ◌+◌, ◌<◌, ◌≤◌, Bool, true, false, cond, eqb, ◌≢◌, List, [], ◌∷◌, ◌++◌, map, length, get_or, set, sum_by, sym, refl, ap, ◌∙◌, arith}
use Rattle.std.proofs.lemmas.List.Sums.{sum_by-cons}
use Rattle.std.proofs.lemmas.Bool.{cond-true, cond-false, eq-eqb, ne_eqb}
use Rattle.kinds.specs.Rows.{Row}
use Rattle.model.specs.State.{State, no_row}
use Rattle.model.specs.Headers.{Header, free_header}
use Rattle.model.specs.Lawful.{naming, once}
use Rattle.model.specs.Releasing.{naming_live, pending, Calm, Busy}
use Rattle.model.specs.Walk.{Task}
use Rattle.model.specs.Walk.Task.{follow, visit, leave}
use Rattle.model.proofs.Counting.{naming_cons}

module _ (t : ℕ) where
  -- one head changes, and has a count as before, or none as before
  pub live_same :
      (hs : List Header) (ws : List Row) (j : ℕ) (h : Header) → eqb h.count 0 ≡ eqb (get_or hs j (free_header 0)).count 0 →
      naming_live t (set hs j h) ws ≡ naming_live t hs ws
  live_same [] ws j h e = refl
  live_same (x ∷ hs) [] zero h e = refl
  live_same (x ∷ hs) [] (suc j) h e = refl
  live_same (x ∷ hs) (w ∷ ws) zero h e = ap (λ b. cond b 0 (naming t w.links) + naming_live t hs ws) e
  live_same (x ∷ hs) (w ∷ ws) (suc j) h e = ap (λ n. cond (eqb x.count 0) 0 (naming t w.links) + n) (live_same hs ws j h e)

  -- a count comes to 0: the links of that record are counted no more
  pub live_ends :
      (hs : List Header) (ws : List Row) (j : ℕ) (h : Header) → j < length hs → j < length ws → eqb h.count 0 ≡ true →
      eqb (get_or hs j (free_header 0)).count 0 ≡ false →
      naming_live t (set hs j h) ws + naming t (get_or ws j no_row).links ≡ naming_live t hs ws
  live_ends [] ws j h a b e f = let no : ⊥ = omega arith in absurd no
  live_ends (x ∷ hs) [] j h a b e f = let no : ⊥ = omega arith in absurd no
  live_ends (x ∷ hs) (w ∷ ws) zero h a b e f =
      omega (arith, cond-true (eqb h.count 0) 0 (naming t w.links) e, cond-false (eqb x.count 0) 0 (naming t w.links) f)
  live_ends (x ∷ hs) (w ∷ ws) (suc j) h a b e f = omega (arith, live_ends hs ws j h (omega arith) (omega arith) e f)

  -- the row of a record with no count is not counted
  pub live_row :
      (hs : List Header) (ws : List Row) (j : ℕ) (w : Row) → eqb (get_or hs j (free_header 0)).count 0 ≡ true →
      naming_live t hs (set ws j w) ≡ naming_live t hs ws
  live_row [] ws j w e = refl
  live_row (x ∷ hs) [] j w e = refl
  live_row (x ∷ hs) (v ∷ ws) zero w e =
      ap (λ n. n + naming_live t hs ws)
      (cond-true (eqb x.count 0) 0 (naming t w.links) e ∙ sym (cond-true (eqb x.count 0) 0 (naming t v.links) e))
  live_row (x ∷ hs) (v ∷ ws) (suc j) w e = ap (λ n. cond (eqb x.count 0) 0 (naming t v.links) + n) (live_row hs ws j w e)

  pub live_le :
      (hs : List Header) (ws : List Row) (j : ℕ) → j < length hs → j < length ws → eqb (get_or hs j (free_header 0)).count 0 ≡ false →
      naming t (get_or ws j no_row).links ≤ naming_live t hs ws
  live_le [] ws j a b f = let no : ⊥ = omega arith in absurd no
  live_le (x ∷ hs) [] j a b f = let no : ⊥ = omega arith in absurd no
  live_le (x ∷ hs) (w ∷ ws) zero a b f = omega (arith, cond-false (eqb x.count 0) 0 (naming t w.links) f)
  live_le (x ∷ hs) (w ∷ ws) (suc j) a b f = omega (arith, live_le hs ws j (omega arith) (omega arith) f)

  -- where the other records have no links, all links are counted
  pub live_all :
      (hs : List Header) (ws : List Row) → length hs ≡ length ws →
      ((i : ℕ) → i < length ws → eqb (get_or hs i (free_header 0)).count 0 ≡ true → naming t (get_or ws i no_row).links ≡ 0) →
      naming_live t hs ws ≡ sum_by (λ w. naming t w.links) ws
  live_all [] [] e z = refl
  live_all [] (w ∷ ws) e z = let no : ⊥ = omega arith in absurd no
  live_all (x ∷ hs) [] e z = let no : ⊥ = omega arith in absurd no
  live_all (x ∷ hs) (w ∷ ws) e z =
      omega (
        arith,
        at (eqb x.count 0) refl,
        live_all hs ws (omega arith) (λ i l. z (suc i) (omega arith)),
        sum_by-cons (λ v. naming t v.links) w ws,
      )
    where
      at : (b : Bool) → eqb x.count 0 ≡ b → cond (eqb x.count 0) 0 (naming t w.links) ≡ naming t w.links
      at true q = cond-true (eqb x.count 0) 0 (naming t w.links) q ∙ sym (z 0 (omega arith) q)
      at false q = cond-false (eqb x.count 0) 0 (naming t w.links) q

-- what is pending
pub pending_hit : (s : State) (t : ℕ) (Q : List Task) → pending s t (follow t ∷ Q) ≡ 1 + pending s t Q
pending_hit s t Q = ap (λ b. once b + pending s t Q) (eq-eqb t t refl)

pub pending_miss : (s : State) (u t : ℕ) (Q : List Task) → u ≢ t → pending s t (follow u ∷ Q) ≡ pending s t Q
pending_miss s u t Q n = ap (λ b. once b + pending s t Q) (ne_eqb u t n) ∙ omega arith

pub pending_links : (s : State) (t : ℕ) (us : List ℕ) (Q : List Task) → pending s t (map follow us ++ Q) ≡ naming t us + pending s t Q
pending_links s t [] Q = omega arith
pending_links s t (u ∷ us) Q = omega (arith, pending_links s t us Q, naming_cons t u us)

-- with no visit among them, tasks do not look at the store
pub pending_calm : (s z : State) (t : ℕ) (Q : List Task) → Calm s Q → pending z t Q ≡ pending s t Q
pending_calm s z t [] c = refl
pending_calm s z t (follow u ∷ Q) c = ap (λ n. once (eqb u t) + n) (pending_calm s z t Q c.1)
pending_calm s z t (visit u ∷ Q) c = absurd c
pending_calm s z t (leave u ∷ Q) c = pending_calm s z t Q c.1

pub busy_links : (r : ℕ) (us : List ℕ) (Q : List Task) → Busy r Q → Busy r (map follow us ++ Q)
busy_links r [] Q b = b
busy_links r (u ∷ us) Q b = busy_links r us Q b
