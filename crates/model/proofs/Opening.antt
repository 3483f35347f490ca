-- A release enters no record twice: one without a count has no link or hold left by which it could be lowered again.
use Rattle.std.proofs.Common.{◌≡◌, ℕ, ◌+◌, ◌-◌, ◌<◌, ◌≤◌, Bool, true, false, cond, eqb, ◌≢◌, List, [], ◌∷◌, ◌++◌, map, length, get_or, set, sym, refl, ap, ◌∙◌, subst, ⊎_elim, arith}
use Rattle.std.proofs.lemmas.List.{get_or-set_same, get_or-set_other}
use Rattle.std.proofs.lemmas.Bool.{cases_eq, ne_eqb, eq-eqb}
use Rattle.kinds.specs.Rows.{Shape}
use Rattle.model.specs.State.{State, head, row}
use Rattle.model.specs.Headers.{Header, free_header, painted, less_one, suspected, is_purple}
use Rattle.model.specs.Lawful.{once}
use Rattle.model.specs.Walk.{Progress, Task}
use Rattle.model.specs.Walk.Task.{follow, visit, leave}
use Rattle.model.specs.Entering.{Opens}
use Rattle.model.specs.Release.{at, turn, suspect, released, releasing, listed_too, spent, given_up}
use Rattle.model.specs.Releasing.{Calm, Releasing, FewGiven, visited_next, counted_open}
use Rattle.model.specs.declared.heads.Colour.TheVariants.{Black, Purple}
use Rattle.model.proofs.Releases.{follow_within, follow_spare}

calm_next : (s : State) (r : ℕ) (Q : List Task) → Calm s Q → visited_next r Q ≡ 0
calm_next s r [] q = refl
calm_next s r (follow u ∷ Q) q = refl
calm_next s r (visit u ∷ Q) q = absurd q
calm_next s r (leave u ∷ Q) q = refl

links_next : (r t : ℕ) (us : List ℕ) (Q : List Task) → visited_next r (map follow us ++ (leave t ∷ Q)) ≡ 0
links_next r t [] Q = refl
links_next r t (u ∷ us) Q = refl

-- a head replaced by one with the same count
count_set :
    (hs : List Header) (t r : ℕ) (h : Header) → 1 ≤ t → t ≤ length hs → 1 ≤ r →
    h.count ≡ (get_or hs (t - 1) (free_header 0)).count →
    (get_or (set hs (t - 1) h) (r - 1) (free_header 0)).count ≡ (get_or hs (r - 1) (free_header 0)).count
count_set hs t r h a b c e = ⊎_elim
    (λ q. subst (λ x. (get_or (set hs (t - 1) h) (x - 1) (free_header 0)).count ≡ (get_or hs (x - 1) (free_header 0)).count) (sym q)
    (ap (λ x. x.count) (get_or-set_same hs (t - 1) h (free_header 0) (omega (arith, a, b))) ∙ e))
    (λ n. ap (λ x. x.count) (get_or-set_other hs (t - 1) (r - 1) h (free_header 0) (omega (arith, a, c, n))))
    (cases_eq r t)

open_at_most : (c v : ℕ) → v ≤ 1 → cond (eqb c 0) v 1 ≤ 1
open_at_most c v h = by (eqb c 0)
  where
    by : (b : Bool) → cond b v 1 ≤ 1
    by true = h
    by false = omega arith

open_mono : (c v w : ℕ) → v ≤ w → cond (eqb c 0) v 1 ≤ cond (eqb c 0) w 1
open_mono c v w h = by (eqb c 0)
  where
    by : (b : Bool) → cond b v 1 ≤ cond b w 1
    by true = h
    by false = omega arith

once_le : (b : Bool) → once b ≤ 1
once_le true = omega arith
once_le false = omega arith

next_le : (r : ℕ) (Q : List Task) → visited_next r Q ≤ 1
next_le r [] = omega arith
next_le r (follow u ∷ Q) = omega arith
next_le r (visit u ∷ Q) = once_le (eqb u r)
next_le r (leave u ∷ Q) = omega arith

-- a step that leaves every count as it was, and after which nothing is visited
open_still :
    (g z : Progress) (P Q : List Task) (r : ℕ) → (head z.store r).count ≡ (head g.store r).count → visited_next r Q ≡ 0 →
    counted_open z Q r ≤ counted_open g P r
open_still g z P Q r e n =
    rw (e, n) (open_mono (head g.store r).count 0 (visited_next r P) (omega arith))

module _ (k : Shape) where
  open_follow :
      (g : Progress) (t : ℕ) (Q : List Task) → t ≢ 0 → Releasing k g (follow t ∷ Q) → (r : ℕ) → 1 ≤ r →
      counted_open (turn g t (less_one (at g t))) (visit t ∷ Q) r ≤ counted_open g (follow t ∷ Q) r
  open_follow g t Q ne I r low = ⊎_elim
      (λ q.
      let was : ◌≡◌ {A = ℕ} (cond (eqb (head g.store r).count 0) 0 1) 1 =
      ap (λ b. cond b 0 1)
      (ne_eqb (head g.store r).count 0
      (λ z. let c = subst (λ x. (head g.store x).holds < (head g.store x).count) (sym q) (follow_spare k g t Q ne I) in omega (arith, z, c))) in
      omega (
        arith,
        was,
        open_at_most (head (turn g t (less_one (at g t))).store r).count (visited_next r (visit t ∷ Q)) (next_le r (visit t ∷ Q)),
      ))
      (λ n.
      let w = follow_within k g t Q ne I in
      open_still g (turn g t (less_one (at g t))) (follow t ∷ Q) (visit t ∷ Q) r
      (ap (λ h. h.count) (get_or-set_other g.store.heads (t - 1) (r - 1) (less_one (at g t)) (free_header 0) (omega (arith, w, low, n))))
      (ap once (ne_eqb t r (λ e. n (sym e)))))
      (cases_eq r t)

  open_enter :
      (g : Progress) (t : ℕ) (Q : List Task) → eqb (at g t).count 0 ≡ true → (r : ℕ) →
      once (eqb t r) + counted_open g (map follow (row g.store t).links ++ (leave t ∷ Q)) r ≤ counted_open g (visit t ∷ Q) r
  open_enter g t Q e r = ⊎_elim
      (λ q.
      subst (λ x. once (eqb t x) + counted_open g (map follow (row g.store t).links ++ (leave t ∷ Q)) x ≤ counted_open g (visit t ∷ Q) x) q
      (rw (links_next t t (row g.store t).links Q, e, eq-eqb t t refl) (omega arith)))
      (λ n.
      rw (links_next r t (row g.store t).links Q, ne_eqb t r n) (omega arith))
      (cases_eq t r)

  open_pass :
      (g : Progress) (t : ℕ) (Q : List Task) → Releasing k g (visit t ∷ Q) → (r : ℕ) → 1 ≤ r →
      counted_open (suspect g t) Q r ≤ counted_open g (visit t ∷ Q) r
  open_pass g t Q I r low = open_still g (suspect g t) (visit t ∷ Q) Q r (by (is_purple (at g t).colour) (at g t).waiting) (calm_next g.store r Q I.tidy.1)
    where
      same : (h : Header) → h.count ≡ (at g t).count → (head (turn g t h).store r).count ≡ (head g.store r).count
      same h e = count_set g.store.heads t r h I.tidy.0.inside.0 (omega (arith, I.tidy.0.inside, I.heads_fit)) low e

      by :
          (b c : Bool) →
          (head (cond b g (cond c (turn g t (painted Purple (at g t))) (listed_too g t))).store r).count ≡ (head g.store r).count
      by true c = refl
      by false true = same (painted Purple (at g t)) refl
      by false false = same (suspected (at g t)) refl

  open_leave :
      (g : Progress) (t : ℕ) (Q : List Task) → Releasing k g (leave t ∷ Q) → (r : ℕ) → 1 ≤ r →
      counted_open (released k g t) Q r ≤ counted_open g (leave t ∷ Q) r
  open_leave g t Q I r low = open_still g (released k g t) (leave t ∷ Q) Q r (by (at g t).waiting) (calm_next g.store r Q I.tidy.1)
    where
      same : (h : Header) → h.count ≡ (at g t).count → (head (turn g t h).store r).count ≡ (head g.store r).count
      same h e = count_set g.store.heads t r h I.tidy.0.inside.0 (omega (arith, I.tidy.0.inside, I.heads_fit)) low e

      by : (b : Bool) → (head (cond b (spent k g t) (given_up k g t)).store r).count ≡ (head g.store r).count
      by true = same (painted Black (at g t)) refl
      by false = same (free_header g.store.front) (sym I.tidy.0.uncounted)

  pub release_opens : Opens (releasing k) (λ g Q. Releasing k g Q × FewGiven g) counted_open
  release_opens = record {
    single = λ g Q r. open_at_most (head g.store r).count (visited_next r Q) (next_le r Q);
    empty = λ g Q I r low. open_still g g (follow 0 ∷ Q) Q r refl (calm_next g.store r Q I.0.tidy.1);
    follows = λ g t Q ne I. open_follow g t Q ne I.0;
    begins = λ g t Q e I r low. open_enter g t Q e r;
    passes = λ g t Q e I. open_pass g t Q I.0;
    leaves = λ g t Q I. open_leave g t Q I.0;
  }
