-- Links counted by the colour of their records, tasks in their order, and records that can still be entered.
use Rattle.std.proofs.Common.{◌≡◌, ℕ, zero, suc, ◌+◌, ◌-◌, ◌<◌, ◌≤◌, Bool, true, false, cond, eqb, ◌≢◌, ◌⊎◌, List, [], ◌∷◌, ◌++◌, map, length, get_or, set, sum_by, count_by, sym, refl, ap, ◌∙◌, subst, inl, inr, ⊎_elim, arith}
use Rattle.std.proofs.lemmas.List.{get_or-set_same, get_or-set_other}
use Rattle.std.proofs.lemmas.List.Sums.{sum_by-cons, sum_by-set}
use Rattle.std.proofs.lemmas.Bool.{cases_eq, cond-true, cond-false, eq-eqb, ne_eqb, eqb-true}
use Rattle.kinds.specs.Rows.{Row}
use Rattle.model.specs.State.{State, Within, head, no_row, with_head}
use Rattle.model.specs.Headers.{Header, free_header}
use Rattle.model.specs.Lawful.{naming, once}
use Rattle.model.specs.Walk.{Task, Absent}
use Rattle.model.specs.Walk.Task.{follow, visit, leave}
use Rattle.model.specs.Colouring.{naming_where, due, Queue, Orderly}
use Rattle.model.proofs.Counting.{naming_cons}

-- a list that names t has it
pub naming_some : (t : ℕ) (us : List ℕ) → 0 < naming t us → (i : ℕ) × (get_or us i 0 ≡ t)
naming_some t [] a = let no : ⊥ = omega arith in absurd no
naming_some t (u ∷ us) a = by (naming_some t us) (eqb u t) refl
  where
    by : (0 < naming t us → (i : ℕ) × (get_or us i 0 ≡ t)) → (b : Bool) → eqb u t ≡ b → (i : ℕ) × (get_or (u ∷ us) i 0 ≡ t)
    by deeper true e = (0, eqb-true u t e)
    by deeper false e =
        let less : naming t (u ∷ us) ≡ naming t us = naming_cons t u us ∙ ap (λ b. once b + naming t us) e ∙ omega arith in
        let q = deeper (omega (arith, a, less)) in
        (suc q.0, q.1)

module _ (p : Header → Bool) (t : ℕ) where
  -- one head changes, and keeps p as before, or not as before
  pub where_same :
      (hs : List Header) (ws : List Row) (j : ℕ) (h : Header) → p h ≡ p (get_or hs j (free_header 0)) →
      naming_where p t (set hs j h) ws ≡ naming_where p t hs ws
  where_same [] ws j h e = refl
  where_same (x ∷ hs) [] zero h e = refl
  where_same (x ∷ hs) [] (suc j) h e = refl
  where_same (x ∷ hs) (w ∷ ws) zero h e = ap (λ b. cond b (naming t w.links) 0 + naming_where p t hs ws) e
  where_same (x ∷ hs) (w ∷ ws) (suc j) h e = ap (λ n. cond (p x) (naming t w.links) 0 + n) (where_same hs ws j h e)

  -- one head keeps p no more: the links of that record are left out
  pub where_off :
      (hs : List Header) (ws : List Row) (j : ℕ) (h : Header) → j < length hs → j < length ws → p h ≡ false →
      p (get_or hs j (free_header 0)) ≡ true →
      naming_where p t (set hs j h) ws + naming t (get_or ws j no_row).links ≡ naming_where p t hs ws
  where_off [] ws j h a b e f = let no : ⊥ = omega arith in absurd no
  where_off (x ∷ hs) [] j h a b e f = let no : ⊥ = omega arith in absurd no
  where_off (x ∷ hs) (w ∷ ws) zero h a b e f =
      omega (arith, cond-false (p h) (naming t w.links) 0 e, cond-true (p x) (naming t w.links) 0 f)
  where_off (x ∷ hs) (w ∷ ws) (suc j) h a b e f = omega (arith, where_off hs ws j h (omega arith) (omega arith) e f)

  -- one head comes to keep p: the links of that record are counted
  pub where_on :
      (hs : List Header) (ws : List Row) (j : ℕ) (h : Header) → j < length hs → j < length ws → p h ≡ true →
      p (get_or hs j (free_header 0)) ≡ false →
      naming_where p t (set hs j h) ws ≡ naming_where p t hs ws + naming t (get_or ws j no_row).links
  where_on [] ws j h a b e f = let no : ⊥ = omega arith in absurd no
  where_on (x ∷ hs) [] j h a b e f = let no : ⊥ = omega arith in absurd no
  where_on (x ∷ hs) (w ∷ ws) zero h a b e f =
      omega (arith, cond-true (p h) (naming t w.links) 0 e, cond-false (p x) (naming t w.links) 0 f)
  where_on (x ∷ hs) (w ∷ ws) (suc j) h a b e f = omega (arith, where_on hs ws j h (omega arith) (omega arith) e f)

  -- the row of a record that does not keep p is not counted
  pub where_row :
      (hs : List Header) (ws : List Row) (j : ℕ) (w : Row) → p (get_or hs j (free_header 0)) ≡ false →
      naming_where p t hs (set ws j w) ≡ naming_where p t hs ws
  where_row [] ws j w e = refl
  where_row (x ∷ hs) [] j w e = refl
  where_row (x ∷ hs) (v ∷ ws) zero w e =
      ap (λ n. n + naming_where p t hs ws)
      (cond-false (p x) (naming t w.links) 0 e ∙ sym (cond-false (p x) (naming t v.links) 0 e))
  where_row (x ∷ hs) (v ∷ ws) (suc j) w e = ap (λ n. cond (p x) (naming t v.links) 0 + n) (where_row hs ws j w e)

  -- the links of one record are among those of all that keep p
  pub where_le :
      (hs : List Header) (ws : List Row) (j : ℕ) → j < length hs → j < length ws → p (get_or hs j (free_header 0)) ≡ true →
      naming t (get_or ws j no_row).links ≤ naming_where p t hs ws
  where_le [] ws j a b f = let no : ⊥ = omega arith in absurd no
  where_le (x ∷ hs) [] j a b f = let no : ⊥ = omega arith in absurd no
  where_le (x ∷ hs) (w ∷ ws) zero a b f = omega (arith, cond-true (p x) (naming t w.links) 0 f)
  where_le (x ∷ hs) (w ∷ ws) (suc j) a b f = omega (arith, where_le hs ws j (omega arith) (omega arith) f)

  pub where_most : (hs : List Header) (ws : List Row) → naming_where p t hs ws ≤ sum_by (λ w. naming t w.links) ws
  where_most [] ws = omega arith
  where_most (x ∷ hs) [] = omega arith
  where_most (x ∷ hs) (w ∷ ws) = omega (arith, at (p x), where_most hs ws, sum_by-cons (λ v. naming t v.links) w ws)
    where
      at : (b : Bool) → cond b (naming t w.links) 0 ≤ naming t w.links
      at true = omega arith
      at false = omega arith

  -- where the records that do not keep p have no link to t, all links are counted
  pub where_all :
      (hs : List Header) (ws : List Row) → length hs ≡ length ws →
      ((i : ℕ) → i < length ws → p (get_or hs i (free_header 0)) ≡ false → naming t (get_or ws i no_row).links ≡ 0) →
      naming_where p t hs ws ≡ sum_by (λ w. naming t w.links) ws
  where_all [] [] e z = refl
  where_all [] (w ∷ ws) e z = let no : ⊥ = omega arith in absurd no
  where_all (x ∷ hs) [] e z = let no : ⊥ = omega arith in absurd no
  where_all (x ∷ hs) (w ∷ ws) e z =
      omega (
        arith,
        at (p x) refl,
        where_all hs ws (omega arith) (λ i l. z (suc i) (omega arith)),
        sum_by-cons (λ v. naming t v.links) w ws,
      )
    where
      at : (b : Bool) → p x ≡ b → cond (p x) (naming t w.links) 0 ≡ naming t w.links
      at true q = cond-true (p x) (naming t w.links) 0 q
      at false q = cond-false (p x) (naming t w.links) 0 q ∙ sym (z 0 (omega arith) q)

  -- what is counted is a link of some record
  pub where_some :
      (hs : List Header) (ws : List Row) → 0 < naming_where p t hs ws →
      (j : ℕ) × ((j < length ws) × ((p (get_or hs j (free_header 0)) ≡ true) × (0 < naming t (get_or ws j no_row).links)))
  where_some [] ws a = let no : ⊥ = omega arith in absurd no
  where_some (x ∷ hs) [] a = let no : ⊥ = omega arith in absurd no
  where_some (x ∷ hs) (w ∷ ws) a = at (where_some hs ws) (p x) refl (cases_zero (naming t w.links))
    where
      cases_zero : (n : ℕ) → (n ≡ 0) ⊎ (0 < n)
      cases_zero zero = inl refl
      cases_zero (suc n) = inr (omega arith)

      at :
          (0 < naming_where p t hs ws →
          (j : ℕ) × ((j < length ws) × ((p (get_or hs j (free_header 0)) ≡ true) × (0 < naming t (get_or ws j no_row).links)))) →
          (b : Bool) → p x ≡ b → (naming t w.links ≡ 0) ⊎ (0 < naming t w.links) →
          (j : ℕ) × ((j < length (w ∷ ws)) × ((p (get_or (x ∷ hs) j (free_header 0)) ≡ true) × (0 < naming t (get_or (w ∷ ws) j no_row).links)))
      at deeper true e (inr c) = (0, (omega arith, (e, c)))
      at deeper true e (inl z) =
          let q = deeper (omega (arith, a, cond-true (p x) (naming t w.links) 0 e, z)) in
          (suc q.0, (omega (arith, q.1.0), (q.1.1.0, q.1.1.1)))
      at deeper false e c =
          let q = deeper (omega (arith, a, cond-false (p x) (naming t w.links) 0 e)) in
          (suc q.0, (omega (arith, q.1.0), (q.1.1.0, q.1.1.1)))

-- p and q agree on the heads: they count the same links
pub where_agree :
    (p q : Header → Bool) (t : ℕ) (hs ks : List Header) (ws : List Row) → length hs ≡ length ks →
    ((i : ℕ) → i < length hs → p (get_or hs i (free_header 0)) ≡ q (get_or ks i (free_header 0))) →
    naming_where p t hs ws ≡ naming_where q t ks ws
where_agree p q t [] [] ws e f = refl
where_agree p q t [] (y ∷ ks) ws e f = let no : ⊥ = omega arith in absurd no
where_agree p q t (x ∷ hs) [] ws e f = let no : ⊥ = omega arith in absurd no
where_agree p q t (x ∷ hs) (y ∷ ks) [] e f = refl
where_agree p q t (x ∷ hs) (y ∷ ks) (w ∷ ws) e f =
    ap (λ b. cond b (naming t w.links) 0 + naming_where p t hs ws) (f 0 (omega arith))
    ∙ ap (λ n. cond (q y) (naming t w.links) 0 + n) (where_agree p q t hs ks ws (omega (arith, e)) (λ i l. f (suc i) (omega (arith, l))))

-- what is due
pub due_hit : (t : ℕ) (Q : List Task) → due t (follow t ∷ Q) ≡ 1 + due t Q
due_hit t Q = ap (λ b. once b + due t Q) (eq-eqb t t refl)

pub due_miss : (u t : ℕ) (Q : List Task) → u ≢ t → due t (follow u ∷ Q) ≡ due t Q
due_miss u t Q n = ap (λ b. once b + due t Q) (ne_eqb u t n) ∙ omega arith

pub due_links : (t : ℕ) (us : List ℕ) (Q : List Task) → due t (map follow us ++ Q) ≡ naming t us + due t Q
due_links t [] Q = omega arith
due_links t (u ∷ us) Q = omega (arith, due_links t us Q, naming_cons t u us)

-- Tasks and the store: they see of it only which records there are, and the heads of those to be left.
module _ (E : Header → Type 0) where
  pub queue_stands :
      (s z : State) (Q : List Task) → length z.rows ≡ length s.rows →
      ((u : ℕ) → Within s u → ((head s u).used ≡ true) × E (head s u) → ((head z u).used ≡ true) × E (head z u)) →
      Queue E s Q → Queue E z Q
  queue_stands s z [] n f q = tt
  queue_stands s z (follow u ∷ Q) n f q =
      (⊎_elim (λ e. inl e) (λ w. inr (w.0, omega (arith, w.1, n))) q.0, queue_stands s z Q n f q.1)
  queue_stands s z (visit u ∷ Q) n f q = absurd q
  queue_stands s z (leave u ∷ Q) n f q =
      let i = q.0.0.0 in
      let y = f u i (q.0.0.1, q.0.1.0) in
      ((((i.0, omega (arith, i.1, n)), y.0), (y.1, q.0.1.1)), queue_stands s z Q n f q.1)

  -- the same where one head changes that is not among those to be left
  pub queue_elsewhere :
      (s : State) (x : ℕ) (h : Header) → Within s x → (Q : List Task) → Absent x Q → Queue E s Q → Queue E (with_head s x h) Q
  queue_elsewhere s x h w [] a q = tt
  queue_elsewhere s x h w (follow u ∷ Q) a q = (q.0, queue_elsewhere s x h w Q a q.1)
  queue_elsewhere s x h w (visit u ∷ Q) a q = absurd q
  queue_elsewhere s x h w (leave u ∷ Q) a q =
      let i = q.0.0.0 in
      let same : head (with_head s x h) u ≡ head s u =
      get_or-set_other s.heads (x - 1) (u - 1) h (free_header 0) (omega (arith, w.0, i.0, a.0)) in
      (((i, ap (λ y. y.used) same ∙ q.0.0.1), (subst E (sym same) q.0.1.0, q.0.1.1)), queue_elsewhere s x h w Q a.1 q.1)

  -- a record of which E does not hold is not among those to be left
  pub queue_absent : (s : State) (x : ℕ) (Q : List Task) → (E (head s x) → ⊥) → Queue E s Q → Absent x Q
  queue_absent s x [] f q = tt
  queue_absent s x (follow u ∷ Q) f q = queue_absent s x Q f q.1
  queue_absent s x (visit u ∷ Q) f q = absurd q
  queue_absent s x (leave u ∷ Q) f q = (λ e. f (subst (λ y. E (head s y)) e q.0.1.0), queue_absent s x Q f q.1)

  pub queue_links :
      (s : State) (us : List ℕ) (Q : List Task) → ((i : ℕ) → (get_or us i 0 ≡ 0) ⊎ Within s (get_or us i 0)) → Queue E s Q →
      Queue E s (map follow us ++ Q)
  queue_links s [] Q f q = q
  queue_links s (u ∷ us) Q f q = (f 0, queue_links s us Q (λ i. f (suc i)) q)

  pub queue_orderly : (V : Header → Type 0) (s : State) (Q : List Task) → Queue E s Q → Orderly V E s Q
  queue_orderly V s [] q = tt
  queue_orderly V s (follow u ∷ Q) q = q
  queue_orderly V s (visit u ∷ Q) q = absurd q
  queue_orderly V s (leave u ∷ Q) q = q

-- Records that can still be entered: one head changes.
module _ (p : Header → Bool) where
  once_le : (b : Bool) → once b ≤ 1
  once_le true = omega arith
  once_le false = omega arith

  pub room_set :
      (hs : List Header) (j : ℕ) (h : Header) → j < length hs →
      count_by p (set hs j h) + once (p (get_or hs j (free_header 0))) ≡ count_by p hs + once (p h)
  room_set hs j h l = sum_by-set (λ x. cond (p x) 1 0) hs j h (free_header 0) l

  -- a head that is changed keeps p only if it did
  pub once_set :
      (hs : List Header) (t r : ℕ) (h : Header) → 1 ≤ t → t ≤ length hs → 1 ≤ r →
      once (p h) ≤ once (p (get_or hs (t - 1) (free_header 0))) →
      once (p (get_or (set hs (t - 1) h) (r - 1) (free_header 0))) ≤ once (p (get_or hs (r - 1) (free_header 0)))
  once_set hs t r h a b c e = ⊎_elim
      (λ q. subst (λ x. once (p (get_or (set hs (t - 1) h) (x - 1) (free_header 0))) ≤ once (p (get_or hs (x - 1) (free_header 0)))) (sym q)
      (omega (arith, e, ap (λ x. once (p x)) (get_or-set_same hs (t - 1) h (free_header 0) (omega (arith, a, b))))))
      (λ n. omega (arith, ap (λ x. once (p x)) (get_or-set_other hs (t - 1) (r - 1) h (free_header 0) (omega (arith, a, c, n)))))
      (cases_eq r t)
