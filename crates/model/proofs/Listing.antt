-- The candidate list has room for a record that does not wait yet.
use Rattle.std.proofs.Common.{◌≡◌, ℕ, zero, suc, ◌+◌, ◌-◌, ◌<◌, ◌≤◌, Bool, true, false, eqb, List, [], ◌∷◌, length, get_or, sum_by, sym, refl, ap, ◌∙◌, subst, ⊎_elim, arith}
use Rattle.std.specs.List.{range_with_len}
use Rattle.std.proofs.lemmas.List.FromFn.{get_or-range_with_len, length-range_with_len}
use Rattle.std.proofs.lemmas.List.Sums.{sum_by-cons}
use Rattle.std.proofs.lemmas.Bool.{cases_eq, eq-eqb, ne_eqb}
use Rattle.kinds.specs.Rows.{Shape}
use Rattle.model.specs.State.{Within, head}
use Rattle.model.specs.Lawful.{naming, once}
use Rattle.model.specs.Releasing.{Releasing}
use Rattle.model.specs.Walk.{Progress, Task}
use Rattle.model.proofs.Counting.{naming_cons}

sum_by_zero : (xs : List ℕ) → sum_by (λ r. naming r []) xs ≡ 0
sum_by_zero [] = refl
sum_by_zero (x ∷ xs) = omega (arith, sum_by-cons (λ r. naming r []) x xs, sum_by_zero xs)

sum_by_naming :
    (t : ℕ) (ts xs : List ℕ) → sum_by (λ r. naming r (t ∷ ts)) xs ≡ sum_by (λ r. once (eqb t r)) xs + sum_by (λ r. naming r ts) xs
sum_by_naming t ts [] = refl
sum_by_naming t ts (x ∷ xs) =
    omega (
      arith,
      sum_by-cons (λ r. naming r (t ∷ ts)) x xs,
      sum_by-cons (λ r. once (eqb t r)) x xs,
      sum_by-cons (λ r. naming r ts) x xs,
      naming_cons x t ts,
      sum_by_naming t ts xs,
    )

sum_none : (t m a : ℕ) → t < a → sum_by (λ r. once (eqb t r)) (range_with_len a m) ≡ 0
sum_none t zero a l = refl
sum_none t (suc m) a l =
    omega (arith, sum_by-cons (λ r. once (eqb t r)) a (range_with_len (a + 1) m), ap once (ne_eqb t a (λ e. omega arith)), sum_none t m (a + 1) (omega arith))

sum_once : (t m a : ℕ) → a ≤ t → t < a + m → sum_by (λ r. once (eqb t r)) (range_with_len a m) ≡ 1
sum_once t zero a l h = let no : ⊥ = omega arith in absurd no
sum_once t (suc m) a l h = ⊎_elim
    (λ e. omega (arith, sum_by-cons (λ r. once (eqb t r)) a (range_with_len (a + 1) m), ap once (eq-eqb t a e), sum_none t m (a + 1) (omega arith)))
    (λ n. omega (arith, sum_by-cons (λ r. once (eqb t r)) a (range_with_len (a + 1) m), ap once (ne_eqb t a n), sum_once t m (a + 1) (omega arith) (omega arith)))
    (cases_eq t a)

-- a list of record numbers is as long as the records are named in it
length_by_naming :
    (n : ℕ) (ts : List ℕ) → ((r : ℕ) → 0 < naming r ts → (1 ≤ r) × (r ≤ n)) → sum_by (λ r. naming r ts) (range_with_len 1 n) ≡ length ts
length_by_naming n [] inside = sum_by_zero (range_with_len 1 n)
length_by_naming n (t ∷ ts) inside =
    let w = inside t (omega (arith, naming_cons t t ts, ap once (eq-eqb t t refl))) in
    omega (
      arith,
      sum_by_naming t ts (range_with_len 1 n),
      sum_once t n 1 w.0 (omega arith),
      length_by_naming n ts (λ r h. inside r (omega (arith, h, naming_cons r t ts))),
    )

sum_misses :
    (f : ℕ → ℕ) (xs : List ℕ) (j : ℕ) → ((i : ℕ) → i < length xs → f (get_or xs i 0) ≤ 1) → j < length xs → f (get_or xs j 0) ≡ 0 →
    sum_by f xs + 1 ≤ length xs
sum_misses f [] j each l e = let no : ⊥ = omega arith in absurd no
sum_misses f (x ∷ xs) zero each l e = omega (arith, sum_by-cons f x xs, e, most xs (λ i h. each (suc i) (omega arith)))
  where
    most : (ys : List ℕ) → ((i : ℕ) → i < length ys → f (get_or ys i 0) ≤ 1) → sum_by f ys ≤ length ys
    most [] h = omega arith
    most (y ∷ ys) h = omega (arith, sum_by-cons f y ys, h 0 (omega arith), most ys (λ i q. h (suc i) (omega arith)))
sum_misses f (x ∷ xs) (suc j) each l e =
    omega (arith, sum_by-cons f x xs, each 0 (omega arith), sum_misses f xs j (λ i h. each (suc i) (omega arith)) (omega arith) e)

pub list_room :
    (k : Shape) (g : Progress) (Q : List Task) (r : ℕ) → Releasing k g Q → Within g.store r → (head g.store r).waiting ≡ false →
    length g.store.candidates < length g.store.rows
list_room k g Q r I w still =
    let n = length g.store.rows in
    let at : (i : ℕ) → i < n → get_or (range_with_len 1 n) i 0 ≡ 1 + i = λ i h. get_or-range_with_len 1 n i 0 h in
    let m =
    sum_misses (λ x. naming x g.store.candidates) (range_with_len 1 n) (r - 1)
    (λ i h.
    let less : i < n = omega (arith, h, length-range_with_len 1 n) in
    subst (λ x. naming x g.store.candidates ≤ 1) (sym (at i less))
    (omega (arith, I.listed (1 + i) (omega arith, omega arith), at_most (head g.store (1 + i)).waiting)))
    (omega (arith, w, length-range_with_len 1 n))
    (let same : get_or (range_with_len 1 n) (r - 1) 0 ≡ r = at (r - 1) (omega (arith, w)) ∙ (let e : 1 + (r - 1) ≡ r = omega (arith, w) in e) in
    subst (λ x. naming x g.store.candidates ≡ 0) (sym same) (I.listed r w ∙ ap once still)) in
    omega (arith, m, length_by_naming n g.store.candidates (λ x h. I.listed_within x h), length-range_with_len 1 n)
  where
    at_most : (b : Bool) → once b ≤ 1
    at_most true = omega arith
    at_most false = omega arith
