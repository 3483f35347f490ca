-- How many entries of a list, and how many links of all records, name a record.
use Rattle.std.proofs.Common.{◌≡◌, ℕ, zero, suc, ◌+◌, ◌-◌, ◌≤◌, cond, eqb, List, [], ◌∷◌, get_or, replicate, sym, refl, ap, ◌∙◌, subst, arith}
use Rattle.std.proofs.lemmas.List.Sums.{sum_by-cons, sum_by-set, get_or-le-sum_by}
use Rattle.std.proofs.lemmas.Bool.{eq-eqb, ne_eqb}
use Rattle.kinds.specs.Rows.{Row}
use Rattle.model.specs.State.{State, Within, row, no_row, with_row}
use Rattle.model.specs.Lawful.{naming, named, once}

pub naming_cons : (r t : ℕ) (ts : List ℕ) → naming r (t ∷ ts) ≡ once (eqb t r) + naming r ts
naming_cons r t ts = sum_by-cons (λ x. cond (eqb x r) 1 0) t ts

pub naming_same : (r : ℕ) (ts : List ℕ) → naming r (r ∷ ts) ≡ 1 + naming r ts
naming_same r ts = naming_cons r r ts ∙ ap (λ b. once b + naming r ts) (eq-eqb r r refl)

pub naming_other : (r t : ℕ) (ts : List ℕ) → (t ≡ r → ⊥) → naming r (t ∷ ts) ≡ naming r ts
naming_other r t ts n = naming_cons r t ts ∙ ap (λ b. once b + naming r ts) (ne_eqb t r n) ∙ omega arith

-- empty links name no record
pub naming_blank : (r m : ℕ) → 1 ≤ r → naming r (replicate m 0) ≡ 0
naming_blank r zero a = refl
naming_blank r (suc m) a = naming_other r 0 (replicate m 0) (λ e. omega arith) ∙ naming_blank r m a

-- what a list has is named
pub naming_has : (ts : List ℕ) (i t : ℕ) → 1 ≤ t → get_or ts i 0 ≡ t → 1 ≤ naming t ts
naming_has [] i t a e = omega arith
naming_has (x ∷ xs) zero t a e = subst (λ y. 1 ≤ naming t (y ∷ xs)) (sym e) (omega (arith, naming_same t xs))
naming_has (x ∷ xs) (suc i) t a e = omega (arith, naming_cons t x xs, naming_has xs i t a e)

-- the links of one record are among those of all
pub naming_le_named : (s : State) (r t : ℕ) → Within s r → naming t (row s r).links ≤ named s t
naming_le_named s r t w = get_or-le-sum_by (λ x. naming t x.links) s.rows (r - 1) no_row (omega arith)

-- one row replaced
pub named_with_row :
    (s : State) (r t : ℕ) (w : Row) → Within s r →
    named (with_row s r w) t + naming t (row s r).links ≡ named s t + naming t w.links
named_with_row s r t w v = sum_by-set (λ x. naming t x.links) s.rows (r - 1) w no_row (omega arith)
