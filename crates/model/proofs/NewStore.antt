-- A new store is lawful.
use Rattle.std.proofs.Common.{◌≡◌, ℕ, zero, suc, ◌+◌, ◌-◌, ◌<◌, ◌≤◌, min, cond, ltb, List, [], ◌∷◌, map, length, replicate, sum_by, count_by, sym, refl, ap, ◌∙◌, subst, inl, ⊎_elim, arith}
use Rattle.std.specs.List.{range_with_len}
use Rattle.std.proofs.lemmas.List.FromFn.{get_or-map-range_with_len, length-map-range_with_len}
use Rattle.std.proofs.lemmas.List.{length-replicate, get_or-replicate}
use Rattle.std.proofs.lemmas.List.Sums.{sum_by-cons}
use Rattle.std.proofs.lemmas.Bool.{false≢true, cond-true, cond-false, lt-ltb, le-ltb, cases_eq}
use Rattle.kinds.specs.Rows.{Shape, blank}
use Rattle.model.specs.State.{Within, head, row, no_row, in_use}
use Rattle.model.specs.Headers.{free_header}
use Rattle.model.specs.Calls.{new, next_free}
use Rattle.model.specs.Lawful.{Lawful, Proper, Chain, Links, naming, once}
use Rattle.model.proofs.Counting.{naming_same, naming_other, naming_blank, naming_has}

-- nothing is named by blank rows, and nothing in use among free heads
pub named_blank : (k : Shape) (n r : ℕ) → 1 ≤ r → sum_by (λ w. naming r w.links) (replicate n (blank k)) ≡ 0
named_blank k zero r a = refl
named_blank k (suc n) r a =
    omega (arith, sum_by-cons (λ w. naming r w.links) (blank k) (replicate n (blank k)), naming_blank r k.links a, named_blank k n r a)

none_used : (f : ℕ → ℕ) (ns : List ℕ) → count_by (λ h. h.used) (map (λ r. free_header (f r)) ns) ≡ 0
none_used f [] = refl
none_used f (n ∷ ns) = omega (arith, sum_by-cons (λ h. cond h.used 1 0) (free_header (f n)) (map (λ r. free_header (f r)) ns), none_used f ns)

pub in_use_new : (k : Shape) (n : ℕ) → in_use (new k n) ≡ 0
in_use_new k n = none_used (next_free n) (range_with_len 1 n)

-- each number that is counted through stands there once
naming_below : (m a r : ℕ) → r < a → naming r (range_with_len a m) ≡ 0
naming_below zero a r l = refl
naming_below (suc m) a r l = naming_other r a (range_with_len (a + 1) m) (λ e. omega arith) ∙ naming_below m (a + 1) r (omega arith)

naming_counted : (m a r : ℕ) → a ≤ r → r < a + m → naming r (range_with_len a m) ≡ 1
naming_counted zero a r l h = let no : ⊥ = omega arith in absurd no
naming_counted (suc m) a r l h = ⊎_elim
    (λ e. subst (λ y. naming y (a ∷ range_with_len (a + 1) m) ≡ 1) e
    (naming_same a (range_with_len (a + 1) m) ∙ ap (λ i. 1 + i) (naming_below m (a + 1) a (omega arith))))
    (λ ne. naming_other r a (range_with_len (a + 1) m) ne ∙ naming_counted m (a + 1) r (omega arith) (omega arith))
    (cases_eq a r)

module _ (k : Shape) (n : ℕ) where
  size : length (replicate n (blank k)) ≡ n
  size = length-replicate n (blank k)

  pub new_head : (r : ℕ) → Within (new k n) r → head (new k n) r ≡ free_header (next_free n r)
  new_head r w = get_or-map-range_with_len (λ x. free_header (next_free n x)) 1 n (r - 1) r (free_header 0) (omega (arith, size)) (omega arith)

  pub new_row : (r : ℕ) → Within (new k n) r → row (new k n) r ≡ blank k
  new_row r w = get_or-replicate n (r - 1) (blank k) no_row (omega (arith, size))

  proper_free : (f : ℕ) → Proper k (free_header f) (blank k)
  proper_free f = record {
    settled = record {
      links_fit = length-replicate k.links 0;
      bytes_fit = length-replicate k.bytes 0;
      holds_few = omega arith;
      holds_counted = omega arith;
      used_unchained = λ z. absurd (false≢true z);
      free_blank = λ _. (refl, refl);
    };
    coloured = inl refl;
    spent_waits = λ z. absurd (false≢true z);
  }

  unlinked : (r t : ℕ) → Within (new k n) r → Links (new k n) r t → ⊥
  unlinked r t w l =
      let h = naming_has (row (new k n) r).links l.1.0 t l.0 l.1.1 in
      let b = ap (λ x. naming t x.links) (new_row r w) in
      omega (arith, h, b, naming_blank t k.links l.0)

  -- the chain from r on, where m records are left
  chain_up : (m r : ℕ) → 1 ≤ r → r + m ≡ n + 1 → Chain (new k n) (cond (ltb (r - 1) n) r 0) (range_with_len r m)
  chain_up zero r a e = cond-false (ltb (r - 1) n) r 0 (le-ltb (r - 1) n (omega arith))
  chain_up (suc m) r a e =
      let w : Within (new k n) r = (a, omega (arith, size)) in
      let h = new_head r w in (
        cond-true (ltb (r - 1) n) r 0 (lt-ltb (r - 1) n (omega arith)),
        (
          w,
          (
            ap (λ x. x.used) h,
            subst (λ f. Chain (new k n) f (range_with_len (r + 1) m))
                (ap (λ i. cond (ltb i n) (r + 1) 0) (let i : (r + 1) - 1 ≡ r = omega arith in i) ∙ sym (ap (λ x. x.next) h))
                (chain_up m (r + 1) (omega arith) (omega arith)),
          ),
        ),
      )

  front_is : cond (ltb (1 - 1) n) 1 0 ≡ min n 1
  front_is = by_size n
    where
      by_size : (m : ℕ) → cond (ltb (1 - 1) m) 1 0 ≡ min m 1
      by_size zero = refl
      by_size (suc m) = cond-true (ltb (1 - 1) (suc m)) 1 0 (lt-ltb 0 (suc m) (omega arith)) ∙ omega arith

  pub lawful_new : n ≤ 4095 → Lawful k (new k n)
  lawful_new few = record {
    few = omega (arith, size);
    heads_fit = length-map-range_with_len (λ x. free_header (next_free n x)) 1 n ∙ sym size;
    each = λ r w. subst (λ h. Proper k h (row (new k n) r)) (sym (new_head r w)) (subst (Proper k (free_header (next_free n r))) (sym (new_row r w)) (proper_free (next_free n r)));
    links_used = λ r t w l. absurd (unlinked r t w l);
    listed = λ r w. sym (ap (λ h. once h.waiting) (new_head r w));
    listed_within = λ r z. let no : ⊥ = omega arith in absurd no;
    chain = (
      range_with_len 1 n,
      subst (λ f. Chain (new k n) f (range_with_len 1 n)) front_is (chain_up n 1 (omega arith) (omega arith)),
      λ r w.
          omega (arith, naming_counted n 1 r w.0 (omega (arith, size)), ap (λ h. once h.used) (new_head r w)),
    );
    counts = λ r w.
        omega (arith, ap (λ h. h.count) (new_head r w), ap (λ h. h.holds) (new_head r w), named_blank k n r w.0);
    cover = λ r u. absurd (false≢true (sym (ap (λ h. h.used) (new_head r u.0)) ∙ u.1));
  }
