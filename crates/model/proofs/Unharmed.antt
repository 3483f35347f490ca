-- A release harms nothing that is in play: holds stay, and the links and bytes of what keeps a count. Nor does a
-- collection.
use Rattle.std.proofs.Common.{◌≡◌, ℕ, zero, suc, ◌+◌, ◌-◌, ◌≤◌, Bool, true, false, cond, not, eqb, ◌≢◌, List, [], ◌∷◌, length, get_or, set, sym, refl, ap, ◌∙◌, subst, ⊎_elim, arith}
use Rattle.std.proofs.lemmas.List.{length-set}
use Rattle.std.proofs.lemmas.List.Sums.{sum_by-set}
use Rattle.std.proofs.lemmas.Bool.{cases_eq, both_ways, cond-true, cond-false, and_parts}
use Rattle.kinds.specs.Rows.{Row, Shape, blank}
use Rattle.model.specs.State.{State, Within, head, row, no_row, in_use, with_head, with_row, with_front}
use Rattle.model.specs.Headers.{Header, free_header, painted, less_one, suspected}
use Rattle.model.specs.History.{in_play}
use Rattle.model.specs.Lawful.{Lawful, Reachable, once}
use Rattle.model.specs.Lawful.From.{here}
use Rattle.model.specs.Walk.{Progress, Task, Keeps}
use Rattle.model.specs.Walk.Task.{follow, visit, leave}
use Rattle.model.specs.Release.{at, turn, spent, given_up, released, releasing, lower}
use Rattle.model.specs.Collected.{AfterCollection}
use Rattle.model.specs.Releasing.{Releasing, FewGiven, counted_room}
use Rattle.model.specs.declared.heads.Colour.TheVariants.{Black}
use Rattle.model.proofs.Places.{each_head, each_both}
use Rattle.model.proofs.Ledgers.{playing, counted, reachable_playing}
use Rattle.model.proofs.Releases.{release_keeps, suspect_is, follow_within}
use Rattle.model.proofs.Lowering.{lower_walked}
use Rattle.model.proofs.Walks.{Also, keeps_and, walk_keeps}

pub record Unharmed (s : State) (c : ℕ) (g : Progress) : Type 0 where
  pub same_size : length g.store.rows ≡ length s.rows
  pub same_holds : (r : ℕ) → Within s r → (head g.store r).holds ≡ (head s r).holds
  pub same_row : (r : ℕ) → Within s r → in_play (head g.store r) ≡ true → (in_play (head s r) ≡ true) × (row g.store r ≡ row s r)
  pub same_sum : in_use g.store + g.given ≡ c

-- one head changes, keeps its holds, and comes into play nowhere
module _ (s : State) (c : ℕ) (g : Progress) (t : ℕ) (fit : length g.store.heads ≡ length g.store.rows) (w : Within g.store t) (J : Unharmed s c g) where
  unharmed_head :
      (h : Header) → h.holds ≡ (head g.store t).holds → h.used ≡ (head g.store t).used → (in_play h ≡ true → in_play (head g.store t) ≡ true) →
      Unharmed s c (turn g t h)
  unharmed_head h holds used plays = record {
    same_size = J.same_size;
    same_holds = λ r v.
        each_head g.store t w h (λ y d. d.holds ≡ (head g.store y).holds) fit holds (λ _ _ _. refl) r (v.0, omega (arith, v.1, J.same_size))
        ∙ J.same_holds r v;
    same_row = λ r v p.
        J.same_row r v
        (each_head g.store t w h (λ y d. in_play d ≡ true → in_play (head g.store y) ≡ true) fit plays (λ _ _ _ e. e) r
        (v.0, omega (arith, v.1, J.same_size)) p);
    same_sum =
        omega (arith, J.same_sum, sum_by-set (λ d. cond d.used 1 0) g.store.heads (t - 1) h (free_header 0) (omega (arith, w, fit)), ap once used);
  }

less_playing : (h : Header) → in_play (less_one h) ≡ true → in_play h ≡ true
less_playing h p =
    let c = counted (less_one h) p in
    playing h (and_parts h.used (not (eqb (h.count - 1) 0)) p).0 (omega arith)

-- a record that is left: blank, with no count, spent or free
module _ (k : Shape) (s : State) (c : ℕ) (g : Progress) (t : ℕ) (Q : List Task) (I : Releasing k g (leave t ∷ Q)) (J : Unharmed s c g) where
  unharmed_left :
      (h : Header) (f n : ℕ) → h.holds ≡ 0 → h.count ≡ 0 → once h.used + n ≡ 1 + g.given →
      Unharmed s c (record { store = with_front (with_head (with_row g.store t (blank k)) t h) f; given = n })
  unharmed_left h f n holds count sum = record {
    same_size = length-set g.store.rows (t - 1) (blank k) ∙ J.same_size;
    same_holds = λ r v.
        both (λ y d e. Within s y → e.holds ≡ (head s y).holds)
        (λ u. holds ∙ sym none ∙ J.same_holds t u) (λ y _ _ u. J.same_holds y u) r v.0 v;
    same_row = λ r v p.
        both (λ y d e. Within s y → in_play e ≡ true → (in_play (head s y) ≡ true) × (d ≡ row s y))
        (λ u q. absurd (let no : ⊥ = omega (arith, counted h q, count) in no)) (λ y _ _ u q. J.same_row y u q) r v.0 v p;
    same_sum =
        omega (
          arith,
          J.same_sum,
          sum,
          sum_by-set (λ d. cond d.used 1 0) g.store.heads (t - 1) h (free_header 0) (omega (arith, I.tidy.0.inside, I.heads_fit)),
          ap once I.tidy.0.in_use,
        );
  }
    where
      none : (head g.store t).holds ≡ 0
      none = omega (arith, (I.each t I.tidy.0.inside).holds_counted, I.tidy.0.uncounted)

      both :
          (P : ℕ → Row → Header → Type 0) → P t (blank k) h → ((r : ℕ) → 1 ≤ r → r ≢ t → P r (row g.store r) (head g.store r)) →
          (r : ℕ) → 1 ≤ r →
          P r (get_or (set g.store.rows (t - 1) (blank k)) (r - 1) no_row) (get_or (set g.store.heads (t - 1) h) (r - 1) (free_header 0))
      both P =
          each_both g.store.rows no_row g.store.heads (free_header 0) t (blank k) h P I.tidy.0.inside.0 I.tidy.0.inside.1
          (omega (arith, I.tidy.0.inside, I.heads_fit))

  unharmed_leave : Unharmed s c (released k g t)
  unharmed_leave = by_wait (at g t).waiting refl
    where
      by_wait : (b : Bool) → (at g t).waiting ≡ b → Unharmed s c (released k g t)
      by_wait true e =
          subst (Unharmed s c) (sym (cond-true (at g t).waiting (spent k g t) (given_up k g t) e))
          (unharmed_left (painted Black (at g t)) g.store.front g.given
          (omega (arith, (I.each t I.tidy.0.inside).holds_counted, I.tidy.0.uncounted)) I.tidy.0.uncounted
          (omega (arith, ap once I.tidy.0.in_use)))
      by_wait false e =
          subst (Unharmed s c) (sym (cond-false (at g t).waiting (spent k g t) (given_up k g t) e))
          (unharmed_left (free_header g.store.front) t (g.given + 1) refl refl (omega arith))

pub release_unharmed : (k : Shape) (s : State) (c : ℕ) → Also (releasing k) (Releasing k) (λ g Q. Unharmed s c g)
release_unharmed k s c = record {
  empty = λ g Q I J. J;
  follows = λ g t Q n I J.
      unharmed_head s c g t I.heads_fit (follow_within k g t Q n I) J (less_one (at g t)) refl refl (less_playing (at g t));
  begins = λ g t Q e I J. J;
  passes = λ g t Q e I J.
      subst (Unharmed s c) (sym (suspect_is g t (I.coloured t I.tidy.0.inside)))
      (let h = unharmed_head s c g t I.heads_fit I.tidy.0.inside J (suspected (at g t)) refl refl (λ p. p) in
      record { same_size = h.same_size; same_holds = h.same_holds; same_row = h.same_row; same_sum = h.same_sum });
  leaves = λ g t Q I J. unharmed_leave k s c g t Q I J;
}

-- The whole of it.
pub lower_unharmed : (k : Shape) (s : State) (c : ℕ) (g : Progress) (t : ℕ) → Releasing k g (follow t ∷ []) → Unharmed s c g → Unharmed s c (lower k g t)
lower_unharmed k s c g t I J = ⊎_elim
    (λ e. let none : lower k g t ≡ g = ap (lower k g) e in subst (Unharmed s c) (sym none) J)
    (λ n.
    let K = keeps_and k.links (releasing k) (Releasing k) (λ x Q. Unharmed s c x) counted_room (release_keeps k) (release_unharmed k s c) in
    let f = K.follows g t [] n (I, J) in
    let y = (releasing k).follow g t in
    let w = walk_keeps k.links (releasing k) (λ x Q. Releasing k x Q × Unharmed s c x) counted_room K (suc (length y.store.rows)) y t []
    (omega (arith, K.most y (visit t ∷ []) f.fits)) f.fits in
    subst (Unharmed s c) (sym (lower_walked k g t n)) w.fits.1)
    (cases_eq t 0)

-- Any store is unharmed by nothing.
pub unharmed_start : (g : Progress) → Unharmed g.store (in_use g.store + g.given) g
unharmed_start g = record { same_size = refl; same_holds = λ _ _. refl; same_row = λ _ _ p. (p, refl); same_sum = refl }

-- What is in use and what is given up never add up to more than there are records.
pub release_summed : (k : Shape) → Also (releasing k) (Releasing k) (λ g Q. FewGiven g)
release_summed k = record {
  empty = λ g Q I j. j;
  follows = λ g t Q n I j. omega (arith, j, ((release_unharmed k g.store (in_use g.store + g.given)).follows g t Q n I (unharmed_start g)).same_sum);
  begins = λ g t Q e I j. j;
  passes = λ g t Q e I j. omega (arith, j, ((release_unharmed k g.store (in_use g.store + g.given)).passes g t Q e I (unharmed_start g)).same_sum);
  leaves = λ g t Q I j. omega (arith, j, ((release_unharmed k g.store (in_use g.store + g.given)).leaves g t Q I (unharmed_start g)).same_sum);
}

pub release_keeps_few : (k : Shape) → Keeps k.links (releasing k) (λ g Q. Releasing k g Q × FewGiven g) counted_room
release_keeps_few k = keeps_and k.links (releasing k) (Releasing k) (λ g Q. FewGiven g) counted_room (release_keeps k) (release_summed k)

-- A collection keeps what can be come to from a held record. The rest has no holds, and is free afterwards.
pub collection_unharmed :
    (k : Shape) (g z : Progress) → Lawful k g.store → AfterCollection k g z →
    Unharmed g.store (in_use g.store + g.given) z
collection_unharmed k g z law after = record {
  same_size = after.size;
  same_holds = λ r v. by_use r v (head z.store r).used refl;
  same_row = λ r v p.
      let reach = reachable r v (and_parts (head z.store r).used (not (eqb (head z.store r).count 0)) p).0 in
      ((reachable_playing k g.store law reach).1, after.rows_same r reach);
  same_sum = after.accounted;
}
  where
    inside : (r : ℕ) → Within g.store r → Within z.store r
    inside r v = (v.0, omega (arith, v.1, after.size))

    reachable : (r : ℕ) → Within g.store r → (head z.store r).used ≡ true → Reachable g.store r
    reachable r v u = after.used_reachable r (inside r v, u)

    no_holds : (r n : ℕ) → Within g.store r → (head z.store r).used ≡ false → (head g.store r).holds ≡ n → n ≡ 0
    no_holds r zero v e h = refl
    no_holds r (suc n) v e h =
        absurd (both_ways (head z.store r).used e (after.reachable_used r (here (v, omega (arith, h)))).1)

    by_use : (r : ℕ) → Within g.store r → (b : Bool) → (head z.store r).used ≡ b → (head z.store r).holds ≡ (head g.store r).holds
    by_use r v true e = after.holds_same r (reachable r v e)
    by_use r v false e =
        ap (λ h. h.holds) ((after.lawful.each r (inside r v)).settled.free_blank e).1
        ∙ sym (no_holds r (head g.store r).holds v e refl)
