-- A list served from its first record to its last, out of a table that is read ahead of what is written to it.
use Rattle.std.proofs.Common.{◌≡◌, ℕ, suc, ◌+◌, ◌-◌, ◌<◌, ◌≤◌, List, [], ◌∷◌, length, get_or, take, drop, fold, sym, refl, ap, ◌∙◌, subst, arith}
use Rattle.std.proofs.lemmas.List.{drop_more, drop-drop, get_or-take, get_or-drop, length-take, length-take-le, length-drop, drop_all}
use Rattle.kinds.specs.Rows.{Shape}
use Rattle.model.specs.Walk.{Progress, Task, full}
use Rattle.model.specs.Walk.Task.{visit}
use Rattle.model.specs.Collection.{marking}
use Rattle.model.specs.Colouring.{Marking, ungray, open_room}
use Rattle.model.proofs.Marks.{marking_keeps}
use Rattle.model.proofs.Walks.{walk_keeps, keeps_and}

-- The records rs, the first entries of the table t0, are served by `one` from y0 on; i of them are done, in y, and from
-- there on the table t is as it was. Whatever P says of a store and the records still to be served is kept.
pub record InTurn {X : Type 0} (one : Progress → ℕ → Progress) (P : X → Progress → List ℕ → Type 0) (n i : ℕ) (y0 : Progress) (t0 : List ℕ) (y : Progress) (t : List ℕ) : Type 0 where
  pub goes : fold one y (drop i (take n t0)) ≡ fold one y0 (take n t0)
  pub keeps : (x : X) → P x y0 (take n t0) → P x y (drop i (take n t0))
  pub ahead : drop i t ≡ drop i t0
  pub long : n ≤ length t0

module _ {X : Type 0} (one : Progress → ℕ → Progress) (P : X → Progress → List ℕ → Type 0) (n : ℕ) (y0 : Progress) (t0 : List ℕ) where
  pub turn_first : n ≤ length t0 → InTurn one P n 0 y0 t0 y0 t0
  turn_first l = record { goes = refl; keeps = λ x p. p; ahead = refl; long = l }

  module _ (i : ℕ) (y : Progress) (t : List ℕ) (T : InTurn one P n i y0 t0 y t) (l : i < n) where
    -- the table is long enough to be read
    pub turn_inside : i < length t
    turn_inside = omega (arith, T.long, l, ap length T.ahead, length-drop i t, length-drop i t0)

    module _ (r : ℕ) (e : r ≡ get_or t i 0) where
      next_is : get_or (take n t0) i 0 ≡ r
      next_is =
          get_or-take n t0 i 0 l ∙ ap (λ j. get_or t0 j 0) (sym here) ∙ sym (get_or-drop i t0 0 0) ∙ sym (ap (λ xs. get_or xs 0 0) T.ahead)
          ∙ get_or-drop i t 0 0 ∙ ap (λ j. get_or t j 0) here ∙ sym e
        where
          here : i + 0 ≡ i
          here = omega arith

      pub turn_rest : drop i (take n t0) ≡ r ∷ drop (i + 1) (take n t0)
      turn_rest = drop_more (take n t0) i 0 (omega (arith, l, T.long, length-take-le n t0 T.long)) ∙ ap (λ x. x ∷ drop (i + 1) (take n t0)) next_is

      -- what is known where the next record is served
      pub turn_ready : (x : X) → P x y0 (take n t0) → P x y (r ∷ drop (i + 1) (take n t0))
      turn_ready x p = subst (P x y) turn_rest (T.keeps x p)

      pub turn_next :
          (z : Progress) (u : List ℕ) → z ≡ one y r →
          ((x : X) → P x y (r ∷ drop (i + 1) (take n t0)) → P x (one y r) (drop (i + 1) (take n t0))) →
          drop (i + 1) u ≡ drop (i + 1) t → InTurn one P n (i + 1) y0 t0 z u
      turn_next z u q f d = record {
        goes = ap (λ w. fold one w (drop (i + 1) (take n t0))) q ∙ sym (ap (fold one y) turn_rest) ∙ T.goes;
        keeps = λ x p. subst (λ w. P x w (drop (i + 1) (take n t0))) (sym q) (f x (turn_ready x p));
        ahead = d ∙ sym (drop-drop 1 i t) ∙ ap (drop 1) T.ahead ∙ drop-drop 1 i t0;
        long = T.long;
      }

  -- all are served
  pub turn_all : (i : ℕ) (y : Progress) (t : List ℕ) → InTurn one P n i y0 t0 y t → i ≡ n → y ≡ fold one y0 (take n t0)
  turn_all i y t T e = ap (fold one y) (sym (drop_all i (take n t0) (omega (arith, e, length-take-le n t0 T.long)))) ∙ T.goes

-- what is the same from m on is the same from later on
pub drop_later : (m j : ℕ) (xs ys : List ℕ) → m ≤ j → drop m xs ≡ drop m ys → drop j xs ≡ drop j ys
drop_later m j xs ys l e =
    let back : m + (j - m) ≡ j = omega (arith, l) in
    ap (λ i. drop i xs) (sym back) ∙ sym (drop-drop (j - m) m xs) ∙ ap (drop (j - m)) e ∙ drop-drop (j - m) m ys
    ∙ ap (λ i. drop i ys) back

-- the list as the first entries of its table
pub listed_long : (n : ℕ) (cs t : List ℕ) → n ≡ length cs → cs ≡ take n t → n ≤ length t
listed_long n cs t e f = omega (arith, e, ap length f, length-take n t)

-- a walk of mark leaves the list and the links alone
pub record Steady (g z : Progress) : Type 0 where
  pub candidates_same : z.store.candidates ≡ g.store.candidates
  pub rows_same : z.store.rows ≡ g.store.rows

pub marking_steady : (k : Shape) (g : Progress) (t : ℕ) → Marking k g (visit t ∷ []) → Steady g (full marking g t)
marking_steady k g t I =
    let J : Progress → List Task → Type 0 = λ z Q. Steady g z in
    let K = keeps_and k.links marking (Marking k) J (open_room ungray) (marking_keeps k) (record {
      empty = λ z Q i j. j;
      follows = λ z u Q a i j. record { candidates_same = j.candidates_same; rows_same = j.rows_same };
      begins = λ z u Q a i j. record { candidates_same = j.candidates_same; rows_same = j.rows_same };
      passes = λ z u Q a i j. j;
      leaves = λ z u Q i j. j;
    }) in
    let start : Steady g g = record { candidates_same = refl; rows_same = refl } in
    (walk_keeps k.links marking (λ z Q. Marking k z Q × J z Q) (open_room ungray) K (suc (length g.store.rows)) g t []
    (omega (arith, K.most g (visit t ∷ []) (I, start))) (I, start)).fits.1
