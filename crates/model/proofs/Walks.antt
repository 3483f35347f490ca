-- The walk as steps over the tasks that are still to be done.
use Rattle.std.proofs.Common.{◌≡◌, ℕ, zero, suc, pred, ◌<◌, ◌≤◌, true, false, eqb, ◌≢◌, List, [], ◌∷◌, ◌++◌, map, length, sym, refl, ap, ◌∙◌, subst, ⊎_elim, arith}
use Rattle.std.proofs.lemmas.Bool.{cases_Bool, cases_eq, ne_eqb}
use Rattle.model.specs.State.{row}
use Rattle.model.specs.Walk.{Progress, Rule, runs, walk, Task, Turned, Left, Keeps}
use Rattle.model.specs.Walk.Task.{follow, visit, leave}

-- the links of record t
abbrev pub ties : Progress → ℕ → List ℕ
ties g t = (row g.store t).links

-- a link to u followed, with the walk from u at most d records deep
abbrev pub link : Rule → ℕ → Progress → ℕ → Progress
link R d g u = walk R d (R.follow g u) u

-- what is to be done of record t once it is entered, and then Q
abbrev pub opened : Progress → ℕ → List Task → List Task
opened g t Q = map follow (ties g t) ++ (leave t ∷ Q)

-- Equations of `runs` and `walk`, one for each of their ways.
module _ (f : Progress → ℕ → Progress) where
  pub runs_none : (g : Progress) → runs f g [] ≡ g
  unfolding runs
  runs_none g = refl

  pub runs_empty : (g : Progress) (us : List ℕ) → runs f g (0 ∷ us) ≡ runs f g us
  unfolding runs
  runs_empty g us = refl

  pub runs_link : (g : Progress) (u : ℕ) (us : List ℕ) → u ≢ 0 → runs f g (u ∷ us) ≡ runs f (f g u) us
  unfolding runs
  runs_link g u us h = ap (λ b. runs f (elim b [ true ↦ g | false ↦ f g u ]) us) (ne_eqb u 0 h)

  -- each link is wholly finished before the next
  pub runs_append : (g : Progress) (us vs : List ℕ) → runs f g (us ++ vs) ≡ runs f (runs f g us) vs
  unfolding runs
  runs_append g [] vs = refl
  runs_append g (u ∷ us) vs = runs_append (elim (eqb u 0) [ true ↦ g | false ↦ f g u ]) us vs

module _ (R : Rule) where
  pub walk_zero : (g : Progress) (t : ℕ) → walk R zero g t ≡ g
  unfolding walk
  walk_zero g t = refl

  pub walk_enter :
      (d : ℕ) (g : Progress) (t : ℕ) → R.enters g t ≡ true →
      walk R (suc d) g t ≡ R.leave (runs (link R d) (R.enter g t) (ties (R.enter g t) t)) t
  unfolding walk
  walk_enter d g t h =
      ap
      (λ b. elim b [ true ↦ R.leave (runs (link R d) (R.enter g t) (ties (R.enter g t) t)) t | false ↦ R.pass g t ])
      h

  pub walk_pass : (d : ℕ) (g : Progress) (t : ℕ) → R.enters g t ≡ false → walk R (suc d) g t ≡ R.pass g t
  unfolding walk
  walk_pass d g t h =
      ap
      (λ b. elim b [ true ↦ R.leave (runs (link R d) (R.enter g t) (ties (R.enter g t) t)) t | false ↦ R.pass g t ])
      h

  -- What is left when all tasks are done; d is the depth left to the innermost ones. It rises by one where a record is
  -- left.
  pub settle : ℕ → List Task → Progress → Progress
  settle d [] g = g
  settle d (follow u ∷ Q) g = settle d Q (runs (link R d) g (u ∷ []))
  settle d (visit u ∷ Q) g = settle d Q (walk R d g u)
  settle d (leave u ∷ Q) g = settle (suc d) Q (R.leave g u)

  pub settle_none : (d : ℕ) (g : Progress) → settle d [] g ≡ g
  unfolding settle
  settle_none d g = refl

  settle_empty : (d : ℕ) (Q : List Task) (g : Progress) → settle d (follow 0 ∷ Q) g ≡ settle d Q g
  unfolding settle
  settle_empty d Q g = ap (settle d Q) (runs_empty (link R d) g [] ∙ runs_none (link R d) g)

  settle_follow :
      (d u : ℕ) (Q : List Task) (g : Progress) → u ≢ 0 → settle d (follow u ∷ Q) g ≡ settle d (visit u ∷ Q) (R.follow g u)
  unfolding settle
  settle_follow d u Q g h = ap (settle d Q) (runs_link (link R d) g u [] h ∙ runs_none (link R d) (link R d g u))

  settle_visit : (d u : ℕ) (g : Progress) → settle d (visit u ∷ []) g ≡ walk R d g u
  unfolding settle
  settle_visit d u g = refl

  settle_links :
      (d : ℕ) (us : List ℕ) (Q : List Task) (g : Progress) → settle d (map follow us ++ Q) g ≡ settle d Q (runs (link R d) g us)
  unfolding settle
  settle_links d [] Q g = ap (settle d Q) (sym (runs_none (link R d) g))
  settle_links d (u ∷ us) Q g =
      settle_links d us Q (runs (link R d) g (u ∷ [])) ∙ ap (settle d Q) (sym (runs_append (link R d) g (u ∷ []) us))

  settle_enter :
      (d u : ℕ) (Q : List Task) (g : Progress) → R.enters g u ≡ true →
      settle (suc d) (visit u ∷ Q) g ≡ settle d (opened (R.enter g u) u Q) (R.enter g u)
  unfolding settle
  settle_enter d u Q g h =
      ap (settle (suc d) Q) (walk_enter d g u h) ∙ sym (settle_links d (ties (R.enter g u) u) (leave u ∷ Q) (R.enter g u))

  settle_pass :
      (d u : ℕ) (Q : List Task) (g : Progress) → R.enters g u ≡ false →
      settle (suc d) (visit u ∷ Q) g ≡ settle (suc d) Q (R.pass g u)
  unfolding settle
  settle_pass d u Q g h = ap (settle (suc d) Q) (walk_pass d g u h)

  settle_leave : (d u : ℕ) (Q : List Task) (g : Progress) → settle d (leave u ∷ Q) g ≡ settle (suc d) Q (R.leave g u)
  unfolding settle
  settle_leave d u Q g = refl

-- The tasks Q are to be done from g on and will end in z; there are n records, and d is the depth left to the innermost
-- tasks, more than the records that can still be entered.
pub record Going (R : Rule) (I : Progress → List Task → Type 0) (room : Progress → List Task → ℕ) (z : Progress) (n d : ℕ) (Q : List Task) (g : Progress) : Type 0 where
  pub settles : settle R d Q g ≡ z
  pub fits : I g Q
  pub size : length g.store.rows ≡ n
  pub deep : room g Q < d

-- Each step takes the tasks on; y is the store after it.
module _ (p : ℕ) (R : Rule) (I : Progress → List Task → Type 0) (room : Progress → List Task → ℕ) (k : Keeps p R I room) (n : ℕ) where
  pub go_visit :
      (d u : ℕ) (g : Progress) → length g.store.rows ≡ n → I g (visit u ∷ []) → room g (visit u ∷ []) < d →
      Going R I room (walk R d g u) n d (visit u ∷ []) g
  go_visit d u g s f h = record { settles = settle_visit R d u g; fits = f; size = s; deep = h }

  module _ (z : Progress) (Q : List Task) (g : Progress) where
    pub go_empty : (d : ℕ) → Going R I room z n d (follow 0 ∷ Q) g → Going R I room z n d Q g
    go_empty d w =
        let t = k.empty g Q w.fits in
        record {
          settles = sym (settle_empty R d Q g) ∙ w.settles;
          fits = t.fits;
          size = w.size;
          deep = omega (arith, w.deep, t.fewer);
        }

    pub go_follow :
        (d u : ℕ) (y : Progress) → u ≢ 0 → y ≡ R.follow g u →
        Going R I room z n d (follow u ∷ Q) g → Going R I room z n d (visit u ∷ Q) y
    go_follow d u y h e w =
        let t = k.follows g u Q h w.fits in
        rw e (record {
          settles = sym (settle_follow R d u Q g h) ∙ w.settles;
          fits = t.fits;
          size = ap length t.rows ∙ w.size;
          deep = omega (arith, w.deep, t.fewer);
        })

    pub go_pass :
        (d u : ℕ) (y : Progress) → R.enters g u ≡ false → y ≡ R.pass g u →
        Going R I room z n d (visit u ∷ Q) g → Going R I room z n d Q y
    go_pass zero u y h e w = let no : ⊥ = omega (arith, w.deep) in absurd no
    go_pass (suc d) u y h e w =
        let t = k.passes g u Q h w.fits in
        rw e (record {
          settles = sym (settle_pass R d u Q g h) ∙ w.settles;
          fits = t.fits;
          size = ap length t.rows ∙ w.size;
          deep = omega (arith, w.deep, t.fewer);
        })

    pub go_enter :
        (d u : ℕ) (y : Progress) → R.enters g u ≡ true → y ≡ R.enter g u →
        Going R I room z n d (visit u ∷ Q) g → Going R I room z n (pred d) (opened y u Q) y
    go_enter zero u y h e w = let no : ⊥ = omega (arith, w.deep) in absurd no
    go_enter (suc d) u y h e w =
        let t = k.begins g u Q h w.fits in
        let l = k.lowers g u Q h w.fits in
        rw e (record {
          settles = sym (settle_enter R d u Q g h) ∙ w.settles;
          fits = t.fits;
          size = ap length t.rows ∙ w.size;
          deep = omega (arith, w.deep, l);
        })

    pub go_leave :
        (d u : ℕ) (y : Progress) → y ≡ R.leave g u →
        Going R I room z n d (leave u ∷ Q) g → Going R I room z n (suc d) Q y
    go_leave d u y e w =
        let t = k.leaves g u Q w.fits in
        rw e (record {
          settles = sym (settle_leave R d u Q g) ∙ w.settles;
          fits = t.fits;
          size = t.size ∙ w.size;
          deep = omega (arith, w.deep, t.fewer);
        })

-- A whole walk turns g with the tasks P into z with the tasks Q: what the steps rely on holds again, no more records are
-- left to enter, and there are as many records as before.
pub record Walked (I : Progress → List Task → Type 0) (room : Progress → List Task → ℕ) (g : Progress) (P : List Task) (z : Progress) (Q : List Task) : Type 0 where
  pub fits : I z Q
  pub fewer : room z Q ≤ room g P
  pub size : length z.store.rows ≡ length g.store.rows

module _ (p : ℕ) (R : Rule) (I : Progress → List Task → Type 0) (room : Progress → List Task → ℕ) (k : Keeps p R I room) where
  walked_none : (g : Progress) (Q : List Task) → I g Q → Walked I room g Q g Q
  walked_none g Q f = record { fits = f; fewer = omega arith; size = refl }

  turned_walked : {g z : Progress} {P Q : List Task} → Turned I room g P z Q → Walked I room g P z Q
  turned_walked t = record { fits = t.fits; fewer = t.fewer; size = ap length t.rows }

  left_walked : {t : ℕ} {g z : Progress} {P Q : List Task} → Left I room t g P z Q → Walked I room g P z Q
  left_walked t = record { fits = t.fits; fewer = t.fewer; size = t.size }

  walked_on :
      {g y z : Progress} {P Q T : List Task} → Walked I room g P y Q → Walked I room y Q z T → Walked I room g P z T
  walked_on a b = record { fits = b.fits; fewer = omega (arith, a.fewer, b.fewer); size = b.size ∙ a.size }

  -- one link, if the walk from it keeps what the steps rely on
  link_keeps :
      (d : ℕ) →
      ((g : Progress) (t : ℕ) (Q : List Task) → room g (visit t ∷ Q) < d → I g (visit t ∷ Q) →
      Walked I room g (visit t ∷ Q) (walk R d g t) Q) →
      (u : ℕ) (g : Progress) (Q : List Task) → room g (follow u ∷ Q) < d → I g (follow u ∷ Q) →
      Walked I room g (follow u ∷ Q) (runs (link R d) g (u ∷ [])) Q
  link_keeps d one u g Q h f = ⊎_elim
      (λ e.
      subst (λ x. Walked I room g (follow x ∷ Q) (runs (link R d) g (x ∷ [])) Q) (sym e)
      (rw (runs_empty (link R d) g [], runs_none (link R d) g) (turned_walked (k.empty g Q (subst (λ x. I g (follow x ∷ Q)) e f)))))
      (λ ne.
      let a = k.follows g u Q ne f in
      let b = one (R.follow g u) u Q (omega (arith, a.fewer)) a.fits in
      rw (runs_link (link R d) g u [] ne, runs_none (link R d) (link R d g u)) (walked_on (turned_walked a) b))
      (cases_eq u 0)

  pub runs_keeps :
      (d : ℕ) →
      ((g : Progress) (t : ℕ) (Q : List Task) → room g (visit t ∷ Q) < d → I g (visit t ∷ Q) →
      Walked I room g (visit t ∷ Q) (walk R d g t) Q) →
      (us : List ℕ) (g : Progress) (Q : List Task) → room g (map follow us ++ Q) < d → I g (map follow us ++ Q) →
      Walked I room g (map follow us ++ Q) (runs (link R d) g us) Q
  runs_keeps d one [] g Q h f = rw (runs_none (link R d) g) (walked_none g Q f)
  runs_keeps d one (u ∷ us) g Q h f =
      let a = link_keeps d one u g (map follow us ++ Q) h f in
      let b = runs_keeps d one us (runs (link R d) g (u ∷ [])) Q (omega (arith, a.fewer)) a.fits in
      rw (runs_append (link R d) g (u ∷ []) us) (walked_on a b)

  -- What the steps rely on holds after the walk too.
  pub walk_keeps :
      (d : ℕ) (g : Progress) (t : ℕ) (Q : List Task) → room g (visit t ∷ Q) < d → I g (visit t ∷ Q) →
      Walked I room g (visit t ∷ Q) (walk R d g t) Q
  walk_keeps zero g t Q h f = let no : ⊥ = omega arith in absurd no
  walk_keeps (suc d) g t Q h f = ⊎_elim
      (λ e.
      let y = R.enter g t in
      let a = k.begins g t Q e f in
      let l = k.lowers g t Q e f in
      let b = runs_keeps d (walk_keeps d) (ties y t) y (leave t ∷ Q) (omega (arith, l)) a.fits in
      let c = k.leaves (runs (link R d) y (ties y t)) t Q b.fits in
      rw (walk_enter R d g t e) (walked_on (turned_walked a) (walked_on b (left_walked c))))
      (λ e. rw (walk_pass R d g t e) (turned_walked (k.passes g t Q e f)))
      (cases_Bool (R.enters g t))

  -- The depth is never used up: a larger one changes nothing.
  link_enough :
      (d e : ℕ) →
      ((g : Progress) (t : ℕ) (Q : List Task) → room g (visit t ∷ Q) < d → room g (visit t ∷ Q) < e → I g (visit t ∷ Q) →
      walk R d g t ≡ walk R e g t) →
      (u : ℕ) (g : Progress) (Q : List Task) → room g (follow u ∷ Q) < d → room g (follow u ∷ Q) < e → I g (follow u ∷ Q) →
      runs (link R d) g (u ∷ []) ≡ runs (link R e) g (u ∷ [])
  link_enough d e one u g Q h i f = ⊎_elim
      (λ z. subst (λ x. runs (link R d) g (x ∷ []) ≡ runs (link R e) g (x ∷ [])) (sym z)
      (runs_empty (link R d) g [] ∙ runs_none (link R d) g ∙ sym (runs_empty (link R e) g [] ∙ runs_none (link R e) g)))
      (λ ne.
      let a = k.follows g u Q ne f in
      runs_link (link R d) g u [] ne ∙ runs_none (link R d) (link R d g u) ∙
      one (R.follow g u) u Q (omega (arith, a.fewer)) (omega (arith, a.fewer)) a.fits ∙
      sym (runs_link (link R e) g u [] ne ∙ runs_none (link R e) (link R e g u)))
      (cases_eq u 0)

  runs_enough :
      (d e : ℕ) →
      ((g : Progress) (t : ℕ) (Q : List Task) → room g (visit t ∷ Q) < d → room g (visit t ∷ Q) < e → I g (visit t ∷ Q) →
      walk R d g t ≡ walk R e g t) →
      (us : List ℕ) (g : Progress) (Q : List Task) → room g (map follow us ++ Q) < d → room g (map follow us ++ Q) < e →
      I g (map follow us ++ Q) → runs (link R d) g us ≡ runs (link R e) g us
  runs_enough d e one [] g Q h i f = runs_none (link R d) g ∙ sym (runs_none (link R e) g)
  runs_enough d e one (u ∷ us) g Q h i f =
      let y = runs (link R d) g (u ∷ []) in
      let a = link_keeps d (walk_keeps d) u g (map follow us ++ Q) h f in
      let b = runs_enough d e one us y Q (omega (arith, a.fewer)) (omega (arith, a.fewer)) a.fits in
      runs_append (link R d) g (u ∷ []) us ∙ b ∙
      ap (λ x. runs (link R e) x us) (link_enough d e one u g (map follow us ++ Q) h i f) ∙
      sym (runs_append (link R e) g (u ∷ []) us)

  pub walk_enough :
      (d e : ℕ) (g : Progress) (t : ℕ) (Q : List Task) → room g (visit t ∷ Q) < d → room g (visit t ∷ Q) < e →
      I g (visit t ∷ Q) → walk R d g t ≡ walk R e g t
  walk_enough zero e g t Q h i f = let no : ⊥ = omega arith in absurd no
  walk_enough (suc d) zero g t Q h i f = let no : ⊥ = omega arith in absurd no
  walk_enough (suc d) (suc e) g t Q h i f = ⊎_elim
      (λ b.
      let y = R.enter g t in
      let a = k.begins g t Q b f in
      let l = k.lowers g t Q b f in
      let c = runs_enough d e (walk_enough d e) (ties y t) y (leave t ∷ Q) (omega (arith, l)) (omega (arith, l)) a.fits in
      walk_enter R d g t b ∙ ap (λ x. R.leave x t) c ∙ sym (walk_enter R e g t b))
      (λ b. walk_pass R d g t b ∙ sym (walk_pass R e g t b))
      (cases_Bool (R.enters g t))

-- A further fact J of the store and the tasks that every step keeps, where I holds.
pub record Also (R : Rule) (I J : Progress → List Task → Type 0) : Type 0 where
  pub empty : (g : Progress) (Q : List Task) → I g (follow 0 ∷ Q) → J g (follow 0 ∷ Q) → J g Q
  pub follows :
      (g : Progress) (t : ℕ) (Q : List Task) → t ≢ 0 → I g (follow t ∷ Q) → J g (follow t ∷ Q) → J (R.follow g t) (visit t ∷ Q)
  pub begins :
      (g : Progress) (t : ℕ) (Q : List Task) → R.enters g t ≡ true → I g (visit t ∷ Q) → J g (visit t ∷ Q) →
      J (R.enter g t) (map follow (row (R.enter g t).store t).links ++ (leave t ∷ Q))
  pub passes :
      (g : Progress) (t : ℕ) (Q : List Task) → R.enters g t ≡ false → I g (visit t ∷ Q) → J g (visit t ∷ Q) → J (R.pass g t) Q
  pub leaves : (g : Progress) (t : ℕ) (Q : List Task) → I g (leave t ∷ Q) → J g (leave t ∷ Q) → J (R.leave g t) Q

module _ (p : ℕ) (R : Rule) (I J : Progress → List Task → Type 0) (room : Progress → List Task → ℕ) where
  turned_also : {g z : Progress} {P Q : List Task} → Turned I room g P z Q → J z Q → Turned (λ x T. I x T × J x T) room g P z Q
  turned_also t j = record { rows = t.rows; fewer = t.fewer; fits = (t.fits, j) }

  -- J can be added to what the steps rely on.
  pub keeps_and : Keeps p R I room → Also R I J → Keeps p R (λ g Q. I g Q × J g Q) room
  keeps_and k j = record {
    wide = λ g Q w. k.wide g Q w.0;
    most = λ g Q w. k.most g Q w.0;
    within = λ g t Q w. k.within g t Q w.0;
    once = λ g t Q w. k.once g t Q w.0;
    empty = λ g Q w. turned_also (k.empty g Q w.0) (j.empty g Q w.0 w.1);
    follows = λ g t Q h w. turned_also (k.follows g t Q h w.0) (j.follows g t Q h w.0 w.1);
    begins = λ g t Q h w. turned_also (k.begins g t Q h w.0) (j.begins g t Q h w.0 w.1);
    lowers = λ g t Q h w. k.lowers g t Q h w.0;
    passes = λ g t Q h w. turned_also (k.passes g t Q h w.0) (j.passes g t Q h w.0 w.1);
    leaves = λ g t Q w.
        let x = k.leaves g t Q w.0 in
        record { size = x.size; others = x.others; fewer = x.fewer; fits = (x.fits, j.leaves g t Q w.0 w.1) };
  }
