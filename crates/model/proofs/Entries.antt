-- A walk enters no record twice, and the other laws of every walk; and release is such a walk.
use Rattle.std.proofs.Common.{◌≡◌, ℕ, zero, suc, ◌+◌, ◌<◌, ◌≤◌, true, false, ◌≢◌, List, [], ◌∷◌, ◌++◌, map, length, sym, refl, ap, subst, ⊎_elim, arith}
use Rattle.std.proofs.lemmas.Bool.{cases_Bool, cases_eq, ne_eqb}
use Rattle.model.specs.Lawful.{naming}
use Rattle.model.specs.Walk.{Progress, Rule, runs, walk, Task, Keeps}
use Rattle.model.specs.Walk.Task.{follow, visit, leave}
use Rattle.model.specs.Entering.{along, entered, Laws, Opens}
use Rattle.model.proofs.Counting.{naming_cons}
use Rattle.model.proofs.Walks.{ties, link, runs_none, runs_link, runs_empty, runs_append, walk_enter, walk_pass, walk_keeps, walk_enough, runs_keeps}

naming_append : (r : ℕ) (us vs : List ℕ) → naming r (us ++ vs) ≡ naming r us + naming r vs
naming_append r [] vs = omega arith
naming_append r (u ∷ us) vs =
    omega (arith, naming_cons r u (us ++ vs), naming_cons r u us, naming_append r us vs)

-- Equations of `along` and `entered`.
module _ (f : Progress → ℕ → Progress) (e : Progress → ℕ → List ℕ) where
  along_none : (g : Progress) → along f e g [] ≡ []
  unfolding along
  along_none g = refl

  along_empty : (g : Progress) (us : List ℕ) → along f e g (0 ∷ us) ≡ along f e g us
  unfolding along
  along_empty g us = refl

  along_link : (g : Progress) (u : ℕ) (us : List ℕ) → u ≢ 0 → along f e g (u ∷ us) ≡ e g u ++ along f e (f g u) us
  unfolding along
  along_link g u us h = ap (λ b. elim b [ true ↦ along f e g us | false ↦ e g u ++ along f e (f g u) us ]) (ne_eqb u 0 h)

module _ (R : Rule) where
  -- the records entered from a link on
  abbrev beyond : ℕ → Progress → ℕ → List ℕ
  beyond d g u = entered R d (R.follow g u) u

  entered_enter :
      (d : ℕ) (g : Progress) (t : ℕ) → R.enters g t ≡ true →
      entered R (suc d) g t ≡ t ∷ along (link R d) (beyond d) (R.enter g t) (ties (R.enter g t) t)
  unfolding entered
  entered_enter d g t h =
      ap
      (λ b. elim b [ true ↦ t ∷ along (link R d) (beyond d) (R.enter g t) (ties (R.enter g t) t) | false ↦ [] ])
      h

  entered_pass : (d : ℕ) (g : Progress) (t : ℕ) → R.enters g t ≡ false → entered R (suc d) g t ≡ []
  unfolding entered
  entered_pass d g t h =
      ap
      (λ b. elim b [ true ↦ t ∷ along (link R d) (beyond d) (R.enter g t) (ties (R.enter g t) t) | false ↦ [] ])
      h

module _ (p : ℕ) (R : Rule) (I : Progress → List Task → Type 0) (room : Progress → List Task → ℕ) (k : Keeps p R I room) (left : Progress → List Task → ℕ → ℕ) (o : Opens R I left) (r : ℕ) (low : 1 ≤ r) where
  -- how often r is entered on the way is what it can be entered less afterwards
  abbrev Spends : ℕ → Progress → ℕ → List Task → Type 0
  Spends d g t Q = naming r (entered R d g t) + left (walk R d g t) Q r ≤ left g (visit t ∷ Q) r

  -- the same of a list of links
  abbrev SpendsAlong : ℕ → List ℕ → Progress → List Task → Type 0
  SpendsAlong d us g Q =
      naming r (along (link R d) (beyond R d) g us) + left (runs (link R d) g us) Q r ≤ left g (map follow us ++ Q) r

  empty_spends :
      (d : ℕ) (us : List ℕ) (g : Progress) (Q : List Task) →
      ((y : Progress) → room y (map follow us ++ Q) < d → I y (map follow us ++ Q) → SpendsAlong d us y Q) →
      room g (map follow (0 ∷ us) ++ Q) < d → I g (map follow (0 ∷ us) ++ Q) → SpendsAlong d (0 ∷ us) g Q
  empty_spends d us g Q more h f =
      let S = map follow us ++ Q in
      let a = k.empty g S f in
      let b = more g (omega (arith, a.fewer, h)) a.fits in
      rw (runs_empty (link R d) g us, along_empty (link R d) (beyond R d) g us) (omega (arith, b, o.empty g S f r low))

  link_spends :
      (d : ℕ) →
      ((g : Progress) (t : ℕ) (Q : List Task) → room g (visit t ∷ Q) < d → I g (visit t ∷ Q) → Spends d g t Q) →
      (u : ℕ) (us : List ℕ) (g : Progress) (Q : List Task) →
      ((y : Progress) → room y (map follow us ++ Q) < d → I y (map follow us ++ Q) → SpendsAlong d us y Q) →
      room g (map follow (u ∷ us) ++ Q) < d → I g (map follow (u ∷ us) ++ Q) → u ≢ 0 → SpendsAlong d (u ∷ us) g Q
  link_spends d one u us g Q more h f ne =
      let S = map follow us ++ Q in
      let y = R.follow g u in
      let a = k.follows g u S ne f in
      let b = one y u S (omega (arith, a.fewer, h)) a.fits in
      let w = walk_keeps p R I room k d y u S (omega (arith, a.fewer, h)) a.fits in
      let c = more (walk R d y u) (omega (arith, a.fewer, h, w.fewer)) w.fits in
      rw (runs_link (link R d) g u us ne, along_link (link R d) (beyond R d) g u us ne)
      (omega (
        arith,
        naming_append r (beyond R d g u) (along (link R d) (beyond R d) (link R d g u) us),
        b,
        c,
        o.follows g u S ne f r low,
      ))

  along_spends :
      (d : ℕ) →
      ((g : Progress) (t : ℕ) (Q : List Task) → room g (visit t ∷ Q) < d → I g (visit t ∷ Q) → Spends d g t Q) →
      (us : List ℕ) (Q : List Task) (g : Progress) → room g (map follow us ++ Q) < d → I g (map follow us ++ Q) →
      SpendsAlong d us g Q
  along_spends d one [] Q g h f = rw (runs_none (link R d) g, along_none (link R d) (beyond R d) g) (omega arith)
  along_spends d one (u ∷ us) Q g h f = ⊎_elim
      (λ z. subst (λ x. SpendsAlong d (x ∷ us) g Q) (sym z)
      (empty_spends d us g Q (along_spends d one us Q)
      (subst (λ x. room g (map follow (x ∷ us) ++ Q) < d) z h) (subst (λ x. I g (map follow (x ∷ us) ++ Q)) z f)))
      (λ ne. link_spends d one u us g Q (along_spends d one us Q) h f ne)
      (cases_eq u 0)

  walk_spends : (d : ℕ) (g : Progress) (t : ℕ) (Q : List Task) → room g (visit t ∷ Q) < d → I g (visit t ∷ Q) → Spends d g t Q
  walk_spends zero g t Q h f = let no : ⊥ = omega (arith, h) in absurd no
  walk_spends (suc d) g t Q h f = ⊎_elim
      (λ e.
      let y = R.enter g t in
      let a = k.begins g t Q e f in
      let l = k.lowers g t Q e f in
      let b = along_spends d (walk_spends d) (ties y t) (leave t ∷ Q) y (omega (arith, l, h)) a.fits in
      let w = runs_keeps p R I room k d (walk_keeps p R I room k d) (ties y t) y (leave t ∷ Q) (omega (arith, l, h)) a.fits in
      let c = o.leaves (runs (link R d) y (ties y t)) t Q w.fits r low in
      rw (walk_enter R d g t e, entered_enter R d g t e)
      (omega (arith, naming_cons r t (along (link R d) (beyond R d) y (ties y t)), b, c, o.begins g t Q e f r low)))
      (λ e. rw (walk_pass R d g t e, entered_pass R d g t e) (omega (arith, o.passes g t Q e f r low)))
      (cases_Bool (R.enters g t))

pub walk_laws :
    (p : ℕ) (R : Rule) (I : Progress → List Task → Type 0) (room : Progress → List Task → ℕ) → Keeps p R I room →
    (left : Progress → List Task → ℕ → ℕ) → Opens R I left →
    (g : Progress) (t : ℕ) → I g (visit t ∷ []) → Laws R g t
walk_laws p R I room k left o g t f =
    let n = length g.store.rows in
    let m = k.most g (visit t ∷ []) f in
    record {
      in_turn = λ d y us vs. runs_append (link R d) y us vs;
      to_its_end = λ d h. walk_enough p R I room k d (suc n) g t [] (omega (arith, m, h)) (omega (arith, m)) f;
      enters_once = λ r low.
          omega (
            arith,
            walk_spends p R I room k left o r low (suc n) g t [] (omega (arith, m)) f,
            o.single g (visit t ∷ []) r,
          );
    }
