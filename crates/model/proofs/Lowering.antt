-- A release from its start to its end: from a lawful store that owes one reference to a lawful store.
use Rattle.std.proofs.Common.{◌≡◌, ℕ, zero, suc, ◌+◌, ◌-◌, ◌<◌, ◌≤◌, Bool, true, false, eqb, ◌≢◌, ◌⊎◌, [], ◌∷◌, length, get_or, sym, refl, ap, ◌∙◌, subst, inl, inr, ⊎_elim, arith}
use Rattle.std.proofs.lemmas.Bool.{cases_eq, eqb-true, ne_eqb}
use Rattle.kinds.specs.Rows.{Shape, blank}
use Rattle.model.specs.State.{State, Within, head, row, no_row}
use Rattle.model.specs.Headers.{free_header}
use Rattle.model.specs.Lawful.{Lawful, From, Used, Held, Links, Reachable, Spent, Candidate, naming, named}
use Rattle.model.specs.Walk.{Progress, full}
use Rattle.model.specs.Walk.Task.{follow, visit}
use Rattle.model.specs.Release.{releasing, lower}
use Rattle.model.specs.Releasing.{live_named, Start, Releasing, counted_room}
use Rattle.model.proofs.Paths.{from_more, from_either}
use Rattle.model.proofs.Counting.{naming_blank, naming_has}
use Rattle.model.proofs.LiveCounting.{live_le, live_all}
use Rattle.model.proofs.Releases.{counted_used, release_keeps}
use Rattle.model.proofs.Walks.{walk_keeps}

-- where whoever has no count is blank, all links are those of the records that have a count
pub live_named_all :
    (k : Shape) (s : State) → length s.heads ≡ length s.rows → ((r : ℕ) → Within s r → (head s r).count ≡ 0 → row s r ≡ blank k) →
    (t : ℕ) → 1 ≤ t → live_named s t ≡ named s t
live_named_all k s fit blanks t a =
    live_all t s.heads s.rows fit
    (λ i l e.
    let w : Within s (i + 1) = (omega arith, omega arith) in
    let j : (i + 1) - 1 ≡ i = omega arith in
    let c : (head s (i + 1)).count ≡ 0 = eqb-true (head s (i + 1)).count 0 (ap (λ x. eqb (get_or s.heads x (free_header 0)).count 0) j ∙ e) in
    ap (λ x. naming t (get_or s.rows x no_row).links) (sym j) ∙ ap (λ x. naming t x.links) (blanks (i + 1) w c)
    ∙ naming_blank t k.links a)

-- whoever has no count has no links
module _ (k : Shape) (s : State) (law : Lawful k s) where
  pub uncounted_blank : (r : ℕ) → Within s r → (head s r).count ≡ 0 → row s r ≡ blank k
  uncounted_blank r w c = by_use (head s r).used refl
    where
      by_use : (b : Bool) → (head s r).used ≡ b → row s r ≡ blank k
      by_use true e = ((law.each r w).spent_waits e c).0
      by_use false e = ((law.each r w).settled.free_blank e).0

  pub source_counted : (r t : ℕ) → Within s r → Links s r t → 0 < (head s r).count
  source_counted r t w l = by_count (head s r).count refl
    where
      by_count : (n : ℕ) → (head s r).count ≡ n → 0 < (head s r).count
      by_count zero e =
          let b = ap (λ x. naming t x.links) (uncounted_blank r w e) in
          let m = naming_has (row s r).links l.1.0 t l.0 l.1.1 in
          absurd (let no : ⊥ = omega (arith, b, m, naming_blank t k.links l.0) in no)
      by_count (suc n) e = omega (arith, e)

  -- all links are those of the records that have a count
  pub live_is_named : (t : ℕ) → 1 ≤ t → live_named s t ≡ named s t
  live_is_named = live_named_all k s law.heads_fit uncounted_blank

-- With nothing left to do, the store is lawful.
module _ (k : Shape) (g : Progress) (I : Releasing k g []) where
  end_blank : (r : ℕ) → Within g.store r → (head g.store r).count ≡ 0 → row g.store r ≡ blank k
  end_blank r w c = by_use (head g.store r).used refl
    where
      by_use : (b : Bool) → (head g.store r).used ≡ b → row g.store r ≡ blank k
      by_use true e = elim (I.spent_waits r w e c) [ inl a ↦ a.0 | inr b ↦ absurd b ]
      by_use false e = ((I.each r w).free_blank e).0

  end_named : (t : ℕ) → 1 ≤ t → live_named g.store t ≡ named g.store t
  end_named = live_named_all k g.store I.heads_fit end_blank

  end_target : (r t : ℕ) → Within g.store r → Links g.store r t → Used g.store t
  end_target r t w l =
      let inside = I.links_within r t w l in
      let m = naming_has (row g.store r).links l.1.0 t l.0 l.1.1 in
      let n = by_count (head g.store r).count refl in (
        inside,
        counted_used k (head g.store t) (row g.store t) (I.each t inside)
            (omega (arith, I.counts t inside, m, live_le t g.store.heads g.store.rows (r - 1) (omega (arith, w, I.heads_fit)) (omega (arith, w)) n)),
      )
    where
      by_count : (n : ℕ) → (head g.store r).count ≡ n → eqb (head g.store r).count 0 ≡ false
      by_count zero e =
          let b = ap (λ x. naming t x.links) (end_blank r w e) in
          let m = naming_has (row g.store r).links l.1.0 t l.0 l.1.1 in
          absurd (let no : ⊥ = omega (arith, b, m, naming_blank t k.links l.0) in no)
      by_count (suc n) e = ne_eqb (head g.store r).count 0 (λ z. omega (arith, e, z))

  end_start : (r : ℕ) → Start g.store [] r → Held g.store r ⊎ Candidate g.store r
  end_start r (inl a) = inl a
  end_start r (inr (inl a)) = inr a
  end_start r (inr (inr (inl a))) = absurd (let no : ⊥ = omega (arith, a.1) in no)
  end_start r (inr (inr (inr a))) = absurd a

  end_cover : (r : ℕ) → Used g.store r → Reachable g.store r ⊎ (Spent g.store r ⊎ From (Candidate g.store) (Links g.store) r)
  end_cover r u = by_count (head g.store r).count refl
    where
      by_count :
          (n : ℕ) → (head g.store r).count ≡ n →
          Reachable g.store r ⊎ (Spent g.store r ⊎ From (Candidate g.store) (Links g.store) r)
      by_count zero e = inr (inl (u, e))
      by_count (suc n) e =
          elim (from_either {Q = Held g.store} {R = Candidate g.store} end_start
          (from_more {Q = Start g.store []} {On = Links g.store} (λ _ a. a) (λ _ _ l. l.1.1) (I.cover r u.0 (omega (arith, e))))) [
            | inl a ↦ inl a
            | inr b ↦ inr (inr b)
          ]

  pub lawful_end : Lawful k g.store
  lawful_end = record {
    few = I.few;
    heads_fit = I.heads_fit;
    each = λ r w. record {
      settled = I.each r w;
      coloured = I.coloured r w;
      spent_waits = λ u c. elim (I.spent_waits r w u c) [ inl a ↦ a | inr b ↦ absurd b ];
    };
    links_used = end_target;
    listed = I.listed;
    listed_within = I.listed_within;
    chain = I.chain;
    counts = λ r w. omega (arith, I.counts r w, end_named r w.0);
    cover = end_cover;
  }

-- What is owed to record t is paid: the store is lawful again.
pub lower_walked : (k : Shape) (g : Progress) (t : ℕ) → t ≢ 0 → lower k g t ≡ full (releasing k) ((releasing k).follow g t) t
lower_walked k g t n =
    ap (λ b. elim b as (λ _. Progress) [ true ↦ g | false ↦ full (releasing k) ((releasing k).follow g t) t ]) (ne_eqb t 0 n)

pub lower_nothing : (k : Shape) (g : Progress) → lower k g 0 ≡ g
lower_nothing k g = refl

pub lawful_lower : (k : Shape) (g : Progress) (t : ℕ) → Releasing k g (follow t ∷ []) → Lawful k (lower k g t).store
lawful_lower k g t I = ⊎_elim
    (λ e.
    let at_zero : lower k g t ≡ g = ap (lower k g) e in
    let J : Releasing k g (follow 0 ∷ []) = subst (λ x. Releasing k g (follow x ∷ [])) e I in
    subst (λ x. Lawful k x.store) (sym at_zero) (lawful_end k g ((release_keeps k).empty g [] J).fits))
    (λ n.
    let K = release_keeps k in
    let f = K.follows g t [] n I in
    let y = (releasing k).follow g t in
    let w = walk_keeps k.links (releasing k) (Releasing k) counted_room K (suc (length y.store.rows)) y t [] (omega (arith, K.most y (visit t ∷ []) f.fits)) f.fits in
    subst (λ x. Lawful k x.store) (sym (lower_walked k g t n)) (lawful_end k (full (releasing k) y t) w.fits))
    (cases_eq t 0)
