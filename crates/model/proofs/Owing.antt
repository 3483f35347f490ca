-- The stores from which a release begins: a lawful store but for one reference that is still counted.
use Rattle.std.proofs.Common.{◌≡◌, ℕ, zero, suc, ◌+◌, ◌-◌, ◌<◌, ◌≤◌, true, cond, eqb, ◌≢◌, ◌⊎◌, List, [], ◌∷◌, length, get_or, set, sym, refl, ap, ◌∙◌, subst, inl, inr, ⊎_elim, arith}
use Rattle.std.proofs.lemmas.List.{length-set, get_or-set_same, get_or-set_other}
use Rattle.std.proofs.lemmas.List.Sums.{sum_by-set}
use Rattle.std.proofs.lemmas.Bool.{cases_eq, both_ways, eqb-true, eq-eqb, ne_eqb}
use Rattle.kinds.specs.Rows.{Row, Shape, blank, with_link}
use Rattle.model.specs.State.{State, Within, head, row, no_row, with_head}
use Rattle.model.specs.Headers.{Header, free_header, raised, held_less}
use Rattle.model.specs.Calls.{started}
use Rattle.model.specs.Lawful.{Lawful, Settled, Coloured, Resting, From, Used, Held, Links, Candidate, Chain, naming, named, once}
use Rattle.model.specs.Lawful.From.{here}
use Rattle.model.specs.Walk.{Task}
use Rattle.model.specs.Walk.Task.{follow}
use Rattle.model.specs.Releasing.{live_named, pending, Start, LiveLink, Busy, Releasing}
use Rattle.model.specs.declared.heads.Colour.TheVariants.{Purple}
use Rattle.model.proofs.Places.{each_head, each_row, head_elsewhere}
use Rattle.model.proofs.Paths.{from_inside}
use Rattle.model.proofs.Counting.{naming_blank, named_with_row}
use Rattle.model.proofs.LiveCounting.{live_same, live_all, pending_hit, pending_miss}
use Rattle.model.proofs.LawfulCalls.{held_used, chain_elsewhere}
use Rattle.model.proofs.Releases.{counted_used}
use Rattle.model.proofs.Lowering.{uncounted_blank, source_counted, live_is_named}

pub used_counted : (k : Shape) (s : State) → Lawful k s → (r : ℕ) → Within s r → 0 < (head s r).count → (head s r).used ≡ true
used_counted k s law r w c = counted_used k (head s r) (row s r) (law.each r w).settled c

-- what a lawful store covers, from where a release may start
module _ (k : Shape) (s : State) (law : Lawful k s) (z : State) (Q : List Task)
    (held : (r : ℕ) → Held s r → Start z Q r) (candidate : (r : ℕ) → Candidate s r → Start z Q r)
    (links : (r t : ℕ) → Within s r → Links s r t → Start z Q t ⊎ LiveLink z r t) where
  pub cover_owing : (r : ℕ) → Used s r → 0 < (head s r).count → From (Start z Q) (LiveLink z) r
  cover_owing r u c = elim (law.cover r u) [
    | inl a ↦ (from_inside (Within s) (λ _ h. h.0) (λ y t w l. (law.links_used y t w l).0) held links a).1
    | inr b ↦ elim b [
      | inl spent ↦ absurd (let no : ⊥ = omega (arith, c, spent.1) in no)
      | inr f ↦ (from_inside (Within s) (λ y x. law.listed_within y x.0) (λ y t w l. (law.links_used y t w l).0) candidate links f).1
    ]
  ]

-- Drop: the hold is gone, and the count still has it.
module _ (k : Shape) (s : State) (x : ℕ) (law : Lawful k s) (held : Held s x) where
  drop_changed :
      (P : ℕ → Header → Type 0) → P x (held_less (head s x)) → ((r : ℕ) → Within s r → r ≢ x → P r (head s r)) →
      (r : ℕ) → Within s r → P r (head (with_head s x (held_less (head s x))) r)
  drop_changed P = each_head s x held.0 (held_less (head s x)) P law.heads_fit

  drop_live : (r : ℕ) → live_named (with_head s x (held_less (head s x))) r ≡ live_named s r
  drop_live r = live_same r s.heads s.rows (x - 1) (held_less (head s x)) refl

  drop_pending : Start (with_head s x (held_less (head s x))) (follow x ∷ []) x
  drop_pending = inr (inr (inl (held.0, omega (arith, pending_hit (with_head s x (held_less (head s x))) x []))))

  pub owing_drop : Releasing k (started (with_head s x (held_less (head s x)))) (follow x ∷ [])
  owing_drop = record {
    few = law.few;
    heads_fit = length-set s.heads (x - 1) (held_less (head s x)) ∙ law.heads_fit;
    each = drop_changed (λ r h. Settled k h (row s r)) (
        let own = (law.each x held.0).settled in
        record {
          links_fit = own.links_fit;
          bytes_fit = own.bytes_fit;
          holds_few = omega (arith, own.holds_few);
          holds_counted = omega (arith, own.holds_counted);
          used_unchained = own.used_unchained;
          free_blank = λ e. absurd (both_ways (head s x).used e (held_used k s x law held).0);
        }) (λ r w _. (law.each r w).settled);
    coloured = drop_changed (λ r h. Coloured h) (law.each x held.0).coloured (λ r w _. (law.each r w).coloured);
    spent_waits =
        drop_changed (λ r h. h.used ≡ true → h.count ≡ 0 → Resting k h (row s r) ⊎ Busy r (follow x ∷ []))
        (λ _ c. absurd (let no : ⊥ = omega (arith, c, (held_used k s x law held).1) in no)) (λ r w _ u c. inl ((law.each r w).spent_waits u c));
    links_within = λ r t w l. (law.links_used r t w l).0;
    listed = drop_changed (λ r h. naming r s.candidates ≡ once h.waiting) (law.listed x held.0) (λ r w _. law.listed r w);
    listed_within = law.listed_within;
    chain = (
      law.chain.0,
      chain_elsewhere s x (held_less (head s x)) held.0 law.chain.0 s.front
          (omega (arith, law.chain.2 x held.0, ap once (held_used k s x law held).0)) law.chain.1,
      drop_changed (λ r h. naming r law.chain.0 + once h.used ≡ 1) (law.chain.2 x held.0) (λ r w _. law.chain.2 r w),
    );
    counts = λ r w.
        drop_changed (λ y h. h.count ≡ h.holds + (live_named (with_head s x (held_less (head s x))) y + pending (with_head s x (held_less (head s x))) y (follow x ∷ [])))
        (omega (arith, law.counts x held.0, held.1, drop_live x, live_is_named k s law x held.0.0, pending_hit (with_head s x (held_less (head s x))) x []))
        (λ y v n. omega (arith, law.counts y v, drop_live y, live_is_named k s law y v.0, pending_miss (with_head s x (held_less (head s x))) x y [] (λ e. n (sym e)))) r w;
    cover = λ r w c.
        let before : 0 < (head s r).count = drop_changed (λ y h. 0 < h.count → 0 < (head s y).count) (λ e. e) (λ _ _ _ e. e) r w c in
        cover_owing k s law (with_head s x (held_less (head s x))) (follow x ∷ [])
        (λ y h. ⊎_elim (λ e. subst (Start (with_head s x (held_less (head s x))) (follow x ∷ [])) (sym e) drop_pending)
        (λ n. inl (h.0, omega (arith, h.1, ap (λ d. d.holds) (head_elsewhere s x held.0 (held_less (head s x)) y h.0.0 n)))) (cases_eq y x))
        (λ y q. inr (inl (q.0, drop_changed (λ u h. (head s u).colour ≡ Purple → h.colour ≡ Purple) (λ e. e) (λ _ _ _ e. e) y (law.listed_within y q.0) q.1)))
        (λ y t v l. inr (v, (drop_changed (λ u h. 0 < (head s u).count → 0 < h.count) (λ e. e) (λ _ _ _ e. e) y v (source_counted k s law y t v l), l)))
        r (w, used_counted k s law r w before) before;
    tidy = (inr held.0, tt);
  }

-- Link: the new target is raised and the link is written, and the count of the old target still has the old link.
-- The heads are those of the store but for the new target's, where there is one.
pub record Lifted (s : State) (t : ℕ) (hs : List Header) : Type 0 where
  pub size : length hs ≡ length s.heads
  pub there : t ≢ 0 → get_or hs (t - 1) (free_header 0) ≡ raised (head s t)
  pub elsewhere : (r : ℕ) → 1 ≤ r → r ≢ t → get_or hs (r - 1) (free_header 0) ≡ head s r

abbrev tied : State → List Header → ℕ → ℕ → ℕ → State
tied s hs x l t = record { heads = hs; rows = set s.rows (x - 1) (with_link (row s x) l t); candidates = s.candidates; front = s.front }

naming_tied : (u l t : ℕ) (ls : List ℕ) → l < length ls → naming u (set ls l t) + once (eqb (get_or ls l 0) u) ≡ naming u ls + once (eqb t u)
naming_tied u l t ls i = sum_by-set (λ y. cond (eqb y u) 1 0) ls l t 0 i

module _ (k : Shape) (s : State) (x l t : ℕ) (law : Lawful k s) (source : Held s x) (target : (t ≡ 0) ⊎ Held s t) (field : l < k.links)
    (hs : List Header) (lift : Lifted s t hs) where
  link_changed :
      (P : ℕ → Header → Type 0) → (Held s t → P t (raised (head s t))) → ((r : ℕ) → Within s r → r ≢ t → P r (head s r)) →
      (r : ℕ) → Within s r → P r (head (tied s hs x l t) r)
  link_changed P at others r w = ⊎_elim
      (λ e. subst (λ y. P y (get_or hs (y - 1) (free_header 0))) (sym e) (elim target [
        | inl z ↦ absurd (let no : ⊥ = omega (arith, w.0, e, z) in no)
        | inr h ↦ subst (P t) (sym (lift.there (λ z. omega (arith, h.0.0, z)))) (at h)
      ]))
      (λ n. subst (P r) (sym (lift.elsewhere r w.0 n)) (others r w n))
      (cases_eq r t)

  link_size : length (set s.rows (x - 1) (with_link (row s x) l t)) ≡ length s.rows
  link_size = length-set s.rows (x - 1) (with_link (row s x) l t)

  link_back : (r : ℕ) → Within (tied s hs x l t) r → Within s r
  link_back r w = (w.0, omega (arith, w.1, link_size))

  link_on : (r : ℕ) → Within s r → Within (tied s hs x l t) r
  link_on r w = (w.0, omega (arith, w.1, link_size))

  link_row :
      (P : ℕ → Row → Type 0) → P x (with_link (row s x) l t) → ((r : ℕ) → Within s r → r ≢ x → P r (row s r)) →
      (r : ℕ) → Within s r → P r (row (tied s hs x l t) r)
  link_row P = each_row s x source.0 (with_link (row s x) l t) P

  link_wide : l < length (row s x).links
  link_wide = omega (arith, field, (law.each x source.0).settled.links_fit)

  -- what record x links to now: the new target, or what it did
  link_links : (r u : ℕ) → Within s r → Links (tied s hs x l t) r u → (u ≡ t) ⊎ Links s r u
  link_links r u w m =
      link_row (λ y d. ((i : ℕ) × (get_or d.links i 0 ≡ u)) → (u ≡ t) ⊎ Links s y u)
      (λ p. ⊎_elim
      (λ e. inl (sym p.1 ∙ ap (λ i. get_or (set (row s x).links l t) i 0) e ∙ get_or-set_same (row s x).links l t 0 link_wide))
      (λ n. inr (m.0, (p.0, sym (get_or-set_other (row s x).links l p.0 t 0 n) ∙ p.1))) (cases_eq p.0 l))
      (λ y _ _ p. inr (m.0, p)) r w m.1

  -- and what it linked to, but for the old target
  link_kept : (r u : ℕ) → Within s r → Links s r u → (u ≡ get_or (row s x).links l 0) ⊎ Links (tied s hs x l t) r u
  link_kept r u w m =
      link_row (λ y d. Links s y u → (u ≡ get_or (row s x).links l 0) ⊎ ((1 ≤ u) × ((i : ℕ) × (get_or d.links i 0 ≡ u))))
      (λ p. ⊎_elim
      (λ e. inl (sym p.1.1 ∙ ap (λ i. get_or (row s x).links i 0) e))
      (λ n. inr (p.0, (p.1.0, get_or-set_other (row s x).links l p.1.0 t 0 n ∙ p.1.1))) (cases_eq p.1.0 l))
      (λ y _ _ p. inr p) r w m

  link_count : (r : ℕ) → Within s r → (head (tied s hs x l t) r).count ≡ (head s r).count + once (eqb t r)
  link_count = link_changed (λ r h. h.count ≡ (head s r).count + once (eqb t r))
      (λ _. ap (λ b. (head s t).count + once b) (sym (eq-eqb t t refl)))
      (λ r _ n. omega (arith, ap once (ne_eqb t r (λ e. n (sym e)))))

  link_blank : (r : ℕ) → Within s r → (head (tied s hs x l t) r).count ≡ 0 → row (tied s hs x l t) r ≡ blank k
  link_blank r w c =
      let before : (head s r).count ≡ 0 = omega (arith, c, link_count r w) in
      link_row (λ y d. (head s y).count ≡ 0 → Within s y → d ≡ blank k)
      (λ z. absurd (let no : ⊥ = omega (arith, z, (held_used k s x law source).1) in no)) (λ y v _ z _. uncounted_blank k s law y v z) r w before w

  link_live : (u : ℕ) → 1 ≤ u → live_named (tied s hs x l t) u ≡ named (tied s hs x l t) u
  link_live u a =
      live_all u hs (set s.rows (x - 1) (with_link (row s x) l t)) (lift.size ∙ law.heads_fit ∙ sym link_size)
      (λ i less e.
      let w : Within s (i + 1) = (omega arith, omega (arith, less, link_size)) in
      let j : (i + 1) - 1 ≡ i = omega arith in
      let c : (head (tied s hs x l t) (i + 1)).count ≡ 0 =
      eqb-true (head (tied s hs x l t) (i + 1)).count 0 (ap (λ y. eqb (get_or hs y (free_header 0)).count 0) j ∙ e) in
      ap (λ y. naming u (get_or (set s.rows (x - 1) (with_link (row s x) l t)) y no_row).links) (sym j)
      ∙ ap (λ d. naming u d.links) (link_blank (i + 1) w c) ∙ naming_blank u k.links a)

  link_counts :
      (r : ℕ) → Within s r →
      (head (tied s hs x l t) r).count
      ≡ (head (tied s hs x l t) r).holds + (live_named (tied s hs x l t) r + pending (tied s hs x l t) r (follow (get_or (row s x).links l 0) ∷ []))
  link_counts r w =
      let holds : (head (tied s hs x l t) r).holds ≡ (head s r).holds = link_changed (λ y h. h.holds ≡ (head s y).holds) (λ _. refl) (λ _ _ _. refl) r w in
      omega (
        arith,
        holds,
        link_count r w,
        law.counts r w,
        link_live r w.0,
        named_with_row s x r (with_link (row s x) l t) source.0,
        naming_tied r l t (row s x).links link_wide,
      )

  link_held : (r : ℕ) → Held s r → Start (tied s hs x l t) (follow (get_or (row s x).links l 0) ∷ []) r
  link_held r h = inl (link_on r h.0, link_changed (λ y d. 0 < (head s y).holds → 0 < d.holds) (λ _ e. e) (λ _ _ _ e. e) r h.0 h.1)

  -- a new target that was a candidate is black now, and held
  link_candidate : (r : ℕ) → Candidate s r → Start (tied s hs x l t) (follow (get_or (row s x).links l 0) ∷ []) r
  link_candidate r c = ⊎_elim
      (λ e. elim target [
        | inl z ↦ absurd (let no : ⊥ = omega (arith, (law.listed_within r c.0).0, e, z) in no)
        | inr h ↦ subst (Start (tied s hs x l t) (follow (get_or (row s x).links l 0) ∷ [])) (sym e) (link_held t h)
      ])
      (λ n. inr (inl (c.0, ap (λ d. d.colour) (lift.elsewhere r (law.listed_within r c.0).0 n) ∙ c.1)))
      (cases_eq r t)

  link_path :
      (r u : ℕ) → Within s r → Links s r u →
      Start (tied s hs x l t) (follow (get_or (row s x).links l 0) ∷ []) u ⊎ LiveLink (tied s hs x l t) r u
  link_path r u w m = elim (link_kept r u w m) [
    | inl e ↦ inl (inr (inr (inl (
      link_on u (law.links_used r u w m).0,
      subst (λ y. 0 < pending (tied s hs x l t) u (follow y ∷ [])) e (omega (arith, pending_hit (tied s hs x l t) u [])),
    ))))
    | inr y ↦ inr (link_on r w, (omega (arith, source_counted k s law r u w m, link_count r w), y))
  ]

  pub owing_link : Releasing k (started (tied s hs x l t)) (follow (get_or (row s x).links l 0) ∷ [])
  owing_link = record {
    few = omega (arith, law.few, link_size);
    heads_fit = lift.size ∙ law.heads_fit ∙ sym link_size;
    each = λ r w. settled r (link_back r w);
    coloured = λ r w. link_changed (λ y h. Coloured h) (λ _. inl refl) (λ y v _. (law.each y v).coloured) r (link_back r w);
    spent_waits = λ r w u c.
        link_row (λ y d. Within s y → (head (tied s hs x l t) y).used ≡ true → (head (tied s hs x l t) y).count ≡ 0 →
        Resting k (head (tied s hs x l t) y) d ⊎ Busy y (follow (get_or (row s x).links l 0) ∷ []))
        (λ v _ z. absurd (let no : ⊥ = omega (arith, z, link_count x v, (held_used k s x law source).1) in no))
        (λ y v _ _. link_changed (λ a h. h.used ≡ true → h.count ≡ 0 → Resting k h (row s a) ⊎ Busy a (follow (get_or (row s x).links l 0) ∷ []))
        (λ _ _ z. absurd (let no : ⊥ = omega (arith, z) in no)) (λ a b _ p q. inl ((law.each a b).spent_waits p q)) y v)
        r (link_back r w) (link_back r w) u c;
    links_within = λ r u w m. elim (link_links r u (link_back r w) m) [
      | inl e ↦ elim target [
        | inl z ↦ absurd (let no : ⊥ = omega (arith, m.0, e, z) in no)
        | inr h ↦ link_on u (subst (Within s) (sym e) h.0)
      ]
      | inr y ↦ link_on u (law.links_used r u (link_back r w) y).0
    ];
    listed = λ r w.
        link_changed (λ y h. naming y s.candidates ≡ once h.waiting) (λ h. law.listed t h.0) (λ y v _. law.listed y v) r (link_back r w);
    listed_within = λ r n. link_on r (law.listed_within r n);
    chain = (
      law.chain.0,
      chained law.chain.0 s.front law.chain.1,
      λ r w.
          link_changed (λ y h. naming y law.chain.0 + once h.used ≡ 1) (λ h. law.chain.2 t h.0) (λ y v _. law.chain.2 y v) r (link_back r w),
    );
    counts = λ r w. link_counts r (link_back r w);
    cover = λ r w c.
        let v = link_back r w in
        ⊎_elim
        (λ e. elim target [
          | inl z ↦ absurd (let no : ⊥ = omega (arith, v.0, e, z) in no)
          | inr h ↦ here (subst (Start (tied s hs x l t) (follow (get_or (row s x).links l 0) ∷ [])) (sym e) (link_held t h))
        ])
        (λ n.
        let before : 0 < (head s r).count = omega (arith, c, link_count r v, ap once (ne_eqb t r (λ e. n (sym e)))) in
        cover_owing k s law (tied s hs x l t) (follow (get_or (row s x).links l 0) ∷ []) link_held link_candidate link_path r
        (v, used_counted k s law r v before) before)
        (cases_eq r t);
    tidy = (
      elim (cases_eq (get_or (row s x).links l 0) 0) [
        | inl z ↦ inl z
        | inr n ↦ inr (link_on _ (law.links_used x (get_or (row s x).links l 0) source.0 (positive (get_or (row s x).links l 0) n, (l, refl))).0)
      ],
      tt,
    );
  }
    where
      positive : (n : ℕ) → (n ≡ 0 → ⊥) → 1 ≤ n
      positive zero f = absurd (f refl)
      positive (suc n) f = omega arith

      settled : (r : ℕ) → Within s r → Settled k (head (tied s hs x l t) r) (row (tied s hs x l t) r)
      settled r w =
          link_row (λ y d. Settled k (head (tied s hs x l t) y) d)
          (let own = at_head x source.0 in record {
            links_fit = length-set (row s x).links l t ∙ own.links_fit;
            bytes_fit = own.bytes_fit;
            holds_few = own.holds_few;
            holds_counted = own.holds_counted;
            used_unchained = own.used_unchained;
            free_blank = λ e. absurd (both_ways (head (tied s hs x l t) x).used e in_use);
          })
          (λ y v _. at_head y v) r w
        where
          at_head : (y : ℕ) → Within s y → Settled k (head (tied s hs x l t) y) (row s y)
          at_head = link_changed (λ y h. Settled k h (row s y))
              (λ h. let own = (law.each t h.0).settled in record {
                links_fit = own.links_fit;
                bytes_fit = own.bytes_fit;
                holds_few = own.holds_few;
                holds_counted = omega (arith, own.holds_counted);
                used_unchained = own.used_unchained;
                free_blank = λ e. absurd (both_ways (head s t).used e (held_used k s t law h).0);
              })
              (λ y v _. (law.each y v).settled)

          in_use : (head (tied s hs x l t) x).used ≡ true
          in_use = link_changed (λ y h. (head s y).used ≡ true → h.used ≡ true) (λ _ e. e) (λ _ _ _ e. e) x source.0 (held_used k s x law source).0

      chained : (rs : List ℕ) (f : ℕ) → Chain s f rs → Chain (tied s hs x l t) f rs
      chained [] f c = c
      chained (r ∷ rs) f c =
          let same = link_changed (λ y h. (h.used ≡ (head s y).used) × (h.next ≡ (head s y).next)) (λ _. (refl, refl)) (λ _ _ _. (refl, refl)) r c.1.0 in (
            c.0,
            (
              link_on r c.1.0,
              (
                same.0 ∙ c.1.1.0,
                subst (λ a. Chain (tied s hs x l t) a rs) (sym same.1) (chained rs (head s r).next c.1.1.1),
              ),
            ),
          )
