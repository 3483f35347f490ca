-- Each step of a release keeps what holds during one.
use Rattle.std.proofs.Common.{◌≡◌, ℕ, zero, suc, ◌+◌, ◌-◌, ◌*◌, ◌<◌, ◌≤◌, Bool, true, false, cond, not, eqb, ◌≢◌, ◌⊎◌, List, [], ◌∷◌, ◌++◌, map, length, get_or, set, count_by, sym, refl, ap, ◌∙◌, subst, inl, inr, ⊎_elim, one-mul, mul-zero, zero-mul, arith}
use Rattle.std.proofs.lemmas.List.{length-replicate, length-set, set-get_or}
use Rattle.std.proofs.lemmas.List.Sums.{sum_by-cons, sum_by-set, sum_by-append, count_by-le-length, get_or-le-sum_by}
use Rattle.std.proofs.lemmas.Bool.{cases_eq, both_ways, true≢false, cond-true, cond-false, eqb-true, eq-eqb, ne_eqb}
use Rattle.kinds.specs.Rows.{Row, Shape, blank}
use Rattle.model.specs.State.{State, Within, head, row, in_use, with_head, with_candidates}
use Rattle.model.specs.Headers.{Header, free_header, painted, less_one, suspected, is_purple}
use Rattle.model.specs.Lawful.{From, Links, Candidate, Chain, Settled, Coloured, Resting, naming, once}
use Rattle.model.specs.Walk.{Progress, Task, Absent, Turned, Left, Keeps}
use Rattle.model.specs.Walk.Task.{follow, visit, leave}
use Rattle.model.specs.Release.{at, moved, turn, suspect, spent, given_up, released, releasing, listed_too}
use Rattle.model.specs.Releasing.{live_named, pending, Calm, Tidy, Busy, Start, LiveLink, Releasing, visited_ended, counted_room}
use Rattle.model.specs.declared.heads.Colour.TheVariants.{Black, Purple}
use Rattle.model.proofs.Places.{each_head, head_there, head_elsewhere}
use Rattle.model.proofs.Paths.{from_more, from_past}
use Rattle.model.proofs.Counting.{naming_cons, naming_has}
use Rattle.model.proofs.LiveCounting.{live_same, live_ends, pending_hit, pending_miss, pending_links, pending_calm, busy_links}
use Rattle.model.proofs.LawfulCalls.{chain_elsewhere}
use Rattle.model.proofs.Leaving.{ended_as, left_size, left_back, left_on, left_both, left_head, left_other, left_row, left_links, left_live, free_settled, left_chain, given_chain, chain_small}

-- the count adds up
abbrev AddsUp : State → List Task → ℕ → Type 0
AddsUp s Q r = (head s r).count ≡ (head s r).holds + (live_named s r + pending s r Q)

abbrev pub lowered : State → ℕ → State
lowered s t = with_head s t (less_one (head s t))

-- a record with a count is in use
pub counted_used : (k : Shape) (h : Header) (w : Row) → Settled k h w → 0 < h.count → h.used ≡ true
counted_used k h w own c = by_use h.used refl
  where
    by_use : (b : Bool) → h.used ≡ b → h.used ≡ true
    by_use true e = e
    by_use false e = let z = ap (λ x. x.count) (own.free_blank e).1 in absurd (let no : ⊥ = omega (arith, z) in no)

-- a record with a count is not among those to be left
pub absent_counted : (s : State) (x : ℕ) (Q : List Task) → 0 < (head s x).count → Calm s Q → Absent x Q
absent_counted s x [] c q = tt
absent_counted s x (follow u ∷ Q) c q = absent_counted s x Q c q.1
absent_counted s x (visit u ∷ Q) c q = absurd q
absent_counted s x (leave u ∷ Q) c q =
    (λ e. let z = ap (λ y. (head s y).count) e in let no : ⊥ = omega (arith, z, q.0.uncounted) in no, absent_counted s x Q c q.1)

-- tasks that do not leave x do not see its head
calm_elsewhere : (s : State) (x : ℕ) (h : Header) → Within s x → (Q : List Task) → Absent x Q → Calm s Q → Calm (with_head s x h) Q
calm_elsewhere s x h w [] a q = tt
calm_elsewhere s x h w (follow u ∷ Q) a q = (q.0, calm_elsewhere s x h w Q a q.1)
calm_elsewhere s x h w (visit u ∷ Q) a q = absurd q
calm_elsewhere s x h w (leave u ∷ Q) a q =
    let same = head_elsewhere s x w h u q.0.inside.0 a.0 in (
      record {
        inside = q.0.inside;
        in_use = ap (λ y. y.used) same ∙ q.0.in_use;
        uncounted = ap (λ y. y.count) same ∙ q.0.uncounted;
        once_only = q.0.once_only;
      },
      calm_elsewhere s x h w Q a.1 q.1,
    )

calm_tidy : (s : State) (Q : List Task) → Calm s Q → Tidy s Q
calm_tidy s [] q = tt
calm_tidy s (follow u ∷ Q) q = q
calm_tidy s (visit u ∷ Q) q = absurd q
calm_tidy s (leave u ∷ Q) q = q

calm_links : (s : State) (us : List ℕ) (Q : List Task) → ((i : ℕ) → (get_or us i 0 ≡ 0) ⊎ Within s (get_or us i 0)) → Calm s Q → Calm s (map follow us ++ Q)
calm_links s [] Q f q = q
calm_links s (u ∷ us) Q f q = (f 0, calm_links s us Q (λ i. f (suc i)) q)

pub positive : (n : ℕ) → (n ≡ 0 → ⊥) → 1 ≤ n
positive zero f = absurd (f refl)
positive (suc n) f = omega arith

-- An empty link.
module _ (k : Shape) (g : Progress) (Q : List Task) (I : Releasing k g (follow 0 ∷ Q)) where
  empty_pending : (r : ℕ) → 1 ≤ r → pending g.store r (follow 0 ∷ Q) ≡ pending g.store r Q
  empty_pending r a = pending_miss g.store 0 r Q (omega arith)

  empty_start : (r : ℕ) → Start g.store (follow 0 ∷ Q) r → Start g.store Q r
  empty_start r (inl a) = inl a
  empty_start r (inr (inl a)) = inr (inl a)
  empty_start r (inr (inr (inl a))) = inr (inr (inl (a.0, omega (arith, empty_pending r a.0.0, a.1))))
  empty_start r (inr (inr (inr a))) = absurd a

  empty_none : visited_ended g.store Q ≡ 0
  empty_none = by_calm Q I.tidy.1
    where
      by_calm : (R : List Task) → Calm g.store R → visited_ended g.store R ≡ 0
      by_calm [] q = refl
      by_calm (follow u ∷ R) q = refl
      by_calm (visit u ∷ R) q = absurd q
      by_calm (leave u ∷ R) q = refl

  release_empty : Turned (Releasing k) counted_room g (follow 0 ∷ Q) g Q
  release_empty = record {
    rows = refl;
    fewer = omega (arith, empty_none);
    fits = record {
      few = I.few;
      heads_fit = I.heads_fit;
      each = I.each;
      coloured = I.coloured;
      spent_waits = I.spent_waits;
      links_within = I.links_within;
      listed = I.listed;
      listed_within = I.listed_within;
      chain = I.chain;
      counts = λ r w. omega (arith, I.counts r w, empty_pending r w.0);
      cover = λ r w c. from_more empty_start (λ _ _ l. l) (I.cover r w c);
      tidy = calm_tidy g.store Q I.tidy.1;
    };
  }

-- A link to t is followed.
module _ (k : Shape) (g : Progress) (t : ℕ) (Q : List Task) (ne : t ≢ 0) (I : Releasing k g (follow t ∷ Q)) where
  pub follow_within : Within g.store t
  follow_within = elim I.tidy.0 [ inl z ↦ absurd (ne z) | inr w ↦ w ]

  follow_counted : 1 ≤ (head g.store t).count
  follow_counted = omega (arith, I.counts t follow_within, pending_hit g.store t Q)

  pub follow_spare : (head g.store t).holds < (head g.store t).count
  follow_spare = omega (arith, I.counts t follow_within, pending_hit g.store t Q)

  follow_used : (head g.store t).used ≡ true
  follow_used = counted_used k (head g.store t) (row g.store t) (I.each t follow_within) follow_counted

  follow_absent : Absent t Q
  follow_absent = absent_counted g.store t Q follow_counted I.tidy.1

  follow_head : head (lowered g.store t) t ≡ less_one (head g.store t)
  follow_head = head_there g.store t follow_within (less_one (head g.store t)) I.heads_fit

  follow_other : (r : ℕ) → 1 ≤ r → r ≢ t → head (lowered g.store t) r ≡ head g.store r
  follow_other r a n = head_elsewhere g.store t follow_within (less_one (head g.store t)) r a n

  -- what the counts lose by the record is what its visit stands for
  follow_moved :
      (r : ℕ) →
      live_named (lowered g.store t) r + pending (lowered g.store t) r (visit t ∷ Q) ≡ live_named g.store r + pending g.store r Q
  follow_moved r = by_end (eqb ((head g.store t).count - 1) 0) refl
    where
      s : State
      s = g.store

      was : eqb (head s t).count 0 ≡ false
      was = ne_eqb (head s t).count 0 (λ e. let c = follow_counted in omega arith)

      now_ended : eqb (head (lowered s t) t).count 0 ≡ eqb ((head s t).count - 1) 0
      now_ended = ap (λ h. eqb h.count 0) follow_head

      calm : pending (lowered s t) r Q ≡ pending s r Q
      calm = pending_calm s (lowered s t) r Q I.tidy.1

      by_end :
          (b : Bool) → eqb ((head s t).count - 1) 0 ≡ b →
          live_named (lowered s t) r + pending (lowered s t) r (visit t ∷ Q) ≡ live_named s r + pending s r Q
      by_end true e =
          omega (
            arith,
            calm,
            cond-true (eqb (head (lowered s t) t).count 0) (naming r (row s t).links) 0 (now_ended ∙ e),
            live_ends r s.heads s.rows (t - 1) (less_one (head s t)) (omega (arith, follow_within, I.heads_fit)) (omega (arith, follow_within)) e was,
          )
      by_end false e =
          omega (
            arith,
            calm,
            cond-false (eqb (head (lowered s t) t).count 0) (naming r (row s t).links) 0 (now_ended ∙ e),
            live_same r s.heads s.rows (t - 1) (less_one (head s t)) (e ∙ sym was),
          )

  follow_counts : (r : ℕ) → Within g.store r → AddsUp (lowered g.store t) (visit t ∷ Q) r
  follow_counts r w = ⊎_elim
      (λ e. subst (AddsUp (lowered g.store t) (visit t ∷ Q)) (sym e)
      (omega (arith, ap (λ h. h.count) follow_head, ap (λ h. h.holds) follow_head, follow_moved t, I.counts t follow_within, pending_hit g.store t Q)))
      (λ n.
      omega (
        arith,
        ap (λ h. h.count) (follow_other r w.0 n),
        ap (λ h. h.holds) (follow_other r w.0 n),
        follow_moved r,
        I.counts r w,
        pending_miss g.store t r Q (λ e. n (sym e)),
      ))
      (cases_eq r t)

  -- a record to which the last reference is gone
  abbrev follow_gone : ℕ → Type 0
  follow_gone r = (r ≡ t) × ((head g.store t).count ≡ 1)

  follow_known : (r : ℕ) → follow_gone r ⊎ (follow_gone r → ⊥)
  follow_known r = elim (cases_eq r t) [
    | inl e ↦ elim (cases_eq (head g.store t).count 1) [ inl c ↦ inl (e, c) | inr n ↦ inr (λ x. n x.1) ]
    | inr n ↦ inr (λ x. n x.0)
  ]

  follow_start : (r : ℕ) → Start g.store (follow t ∷ Q) r → follow_gone r ⊎ Start (lowered g.store t) (visit t ∷ Q) r
  follow_start r (inl a) =
      inr (inl (
        a.0,
        each_head g.store t follow_within (less_one (head g.store t)) (λ y h. 0 < (head g.store y).holds → 0 < h.holds)
            I.heads_fit (λ e. e) (λ _ _ _ e. e) r a.0 a.1,
      ))
  follow_start r (inr (inl a)) =
      inr (inr (inl (
        a.0,
        each_head g.store t follow_within (less_one (head g.store t))
            (λ y h. (head g.store y).colour ≡ Purple → h.colour ≡ Purple) I.heads_fit (λ e. e) (λ _ _ _ e. e) r (I.listed_within r a.0) a.1,
      )))
  follow_start r (inr (inr (inl a))) = ⊎_elim
      (λ e. inr (inr (inr (inr (sym e)))))
      (λ n. inr (inr (inr (inl (
        a.0,
        omega (arith, a.1, pending_miss g.store t r Q (λ e. n (sym e)), pending_calm g.store (lowered g.store t) r Q I.tidy.1),
      )))))
      (cases_eq r t)
  follow_start r (inr (inr (inr a))) = absurd a

  -- a link of the record that lost its last reference is pending now
  follow_lost : (r u : ℕ) → LiveLink g.store r u → follow_gone r → Start (lowered g.store t) (visit t ∷ Q) u
  follow_lost r u l gone =
      let ties : Links g.store t u = subst (λ y. Links g.store y u) gone.0 l.1.1 in
      let ended : eqb (head (lowered g.store t) t).count 0 ≡ true =
      ap (λ h. eqb h.count 0) follow_head ∙ ap (λ n. eqb (n - 1) 0) gone.1 in
      let n = naming_has (row g.store t).links ties.1.0 u ties.0 ties.1.1 in
      inr (inr (inl (
        I.links_within t u follow_within ties,
        omega (arith, n, cond-true (eqb (head (lowered g.store t) t).count 0) (naming u (row g.store t).links) 0 ended),
      )))

  follow_kept : (r u : ℕ) → LiveLink g.store r u → (follow_gone r → ⊥) → LiveLink (lowered g.store t) r u
  follow_kept r u l stays = (
    l.0,
    (
      ⊎_elim
          (λ e. subst (λ y. 0 < (head (lowered g.store t) y).count) (sym e)
          (let p : 1 ≤ (head g.store t).count - 1 =
          positive ((head g.store t).count - 1) (λ z. stays (e, (let c = follow_counted in omega arith))) in
          omega (arith, ap (λ h. h.count) follow_head, p)))
          (λ n. omega (arith, ap (λ h. h.count) (follow_other r l.0.0 n), l.1.0))
          (cases_eq r t),
      l.1.1,
    ),
  )

  follow_cover :
      (r : ℕ) → Within g.store r → 0 < (head (lowered g.store t) r).count →
      From (Start (lowered g.store t) (visit t ∷ Q)) (LiveLink (lowered g.store t)) r
  follow_cover r w c =
      let before : 0 < (head g.store r).count =
      each_head g.store t follow_within (less_one (head g.store t)) (λ y h. 0 < h.count → 0 < (head g.store y).count)
      I.heads_fit (λ _. follow_counted) (λ _ _ _ e. e) r w c in
      elim (from_past follow_gone follow_known follow_start follow_lost follow_kept (I.cover r w before)) [
        | inl gone ↦
            let same = ap (λ y. (head (lowered g.store t) y).count) gone.0 ∙ ap (λ h. h.count) follow_head in
            absurd (let no : ⊥ = omega (arith, same, gone.1, c) in no)
        | inr f ↦ f
      ]

  follow_room : counted_room (turn g t (less_one (at g t))) (visit t ∷ Q) ≤ counted_room g (follow t ∷ Q)
  follow_room = by_end (eqb ((head g.store t).count - 1) 0) refl
    where
      was : eqb (head g.store t).count 0 ≡ false
      was = ne_eqb (head g.store t).count 0 (λ e. let c = follow_counted in omega arith)

      moved_by : ◌≡◌ {A = ℕ}
          (count_by (λ h. not (eqb h.count 0)) (set g.store.heads (t - 1) (less_one (head g.store t))) + once (not (eqb (head g.store t).count 0)))
          (count_by (λ h. not (eqb h.count 0)) g.store.heads + once (not (eqb ((head g.store t).count - 1) 0)))
      moved_by =
          sum_by-set (λ h. cond (not (eqb h.count 0)) 1 0) g.store.heads (t - 1) (less_one (head g.store t)) (free_header 0)
          (omega (arith, follow_within, I.heads_fit))

      by_end : (b : Bool) → eqb ((head g.store t).count - 1) 0 ≡ b → counted_room (turn g t (less_one (at g t))) (visit t ∷ Q) ≤ counted_room g (follow t ∷ Q)
      by_end b e =
          omega (arith, moved_by, ap (λ x. once (not x)) was, ap (λ x. once (not x)) e, ap (λ h. once (eqb h.count 0)) follow_head, ap once e, one_of b)
        where
          one_of : (x : Bool) → once x + once (not x) ≡ 1
          one_of true = refl
          one_of false = refl

  release_follow : Turned (Releasing k) counted_room g (follow t ∷ Q) (turn g t (less_one (at g t))) (visit t ∷ Q)
  release_follow = record {
    rows = refl;
    fewer = follow_room;
    fits = record {
      few = I.few;
      heads_fit = length-set g.store.heads (t - 1) (less_one (head g.store t)) ∙ I.heads_fit;
      each = changed (λ r h. Settled k h (row g.store r)) (
          let own = I.each t follow_within in
          record {
            links_fit = own.links_fit;
            bytes_fit = own.bytes_fit;
            holds_few = own.holds_few;
            holds_counted = omega (arith, I.counts t follow_within, pending_hit g.store t Q);
            used_unchained = own.used_unchained;
            free_blank = λ e. absurd (both_ways (head g.store t).used e follow_used);
          }) (λ r w _. I.each r w);
      coloured = changed (λ r h. Coloured h) (I.coloured t follow_within) (λ r w _. I.coloured r w);
      spent_waits =
          changed (λ r h. h.used ≡ true → h.count ≡ 0 → Resting k h (row g.store r) ⊎ Busy r (visit t ∷ Q)) (λ _ _. inr (inl refl))
          (λ r w _ u c. elim (I.spent_waits r w u c) [ inl a ↦ inl a | inr b ↦ inr (inr b) ]);
      links_within = I.links_within;
      listed = changed (λ r h. naming r g.store.candidates ≡ once h.waiting) (I.listed t follow_within) (λ r w _. I.listed r w);
      listed_within = I.listed_within;
      chain = (
        I.chain.0,
        chain_elsewhere g.store t (less_one (head g.store t)) follow_within I.chain.0 g.store.front
            (omega (arith, I.chain.2 t follow_within, ap once follow_used)) I.chain.1,
        changed (λ r h. naming r I.chain.0 + once h.used ≡ 1) (I.chain.2 t follow_within) (λ r w _. I.chain.2 r w),
      );
      counts = follow_counts;
      cover = follow_cover;
      tidy = (
        record { inside = follow_within; in_use = ap (λ h. h.used) follow_head ∙ follow_used; once_only = follow_absent },
        calm_elsewhere g.store t (less_one (head g.store t)) follow_within Q follow_absent I.tidy.1,
      );
    };
  }
    where
      changed :
          (P : ℕ → Header → Type 0) → P t (less_one (head g.store t)) → ((r : ℕ) → Within g.store r → r ≢ t → P r (head g.store r)) →
          (r : ℕ) → Within g.store r → P r (head (lowered g.store t) r)
      changed P = each_head g.store t follow_within (less_one (head g.store t)) P I.heads_fit

-- A record that has no count left is entered.
module _ (k : Shape) (g : Progress) (t : ℕ) (Q : List Task) (ended : eqb (at g t).count 0 ≡ true) (I : Releasing k g (visit t ∷ Q)) where
  enter_pending :
      (r : ℕ) → pending g.store r (map follow (row g.store t).links ++ (leave t ∷ Q)) ≡ pending g.store r (visit t ∷ Q)
  enter_pending r =
      pending_links g.store r (row g.store t).links (leave t ∷ Q)
      ∙ ap (λ n. n + pending g.store r Q) (sym (cond-true (eqb (head g.store t).count 0) (naming r (row g.store t).links) 0 ended))

  enter_uncounted : (head g.store t).count ≡ 0
  enter_uncounted = eqb-true (head g.store t).count 0 ended

  enter_start :
      (r : ℕ) → Start g.store (visit t ∷ Q) r → (r ≡ t) ⊎ Start g.store (map follow (row g.store t).links ++ (leave t ∷ Q)) r
  enter_start r (inl a) = inr (inl a)
  enter_start r (inr (inl a)) = inr (inr (inl a))
  enter_start r (inr (inr (inl a))) = inr (inr (inr (inl (a.0, omega (arith, enter_pending r, a.1)))))
  enter_start r (inr (inr (inr a))) = inl (sym a)

  enter_cover :
      (r : ℕ) → Within g.store r → 0 < (head g.store r).count →
      From (Start g.store (map follow (row g.store t).links ++ (leave t ∷ Q))) (LiveLink g.store) r
  enter_cover r w c =
      elim (from_past (λ y. y ≡ t) (λ y. cases_eq y t) enter_start
      (λ y u l e. absurd (let same = ap (λ x. (head g.store x).count) e in let no : ⊥ = omega (arith, same, enter_uncounted, l.1.0) in no))
      (λ y u l _. l) (I.cover r w c)) [
        | inl e ↦ absurd (let same = ap (λ x. (head g.store x).count) e in let no : ⊥ = omega (arith, same, enter_uncounted, c) in no)
        | inr f ↦ f
      ]

  enter_busy : (r : ℕ) → Busy r (visit t ∷ Q) → Busy r (map follow (row g.store t).links ++ (leave t ∷ Q))
  enter_busy r b = busy_links r (row g.store t).links (leave t ∷ Q) b

  enter_tasks : Calm g.store (map follow (row g.store t).links ++ (leave t ∷ Q))
  enter_tasks =
      calm_links g.store (row g.store t).links (leave t ∷ Q)
      (λ i. elim (cases_eq (get_or (row g.store t).links i 0) 0) [
        | inl e ↦ inl e
        | inr n ↦ inr (I.links_within t (get_or (row g.store t).links i 0) I.tidy.0.inside
            (positive (get_or (row g.store t).links i 0) n, (i, refl)))
      ]) (
        record {
          inside = I.tidy.0.inside;
          in_use = I.tidy.0.in_use;
          uncounted = enter_uncounted;
          once_only = I.tidy.0.once_only;
        },
        I.tidy.1,
      )

  enter_none : (us : List ℕ) → visited_ended g.store (map follow us ++ (leave t ∷ Q)) ≡ 0
  enter_none [] = refl
  enter_none (u ∷ us) = refl

  release_lowers : counted_room g (map follow (row g.store t).links ++ (leave t ∷ Q)) < counted_room g (visit t ∷ Q)
  release_lowers = omega (arith, enter_none (row g.store t).links, ap once ended)

  release_enter : Turned (Releasing k) counted_room g (visit t ∷ Q) g (map follow (row g.store t).links ++ (leave t ∷ Q))
  release_enter = record {
    rows = refl;
    fewer = omega (arith, release_lowers);
    fits = record {
      few = I.few;
      heads_fit = I.heads_fit;
      each = I.each;
      coloured = I.coloured;
      spent_waits = λ r w u c. elim (I.spent_waits r w u c) [ inl a ↦ inl a | inr b ↦ inr (enter_busy r b) ];
      links_within = I.links_within;
      listed = I.listed;
      listed_within = I.listed_within;
      chain = I.chain;
      counts = λ r w. omega (arith, I.counts r w, enter_pending r);
      cover = enter_cover;
      tidy = calm_tidy g.store (map follow (row g.store t).links ++ (leave t ∷ Q)) enter_tasks;
    };
  }

-- A record that has a count left is passed, and suspected.
abbrev pub doubted : State → ℕ → State
doubted s t =
    with_candidates (with_head s t (suspected (head s t))) (cond (head s t).waiting s.candidates (s.candidates ++ (t ∷ [])))

-- However the record was coloured, and whether or not it waited, it ends purple and waiting.
pub suspect_is : (g : Progress) (t : ℕ) → Coloured (at g t) → suspect g t ≡ moved g (doubted g.store t)
suspect_is g t (inl black) =
    cond-false (is_purple (at g t).colour) g _ (ap is_purple black)
    ∙ by_wait (at g t).waiting refl
  where
    by_wait :
        (b : Bool) → (at g t).waiting ≡ b →
        cond (at g t).waiting (turn g t (painted Purple (at g t))) (listed_too g t) ≡ moved g (doubted g.store t)
    by_wait true e =
        cond-true (at g t).waiting _ _ e
        ∙ ap (λ w. moved g (with_head g.store t (record { used = (at g t).used; holds = (at g t).holds; count = (at g t).count; colour = Purple; waiting = w; next = (at g t).next }))) e
        ∙ ap (λ l. moved g (with_candidates (with_head g.store t (suspected (at g t))) l))
        (sym (cond-true (at g t).waiting g.store.candidates (g.store.candidates ++ (t ∷ [])) e))
    by_wait false e =
        cond-false (at g t).waiting _ _ e
        ∙ ap (λ l. moved g (with_candidates (with_head g.store t (suspected (at g t))) l))
        (sym (cond-false (at g t).waiting g.store.candidates (g.store.candidates ++ (t ∷ [])) e))
suspect_is g t (inr (purple, waits)) =
    cond-true (is_purple (at g t).colour) g _ (ap is_purple purple)
    ∙ ap (λ hs. moved g (record { heads = hs; rows = g.store.rows; candidates = g.store.candidates; front = g.store.front }))
    (sym (ap (set g.store.heads (t - 1)) same ∙ set-get_or g.store.heads (t - 1) (free_header 0)))
    ∙ ap (λ l. moved g (with_candidates (with_head g.store t (suspected (at g t))) l))
    (sym (cond-true (at g t).waiting g.store.candidates (g.store.candidates ++ (t ∷ [])) waits))
  where
    same : suspected (at g t) ≡ at g t
    same =
        ap (λ c. record { used = (at g t).used; holds = (at g t).holds; count = (at g t).count; colour = c; waiting = true; next = (at g t).next }) (sym purple)
        ∙ ap (λ w. record { used = (at g t).used; holds = (at g t).holds; count = (at g t).count; colour = (at g t).colour; waiting = w; next = (at g t).next }) (sym waits)

naming_pushed : (r t : ℕ) (l : List ℕ) → naming r (l ++ (t ∷ [])) ≡ naming r l + once (eqb t r)
naming_pushed r t l = sum_by-append (λ x. cond (eqb x r) 1 0) l (t ∷ []) ∙ ap (λ n. naming r l + n) (naming_cons r t [] ∙ omega arith)

module _ (k : Shape) (g : Progress) (t : ℕ) (Q : List Task) (counted : eqb (at g t).count 0 ≡ false) (I : Releasing k g (visit t ∷ Q)) where
  pass_within : Within g.store t
  pass_within = I.tidy.0.inside

  pass_changed :
      (P : ℕ → Header → Type 0) → P t (suspected (head g.store t)) → ((r : ℕ) → Within g.store r → r ≢ t → P r (head g.store r)) →
      (r : ℕ) → Within g.store r → P r (head (doubted g.store t) r)
  pass_changed P = each_head g.store t pass_within (suspected (head g.store t)) P I.heads_fit

  -- the list names one more where the record did not wait yet
  pass_listed : (r : ℕ) → naming r (doubted g.store t).candidates ≡ naming r g.store.candidates + once (not (head g.store t).waiting) * once (eqb t r)
  pass_listed r = by_wait (head g.store t).waiting refl
    where
      by_wait :
          (b : Bool) → (head g.store t).waiting ≡ b →
          naming r (cond (head g.store t).waiting g.store.candidates (g.store.candidates ++ (t ∷ [])))
          ≡ naming r g.store.candidates + once (not (head g.store t).waiting) * once (eqb t r)
      by_wait true e =
          ap (naming r) (cond-true (head g.store t).waiting _ _ e)
          ∙ omega (arith, ap (λ b. once (not b) * once (eqb t r)) e, zero-mul (once (eqb t r)))
      by_wait false e =
          ap (naming r) (cond-false (head g.store t).waiting _ _ e) ∙ naming_pushed r t g.store.candidates
          ∙ omega (arith, ap (λ b. once (not b) * once (eqb t r)) e, one-mul (once (eqb t r)))

  pass_live : (r : ℕ) → live_named (doubted g.store t) r ≡ live_named g.store r
  pass_live r = live_same r g.store.heads g.store.rows (t - 1) (suspected (head g.store t)) refl

  pass_pending : (r : ℕ) → pending (doubted g.store t) r Q ≡ pending g.store r (visit t ∷ Q)
  pass_pending r =
      pending_calm g.store (doubted g.store t) r Q I.tidy.1
      ∙ omega (arith, cond-false (eqb (head g.store t).count 0) (naming r (row g.store t).links) 0 counted)

  pass_candidate : Candidate (doubted g.store t) t
  pass_candidate = (
    omega (arith, pass_listed t, I.listed t pass_within, by_wait (head g.store t).waiting),
    ap (λ h. h.colour) (head_there g.store t pass_within (suspected (head g.store t)) I.heads_fit),
  )
    where
      by_wait : (b : Bool) → 1 ≤ once b + once (not b) * once (eqb t t)
      by_wait true = omega arith
      by_wait false = omega (arith, ap once (eq-eqb t t refl), one-mul (once (eqb t t)))

  pass_start : (r : ℕ) → Start g.store (visit t ∷ Q) r → Start (doubted g.store t) Q r
  pass_start r (inl a) =
      inl (a.0, pass_changed (λ y h. 0 < (head g.store y).holds → 0 < h.holds) (λ e. e) (λ _ _ _ e. e) r a.0 a.1)
  pass_start r (inr (inl a)) =
      inr (inl (
        omega (arith, pass_listed r, a.0),
        pass_changed (λ y h. (head g.store y).colour ≡ Purple → h.colour ≡ Purple) (λ _. refl) (λ _ _ _ e. e) r (I.listed_within r a.0) a.1,
      ))
  pass_start r (inr (inr (inl a))) = inr (inr (inl (a.0, omega (arith, pass_pending r, a.1))))
  pass_start r (inr (inr (inr a))) = inr (inl (subst (Candidate (doubted g.store t)) a pass_candidate))

  pass_link : (r u : ℕ) → LiveLink g.store r u → LiveLink (doubted g.store t) r u
  pass_link r u l =
      (l.0, (pass_changed (λ y h. 0 < (head g.store y).count → 0 < h.count) (λ e. e) (λ _ _ _ e. e) r l.0 l.1.0, l.1.1))

  pass_room : counted_room (moved g (doubted g.store t)) Q ≤ counted_room g (visit t ∷ Q)
  pass_room =
      omega (
        arith,
        sum_by-set (λ h. cond (not (eqb h.count 0)) 1 0) g.store.heads (t - 1) (suspected (head g.store t)) (free_header 0)
            (omega (arith, pass_within, I.heads_fit)),
        none Q I.tidy.1,
      )
    where
      none : (R : List Task) → Calm g.store R → visited_ended (doubted g.store t) R ≡ 0
      none [] q = refl
      none (follow u ∷ R) q = refl
      none (visit u ∷ R) q = absurd q
      none (leave u ∷ R) q = refl

  pass_fits : Releasing k (moved g (doubted g.store t)) Q
  pass_fits = record {
    few = I.few;
    heads_fit = length-set g.store.heads (t - 1) (suspected (head g.store t)) ∙ I.heads_fit;
    each = pass_changed (λ r h. Settled k h (row g.store r)) (
        let own = I.each t pass_within in
        record {
          links_fit = own.links_fit;
          bytes_fit = own.bytes_fit;
          holds_few = own.holds_few;
          holds_counted = own.holds_counted;
          used_unchained = own.used_unchained;
          free_blank = λ e. absurd (both_ways (head g.store t).used e I.tidy.0.in_use);
        }) (λ r w _. I.each r w);
    coloured = pass_changed (λ r h. Coloured h) (inr (refl, refl)) (λ r w _. I.coloured r w);
    spent_waits =
        pass_changed (λ r h. h.used ≡ true → h.count ≡ 0 → Resting k h (row g.store r) ⊎ Busy r Q)
        (λ _ c. absurd (both_ways (eqb (head g.store t).count 0) counted (eq-eqb (head g.store t).count 0 c)))
        (λ r w n u c. elim (I.spent_waits r w u c) [ inl a ↦ inl a | inr b ↦ elim b [ inl e ↦ absurd (n (sym e)) | inr d ↦ inr d ] ]);
    links_within = I.links_within;
    listed = λ r w. pass_listed r ∙ listed_at r w;
    listed_within = λ r n. ⊎_elim (λ e. subst (Within g.store) (sym e) pass_within)
        (λ ne. I.listed_within r (omega (
          arith,
          n,
          pass_listed r,
          ap (λ b. once (not (head g.store t).waiting) * once b) (ne_eqb t r (λ e. ne (sym e))),
          mul-zero (once (not (head g.store t).waiting)),
        ))) (cases_eq r t);
    chain = (
      I.chain.0,
      chain_elsewhere g.store t (suspected (head g.store t)) pass_within I.chain.0 g.store.front
          (omega (arith, I.chain.2 t pass_within, ap once I.tidy.0.in_use)) I.chain.1,
      pass_changed (λ r h. naming r I.chain.0 + once h.used ≡ 1) (I.chain.2 t pass_within) (λ r w _. I.chain.2 r w),
    );
    counts = λ r w.
        pass_changed (λ y h. h.count ≡ h.holds + (live_named (doubted g.store t) y + pending (doubted g.store t) y Q))
        (omega (arith, I.counts t pass_within, pass_live t, pass_pending t)) (λ y v _. omega (arith, I.counts y v, pass_live y, pass_pending y)) r w;
    cover = λ r w c.
        from_more pass_start pass_link
        (I.cover r w (pass_changed (λ y h. 0 < h.count → 0 < (head g.store y).count) (λ e. e) (λ _ _ _ e. e) r w c));
    tidy =
        calm_tidy (doubted g.store t) Q
        (calm_listed (calm_elsewhere g.store t (suspected (head g.store t)) pass_within Q I.tidy.0.once_only I.tidy.1));
  }
    where
      calm_listed : Calm (with_head g.store t (suspected (head g.store t))) Q → Calm (doubted g.store t) Q
      calm_listed q = same Q q
        where
          same : (R : List Task) → Calm (with_head g.store t (suspected (head g.store t))) R → Calm (doubted g.store t) R
          same [] c = tt
          same (follow u ∷ R) c = (c.0, same R c.1)
          same (visit u ∷ R) c = absurd c
          same (leave u ∷ R) c =
              (record { inside = c.0.inside; in_use = c.0.in_use; uncounted = c.0.uncounted; once_only = c.0.once_only }, same R c.1)

      listed_at :
          (r : ℕ) → Within g.store r →
          naming r g.store.candidates + once (not (head g.store t).waiting) * once (eqb t r) ≡ once (head (doubted g.store t) r).waiting
      listed_at r w =
          pass_changed (λ y h. naming y g.store.candidates + once (not (head g.store t).waiting) * once (eqb t y) ≡ once h.waiting)
          (omega (arith, I.listed t pass_within, whole (head g.store t).waiting))
          (λ y v n. omega (
            arith,
            I.listed y v,
            ap (λ b. once (not (head g.store t).waiting) * once b) (ne_eqb t y (λ e. n (sym e))),
            mul-zero (once (not (head g.store t).waiting)),
          )) r w
        where
          whole : (b : Bool) → once b + once (not b) * once (eqb t t) ≡ 1
          whole true = omega (arith, zero-mul (once (eqb t t)))
          whole false = omega (arith, ap once (eq-eqb t t refl), one-mul (once (eqb t t)))

  release_pass : Turned (Releasing k) counted_room g (visit t ∷ Q) (suspect g t) Q
  release_pass =
      subst (λ y. Turned (Releasing k) counted_room g (visit t ∷ Q) y Q) (sym (suspect_is g t (I.coloured t pass_within)))
      (record { rows = refl; fewer = pass_room; fits = pass_fits })

-- A record whose links are all lowered is left: its row is blanked and its head becomes h.
module _ (k : Shape) (g : Progress) (t : ℕ) (Q : List Task) (I : Releasing k g (leave t ∷ Q)) (h : Header) (f n : ℕ)
    (uncounted : h.count ≡ 0) (waits : h.waiting ≡ (head g.store t).waiting) (own : Settled k h (blank k)) (tinted : Coloured h)
    (rests : h.used ≡ true → Resting k h (blank k))
    (chained : (rs : List ℕ) × Chain (ended_as k g.store t h f) f rs
    × ((r : ℕ) → Within g.store r → naming r rs + once (head (ended_as k g.store t h f) r).used ≡ 1)) where
  leave_size : length (set g.store.rows (t - 1) (blank k)) ≡ length g.store.rows
  leave_size = left_size k g.store t h f I.tidy.0.inside I.heads_fit

  leave_back : (r : ℕ) → Within (ended_as k g.store t h f) r → Within g.store r
  leave_back = left_back k g.store t h f I.tidy.0.inside I.heads_fit

  leave_on : (r : ℕ) → Within g.store r → Within (ended_as k g.store t h f) r
  leave_on = left_on k g.store t h f I.tidy.0.inside I.heads_fit

  leave_both :
      (P : ℕ → Row → Header → Type 0) → P t (blank k) h →
      ((r : ℕ) → 1 ≤ r → r ≢ t → P r (row g.store r) (head g.store r)) →
      (r : ℕ) → 1 ≤ r → P r (row (ended_as k g.store t h f) r) (head (ended_as k g.store t h f) r)
  leave_both = left_both k g.store t h f I.tidy.0.inside I.heads_fit

  leave_head : head (ended_as k g.store t h f) t ≡ h
  leave_head = left_head k g.store t h f I.tidy.0.inside I.heads_fit

  leave_other : (r : ℕ) → 1 ≤ r → r ≢ t → head (ended_as k g.store t h f) r ≡ head g.store r
  leave_other = left_other k g.store t h f I.tidy.0.inside I.heads_fit

  leave_row : (r : ℕ) → 1 ≤ r → r ≢ t → row (ended_as k g.store t h f) r ≡ row g.store r
  leave_row = left_row k g.store t h f I.tidy.0.inside I.heads_fit

  leave_links : (r u : ℕ) → 1 ≤ r → Links (ended_as k g.store t h f) r u → (r ≢ t) × Links g.store r u
  leave_links = left_links k g.store t h f I.tidy.0.inside I.heads_fit

  leave_live : (r : ℕ) → live_named (ended_as k g.store t h f) r ≡ live_named g.store r
  leave_live = left_live k g.store t h f I.tidy.0.inside I.heads_fit uncounted I.tidy.0.uncounted

  leave_pending : (r : ℕ) → pending (ended_as k g.store t h f) r Q ≡ pending g.store r Q
  leave_pending r = pending_calm g.store (ended_as k g.store t h f) r Q I.tidy.1

  leave_start : (r : ℕ) → Start g.store (leave t ∷ Q) r → (r ≡ t) ⊎ Start (ended_as k g.store t h f) Q r
  leave_start r a = elim (cases_eq r t) [ inl e ↦ inl e | inr ne ↦ inr (stays a ne) ]
    where
      stays : Start g.store (leave t ∷ Q) r → r ≢ t → Start (ended_as k g.store t h f) Q r
      stays (inl b) ne = inl (leave_on r b.0, omega (arith, b.1, ap (λ d. d.holds) (leave_other r b.0.0 ne)))
      stays (inr (inl b)) ne = inr (inl (b.0, ap (λ d. d.colour) (leave_other r (I.listed_within r b.0).0 ne) ∙ b.1))
      stays (inr (inr (inl b))) ne = inr (inr (inl (leave_on r b.0, omega (arith, b.1, leave_pending r))))
      stays (inr (inr (inr b))) ne = absurd b

  leave_cover :
      (r : ℕ) → Within (ended_as k g.store t h f) r → 0 < (head (ended_as k g.store t h f) r).count →
      From (Start (ended_as k g.store t h f) Q) (LiveLink (ended_as k g.store t h f)) r
  leave_cover r w c =
      let stands : r ≢ t = λ e. let same = ap (λ y. (head (ended_as k g.store t h f) y).count) e ∙ ap (λ d. d.count) leave_head in let no : ⊥ = omega (arith, same, uncounted, c) in no in
      elim (from_past (λ y. y ≡ t) (λ y. cases_eq y t) leave_start
      (λ y u l e. absurd (let same = ap (λ x. (head g.store x).count) e in let no : ⊥ = omega (arith, same, I.tidy.0.uncounted, l.1.0) in no))
      (λ y u l ne. (
        leave_on y l.0,
        (
          omega (arith, l.1.0, ap (λ d. d.count) (leave_other y l.0.0 ne)),
          (l.1.1.0, (l.1.1.1.0, ap (λ w. get_or w.links l.1.1.1.0 0) (leave_row y l.0.0 ne) ∙ l.1.1.1.1)),
        ),
      ))
      (I.cover r (leave_back r w) (omega (arith, c, ap (λ d. d.count) (leave_other r w.0 stands))))) [
        | inl e ↦ absurd (stands e)
        | inr x ↦ x
      ]

  leave_calm : (R : List Task) → Absent t R → Calm g.store R → Calm (ended_as k g.store t h f) R
  leave_calm [] a q = tt
  leave_calm (follow u ∷ R) a q = (elim q.0 [ inl e ↦ inl e | inr w ↦ inr (leave_on u w) ], leave_calm R a q.1)
  leave_calm (visit u ∷ R) a q = absurd q
  leave_calm (leave u ∷ R) a q =
      let same = leave_other u q.0.inside.0 a.0 in (
        record {
          inside = leave_on u q.0.inside;
          in_use = ap (λ d. d.used) same ∙ q.0.in_use;
          uncounted = ap (λ d. d.count) same ∙ q.0.uncounted;
          once_only = q.0.once_only;
        },
        leave_calm R a.1 q.1,
      )

  leave_fits : Releasing k (record { store = ended_as k g.store t h f; given = n }) Q
  leave_fits = record {
    few = omega (arith, I.few, leave_size);
    heads_fit = length-set g.store.heads (t - 1) h ∙ I.heads_fit ∙ sym leave_size;
    each = λ r w.
        leave_both (λ y v d. Within g.store y → Settled k d v) (λ _. own) (λ y _ _ u. I.each y u) r w.0 (leave_back r w);
    coloured = λ r w. leave_both (λ y v d. Within g.store y → Coloured d) (λ _. tinted) (λ y _ _ u. I.coloured y u) r w.0 (leave_back r w);
    spent_waits = λ r w.
        leave_both (λ y v d. Within g.store y → d.used ≡ true → d.count ≡ 0 → Resting k d v ⊎ Busy y Q) (λ _ u _. inl (rests u))
        (λ y _ ne u v c. elim (I.spent_waits y u v c) [ inl a ↦ inl a | inr b ↦ elim b [ inl e ↦ absurd (ne (sym e)) | inr d ↦ inr d ] ])
        r w.0 (leave_back r w);
    links_within = λ r u w l. let m = leave_links r u w.0 l in leave_on u (I.links_within r u (leave_back r w) m.1);
    listed = λ r w.
        leave_both (λ y v d. Within g.store y → naming y g.store.candidates ≡ once d.waiting)
        (λ u. I.listed t u ∙ ap once (sym waits)) (λ y _ _ u. I.listed y u) r w.0 (leave_back r w);
    listed_within = λ r m. leave_on r (I.listed_within r m);
    chain = (chained.0, chained.1, λ r w. chained.2 r (leave_back r w));
    counts = λ r w.
        leave_both (λ y v d. Within g.store y → d.count ≡ d.holds + (live_named (ended_as k g.store t h f) y + pending (ended_as k g.store t h f) y Q))
        (λ u. omega (arith, uncounted, own.holds_counted, I.counts t u, I.tidy.0.uncounted, leave_live t, leave_pending t))
        (λ y _ _ u. omega (arith, I.counts y u, leave_live y, leave_pending y)) r w.0 (leave_back r w);
    cover = leave_cover;
    tidy = calm_tidy (ended_as k g.store t h f) Q (leave_calm Q I.tidy.0.once_only I.tidy.1);
  }

  leave_room : counted_room (record { store = ended_as k g.store t h f; given = n }) Q ≤ counted_room g (leave t ∷ Q)
  leave_room =
      omega (
        arith,
        sum_by-set (λ d. cond (not (eqb d.count 0)) 1 0) g.store.heads (t - 1) h (free_header 0) (omega (arith, I.tidy.0.inside, I.heads_fit)),
        ap (λ m. once (not (eqb m 0))) uncounted,
        ap (λ m. once (not (eqb m 0))) I.tidy.0.uncounted,
        none Q I.tidy.1,
      )
    where
      none : (R : List Task) → Calm g.store R → visited_ended (ended_as k g.store t h f) R ≡ 0
      none [] q = refl
      none (follow u ∷ R) q = refl
      none (visit u ∷ R) q = absurd q
      none (leave u ∷ R) q = refl

  leave_turned : Left (Releasing k) counted_room t g (leave t ∷ Q) (record { store = ended_as k g.store t h f; given = n }) Q
  leave_turned = record { size = leave_size; others = leave_row; fewer = leave_room; fits = leave_fits }

module _ (k : Shape) (g : Progress) (t : ℕ) (Q : List Task) (I : Releasing k g (leave t ∷ Q)) where
  leave_spent : (at g t).waiting ≡ true → Left (Releasing k) counted_room t g (leave t ∷ Q) (spent k g t) Q
  leave_spent waits =
      leave_turned k g t Q I (painted Black (at g t)) g.store.front g.given I.tidy.0.uncounted refl
      (let own = I.each t I.tidy.0.inside in record {
        links_fit = length-replicate k.links 0;
        bytes_fit = length-replicate k.bytes 0;
        holds_few = own.holds_few;
        holds_counted = own.holds_counted;
        used_unchained = own.used_unchained;
        free_blank = λ e. absurd (both_ways (at g t).used e I.tidy.0.in_use);
      })
      (inl refl) (λ _. (refl, (refl, waits))) (
        I.chain.0,
        left_chain k g.store t I.tidy.0.inside I.heads_fit I.tidy.0.in_use I.chain (painted Black (at g t)),
        each_head g.store t I.tidy.0.inside (painted Black (at g t)) (λ r d. naming r I.chain.0 + once d.used ≡ 1) I.heads_fit
            (I.chain.2 t I.tidy.0.inside) (λ r w _. I.chain.2 r w),
      )

  leave_given_up : (at g t).waiting ≡ false → Left (Releasing k) counted_room t g (leave t ∷ Q) (given_up k g t) Q
  leave_given_up still =
      leave_turned k g t Q I (free_header g.store.front) t (g.given + 1) refl (sym still) (free_settled k g.store.front)
      (inl refl) (λ e. absurd (true≢false (sym e))) (given_chain k g.store t I.tidy.0.inside I.heads_fit I.tidy.0.in_use I.chain)

  release_leave : Left (Releasing k) counted_room t g (leave t ∷ Q) (released k g t) Q
  release_leave = by_wait (at g t).waiting refl
    where
      by_wait : (b : Bool) → (at g t).waiting ≡ b → Left (Releasing k) counted_room t g (leave t ∷ Q) (released k g t) Q
      by_wait true e =
          subst (λ y. Left (Releasing k) counted_room t g (leave t ∷ Q) y Q) (sym (cond-true (at g t).waiting (spent k g t) (given_up k g t) e)) (leave_spent e)
      by_wait false e =
          subst (λ y. Left (Releasing k) counted_room t g (leave t ∷ Q) y Q) (sym (cond-false (at g t).waiting (spent k g t) (given_up k g t) e)) (leave_given_up e)

-- one that fails the test is not counted
count_by_misses : {X : Type 0} (p : X → Bool) (xs : List X) (j : ℕ) (d : X) → j < length xs → p (get_or xs j d) ≡ false → count_by p xs + 1 ≤ length xs
count_by_misses p [] j d l e = let no : ⊥ = omega arith in absurd no
count_by_misses p (x ∷ xs) zero d l e =
    omega (arith, sum_by-cons (λ y. cond (p y) 1 0) x xs, cond-false {A = ℕ} (p x) 1 0 e, count_by-le-length p xs)
count_by_misses p (x ∷ xs) (suc j) d l e =
    omega (arith, sum_by-cons (λ y. cond (p y) 1 0) x xs, at_most (p x), count_by_misses p xs j d (omega arith) e)
  where
    at_most : (b : Bool) → once b ≤ 1
    at_most true = omega arith
    at_most false = omega arith

room_most : (k : Shape) (g : Progress) (Q : List Task) → Releasing k g Q → counted_room g Q ≤ length g.store.rows
room_most k g [] I = omega (arith, count_by-le-length (λ h. not (eqb h.count 0)) g.store.heads, I.heads_fit)
room_most k g (follow u ∷ Q) I = omega (arith, count_by-le-length (λ h. not (eqb h.count 0)) g.store.heads, I.heads_fit)
room_most k g (leave u ∷ Q) I = omega (arith, count_by-le-length (λ h. not (eqb h.count 0)) g.store.heads, I.heads_fit)
room_most k g (visit u ∷ Q) I = by_end (eqb (head g.store u).count 0) refl
  where
    by_end : (b : Bool) → eqb (head g.store u).count 0 ≡ b → counted_room g (visit u ∷ Q) ≤ length g.store.rows
    by_end true e =
        omega (
          arith,
          ap once e,
          I.heads_fit,
          count_by_misses (λ h. not (eqb h.count 0)) g.store.heads (u - 1) (free_header 0) (omega (arith, I.tidy.0.inside, I.heads_fit)) (ap not e),
        )
    by_end false e = omega (arith, ap once e, count_by-le-length (λ h. not (eqb h.count 0)) g.store.heads, I.heads_fit)

pub release_keeps : (k : Shape) → Keeps k.links (releasing k) (Releasing k) counted_room
release_keeps k = record {
  wide = λ g Q I r w. (I.each r w).links_fit;
  most = λ g Q I. room_most k g Q I;
  within = λ g t Q I. I.tidy.0.inside;
  once = λ g t Q I. I.tidy.0.once_only;
  empty = λ g Q I. release_empty k g Q I;
  follows = λ g t Q ne I. release_follow k g t Q ne I;
  begins = λ g t Q e I. release_enter k g t Q e I;
  lowers = λ g t Q e I. release_lowers k g t Q e I;
  passes = λ g t Q e I. release_pass k g t Q e I;
  leaves = λ g t Q I. release_leave k g t Q I;
}

-- a record that is left is in use, and so are no more than there can be without it
pub leave_few : (k : Shape) (g : Progress) (t : ℕ) (Q : List Task) → Releasing k g (leave t ∷ Q) → 1 ≤ in_use g.store
leave_few k g t Q I =
    omega (
      arith,
      ap once I.tidy.0.in_use,
      get_or-le-sum_by (λ h. cond h.used 1 0) g.store.heads (t - 1) (free_header 0) (omega (arith, I.tidy.0.inside, I.heads_fit)),
    )

-- the front of the chain is a record, or none
pub front_small : (k : Shape) (g : Progress) (Q : List Task) → Releasing k g Q → g.store.front ≤ 4095
front_small k g Q I = chain_small g.store g.store.front I.chain.0 I.few I.chain.1
