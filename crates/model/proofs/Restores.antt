-- Restore: each of its steps keeps what it relies on, it enters no record twice, and what it changes of a store.
use Rattle.std.proofs.Common.{◌≡◌, ℕ, zero, suc, ◌+◌, ◌-◌, ◌<◌, ◌≤◌, Bool, true, false, not, eqb, ◌≢◌, ◌⊎◌, List, [], ◌∷◌, ◌++◌, map, length, get_or, set, count_by, sym, refl, ap, ◌∙◌, subst, inl, inr, ⊎_elim, mul-le-mul_right, arith}
use Rattle.std.proofs.lemmas.List.{length-set}
use Rattle.std.proofs.ByRecursion.{All-from_get_or, sum_by_le}
use Rattle.std.proofs.lemmas.List.Sums.{count_by-le-length}
use Rattle.std.proofs.lemmas.Bool.{cases_eq, both_ways, true≢false, eq-eqb, ne_eqb}
use Rattle.kinds.specs.Rows.{Row, Shape}
use Rattle.model.specs.State.{State, Within, head, row, no_row, with_head}
use Rattle.model.specs.Headers.{Header, free_header, painted, more_one, is_black}
use Rattle.model.specs.Lawful.{Links, Used, Settled, naming, once}
use Rattle.model.specs.Walk.{Progress, Task, full, Turned, Keeps}
use Rattle.model.specs.Walk.Task.{follow, visit, leave}
use Rattle.model.specs.Entering.{Opens}
use Rattle.model.specs.Release.{at, turn}
use Rattle.model.specs.Collection.{restoring}
use Rattle.model.specs.Releasing.{Next}
use Rattle.model.specs.Colouring.{Awaited, named_where, due, Queue, Orderly, open_room, open_once, Sized, unblack, Restoring}
use Rattle.model.specs.declared.heads.Colour.{Colour}
use Rattle.model.specs.declared.heads.Colour.TheVariants.{Black, Gray, White, Purple}
use Rattle.model.proofs.Walks.{Also, keeps_and, walk_keeps}
use Rattle.model.proofs.Places.{each_head, head_there, head_elsewhere}
use Rattle.model.proofs.Counting.{naming_has}
use Rattle.model.proofs.Colourings.{naming_some, where_same, where_on, where_some, where_most, due_hit, due_miss, due_links, queue_stands, queue_absent, queue_links, queue_orderly, room_set, once_set}

-- Counting the links of the records that keep p.
module _ (p : Header → Bool) (s : State) where
  -- whoever is counted is named by a record
  pub named_by :
      (t : ℕ) → 1 ≤ t → 0 < named_where p s t → (r : ℕ) × (Within s r × ((p (head s r) ≡ true) × Links s r t))
  named_by t a c =
      let q = where_some p t s.heads s.rows c in
      let j : (q.0 + 1) - 1 ≡ q.0 = omega arith in
      let i = naming_some t (get_or s.rows q.0 no_row).links q.1.1.1 in (
        q.0 + 1,
        (
          (omega arith, omega (arith, q.1.0)),
          (
            ap (λ x. p (get_or s.heads x (free_header 0))) j ∙ q.1.1.0,
            (a, (i.0, ap (λ x. get_or (get_or s.rows x no_row).links i.0 0) j ∙ i.1)),
          ),
        ),
      )

  -- no more than 4,095 records of 16 links can name a record
  pub named_small : (k : Shape) → Sized k s → k.links ≤ 16 → (t : ℕ) → named_where p s t ≤ 65520
  named_small k size few t =
      omega (
        arith,
        size.few,
        mul-le-mul_right 16 size.few,
        where_most p t s.heads s.rows,
        sum_by_le (λ x. naming t x.links) 16 s.rows (All-from_get_or (λ x. naming t x.links ≤ 16) s.rows no_row few_links),
      )
    where
      few_links : (i : ℕ) → i < length s.rows → naming t (get_or s.rows i no_row).links ≤ 16
      few_links i l =
          let fit = (size.each (i + 1) (omega arith, omega arith)).links_fit in
          let e : (i + 1) - 1 ≡ i = omega arith in
          omega (
            arith,
            count_by-le-length (λ x. eqb x t) (get_or s.rows i no_row).links,
            subst (λ j. length (get_or s.rows j no_row).links ≡ k.links) e fit,
            few,
          )

-- one of the four colours
pub unblack_not : (c : Colour) → not (is_black c) ≡ true → is_black c ≡ false
unblack_not Black e = absurd (true≢false (sym e))
unblack_not Gray e = refl
unblack_not White e = refl
unblack_not Purple e = refl

pub black_not : (c : Colour) → not (is_black c) ≡ false → is_black c ≡ true
black_not Black e = refl
black_not Gray e = absurd (true≢false e)
black_not White e = absurd (true≢false e)
black_not Purple e = absurd (true≢false e)

-- a free record is black
pub unblack_used : (k : Shape) (h : Header) (w : Row) → Settled k h w → is_black h.colour ≡ false → h.used ≡ true
unblack_used k h w own c = by_use h.used refl
  where
    by_use : (b : Bool) → h.used ≡ b → h.used ≡ true
    by_use true e = e
    by_use false e = absurd (true≢false (sym (ap (λ x. is_black x.colour) (own.free_blank e).1) ∙ c))

-- a record in use, of another colour or with one reference more
pub painted_settled : (k : Shape) (c : Colour) (h : Header) (w : Row) → Settled k h w → h.used ≡ true → Settled k (painted c h) w
painted_settled k c h w own u = record {
  links_fit = own.links_fit;
  bytes_fit = own.bytes_fit;
  holds_few = own.holds_few;
  holds_counted = own.holds_counted;
  used_unchained = own.used_unchained;
  free_blank = λ e. absurd (both_ways h.used e u);
}

more_settled : (k : Shape) (h : Header) (w : Row) → Settled k h w → h.used ≡ true → Settled k (more_one h) w
more_settled k h w own u = record {
  links_fit = own.links_fit;
  bytes_fit = own.bytes_fit;
  holds_few = own.holds_few;
  holds_counted = omega (arith, own.holds_counted);
  used_unchained = own.used_unchained;
  free_blank = λ e. absurd (both_ways h.used e u);
}

-- one head changes
module _ (k : Shape) (s : State) (t : ℕ) (h : Header) (size : Sized k s) (w : Within s t) where
  pub sized_turn : Settled k h (row s t) → Sized k (with_head s t h)
  sized_turn own = record {
    few = size.few;
    heads_fit = length-set s.heads (t - 1) h ∙ size.heads_fit;
    each = each_head s t w h (λ r d. Settled k d (row s r)) size.heads_fit own (λ r v _. size.each r v);
    links_within = size.links_within;
  }

  pub used_turn : h.used ≡ true → (u : ℕ) → Used s u → Used (with_head s t h) u
  used_turn e u v =
      (v.0, each_head s t w h (λ r d. (head s r).used ≡ true → d.used ≡ true) size.heads_fit (λ _. e) (λ _ _ _ x. x) u v.0 v.1)

  -- what holds of the records to be left stands where it goes over to the new head
  pub queue_turn :
      (E : Header → Type 0) → h.used ≡ true → (E (head s t) → E h) → (Q : List Task) → Queue E s Q → Queue E (with_head s t h) Q
  queue_turn E e f Q q =
      queue_stands E s (with_head s t h) Q refl
      (λ u v x. each_head s t w h (λ r d. ((head s r).used ≡ true) × E (head s r) → (d.used ≡ true) × E d) size.heads_fit
      (λ y. (e, f y.1)) (λ _ _ _ y. y) u v x) q

  -- how many records keep p
  pub room_turn : (p : Header → Bool) → count_by p (set s.heads (t - 1) h) + once (p (head s t)) ≡ count_by p s.heads + once (p h)
  room_turn p = room_set p s.heads (t - 1) h (omega (arith, w, size.heads_fit))

-- the links of a record, as tasks
pub links_follow :
    (k : Shape) (s : State) (t : ℕ) (E : Header → Type 0) (Q : List Task) → Sized k s → Within s t → Queue E s Q →
    Queue E s (map follow (row s t).links ++ Q)
links_follow k s t E Q size w q =
    queue_links E s (row s t).links Q
    (λ i. elim (cases_eq (get_or (row s t).links i 0) 0) [
      | inl e ↦ inl e
      | inr n ↦ inr (size.links_within t (get_or (row s t).links i 0) w (omega (arith, n), (i, refl)))
    ]) q

abbrev BlackLeft : Header → Type 0
BlackLeft h = is_black h.colour ≡ true

abbrev Any : Header → Type 0
Any h = Unit {0}

-- the count adds up
abbrev AddsUp : State → List Task → ℕ → Type 0
AddsUp s Q r = (head s r).count + due r Q ≡ (head s r).holds + named_where (λ h. is_black h.colour) s r

-- What stands where neither the store nor what is due changes.
same_store :
    (k : Shape) (g : Progress) (P Q : List Task) → Restoring k g P → ((r : ℕ) → 1 ≤ r → due r P ≡ due r Q) →
    Orderly Any BlackLeft g.store Q → Restoring k g Q
same_store k g P Q I d o = record {
  sized = I.sized;
  links_used = I.links_used;
  unsuspected = I.unsuspected;
  counts = λ r w. omega (arith, I.counts r w, d r w.0);
  orderly = o;
}

-- A link to t is followed.
module _ (k : Shape) (g : Progress) (t : ℕ) (Q : List Task) (ne : t ≢ 0) (I : Restoring k g (follow t ∷ Q)) where
  pub restoring_within : Within g.store t
  restoring_within = elim I.orderly.0 [ inl z ↦ absurd (ne z) | inr w ↦ w ]

  -- some record that is black has the link
  follow_used : (head g.store t).used ≡ true
  follow_used =
      let w = restoring_within in
      let c : 0 < named_where (λ h. is_black h.colour) g.store t =
      omega (arith, I.counts t w, due_hit t Q, (I.sized.each t w).holds_counted) in
      let q = named_by (λ h. is_black h.colour) g.store t w.0 c in
      (I.links_used q.0 t q.1.0 q.1.1.1).1

  pub restoring_small : k.links ≤ 16 → (head g.store t).count < 4294967295
  restoring_small few =
      let w = restoring_within in
      omega (
        arith,
        I.counts t w,
        (I.sized.each t w).holds_few,
        named_small (λ h. is_black h.colour) g.store k I.sized few t,
      )

  follow_counts : (r : ℕ) → Within g.store r → AddsUp (with_head g.store t (more_one (at g t))) (visit t ∷ Q) r
  follow_counts r w =
      each_head g.store t restoring_within (more_one (at g t))
      (λ y h. h.count + due y Q ≡ h.holds + named_where (λ d. is_black d.colour) (with_head g.store t (more_one (at g t))) y)
      I.sized.heads_fit
      (omega (arith, I.counts t restoring_within, due_hit t Q, still t))
      (λ y v n. omega (arith, I.counts y v, due_miss t y Q (λ e. n (sym e)), still y)) r w
    where
      still :
          (y : ℕ) →
          named_where (λ d. is_black d.colour) (with_head g.store t (more_one (at g t))) y
          ≡ named_where (λ d. is_black d.colour) g.store y
      still y = where_same (λ d. is_black d.colour) y g.store.heads g.store.rows (t - 1) (more_one (at g t)) refl

  restore_follow :
      Turned (Restoring k) (open_room unblack) g (follow t ∷ Q) (turn g t (more_one (at g t))) (visit t ∷ Q)
  restore_follow =
      let w = restoring_within in
      record {
        rows = refl;
        fewer = omega (arith, room_turn k g.store t (more_one (at g t)) I.sized w unblack);
        fits = record {
          sized =
              sized_turn k g.store t (more_one (at g t)) I.sized w
              (more_settled k (at g t) (row g.store t) (I.sized.each t w) follow_used);
          links_used = λ r u v l. used_turn k g.store t (more_one (at g t)) I.sized w follow_used u (I.links_used r u v l);
          unsuspected =
              each_head g.store t w (more_one (at g t)) (λ r h. h.colour ≡ Purple → ⊥) I.sized.heads_fit (I.unsuspected t w)
              (λ r v _. I.unsuspected r v);
          counts = follow_counts;
          orderly = (
            (w, tt),
            queue_turn k g.store t (more_one (at g t)) I.sized w BlackLeft follow_used (λ e. e) Q I.orderly.1,
          );
        };
      }

-- A record that is not black is entered.
module _ (k : Shape) (g : Progress) (t : ℕ) (Q : List Task) (e : not (is_black (at g t).colour) ≡ true) (I : Restoring k g (visit t ∷ Q)) where
  enter_within : Within g.store t
  enter_within = I.orderly.0.0

  enter_used : (head g.store t).used ≡ true
  enter_used = unblack_used k (at g t) (row g.store t) (I.sized.each t enter_within) (unblack_not (at g t).colour e)

  -- its links are counted again, and are still to be followed
  enter_counts :
      (r : ℕ) → Within g.store r →
      AddsUp (with_head g.store t (painted Black (at g t))) (map follow (row g.store t).links ++ (leave t ∷ Q)) r
  enter_counts r w =
      each_head g.store t enter_within (painted Black (at g t))
      (λ y h.
      h.count + due y (map follow (row g.store t).links ++ (leave t ∷ Q))
      ≡ h.holds + named_where (λ d. is_black d.colour) (with_head g.store t (painted Black (at g t))) y)
      I.sized.heads_fit (moves t enter_within) (λ y v _. moves y v) r w
    where
      moves :
          (y : ℕ) → Within g.store y →
          (head g.store y).count + due y (map follow (row g.store t).links ++ (leave t ∷ Q))
          ≡ (head g.store y).holds + named_where (λ d. is_black d.colour) (with_head g.store t (painted Black (at g t))) y
      moves y v =
          omega (
            arith,
            I.counts y v,
            due_links y (row g.store t).links (leave t ∷ Q),
            where_on (λ d. is_black d.colour) y g.store.heads g.store.rows (t - 1) (painted Black (at g t))
                (omega (arith, enter_within, I.sized.heads_fit)) (omega (arith, enter_within)) refl (unblack_not (at g t).colour e),
          )

  enter_queue : Queue BlackLeft (with_head g.store t (painted Black (at g t))) (map follow (row g.store t).links ++ (leave t ∷ Q))
  enter_queue =
      let w = enter_within in
      let size = sized_turn k g.store t (painted Black (at g t)) I.sized w
      (painted_settled k Black (at g t) (row g.store t) (I.sized.each t w) enter_used) in
      let there = head_there g.store t w (painted Black (at g t)) I.sized.heads_fit in
      links_follow k (with_head g.store t (painted Black (at g t))) t BlackLeft (leave t ∷ Q) size w (
        (
          (w, ap (λ h. h.used) there ∙ enter_used),
          (
            ap (λ h. is_black h.colour) there,
            queue_absent BlackLeft g.store t Q (λ b. both_ways (is_black (at g t).colour) (unblack_not (at g t).colour e) b) I.orderly.1,
          ),
        ),
        queue_turn k g.store t (painted Black (at g t)) I.sized w BlackLeft enter_used (λ _. refl) Q I.orderly.1,
      )

  restore_lowers :
      open_room unblack (turn g t (painted Black (at g t))) (map follow (row g.store t).links ++ (leave t ∷ Q))
      < open_room unblack g (visit t ∷ Q)
  restore_lowers = omega (arith, room_turn k g.store t (painted Black (at g t)) I.sized enter_within unblack, ap once e)

  restore_enter :
      Turned (Restoring k) (open_room unblack) g (visit t ∷ Q) (turn g t (painted Black (at g t)))
      (map follow (row g.store t).links ++ (leave t ∷ Q))
  restore_enter =
      let w = enter_within in
      record {
        rows = refl;
        fewer = omega (arith, restore_lowers);
        fits = record {
          sized =
              sized_turn k g.store t (painted Black (at g t)) I.sized w
              (painted_settled k Black (at g t) (row g.store t) (I.sized.each t w) enter_used);
          links_used = λ r u v l. used_turn k g.store t (painted Black (at g t)) I.sized w enter_used u (I.links_used r u v l);
          unsuspected =
              each_head g.store t w (painted Black (at g t)) (λ r h. h.colour ≡ Purple → ⊥) I.sized.heads_fit
              (λ x. true≢false (ap is_black x)) (λ r v _. I.unsuspected r v);
          counts = enter_counts;
          orderly =
              queue_orderly BlackLeft Any (with_head g.store t (painted Black (at g t)))
              (map follow (row g.store t).links ++ (leave t ∷ Q)) enter_queue;
        };
      }

pub restoring_keeps : (k : Shape) → Keeps k.links restoring (Restoring k) (open_room unblack)
restoring_keeps k = record {
  wide = λ g Q I r w. (I.sized.each r w).links_fit;
  most = λ g Q I. omega (arith, count_by-le-length unblack g.store.heads, I.sized.heads_fit);
  within = λ g t Q I. I.orderly.0.0;
  once = λ g t Q I. I.orderly.0.1.1;
  empty = λ g Q I. record {
    rows = refl;
    fewer = omega arith;
    fits = same_store k g (follow 0 ∷ Q) Q I (λ r a. due_miss 0 r Q (λ z. omega (arith, a, z)))
        (queue_orderly BlackLeft Any g.store Q I.orderly.1);
  };
  follows = λ g t Q ne I. restore_follow k g t Q ne I;
  begins = λ g t Q e I. restore_enter k g t Q e I;
  lowers = λ g t Q e I. restore_lowers k g t Q e I;
  passes = λ g t Q e I. record {
    rows = refl;
    fewer = omega arith;
    fits = same_store k g (visit t ∷ Q) Q I (λ r a. refl) (queue_orderly BlackLeft Any g.store Q I.orderly.1);
  };
  leaves = λ g t Q I. record {
    size = refl;
    others = λ r a n. refl;
    fewer = omega arith;
    fits = same_store k g (leave t ∷ Q) Q I (λ r a. refl) (queue_orderly BlackLeft Any g.store Q I.orderly.1);
  };
}

-- A record once black stays black.
module _ (p : Header → Bool) where
  pub open_at_most : (g : Progress) (Q : List Task) (r : ℕ) → open_once p g Q r ≤ 1
  open_at_most g Q r = by (p (head g.store r))
    where
      by : (b : Bool) → once b ≤ 1
      by true = omega arith
      by false = omega arith

  -- one head changes that does not come to keep p
  pub open_turn :
      (k : Shape) (g : Progress) (t : ℕ) (h : Header) (P Q : List Task) → Sized k g.store → Within g.store t →
      once (p h) ≤ once (p (at g t)) → (r : ℕ) → 1 ≤ r → open_once p (turn g t h) P r ≤ open_once p g Q r
  open_turn k g t h P Q size w f r a = once_set p g.store.heads t r h w.0 (omega (arith, w, size.heads_fit)) a f

  -- one head comes not to keep p
  pub open_entered :
      (k : Shape) (g : Progress) (t : ℕ) (h : Header) (P Q : List Task) → Sized k g.store → Within g.store t →
      p h ≡ false → p (at g t) ≡ true → (r : ℕ) → 1 ≤ r → once (eqb t r) + open_once p (turn g t h) P r ≤ open_once p g Q r
  open_entered k g t h P Q size w f e r a = ⊎_elim
      (λ q.
      subst (λ y. once (eqb t y) + open_once p (turn g t h) P y ≤ open_once p g Q y) (sym q)
      (omega (
        arith,
        ap once (eq-eqb t t refl),
        ap (λ d. once (p d)) (head_there g.store t w h size.heads_fit),
        ap once f,
        ap once e,
      )))
      (λ n. omega (arith, ap once (ne_eqb t r (λ x. n (sym x))), ap (λ d. once (p d)) (head_elsewhere g.store t w h r a n)))
      (cases_eq r t)

pub restoring_opens : (k : Shape) → Opens restoring (Restoring k) (open_once unblack)
restoring_opens k = record {
  single = open_at_most unblack;
  empty = λ g Q I r a. omega arith;
  follows = λ g t Q ne I r a.
      open_turn unblack k g t (more_one (at g t)) (visit t ∷ Q) (follow t ∷ Q) I.sized (restoring_within k g t Q ne I) (omega arith) r a;
  begins = λ g t Q e I r a.
      open_entered unblack k g t (painted Black (at g t)) (map follow (row g.store t).links ++ (leave t ∷ Q)) (visit t ∷ Q) I.sized
      I.orderly.0.0 refl e r a;
  passes = λ g t Q e I r a. omega arith;
  leaves = λ g t Q I r a. omega arith;
}

-- Of two headers, all but count and colour is the same.
pub record Alike (h d : Header) : Type 0 where
  pub used : h.used ≡ d.used
  pub holds : h.holds ≡ d.holds
  pub waiting : h.waiting ≡ d.waiting
  pub next : h.next ≡ d.next

-- From b to z nothing changes but counts and colours.
pub record Standing (b z : Progress) : Type 0 where
  pub rows : z.store.rows ≡ b.store.rows
  pub size : length z.store.heads ≡ length b.store.heads
  pub list : z.store.candidates ≡ b.store.candidates
  pub front : z.store.front ≡ b.store.front
  pub given : z.given ≡ b.given
  pub alike : (r : ℕ) → Within z.store r → Alike (head z.store r) (head b.store r)

pub standing_same : (b : Progress) → Standing b b
standing_same b = record {
  rows = refl;
  size = refl;
  list = refl;
  front = refl;
  given = refl;
  alike = λ r w. record { used = refl; holds = refl; waiting = refl; next = refl };
}

-- the same records, and the same links
module _ (b z : Progress) (S : Standing b z) where
  pub standing_within : (r : ℕ) → Within b.store r → Within z.store r
  standing_within r w = (w.0, omega (arith, w.1, ap length S.rows))

  pub standing_back : (r : ℕ) → Within z.store r → Within b.store r
  standing_back r w = (w.0, omega (arith, w.1, ap length S.rows))

  pub standing_links : (r u : ℕ) → Links z.store r u → Links b.store r u
  standing_links r u l = (l.0, (l.1.0, ap (λ ws. get_or (get_or ws (r - 1) no_row).links l.1.0 0) (sym S.rows) ∙ l.1.1))

  pub standing_used : (r : ℕ) → Used z.store r → Used b.store r
  standing_used r u = (standing_back r u.0, sym (S.alike r u.0).used ∙ u.1)

  pub standing_on : (y : Progress) → Standing z y → Standing b y
  standing_on y T = record {
    rows = T.rows ∙ S.rows;
    size = T.size ∙ S.size;
    list = T.list ∙ S.list;
    front = T.front ∙ S.front;
    given = T.given ∙ S.given;
    alike = λ r w.
        let v : Within z.store r = (w.0, omega (arith, w.1, ap length T.rows)) in
        let c = T.alike r w in
        let a = S.alike r v in
        record {
          used = c.used ∙ a.used;
          holds = c.holds ∙ a.holds;
          waiting = c.waiting ∙ a.waiting;
          next = c.next ∙ a.next;
        };
  }

  pub standing_turn :
      (t : ℕ) (h : Header) → length z.store.heads ≡ length z.store.rows → Within z.store t → Alike h (at z t) → Standing b (turn z t h)
  standing_turn t h fit w a = record {
    rows = S.rows;
    size = length-set z.store.heads (t - 1) h ∙ S.size;
    list = S.list;
    front = S.front;
    given = S.given;
    alike =
        each_head z.store t w h (λ r d. Alike d (head b.store r)) fit
        (let c = S.alike t w in
        record {
          used = a.used ∙ c.used;
          holds = a.holds ∙ c.holds;
          waiting = a.waiting ∙ c.waiting;
          next = a.next ∙ c.next;
        }) (λ r v _. S.alike r v);
  }

-- Record u does not keep p, or is still to be walked.
abbrev pub Done : (Header → Bool) → State → List Task → ℕ → Type 0
Done p s Q u = (p (head s u) ≡ false) ⊎ Awaited u Q

-- Each step leaves it so, where what did not keep p before does not after.
module _ (p : Header → Bool) (s z : State) (u : ℕ) (still : p (head s u) ≡ false → p (head z u) ≡ false) where
  pub done_empty : (Q : List Task) → 1 ≤ u → Done p s (follow 0 ∷ Q) u → Done p z Q u
  done_empty Q a (inl e) = inl (still e)
  done_empty Q a (inr (inl d)) = inr (inl (omega (arith, d, due_miss 0 u Q (λ e. omega (arith, a, e)))))
  done_empty Q a (inr (inr n)) = absurd n

  pub done_follow : (t : ℕ) (Q : List Task) → Done p s (follow t ∷ Q) u → Done p z (visit t ∷ Q) u
  done_follow t Q (inl e) = inl (still e)
  done_follow t Q (inr (inl d)) = elim (cases_eq t u) [ inl e ↦ inr (inr e) | inr n ↦ inr (inl (omega (arith, d, due_miss t u Q n))) ]
  done_follow t Q (inr (inr n)) = absurd n

  pub done_enter :
      (t : ℕ) (us : List ℕ) (Q : List Task) → (t ≡ u → p (head z u) ≡ false) → Done p s (visit t ∷ Q) u →
      Done p z (map follow us ++ (leave t ∷ Q)) u
  done_enter t us Q f (inl e) = inl (still e)
  done_enter t us Q f (inr (inl d)) = inr (inl (omega (arith, d, due_links u us (leave t ∷ Q))))
  done_enter t us Q f (inr (inr e)) = inl (f e)

  pub done_pass : (t : ℕ) (Q : List Task) → (t ≡ u → p (head z u) ≡ false) → Done p s (visit t ∷ Q) u → Done p z Q u
  done_pass t Q f (inl e) = inl (still e)
  done_pass t Q f (inr (inl d)) = inr (inl d)
  done_pass t Q f (inr (inr e)) = inl (f e)

  pub done_leave : (t : ℕ) (Q : List Task) → Done p s (leave t ∷ Q) u → Done p z Q u
  done_leave t Q (inl e) = inl (still e)
  done_leave t Q (inr (inl d)) = inr (inl d)
  done_leave t Q (inr (inr n)) = absurd n

-- only the first task can be a visit
pub queue_unvisited : (E : Header → Type 0) (s : State) (u : ℕ) (Q : List Task) → Queue E s Q → Next u Q → ⊥
queue_unvisited E s u [] q n = n
queue_unvisited E s u (follow v ∷ Q) q n = n
queue_unvisited E s u (visit v ∷ Q) q n = q
queue_unvisited E s u (leave v ∷ Q) q n = n

-- where no task is left, it is done
pub done_end : (p : Header → Bool) (s : State) (u : ℕ) → Done p s [] u → p (head s u) ≡ false
done_end p s u (inl e) = e
done_end p s u (inr (inl d)) = absurd (let no : ⊥ = omega (arith, d) in no)
done_end p s u (inr (inr n)) = absurd n

next_links : (r t : ℕ) (us : List ℕ) (Q : List Task) → Next r (map follow us ++ (leave t ∷ Q)) → ⊥
next_links r t [] Q n = n
next_links r t (u ∷ us) Q n = n

-- a link of t is among those to be followed
pub links_due :
    (s : State) (t u : ℕ) (Q : List Task) → Links s t u → 0 < due u (map follow (row s t).links ++ Q)
links_due s t u Q l =
    omega (arith, due_links u (row s t).links Q, naming_has (row s t).links l.1.0 u l.0 l.1.1)

-- A restore that began at b. X holds of all that is alive in b, of the record where the restore begins, and goes on along
-- links; W are the records that the restore is to make black.
pub record Restored (b : Progress) (X W : ℕ → Type 0) (g : Progress) (Q : List Task) : Type 0 where
  pub standing : Standing b g
  -- the colours are those of b, but for what is black now
  pub colours :
      (r : ℕ) → Within g.store r →
      ((head g.store r).colour ≡ (head b.store r).colour) ⊎ ((head g.store r).colour ≡ Black)
  -- what is not black has the count that it had, or is visited next
  pub counts :
      (r : ℕ) → Within g.store r → is_black (head g.store r).colour ≡ false →
      ((head g.store r).count ≡ (head b.store r).count) ⊎ Next r Q
  -- what has turned black has links only to what is black or still to be walked
  pub closed :
      (r u : ℕ) → Within g.store r → is_black (head b.store r).colour ≡ false →
      is_black (head g.store r).colour ≡ true → Links g.store r u → Done unblack g.store Q u
  pub wanted : (u : ℕ) → Within g.store u → W u → Done unblack g.store Q u
  pub alive : (r : ℕ) → Used g.store r → is_black (head g.store r).colour ≡ true → X r
  pub awaits : (r : ℕ) → Within g.store r → Awaited r Q → X r

-- The steps of a restore keep this.
module _ (k : Shape) (b : Progress) (X W : ℕ → Type 0) (onward : (r u : ℕ) → Within b.store r → X r → Links b.store r u → X u) where
  module _ (g : Progress) (t : ℕ) (Q : List Task) (ne : t ≢ 0) (I : Restoring k g (follow t ∷ Q)) (J : Restored b X W g (follow t ∷ Q)) where
    follow_each :
        (P : ℕ → Header → Type 0) → P t (more_one (at g t)) → ((r : ℕ) → Within g.store r → r ≢ t → P r (head g.store r)) →
        (r : ℕ) → Within g.store r → P r (head (with_head g.store t (more_one (at g t))) r)
    follow_each P = each_head g.store t (restoring_within k g t Q ne I) (more_one (at g t)) P I.sized.heads_fit

    follow_done :
        (u : ℕ) → Within g.store u → Done unblack g.store (follow t ∷ Q) u →
        Done unblack (with_head g.store t (more_one (at g t))) (visit t ∷ Q) u
    follow_done u w =
        done_follow unblack g.store (with_head g.store t (more_one (at g t))) u
        (follow_each (λ r d. unblack (head g.store r) ≡ false → unblack d ≡ false) (λ e. e) (λ _ _ _ e. e) u w) t Q

    restored_follow : Restored b X W (turn g t (more_one (at g t))) (visit t ∷ Q)
    restored_follow = record {
      standing =
          standing_turn b g J.standing t (more_one (at g t)) I.sized.heads_fit (restoring_within k g t Q ne I)
          (record { used = refl; holds = refl; waiting = refl; next = refl });
      colours =
          follow_each (λ r d. (d.colour ≡ (head b.store r).colour) ⊎ (d.colour ≡ Black)) (J.colours t (restoring_within k g t Q ne I))
          (λ r w _. J.colours r w);
      counts =
          follow_each (λ r d. is_black d.colour ≡ false → (d.count ≡ (head b.store r).count) ⊎ Next r (visit t ∷ Q)) (λ _. inr refl)
          (λ r w _ e. elim (J.counts r w e) [ inl a ↦ inl a | inr n ↦ absurd n ]);
      closed = λ r u w was now l.
          follow_done u (I.sized.links_within r u w l)
          (J.closed r u w was
          (follow_each (λ y d. is_black d.colour ≡ true → is_black (head g.store y).colour ≡ true) (λ e. e) (λ _ _ _ e. e) r w now) l);
      wanted = λ u w x. follow_done u w (J.wanted u w x);
      alive = λ r u e.
          follow_each (λ y d. d.used ≡ true → is_black d.colour ≡ true → X y)
          (λ v. J.alive t (restoring_within k g t Q ne I, v)) (λ y w _ v. J.alive y (w, v)) r u.0 u.1 e;
      awaits = awaits;
    }
      where
        awaits : (r : ℕ) → Within g.store r → Awaited r (visit t ∷ Q) → X r
        awaits r w (inl d) = J.awaits r w (inl (omega (arith, d)))
        awaits r w (inr e) =
            subst X e (J.awaits t (restoring_within k g t Q ne I) (inl (omega (arith, due_hit t Q))))

  module _ (g : Progress) (t : ℕ) (Q : List Task) (e : not (is_black (at g t).colour) ≡ true) (I : Restoring k g (visit t ∷ Q)) (J : Restored b X W g (visit t ∷ Q)) where
    enter_each :
        (P : ℕ → Header → Type 0) → P t (painted Black (at g t)) → ((r : ℕ) → Within g.store r → r ≢ t → P r (head g.store r)) →
        (r : ℕ) → Within g.store r → P r (head (with_head g.store t (painted Black (at g t))) r)
    enter_each P = each_head g.store t I.orderly.0.0 (painted Black (at g t)) P I.sized.heads_fit

    enter_black : (u : ℕ) → Within g.store u → t ≡ u → unblack (head (with_head g.store t (painted Black (at g t))) u) ≡ false
    enter_black u w = enter_each (λ r d. t ≡ r → unblack d ≡ false) (λ _. refl) (λ r _ n x. absurd (n (sym x))) u w

    enter_done :
        (u : ℕ) → Within g.store u → Done unblack g.store (visit t ∷ Q) u →
        Done unblack (with_head g.store t (painted Black (at g t))) (map follow (row g.store t).links ++ (leave t ∷ Q)) u
    enter_done u w =
        done_enter unblack g.store (with_head g.store t (painted Black (at g t))) u
        (enter_each (λ r d. unblack (head g.store r) ≡ false → unblack d ≡ false) (λ _. refl) (λ _ _ _ x. x) u w) t (row g.store t).links Q
        (enter_black u w)

    restored_enter : Restored b X W (turn g t (painted Black (at g t))) (map follow (row g.store t).links ++ (leave t ∷ Q))
    restored_enter = record {
      standing =
          standing_turn b g J.standing t (painted Black (at g t)) I.sized.heads_fit I.orderly.0.0
          (record { used = refl; holds = refl; waiting = refl; next = refl });
      colours =
          enter_each (λ r d. (d.colour ≡ (head b.store r).colour) ⊎ (d.colour ≡ Black)) (inr refl) (λ r w _. J.colours r w);
      counts =
          enter_each
          (λ r d.
          is_black d.colour ≡ false →
          (d.count ≡ (head b.store r).count) ⊎ Next r (map follow (row g.store t).links ++ (leave t ∷ Q)))
          (λ x. absurd (true≢false x)) (λ r w n x. elim (J.counts r w x) [ inl a ↦ inl a | inr y ↦ absurd (n (sym y)) ]);
      closed = λ r u w was now l.
          enter_each
          (λ y d.
          is_black (head b.store y).colour ≡ false → is_black d.colour ≡ true → Links g.store y u →
          Done unblack (with_head g.store t (painted Black (at g t))) (map follow (row g.store t).links ++ (leave t ∷ Q)) u)
          (λ _ _ m. inr (inl (links_due g.store t u (leave t ∷ Q) m)))
          (λ y v _ c d m. enter_done u (I.sized.links_within y u v m) (J.closed y u v c d m)) r w was now l;
      wanted = λ u w x. enter_done u w (J.wanted u w x);
      alive = λ r u x.
          enter_each (λ y d. d.used ≡ true → is_black d.colour ≡ true → X y) (λ _ _. visited)
          (λ y w _ v. J.alive y (w, v)) r u.0 u.1 x;
      awaits = awaits;
    }
      where
        visited : X t
        visited = J.awaits t I.orderly.0.0 (inr refl)

        awaits : (r : ℕ) → Within g.store r → Awaited r (map follow (row g.store t).links ++ (leave t ∷ Q)) → X r
        awaits r w (inr n) = absurd (next_links r t (row g.store t).links Q n)
        awaits r w (inl d) = by (naming r (row g.store t).links) refl
          where
            by : (n : ℕ) → naming r (row g.store t).links ≡ n → X r
            by zero z = J.awaits r w (inl (omega (arith, d, z, due_links r (row g.store t).links (leave t ∷ Q))))
            by (suc n) z =
                let i = naming_some r (row g.store t).links (omega (arith, z)) in
                onward t r (standing_back b g J.standing t I.orderly.0.0) visited (standing_links b g J.standing t r (w.0, i))

  -- the store stays as it is, and only the first task goes away
  restored_same :
      (g : Progress) (P Q : List Task) → Restoring k g P → Restored b X W g P →
      ((r : ℕ) → Within g.store r → is_black (head g.store r).colour ≡ false → Next r P → ⊥) →
      ((u : ℕ) → Within g.store u → Done unblack g.store P u → Done unblack g.store Q u) →
      ((u : ℕ) → Within g.store u → Awaited u Q → Awaited u P) → Restored b X W g Q
  restored_same g P Q I J f done waits = record {
    standing = J.standing;
    colours = J.colours;
    counts = λ r w e. elim (J.counts r w e) [ inl a ↦ inl a | inr n ↦ absurd (f r w e n) ];
    closed = λ r u w was now l. done u (I.sized.links_within r u w l) (J.closed r u w was now l);
    wanted = λ u w x. done u w (J.wanted u w x);
    alive = J.alive;
    awaits = λ r w a. J.awaits r w (waits r w a);
  }

  pub restored_also : Also restoring (Restoring k) (Restored b X W)
  restored_also = record {
    empty = λ g Q I J.
        restored_same g (follow 0 ∷ Q) Q I J (λ _ _ _ n. n) (λ u w. done_empty unblack g.store g.store u (λ x. x) Q w.0)
        (λ u w a. elim a [
          | inl d ↦ inl (omega (arith, d))
          | inr n ↦ absurd (queue_unvisited BlackLeft g.store u Q I.orderly.1 n)
        ]);
    follows = λ g t Q ne I J. restored_follow g t Q ne I J;
    begins = λ g t Q e I J. restored_enter g t Q e I J;
    passes = λ g t Q e I J.
        restored_same g (visit t ∷ Q) Q I J
        (λ r w x n. both_ways (is_black (head g.store r).colour) x
        (subst (λ y. is_black (head g.store y).colour ≡ true) n (black_not (at g t).colour e)))
        (λ u w. done_pass unblack g.store g.store u (λ x. x) t Q (λ n. subst (λ y. unblack (head g.store y) ≡ false) n e))
        (λ u w a. elim a [
          | inl d ↦ inl d
          | inr n ↦ absurd (queue_unvisited BlackLeft g.store u Q I.orderly.1 n)
        ]);
    leaves = λ g t Q I J.
        restored_same g (leave t ∷ Q) Q I J (λ _ _ _ n. n) (λ u w. done_leave unblack g.store g.store u (λ x. x) t Q)
        (λ u w a. elim a [
          | inl d ↦ inl d
          | inr n ↦ absurd (queue_unvisited BlackLeft g.store u Q I.orderly.1 n)
        ]);
  }

-- A whole restore from record t.
pub restore_walked :
    (k : Shape) (b : Progress) (t : ℕ) (X W : ℕ → Type 0) → Restoring k b (visit t ∷ []) →
    ((r u : ℕ) → Within b.store r → X r → Links b.store r u → X u) →
    ((r : ℕ) → Used b.store r → is_black (head b.store r).colour ≡ true → X r) → X t → ((u : ℕ) → W u → u ≡ t) →
    Restoring k (full restoring b t) [] × Restored b X W (full restoring b t) []
restore_walked k b t X W I onward alive root to =
    let K = keeps_and k.links restoring (Restoring k) (Restored b X W) (open_room unblack) (restoring_keeps k) (restored_also k b X W onward) in
    (walk_keeps k.links restoring (λ g Q. Restoring k g Q × Restored b X W g Q) (open_room unblack) K (suc (length b.store.rows)) b t []
    (omega (arith, (restoring_keeps k).most b (visit t ∷ []) I)) (I, start)).fits
  where
    start : Restored b X W b (visit t ∷ [])
    start = record {
      standing = standing_same b;
      colours = λ r w. inl refl;
      counts = λ r w e. inl refl;
      closed = λ r u w was now l. absurd (both_ways (is_black (head b.store r).colour) was now);
      wanted = λ u w x. inr (inr (sym (to u x)));
      alive = alive;
      awaits = λ r w a. elim a [ inl d ↦ absurd (let no : ⊥ = omega (arith, d) in no) | inr e ↦ subst X e root ];
    }
