-- Each step of a gathering keeps what holds during one.
use Rattle.std.proofs.Common.{◌≡◌, ℕ, ◌+◌, ◌-◌, ◌<◌, ◌≤◌, Bool, true, false, cond, not, eqb, ◌≢◌, List, [], ◌∷◌, ◌++◌, map, length, get_or, sym, refl, ap, ◌∙◌, subst, inl, inr, ⊎_elim, arith}
use Rattle.std.proofs.lemmas.List.{length-set}
use Rattle.std.proofs.lemmas.List.Sums.{sum_by-set, count_by-le-length, get_or-le-sum_by}
use Rattle.std.proofs.lemmas.Bool.{cases_eq, both_ways, true≢false, and_parts, eq-eqb, ne_eqb}
use Rattle.kinds.specs.Rows.{Row, Shape, blank}
use Rattle.model.specs.State.{State, Within, head, row, in_use, with_head}
use Rattle.model.specs.Headers.{Header, free_header, painted, is_white}
use Rattle.model.specs.Lawful.{Settled, naming, once}
use Rattle.model.specs.Walk.{Progress, Task, Absent, Turned, Left, Keeps}
use Rattle.model.specs.Walk.Task.{follow, visit, leave}
use Rattle.model.specs.Entering.{Opens}
use Rattle.model.specs.Release.{at, turn, given_up}
use Rattle.model.specs.Releasing.{live_named, FewGiven}
use Rattle.model.specs.Collection.{gathering}
use Rattle.model.specs.Colouring.{Queue, Orderly, Gathering, white, open_room, open_once}
use Rattle.model.specs.declared.heads.Colour.TheVariants.{Black}
use Rattle.model.proofs.Places.{each_head, head_there}
use Rattle.model.proofs.LiveCounting.{live_same}
use Rattle.model.proofs.LawfulCalls.{chain_elsewhere}
use Rattle.model.proofs.Colourings.{queue_elsewhere, queue_absent, queue_links, queue_orderly, room_set, once_set}
use Rattle.model.proofs.Leaving.{ended_as, left_size, left_back, left_on, left_both, left_other, left_row, left_links, left_live, free_settled, given_chain, chain_small, given_sum}
use Rattle.model.proofs.Releases.{positive}
use Rattle.model.proofs.Walks.{Also, keeps_and}

-- what holds of a record that is to be left
abbrev pub GoneBlack : Header → Type 0
GoneBlack h = (is_white h.colour ≡ false) × (h.count ≡ 0)

-- what is white, and what waits, is in use
module _ (k : Shape) (h : Header) (w : Row) (own : Settled k h w) where
  pub white_used : is_white h.colour ≡ true → h.used ≡ true
  white_used e = by_use h.used refl
    where
      by_use : (b : Bool) → h.used ≡ b → h.used ≡ true
      by_use true u = u
      by_use false u = absurd (both_ways (is_white h.colour) (ap (λ x. is_white x.colour) (own.free_blank u).1) e)

  pub waiting_used : h.waiting ≡ true → h.used ≡ true
  waiting_used e = by_use h.used refl
    where
      by_use : (b : Bool) → h.used ≡ b → h.used ≡ true
      by_use true u = u
      by_use false u = absurd (both_ways h.waiting (ap (λ x. x.waiting) (own.free_blank u).1) e)

-- The head of a record in use becomes h: in use, with the same holds, count and next, and not white where it has a count.
module _ (k : Shape) (g : Progress) (t : ℕ) (P Q : List Task) (I : Gathering k g P) (inside : Within g.store t) (used : (head g.store t).used ≡ true) where
  pub gathering_changed :
      (h : Header) → h.used ≡ true → h.holds ≡ (at g t).holds → h.count ≡ (at g t).count → h.next ≡ (at g t).next →
      (is_white h.colour ≡ true → h.count ≡ 0) →
      Orderly (λ _. Unit {0}) GoneBlack (with_head g.store t h) Q → Gathering k (turn g t h) Q
  gathering_changed h in_play holds count next pale tasks = record {
    sized = record {
      few = I.sized.few;
      heads_fit = length-set g.store.heads (t - 1) h ∙ I.sized.heads_fit;
      each = changed (λ r d. Settled k d (row g.store r)) own (λ r w _. I.sized.each r w);
      links_within = I.sized.links_within;
    };
    uncounted = changed (λ r d. is_white d.colour ≡ true → d.count ≡ 0) pale (λ r w _. I.uncounted r w);
    counts = λ r w.
        changed (λ y d. d.count ≡ d.holds + live_named (with_head g.store t h) y)
        (omega (arith, I.counts t inside, holds, count, live t)) (λ y v _. omega (arith, I.counts y v, live y)) r w;
    chain = (
      I.chain.0,
      chain_elsewhere g.store t h inside I.chain.0 g.store.front
          (omega (arith, I.chain.2 t inside, ap once used)) I.chain.1,
      changed (λ r d. naming r I.chain.0 + once d.used ≡ 1) (omega (arith, I.chain.2 t inside, ap once used, ap once in_play))
          (λ r w _. I.chain.2 r w),
    );
    orderly = tasks;
  }
    where
      changed :
          (R : ℕ → Header → Type 0) → R t h → ((r : ℕ) → Within g.store r → r ≢ t → R r (head g.store r)) →
          (r : ℕ) → Within g.store r → R r (head (with_head g.store t h) r)
      changed R = each_head g.store t inside h R I.sized.heads_fit

      live : (r : ℕ) → live_named (with_head g.store t h) r ≡ live_named g.store r
      live r = live_same r g.store.heads g.store.rows (t - 1) h (ap (λ n. eqb n 0) count)

      own : Settled k h (row g.store t)
      own =
          let old = I.sized.each t inside in record {
            links_fit = old.links_fit;
            bytes_fit = old.bytes_fit;
            holds_few = omega (arith, old.holds_few, holds);
            holds_counted = omega (arith, old.holds_counted, holds, count);
            used_unchained = λ _. next ∙ old.used_unchained used;
            free_blank = λ e. absurd (both_ways h.used e in_play);
          }

-- the same store with other tasks
pub gathering_tasks :
    (k : Shape) (g : Progress) (P Q : List Task) → Gathering k g P → Orderly (λ _. Unit {0}) GoneBlack g.store Q → Gathering k g Q
gathering_tasks k g P Q I tasks =
    record { sized = I.sized; uncounted = I.uncounted; counts = I.counts; chain = I.chain; orderly = tasks }

module _ (k : Shape) where
  gather_empty :
      (g : Progress) (Q : List Task) → Gathering k g (follow 0 ∷ Q) →
      Turned (Gathering k) (open_room white) g (follow 0 ∷ Q) g Q
  gather_empty g Q I = record {
    rows = refl;
    fewer = omega arith;
    fits = gathering_tasks k g (follow 0 ∷ Q) Q I (queue_orderly GoneBlack (λ _. Unit {0}) g.store Q I.orderly.1);
  }

  gather_follow :
      (g : Progress) (t : ℕ) (Q : List Task) → t ≢ 0 → Gathering k g (follow t ∷ Q) →
      Turned (Gathering k) (open_room white) g (follow t ∷ Q) g (visit t ∷ Q)
  gather_follow g t Q ne I = record {
    rows = refl;
    fewer = omega arith;
    fits =
        gathering_tasks k g (follow t ∷ Q) (visit t ∷ Q) I
        ((elim I.orderly.0 [ inl z ↦ absurd (ne z) | inr w ↦ w ], tt), I.orderly.1);
  }

  gather_pass :
      (g : Progress) (t : ℕ) (Q : List Task) → Gathering k g (visit t ∷ Q) → Turned (Gathering k) (open_room white) g (visit t ∷ Q) g Q
  gather_pass g t Q I = record {
    rows = refl;
    fewer = omega arith;
    fits = gathering_tasks k g (visit t ∷ Q) Q I (queue_orderly GoneBlack (λ _. Unit {0}) g.store Q I.orderly.1);
  }

-- A white record is entered: it turns black.
module _ (k : Shape) (g : Progress) (t : ℕ) (Q : List Task) (pale : is_white (at g t).colour ≡ true) (I : Gathering k g (visit t ∷ Q)) where
  enter_inside : Within g.store t
  enter_inside = I.orderly.0.0

  enter_used : (head g.store t).used ≡ true
  enter_used = white_used k (head g.store t) (row g.store t) (I.sized.each t enter_inside) pale

  enter_absent : Absent t Q
  enter_absent = queue_absent GoneBlack g.store t Q (λ e. both_ways (is_white (at g t).colour) e.0 pale) I.orderly.1

  abbrev enter_next : List Task
  enter_next = map follow (row g.store t).links ++ (leave t ∷ Q)

  enter_tasks : Queue GoneBlack (with_head g.store t (painted Black (at g t))) enter_next
  enter_tasks =
      let there = head_there g.store t enter_inside (painted Black (at g t)) I.sized.heads_fit in
      queue_links GoneBlack (with_head g.store t (painted Black (at g t))) (row g.store t).links (leave t ∷ Q)
      (λ i. elim (cases_eq (get_or (row g.store t).links i 0) 0) [
        | inl e ↦ inl e
        | inr n ↦ inr (I.sized.links_within t (get_or (row g.store t).links i 0) enter_inside
            (positive (get_or (row g.store t).links i 0) n, (i, refl)))
      ]) (
        (
          (enter_inside, ap (λ d. d.used) there ∙ enter_used),
          ((ap (λ d. is_white d.colour) there, ap (λ d. d.count) there ∙ I.uncounted t enter_inside pale), enter_absent),
        ),
        queue_elsewhere GoneBlack g.store t (painted Black (at g t)) enter_inside Q enter_absent I.orderly.1,
      )

  gather_lowers :
      open_room white (turn g t (painted Black (at g t))) enter_next < open_room white g (visit t ∷ Q)
  gather_lowers =
      omega (
        arith,
        room_set white g.store.heads (t - 1) (painted Black (at g t)) (omega (arith, enter_inside, I.sized.heads_fit)),
        ap once pale,
      )

  gather_enter : Turned (Gathering k) (open_room white) g (visit t ∷ Q) (turn g t (painted Black (at g t))) enter_next
  gather_enter = record {
    rows = refl;
    fewer = omega (arith, gather_lowers);
    fits =
        gathering_changed k g t (visit t ∷ Q) enter_next I enter_inside enter_used (painted Black (at g t))
        enter_used refl refl refl (λ e. absurd (true≢false (sym e)))
        (queue_orderly GoneBlack (λ _. Unit {0}) (with_head g.store t (painted Black (at g t))) enter_next enter_tasks);
  }

-- A record of which all links are gathered is left, and given up.
module _ (k : Shape) (g : Progress) (t : ℕ) (Q : List Task) (I : Gathering k g (leave t ∷ Q)) where
  leave_inside : Within g.store t
  leave_inside = I.orderly.0.0.0

  leave_used : (head g.store t).used ≡ true
  leave_used = I.orderly.0.0.1

  leave_fit : length g.store.heads ≡ length g.store.rows
  leave_fit = I.sized.heads_fit

  abbrev leave_store : State
  leave_store = ended_as k g.store t (free_header g.store.front) t

  leave_both :
      (P : ℕ → Row → Header → Type 0) → P t (blank k) (free_header g.store.front) →
      ((r : ℕ) → 1 ≤ r → r ≢ t → P r (row g.store r) (head g.store r)) →
      (r : ℕ) → 1 ≤ r → P r (row leave_store r) (head leave_store r)
  leave_both = left_both k g.store t (free_header g.store.front) t leave_inside leave_fit

  leave_back : (r : ℕ) → Within leave_store r → Within g.store r
  leave_back = left_back k g.store t (free_header g.store.front) t leave_inside leave_fit

  leave_on : (r : ℕ) → Within g.store r → Within leave_store r
  leave_on = left_on k g.store t (free_header g.store.front) t leave_inside leave_fit

  leave_live : (r : ℕ) → live_named leave_store r ≡ live_named g.store r
  leave_live = left_live k g.store t (free_header g.store.front) t leave_inside leave_fit refl I.orderly.0.1.0.1

  leave_queue : (R : List Task) → Absent t R → Queue GoneBlack g.store R → Queue GoneBlack leave_store R
  leave_queue [] a q = tt
  leave_queue (follow u ∷ R) a q =
      (elim q.0 [ inl e ↦ inl e | inr w ↦ inr (leave_on u w) ], leave_queue R a q.1)
  leave_queue (visit u ∷ R) a q = absurd q
  leave_queue (leave u ∷ R) a q =
      let i = q.0.0.0 in
      let same = left_other k g.store t (free_header g.store.front) t leave_inside leave_fit u i.0 a.0 in (
        (
          (leave_on u i, ap (λ d. d.used) same ∙ q.0.0.1),
          (subst GoneBlack (sym same) q.0.1.0, q.0.1.1),
        ),
        leave_queue R a.1 q.1,
      )

  gather_leave : Left (Gathering k) (open_room white) t g (leave t ∷ Q) (given_up k g t) Q
  gather_leave = record {
    size = left_size k g.store t (free_header g.store.front) t leave_inside leave_fit;
    others = left_row k g.store t (free_header g.store.front) t leave_inside leave_fit;
    fewer =
        omega (
          arith,
          room_set white g.store.heads (t - 1) (free_header g.store.front) (omega (arith, leave_inside, leave_fit)),
        );
    fits = record {
      sized = record {
        few = omega (arith, I.sized.few, left_size k g.store t (free_header g.store.front) t leave_inside leave_fit);
        heads_fit =
            length-set g.store.heads (t - 1) (free_header g.store.front) ∙ leave_fit
            ∙ sym (left_size k g.store t (free_header g.store.front) t leave_inside leave_fit);
        each = λ r w.
            leave_both (λ y v d. Within g.store y → Settled k d v) (λ _. free_settled k g.store.front)
            (λ y _ _ u. I.sized.each y u) r w.0 (leave_back r w);
        links_within = λ r u w l.
            let m = left_links k g.store t (free_header g.store.front) t leave_inside leave_fit r u w.0 l in
            leave_on u (I.sized.links_within r u (leave_back r w) m.1);
      };
      uncounted = λ r w.
          leave_both (λ y v d. Within g.store y → is_white d.colour ≡ true → d.count ≡ 0) (λ _ _. refl)
          (λ y _ _ u. I.uncounted y u) r w.0 (leave_back r w);
      counts = λ r w.
          leave_both (λ y v d. Within g.store y → d.count ≡ d.holds + live_named leave_store y)
          (λ u. omega (arith, I.counts t u, I.orderly.0.1.0.1, leave_live t))
          (λ y _ _ u. omega (arith, I.counts y u, leave_live y)) r w.0 (leave_back r w);
      chain =
          let c = given_chain k g.store t leave_inside leave_fit leave_used I.chain in
          (c.0, c.1, λ r w. c.2 r (leave_back r w));
      orderly = queue_orderly GoneBlack (λ _. Unit {0}) leave_store Q (leave_queue Q I.orderly.0.1.1 I.orderly.1);
    };
  }

pub gathering_keeps_store : (k : Shape) → Keeps k.links (gathering k) (Gathering k) (open_room white)
gathering_keeps_store k = record {
  wide = λ g Q I r w. (I.sized.each r w).links_fit;
  most = λ g Q I. omega (arith, count_by-le-length white g.store.heads, I.sized.heads_fit);
  within = λ g t Q I. I.orderly.0.0;
  once = λ g t Q I. I.orderly.0.1.1;
  empty = λ g Q I. gather_empty k g Q I;
  follows = λ g t Q ne I. gather_follow k g t Q ne I;
  begins = λ g t Q e I. gather_enter k g t Q (and_parts (is_white (at g t).colour) (not (at g t).waiting) e).0 I;
  lowers = λ g t Q e I. gather_lowers k g t Q (and_parts (is_white (at g t).colour) (not (at g t).waiting) e).0 I;
  passes = λ g t Q e I. gather_pass k g t Q I;
  leaves = λ g t Q I. gather_leave k g t Q I;
}

-- What is in use and what is given up add up to what they did.
module _ (k : Shape) where
  pub gather_summed : (c : ℕ) → Also (gathering k) (Gathering k) (λ g Q. in_use g.store + g.given ≡ c)
  gather_summed c = record {
    empty = λ g Q I j. j;
    follows = λ g t Q n I j. j;
    begins = λ g t Q e I j.
        omega (
          arith,
          j,
          sum_by-set (λ d. cond d.used 1 0) g.store.heads (t - 1) (painted Black (at g t)) (free_header 0)
              (omega (arith, I.orderly.0.0, I.sized.heads_fit)),
        );
    passes = λ g t Q e I j. j;
    leaves = λ g t Q I j. given_sum k g t I.orderly.0.0.0 I.sized.heads_fit I.orderly.0.0.1 ∙ j;
  }

  gather_few : Also (gathering k) (Gathering k) (λ g Q. FewGiven g)
  gather_few = record {
    empty = λ g Q I j. j;
    follows = λ g t Q n I j. j;
    begins = λ g t Q e I j. omega (arith, j, (gather_summed (in_use g.store + g.given)).begins g t Q e I refl);
    passes = λ g t Q e I j. j;
    leaves = λ g t Q I j. omega (arith, j, (gather_summed (in_use g.store + g.given)).leaves g t Q I refl);
  }

  pub gathering_keeps : Keeps k.links (gathering k) (λ g Q. Gathering k g Q × FewGiven g) (open_room white)
  gathering_keeps =
      keeps_and k.links (gathering k) (Gathering k) (λ g Q. FewGiven g) (open_room white) (gathering_keeps_store k) gather_few

-- A gathering enters no record twice: what it enters is white no more.
pub once_most : (b : Bool) → once b ≤ 1
once_most true = omega arith
once_most false = omega arith

pub gathering_opens : (k : Shape) → Opens (gathering k) (λ g Q. Gathering k g Q × FewGiven g) (open_once white)
gathering_opens k = record {
  single = λ g Q r. once_most (white (head g.store r));
  empty = λ g Q I r low. omega arith;
  follows = λ g t Q ne I r low. omega arith;
  begins = λ g t Q e I r low. enters g t Q (and_parts (is_white (at g t).colour) (not (at g t).waiting) e).0 I.0 r low;
  passes = λ g t Q e I r low. omega arith;
  leaves = λ g t Q I r low.
      once_set white g.store.heads t r (free_header g.store.front) I.0.orderly.0.0.0.0
      (omega (arith, I.0.orderly.0.0.0, I.0.sized.heads_fit)) low (omega arith);
}
  where
    enters :
        (g : Progress) (t : ℕ) (Q : List Task) → is_white (at g t).colour ≡ true → Gathering k g (visit t ∷ Q) → (r : ℕ) → 1 ≤ r →
        once (eqb t r) + once (white (head (with_head g.store t (painted Black (at g t))) r)) ≤ once (white (head g.store r))
    enters g t Q pale I r low = ⊎_elim
        (λ e.
        subst
        (λ x. once (eqb t x) + once (white (head (with_head g.store t (painted Black (at g t))) x)) ≤ once (white (head g.store x)))
        e
        (omega (
          arith,
          ap once (eq-eqb t t refl),
          ap (λ h. once (white h)) (head_there g.store t I.orderly.0.0 (painted Black (at g t)) I.sized.heads_fit),
          ap once pale,
        )))
        (λ n.
        omega (
          arith,
          ap once (ne_eqb t r n),
          once_set white g.store.heads t r (painted Black (at g t)) I.orderly.0.0.0
              (omega (arith, I.orderly.0.0, I.sized.heads_fit)) low (omega arith),
        ))
        (cases_eq t r)

-- What the code of the steps relies on.
module _ (k : Shape) (g : Progress) (t : ℕ) (Q : List Task) where
  pub gather_visit_within : Gathering k g (visit t ∷ Q) → Within g.store t
  gather_visit_within I = I.orderly.0.0

  pub gather_leave_within : Gathering k g (leave t ∷ Q) → Within g.store t
  gather_leave_within I = I.orderly.0.0.0

  -- a record that is left has no count and no holds
  pub gather_leave_none : Gathering k g (leave t ∷ Q) → ((head g.store t).count ≡ 0) × ((head g.store t).holds ≡ 0)
  gather_leave_none I =
      (I.orderly.0.1.0.1, omega (arith, I.orderly.0.1.0.1, (I.sized.each t I.orderly.0.0.0).holds_counted))

  -- one that is left is in use, so not all are given up yet
  pub gather_given_small : Gathering k g (leave t ∷ Q) → FewGiven g → g.given < 4095
  gather_given_small I few =
      omega (
        arith,
        few,
        ap once I.orderly.0.0.1,
        get_or-le-sum_by (λ h. cond h.used 1 0) g.store.heads (t - 1) (free_header 0)
            (omega (arith, I.orderly.0.0.0, I.sized.heads_fit)),
      )

pub gather_front_small : (k : Shape) (g : Progress) (Q : List Task) → Gathering k g Q → g.store.front ≤ 4095
gather_front_small k g Q I = chain_small g.store g.store.front I.chain.0 I.sized.few I.chain.1

pub gather_covered :
    (k : Shape) (g : Progress) (Q : List Task) → Gathering k g Q → (r : ℕ) → Within g.store r →
    (head g.store r).holds ≤ (head g.store r).count
gather_covered k g Q I r w = (I.sized.each r w).holds_counted
