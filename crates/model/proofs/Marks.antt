-- Each step of mark keeps what holds during one, and mark enters no record twice.
use Rattle.std.proofs.Common.{◌≡◌, ℕ, zero, suc, ◌+◌, ◌-◌, ◌<◌, ◌≤◌, Bool, true, false, not, eqb, ◌≢◌, ◌⊎◌, List, ◌∷◌, ◌++◌, map, get_or, sym, refl, ap, ◌∙◌, subst, inl, inr, ⊎_elim, arith}
use Rattle.std.proofs.lemmas.List.{length-set}
use Rattle.std.proofs.lemmas.List.Sums.{count_by-le-length}
use Rattle.std.proofs.lemmas.Bool.{cases_eq, both_ways, eq-eqb, ne_eqb}
use Rattle.kinds.specs.Rows.{Shape}
use Rattle.model.specs.State.{State, Within, head, row, with_head}
use Rattle.model.specs.Headers.{Header, painted, less_one, is_gray}
use Rattle.model.specs.Lawful.{Settled, naming, once}
use Rattle.model.specs.Walk.{Progress, Task, Absent, Turned, Left, Keeps}
use Rattle.model.specs.Walk.Task.{follow, visit, leave}
use Rattle.model.specs.Entering.{Opens}
use Rattle.model.specs.Release.{at, turn}
use Rattle.model.specs.Collection.{marking}
use Rattle.model.specs.Colouring.{Sized, Marking, ungray, named_where, due, open_room, open_once}
use Rattle.model.specs.declared.heads.Colour.TheVariants.{Gray}
use Rattle.model.proofs.Places.{each_head, head_there, head_elsewhere}
use Rattle.model.proofs.Releases.{counted_used}
use Rattle.model.proofs.Colourings.{where_same, where_off, due_hit, due_miss, due_links, queue_stands, queue_elsewhere, queue_absent, queue_links, queue_orderly, room_set, once_set}

-- One head changes: the store is of the same size.
pub sized_head :
    (k : Shape) (s : State) (x : ℕ) (h : Header) → Within s x → Sized k s → Settled k h (row s x) → Sized k (with_head s x h)
sized_head k s x h w I own = record {
  few = I.few;
  heads_fit = length-set s.heads (x - 1) h ∙ I.heads_fit;
  each = each_head s x w h (λ r y. Settled k y (row s r)) I.heads_fit own (λ r v _. I.each r v);
  links_within = I.links_within;
}

-- a link of a record names a record, or none
pub sized_links :
    (k : Shape) (s : State) (r : ℕ) → Within s r → Sized k s → (i : ℕ) →
    (get_or (row s r).links i 0 ≡ 0) ⊎ Within s (get_or (row s r).links i 0)
sized_links k s r w I i = by (get_or (row s r).links i 0) refl
  where
    by : (u : ℕ) → get_or (row s r).links i 0 ≡ u → (get_or (row s r).links i 0 ≡ 0) ⊎ Within s (get_or (row s r).links i 0)
    by zero e = inl e
    by (suc u) e = inr (I.links_within r (get_or (row s r).links i 0) w (omega (arith, e), (i, refl)))

-- An empty link.
module _ (k : Shape) (g : Progress) (Q : List Task) (I : Marking k g (follow 0 ∷ Q)) where
  mark_empty : Turned (Marking k) (open_room ungray) g (follow 0 ∷ Q) g Q
  mark_empty = record {
    rows = refl;
    fewer = omega arith;
    fits = record {
      sized = I.sized;
      counts = λ r w. omega (arith, I.counts r w, due_miss 0 r Q (λ e. omega (arith, e, w)));
      orderly = queue_orderly (λ h. is_gray h.colour ≡ true) (λ h. h.used ≡ true) g.store Q I.orderly.1;
    };
  }

-- A link to t is followed: one less is counted and one less is due.
module _ (k : Shape) (g : Progress) (t : ℕ) (Q : List Task) (ne : t ≢ 0) (I : Marking k g (follow t ∷ Q)) where
  pub marking_within : Within g.store t
  marking_within = elim I.orderly.0 [ inl z ↦ absurd (ne z) | inr w ↦ w ]

  pub marking_spare : (head g.store t).holds < (head g.store t).count
  marking_spare = omega (arith, I.counts t marking_within, due_hit t Q)

  mark_used : (head g.store t).used ≡ true
  mark_used =
      counted_used k (head g.store t) (row g.store t) (I.sized.each t marking_within) (omega (arith, marking_spare))

  mark_lessened : Settled k (less_one (head g.store t)) (row g.store t)
  mark_lessened =
      let own = I.sized.each t marking_within in
      record {
        links_fit = own.links_fit;
        bytes_fit = own.bytes_fit;
        holds_few = own.holds_few;
        holds_counted = omega (arith, marking_spare);
        used_unchained = own.used_unchained;
        free_blank = λ e. absurd (both_ways (head g.store t).used e mark_used);
      }

  mark_named : (r : ℕ) → named_where ungray (turn g t (less_one (at g t))).store r ≡ named_where ungray g.store r
  mark_named r = where_same ungray r g.store.heads g.store.rows (t - 1) (less_one (at g t)) refl

  mark_follow : Turned (Marking k) (open_room ungray) g (follow t ∷ Q) (turn g t (less_one (at g t))) (visit t ∷ Q)
  mark_follow = record {
    rows = refl;
    fewer =
        omega (
          arith,
          room_set ungray g.store.heads (t - 1) (less_one (at g t)) (omega (arith, marking_within, I.sized.heads_fit)),
        );
    fits = record {
      sized = sized_head k g.store t (less_one (at g t)) marking_within I.sized mark_lessened;
      counts =
          changed (λ r h. h.count ≡ h.holds + (named_where ungray (turn g t (less_one (at g t))).store r + due r Q))
          (omega (arith, I.counts t marking_within, due_hit t Q, mark_named t))
          (λ r w n. omega (arith, I.counts r w, due_miss t r Q (λ e. n (sym e)), mark_named r));
      orderly = (
        (marking_within, ap (λ h. h.used) there ∙ mark_used),
        queue_stands (λ h. is_gray h.colour ≡ true) g.store (turn g t (less_one (at g t))).store Q refl
            (changed
            (λ r h.
            ((head g.store r).used ≡ true) × (is_gray (head g.store r).colour ≡ true) →
            (h.used ≡ true) × (is_gray h.colour ≡ true))
            (λ q. q) (λ _ _ _ q. q))
            I.orderly.1,
      );
    };
  }
    where
      changed :
          (P : ℕ → Header → Type 0) → P t (less_one (at g t)) → ((r : ℕ) → Within g.store r → r ≢ t → P r (head g.store r)) →
          (r : ℕ) → Within g.store r → P r (head (turn g t (less_one (at g t))).store r)
      changed P = each_head g.store t marking_within (less_one (at g t)) P I.sized.heads_fit

      there : head (turn g t (less_one (at g t))).store t ≡ less_one (at g t)
      there = head_there g.store t marking_within (less_one (at g t)) I.sized.heads_fit

-- A record that is not gray is entered: its links are no longer counted, and are due.
module _ (k : Shape) (g : Progress) (t : ℕ) (Q : List Task) (fresh : not (is_gray (at g t).colour) ≡ true) (I : Marking k g (visit t ∷ Q)) where
  mark_inside : Within g.store t
  mark_inside = I.orderly.0.0

  mark_painted : Settled k (painted Gray (head g.store t)) (row g.store t)
  mark_painted =
      let own = I.sized.each t mark_inside in
      record {
        links_fit = own.links_fit;
        bytes_fit = own.bytes_fit;
        holds_few = own.holds_few;
        holds_counted = own.holds_counted;
        used_unchained = own.used_unchained;
        free_blank = λ e. absurd (both_ways (head g.store t).used e I.orderly.0.1);
      }

  mark_absent : Absent t Q
  mark_absent =
      queue_absent (λ h. is_gray h.colour ≡ true) g.store t Q
      (λ e. both_ways (is_gray (at g t).colour) (not-true (is_gray (at g t).colour) fresh) e) I.orderly.1
    where
      not-true : (b : Bool) → not b ≡ true → b ≡ false
      not-true true e = sym e
      not-true false e = refl

  mark_off :
      (r : ℕ) →
      named_where ungray (turn g t (painted Gray (at g t))).store r + naming r (row g.store t).links ≡ named_where ungray g.store r
  mark_off r =
      where_off ungray r g.store.heads g.store.rows (t - 1) (painted Gray (at g t))
      (omega (arith, mark_inside, I.sized.heads_fit)) (omega (arith, mark_inside)) refl fresh

  mark_lowers :
      open_room ungray (turn g t (painted Gray (at g t))) (map follow (row g.store t).links ++ (leave t ∷ Q))
      < open_room ungray g (visit t ∷ Q)
  mark_lowers =
      omega (
        arith,
        room_set ungray g.store.heads (t - 1) (painted Gray (at g t)) (omega (arith, mark_inside, I.sized.heads_fit)),
        ap once fresh,
      )

  mark_enter :
      Turned (Marking k) (open_room ungray) g (visit t ∷ Q) (turn g t (painted Gray (at g t)))
      (map follow (row g.store t).links ++ (leave t ∷ Q))
  mark_enter = record {
    rows = refl;
    fewer = omega (arith, mark_lowers);
    fits = record {
      sized = all_sized;
      counts =
          each_head g.store t mark_inside (painted Gray (at g t))
          (λ r h.
          h.count
          ≡ h.holds
          + (named_where ungray (turn g t (painted Gray (at g t))).store r + due r (map follow (row g.store t).links ++ (leave t ∷ Q))))
          I.sized.heads_fit
          (omega (arith, I.counts t mark_inside, mark_off t, due_links t (row g.store t).links (leave t ∷ Q)))
          (λ r w _. omega (arith, I.counts r w, mark_off r, due_links r (row g.store t).links (leave t ∷ Q)));
      orderly =
          queue_orderly (λ h. is_gray h.colour ≡ true) (λ h. h.used ≡ true) (turn g t (painted Gray (at g t))).store
          (map follow (row g.store t).links ++ (leave t ∷ Q))
          (queue_links (λ h. is_gray h.colour ≡ true) (turn g t (painted Gray (at g t))).store (row g.store t).links (leave t ∷ Q)
          (sized_links k (turn g t (painted Gray (at g t))).store t mark_inside all_sized) (
            ((mark_inside, ap (λ h. h.used) there ∙ I.orderly.0.1), (ap (λ h. is_gray h.colour) there, mark_absent)),
            queue_elsewhere (λ h. is_gray h.colour ≡ true) g.store t (painted Gray (at g t)) mark_inside Q mark_absent I.orderly.1,
          ));
    };
  }
    where
      all_sized : Sized k (turn g t (painted Gray (at g t))).store
      all_sized = sized_head k g.store t (painted Gray (at g t)) mark_inside I.sized mark_painted

      there : head (turn g t (painted Gray (at g t))).store t ≡ painted Gray (at g t)
      there = head_there g.store t mark_inside (painted Gray (at g t)) I.sized.heads_fit

-- A gray record is passed, and a record is left: nothing changes.
module _ (k : Shape) (g : Progress) (t : ℕ) (Q : List Task) where
  mark_pass : Marking k g (visit t ∷ Q) → Turned (Marking k) (open_room ungray) g (visit t ∷ Q) g Q
  mark_pass I = record {
    rows = refl;
    fewer = omega arith;
    fits = record {
      sized = I.sized;
      counts = I.counts;
      orderly = queue_orderly (λ h. is_gray h.colour ≡ true) (λ h. h.used ≡ true) g.store Q I.orderly.1;
    };
  }

  mark_leave : Marking k g (leave t ∷ Q) → Left (Marking k) (open_room ungray) t g (leave t ∷ Q) g Q
  mark_leave I = record {
    size = refl;
    others = λ _ _ _. refl;
    fewer = omega arith;
    fits = record {
      sized = I.sized;
      counts = I.counts;
      orderly = queue_orderly (λ h. is_gray h.colour ≡ true) (λ h. h.used ≡ true) g.store Q I.orderly.1;
    };
  }

pub marking_keeps : (k : Shape) → Keeps k.links marking (Marking k) (open_room ungray)
marking_keeps k = record {
  wide = λ g Q I r w. (I.sized.each r w).links_fit;
  most = λ g Q I. omega (arith, count_by-le-length ungray g.store.heads, I.sized.heads_fit);
  within = λ g t Q I. I.orderly.0.0;
  once = λ g t Q I. I.orderly.0.1.1;
  empty = λ g Q I. mark_empty k g Q I;
  follows = λ g t Q ne I. mark_follow k g t Q ne I;
  begins = λ g t Q e I. mark_enter k g t Q e I;
  lowers = λ g t Q e I. mark_lowers k g t Q e I;
  passes = λ g t Q e I. mark_pass k g t Q I;
  leaves = λ g t Q I. mark_leave k g t Q I;
}

module _ (k : Shape) (g : Progress) (t : ℕ) (Q : List Task) (r : ℕ) (low : 1 ≤ r) where
  open_follow :
      t ≢ 0 → Marking k g (follow t ∷ Q) →
      open_once ungray (turn g t (less_one (at g t))) (visit t ∷ Q) r ≤ open_once ungray g (follow t ∷ Q) r
  open_follow ne I =
      let w = marking_within k g t Q ne I in
      once_set ungray g.store.heads t r (less_one (at g t)) w.0 (omega (arith, w, I.sized.heads_fit)) low (omega arith)

  open_enter :
      not (is_gray (at g t).colour) ≡ true → Marking k g (visit t ∷ Q) →
      once (eqb t r) + open_once ungray (turn g t (painted Gray (at g t))) (map follow (row g.store t).links ++ (leave t ∷ Q)) r
      ≤ open_once ungray g (visit t ∷ Q) r
  open_enter e I = ⊎_elim
      (λ q.
      subst (λ x. once (eqb t x) + once (ungray (head (turn g t (painted Gray (at g t))).store x)) ≤ once (ungray (head g.store x))) q
      (omega (
        arith,
        ap once (eq-eqb t t refl),
        ap (λ h. once (ungray h)) (head_there g.store t I.orderly.0.0 (painted Gray (at g t)) I.sized.heads_fit),
        ap once e,
      )))
      (λ n.
      omega (
        arith,
        ap once (ne_eqb t r n),
        ap (λ h. once (ungray h)) (head_elsewhere g.store t I.orderly.0.0 (painted Gray (at g t)) r low (λ q. n (sym q))),
      ))
      (cases_eq t r)

pub marking_opens : (k : Shape) → Opens marking (Marking k) (open_once ungray)
marking_opens k = record {
  single = λ g Q r. at_most (ungray (head g.store r));
  empty = λ g Q I r low. omega arith;
  follows = λ g t Q ne I r low. open_follow k g t Q r low ne I;
  begins = λ g t Q e I r low. open_enter k g t Q r low e I;
  passes = λ g t Q e I r low. omega arith;
  leaves = λ g t Q I r low. omega arith;
}
  where
    at_most : (b : Bool) → once b ≤ 1
    at_most true = omega arith
    at_most false = omega arith
