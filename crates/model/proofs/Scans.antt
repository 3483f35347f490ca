-- Scan: each of its steps keeps what it relies on, and it enters no record twice.
use Rattle.std.proofs.Common.{◌≡◌, ℕ, suc, ◌+◌, ◌-◌, ◌<◌, ◌≤◌, Bool, true, false, cond, ◌&&◌, eqb, ◌≢◌, ◌⊎◌, List, [], ◌∷◌, ◌++◌, map, length, get_or, count_by, sym, refl, ap, ◌∙◌, subst, inl, inr, arith}
use Rattle.std.proofs.lemmas.List.{get_or_past}
use Rattle.std.proofs.lemmas.List.Sums.{sum_by-cons, count_by-le-length}
use Rattle.std.proofs.lemmas.Bool.{cases_lt, cases_Bool, both_ways, true≢false, eqb-true, and_parts}
use Rattle.kinds.specs.Rows.{Shape}
use Rattle.model.specs.State.{Within, head, row, with_head}
use Rattle.model.specs.Headers.{Header, free_header, painted, is_black, is_gray, is_white}
use Rattle.model.specs.Lawful.{once}
use Rattle.model.specs.Walk.{Progress, Task, Turned, Keeps, full}
use Rattle.model.specs.Walk.Task.{follow, visit, leave}
use Rattle.model.specs.Entering.{Opens}
use Rattle.model.specs.Release.{at, turn}
use Rattle.model.specs.Collection.{restoring, scanning}
use Rattle.model.specs.Colouring.{named_where, Queue, Orderly, open_room, open_once, Sized, gray, Restoring, Scanning}
use Rattle.model.specs.declared.heads.Colour.{Colour}
use Rattle.model.specs.declared.heads.Colour.TheVariants.{Black, Gray, White, Purple}
use Rattle.model.proofs.Places.{each_head, head_there}
use Rattle.model.proofs.Colourings.{where_same, queue_stands, queue_absent, queue_orderly}
use Rattle.model.proofs.Restores.{Restored, unblack_used, painted_settled, sized_turn, used_turn, queue_turn, room_turn, links_follow, open_at_most, open_entered, restore_walked}

-- colours
pub gray_unblack : (c : Colour) → is_gray c ≡ true → is_black c ≡ false
gray_unblack Black e = absurd (true≢false (sym e))
gray_unblack Gray e = refl
gray_unblack White e = absurd (true≢false (sym e))
gray_unblack Purple e = absurd (true≢false (sym e))

-- a colour that stays or turns black turns not gray
pub gray_before : (c d : Colour) → (c ≡ d) ⊎ (c ≡ Black) → is_gray d ≡ false → is_gray c ≡ false
gray_before c d (inl e) n = ap is_gray e ∙ n
gray_before c d (inr e) n = ap is_gray e

once_by : (b c : Bool) → (c ≡ false → b ≡ false) → once b ≤ once c
once_by true true f = omega arith
once_by true false f = absurd (true≢false (f refl))
once_by false c f = omega arith

-- how many records keep p, where no record comes to keep it
pub count_mono :
    (p : Header → Bool) (hs ks : List Header) → length hs ≡ length ks →
    ((i : ℕ) → i < length hs → once (p (get_or hs i (free_header 0))) ≤ once (p (get_or ks i (free_header 0)))) → count_by p hs ≤ count_by p ks
count_mono p [] [] e f = omega arith
count_mono p [] (y ∷ ks) e f = let no : ⊥ = omega arith in absurd no
count_mono p (x ∷ hs) [] e f = let no : ⊥ = omega arith in absurd no
count_mono p (x ∷ hs) (y ∷ ks) e f =
    omega (
      arith,
      sum_by-cons (λ h. cond (p h) 1 0) x hs,
      sum_by-cons (λ h. cond (p h) 1 0) y ks,
      f 0 (omega arith),
      count_mono p hs ks (omega arith) (λ i l. f (suc i) (omega arith)),
    )

abbrev UngrayLeft : Header → Type 0
UngrayLeft h = is_gray h.colour ≡ false

abbrev Any : Header → Type 0
Any h = Unit {0}

-- what a restore by itself needs not know
abbrev Nothing : ℕ → Type 0
Nothing r = Unit {0}

abbrev Never : ℕ → Type 0
Never r = ⊥

pub scanning_within :
    (k : Shape) (g : Progress) (t : ℕ) (Q : List Task) → t ≢ 0 → Scanning k g (follow t ∷ Q) → Within g.store t
scanning_within k g t Q ne I = elim I.orderly.0 [ inl z ↦ absurd (ne z) | inr w ↦ w ]

-- What stands where the store does not change.
same_store : (k : Shape) (g : Progress) (P Q : List Task) → Scanning k g P → Orderly Any UngrayLeft g.store Q → Scanning k g Q
same_store k g P Q I o = record {
  sized = I.sized;
  links_used = I.links_used;
  unsuspected = I.unsuspected;
  counts = I.counts;
  orderly = o;
}

-- A gray record without a count is entered.
module _ (k : Shape) (g : Progress) (t : ℕ) (Q : List Task) (e : (is_gray (at g t).colour && eqb (at g t).count 0) ≡ true) (I : Scanning k g (visit t ∷ Q)) where
  pub enter_gray : is_gray (at g t).colour ≡ true
  enter_gray = (and_parts (is_gray (at g t).colour) (eqb (at g t).count 0) e).0

  pub enter_uncounted : (at g t).count ≡ 0
  enter_uncounted = eqb-true (at g t).count 0 (and_parts (is_gray (at g t).colour) (eqb (at g t).count 0) e).1

  enter_used : (head g.store t).used ≡ true
  enter_used =
      unblack_used k (at g t) (row g.store t) (I.sized.each t I.orderly.0.0) (gray_unblack (at g t).colour enter_gray)

  enter_sized : Sized k (with_head g.store t (painted White (at g t)))
  enter_sized =
      sized_turn k g.store t (painted White (at g t)) I.sized I.orderly.0.0
      (painted_settled k White (at g t) (row g.store t) (I.sized.each t I.orderly.0.0) enter_used)

  enter_counts :
      (r : ℕ) → Within g.store r →
      (head (with_head g.store t (painted White (at g t))) r).count
      ≡ (head (with_head g.store t (painted White (at g t))) r).holds
      + named_where (λ h. is_black h.colour) (with_head g.store t (painted White (at g t))) r
  enter_counts r w =
      each_head g.store t I.orderly.0.0 (painted White (at g t))
      (λ y h. h.count ≡ h.holds + named_where (λ d. is_black d.colour) (with_head g.store t (painted White (at g t))) y)
      I.sized.heads_fit (omega (arith, I.counts t I.orderly.0.0, still t)) (λ y v _. omega (arith, I.counts y v, still y)) r w
    where
      still :
          (y : ℕ) →
          named_where (λ d. is_black d.colour) (with_head g.store t (painted White (at g t))) y
          ≡ named_where (λ d. is_black d.colour) g.store y
      still y =
          where_same (λ d. is_black d.colour) y g.store.heads g.store.rows (t - 1) (painted White (at g t))
          (sym (gray_unblack (at g t).colour enter_gray))

  enter_queue : Queue UngrayLeft (with_head g.store t (painted White (at g t))) (map follow (row g.store t).links ++ (leave t ∷ Q))
  enter_queue =
      let w = I.orderly.0.0 in
      let there = head_there g.store t w (painted White (at g t)) I.sized.heads_fit in
      links_follow k (with_head g.store t (painted White (at g t))) t UngrayLeft (leave t ∷ Q) enter_sized w (
        (
          (w, ap (λ h. h.used) there ∙ enter_used),
          (
            ap (λ h. is_gray h.colour) there,
            queue_absent UngrayLeft g.store t Q (λ b. both_ways (is_gray (at g t).colour) b enter_gray) I.orderly.1,
          ),
        ),
        queue_turn k g.store t (painted White (at g t)) I.sized w UngrayLeft enter_used (λ _. refl) Q I.orderly.1,
      )

  scan_lowers :
      open_room gray (turn g t (painted White (at g t))) (map follow (row g.store t).links ++ (leave t ∷ Q))
      < open_room gray g (visit t ∷ Q)
  scan_lowers =
      omega (arith, room_turn k g.store t (painted White (at g t)) I.sized I.orderly.0.0 gray, ap once enter_gray)

  scan_enter :
      Turned (Scanning k) (open_room gray) g (visit t ∷ Q) (turn g t (painted White (at g t)))
      (map follow (row g.store t).links ++ (leave t ∷ Q))
  scan_enter = record {
    rows = refl;
    fewer = omega (arith, scan_lowers);
    fits = record {
      sized = enter_sized;
      links_used = λ r u v l.
          used_turn k g.store t (painted White (at g t)) I.sized I.orderly.0.0 enter_used u (I.links_used r u v l);
      unsuspected =
          each_head g.store t I.orderly.0.0 (painted White (at g t)) (λ r h. h.colour ≡ Purple → ⊥) I.sized.heads_fit
          (λ x. true≢false (ap is_white x)) (λ r v _. I.unsuspected r v);
      counts = enter_counts;
      orderly =
          queue_orderly UngrayLeft Any (with_head g.store t (painted White (at g t)))
          (map follow (row g.store t).links ++ (leave t ∷ Q)) enter_queue;
    };
  }

-- A gray record with a count is restored.
pub scan_restores :
    (k : Shape) (g : Progress) (t : ℕ) (Q : List Task) → Scanning k g (visit t ∷ Q) → is_gray (at g t).colour ≡ true →
    Restoring k g (visit t ∷ [])
scan_restores k g t Q I e = record {
  sized = I.sized;
  links_used = I.links_used;
  unsuspected = I.unsuspected;
  counts = λ r w. omega (arith, I.counts r w);
  orderly = (I.orderly.0, tt);
}

pub pass_gray : (g : Progress) (t : ℕ) → is_gray (at g t).colour ≡ true → scanning.pass g t ≡ full restoring g t
pass_gray g t e = ap (λ b. elim b as (λ _. Progress) [ true ↦ full restoring g t | false ↦ g ]) e

pub pass_ungray : (g : Progress) (t : ℕ) → is_gray (at g t).colour ≡ false → scanning.pass g t ≡ g
pass_ungray g t e = ap (λ b. elim b as (λ _. Progress) [ true ↦ full restoring g t | false ↦ g ]) e

-- what a restore leaves of a scan
module _ (k : Shape) (g : Progress) (t : ℕ) (Q : List Task) (I : Scanning k g (visit t ∷ Q)) (X W : ℕ → Type 0)
    (z : Progress) (A : Restoring k z []) (J : Restored g X W z []) where
  pub restored_scans : Scanning k z Q
  restored_scans = record {
    sized = A.sized;
    links_used = A.links_used;
    unsuspected = A.unsuspected;
    counts = λ r w. omega (arith, A.counts r w);
    orderly =
        queue_orderly UngrayLeft Any z.store Q
        (queue_stands UngrayLeft g.store z.store Q (ap length J.standing.rows)
        (λ u w x.
        let v : Within z.store u = (w.0, omega (arith, w.1, ap length J.standing.rows)) in
        ((J.standing.alike u v).used ∙ x.0, gray_before (head z.store u).colour (head g.store u).colour (J.colours u v) x.1))
        I.orderly.1);
  }

  -- no record turns gray
  pub restored_open : (r : ℕ) → 1 ≤ r → open_once gray z Q r ≤ open_once gray g (visit t ∷ Q) r
  restored_open r a = elim (cases_lt (length z.store.rows) r) [
    | inl past ↦
        let h : head z.store r ≡ free_header 0 = get_or_past z.store.heads (r - 1) (free_header 0) (omega (arith, past, A.sized.heads_fit)) in
        omega (arith, ap (λ d. once (gray d)) h)
    | inr low ↦
        once_by (is_gray (head z.store r).colour) (is_gray (head g.store r).colour)
        (gray_before (head z.store r).colour (head g.store r).colour (J.colours r (a, low)))
  ]

  pub restored_room : open_room gray z Q ≤ open_room gray g (visit t ∷ Q)
  restored_room =
      count_mono gray z.store.heads g.store.heads J.standing.size
      (λ i l.
      let j : (i + 1) - 1 ≡ i = omega arith in
      subst (λ x. once (gray (get_or z.store.heads x (free_header 0))) ≤ once (gray (get_or g.store.heads x (free_header 0)))) j
      (restored_open (i + 1) (omega arith)))

  pub restored_turned : Turned (Scanning k) (open_room gray) g (visit t ∷ Q) z Q
  restored_turned = record { rows = J.standing.rows; fewer = restored_room; fits = restored_scans }

-- A record that is not entered is passed, and one that is gray is restored.
module _ (k : Shape) (g : Progress) (t : ℕ) (Q : List Task) (I : Scanning k g (visit t ∷ Q)) where
  pass_walked : is_gray (at g t).colour ≡ true → Restoring k (full restoring g t) [] × Restored g Nothing Never (full restoring g t) []
  pass_walked e =
      restore_walked k g t Nothing Never (scan_restores k g t Q I e) (λ _ _ _ _ _. tt) (λ _ _ _. tt) tt (λ _ x. absurd x)

  scan_pass : Turned (Scanning k) (open_room gray) g (visit t ∷ Q) (scanning.pass g t) Q
  scan_pass = elim (cases_Bool (is_gray (at g t).colour)) [
    | inl e ↦
        let a = pass_walked e in
        subst (λ z. Turned (Scanning k) (open_room gray) g (visit t ∷ Q) z Q) (sym (pass_gray g t e))
        (restored_turned k g t Q I Nothing Never (full restoring g t) a.0 a.1)
    | inr e ↦
        subst (λ z. Turned (Scanning k) (open_room gray) g (visit t ∷ Q) z Q) (sym (pass_ungray g t e))
        (record {
          rows = refl;
          fewer = omega arith;
          fits = same_store k g (visit t ∷ Q) Q I (queue_orderly UngrayLeft Any g.store Q I.orderly.1);
        })
  ]

  scan_pass_open : (r : ℕ) → 1 ≤ r → open_once gray (scanning.pass g t) Q r ≤ open_once gray g (visit t ∷ Q) r
  scan_pass_open r low = elim (cases_Bool (is_gray (at g t).colour)) [
    | inl e ↦
        let a = pass_walked e in
        subst (λ z. open_once gray z Q r ≤ open_once gray g (visit t ∷ Q) r) (sym (pass_gray g t e))
        (restored_open k g t Q I Nothing Never (full restoring g t) a.0 a.1 r low)
    | inr e ↦ subst (λ z. open_once gray z Q r ≤ open_once gray g (visit t ∷ Q) r) (sym (pass_ungray g t e)) (omega arith)
  ]

pub scanning_keeps : (k : Shape) → Keeps k.links scanning (Scanning k) (open_room gray)
scanning_keeps k = record {
  wide = λ g Q I r w. (I.sized.each r w).links_fit;
  most = λ g Q I. omega (arith, count_by-le-length gray g.store.heads, I.sized.heads_fit);
  within = λ g t Q I. I.orderly.0.0;
  once = λ g t Q I. I.orderly.0.1.1;
  empty = λ g Q I. record {
    rows = refl;
    fewer = omega arith;
    fits = same_store k g (follow 0 ∷ Q) Q I (queue_orderly UngrayLeft Any g.store Q I.orderly.1);
  };
  follows = λ g t Q ne I. record {
    rows = refl;
    fewer = omega arith;
    fits = same_store k g (follow t ∷ Q) (visit t ∷ Q) I ((scanning_within k g t Q ne I, tt), I.orderly.1);
  };
  begins = λ g t Q e I. scan_enter k g t Q e I;
  lowers = λ g t Q e I. scan_lowers k g t Q e I;
  passes = λ g t Q e I. scan_pass k g t Q I;
  leaves = λ g t Q I. record {
    size = refl;
    others = λ r a n. refl;
    fewer = omega arith;
    fits = same_store k g (leave t ∷ Q) Q I (queue_orderly UngrayLeft Any g.store Q I.orderly.1);
  };
}

pub scanning_opens : (k : Shape) → Opens scanning (Scanning k) (open_once gray)
scanning_opens k = record {
  single = open_at_most gray;
  empty = λ g Q I r a. omega arith;
  follows = λ g t Q ne I r a. omega arith;
  begins = λ g t Q e I r a.
      open_entered gray k g t (painted White (at g t)) (map follow (row g.store t).links ++ (leave t ∷ Q)) (visit t ∷ Q) I.sized
      I.orderly.0.0 refl (enter_gray k g t Q e I) r a;
  passes = λ g t Q e I r a. scan_pass_open k g t Q I r a;
  leaves = λ g t Q I r a. omega arith;
}
