-- Scan, from what mark left to its end: of what is in use, black is what is reachable, and the rest is white.
use Rattle.std.proofs.Common.{◌≡◌, ℕ, zero, suc, ◌+◌, ◌-◌, ◌<◌, ◌≤◌, Bool, true, false, not, ◌&&◌, eqb, ◌≢◌, ◌⊎◌, List, [], ◌∷◌, ◌++◌, map, length, get_or, fold, sym, refl, ap, ◌∙◌, subst, inl, inr, arith}
use Rattle.std.proofs.lemmas.Bool.{cases_eq, cases_Bool, both_ways, true≢false, eqb-false, and_cases}
use Rattle.kinds.specs.Rows.{Row, Shape}
use Rattle.model.specs.State.{State, Within, head, row, no_row, in_use, with_head}
use Rattle.model.specs.Headers.{Header, free_header, painted, is_black, is_gray, is_white}
use Rattle.model.specs.Lawful.{From, Lawful, Held, Links, Used, Spent, Chain, Reachable, Settled, naming, once}
use Rattle.model.specs.Lawful.From.{here, along}
use Rattle.model.specs.Walk.{Progress, Task, full}
use Rattle.model.specs.Walk.Task.{follow, visit, leave}
use Rattle.model.specs.Release.{at, turn}
use Rattle.model.specs.Collection.{restoring, scanning, scan_one, scanned}
use Rattle.model.specs.Colouring.{ungray, unblack, gray, open_room, Scanning}
use Rattle.model.specs.Collected.{Listed, Kept, Filed, AfterMark, AfterScan}
use Rattle.model.specs.declared.heads.Colour.{Colour}
use Rattle.model.specs.declared.heads.Colour.TheVariants.{Black, Gray, White, Purple}
use Rattle.model.proofs.Walks.{Also, keeps_and, walk_keeps}
use Rattle.model.proofs.Places.{each_head}
use Rattle.model.proofs.Paths.{from_more}
use Rattle.model.proofs.Counting.{naming_cons, naming_has, naming_blank, naming_same, naming_other, naming_le_named}
use Rattle.model.proofs.Colourings.{where_agree, where_le}
use Rattle.model.proofs.Restores.{Standing, Restored, Done, named_by, black_not, standing_same, standing_within, standing_back, standing_links, standing_on, standing_turn, done_empty, done_follow, done_enter, done_pass, done_leave, done_end, links_due, restore_walked}
use Rattle.model.proofs.Scans.{gray_unblack, gray_before, count_mono, scanning_keeps, scan_restores, enter_gray, enter_uncounted, pass_gray, pass_ungray}

-- a record with a link is in use
pub linking_used : (k : Shape) (h : Header) (w : Row) → Settled k h w → (t i : ℕ) → 1 ≤ t → get_or w.links i 0 ≡ t → h.used ≡ true
linking_used k h w own t i a e = by_use h.used refl
  where
    by_use : (b : Bool) → h.used ≡ b → h.used ≡ true
    by_use true u = u
    by_use false u =
        absurd (let no : ⊥ =
        omega (arith, naming_has w.links i t a e, ap (λ v. naming t v.links) (own.free_blank u).0, naming_blank t k.links a) in no)

-- colours
black_ungray : (c : Colour) → is_black c ≡ true → is_gray c ≡ false
black_ungray Black e = refl
black_ungray Gray e = absurd (true≢false (sym e))
black_ungray White e = refl
black_ungray Purple e = refl

white_unblack : (c : Colour) → is_white c ≡ true → is_black c ≡ false
white_unblack Black e = absurd (true≢false (sym e))
white_unblack Gray e = refl
white_unblack White e = refl
white_unblack Purple e = refl

gray_is : (c : Colour) → is_gray c ≡ true → c ≡ Gray
gray_is Black e = absurd (true≢false (sym e))
gray_is Gray e = refl
gray_is White e = absurd (true≢false (sym e))
gray_is Purple e = absurd (true≢false (sym e))

-- A scan on its way, from y, which mark left. X holds of what is alive; W are the records where scan has begun so far.
pub record Scanned (y : Progress) (X W : ℕ → Type 0) (z : Progress) (Q : List Task) : Type 0 where
  pub standing : Standing y z
  -- gray was gray, and what was not gray is black still
  pub gray_was :
      (r : ℕ) → Within z.store r → is_gray (head z.store r).colour ≡ true → is_gray (head y.store r).colour ≡ true
  pub black_still :
      (r : ℕ) → Within z.store r → is_gray (head y.store r).colour ≡ false → is_black (head z.store r).colour ≡ true
  pub uncounted : (r : ℕ) → Within z.store r → is_white (head z.store r).colour ≡ true → (head z.store r).count ≡ 0
  -- what is gray no more has links only to what is not gray or still to be walked
  pub closed :
      (r u : ℕ) → Within z.store r → is_gray (head y.store r).colour ≡ true → is_gray (head z.store r).colour ≡ false →
      Links z.store r u → Done gray z.store Q u
  pub wanted : (u : ℕ) → Within z.store u → W u → Done gray z.store Q u
  pub alive : (r : ℕ) → Used z.store r → is_black (head z.store r).colour ≡ true → X r

-- The steps of a scan keep this, where X holds of what is held and goes on along links.
module _ (k : Shape) (y : Progress) (X W : ℕ → Type 0) (held : (r : ℕ) → Held y.store r → X r)
    (onward : (r u : ℕ) → Within y.store r → X r → Links y.store r u → X u) where
  -- the store stays as it is
  scanned_same :
      (z : Progress) (P Q : List Task) → Scanning k z P → Scanned y X W z P →
      ((u : ℕ) → Within z.store u → Done gray z.store P u → Done gray z.store Q u) → Scanned y X W z Q
  scanned_same z P Q I J done = record {
    standing = J.standing;
    gray_was = J.gray_was;
    black_still = J.black_still;
    uncounted = J.uncounted;
    closed = λ r u w was now l. done u (I.sized.links_within r u w l) (J.closed r u w was now l);
    wanted = λ u w x. done u w (J.wanted u w x);
    alive = J.alive;
  }

  -- A gray record without a count turns white.
  module _ (z : Progress) (t : ℕ) (Q : List Task) (e : (is_gray (at z t).colour && eqb (at z t).count 0) ≡ true)
      (I : Scanning k z (visit t ∷ Q)) (J : Scanned y X W z (visit t ∷ Q)) where
    enter_each :
        (P : ℕ → Header → Type 0) → P t (painted White (at z t)) → ((r : ℕ) → Within z.store r → r ≢ t → P r (head z.store r)) →
        (r : ℕ) → Within z.store r → P r (head (with_head z.store t (painted White (at z t))) r)
    enter_each P = each_head z.store t I.orderly.0.0 (painted White (at z t)) P I.sized.heads_fit

    enter_done :
        (u : ℕ) → Within z.store u → Done gray z.store (visit t ∷ Q) u →
        Done gray (with_head z.store t (painted White (at z t))) (map follow (row z.store t).links ++ (leave t ∷ Q)) u
    enter_done u w =
        done_enter gray z.store (with_head z.store t (painted White (at z t))) u
        (enter_each (λ r d. gray (head z.store r) ≡ false → gray d ≡ false) (λ _. refl) (λ _ _ _ x. x) u w) t (row z.store t).links Q
        (enter_each (λ r d. t ≡ r → gray d ≡ false) (λ _. refl) (λ r _ n x. absurd (n (sym x))) u w)

    scanned_enter : Scanned y X W (turn z t (painted White (at z t))) (map follow (row z.store t).links ++ (leave t ∷ Q))
    scanned_enter = record {
      standing =
          standing_turn y z J.standing t (painted White (at z t)) I.sized.heads_fit I.orderly.0.0
          (record { used = refl; holds = refl; waiting = refl; next = refl });
      gray_was =
          enter_each (λ r d. is_gray d.colour ≡ true → is_gray (head y.store r).colour ≡ true) (λ x. absurd (true≢false (sym x)))
          (λ r w _. J.gray_was r w);
      black_still =
          enter_each (λ r d. is_gray (head y.store r).colour ≡ false → is_black d.colour ≡ true)
          (λ x. absurd (both_ways (is_gray (head y.store t).colour) x (J.gray_was t I.orderly.0.0 (enter_gray k z t Q e I))))
          (λ r w _. J.black_still r w);
      uncounted =
          enter_each (λ r d. is_white d.colour ≡ true → d.count ≡ 0) (λ _. enter_uncounted k z t Q e I) (λ r w _. J.uncounted r w);
      closed = λ r u w was now l.
          enter_each
          (λ x d.
          is_gray (head y.store x).colour ≡ true → is_gray d.colour ≡ false → Links z.store x u →
          Done gray (with_head z.store t (painted White (at z t))) (map follow (row z.store t).links ++ (leave t ∷ Q)) u)
          (λ _ _ m. inr (inl (links_due z.store t u (leave t ∷ Q) m)))
          (λ x v _ c d m. enter_done u (I.sized.links_within x u v m) (J.closed x u v c d m)) r w was now l;
      wanted = λ u w x. enter_done u w (J.wanted u w x);
      alive = λ r u b.
          enter_each (λ x d. d.used ≡ true → is_black d.colour ≡ true → X x) (λ _ x. absurd (true≢false (sym x)))
          (λ x w _ v. J.alive x (w, v)) r u.0 u.1 b;
    }

  -- A gray record with a count is alive: it is held, or has a link from what is alive.
  module _ (z : Progress) (t : ℕ) (Q : List Task) (I : Scanning k z (visit t ∷ Q)) (J : Scanned y X W z (visit t ∷ Q))
      (tinted : is_gray (at z t).colour ≡ true) (counted : (at z t).count ≢ 0) where
    going : (r u : ℕ) → Within z.store r → X r → Links z.store r u → X u
    going r u w x l = onward r u (standing_back y z J.standing r w) x (standing_links y z J.standing r u l)

    counted_alive : X t
    counted_alive = by (at z t).holds refl
      where
        w : Within z.store t
        w = I.orderly.0.0

        by : (n : ℕ) → (at z t).holds ≡ n → X t
        by (suc n) e =
            held t (standing_back y z J.standing t w, omega (arith, e, (J.standing.alike t w).holds))
        by zero e =
            let q = named_by (λ h. is_black h.colour) z.store t w.0 (omega (arith, I.counts t w, e, counted)) in
            let l = q.1.1.1 in
            let u = linking_used k (head z.store q.0) (row z.store q.0) (I.sized.each q.0 q.1.0) t l.1.0 l.0 l.1.1 in
            going q.0 t q.1.0 (J.alive q.0 (q.1.0, u) q.1.1.0) l

    -- after the restore
    module _ (x : Progress) (R : Restored z X (λ u. u ≡ t) x []) where
      before : (r : ℕ) → Within x.store r → Within z.store r
      before r w = standing_back z x R.standing r w

      after_gray : (r : ℕ) → Within x.store r → is_gray (head z.store r).colour ≡ false → is_gray (head x.store r).colour ≡ false
      after_gray r w = gray_before (head x.store r).colour (head z.store r).colour (R.colours r w)

      now_ungray : (u : ℕ) → Done unblack x.store [] u → is_gray (head x.store u).colour ≡ false
      now_ungray u d =
          black_ungray (head x.store u).colour (black_not (head x.store u).colour (done_end unblack x.store u d))

      after_done : (u : ℕ) → Within x.store u → Done gray z.store (visit t ∷ Q) u → Done gray x.store Q u
      after_done u w =
          done_pass gray z.store x.store u (after_gray u w) t Q (λ e. now_ungray u (R.wanted u w (sym e)))

      after_closed :
          (r u : ℕ) → Within x.store r → Within x.store u → is_gray (head y.store r).colour ≡ true →
          is_gray (head x.store r).colour ≡ false → Links x.store r u → Done gray x.store Q u
      after_closed r u w v was now l = elim (cases_Bool (is_gray (head z.store r).colour)) [
        | inr e ↦ after_done u v (J.closed r u (before r w) was e (standing_links z x R.standing r u l))
        | inl e ↦ elim (R.colours r w) [
          | inl same ↦ absurd (both_ways (is_gray (head x.store r).colour) now (ap is_gray same ∙ e))
          | inr black ↦ inl (now_ungray u (R.closed r u w (gray_unblack (head z.store r).colour e) (ap is_black black) l))
        ]
      ]

      after_scanned : ((r u : ℕ) → Within x.store r → Links x.store r u → Within x.store u) → Scanned y X W x Q
      after_scanned inside = record {
        standing = standing_on y z J.standing x R.standing;
        gray_was = λ r w e. elim (R.colours r w) [
          | inl same ↦ J.gray_was r (before r w) (sym (ap is_gray same) ∙ e)
          | inr black ↦ absurd (true≢false (sym e ∙ ap is_gray black))
        ];
        black_still = λ r w e. elim (R.colours r w) [
          | inl same ↦ ap is_black same ∙ J.black_still r (before r w) e
          | inr black ↦ ap is_black black
        ];
        uncounted = λ r w e. elim (R.colours r w) [
          | inl same ↦ elim (R.counts r w (white_unblack (head x.store r).colour e)) [
            | inl c ↦ c ∙ J.uncounted r (before r w) (sym (ap is_white same) ∙ e)
            | inr n ↦ absurd n
          ]
          | inr black ↦ absurd (true≢false (sym e ∙ ap is_white black))
        ];
        closed = λ r u w was now l. after_closed r u w (inside r u w l) was now l;
        wanted = λ u w a. after_done u w (J.wanted u (before u w) a);
        alive = R.alive;
      }

    pub scanned_restore : Scanned y X W (full restoring z t) Q
    scanned_restore =
        let a = restore_walked k z t X (λ u. u ≡ t) (scan_restores k z t Q I tinted) going J.alive counted_alive (λ _ e. e) in
        after_scanned (full restoring z t) a.1 a.0.sized.links_within

  scanned_pass :
      (z : Progress) (t : ℕ) (Q : List Task) → (is_gray (at z t).colour && eqb (at z t).count 0) ≡ false → Scanning k z (visit t ∷ Q) →
      Scanned y X W z (visit t ∷ Q) → Scanned y X W (scanning.pass z t) Q
  scanned_pass z t Q e I J = elim (cases_Bool (is_gray (at z t).colour)) [
    | inl c ↦
        subst (λ x. Scanned y X W x Q) (sym (pass_gray z t c))
        (scanned_restore z t Q I J c (elim (and_cases (is_gray (at z t).colour) (eqb (at z t).count 0) e) [
          | inl d ↦ absurd (both_ways (is_gray (at z t).colour) d c)
          | inr d ↦ eqb-false (at z t).count 0 d
        ]))
    | inr c ↦
        subst (λ x. Scanned y X W x Q) (sym (pass_ungray z t c))
        (scanned_same z (visit t ∷ Q) Q I J
        (λ u w. done_pass gray z.store z.store u (λ x. x) t Q (λ n. subst (λ x. gray (head z.store x) ≡ false) n c)))
  ]

  pub scanned_also : Also scanning (Scanning k) (Scanned y X W)
  scanned_also = record {
    empty = λ z Q I J. scanned_same z (follow 0 ∷ Q) Q I J (λ u w. done_empty gray z.store z.store u (λ x. x) Q w.0);
    follows = λ z t Q ne I J.
        scanned_same z (follow t ∷ Q) (visit t ∷ Q) I J (λ u w. done_follow gray z.store z.store u (λ x. x) t Q);
    begins = λ z t Q e I J. scanned_enter z t Q e I J;
    passes = λ z t Q e I J. scanned_pass z t Q e I J;
    leaves = λ z t Q I J. scanned_same z (leave t ∷ Q) Q I J (λ u w. done_leave gray z.store z.store u (λ x. x) t Q);
  }

-- Between two turns of scan: the records of `rest` are still to be served. A record that was listed and is not among them
-- has been.
abbrev pub Served : Progress → List ℕ → ℕ → Type 0
Served y rest u = Listed y.store u × (naming u rest ≡ 0)

pub record ScanList (k : Shape) (g y z : Progress) (rest : List ℕ) : Type 0 where
  pub kept : Kept g.store y.store
  pub fits : Scanning k z []
  pub since : Scanned y (Reachable g.store) (Served y rest) z []
  pub rest_within : (r : ℕ) → 0 < naming r rest → Within z.store r

-- The records of s and of what mark left are the same.
module _ (s z : State) (K : Kept s z) where
  kept_within : (r : ℕ) → Within s r → Within z r
  kept_within r w = (w.0, omega (arith, w.1, ap length K.rows_same))

  kept_back : (r : ℕ) → Within z r → Within s r
  kept_back r w = (w.0, omega (arith, w.1, ap length K.rows_same))

  kept_links : (r u : ℕ) → Links z r u → Links s r u
  kept_links r u l = (l.0, (l.1.0, ap (λ ws. get_or (get_or ws (r - 1) no_row).links l.1.0 0) (sym K.rows_same) ∙ l.1.1))

  kept_held : (r : ℕ) → Held z r → Reachable s r
  kept_held r h = here (kept_back r h.0, omega (arith, h.1, K.holds_same r (kept_back r h.0)))

-- One record of the list.
module _ (k : Shape) (g y z : Progress) (r : ℕ) (rest : List ℕ) (L : ScanList k g y z (r ∷ rest)) where
  pub scan_begins : Scanning k z (visit r ∷ [])
  scan_begins = record {
    sized = L.fits.sized;
    links_used = L.fits.links_used;
    unsuspected = L.fits.unsuspected;
    counts = L.fits.counts;
    orderly = ((L.rest_within r (omega (arith, naming_same r rest)), tt), tt);
  }

  turn_starts : Scanned y (Reachable g.store) (Served y rest) z (visit r ∷ [])
  turn_starts = record {
    standing = L.since.standing;
    gray_was = L.since.gray_was;
    black_still = L.since.black_still;
    uncounted = L.since.uncounted;
    closed = λ x u w was now l. inl (done_end gray z.store u (L.since.closed x u w was now l));
    wanted = λ u w a. elim (cases_eq r u) [
      | inl e ↦ inr (inr e)
      | inr n ↦ inl (done_end gray z.store u (L.since.wanted u w (a.0, naming_other u r rest n ∙ a.1)))
    ];
    alive = L.since.alive;
  }

  turn_walked :
      Scanning k (scan_one z r) [] × Scanned y (Reachable g.store) (Served y rest) (scan_one z r) []
  turn_walked =
      let also = scanned_also k y (Reachable g.store) (Served y rest) (kept_held g.store y.store L.kept)
      (λ a b w f l. along f (kept_links g.store y.store L.kept a b l)) in
      let K = keeps_and k.links scanning (Scanning k) (Scanned y (Reachable g.store) (Served y rest)) (open_room gray) (scanning_keeps k) also in
      (walk_keeps k.links scanning (λ x Q. Scanning k x Q × Scanned y (Reachable g.store) (Served y rest) x Q) (open_room gray) K
      (suc (length z.store.rows)) z r []
      (omega (arith, (scanning_keeps k).most z (visit r ∷ []) scan_begins)) (scan_begins, turn_starts)).fits

  pub scan_turn : ScanList k g y (scan_one z r) rest
  scan_turn =
      let a = turn_walked in
      record {
        kept = L.kept;
        fits = a.0;
        since = a.1;
        rest_within = λ u n.
            standing_within y (scan_one z r) a.1.standing u
            (standing_back y z L.since.standing u (L.rest_within u (omega (arith, n, naming_cons u r rest))));
      }

pub scan_turns : (k : Shape) (g y z : Progress) (rest : List ℕ) → ScanList k g y z rest → ScanList k g y (fold scan_one z rest) []
scan_turns k g y z [] L = L
scan_turns k g y z (r ∷ rest) L = scan_turns k g y (scan_one z r) rest (scan_turn k g y z r rest L)

-- What mark left.
module _ (k : Shape) (g y : Progress) (law : Lawful k g.store) (M : AfterMark k g y) where
  -- what a link leads to has a count, and is not spent
  linked_stays : (r t : ℕ) → Within y.store r → Links y.store r t → Used y.store t
  linked_stays r t w l =
      let v = kept_back g.store y.store M.kept r w in
      let m = kept_links g.store y.store M.kept r t l in
      let u = law.links_used r t v m in
      let c : Spent g.store t → ⊥ = λ x.
      omega (
        arith,
        x.1,
        law.counts t u.0,
        naming_le_named g.store r t v,
        naming_has (row g.store r).links m.1.0 t m.0 m.1.1,
      ) in
      (kept_within g.store y.store M.kept t u.0, M.kept.use_same t u.0 c ∙ u.1)

  tinted : (r : ℕ) → Within y.store r → ((head y.store r).colour ≡ Black) ⊎ ((head y.store r).colour ≡ Gray)
  tinted r w = M.colours r (kept_back g.store y.store M.kept r w)

  -- where a record is not gray it is black
  ungray_black : (r : ℕ) → Within y.store r → is_black (head y.store r).colour ≡ ungray (head y.store r)
  ungray_black r w = elim (tinted r w) [ inl e ↦ ap is_black e ∙ sym (ap (λ c. not (is_gray c)) e) | inr e ↦ ap is_black e ∙ sym (ap (λ c. not (is_gray c)) e) ]

  start_fits : Scanning k y []
  start_fits = record {
    sized = M.sized;
    links_used = linked_stays;
    unsuspected = λ r w e. elim (tinted r w) [
      | inl b ↦ true≢false (ap is_black (sym b ∙ e))
      | inr b ↦ true≢false (ap is_gray (sym b ∙ e))
    ];
    counts = λ r w.
        M.counts r (kept_back g.store y.store M.kept r w)
        ∙ ap (λ n. (head y.store r).holds + n)
        (where_agree ungray (λ h. is_black h.colour) r y.store.heads y.store.heads y.store.rows refl
        (λ i l.
        let j : (i + 1) - 1 ≡ i = omega arith in
        subst (λ x. ungray (get_or y.store.heads x (free_header 0)) ≡ is_black (get_or y.store.heads x (free_header 0)).colour) j
        (sym (ungray_black (i + 1) (omega arith, omega (arith, l, M.sized.heads_fit))))));
    orderly = tt;
  }

  start_since : Scanned y (Reachable g.store) (Served y y.store.candidates) y []
  start_since = record {
    standing = standing_same y;
    gray_was = λ r w e. e;
    black_still = λ r w e. ungray_black r w ∙ ap not e;
    uncounted = λ r w e. elim (tinted r w) [
      | inl b ↦ absurd (true≢false (sym e ∙ ap is_white b))
      | inr b ↦ absurd (true≢false (sym e ∙ ap is_white b))
    ];
    closed = λ r u w was now l. absurd (both_ways (is_gray (head y.store r).colour) now was);
    wanted = λ u w a. absurd (let no : ⊥ = omega (arith, a.0, a.1) in no);
    alive = start_alive;
  }
    where
      start_alive : (r : ℕ) → Used y.store r → is_black (head y.store r).colour ≡ true → Reachable g.store r
      start_alive r u b =
          let v = kept_back g.store y.store M.kept r u.0 in
          let fresh : Spent g.store r → ⊥ = λ x. both_ways (head y.store r).used (M.kept.spent_free r x) u.1 in
          elim (law.cover r (v, sym (M.kept.use_same r v fresh) ∙ u.1)) [
            | inl a ↦ a
            | inr c ↦ elim c [
              | inl x ↦ absurd (fresh x)
              | inr h ↦ absurd (true≢false (sym b ∙ ap is_black (M.hanging_gray r h)))
            ]
          ]

  pub scan_start : ScanList k g y y y.store.candidates
  scan_start = record {
    kept = M.kept;
    fits = start_fits;
    since = start_since;
    rest_within = λ r n. M.filed.listed_within r n;
  }

  -- With no record left to serve.
  module _ (z : Progress) (L : ScanList k g y z []) where
    to_z : (r : ℕ) → Within g.store r → Within z.store r
    to_z r w = standing_within y z L.since.standing r (kept_within g.store y.store M.kept r w)

    from_z : (r : ℕ) → Within z.store r → Within g.store r
    from_z r w = kept_back g.store y.store M.kept r (standing_back y z L.since.standing r w)

    rows_z : z.store.rows ≡ g.store.rows
    rows_z = L.since.standing.rows ∙ M.kept.rows_same

    links_z : (r u : ℕ) → Links g.store r u → Links z.store r u
    links_z r u l = (l.0, (l.1.0, ap (λ ws. get_or (get_or ws (r - 1) no_row).links l.1.0 0) rows_z ∙ l.1.1))

    -- all that hangs on the list was gray, and is no more
    walked_all :
        {r : ℕ} → From (Listed y.store) (Links g.store) r →
        Within g.store r × (((head y.store r).colour ≡ Gray) × (is_gray (head z.store r).colour ≡ false))
    walked_all (here {r = q} a) =
        let w = kept_back g.store y.store M.kept q (M.filed.listed_within q a) in
        (w, (M.listed_gray q a, done_end gray z.store q (L.since.wanted q (to_z q w) (a, refl))))
    walked_all (along {r = q} {t = t} f l) =
        let d = walked_all f in
        let w = (law.links_used q t d.0 l).0 in (
          w,
          (
            M.hanging_gray t (along (M.gray_hangs q d.0 d.1.0) l),
            done_end gray z.store t (L.since.closed q t (to_z q d.0) (ap is_gray d.1.0) d.1.1 (links_z q t l)),
          ),
        )

    end_gray : (r : ℕ) → Within g.store r → is_gray (head z.store r).colour ≡ false
    end_gray r w = elim (cases_Bool (is_gray (head z.store r).colour)) [
      | inr e ↦ e
      | inl e ↦ (walked_all (M.gray_listed r w (gray_is (head y.store r).colour (L.since.gray_was r (to_z r w) e)))).1.1
    ]

    end_colours : (r : ℕ) → Within g.store r → ((head z.store r).colour ≡ Black) ⊎ ((head z.store r).colour ≡ White)
    end_colours r w = by (head z.store r).colour refl
      where
        by : (c : Colour) → (head z.store r).colour ≡ c → ((head z.store r).colour ≡ Black) ⊎ ((head z.store r).colour ≡ White)
        by Black e = inl e
        by White e = inr e
        by Gray e = absurd (true≢false (sym (ap is_gray e) ∙ end_gray r w))
        by Purple e = absurd (L.fits.unsuspected r (to_z r w) e)

    end_uncounted : (r : ℕ) → Within g.store r → (head z.store r).colour ≡ White → (head z.store r).count ≡ 0
    end_uncounted r w e = L.since.uncounted r (to_z r w) (ap is_white e)

    holds_z : (r : ℕ) → Within g.store r → (head z.store r).holds ≡ (head g.store r).holds
    holds_z r w = (L.since.standing.alike r (to_z r w)).holds ∙ M.kept.holds_same r w

    -- what is reachable has a count, and is black
    end_reachable : {r : ℕ} → Reachable g.store r → Within g.store r × ((head z.store r).colour ≡ White → ⊥)
    end_reachable (here {r = q} h) = (
      h.0,
      λ e. omega (arith, end_uncounted q h.0 e, L.fits.counts q (to_z q h.0), holds_z q h.0, h.1),
    )
    end_reachable (along {r = q} {t = t} f l) =
        let d = end_reachable f in
        let w = (law.links_used q t d.0 l).0 in
        let v = to_z q d.0 in
        let m = links_z q t l in
        let black : is_black (head z.store q).colour ≡ true =
        elim (end_colours q d.0) [ inl e ↦ ap is_black e | inr e ↦ absurd (d.1 e) ] in (
          w,
          λ e.
              omega (
                arith,
                end_uncounted t w e,
                L.fits.counts t (to_z t w),
                naming_has (row z.store q).links m.1.0 t m.0 m.1.1,
                where_le (λ h. is_black h.colour) t z.store.heads z.store.rows (q - 1) (omega (arith, v, L.fits.sized.heads_fit)) (omega (arith, v)) black,
              ),
        )

    used_z : (r : ℕ) → Within g.store r → (head z.store r).used ≡ (head y.store r).used
    used_z r w = (L.since.standing.alike r (to_z r w)).used

    end_kept : Kept g.store z.store
    end_kept = record {
      rows_same = rows_z;
      spent_free = λ r x. used_z r x.0.0 ∙ M.kept.spent_free r x;
      use_same = λ r w f. used_z r w ∙ M.kept.use_same r w f;
      holds_same = holds_z;
    }

    end_chain : (rs : List ℕ) (f : ℕ) → Chain y.store f rs → Chain z.store f rs
    end_chain [] f c = c
    end_chain (r ∷ rs) f c =
        let a = L.since.standing.alike r (standing_within y z L.since.standing r c.1.0) in (
          c.0,
          (
            standing_within y z L.since.standing r c.1.0,
            (a.used ∙ c.1.1.0, end_chain rs (head z.store r).next (subst (λ n. Chain y.store n rs) (sym a.next) c.1.1.1)),
          ),
        )

    end_filed : Filed z.store
    end_filed =
        let S = L.since.standing in
        record {
          listed = λ r w.
              ap (naming r) S.list ∙ M.filed.listed r (standing_back y z S r w) ∙ ap once (sym (S.alike r w).waiting);
          listed_within = λ r n. standing_within y z S r (M.filed.listed_within r (omega (arith, n, ap (naming r) S.list)));
          chain = (
            M.filed.chain.0,
            subst (λ f. Chain z.store f M.filed.chain.0) (sym S.front) (end_chain M.filed.chain.0 y.store.front M.filed.chain.1),
            λ r w. omega (arith, M.filed.chain.2 r (standing_back y z S r w), ap once (S.alike r w).used),
          );
        }

    end_used : (i : ℕ) → i < length z.store.heads → (get_or z.store.heads i (free_header 0)).used ≡ (get_or y.store.heads i (free_header 0)).used
    end_used i l =
        let j : (i + 1) - 1 ≡ i = omega arith in
        subst (λ x. (get_or z.store.heads x (free_header 0)).used ≡ (get_or y.store.heads x (free_header 0)).used) j
        (L.since.standing.alike (i + 1) (omega arith, omega (arith, l, L.fits.sized.heads_fit))).used

    end_in_use : in_use z.store ≡ in_use y.store
    end_in_use =
        omega (
          arith,
          count_mono (λ h. h.used) z.store.heads y.store.heads L.since.standing.size
              (λ i l. omega (arith, ap once (end_used i l))),
          count_mono (λ h. h.used) y.store.heads z.store.heads (sym L.since.standing.size)
              (λ i l. omega (arith, ap once (end_used i (omega (arith, l, L.since.standing.size))))),
        )

    pub scan_end : AfterScan k g z
    scan_end = record {
      sized = L.fits.sized;
      kept = end_kept;
      colours = end_colours;
      white_unreachable = λ r w e f. (end_reachable f).1 e;
      black_reachable = λ r u e. L.since.alive r u (ap is_black e);
      white_listed = λ r w e. white_hangs r w e;
      counts = λ r w. L.fits.counts r (to_z r w);
      white_uncounted = end_uncounted;
      filed = end_filed;
      accounted = omega (arith, end_in_use, L.since.standing.given, M.accounted);
    }
      where
        white_hangs :
            (r : ℕ) → Within g.store r → (head z.store r).colour ≡ White → From (Listed z.store) (Links g.store) r
        white_hangs r w e = elim (cases_Bool (is_gray (head y.store r).colour)) [
          | inl c ↦
              from_more {Q = Listed z.store} {On = Links g.store} (λ q n. omega (arith, n, ap (naming q) L.since.standing.list)) (λ _ _ l. l)
              (M.gray_listed r w (gray_is (head y.store r).colour c))
          | inr c ↦ absurd (true≢false (sym (L.since.black_still r (to_z r w) c) ∙ ap is_black e))
        ]

-- Scan, from a lawful store that mark went through.
pub scan_law : (k : Shape) (g y : Progress) → Lawful k g.store → AfterMark k g y → AfterScan k g (scanned y)
scan_law k g y law M =
    scan_end k g y law M (scanned y) (scan_turns k g y y y.store.candidates (scan_start k g y law M))
