-- Gather gives up every record that scan left white, once, and alters no other.
use Rattle.std.proofs.Common.{◌≡◌, ℕ, suc, ◌+◌, ◌-◌, ◌<◌, ◌≤◌, Bool, true, false, cond, not, ◌&&◌, eqb, ◌≢◌, ◌⊎◌, List, [], ◌∷◌, ◌++◌, map, length, get_or, fold, sym, refl, ap, ◌∙◌, subst, inl, inr, arith}
use Rattle.std.proofs.lemmas.List.Sums.{sum_by-set}
use Rattle.std.proofs.lemmas.Bool.{cases_eq, both_ways, true≢false, and_parts, cond-true, cond-false, eqb-true, eq-eqb, not-true}
use Rattle.kinds.specs.Rows.{Row, Shape, blank}
use Rattle.model.specs.State.{State, Within, head, row, no_row, in_use, with_head, with_candidates}
use Rattle.model.specs.Headers.{Header, free_header, painted, unlisted, is_black, is_white}
use Rattle.model.specs.Lawful.{Lawful, From, Links, Used, Held, Reachable, Chain, naming, once}
use Rattle.model.specs.Lawful.From.{here, along}
use Rattle.model.specs.Walk.{Progress, Task}
use Rattle.model.specs.Walk.Task.{follow, visit, leave}
use Rattle.model.specs.Release.{at, turn, given_up}
use Rattle.model.specs.Releasing.{live_named, naming_live, FewGiven}
use Rattle.model.specs.Collection.{gathering, gather_one, gathered, list_taken}
use Rattle.model.specs.Colouring.{naming_where, named_where, Awaited, Gathering, white, open_room}
use Rattle.model.specs.Collected.{Listed, AfterScan, AfterCollection}
use Rattle.model.specs.declared.heads.Colour.{Colour}
use Rattle.model.specs.declared.heads.Colour.TheVariants.{Black, Gray, White, Purple}
use Rattle.model.proofs.Places.{each_head, head_there}
use Rattle.model.proofs.Paths.{from_inside}
use Rattle.model.proofs.Counting.{naming_cons, naming_same, naming_other, naming_blank, naming_has}
use Rattle.model.proofs.Releases.{counted_used}
use Rattle.model.proofs.Lowering.{live_named_all, source_counted}
use Rattle.model.proofs.Colourings.{due_miss, due_links, where_le}
use Rattle.model.proofs.Leaving.{left_size, left_both, given_sum}
use Rattle.model.proofs.Gathers.{once_most, gathering_changed, gathering_keeps, waiting_used}
use Rattle.model.proofs.Walks.{Also, keeps_and, walk_keeps}

-- r is among the records to be left
abbrev pub ToLeave : ℕ → List Task → Type 0
ToLeave r [] = ⊥
ToLeave r (follow u ∷ Q) = ToLeave r Q
ToLeave r (visit u ∷ Q) = ToLeave r Q
ToLeave r (leave u ∷ Q) = (u ≡ r) ⊎ ToLeave r Q

-- What has become of record r, which has the row w and the head d now: it is as it was in y, but for waiting; or it was
-- white in y and is to be left, or given up.
abbrev pub Fate : State → List Task → ℕ → Row → Header → Type 0
Fate y Q r w d =
    ((unlisted d ≡ unlisted (head y r)) × (w ≡ row y r))
    ⊎ ((is_white (head y r).colour ≡ true) × ((is_white d.colour ≡ false) × (ToLeave r Q ⊎ (d.used ≡ false))))

-- record t is not missed: it is white no more, or is still to be walked, or waits on the list
abbrev pub Met : State → List Task → ℕ → Type 0
Met z Q t = (is_white (head z t).colour ≡ false) ⊎ (Awaited t Q ⊎ ((head z t).waiting ≡ true))

-- While gather walks, from the store y that scan left, to z with the tasks Q; rest is what is still to be served of the
-- list, and c what was in use and given up.
pub record Gathers (y : State) (c : ℕ) (rest : List ℕ) (z : Progress) (Q : List Task) : Type 0 where
  pub size : length z.store.rows ≡ length y.rows
  pub list_gone : z.store.candidates ≡ []
  pub fate : (r : ℕ) → Within y r → Fate y Q r (row z.store r) (head z.store r)
  pub to_leave : (r : ℕ) → ToLeave r Q → (is_white (head y r).colour ≡ true) × (naming r rest ≡ 0)
  -- what is still to be served waits, and nothing else
  pub waits : (r : ℕ) → Within y r → naming r rest ≡ once (head z.store r).waiting
  -- what a gathered record linked to is not missed, nor what was on the list
  pub closed :
      (r t : ℕ) → Within y r → Within y t → is_white (head y r).colour ≡ true → is_white (head z.store r).colour ≡ false →
      Links y r t → Met z.store Q t
  pub listed_met : (r : ℕ) → Within y r → Listed y r → Met z.store Q r
  pub accounted : in_use z.store + z.given ≡ c

-- tasks
to_leave_links : (r : ℕ) (us : List ℕ) (Q : List Task) → ToLeave r Q → ToLeave r (map follow us ++ Q)
to_leave_links r [] Q l = l
to_leave_links r (u ∷ us) Q l = to_leave_links r us Q l

to_leave_back : (r : ℕ) (us : List ℕ) (Q : List Task) → ToLeave r (map follow us ++ Q) → ToLeave r Q
to_leave_back r [] Q l = l
to_leave_back r (u ∷ us) Q l = to_leave_back r us Q l

-- the same store, with other tasks
gathers_tasks :
    (y : State) (c : ℕ) (rest : List ℕ) (z : Progress) (P Q : List Task) → Gathers y c rest z P →
    ((r : ℕ) → ToLeave r P → ToLeave r Q) → ((r : ℕ) → ToLeave r Q → ToLeave r P) →
    ((t : ℕ) → Within y t → Awaited t P → Met z.store Q t) → Gathers y c rest z Q
gathers_tasks y c rest z P Q J on back awaited = record {
  size = J.size;
  list_gone = J.list_gone;
  fate = λ r w. fate_on r (J.fate r w);
  to_leave = λ r l. J.to_leave r (back r l);
  waits = J.waits;
  closed = λ r t w v a b l. met t v (J.closed r t w v a b l);
  listed_met = λ r w l. met r w (J.listed_met r w l);
  accounted = J.accounted;
}
  where
    fate_on : (r : ℕ) → Fate y P r (row z.store r) (head z.store r) → Fate y Q r (row z.store r) (head z.store r)
    fate_on r (inl a) = inl a
    fate_on r (inr (a, (b, inl l))) = inr (a, (b, inl (on r l)))
    fate_on r (inr (a, (b, inr f))) = inr (a, (b, inr f))

    met : (t : ℕ) → Within y t → Met z.store P t → Met z.store Q t
    met t w (inl a) = inl a
    met t w (inr (inl a)) = awaited t w a
    met t w (inr (inr a)) = inr (inr a)

module _ (k : Shape) (y : State) (c : ℕ) (rest : List ℕ) where
  gathers_empty : (z : Progress) (Q : List Task) → Gathers y c rest z (follow 0 ∷ Q) → Gathers y c rest z Q
  gathers_empty z Q J =
      gathers_tasks y c rest z (follow 0 ∷ Q) Q J (λ _ l. l) (λ _ l. l)
      (λ t w a. elim a [ inl d ↦ inr (inl (inl (omega (arith, d, due_miss 0 t Q (omega (arith, w.0)))))) | inr n ↦ absurd n ])

  gathers_follow : (z : Progress) (t : ℕ) (Q : List Task) → Gathers y c rest z (follow t ∷ Q) → Gathers y c rest z (visit t ∷ Q)
  gathers_follow z t Q J =
      gathers_tasks y c rest z (follow t ∷ Q) (visit t ∷ Q) J (λ _ l. l) (λ _ l. l)
      (λ u w a. elim (cases_eq t u) [
        | inl e ↦ inr (inl (inr e))
        | inr n ↦ elim a [ inl d ↦ inr (inl (inl (omega (arith, d, due_miss t u Q n)))) | inr b ↦ absurd b ]
      ])

  gathers_pass :
      (z : Progress) (t : ℕ) (Q : List Task) → (is_white (at z t).colour && not (at z t).waiting) ≡ false →
      Gathers y c rest z (visit t ∷ Q) → Gathers y c rest z Q
  gathers_pass z t Q e J =
      gathers_tasks y c rest z (visit t ∷ Q) Q J (λ _ l. l) (λ _ l. l)
      (λ u w a. elim a [ inl d ↦ inr (inl (inl d)) | inr n ↦ subst (Met z.store Q) n passed ])
    where
      passed : Met z.store Q t
      passed = by (is_white (at z t).colour) (at z t).waiting refl refl e
        where
          by :
              (a b : Bool) → is_white (at z t).colour ≡ a → (at z t).waiting ≡ b →
              (is_white (at z t).colour && not (at z t).waiting) ≡ false → Met z.store Q t
          by false b p q h = inl p
          by true true p q h = inr (inr q)
          by true false p q h = absurd (true≢false (rw (p, q) at h))

  -- A white record that does not wait is entered.
  module _ (z : Progress) (t : ℕ) (Q : List Task) (pale : is_white (at z t).colour ≡ true) (still : (at z t).waiting ≡ false) (I : Gathering k z (visit t ∷ Q)) (J : Gathers y c rest z (visit t ∷ Q)) where
    abbrev enter_next : List Task
    enter_next = map follow (row z.store t).links ++ (leave t ∷ Q)

    abbrev enter_store : State
    enter_store = with_head z.store t (painted Black (at z t))

    enter_inside : Within z.store t
    enter_inside = I.orderly.0.0

    enter_inside_y : Within y t
    enter_inside_y = (enter_inside.0, omega (arith, enter_inside, J.size))

    enter_on : (r : ℕ) → Within y r → Within z.store r
    enter_on r w = (w.0, omega (arith, w, J.size))

    enter_changed :
        (P : ℕ → Header → Type 0) → P t (painted Black (at z t)) → ((r : ℕ) → Within z.store r → r ≢ t → P r (head z.store r)) →
        (r : ℕ) → Within y r → P r (head enter_store r)
    enter_changed P a b r w = each_head z.store t enter_inside (painted Black (at z t)) P I.sized.heads_fit a b r (enter_on r w)

    -- it is as scan left it
    enter_same : (unlisted (at z t) ≡ unlisted (head y t)) × (row z.store t ≡ row y t)
    enter_same = elim (J.fate t enter_inside_y) [ inl a ↦ a | inr b ↦ absurd (both_ways (is_white (at z t).colour) b.1.0 pale) ]

    enter_pale : is_white (head y t).colour ≡ true
    enter_pale = ap (λ h. is_white h.colour) (sym enter_same.0) ∙ pale

    enter_met : (u : ℕ) → Within y u → Met z.store (visit t ∷ Q) u → Met enter_store enter_next u
    enter_met u w (inl a) =
        inl (enter_changed (λ r d. is_white (head z.store r).colour ≡ false → is_white d.colour ≡ false)
        (λ _. refl) (λ _ _ _ e. e) u w a)
    enter_met u w (inr (inl (inl d))) = inr (inl (inl (omega (arith, d, due_links u (row z.store t).links (leave t ∷ Q)))))
    enter_met u w (inr (inl (inr n))) =
        inl (subst (λ x. is_white (head enter_store x).colour ≡ false) n
        (ap (λ h. is_white h.colour) (head_there z.store t enter_inside (painted Black (at z t)) I.sized.heads_fit)))
    enter_met u w (inr (inr a)) =
        inr (inr (enter_changed (λ r d. (head z.store r).waiting ≡ true → d.waiting ≡ true) (λ e. e) (λ _ _ _ e. e) u w a))

    -- its own links are still to be followed
    enter_links : (u : ℕ) → Links y t u → Met enter_store enter_next u
    enter_links u l =
        let named : get_or (row z.store t).links l.1.0 0 ≡ u = ap (λ w. get_or w.links l.1.0 0) enter_same.1 ∙ l.1.1 in
        let n = naming_has (row z.store t).links l.1.0 u l.0 named in
        inr (inl (inl (omega (arith, n, due_links u (row z.store t).links (leave t ∷ Q)))))

    gathers_enter : Gathers y c rest (turn z t (painted Black (at z t))) enter_next
    gathers_enter = record {
      size = J.size;
      list_gone = J.list_gone;
      fate = λ r w.
          enter_changed (λ x d. Within y x → Fate y enter_next x (row z.store x) d)
          (λ _. inr (enter_pale, (refl, inl (to_leave_links t (row z.store t).links (leave t ∷ Q) (inl refl)))))
          (λ x _ _ v. fate_on x (J.fate x v)) r w w;
      to_leave = λ r l. elim (to_leave_back r (row z.store t).links (leave t ∷ Q) l) [
        | inl e ↦
            subst (λ x. (is_white (head y x).colour ≡ true) × (naming x rest ≡ 0)) e
            (enter_pale, J.waits t enter_inside_y ∙ ap once still)
        | inr m ↦ J.to_leave r m
      ];
      waits = λ r w.
          enter_changed (λ x d. Within y x → naming x rest ≡ once d.waiting) (λ v. J.waits t v) (λ x _ _ v. J.waits x v) r w w;
      closed = λ r u w v a b l. elim (cases_eq r t) [
        | inl e ↦ enter_links u (subst (λ x. Links y x u) e l)
        | inr ne ↦
            enter_met u v (J.closed r u w v a
            (enter_changed (λ x d. x ≢ t → is_white d.colour ≡ false → is_white (head z.store x).colour ≡ false)
            (λ same. absurd (same refl)) (λ _ _ _ _ e. e) r w ne b) l)
      ];
      listed_met = λ r w l. enter_met r w (J.listed_met r w l);
      accounted =
          omega (
            arith,
            J.accounted,
            sum_by-set (λ d. cond d.used 1 0) z.store.heads (t - 1) (painted Black (at z t)) (free_header 0)
                (omega (arith, enter_inside, I.sized.heads_fit)),
          );
    }
      where
        fate_on :
            (r : ℕ) → Fate y (visit t ∷ Q) r (row z.store r) (head z.store r) →
            Fate y enter_next r (row z.store r) (head z.store r)
        fate_on r (inl a) = inl a
        fate_on r (inr (a, (b, inl l))) = inr (a, (b, inl (to_leave_links r (row z.store t).links (leave t ∷ Q) (inr l))))
        fate_on r (inr (a, (b, inr f))) = inr (a, (b, inr f))

  -- A record is left, and given up.
  module _ (z : Progress) (t : ℕ) (Q : List Task) (I : Gathering k z (leave t ∷ Q)) (J : Gathers y c rest z (leave t ∷ Q)) where
    leave_inside : Within z.store t
    leave_inside = I.orderly.0.0.0

    leave_changed :
        (P : ℕ → Row → Header → Type 0) → P t (blank k) (free_header z.store.front) →
        ((r : ℕ) → 1 ≤ r → r ≢ t → P r (row z.store r) (head z.store r)) →
        (r : ℕ) → 1 ≤ r → P r (row (given_up k z t).store r) (head (given_up k z t).store r)
    leave_changed = left_both k z.store t (free_header z.store.front) t leave_inside I.sized.heads_fit

    leave_met : (u : ℕ) → Within y u → Met z.store (leave t ∷ Q) u → Met (given_up k z t).store Q u
    leave_met u w m =
        leave_changed
        (λ x v d. Met z.store (leave t ∷ Q) x → (is_white d.colour ≡ false) ⊎ (Awaited x Q ⊎ (d.waiting ≡ true)))
        (λ _. inl refl) (λ x _ _ n. on x n) u w.0 m
      where
        on :
            (x : ℕ) → Met z.store (leave t ∷ Q) x →
            (is_white (head z.store x).colour ≡ false) ⊎ (Awaited x Q ⊎ ((head z.store x).waiting ≡ true))
        on x (inl a) = inl a
        on x (inr (inl (inl d))) = inr (inl (inl d))
        on x (inr (inl (inr n))) = absurd n
        on x (inr (inr a)) = inr (inr a)

    gathers_leave : Gathers y c rest (given_up k z t) Q
    gathers_leave = record {
      size = left_size k z.store t (free_header z.store.front) t leave_inside I.sized.heads_fit ∙ J.size;
      list_gone = J.list_gone;
      fate = λ r w.
          leave_changed (λ x v d. Within y x → Fate y Q x v d)
          (λ _. inr ((J.to_leave t (inl refl)).0, (refl, inr refl))) (λ x _ ne v. fate_on x ne (J.fate x v)) r w.0 w;
      to_leave = λ r l. J.to_leave r (inr l);
      waits = λ r w.
          leave_changed (λ x v d. Within y x → naming x rest ≡ once d.waiting) (λ _. (J.to_leave t (inl refl)).1)
          (λ x _ _ v. J.waits x v) r w.0 w;
      closed = λ r u w v a b l.
          leave_met u v (J.closed r u w v a
          (leave_changed (λ x _ d. is_white d.colour ≡ false → is_white (head z.store x).colour ≡ false)
          (λ _. I.orderly.0.1.0.0) (λ _ _ _ e. e) r w.0 b) l);
      listed_met = λ r w l. leave_met r w (J.listed_met r w l);
      accounted = given_sum k z t leave_inside I.sized.heads_fit I.orderly.0.0.1 ∙ J.accounted;
    }
      where
        fate_on :
            (r : ℕ) → r ≢ t → Fate y (leave t ∷ Q) r (row z.store r) (head z.store r) →
            Fate y Q r (row z.store r) (head z.store r)
        fate_on r ne (inl a) = inl a
        fate_on r ne (inr (a, (b, inl (inl e)))) = absurd (ne (sym e))
        fate_on r ne (inr (a, (b, inl (inr l)))) = inr (a, (b, inl l))
        fate_on r ne (inr (a, (b, inr f))) = inr (a, (b, inr f))

  pub gathering_also : Also (gathering k) (λ g Q. Gathering k g Q × FewGiven g) (Gathers y c rest)
  gathering_also = record {
    empty = λ z Q I J. gathers_empty z Q J;
    follows = λ z t Q ne I J. gathers_follow z t Q J;
    begins = λ z t Q e I J.
        let p = and_parts (is_white (at z t).colour) (not (at z t).waiting) e in
        gathers_enter z t Q p.0 (not-true (at z t).waiting p.1) I.0 J;
    passes = λ z t Q e I J. gathers_pass z t Q e J;
    leaves = λ z t Q I J. gathers_leave z t Q I.0 J;
  }

-- Between two turns: the list of y is served but for rest, and no walk is under way.
pub record GatherList (k : Shape) (g y z : Progress) (rest : List ℕ) : Type 0 where
  pub gathering : Gathering k z []
  pub few_given : FewGiven z
  pub rest_within : (r : ℕ) → 0 < naming r rest → Within z.store r
  pub gathers : Gathers y.store (in_use g.store + g.given) rest z []

once_some : (b : Bool) → 0 < once b → b ≡ true
once_some true l = refl
once_some false l = let no : ⊥ = omega arith in absurd no

-- The next record of the list: its waiting mark is cleared, and it is visited.
module _ (k : Shape) (g y z : Progress) (r : ℕ) (rest : List ℕ) (L : GatherList k g y z (r ∷ rest)) where
  abbrev turn_start : Progress
  turn_start = turn z r (unlisted (at z r))

  pub gather_turn_within : Within z.store r
  gather_turn_within = L.rest_within r (omega (arith, naming_same r rest))

  turn_on : (u : ℕ) → Within y.store u → Within z.store u
  turn_on u w = (w.0, omega (arith, w, L.gathers.size))

  turn_inside_y : Within y.store r
  turn_inside_y = (gather_turn_within.0, omega (arith, gather_turn_within, L.gathers.size))

  turn_waits : (at z r).waiting ≡ true
  turn_waits = once_some (at z r).waiting (omega (arith, naming_same r rest, L.gathers.waits r turn_inside_y))

  turn_used : (at z r).used ≡ true
  turn_used = waiting_used k (at z r) (row z.store r) (L.gathering.sized.each r gather_turn_within) turn_waits

  turn_changed :
      (P : ℕ → Header → Type 0) → P r (unlisted (at z r)) → ((u : ℕ) → Within z.store u → u ≢ r → P u (head z.store u)) →
      (u : ℕ) → Within y.store u → P u (head turn_start.store u)
  turn_changed P a b u w =
      each_head z.store r gather_turn_within (unlisted (at z r)) P L.gathering.sized.heads_fit a b u (turn_on u w)

  turn_sum : in_use turn_start.store ≡ in_use z.store
  turn_sum =
      omega (
        arith,
        sum_by-set (λ d. cond d.used 1 0) z.store.heads (r - 1) (unlisted (at z r)) (free_header 0)
            (omega (arith, gather_turn_within, L.gathering.sized.heads_fit)),
      )

  pub gather_turn_begins : Gathering k (turn z r (unlisted (at z r))) (visit r ∷ []) × FewGiven (turn z r (unlisted (at z r)))
  gather_turn_begins = (
    gathering_changed k z r [] (visit r ∷ []) L.gathering gather_turn_within turn_used (unlisted (at z r)) turn_used refl refl refl
        (L.gathering.uncounted r gather_turn_within) ((gather_turn_within, tt), tt),
    omega (arith, L.few_given, turn_sum),
  )

  turn_met : (u : ℕ) → Within y.store u → Met z.store [] u → Met turn_start.store (visit r ∷ []) u
  turn_met u w m =
      turn_changed
      (λ x d. Met z.store [] x → (is_white d.colour ≡ false) ⊎ (Awaited x (visit r ∷ []) ⊎ (d.waiting ≡ true)))
      (λ _. inr (inl (inr refl))) (λ x _ _ n. on x n) u w m
    where
      on :
          (x : ℕ) → Met z.store [] x →
          (is_white (head z.store x).colour ≡ false) ⊎ (Awaited x (visit r ∷ []) ⊎ ((head z.store x).waiting ≡ true))
      on x (inl a) = inl a
      on x (inr (inl (inl d))) = let none : ⊥ = omega (arith, d) in absurd none
      on x (inr (inl (inr n))) = absurd n
      on x (inr (inr a)) = inr (inr a)

  turn_gathers : Gathers y.store (in_use g.store + g.given) rest turn_start (visit r ∷ [])
  turn_gathers = record {
    size = L.gathers.size;
    list_gone = L.gathers.list_gone;
    fate = λ u w.
        turn_changed (λ x d. Within y.store x → Fate y.store (visit r ∷ []) x (row z.store x) d)
        (λ v. elim (L.gathers.fate r v) [
          | inl a ↦ inl a
          | inr b ↦ inr (b.0, (b.1.0, elim b.1.1 [ inl l ↦ absurd l | inr f ↦ inr f ]))
        ])
        (λ x _ _ v. fate_on x (L.gathers.fate x v)) u w w;
    to_leave = λ u l. absurd l;
    waits = λ u w.
        turn_changed (λ x d. Within y.store x → naming x rest ≡ once d.waiting)
        (λ v. omega (arith, naming_same r rest, L.gathers.waits r v, once_most (at z r).waiting))
        (λ x _ ne v. sym (naming_other x r rest (λ e. ne (sym e))) ∙ L.gathers.waits x v) u w w;
    closed = λ u v w x a b l.
        turn_met v x (L.gathers.closed u v w x a
        (turn_changed (λ q d. is_white d.colour ≡ false → is_white (head z.store q).colour ≡ false)
        (λ e. e) (λ _ _ _ e. e) u w b) l);
    listed_met = λ u w l. turn_met u w (L.gathers.listed_met u w l);
    accounted = omega (arith, L.gathers.accounted, turn_sum);
  }
    where
      fate_on :
          (x : ℕ) → Fate y.store [] x (row z.store x) (head z.store x) →
          Fate y.store (visit r ∷ []) x (row z.store x) (head z.store x)
      fate_on x (inl a) = inl a
      fate_on x (inr (a, (b, inl l))) = absurd l
      fate_on x (inr (a, (b, inr f))) = inr (a, (b, inr f))

  abbrev Serving : Progress → List Task → Type 0
  Serving x Q = (Gathering k x Q × FewGiven x) × Gathers y.store (in_use g.store + g.given) rest x Q

  pub gather_turn : GatherList k g y (gather_one k z r) rest
  gather_turn =
      let K =
      keeps_and k.links (gathering k) (λ x Q. Gathering k x Q × FewGiven x)
      (Gathers y.store (in_use g.store + g.given) rest) (open_room white) (gathering_keeps k)
      (gathering_also k y.store (in_use g.store + g.given) rest) in
      let start : Serving turn_start (visit r ∷ []) = (gather_turn_begins, turn_gathers) in
      let w =
      walk_keeps k.links (gathering k) Serving (open_room white) K
      (suc (length turn_start.store.rows)) turn_start r [] (omega (arith, K.most turn_start (visit r ∷ []) start)) start in
      record {
        gathering = w.fits.0.0;
        few_given = w.fits.0.1;
        rest_within = λ u n.
            let i = L.rest_within u (omega (arith, n, naming_cons u r rest)) in
            (i.0, omega (arith, i, w.size));
        gathers = w.fits.1;
      }

pub gather_turns :
    (k : Shape) (g y z : Progress) (rest : List ℕ) → GatherList k g y z rest → GatherList k g y (fold (gather_one k) z rest) []
gather_turns k g y z [] L = L
gather_turns k g y z (r ∷ rest) L = gather_turns k g y (gather_one k z r) rest (gather_turn k g y z r rest L)

-- the chain does not see the list
chain_list : (s : State) (l : List ℕ) (f : ℕ) (rs : List ℕ) → Chain s f rs → Chain (with_candidates s l) f rs
chain_list s l f [] c = c
chain_list s l f (r ∷ rs) c = (c.0, (c.1.0, (c.1.1.0, chain_list s l (head s r).next rs c.1.1.1)))

-- The links of the records that have a count are those of the records that keep p, where one that keeps p and has no count
-- has no link to t.
live_where :
    (p : Header → Bool) (t : ℕ) (hs : List Header) (ws : List Row) → length hs ≡ length ws →
    ((i : ℕ) → i < length ws → p (get_or hs i (free_header 0)) ≡ false → (get_or hs i (free_header 0)).count ≡ 0) →
    ((i : ℕ) → i < length ws → p (get_or hs i (free_header 0)) ≡ true → (get_or hs i (free_header 0)).count ≡ 0 →
    naming t (get_or ws i no_row).links ≡ 0) →
    naming_live t hs ws ≡ naming_where p t hs ws
live_where p t [] ws e off bare = refl
live_where p t (h ∷ hs) [] e off bare = refl
live_where p t (h ∷ hs) (w ∷ ws) e off bare =
    omega (
      arith,
      at_first (p h) (eqb h.count 0) refl refl,
      live_where p t hs ws (omega arith) (λ i l. off (suc i) (omega arith)) (λ i l. bare (suc i) (omega arith)),
    )
  where
    at_first :
        (a b : Bool) → p h ≡ a → eqb h.count 0 ≡ b →
        cond (eqb h.count 0) 0 (naming t w.links) ≡ cond (p h) (naming t w.links) 0
    at_first true true q u =
        cond-true (eqb h.count 0) 0 (naming t w.links) u ∙ sym (bare 0 (omega arith) q (eqb-true h.count 0 u))
        ∙ sym (cond-true (p h) (naming t w.links) 0 q)
    at_first true false q u = cond-false (eqb h.count 0) 0 (naming t w.links) u ∙ sym (cond-true (p h) (naming t w.links) 0 q)
    at_first false true q u = cond-true (eqb h.count 0) 0 (naming t w.links) u ∙ sym (cond-false (p h) (naming t w.links) 0 q)
    at_first false false q u = absurd (both_ways (eqb h.count 0) u (eq-eqb h.count 0 (off 0 (omega arith) q)))

pale_white : (c : Colour) → is_white c ≡ true → c ≡ White
pale_white White e = refl
pale_white Black e = absurd (true≢false (sym e))
pale_white Gray e = absurd (true≢false (sym e))
pale_white Purple e = absurd (true≢false (sym e))

-- What scan left.
module _ (k : Shape) (g y : Progress) (law : Lawful k g.store) (scan : AfterScan k g y) where
  scan_size : length y.store.rows ≡ length g.store.rows
  scan_size = ap length scan.kept.rows_same

  scan_on : (r : ℕ) → Within g.store r → Within y.store r
  scan_on r w = (w.0, omega (arith, w, scan_size))

  scan_back : (r : ℕ) → Within y.store r → Within g.store r
  scan_back r w = (w.0, omega (arith, w, scan_size))

  scan_row : (r : ℕ) → row y.store r ≡ row g.store r
  scan_row r = ap (λ ws. get_or ws (r - 1) no_row) scan.kept.rows_same

  scan_links : (r t : ℕ) → Links g.store r t → Links y.store r t
  scan_links r t l = (l.0, (l.1.0, ap (λ w. get_or w.links l.1.0 0) (scan_row r) ∙ l.1.1))

  -- what is reachable is black, and has a count
  scan_black : (r : ℕ) → Within g.store r → Reachable g.store r → (head y.store r).colour ≡ Black
  scan_black r w f = elim (scan.colours r w) [ inl b ↦ b | inr p ↦ absurd (scan.white_unreachable r w p f) ]

  scan_counted : {r : ℕ} → Reachable g.store r → Within g.store r × (0 < (head y.store r).count)
  scan_counted (here {r = r} h) =
      (h.0, omega (arith, h.1, scan.kept.holds_same r h.0, (scan.sized.each r (scan_on r h.0)).holds_counted))
  scan_counted (along {r = q} {t = r} f l) =
      let at_q = scan_counted f in
      let w = (law.links_used q r at_q.0 l).0 in
      let m = scan_links q r l in
      let v = scan_on q at_q.0 in
      let n = naming_has (row y.store q).links m.1.0 r m.0 m.1.1 in
      let among =
      where_le (λ h. is_black h.colour) r y.store.heads y.store.rows (q - 1)
      (omega (arith, v, scan.sized.heads_fit)) (omega (arith, v)) (ap is_black (scan_black q at_q.0 f)) in
      (w, omega (arith, n, among, scan.counts r w))

  -- a black record with no count has no links
  scan_bare :
      (r : ℕ) → Within y.store r → (head y.store r).colour ≡ Black → (head y.store r).count ≡ 0 →
      row y.store r ≡ blank k
  scan_bare r w b c = by_use (head y.store r).used refl
    where
      by_use : (u : Bool) → (head y.store r).used ≡ u → row y.store r ≡ blank k
      by_use true e = let m = scan_counted (scan.black_reachable r (w, e) b) in let no : ⊥ = omega (arith, m.1, c) in absurd no
      by_use false e = ((scan.sized.each r w).free_blank e).0

  scan_live : (t : ℕ) → 1 ≤ t → live_named y.store t ≡ named_where (λ h. is_black h.colour) y.store t
  scan_live t a =
      live_where (λ h. is_black h.colour) t y.store.heads y.store.rows scan.sized.heads_fit
      (λ i l e.
      let w : Within y.store (i + 1) = (omega arith, omega arith) in
      let j : (i + 1) - 1 ≡ i = omega arith in
      subst (λ x. (get_or y.store.heads x (free_header 0)).count ≡ 0) j
      (elim (scan.colours (i + 1) (scan_back (i + 1) w)) [
        | inl b ↦ absurd (both_ways (is_black (get_or y.store.heads i (free_header 0)).colour) e
            (subst (λ x. is_black (get_or y.store.heads x (free_header 0)).colour ≡ true) j (ap is_black b)))
        | inr p ↦ scan.white_uncounted (i + 1) (scan_back (i + 1) w) p
      ]))
      (λ i l e z.
      let w : Within y.store (i + 1) = (omega arith, omega arith) in
      let j : (i + 1) - 1 ≡ i = omega arith in
      let c : (head y.store (i + 1)).count ≡ 0 = subst (λ x. (get_or y.store.heads x (free_header 0)).count ≡ 0) (sym j) z in
      let b : (head y.store (i + 1)).colour ≡ Black =
      elim (scan.colours (i + 1) (scan_back (i + 1) w)) [
        | inl b ↦ b
        | inr p ↦ absurd (both_ways (is_black (get_or y.store.heads i (free_header 0)).colour)
            (subst (λ x. is_black (get_or y.store.heads x (free_header 0)).colour ≡ false) j (ap is_black p)) e)
      ] in
      ap (λ x. naming t (get_or y.store.rows x no_row).links) (sym j) ∙ ap (λ x. naming t x.links) (scan_bare (i + 1) w b c)
      ∙ naming_blank t k.links a)

  -- The list is taken away, and all of it is still to be served.
  pub gather_start : in_use g.store + g.given ≤ 4095 → GatherList k g y (list_taken y) y.store.candidates
  gather_start few = record {
    gathering = record {
      sized = record {
        few = scan.sized.few;
        heads_fit = scan.sized.heads_fit;
        each = scan.sized.each;
        links_within = scan.sized.links_within;
      };
      uncounted = λ r w e. scan.white_uncounted r (scan_back r w) (pale_white (head y.store r).colour e);
      counts = λ r w. omega (arith, scan.counts r (scan_back r w), scan_live r w.0);
      chain =
          let c = scan.filed.chain in
          (c.0, chain_list y.store [] y.store.front c.0 c.1, c.2);
      orderly = tt;
    };
    few_given = omega (arith, few, scan.accounted);
    rest_within = scan.filed.listed_within;
    gathers = record {
      size = refl;
      list_gone = refl;
      fate = λ r w. inl (refl, refl);
      to_leave = λ r l. absurd l;
      waits = scan.filed.listed;
      closed = λ r t w v a b l. absurd (both_ways (is_white (head y.store r).colour) b a);
      listed_met = λ r w l. inr (inr (once_some (head y.store r).waiting (omega (arith, l, scan.filed.listed r w))));
      accounted = scan.accounted;
    };
  }

  -- With the list served, exactly what was white is given up.
  module _ (z : Progress) (L : GatherList k g y z []) where
    end_size : length z.store.rows ≡ length g.store.rows
    end_size = L.gathers.size ∙ scan_size

    end_on : (r : ℕ) → Within g.store r → Within z.store r
    end_on r w = (w.0, omega (arith, w, end_size))

    end_back : (r : ℕ) → Within z.store r → Within g.store r
    end_back r w = (w.0, omega (arith, w, end_size))

    end_waits : (r : ℕ) → Within g.store r → (head z.store r).waiting ≡ false
    end_waits r w = by (head z.store r).waiting (L.gathers.waits r (scan_on r w))
      where
        by : (b : Bool) → 0 ≡ once b → b ≡ false
        by false e = refl
        by true e = let no : ⊥ = omega (arith, e) in absurd no

    end_met : (r : ℕ) → Within g.store r → Met z.store [] r → is_white (head z.store r).colour ≡ false
    end_met r w (inl a) = a
    end_met r w (inr (inl (inl d))) = let no : ⊥ = omega (arith, d) in absurd no
    end_met r w (inr (inl (inr n))) = absurd n
    end_met r w (inr (inr a)) = absurd (both_ways (head z.store r).waiting (end_waits r w) a)

    -- a record with a link to a white one is white
    end_source :
        (q r : ℕ) → Within g.store q → Links g.store q r → Within g.store r → (head y.store r).colour ≡ White →
        is_white (head y.store q).colour ≡ true
    end_source q r w l v pale = elim (scan.colours q w) [ inl b ↦ absurd (reached b) | inr p ↦ ap is_white p ]
      where
        reached : (head y.store q).colour ≡ Black → ⊥
        reached b =
            let counted = source_counted k g.store law q r w l in
            let used = counted_used k (head g.store q) (row g.store q) (law.each q w).settled counted in
            let same = scan.kept.use_same q w (λ sp. let no : ⊥ = omega (arith, counted, sp.1) in no) in
            scan.white_unreachable r v pale (along (scan.black_reachable q (scan_on q w, same ∙ used) b) l)

    -- what scan left black is as it was, but for waiting
    end_kept :
        (r : ℕ) → Within g.store r → (head y.store r).colour ≡ Black →
        (unlisted (head z.store r) ≡ unlisted (head y.store r)) × (row z.store r ≡ row y.store r)
    end_kept r w b = elim (L.gathers.fate r (scan_on r w)) [
      | inl a ↦ a
      | inr c ↦ absurd (both_ways (is_white (head y.store r).colour) (ap is_white b) c.0)
    ]

    -- what hangs on the list is white no more
    end_path :
        {r : ℕ} → From (Listed y.store) (Links g.store) r →
        Within g.store r × (is_white (head z.store r).colour ≡ false)
    end_path (here {r = r} l) =
        let w = scan.filed.listed_within r l in
        (scan_back r w, end_met r (scan_back r w) (L.gathers.listed_met r w l))
    end_path (along {r = q} {t = r} f l) =
        let at_q = end_path f in
        let w = (law.links_used q r at_q.0 l).0 in (
          w,
          elim (scan.colours r w) [
            | inl b ↦ ap (λ h. is_white h.colour) (end_kept r w b).0 ∙ ap is_white b
            | inr p ↦ end_met r w
                (L.gathers.closed q r (scan_on q at_q.0) (scan_on r w) (end_source q r at_q.0 l w p) at_q.1 (scan_links q r l))
          ],
        )

    end_given : (r : ℕ) → Within g.store r → (head y.store r).colour ≡ White → (head z.store r).used ≡ false
    end_given r w p = elim (L.gathers.fate r (scan_on r w)) [
      | inl a ↦ absurd (both_ways (is_white (head z.store r).colour) (end_path (scan.white_listed r w p)).1
          (ap (λ h. is_white h.colour) a.0 ∙ ap is_white p))
      | inr c ↦ elim c.1.1 [ inl l ↦ absurd l | inr f ↦ f ]
    ]

    -- in use is exactly what is reachable
    end_black : (r : ℕ) → Used z.store r → (head y.store r).colour ≡ Black
    end_black r u = elim (scan.colours r (end_back r u.0)) [
      | inl b ↦ b
      | inr p ↦ absurd (both_ways (head z.store r).used (end_given r (end_back r u.0) p) u.1)
    ]

    end_reachable : (r : ℕ) → Used z.store r → Reachable g.store r
    end_reachable r u =
        let w = end_back r u.0 in
        let b = end_black r u in
        scan.black_reachable r (scan_on r w, ap (λ h. h.used) (sym (end_kept r w b).0) ∙ u.1) b

    end_counted : (r : ℕ) → Reachable g.store r → 0 < (head z.store r).count
    end_counted r f =
        let c = scan_counted f in
        omega (arith, c.1, ap (λ h. h.count) (end_kept r c.0 (scan_black r c.0 f)).0)

    end_used : (r : ℕ) → Reachable g.store r → Used z.store r
    end_used r f =
        let w = end_on r (scan_counted f).0 in
        (w, counted_used k (head z.store r) (row z.store r) (L.gathering.sized.each r w) (end_counted r f))

    -- holds, links and bytes of what is reachable
    end_holds : (r : ℕ) → Reachable g.store r → (head z.store r).holds ≡ (head g.store r).holds
    end_holds r f =
        let w = (scan_counted f).0 in
        ap (λ h. h.holds) (end_kept r w (scan_black r w f)).0 ∙ scan.kept.holds_same r w

    end_row : (r : ℕ) → Reachable g.store r → row z.store r ≡ row g.store r
    end_row r f = let w = (scan_counted f).0 in (end_kept r w (scan_black r w f)).1 ∙ scan_row r

    end_colour : (r : ℕ) → Within g.store r → (head z.store r).colour ≡ Black
    end_colour r w = elim (scan.colours r w) [
      | inl b ↦ ap (λ h. h.colour) (end_kept r w b).0 ∙ b
      | inr p ↦ ap (λ h. h.colour) ((L.gathering.sized.each r (end_on r w)).free_blank (end_given r w p)).1
    ]

    -- whoever has no count is blank
    end_blank : (r : ℕ) → Within z.store r → (head z.store r).count ≡ 0 → row z.store r ≡ blank k
    end_blank r w c = by_use (head z.store r).used refl
      where
        by_use : (b : Bool) → (head z.store r).used ≡ b → row z.store r ≡ blank k
        by_use true e = let m = end_counted r (end_reachable r (w, e)) in let no : ⊥ = omega (arith, m, c) in absurd no
        by_use false e = ((L.gathering.sized.each r w).free_blank e).0

    end_target : (r t : ℕ) → Within z.store r → Links z.store r t → Used z.store t
    end_target r t w l = by_use (head z.store r).used refl
      where
        by_use : (b : Bool) → (head z.store r).used ≡ b → Used z.store t
        by_use true e =
            let f = end_reachable r (w, e) in
            end_used t (along f (l.0, (l.1.0, ap (λ x. get_or x.links l.1.0 0) (sym (end_row r f)) ∙ l.1.1)))
        by_use false e =
            let m = naming_has (row z.store r).links l.1.0 t l.0 l.1.1 in
            let b = ap (λ x. naming t x.links) ((L.gathering.sized.each r w).free_blank e).0 in
            let no : ⊥ = omega (arith, m, b, naming_blank t k.links l.0) in
            absurd no

    -- what was reachable still is
    end_cover : (r : ℕ) → Reachable g.store r → Reachable z.store r
    end_cover r f =
        (from_inside {Q = Held z.store} {On = Links z.store} (Reachable g.store) (λ q h. here h) (λ q t a l. along a l)
        (λ q h. (end_on q h.0, omega (arith, h.1, end_holds q (here h))))
        (λ q t a l. inr (l.0, (l.1.0, ap (λ x. get_or x.links l.1.0 0) (end_row q a) ∙ l.1.1))) f).1

    end_lawful : Lawful k z.store
    end_lawful = record {
      few = L.gathering.sized.few;
      heads_fit = L.gathering.sized.heads_fit;
      each = λ r w. record {
        settled = L.gathering.sized.each r w;
        coloured = inl (end_colour r (end_back r w));
        spent_waits = λ u c. let m = end_counted r (end_reachable r (w, u)) in let no : ⊥ = omega (arith, m, c) in absurd no;
      };
      links_used = end_target;
      listed = λ r w. ap (naming r) L.gathers.list_gone ∙ ap once (sym (end_waits r (end_back r w)));
      listed_within = λ r n. let none = ap (naming r) L.gathers.list_gone in let no : ⊥ = omega (arith, n, none) in absurd no;
      chain = L.gathering.chain;
      counts = λ r w.
          omega (arith, L.gathering.counts r w, live_named_all k z.store L.gathering.sized.heads_fit end_blank r w.0);
      cover = λ r u. inl (end_cover r (end_reachable r u));
    }

    pub gather_end : AfterCollection k g z
    gather_end = record {
      lawful = end_lawful;
      size = end_size;
      reachable_used = end_used;
      used_reachable = end_reachable;
      holds_same = end_holds;
      rows_same = end_row;
      all_black = end_colour;
      list_empty = L.gathers.list_gone;
      accounted = L.gathers.accounted;
    }

-- A whole gather, from what scan left.
pub gather_law :
    (k : Shape) (g y : Progress) → Lawful k g.store → in_use g.store + g.given ≤ 4095 → AfterScan k g y →
    AfterCollection k g (gathered k y)
gather_law k g y law few scan =
    gather_end k g y law scan (gathered k y)
    (gather_turns k g y (list_taken y) y.store.candidates (gather_start k g y law scan few))
