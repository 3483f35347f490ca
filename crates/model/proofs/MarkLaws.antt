-- What mark does: gray spreads along the links from the candidates, and nothing else changes but counts and the list.
use Rattle.std.proofs.Common.{◌≡◌, ℕ, zero, suc, ◌+◌, ◌-◌, ◌<◌, ◌≤◌, Bool, true, false, cond, not, ◌&&◌, eqb, ◌≢◌, ◌⊎◌, List, [], ◌∷◌, ◌++◌, map, length, get_or, set, fold, sum_by, count_by, sym, refl, ap, ◌∙◌, subst, inl, inr, ⊎_elim, arith}
use Rattle.std.proofs.lemmas.List.{length-append, set-get_or, get_or_past}
use Rattle.std.proofs.lemmas.List.Sums.{sum_by-cons, sum_by-append, get_or-le-sum_by}
use Rattle.std.proofs.lemmas.Bool.{cases_eq, cases_lt, both_ways, true≢false, and_from, and_parts, cond-true, cond-false, eqb-true, eq-eqb, ne_eqb}
use Rattle.kinds.specs.Rows.{Row, Shape, blank}
use Rattle.model.specs.State.{State, Within, head, row, no_row, in_use, with_head, with_front, with_candidates}
use Rattle.model.specs.Headers.{Header, free_header, painted, less_one, is_purple, unlisted, is_black, is_gray}
use Rattle.model.specs.Lawful.{From, Lawful, Links, Spent, Candidate, Chain, Settled, Coloured, naming, named, once}
use Rattle.model.specs.Lawful.From.{here, along}
use Rattle.model.specs.Walk.{Progress, Task, full}
use Rattle.model.specs.Walk.Task.{follow, visit, leave}
use Rattle.model.specs.Release.{at, turn, given_up}
use Rattle.model.specs.Releasing.{Next}
use Rattle.model.specs.Collection.{marking, list_taken, kept_listed, struck, mark_one, marked}
use Rattle.model.specs.Colouring.{Marking, ungray, named_where, due, Awaited, Queue, open_room}
use Rattle.model.specs.Collected.{Hanging, Listed, Accounted, AfterMark}
use Rattle.model.specs.declared.heads.Colour.{Colour}
use Rattle.model.specs.declared.heads.Colour.TheVariants.{Black, Gray, White, Purple}
use Rattle.model.proofs.Places.{each_head, head_there, head_elsewhere}
use Rattle.model.proofs.Paths.{from_more}
use Rattle.model.proofs.Counting.{naming_cons, naming_same, naming_other, naming_has, naming_le_named}
use Rattle.model.proofs.Colourings.{naming_some, where_same, where_all, due_hit, due_miss, due_links, room_set}
use Rattle.model.proofs.LawfulCalls.{chain_elsewhere}
use Rattle.model.proofs.Walks.{Also, keeps_and, walk_keeps}
use Rattle.model.proofs.Marks.{marking_keeps, marking_within, sized_head}

-- what mark passes is gray
passed_gray : (c : Colour) → not (is_gray c) ≡ false → c ≡ Gray
passed_gray Black e = absurd (true≢false e)
passed_gray Gray e = refl
passed_gray White e = absurd (true≢false e)
passed_gray Purple e = absurd (true≢false e)

-- each record, where one head is replaced
numbered_head :
    (s : State) (x : ℕ) → Within s x → (h : Header) (P : ℕ → Header → Type 0) → length s.heads ≡ length s.rows → P x h →
    ((r : ℕ) → 1 ≤ r → r ≢ x → P r (head s r)) → (r : ℕ) → 1 ≤ r → P r (head (with_head s x h) r)
numbered_head s x w h P fit there others r low = ⊎_elim
    (λ e. subst (λ y. P y (head (with_head s x h) y)) (sym e) (subst (P x) (sym (head_there s x w h fit)) there))
    (λ n. subst (P r) (sym (head_elsewhere s x w h r low n)) (others r low n))
    (cases_eq r x)

-- x is h but for its count, and gray perhaps
pub record Alike (h x : Header) : Type 0 where
  pub use_same : x.used ≡ h.used
  pub holds_same : x.holds ≡ h.holds
  pub waits_same : x.waiting ≡ h.waiting
  pub next_same : x.next ≡ h.next
  pub tint : (x.colour ≡ Gray) ⊎ (x.colour ≡ h.colour)

-- During a walk of mark that began from b, where the links are those of s: gray spreads from the records of P. Each link
-- of a gray record leads to a gray one or is still to be followed; what is gray or to be followed hangs on P.
pub record Spreading (P : ℕ → Type 0) (s : State) (b g : Progress) (Q : List Task) : Type 0 where
  pub rows_same : g.store.rows ≡ s.rows
  pub list_same : g.store.candidates ≡ b.store.candidates
  pub front_same : g.store.front ≡ b.store.front
  pub given_same : g.given ≡ b.given
  pub alike : (r : ℕ) → 1 ≤ r → Alike (at b r) (at g r)
  pub begun : (r : ℕ) → 1 ≤ r → P r → ((at g r).colour ≡ Gray) ⊎ Awaited r Q
  pub closed : (r t : ℕ) → 1 ≤ r → (at g r).colour ≡ Gray → Links s r t → ((at g t).colour ≡ Gray) ⊎ Awaited t Q
  pub sound : (r : ℕ) → 1 ≤ r → (at g r).colour ≡ Gray → From P (Links s) r
  pub awaits : (r : ℕ) → 1 ≤ r → Awaited r Q → From P (Links s) r

-- no visit stands among tasks that are not begun yet
queue_next : (E : Header → Type 0) (s : State) (r : ℕ) (Q : List Task) → Queue E s Q → Next r Q → ⊥
queue_next E s r [] q n = n
queue_next E s r (follow u ∷ Q) q n = n
queue_next E s r (visit u ∷ Q) q n = q
queue_next E s r (leave u ∷ Q) q n = n

links_next : (r t : ℕ) (us : List ℕ) (Q : List Task) → Next r (map follow us ++ (leave t ∷ Q)) → ⊥
links_next r t [] Q n = n
links_next r t (u ∷ us) Q n = n

module _ (k : Shape) (P : ℕ → Type 0) (s : State) (b : Progress) where
  -- nothing changes but the tasks
  spread_still :
      (g : Progress) (Q T : List Task) → ((u : ℕ) → 1 ≤ u → Awaited u Q → ((at g u).colour ≡ Gray) ⊎ Awaited u T) →
      ((u : ℕ) → 1 ≤ u → Awaited u T → Awaited u Q) → Spreading P s b g Q → Spreading P s b g T
  spread_still g Q T on back J = record {
    rows_same = J.rows_same;
    list_same = J.list_same;
    front_same = J.front_same;
    given_same = J.given_same;
    alike = J.alike;
    begun = λ r low p. elim (J.begun r low p) [ inl e ↦ inl e | inr a ↦ on r low a ];
    closed = λ r t low e l. elim (J.closed r t low e l) [ inl f ↦ inl f | inr a ↦ on t l.0 a ];
    sound = J.sound;
    awaits = λ r low a. J.awaits r low (back r low a);
  }

  -- one head changes, and the tasks
  spread_turn :
      (g : Progress) (Q T : List Task) (t : ℕ) (h : Header) → Within g.store t → length g.store.heads ≡ length g.store.rows →
      Alike (at g t) h → ((u : ℕ) → 1 ≤ u → Awaited u Q → ((u ≡ t) × (h.colour ≡ Gray)) ⊎ Awaited u T) →
      (h.colour ≡ Gray → ((at g t).colour ≡ Gray) ⊎ (From P (Links s) t × ((u : ℕ) → Links s t u → Awaited u T))) →
      ((u : ℕ) → 1 ≤ u → Awaited u T → From P (Links s) u) → Spreading P s b g Q → Spreading P s b (turn g t h) T
  spread_turn g Q T t h w fit same on fresh awaited J = record {
    rows_same = J.rows_same;
    list_same = J.list_same;
    front_same = J.front_same;
    given_same = J.given_same;
    alike = changed (λ r x. Alike (at b r) x) (next_alike (J.alike t w.0)) (λ r low _. J.alike r low);
    begun = λ r low p. onward r low (J.begun r low p);
    closed = λ r u low e l.
        changed (λ y x. (x.colour ≡ Gray) → Links s y u → ((at (turn g t h) u).colour ≡ Gray) ⊎ Awaited u T)
        (λ f m. elim (fresh f) [ inl was ↦ onward u m.0 (J.closed t u w.0 was m) | inr new ↦ inr (new.1 u m) ])
        (λ y a _ f m. onward u m.0 (J.closed y u a f m)) r low e l;
    sound = λ r low e.
        changed (λ y x. (x.colour ≡ Gray) → From P (Links s) y)
        (λ f. elim (fresh f) [ inl was ↦ J.sound t w.0 was | inr new ↦ new.0 ]) (λ y a _ f. J.sound y a f) r low e;
    awaits = awaited;
  }
    where
      changed :
          (R : ℕ → Header → Type 0) → R t h → ((r : ℕ) → 1 ≤ r → r ≢ t → R r (head g.store r)) →
          (r : ℕ) → 1 ≤ r → R r (at (turn g t h) r)
      changed R = numbered_head g.store t w h R fit

      next_alike : Alike (at b t) (at g t) → Alike (at b t) h
      next_alike a = record {
        use_same = same.use_same ∙ a.use_same;
        holds_same = same.holds_same ∙ a.holds_same;
        waits_same = same.waits_same ∙ a.waits_same;
        next_same = same.next_same ∙ a.next_same;
        tint = elim same.tint [
          | inl e ↦ inl e
          | inr e ↦ elim a.tint [ inl f ↦ inl (e ∙ f) | inr f ↦ inr (e ∙ f) ]
        ];
      }

      stays_gray : (u : ℕ) → 1 ≤ u → (at g u).colour ≡ Gray → (at (turn g t h) u).colour ≡ Gray
      stays_gray =
          changed (λ y x. (at g y).colour ≡ Gray → x.colour ≡ Gray) (λ e. elim same.tint [ inl f ↦ f | inr f ↦ f ∙ e ])
          (λ _ _ _ e. e)

      onward : (u : ℕ) → 1 ≤ u → ((at g u).colour ≡ Gray) ⊎ Awaited u Q → ((at (turn g t h) u).colour ≡ Gray) ⊎ Awaited u T
      onward u low (inl e) = inl (stays_gray u low e)
      onward u low (inr a) = elim (on u low a) [
        | inl q ↦
            inl (subst (λ y. (at (turn g t h) y).colour ≡ Gray) (sym q.0) (ap (λ x. x.colour) (head_there g.store t w h fit) ∙ q.1))
        | inr c ↦ inr c
      ]

  spread_follow :
      (g : Progress) (t : ℕ) (Q : List Task) → t ≢ 0 → Marking k g (follow t ∷ Q) → Spreading P s b g (follow t ∷ Q) →
      Spreading P s b (turn g t (less_one (at g t))) (visit t ∷ Q)
  spread_follow g t Q ne I J =
      spread_turn g (follow t ∷ Q) (visit t ∷ Q) t (less_one (at g t)) (marking_within k g t Q ne I) I.sized.heads_fit
      (record { use_same = refl; holds_same = refl; waits_same = refl; next_same = refl; tint = inr refl })
      (λ u low a. elim (cases_eq u t) [ inl e ↦ inr (inr (sym e)) | inr n ↦ inr (on u n a) ]) (λ e. inl e)
      (λ u low a. J.awaits u low (back u a)) J
    where
      on : (u : ℕ) → u ≢ t → Awaited u (follow t ∷ Q) → Awaited u (visit t ∷ Q)
      on u n (inl d) = inl (omega (arith, d, due_miss t u Q (λ e. n (sym e))))
      on u n (inr x) = absurd x

      back : (u : ℕ) → Awaited u (visit t ∷ Q) → Awaited u (follow t ∷ Q)
      back u (inl d) = inl (omega (arith, d))
      back u (inr e) = inl (subst (λ y. 0 < due y (follow t ∷ Q)) e (omega (arith, due_hit t Q)))

  spread_enter :
      (g : Progress) (t : ℕ) (Q : List Task) → Marking k g (visit t ∷ Q) → Spreading P s b g (visit t ∷ Q) →
      Spreading P s b (turn g t (painted Gray (at g t))) (map follow (row g.store t).links ++ (leave t ∷ Q))
  spread_enter g t Q I J =
      spread_turn g (visit t ∷ Q) (map follow (row g.store t).links ++ (leave t ∷ Q)) t (painted Gray (at g t)) I.orderly.0.0
      I.sized.heads_fit (record { use_same = refl; holds_same = refl; waits_same = refl; next_same = refl; tint = inl refl })
      on (λ _. inr (root, own)) back J
    where
      links : List ℕ
      links = (row g.store t).links

      root : From P (Links s) t
      root = J.awaits t I.orderly.0.0.0 (inr refl)

      on :
          (u : ℕ) → 1 ≤ u → Awaited u (visit t ∷ Q) →
          ((u ≡ t) × ((painted Gray (at g t)).colour ≡ Gray)) ⊎ Awaited u (map follow (row g.store t).links ++ (leave t ∷ Q))
      on u low (inl d) = inr (inl (omega (arith, d, due_links u links (leave t ∷ Q))))
      on u low (inr e) = inl (sym e, refl)

      own : (u : ℕ) → Links s t u → Awaited u (map follow (row g.store t).links ++ (leave t ∷ Q))
      own u l =
          let e : get_or (row g.store t).links l.1.0 0 ≡ u =
          ap (λ ws. get_or (get_or ws (t - 1) no_row).links l.1.0 0) J.rows_same ∙ l.1.1 in
          inl (omega (arith, naming_has links l.1.0 u l.0 e, due_links u links (leave t ∷ Q)))

      back : (u : ℕ) → 1 ≤ u → Awaited u (map follow (row g.store t).links ++ (leave t ∷ Q)) → From P (Links s) u
      back u low (inr n) = absurd (links_next u t links Q n)
      back u low (inl d) = by (naming u links) refl
        where
          by : (n : ℕ) → naming u links ≡ n → From P (Links s) u
          by zero e = J.awaits u low (inl (omega (arith, d, e, due_links u links (leave t ∷ Q))))
          by (suc n) e =
              let q = naming_some u links (omega (arith, e)) in
              along root (low, (q.0, ap (λ ws. get_or (get_or ws (t - 1) no_row).links q.0 0) (sym J.rows_same) ∙ q.1))

  spreads : Also marking (Marking k) (Spreading P s b)
  spreads = record {
    empty = λ g Q I J.
        spread_still g (follow 0 ∷ Q) Q (λ u low a. inr (empty_on u low Q a))
        (λ u low a. inl (omega (arith, due_only u g Q I.orderly.1 a, due_miss 0 u Q (λ e. omega (arith, e, low))))) J;
    follows = λ g t Q ne I J. spread_follow g t Q ne I J;
    begins = λ g t Q e I J. spread_enter g t Q I J;
    passes = λ g t Q e I J.
        spread_still g (visit t ∷ Q) Q (λ u low a. pass_on g t Q e u a)
        (λ u low a. inl (due_only u g Q I.orderly.1 a)) J;
    leaves = λ g t Q I J.
        spread_still g (leave t ∷ Q) Q (λ u low a. inr (leave_on u t Q a)) (λ u low a. inl (due_only u g Q I.orderly.1 a)) J;
  }
    where
      empty_on : (u : ℕ) → 1 ≤ u → (Q : List Task) → Awaited u (follow 0 ∷ Q) → Awaited u Q
      empty_on u low Q (inl d) = inl (omega (arith, d, due_miss 0 u Q (λ e. omega (arith, e, low))))
      empty_on u low Q (inr n) = absurd n

      due_only :
          (u : ℕ) (g : Progress) (Q : List Task) → Queue (λ h. is_gray h.colour ≡ true) g.store Q → Awaited u Q → 0 < due u Q
      due_only u g Q q (inl d) = d
      due_only u g Q q (inr n) = absurd (queue_next (λ h. is_gray h.colour ≡ true) g.store u Q q n)

      leave_on : (u t : ℕ) (Q : List Task) → Awaited u (leave t ∷ Q) → Awaited u Q
      leave_on u t Q (inl d) = inl d
      leave_on u t Q (inr n) = absurd n

      pass_on :
          (g : Progress) (t : ℕ) (Q : List Task) → not (is_gray (at g t).colour) ≡ false → (u : ℕ) → Awaited u (visit t ∷ Q) →
          ((at g u).colour ≡ Gray) ⊎ Awaited u Q
      pass_on g t Q e u (inl d) = inr (inl d)
      pass_on g t Q e u (inr n) = inl (subst (λ y. (at g y).colour ≡ Gray) n (passed_gray (at g t).colour e))

  -- what holds after the whole walk
  pub spread_walk :
      (g : Progress) (t : ℕ) → Marking k g (visit t ∷ []) → Spreading P s b g (visit t ∷ []) →
      Marking k (full marking g t) [] × Spreading P s b (full marking g t) []
  spread_walk g t I J =
      let K = keeps_and k.links marking (Marking k) (Spreading P s b) (open_room ungray) (marking_keeps k) spreads in
      (walk_keeps k.links marking (λ x T. Marking k x T × Spreading P s b x T) (open_room ungray) K (suc (length g.store.rows)) g t []
      (omega (arith, K.most g (visit t ∷ []) (I, J))) (I, J)).fits

-- Where mark began from g and has come to y with the rest of the list still to be served.
pub record MarkList (k : Shape) (g y : Progress) (rest : List ℕ) : Type 0 where
  pub lawful : Lawful k g.store
  -- no walk is under way: a count is the holds and the links of the records that are not gray
  pub marks : Marking k y []
  pub rows_same : y.store.rows ≡ g.store.rows
  -- a record is as it was but for count, colour and waiting, or was spent and is given up
  pub use_kept :
      (r : ℕ) → Within g.store r → ((at y r).used ≡ (at g r).used) ⊎ (((at y r).used ≡ false) × Spent g.store r)
  pub holds_same : (r : ℕ) → Within g.store r → (at y r).holds ≡ (at g r).holds
  pub spent_ahead : (r : ℕ) → Spent g.store r → ((at y r).used ≡ false) ⊎ (0 < naming r rest)
  -- gray, or of the colour that it had; what is purple is still to be served
  pub tint :
      (r : ℕ) → Within g.store r →
      ((at y r).colour ≡ Gray) ⊎ (((at y r).colour ≡ (at g r).colour) × ((at g r).colour ≡ Purple → 0 < naming r rest))
  -- what waits is kept or still to be served, once, and comes from the list
  pub listed : (r : ℕ) → Within g.store r → naming r y.store.candidates + naming r rest ≡ once (at y r).waiting
  pub from_list : (r : ℕ) → naming r y.store.candidates + naming r rest ≤ naming r g.store.candidates
  pub room : length y.store.candidates + length rest ≤ length g.store.candidates
  -- what is kept was a candidate and is gray; gray is closed, and hangs on what is kept
  pub kept : (r : ℕ) → Listed y.store r → ((at g r).colour ≡ Purple) × ((at y r).colour ≡ Gray)
  pub closed : (r t : ℕ) → Within g.store r → (at y r).colour ≡ Gray → Links g.store r t → (at y t).colour ≡ Gray
  pub hangs : (r : ℕ) → Within g.store r → (at y r).colour ≡ Gray → From (Listed y.store) (Links g.store) r
  pub chain :
      (rs : List ℕ) × Chain y.store y.store.front rs
      × ((r : ℕ) → Within g.store r → naming r rs + once (at y r).used ≡ 1)
  pub accounted : Accounted g y

-- colours apart
purple_gray : (c : Colour) → c ≡ Purple → c ≡ Gray → ⊥
purple_gray c e f = true≢false (sym (ap is_purple e) ∙ ap is_purple f)

purple_black : (c : Colour) → c ≡ Purple → c ≡ Black → ⊥
purple_black c e f = true≢false (sym (ap is_purple e) ∙ ap is_purple f)

black_gray : (c : Colour) → c ≡ Black → c ≡ Gray → ⊥
black_gray c e f = true≢false (sym (ap is_black e) ∙ ap is_black f)

black_of : (c : Colour) → is_black c ≡ true → c ≡ Black
black_of Black e = refl
black_of Gray e = absurd (true≢false (sym e))
black_of White e = absurd (true≢false (sym e))
black_of Purple e = absurd (true≢false (sym e))

purple_of : (c : Colour) → is_purple c ≡ true → c ≡ Purple
purple_of Black e = absurd (true≢false (sym e))
purple_of Gray e = absurd (true≢false (sym e))
purple_of White e = absurd (true≢false (sym e))
purple_of Purple e = refl

-- between calls no record is gray
coloured_ungray : (h : Header) → Coloured h → h.colour ≡ Gray → ⊥
coloured_ungray h (inl e) f = black_gray h.colour e f
coloured_ungray h (inr e) f = purple_gray h.colour e.0 f

-- a record that waits is in use
waits_used : (k : Shape) (h : Header) (w : Row) → Settled k h w → h.waiting ≡ true → h.used ≡ true
waits_used k h w own e = by h.used refl
  where
    by : (b : Bool) → h.used ≡ b → h.used ≡ true
    by true u = u
    by false u = absurd (both_ways h.waiting (ap (λ x. x.waiting) (own.free_blank u).1) e)

once_waits : (b : Bool) → 1 ≤ once b → b ≡ true
once_waits true l = refl
once_waits false l = let no : ⊥ = omega arith in absurd no

once_most : (b : Bool) → once b ≤ 1
once_most true = omega arith
once_most false = omega arith

naming_pushed : (r t : ℕ) (l : List ℕ) → naming r (l ++ (t ∷ [])) ≡ naming r l + once (eqb t r)
naming_pushed r t l = sum_by-append (λ x. cond (eqb x r) 1 0) l (t ∷ []) ∙ ap (λ n. naming r l + n) (naming_cons r t [] ∙ omega arith)

-- The store at the start, with the whole list to be served.
module _ (k : Shape) (g : Progress) (law : Lawful k g.store) where
  start_ungray : (r : ℕ) → Within g.store r → (at g r).colour ≡ Gray → ⊥
  start_ungray r w e = coloured_ungray (at g r) (law.each r w).coloured e

  start_named : (t : ℕ) → named_where ungray g.store t ≡ named g.store t
  start_named t =
      where_all ungray t g.store.heads g.store.rows law.heads_fit
      (λ i l e.
      let j : (i + 1) - 1 ≡ i = omega arith in
      let f : ungray (at g (i + 1)) ≡ false = ap (λ x. ungray (get_or g.store.heads x (free_header 0))) j ∙ e in
      absurd (start_ungray (i + 1) (omega arith, omega arith) (passed_gray (at g (i + 1)).colour f)))

  pub mark_start : MarkList k g (list_taken g) g.store.candidates
  mark_start = record {
    lawful = law;
    marks = record {
      sized = record {
        few = law.few;
        heads_fit = law.heads_fit;
        each = λ r w. (law.each r w).settled;
        links_within = λ r t w l. (law.links_used r t w l).0;
      };
      counts = λ r w. omega (arith, law.counts r w, start_named r);
      orderly = tt;
    };
    rows_same = refl;
    use_kept = λ r w. inl refl;
    holds_same = λ r w. refl;
    spent_ahead = λ r s. inr (omega (arith, law.listed r s.0.0, ap once ((law.each r s.0.0).spent_waits s.0.1 s.1).1.1));
    tint = λ r w. inr (refl, λ e. omega (arith, law.listed r w, ap once (purple_waits (at g r) (law.each r w).coloured e)));
    listed = λ r w. omega (arith, law.listed r w);
    from_list = λ r. omega arith;
    room = omega arith;
    kept = λ r l. absurd (let no : ⊥ = omega (arith, l) in no);
    closed = λ r t w e l. absurd (start_ungray r w e);
    hangs = λ r w e. absurd (start_ungray r w e);
    chain = (law.chain.0, unlist law.chain.0 g.store.front law.chain.1, law.chain.2);
    accounted = refl;
  }
    where
      purple_waits : (h : Header) → Coloured h → h.colour ≡ Purple → h.waiting ≡ true
      purple_waits h (inl e) f = absurd (purple_black h.colour f e)
      purple_waits h (inr e) f = e.1

      -- the chain does not see the list
      unlist : (rs : List ℕ) (f : ℕ) → Chain g.store f rs → Chain (with_candidates g.store []) f rs
      unlist [] f c = c
      unlist (r ∷ rs) f c = (c.0, (c.1.0, (c.1.1.0, unlist rs (at g r).next c.1.1.1)))

-- What can be said between two turns.
module _ (k : Shape) (g y : Progress) (rest : List ℕ) (M : MarkList k g y rest) where
  within_now : (r : ℕ) → Within g.store r → Within y.store r
  within_now r w = (w.0, omega (arith, w.1, ap length M.rows_same))

  within_then : (r : ℕ) → Within y.store r → Within g.store r
  within_then r w = (w.0, omega (arith, w.1, ap length M.rows_same))

  gray_within : (r : ℕ) → 1 ≤ r → (at y r).colour ≡ Gray → Within g.store r
  gray_within r low e = elim (cases_lt (r - 1) (length y.store.heads)) [
    | inl l ↦ (low, omega (arith, l, low, M.marks.sized.heads_fit, ap length M.rows_same))
    | inr p ↦ absurd (black_gray (at y r).colour (ap (λ h. h.colour) (get_or_past y.store.heads (r - 1) (free_header 0) p)) e)
  ]

  -- what hangs on the kept list is a record
  kept_within : (r : ℕ) → Listed y.store r → Within g.store r
  kept_within r l = M.lawful.listed_within r (omega (arith, l, M.from_list r))

  hangs_within : {r : ℕ} → From (Listed y.store) (Links g.store) r → Within g.store r
  hangs_within (here {r = r} a) = kept_within r a
  hangs_within (along {r = r} {t = t} f l) = (M.lawful.links_used r t (hangs_within f) l).0

  -- nothing gray was spent: it was a candidate, or is linked
  gray_unspent : (r : ℕ) → Within g.store r → (at y r).colour ≡ Gray → Spent g.store r → ⊥
  gray_unspent r w e s = by (M.hangs r w e)
    where
      by : From (Listed y.store) (Links g.store) r → ⊥
      by (here a) = purple_black (at g r).colour (M.kept r a).0 ((M.lawful.each r w).spent_waits s.0.1 s.1).1.0
      by (along {r = q} f l) =
          omega (
            arith,
            s.1,
            M.lawful.counts r w,
            naming_le_named g.store q r (hangs_within f),
            naming_has (row g.store q).links l.1.0 r l.0 l.1.1,
          )

  -- whoever is not gray has no link from a gray record
  unlinked :
      (r : ℕ) → 1 ≤ r → ((at y r).colour ≡ Gray → ⊥) → (i : ℕ) → i < length y.store.rows →
      ungray (get_or y.store.heads i (free_header 0)) ≡ false → naming r (get_or y.store.rows i no_row).links ≡ 0
  unlinked r low pale i l e = by (naming r (get_or y.store.rows i no_row).links) refl
    where
      by : (n : ℕ) → naming r (get_or y.store.rows i no_row).links ≡ n → naming r (get_or y.store.rows i no_row).links ≡ 0
      by zero z = z
      by (suc n) z =
          let j : (i + 1) - 1 ≡ i = omega arith in
          let f : ungray (at y (i + 1)) ≡ false = ap (λ x. ungray (get_or y.store.heads x (free_header 0))) j ∙ e in
          let q = naming_some r (get_or y.store.rows i no_row).links (omega (arith, z)) in
          let m : get_or (row g.store (i + 1)).links q.0 0 ≡ r =
          ap (λ ws. get_or (get_or ws ((i + 1) - 1) no_row).links q.0 0) (sym M.rows_same)
          ∙ ap (λ x. get_or (get_or y.store.rows x no_row).links q.0 0) j ∙ q.1 in
          absurd (pale (M.closed (i + 1) r (within_then (i + 1) (omega arith, omega (arith, l)))
          (passed_gray (at y (i + 1)).colour f) (low, (q.0, m))))

  -- whoever is not gray has the count that it had
  pub fresh_count : (r : ℕ) → Within g.store r → ((at y r).colour ≡ Gray → ⊥) → (at y r).count ≡ (at g r).count
  fresh_count r w pale =
      omega (
        arith,
        M.marks.counts r (within_now r w),
        where_all ungray r y.store.heads y.store.rows M.marks.sized.heads_fit (unlinked r w.0 pale),
        ap (λ ws. sum_by (λ x. naming r x.links) ws) M.rows_same,
        M.holds_same r w,
        M.lawful.counts r w,
      )

-- The record that is served next.
module _ (k : Shape) (g y : Progress) (r : ℕ) (rest : List ℕ) (M : MarkList k g y (r ∷ rest)) where
  served_within : Within g.store r
  served_within = M.lawful.listed_within r (omega (arith, M.from_list r, naming_same r rest))

  pub mark_within : Within y.store r
  mark_within = within_now k g y (r ∷ rest) M r served_within

  served_once : (naming r y.store.candidates ≡ 0) × (naming r rest ≡ 0)
  served_once =
      let l = M.listed r served_within in
      let m = once_most (at y r).waiting in
      (omega (arith, l, m, naming_same r rest), omega (arith, l, m, naming_same r rest))

  served_waits : (at y r).waiting ≡ true
  served_waits = once_waits (at y r).waiting (omega (arith, M.listed r served_within, naming_same r rest))

  pub mark_used : (at y r).used ≡ true
  mark_used = waits_used k (at y r) (row y.store r) (M.marks.sized.each r mark_within) served_waits

  served_was_used : (at g r).used ≡ true
  served_was_used = elim (M.use_kept r served_within) [
    | inl e ↦ sym e ∙ mark_used
    | inr p ↦ absurd (both_ways (at y r).used p.0 mark_used)
  ]

  -- the numbers that the code relies on
  pub mark_given : in_use g.store + g.given ≤ 4095 → y.given < 4095
  mark_given b =
      omega (
        arith,
        b,
        M.accounted,
        ap once mark_used,
        get_or-le-sum_by (λ h. cond h.used 1 0) y.store.heads (r - 1) (free_header 0)
            (omega (arith, mark_within, M.marks.sized.heads_fit)),
      )

  pub mark_front : y.store.front ≤ 4095
  mark_front = by M.chain.0 M.chain.1
    where
      by : (rs : List ℕ) → Chain y.store y.store.front rs → y.store.front ≤ 4095
      by [] c = omega (arith, c)
      by (x ∷ rs) c = omega (arith, c.0, c.1.0.1, M.marks.sized.few)

  -- a walk can begin at it
  pub mark_begins : Marking k y (visit r ∷ [])
  mark_begins = record {
    sized = M.marks.sized;
    counts = M.marks.counts;
    orderly = ((mark_within, mark_used), tt);
  }

  -- A record that is not purple is struck: its head becomes h, of the same colour and not waiting.
  abbrev struck_as : Header → ℕ → ℕ → Progress
  struck_as h f n = record { store = with_front (with_head y.store r h) f; given = n }

  module _ (h : Header) (f n : ℕ) where
    struck_list :
        h.colour ≡ (at y r).colour → h.count ≡ (at y r).count → h.holds ≡ (at y r).holds → h.waiting ≡ false →
        Settled k h (row y.store r) → ((at y r).colour ≡ Purple → ⊥) →
        (h.used ≡ (at y r).used) ⊎ ((h.used ≡ false) × Spent g.store r) → (Spent g.store r → h.used ≡ false) →
        ((rs : List ℕ) × Chain (struck_as h f n).store f rs
        × ((x : ℕ) → Within y.store x → naming x rs + once (at (struck_as h f n) x).used ≡ 1)) →
        Accounted g (struck_as h f n) → MarkList k g (struck_as h f n) rest
    struck_list tinted counted held still own unpurple keeping ended chained accounts = record {
      lawful = M.lawful;
      marks = record {
        sized =
            let S = sized_head k y.store r h mark_within M.marks.sized own in
            record { few = S.few; heads_fit = S.heads_fit; each = S.each; links_within = S.links_within };
        counts =
            each_head y.store r mark_within h
            (λ x d. d.count ≡ d.holds + (named_where ungray (struck_as h f n).store x + 0)) M.marks.sized.heads_fit
            (omega (arith, M.marks.counts r mark_within, counted, held, named_same r))
            (λ x w _. omega (arith, M.marks.counts x w, named_same x));
        orderly = tt;
      };
      rows_same = M.rows_same;
      use_kept =
          changed (λ x d. (d.used ≡ (at g x).used) ⊎ ((d.used ≡ false) × Spent g.store x))
          (elim keeping [
            | inl e ↦ elim (M.use_kept r served_within) [ inl q ↦ inl (e ∙ q) | inr p ↦ inr (e ∙ p.0, p.1) ]
            | inr p ↦ inr p
          ]) (λ x w _. M.use_kept x w);
      holds_same =
          changed (λ x d. d.holds ≡ (at g x).holds) (held ∙ M.holds_same r served_within) (λ x w _. M.holds_same x w);
      spent_ahead = λ x s.
          changed (λ v d. Spent g.store v → (d.used ≡ false) ⊎ (0 < naming v rest)) (λ q. inl (ended q))
          (λ v w ne q. elim (M.spent_ahead v q) [ inl e ↦ inl e | inr a ↦ inr (ahead v ne a) ]) x s.0.0 s;
      tint =
          changed (λ x d. (d.colour ≡ Gray) ⊎ ((d.colour ≡ (at g x).colour) × ((at g x).colour ≡ Purple → 0 < naming x rest)))
          (elim (M.tint r served_within) [
            | inl e ↦ inl (tinted ∙ e)
            | inr p ↦ inr (tinted ∙ p.0, λ q. absurd (unpurple (p.0 ∙ q)))
          ])
          (λ x w ne. elim (M.tint x w) [ inl e ↦ inl e | inr p ↦ inr (p.0, λ q. ahead x ne (p.1 q)) ]);
      listed =
          changed (λ x d. naming x y.store.candidates + naming x rest ≡ once d.waiting)
          (omega (arith, served_once, ap once still))
          (λ x w ne. omega (arith, M.listed x w, naming_other x r rest (λ e. ne (sym e))));
      from_list = λ x. omega (arith, M.from_list x, naming_cons x r rest);
      room = omega (arith, M.room);
      kept = λ x l.
          ((M.kept x l).0, colour_same x (kept_within k g y (r ∷ rest) M x l).0 ∙ (M.kept x l).1);
      closed = λ x t w e l. colour_same t l.0 ∙ M.closed x t w (sym (colour_same x w.0) ∙ e) l;
      hangs = λ x w e. M.hangs x w (sym (colour_same x w.0) ∙ e);
      chain = (chained.0, chained.1, λ x w. chained.2 x (within_now k g y (r ∷ rest) M x w));
      accounted = accounts;
    }
      where
        changed :
            (R : ℕ → Header → Type 0) → R r h → ((x : ℕ) → Within g.store x → x ≢ r → R x (at y x)) →
            (x : ℕ) → Within g.store x → R x (at (struck_as h f n) x)
        changed R there others x w =
            each_head y.store r mark_within h R M.marks.sized.heads_fit there
            (λ v u ne. others v (within_then k g y (r ∷ rest) M v u) ne) x (within_now k g y (r ∷ rest) M x w)

        named_same : (x : ℕ) → named_where ungray (struck_as h f n).store x ≡ named_where ungray y.store x
        named_same x = where_same ungray x y.store.heads y.store.rows (r - 1) h (ap (λ c. not (is_gray c)) tinted)

        colour_same : (x : ℕ) → 1 ≤ x → (at (struck_as h f n) x).colour ≡ (at y x).colour
        colour_same =
            numbered_head y.store r mark_within h (λ x d. d.colour ≡ (at y x).colour) M.marks.sized.heads_fit tinted (λ _ _ _. refl)

        ahead : (x : ℕ) → x ≢ r → 0 < naming x (r ∷ rest) → 0 < naming x rest
        ahead x ne a = omega (arith, a, naming_other x r rest (λ e. ne (sym e)))

  -- the chain so far, without the record that is served
  served_unchained : naming r M.chain.0 ≡ 0
  served_unchained = omega (arith, M.chain.2 r served_within, ap once mark_used)

  served_chain : (h : Header) → Chain (with_head y.store r h) y.store.front M.chain.0
  served_chain h = chain_elsewhere y.store r h mark_within M.chain.0 y.store.front served_unchained M.chain.1

  -- it leaves the list and stops waiting
  strike_off :
      ((at y r).colour ≡ Purple → ⊥) → (is_black (at y r).colour && eqb (at y r).count 0) ≡ false →
      MarkList k g (turn y r (unlisted (at y r))) rest
  strike_off unpurple counted =
      let own = M.marks.sized.each r mark_within in
      struck_list (unlisted (at y r)) y.store.front y.given refl refl refl refl
      (record {
        links_fit = own.links_fit;
        bytes_fit = own.bytes_fit;
        holds_few = own.holds_few;
        holds_counted = own.holds_counted;
        used_unchained = own.used_unchained;
        free_blank = λ e. absurd (both_ways (at y r).used e mark_used);
      })
      unpurple (inl refl) (λ s. absurd (unspent s)) (
        M.chain.0,
        served_chain (unlisted (at y r)),
        each_head y.store r mark_within (unlisted (at y r)) (λ x d. naming x M.chain.0 + once d.used ≡ 1) M.marks.sized.heads_fit
            (M.chain.2 r served_within) (λ x w _. M.chain.2 x (within_then k g y (r ∷ rest) M x w)),
      )
      (omega (
        arith,
        M.accounted,
        room_set (λ d. d.used) y.store.heads (r - 1) (unlisted (at y r)) (omega (arith, mark_within, M.marks.sized.heads_fit)),
      ))
    where
      -- a spent record is black and has no count now either
      unspent : Spent g.store r → ⊥
      unspent s = elim (M.tint r served_within) [
        | inl e ↦ gray_unspent k g y (r ∷ rest) M r served_within e s
        | inr p ↦
            let black : (at y r).colour ≡ Black = p.0 ∙ ((M.lawful.each r served_within).spent_waits s.0.1 s.1).1.0 in
            let none : (at y r).count ≡ 0 = fresh_count k g y (r ∷ rest) M r served_within (λ e. black_gray (at y r).colour black e) ∙ s.1 in
            both_ways (is_black (at y r).colour && eqb (at y r).count 0) counted
            (and_from (is_black (at y r).colour) (eqb (at y r).count 0) (ap is_black black) (eq-eqb (at y r).count 0 none))
      ]

  -- a spent one is given up
  module _ (black : (at y r).colour ≡ Black) (none : (at y r).count ≡ 0) where
    was_spent : Spent g.store r
    was_spent = (
      (served_within, served_was_used),
      sym (fresh_count k g y (r ∷ rest) M r served_within (λ e. black_gray (at y r).colour black e)) ∙ none,
    )

    blank_row : row y.store r ≡ blank k
    blank_row =
        ap (λ ws. get_or ws (r - 1) no_row) M.rows_same
        ∙ ((M.lawful.each r served_within).spent_waits served_was_used was_spent.1).0

    blank_rows : set y.store.rows (r - 1) (blank k) ≡ y.store.rows
    blank_rows = ap (set y.store.rows (r - 1)) (sym blank_row) ∙ set-get_or y.store.rows (r - 1) no_row

    given_up_is : given_up k y r ≡ struck_as (free_header y.store.front) r (y.given + 1)
    given_up_is =
        ap
        (λ ws. record {
          store = record {
            heads = set y.store.heads (r - 1) (free_header y.store.front);
            rows = ws;
            candidates = y.store.candidates;
            front = r;
          };
          given = y.given + 1;
        })
        blank_rows

    give_up : MarkList k g (given_up k y r) rest
    give_up =
        let own = M.marks.sized.each r mark_within in
        let h = free_header y.store.front in
        subst (λ z. MarkList k g z rest) (sym given_up_is)
        (struck_list h r (y.given + 1) (sym black) (sym none) (omega (arith, own.holds_counted, none)) refl
        (record {
          links_fit = own.links_fit;
          bytes_fit = own.bytes_fit;
          holds_few = omega arith;
          holds_counted = omega arith;
          used_unchained = λ e. absurd (true≢false (sym e));
          free_blank = λ _. (blank_row, refl);
        })
        (λ e. purple_black (at y r).colour e black) (inr (refl, was_spent)) (λ _. refl) (
          r ∷ M.chain.0,
          (
            refl,
            (
              mark_within,
              (
                ap (λ d. d.used) there,
                subst (λ f. Chain (struck_as h r (y.given + 1)).store f M.chain.0) (sym (ap (λ d. d.next) there))
                    (refronted M.chain.0 y.store.front (served_chain h)),
              ),
            ),
          ),
          each_head y.store r mark_within h (λ x d. naming x (r ∷ M.chain.0) + once d.used ≡ 1) M.marks.sized.heads_fit
              (omega (arith, naming_same r M.chain.0, served_unchained))
              (λ x w ne.
              ap (λ m. m + once (at y x).used) (naming_other x r M.chain.0 (λ e. ne (sym e)))
              ∙ M.chain.2 x (within_then k g y (r ∷ rest) M x w)),
        )
        (omega (
          arith,
          M.accounted,
          ap once mark_used,
          room_set (λ d. d.used) y.store.heads (r - 1) h (omega (arith, mark_within, M.marks.sized.heads_fit)),
        )))
      where
        there : at (struck_as (free_header y.store.front) r (y.given + 1)) r ≡ free_header y.store.front
        there = head_there y.store r mark_within (free_header y.store.front) M.marks.sized.heads_fit

        -- the chain from a record on does not see the front
        refronted :
            (rs : List ℕ) (f : ℕ) → Chain (with_head y.store r (free_header y.store.front)) f rs →
            Chain (struck_as (free_header y.store.front) r (y.given + 1)).store f rs
        refronted [] f c = c
        refronted (x ∷ rs) f c = (c.0, (c.1.0, (c.1.1.0, refronted rs _ c.1.1.1)))

  strike : ((at y r).colour ≡ Purple → ⊥) → MarkList k g (struck k y r) rest
  strike unpurple = by (is_black (at y r).colour && eqb (at y r).count 0) refl
    where
      by : (b : Bool) → (is_black (at y r).colour && eqb (at y r).count 0) ≡ b → MarkList k g (struck k y r) rest
      by true e =
          let p = and_parts (is_black (at y r).colour) (eqb (at y r).count 0) e in
          subst (λ z. MarkList k g z rest)
          (sym (cond-true (is_black (at y r).colour && eqb (at y r).count 0) (given_up k y r) (turn y r (unlisted (at y r))) e))
          (give_up (black_of (at y r).colour p.0) (eqb-true (at y r).count 0 p.1))
      by false e =
          subst (λ z. MarkList k g z rest)
          (sym (cond-false (is_black (at y r).colour && eqb (at y r).count 0) (given_up k y r) (turn y r (unlisted (at y r))) e))
          (strike_off unpurple e)

-- what a walk leaves of the chain and of the number of records in use
chain_alike :
    (s z : State) → length z.rows ≡ length s.rows → ((r : ℕ) → 1 ≤ r → Alike (head s r) (head z r)) →
    (rs : List ℕ) (f : ℕ) → Chain s f rs → Chain z f rs
chain_alike s z n same [] f c = c
chain_alike s z n same (r ∷ rs) f c =
    let a = same r c.1.0.0 in (
      c.0,
      (
        (c.1.0.0, omega (arith, c.1.0.1, n)),
        (
          a.use_same ∙ c.1.1.0,
          subst (λ x. Chain z x rs) (sym a.next_same) (chain_alike s z n same rs (head s r).next c.1.1.1),
        ),
      ),
    )

used_alike :
    (hs ks : List Header) → length hs ≡ length ks →
    ((i : ℕ) → i < length hs → (get_or hs i (free_header 0)).used ≡ (get_or ks i (free_header 0)).used) →
    count_by (λ h. h.used) hs ≡ count_by (λ h. h.used) ks
used_alike [] [] e f = refl
used_alike [] (x ∷ ks) e f = let no : ⊥ = omega arith in absurd no
used_alike (x ∷ hs) [] e f = let no : ⊥ = omega arith in absurd no
used_alike (x ∷ hs) (z ∷ ks) e f =
    sum_by-cons (λ h. cond h.used 1 0) x hs
    ∙ ap (λ b. once b + count_by (λ h. h.used) hs) (f 0 (omega arith))
    ∙ ap (λ n. once z.used + n) (used_alike hs ks (omega (arith, e)) (λ i l. f (suc i) (omega (arith, l))))
    ∙ sym (sum_by-cons (λ h. cond h.used 1 0) z ks)

-- A purple record is walked from, and kept on the list.
module _ (k : Shape) (g y : Progress) (r : ℕ) (rest : List ℕ) (M : MarkList k g y (r ∷ rest)) (purple : (at y r).colour ≡ Purple) where
  -- gray hangs on what is kept so far and on the record itself
  abbrev pub Root : ℕ → Type 0
  Root x = Listed y.store x ⊎ (x ≡ r)

  -- where the walk begins
  root_begins : Spreading Root g.store y y (visit r ∷ [])
  root_begins = record {
    rows_same = M.rows_same;
    list_same = refl;
    front_same = refl;
    given_same = refl;
    alike = λ x low. record { use_same = refl; holds_same = refl; waits_same = refl; next_same = refl; tint = inr refl };
    begun = λ x low p. elim p as (λ _. ((at y x).colour ≡ Gray) ⊎ Awaited x (visit r ∷ [])) [
      | inl l ↦ inl (M.kept x l).1
      | inr e ↦ inr (inr (sym e))
    ];
    closed = λ x t low e l. inl (M.closed x t (gray_within k g y (r ∷ rest) M x low e) e l);
    sound = λ x low e. from_more (λ _ a. inl a) (λ _ _ l. l) (M.hangs x (gray_within k g y (r ∷ rest) M x low e) e);
    awaits = λ x low a. elim a as (λ _. From Root (Links g.store) x) [
      | inl d ↦ absurd (let no : ⊥ = omega (arith, d) in no)
      | inr e ↦ here (inr (sym e))
    ];
  }

  abbrev pub walked : Progress
  walked = full marking y r

  walked_marks : Marking k walked [] × Spreading Root g.store y walked []
  walked_marks = spread_walk k Root g.store y y r (mark_begins k g y r rest M) root_begins

  -- what the walk does not change
  pub walked_same : Spreading Root g.store y walked []
  walked_same = walked_marks.1

  walked_alike : (x : ℕ) → Within g.store x → Alike (at y x) (at walked x)
  walked_alike x w = walked_same.alike x w.0

  nothing_awaited : (x : ℕ) (A : Type 0) → A ⊎ Awaited x [] → A
  nothing_awaited x A (inl a) = a
  nothing_awaited x A (inr (inl d)) = absurd (let no : ⊥ = omega (arith, d) in no)
  nothing_awaited x A (inr (inr n)) = absurd n

  root_gray : (at walked r).colour ≡ Gray
  root_gray = nothing_awaited r ((at walked r).colour ≡ Gray) (walked_same.begun r (served_within k g y r rest M).0 (inr refl))

  was_purple : (at g r).colour ≡ Purple
  was_purple = elim (M.tint r (served_within k g y r rest M)) [
    | inl e ↦ absurd (purple_gray (at y r).colour purple e)
    | inr p ↦ sym p.0 ∙ purple
  ]

  walked_listed : (x : ℕ) → naming x (kept_listed walked r).store.candidates ≡ naming x y.store.candidates + once (eqb r x)
  walked_listed x = naming_pushed x r walked.store.candidates ∙ ap (λ l. naming x l + once (eqb r x)) walked_same.list_same

  walked_size : length walked.store.rows ≡ length y.store.rows
  walked_size = ap length (walked_same.rows_same ∙ sym M.rows_same)

  walked_in_use : in_use walked.store ≡ in_use y.store
  walked_in_use =
      used_alike walked.store.heads y.store.heads
      (walked_marks.0.sized.heads_fit ∙ walked_size ∙ sym M.marks.sized.heads_fit)
      (λ i l.
      let j : (i + 1) - 1 ≡ i = omega arith in
      subst (λ x. (get_or walked.store.heads x (free_header 0)).used ≡ (get_or y.store.heads x (free_header 0)).used) j
      (walked_same.alike (i + 1) (omega arith)).use_same)

  keep_list : MarkList k g (kept_listed walked r) rest
  keep_list = record {
    lawful = M.lawful;
    marks = record {
      sized =
          let S = walked_marks.0.sized in
          record { few = S.few; heads_fit = S.heads_fit; each = S.each; links_within = S.links_within };
      counts = walked_marks.0.counts;
      orderly = tt;
    };
    rows_same = walked_same.rows_same;
    use_kept = λ x w.
        let e = (walked_alike x w).use_same in
        elim (M.use_kept x w) [ inl q ↦ inl (e ∙ q) | inr p ↦ inr (e ∙ p.0, p.1) ];
    holds_same = λ x w. (walked_alike x w).holds_same ∙ M.holds_same x w;
    spent_ahead = λ x s. elim (M.spent_ahead x s) [
      | inl e ↦ inl ((walked_alike x s.0.0).use_same ∙ e)
      | inr a ↦ elim (cases_eq x r) [
        | inl e ↦
            absurd (purple_black (at g x).colour (ap (λ v. (at g v).colour) e ∙ was_purple)
            ((M.lawful.each x s.0.0).spent_waits s.0.1 s.1).1.0)
        | inr ne ↦ inr (ahead x ne a)
      ]
    ];
    tint = λ x w. elim (cases_eq x r) [
      | inl e ↦ inl (ap (λ v. (at walked v).colour) e ∙ root_gray)
      | inr ne ↦ elim (walked_alike x w).tint [
        | inl q ↦ inl q
        | inr q ↦ elim (M.tint x w) [ inl e ↦ inl (q ∙ e) | inr p ↦ inr (q ∙ p.0, λ c. ahead x ne (p.1 c)) ]
      ]
    ];
    listed = λ x w. omega (arith, walked_listed x, M.listed x w, naming_cons x r rest, ap once (walked_alike x w).waits_same);
    from_list = λ x. omega (arith, walked_listed x, M.from_list x, naming_cons x r rest);
    room = omega (arith, M.room, length-append walked.store.candidates (r ∷ []), ap length walked_same.list_same);
    kept = λ x l. elim (cases_eq x r) [
      | inl e ↦ (ap (λ v. (at g v).colour) e ∙ was_purple, ap (λ v. (at walked v).colour) e ∙ root_gray)
      | inr ne ↦
          let m : Listed y.store x = omega (arith, l, walked_listed x, ap once (ne_eqb r x (λ e. ne (sym e)))) in
          let w = kept_within k g y (r ∷ rest) M x m in
          ((M.kept x m).0, nothing_awaited x ((at walked x).colour ≡ Gray) (walked_same.begun x w.0 (inl m)))
    ];
    closed = λ x t w e l. nothing_awaited t ((at walked t).colour ≡ Gray) (walked_same.closed x t w.0 e l);
    hangs = λ x w e.
        from_more {Q = Listed (kept_listed walked r).store} {On = Links g.store} (λ v p. rooted v p) (λ _ _ l. l)
        (walked_same.sound x w.0 e);
    chain = (
      M.chain.0,
      relisted M.chain.0 walked.store.front
          (subst (λ f. Chain walked.store f M.chain.0) (sym walked_same.front_same)
          (chain_alike y.store walked.store walked_size walked_same.alike M.chain.0 y.store.front M.chain.1)),
      λ x w. omega (arith, M.chain.2 x w, ap once (walked_alike x w).use_same),
    );
    accounted = omega (arith, M.accounted, walked_in_use, walked_same.given_same);
  }
    where
      ahead : (x : ℕ) → x ≢ r → 0 < naming x (r ∷ rest) → 0 < naming x rest
      ahead x ne a = omega (arith, a, naming_other x r rest (λ e. ne (sym e)))

      rooted : (x : ℕ) → Root x → Listed (kept_listed walked r).store x
      rooted x (inl l) = omega (arith, l, walked_listed x)
      rooted x (inr e) = omega (arith, walked_listed x, ap once (eq-eqb r x (sym e)))

      -- the chain does not see the list
      relisted : (rs : List ℕ) (f : ℕ) → Chain walked.store f rs → Chain (kept_listed walked r).store f rs
      relisted [] f c = c
      relisted (x ∷ rs) f c = (c.0, (c.1.0, (c.1.1.0, relisted rs _ c.1.1.1)))

-- One turn of mark.
pub mark_turn :
    (k : Shape) (g y : Progress) (r : ℕ) (rest : List ℕ) → MarkList k g y (r ∷ rest) → MarkList k g (mark_one k y r) rest
mark_turn k g y r rest M = by (is_purple (at y r).colour) refl
  where
    by :
        (b : Bool) → is_purple (at y r).colour ≡ b →
        MarkList k g (elim b as (λ _. Progress) [ true ↦ kept_listed (full marking y r) r | false ↦ struck k y r ]) rest
    by true e = keep_list k g y r rest M (purple_of (at y r).colour e)
    by false e = strike k g y r rest M (λ q. both_ways (is_purple (at y r).colour) e (ap is_purple q))

-- With the whole list served, mark has done what it is for.
pub mark_end : (k : Shape) (g y : Progress) → MarkList k g y [] → AfterMark k g y
mark_end k g y M = record {
  sized = M.marks.sized;
  kept = record {
    rows_same = M.rows_same;
    spent_free = λ r s. elim (M.spent_ahead r s) [ inl e ↦ e | inr a ↦ absurd (nothing r a) ];
    use_same = λ r w n. elim (M.use_kept r w) [ inl e ↦ e | inr p ↦ absurd (n p.1) ];
    holds_same = M.holds_same;
  };
  colours = λ r w. elim (M.tint r w) [
    | inl e ↦ inr e
    | inr p ↦ elim (M.lawful.each r w).coloured [
      | inl e ↦ inl (p.0 ∙ e)
      | inr q ↦ absurd (nothing r (p.1 q.0))
    ]
  ];
  gray_hangs = λ r w e.
      from_more {Q = Candidate g.store} {On = Links g.store}
      (λ x l. (omega (arith, l, M.from_list x), (M.kept x l).0)) (λ _ _ l. l) (M.hangs r w e);
  hanging_gray = λ r h. (hanging h).1;
  gray_listed = M.hangs;
  listed_gray = λ r l. (M.kept r l).1;
  counts = λ r w. omega (arith, M.marks.counts r (within_now k g y [] M r w));
  filed = record {
    listed = λ r w. omega (arith, M.listed r (within_then k g y [] M r w));
    listed_within = λ r l. within_now k g y [] M r (kept_within k g y [] M r l);
    chain = (M.chain.0, M.chain.1, λ r w. M.chain.2 r (within_then k g y [] M r w));
  };
  accounted = M.accounted;
}
  where
    nothing : (r : ℕ) → 0 < naming r [] → ⊥
    nothing r a = omega (arith, a)

    -- what hangs on a candidate is a record, and gray
    hanging : {r : ℕ} → Hanging g.store r → Within g.store r × ((at y r).colour ≡ Gray)
    hanging (here {r = r} c) =
        let w = M.lawful.listed_within r c.0 in
        (w, elim (M.tint r w) [ inl e ↦ e | inr p ↦ absurd (nothing r (p.1 c.1)) ])
    hanging (along {r = r} {t = t} f l) =
        let q = hanging f in
        ((M.lawful.links_used r t q.0 l).0, M.closed r t q.0 q.1 l)

-- all turns, one after the other
pub mark_turns : (k : Shape) (g y : Progress) (rest : List ℕ) → MarkList k g y rest → MarkList k g (fold (mark_one k) y rest) []
mark_turns k g y [] M = M
mark_turns k g y (r ∷ rest) M = mark_turns k g (mark_one k y r) rest (mark_turn k g y r rest M)

-- What mark does to a lawful store.
pub mark_law : (k : Shape) (g : Progress) → Lawful k g.store → AfterMark k g (marked k g)
mark_law k g law = mark_end k g (marked k g) (mark_turns k g (list_taken g) g.store.candidates (mark_start k g law))
