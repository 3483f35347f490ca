-- A record is left: its row is blanked and its head replaced. What the rest of the store sees of it.
use Rattle.std.proofs.Common.{◌≡◌, ℕ, ◌+◌, ◌-◌, ◌≤◌, true, cond, eqb, ◌≢◌, List, [], ◌∷◌, length, get_or, set, sym, refl, ap, ◌∙◌, subst, arith}
use Rattle.std.proofs.lemmas.List.{length-replicate, length-set}
use Rattle.std.proofs.lemmas.List.Sums.{sum_by-set}
use Rattle.std.proofs.lemmas.Bool.{true≢false, eq-eqb}
use Rattle.kinds.specs.Rows.{Row, Shape, blank}
use Rattle.model.specs.State.{State, Within, head, row, no_row, in_use, with_head, with_row, with_front}
use Rattle.model.specs.Headers.{Header, free_header}
use Rattle.model.specs.Lawful.{Links, Chain, Settled, naming, once}
use Rattle.model.specs.Walk.{Progress}
use Rattle.model.specs.Release.{given_up}
use Rattle.model.specs.Releasing.{live_named}
use Rattle.model.proofs.Places.{each_head, each_both, head_there}
use Rattle.model.proofs.Counting.{naming_same, naming_other, naming_blank, naming_has}
use Rattle.model.proofs.LiveCounting.{live_same, live_row}
use Rattle.model.proofs.LawfulCalls.{chain_elsewhere}

-- the row of t blanked, its head h, and the chain from f on
abbrev pub ended_as : Shape → State → ℕ → Header → ℕ → State
ended_as k s t h f = with_front (with_head (with_row s t (blank k)) t h) f

-- the chain does not see rows
chain_rows : (s : State) (t : ℕ) (w : Row) (f : ℕ) (rs : List ℕ) → Chain s f rs → Chain (with_row s t w) f rs
chain_rows s t w f [] c = c
chain_rows s t w f (r ∷ rs) c =
    let inside : Within (with_row s t w) r = (c.1.0.0, omega (arith, c.1.0.1, length-set s.rows (t - 1) w)) in
    (c.0, (inside, (c.1.1.0, chain_rows s t w (head s r).next rs c.1.1.1)))

-- nor the front, from a record on
chain_front : (s : State) (x f : ℕ) (rs : List ℕ) → Chain s f rs → Chain (with_front s x) f rs
chain_front s x f [] c = c
chain_front s x f (r ∷ rs) c = (c.0, (c.1.0, (c.1.1.0, chain_front s x (head s r).next rs c.1.1.1)))

module _ (k : Shape) (s : State) (t : ℕ) (h : Header) (f : ℕ) (inside : Within s t) (fit : length s.heads ≡ length s.rows) where
  pub left_size : length (set s.rows (t - 1) (blank k)) ≡ length s.rows
  left_size = length-set s.rows (t - 1) (blank k)

  pub left_back : (r : ℕ) → Within (ended_as k s t h f) r → Within s r
  left_back r w = (w.0, omega (arith, w.1, left_size))

  pub left_on : (r : ℕ) → Within s r → Within (ended_as k s t h f) r
  left_on r w = (w.0, omega (arith, w.1, left_size))

  -- head and row of each record
  pub left_both :
      (P : ℕ → Row → Header → Type 0) → P t (blank k) h → ((r : ℕ) → 1 ≤ r → r ≢ t → P r (row s r) (head s r)) →
      (r : ℕ) → 1 ≤ r → P r (row (ended_as k s t h f) r) (head (ended_as k s t h f) r)
  left_both P =
      each_both s.rows no_row s.heads (free_header 0) t (blank k) h P inside.0 inside.1 (omega (arith, inside, fit))

  pub left_head : head (ended_as k s t h f) t ≡ h
  left_head = head_there (with_row s t (blank k)) t (left_on t inside) h (fit ∙ sym left_size)

  pub left_other : (r : ℕ) → 1 ≤ r → r ≢ t → head (ended_as k s t h f) r ≡ head s r
  left_other r a ne = left_both (λ y w d. y ≢ t → d ≡ head s y) (λ no. absurd (no refl)) (λ y _ _ _. refl) r a ne

  pub left_row : (r : ℕ) → 1 ≤ r → r ≢ t → row (ended_as k s t h f) r ≡ row s r
  left_row r a ne = left_both (λ y w d. y ≢ t → w ≡ row s y) (λ no. absurd (no refl)) (λ y _ _ _. refl) r a ne

  -- a blank record has no links
  pub left_links : (r u : ℕ) → 1 ≤ r → Links (ended_as k s t h f) r u → (r ≢ t) × Links s r u
  left_links r u a l =
      left_both (λ y w d. ((i : ℕ) × (get_or w.links i 0 ≡ u)) → (y ≢ t) × Links s y u)
      (λ x.
      let m = naming_has (blank k).links x.0 u l.0 x.1 in
      let none : ⊥ = omega (arith, m, naming_blank u k.links l.0) in
      absurd none)
      (λ y _ ne x. (ne, (l.0, x))) r a l.1

  -- a record with no count: its links were not counted, and are not
  pub left_live : h.count ≡ 0 → (head s t).count ≡ 0 → (r : ℕ) → live_named (ended_as k s t h f) r ≡ live_named s r
  left_live now was r =
      let z = ap (λ d. eqb d.count 0) left_head ∙ eq-eqb h.count 0 now in
      live_row r (set s.heads (t - 1) h) s.rows (t - 1) (blank k) z
      ∙ live_same r s.heads s.rows (t - 1) h (eq-eqb h.count 0 now ∙ sym (eq-eqb (head s t).count 0 was))

-- a free record by itself
pub free_settled : (k : Shape) (f : ℕ) → Settled k (free_header f) (blank k)
free_settled k f = record {
  links_fit = length-replicate k.links 0;
  bytes_fit = length-replicate k.bytes 0;
  holds_few = omega arith;
  holds_counted = omega arith;
  used_unchained = λ e. absurd (true≢false (sym e));
  free_blank = λ _. (refl, refl);
}

-- The chain of free records, of a store of which each record is in use or on it once.
abbrev pub Chained : State → Type 0
Chained s = (rs : List ℕ) × Chain s s.front rs × ((r : ℕ) → Within s r → naming r rs + once (head s r).used ≡ 1)

module _ (k : Shape) (s : State) (t : ℕ) (inside : Within s t) (fit : length s.heads ≡ length s.rows) (used : (head s t).used ≡ true) (chain : Chained s) where
  -- a record in use is not on the chain
  pub used_unchained_yet : naming t chain.0 ≡ 0
  used_unchained_yet = omega (arith, chain.2 t inside, ap once used)

  -- the chain so far, when the record is left
  pub left_chain : (h : Header) → Chain (with_head (with_row s t (blank k)) t h) s.front chain.0
  left_chain h =
      chain_rows (with_head s t h) t (blank k) s.front chain.0
      (chain_elsewhere s t h inside chain.0 s.front used_unchained_yet chain.1)

  -- the record is given up: it is free, at the front of the chain
  pub given_chain :
      (rs : List ℕ) × Chain (ended_as k s t (free_header s.front) t) t rs
      × ((r : ℕ) → Within s r → naming r rs + once (head (ended_as k s t (free_header s.front) t) r).used ≡ 1)
  given_chain = (
    t ∷ chain.0,
    (
      refl,
      (
        left_on k s t (free_header s.front) t inside fit t inside,
        (
          ap (λ d. d.used) there,
          subst (λ f. Chain (ended_as k s t (free_header s.front) t) f chain.0) (sym (ap (λ d. d.next) there))
              (chain_front (with_head (with_row s t (blank k)) t (free_header s.front)) t s.front chain.0
              (left_chain (free_header s.front))),
        ),
      ),
    ),
    each_head s t inside (free_header s.front) (λ r d. naming r (t ∷ chain.0) + once d.used ≡ 1) fit
        (omega (arith, naming_same t chain.0, used_unchained_yet))
        (λ r w ne. ap (λ m. m + once (head s r).used) (naming_other r t chain.0 (λ e. ne (sym e))) ∙ chain.2 r w),
  )
    where
      there : head (ended_as k s t (free_header s.front) t) t ≡ free_header s.front
      there = left_head k s t (free_header s.front) t inside fit

-- the front of the chain is a record, or none
pub chain_small : (s : State) (f : ℕ) (rs : List ℕ) → length s.rows ≤ 4095 → Chain s f rs → f ≤ 4095
chain_small s f [] few c = omega (arith, c)
chain_small s f (r ∷ rs) few c = omega (arith, c.0, c.1.0.1, few)

-- one record in use less, and one given up more
pub given_sum :
    (k : Shape) (g : Progress) (t : ℕ) → Within g.store t → length g.store.heads ≡ length g.store.rows →
    (head g.store t).used ≡ true →
    in_use (given_up k g t).store + (given_up k g t).given ≡ in_use g.store + g.given
given_sum k g t inside fit used =
    omega (
      arith,
      sum_by-set (λ d. cond d.used 1 0) g.store.heads (t - 1) (free_header g.store.front) (free_header 0)
          (omega (arith, inside, fit)),
      ap once used,
    )
