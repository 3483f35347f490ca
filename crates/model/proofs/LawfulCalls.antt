-- Each call leaves a lawful store lawful.
use Rattle.std.proofs.Common.{◌≡◌, ℕ, zero, suc, ◌+◌, ◌-◌, ◌<◌, ◌≤◌, Bool, true, false, not, ◌&&◌, eqb, ltb, leb, ◌≢◌, ◌⊎◌, List, [], ◌∷◌, length, get_or, set, sym, refl, ap, ◌∙◌, subst, inl, inr, ⊎_elim, mul-le-mul_right, arith}
use Rattle.std.proofs.lemmas.List.{length-set, get_or-set_same, get_or-set_other}
use Rattle.std.proofs.lemmas.Bool.{cases_eq, both_ways, true≢false, and_parts, not-true, leb-true, ltb-true}
use Rattle.std.proofs.lemmas.List.Sums.{count_by-le-length}
use Rattle.std.proofs.ByRecursion.{sum_by_le, All-from_get_or}
use Rattle.kinds.specs.Rows.{Shape, Bounded, with_byte}
use Rattle.model.specs.State.{State, Within, head, row, no_row, with_head, with_row, with_front}
use Rattle.model.specs.Headers.{Header, free_header, made_header, raised, held_more}
use Rattle.model.specs.Calls.{is_held, taken}
use Rattle.model.specs.Lawful.{Lawful, Proper, From, Used, Held, Links, Reachable, Spent, Candidate, Chain, naming, named, once}
use Rattle.model.specs.Lawful.From.{here}
use Rattle.model.proofs.Places.{each_head, each_row, head_there, head_elsewhere}
use Rattle.model.proofs.Paths.{from_more, from_either}
use Rattle.model.proofs.Counting.{naming_same, naming_other, named_with_row}

abbrev Covered : State → ℕ → Type 0
Covered s r = Reachable s r ⊎ (Spent s r ⊎ From (Candidate s) (Links s) r)

-- a held record is in use, and has a count
pub held_used : (k : Shape) (s : State) (r : ℕ) → Lawful k s → Held s r → ((head s r).used ≡ true) × (0 < (head s r).count)
held_used k s r law held =
    (by_use (head s r).used refl, omega (arith, (law.each r held.0).settled.holds_counted))
  where
    by_use : (b : Bool) → (head s r).used ≡ b → (head s r).used ≡ true
    by_use true e = e
    by_use false e = let z = ap (λ h. h.holds) ((law.each r held.0).settled.free_blank e).1 in absurd (let no : ⊥ = omega (arith, z) in no)

-- the chain does not see the head of a record that is not on it
pub chain_elsewhere :
    (s : State) (x : ℕ) (h : Header) → Within s x → (rs : List ℕ) (f : ℕ) → naming x rs ≡ 0 → Chain s f rs → Chain (with_head s x h) f rs
chain_elsewhere s x h w [] f n c = c
chain_elsewhere s x h w (r ∷ rs) f n c =
    let ne : r ≢ x = λ e. let no : ⊥ = omega (arith, naming_same x rs, subst (λ y. naming x (y ∷ rs) ≡ 0) e n) in no in
    let same = head_elsewhere s x w h r c.1.0.0 ne in (
      c.0,
      (
        c.1.0,
        (
          ap (λ y. y.used) same ∙ c.1.1.0,
          chain_elsewhere s x h w rs (head (with_head s x h) r).next (sym (naming_other x r rs ne) ∙ n)
              (subst (λ y. Chain s y.next rs) (sym same) c.1.1.1),
        ),
      ),
    )

module _ (k : Shape) (s : State) (x : ℕ) (h : Header) (law : Lawful k s) (w : Within s x) (held : 0 < h.holds) (used : h.used ≡ true) where
  held_after : (r : ℕ) → Held s r → Held (with_head s x h) r
  held_after r v =
      (v.0, each_head s x w h (λ y g. 0 < (head s y).holds → 0 < g.holds) law.heads_fit (λ _. held) (λ y _ _ e. e) r v.0 v.1)

  used_after : (r : ℕ) → Used s r → Used (with_head s x h) r
  used_after r v =
      (v.0, each_head s x w h (λ y g. (head s y).used ≡ true → g.used ≡ true) law.heads_fit (λ _. used) (λ y _ _ e. e) r v.0 v.1)

  held_there : Held (with_head s x h) x
  held_there = (w, subst (λ g. 0 < g.holds) (sym (head_there s x w h law.heads_fit)) held)

  -- the record x is held now, so what hung on it as a candidate is reachable
  cover_elsewhere : (r : ℕ) → Within s r → r ≢ x → Covered s r → Covered (with_head s x h) r
  cover_elsewhere r v n (inl a) = inl (from_more held_after (λ _ _ l. l) a)
  cover_elsewhere r v n (inr (inl a)) =
      inr (inl (used_after r a.0, ap (λ g. g.count) (head_elsewhere s x w h r v.0 n) ∙ a.1))
  cover_elsewhere r v n (inr (inr a)) =
      elim (from_either {Q = Held (with_head s x h)} {R = Candidate (with_head s x h)} sort a) [ inl p ↦ inl p | inr p ↦ inr (inr p) ]
    where
      sort : (y : ℕ) → Candidate s y → Held (with_head s x h) y ⊎ Candidate (with_head s x h) y
      sort y c = ⊎_elim
          (λ e. inl (subst (Held (with_head s x h)) (sym e) held_there))
          (λ m. inr (c.0, ap (λ g. g.colour) (head_elsewhere s x w h y (law.listed_within y c.0).0 m) ∙ c.1))
          (cases_eq y x)

  -- One head changes, of a record that is held afterwards: what a make and a hold do.
  pub lawful_held_head :
      (f : ℕ) → Proper k h (row s x) → h.waiting ≡ (head s x).waiting → h.count ≡ h.holds + named s x →
      ((rs : List ℕ) × Chain (with_head s x h) f rs × ((r : ℕ) → Within s r → naming r rs + once (head (with_head s x h) r).used ≡ 1)) →
      Lawful k (with_front (with_head s x h) f)
  lawful_held_head f proper waiting count chain = record {
    few = law.few;
    heads_fit = length-set s.heads (x - 1) h ∙ law.heads_fit;
    each = each_head s x w h (λ r g. Proper k g (row s r)) law.heads_fit proper (λ r v _. law.each r v);
    links_used = λ r t v l. used_after t (law.links_used r t v l);
    listed =
        each_head s x w h (λ r g. naming r s.candidates ≡ once g.waiting) law.heads_fit
        (law.listed x w ∙ ap once (sym waiting)) (λ r v _. law.listed r v);
    listed_within = law.listed_within;
    chain = chain;
    counts =
        each_head s x w h (λ r g. g.count ≡ g.holds + named s r) law.heads_fit count (λ r v _. law.counts r v);
    cover = λ r u. ⊎_elim
        (λ e. inl (here (subst (Held (with_head s x h)) (sym e) held_there)))
        (λ n. cover_elsewhere r u.0 n (law.cover r (u.0, ap (λ g. g.used) (sym (head_elsewhere s x w h r u.0.0 n)) ∙ u.1)))
        (cases_eq r x);
  }

-- Make.
module _ (k : Shape) (s : State) (x : ℕ) (law : Lawful k s) (w : Within s x) (free : (head s x).used ≡ false) where
  pub free_head : head s x ≡ free_header (head s x).next
  free_head = ((law.each x w).settled.free_blank free).1

  pub lawful_taken :
      (rs : List ℕ) → Chain s (head s x).next rs → ((r : ℕ) → Within s r → naming r (x ∷ rs) + once (head s r).used ≡ 1) →
      Lawful k (taken s x)
  lawful_taken rs chain once_each =
      lawful_held_head k s x made_header law w (omega arith) refl (head s x).next proper (ap (λ h. h.waiting) (sym free_head)) count (
        rs,
        chain_elsewhere s x made_header w rs (head s x).next absent chain,
        each_head s x w made_header
            (λ r g. naming r rs + once g.used ≡ 1) law.heads_fit (ap (λ n. n + 1) absent) others,
      )
    where
      own : Proper k (head s x) (row s x)
      own = law.each x w

      proper : Proper k made_header (row s x)
      proper = record {
        settled = record {
          links_fit = own.settled.links_fit;
          bytes_fit = own.settled.bytes_fit;
          holds_few = omega arith;
          holds_counted = omega arith;
          used_unchained = λ _. refl;
          free_blank = λ z. absurd (true≢false z);
        };
        coloured = inl refl;
        spent_waits = λ _ z. let no : ⊥ = omega arith in absurd no;
      }

      count : 1 ≡ 1 + named s x
      count = omega (arith, law.counts x w, ap (λ h. h.count) free_head, ap (λ h. h.holds) free_head)

      absent : naming x rs ≡ 0
      absent = omega (arith, once_each x w, naming_same x rs, ap once free)

      others : (r : ℕ) → Within s r → r ≢ x → naming r rs + once (head s r).used ≡ 1
      others r v n = ap (λ m. m + once (head s r).used) (sym (naming_other r x rs (λ e. n (sym e)))) ∙ once_each r v

-- Hold.
pub lawful_held_more :
    (k : Shape) (s : State) (x : ℕ) → Lawful k s → Used s x → (head s x).holds < 1000 →
    Lawful k (with_head s x (held_more (raised (head s x))))
lawful_held_more k s x law used less =
    lawful_held_head k s x more law w (omega arith) used.1 s.front proper refl (omega (arith, law.counts x w)) (
      law.chain.0,
      chain_elsewhere s x more w law.chain.0 s.front absent law.chain.1,
      each_head s x w more
          (λ r g. naming r law.chain.0 + once g.used ≡ 1) law.heads_fit (law.chain.2 x w) (λ r v _. law.chain.2 r v),
    )
  where
    w : Within s x
    w = used.0

    more : Header
    more = held_more (raised (head s x))

    own : Proper k (head s x) (row s x)
    own = law.each x w

    proper : Proper k more (row s x)
    proper = record {
      settled = record {
        links_fit = own.settled.links_fit;
        bytes_fit = own.settled.bytes_fit;
        holds_few = omega arith;
        holds_counted = omega (arith, own.settled.holds_counted);
        used_unchained = own.settled.used_unchained;
        free_blank = λ z. absurd (both_ways (head s x).used z used.1);
      };
      coloured = inl refl;
      spent_waits = λ _ z. let no : ⊥ = omega arith in absurd no;
    }

    absent : naming x law.chain.0 ≡ 0
    absent = omega (arith, law.chain.2 x w, ap once used.1)

-- Byte write: links, counts and everything but one byte stay.
module _ (k : Shape) (s : State) (x : ℕ) (law : Lawful k s) (held : Held s x) (b v : ℕ) where
  same_links : (r : ℕ) → (row (with_row s x (with_byte (row s x) b v)) r).links ≡ (row s r).links
  same_links r = ⊎_elim
      (λ e. subst (λ i. (get_or (set s.rows (x - 1) (with_byte (row s x) b v)) i no_row).links ≡ (get_or s.rows i no_row).links) (sym e)
      (ap (λ t. t.links) (get_or-set_same s.rows (x - 1) (with_byte (row s x) b v) no_row (omega arith))))
      (λ n. ap (λ t. t.links) (get_or-set_other s.rows (x - 1) (r - 1) (with_byte (row s x) b v) no_row n))
      (cases_eq (r - 1) (x - 1))

  same_named : (t : ℕ) → named (with_row s x (with_byte (row s x) b v)) t ≡ named s t
  same_named t = omega (arith, named_with_row s x t (with_byte (row s x) b v) held.0)

  same_size : length (set s.rows (x - 1) (with_byte (row s x) b v)) ≡ length s.rows
  same_size = length-set s.rows (x - 1) (with_byte (row s x) b v)

  before : (r : ℕ) → Within (with_row s x (with_byte (row s x) b v)) r → Within s r
  before r a = (a.0, omega (arith, same_size))

  since : (r : ℕ) → Within s r → Within (with_row s x (with_byte (row s x) b v)) r
  since r a = (a.0, omega (arith, same_size))

  links_before : (r t : ℕ) → Links (with_row s x (with_byte (row s x) b v)) r t → Links s r t
  links_before r t l = (l.0, (l.1.0, ap (λ ls. get_or ls l.1.0 0) (sym (same_links r)) ∙ l.1.1))

  links_since : (r t : ℕ) → Links s r t → Links (with_row s x (with_byte (row s x) b v)) r t
  links_since r t l = (l.0, (l.1.0, ap (λ ls. get_or ls l.1.0 0) (same_links r) ∙ l.1.1))

  chain_since : (f : ℕ) (rs : List ℕ) → Chain s f rs → Chain (with_row s x (with_byte (row s x) b v)) f rs
  chain_since f [] c = c
  chain_since f (r ∷ rs) c = (c.0, (since r c.1.0, (c.1.1.0, chain_since (head s r).next rs c.1.1.1)))

  cover_since : (r : ℕ) → Covered s r → Covered (with_row s x (with_byte (row s x) b v)) r
  cover_since r (inl a) = inl (from_more (λ y h. (since y h.0, h.1)) links_since a)
  cover_since r (inr (inl a)) = inr (inl ((since r a.0.0, a.0.1), a.1))
  cover_since r (inr (inr a)) = inr (inr (from_more (λ y c. c) links_since a))

  proper_byte : Proper k (head s x) (with_byte (row s x) b v)
  proper_byte =
      let own = law.each x held.0 in
      let live = held_used k s x law held in
      record {
        settled = record {
          links_fit = own.settled.links_fit;
          bytes_fit = length-set (row s x).bytes b v ∙ own.settled.bytes_fit;
          holds_few = own.settled.holds_few;
          holds_counted = own.settled.holds_counted;
          used_unchained = own.settled.used_unchained;
          free_blank = λ z. absurd (both_ways (head s x).used z live.0);
        };
        coloured = own.coloured;
        spent_waits = λ _ z. let no : ⊥ = omega (arith, live.1) in absurd no;
      }

  pub lawful_byte : Lawful k (with_row s x (with_byte (row s x) b v))
  lawful_byte = record {
    few = omega (arith, same_size, law.few);
    heads_fit = law.heads_fit ∙ sym same_size;
    each = λ r a.
        each_row s x held.0 (with_byte (row s x) b v) (λ y t. Proper k (head s y) t) proper_byte (λ y u _. law.each y u) r (before r a);
    links_used = λ r t a l.
        let u = law.links_used r t (before r a) (links_before r t l) in (since t u.0, u.1);
    listed = λ r a. law.listed r (before r a);
    listed_within = λ r n. since r (law.listed_within r n);
    chain = (law.chain.0, chain_since s.front law.chain.0 law.chain.1, λ r a. law.chain.2 r (before r a));
    counts = λ r a. law.counts r (before r a) ∙ ap (λ n. (head s r).holds + n) (sym (same_named r));
    cover = λ r u. cover_since r (law.cover r (before r u.0, u.1));
  }

-- the test that a call makes, as a fact
pub held_from_test : (s : State) (r : ℕ) → is_held s r ≡ true → Held s r
held_from_test s r e =
    let p = and_parts (not (eqb r 0)) (leb r (length s.rows) && ltb 0 (head s r).holds) e in
    let q = and_parts (leb r (length s.rows)) (ltb 0 (head s r).holds) p.1 in
    ((positive r (not-true (eqb r 0) p.0), leb-true r (length s.rows) q.0), ltb-true 0 (head s r).holds q.1)
  where
    positive : (n : ℕ) → eqb n 0 ≡ false → 1 ≤ n
    positive zero z = absurd (true≢false z)
    positive (suc n) z = omega arith

-- the front of the chain is a free record, and the rest of the chain follows it
pub record Fronted (s : State) : Type 0 where
  pub rest : List ℕ
  pub within : Within s s.front
  pub free : (head s s.front).used ≡ false
  pub chained : Chain s (head s s.front).next rest
  pub once_each : (r : ℕ) → Within s r → naming r (s.front ∷ rest) + once (head s r).used ≡ 1

fronted_by :
    (s : State) (rs : List ℕ) → Chain s s.front rs → ((r : ℕ) → Within s r → naming r rs + once (head s r).used ≡ 1) →
    (s.front ≡ 0 → ⊥) → Fronted s
fronted_by s [] c each n = absurd (n c)
fronted_by s (x ∷ rs) c each n = record {
  rest = rs;
  within = subst (Within s) (sym c.0) c.1.0;
  free = subst (λ y. (head s y).used ≡ false) (sym c.0) c.1.1.0;
  chained = subst (λ y. Chain s (head s y).next rs) (sym c.0) c.1.1.1;
  once_each = subst (λ y. (r : ℕ) → Within s r → naming r (y ∷ rs) + once (head s r).used ≡ 1) (sym c.0) each;
}

module _ (k : Shape) (s : State) (law : Lawful k s) where
  pub front_free : (s.front ≡ 0 → ⊥) → Fronted s
  front_free n = fronted_by s law.chain.0 law.chain.1 law.chain.2 n

  -- No count can pass what 4,095 records of 16 links and a thousand holds add up to.
  pub count_small : Bounded k → (r : ℕ) → Within s r → (head s r).count ≤ 66520
  count_small bounds r w =
      omega (
        arith,
        law.counts r w,
        (law.each r w).settled.holds_few,
        law.few,
        mul-le-mul_right 16 law.few,
        sum_by_le (λ x. naming r x.links) 16 s.rows (All-from_get_or (λ x. naming r x.links ≤ 16) s.rows no_row few_links),
      )
    where
      few_links : (i : ℕ) → i < length s.rows → naming r (get_or s.rows i no_row).links ≤ 16
      few_links i l =
          let p = (law.each (i + 1) (omega arith, omega arith)).settled.links_fit in
          let e : (i + 1) - 1 ≡ i = omega arith in
          omega (
            arith,
            count_by-le-length (λ t. eqb t r) (get_or s.rows i no_row).links,
            subst (λ j. length (get_or s.rows j no_row).links ≡ k.links) e p,
            bounds.few_links,
          )
