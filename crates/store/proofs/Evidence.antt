-- The type of a store says that there is a proof that it is lawful, and not which. Here is one. Most rules have one proof at
-- most, and the chain is one list; what a record is come to by, from a held record or from a candidate, is sought step by step.
use Rattle.std.proofs.Common.{◌≡◌, ℕ, zero, suc, ◌+◌, ◌-◌, ◌<◌, ◌≤◌, Bool, true, false, ◌&&◌, ◌||◌, leb, ◌⊎◌, inl, inr, List, [], ◌∷◌, length, get_or, sym, refl, ap, ◌∙◌, subst, arith}
use Rattle.std.proofs.Math.Logic.{∥∥₁_elim, ∥∥₁_map}
use Rattle.std.proofs.Props.{props}
use Rattle.std.proofs.lemmas.Bool.{both_ways, cases_eq, cases_lt, leb-true, le-leb, and_parts, and_from, or_cases, or_left, or_right}
use Rattle.std.proofs.lemmas.List.{get_or_past}
use mathlib.Core.HLevel.{Σ_prop_path}
use Rattle.kinds.specs.Rows.{Row, Shape}
use Rattle.model.specs.Headers.{is_black, is_purple}
use Rattle.model.specs.Lawful.{Lawful, Used, Held, Links, From, Reachable, Spent, Candidate, Chain, naming, once}
use Rattle.model.specs.Lawful.From.{here, along}
use Rattle.model.specs.State.{State, Within, head, row, no_row}
use Rattle.model.proofs.Colourings.{naming_some}
use Rattle.model.proofs.Counting.{naming_has}
use Rattle.model.specs.declared.heads.Colour.{Colour}
use Rattle.model.specs.declared.heads.Colour.TheVariants.{Black, Purple}

-- the least number that passes a test
abbrev Least : (ℕ → Bool) → Type 0
Least f = (n : ℕ) × ((f n ≡ true) × ((m : ℕ) → f m ≡ true → n ≤ m))

least_prop : (f : ℕ → Bool) → IsProp (Least f)
least_prop f a b =
    Σ_prop_path {B = λ (n : ℕ). (f n ≡ true) × ((m : ℕ) → f m ≡ true → n ≤ m)} (λ n. hlevel props) {u = a} {v = b}
    (omega (arith, a.1.1 b.0 b.1.0, b.1.1 a.0 a.1.0))

-- none below k + 1 passes, if none below k does and k does not
beyond : (f : ℕ → Bool) (k : ℕ) (b : Bool) → f k ≡ b → ((m : ℕ) → f m ≡ true → k ≤ m) → Least f ⊎ ((m : ℕ) → f m ≡ true → suc k ≤ m)
beyond f k true e none = inl (k, (e, none))
beyond f k false e none = inr (λ m p. let other : k ≡ m → ⊥ = λ q. both_ways (f k) e (ap f q ∙ p) in omega (arith, none m p, other))

least_below : (f : ℕ → Bool) (k : ℕ) → Least f ⊎ ((m : ℕ) → f m ≡ true → k ≤ m)
least_below f zero = inr (λ m p. omega arith)
least_below f (suc k) = elim (least_below f k) [ inl l ↦ inl l | inr none ↦ beyond f k (f k) refl none ]

least : (f : ℕ → Bool) (n : ℕ) → f n ≡ true → Least f
least f n e = elim (least_below f (suc n)) [ inl l ↦ l | inr none ↦ absurd (omega (arith, none n e)) ]

-- a fact that is sought number by number, until a test passes
record Sought (A : Type 0) : Type 0 where
  test : ℕ → Bool
  found : A → (n : ℕ) × (test n ≡ true)
  shown : (n : ℕ) → test n ≡ true → A

-- where it is known only that there is a proof, the one that the least number gives
the_least : {A : Type 0} → Sought A → ∥ A ∥₁ → A
the_least a t =
    let l = ∥∥₁_elim t (least_prop a.test) (λ x. least a.test (a.found x).0 (a.found x).1) in
    a.shown l.0 l.1.0

sought_either : {A B : Type 0} → Sought A → Sought B → Sought (A ⊎ B)
sought_either a b = record {
  test = λ n. a.test n || b.test n;
  found = elim [
    | inl x ↦ let i = a.found x in (i.0, or_left (a.test i.0) (b.test i.0) i.1)
    | inr y ↦ let i = b.found y in (i.0, or_right (a.test i.0) (b.test i.0) i.1)
  ];
  shown = λ n e. elim (or_cases (a.test n) (b.test n) e) [ inl f ↦ inl (a.shown n f) | inr f ↦ inr (b.shown n f) ];
}

-- a test of a fact
record Tested (A : Type 0) : Type 0 where
  test : Bool
  passes : A → test ≡ true
  shows : test ≡ true → A

tested_order : (a b : ℕ) → Tested (a ≤ b)
tested_order a b = record { test = leb a b; passes = le-leb a b; shows = leb-true a b }

tested_both : {A B : Type 0} → Tested A → Tested B → Tested (A × B)
tested_both a b = record {
  test = a.test && b.test;
  passes = λ p. and_from a.test b.test (a.passes p.0) (b.passes p.1);
  shows = λ e. let w = and_parts a.test b.test e in (a.shows w.0, b.shows w.1);
}

sought_tested : {A : Type 0} → Tested A → Sought A
sought_tested a = record { test = λ n. a.test; found = λ x. (0, a.passes x); shown = λ n e. a.shows e }

-- whether some number below n passes
some_below : (ℕ → Bool) → ℕ → Bool
some_below f zero = false
some_below f (suc n) = f n || some_below f n

some_has : (f : ℕ → Bool) (n i : ℕ) → i < n → f i ≡ true → some_below f n ≡ true
unfolding some_below
some_has f zero i l e = absurd (omega arith)
some_has f (suc n) i l e =
    elim (cases_eq i n) [
      | inl q ↦ or_left (f n) (some_below f n) (ap f (sym q) ∙ e)
      | inr other ↦ or_right (f n) (some_below f n) (some_has f n i (omega arith) e)
    ]

some_is : (f : ℕ → Bool) (n : ℕ) → some_below f n ≡ true → (i : ℕ) × (f i ≡ true)
unfolding some_below
some_is f zero e = absurd (both_ways false refl e)
some_is f (suc n) e = elim (or_cases (f n) (some_below f n) e) [ inl a ↦ (n, a) | inr b ↦ some_is f n b ]

purple_of : (c : Colour) → is_purple c ≡ true → c ≡ Purple
purple_of c e = grind arith

tested_purple : (c : Colour) → Tested (c ≡ Purple)
tested_purple c = record { test = is_purple c; passes = λ e. ap is_purple e; shows = purple_of c }

black_of : (c : Colour) → is_black c ≡ true → c ≡ Black
black_of c e = grind arith

tested_black : (c : Colour) → Tested (c ≡ Black)
tested_black c = record { test = is_black c; passes = λ e. ap is_black e; shows = black_of c }

tested_link : (ls : List ℕ) (t : ℕ) → Tested ((1 ≤ t) × ((i : ℕ) × (get_or ls i 0 ≡ t)))
tested_link ls t =
    let order = tested_both (tested_order 1 t) (tested_order 1 (naming t ls)) in
    record {
      test = order.test;
      passes = λ l. order.passes (l.0, naming_has ls l.1.0 t l.0 l.1.1);
      shows = λ e. let w = order.shows e in (w.0, naming_some t ls w.1);
    }

-- what can be come to in so many steps, along links from numbers below n
module _ (P : ℕ → Type 0) (To : ℕ → ℕ → Type 0) (p : (r : ℕ) → Tested (P r)) (to : (r t : ℕ) → Tested (To r t)) (n : ℕ) where
  come : ℕ → ℕ → Bool
  come zero r = (p r).test
  come (suc k) r = some_below (λ q. come k q && (to q r).test) n

  come_found : ((q t : ℕ) → To q t → q < n) → {r : ℕ} → From P To r → (k : ℕ) × (come k r ≡ true)
  unfolding come
  come_found below (here {r = q} a) = (0, (p q).passes a)
  come_found below (along {r = q} {t = u} f l) =
      let k = come_found below f in
      (suc k.0, some_has (λ x. come k.0 x && (to x u).test) n q (below q u l) (and_from (come k.0 q) (to q u).test k.1 ((to q u).passes l)))

  come_shown : (k r : ℕ) → come k r ≡ true → From P To r
  unfolding come
  come_shown zero r e = here ((p r).shows e)
  come_shown (suc k) r e =
      let q = some_is (λ x. come k x && (to x r).test) n e in
      let w = and_parts (come k q.0) (to q.0 r).test q.1 in
      along (come_shown k q.0 w.0) ((to q.0 r).shows w.1)

  sought_from : ((q t : ℕ) → To q t → q < n) → (r : ℕ) → Sought (From P To r)
  sought_from below r = record { test = λ k. come k r; found = come_found below; shown = λ k e. come_shown k r e }

module _ (s : State) where
  held : (r : ℕ) → Tested (Held s r)
  held r = tested_both (tested_both (tested_order 1 r) (tested_order r (length s.rows))) (tested_order 1 (head s r).holds)

  candidate : (r : ℕ) → Tested (Candidate s r)
  candidate r = tested_both (tested_order 1 (naming r s.candidates)) (tested_purple (head s r).colour)

  spent : (r : ℕ) → Used s r → Tested (Spent s r)
  spent r used =
      let none = tested_order (head s r).count 0 in
      record { test = none.test; passes = λ q. none.passes (omega (arith, q.1)); shows = λ e. (used, omega (arith, none.shows e)) }

  -- beyond the records there are no links
  links_below : (r t : ℕ) → Links s r t → r < length s.rows + 2
  links_below r t l = elim (cases_lt r (length s.rows + 2)) [
    | inl below ↦ below
    | inr above ↦
        let none : row s r ≡ no_row = get_or_past s.rows (r - 1) no_row (omega arith) in
        absurd (omega (arith, l.0, l.1.1, ap (λ (w : Row). get_or w.links l.1.0 0) none))
  ]

  along_links : (P : ℕ → Type 0) → ((r : ℕ) → Tested (P r)) → (r : ℕ) → Sought (From P (Links s) r)
  along_links P p = sought_from P (Links s) p (λ r t. tested_link (row s r).links t) (length s.rows + 2) links_below

  covered : (r : ℕ) → Used s r → Sought (Reachable s r ⊎ (Spent s r ⊎ From (Candidate s) (Links s) r))
  covered r used =
      sought_either (along_links (Held s) held r) (sought_either (sought_tested (spent r used)) (along_links (Candidate s) candidate r))

-- black, or purple and waiting
coloured : (c : Colour) (w : Bool) → ∥ (c ≡ Black) ⊎ ((c ≡ Purple) × (w ≡ true)) ∥₁ → (c ≡ Black) ⊎ ((c ≡ Purple) × (w ≡ true))
coloured c w t = the_least (sought_either (sought_tested (tested_black c)) (sought_tested (tested_both (tested_purple c) (record { test = w; passes = λ e. e; shows = λ e. e })))) t

-- the free chain is one list
chain_prop : (s : State) (r : ℕ) (xs : List ℕ) → IsProp (Chain s r xs)
chain_prop s r [] = hlevel props
chain_prop s r (x ∷ xs) = let rest = chain_prop s (head s x).next xs in hlevel (props, rest)

chain_same : (s : State) (r : ℕ) (xs ys : List ℕ) → Chain s r xs → Chain s r ys → xs ≡ ys
chain_same s r [] [] a b = refl
chain_same s r [] (y ∷ ys) a b = absurd (omega (arith, a, b.0, b.1.0.0))
chain_same s r (x ∷ xs) [] a b = absurd (omega (arith, b, a.0, a.1.0.0))
chain_same s r (x ∷ xs) (y ∷ ys) a b =
    let e : x ≡ y = sym a.0 ∙ b.0 in
    let rest = subst (λ z. Chain s (head s z).next xs) e a.1.1.1 in
    let same = chain_same s (head s y).next xs ys rest b.1.1.1 in
    cc

module _ (k : Shape) (s : State) where
  abbrev Chained : List ℕ → Type 0
  Chained xs = Chain s s.front xs × ((r : ℕ) → Within s r → naming r xs + once (head s r).used ≡ 1)

  chained_prop : IsProp ((xs : List ℕ) × Chained xs)
  chained_prop a b = Σ_prop_path {B = Chained} (λ xs. let chain = chain_prop s s.front xs in hlevel (props, chain)) {u = a} {v = b}
      (chain_same s s.front a.0 b.0 a.1.0 b.1.0)

  pub lawful_shown : ∥ Lawful k s ∥₁ → Lawful k s
  lawful_shown t =
      let c = ∥∥₁_elim t chained_prop (λ l. (l.chain.0, (l.chain.1, l.chain.2))) in
      record {
        few = ∥∥₁_elim t (hlevel props) (λ l. l.few);
        heads_fit = ∥∥₁_elim t (hlevel props) (λ l. l.heads_fit);
        each = λ r w. record {
          settled = ∥∥₁_elim t (hlevel props) (λ l. (l.each r w).settled);
          coloured = coloured (head s r).colour (head s r).waiting (∥∥₁_map t (λ l. (l.each r w).coloured));
          spent_waits = λ u z. ∥∥₁_elim t (hlevel props) (λ l. (l.each r w).spent_waits u z);
        };
        links_used = λ r u w l. ∥∥₁_elim t (hlevel props) (λ x. x.links_used r u w l);
        listed = λ r w. ∥∥₁_elim t (hlevel props) (λ x. x.listed r w);
        listed_within = λ r w. ∥∥₁_elim t (hlevel props) (λ x. x.listed_within r w);
        chain = (c.0, c.1.0, c.1.1);
        counts = λ r w. ∥∥₁_elim t (hlevel props) (λ x. x.counts r w);
        cover = λ r u. the_least (covered s r u) (∥∥₁_map t (λ l. l.cover r u));
      }
