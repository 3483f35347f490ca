-- A store that agrees with the ledger keeps the promises.
use Rattle.std.proofs.Common.{◌≡◌, ℕ, zero, suc, ◌+◌, ◌-◌, ◌<◌, ◌≤◌, Bool, true, false, cond, not, eqb, List, [], ◌∷◌, length, get_or, sum_by, sym, refl, ap, ◌∙◌, subst, arith}
use Rattle.std.proofs.lemmas.List.Sums.{sum_by-cons}
use Rattle.std.proofs.lemmas.Bool.{both_ways, true≢false, and_from, and_parts, ne_eqb, not-true, cond-true, cond-false}
use Rattle.kinds.specs.Rows.{Row, Shape, blank}
use Rattle.model.specs.State.{State, Within, head, row, no_row}
use Rattle.model.specs.Headers.{Header, free_header}
use Rattle.model.specs.Lawful.{Lawful, Used, Reachable, naming, named}
use Rattle.model.specs.Lawful.From.{here, along}
use Rattle.model.specs.History.{Ledger, entry, no_entry, in_play, tied_among, tied_in, Live}
use Rattle.model.proofs.Counting.{naming_blank, naming_has, naming_le_named}
use Rattle.model.proofs.LawfulCalls.{held_used}

-- The ledger and the store say the same: holds of every record, links and bytes of those in use that are not spent.
pub record Agrees (l : Ledger) (s : State) : Type 0 where
  pub same_size : length l ≡ length s.rows
  pub same_holds : (r : ℕ) → Within s r → (entry l r).holds ≡ (head s r).holds
  pub same_row : (r : ℕ) → Within s r → in_play (head s r) ≡ true → (entry l r).row ≡ row s r

-- in use with a count is in play; what is not in play is blank
pub playing : (h : Header) → h.used ≡ true → 0 < h.count → in_play h ≡ true
playing h u c = and_from h.used (not (eqb h.count 0)) u (ap not (ne_eqb h.count 0 (λ e. omega arith)))

pub counted : (h : Header) → in_play h ≡ true → 0 < h.count
counted h p = positive h.count (not-true (eqb h.count 0) (and_parts h.used (not (eqb h.count 0)) p).1)
  where
    positive : (n : ℕ) → eqb n 0 ≡ false → 0 < n
    positive zero e = absurd (true≢false e)
    positive (suc n) e = omega arith

module _ (k : Shape) (s : State) (law : Lawful k s) where
  pub resting_blank : (r : ℕ) → Within s r → in_play (head s r) ≡ false → row s r ≡ blank k
  resting_blank r w p = by_use (head s r).used refl
    where
      by_use : (b : Bool) → (head s r).used ≡ b → row s r ≡ blank k
      by_use false e = ((law.each r w).settled.free_blank e).0
      by_use true e =
          ((law.each r w).spent_waits e (zero_count (head s r).count (λ c. both_ways (in_play (head s r)) p (playing (head s r) e c)))).0
        where
          zero_count : (n : ℕ) → (0 < n → ⊥) → n ≡ 0
          zero_count zero no_more = refl
          zero_count (suc n) no_more = absurd (no_more (omega arith))

  -- what can be come to from a held record is in use and in play
  pub reachable_playing : {r : ℕ} → Reachable s r → Used s r × (in_play (head s r) ≡ true)
  reachable_playing {r} (here h) = let live = held_used k s r law h in ((h.0, live.0), playing (head s r) live.0 live.1)
  reachable_playing {r} (along {r = q} f ties) =
      let from = reachable_playing f in
      let used = law.links_used q r from.0.0 ties in
      let n = naming_has (row s q).links ties.1.0 r ties.0 ties.1.1 in
      let m = naming_le_named s q r from.0.0 in
      (used, playing (head s r) used.1 (omega (arith, law.counts r used.0, n, m)))

  -- record by record, the ledger's links of what is in play are the links of the table
  tied_at : (l : Ledger) → Agrees l s → (t : ℕ) → 1 ≤ t → (r : ℕ) → Within s r →
      cond (in_play (head s r)) (naming t (entry l r).row.links) 0 ≡ naming t (row s r).links
  tied_at l agrees t a r w = by_play (in_play (head s r)) refl
    where
      by_play : (b : Bool) → in_play (head s r) ≡ b → cond (in_play (head s r)) (naming t (entry l r).row.links) 0 ≡ naming t (row s r).links
      by_play true e =
          cond-true (in_play (head s r)) _ _ e ∙ ap (λ w. naming t w.links) (agrees.same_row r w e)
      by_play false e =
          cond-false (in_play (head s r)) _ _ e ∙ sym (ap (λ w. naming t w.links) (resting_blank r w e) ∙ naming_blank t k.links a)

-- the sum over three lists side by side
tied_sum :
    (t : ℕ) (hs : List Header) (l : Ledger) (ws : List Row) → length hs ≡ length ws → length l ≡ length ws →
    ((i : ℕ) → i < length ws →
    cond (in_play (get_or hs i (free_header 0))) (naming t (get_or l i no_entry).row.links) 0 ≡ naming t (get_or ws i no_row).links) →
    tied_among t hs l ≡ sum_by (λ w. naming t w.links) ws
tied_sum t [] l [] a b each = refl
tied_sum t [] l (w ∷ ws) a b each = let no : ⊥ = omega arith in absurd no
tied_sum t (h ∷ hs) l [] a b each = let no : ⊥ = omega arith in absurd no
tied_sum t (h ∷ hs) [] (w ∷ ws) a b each = let no : ⊥ = omega arith in absurd no
tied_sum t (h ∷ hs) (e ∷ l) (w ∷ ws) a b each =
    omega (
      arith,
      each 0 (omega arith),
      tied_sum t hs l ws (omega arith) (omega arith) (λ i less. each (suc i) (omega arith)),
      sum_by-cons (λ x. naming t x.links) w ws,
    )

module _ (k : Shape) (s : State) (l : Ledger) (law : Lawful k s) (agrees : Agrees l s) where
  -- counts are the holds handed out and the links as the calls alone have them
  pub tied_in_named : (t : ℕ) → 1 ≤ t → tied_in s l t ≡ named s t
  tied_in_named t a =
      tied_sum t s.heads l s.rows law.heads_fit agrees.same_size
      (λ i less.
      let w : Within s (i + 1) = (omega arith, omega arith) in
      let e : (i + 1) - 1 ≡ i = omega arith in
      subst (λ j. cond (in_play (get_or s.heads j (free_header 0))) (naming t (get_or l j no_entry).row.links) 0 ≡ naming t (get_or s.rows j no_row).links) e
      (tied_at k s law l agrees t a (i + 1) w))

  pub counts_agree : (r : ℕ) → Within s r → (head s r).count ≡ (entry l r).holds + tied_in s l r
  counts_agree r w = omega (arith, law.counts r w, agrees.same_holds r w, tied_in_named r w.0)

  -- what can be come to by the calls alone can be come to in the store, and the other way round
  pub live_reachable : {r : ℕ} → Live l r → Reachable s r
  live_reachable {r} (here h) =
      let w : Within s r = (h.0, omega (arith, agrees.same_size, h.1.0)) in
      here (w, omega (arith, agrees.same_holds r w, h.1.1))
  live_reachable {r} (along {r = q} f tie) =
      let from = live_reachable f in
      let p = reachable_playing k s law from in
      along from (tie.0, (tie.1.0, ap (λ w. get_or w.links tie.1.0 0) (sym (agrees.same_row q p.0.0 p.1)) ∙ tie.1.1))

  pub reachable_live : {r : ℕ} → Reachable s r → Live l r
  reachable_live {r} (here h) =
      here (h.0.0, (omega (arith, agrees.same_size, h.0), omega (arith, agrees.same_holds r h.0, h.1)))
  reachable_live {r} (along {r = q} f ties) =
      let p = reachable_playing k s law f in
      along (reachable_live f)
      (ties.0, (ties.1.0, ap (λ w. get_or w.links ties.1.0 0) (agrees.same_row q p.0.0 p.1) ∙ ties.1.1))

  -- what is reachable by the calls alone is in use and in play
  pub live_playing : {r : ℕ} → Live l r → Used s r × (in_play (head s r) ≡ true)
  live_playing live = reachable_playing k s law (live_reachable live)

  pub reachable_kept : (r : ℕ) → Live l r → Used s r × (row s r ≡ (entry l r).row)
  reachable_kept r live =
      let p = live_playing live in
      (p.0, sym (agrees.same_row r p.0.0 p.1))
