-- Every history of calls: one induction over the list of calls.
use Rattle.std.proofs.Common.{◌≡◌, ℕ, zero, suc, ◌+◌, ◌-◌, ◌<◌, ◌≤◌, min, Bool, true, false, cond, ◌&&◌, ◌||◌, eqb, ltb, ◌≢◌, ◌⊎◌, List, [], ◌∷◌, ◌++◌, map, length, get_or, take, set, fold, sym, refl, ap, ◌∙◌, subst, inl, inr, arith}
use Rattle.std.proofs.lemmas.List.{length-set, length-replicate, get_or-replicate, map-append}
use Rattle.std.proofs.lemmas.List.Sums.{sum_by-cons, sum_by-set, fold_push}
use Rattle.std.proofs.lemmas.Bool.{false≢true, cond_both, eqb-false, ltb-true}
use Rattle.kinds.specs.Rows.{Row, Shape, blank, with_link, with_byte}
use Rattle.model.specs.State.{State, Within, head, row, no_row, in_use, with_head, with_row, with_front}
use Rattle.model.specs.Headers.{Header, free_header, made_header, raised, held_more, held_less}
use Rattle.model.specs.Calls.{Answered, refused, is_held, make, hold, hold_more, hold_answer, load, load_answer, started, raised_at, relinked, link, link_answer, byte, byte_answer, look, look_answer, drop, drop_answer, collect, answered, new, played}
use Rattle.model.specs.Lawful.{Lawful, Used, Held, Links, once}
use Rattle.model.specs.Release.{lower}
use Rattle.model.specs.Collection.{collected}
use Rattle.model.specs.Walk.{Progress}
use Rattle.model.specs.History.{Event, Entry, Ledger, entry, no_entry, empty_ledger, one_more, one_less, linked, noted, ledger, made_by, given_by, makes, give_ups, is_collect, ends_in_collection, in_play, Live, Promises, After, GoesOn, events, then}
use Rattle.model.specs.declared.calls.Call.{Call}
use Rattle.model.specs.declared.calls.Call.TheVariants.{Make, Hold, Load, Link, Byte, Look, Drop, Collect, Tally}
use Rattle.model.specs.declared.calls.Reply.{Reply}
use Rattle.model.specs.declared.calls.Reply.TheVariants.{Number}
use Rattle.model.specs.declared.refusals.Refusal.{Refusal}
use Rattle.model.specs.declared.refusals.Refusal.TheVariants.{Full, NotHeld, NoSuchField, TooManyHolds}
use Rattle.model.proofs.Places.{each_set, each_head, each_both}
use Rattle.model.proofs.Counting.{naming_has, naming_le_named}
use Rattle.model.proofs.LawfulCalls.{held_used, held_from_test, front_free}
use Rattle.model.proofs.LawfulAnswers.{lawful_answered, collect_law, asked_both, target_from_test, owing_relinked}
use Rattle.model.proofs.Owing.{owing_drop}
use Rattle.model.proofs.Unharmed.{Unharmed, lower_unharmed, unharmed_start, collection_unharmed}
use Rattle.model.proofs.NewStore.{lawful_new, new_head, new_row, in_use_new}
use Rattle.model.proofs.Ledgers.{Agrees, playing, counts_agree, reachable_kept, reachable_live}

-- what one call keeps
pub record Kept (k : Shape) (l : Ledger) (s : State) (c : Call) (a : Answered) : Type 0 where
  pub agrees : Agrees (noted k l c a.reply) a.store
  pub accounted : made_by c a.reply + in_use s ≡ in_use a.store + given_by c a.reply

-- one row, and the entry beside it
agrees_with_row :
    (l : Ledger) (s : State) → Agrees l s → (x : ℕ) (w : Row) (e : Entry) → Within s x → e.holds ≡ (entry l x).holds → (in_play (head s x) ≡ true → e.row ≡ w) →
    Agrees (set l (x - 1) e) (with_row s x w)
agrees_with_row l s agrees x w e inside holds rows = record {
  same_size = length-set l (x - 1) e ∙ agrees.same_size ∙ sym size;
  same_holds = λ y a.
      each_set l no_entry x e (λ z g. Within s z → g.holds ≡ (head s z).holds) inside.0 (omega (arith, inside.1, agrees.same_size))
      (λ v. holds ∙ agrees.same_holds x v) (λ z _ _ _. agrees.same_holds z) y a.0 (omega (arith, a.1, agrees.same_size, size)) (before y a);
  same_row = λ y a.
      each_both l no_entry s.rows no_row x e w (λ z g d. Within s z → in_play (head s z) ≡ true → g.row ≡ d)
      inside.0 (omega (arith, inside.1, agrees.same_size)) inside.1 (λ _. rows) (λ z _ _. agrees.same_row z) y a.0 (before y a);
}
  where
    size : length (set s.rows (x - 1) w) ≡ length s.rows
    size = length-set s.rows (x - 1) w

    before : (y : ℕ) → Within (with_row s x w) y → Within s y
    before y a = (a.0, omega (arith, a.1, size))

-- a record that is raised was in play, and keeps its holds
agrees_raised : (k : Shape) (l : Ledger) (s : State) (t : ℕ) → Lawful k s → Agrees l s → (t ≡ 0) ⊎ Held s t → Agrees l (raised_at s t)
agrees_raised k l s t law agrees target =
    cond_both (eqb t 0) s (with_head s t (raised (head s t))) (Agrees l) (λ _. agrees)
    (λ e. elim target [
      | inl z ↦ absurd (eqb-false t 0 e z)
      | inr h ↦
          let live = held_used k s t law h in
          record {
            same_size = agrees.same_size;
            same_holds = each_head s t h.0 (raised (head s t)) (λ y d. (entry l y).holds ≡ d.holds) law.heads_fit
                (agrees.same_holds t h.0) (λ y v _. agrees.same_holds y v);
            same_row = each_head s t h.0 (raised (head s t)) (λ y d. in_play d ≡ true → (entry l y).row ≡ row s y) law.heads_fit
                (λ _. agrees.same_row t h.0 (playing (head s t) live.0 live.1)) (λ y v _. agrees.same_row y v);
          }
    ])

-- what a release or a collection leaves agrees with the ledger as what it began with
agrees_unharmed : (l : Ledger) (s : State) (c : ℕ) (g : Progress) → Agrees l s → Unharmed s c g → Agrees l g.store
agrees_unharmed l s c g agrees J = record {
  same_size = agrees.same_size ∙ sym J.same_size;
  same_holds = λ r w. let v : Within s r = (w.0, omega (arith, w.1, J.same_size)) in agrees.same_holds r v ∙ sym (J.same_holds r v);
  same_row = λ r w p.
      let v : Within s r = (w.0, omega (arith, w.1, J.same_size)) in
      let q = J.same_row r v p in
      agrees.same_row r v q.0 ∙ sym q.1;
}

module _ (k : Shape) (l : Ledger) (s : State) (law : Lawful k s) (agrees : Agrees l s) where
  kept_refused : (c : Call) (e : Refusal) → Kept k l s c (refused e s)
  kept_refused c e = record { agrees = agrees; accounted = omega arith }

  -- one head, and the entry beside it
  agrees_with_head :
      (x : ℕ) (h : Header) (e : Entry) (f : ℕ) → Within s x → e.holds ≡ h.holds → (in_play h ≡ true → e.row ≡ row s x) →
      Agrees (set l (x - 1) e) (with_front (with_head s x h) f)
  agrees_with_head x h e f w holds rows = record {
    same_size = length-set l (x - 1) e ∙ agrees.same_size;
    same_holds = λ r v. both (λ y g d. Within s y → g.holds ≡ d.holds) (λ _. holds) (λ y _ _. agrees.same_holds y) r v.0 v;
    same_row = λ r v.
        both (λ y g d. Within s y → in_play d ≡ true → g.row ≡ row s y) (λ _. rows) (λ y _ _. agrees.same_row y) r v.0 v;
  }
    where
      both :
          (P : ℕ → Entry → Header → Type 0) → P x e h → ((r : ℕ) → 1 ≤ r → r ≢ x → P r (entry l r) (head s r)) →
          (r : ℕ) → 1 ≤ r → P r (entry (set l (x - 1) e) r) (head (with_head s x h) r)
      both P =
          each_both l no_entry s.heads (free_header 0) x e h P w.0 (omega (arith, agrees.same_size)) (omega (arith, law.heads_fit))

  -- how many are in use, with one head changed
  in_use_with_head : (x : ℕ) (h : Header) → Within s x → in_use (with_head s x h) + once (head s x).used ≡ in_use s + once h.used
  in_use_with_head x h w = sum_by-set (λ g. cond g.used 1 0) s.heads (x - 1) h (free_header 0) (omega (arith, law.heads_fit))

  kept_make : Kept k l s Make (make s)
  kept_make = cond_both (eqb s.front 0) _ _ (Kept k l s Make) (λ _. kept_refused Make Full)
      (λ e.
      let f = front_free k s law (eqb-false s.front 0 e) in
      record {
        agrees =
            agrees_with_head s.front made_header (record { holds = 1; row = blank k }) (head s s.front).next f.within refl
            (λ _. sym ((law.each s.front f.within).settled.free_blank f.free).0);
        accounted = omega (arith, in_use_with_head s.front made_header f.within, ap once f.free);
      })

  kept_hold_more :
      (c : Call) (x n : ℕ) → Used s x → 0 < (head s x).count → noted k l c (Number n) ≡ one_more l x → made_by c (Number n) ≡ 0 → given_by c (Number n) ≡ 0 →
      Kept k l s c (hold_more s x n)
  kept_hold_more c x n u counted notes makes_none gives_none = cond_both (ltb (head s x).holds 1000) _ _ (Kept k l s c)
      (λ _. record {
        agrees = subst (λ m. Agrees m (with_head s x (held_more (raised (head s x))))) (sym notes)
            (agrees_with_head x (held_more (raised (head s x))) (record { holds = (entry l x).holds + 1; row = (entry l x).row }) s.front u.0
            (ap (λ m. m + 1) (agrees.same_holds x u.0)) (λ _. agrees.same_row x u.0 (playing (head s x) u.1 counted)));
        accounted = omega (arith, in_use_with_head x (held_more (raised (head s x))) u.0, makes_none, gives_none);
      })
      (λ _. kept_refused c TooManyHolds)

  kept_hold : (r : ℕ) → Kept k l s (Hold r) (hold s r)
  kept_hold r = asked_both (is_held s r) true s (λ _. hold_answer s r) (Kept k l s (Hold r))
      (λ e _.
      let held = held_from_test s r e in
      let live = held_used k s r law held in
      kept_hold_more (Hold r) r ((head s r).holds + 1) (held.0, live.0) live.1 refl refl refl)
      (kept_refused (Hold r) NoSuchField) (kept_refused (Hold r) NotHeld)

  kept_load : (r i : ℕ) → Kept k l s (Load r i) (load k s r i)
  kept_load r i = asked_both (is_held s r) (ltb i k.links) s (λ _. load_answer s r i) (Kept k l s (Load r i))
      (λ e _. cond_both (eqb t 0) _ _ (Kept k l s (Load r i)) (λ _. record { agrees = agrees; accounted = omega arith })
      (λ n.
      let held = held_from_test s r e in
      let ties : Links s r t = (positive t (eqb-false t 0 n), (i, refl)) in
      let u = law.links_used r t held.0 ties in
      let m = naming_has (row s r).links i t ties.0 refl in
      kept_hold_more (Load r i) t t u (omega (arith, law.counts t u.0, m, naming_le_named s r t held.0)) refl refl refl))
      (kept_refused (Load r i) NoSuchField) (kept_refused (Load r i) NotHeld)
    where
      t : ℕ
      t = get_or (row s r).links i 0

      positive : (n : ℕ) → (n ≡ 0 → ⊥) → 1 ≤ n
      positive zero f = absurd (f refl)
      positive (suc n) f = omega arith

  kept_byte : (r b v : ℕ) → Kept k l s (Byte r b v) (byte k s r b v)
  kept_byte r b v = asked_both (is_held s r) (ltb b k.bytes) s (λ _. byte_answer s r b v) (Kept k l s (Byte r b v))
      (λ e _.
      let held = held_from_test s r e in
      let live = held_used k s r law held in
      record {
        agrees = agrees_with_row l s agrees r (with_byte (row s r) b v) (record { holds = (entry l r).holds; row = with_byte (entry l r).row b v }) held.0 refl
            (λ p. ap (λ w. with_byte w b v) (agrees.same_row r held.0 p));
        accounted = omega arith;
      })
      (kept_refused (Byte r b v) NoSuchField) (kept_refused (Byte r b v) NotHeld)

  kept_look : (r b : ℕ) → Kept k l s (Look r b) (look k s r b)
  kept_look r b = asked_both (is_held s r) (ltb b k.bytes) s (λ _. look_answer s r b) (Kept k l s (Look r b))
      (λ _ _. record { agrees = agrees; accounted = omega arith }) (kept_refused (Look r b) NoSuchField) (kept_refused (Look r b) NotHeld)

  in_use_raised : (t : ℕ) → (t ≡ 0) ⊎ Held s t → in_use (raised_at s t) ≡ in_use s
  in_use_raised t target =
      cond_both (eqb t 0) s (with_head s t (raised (head s t))) (λ y. in_use y ≡ in_use s) (λ _. refl)
      (λ e. elim target [ inl z ↦ absurd (eqb-false t 0 e z) | inr h ↦ omega (arith, in_use_with_head t (raised (head s t)) h.0) ])

  raised_same_rows : (t : ℕ) → (raised_at s t).rows ≡ s.rows
  raised_same_rows t = cond_both (eqb t 0) s (with_head s t (raised (head s t))) (λ y. y.rows ≡ s.rows) (λ _. refl) (λ _. refl)

  -- the held record x is in play after the raise too
  raised_plays : (x t : ℕ) → Held s x → in_play (head s x) ≡ true
  raised_plays x t h = let live = held_used k s x law h in playing (head s x) live.0 live.1

  kept_link : (r i t : ℕ) → Kept k l s (Link r i t) (link k s r i t)
  kept_link r i t = asked_both (is_held s r && (eqb t 0 || is_held s t)) (ltb i k.links) s (λ _. link_answer k s r i t) (Kept k l s (Link r i t))
      (λ e f.
      let p = target_from_test s r t e in
      let owing = owing_relinked k s r i t law p.0 p.1 (ltb-true i k.links f) in
      let start = relinked (raised_at s t) r i t in
      let J = lower_unharmed k start (in_use start + 0) (started start) (get_or (row s r).links i 0) owing (unharmed_start (started start)) in
      let rows = raised_same_rows t in
      let inside : Within (raised_at s t) r = (p.0.0.0, omega (arith, p.0.0.1, ap length rows)) in
      let same : row (raised_at s t) r ≡ row s r = ap (λ ws. get_or ws (r - 1) no_row) rows in
      let raised_agrees = agrees_raised k l s t law agrees p.1 in
      record {
        agrees =
            agrees_unharmed (linked l r i t) start (in_use start + 0) (lower k (started start) (get_or (row s r).links i 0))
            (agrees_with_row l (raised_at s t) raised_agrees r (with_link (row (raised_at s t) r) i t)
            (record { holds = (entry l r).holds; row = with_link (entry l r).row i t }) inside refl
            (λ _. ap (λ w. with_link w i t) (agrees.same_row r p.0.0 (raised_plays r t p.0) ∙ sym same)))
            J;
        accounted = omega (arith, J.same_sum, in_use_raised t p.1);
      })
      (kept_refused (Link r i t) NoSuchField) (kept_refused (Link r i t) NotHeld)

  kept_drop : (r : ℕ) → Kept k l s (Drop r) (drop k s r)
  kept_drop r = asked_both (is_held s r) true s (λ _. drop_answer k s r) (Kept k l s (Drop r))
      (λ e _.
      let held = held_from_test s r e in
      let start = with_head s r (held_less (head s r)) in
      let J = lower_unharmed k start (in_use start + 0) (started start) r (owing_drop k s r law held) (unharmed_start (started start)) in
      record {
        agrees =
            agrees_unharmed (one_less l r) start (in_use start + 0) (lower k (started start) r)
            (agrees_with_head r (held_less (head s r)) (record { holds = (entry l r).holds - 1; row = (entry l r).row }) s.front held.0
            (ap (λ n. n - 1) (agrees.same_holds r held.0)) (λ p. agrees.same_row r held.0 p))
            J;
        accounted = omega (arith, J.same_sum, in_use_with_head r (held_less (head s r)) held.0);
      })
      (kept_refused (Drop r) NoSuchField) (kept_refused (Drop r) NotHeld)

  kept_collect : Kept k l s Collect (collect k s)
  kept_collect =
      let J = collection_unharmed k (started s) (collected k (started s)) law (collect_law k s law) in
      record { agrees = agrees_unharmed l s (in_use s + 0) (collected k (started s)) agrees J; accounted = omega (arith, J.same_sum) }

  pub kept_answered : (c : Call) → Kept k l s c (answered k s c)
  kept_answered Make = kept_make
  kept_answered (Hold r) = kept_hold r
  kept_answered (Load r i) = kept_load r i
  kept_answered (Link r i t) = kept_link r i t
  kept_answered (Byte r b v) = kept_byte r b v
  kept_answered (Look r b) = kept_look r b
  kept_answered (Drop r) = kept_drop r
  kept_answered Collect = kept_collect
  kept_answered Tally = record { agrees = agrees; accounted = omega arith }

  -- what a collection leaves in use can be come to by the calls alone
  pub exact_answered :
      (c : Call) → is_collect c ≡ true → (r : ℕ) → Used (answered k s c).store r → Live (noted k l c (answered k s c).reply) r
  exact_answered Make e r u = absurd (false≢true e)
  exact_answered (Hold x) e r u = absurd (false≢true e)
  exact_answered (Load x i) e r u = absurd (false≢true e)
  exact_answered (Link x i t) e r u = absurd (false≢true e)
  exact_answered (Byte x b v) e r u = absurd (false≢true e)
  exact_answered (Look x b) e r u = absurd (false≢true e)
  exact_answered (Drop x) e r u = absurd (false≢true e)
  exact_answered Collect e r u = reachable_live k s l law agrees ((collect_law k s law).used_reachable r u)
  exact_answered Tally e r u = absurd (false≢true e)

-- What every call keeps: the store is lawful and agrees with the ledger l, m makes and g give-ups are accounted for, and
-- where the last call was a collection, what is in use can be come to by the calls alone.
pub record Faithful (k : Shape) (l : Ledger) (m g : ℕ) (swept : Bool) (s : State) : Type 0 where
  pub lawful : Lawful k s
  pub agrees : Agrees l s
  pub accounted : m ≡ in_use s + g
  pub exact : swept ≡ true → (r : ℕ) → Used s r → Live l r

pub faithful_answered :
    (k : Shape) (l : Ledger) (m g : ℕ) (b : Bool) (s : State) (c : Call) → Faithful k l m g b s →
    let a : Answered = answered k s c in
    Faithful k (noted k l c a.reply) (m + made_by c a.reply) (g + given_by c a.reply) (is_collect c) a.store
faithful_answered k l m g b s c F =
    let kept = kept_answered k l s F.lawful F.agrees c in
    record {
      lawful = lawful_answered k s F.lawful c;
      agrees = kept.agrees;
      accounted = omega (arith, kept.accounted, F.accounted);
      exact = exact_answered k l s F.lawful F.agrees c;
    }

-- From any such store, over any list of calls.
pub history_from :
    (k : Shape) (es : List Event) (s : State) (l : Ledger) (m g : ℕ) (b : Bool) → Faithful k l m g b s →
    (played k s (map (λ e. e.call) es)).replies ≡ map (λ e. e.reply) es →
    Faithful k (fold (λ x e. noted k x e.call e.reply) l es) (m + makes es) (g + give_ups es) (fold (λ _ e. is_collect e.call) b es)
    (played k s (map (λ e. e.call) es)).store
history_from k [] s l m g b F same =
    record { lawful = F.lawful; agrees = F.agrees; accounted = omega (arith, F.accounted); exact = F.exact }
history_from k (e ∷ es) s l m g b F same =
    let a : Answered = answered k s e.call in
    let first : a.reply ≡ e.reply = cc in
    let rest : (played k a.store (map (λ x. x.call) es)).replies ≡ map (λ x. x.reply) es = cc in
    let one = subst
    (λ r. Faithful k (noted k l e.call r) (m + made_by e.call r) (g + given_by e.call r) (is_collect e.call) a.store)
    first (faithful_answered k l m g b s e.call F) in
    let on = history_from k es a.store (noted k l e.call e.reply) (m + made_by e.call e.reply) (g + given_by e.call e.reply)
    (is_collect e.call) one rest in
    record {
      lawful = on.lawful;
      agrees = on.agrees;
      accounted =
          omega (
            arith,
            on.accounted,
            sum_by-cons (λ x. made_by x.call x.reply) e es,
            sum_by-cons (λ x. given_by x.call x.reply) e es,
          );
      exact = on.exact;
    }

-- A new store agrees with the empty ledger.
pub agrees_new : (k : Shape) (n : ℕ) → Agrees (empty_ledger k n) (new k n)
agrees_new k n = record {
  same_size = length-replicate n (record { holds = 0; row = blank k }) ∙ sym (length-replicate n (blank k));
  same_holds = λ r w.
      ap (λ e. e.holds) (get_or-replicate n (r - 1) (record { holds = 0; row = blank k }) no_entry (omega (arith, length-replicate n (blank k))))
      ∙ sym (ap (λ h. h.holds) (new_head k n r w));
  same_row = λ r w _.
      ap (λ e. e.row) (get_or-replicate n (r - 1) (record { holds = 0; row = blank k }) no_entry (omega (arith, length-replicate n (blank k))))
      ∙ sym (new_row k n r w);
}

pub every_history : (k : Shape) (n : ℕ) (es : List Event) (s : State) → After k n es s → Lawful k s × Promises k n es s
every_history k n es s after =
    let start : Faithful k (empty_ledger k n) 0 0 false (new k n) = record {
      lawful = lawful_new k n after.few;
      agrees = agrees_new k n;
      accounted = omega (arith, in_use_new k n);
      exact = λ e. absurd (false≢true e);
    } in
    let h = history_from k es (new k n) (empty_ledger k n) 0 0 false start after.replies in
    subst (λ x. Lawful k x × Promises k n es x) after.store (
      h.lawful,
      record {
        counts_agree = counts_agree k (played k (new k n) (map (λ e. e.call) es)).store (ledger k n es) h.lawful h.agrees;
        reachable_kept = reachable_kept k (played k (new k n) (map (λ e. e.call) es)).store (ledger k n es) h.lawful h.agrees;
        makes_accounted = omega (arith, h.accounted);
        exactly_reachable = h.exact;
      },
    )

-- whether a history ends in a collection lies with its last call
pub ends_last : (es : List Event) (e : Event) → ends_in_collection (es ++ (e ∷ [])) ≡ is_collect e.call
ends_last es e = fold_push (λ (b : Bool) (x : Event). is_collect x.call) false es e

-- A history goes on: from the making, and by one call more.
pub after_none : (k : Shape) (n : ℕ) → n ≤ 4095 → After k n [] (new k n)
after_none k n few = record { few = few; replies = refl; store = refl }

played_then :
    (k : Shape) (cs : List Call) (s : State) (c : Call) →
    ((played k s (cs ++ (c ∷ []))).replies ≡ (played k s cs).replies ++ ((answered k (played k s cs).store c).reply ∷ []))
    × ((played k s (cs ++ (c ∷ []))).store ≡ (answered k (played k s cs).store c).store)
played_then k [] s c = (refl, refl)
played_then k (d ∷ cs) s c =
    let on = played_then k cs (answered k s d).store c in
    (ap (λ rs. (answered k s d).reply ∷ rs) on.0, on.1)

pub after_then :
    (k : Shape) (n : ℕ) (es : List Event) (s : State) (c : Call) → After k n es s →
    After k n (then es c (answered k s c).reply) (answered k s c).store
after_then k n es s c after =
    let x : Event = record { call = c; reply = (answered k s c).reply } in
    let cs = map (λ e. e.call) es in
    let p = played_then k cs (new k n) c in
    let calls = map-append (λ (e : Event). e.call) es (x ∷ []) in
    let replies = map-append (λ (e : Event). e.reply) es (x ∷ []) in
    record {
      few = after.few;
      replies =
          ap (λ ds. (played k (new k n) ds).replies) calls ∙ p.0
          ∙ ap (λ rs. rs ++ ((answered k (played k (new k n) cs).store c).reply ∷ [])) after.replies
          ∙ ap (λ y. map (λ e. e.reply) es ++ ((answered k y c).reply ∷ [])) after.store
          ∙ sym replies;
      store = ap (λ ds. (played k (new k n) ds).store) calls ∙ p.1 ∙ ap (λ y. (answered k y c).store) after.store;
    }

-- One call as its definition answers it goes on with every history.
pub goes_on :
    (k : Shape) (s : State) (c : Call) (r : Reply) (t : State) → record { reply = r; store = t } ≡ answered k s c → GoesOn k s c r t
goes_on k s c r t e n es after =
    let on = subst (λ (a : Answered). After k n (then es c a.reply) a.store) (sym e) (after_then k n es s c after) in
    (on, (every_history k n (then es c r) t on).1)

-- One more call and answer, side by side.
pub events_push :
    (cs : List Call) (rs : List Reply) (c : Call) (r : Reply) → length cs ≡ length rs →
    events (cs ++ (c ∷ [])) (rs ++ (r ∷ [])) ≡ then (events cs rs) c r
events_push [] [] c r e = refl
events_push [] (x ∷ rs) c r e = let no : ⊥ = omega arith in absurd no
events_push (x ∷ cs) [] c r e = let no : ⊥ = omega arith in absurd no
events_push (x ∷ cs) (y ∷ rs) c r e = ap (λ es. record { call = x; reply = y } ∷ es) (events_push cs rs c r (omega arith))

-- Only as many calls count as there are answers, and the other way round.
pub events_all :
    (n : ℕ) (cs : List Call) (rs : List Reply) → n ≡ min (length cs) (length rs) → events (take n cs) (take n rs) ≡ events cs rs
events_all zero [] rs e = refl
events_all zero (c ∷ cs) [] e = refl
events_all zero (c ∷ cs) (r ∷ rs) e = let no : ⊥ = omega arith in absurd no
events_all (suc n) [] rs e = refl
events_all (suc n) (c ∷ cs) [] e = refl
events_all (suc n) (c ∷ cs) (r ∷ rs) e = ap (λ es. record { call = c; reply = r } ∷ es) (events_all n cs rs (omega arith))
