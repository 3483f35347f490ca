-- Every call leaves a lawful store lawful.
use Rattle.std.proofs.Common.{◌≡◌, ℕ, zero, suc, ◌+◌, ◌-◌, ◌<◌, ◌≤◌, Bool, true, false, ◌&&◌, ◌||◌, eqb, ltb, ◌⊎◌, [], ◌∷◌, get_or, set, refl, inl, inr, arith}
use Rattle.std.proofs.lemmas.List.{length-set, get_or-set_same, get_or-set_other}
use Rattle.std.proofs.lemmas.List.Sums.{count_by-le-length}
use Rattle.std.proofs.lemmas.Bool.{cond_both, eqb-true, eqb-false, ltb-true, and_parts, or_cases}
use Rattle.kinds.specs.Rows.{Shape}
use Rattle.model.specs.State.{State, head, row, with_head}
use Rattle.model.specs.Headers.{free_header, raised, held_less}
use Rattle.model.specs.Calls.{Answered, refused, is_held, asked, make, hold_more, hold_answer, load_link, load_answer, started, raised_at, relinked, link_answer, byte_answer, look_answer, drop_answer, answered}
use Rattle.model.specs.Lawful.{Lawful, Used, Held}
use Rattle.model.specs.Releasing.{Releasing}
use Rattle.model.specs.Collection.{collected}
use Rattle.model.specs.Collected.{AfterCollection}
use Rattle.model.specs.Walk.Task.{follow}
use Rattle.model.specs.declared.calls.Call.{Call}
use Rattle.model.specs.declared.calls.Call.TheVariants.{Make, Hold, Load, Link, Byte, Look, Drop, Collect, Tally}
use Rattle.model.specs.declared.refusals.Refusal.TheVariants.{NotHeld, NoSuchField}
use Rattle.model.proofs.LawfulCalls.{held_used, held_from_test, front_free, lawful_taken, lawful_held_more, lawful_byte}
use Rattle.model.proofs.Lowering.{lawful_lower}
use Rattle.model.proofs.Owing.{owing_drop, owing_link}
use Rattle.model.proofs.Collections.{collection_law}

-- the three ways out of a question
pub asked_both :
    (held field : Bool) (s : State) (f : Unit {0} → Answered) (P : Answered → Type 0) → (held ≡ true → field ≡ true → P (f tt)) →
    P (refused NoSuchField s) → P (refused NotHeld s) → P (asked held field s f)
asked_both true true s f P y n m = y refl refl
asked_both true false s f P y n m = n
asked_both false true s f P y n m = m
asked_both false false s f P y n m = m

-- the records that a link names pass its test
pub target_from_test : (s : State) (r t : ℕ) → (is_held s r && (eqb t 0 || is_held s t)) ≡ true → Held s r × ((t ≡ 0) ⊎ Held s t)
target_from_test s r t e =
    let p = and_parts (is_held s r) (eqb t 0 || is_held s t) e in
    (held_from_test s r p.0, elim (or_cases (eqb t 0) (is_held s t) p.1) [ inl z ↦ inl (eqb-true t 0 z) | inr h ↦ inr (held_from_test s t h) ])

-- with or without a new target
pub owing_relinked :
    (k : Shape) (s : State) (x l t : ℕ) → Lawful k s → Held s x → (t ≡ 0) ⊎ Held s t → l < k.links →
    Releasing k (started (relinked (raised_at s t) x l t)) (follow (get_or (row s x).links l 0) ∷ [])
owing_relinked k s x l t law source target field =
    cond_both (eqb t 0) s (with_head s t (raised (head s t)))
    (λ y. Releasing k (started (relinked y x l t)) (follow (get_or (row s x).links l 0) ∷ []))
    (λ e. owing_link k s x l t law source target field s.heads
    (record { size = refl; there = λ n. absurd (n (eqb-true t 0 e)); elsewhere = λ _ _ _. refl }))
    (λ e. owing_link k s x l t law source target field (set s.heads (t - 1) (raised (head s t)))
    (record {
      size = length-set s.heads (t - 1) (raised (head s t));
      there = λ _. elim target [
        | inl z ↦ absurd (eqb-false t 0 e z)
        | inr h ↦ get_or-set_same s.heads (t - 1) (raised (head s t)) (free_header 0) (omega (arith, h.0, law.heads_fit))
      ];
      elsewhere = λ r a n. get_or-set_other s.heads (t - 1) (r - 1) (raised (head s t)) (free_header 0)
          (elim target [ inl z ↦ absurd (eqb-false t 0 e z) | inr h ↦ (let p = h.0.0 in omega arith) ]);
    }))

-- a collection from the start of a call, which has given up nothing yet
pub collect_law : (k : Shape) (s : State) → Lawful k s → AfterCollection k (started s) (collected k (started s))
collect_law k s law =
    collection_law k (started s) law (omega (arith, count_by-le-length (λ h. h.used) s.heads, law.heads_fit, law.few))

module _ (k : Shape) (s : State) (law : Lawful k s) where
  abbrev LawfulAfter : Answered → Type 0
  LawfulAfter a = Lawful k a.store

  lawful_make : LawfulAfter (make s)
  lawful_make = cond_both (eqb s.front 0) _ _ LawfulAfter (λ _. law)
      (λ e.
      let f = front_free k s law (eqb-false s.front 0 e) in
      lawful_taken k s s.front law f.within f.free f.rest f.chained f.once_each)

  lawful_hold_more : (r n : ℕ) → Used s r → LawfulAfter (hold_more s r n)
  lawful_hold_more r n u = cond_both (ltb (head s r).holds 1000) _ _ LawfulAfter
      (λ l. lawful_held_more k s r law u (ltb-true (head s r).holds 1000 l)) (λ _. law)

  held_is_used : (r : ℕ) → Held s r → Used s r
  held_is_used r h = (h.0, (held_used k s r law h).0)

  -- a link that is not empty names a record in use
  lawful_load_link : (r l : ℕ) → Held s r → LawfulAfter (load_link s (get_or (row s r).links l 0))
  lawful_load_link r l h = cond_both (eqb (get_or (row s r).links l 0) 0) _ _ LawfulAfter (λ _. law)
      (λ e. lawful_hold_more (get_or (row s r).links l 0) (get_or (row s r).links l 0)
      (law.links_used r (get_or (row s r).links l 0) h.0 (positive (get_or (row s r).links l 0) (eqb-false (get_or (row s r).links l 0) 0 e), (l, refl))))
    where
      positive : (n : ℕ) → (n ≡ 0 → ⊥) → 1 ≤ n
      positive zero f = absurd (f refl)
      positive (suc n) f = omega arith

  pub lawful_answered : (c : Call) → LawfulAfter (answered k s c)
  lawful_answered Make = lawful_make
  lawful_answered (Hold r) =
      asked_both (is_held s r) true s (λ _. hold_answer s r) LawfulAfter
      (λ h _. lawful_hold_more r ((head s r).holds + 1) (held_is_used r (held_from_test s r h))) law law
  lawful_answered (Load r l) =
      asked_both (is_held s r) (ltb l k.links) s (λ _. load_answer s r l) LawfulAfter (λ h _. lawful_load_link r l (held_from_test s r h)) law law
  lawful_answered (Link r l t) =
      asked_both (is_held s r && (eqb t 0 || is_held s t)) (ltb l k.links) s (λ _. link_answer k s r l t) LawfulAfter
      (λ h f.
      let p = target_from_test s r t h in
      lawful_lower k (started (relinked (raised_at s t) r l t)) (get_or (row s r).links l 0)
      (owing_relinked k s r l t law p.0 p.1 (ltb-true l k.links f))) law law
  lawful_answered (Byte r b v) =
      asked_both (is_held s r) (ltb b k.bytes) s (λ _. byte_answer s r b v) LawfulAfter
      (λ h _. lawful_byte k s r law (held_from_test s r h) b v) law law
  lawful_answered (Look r b) = asked_both (is_held s r) (ltb b k.bytes) s (λ _. look_answer s r b) LawfulAfter (λ _ _. law) law law
  lawful_answered (Drop r) =
      asked_both (is_held s r) true s (λ _. drop_answer k s r) LawfulAfter
      (λ h _. lawful_lower k (started (with_head s r (held_less (head s r)))) r (owing_drop k s r law (held_from_test s r h))) law law
  lawful_answered Collect = (collect_law k s law).lawful
  lawful_answered Tally = law
