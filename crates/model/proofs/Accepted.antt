-- What a call answers where its tests come out so or so.
use Rattle.std.proofs.Common.{◌≡◌, ℕ, ◌<◌, ◌≤◌, Bool, true, false, not, ◌&&◌, eqb, ltb, leb, length, sym, refl, ap, ◌∙◌, arith}
use Rattle.std.proofs.lemmas.Bool.{cond-true, cond-false, ne_eqb, le-leb, lt-leb, lt-ltb, le-ltb, and_right}
use Rattle.model.specs.State.{State, head, with_head}
use Rattle.model.specs.Headers.{raised, held_more}
use Rattle.model.specs.Calls.{Answered, refused, is_held, asked, taken, make, hold_more}
use Rattle.model.specs.declared.calls.Reply.TheVariants.{Number}
use Rattle.model.specs.declared.refusals.Refusal.TheVariants.{TooManyHolds}

-- the test of a record: one of the store's, and held
pub held_test : (s : State) (r h : ℕ) → 1 ≤ r → r ≤ length s.rows → h ≡ (head s r).holds → ltb 0 h ≡ is_held s r
held_test s r h low high e =
    ap (ltb 0) e
    ∙ sym (ap (λ b. not b && (leb r (length s.rows) && ltb 0 (head s r).holds)) (ne_eqb r 0 (λ z. omega arith))
    ∙ ap (λ b. b && ltb 0 (head s r).holds) (le-leb r (length s.rows) high))

pub not_held_zero : (s : State) → is_held s 0 ≡ false
not_held_zero s = refl

pub not_held_above : (s : State) (r : ℕ) → length s.rows < r → is_held s r ≡ false
not_held_above s r h =
    and_right (not (eqb r 0)) _ (ap (λ b. b && ltb 0 (head s r).holds) (lt-leb r (length s.rows) h))

pub make_accepted : (s : State) → (s.front ≡ 0 → ⊥) → make s ≡ record { reply = Number s.front; store = taken s s.front }
make_accepted s n = cond-false (eqb s.front 0) _ _ (ne_eqb s.front 0 n)

-- the three ways out of a question
module _ (s : State) (f : Unit {0} → Answered) where
  pub asked_yes : (held field : Bool) → held ≡ true → field ≡ true → asked held field s f ≡ f tt
  asked_yes held field h b = ap (λ x. asked x field s f) h ∙ ap (λ x. asked true x s f) b

pub hold_more_accepted :
    (s : State) (r n : ℕ) → (head s r).holds < 1000 →
    hold_more s r n ≡ record { reply = Number n; store = with_head s r (held_more (raised (head s r))) }
hold_more_accepted s r n l = cond-true (ltb (head s r).holds 1000) _ _ (lt-ltb (head s r).holds 1000 l)

pub hold_more_refused : (s : State) (r n : ℕ) → 1000 ≤ (head s r).holds → hold_more s r n ≡ refused TooManyHolds s
hold_more_refused s r n l = cond-false (ltb (head s r).holds 1000) _ _ (le-ltb (head s r).holds 1000 l)
