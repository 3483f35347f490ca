-- Reachability in a store that has changed.
use Rattle.std.proofs.Common.{ℕ, ◌⊎◌, inl, inr}
use Rattle.model.specs.Lawful.{From}
use Rattle.model.specs.Lawful.From.{here, along}

-- more to start from, and as many links to go along
pub from_more :
    {P Q : ℕ → Type 0} {To On : ℕ → ℕ → Type 0} → ((r : ℕ) → P r → Q r) → ((r t : ℕ) → To r t → On r t) →
    {r : ℕ} → From P To r → From Q On r
from_more p o (here a) = here (p _ a)
from_more p o (along f l) = along (from_more p o f) (o _ _ l)

-- starting points of two sorts
pub from_either :
    {P Q R : ℕ → Type 0} {To : ℕ → ℕ → Type 0} → ((r : ℕ) → P r → Q r ⊎ R r) →
    {r : ℕ} → From P To r → From Q To r ⊎ From R To r
from_either p (here a) = elim (p _ a) [ inl q ↦ inl (here q) | inr q ↦ inr (here q) ]
from_either p (along f l) = elim (from_either p f) [ inl q ↦ inl (along q l) | inr q ↦ inr (along q l) ]

-- A step takes some records out of the links that count. What was come to through them is come to afresh.
pub from_past :
    {P Q : ℕ → Type 0} {To On : ℕ → ℕ → Type 0} (Gone : ℕ → Type 0) → ((r : ℕ) → Gone r ⊎ (Gone r → ⊥)) →
    ((r : ℕ) → P r → Gone r ⊎ Q r) → ((r t : ℕ) → To r t → Gone r → Q t) → ((r t : ℕ) → To r t → (Gone r → ⊥) → On r t) →
    {r : ℕ} → From P To r → Gone r ⊎ From Q On r
from_past Gone known starts lost kept (here a) = elim (starts _ a) [ inl g ↦ inl g | inr q ↦ inr (here q) ]
from_past Gone known starts lost kept (along {r = q} f l) =
    elim (known q) [
      | inl g ↦ inr (here (lost _ _ l g))
      | inr not_gone ↦ elim (from_past Gone known starts lost kept f) [ inl g ↦ absurd (not_gone g) | inr p ↦ inr (along p (kept _ _ l not_gone)) ]
    ]

-- Along links that stay inside W: each link either goes on as another, or what it leads to is come to afresh.
pub from_inside :
    {P Q : ℕ → Type 0} {To On : ℕ → ℕ → Type 0} (W : ℕ → Type 0) → ((r : ℕ) → P r → W r) → ((r t : ℕ) → W r → To r t → W t) →
    ((r : ℕ) → P r → Q r) → ((r t : ℕ) → W r → To r t → Q t ⊎ On r t) → {r : ℕ} → From P To r → W r × From Q On r
from_inside W begins goes starts links (here {r = q} a) = (begins q a, here (starts q a))
from_inside W begins goes starts links (along {r = q} {t = u} f l) =
    let from = from_inside W begins goes starts links f in
    (goes q u from.0 l, elim (links q u from.0 l) [ inl a ↦ here a | inr b ↦ along from.1 b ])
