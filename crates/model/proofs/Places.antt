-- Reading a store of which one head or one row is changed.
use Rattle.std.proofs.Common.{◌≡◌, ℕ, ◌-◌, ◌≤◌, ◌≢◌, List, length, get_or, set, sym, subst, ⊎_elim, arith}
use Rattle.std.proofs.lemmas.List.{get_or-set_same, get_or-set_other}
use Rattle.std.proofs.lemmas.Bool.{cases_eq}
use Rattle.kinds.specs.Rows.{Row}
use Rattle.model.specs.State.{State, Within, head, row, no_row, with_head, with_row}
use Rattle.model.specs.Headers.{Header, free_header}

-- what stands under number r in a list of which entry x is replaced
pub each_set :
    {X : Type 0} (xs : List X) (d : X) (x : ℕ) (v : X) (P : ℕ → X → Type 0) →
    1 ≤ x → x ≤ length xs → P x v → ((r : ℕ) → 1 ≤ r → r ≤ length xs → r ≢ x → P r (get_or xs (r - 1) d)) →
    (r : ℕ) → 1 ≤ r → r ≤ length xs → P r (get_or (set xs (x - 1) v) (r - 1) d)
each_set xs d x v P low high at others r rlow rhigh =
    ⊎_elim
    (λ e. subst (λ y. P y (get_or (set xs (x - 1) v) (y - 1) d)) (sym e)
    (subst (P x) (sym (get_or-set_same xs (x - 1) v d (omega arith))) at))
    (λ n. subst (P r) (sym (get_or-set_other xs (x - 1) (r - 1) v d (omega arith))) (others r rlow rhigh n))
    (cases_eq r x)

-- two lists side by side, of which entry x is replaced
pub each_both :
    {X Y : Type 0} (xs : List X) (d : X) (ys : List Y) (e : Y) (x : ℕ) (v : X) (u : Y) (P : ℕ → X → Y → Type 0) →
    1 ≤ x → x ≤ length xs → x ≤ length ys → P x v u → ((r : ℕ) → 1 ≤ r → r ≢ x → P r (get_or xs (r - 1) d) (get_or ys (r - 1) e)) →
    (r : ℕ) → 1 ≤ r → P r (get_or (set xs (x - 1) v) (r - 1) d) (get_or (set ys (x - 1) u) (r - 1) e)
each_both xs d ys e x v u P low high tall at others r rlow = ⊎_elim
    (λ q. subst (λ y. P y (get_or (set xs (x - 1) v) (y - 1) d) (get_or (set ys (x - 1) u) (y - 1) e)) (sym q)
    (subst (λ b. P x (get_or (set xs (x - 1) v) (x - 1) d) b) (sym (get_or-set_same ys (x - 1) u e (omega arith)))
    (subst (λ a. P x a u) (sym (get_or-set_same xs (x - 1) v d (omega arith))) at)))
    (λ n. subst (λ b. P r (get_or (set xs (x - 1) v) (r - 1) d) b) (sym (get_or-set_other ys (x - 1) (r - 1) u e (omega arith)))
    (subst (λ a. P r a (get_or ys (r - 1) e)) (sym (get_or-set_other xs (x - 1) (r - 1) v d (omega arith))) (others r rlow n)))
    (cases_eq r x)

module _ (s : State) (x : ℕ) (w : Within s x) where
  pub each_head :
      (h : Header) (P : ℕ → Header → Type 0) → length s.heads ≡ length s.rows →
      P x h → ((r : ℕ) → Within s r → r ≢ x → P r (head s r)) →
      (r : ℕ) → Within s r → P r (head (with_head s x h) r)
  each_head h P fit at others r v =
      each_set s.heads (free_header 0) x h P w.0 (omega arith) at (λ y a b n. others y (a, omega arith) n) r v.0 (omega arith)

  pub each_row :
      (t : Row) (P : ℕ → Row → Type 0) →
      P x t → ((r : ℕ) → Within s r → r ≢ x → P r (row s r)) →
      (r : ℕ) → Within s r → P r (row (with_row s x t) r)
  each_row t P at others r v =
      each_set s.rows no_row x t P w.0 w.1 at (λ y a b n. others y (a, b) n) r v.0 v.1

  pub head_there : (h : Header) → length s.heads ≡ length s.rows → head (with_head s x h) x ≡ h
  head_there h fit = get_or-set_same s.heads (x - 1) h (free_header 0) (omega arith)

  pub head_elsewhere : (h : Header) (r : ℕ) → 1 ≤ r → r ≢ x → head (with_head s x h) r ≡ head s r
  head_elsewhere h r a n = get_or-set_other s.heads (x - 1) (r - 1) h (free_header 0) (omega arith)
