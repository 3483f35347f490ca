use Rattle.std.specs.Prelude.{◌≡◌, ℕ, ◌≤◌, List, length}
use Rattle.std.specs.List.{AllWithin, AllByRecursion}
use Rattle.std.proofs.ByRecursion.{all_from_every}

pub all_small : (n top : ℕ) (xs : List ℕ) → length xs ≡ n → AllWithin (λ x. x ≤ top) xs 0 n → AllByRecursion (λ x. x ≤ top) xs
all_small n top xs long small = all_from_every (λ x. x ≤ top) xs (rw long small)
