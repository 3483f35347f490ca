-- How a walk puts a record on its stack.
use Rattle.std.specs.Prelude.{◌≡◌, ℕ, ◌+◌, ◌*◌, true, false, List, length, take, slice_index}
use Rattle.model.specs.Walk.{Progress, Rule}

-- Record t is visited in g and leaves y; the stack, which ends before top, goes from `work` to `after`, and then ends
-- before next. A record that is entered stands on it, with link 0 as its next one.
pub record Begun (R : Rule) (t top : ℕ) (g : Progress) (work : List ℕ) (y : Progress) (after : List ℕ) (next : ℕ) : Type 0 where
  pub entered : R.enters g t ≡ true → (y ≡ R.enter g t) × (next ≡ top + 1) × (slice_index after top ≡ t * 32)
  pub passed : R.enters g t ≡ false → (y ≡ R.pass g t) × (next ≡ top)
  pub wide : length after ≡ length work
  pub below : take top after ≡ take top work
