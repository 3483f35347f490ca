-- Numbers that are read one after another. Assumes nothing.
use Rattle.std.proofs.Common.{◌≡◌, ℕ, suc, ◌+◌, ◌-◌, ◌<◌, List, [], ◌∷◌, ◌++◌, length, take, set, Some, None, Option, refl, ◌∙◌, append_assoc, length-set, arith}
use Rattle.std.proofs.lemmas.List.{take_more_set}
use Rattle.keyboard.specs.Lines.{made}
use Rattle.keyboard.specs.Splits.{numbers, first_number, others}

-- some numbers, and then others, where these can be read
abbrev pub before : List ℕ → Option (List ℕ) → Option (List ℕ)
before ns None = None
before ns (Some ms) = Some (ns ++ ms)

-- i of k numbers are read, and ws are the words that are left
pub record Read (k : ℕ) (all ws : List (List ℕ)) (i : ℕ) (found : List ℕ) : Type 0 where
  pub long : length found ≡ k
  pub value : numbers k all ≡ before (take i found) (numbers (k - i) ws)

-- one more in front
more : (ns : List ℕ) (n : ℕ) (o : Option (List ℕ)) → before ns (made o (λ ms. Some (n ∷ ms))) ≡ before (ns ++ n ∷ []) o
more ns n None = refl
more ns n (Some ms) = rw append_assoc refl

-- what k + 1 words mean where the first of them is a number, and where it is none
read_first : (k : ℕ) (ws : List (List ℕ)) (n : ℕ) → Some n ≡ first_number ws → numbers (suc k) ws ≡ made (numbers k (others ws)) (λ ms. Some (n ∷ ms))
read_first k [] n e = cc
read_first k (w ∷ ws) n e = rw (← e)

one_less : (k i : ℕ) → i < k → k - i ≡ suc (k - (i + 1))
one_less k i below = omega arith

pub read_more : (k : ℕ) (all ws later : List (List ℕ)) (i : ℕ) (found : List ℕ) (n : ℕ) → Read k all ws i found → i < k → Some n ≡ first_number ws → later ≡ others ws → Read k all later (i + 1) (set found i n)
read_more k all ws later i found n h below e rest =
    rw rest record {
      long = length-set found i n ∙ h.long;
      value = h.value ∙ rw (one_less k i below, read_first (k - (i + 1)) ws n e, take_more_set found i n (omega (arith, h.long))) (more (take i found) n (numbers (k - (i + 1)) (others ws)));
    }
