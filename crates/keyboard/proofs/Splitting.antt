-- The first word of a line, and the words after it. Assumes nothing.
use Rattle.std.proofs.Common.{◌≡◌, ℕ, ◌+◌, ◌<◌, cond, List, [], ◌∷◌, length, take, drop, Some, None, refl, ◌∙◌, ap, arith}
use Rattle.std.proofs.lemmas.Bool.Decides.{nat_tests}
use Rattle.std.proofs.lemmas.List.Splits.{slice_split_first, slice_split_none, length-slice_split}
use Rattle.std.proofs.lemmas.List.Sums.{fails_before_first}
use Rattle.std.specs.List.{slice_split, onto_first, position, position_or_len}
use Rattle.keyboard.specs.Lines.{begun, words}
use Rattle.keyboard.specs.Splits.{is_space}

-- the words of a line are what std calls its parts
pub words_are_parts : (bs : List ℕ) → words bs ≡ slice_split is_space bs
words_are_parts [] = refl
words_are_parts (b ∷ bs) = ap (begun b) (words_are_parts bs) ∙ onto (slice_split is_space bs) (omega (arith, length-slice_split is_space bs))
  where
    onto : (ws : List (List ℕ)) → 0 < length ws → begun b ws ≡ cond (is_space b) ([] ∷ ws) (onto_first b ws)
    onto [] some = absurd (omega arith)
    onto (w ∷ ws) some = refl

-- where the first space stands
place : (bs : List ℕ) (i : ℕ) → position is_space bs ≡ Some i → (position_or_len is_space bs ≡ i) × (i < length bs)
place bs i e = (grind (arith, nat_tests), grind (arith, nat_tests))

pub at_space : (bs : List ℕ) (i : ℕ) → position is_space bs ≡ Some i → words bs ≡ take i bs ∷ words (drop (i + 1) bs)
at_space bs i e =
    let at = place bs i e in
    let first = slice_split_first is_space bs 0 (omega (arith, at.0, at.1)) in
    words_are_parts bs ∙ rw at.0 at first ∙ rw (words_are_parts (drop (i + 1) bs))

pub at_end : (bs : List ℕ) → position is_space bs ≡ None → words bs ≡ bs ∷ []
at_end bs e =
    words_are_parts bs ∙ slice_split_none is_space bs (λ k d below. fails_before_first is_space bs k d (grind (arith, nat_tests)))
