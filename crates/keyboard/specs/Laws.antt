-- Laws of lines and answers.
use Rattle.std.specs.Prelude.{◌≡◌, ℕ, ◌^◌, ◌<◌, ◌↔◌, List, [], ◌∷◌, ◌++◌, take, Some, decimal}
use Rattle.model.specs.Refusals.{number_of}
use Rattle.model.specs.declared.calls.Reply.{Reply}
use Rattle.model.specs.declared.calls.Reply.TheVariants.{Number, Nothing, Done, Refused}
use Rattle.keyboard.specs.Answers.{answer_line}
use Rattle.keyboard.specs.Lines.{numeral, meaning}

-- the numerals are exactly the decimals of the numbers below k
abbrev pub DecimalsBelow : ℕ → Type 0
DecimalsBelow k = (w : List ℕ) (n : ℕ) → (numeral w ≡ Some n) ↔ ((n < k) × (w ≡ decimal n))

-- it suffices to keep the first k bytes of a line: they can be kept byte by byte, and they mean what the line means
pub record Suffices (k : ℕ) : Type 0 where
  pub next : (line : List ℕ) (b : ℕ) → take k (take k line ++ b ∷ []) ≡ take k (line ++ b ∷ [])
  pub means : (line : List ℕ) → meaning (take k line) ≡ meaning line

-- replies of one kind, with one number
abbrev pub Alike : Reply → Reply → Type 0
Alike (Number m) (Number n) = m ≡ n
Alike (Number m) Nothing = ⊥
Alike (Number m) Done = ⊥
Alike (Number m) (Refused b) = ⊥
Alike Nothing (Number n) = ⊥
Alike Nothing Nothing = Unit {0}
Alike Nothing Done = ⊥
Alike Nothing (Refused b) = ⊥
Alike Done (Number n) = ⊥
Alike Done Nothing = ⊥
Alike Done Done = Unit {0}
Alike Done (Refused b) = ⊥
Alike (Refused a) (Number n) = ⊥
Alike (Refused a) Nothing = ⊥
Alike (Refused a) Done = ⊥
Alike (Refused a) (Refused b) = number_of a ≡ number_of b

-- a reply whose number fits 64 bits
abbrev pub Fits : Reply → Type 0
Fits (Number n) = n < 2 ^ 64
Fits Nothing = Unit {0}
Fits Done = Unit {0}
Fits (Refused a) = number_of a < 2 ^ 64

-- no reply but those alike has the answer line of a
abbrev pub Tells : Reply → Type 0
Tells a = (b : Reply) → Fits a → Fits b → answer_line a ≡ answer_line b → Alike a b
