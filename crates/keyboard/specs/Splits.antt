-- What is left of a line while its words are split off.
use Rattle.std.specs.Prelude.{◌≡◌, ℕ, zero, suc, Bool, true, false, List, [], ◌∷◌, Some, None, Option, IfSome, ◌==◌, slice_index}
use Rattle.std.specs.Borrow.{Bor}
use Rattle.std.specs.Char.{is_ascii_digit}
use Rattle.std.specs.Iterator.{YieldsFirstBy}
use Rattle.keyboard.specs.declared.words.Word.{Word}
use Rattle.keyboard.specs.declared.words.Word.TheVariants.{Command, Digits}
use Rattle.keyboard.specs.declared.words.Words.{Words}
use Rattle.keyboard.specs.Lines.{words, numeral, made, alone}

-- what ends a word
abbrev pub is_space : ℕ → Bool
is_space b = b == 32

abbrev pub words_of : Option (Bor (List ℕ)) → List (List ℕ)
words_of None = []
words_of (Some line) = words line.now

-- the words that are still to come
abbrev pub left : Words → List (List ℕ)
left s = words_of s.rest

abbrev pub text_of : Word → List ℕ
text_of (Command w) = w.now
text_of (Digits w) = w.now

abbrev pub is_digits : Word → Bool
is_digits (Command w) = false
is_digits (Digits w) = true

-- r is the first word that is to come at s, and t has the words after it
abbrev pub GivesWord : Words → Option Word → Words → Type 0
GivesWord s r t = YieldsFirstBy text_of left s r t × IfSome r (λ w. is_digits w ≡ is_ascii_digit (slice_index (text_of w) 0))

-- the number that the first of some words writes, and the words after it
abbrev pub first_number : List (List ℕ) → Option ℕ
first_number [] = None
first_number (w ∷ ws) = numeral w

abbrev pub others : List (List ℕ) → List (List ℕ)
others [] = []
others (w ∷ ws) = ws

-- k words that are numerals, and no word more
abbrev pub numbers : ℕ → List (List ℕ) → Option (List ℕ)
numbers zero ws = alone [] ws
numbers (suc k) [] = None
numbers (suc k) (w ∷ ws) = made (numeral w) (λ n. made (numbers k ws) (λ ns. Some (n ∷ ns)))
