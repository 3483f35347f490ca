-- What the bytes of a line mean: its words, its numbers, its call.
use Rattle.std.specs.Prelude.{ℕ, ◌+◌, ◌-◌, ◌*◌, Bool, cond, not, ◌&&◌, ◌||◌, List, [], ◌∷◌, length, Some, None, codes, Option, ◌==◌, nat_le, slice_index}
use Prim.Native.String.{String}
use Rattle.std.specs.Str.{all_ascii_digits, bytes_eq}
use Rattle.model.specs.declared.calls.Call.{Call}
use Rattle.model.specs.declared.calls.Call.TheVariants.{Make, Hold, Load, Link, Byte, Look, Drop, Tally}

-- a byte in front of a line with these words (there is at least one): a space begins a word, any other byte lengthens the first
abbrev pub begun : ℕ → List (List ℕ) → List (List ℕ)
begun b [] = []
begun b (w ∷ ws) = cond (b == 32) ([] ∷ w ∷ ws) ((b ∷ w) ∷ ws)

-- the words of a line: its parts, split at every single space
abbrev pub words : List ℕ → List (List ℕ)
words [] = [] ∷ []
words (b ∷ bs) = begun b (words bs)

-- the number that digits write, after those that wrote n
abbrev pub written_after : ℕ → List ℕ → ℕ
written_after n [] = n
written_after n (d ∷ ds) = written_after (10 * n + (d - 48)) ds

-- 1 to 5 bytes, the first of them no 0 unless it is the only one
abbrev pub plain : List ℕ → Bool
plain w = nat_le 1 (length w) && (nat_le (length w) 5 && (length w == 1 || not (slice_index w 0 == 48)))

-- the number that a word writes
abbrev pub numeral : List ℕ → Option ℕ
numeral w = cond (all_ascii_digits w && plain w) (Some (written_after 0 w)) None

-- what a function makes of a value, where there is one
abbrev pub made : {A B : Type 0} → Option A → (A → Option B) → Option B
made None f = None
made (Some a) f = f a

-- a value, where no word is left
abbrev pub alone : {A : Type 0} → A → List (List ℕ) → Option A
alone k [] = Some k
alone k (w ∷ ws) = None

-- one, two or three words that are numerals, and no word more
abbrev pub one : List (List ℕ) → Option ℕ
one [] = None
one (a ∷ []) = numeral a
one (a ∷ b ∷ ws) = None

abbrev pub two : List (List ℕ) → Option (ℕ × ℕ)
two [] = None
two (a ∷ []) = None
two (a ∷ b ∷ []) = made (numeral a) (λ m. made (numeral b) (λ n. Some (m, n)))
two (a ∷ b ∷ c ∷ ws) = None

abbrev pub three : List (List ℕ) → Option (ℕ × ℕ × ℕ)
three [] = None
three (a ∷ []) = None
three (a ∷ b ∷ []) = None
three (a ∷ b ∷ c ∷ []) = made (numeral a) (λ m. made (numeral b) (λ n. made (numeral c) (λ o. Some (m, n, o))))
three (a ∷ b ∷ c ∷ d ∷ ws) = None

-- the value to be written to a byte is at most 255
abbrev pub byte_call : ℕ × ℕ × ℕ → Option Call
byte_call n = cond (nat_le n.2 255) (Some (Byte n.0 n.1 n.2)) None

-- w is the text s
abbrev pub is : String → List ℕ → Bool
is s w = bytes_eq w (codes s)

-- the forms: a command word, and its numbers
abbrev pub form : List (List ℕ) → Option Call
form [] = None
form (c ∷ ws) =
    cond (is "make" c) (alone Make ws)
    (cond (is "hold" c) (made (one ws) (λ r. Some (Hold r)))
    (cond (is "load" c) (made (two ws) (λ n. Some (Load n.0 n.1)))
    (cond (is "link" c) (made (three ws) (λ n. Some (Link n.0 n.1 n.2)))
    (cond (is "byte" c) (made (three ws) byte_call)
    (cond (is "look" c) (made (two ws) (λ n. Some (Look n.0 n.1)))
    (cond (is "drop" c) (made (one ws) (λ r. Some (Drop r)))
    (cond (is "tally" c) (alone Tally ws)
    None)))))))

-- the call that a line means; none where it is outside the forms or longer than 80 bytes
abbrev pub meaning : List ℕ → Option Call
meaning line = cond (nat_le (length line) 80) (form (words line)) None
