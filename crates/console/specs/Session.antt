-- The lines of a whole input, and the whole output to it.
use Rattle.std.specs.Prelude.{◌≡◌, ℕ, cond, List, [], ◌∷◌, ◌++◌, length, take, ◌==◌}
use Rattle.kinds.specs.Rows.{Shape}
use Rattle.keyboard.specs.Answers.{answer_line}
use Rattle.model.specs.Calls.{Answered}
use Rattle.model.specs.State.{State}
use Rattle.console.specs.Told.{told}

-- the lines that a line feed ends, and what follows the last line feed
pub record Lined : Type 0 where
  pub lines : List (List ℕ)
  pub rest : List ℕ

-- a byte in front belongs to the first line, or where there is none to the rest
abbrev pub in_front : ℕ → List (List ℕ) → List ℕ → Lined
in_front b [] rest = record { lines = []; rest = b ∷ rest }
in_front b (l ∷ ls) rest = record { lines = (b ∷ l) ∷ ls; rest = rest }

abbrev pub lined : List ℕ → Lined
lined [] = record { lines = []; rest = [] }
lined (b ∷ bs) =
    let m : Lined = lined bs in
    cond (b == 10) (record { lines = [] ∷ m.lines; rest = m.rest }) (in_front b m.lines m.rest)

-- a last line without a line feed counts if it has a byte
abbrev pub last_line : List ℕ → List (List ℕ)
last_line rest = cond (length rest == 0) [] (rest ∷ [])

abbrev pub all_lines : List ℕ → List (List ℕ)
all_lines input = (lined input).lines ++ last_line (lined input).rest

-- what is answered to lines one after another, and the store after them
pub record Session : Type 0 where
  pub output : List ℕ
  pub store : State

abbrev pub all_told : Shape → State → List (List ℕ) → Session
all_told k s [] = record { output = []; store = s }
all_told k s (l ∷ ls) =
    let a : Answered = told k s l in
    let m : Session = all_told k a.store ls in
    record { output = answer_line a.reply ++ m.output; store = m.store }

-- the whole output to an input, from the store s on
abbrev pub session : Shape → State → List ℕ → Session
session k s input = all_told k s (all_lines input)

-- After the bytes `input`, typed at the store s, the output so far is `output`, `line` is kept of the line that is
-- being typed, and the store is t.
pub record Typed (k : Shape) (s : State) (input output line : List ℕ) (t : State) : Type 0 where
  pub output_so_far : output ≡ (all_told k s (lined input).lines).output
  pub line_so_far : line ≡ take 81 (lined input).rest
  pub store_so_far : t ≡ (all_told k s (lined input).lines).store

-- The bytes `output` are the whole output to `input`, typed at the store s, and t is the store after it.
pub record Whole (k : Shape) (s : State) (input output : List ℕ) (t : State) : Type 0 where
  pub whole_output : output ≡ (session k s input).output
  pub store_after : t ≡ (session k s input).store
