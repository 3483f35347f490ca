-- What is answered to a line, and to each byte that is typed.
use Rattle.std.specs.Prelude.{ℕ, cond, List, [], ◌∷◌, ◌++◌, length, take, Some, None, Option, ◌==◌}
use Rattle.kinds.specs.Rows.{Shape}
use Rattle.keyboard.specs.Answers.{answer_line}
use Rattle.keyboard.specs.Buffers.{text, line_of}
use Rattle.keyboard.specs.Lines.{meaning}
use Rattle.keyboard.specs.declared.answers.Answer.{Answer}
use Rattle.model.specs.Calls.{Answered, answered, refused}
use Rattle.model.specs.State.{State}
use Rattle.model.specs.declared.calls.Call.{Call}
use Rattle.model.specs.declared.refusals.Refusal.TheVariants.{BadLine}
use Rattle.console.specs.declared.desk.Desk.{Desk}

-- a line outside the forms is refused, and any other is the call that it means
abbrev pub told_by : Shape → State → Option Call → Answered
told_by k s None = refused BadLine s
told_by k s (Some c) = answered k s c

abbrev pub told : Shape → State → List ℕ → Answered
told k s line = told_by k s (meaning line)

-- what is kept of the line that is being typed: its first 81 bytes
abbrev pub kept : Desk → List ℕ
kept d = text d.line

-- the bytes that are handed out
abbrev pub shown : Option Answer → List ℕ
shown None = []
shown (Some a) = line_of a

-- what a byte leaves of the line, hands out, and leaves of the store
pub record Stroke : Type 0 where
  pub line : List ℕ
  pub output : List ℕ
  pub store : State

abbrev pub finished : Answered → Stroke
finished a = record { line = []; output = answer_line a.reply; store = a.store }

-- a line feed ends the line, and any other byte is added to it
abbrev pub struck : Shape → State → List ℕ → ℕ → Stroke
struck k s line b =
    cond (b == 10) (finished (told k s line)) (record { line = take 81 (line ++ (b ∷ [])); output = []; store = s })

-- where the input ends, a line that has a byte is answered too
abbrev pub ended : Shape → State → List ℕ → Stroke
ended k s line = cond (length line == 0) (record { line = line; output = []; store = s }) (finished (told k s line))
