-- Worked lines and answers.
use Rattle.std.specs.Prelude.{◌≡◌, ℕ, List, [], ◌∷◌, ◌++◌, replicate, Some, None, codes, Option}
use Rattle.std.specs.List.{AllByRecursion}
use Rattle.model.specs.declared.calls.Call.{Call}
use Rattle.model.specs.declared.calls.Call.TheVariants.{Make, Hold, Load, Link, Byte, Look, Drop, Tally}
use Rattle.model.specs.declared.calls.Reply.{Reply}
use Rattle.model.specs.declared.calls.Reply.TheVariants.{Number, Nothing, Done, Refused}
use Rattle.model.specs.declared.refusals.Refusal.TheVariants.{NotHeld, BadLine}
use Rattle.keyboard.specs.Answers.{answer_line, line_feed}
use Rattle.keyboard.specs.Lines.{meaning}

-- lines, each with the call that it means
abbrev pub lines : List (List ℕ × Option Call)
lines =
    (codes "make", Some Make)
    ∷ (codes "tally", Some Tally)
    ∷ (codes "hold 17", Some (Hold 17))
    ∷ (codes "hold 0", Some (Hold 0))
    ∷ (codes "hold 65537", Some (Hold 65537))
    ∷ (codes "load 3 0", Some (Load 3 0))
    ∷ (codes "link 1 2 3", Some (Link 1 2 3))
    ∷ (codes "look 1 256", Some (Look 1 256))
    ∷ (codes "drop 200", Some (Drop 200))
    ∷ (codes "byte 1 2 255", Some (Byte 1 2 255))
    -- a value above 255, a leading zero, six digits, a sign
    ∷ (codes "byte 1 2 256", None)
    ∷ (codes "hold 017", None)
    ∷ (codes "hold 100000", None)
    ∷ (codes "hold -1", None)
    -- a word too few, a word too many, a number in place of a command
    ∷ (codes "hold", None)
    ∷ (codes "make 1", None)
    ∷ (codes "1", None)
    -- no byte, a space in front, two in a row, one at the end
    ∷ (codes "", None)
    ∷ (codes " make", None)
    ∷ (codes "hold  17", None)
    ∷ (codes "make ", None)
    -- a capital letter, a tab, a carriage return, a byte above 127
    ∷ (codes "Make", None)
    ∷ (codes "make" ++ (9 ∷ []), None)
    ∷ (codes "make" ++ (13 ∷ []), None)
    ∷ (195 ∷ codes "make", None)
    -- 81 bytes
    ∷ (replicate 81 49, None)
    ∷ []

-- replies, each with its answer line
abbrev pub answers : List (Reply × List ℕ)
answers =
    (Number 0, codes "ok 0" ++ line_feed)
    ∷ (Number 120, codes "ok 120" ++ line_feed)
    ∷ (Number 4095, codes "ok 4095" ++ line_feed)
    ∷ (Nothing, codes "ok none" ++ line_feed)
    ∷ (Done, codes "ok" ++ line_feed)
    ∷ (Refused NotHeld, codes "refused 3" ++ line_feed)
    ∷ (Refused BadLine, codes "refused 14" ++ line_feed)
    ∷ []

abbrev pub LinesRight : Type 0
LinesRight = AllByRecursion (λ e. meaning e.0 ≡ e.1) lines

abbrev pub AnswersRight : Type 0
AnswersRight = AllByRecursion (λ e. answer_line e.0 ≡ e.1) answers
