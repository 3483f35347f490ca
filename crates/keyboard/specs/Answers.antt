-- What is answered to a line.
use Rattle.std.specs.Prelude.{ℕ, List, [], ◌∷◌, ◌++◌, codes, decimal}
use Rattle.model.specs.Refusals.{number_of}
use Rattle.model.specs.declared.calls.Reply.{Reply}
use Rattle.model.specs.declared.calls.Reply.TheVariants.{Number, Nothing, Done, Refused}

-- every answer ends in a line feed
abbrev pub line_feed : List ℕ
line_feed = 10 ∷ []

abbrev pub answer_line : Reply → List ℕ
answer_line (Number n) = codes "ok " ++ (decimal n ++ line_feed)
answer_line Nothing = codes "ok none" ++ line_feed
answer_line Done = codes "ok" ++ line_feed
answer_line (Refused why) = codes "refused " ++ (decimal (number_of why) ++ line_feed)
