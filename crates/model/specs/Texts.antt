-- How a call, a reply and a list of both are printed.
use Rattle.std.specs.Prelude.{ℕ, List, ◌++◌, zip, flat_map, codes, decimal}
use Rattle.model.specs.Refusals.{number_of}
use Rattle.model.specs.declared.calls.Call.{Call}
use Rattle.model.specs.declared.calls.Call.TheVariants.{Make, Hold, Load, Link, Byte, Look, Drop, Collect, Tally}
use Rattle.model.specs.declared.calls.Reply.{Reply}
use Rattle.model.specs.declared.calls.Reply.TheVariants.{Number, Nothing, Done, Refused}

-- a command word and the numbers after it, each behind one space
abbrev pub call_text : Call → List ℕ
call_text Make = codes "make"
call_text (Hold r) = codes "hold " ++ decimal r
call_text (Load r l) = codes "load " ++ (decimal r ++ (codes " " ++ decimal l))
call_text (Link r l t) = codes "link " ++ (decimal r ++ (codes " " ++ (decimal l ++ (codes " " ++ decimal t))))
call_text (Byte r b v) = codes "byte " ++ (decimal r ++ (codes " " ++ (decimal b ++ (codes " " ++ decimal v))))
call_text (Look r b) = codes "look " ++ (decimal r ++ (codes " " ++ decimal b))
call_text (Drop r) = codes "drop " ++ decimal r
call_text Collect = codes "collect"
call_text Tally = codes "tally"

-- a number, or a word; a refusal by its number
abbrev pub reply_text : Reply → List ℕ
reply_text (Number n) = decimal n
reply_text Nothing = codes "none"
reply_text Done = codes "done"
reply_text (Refused why) = codes "refused " ++ decimal (number_of why)

-- a line with a call and its reply
abbrev pub exchange : Call × Reply → List ℕ
exchange e = call_text e.0 ++ (codes " -> " ++ (reply_text e.1 ++ codes "\n"))

-- a line for each call with its reply, as many as both lists have
abbrev pub transcript : List Call → List Reply → List ℕ
transcript calls replies = flat_map exchange (zip calls replies)
