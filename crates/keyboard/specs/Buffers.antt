-- What a line buffer and an answer hold.
use Rattle.std.specs.Prelude.{ℕ, List}
use Rattle.keyboard.specs.declared.answers.Answer.{Answer}
use Rattle.keyboard.specs.declared.lines.Line.{Line}

-- what is kept of the line that is being typed
abbrev pub text : Line → List ℕ
text l = l.kept.items

-- the bytes of an answer line
abbrev pub line_of : Answer → List ℕ
line_of a = a.line.bytes
