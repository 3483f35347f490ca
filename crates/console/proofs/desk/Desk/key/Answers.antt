use Rattle.std.proofs.Common.{rules}
use Rattle.console.proofs.Sessions.{typed_line, typed_byte}
use Rattle.console.proofs.desk.Desk.key.Goals as goal

pub returns-then-byte-eq10-clause-history : goal.returns-then-byte-eq10-clause-history
returns-then-byte-eq10-clause-history g c d _ m = c.finish.ensures.history d m

pub returns-then-byte-eq10-clause-session : goal.returns-then-byte-eq10-clause-session
returns-then-byte-eq10-clause-session g c s input output so_far = search (rules, typed_line)

pub returns-clause-session : goal.returns-clause-session
returns-clause-session g c s input output so_far = search (rules, typed_byte)
