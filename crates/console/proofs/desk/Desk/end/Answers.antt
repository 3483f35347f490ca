use Rattle.std.proofs.Common.{sym}
use Rattle.console.proofs.Sessions.{typed_last}
use Rattle.console.proofs.desk.Desk.end.Goals as goal

pub returns-clause-session : goal.returns-clause-session
returns-clause-session g c s input output so_far =
    typed_last _ s input output _ _ so_far _ _ _ (sym c.if-is_empty.ensures.value) c.finish.ensures.answer
