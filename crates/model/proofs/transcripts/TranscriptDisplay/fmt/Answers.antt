use Rattle.std.proofs.Common.{[], ◌++◌, append-nil, append_assoc, inl, inr, rules}
use Rattle.std.proofs.Output.{writes_in_calls_nil, has_written_append, has_written_of_eq}
use Rattle.model.specs.Texts.{exchange}
use Rattle.model.proofs.Printing.{ended}
use Rattle.model.proofs.transcripts.TranscriptDisplay.fmt.Goals as goal

pub loop-call-init : goal.loop-call-init
loop-call-init g c = λ plain. ([], record { wrote = writes_in_calls_nil _ _; plain = plain }, search rules)

pub loop-call-preserved : goal.loop-call-preserved
loop-call-preserved g c = λ plain.
    let so_far = c.loop-call.invariant plain in
    let step = c.in-Some.ensures.steps in (
      so_far.0 ++ exchange (c.in-Some.call.now, c.in-Some.reply.now),
      has_written_append _ _ _ _ _ _ so_far.1 (search rules),
      rw append_assoc (rw (step.0, step.1) at so_far.2),
    )

pub returns-clause-writes : goal.returns-clause-writes
returns-clause-writes g c = λ plain _.
    let so_far = c.loop-call.invariant plain in
    let none = ended _ _ (elim c.in-None.ensures.steps [ inl n ↦ inl n.1.0 | inr n ↦ inr n.1.0 ]) in
    has_written_of_eq _ _ _ _ _ (rw (none, append-nil) at so_far.2) so_far.1
