-- What a call's result says, as a reply.
pub use Rattle.model.specs.Replies.{numbered, granted, loaded, leaving, is_refusal}
