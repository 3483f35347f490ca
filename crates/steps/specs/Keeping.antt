-- What a store means between calls, and what it keeps.
use Rattle.model.specs.Lawful.{Lawful}
use Rattle.model.specs.State.{State}
use Rattle.reclaim.specs.declared.records.Records.{Ghosts}
use Rattle.walks.specs.declared.stacked.Stacked as stacked

-- what the store means
abbrev pub state : {S : Type 0} → stacked.Ghosts S → S → State
state t s = (t.progress s).store

-- A lawful store: its records keep the rules. That their kind has its numbers within bounds and that there is room for every
-- walk are laws of the store's type.
abbrev pub LawfulStore : {S : Type 0} → stacked.Ghosts S → Ghosts S → S → Type 0
LawfulStore t r s = Lawful r.shape (state t s)
