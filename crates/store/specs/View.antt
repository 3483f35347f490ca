-- What a store means between calls, and what it keeps.
use Rattle.std.specs.Prelude.{◌≡◌}
use Rattle.kinds.specs.declared.kind.Kind.{Ghosts}
use Rattle.model.specs.State.{State}
use Rattle.model.specs.Lawful.{Lawful}
use Rattle.store.specs.Meaning.{meaning, Roomy}
use Rattle.store.specs.declared.table.Store.{Store}

-- what its tables mean
abbrev pub view : {K : Type 0} (g : Ghosts K) → Store K g → State
view g s = meaning g s.contents

-- a lawful store; every store is one, as its type says
pub record LawfulStore {K : Type 0} (g : Ghosts K) (s : Store K g) : Type 0 where
  pub room : Roomy s.contents
  pub rules : Lawful g.shape (view g s)

-- nothing is altered, in any table
pub record Same {K : Type 0} {g : Ghosts K} (a b : Store K g) : Type 0 where
  pub records_same : b.contents.tables.records.now ≡ a.contents.tables.records.now
  pub heads_same : b.contents.tables.heads.now ≡ a.contents.tables.heads.now
  pub list_same : b.contents.tables.list.now ≡ a.contents.tables.list.now
  pub work_same : b.contents.tables.work.now ≡ a.contents.tables.work.now
  pub n_same : b.contents.n ≡ a.contents.n
  pub listed_same : b.contents.listed ≡ a.contents.listed
  pub front_same : b.contents.front ≡ a.contents.front
