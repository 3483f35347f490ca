-- What the tables of a store mean, at every moment of a call.
use Rattle.std.specs.Prelude.{◌*◌, ◌≤◌, map, length, take}
use Rattle.kinds.specs.declared.kind.Kind.{Ghosts}
use Rattle.model.specs.State.{State}
use Rattle.model.specs.Headers.{header}
use Rattle.model.specs.Walk.{Progress}
use Rattle.reclaim.specs.declared.records.Records as reclaim
use Rattle.walks.specs.declared.stacked.Stacked as walks
use Rattle.store.specs.declared.contents.Contents.{Contents}

-- the first N entries of the record table and the heads, and the first entries of the list, as many as are listed
abbrev pub meaning : {K : Type 0} → Ghosts K → Contents K → State
meaning g s = record {
  heads = map header (take s.n s.tables.heads.now);
  rows = map g.row (take s.n s.tables.records.now);
  candidates = take s.listed s.tables.list.now;
  front = s.front;
}

-- the store on its way through a call
abbrev pub progress : {K : Type 0} → Ghosts K → Contents K → Progress
progress g s = record { store = meaning g s; given = s.given }

-- the tables have room for N records
pub record Roomy {K : Type 0} (s : Contents K) : Type 0 where
  pub records_room : s.n ≤ length s.tables.records.now
  pub heads_room : s.n ≤ length s.tables.heads.now
  pub list_room : s.n ≤ length s.tables.list.now
  pub work_room : 2 * s.n ≤ length s.tables.work.now
  pub listed_room : s.listed ≤ s.n

-- the store as what a walk, a release and a collection need
abbrev pub stacked : {K : Type 0} → Ghosts K → walks.Ghosts (Contents K)
stacked g = record {
  progress = λ s. progress g s;
  stack = λ s. s.tables.work.now;
  table = λ s. s.tables.list.now;
  width = g.shape.links;
}

abbrev pub records : {K : Type 0} → Ghosts K → reclaim.Ghosts (Contents K)
records g = record { shape = g.shape }
