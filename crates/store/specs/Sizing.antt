-- How many records there are, and room for them: what the fields of a store say of what its tables mean.
use Rattle.std.proofs.Common.{◌≡◌, ◌*◌, ◌≤◌, length, take, map, ◌∙◌, arith}
use Rattle.std.proofs.lemmas.List.{length-take-le, length-map}
use Rattle.kinds.specs.Rows.{Row}
use Rattle.store.specs.declared.contents.Contents.{Contents}

module _ {K : Type 0} (row : K → Row) (s : Contents K) where
  -- N, by the rows
  pub size_is : length (map row (take s.n s.tables.records.now)) ≡ s.n
  size_is = length-map (take s.n s.tables.records.now) row ∙ length-take-le s.n s.tables.records.now s.records_room

  pub few_rows : length (map row (take s.n s.tables.records.now)) ≤ 4095
  few_rows = omega (arith, s.few, size_is)

  -- the work table has two entries for each record
  pub two_entries : 2 * length (map row (take s.n s.tables.records.now)) ≤ length s.tables.work.now
  two_entries = omega (arith, s.work_room, size_is)
