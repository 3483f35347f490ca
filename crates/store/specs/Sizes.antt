-- What lent tables test as, and how many records a store over them has.
use Rattle.std.specs.Prelude.{ℕ, length}
use Rattle.store.specs.Tables.{table_test, table_size}
use Rattle.store.specs.declared.tables.Tables.{Tables}

abbrev pub test_over : {K : Type 0} → Tables K → ℕ
test_over t = table_test (length t.records.now) (length t.heads.now) (length t.list.now) (length t.work.now)

abbrev pub size_over : {K : Type 0} → Tables K → ℕ
size_over t = table_size (length t.records.now) (length t.heads.now) (length t.list.now) (length t.work.now)
