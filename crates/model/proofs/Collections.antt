-- A whole collection: mark, scan and gather, one after the other.
use Rattle.std.proofs.Common.{◌+◌, ◌≤◌}
use Rattle.kinds.specs.Rows.{Shape}
use Rattle.model.specs.State.{in_use}
use Rattle.model.specs.Lawful.{Lawful}
use Rattle.model.specs.Walk.{Progress}
use Rattle.model.specs.Collection.{marked, scanned, collected}
use Rattle.model.specs.Collected.{AfterCollection}
use Rattle.model.proofs.MarkLaws.{mark_law}
use Rattle.model.proofs.ScanLaws.{scan_law}
use Rattle.model.proofs.GatherLaws.{gather_law}

pub collection_law :
    (k : Shape) (g : Progress) → Lawful k g.store → in_use g.store + g.given ≤ 4095 → AfterCollection k g (collected k g)
collection_law k g law few =
    gather_law k g (scanned (marked k g)) law few (scan_law k g (marked k g) law (mark_law k g law))
