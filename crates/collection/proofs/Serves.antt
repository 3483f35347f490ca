-- What is known of a listed record where mark, scan or gather serves it.
use Rattle.std.proofs.Common.{◌≡◌, ℕ, ◌<◌, true, false, List, ◌∷◌, length, take, sym, ap, ◌∙◌, subst, arith}
use Rattle.kinds.specs.Rows.{Shape}
use Rattle.model.specs.Collected.{AfterMark, AfterScan}
use Rattle.model.specs.Collection.{marking, mark_one, struck, kept_listed, list_taken}
use Rattle.model.specs.Lawful.{Lawful}
use Rattle.model.specs.Release.{at}
use Rattle.model.specs.Headers.{is_purple}
use Rattle.model.specs.Releasing.{FewGiven}
use Rattle.model.specs.Walk.{Progress, full}
use Rattle.model.proofs.MarkLaws.{MarkList, mark_start, mark_within, mark_begins, mark_front, mark_given}
use Rattle.model.proofs.ScanLaws.{ScanList, scan_start}
use Rattle.model.proofs.GatherLaws.{GatherList, gather_start, gather_turn_within, gather_turn_begins}
use Rattle.collection.specs.Serving.{Marks, Gathers}

-- what scan and gather keep from turn to turn: of the store where the collection began, and of the one where they did
abbrev pub Scans : Shape → Progress × Progress → Progress → List ℕ → Type 0
Scans k x z rest = ScanList k x.0 x.1 z rest

abbrev pub Gatherings : Shape → Progress × Progress → Progress → List ℕ → Type 0
Gatherings k x z rest = GatherList k x.0 x.1 z rest

pub mark_purple :
    (k : Shape) (g : Progress) (r : ℕ) → is_purple (at g r).colour ≡ true → mark_one k g r ≡ kept_listed (full marking g r) r
mark_purple k g r e =
    ap (λ b. elim b as (λ _. Progress) [ true ↦ kept_listed (full marking g r) r | false ↦ struck k g r ]) e

-- where the loop begins: the list is taken away, and its table stands
module _ (k : Shape) (g y : Progress) (n : ℕ) (t u : List ℕ) (listed : g.store.candidates ≡ take n t) (same : u ≡ t) where
  same_list : g.store.candidates ≡ take n u
  same_list = listed ∙ ap (take n) (sym same)

  pub mark_begun : y ≡ list_taken g → Lawful k g.store → MarkList k g y (take n u)
  mark_begun e law =
      subst (λ z. MarkList k g z (take n u)) (sym e) (subst (MarkList k g (list_taken g)) same_list (mark_start k g law))

  pub scan_begun : (b : Progress) → y ≡ g → Lawful k b.store → AfterMark k b g → ScanList k b g y (take n u)
  scan_begun b e law m = subst (λ z. ScanList k b g z (take n u)) (sym e) (subst (ScanList k b g g) same_list (scan_start k b g law m))

  pub gather_begun :
      (b : Progress) → y ≡ list_taken g → Lawful k b.store → FewGiven b → AfterScan k b g → GatherList k b g y (take n u)
  gather_begun b e law few a =
      subst (λ z. GatherList k b g z (take n u)) (sym e) (subst (GatherList k b g (list_taken g)) same_list (gather_start k b g law a few))

pub mark_serves :
    (k : Shape) (g y : Progress) (r : ℕ) (rest : List ℕ) → MarkList k g y (r ∷ rest) → FewGiven g →
    length y.store.candidates < length g.store.rows → Marks k y r
mark_serves k g y r rest M few l = record {
  inside = mark_within k g y r rest M;
  walks = mark_begins k g y r rest M;
  front_small = mark_front k g y r rest M;
  given_small = mark_given k g y r rest M few;
  room = omega (arith, l, ap length M.rows_same);
}

pub gather_serves : (k : Shape) (g y z : Progress) (r : ℕ) (rest : List ℕ) → GatherList k g y z (r ∷ rest) → Gathers k z r
gather_serves k g y z r rest L = record {
  inside = gather_turn_within k g y z r rest L;
  walks = (gather_turn_begins k g y z r rest L).0;
  few_given = (gather_turn_begins k g y z r rest L).1;
}
