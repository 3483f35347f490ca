-- One entry of a table read or written, by what the tables mean.
use Rattle.std.proofs.Common.{◌≡◌, ℕ, ◌<◌, ◌≤◌, true, List, map, take, set, sym, refl, ap, ◌∙◌, arith}
use Rattle.std.proofs.Math.Seq.{take-set-lt}
use Rattle.std.proofs.lemmas.List.{map-set}
use Rattle.kinds.specs.declared.kind.Kind.{Ghosts}
use Rattle.model.specs.Calls.{answered, is_held}
use Rattle.model.specs.Lawful.{Lawful}
use Rattle.model.specs.declared.calls.Call.{Call}
use Rattle.model.specs.declared.calls.Reply.{Reply}
use Rattle.model.proofs.LawfulCalls.{held_from_test}
use Rattle.steps.specs.Keeping.{LawfulStore as LawfulOf}
use Rattle.steps.proofs.Keeps.{lawful_kept}
use Rattle.store.proofs.Evidence.{lawful_shown}
use Rattle.store.specs.Sizing.{size_is}
use Rattle.store.specs.Meaning.{meaning, stacked, records, Roomy}
use Rattle.steps.specs.Replies.{leaving}
use Rattle.store.specs.View.{view, LawfulStore, Same}
use Rattle.store.specs.declared.contents.Contents.{Contents}
use Rattle.store.specs.declared.table.Store.{Store}

-- one of the first n entries written
pub set_front : {X Y : Type 0} (f : X → Y) (n : ℕ) (xs : List X) (i : ℕ) (v : X) → i < n → map f (take n (set xs i v)) ≡ set (map f (take n xs)) i (f v)
set_front f n xs i v l = ap (map f) (take-set-lt n xs i v l) ∙ map-set f (take n xs) i v

-- there is room for the records: the fields say so
pub roomy : {K : Type 0} (s : Contents K) → Roomy s
roomy s = record {
  records_room = s.records_room;
  heads_room = s.heads_room;
  list_room = s.list_room;
  work_room = s.work_room;
  listed_room = s.listed_room;
}

-- every store is lawful: its type says so
pub lawful_store : {K : Type 0} (g : Ghosts K) (s : Store K g) → LawfulStore g s
lawful_store g s = record { room = roomy s.contents; rules = lawful_shown g.shape (view g s) s.lawful }

-- what a call leaves as the call's definition says is lawful, tables of which no type says so yet
pub lawful_leaving :
    {K : Type 0} (g : Ghosts K) (before after : Contents K) (c : Call) (r : Reply) → Roomy before × Lawful g.shape (meaning g before) → Roomy after →
    leaving r (meaning g after) ≡ answered g.shape (meaning g before) c → Roomy after × Lawful g.shape (meaning g after)
lawful_leaving g before after c r law room e = (room, lawful_kept g.shape (meaning g before) (meaning g after) c r law.1 e)

-- what the calls over any store ask for
pub lawful_for : {K : Type 0} (g : Ghosts K) (s : Store K g) → LawfulOf (stacked g) (records g) s.contents
lawful_for g s = lawful_shown g.shape (view g s) s.lawful

-- a record that passes the test stands in the tables
pub held_stands : {K : Type 0} (g : Ghosts K) (s : Contents K) (r : ℕ) → true ≡ is_held (meaning g s) r → (1 ≤ r) × (r ≤ s.n)
held_stands g s r e =
    let w = (held_from_test (meaning g s) r (sym e)).0 in
    (w.0, omega (arith, w.1, size_is g.row s))

pub same_store : {K : Type 0} {g : Ghosts K} (s : Store K g) → Same s s
same_store s = record {
  records_same = refl;
  heads_same = refl;
  list_same = refl;
  work_same = refl;
  n_same = refl;
  listed_same = refl;
  front_same = refl;
}

-- the give-ups of a call are counted from 0 on, and nothing else is altered
pub roomy_reset :
    {K : Type 0} (s : Contents K) (m : ℕ) → Roomy s →
    Roomy (record {
      tables = s.tables;
      n = s.n;
      listed = s.listed;
      front = s.front;
      given = m;
      few = s.few;
      records_room = s.records_room;
      heads_room = s.heads_room;
      list_room = s.list_room;
      work_room = s.work_room;
      listed_room = s.listed_room;
    })
roomy_reset s m room = roomy _
