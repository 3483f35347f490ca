-- The turns of the loop of a walk.
use Rattle.std.proofs.Common.{◌≡◌, ℕ, suc, pred, ◌+◌, ◌-◌, ◌*◌, ◌/◌, ◌%◌, ◌<◌, ◌≤◌, true, false, ◌≢◌, List, [], ◌∷◌, ◌++◌, map, length, get_or, take, set, sym, refl, ap, ◌∙◌, subst, subst₂, ⊎_elim, mul-le-mul_left, mul-suc, arith}
use Rattle.std.proofs.lemmas.List.{length-append, length-map, length-set, take-set-le, take-take}
use Rattle.std.proofs.lemmas.Bool.{cases_Bool}
use Rattle.kinds.specs.Rows.{Row}
use Rattle.model.specs.State.{Within, row}
use Rattle.model.specs.Walk.{Progress, Rule, Task, Keeps, Ready, full}
use Rattle.model.specs.Walk.Task.{follow, visit, leave}
use Rattle.model.proofs.Walks.{Going, settle, settle_none, opened, go_visit, go_empty, go_follow, go_pass, go_enter, go_leave}
use Rattle.walks.specs.Begun.{Begun}
use Rattle.walks.proofs.Stacks.{links_of, stack, todo, frame, tasks, Frames, frames_head, frames_tail, frame_whole, frame_link, frame_done, stack_none, stack_top, stack_below, stack_more, stack_over, tasks_none, tasks_more, tasks_same}
use Rattle.walks.proofs.Stacks.Frames.{none, more}

-- What stays the same over the loop: p links to a record, the rule and what its steps keep, n records, the stack that
-- the steps need themselves, and the table as the loop began.
pub record Course : Type 1 where
  pub p : ℕ
  pub R : Rule
  pub I : Progress → List Task → Type 0
  pub room : Progress → List Task → ℕ
  pub n : ℕ
  pub spare : ℕ → ℕ
  pub base : ℕ
  pub start : List ℕ

-- the course of a walk that begins in g with the table `work`
abbrev pub course :
    ℕ → Rule → (Progress → List Task → Type 0) → (Progress → List Task → ℕ) → (ℕ → ℕ) → ℕ → List ℕ → Progress → Course
course p R I room spare base work g = record {
  p = p;
  R = R;
  I = I;
  room = room;
  n = length g.store.rows;
  spare = spare;
  base = base;
  start = work;
}

-- the depth that is left over a stack that ends before top
abbrev pub left : ℕ → ℕ → ℕ → ℕ
left n base top = suc n + base - top

abbrev pub Kept : Course → Type 0
Kept C = Keeps C.p C.R C.I C.room

abbrev pub On : Course → Progress → ℕ → List Task → Progress → Type 0
On C z d Q g = Going C.R C.I C.room z C.n d Q g

-- what falls with each turn
abbrev pub load : Course → Progress → List Task → ℕ
load C g Q = length Q + (C.p + 1) * C.room g Q

-- the table is as long as it was, and unchanged below base
pub record Bounds (C : Course) (work : List ℕ) : Type 0 where
  pub wide : length work ≡ length C.start
  pub below : take C.base work ≡ take C.base C.start
  pub tall : C.base + (C.n + C.spare C.n) ≤ length C.start
  pub few : C.n ≤ 4095
  pub narrow : C.p ≤ 16

-- The tasks P are to be done before those of the stack, and all will end in z; the load is at most w.
pub record At (C : Course) (z : Progress) (w : ℕ) (P : List Task) (top : ℕ) (work : List ℕ) (g : Progress) : Type 0 where
  pub above : C.base ≤ top
  pub going : On C z (left C.n C.base top) (P ++ todo g.store.rows work C.base top) g
  pub frames : Frames C.n C.p (stack work C.base (top - C.base))
  pub loaded : load C g (P ++ todo g.store.rows work C.base top) ≤ w
  pub bounds : Bounds C work

abbrev pub weight : Course → ℕ → List ℕ → Progress → ℕ
weight C top work g = load C g (todo g.store.rows work C.base top)

-- between two turns
abbrev pub Loop : Course → Progress → ℕ → List ℕ → Progress → Type 0
Loop C z top work g = At C z (weight C top work g) [] top work g

-- what stands above top does not matter
bounds_over :
    {C : Course} {work v : List ℕ} (top : ℕ) → C.base ≤ top → length v ≡ length work → take top v ≡ take top work →
    Bounds C work → Bounds C v
bounds_over {C} {work} {v} top h l e b = record {
  wide = l ∙ b.wide;
  below = sym (take-take C.base top v h) ∙ ap (take C.base) e ∙ take-take C.base top work h ∙ b.below;
  tall = b.tall;
  few = b.few;
  narrow = b.narrow;
}

-- a shorter list of tasks and no more room
load_falls :
    (C : Course) {g y : Progress} {P Q : List Task} → length Q < length P → C.room y Q ≤ C.room g P → load C y Q < load C g P
load_falls C {g} {y} {P} {Q} h l = omega (arith, mul-le-mul_left (C.p + 1) l)

-- At the top of the stack, and after the leave of a record.
module _ {C : Course} {z : Progress} {w : ℕ} {P : List Task} {top : ℕ} {work : List ℕ} {g : Progress} (a : At C z w P top work g) where
  -- the stack is no deeper than there are records
  pub low : top ≤ C.base + C.n
  low = omega (arith, a.going.deep)

  pub inside : C.base < top → top ≤ length work
  inside h = omega (arith, low, a.bounds.wide, a.bounds.tall)

module _ {C : Course} {z : Progress} {w : ℕ} {P : List Task} {top : ℕ} {work : List ℕ} {g : Progress} {n : ℕ} (k : Kept C) (a : At C z w P top work g) (up : C.base < top) (is : n ≡ get_or work (top - 1) 0) where
  split : stack work C.base (top - C.base) ≡ n ∷ stack work C.base (top - 1 - C.base)
  split = stack_top work C.base top up ∙ ap (λ m. m ∷ stack work C.base (top - 1 - C.base)) (sym is)

  lower : Frames C.n C.p (stack work C.base (top - 1 - C.base))
  lower = frames_tail (rw split at a.frames)

  -- the last entry is of a record
  pub at_top : (1 ≤ n / 32) × (n / 32 ≤ C.n) × (n % 32 ≤ C.p)
  at_top = frames_head (rw split at a.frames)

  pub named : Within g.store (n / 32)
  named = (at_top.0, omega (arith, at_top.1, a.going.size))

  wide : length (links_of g.store.rows (n / 32)) ≡ C.p
  wide = k.wide g _ a.going.fits (n / 32) named

  tasks_top : todo g.store.rows work C.base top ≡ frame g.store.rows (n / 32) (n % 32) (todo g.store.rows work C.base (top - 1))
  tasks_top = tasks_more g.store.rows _ _ n (n / 32) (n % 32) split refl refl

-- A turn that leaves the record at the top, or takes its next link.
module _ {C : Course} {z : Progress} {w top : ℕ} {work : List ℕ} {g : Progress} {n : ℕ} (k : Kept C) (a : At C z w [] top work g) (up : C.base < top) (is : n ≡ get_or work (top - 1) 0) where
  leaving : C.p ≤ n % 32 → todo g.store.rows work C.base top ≡ leave (n / 32) ∷ todo g.store.rows work C.base (top - 1)
  leaving f = tasks_top k a up is ∙ frame_done g.store.rows (n / 32) (n % 32) _ (omega (arith, wide k a up is))

  leave_going : C.p ≤ n % 32 → On C z (left C.n C.base top) (leave (n / 32) ∷ todo g.store.rows work C.base (top - 1)) g
  leave_going f = subst (λ Q. On C z (left C.n C.base top) Q g) (leaving f) a.going

  pub leave_ready : C.p ≤ n % 32 → Ready C.I g (leave (n / 32))
  leave_ready f = record { rest = todo g.store.rows work C.base (top - 1); fits = (leave_going f).fits }

  pub turn_leave :
      {y : Progress} {v : List ℕ} → C.p ≤ n % 32 → y ≡ C.R.leave g (n / 32) → v ≡ work →
      Loop C z (top - 1) v y × (weight C (top - 1) v y < w)
  turn_leave {y} {v} f e j =
      let Q : List Task = todo g.store.rows work C.base (top - 1) in
      let G = leave_going f in
      let t = k.leaves g (n / 32) Q G.fits in
      let go = go_leave C.p C.R C.I C.room k C.n z Q g (left C.n C.base top) (n / 32) y e G in
      let same : todo y.store.rows work C.base (top - 1) ≡ Q =
      tasks_same g.store.rows y.store.rows (n / 32) (lower k a up is)
      (λ r h ne. ap (λ x. row x.store r) e ∙ t.others r h ne) (k.once g (n / 32) Q G.fits) in
      let one : suc (left C.n C.base top) ≡ left C.n C.base (top - 1) = omega (arith, G.deep) in
      let fewer : C.room y Q ≤ C.room g (leave (n / 32) ∷ Q) = rw e t.fewer in
      let less : load C y Q < load C g (leave (n / 32) ∷ Q) = load_falls C (omega arith) fewer in
      let was : load C g (leave (n / 32) ∷ Q) ≤ w = subst (λ X. load C g X ≤ w) (leaving f) a.loaded in
      rw j (
        record {
          above = omega arith;
          going = subst₂ (λ d X. On C z d X y) one (sym same) go;
          frames = lower k a up is;
          loaded = omega arith;
          bounds = a.bounds;
        },
        subst (λ X. load C y X < w) (sym same) (omega arith),
      )

  pub advance :
      {y : Progress} {v : List ℕ} {u : ℕ} → n % 32 < C.p → y ≡ g → v ≡ set work (top - 1) (n + 1) →
      u ≡ get_or (row y.store (n / 32)).links (n % 32) 0 → At C z w (follow u ∷ []) top v y
  advance {y} {v} {u} f e j t =
      let rs : List Row = g.store.rows in
      let V : List ℕ = set work (top - 1) (n + 1) in
      let U : ℕ = get_or (links_of rs (n / 32)) (n % 32) 0 in
      let narrow = a.bounds.narrow in
      let here : (n + 1) / 32 ≡ n / 32 = omega arith in
      let next : (n + 1) % 32 ≡ n % 32 + 1 = omega arith in
      let over = stack_over work C.base top (n + 1) up (inside a up) in
      let rest : todo rs V C.base top ≡ frame rs (n / 32) (n % 32 + 1) (todo rs work C.base (top - 1)) =
      tasks_more rs _ _ (n + 1) (n / 32) (n % 32 + 1) over here next in
      let eq : todo rs work C.base top ≡ follow U ∷ todo rs V C.base top =
      tasks_top k a up is ∙ frame_link rs (n / 32) (n % 32) _ (omega (arith, wide k a up is)) ∙ ap (λ X. follow U ∷ X) (sym rest) in
      let o = at_top k a up is in
      rw (t, j, e) (record {
        above = a.above;
        going = subst (λ X. On C z (left C.n C.base top) X g) eq a.going;
        frames = rw over (more {n = n + 1} (omega arith) (omega arith) (omega arith) (lower k a up is));
        loaded = subst (λ X. load C g X ≤ w) eq a.loaded;
        bounds = bounds_over (top - 1) (omega arith) (length-set work (top - 1) (n + 1)) (take-set-le (top - 1) work (top - 1) (n + 1) (omega arith)) a.bounds;
      })

-- The link that is next: an empty one is skipped, and any other followed.
module _ {C : Course} {z : Progress} {w u top : ℕ} {work : List ℕ} {g : Progress} (k : Kept C) (a : At C z w (follow u ∷ []) top work g) where
  pub turn_empty : u ≡ 0 → Loop C z top work g × (weight C top work g < w)
  turn_empty e =
      let Q : List Task = todo g.store.rows work C.base top in
      let G : On C z (left C.n C.base top) (follow 0 ∷ Q) g = subst (λ x. On C z (left C.n C.base top) (follow x ∷ Q) g) e a.going in
      let was : load C g (follow 0 ∷ Q) ≤ w = subst (λ x. load C g (follow x ∷ Q) ≤ w) e a.loaded in
      let less : load C g Q < load C g (follow 0 ∷ Q) = load_falls C (omega arith) (k.empty g Q G.fits).fewer in (
        record {
          above = a.above;
          going = go_empty C.p C.R C.I C.room k C.n z Q g (left C.n C.base top) G;
          frames = a.frames;
          loaded = omega arith;
          bounds = a.bounds;
        },
        omega arith,
      )

  pub follow_ready : Ready C.I g (follow u)
  follow_ready = record { rest = todo g.store.rows work C.base top; fits = a.going.fits }

  pub followed : {y : Progress} {v : List ℕ} → u ≢ 0 → y ≡ C.R.follow g u → v ≡ work → At C z w (visit u ∷ []) top v y
  followed {y} {v} ne e j =
      let Q : List Task = todo g.store.rows work C.base top in
      let t = k.follows g u Q ne a.going.fits in
      let go = go_follow C.p C.R C.I C.room k C.n z Q g (left C.n C.base top) u y ne e a.going in
      let same : Q ≡ todo y.store.rows work C.base top = ap (λ rs. todo rs work C.base top) (sym (ap (λ x. x.store.rows) e ∙ t.rows)) in
      let fewer : C.room y (visit u ∷ Q) ≤ C.room g (follow u ∷ Q) = rw e t.fewer in
      let less : load C y (visit u ∷ Q) ≤ w = omega (arith, mul-le-mul_left (C.p + 1) fewer, a.loaded) in
      rw j (record {
        above = a.above;
        going = subst (λ X. On C z (left C.n C.base top) (visit u ∷ X) y) same go;
        frames = a.frames;
        loaded = subst (λ X. load C y (visit u ∷ X) ≤ w) same less;
        bounds = a.bounds;
      })

-- The record that is visited next.
module _ {C : Course} {z : Progress} {w u top : ℕ} {work : List ℕ} {g : Progress} (k : Kept C) (a : At C z w (visit u ∷ []) top work g) where
  pub visit_ready : Ready C.I g (visit u)
  visit_ready = record { rest = todo g.store.rows work C.base top; fits = a.going.fits }

  pub visit_small : u ≤ 4095
  visit_small =
      let o = k.within g u (todo g.store.rows work C.base top) a.going.fits in
      omega (arith, o.1, a.going.size, a.bounds.few)

  turn_enter :
      {y : Progress} {v : List ℕ} → C.R.enters g u ≡ true → y ≡ C.R.enter g u → get_or v top 0 ≡ u * 32 →
      length v ≡ length work → take top v ≡ take top work → Loop C z (top + 1) v y × (weight C (top + 1) v y < w)
  turn_enter {y} {v} h e f l b =
      let Q : List Task = todo g.store.rows work C.base top in
      let up = a.above in
      let t = k.begins g u Q h a.going.fits in
      let go = go_enter C.p C.R C.I C.room k C.n z Q g (left C.n C.base top) u y h e a.going in
      let rows : y.store.rows ≡ g.store.rows = ap (λ x. x.store.rows) e ∙ t.rows in
      let within = k.within g u Q a.going.fits in
      let size = a.going.size in
      let many : length (links_of y.store.rows u) ≡ C.p =
      ap (λ rs. length (links_of rs u)) rows ∙ k.wide g _ a.going.fits u within in
      let taller = stack_more work v C.base top (u * 32) up b f in
      let r : u * 32 / 32 ≡ u = omega arith in
      let i : u * 32 % 32 ≡ 0 = omega arith in
      let same : opened y u Q ≡ todo y.store.rows v C.base (top + 1) =
      ap (λ rs. map follow (links_of y.store.rows u) ++ (leave u ∷ todo rs work C.base top)) (sym rows) ∙
      sym (tasks_more y.store.rows _ _ (u * 32) u 0 taller r i ∙ frame_whole y.store.rows u (todo y.store.rows work C.base top)) in
      let long : length (opened y u Q) ≡ C.p + suc (length Q) = simp (length-append, length-map) (omega arith) in
      let fewer : suc (C.room y (opened y u Q)) ≤ C.room g (visit u ∷ Q) = rw e (k.lowers g u Q h a.going.fits) in
      let less : load C y (opened y u Q) < w =
      omega (arith, mul-le-mul_left (C.p + 1) fewer, mul-suc (C.p + 1) (C.room y (opened y u Q)), a.loaded, long) in
      let one : pred (left C.n C.base top) ≡ left C.n C.base (top + 1) = omega arith in (
        record {
          above = omega arith;
          going = subst₂ (λ d X. On C z d X y) one same go;
          frames = rw taller (more {n = u * 32} (omega arith) (omega arith) (omega arith) a.frames);
          loaded = omega arith;
          bounds = bounds_over top up l b a.bounds;
        },
        subst (λ X. load C y X < w) same less,
      )

  turn_pass :
      {y : Progress} {v : List ℕ} → C.R.enters g u ≡ false → y ≡ C.R.pass g u →
      length v ≡ length work → take top v ≡ take top work → Loop C z top v y × (weight C top v y < w)
  turn_pass {y} {v} h e l b =
      let Q : List Task = todo g.store.rows work C.base top in
      let t = k.passes g u Q h a.going.fits in
      let go = go_pass C.p C.R C.I C.room k C.n z Q g (left C.n C.base top) u y h e a.going in
      let rows : y.store.rows ≡ g.store.rows = ap (λ x. x.store.rows) e ∙ t.rows in
      let below = stack_below work v C.base top a.above b in
      let same : Q ≡ todo y.store.rows v C.base top =
      ap (λ rs. todo rs work C.base top) (sym rows) ∙ ap (tasks y.store.rows) (sym below) in
      let fewer : C.room y Q ≤ C.room g (visit u ∷ Q) = rw e t.fewer in
      let less : load C y Q < load C g (visit u ∷ Q) = load_falls C (omega arith) fewer in (
        record {
          above = a.above;
          going = subst (λ X. On C z (left C.n C.base top) X y) same go;
          frames = rw below a.frames;
          loaded = omega arith;
          bounds = bounds_over top a.above l b a.bounds;
        },
        subst (λ X. load C y X < w) same (omega (arith, a.loaded)),
      )

  -- there is a place for it, if it is entered
  pub free : C.R.enters g u ≡ true → top < length work
  free h =
      let Q : List Task = todo g.store.rows work C.base top in
      let l = k.lowers g u Q h a.going.fits in
      omega (arith, l, a.going.deep, a.bounds.wide, a.bounds.tall)

  pub turn_begun :
      {y : Progress} {v : List ℕ} {next : ℕ} → Begun C.R u top g work y v next →
      Loop C z next v y × (weight C next v y < w)
  turn_begun {y} {v} {next} b = ⊎_elim
      (λ h. let x = b.entered h in subst (λ m. Loop C z m v y × (weight C m v y < w)) (sym x.1) (turn_enter h x.0 x.2 b.wide b.below))
      (λ h. let x = b.passed h in subst (λ m. Loop C z m v y × (weight C m v y < w)) (sym x.1) (turn_pass h x.0 b.wide b.below))
      (cases_Bool (C.R.enters g u))

-- the loop ends
pub end : {C : Course} {z : Progress} {w top : ℕ} {work : List ℕ} {g : Progress} → At C z w [] top work g → top ≤ C.base → (g ≡ z) × C.I g []
end {C} {z} {w} {top} {work} {g} a h =
    let up = a.above in
    let e : top ≡ C.base = omega arith in
    let no : todo g.store.rows work C.base top ≡ [] = ap (todo g.store.rows work C.base) e ∙ tasks_none g.store.rows work C.base in
    let G : On C z (left C.n C.base top) [] g = subst (λ Q. On C z (left C.n C.base top) Q g) no a.going in
    (sym (settle_none C.R (left C.n C.base top) g) ∙ G.settles, G.fits)

-- the same, seen from the place that is reached: its size, its table, and where its tasks end
pub onward :
    {C : Course} {z : Progress} {w top : ℕ} {work : List ℕ} {g : Progress} → At C z w [] top work g →
    At (course C.p C.R C.I C.room C.spare C.base work g)
    (settle C.R (left (length g.store.rows) C.base top) (todo g.store.rows work C.base top) g) w [] top work g
onward {C} {z} {w} {top} {work} {g} a =
    let e = sym a.going.size in
    let Q : List Task = todo g.store.rows work C.base top in
    let G = subst (λ m. Going C.R C.I C.room z m (left m C.base top) Q g) e a.going in
    record {
      above = a.above;
      going = record { settles = refl; fits = G.fits; size = refl; deep = G.deep };
      frames = subst (λ m. Frames m C.p (stack work C.base (top - C.base))) e a.frames;
      loaded = a.loaded;
      bounds = record {
        wide = refl;
        below = refl;
        tall = omega (arith, a.bounds.tall, a.bounds.wide, a.going.size, ap C.spare a.going.size);
        few = omega (arith, a.bounds.few, a.going.size);
        narrow = a.bounds.narrow;
      };
    }

-- where its tasks end
pub onward_end :
    {C : Course} {z : Progress} {w top : ℕ} {work : List ℕ} {g : Progress} → At C z w [] top work g →
    settle C.R (left (length g.store.rows) C.base top) (todo g.store.rows work C.base top) g ≡ z
onward_end {C} {z} {w} {top} {work} {g} a =
    ap (λ m. settle C.R (left m C.base top) (todo g.store.rows work C.base top) g) a.going.size ∙ a.going.settles

-- the root is about to be visited
pub first :
    (p : ℕ) (R : Rule) (I : Progress → List Task → Type 0) (room : Progress → List Task → ℕ) (k : Keeps p R I room)
    (spare : ℕ → ℕ) (base root : ℕ) (work : List ℕ) (g : Progress) →
    I g (visit root ∷ []) → p ≤ 16 → length g.store.rows ≤ 4095 →
    base + (length g.store.rows + spare (length g.store.rows)) ≤ length work →
    At (course p R I room spare base work g) (full R g root)
    (load (course p R I room spare base work g) g (visit root ∷ [])) (visit root ∷ []) base work g
first p R I room k spare base root work g f narrow few tall =
    let N : ℕ = length g.store.rows in
    let most = k.most g (visit root ∷ []) f in
    let none' : [] ≡ todo g.store.rows work base base = sym (tasks_none g.store.rows work base) in
    let one : suc N ≡ left N base base = omega arith in
    let C : Course = course p R I room spare base work g in
    record {
      above = omega arith;
      going = subst₂ (λ d Q. On C (full R g root) d (visit root ∷ Q) g) one none' (go_visit p R I room k N (suc N) root g refl f (omega arith));
      frames = rw (stack_none work base) none;
      loaded = subst (λ Q. load C g (visit root ∷ Q) ≤ load C g (visit root ∷ [])) none' (omega arith);
      bounds = record { wide = refl; below = refl; tall = tall; few = few; narrow = narrow };
    }
