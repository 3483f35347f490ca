-- The stack of a walk: one number for a record and its next link, r * 32 + i.
use Rattle.std.proofs.Common.{◌≡◌, ℕ, zero, suc, ◌+◌, ◌-◌, ◌/◌, ◌%◌, ◌<◌, ◌≤◌, ◌≢◌, List, [], ◌∷◌, ◌++◌, map, length, get_or, take, drop, set, sym, refl, ap, ◌∙◌, ap₂, arith}
use Rattle.std.proofs.lemmas.List.{get_or-set_same, drop_all, drop_more, get_or-take, take-set}
use Rattle.kinds.specs.Rows.{Row}
use Rattle.model.specs.State.{no_row}
use Rattle.model.specs.Walk.{Task, Absent}
use Rattle.model.specs.Walk.Task.{follow, leave}

-- the links of record r
abbrev pub links_of : List Row → ℕ → List ℕ
links_of rs r = (get_or rs (r - 1) no_row).links

-- the k entries from base on, the last first
pub stack : List ℕ → ℕ → ℕ → List ℕ
stack work base zero = []
stack work base (suc k) = get_or work (base + k) 0 ∷ stack work base k

-- what is left to do of record r from its link i on, and then Q
pub frame : List Row → ℕ → ℕ → List Task → List Task
frame rs r i Q = map follow (drop i (links_of rs r)) ++ (leave r ∷ Q)

pub tasks : List Row → List ℕ → List Task
tasks rs [] = []
tasks rs (n ∷ ns) = frame rs (n / 32) (n % 32) (tasks rs ns)

-- the tasks that the entries from base up to top stand for
abbrev pub todo : List Row → List ℕ → ℕ → ℕ → List Task
todo rs work base top = tasks rs (stack work base (top - base))

-- each entry is of one of m records, at most past its last link
pub data Frames (m p : ℕ) : List ℕ → Type 0 where
  none : Frames m p []
  more : {n : ℕ} {ns : List ℕ} → 1 ≤ n / 32 → n / 32 ≤ m → n % 32 ≤ p → Frames m p ns → Frames m p (n ∷ ns)

pub frames_head : {m p n : ℕ} {ns : List ℕ} → Frames m p (n ∷ ns) → (1 ≤ n / 32) × (n / 32 ≤ m) × (n % 32 ≤ p)
frames_head (more a b c f) = (a, b, c)

pub frames_tail : {m p n : ℕ} {ns : List ℕ} → Frames m p (n ∷ ns) → Frames m p ns
frames_tail (more a b c f) = f

-- Reading a frame: all its links, the first of them, and none.
pub frame_whole : (rs : List Row) (r : ℕ) (Q : List Task) → frame rs r 0 Q ≡ map follow (links_of rs r) ++ (leave r ∷ Q)
unfolding frame
frame_whole rs r Q = refl

pub frame_link :
    (rs : List Row) (r i : ℕ) (Q : List Task) → i < length (links_of rs r) →
    frame rs r i Q ≡ follow (get_or (links_of rs r) i 0) ∷ frame rs r (i + 1) Q
unfolding frame
frame_link rs r i Q h = ap (λ us. map follow us ++ (leave r ∷ Q)) (drop_more (links_of rs r) i 0 h)

pub frame_done : (rs : List Row) (r i : ℕ) (Q : List Task) → length (links_of rs r) ≤ i → frame rs r i Q ≡ leave r ∷ Q
unfolding frame
frame_done rs r i Q h = ap (λ us. map follow us ++ (leave r ∷ Q)) (drop_all i (links_of rs r) h)

-- Reading the table as a stack.
pub stack_none : (work : List ℕ) (base : ℕ) → stack work base (base - base) ≡ []
unfolding stack
stack_none work base = let e : base - base ≡ 0 = omega arith in ap (stack work base) e

stack_next :
    (work : List ℕ) (base top : ℕ) → base ≤ top →
    stack work base (top + 1 - base) ≡ get_or work top 0 ∷ stack work base (top - base)
unfolding stack
stack_next work base top h =
    let e : top + 1 - base ≡ suc (top - base) = omega arith in
    let f : base + (top - base) ≡ top = omega arith in
    ap (stack work base) e ∙ ap (λ j. get_or work j 0 ∷ stack work base (top - base)) f

pub stack_top :
    (work : List ℕ) (base top : ℕ) → base < top →
    stack work base (top - base) ≡ get_or work (top - 1) 0 ∷ stack work base (top - 1 - base)
stack_top work base top h =
    let e : top - base ≡ top - 1 + 1 - base = omega arith in
    ap (stack work base) e ∙ stack_next work base (top - 1) (omega arith)

-- the stack that ends before top is what stands below top
stack_same :
    (work v : List ℕ) (base k top : ℕ) → base + k ≤ top → take top v ≡ take top work → stack v base k ≡ stack work base k
unfolding stack
stack_same work v base zero top h e = refl
stack_same work v base (suc k) top h e =
    let l : base + k < top = omega arith in
    ap₂ (λ n ns. n ∷ ns)
    (sym (get_or-take top v (base + k) 0 l) ∙ ap (λ x. get_or x (base + k) 0) e ∙ get_or-take top work (base + k) 0 l)
    (stack_same work v base k top (omega arith) e)

pub stack_below :
    (work v : List ℕ) (base top : ℕ) → base ≤ top → take top v ≡ take top work →
    stack v base (top - base) ≡ stack work base (top - base)
stack_below work v base top h e = stack_same work v base (top - base) top (omega arith) e

-- one more entry, over what stood below top before
pub stack_more :
    (work v : List ℕ) (base top n : ℕ) → base ≤ top → take top v ≡ take top work → get_or v top 0 ≡ n →
    stack v base (top + 1 - base) ≡ n ∷ stack work base (top - base)
stack_more work v base top n h e f =
    stack_next v base top h ∙ ap₂ (λ x xs. x ∷ xs) f (stack_below work v base top h e)

-- the last entry is written
pub stack_over :
    (work : List ℕ) (base top n : ℕ) → base < top → top ≤ length work →
    stack (set work (top - 1) n) base (top - base) ≡ n ∷ stack work base (top - 1 - base)
stack_over work base top n h l =
    let e : top - base ≡ top - 1 + 1 - base = omega arith in
    ap (stack (set work (top - 1) n) base) e ∙
    stack_more work (set work (top - 1) n) base (top - 1) n (omega arith) (take-set work (top - 1) n)
    (get_or-set_same work (top - 1) n 0 (omega arith))

pub tasks_none : (rs : List Row) (work : List ℕ) (base : ℕ) → todo rs work base base ≡ []
unfolding tasks
tasks_none rs work base = ap (tasks rs) (stack_none work base)

pub tasks_more : (rs : List Row) (ns ms : List ℕ) (n r i : ℕ) → ns ≡ n ∷ ms → n / 32 ≡ r → n % 32 ≡ i → tasks rs ns ≡ frame rs r i (tasks rs ms)
unfolding tasks
tasks_more rs ns ms n r i e a b = ap (tasks rs) e ∙ ap₂ (λ x y. frame rs x y (tasks rs ms)) a b

absent_frame : (t r : ℕ) (us : List ℕ) (Q : List Task) → Absent t (map follow us ++ (leave r ∷ Q)) → (r ≢ t) × Absent t Q
absent_frame t r [] Q a = a
absent_frame t r (u ∷ us) Q a = absent_frame t r us Q a

-- Rows that differ at t alone have the same tasks, if t is not among the records to be left.
pub tasks_same :
    (rs qs : List Row) (t : ℕ) {m p : ℕ} {ns : List ℕ} → Frames m p ns →
    ((r : ℕ) → 1 ≤ r → r ≢ t → get_or qs (r - 1) no_row ≡ get_or rs (r - 1) no_row) → Absent t (tasks rs ns) → tasks qs ns ≡ tasks rs ns
unfolding tasks frame
tasks_same rs qs t none others a = refl
tasks_same rs qs t {ns = n ∷ ns} (more low high next f) others a =
    let b = absent_frame t (n / 32) (drop (n % 32) (links_of rs (n / 32))) (tasks rs ns) a in
    ap₂ (λ w Q. map follow (drop (n % 32) w.links) ++ (leave (n / 32) ∷ Q)) (others (n / 32) low b.0)
    (tasks_same rs qs t f others b.1)
