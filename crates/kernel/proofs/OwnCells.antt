-- A row of which the first cells are the run's own.
use Rattle.std.proofs.Common.{◌≡◌, ℕ, zero, suc, ◌+◌, ◌-◌, ◌<◌, ◌≤◌, Bool, true, false, List, [], ◌∷◌, ◌++◌, length, take, drop, set, Option, Some, Vec, None, refl, sym, ap, ◌∙◌, subst, arith, length-append, length-drop, length-set, length-take-le, append_assoc, append-nil}
use Rattle.std.specs.Prelude.{nat_le, replicate, slice_get, slice_index, slice_range}
use Rattle.std.proofs.lemmas.List.{drop-drop, drop_all, get_or-replicate, length-replicate, nil_from_length, replicate-append-replicate, set-append_left, set-get_or, take-append-drop, take_all, take_rest, with_items_is}
use Rattle.std.specs.Vec.{with_items}
use Rattle.std.proofs.lemmas.Option.{get_or_from_slice_get, slice_get-get_or, slice_get_within}
use Rattle.std.proofs.Math.Seq.{drop-append-add}
use Rattle.base.proofs.Places.{get_left, get_right}
use Rattle.shared_row.specs.declared.marks.Marks.{Marks}
use Rattle.shared_row.specs.declared.marks.Marks.TheVariants as kinds
use Rattle.shared_row.specs.Rows.{marks_of}
use Rattle.kernel.specs.Rows.{HaveMarks, Parts, run_parts, stored_at}
use Rattle.kernel.specs.Lanes.{HasPut, Over, all_of}
use Rattle.base.specs.Rows.{if_marked}
use Rattle.kernel.proofs.FreshRows.{no_mark}
use Rattle.kernel.proofs.RowStores.{with_number}
use Rattle.kernel.proofs.OverParts.{over_alike, over_left, over_middle, over_same}

-- marks of so many cells, of which those from a place up to another are set
abbrev pub some_marks : ℕ → ℕ → ℕ → List Bool
some_marks n first end = replicate first false ++ (replicate (end - first) true ++ replicate (n - end) false)

-- a row, its own cells, and their marks
abbrev pub row_parts : ℕ → List ℕ → List ℕ → List Bool → Parts
row_parts first lent own marks = (
  first,
  own ++ drop (length own) lent,
  marks ++ replicate (length lent - length own) false,
)

-- where all cells are its own
pub all_own : (first : ℕ) (lent own : List ℕ) (marks : List Bool) → length own ≡ length lent →
    row_parts first lent own marks ≡ (first, own, marks)
all_own first lent own marks h =
    let none : length lent - length own ≡ 0 = omega arith in
    let cells : own ++ drop (length own) lent ≡ own =
    ap (λ d. own ++ d) (drop_all (length own) lent (omega arith)) ∙ append-nil own in
    let ms : marks ++ replicate (length lent - length own) false ≡ marks =
    ap (λ n. marks ++ replicate n false) none ∙ append-nil marks in
    λ i. (first, cells i, ms i)

-- the marks of all cells
pub marks_of_all : (first end n all : ℕ) → end ≡ n → n ≤ all →
    some_marks n first end ++ replicate (all - n) false ≡ some_marks all first end
marks_of_all first end n all h k =
    let rest : n - end + (all - n) ≡ all - end = omega arith in
    append_assoc (replicate first false) (replicate (end - first) true ++ replicate (n - end) false)
    (replicate (all - n) false)
    ∙ ap (λ m. replicate first false ++ m)
    (append_assoc (replicate (end - first) true) (replicate (n - end) false) (replicate (all - n) false)
    ∙ ap (λ m. replicate (end - first) true ++ m)
    (replicate-append-replicate (n - end) (all - n) false ∙ ap (λ m. replicate m false) rest))

all_marked : (n k : ℕ) → k < n → slice_get (replicate n true) k ≡ Some true
all_marked n k h =
    slice_get-get_or (replicate n true) k false (simp length-replicate h) ∙ ap Some (get_or-replicate n k true false h)

-- marks that were set in a list of none
pub marks_made : (n first end : ℕ) (marks : List Bool) → first ≤ end → end ≤ n →
    Over Bool all_of (λ k. true) first (end - first) (replicate n false) marks → marks ≡ some_marks n first end
marks_made n first end marks h k is =
    let m = end - first in
    let parts : replicate n false ≡ replicate first false ++ (replicate m false ++ replicate (n - end) false) =
    sym (ap (λ bs. replicate first false ++ bs) (replicate-append-replicate m (n - end) false)
    ∙ replicate-append-replicate first (m + (n - end)) false ∙ ap (λ k. replicate k false) (omega arith)) in
    over_alike Bool all_of (λ k. true) first m (replicate n false) marks (some_marks n first end) is
    (subst (λ (bs : List Bool). Over Bool all_of (λ k. true) first m bs (some_marks n first end)) (sym parts)
    (over_middle Bool (λ k. true) first m (replicate first false) (replicate m false) (replicate m true)
    (replicate (n - end) false) (length-replicate first false) (length-replicate m false) (length-replicate m true)
    (all_marked m)))

-- the run's own are no more than all
pub own_fits : (lent own : List ℕ) (stored : Marks) → HaveMarks lent own stored → length own ≤ length lent
own_fits lent own (kinds.Run first end) h = h.1.1
own_fits lent own (kinds.Each each) h = omega (arith, h.1)

pub row_size : (lent own : List ℕ) → length own ≤ length lent → length (own ++ drop (length own) lent) ≡ length lent
row_size lent own h = simp (length-append, length-drop) (omega arith)

behind_own : (lent own : List ℕ) (at : ℕ) → length own ≤ at → drop at (own ++ drop (length own) lent) ≡ drop at lent
behind_own lent own at h =
    let e : length own + (at - length own) ≡ at = omega arith in
    ap (λ m. drop m (own ++ drop (length own) lent)) (sym e)
    ∙ drop-append-add own (drop (length own) lent) (at - length own)
    ∙ drop-drop (at - length own) (length own) lent ∙ ap (λ m. drop m lent) e

-- cells behind the run's own
pub lent_run : (first : ℕ) (lent own : List ℕ) (marks : List Bool) (row : Parts) (at n : ℕ) →
    row_parts first lent own marks ≡ row → length own ≤ length lent → length own ≤ at → at + n ≤ length lent →
    (at + n ≤ length row.1) × (take (at + n - at) (drop at lent) ≡ slice_range row.1 at (at + n))
lent_run first lent own marks row at n is size h fits =
    let all : length row.1 ≡ length lent = ap (λ (p : Parts). length p.1) (sym is) ∙ row_size lent own size in (
      omega arith,
      ap (take (at + n - at)) (sym (behind_own lent own at h)) ∙ ap (λ (p : Parts). slice_range p.1 at (at + n)) is,
    )

no_marks : (n at : ℕ) → at ≤ n → some_marks n at at ≡ replicate n false
no_marks n at h =
    let none : at - at ≡ 0 = omega arith in
    let all : at + (n - at) ≡ n = omega arith in
    ap (λ m. replicate at false ++ (replicate m true ++ replicate (n - at) false)) none
    ∙ replicate-append-replicate at (n - at) false ∙ ap (λ m. replicate m false) all

-- the first ones are, and none of them is stored
pub begun : (first : ℕ) (lent own cells : List ℕ) (from end at : ℕ) → end ≡ 0 → end ≡ length own → from ≤ end →
    at ≤ length lent → cells ≡ take at lent →
    row_parts first lent cells (some_marks (length cells) at at)
    ≡ row_parts first lent own (some_marks (length own) from end)
begun first lent own cells from end at nil size low fits e =
    let now : length cells ≡ at = ap length e ∙ length-take-le at lent fits in
    let none : own ≡ [] = nil_from_length own (omega arith) in
    let same : from ≡ end = omega arith in
    let cs : cells ++ drop (length cells) lent ≡ own ++ drop (length own) lent =
    (λ i. e i ++ drop (now i) lent) ∙ take-append-drop at lent ∙ ap (λ xs. xs ++ drop (length xs) lent) (sym none) in
    let ms : some_marks (length cells) at at ++ replicate (length lent - length cells) false
    ≡ some_marks (length own) from end ++ replicate (length lent - length own) false =
    marks_of_all at at (length cells) (length lent) (sym now) (omega arith) ∙ no_marks (length lent) at fits
    ∙ sym (marks_of_all from end (length own) (length lent) size (omega arith)
    ∙ ap (λ m. some_marks (length lent) m end) same ∙ no_marks (length lent) end (omega arith)) in
    λ i. (first, cs i, ms i)

marked_at : (n from end k : ℕ) → from ≤ k → k < end → end ≤ n → slice_get (some_marks n from end) k ≡ Some true
marked_at n from end k low high fits =
    let front = length-replicate from false in
    get_right (replicate from false) (replicate (end - from) true ++ replicate (n - end) false) k (omega arith)
    ∙ ap (λ m. slice_get (replicate (end - from) true ++ replicate (n - end) false) (k - m)) front
    ∙ get_left (replicate (end - from) true) (replicate (n - end) false) (k - from)
    (simp length-replicate (omega arith))
    ∙ all_marked (end - from) (k - from) (omega arith)

set_there : {A : Type 0} (xs : List A) (k : ℕ) (x : A) → slice_get xs k ≡ Some x → set xs k x ≡ xs
set_there xs k x e = ap (set xs k) (sym (get_or_from_slice_get xs k x x e)) ∙ set-get_or xs k x

-- a number among cells that are stored
pub cell_in_run : (first : ℕ) (lent own : List ℕ) (from end at v : ℕ) (row : Parts) → end ≡ length own → from ≤ at →
    at < length own → row_parts first lent own (some_marks (length own) from end) ≡ row →
    row_parts first lent (set own at v) (some_marks (length (set own at v)) from end) ≡ with_number row at v
cell_in_run first lent own from end at v row size low high is =
    let ms = some_marks (length own) from end in
    let n = length-set own at v in
    let marked : slice_get ms at ≡ Some true = marked_at (length own) from end at low (omega arith) (omega arith) in
    let cs : set own at v ++ drop (length (set own at v)) lent ≡ set (own ++ drop (length own) lent) at v =
    ap (λ m. set own at v ++ drop m lent) n ∙ sym (set-append_left own (drop (length own) lent) at v high) in
    let marks : some_marks (length (set own at v)) from end ++ replicate (length lent - length (set own at v)) false
    ≡ set (ms ++ replicate (length lent - length own) false) at true =
    ap (λ m. some_marks m from end ++ replicate (length lent - m) false) n
    ∙ sym (set_there (ms ++ replicate (length lent - length own) false) at true
    (get_left ms (replicate (length lent - length own) false) at (slice_get_within ms at true marked) ∙ marked)) in
    (λ i. (first, cs i, marks i)) ∙ ap (λ (p : Parts). with_number p at v) is

-- an element that was written in a vector's place
pub set_back : {X Z : Type 0} (v : Vec X Z) (was now : List X) (at : ℕ) (x : X) → was ≡ v.items → length was ≡ v.len →
    now ≡ set was at x → (with_items v now).items ≡ set v.items at x
set_back v was now at x is size e =
    with_items_is v now (ap length e ∙ length-set was at x ∙ size) ∙ e ∙ ap (λ xs. set xs at x) is

-- where all are its own
pub cell_in_all : (first : ℕ) (lent own : List ℕ) (marks : List Bool) (at v : ℕ) (row : Parts) (cells : List ℕ)
    (ms : List Bool) → length own ≡ length lent → row_parts first lent own marks ≡ row → cells ≡ set own at v →
    ms ≡ set marks at true →
    row_parts first lent cells ms ≡ with_number row at v
cell_in_all first lent own marks at v row cells ms size is e m =
    all_own first lent cells ms (ap length e ∙ length-set own at v ∙ size) ∙ (λ i. (first, e i, m i))
    ∙ ap (λ (p : Parts). with_number p at v) (sym (all_own first lent own marks size) ∙ is)

-- numbers in cells where all are its own
pub run_in_all : (part : ℕ → Bool) (numbers : List ℕ) (first : ℕ) (lent own : List ℕ) (marks : List Bool) (at : ℕ)
    (row : Parts) (was cells now : List ℕ) (mwas ms mnow : List Bool) → length own ≡ length lent →
    row_parts first lent own marks ≡ row → was ≡ own →
    Over ℕ part (slice_index numbers) at (length numbers) was cells → mwas ≡ marks →
    Over Bool part (λ k. true) at (length numbers) mwas ms → now ≡ cells → mnow ≡ ms →
    HasPut part at numbers row (row_parts first lent now mnow)
run_in_all part numbers first lent own marks at row was cells now mwas ms mnow size is d over g marked e f =
    let c : Over ℕ part (slice_index numbers) at (length numbers) own cells =
    subst (λ (xs : List ℕ). Over ℕ part (slice_index numbers) at (length numbers) xs cells) d over in
    let m : Over Bool part (λ k. true) at (length numbers) marks ms =
    subst (λ (bs : List Bool). Over Bool part (λ k. true) at (length numbers) bs ms) g marked in
    let old : (first, own, marks) ≡ row = sym (all_own first lent own marks size) ∙ is in
    let new : (first, cells, ms) ≡ row_parts first lent now mnow =
    (λ i. (first, sym e i, sym f i)) ∙ sym (all_own first lent now mnow (ap length e ∙ c.size ∙ size)) in
    let put : HasPut part at numbers (first, own, marks) (first, cells, ms) =
    record { first = refl; cells = c; marks = m } in
    subst (λ (p : Parts). HasPut part at numbers p (row_parts first lent now mnow)) old
    (subst (λ (p : Parts). HasPut part at numbers (first, own, marks) p) new put)

-- among cells that are stored
pub run_in_run : (numbers : List ℕ) (first : ℕ) (lent own : List ℕ) (from end at : ℕ) (row : Parts)
    (was cells now : List ℕ) → end ≡ length own → from ≤ at → at + length numbers ≤ end →
    row_parts first lent own (some_marks (length own) from end) ≡ row →
    was ≡ own → Over ℕ all_of (slice_index numbers) at (length numbers) was cells → now ≡ cells →
    HasPut all_of at numbers row (row_parts first lent now (some_marks (length now) from end))
run_in_run numbers first lent own from end at row was cells now size low fits is d o e =
    let c : Over ℕ all_of (slice_index numbers) at (length numbers) own cells =
    subst (λ (xs : List ℕ). Over ℕ all_of (slice_index numbers) at (length numbers) xs cells) d o in
    let rest = drop (length own) lent in
    let more = replicate (length lent - length own) false in
    let n : length now ≡ length own = ap length e ∙ c.size in
    let ms = some_marks (length own) from end in
    let over : Over ℕ all_of (slice_index numbers) at (length numbers) (own ++ rest) (now ++ drop (length now) lent) =
    subst (λ (xs : List ℕ). Over ℕ all_of (slice_index numbers) at (length numbers) (own ++ rest) xs)
    (λ i. sym e i ++ drop (sym n i) lent)
    (over_left ℕ (slice_index numbers) at (length numbers) own cells rest (omega arith) c) in
    let marked : (k : ℕ) → at ≤ k → k < at + length numbers → slice_get (ms ++ more) k ≡ Some true =
    λ k h j. let there : slice_get ms k ≡ Some true =
    marked_at (length own) from end k (omega arith) (omega arith) (omega arith) in
    get_left ms more k (slice_get_within ms k true there) ∙ there in
    let marks : Over Bool all_of (λ k. true) at (length numbers) (ms ++ more)
    (some_marks (length now) from end ++ replicate (length lent - length now) false) =
    subst (λ (m : ℕ). Over Bool all_of (λ k. true) at (length numbers) (ms ++ more)
    (some_marks m from end ++ replicate (length lent - m) false)) (sym n)
    (over_same Bool (λ k. true) at (length numbers) (ms ++ more) marked) in
    let new = row_parts first lent now (some_marks (length now) from end) in
    subst (λ (p : Parts). HasPut all_of at numbers p new) is
    (record { first = refl; cells = over; marks = marks })

marks_split : (n from end more : ℕ) (last : Bool) → from ≤ end → end + more ≤ n →
    replicate from false
    ++ (replicate (end - from) true ++ (replicate more last ++ replicate (n - (end + more)) false))
    ≡ (replicate from false ++ replicate (end - from) true)
    ++ (replicate more last ++ replicate (n - (end + more)) false)
marks_split n from end more last h k =
    sym (append_assoc (replicate from false) (replicate (end - from) true)
    (replicate more last ++ replicate (n - (end + more)) false))

-- marks that go on
more_marks : (n from end more : ℕ) → from ≤ end → end + more ≤ n →
    Over Bool all_of (λ k. true) end more (some_marks n from end) (some_marks n from (end + more))
more_marks n from end more h k =
    let front = replicate from false ++ replicate (end - from) true in
    let behind = replicate (n - (end + more)) false in
    let left : n - end ≡ more + (n - (end + more)) = omega arith in
    let gone : end + more - from ≡ end - from + more = omega arith in
    let old : some_marks n from end ≡ front ++ (replicate more false ++ behind) =
    ap (λ m. replicate from false ++ (replicate (end - from) true ++ m))
    (ap (λ m. replicate m false) left ∙ sym (replicate-append-replicate more (n - (end + more)) false))
    ∙ marks_split n from end more false h k in
    let new : some_marks n from (end + more) ≡ front ++ (replicate more true ++ behind) =
    ap (λ m. replicate from false ++ (m ++ behind))
    (ap (λ m. replicate m true) gone ∙ sym (replicate-append-replicate (end - from) more true))
    ∙ ap (λ m. replicate from false ++ m) (append_assoc (replicate (end - from) true) (replicate more true) behind)
    ∙ marks_split n from end more true h k in
    let size : length front ≡ end = simp (length-append, length-replicate) (omega arith) in
    let over = over_middle Bool (λ k. true) end more front (replicate more false) (replicate more true) behind size
    (length-replicate more false) (length-replicate more true) (all_marked more) in
    subst (λ (ms : List Bool). Over Bool all_of (λ k. true) end more ms (some_marks n from (end + more))) (sym old)
    (subst (Over Bool all_of (λ k. true) end more (front ++ (replicate more false ++ behind))) (sym new) over)

-- behind its own
pub run_behind : (numbers : List ℕ) (first : ℕ) (lent own : List ℕ) (from end at : ℕ) (row : Parts) (now : List ℕ) →
    end ≡ length own → from ≤ end → at ≡ end → at + length numbers ≤ length lent →
    row_parts first lent own (some_marks (length own) from end) ≡ row → now ≡ own ++ numbers →
    HasPut all_of at numbers row (row_parts first lent now (some_marks (length now) from (end + length numbers)))
run_behind numbers first lent own from end at row now size low here fits is e =
    let n = length numbers in
    let rest = drop (length own) lent in
    let all : length now ≡ length own + n = ap length e ∙ length-append own numbers in
    let old : own ++ rest ≡ own ++ (take n rest ++ drop n rest) =
    ap (λ xs. own ++ xs) (sym (take-append-drop n rest)) in
    let new : now ++ drop (length now) lent ≡ own ++ (numbers ++ drop n rest) =
    (λ i. e i ++ drop (all i) lent) ∙ append_assoc own numbers (drop (length own + n) lent)
    ∙ ap (λ xs. own ++ (numbers ++ xs)) (sym (drop-drop n (length own) lent)) in
    let taken : length (take n rest) ≡ n = length-take-le n rest (simp length-drop (omega arith)) in
    let over : Over ℕ all_of (slice_index numbers) at n (own ++ (take n rest ++ drop n rest))
    (own ++ (numbers ++ drop n rest)) =
    over_middle ℕ (slice_index numbers) at n own (take n rest) numbers (drop n rest) (omega arith) taken refl
    (λ k lt. slice_get-get_or numbers k 0 lt) in
    let cells : Over ℕ all_of (slice_index numbers) at n (own ++ rest) (now ++ drop (length now) lent) =
    subst (λ (xs : List ℕ). Over ℕ all_of (slice_index numbers) at n xs (now ++ drop (length now) lent)) (sym old)
    (subst (Over ℕ all_of (slice_index numbers) at n (own ++ (take n rest ++ drop n rest))) (sym new) over) in
    let was = marks_of_all from end (length own) (length lent) size (omega arith) in
    let is_now = marks_of_all from (end + n) (length now) (length lent) (omega arith) (omega arith) in
    let ms = some_marks (length own) from end ++ replicate (length lent - length own) false in
    let ns = some_marks (length now) from (end + n) ++ replicate (length lent - length now) false in
    let marks : Over Bool all_of (λ k. true) at n ms ns =
    subst (λ (bs : List Bool). Over Bool all_of (λ k. true) at n bs ns) (sym was)
    (subst (Over Bool all_of (λ k. true) at n (some_marks (length lent) from end)) (sym is_now)
    (subst (λ (a : ℕ). Over Bool all_of (λ k. true) a n (some_marks (length lent) from end)
    (some_marks (length lent) from (end + n)))
    (sym here) (more_marks (length lent) from end n low (omega arith)))) in
    let new_row = row_parts first lent now (some_marks (length now) from (end + n)) in
    subst (λ (p : Parts). HasPut all_of at numbers p new_row) is
    (record { first = refl; cells = cells; marks = marks })

marked_front : (own rest : List ℕ) (marks : List Bool) (m k : ℕ) → length marks ≡ length own →
    if_marked (slice_get marks k) (slice_get own k)
    ≡ if_marked (slice_get (marks ++ replicate m false) k) (slice_get (own ++ rest) k)
marked_front [] rest [] m k h = sym (no_mark m k (slice_get rest k))
marked_front [] rest (b ∷ bs) m k h = absurd (omega arith)
marked_front (x ∷ xs) rest [] m k h = absurd (omega arith)
marked_front (x ∷ xs) rest (b ∷ bs) m zero h = refl
marked_front (x ∷ xs) rest (b ∷ bs) m (suc k) h = marked_front xs rest bs m k (omega arith)

-- of cells without marks behind the others nothing is told
stored_front : (first i : ℕ) (own rest : List ℕ) (marks : List Bool) (m : ℕ) → length marks ≡ length own →
    stored_at (first, own, marks) i ≡ stored_at (first, own ++ rest, marks ++ replicate m false) i
stored_front first i own rest marks m h = go (nat_le first i)
  where
    at : Bool → List ℕ → List Bool → Option ℕ
    at q xs bs =
        if_marked (elim q as (λ x. Option Bool) [ true ↦ slice_get bs (i - first) | false ↦ None ])
        (elim q as (λ x. Option ℕ) [ true ↦ slice_get xs (i - first) | false ↦ None ])

    go : (q : Bool) → at q own marks ≡ at q (own ++ rest) (marks ++ replicate m false)
    go true = marked_front own rest marks m (i - first) h
    go false = refl

one_mark_each : (lent own : List ℕ) (stored : Marks) → HaveMarks lent own stored →
    length (marks_of (length own) stored) ≡ length own
one_mark_each lent own (kinds.Run from end) h =
    let low = h.0 in
    let size = h.1.0 in
    simp (length-append, length-replicate) (omega arith)
one_mark_each lent own (kinds.Each each) h = h.0

-- a row that goes back with its own cells
pub kept_own : (first : ℕ) (lent own cells : List ℕ) (stored : Marks) (row : Parts) → HaveMarks lent own stored →
    run_parts first lent own stored ≡ row → cells ≡ own → (i : ℕ) →
    stored_at (first, cells, marks_of (length cells) stored) i ≡ stored_at row i
kept_own first lent own cells stored row have is e i =
    ap (λ xs. stored_at (first, xs, marks_of (length xs) stored) i) e
    ∙ stored_front first i own (drop (length own) lent) (marks_of (length own) stored) (length lent - length own)
    (one_mark_each lent own stored have)
    ∙ ap (λ (p : Parts). stored_at p i) is

all_marks : (lent own : List ℕ) (stored : Marks) → HaveMarks lent own stored →
    marks_of (length lent) stored ≡ marks_of (length own) stored ++ replicate (length lent - length own) false
all_marks lent own (kinds.Run from end) h = sym (marks_of_all from end (length own) (length lent) h.1.0 h.1.1)
all_marks lent own (kinds.Each each) h =
    let size = h.1 in
    let none : length lent - length own ≡ 0 = omega arith in
    sym (ap (λ n. each.items ++ replicate n false) none ∙ append-nil each.items)

-- and with all
pub kept_all : (first : ℕ) (lent own cells : List ℕ) (stored : Marks) (row : Parts) → HaveMarks lent own stored →
    run_parts first lent own stored ≡ row → cells ≡ own ++ drop (length own) lent → (i : ℕ) →
    stored_at (first, cells, marks_of (length cells) stored) i ≡ stored_at row i
kept_all first lent own cells stored row have is e i =
    let size : length cells ≡ length lent = ap length e ∙ row_size lent own (own_fits lent own stored have) in
    let marks : marks_of (length cells) stored
    ≡ marks_of (length own) stored ++ replicate (length lent - length own) false =
    ap (λ n. marks_of n stored) size ∙ all_marks lent own stored have in
    (λ j. stored_at (first, e j, marks j) i) ∙ ap (λ (p : Parts). stored_at p i) is

-- a whole list, lent
pub whole_range : (xs : List ℕ) (n : ℕ) → n ≡ length xs → slice_range xs 0 (0 + n) ≡ xs
whole_range xs n h = take_all (0 + n - 0) xs (omega arith)

-- all cells behind the run's own
pub behind_taken : (lent own : List ℕ) (n : ℕ) → n ≡ length own →
    own ++ take (length lent - n) (drop n lent) ≡ own ++ drop (length own) lent
behind_taken lent own n h = ap (λ xs. own ++ xs) (take_rest lent n) ∙ ap (λ m. own ++ drop m lent) h
