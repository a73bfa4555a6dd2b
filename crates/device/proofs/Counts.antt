-- How often blocks were entered and not yet left.
use Rattle.std.proofs.Common.{◌≡◌, ◌+◌, ◌*◌, ◌≤◌, ℕ, suc, Bool, true, false, List, [], ◌∷◌, ◌++◌, map, length, Option, Some, None, refl, sym, ap, ◌∙◌, subst, arith}
use Rattle.std.specs.Prelude.{◌==◌, cond, find, if◌then◌else◌, option_map, not}
use Rattle.std.proofs.lemmas.Option.{same_Some}
use Rattle.base.specs.declared.item.Section.{Section}
use Rattle.base.specs.declared.item.MapItem.{MapItem}
use Rattle.base.specs.declared.item.MapKind.{MapKind}
use Rattle.base.specs.declared.item.MapKind.TheVariants.{To, From, ToFrom, Alloc, Release, Delete}
use Rattle.base.specs.declared.item.ItemKind.{ItemKind}
use Rattle.base.specs.declared.item.ItemKind.TheVariants as kind
use Rattle.base.specs.Memory.{is_in, is_inside, overlaps, same_section}
use Rattle.base.specs.Map.{Block, Fill, Memories, Move, Presence, Absent, Inside, InPart, counted, enter, entry, exit, exit_count, in_turn, leave, presence, update, when, with_cells, with_blocks, without, copy_in, copy_out}
use Rattle.base.specs.Map.{Device, copies_from, copies_to, update}
use Rattle.present.specs.declared.Table.{Table}
use Rattle.base.specs.Blocks.{holder}
use Rattle.present.specs.Table.{Shows, count_at}
use Rattle.base.proofs.Moves.{copied_blocks, created_move, entry_absent, entry_missing, entry_part, entry_there, exit_absent, exit_part, exit_there, ignored_move, lowered_move, raised_move, update_absent, update_missing}
use Rattle.device.specs.Moves.{AreCounted, CountsAtMost, entered_by, opens_with}
use Rattle.device.proofs.Updating.{is_updated}

pub more : (n m : ℕ) (bs : List Block) → CountsAtMost n bs → n ≤ m → CountsAtMost m bs
more n m [] h le = tt
more n m (b ∷ bs) h le = (let k = h.0 in omega arith, more n m bs h.1 le)

pub found : (n : ℕ) (test : Block → Bool) (bs : List Block) (b : Block) → CountsAtMost n bs → find test bs ≡ Some b → b.count ≤ n
found n test [] b h e = absurd cc
found n test (x ∷ bs) b h e = go (test x) refl (found n test bs b h.1)
  where
    go : (v : Bool) → test x ≡ v → (find test bs ≡ Some b → b.count ≤ n) → b.count ≤ n
    go true k rest =
        let is : find test (x ∷ bs) ≡ Some x = ap (λ v. cond v (Some x) (find test bs)) k in
        subst (λ (y : Block). y.count ≤ n) (same_Some x b (sym is ∙ e)) h.0
    go false k rest =
        let is : find test (x ∷ bs) ≡ find test bs = ap (λ v. cond v (Some x) (find test bs)) k in
        rest (sym is ∙ e)

pub inside : (n : ℕ) (bs : List Block) (s : Section) (b : Block) → CountsAtMost n bs → presence bs s ≡ Inside b → b.count ≤ n
inside n bs s b h e = go (find (λ x. overlaps x.section s) bs) refl
  where
    go : (o : Option Block) → find (λ x. overlaps x.section s) bs ≡ o → b.count ≤ n
    go None k = absurd (let bad : Absent ≡ Inside b = sym (rw (k, presence) refl) ∙ e in cc)
    go (Some x) k = in_it (is_inside s x.section) refl
      where
        in_it : (v : Bool) → is_inside s x.section ≡ v → b.count ≤ n
        in_it true f =
            let is : presence bs s ≡ Inside x = rw (k, presence) (ap (λ (v : Bool). if v then Inside x else InPart) f) in
            let same : Inside x ≡ Inside b = sym is ∙ e in
            let eq : x ≡ b = cc in
            subst (λ (y : Block). y.count ≤ n) eq (found n (λ x. overlaps x.section s) bs x h k)
        in_it false f =
            let is : presence bs s ≡ InPart = rw (k, presence) (ap (λ (v : Bool). if v then Inside x else InPart) f) in
            absurd (let bad : InPart ≡ Inside b = sym is ∙ e in cc)

pub recounted : (n k : ℕ) (s : Section) (bs : List Block) → CountsAtMost n bs → k ≤ n → CountsAtMost n (map (counted s k) bs)
recounted n k s [] h le = tt
recounted n k s (b ∷ bs) h le = (one (same_section b.section s) refl, recounted n k s bs h.1 le)
  where
    one : (v : Bool) → same_section b.section s ≡ v → (counted s k b).count ≤ n
    one true e = subst (λ (y : Block). y.count ≤ n) (sym (ap (λ (v : Bool). if v then record { section = s; count = k } else b) e)) le
    one false e = subst (λ (y : Block). y.count ≤ n) (sym (ap (λ (v : Bool). if v then record { section = s; count = k } else b) e)) h.0

pub fewer : (n : ℕ) (s : Section) (bs : List Block) → CountsAtMost n bs → CountsAtMost n (without bs s)
fewer n s [] h = tt
fewer n s (b ∷ bs) h = go (not (same_section b.section s)) (fewer n s bs h.1)
  where
    go : (v : Bool) → CountsAtMost n (without bs s) → CountsAtMost n (cond v (b ∷ without bs s) (without bs s))
    go true rest = (h.0, rest)
    go false rest = rest

one_more : (n : ℕ) (b : Block) (bs : List Block) → CountsAtMost n bs → b.count ≤ n → CountsAtMost n (bs ++ b ∷ [])
one_more n b [] h le = (le, tt)
one_more n b (x ∷ bs) h le = (h.0, one_more n b bs h.1 le)

exit_below : (k : MapKind) (n : ℕ) → exit_count k n ≤ n
exit_below To n = omega arith
exit_below From n = omega arith
exit_below ToFrom n = omega arith
exit_below Alloc n = omega arith
exit_below Release n = omega arith
exit_below Delete n = omega arith

-- the blocks of a rule's outcome
moved : (n : ℕ) (f : Move → Memories) (o : Option Move) (m : Memories) →
    ((x : Move) → (f x).device.blocks ≡ x.blocks) → ((x : Move) → o ≡ Some x → CountsAtMost n x.blocks) →
    option_map f o ≡ Some m → CountsAtMost n m.device.blocks
moved n f None m same h e = absurd cc
moved n f (Some x) m same h e =
    subst (λ (y : Memories). CountsAtMost n y.device.blocks) (same_Some (f x) m e)
    (subst (CountsAtMost n) (sym (same x)) (h x refl))

when_out : (b : Bool) (s : Section) (m : Memories) → (when b (copy_out s) m).device.blocks ≡ m.device.blocks
when_out true s m = refl
when_out false s m = refl

when_celled : (b : Bool) (v : _) (s : Section) (m : Memories) → (when b (with_cells v s) m).device.blocks ≡ m.device.blocks
when_celled true v s m = refl
when_celled false v s m = refl

pub entry_blocks : (n : ℕ) (item : MapItem) (bs : List Block) (x : Move) → CountsAtMost n bs → entry item bs ≡ Some x →
    CountsAtMost (n + 1) x.blocks
entry_blocks n item bs x h e = go (presence bs item.section) refl
  where
    is : (y : Move) → entry item bs ≡ Some y → CountsAtMost (n + 1) y.blocks → CountsAtMost (n + 1) x.blocks
    is y k c = subst (λ (z : Move). CountsAtMost (n + 1) z.blocks) (same_Some y x (sym k ∙ e)) c

    absent : presence bs item.section ≡ Absent → (p : Bool) → item.present ≡ p → CountsAtMost (n + 1) x.blocks
    absent k true p = absurd (let bad : None ≡ Some x = sym (entry_missing item bs k p) ∙ e in cc)
    absent k false p =
        is (created_move item bs) (entry_absent item bs k p)
        (one_more (n + 1) (record { section = item.section; count = 1 }) bs (more n (n + 1) bs h (omega arith)) (omega arith))

    go : (q : Presence) → presence bs item.section ≡ q → CountsAtMost (n + 1) x.blocks
    go Absent k = absent k item.present refl
    go (Inside b) k =
        let low = inside n bs item.section b h k in
        is (raised_move item b bs) (entry_there item bs b k)
        (recounted (n + 1) (b.count + 1) b.section bs (more n (n + 1) bs h (omega arith)) (omega arith))
    go InPart k = absurd (let bad : None ≡ Some x = sym (entry_part item bs k) ∙ e in cc)

exit_blocks : (n : ℕ) (item : MapItem) (bs : List Block) (x : Move) → CountsAtMost n bs → exit item bs ≡ Some x →
    CountsAtMost n x.blocks
exit_blocks n item bs x h e = go (presence bs item.section) refl
  where
    is : (y : Move) → exit item bs ≡ Some y → CountsAtMost n y.blocks → CountsAtMost n x.blocks
    is y k c = subst (λ (z : Move). CountsAtMost n z.blocks) (same_Some y x (sym k ∙ e)) c

    either : (b : Block) (v : Bool) → b.count ≤ n → CountsAtMost n
        (if v then without bs b.section else map (counted b.section (exit_count item.kind b.count)) bs)
    either b true low = fewer n b.section bs h
    either b false low =
        let k = exit_below item.kind b.count in
        recounted n (exit_count item.kind b.count) b.section bs h (omega arith)

    go : (q : Presence) → presence bs item.section ≡ q → CountsAtMost n x.blocks
    go Absent k = is (ignored_move item bs) (exit_absent item bs k) h
    go (Inside b) k =
        is (lowered_move item b bs) (exit_there item bs b k)
        (either b (exit_count item.kind b.count == 0) (inside n bs item.section b h k))
    go InPart k = absurd (let bad : None ≡ Some x = sym (exit_part item bs k) ∙ e in cc)

pub entered_once : (n : ℕ) (fill : Fill) (item : MapItem) (m m' : Memories) → CountsAtMost n m.device.blocks →
    enter fill item m ≡ Some m' → CountsAtMost (n + 1) m'.device.blocks
entered_once n fill item m m' h e =
    moved (n + 1) (λ move. when move.copies (copy_in item.section)
    (when move.changes (with_cells (λ c. Some (fill c)) move.block) (with_blocks move.blocks m)))
    (entry item m.device.blocks) m'
    (λ x. copied_blocks x.copies item.section _ ∙ when_celled x.changes (λ c. Some (fill c)) x.block (with_blocks x.blocks m))
    (λ x k. entry_blocks n item m.device.blocks x h k) e

pub left_once : (n : ℕ) (item : MapItem) (m m' : Memories) → CountsAtMost n m.device.blocks →
    leave item m ≡ Some m' → CountsAtMost n m'.device.blocks
left_once n item m m' h e =
    moved n (λ move. with_blocks move.blocks
    (when move.changes (with_cells (λ c. None) move.block) (when move.copies (copy_out item.section) m)))
    (exit item m.device.blocks) m' (λ x. refl) (λ x k. exit_blocks n item m.device.blocks x h k) e

pub updated_once : (n : ℕ) (item : MapItem) (m m' : Memories) → CountsAtMost n m.device.blocks →
    update item m ≡ Some m' → CountsAtMost n m'.device.blocks
updated_once n item m m' h e = go (presence m.device.blocks item.section) refl
  where
    is : (x : Memories) → x.device.blocks ≡ m.device.blocks → update item m ≡ Some x → CountsAtMost n m'.device.blocks
    is x same k =
        subst (λ (y : Memories). CountsAtMost n y.device.blocks) (same_Some x m' (sym k ∙ e)) (subst (CountsAtMost n) (sym same) h)

    absent : presence m.device.blocks item.section ≡ Absent → (p : Bool) → item.present ≡ p → CountsAtMost n m'.device.blocks
    absent k true p = absurd (let bad : None ≡ Some m' = sym (update_missing item m k p) ∙ e in cc)
    absent k false p = is m refl (update_absent item m k p)

    go : (q : Presence) → presence m.device.blocks item.section ≡ q → CountsAtMost n m'.device.blocks
    go Absent k = absent k item.present refl
    go (Inside b) k =
        is (when (copies_from item.kind) (copy_out item.section) (when (copies_to item.kind) (copy_in item.section) m))
        (when_out (copies_from item.kind) item.section _ ∙ copied_blocks (copies_to item.kind) item.section m)
        (is_updated item m (Inside b) k)
    go InPart k = absurd (let bad : None ≡ Some m' = sym (is_updated item m InPart k) ∙ e in cc)

-- as often as there are map items more, or not more often
turned : (f : MapItem → Memories → Option Memories) (step n : ℕ) →
    ((k : ℕ) (item : MapItem) (m m' : Memories) → CountsAtMost k m.device.blocks → f item m ≡ Some m' → CountsAtMost (k + step) m'.device.blocks) →
    (maps : List MapItem) (m m' : Memories) → CountsAtMost n m.device.blocks → in_turn f maps m ≡ Some m' →
    CountsAtMost (n + length maps * step) m'.device.blocks
turned f step n once [] m m' h e =
    subst (λ (y : Memories). CountsAtMost (n + 0 * step) y.device.blocks) (same_Some m m' e)
    (more n (n + 0 * step) m.device.blocks h (omega arith))
turned f step n once (item ∷ rest) m m' h e = go (f item m) refl e (λ x k. turned f step (n + step) once rest x m' k)
  where
    go : (o : Option Memories) → f item m ≡ o → (elim o [ None ↦ None | Some next ↦ in_turn f rest next ]) ≡ Some m' →
        ((x : Memories) → CountsAtMost (n + step) x.device.blocks → in_turn f rest x ≡ Some m' →
        CountsAtMost (n + step + length rest * step) m'.device.blocks) → CountsAtMost (n + suc (length rest) * step) m'.device.blocks
    go None k e next = absurd (cc e)
    go (Some x) k e next =
        more (n + step + length rest * step) (n + suc (length rest) * step) m'.device.blocks
        (next x (once n item m x h k) e) (grind arith)

pub all_left : (n : ℕ) (maps : List MapItem) (m m' : Memories) → CountsAtMost n m.device.blocks → in_turn leave maps m ≡ Some m' →
    CountsAtMost n m'.device.blocks
all_left n maps m m' h e =
    more (n + length maps * 0) n m'.device.blocks
    (turned leave 0 n (λ k item x y g f. more k (k + 0) y.device.blocks (left_once k item x y g f) (omega arith)) maps m m' h e)
    (omega arith)

all_updated : (n : ℕ) (maps : List MapItem) (m m' : Memories) → CountsAtMost n m.device.blocks → in_turn update maps m ≡ Some m' →
    CountsAtMost n m'.device.blocks
all_updated n maps m m' h e =
    more (n + length maps * 0) n m'.device.blocks
    (turned update 0 n (λ k item x y g f. more k (k + 0) y.device.blocks (updated_once k item x y g f) (omega arith)) maps m m' h e)
    (omega arith)

all_entered : (n : ℕ) (fill : Fill) (maps : List MapItem) (m m' : Memories) → CountsAtMost n m.device.blocks →
    in_turn (enter fill) maps m ≡ Some m' → CountsAtMost (n + length maps) m'.device.blocks
all_entered n fill maps m m' h e =
    more (n + length maps * 1) (n + length maps) m'.device.blocks
    (turned (enter fill) 1 n (λ k item x y g f. entered_once k fill item x y g f) maps m m' h e) (omega arith)

nothing_done : (n : ℕ) (m m' : Memories) → CountsAtMost n m.device.blocks → Some m ≡ Some m' → CountsAtMost (n + 0) m'.device.blocks
nothing_done n m m' h e =
    subst (λ (y : Memories). CountsAtMost (n + 0) y.device.blocks) (same_Some m m' e) (more n (n + 0) m.device.blocks h (omega arith))

-- what an opening does to the counts
pub opened_counts : (n : ℕ) (fill : Fill) (k : ItemKind) (maps : List MapItem) (m m' : Memories) → CountsAtMost n m.device.blocks →
    opens_with fill k maps m ≡ Some m' → CountsAtMost (n + entered_by k maps) m'.device.blocks
opened_counts n fill kind.Target maps m m' h e = all_entered n fill maps m m' h e
opened_counts n fill kind.Begin maps m m' h e = all_entered n fill maps m m' h e
opened_counts n fill kind.Enter maps m m' h e = all_entered n fill maps m m' h e
opened_counts n fill kind.Host maps m m' h e = nothing_done n m m' h e
opened_counts n fill kind.Wait maps m m' h e = nothing_done n m m' h e
opened_counts n fill kind.End maps m m' h e = more n (n + 0) m'.device.blocks (all_left n maps m m' h e) (omega arith)
opened_counts n fill kind.Exit maps m m' h e = more n (n + 0) m'.device.blocks (all_left n maps m m' h e) (omega arith)
opened_counts n fill kind.Update maps m m' h e = more n (n + 0) m'.device.blocks (all_updated n maps m m' h e) (omega arith)

-- what the table shows of it
pub table_counts : (t : Table) (d : Device) (n : ℕ) → Shows t d → CountsAtMost n d.blocks → AreCounted t n
table_counts t d n shown h c = go (holder d.blocks c) refl
  where
    count_of : Option Block → ℕ
    count_of o = elim o [ None ↦ 0 | Some b ↦ b.count ]

    go : (o : Option Block) → holder d.blocks c ≡ o → count_at t c ≤ n
    go None e = let is : count_at t c ≡ 0 = ap count_of (sym (shown.blocks c) ∙ e) in omega arith
    go (Some b) e =
        let is : count_at t c ≡ b.count = ap count_of (sym (shown.blocks c) ∙ e) in
        let low = found n (λ x. is_in c x.section) d.blocks b h e in
        omega arith
