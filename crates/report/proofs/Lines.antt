-- The lines of items, and of the works that they show.
use Rattle.std.proofs.Common.{◌≡◌, ℕ, suc, ◌+◌, ◌<◌, List, [], ◌∷◌, ◌++◌, length, take, get_or, Option, Some, None, refl, sym, ap, ◌∙◌, arith, append_assoc, append-nil, subst, ◌≤◌, take_all}
use Rattle.std.proofs.lemmas.List.{take_more, length-take}
use Rattle.std.specs.Prelude.{slice_get, option_map}
use Rattle.std.specs.Io.KnownBytes.{Appends}
use Rattle.std.proofs.KnownBytes.{Appends-trans}
use Rattle.std.proofs.lemmas.Option.{same_Some}
use Rattle.base.specs.declared.item.Item.{Item}
use Rattle.base.specs.declared.tree.Program.{Program}
use Rattle.base.specs.declared.tree.Region.{Region}
use Rattle.base.specs.Items.{Work, plan}
use Rattle.outline.specs.Regions.{Entry, entries_of}
use Rattle.outline.specs.Shown.{work_with, shown, all_shown, as_shown}
use Rattle.report.specs.Listing.{depth_of, line_of, work_line, lines_from, list_bytes, region_in}

abbrev pub item_line : List Entry → Program → ℕ → Item → List ℕ
item_line es p n it =
    line_of p n it.kind it.deferred it.device.number (depth_of (region_in es it)) it.maps.items it.depends.items

abbrev pub item_lines : List Entry → Program → ℕ → List Item → List ℕ
item_lines es p n [] = []
item_lines es p n (it ∷ its) = item_line es p n it ++ item_lines es p (n + 1) its

-- the line of an item whose region is this
abbrev line_with : Program → ℕ → Item → Option Region → List ℕ
line_with p n it r = line_of p n it.kind it.deferred it.device.number (depth_of r) it.maps.items it.depends.items

by_entry : (p : Program) (n : ℕ) (it : Item) (w : Work) (o : Option Entry) →
    option_map (λ (e : Entry). work_with it (Some e.region)) o ≡ Some w →
    line_with p n it (option_map (λ (e : Entry). e.region) o) ≡ work_line p n w
by_entry p n it w None h = cc
by_entry p n it w (Some e) h = ap (λ v. work_line p n v) (same_Some (work_with it (Some e.region)) w h)

by_region : (es : List Entry) (p : Program) (n : ℕ) (it : Item) (w : Work) (o : Option ℕ) →
    (elim o [
      | None ↦ Some (work_with it None)
      | Some k ↦ option_map (λ (e : Entry). work_with it (Some e.region)) (slice_get es k)
    ]) ≡ Some w → line_with p n it
    (elim o [
      | None ↦ None
      | Some k ↦ option_map (λ (e : Entry). e.region) (slice_get es k)
    ]) ≡ work_line p n w
by_region es p n it w None h = ap (λ v. work_line p n v) (same_Some (work_with it None) w h)
by_region es p n it w (Some k) h = by_entry p n it w (slice_get es k) h

-- an item has the line of the work that it shows
shown_line : (es : List Entry) (p : Program) (n : ℕ) (it : Item) (w : Work) → shown es it ≡ Some w →
    item_line es p n it ≡ work_line p n w
shown_line es p n it w h = by_region es p n it w it.region h

head_same : {X : Type 0} (x y : X) (xs ys : List X) → x ∷ xs ≡ y ∷ ys → x ≡ y
head_same x y xs ys h = cc

tail_same : {X : Type 0} (x y : X) (xs ys : List X) → x ∷ xs ≡ y ∷ ys → xs ≡ ys
tail_same x y xs ys h = cc

lines_same : (es : List Entry) (p : Program) (n : ℕ) (items : List Item) (works : List Work) →
    all_shown es items ≡ as_shown works → item_lines es p n items ≡ lines_from p n works
lines_same es p n [] [] h = refl
lines_same es p n [] (w ∷ works) h = cc
lines_same es p n (it ∷ items) [] h = cc
lines_same es p n (it ∷ items) (w ∷ works) h =
    (λ i. shown_line es p n it w (head_same (shown es it) (Some w) (all_shown es items) (as_shown works) h) i
    ++ lines_same es p (n + 1) items works (tail_same (shown es it) (Some w) (all_shown es items) (as_shown works) h) i)

-- the lines of a program's items are its listing
pub lines_are : (p : Program) (items : List Item) → all_shown (entries_of p) items ≡ as_shown (plan p).items →
    item_lines (entries_of p) p 0 items ≡ list_bytes p
lines_are p items h = lines_same (entries_of p) p 0 items (plan p).items h

lines_append : (es : List Entry) (p : Program) (n : ℕ) (items : List Item) (it : Item) →
    item_lines es p n (items ++ it ∷ []) ≡ item_lines es p n items ++ item_line es p (n + length items) it
lines_append es p n [] it =
    append-nil (item_line es p n it)
    ∙ ap (λ m. item_line es p m it) same
  where
    same : n ≡ n + 0
    same = omega arith
lines_append es p n (x ∷ items) it =
    ap (λ bs. item_line es p n x ++ bs) (lines_append es p (n + 1) items it)
    ∙ sym (append_assoc (item_line es p n x) (item_lines es p (n + 1) items) (item_line es p (n + 1 + length items) it))
    ∙ ap (λ m. item_line es p n x ++ item_lines es p (n + 1) items ++ item_line es p m it) same
  where
    same : n + 1 + length items ≡ n + suc (length items)
    same = omega arith

-- one line more
pub lines_next : (es : List Entry) (p : Program) (items : List Item) (k : ℕ) (it : Item) → k < length items →
    it ≡ get_or items k it →
    item_lines es p 0 (take (k + 1) items) ≡ item_lines es p 0 (take k items) ++ item_line es p k it
lines_next es p items k it h is =
    ap (λ xs. item_lines es p 0 xs) (take_more items k it h)
    ∙ ap (λ x. item_lines es p 0 (take k items ++ x ∷ [])) (sym is)
    ∙ lines_append es p 0 (take k items) it
    ∙ ap (λ m. item_lines es p 0 (take k items) ++ item_line es p m it) count
  where
    count : 0 + length (take k items) ≡ k
    count = omega (arith, length-take k items)

-- a line with the depth of the item's region is the item's line
pub line_at : (es fs : List Entry) (p : Program) (n depth : ℕ) (it : Item) → depth ≡ depth_of (region_in fs it) →
    fs ≡ es →
    line_of p n it.kind it.deferred it.device.number depth it.maps.items it.depends.items ≡ item_line es p n it
line_at es fs p n depth it h e =
    ap (λ d. line_of p n it.kind it.deferred it.device.number d it.maps.items it.depends.items)
    (h ∙ ap (λ xs. depth_of (region_in xs it)) e)

-- What was written.

pub wrote_next : (es : List Entry) (p : Program) (a b c : Option (List ℕ)) (items : List Item) (k : ℕ) (it : Item)
    (bs : List ℕ) → k < length items → it ≡ get_or items k it → Appends a b (item_lines es p 0 (take k items)) →
    Appends b c bs → bs ≡ item_line es p k it → Appends a c (item_lines es p 0 (take (k + 1) items))
wrote_next es p a b c items k it bs h is before here line =
    subst (λ (xs : List ℕ). Appends a c xs)
    (ap (λ xs. item_lines es p 0 (take k items) ++ xs) line ∙ sym (lines_next es p items k it h is))
    (Appends-trans a b c (item_lines es p 0 (take k items)) bs before here)

pub wrote_all : (es : List Entry) (p q : Program) (a b : Option (List ℕ)) (items : List Item) (k : ℕ) →
    length items ≤ k → q ≡ p → es ≡ entries_of p → all_shown (entries_of p) items ≡ as_shown (plan p).items →
    Appends a b (item_lines es q 0 (take k items)) → Appends a b (list_bytes p)
wrote_all es p q a b items k all same entries shows wrote =
    subst (λ (xs : List ℕ). Appends a b xs)
    (ap (λ its. item_lines es q 0 its) (take_all k items all) ∙ ap (λ r. item_lines es r 0 items) same
    ∙ ap (λ fs. item_lines fs p 0 items) entries ∙ lines_are p items shows)
    wrote
