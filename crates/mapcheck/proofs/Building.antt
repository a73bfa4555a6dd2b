-- Accesses that are put together action by action.
use Rattle.std.proofs.Common.{◌≡◌, ℕ, zero, suc, ◌+◌, ◌≤◌, Bool, false, List, [], ◌∷◌, ◌++◌, length, take, Option, Some, None, refl, sym, ap, ◌∙◌, subst, arith, append-nil, append_assoc, add-one}
use Rattle.std.specs.Prelude.{OnOk, Result, Ok, Err, ◌||◌, min, slice_get}
use Rattle.std.specs.List.{list_any}
use Rattle.std.proofs.Math.Bool.{or-false}
use Rattle.std.proofs.lemmas.List.Folds.{list_any-append}
use Rattle.base.specs.declared.item.Cell.{Cell}
use Rattle.base.specs.declared.item.MapItem.{MapItem}
use Rattle.base.specs.declared.item.ItemKind.{ItemKind}
use Rattle.base.specs.declared.item.ItemKind.TheVariants.{Host, Target, Begin, End, Enter, Exit, Update, Wait}
use Rattle.base.specs.declared.tree.Region.{Region}
use Rattle.base.specs.Items.{Work}
use Rattle.base.specs.Footprint.{Touch, touches_of}
use Rattle.base.specs.Actions.{Action, HostRegion, Kernel, Side, Host as OnHost, Dev as OnDevice, Tab as InTable, action_reads, action_writes, on_side, region_acts, side_of}
use Rattle.ranges.specs.declared.cells.Footprint.{Footprint}
use Rattle.mapwalk.specs.declared.rows.Acts.{Acts}
use Rattle.mapwalk.specs.Laws.{actions_of, entry_actions, exit_actions, update_actions}
use Rattle.mapwalk.specs.Regions.{AreTouches}
use Rattle.mapwalk.proofs.RegionEffects.{actions_with, same_actions, touches_with}
use Rattle.mapcheck.specs.declared.accesses.Accesses.{Accesses}
use Rattle.mapcheck.specs.declared.items.Part.{Part}
use Rattle.mapcheck.specs.declared.items.Part.TheVariants as part
use Rattle.mapcheck.specs.Accesses.{AreAccesses, GrowsBy, HasTouches}
use Rattle.mapcheck.specs.Building.{ExtendsBy, part_actions, row_actions}

pub extends_both : (xs ys : List Action) (a b c : Accesses) → ExtendsBy xs a b → ExtendsBy ys b c → ExtendsBy (xs ++ ys) a c
extends_both xs ys a b c h k d actions are =
    subst (AreAccesses c d) (append_assoc actions xs ys) (k d (actions ++ xs) (h d actions are))

pub on_ok : {A E P Q : Type 0} (r : Result A E) → (P → Q) → OnOk r P → OnOk r Q
on_ok (Ok x) f h = f h
on_ok (Err x) f h = tt

-- one map item more
more_suc : (p : Part) (maps : List MapItem) (row : List Acts) (i : ℕ) (m : MapItem) (a : Acts) → slice_get maps i ≡ Some m →
    slice_get row i ≡ Some a →
    row_actions p (take (suc i) maps) (take (suc i) row) ≡ row_actions p (take i maps) (take i row) ++ part_actions p m a
more_suc p [] row i m a e f = absurd cc
more_suc p (x ∷ maps) [] i m a e f = absurd cc
more_suc p (x ∷ maps) (y ∷ row) zero m a e f =
    let one : x ≡ m = cc in
    let two : y ≡ a = cc in
    append-nil (part_actions p x y) ∙ (λ t. part_actions p (one t) (two t))
more_suc p (x ∷ maps) (y ∷ row) (suc i) m a e f =
    ap (λ xs. part_actions p x y ++ xs) (more_suc p maps row i m a e f)
    ∙ sym (append_assoc (part_actions p x y) (row_actions p (take i maps) (take i row)) (part_actions p m a))

pub row_more : (p : Part) (maps : List MapItem) (row : List Acts) (i : ℕ) (m : MapItem) (a : Acts) → slice_get maps i ≡ Some m →
    slice_get row i ≡ Some a →
    row_actions p (take (i + 1) maps) (take (i + 1) row) ≡ row_actions p (take i maps) (take i row) ++ part_actions p m a
row_more p maps row i m a e f = ap (λ k. row_actions p (take k maps) (take k row)) (add-one i) ∙ more_suc p maps row i m a e f

pub row_end : (p : Part) (maps : List MapItem) (row : List Acts) (i : ℕ) → min (length maps) (length row) ≤ i →
    row_actions p (take i maps) (take i row) ≡ row_actions p maps row
row_end p [] row zero h = refl
row_end p [] row (suc i) h = refl
row_end p (m ∷ maps) [] zero h = refl
row_end p (m ∷ maps) [] (suc i) h = refl
row_end p (m ∷ maps) (a ∷ row) zero h = absurd (omega arith)
row_end p (m ∷ maps) (a ∷ row) (suc i) h = ap (λ xs. part_actions p m a ++ xs) (row_end p maps row i (omega arith))

-- rows by the kinds of their items
pub entries_are : (maps : List MapItem) (row : List Acts) → row_actions part.Entry maps row ≡ entry_actions maps row
entries_are [] row = refl
entries_are (m ∷ maps) [] = refl
entries_are (m ∷ maps) (a ∷ row) = ap (λ xs. part_actions part.Entry m a ++ xs) (entries_are maps row)

pub exits_are : (maps : List MapItem) (row : List Acts) → row_actions part.Exit maps row ≡ exit_actions maps row
exits_are [] row = refl
exits_are (m ∷ maps) [] = refl
exits_are (m ∷ maps) (a ∷ row) = ap (λ xs. part_actions part.Exit m a ++ xs) (exits_are maps row)

pub updates_are : (maps : List MapItem) (row : List Acts) → row_actions part.Update maps row ≡ update_actions maps row
updates_are [] row = refl
updates_are (m ∷ maps) [] = refl
updates_are (m ∷ maps) (a ∷ row) = ap (λ xs. part_actions part.Update m a ++ xs) (updates_are maps row)

-- a region with a footprint

on_idle : (o : Option Side) (f : Action → Side → Bool) (actions : List Action) (x : Action) → ((s : Side) → f x s ≡ false) →
    on_side o (λ s. list_any (λ y. f y s) (actions ++ x ∷ [])) ≡ on_side o (λ s. list_any (λ y. f y s) actions)
on_idle None f actions x none = refl
on_idle (Some s) f actions x none =
    list_any-append (λ y. f y s) actions (x ∷ [])
    ∙ ap (λ b. list_any (λ y. f y s) actions || (b || false)) (none s) ∙ or-false (list_any (λ y. f y s) actions)

idle : (x : Action) (a : Accesses) (d : ℕ) (actions : List Action) → ((s : Side) (c : Cell) → action_reads x s c ≡ false) →
    ((s : Side) (c : Cell) → action_writes x s c ≡ false) → AreAccesses a d (actions ++ x ∷ []) → AreAccesses a d (actions ++ [])
idle x a d actions r w h = subst (AreAccesses a d) (sym (append-nil actions)) (record {
  device = h.device;
  reads = λ l c. h.reads l c ∙ on_idle (side_of d l) (λ y s. action_reads y s c) actions x (λ s. r s c);
  writes = λ l c. h.writes l c ∙ on_idle (side_of d l) (λ y s. action_writes y s c) actions x (λ s. w s c);
})

-- a region that touches nothing does nothing
module _ (act : List Touch → Action) (w : Work) (f : Footprint) (old new : Accesses) (t : AreTouches w f)
    (reads_none : (s : Side) (c : Cell) → action_reads (act []) s c ≡ false)
    (writes_none : (s : Side) (c : Cell) → action_writes (act []) s c ≡ false)
    (h : (touches : List Touch) → HasTouches f touches → GrowsBy (act touches) old new) where
  with_region : ExtendsBy (region_acts act w []).actions old new
  with_region = subst (λ xs. ExtendsBy xs old new) (sym (same_actions act w [])) (go w.region has)
    where
      has : HasTouches f (touches_with w w.region)
      has = record { read = t.read; write = t.write }

      go : (o : Option Region) → HasTouches f (touches_with w o) → ExtendsBy (actions_with act w o) old new
      go (Some r) k d actions are = h (touches_of r w.loops) k d actions are
      go None k d actions are = idle (act []) new d actions reads_none writes_none (h [] k d actions are)

pub host_region : (w : Work) (f : Footprint) (old new : Accesses) → AreTouches w f →
    ((touches : List Touch) → HasTouches f touches → GrowsBy (HostRegion touches) old new) →
    ExtendsBy (region_acts HostRegion w []).actions old new
host_region w f old new t h = with_region HostRegion w f old new t reads_none writes_none h
  where
    reads_none : (s : Side) (c : Cell) → action_reads (HostRegion []) s c ≡ false
    reads_none OnHost c = refl
    reads_none OnDevice c = refl
    reads_none InTable c = refl

    writes_none : (s : Side) (c : Cell) → action_writes (HostRegion []) s c ≡ false
    writes_none OnHost c = refl
    writes_none OnDevice c = refl
    writes_none InTable c = refl

pub kernel_region : (w : Work) (f : Footprint) (old new : Accesses) → AreTouches w f →
    ((touches : List Touch) → HasTouches f touches → GrowsBy (Kernel touches) old new) →
    ExtendsBy (region_acts Kernel w []).actions old new
kernel_region w f old new t h = with_region Kernel w f old new t reads_none writes_none h
  where
    reads_none : (s : Side) (c : Cell) → action_reads (Kernel []) s c ≡ false
    reads_none OnHost c = refl
    reads_none OnDevice c = refl
    reads_none InTable c = refl

    writes_none : (s : Side) (c : Cell) → action_writes (Kernel []) s c ≡ false
    writes_none OnHost c = refl
    writes_none OnDevice c = refl
    writes_none InTable c = refl

abbrev pub by_kind : Work → List Acts → List MapItem → ItemKind → List Action
by_kind w row maps Host = (region_acts HostRegion w []).actions
by_kind w row maps Target =
    row_actions part.Entry maps row ++ (region_acts Kernel w []).actions ++ row_actions part.Exit maps row
by_kind w row maps Begin = row_actions part.Entry maps row
by_kind w row maps Enter = row_actions part.Entry maps row
by_kind w row maps End = row_actions part.Exit maps row
by_kind w row maps Exit = row_actions part.Exit maps row
by_kind w row maps Update = row_actions part.Update maps row
by_kind w row maps Wait = []

-- an item by its kind
pub of_kind : (w : Work) (row : List Acts) (old new : Accesses) (maps : List MapItem) (kind : ItemKind) → w.kind ≡ kind →
    w.maps ≡ maps → ExtendsBy (by_kind w row maps kind) old new → ExtendsBy (actions_of w row) old new
of_kind w row old new maps kind k m h = subst (λ xs. ExtendsBy xs old new) (same kind k) h
  where
    same : (kind : ItemKind) → w.kind ≡ kind → by_kind w row maps kind ≡ actions_of w row
    same Host k = rw k refl
    same Target k = rw k ((λ i. row_actions part.Entry (sym m i) row ++ (region_acts Kernel w []).actions ++ row_actions part.Exit (sym m i) row)
        ∙ (λ i. entries_are w.maps row i ++ (region_acts Kernel w []).actions ++ exits_are w.maps row i))
    same Begin k = rw k (ap (λ ms. row_actions part.Entry ms row) (sym m) ∙ entries_are w.maps row)
    same Enter k = rw k (ap (λ ms. row_actions part.Entry ms row) (sym m) ∙ entries_are w.maps row)
    same End k = rw k (ap (λ ms. row_actions part.Exit ms row) (sym m) ∙ exits_are w.maps row)
    same Exit k = rw k (ap (λ ms. row_actions part.Exit ms row) (sym m) ∙ exits_are w.maps row)
    same Update k = rw k (ap (λ ms. row_actions part.Update ms row) (sym m) ∙ updates_are w.maps row)
    same Wait k = rw k refl
