-- Accesses at the locations of an item's device, and what they are as accesses of actions.
use Rattle.std.proofs.Common.{◌≡◌, ℕ, Bool, true, false, List, [], ◌∷◌, ◌++◌, Option, Some, None, refl, sym, ap, ◌∙◌}
use Rattle.std.specs.Prelude.{not, ◌&&◌, ◌||◌, ◌==◌, if◌then◌else◌}
use Rattle.std.specs.List.{list_any}
use Rattle.std.proofs.Math.Bool.{or-false}
use Rattle.std.proofs.lemmas.List.Folds.{list_any-append}
use Rattle.base.specs.declared.item.Cell.{Cell}
use Rattle.base.specs.declared.item.Loc.{Loc}
use Rattle.base.specs.declared.item.Loc.TheVariants as loc
use Rattle.base.specs.declared.item.Section.{Section}
use Rattle.base.specs.Memory.{is_in}
use Rattle.base.specs.Footprint.{Touch}
use Rattle.base.specs.Actions.{Action, Counts, Creates, CopiesIn, CopiesOut, HostRegion, Kernel, Removes, Side, Host, Dev, Tab, action_reads, action_writes, on_side, side_of}
use Rattle.ranges.specs.declared.cells.Footprint.{Footprint}
use Rattle.ranges.specs.Cells.{has}
use Rattle.mapcheck.specs.declared.accesses.Access.{Access}
use Rattle.mapcheck.specs.declared.accesses.Accesses.{Accesses}
use Rattle.mapcheck.specs.declared.accesses.Cells.{Cells}
use Rattle.mapcheck.specs.declared.accesses.Cells.TheVariants as cells
use Rattle.mapcheck.specs.Accesses.{AreAccesses, GrowsBy, HasTouches, IsKept, access_reads, access_writes, has_cell, same_loc, some_reads, some_writes}

abbrev pub loc_of : ℕ → Side → Loc
loc_of d Host = loc.Host
loc_of d Dev = loc.Dev d
loc_of d Tab = loc.Tab d

abbrev pub same_side : Side → Side → Bool
same_side Host Host = true
same_side Dev Dev = true
same_side Tab Tab = true
same_side _ _ = false

and_false : (b : Bool) → (b && false) ≡ false
and_false true = refl
and_false false = refl

pub on_side_if : (b : Bool) (side : Side) (f : Side → Bool) → on_side (if b then Some side else None) f ≡ (b && f side)
on_side_if true side f = refl
on_side_if false side f = refl

on_same : (o : Option Side) (f g : Side → Bool) → ((s : Side) → f s ≡ g s) → on_side o f ≡ on_side o g
on_same None f g h = refl
on_same (Some s) f g h = h s

-- at a location that is another side's nothing is done
off_side : (d e : ℕ) (side : Side) (f : Side → Bool) → f side ≡ false →
    false ≡ on_side (if d == e then Some side else None) f
off_side d e side f none = sym (on_side_if (d == e) side f ∙ ap (λ b. (d == e) && b) none ∙ and_false (d == e))

-- a location of the item's device is met where its side is
at_loc : (d : ℕ) (side : Side) (l : Loc) (x : Bool) →
    (same_loc (loc_of d side) l && x) ≡ on_side (side_of d l) (λ s. same_side side s && x)
at_loc d Host loc.Host x = refl
at_loc d Host (loc.Dev e) x = off_side d e Dev (λ s. same_side Host s && x) refl
at_loc d Host (loc.Tab e) x = off_side d e Tab (λ s. same_side Host s && x) refl
at_loc d Dev loc.Host x = refl
at_loc d Dev (loc.Dev e) x = sym (on_side_if (d == e) Dev (λ s. same_side Dev s && x))
at_loc d Dev (loc.Tab e) x = off_side d e Tab (λ s. same_side Dev s && x) refl
at_loc d Tab loc.Host x = refl
at_loc d Tab (loc.Dev e) x = off_side d e Dev (λ s. same_side Tab s && x) refl
at_loc d Tab (loc.Tab e) x = sym (on_side_if (d == e) Tab (λ s. same_side Tab s && x))

-- an access on a side of device d
pub record IsAt (d : ℕ) (side : Side) (w : Bool) (k : Cells) (a : Access) : Type 0 where
  pub place : a.loc ≡ loc_of d side
  pub how : a.writes ≡ w
  pub which : a.cells ≡ k

-- the accesses are those of the action
pub record AreOf (d : ℕ) (x : Action) (more : List Access) : Type 0 where
  pub reads : (l : Loc) (c : Cell) → some_reads more l c ≡ on_side (side_of d l) (λ s. action_reads x s c)
  pub writes : (l : Loc) (c : Cell) → some_writes more l c ≡ on_side (side_of d l) (λ s. action_writes x s c)

reads_there : (d : ℕ) (side : Side) (w : Bool) (k : Cells) (a : Access) → IsAt d side w k a → (l : Loc) (c : Cell) →
    access_reads a l c ≡ on_side (side_of d l) (λ s. same_side side s && (not w && has_cell k c))
reads_there d side w k a h l c =
    (λ i. same_loc (h.place i) l && (not (h.how i) && has_cell (h.which i) c)) ∙ at_loc d side l (not w && has_cell k c)

writes_there : (d : ℕ) (side : Side) (w : Bool) (k : Cells) (a : Access) → IsAt d side w k a → (l : Loc) (c : Cell) →
    access_writes a l c ≡ on_side (side_of d l) (λ s. same_side side s && (w && has_cell k c))
writes_there d side w k a h l c =
    (λ i. same_loc (h.place i) l && (h.how i && has_cell (h.which i) c)) ∙ at_loc d side l (w && has_cell k c)

pub of_one : (d : ℕ) (x : Action) (side : Side) (w : Bool) (k : Cells) (a : Access) → IsAt d side w k a →
    ((s : Side) (c : Cell) → (same_side side s && (not w && has_cell k c)) ≡ action_reads x s c) →
    ((s : Side) (c : Cell) → (same_side side s && (w && has_cell k c)) ≡ action_writes x s c) → AreOf d x (a ∷ [])
of_one d x side w k a h r q = record {
  reads = λ l c. or-false (access_reads a l c) ∙ reads_there d side w k a h l c
      ∙ on_same (side_of d l) (λ s. same_side side s && (not w && has_cell k c)) (λ s. action_reads x s c) (λ s. r s c);
  writes = λ l c. or-false (access_writes a l c) ∙ writes_there d side w k a h l c
      ∙ on_same (side_of d l) (λ s. same_side side s && (w && has_cell k c)) (λ s. action_writes x s c) (λ s. q s c);
}

both_sides : (o : Option Side) (f g h : Side → Bool) → ((s : Side) → (f s || g s) ≡ h s) → (on_side o f || on_side o g) ≡ on_side o h
both_sides None f g h e = refl
both_sides (Some s) f g h e = e s

-- one that is read and one that is written
pub of_two : (d : ℕ) (x : Action) (from to : Side) (j k : Cells) (a b : Access) → IsAt d from false j a → IsAt d to true k b →
    ((s : Side) (c : Cell) → (same_side from s && has_cell j c) ≡ action_reads x s c) →
    ((s : Side) (c : Cell) → (same_side to s && has_cell k c) ≡ action_writes x s c) → AreOf d x (a ∷ b ∷ [])
of_two d x from to j k a b h m r q = record {
  reads = λ l c. (λ i. reads_there d from false j a h l c i || or-false (access_reads b l c) i)
      ∙ ap (λ y. on_side (side_of d l) (λ s. same_side from s && has_cell j c) || y) (reads_there d to true k b m l c)
      ∙ both_sides (side_of d l) (λ s. same_side from s && has_cell j c) (λ s. same_side to s && false) (λ s. action_reads x s c)
      (λ s. ap (λ y. (same_side from s && has_cell j c) || y) (and_false (same_side to s)) ∙ or-false (same_side from s && has_cell j c) ∙ r s c);
  writes = λ l c. (λ i. writes_there d from false j a h l c i || or-false (access_writes b l c) i)
      ∙ ap (λ y. on_side (side_of d l) (λ s. same_side from s && false) || y) (writes_there d to true k b m l c)
      ∙ both_sides (side_of d l) (λ s. same_side from s && false) (λ s. same_side to s && has_cell k c) (λ s. action_writes x s c)
      (λ s. ap (λ y. y || (same_side to s && has_cell k c)) (and_false (same_side from s)) ∙ q s c);
}

-- ---- accesses that grow

joined : (o : Option Side) (f : Action → Side → Bool) (actions : List Action) (x : Action) →
    on_side o (λ s. list_any (λ y. f y s) (actions ++ x ∷ []))
    ≡ (on_side o (λ s. list_any (λ y. f y s) actions) || on_side o (f x))
joined None f actions x = refl
joined (Some s) f actions x =
    list_any-append (λ y. f y s) actions (x ∷ []) ∙ ap (λ b. list_any (λ y. f y s) actions || b) (or-false (f x s))

pub grown : (x : Action) (old new : Accesses) (more : List Access) → new.device ≡ old.device → AreOf old.device x more →
    new.list.items ≡ old.list.items ++ more → GrowsBy x old new
grown x old new more dev is items d actions h = record {
  device = dev ∙ h.device;
  reads = λ l c. ap (λ xs. some_reads xs l c) items ∙ list_any-append (λ a. access_reads a l c) old.list.items more
      ∙ (λ i. h.reads l c i || (is.reads l c ∙ ap (λ n. on_side (side_of n l) (λ s. action_reads x s c)) h.device) i)
      ∙ sym (joined (side_of d l) (λ y s. action_reads y s c) actions x);
  writes = λ l c. ap (λ xs. some_writes xs l c) items ∙ list_any-append (λ a. access_writes a l c) old.list.items more
      ∙ (λ i. h.writes l c i || (is.writes l c ∙ ap (λ n. on_side (side_of n l) (λ s. action_writes x s c)) h.device) i)
      ∙ sym (joined (side_of d l) (λ y s. action_writes y s c) actions x);
}

pub kept : (old new : Accesses) → new.device ≡ old.device → new.list.items ≡ old.list.items → IsKept old new
kept old new dev items d actions h = record {
  device = dev ∙ h.device;
  reads = λ l c. ap (λ xs. some_reads xs l c) items ∙ h.reads l c;
  writes = λ l c. ap (λ xs. some_writes xs l c) items ∙ h.writes l c;
}

on_none : (o : Option Side) → false ≡ on_side o (λ s. false)
on_none None = refl
on_none (Some s) = refl

pub none_yet : (a : Accesses) (d : ℕ) → a.device ≡ d → a.list.items ≡ [] → AreAccesses a d []
none_yet a d dev items = record {
  device = dev;
  reads = λ l c. ap (λ xs. some_reads xs l c) items ∙ on_none (side_of d l);
  writes = λ l c. ap (λ xs. some_writes xs l c) items ∙ on_none (side_of d l);
}

-- ---- the accesses of each action

module _ (d : ℕ) where
  pub looks : (block : Section) (a : Access) → IsAt d Tab false (cells.Section block) a → AreOf d (Counts block true) (a ∷ [])
  looks block a h = of_one d (Counts block true) Tab false (cells.Section block) a h r w
    where
      r : (s : Side) (c : Cell) → (same_side Tab s && (true && is_in c block)) ≡ action_reads (Counts block true) s c
      r Host c = refl
      r Dev c = refl
      r Tab c = refl

      w : (s : Side) (c : Cell) → (same_side Tab s && (false && is_in c block)) ≡ action_writes (Counts block true) s c
      w Host c = refl
      w Dev c = refl
      w Tab c = refl

  pub counts : (block : Section) (a : Access) → IsAt d Tab true (cells.Section block) a → AreOf d (Counts block false) (a ∷ [])
  counts block a h = of_one d (Counts block false) Tab true (cells.Section block) a h r w
    where
      r : (s : Side) (c : Cell) → (same_side Tab s && (false && is_in c block)) ≡ action_reads (Counts block false) s c
      r Host c = refl
      r Dev c = refl
      r Tab c = refl

      w : (s : Side) (c : Cell) → (same_side Tab s && (true && is_in c block)) ≡ action_writes (Counts block false) s c
      w Host c = refl
      w Dev c = refl
      w Tab c = refl

  pub creates : (block : Section) (a : Access) → IsAt d Dev true (cells.Section block) a → AreOf d (Creates block) (a ∷ [])
  creates block a h = of_one d (Creates block) Dev true (cells.Section block) a h r w
    where
      r : (s : Side) (c : Cell) → (same_side Dev s && (false && is_in c block)) ≡ action_reads (Creates block) s c
      r Host c = refl
      r Dev c = refl
      r Tab c = refl

      w : (s : Side) (c : Cell) → (same_side Dev s && (true && is_in c block)) ≡ action_writes (Creates block) s c
      w Host c = refl
      w Dev c = refl
      w Tab c = refl

  pub removes : (block : Section) (a : Access) → IsAt d Dev true (cells.Section block) a → AreOf d (Removes block) (a ∷ [])
  removes block a h = of_one d (Removes block) Dev true (cells.Section block) a h r w
    where
      r : (s : Side) (c : Cell) → (same_side Dev s && (false && is_in c block)) ≡ action_reads (Removes block) s c
      r Host c = refl
      r Dev c = refl
      r Tab c = refl

      w : (s : Side) (c : Cell) → (same_side Dev s && (true && is_in c block)) ≡ action_writes (Removes block) s c
      w Host c = refl
      w Dev c = refl
      w Tab c = refl

  pub copies_in : (section : Section) (a b : Access) → IsAt d Host false (cells.Section section) a →
      IsAt d Dev true (cells.Section section) b → AreOf d (CopiesIn section) (a ∷ b ∷ [])
  copies_in section a b h k = of_two d (CopiesIn section) Host Dev (cells.Section section) (cells.Section section) a b h k r w
    where
      r : (s : Side) (c : Cell) → (same_side Host s && is_in c section) ≡ action_reads (CopiesIn section) s c
      r Host c = refl
      r Dev c = refl
      r Tab c = refl

      w : (s : Side) (c : Cell) → (same_side Dev s && is_in c section) ≡ action_writes (CopiesIn section) s c
      w Host c = refl
      w Dev c = refl
      w Tab c = refl

  pub copies_out : (section : Section) (a b : Access) → IsAt d Dev false (cells.Section section) a →
      IsAt d Host true (cells.Section section) b → AreOf d (CopiesOut section) (a ∷ b ∷ [])
  copies_out section a b h k = of_two d (CopiesOut section) Dev Host (cells.Section section) (cells.Section section) a b h k r w
    where
      r : (s : Side) (c : Cell) → (same_side Dev s && is_in c section) ≡ action_reads (CopiesOut section) s c
      r Host c = refl
      r Dev c = refl
      r Tab c = refl

      w : (s : Side) (c : Cell) → (same_side Host s && is_in c section) ≡ action_writes (CopiesOut section) s c
      w Host c = refl
      w Dev c = refl
      w Tab c = refl

  pub runs_on_host : (f : Footprint) (touches : List Touch) (j k : Cells) (a b : Access) → HasTouches f touches →
      ((c : Cell) → has_cell j c ≡ has f.read c) → ((c : Cell) → has_cell k c ≡ has f.write c) →
      IsAt d Host false j a → IsAt d Host true k b → AreOf d (HostRegion touches) (a ∷ b ∷ [])
  runs_on_host f touches j k a b t j_is k_is h m = of_two d (HostRegion touches) Host Host j k a b h m r w
    where
      r : (s : Side) (c : Cell) → (same_side Host s && has_cell j c) ≡ action_reads (HostRegion touches) s c
      r Host c = j_is c ∙ t.read c
      r Dev c = refl
      r Tab c = refl

      w : (s : Side) (c : Cell) → (same_side Host s && has_cell k c) ≡ action_writes (HostRegion touches) s c
      w Host c = k_is c ∙ t.write c
      w Dev c = refl
      w Tab c = refl

  pub runs_on_device : (f : Footprint) (touches : List Touch) (j k : Cells) (a b : Access) → HasTouches f touches →
      ((c : Cell) → has_cell j c ≡ has f.read c) → ((c : Cell) → has_cell k c ≡ has f.write c) →
      IsAt d Dev false j a → IsAt d Dev true k b → AreOf d (Kernel touches) (a ∷ b ∷ [])
  runs_on_device f touches j k a b t j_is k_is h m = of_two d (Kernel touches) Dev Dev j k a b h m r w
    where
      r : (s : Side) (c : Cell) → (same_side Dev s && has_cell j c) ≡ action_reads (Kernel touches) s c
      r Host c = refl
      r Dev c = j_is c ∙ t.read c
      r Tab c = refl

      w : (s : Side) (c : Cell) → (same_side Dev s && has_cell k c) ≡ action_writes (Kernel touches) s c
      w Host c = refl
      w Dev c = k_is c ∙ t.write c
      w Tab c = refl
