-- What is left of an item when it is opened.
use Rattle.std.specs.Prelude.{ℕ, ◌≡◌, ◌<◌, ◌≤◌, Bool, true, false, List, [], ◌∷◌, Option, Some, None, option_map, slice_get, slice_index}
use Rattle.std.specs.Borrow.{Bor}
use Rattle.base.specs.declared.item.Item.{Item}
use Rattle.base.specs.declared.item.ItemKind.{ItemKind}
use Rattle.base.specs.declared.item.ItemKind.TheVariants as kind
use Rattle.base.specs.declared.item.MapItem.{MapItem}
use Rattle.base.specs.declared.tree.Region.{Region}
use Rattle.base.specs.Items.{Work}
use Rattle.base.specs.Map.{Block, Device}
use Rattle.base.specs.Memory.{end_of, is_cell}
use Rattle.base.specs.Meaning.{Run}
use Rattle.fine_machine.specs.Left.{Left, Finished, Asks, Answer, Request, Side, Load, Store, Combine, Enter, Leave, Remove, CopyIn, CopyOut, each_left, update_left, present_of, item_left}
use Rattle.fine_machine.specs.Machine.{input_of}
use Rattle.present.specs.Table.{Shows}
use Rattle.present.specs.declared.Table.{Table}
use Rattle.actions.specs.declared.control.Control.{Control}
use Rattle.actions.specs.declared.strand.Strand.{Strand}
use Rattle.actions.specs.declared.unordered.Unordered.{Unordered}
use Rattle.actions.specs.declared.frame.Frame.{Frame}
use Rattle.actions.specs.Rest.{rest_of}
use Rattle.actions.specs.Control.{IsStopped, and_kernel, left_of}
use Rattle.actions.specs.Strand.{side_of}
use Rattle.actions.specs.Strand as strand

-- the item with its region in full
pub record IsWork (it : Item) (r : Option Region) (w : Work) : Type 0 where
  pub kind : w.kind ≡ it.kind
  pub maps : w.maps ≡ it.maps.items
  pub region : w.region ≡ r
  pub loops : w.loops ≡ it.loops.values.items

-- the region that the code has, if it has one
abbrev pub IsRegion : Option (Bor Region) → Option Region → Type 0
IsRegion None r = r ≡ None
IsRegion (Some e) r = r ≡ Some (e.now)

-- where its region begins
abbrev pub begun_with : Work → List ℕ → List ℕ → Run
begun_with w scalars input =
    record { scalars = slice_index scalars; stores = []; input = input_of w.kind input; printed = [] }

-- what is left of it is what the machine has on each device that the table shows, or it fails
pub record IsOpened (it : Item) (r : Option Region) (order scalars input : List ℕ) (t : Table) (o : Option Control) :
    Type 0 where
  pub left : (w : Work) (d : Device) → IsWork it r w → Shows t d →
      item_left order w d.blocks (begun_with w scalars input) ≡ option_map left_of o
  pub stopped : (c : Control) → o ≡ Some c → IsStopped c

-- a part with this meaning stands before the old parts
abbrev pub Puts : (Side → List ℕ → Run → (Run → Left) → Left) → List Frame → List Frame → Type 0
Puts part old new = (side : Side) (loops : List ℕ) (s : Run) →
    rest_of side new loops 0 s ≡ part side loops s (λ t. rest_of side old loops 0 t)

-- likewise a part on map items, which leaves the run of the region as it is
abbrev pub PutsMaps : ((Unit {0} → Left) → Left) → List Frame → List Frame → Type 0
PutsMaps part old new = Puts (λ side loops s k. part (λ u. k s)) old new

-- before the old parts stand the copies of the sections of an update that have storage
pub record Updates (blocks : List Block) (items : List MapItem) (old new : List Frame) : Type 0 where
  pub there : List MapItem
  pub are : present_of blocks items ≡ Some there
  pub left : PutsMaps (each_left update_left there) old new

-- one section of an update comes before those after it, or the update fails
abbrev pub UpdatesOne : Table → MapItem → Bool → List Frame → List Frame → Type 0
UpdatesOne t item true mid new = (d : Device) (rest : List MapItem) (old : List Frame) → Shows t d →
    Updates d.blocks rest old mid → Updates d.blocks (item ∷ rest) old new
UpdatesOne t item false mid new = (d : Device) (rest : List MapItem) → Shows t d →
    present_of d.blocks (item ∷ rest) ≡ None

-- the sections of an update, or it fails
abbrev pub UpdatesAll : Table → List MapItem → Bool → List Frame → List Frame → Type 0
UpdatesAll t items true old new = (d : Device) → Shows t d → Updates d.blocks items old new
UpdatesAll t items false old new = (d : Device) → Shows t d → present_of d.blocks items ≡ None

-- whether an item works on the host
abbrev pub is_host : ItemKind → Bool
is_host kind.Host = true
is_host kind.Target = false
is_host kind.Begin = false
is_host kind.End = false
is_host kind.Enter = false
is_host kind.Exit = false
is_host kind.Update = false
is_host kind.Wait = false

-- the turns of the region, if there is one, run in order
abbrev pub IsInOrder : Option Region → Type 0
IsInOrder None = Unit {0}
IsInOrder (Some r) = r.depth ≡ 0

-- the kernel of an item of which the turns may run in any order
pub record IsUnordered (it : Item) (r : Option Region) (u : Unordered) : Type 0 where
  pub kind : it.kind ≡ kind.Target
  pub region : Region
  pub is : r ≡ Some region
  pub deep : 0 < region.depth
  pub depth : u.depth ≡ region.depth
  pub body : u.body.now ≡ region.body.items
  pub loops : u.loops.now ≡ it.loops.values.items
  pub next : u.next ≡ 0
  pub exits : u.exits.items.now ≡ it.maps.items

-- that of the item, if it has one
abbrev pub IsKernel : Item → Option Region → Option Unordered → Type 0
IsKernel it r None = it.kind ≡ kind.Target → IsInOrder r
IsKernel it r (Some u) = IsUnordered it r u

-- these parts, up to a kernel of which the turns may run in any order, are the item's, or it fails
abbrev pub IsPut : Item → Option Region → List ℕ → Option Unordered → Table → Bool → List Frame → Type 0
IsPut it r order kernel t true frames = (w : Work) (d : Device) (s : Run) → IsWork it r w → Shows t d →
    item_left order w d.blocks s
    ≡ Some (and_kernel order kernel (rest_of (side_of (is_host it.kind)) frames it.loops.values.items 0 s))
IsPut it r order kernel t false frames = (w : Work) (d : Device) (s : Run) → IsWork it r w → Shows t d →
    item_left order w d.blocks s ≡ None

-- the item is begun with these parts
abbrev pub IsBegun : Item → List ℕ → List ℕ → List Frame → Strand → Type 0
IsBegun it scalars input frames c = (w : Work) → w.kind ≡ it.kind →
    strand.left_of c
    ≡ rest_of (side_of (is_host it.kind)) frames it.loops.values.items 0 (begun_with w scalars input)

-- the sections lie in arrays of these lengths
abbrev pub InArrays : List ℕ → List MapItem → Type 0
InArrays lengths maps = (k : ℕ) (item : MapItem) → slice_get maps k ≡ Some item →
    end_of item.section ≤ slice_index lengths item.section.array.0

abbrev pub IsInside : List ℕ → Request → Type 0
IsInside lengths (CopyOut c) = is_cell lengths c ≡ true
IsInside lengths (Load side c) = Unit {0}
IsInside lengths (Store side c n) = Unit {0}
IsInside lengths (Combine side op c n) = Unit {0}
IsInside lengths (Enter item) = Unit {0}
IsInside lengths (Leave item) = Unit {0}
IsInside lengths (Remove s) = Unit {0}
IsInside lengths (CopyIn c) = Unit {0}

-- each cell that is copied to the host, now or later, lies in its array
pub data StaysInside (lengths : List ℕ) : Left → Type 0 where
  IsDone : (run : Run) → StaysInside lengths (Finished run)
  Goes : (request : Request) (k : Answer → Left) → IsInside lengths request →
      ((r : Answer) → StaysInside lengths (k r)) → StaysInside lengths (Asks request k)
