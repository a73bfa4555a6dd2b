-- What is left of an item that is opened stores numbers below 2^64.
use Rattle.std.proofs.Common.{◌≡◌, ℕ, zero, suc, ◌+◌, ◌≤◌, Bool, true, false, List, [], ◌∷◌, Option, Some, None, refl}
use Rattle.std.proofs.lemmas.Bool.{cond_both}
use Rattle.base.specs.declared.tree.ArrayId.{ArrayId}
use Rattle.base.specs.declared.tree.Region.{Region}
use Rattle.base.specs.declared.item.Cell.{Cell}
use Rattle.base.specs.declared.item.MapItem.{MapItem}
use Rattle.base.specs.declared.item.ItemKind.{ItemKind}
use Rattle.base.specs.declared.item.ItemKind.TheVariants as kind
use Rattle.base.specs.Meaning.{Run}
use Rattle.base.specs.Items.{Work}
use Rattle.base.specs.Map.{Block, Presence, Absent, Inside, InPart, presence, copies_to, copies_from}
use Rattle.base.specs.Footprint.{Touch, touches_of}
use Rattle.fine_machine.specs.Left.{Side, OnHost, Request, Remove, CopyIn, CopyOut, Answer, Left, Finished, Asks, region_left, cells_left, section_left, left_if, entry_left, exit_left, update_left, each_left, present_of, kernel_left, item_left}
use Rattle.regions.proofs.Needs.{Every}
use Rattle.regions.proofs.StatementsDone.{AllSmall, Fine}
use Rattle.regions.proofs.ValueBounds.{IfThere, there_map}
use Rattle.regions.proofs.StatementsDone.{small_list, list_small}
use Rattle.two_memories.specs.Two.{IsLawful}
use Rattle.two_memories.proofs.MapLists.{AreSized}
use Rattle.two_memories.proofs.MapLists.{sized}
use Rattle.fine_headline.specs.FineState.{BoundedRequest, BoundedLeft}
use Rattle.fine_headline.proofs.Regional.{Allowed, list_all}
use Rattle.fine_headline.proofs.KernelKeeps.{kernel_keeps}

abbrev pub anything : Cell → Type 0
anything c = Unit {0}

pub all_allowed : (touches : List Touch) → Every (Allowed (λ mark. anything) (λ mark. anything)) touches
all_allowed [] = tt
all_allowed (t ∷ rest) = (record { read = λ e c h. tt; written = λ e c h. tt }, all_allowed rest)

abbrev Rest : Type 0
Rest = Unit {0} → Left

region_bounded : (o : Option Region) (side : Side) (loops : List ℕ) (s : Run) (k : Run → Left) → AllSmall loops →
    Fine s → ((t : Run) → Fine t → BoundedLeft (k t)) → BoundedLeft (region_left o side loops s k)
region_bounded None side loops s k l f next = next s f
region_bounded (Some r) side loops s k l f next =
    list_all (λ mark. anything) (λ mark. anything) side BoundedLeft (λ c k _ h. (tt, h))
    (λ c n k _ small h. (small, λ a _. h a)) (λ op c n k _ small h. (small, λ a _. h a)) r.body.items loops l
    (all_allowed (touches_of r loops)) s k f next

kernel_bounded : (order : List ℕ) (o : Option Region) (loops : List ℕ) (s : Run) (k : Run → Left) → AllSmall loops →
    Fine s → ((t : Run) → Fine t → BoundedLeft (k t)) → BoundedLeft (kernel_left order o loops s k)
kernel_bounded order None loops s k l f next = next s f
kernel_bounded order (Some r) loops s k l f next =
    kernel_keeps (λ mark. anything) (λ mark. anything) BoundedLeft (λ c k _ h. (tt, h))
    (λ c n k _ small h. (small, λ a _. h a)) (λ op c n k _ small h. (small, λ a _. h a)) order r loops
    s k l (all_allowed (touches_of r loops)) f next

cells_bounded : (ask : Cell → Request) (a : ArrayId) (first n : ℕ) (k : Rest) → ((c : Cell) → BoundedRequest (ask c)) →
    BoundedLeft (k tt) → BoundedLeft (cells_left ask a first n k)
cells_bounded ask a first zero k h next = next
cells_bounded ask a first (suc n) k h next =
    (h (record { array = a; index = first }), λ r _. cells_bounded ask a (first + 1) n k h next)

if_bounded : (b : Bool) (first : Rest → Left) (k : Rest) → (BoundedLeft (k tt) → BoundedLeft (first k)) →
    BoundedLeft (k tt) → BoundedLeft (left_if b first k)
if_bounded true first k h next = h next
if_bounded false first k h next = next

entry_bounded : (item : MapItem) (k : Rest) → 1 ≤ item.section.length → BoundedLeft (k tt) →
    BoundedLeft (entry_left item k)
entry_bounded item k size next = (
  size,
  λ a _. if_bounded a.copies (section_left CopyIn item.section) k
      (cells_bounded CopyIn item.section.array item.section.first item.section.length k (λ c. tt)) next,
)

exit_bounded : (item : MapItem) (k : Rest) → 1 ≤ item.section.length → BoundedLeft (k tt) →
    BoundedLeft (exit_left item k)
exit_bounded item k size next = (tt, λ a _. copied a (if_bounded a.removes removal k (λ h. (tt, λ r _. h)) next))
  where
    removal : Rest → Left
    removal l = Asks (Remove item.section) (λ r. l tt)

    copied : (a : Answer) → BoundedLeft (left_if a.removes removal k) →
        BoundedLeft (left_if a.copies (section_left CopyOut item.section) (λ u. left_if a.removes removal k))
    copied a h =
        if_bounded a.copies (section_left CopyOut item.section) (λ u. left_if a.removes removal k)
        (cells_bounded CopyOut item.section.array item.section.first item.section.length
        (λ u. left_if a.removes removal k) (λ c. tt)) h

update_bounded : (item : MapItem) (k : Rest) → 1 ≤ item.section.length → BoundedLeft (k tt) →
    BoundedLeft (update_left item k)
update_bounded item k size next =
    if_bounded (copies_to item.kind) (section_left CopyIn item.section)
    (λ u. left_if (copies_from item.kind) (section_left CopyOut item.section) k)
    (cells_bounded CopyIn item.section.array item.section.first item.section.length
    (λ u. left_if (copies_from item.kind) (section_left CopyOut item.section) k) (λ c. tt))
    (if_bounded (copies_from item.kind) (section_left CopyOut item.section) k
    (cells_bounded CopyOut item.section.array item.section.first item.section.length k (λ c. tt)) next)

each_bounded : (f : MapItem → Rest → Left) (maps : List MapItem) (k : Rest) →
    ((item : MapItem) (k : Rest) → 1 ≤ item.section.length → BoundedLeft (k tt) → BoundedLeft (f item k)) →
    AreSized maps → BoundedLeft (k tt) → BoundedLeft (each_left f maps k)
each_bounded f [] k h are next = next
each_bounded f (item ∷ rest) k h are next =
    h item (λ u. each_left f rest k) are.size (each_bounded f rest k h are.rest next)

abbrev sized_or_none : Option (List MapItem) → Type 0
sized_or_none o = IfThere AreSized o

present_sized : (blocks : List Block) (maps : List MapItem) → AreSized maps → sized_or_none (present_of blocks maps)
present_sized blocks [] are = tt
present_sized blocks (item ∷ rest) are = go (presence blocks item.section) refl (present_sized blocks rest are.rest)
  where
    go : (p : Presence) → presence blocks item.section ≡ p → sized_or_none (present_of blocks rest) →
        sized_or_none (present_of blocks (item ∷ rest))
    go Absent e h = rw (e, present_of) (cond_both item.present None (present_of blocks rest) sized_or_none (λ _. tt) (λ _. h))
    go (Inside b) e h =
        rw (e, present_of) (there_map AreSized AreSized (λ xs. item ∷ xs) (present_of blocks rest)
        (λ xs more. record { size = are.size; rest = more }) h)
    go InPart e h = rw (e, present_of) tt

finished_bounded : (t : Run) → Fine t → BoundedLeft (Finished t)
finished_bounded t f = record { scalars = f.scalars; input = list_small t.input f.input }

pub item_bounded : (order : List ℕ) (w : Work) (blocks : List Block) (s : Run) → IsLawful w → Fine s →
    IfThere BoundedLeft (item_left order w blocks s)
item_bounded order w blocks s lawful f = go w.kind refl
  where
    are : AreSized w.maps
    are = sized w.maps lawful.not_empty

    loops : AllSmall w.loops
    loops = small_list w.loops lawful.loops

    entries : (k : Rest) → BoundedLeft (k tt) → BoundedLeft (each_left entry_left w.maps k)
    entries k next = each_bounded entry_left w.maps k entry_bounded are next

    exits : (k : Rest) → BoundedLeft (k tt) → BoundedLeft (each_left exit_left w.maps k)
    exits k next = each_bounded exit_left w.maps k exit_bounded are next

    go : (k : ItemKind) → w.kind ≡ k → IfThere BoundedLeft (item_left order w blocks s)
    go kind.Host e = rw (e, item_left) (region_bounded w.region OnHost w.loops s Finished loops f finished_bounded)
    go kind.Target e =
        rw (e, item_left) (entries (λ u. kernel_left order w.region w.loops s
        (λ t. each_left exit_left w.maps (λ u. Finished t)))
        (kernel_bounded order w.region w.loops s (λ t. each_left exit_left w.maps (λ u. Finished t)) loops f
        (λ t g. exits (λ u. Finished t) (finished_bounded t g))))
    go kind.Begin e = rw (e, item_left) (entries (λ u. Finished s) (finished_bounded s f))
    go kind.Enter e = rw (e, item_left) (entries (λ u. Finished s) (finished_bounded s f))
    go kind.End e = rw (e, item_left) (exits (λ u. Finished s) (finished_bounded s f))
    go kind.Exit e = rw (e, item_left) (exits (λ u. Finished s) (finished_bounded s f))
    go kind.Update e =
        rw (e, item_left) (there_map AreSized BoundedLeft (λ present. each_left update_left present (λ u. Finished s))
        (present_of blocks w.maps) (λ present more. each_bounded update_left present
        (λ u. Finished s) update_bounded more (finished_bounded s f)) (present_sized blocks w.maps are))
    go kind.Wait e = rw (e, item_left) (finished_bounded s f)
