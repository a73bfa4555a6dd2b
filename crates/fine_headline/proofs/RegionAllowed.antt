-- A region, whatever it loads, asks only for what is among its item's accesses.
use Rattle.std.proofs.Common.{◌≡◌, ℕ, ◌<◌, ◌^◌, true, List, [], ◌∷◌, Some, ◌∙◌, ap, subst}
use Rattle.std.specs.Prelude.{not, ◌&&◌, slice_get}
use Rattle.std.proofs.lemmas.Bool.{and_from, or_left, or_right}
use Rattle.base.specs.declared.item.Cell.{Cell}
use Rattle.base.specs.declared.tree.CombineOp.{CombineOp}
use Rattle.base.specs.declared.item.ItemKind.TheVariants as kind
use Rattle.base.specs.Actions.{Side as On, Host, Dev}
use Rattle.base.specs.declared.tree.Region.{Region}
use Rattle.base.specs.Meaning.{Run}
use Rattle.base.specs.Items.{Work, Plan}
use Rattle.base.specs.Map.{Block}
use Rattle.base.specs.Footprint.{Touch, has_cell, reads, writes, touches_of}
use Rattle.base.specs.Actions.{HostRegion, Kernel, Acted, each_acts, entry_acts, exit_acts, region_acts, then_acts, rests}
use Rattle.fine_machine.specs.Left.{Side, OnHost, OnDevice, Left, Asks, Request, Answer, Load, Store, Combine, region_left, kernel_left}
use Rattle.regions.proofs.Needs.{Every}
use Rattle.regions.proofs.StatementsDone.{AllSmall, Fine}
use Rattle.two_memories.specs.Two.{blocks_before}
use Rattle.two_memories.proofs.LikeMemories.{touched, Covers, covers_left, covers_right, reads_head, writes_head}
use Rattle.two_memories.proofs.AdjustedCounts.{access_of, covers_item}
use Rattle.two_memories.proofs.ByKind.{acts_host, acts_target, acts_some}
use Rattle.fine_headline.proofs.Regional.{Allowed, list_all}
use Rattle.fine_headline.proofs.KernelKeeps.{kernel_keeps}
use Rattle.fine_headline.proofs.Cells.{IsAllowed}

-- each touch is of what all of them touch
pub touches_allowed : (readable writable : Cell → Type 0) (xs : List Touch) →
    ((c : Cell) → reads xs c ≡ true → readable c) → ((c : Cell) → writes xs c ≡ true → writable c) →
    Every (Allowed (λ mark. readable) (λ mark. writable)) xs
touches_allowed readable writable [] h k = tt
touches_allowed readable writable (t ∷ rest) h k = (
  record {
    read =
        λ e c i. h c (or_left (not t.is_write && has_cell c t) (reads rest c)
        (and_from (not t.is_write) (has_cell c t) (ap not e) i));
    written =
        λ e c i. k c (or_left (t.is_write && has_cell c t) (writes rest c) (and_from t.is_write (has_cell c t) e i));
  },
  touches_allowed readable writable rest (λ c i. h c (or_right (not t.is_write && has_cell c t) (reads rest c) i))
      (λ c i. k c (or_right (t.is_write && has_cell c t) (writes rest c) i)),
)

abbrev side_of : Side → On
side_of OnHost = Host
side_of OnDevice = Dev

module _ (plan : Plan) (i : ℕ) where
  may_load : (side : Side) (c : Cell) → touched (access_of plan i) (side_of side) c ≡ true →
      IsAllowed plan i (Load side c)
  may_load OnHost c h = h
  may_load OnDevice c h = h

  may_store : (side : Side) (c : Cell) (n : ℕ) →
      (access_of plan i).writes (side_of side) c ≡ true → IsAllowed plan i (Store side c n)
  may_store OnHost c n h = h
  may_store OnDevice c n h = h

  may_update : (side : Side) (op : CombineOp) (c : Cell) (n : ℕ) →
      (access_of plan i).writes (side_of side) c ≡ true → IsAllowed plan i (Combine side op c n)
  may_update OnHost op c n h = h
  may_update OnDevice op c n h = h

  -- a predicate that allowed actions on cells keep holds of what is left of the region
  region_allowed : (side : Side) (r : Region) (loops : List ℕ) →
      ((c : Cell) → reads (touches_of r loops) c ≡ true → (access_of plan i).reads (side_of side) c ≡ true) →
      ((c : Cell) → writes (touches_of r loops) c ≡ true → (access_of plan i).writes (side_of side) c ≡ true) →
      (K : Left → Type 0) → ((q : Request) (k : Answer → Left) → IsAllowed plan i q →
      ((a : Answer) → a.number < 2 ^ 64 → K (k a)) → K (Asks q k)) →
      (s : Run) (k : Run → Left) → AllSmall loops → Fine s → ((t : Run) → Fine t → K (k t)) → K
      (region_left (Some r) side loops s k)
  region_allowed side r loops h w K keeps s k l f next =
      list_all (λ mark c. touched (access_of plan i) (side_of side) c ≡ true)
      (λ mark c. (access_of plan i).writes (side_of side) c ≡ true) side K
      (λ c k h n. keeps (Load side c) k (may_load side c h) n)
      (λ c n k h small m. keeps (Store side c n) k (may_store side c n h) (λ a _. m a))
      (λ op c n k h small m. keeps (Combine side op c n) k (may_update side op c n h) (λ a _. m a)) r.body.items loops l
      (touches_allowed (λ c. touched (access_of plan i) (side_of side) c ≡ true)
      (λ c. (access_of plan i).writes (side_of side) c ≡ true) (touches_of r loops)
      (λ c e. or_left _ _ (h c e)) w) s k f next

  -- and of what is left of a kernel
  kernel_allows : (order : List ℕ) (r : Region) (loops : List ℕ) →
      ((c : Cell) → reads (touches_of r loops) c ≡ true → (access_of plan i).reads Dev c ≡ true) →
      ((c : Cell) → writes (touches_of r loops) c ≡ true → (access_of plan i).writes Dev c ≡ true) →
      (K : Left → Type 0) → ((q : Request) (k : Answer → Left) → IsAllowed plan i q →
      ((a : Answer) → a.number < 2 ^ 64 → K (k a)) → K (Asks q k)) →
      (s : Run) (k : Run → Left) → AllSmall loops → Fine s → ((t : Run) → Fine t → K (k t)) → K
      (kernel_left order (Some r) loops s k)
  kernel_allows order r loops h w K keeps s k l f next =
      kernel_keeps (λ mark c. touched (access_of plan i) Dev c ≡ true)
      (λ mark c. (access_of plan i).writes Dev c ≡ true) K
      (λ c k h n. keeps (Load OnDevice c) k (may_load OnDevice c h) n)
      (λ c n k h small m. keeps (Store OnDevice c n) k (may_store OnDevice c n h) (λ a _. m a))
      (λ op c n k h small m. keeps (Combine OnDevice op c n) k (may_update OnDevice op c n h) (λ a _. m a)) order r loops
      s k l
      (touches_allowed (λ c. touched (access_of plan i) Dev c ≡ true) (λ c. (access_of plan i).writes Dev c ≡ true)
      (touches_of r loops) (λ c e. or_left _ _ (h c e)) w) f next

  module _ (w : Work) (r : Region) (at : slice_get plan.items i ≡ Some w) (has : w.region ≡ Some r) where
    host_covers : w.kind ≡ kind.Host → Covers (HostRegion (touches_of r w.loops) ∷ []) (access_of plan i)
    host_covers e =
        subst (λ acts. Covers acts (access_of plan i))
        (ap (λ (a : Acted). a.actions) (acts_host w (blocks_before plan i) e) ∙ acts_some HostRegion w
        (blocks_before plan i) r has) (covers_item plan i w at)

    pub host_allowed : w.kind ≡ kind.Host → (K : Left → Type 0) →
        ((q : Request) (k : Answer → Left) → IsAllowed plan i q → ((a : Answer) → a.number < 2 ^ 64 → K (k a)) → K
        (Asks q k)) →
        (s : Run) (k : Run → Left) → AllSmall w.loops → Fine s → ((t : Run) → Fine t → K (k t)) → K
        (region_left (Some r) OnHost w.loops s k)
    host_allowed e =
        region_allowed OnHost r w.loops (λ c h. reads_head (HostRegion (touches_of r w.loops)) [] (access_of plan i)
        (host_covers e) Host c h) (λ c h. writes_head (HostRegion (touches_of r w.loops)) [] (access_of plan i)
        (host_covers e) Host c h)

    kernel_covers : w.kind ≡ kind.Target → Covers (Kernel (touches_of r w.loops) ∷ []) (access_of plan i)
    kernel_covers e =
        subst (λ acts. Covers acts (access_of plan i)) (acts_some Kernel w entries.blocks r has)
        (covers_right entries.actions (region_acts Kernel w entries.blocks).actions (access_of plan i)
        (covers_left (then_acts entries (region_acts Kernel w)).actions
        (each_acts (exit_acts (rests before)) w.maps (then_acts entries (region_acts Kernel w)).blocks).actions
        (access_of plan i)
        (subst (λ acts. Covers acts (access_of plan i)) (ap (λ (a : Acted). a.actions) (acts_target w before e))
        (covers_item plan i w at))))
      where
        before : List Block
        before = blocks_before plan i

        entries : Acted
        entries = each_acts (entry_acts (rests (blocks_before plan i))) w.maps (blocks_before plan i)

    pub kernel_allowed : (order : List ℕ) → w.kind ≡ kind.Target → (K : Left → Type 0) →
        ((q : Request) (k : Answer → Left) → IsAllowed plan i q → ((a : Answer) → a.number < 2 ^ 64 → K (k a)) → K
        (Asks q k)) →
        (s : Run) (k : Run → Left) → AllSmall w.loops → Fine s → ((t : Run) → Fine t → K (k t)) → K
        (kernel_left order (Some r) w.loops s k)
    kernel_allowed order e =
        kernel_allows order r w.loops (λ c h. reads_head (Kernel (touches_of r w.loops)) [] (access_of plan i)
        (kernel_covers e) Dev c h) (λ c h. writes_head (Kernel (touches_of r w.loops)) [] (access_of plan i)
        (kernel_covers e) Dev c h)
