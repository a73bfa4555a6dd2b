-- What a region does to what is current.
use Rattle.std.proofs.Common.{◌≡◌, Bool, List, [], ◌∷◌, Option, Some, None, refl, sym, ap, ◌∙◌}
use Rattle.std.specs.Prelude.{not, ◌&&◌, ◌||◌}
use mathlib.Core.Path.{fun_ext}
use Rattle.base.specs.declared.item.Cell.{Cell}
use Rattle.base.specs.declared.item.ItemKind.TheVariants as kind
use Rattle.base.specs.declared.tree.Region.{Region}
use Rattle.base.specs.Items.{Work}
use Rattle.base.specs.Map.{Block}
use Rattle.base.specs.Footprint.{Touch, touches_of}
use Rattle.base.specs.Actions.{Action, HostRegion, Kernel, region_acts, touches_in}
use Rattle.base.specs.Current.{Current, after_actions, other_side, own_side}
use Rattle.ranges.specs.declared.cells.Footprint.{Footprint}
use Rattle.ranges.specs.Cells.{has}
use Rattle.mapwalk.specs.Current.{with_added, with_cut}
use Rattle.mapwalk.specs.Regions.{AreTouches, region_actions}

abbrev pub actions_with : (List Touch → Action) → Work → Option Region → List Action
actions_with act w None = []
actions_with act w (Some r) = act (touches_of r w.loops) ∷ []

abbrev pub touches_with : Work → Option Region → List Touch
touches_with w None = []
touches_with w (Some r) = touches_of r w.loops

pub same_actions : (act : List Touch → Action) (w : Work) (blocks : List Block) → (region_acts act w blocks).actions ≡ actions_with act w w.region
same_actions act w blocks = go w.region refl
  where
    go : (o : Option Region) → w.region ≡ o → (region_acts act w blocks).actions ≡ actions_with act w w.region
    go None e = rw e refl
    go (Some r) e = rw e refl

pub host_with : (w : Work) (k : Current) (o : Option Region) → after_actions (actions_with HostRegion w o) k
    ≡ record { host = own_side (touches_with w o) k.host; device = other_side (touches_with w o) k.device }
host_with w k None = refl
host_with w k (Some r) = refl

pub kernel_with : (w : Work) (k : Current) (o : Option Region) → after_actions (actions_with Kernel w o) k
    ≡ record { host = other_side (touches_with w o) k.host; device = own_side (touches_with w o) k.device }
kernel_with w k None = refl
kernel_with w k (Some r) = refl

added_is : (w : Work) (f : Footprint) (side : Cell → Bool) → AreTouches w f → with_added (has f.sure) side
    ≡ own_side (touches_in w) side
added_is w f side h = fun_ext (λ (c : Cell). ap (λ b. b || side c) (h.sure c))

cut_is : (w : Work) (f : Footprint) (side : Cell → Bool) → AreTouches w f → with_cut (has f.write) side
    ≡ other_side (touches_in w) side
cut_is w f side h = fun_ext (λ (c : Cell). ap (λ b. not b && side c) (h.write c))

pub region_is_host : (w : Work) (k : Current) → w.kind ≡ kind.Host →
    after_actions (region_actions w) k ≡ after_actions (region_acts HostRegion w []).actions k
region_is_host w k e = rw e refl

pub region_is_kernel : (w : Work) (k : Current) → w.kind ≡ kind.Target →
    after_actions (region_actions w) k ≡ after_actions (region_acts Kernel w []).actions k
region_is_kernel w k e = rw e refl

pub host_effect : (w : Work) (f : Footprint) (k new : Current) → w.kind ≡ kind.Host → AreTouches w f →
    new.host ≡ with_added (has f.sure) k.host → new.device ≡ with_cut (has f.write) k.device →
    new ≡ after_actions (region_actions w) k
host_effect w f k new e h host device =
    (λ i. record { host = (host ∙ added_is w f k.host h) i; device = (device ∙ cut_is w f k.device h) i })
    ∙ sym (host_with w k w.region)
    ∙ ap (λ xs. after_actions xs k) (sym (same_actions HostRegion w []))
    ∙ sym (region_is_host w k e)

pub kernel_effect : (w : Work) (f : Footprint) (k new : Current) → w.kind ≡ kind.Target → AreTouches w f →
    new.host ≡ with_cut (has f.write) k.host → new.device ≡ with_added (has f.sure) k.device →
    new ≡ after_actions (region_actions w) k
kernel_effect w f k new e h host device =
    (λ i. record { host = (host ∙ cut_is w f k.host h) i; device = (device ∙ added_is w f k.device h) i })
    ∙ sym (kernel_with w k w.region)
    ∙ ap (λ xs. after_actions xs k) (sym (same_actions Kernel w []))
    ∙ sym (region_is_kernel w k e)
