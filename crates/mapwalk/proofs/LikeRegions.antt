-- Regions that touch the same cells.
use Rattle.std.proofs.Common.{◌≡◌, [], Option, Some, None, refl, sym, ap, ◌∙◌}
use Rattle.std.proofs.lemmas.Bool.{both_ways}
use Rattle.base.specs.declared.item.Cell.{Cell}
use Rattle.base.specs.declared.item.ItemKind.{ItemKind}
use Rattle.base.specs.declared.item.ItemKind.TheVariants as kind
use Rattle.base.specs.declared.tree.Region.{Region}
use Rattle.base.specs.Items.{Work}
use Rattle.base.specs.Footprint.{exposes, reads, surely_writes, touches_of, writes}
use Rattle.base.specs.Actions.{HostRegion, Kernel, touches_in}
use Rattle.base.specs.Least.{IsLeast}
use Rattle.base.specs.Turns.{Independent, turns_in_work, turns_meet}
use Rattle.base.specs.Current.{Current, after_actions, other_side, own_side}
use Rattle.ranges.specs.declared.cells.Footprint.{Footprint}
use Rattle.mapwalk.specs.Regions.{IsFootprintOf, region_actions}
use Rattle.mapwalk.proofs.RegionEffects.{host_with, kernel_with, region_is_host, region_is_kernel, same_actions}

-- the regions of two items touch the same cells, and where the turns of the first meet nowhere, nor do those of the second
pub record SameTouches (v w : Work) : Type 0 where
  pub exposed : (c : Cell) → exposes (touches_in w) c ≡ exposes (touches_in v) c
  pub read : (c : Cell) → reads (touches_in w) c ≡ reads (touches_in v) c
  pub write : (c : Cell) → writes (touches_in w) c ≡ writes (touches_in v) c
  pub sure : (c : Cell) → surely_writes (touches_in w) c ≡ surely_writes (touches_in v) c
  pub apart : Independent (turns_in_work v) → Independent (turns_in_work w)

no_touches : (w : Work) → w.region ≡ None → touches_in w ≡ []
no_touches w e = ap (λ (o : Option Region). elim o [ None ↦ [] | Some r ↦ touches_of r w.loops ]) e

no_turns : (w : Work) → w.region ≡ None → turns_in_work w ≡ []
no_turns w e = ap (λ (o : Option Region). turns_in_work (record w { region = o })) e

still_apart : (v w : Work) (o : Option Cell) → IsLeast (turns_meet (turns_in_work v)) o →
    IsLeast (turns_meet (turns_in_work w)) o → Independent (turns_in_work v) → Independent (turns_in_work w)
still_apart v w None h g never = g
still_apart v w (Some c) h g never = absurd (both_ways (turns_meet (turns_in_work v) c) (never c) h.0)

-- items of one footprint
pub same_touches : (v w : Work) (o : Option Footprint) → IsFootprintOf v o → IsFootprintOf w o → SameTouches v w
same_touches v w None h g =
    let e : touches_in w ≡ touches_in v = no_touches w g ∙ sym (no_touches v h) in
    record {
      exposed = λ c. ap (λ ts. exposes ts c) e;
      read = λ c. ap (λ ts. reads ts c) e;
      write = λ c. ap (λ ts. writes ts c) e;
      sure = λ c. ap (λ ts. surely_writes ts c) e;
      apart = λ never c. ap (λ ts. turns_meet ts c) (no_turns w g);
    }
same_touches v w (Some f) h g =
    record {
      exposed = λ c. sym (g.exposed c) ∙ h.exposed c;
      read = λ c. sym (g.read c) ∙ h.read c;
      write = λ c. sym (g.write c) ∙ h.write c;
      sure = λ c. sym (g.sure c) ∙ h.sure c;
      apart = still_apart v w f.meeting h.meeting g.meeting;
    }

-- what a region does, by the kind of its item
abbrev pub effect_by : ItemKind → Work → Current → Current
effect_by kind.Host w k = record { host = own_side (touches_in w) k.host; device = other_side (touches_in w) k.device }
effect_by kind.Target w k = record { host = other_side (touches_in w) k.host; device = own_side (touches_in w) k.device }
effect_by kind.Begin w k = k
effect_by kind.End w k = k
effect_by kind.Enter w k = k
effect_by kind.Exit w k = k
effect_by kind.Update w k = k
effect_by kind.Wait w k = k

pub effect : (w : Work) (k : Current) (x : ItemKind) → w.kind ≡ x → after_actions (region_actions w) k ≡ effect_by x w k
effect w k kind.Host e =
    region_is_host w k e ∙ ap (λ xs. after_actions xs k) (same_actions HostRegion w []) ∙ host_with w k w.region
effect w k kind.Target e =
    region_is_kernel w k e ∙ ap (λ xs. after_actions xs k) (same_actions Kernel w []) ∙ kernel_with w k w.region
effect w k kind.Begin e = rw e refl
effect w k kind.End e = rw e refl
effect w k kind.Enter e = rw e refl
effect w k kind.Exit e = rw e refl
effect w k kind.Update e = rw e refl
effect w k kind.Wait e = rw e refl
