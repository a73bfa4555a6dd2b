-- Of which item a diagnosis tells.
use Rattle.std.proofs.Common.{◌≡◌, ℕ, ◌∙◌, Bor, List, Option, Some, None, ap, subst, sym}
use Rattle.std.specs.Prelude.{IfSome}
use Rattle.std.specs.Slice.{IsItemAt}
use Rattle.std.proofs.lemmas.Option.{same_Some}
use Rattle.base.specs.declared.item.Item.{Item}
use Rattle.base.specs.declared.fault.Refusal.{Refusal}
use Rattle.base.specs.Items.{Plan, Work}
use Rattle.outline.specs.Regions.{Entry}
use Rattle.outline.specs.Shown.{all_shown, as_shown}
use Rattle.mapwalk.proofs.ShownItems.{shown_of}
use Rattle.mapwalk.proofs.Walking.{work_at}
use Rattle.reasons.specs.declared.diagnosis.Diagnosis.{Diagnosis}
use Rattle.reasons.specs.declared.diagnosis.Since.{Since}
use Rattle.reasons.specs.Past.{IsItem, IsOf}
use Rattle.reasons.specs.Stale.{IsStaleSince, TellsSince, side_on}

-- an item of the code is the item of its number
pub item_at : (plan : Plan) (entries : List Entry) (items : List Item) (n : ℕ) (r : Option (Bor Item)) →
    all_shown entries items ≡ as_shown plan.items → IsItemAt items n r → IfSome r (λ x. IsItem plan n x.now)
item_at plan entries items n None are h = tt
item_at plan entries items n (Some x) are h = λ w there.
    let at = work_at entries items plan.items n x.now are h.3.0 h.1 in
    let is = shown_of entries x.now at.work at.is in
    let same : at.work ≡ w = same_Some at.work w (sym at.there ∙ there) in
    subst (λ (v : Work). IsOf x.now v) same (record { kind = is.kind; device = is.device })

pub tells : (plan : Plan) (r : Refusal) (d : Diagnosis) (item : Item) (since : Since) → IsItem plan r.item item →
    since.side ≡ side_on item.kind item.device.number → d.item ≡ Some r.item → d.since ≡ Some since →
    IsStaleSince plan r.item r.cell since → TellsSince plan r d
tells plan r d item since of side here told stale = record {
  item = here;
  since = since;
  told = told;
  stale = stale;
  side = λ w there. let is = of w there in
      side ∙ ap (λ k. side_on k item.device.number) (sym is.kind) ∙ ap (λ n. side_on w.kind n) (sym is.device);
}
