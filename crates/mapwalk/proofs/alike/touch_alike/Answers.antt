use Rattle.std.proofs.Common.{◌≡◌, List, ℕ, Some, sym, ap, ◌∙◌, subst}
use Rattle.std.specs.Prelude.{slice_get}
use Rattle.std.proofs.lemmas.Option.{slice_get-get_or}
use Rattle.base.specs.Meaning.{lengths_of}
use Rattle.outline.specs.Regions.{entries_of}
use Rattle.regions.specs.Deciding.{AgreeWhereDeciding}
use Rattle.mapwalk.proofs.OneRegion.{one_region, same_region}
use Rattle.mapwalk.proofs.alike.touch_alike.Goals as goal

pub returns : goal.returns
returns c v w is_v is_w alike =
    let p = c.args.outlined.now in
    let earlier = c.args.earlier.now in
    let item = c.args.item.now in
    let number = c.in-Some.number in
    let entry = c.in-Some-get.entry.now in
    let lookup = c.in-Some-get.ensures.lookup in
    let there : slice_get c.regions.result.now number ≡ Some entry = slice_get-get_or c.regions.result.now
    number entry lookup.3.0 ∙ ap Some (sym lookup.1) in
    let r = entry.region.now in
    let agree : AgreeWhereDeciding r item.loops.values.items earlier.loops.values.items =
    subst (λ (xs : List ℕ). AgreeWhereDeciding r xs earlier.loops.values.items) c.deref.ensures
    (subst (λ (ys : List ℕ). AgreeWhereDeciding r c.deref.result.now ys) c.deref-2.ensures
    (c.agree_where_deciding.ensures.agree alike)) in
    one_region (lengths_of p) c.regions.result.now (entries_of p) earlier item number entry v w c.regions.ensures
    (same_region earlier.region number c.ne.result c.ne.ensures c.if-ne.false) c.in-Some.is there agree is_v is_w
