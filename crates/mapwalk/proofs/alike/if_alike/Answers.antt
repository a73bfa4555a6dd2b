use Rattle.std.proofs.Common.{◌<◌, length, ◌≡◌, arith}
use Rattle.base.specs.Items.{plan}
use Rattle.outline.specs.Regions.{entries_of}
use Rattle.mapwalk.proofs.OneRegion.{shown_at}
use Rattle.outline.proofs.Builds.{as_many}
use Rattle.mapwalk.proofs.alike.if_alike.Goals as goal

pub bounds-items-number : goal.bounds-items-number
bounds-items-number c =
    let p = c.args.outlined.now in
    let many = as_many (entries_of p) c.items-items.result.now (plan p).items c.items-items.ensures.shown in
    omega (arith, many, c.requires)

pub returns-then-touch_alike : goal.returns-then-touch_alike
returns-then-touch_alike c =
    let p = c.args.outlined.now in
    let entries = entries_of p in
    let items = c.items-items.result.now in
    let works = (plan p).items in
    let earlier = c.in-Some.earlier in
    let number = c.args.number in
    let before : earlier < number = c.if-earlier-number.true in
    let many : length items ≡ length works = as_many entries items works c.items-items.ensures.shown in
    let inside : number < length items = omega (arith, many, c.requires) in
    record {
      before = before;
      alike = λ v w is_v is_w. c.touch_alike.ensures v w
          (shown_at entries items works earlier c.index-items-earlier.result v c.items-items.ensures.shown
          (omega (arith, before, inside)) c.index-items-earlier.is is_v)
          (shown_at entries items works number c.index-items-number.result w c.items-items.ensures.shown inside
          c.index-items-number.is is_w)
          c.if-touch_alike.true;
    }
