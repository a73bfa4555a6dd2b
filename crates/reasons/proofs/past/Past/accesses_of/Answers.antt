use Rattle.std.proofs.Common.{◌≡◌, List, Some, ap, arith, refl, subst, sym, ◌∙◌}
use Rattle.std.specs.Prelude.{Vec, slice_get}
use Rattle.std.specs.declared.alloc.Global.{Global}
use Rattle.std.proofs.lemmas.Option.{slice_get-get_or}
use Rattle.base.specs.Actions.{stages}
use Rattle.base.specs.Items.{plan}
use Rattle.base.specs.declared.tree.Program.{Program}
use Rattle.outline.specs.Regions.{entries_of}
use Rattle.outline.proofs.Builds.{as_many}
use Rattle.mapwalk.specs.Found.{all_found}
use Rattle.mapwalk.specs.Laws.{actions_of}
use Rattle.mapwalk.specs.declared.rows.Acts.{Acts}
use Rattle.mapwalk.proofs.Prints.{at_inside, found_at}
use Rattle.mapwalk.proofs.Walking.{work_at}
use Rattle.mapcheck.specs.Accesses.{AreAccesses}
use Rattle.mapcheck.specs.Unordered.{AreAccessesOf}
use Rattle.reasons.proofs.Touched.{spelled_accesses}
use Rattle.reasons.proofs.past.Past.accesses_of.Goals as goal

pub returns : goal.returns
returns c =
    let p = c.self.inside.outlined.now in
    let i = c.args.number in
    let rows = c.self.inside.acts.now in
    let item = c.index-items-number.result in
    let row = c.index-self-number.result in
    let known = c.self.invariant.footprints in
    let many = as_many (entries_of p) c.items.result.now (plan p).items c.items.ensures.shown in
    let few = c.self.invariant.few in
    let low = c.if-number-self.false in
    let at = work_at (entries_of p) c.items.result.now (plan p).items i item c.items.ensures.shown
    (omega (arith, many, few, low)) c.index-items-number.is in
    let inside = at_inside (plan p) i at.work (all_found c.self.inside.found.now) i known at.there refl in
    let found = found_at (plan p) (all_found c.self.inside.found.now) i i at.work c.get.result.now known at.there refl inside c.get.ensures in
    let there : slice_get rows i ≡ Some row =
    slice_get-get_or rows i row (omega (arith, low)) ∙ ap (λ (r : Vec Acts Global). Some r) (sym c.index-self-number.is) in
    let accesses = c.in_ok-accesses.accesses in
    let value : c.deref.result.now ≡ row.items =
    c.deref.ensures.value ∙ ap (λ (r : Vec Acts Global). r.items) (sym c.index-self-number.is) in
    subst (λ (q : Program). AreAccessesOf (slice_get (stages (plan q)) i) accesses) c.self.view_is
    (spelled_accesses (plan p) rows i at.work row accesses c.self.invariant.spelled at.there there
    (subst (λ (xs : List Acts). AreAccesses accesses at.work.device (actions_of at.work xs)) value
    (c.in_ok-accesses.ensures (entries_of p) at.work at.is found.touches)))
