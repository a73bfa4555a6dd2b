use Rattle.std.proofs.Common.{arith, refl}
use Rattle.c_expressions.specs.Scopes.{names_of}
use Rattle.c_constructs.proofs.Reading.{reads_maps, reads_depends, reads_updates, reads_nowait, reads_device, reads_amount, reads_schedule}
use Rattle.std.proofs.lemmas.Grind.{common_steps}
use Rattle.std.proofs.lemmas.Result.{err_from_is_err_and}
use Rattle.c_constructs.proofs.clauses.clause.Goals as goal

pub returns-in_ok-map_clause-in-Map-clause-means : goal.returns-in_ok-map_clause-in-Map-clause-means
returns-in_ok-map_clause-in-Map-clause-means g c = rw c.in-Map.is
    (reads_maps g.K.MapKind.seen (names_of c.args.scope.now) c.args.line c.in-Map.map c.args.read.now _
    c.in_ok-map_clause-in-Map.ensures.means refl refl)

pub returns-in_ok-depend_items-in-Depend-clause-means : goal.returns-in_ok-depend_items-in-Depend-clause-means
returns-in_ok-depend_items-in-Depend-clause-means g c = rw c.in-Depend.is (reads_depends g.K.MapKind.seen
    (names_of c.args.scope.now) c.args.line c.in-Depend.depend c.depend_kind-kind.result c.args.read.now _
    c.depend_kind-kind.ensures c.in_ok-depend_items-in-Depend.ensures.means refl refl refl refl)

pub returns-in_ok-update_items-in-Motion-clause-means : goal.returns-in_ok-update_items-in-Motion-clause-means
returns-in_ok-update_items-in-Motion-clause-means g c = rw c.in-Motion.is (reads_updates g.K.MapKind.seen
    (names_of c.args.scope.now) c.args.line c.in-Motion.motion c.update_kind-kind.result c.args.read.now _
    c.update_kind-kind.ensures c.in_ok-update_items-in-Motion.ensures.means refl refl)

pub returns-in-NoWait-clause-means : goal.returns-in-NoWait-clause-means
returns-in-NoWait-clause-means g c = rw c.in-NoWait.is (reads_nowait g.K.MapKind.seen (names_of c.args.scope.now)
    c.args.line c.args.read.now _ refl refl refl refl refl)

pub returns-in_ok-read-in-Device-clause-means : goal.returns-in_ok-read-in-Device-clause-means
returns-in_ok-read-in-Device-clause-means g c = rw c.in-Device.is (reads_device g.K.MapKind.seen
    (names_of c.args.scope.now) c.args.line c.in-Device.device _ c.args.read.now _
    c.in_ok-read-in-Device.ensures.means refl refl refl refl refl)

pub returns-in-Amount-clause-means : goal.returns-in-Amount-clause-means
returns-in-Amount-clause-means g c = rw c.in-Amount.is (reads_amount g.K.MapKind.seen (names_of c.args.scope.now)
    c.args.line _ _ c.args.read.now)

pub returns-in-Schedule-clause-means : goal.returns-in-Schedule-clause-means
returns-in-Schedule-clause-means g c = rw c.in-Schedule.is (reads_schedule g.K.MapKind.seen
    (names_of c.args.scope.now) c.args.line _ _ c.args.read.now)

pub returns-in_err-map_clause-in-Map-clause-told : goal.returns-in_err-map_clause-in-Map-clause-told
returns-in_err-map_clause-in-Map-clause-told g c = λ us.
    let p = err_from_is_err_and c.from_residual.result c.from_residual.ensures.1 in
    rw (p.1, p.2, c.in-Map.is) (c.in_err-map_clause-in-Map.ensures.told us)

pub returns-in_ok-map_clause-in-Map-clause-told : goal.returns-in_ok-map_clause-in-Map-clause-told
returns-in_ok-map_clause-in-Map-clause-told g c = grind (arith, common_steps)
