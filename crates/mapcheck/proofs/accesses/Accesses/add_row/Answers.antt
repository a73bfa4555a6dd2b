use Rattle.std.proofs.Common.{List, sym, subst, take, arith}
use Rattle.std.proofs.lemmas.Option.{slice_get-get_or}
use Rattle.base.specs.Actions.{Action}
use Rattle.mapcheck.specs.Building.{ExtendsBy, row_actions}
use Rattle.mapcheck.proofs.Building.{extends_both, row_end, row_more}
use Rattle.mapcheck.proofs.accesses.Accesses.add_row.Goals as goal

pub maps-preserved : goal.maps-preserved
maps-preserved c =
    let i = c.maps.i in
    let maps = c.args.maps.now in
    let row = c.args.row.now in
    let before = row_actions c.args.part (take i maps) (take i row) in
    subst (λ (xs : List Action). ExtendsBy xs c.args.self.now c.add_part.new.self)
    (sym (row_more c.args.part maps row i _ _ (slice_get-get_or maps i _ (omega arith)) (slice_get-get_or row i _ (omega arith))))
    (extends_both before _ c.args.self.now c.maps.self c.add_part.new.self c.maps.invariant c.in_ok-add_part.ensures)

pub returns : goal.returns
returns c =
    subst (λ (xs : List Action). ExtendsBy xs c.args.self.now c.maps.self)
    (row_end c.args.part c.args.maps.now c.args.row.now c.maps.i (omega arith)) c.maps.invariant
