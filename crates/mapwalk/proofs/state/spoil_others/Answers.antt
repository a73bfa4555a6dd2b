use Rattle.std.proofs.Common.{◌+◌, get_or, sym, ◌∙◌, subst, arith}
use Rattle.std.proofs.lemmas.Bool.{ne_eqb}
use Rattle.std.proofs.lemmas.Option.{slice_get-get_or}
use Rattle.ranges.specs.Cells.{has}
use Rattle.mapwalk.proofs.Spoiling.{AreSpoilt, all_spoilt, one_spoilt, own_kept}
use Rattle.mapwalk.proofs.state.spoil_others.Goals as goal
use Rattle.mapwalk.proofs.state.spoil_others.Goals.{then-other-own, else-other-own}

pub devices-preserved : goal.devices-preserved
devices-preserved c =
    let many = c.devices.invariant.count in
    let same = c.if-other-own.auto.devices in
    record {
      count = same ∙ many;
      spoilt = elim c.if-other-own.branch [
        | then-other-own w ↦
            subst (AreSpoilt c.args.own (c.devices.other + 1) (has c.args.cells.now) c.args.devices.now) (sym w.devices-is)
            (one_spoilt c.args.own c.devices.other (has c.args.cells.now) c.args.devices.now c.devices.devices
            (get_or c.devices.devices c.devices.other w.index-devices-other.result) w.spoil.new.self
            (ne_eqb c.devices.other c.args.own w.if-other-own.true)
            (slice_get-get_or c.devices.devices c.devices.other w.index-devices-other.result (omega (arith, many, c.devices-test.true)))
            (omega (arith, many, c.devices-test.true)) w.spoil.ensures.blocks w.spoil.ensures.marks w.spoil.ensures.lengths
            c.devices.invariant.spoilt)
        | else-other-own w ↦
            subst (AreSpoilt c.args.own (c.devices.other + 1) (has c.args.cells.now) c.args.devices.now) (sym w.devices-is)
            (own_kept c.args.own c.devices.other (has c.args.cells.now) c.args.devices.now c.devices.devices
            w.if-other-own.false c.devices.invariant.spoilt)
      ];
    }

pub returns-clause-marks : goal.returns-clause-marks
returns-clause-marks c = all_spoilt c.args.own c.devices.other (has c.args.cells.now) c.args.devices.now c.devices.devices
    (let e = c.devices.invariant.count in omega (arith, e, c.devices-test.false)) c.devices.invariant.spoilt
