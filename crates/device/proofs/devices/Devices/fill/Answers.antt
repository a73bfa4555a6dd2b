use Rattle.std.proofs.Common.{◌∙◌, get_or, refl, subst, sym, arith}
use Rattle.std.proofs.lemmas.Option.{same_Some, slice_get-get_or}
use Rattle.base.proofs.Places.{get_set_same}
use Rattle.present.specs.declared.Table.{Table}
use Rattle.device.specs.Opening.{IsFilled}
use Rattle.device.proofs.devices.Devices.fill.Goals as goal

pub returns-clause-same : goal.returns-clause-same
returns-clause-same c =
    let was = slice_get-get_or c.args.self.now.tables c.args.device.number c.index-self-device.result (omega arith) in
    let same = c.fill.ensures.unchanged in
    record {
      after = c.fill.new.table;
      becomes = record {
        before = get_or c.args.self.now.tables c.args.device.number c.index-self-device.result;
        was = was;
        tables = refl;
        kept = record { capacity = same.capacity; fill = same.fill };
      };
      unchanged = same;
    }

pub returns-clause-filled : goal.returns-clause-filled
returns-clause-filled c t is =
    let old = c.args.self.now.tables in
    let d = c.args.device.number in
    let new = c.fill.new.table in
    let here = get_set_same old d new (omega arith) in
    subst (λ (x : Table). IsFilled c.args.kind c.args.unfilled x c.fill.result) (same_Some new t (sym here ∙ is))
    c.fill.ensures.filled
