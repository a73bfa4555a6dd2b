use Rattle.std.proofs.Common.{◌∙◌, arith, refl}
use Rattle.std.proofs.KnownBytes.{Appends-nil}
use Rattle.outline.specs.Regions.{entries_of}
use Rattle.report.proofs.Lines.{line_at, wrote_next, wrote_all}
use Rattle.report.proofs.listing.list_text.Goals as goal

pub items-init : goal.items-init
items-init g c = Appends-nil (g.W.Write.contents c.args.out.now)

pub items-preserved : goal.items-preserved
items-preserved g c =
    wrote_next (entries_of c.args.outlined.now) c.program-program.result.now _ _ _ c.items-item-items.result.now c.items.number c.item-item.result _
    (omega arith) c.item-item.is c.items.invariant c.in_ok-write_all.ensures.bytes
    (c.as_bytes.ensures.value ∙ c.in_ok-line.ensures
    ∙ line_at (entries_of c.args.outlined.now) _ c.program-program.result.now c.items.number _ c.item-item.result
    c.depth_of-depth.ensures c.regions.ensures)

pub returns : goal.returns
returns g c =
    wrote_all (entries_of c.args.outlined.now) c.args.outlined.now c.program-program.result.now _ _ c.items-item-items.result.now c.items.number
    (omega arith) c.program-program.ensures refl c.items-item-items.ensures.shown c.items.invariant
