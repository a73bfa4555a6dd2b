use Rattle.std.proofs.Common.{map, Some, sym, ap, ◌∙◌, arith}
use Rattle.std.proofs.lemmas.Option.{slice_get-get_or}
use Rattle.base.specs.declared.tree.Program.{Program}
use Rattle.base.specs.Items.{plan}
use Rattle.outline.specs.Regions.{entries_of}
use Rattle.lower.specs.Image.{region_of}
use Rattle.outline.proofs.Builds.{as_many}
use Rattle.lower.proofs.Images.{code_none, code_some, code_there}
use Rattle.lower.proofs.image.Image.code.Goals as goal

pub index-requires : goal.index-requires
index-requires c =
    let p = c.args.self.now in
    let items = c.items.result.now in
    let item = c.index-items-item.result in
    let many = as_many (entries_of p) items (plan p).items c.items.ensures.shown in
    let at = slice_get-get_or items c.args.item item (omega arith) ∙ ap Some (sym c.index-items-item.is) in
    let codes = c.self.invariant.codes_kept ∙ ap (λ (q : Program). map region_of (entries_of q)) c.self.view_is in
    let there = code_there (entries_of p) items (plan p).items c.self.inside.codes.items c.items.ensures.shown codes
    c.args.item item c.in-Some.number c.requires at c.in-Some.is in
    omega (arith, there, c.self.inside.codes.ok.0)

pub returns-in-None : goal.returns-in-None
returns-in-None c w e =
    let p = c.args.self.now in
    let items = c.items.result.now in
    let item = c.index-items-item.result in
    let many = as_many (entries_of p) items (plan p).items c.items.ensures.shown in
    let at = slice_get-get_or items c.args.item item (omega arith) ∙ ap Some (sym c.index-items-item.is) in
    code_none (entries_of p) items (plan p).items c.items.ensures.shown c.args.item item w c.self.inside.no_code at e
    c.in-None.is c.self.invariant.no_statement

pub returns-in-Some : goal.returns-in-Some
returns-in-Some c w e =
    let p = c.args.self.now in
    let items = c.items.result.now in
    let item = c.index-items-item.result in
    let many = as_many (entries_of p) items (plan p).items c.items.ensures.shown in
    let at = slice_get-get_or items c.args.item item (omega arith) ∙ ap Some (sym c.index-items-item.is) in
    let codes = c.self.invariant.codes_kept ∙ ap (λ (q : Program). map region_of (entries_of q)) c.self.view_is in
    let there = code_there (entries_of p) items (plan p).items c.self.inside.codes.items c.items.ensures.shown codes
    c.args.item item c.in-Some.number c.requires at c.in-Some.is in
    let x = c.index.result.now in
    code_some (entries_of p) items (plan p).items c.self.inside.codes.items c.items.ensures.shown codes c.args.item item w
    c.in-Some.number x at e c.in-Some.is
    (slice_get-get_or c.self.inside.codes.items c.in-Some.number x there ∙ ap Some (sym c.index.ensures))
