use Rattle.std.proofs.Common.{◌++◌, List, ℕ, refl, sym, ap, subst, ◌∙◌}
use Rattle.kernel.specs.Laid.{AreLaid, HaveSame}
use Rattle.kernel.specs.Rows.{Parts}
use Rattle.kernel.proofs.Spreads.{have_same, parts_joined}
use Rattle.kernel.proofs.part.join_parts.Goals as goal

pub lay_rows-requires : goal.lay_rows-requires
lay_rows-requires c =
    let o = c.args.of.now in
    subst (λ (rows : List Parts). HaveSame c.args.front.rows.items rows) (sym c.deref-2.ensures.value)
    (have_same o.region.now o.frame.now o.bounds o.body.now o.is_spread c.spans_are_the_loop.ensures o.inner c.args.bounds
    c.args.spans.0 c.args.spans.1 c.requires.may c.requires.cut c.args.front c.args.back c.requires.front c.requires.back)

pub returns : goal.returns
returns c =
    let o = c.args.of.now in
    parts_joined o.region.now o.frame.now o.bounds o.body.now o.is_spread c.spans_are_the_loop.ensures o.inner c.args.bounds
    c.args.spans.0 c.args.spans.1 c.requires.may c.requires.cut c.args.front c.args.back _ c.requires.front c.requires.back
    (subst (λ (rows : List Parts). AreLaid c.args.front.rows.items rows c.in_ok-lay_rows.field-0.items)
    c.deref-2.ensures.value c.in_ok-lay_rows.ensures) refl
    (c.in_ok-extend_from_slice.ensures.items
    ∙ ap (λ (ys : List ℕ). c.args.front.printed.items ++ ys) c.deref.ensures.value)
