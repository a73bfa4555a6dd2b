use Rattle.std.proofs.Common.{◌≡◌, ◌∙◌, false, sym, true, ap}
use Rattle.std.specs.Prelude.{not}
use Rattle.c_tokens.specs.declared.kind.Sign.TheVariants as sign
use Rattle.c_grammar.specs.Changes.{is_mark}
use Rattle.c_grammar.specs.Grids.{Range, product}
use Rattle.c_written.specs.Indices.{ranges_of}
use Rattle.c_written.specs.Ranges.{seen_range}
use Rattle.c_terminals.specs.Seen.{seen}
use Rattle.c_written.proofs.Subscripts.{product_goes, sum_goes}
use Rattle.c_written.proofs.indices.Sums.next.Goals as goal
use Rattle.c_written.proofs.indices.Sums.next.Goals.{else-not-plus-via-then-not-plus+else-not-is_sign, else-not-plus-via-else-not-plus}

pub returns-then-is_sign : goal.returns-then-is_sign
returns-then-is_sign c k go =
    let s = c.args.self in
    ap (λ (r : Range). go (seen_range s.before) s.minus r)
    (c.product.ensures ∙ ap (product (seen_range s.product)) c.operand-range.ensures)
    ∙ sym (product_goes (ranges_of c.args.ranges.now) (seen_range s.before) s.minus (seen_range s.product) k
    (seen c.args.operator) (seen c.args.operand) go (sym c.is_sign.ensures ∙ c.if-is_sign.true))

pub returns : goal.returns
returns c k go =
    let s = c.args.self in
    let plus = c.is_sign-plus.result in
    let minus : plus ≡ false → is_mark sign.Minus (seen c.args.operator) ≡ true =
    λ e. elim c.else-not-plus.branch [
      | else-not-plus-via-then-not-plus+else-not-is_sign w ↦
          sym w.is_sign-then-not-plus.ensures ∙ w.if-not-is_sign.false
      | else-not-plus-via-else-not-plus w ↦ absurd (let no : false ≡ true = sym e ∙ w.if-not-plus.false in cc)
    ] in
    ap (λ (r : Range). go r (not plus) (seen_range c.operand-range.result)) c.total.ensures
    ∙ ap (go _ (not plus)) c.operand-range.ensures
    ∙ sym (sum_goes (ranges_of c.args.ranges.now) (seen_range s.before) s.minus (seen_range s.product) k
    (seen c.args.operator) (seen c.args.operand) go
    plus (sym c.is_sign.ensures ∙ c.if-is_sign.false) (sym c.is_sign-plus.ensures) minus)
