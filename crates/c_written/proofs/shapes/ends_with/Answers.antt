use Rattle.std.proofs.Common.{◌∙◌, sym, arith}
use Rattle.c_terminals.specs.Seen.{seen_terminal}
use Rattle.c_written.specs.Stack.{held}
use Rattle.c_written.proofs.Shaping.{drop_at, drop_none, peek_within, shapes_less, shapes_more, shapes_none, shapes_not}
use Rattle.c_written.proofs.shapes.ends_with.Goals as goal

pub returns-then-not-fits-clause-value : goal.returns-then-not-fits-clause-value
returns-then-not-fits-clause-value c =
    shapes_not c.shapes.left.now _ _ _ _ (omega (arith, c.in-len1-up.len_at_least))
    (drop_at seen_terminal (held c.args.past.now) c.shapes.k c.in-Some.terminal (sym c.peek.ensures ∙ c.in-Some.is))
    (sym c.fits.ensures ∙ c.if-not-fits.true) ∙ c.shapes.invariant.value

pub returns-in-None-clause-value : goal.returns-in-None-clause-value
returns-in-None-clause-value c =
    shapes_none c.shapes.left.now _ (omega (arith, c.in-len1-up.len_at_least))
    (drop_none seen_terminal (held c.args.past.now) c.shapes.k (sym c.peek.ensures ∙ c.in-None.is)) ∙ c.shapes.invariant.value

pub overflow_add-k : goal.overflow_add-k
overflow_add-k c =
    let less = peek_within c.args.past.now.items.items c.shapes.k c.in-Some.terminal (sym c.peek.ensures ∙ c.in-Some.is) in
    omega (arith, less, c.args.past.now.items.ok.0)

pub shapes-preserved : goal.shapes-preserved
shapes-preserved c = record {
  value = shapes_more c.shapes.left.now _ _ _ _ (omega (arith, c.in-len1-up.len_at_least))
      (drop_at seen_terminal (held c.args.past.now) c.shapes.k c.in-Some.terminal (sym c.peek.ensures ∙ c.in-Some.is))
      (sym c.fits.ensures ∙ c.if-not-fits.false) ∙ c.shapes.invariant.value;
  place = shapes_less c.shapes.left.now _ _ (omega (arith, c.in-len1-up.len_at_least)) c.shapes.invariant.place;
}
