use Rattle.std.proofs.Common.{◌∙◌, sym, ap, drop, List}
use Rattle.std.proofs.lemmas.List.{drop-drop}
use Rattle.c_grammar.specs.Terminal.{Terminal}
use Rattle.c_grammar.specs.Constants.{in_enumeration}
use Rattle.c_written.specs.Past.{past_of}
use Rattle.c_written.proofs.Shaping.{enumeration_more, enumeration_not, enumeration_starts}
use Rattle.c_written.proofs.shapes.in_enumeration.Goals as goal

pub returns-then-not-ends_with : goal.returns-then-not-ends_with
returns-then-not-ends_with c =
    sym (enumeration_not (drop c.constants.k (past_of c.args.past.now)) (sym c.ends_with.ensures.value ∙ c.constants-test.true)
    (sym c.ends_with-in-constants.ensures.value ∙ c.if-not-ends_with.true)) ∙ c.constants.invariant

pub constants-preserved : goal.constants-preserved
constants-preserved c =
    let past = past_of c.args.past.now in
    sym (enumeration_more (drop c.constants.k past) (sym c.ends_with.ensures.value ∙ c.constants-test.true)
    (sym c.ends_with-in-constants.ensures.value ∙ c.if-not-ends_with.false)
    ∙ ap (λ (ts : List Terminal). in_enumeration ts) (drop-drop 4 c.constants.k past)) ∙ c.constants.invariant

pub returns : goal.returns
returns c =
    sym (enumeration_starts (drop c.constants.k (past_of c.args.past.now)) (sym c.ends_with.ensures.value ∙ c.constants-test.false))
    ∙ c.constants.invariant
