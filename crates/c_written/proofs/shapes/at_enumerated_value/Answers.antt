use Rattle.std.proofs.Common.{◌∙◌, sym, ap, drop, List}
use Rattle.std.proofs.lemmas.List.{drop-drop}
use Rattle.c_grammar.specs.Terminal.{Terminal}
use Rattle.c_grammar.specs.Constants.{in_enumeration}
use Rattle.c_written.specs.Past.{past_of}
use Rattle.c_written.proofs.Shaping.{enumerated_is}
use Rattle.c_written.proofs.shapes.at_enumerated_value.Goals as goal

pub returns-then-ends_with : goal.returns-then-ends_with
returns-then-ends_with c =
    let past = past_of c.args.past.now in
    c.in_enumeration.ensures ∙ ap (λ (ts : List Terminal). in_enumeration ts) (sym (drop-drop 2 c.args.behind past))
    ∙ sym (enumerated_is (drop c.args.behind past) (sym c.ends_with.ensures.value ∙ c.if-ends_with.true))
