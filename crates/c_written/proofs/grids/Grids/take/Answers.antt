use Rattle.std.proofs.Common.{◌∙◌, ◌<◌, ◌^◌, ◌++◌, ap, arith, length, rules, sym}
use Rattle.std.proofs.lemmas.List.{length-map}
use Rattle.std.proofs.lemmas.Result.{on_ok_weaker}
use Rattle.c_grammar.specs.Blocks.{Items}
use Rattle.c_grammar.specs.Grids.{Onward, flat, flat_line, token_on}
use Rattle.c_written.specs.Grids.{columns_of, open_of}
use Rattle.c_terminals.specs.Held.{written_all}
use Rattle.c_written.specs.Indices.{ranges_of}
use Rattle.c_terminals.specs.Seen.{seen, seen_all}
use Rattle.c_written.proofs.Flattening.{flat_directive, flat_left, flat_token, put_goes}
use Rattle.c_written.proofs.Targeting.{few_bare}
use Rattle.c_written.proofs.grids.Grids.take.Goals as goal

pub returns-then-is_directive : goal.returns-then-is_directive
returns-then-is_directive c =
    let old = c.args.self.now in
    let i = seen c.args.token in
    let is = seen_all c.args.rest.now in
    let go : Onward = λ gs rs os k. flat c.args.deep gs rs os k is in
    on_ok_weaker c.put_line.result
    (λ h. ap (λ (js : Items). written_all old.done.items ++ js)
    (flat_directive _ _ _ _ _ i is (sym c.is_directive.ensures ∙ c.if-is_directive.true))
    ∙ put_goes old c.put_line.new.self (flat_line (columns_of old) i i.terminal) h go)
    c.put_line.ensures

pub returns-then-self-gt0 : goal.returns-then-self-gt0
returns-then-self-gt0 c =
    ap (λ (js : Items). written_all c.args.self.now.done.items ++ js)
    (flat_left _ _ _ _ _ _ _ (sym c.is_directive.ensures ∙ c.if-is_directive.false) c.if-self-gt0.true)

pub read-requires-clause-few : goal.read-requires-clause-few
read-requires-clause-few c =
    let small : length c.args.rest.now < 2 ^ 63 = search rules in
    let few = few_bare (seen_all c.args.rest.now) in
    let same = ap (λ (js : Items). length js) c.new.ensures in
    omega (arith, small, few, same, length-map c.args.rest.now seen)

pub returns : goal.returns
returns c =
    let old = c.args.self.now in
    let i = seen c.args.token in
    let is = seen_all c.args.rest.now in
    let go : Onward = λ gs rs os k. flat c.args.deep gs rs os k is in
    let on = token_on c.args.deep (columns_of old) (ranges_of old.ranges) (open_of old) i in
    on_ok_weaker c.read.result
    (λ h. ap (λ (js : Items). written_all old.done.items ++ js)
    (flat_token _ _ _ _ _ i is (sym c.is_directive.ensures ∙ c.if-is_directive.false)
    (omega (arith, c.if-self-gt0.false))
    ∙ ap (λ (js : Items). on js go) (sym c.new.ensures))
    ∙ h go)
    c.read.ensures
