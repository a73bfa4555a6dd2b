use Rattle.std.proofs.Common.{◌∙◌, ◌++◌, List, ap}
use Rattle.c_terminals.specs.declared.token.Token.{Token}
use Rattle.c_terminals.specs.Seen.{seen_all}
use Rattle.c_arrays.proofs.Lifting.{all_joined}
use Rattle.c_arrays.proofs.arrays.lifted.Goals as goal

pub returns : goal.returns
returns c =
    let read = c.tokens.read in
    all_joined read c.tokens.rest.now _ _ (seen_all c.args.tokens.now) c.in_default.len_below c.tokens.invariant
    (c.in_ok-extend_from_slice.ensures.items ∙ ap (λ (ts : List Token). read.before.items ++ ts) c.deref.ensures.value)
    (c.in_ok-extend_from_slice-2.ensures.items
    ∙ ap (λ (ts : List Token). c.extend_from_slice.new.self.items ++ ts) c.deref-2.ensures.value)
