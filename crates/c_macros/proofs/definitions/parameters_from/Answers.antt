use Rattle.std.proofs.Common.{◌∙◌, ℕ, List, ap, sym}
use Rattle.std.specs.Borrow.{Bor}
use Rattle.c_grammar.specs.Constants.{is_among}
use Rattle.c_macros.specs.Macros.{names_of}
use Rattle.c_macros.proofs.Steps.{parameter_goes, parameters_short}
use Rattle.c_macros.proofs.definitions.parameters_from.Goals as goal

pub names-preserved : goal.names-preserved
names-preserved c =
    let among = sym (c.is_among.ensures
    ∙ ap (λ (xs : List (Bor (List ℕ))). is_among (names_of xs) c.in-Name.text.now) c.deref.ensures.value)
    ∙ c.if-is_among.false in
    parameter_goes c.names.rest.now _ _ (names_of c.names.parameters.items) _ c.in-Name.text c.in-len2-up.len_at_least c.in-Name.is
    among (sym c.is_placed_sign.ensures ∙ c.if-is_placed_sign.false)
    (sym c.is_placed_sign-in-len2-up.ensures ∙ c.if-not-is_placed_sign.false) c.in_ok-add_name.ensures
    ∙ c.names.invariant

pub returns : goal.returns
returns c = sym (parameters_short _ c.names.rest.now c.in_default.len_below) ∙ c.names.invariant
