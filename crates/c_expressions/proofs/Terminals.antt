-- What the tests on terminals say of equal ones.
use Rattle.std.proofs.Common.{◌≡◌, true, refl}
use Rattle.std.proofs.lemmas.Bool.{eq-eqb}
use Rattle.c_tokens.specs.declared.kind.Sign.{Sign}
use Rattle.c_grammar.specs.Lexeme.{Word}
use Rattle.c_grammar.specs.Terminal.{Fixed, Mark, same}

pub same_mark : (x : Sign) → same (Mark x) (Mark x) ≡ true
same_mark x = eq-eqb _ _ refl

pub same_fixed : (x : Word) → same (Fixed x) (Fixed x) ≡ true
same_fixed x = eq-eqb _ _ refl
