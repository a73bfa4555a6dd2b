-- The head of a function, one token after another.
use Rattle.std.proofs.Common.{◌≡◌, ◌∙◌, ℕ, ◌+◌, List, [], ◌∷◌, ◌++◌, None, refl, ap}
use Rattle.c_grammar.specs.Terminal.{Terminal}
use Rattle.c_grammar.specs.Texts.{Item}
use Rattle.c_grammar.specs.Blocks.{Items}
use Rattle.c_grammar.specs.FunctionHeads.{Declared as Declaring, Head as Heading, Step as Stepping}
use Rattle.c_grammar.specs.FunctionHeads.{behind, parameter_on, parameters}
use Rattle.c_written.specs.declared.heads.Declared.{Declared}
use Rattle.c_written.specs.Functions.{all_declared, seen_declared}

pub parameters_end : (h : Heading) (ps : List Declaring) (k : ℕ) → parameters h ps k [] ≡ None
unfolding parameters
parameters_end h ps k = refl

-- what the next token does
pub parameters_step : (h : Heading) (ps : List Declaring) (k : ℕ) (is js : Items) (i : Item Terminal) (s : Stepping) →
    is ≡ i ∷ js → s ≡ behind h i.terminal →
    parameters h ps k is ≡ parameter_on s ps (k + 1) (λ h ps. parameters h ps (k + 1) js)
unfolding parameters
parameters_step h ps k is js i s e f = rw (e, f) refl

pub declared_more : (ds es : List Declared) (d : Declared) → es ≡ ds ++ d ∷ [] →
    all_declared es ≡ all_declared ds ++ seen_declared d ∷ []
declared_more ds es d e = ap all_declared e ∙ more ds
  where
    more : (xs : List Declared) → all_declared (xs ++ d ∷ []) ≡ all_declared xs ++ seen_declared d ∷ []
    more [] = refl
    more (x ∷ xs) = ap (λ (ys : List Declaring). seen_declared x ∷ ys) (more xs)
