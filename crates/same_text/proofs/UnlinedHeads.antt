-- The heads of functions are read without a look at the lines of the tokens.
use Rattle.std.proofs.Common.{◌≡◌, ℕ, ◌+◌, ◌-◌, Bool, cond, List, [], ◌∷◌, ◌++◌, drop, Option, Some, None, refl, ap, ap₂, ◌∙◌}
use Rattle.c_tokens.specs.declared.kind.Sign.TheVariants as sign
use Rattle.c_grammar.specs.Lexeme.{Int, Uint64, Void}
use Rattle.c_grammar.specs.Terminal.{Terminal, Fixed, Mark, Name, Num, Line, Unknown, Unworked, End, same}
use Rattle.c_grammar.specs.Texts.{Item}
use Rattle.c_grammar.specs.Blocks.{Items}
use Rattle.c_grammar.specs.Changes.{is_mark}
use Rattle.c_grammar.specs.FunctionHeads.{Declared, Head, Begins, Headed, Parameters, Step, Goes, Adds, Closes, Stops, declares, head_at, headed, headed_by, headed_on, no_parameters, opens_body, parameter_on, parameters, parameters_in, behind, Gives, NoValue, AValue, AStatus}
use Rattle.same_text.specs.Laws.{unlined}
use Rattle.same_text.proofs.Unlined.{all_unlined}
use Rattle.same_text.proofs.UnlinedPassed.{drop_unlined}

-- ---- the head of a function

parameters_same : (is : Items) (h : Head) (ps : List Declared) (k : ℕ) →
    parameters h ps k (all_unlined is) ≡ parameters h ps k is
unfolding parameters
parameters_same [] h ps k = refl
parameters_same (i ∷ is) h ps k = on (behind h i.terminal) (λ h ps. parameters_same is h ps (k + 1))
  where
    go : Head → List Declared → Parameters
    go = λ h ps. parameters h ps (k + 1) is

    go' : Head → List Declared → Parameters
    go' = λ h ps. parameters h ps (k + 1) (all_unlined is)

    on : (s : Step) → ((h : Head) (ps : List Declared) → go' h ps ≡ go h ps) →
        parameter_on s ps (k + 1) go' ≡ parameter_on s ps (k + 1) go
    on (Goes h) ih = ih h ps
    on (Adds x sort) ih = ih Begins (ps ++ declares x sort ∷ [])
    on (Closes x sort) ih = refl
    on Stops ih = refl

none_same : (is : Items) → no_parameters (all_unlined is) ≡ no_parameters is
none_same [] = refl
none_same (i ∷ []) = refl
none_same (i ∷ j ∷ is) = refl

all_same : (o : Option ℕ) (is : Items) → parameters_in o (all_unlined is) ≡ parameters_in o is
all_same (Some k) is = refl
all_same None is = parameters_same is Begins [] 0

brace_same : (is : Items) → opens_body 0 (all_unlined is) ≡ opens_body 0 is
brace_same [] = refl
brace_same (i ∷ is) = refl

opens_same : (k : ℕ) (is : Items) → opens_body k (all_unlined is) ≡ opens_body k is
opens_same k is = ap (opens_body 0) (drop_unlined k is) ∙ brace_same (drop k is)

on_same : (x : List ℕ) (gives : Gives) (is : Items) (o : Parameters) →
    headed_on x gives (all_unlined is) o ≡ headed_on x gives is o
on_same x gives is None = refl
on_same x gives is (Some p) =
    ap (λ (b : Bool). cond b (Some (record { name = x; gives = gives; declared = p.0; len = 3 + p.1 })) None)
    (opens_same p.1 is)

by_same : (t : Terminal) (gives : Gives) (o : Item Terminal) (is : Items) →
    headed_by t gives (unlined o) (all_unlined is) ≡ headed_by t gives o is
by_same (Name x) gives o is =
    ap (λ (h : Option Headed). cond (is_mark sign.OpenParen o) h None)
    (ap (λ (n : Option ℕ). headed_on x gives (all_unlined is) (parameters_in n (all_unlined is))) (none_same is)
    ∙ ap (headed_on x gives (all_unlined is)) (all_same (no_parameters is) is)
    ∙ on_same x gives is (parameters_in (no_parameters is) is))
by_same (Fixed w) gives o is = refl
by_same (Mark s) gives o is = refl
by_same (Num n) gives o is = refl
by_same (Line ts) gives o is = refl
by_same Unknown gives o is = refl
by_same Unworked gives o is = refl
by_same End gives o is = refl

headed_same : (gives : Gives) (is : Items) → headed gives (all_unlined is) ≡ headed gives is
headed_same gives [] = refl
headed_same gives (x ∷ []) = refl
headed_same gives (x ∷ o ∷ is) = by_same x.terminal gives o is

pub head_same : (t : Terminal) (is : Items) → head_at t (all_unlined is) ≡ head_at t is
head_same t is =
    ap₂ (λ (g h : Option Headed). cond (same (Fixed Void) t) g (cond (same (Fixed Uint64) t) h
    (cond (same (Fixed Int) t) (headed AStatus (all_unlined is)) None))) (headed_same NoValue is) (headed_same AValue is)
    ∙ ap (λ (g : Option Headed). cond (same (Fixed Void) t) (headed NoValue is) (cond (same (Fixed Uint64) t) (headed AValue is)
    (cond (same (Fixed Int) t) g None))) (headed_same AStatus is)
