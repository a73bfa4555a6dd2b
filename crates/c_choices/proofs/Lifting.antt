-- A statement with conditional operators, put twice.
use Rattle.std.proofs.Common.{◌≡◌, ◌∙◌, ℕ, zero, suc, ◌-◌, ◌<◌, [], ◌∷◌, ◌++◌, Some, None, Option, refl, sym, ap, append_assoc, arith}
use Rattle.c_tokens.specs.declared.kind.Sign.TheVariants as sign
use Rattle.c_grammar.specs.Lexeme.{If}
use Rattle.c_grammar.specs.Terminal.{Terminal, Fixed, Mark}
use Rattle.c_grammar.specs.Texts.{Item}
use Rattle.c_grammar.specs.Blocks.{Items, at}
use Rattle.c_grammar.specs.Choices.{Parts, all_alone, either_at, lifted, lifted_by, parts, with_first, with_second}
use Rattle.c_choices.specs.Parts.{else_at, if_at}

pub lifted_none : (n : ℕ) (is : Items) → parts is ≡ None → lifted n is ≡ all_alone is
lifted_none zero is e = refl
lifted_none (suc n) is e = ap (λ (o : Option Parts). lifted_by is o (lifted n)) e

pub lifted_some : (n : ℕ) (is : Items) (p : Parts) → 0 < n → parts is ≡ Some p →
    lifted n is ≡ either_at p.mark p.condition (lifted (n - 1) (with_first p)) (lifted (n - 1) (with_second p))
lifted_some zero is p h e = absurd (omega arith)
lifted_some (suc n) is p h e =
    let one : n ≡ suc n - 1 = omega arith in
    ap (λ (o : Option Parts). lifted_by is o (lifted n)) e
    ∙ ap (λ (m : ℕ). either_at p.mark p.condition (lifted m (with_first p)) (lifted m (with_second p))) one

-- its pieces, one behind another
either_is : (i : Item Terminal) (c x y : Items) →
    either_at i c x y ≡ if_at i c ++ (x ++ (else_at i ++ (y ++ at i (Mark sign.CloseBrace) ∷ [])))
either_is i c x y =
    let rest : Items = x ++ (else_at i ++ (y ++ at i (Mark sign.CloseBrace) ∷ [])) in
    ap (λ (js : Items). at i (Fixed If) ∷ at i (Mark sign.OpenParen) ∷ js)
    (sym (append_assoc (all_alone c) (at i (Mark sign.CloseParen) ∷ at i (Mark sign.OpenBrace) ∷ []) rest))

-- what is done behind each of them
pub either_done : (i : Item Terminal) (c x y d d1 d2 d3 d4 d5 : Items) → d1 ≡ d ++ if_at i c → d2 ≡ d1 ++ x →
    d3 ≡ d2 ++ else_at i → d4 ≡ d3 ++ y → d5 ≡ d4 ++ at i (Mark sign.CloseBrace) ∷ [] → d5 ≡ d ++ either_at i c x y
either_done i c x y d d1 d2 d3 d4 d5 e1 e2 e3 e4 e5 =
    let end : Items = at i (Mark sign.CloseBrace) ∷ [] in
    e5 ∙ ap (λ (js : Items). js ++ end) (e4 ∙ ap (λ (js : Items). js ++ y) (e3 ∙ ap (λ (js : Items). js ++ else_at i)
    (e2 ∙ ap (λ (js : Items). js ++ x) e1)))
    ∙ append_assoc (((d ++ if_at i c) ++ x) ++ else_at i) y end
    ∙ append_assoc ((d ++ if_at i c) ++ x) (else_at i) (y ++ end)
    ∙ append_assoc (d ++ if_at i c) x (else_at i ++ (y ++ end))
    ∙ append_assoc d (if_at i c) (x ++ (else_at i ++ (y ++ end)))
    ∙ ap (λ (js : Items). d ++ js) (sym (either_is i c x y))
