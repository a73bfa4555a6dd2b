-- Tokens that are put in, and loops that are found.
use Rattle.std.proofs.Common.{◌≡◌, ◌∙◌, ℕ, true, false, ◌∷◌, ◌++◌, take, Option, None, refl, sym, ap, append_assoc}
use Rattle.c_grammar.specs.Lexeme.{For}
use Rattle.c_grammar.specs.Terminal.{Terminal, Fixed, same}
use Rattle.c_grammar.specs.Texts.{Item}
use Rattle.c_grammar.specs.Blocks.{Items, bare, is_directive}
use Rattle.c_grammar.specs.Triangles.{Loop, Onward, State, between, guard, loop_in, lower, max_head, rectangular_in, turned_on, upper}
use Rattle.c_triangles.specs.Guards.{ending, opening}
use Rattle.c_triangles.specs.Loops.{loop_within}

pub guard_done : (l : Loop) (d d1 d2 d3 d4 d5 : Items) → d1 ≡ d ++ opening l.parts.compares → d2 ≡ d1 ++ lower l →
    d3 ≡ d2 ++ between l → d4 ≡ d3 ++ upper l → d5 ≡ d4 ++ ending l.parts.compares → d5 ≡ d ++ guard l
guard_done l d d1 d2 d3 d4 d5 e1 e2 e3 e4 e5 =
    let a : Items = opening l.parts.compares in
    let x : Items = lower l in
    let y : Items = between l in
    let z : Items = upper l in
    let b : Items = ending l.parts.compares in
    e5 ∙ ap (λ (js : Items). js ++ b) (e4 ∙ ap (λ (js : Items). js ++ z) (e3 ∙ ap (λ (js : Items). js ++ y)
    (e2 ∙ ap (λ (js : Items). js ++ x) e1)))
    ∙ append_assoc (((d ++ a) ++ x) ++ y) z b
    ∙ append_assoc ((d ++ a) ++ x) y (z ++ b)
    ∙ append_assoc (d ++ a) x (y ++ (z ++ b))
    ∙ append_assoc d a (x ++ (y ++ (z ++ b)))

-- what comes of the word for, by the tokens of its head
pub turned : (s : State) (i : Item Terminal) (js hs old : Items) (o : Option Loop) (go : Onward) → hs ≡ take max_head js →
    o ≡ loop_within s.blocks hs → old ++ turned_on s i (loop_in s.blocks js) go ≡ old ++ turned_on s i o go
turned s i js hs old o go e f =
    ap (λ (p : Option Loop). old ++ turned_on s i p go) (sym (f ∙ ap (loop_within s.blocks) e))

pub for_begins : (s : State) (k : ℕ) (i : Item Terminal) (is old : Items) → is_directive i.terminal ≡ false → k ≡ 0 →
    same (Fixed For) i.terminal ≡ true →
    old ++ rectangular_in s k (i ∷ is) ≡ old ++ turned_on s i (loop_in s.blocks (bare is)) (λ s k. rectangular_in s k is)
for_begins s k i is old d z t = rw (d, z, t) refl
