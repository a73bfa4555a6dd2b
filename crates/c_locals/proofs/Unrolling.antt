-- What stands for a loop, with its numbers written out.
use Rattle.std.proofs.Common.{◌≡◌, ◌∙◌, ℕ, true, cond, Option, Some, None, drop, take, refl, sym, ap, []}
use Rattle.std.specs.Prelude.{◌&&◌, Bool}
use Rattle.c_grammar.specs.Lexeme.{For}
use Rattle.c_grammar.specs.Terminal.{Terminal, Fixed, same}
use Rattle.c_grammar.specs.Texts.{Item}
use Rattle.c_grammar.specs.Blocks.{Items}
use Rattle.c_grammar.specs.Triangles.{Loop, len, loop_in}
use Rattle.c_grammar.specs.Locals.{State, body_len, body_put, has_array, loop_put, max_ahead, unrolled_at}
use Rattle.c_locals.specs.Loops.{turn_numbers, unrolled_body, unrolled_loop}

body_same : (s : State) (i : Item Terminal) (l : Loop) (is : Items) (o : Option ℕ) → unrolled_body s i l is o ≡ body_put s i l is o
unfolding turn_numbers
body_same s i l is None = refl
body_same s i l is (Some n) = refl

loop_same : (s : State) (i : Item Terminal) (is : Items) (o : Option Loop) → unrolled_loop s i is o ≡ loop_put s i is o
loop_same s i is None = refl
loop_same s i is (Some l) = (let js : Items = drop (len l) is in body_same s i l js (body_len 0 0 js))

pub at_for : (s : State) (i : Item Terminal) (is js : Items) → same (Fixed For) i.terminal ≡ true → has_array s.blocks ≡ true →
    js ≡ take max_ahead is → unrolled_loop s i js (loop_in [] js) ≡ unrolled_at s i is
at_for s i is js e f g =
    loop_same s i js (loop_in [] js)
    ∙ ap (λ (ks : Items). loop_put s i ks (loop_in [] ks)) g
    ∙ sym (ap (λ (b : Bool). cond (b && has_array s.blocks) (loop_put s i (take max_ahead is) (loop_in [] (take max_ahead is))) None) e
    ∙ ap (λ (b : Bool). cond b (loop_put s i (take max_ahead is) (loop_in [] (take max_ahead is))) None) f)
