-- The type and the name of a loop, by the first tokens of its head.
use Rattle.std.proofs.Common.{◌≡◌, ◌∙◌, ℕ, Bool, true, false, cond, List, [], ◌∷◌, ◌++◌, take, Option, None, refl, sym, ap, append_assoc}
use Rattle.std.specs.Borrow.{Bor}
use Rattle.std.specs.Option.{option_map}
use Rattle.c_grammar.specs.Lexeme.{For}
use Rattle.c_grammar.specs.Terminal.{Terminal, Fixed, same}
use Rattle.c_grammar.specs.Texts.{Item}
use Rattle.c_grammar.specs.Blocks.{Items, bare, is_directive}
use Rattle.c_grammar.specs.Triangles.{Parts}
use Rattle.c_grammar.specs.Descents.{Loop, Plain, State, block_of, head, loop_in, name_in, small_in, small_named, turned_on, upward_in}
use Rattle.c_descents.specs.Loops.{back_of, front_of}
use Rattle.c_descents.specs.State.{seen_next}

small_four : (is : Items) → small_in (take 4 is) ≡ small_in is
small_four [] = refl
small_four (o ∷ []) = refl
small_four (o ∷ t ∷ is) = refl

name_four : (is : Items) → name_in (take 4 is) ≡ name_in is
name_four [] = refl
name_four (o ∷ []) = refl
name_four (o ∷ t ∷ []) = refl
name_four (o ∷ t ∷ x ∷ []) = refl
name_four (o ∷ t ∷ x ∷ e ∷ is) = refl

pub block_small : (is hs : Items) (o : Option (Bor (List ℕ))) → hs ≡ take 4 is → true ≡ small_in hs →
    option_map (λ x. x.now) o ≡ name_in hs → seen_next o ≡ block_of is
block_small is hs o e f g =
    let small : small_in is ≡ true = sym (small_four is) ∙ sym (ap small_in e) ∙ sym f in
    ap small_named (g ∙ ap name_in e ∙ name_four is)
    ∙ sym (ap (λ (b : Bool). cond b (small_named (name_in is)) Plain) small)

pub block_plain : (is hs : Items) → hs ≡ take 4 is → false ≡ small_in hs → seen_next None ≡ block_of is
block_plain is hs e f =
    let plain : small_in is ≡ false = sym (small_four is) ∙ sym (ap small_in e) ∙ sym f in
    sym (ap (λ (b : Bool). cond b (small_named (name_in is)) Plain) plain)

-- ---- what is put, in its parts

pub head_done : (l : Loop) (d d1 d2 : Items) → d1 ≡ d ++ front_of l → d2 ≡ d1 ++ back_of l → d2 ≡ d ++ head l
head_done l d d1 d2 e f =
    let p : Parts = l.parts in
    let b : Items = back_of l in
    f ∙ ap (λ (js : Items). js ++ b) e ∙ append_assoc d (front_of l) b
    ∙ ap (λ (js : Items). d ++ js)
    (append_assoc p.front (l.first ++ p.middle) b ∙ ap (λ (js : Items). p.front ++ js) (append_assoc l.first p.middle b))

pub for_begins : (s : State) (k : ℕ) (i : Item Terminal) (is old : Items) → is_directive i.terminal ≡ false → k ≡ 0 →
    same (Fixed For) i.terminal ≡ true →
    old ++ upward_in s k (i ∷ is)
    ≡ old ++ turned_on s i (bare is) (loop_in s.blocks (bare is)) (λ s k. upward_in s k is)
for_begins s k i is old d z t = rw (d, z, t) refl
