-- What a sign changes, and tokens of a right side in brackets.
use Rattle.std.proofs.Common.{◌≡◌, ◌∙◌, ℕ, Bool, true, false, cond, [], ◌∷◌, ◌++◌, reverse, Option, Some, None, refl, ap}
use Rattle.c_tokens.specs.declared.kind.Sign.TheVariants as sign
use Rattle.c_grammar.specs.Terminal.{Terminal}
use Rattle.c_grammar.specs.Texts.{Item}
use Rattle.c_grammar.specs.Blocks.{Items}
use Rattle.c_grammar.specs.Changes.{Kind, Onward, State, Where, at_front, by_kind, by_target, changed, in_group, in_state, is_boundary, is_empty, is_mark, is_target, kept, target}
use Rattle.c_written.proofs.Changing.{reversed_again}

target_is : (xs : Items) (b : Bool) → is_target xs ≡ b → target (reverse xs) ≡ cond b (Some xs) None
target_is xs b e =
    ap (λ (ys : Items). cond (is_target ys) (Some ys) None) (reversed_again xs) ∙ ap (λ (c : Bool). cond c (Some xs) None) e

pub kind_front : (i : Item Terminal) (k : Kind) (is : Items) (s : State) (go : Onward) → is_empty s.since ≡ true →
    by_kind i (Some k) is s go ≡ at_front i k is s go
kind_front i k is s go e = rw e refl

pub kind_target : (i : Item Terminal) (k : Kind) (is : Items) (p : Where) (xs : Items) (go : Onward) → is_empty (reverse xs) ≡ false →
    is_target xs ≡ true → by_kind i (Some k) is (in_state p (reverse xs)) go ≡ changed i xs k is (in_state p (reverse xs)) go
kind_target i k is p xs go e h =
    rw e (ap (λ (o : Option Items). by_target i k is (in_state p (reverse xs)) o go) (target_is xs true h))

pub kind_kept : (i : Item Terminal) (k : Kind) (is : Items) (p : Where) (xs : Items) (go : Onward) → is_empty (reverse xs) ≡ false →
    is_target xs ≡ false → by_kind i (Some k) is (in_state p (reverse xs)) go ≡ kept i (in_state p (reverse xs)) go
kind_kept i k is p xs go e h =
    rw e (ap (λ (o : Option Items). by_target i k is (in_state p (reverse xs)) o go) (target_is xs false h))

pub group_plain : (n : ℕ) (i : Item Terminal) (s : State) (go : Onward) → is_mark sign.OpenParen i ≡ false →
    is_mark sign.CloseParen i ≡ false → is_mark sign.Semicolon i ≡ false → is_boundary i.terminal ≡ false →
    in_group n i s go ≡ (i ∷ []) ++ go s 0
group_plain n i s go e f g h = rw (e, f, h, g) refl
