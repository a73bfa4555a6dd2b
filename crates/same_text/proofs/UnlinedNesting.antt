-- Constructs inside a target are taken together without a look at the lines of the tokens.
use Rattle.std.proofs.Common.{◌≡◌, ℕ, ◌+◌, ◌-◌, Bool, true, false, cond, List, [], ◌∷◌, refl, ap, ◌∙◌}
use Rattle.std.specs.Prelude.{◌&&◌, ◌==◌}
use Rattle.c_tokens.specs.declared.kind.Sign.TheVariants as sign
use Rattle.c_grammar.specs.Lexeme.{For}
use Rattle.c_grammar.specs.Terminal.{Terminal, Fixed, Mark, Name, Num, Line, Unknown, Unworked, End, same}
use Rattle.c_grammar.specs.Texts.{Item}
use Rattle.c_grammar.specs.Blocks.{Items, is_directive}
use Rattle.c_grammar.specs.Changes.{is_mark}
use Rattle.c_grammar.specs.Nesting.{closes_block, has_construct, is_last, is_only, joined, joined_of, joins, last_on, moves, nested, nested_on}
use Rattle.c_grammar.specs.Presence.{goes_on, is_else, opens_part}
use Rattle.same_text.specs.Laws.{unlined}
use Rattle.same_text.proofs.Unlined.{AreUnlined, all_unlined, either, one}
use Rattle.same_text.proofs.UnlinedPresence.{goes_unlined, same_if}

closes_unlined : (is : Items) → closes_block (all_unlined is) ≡ closes_block is
closes_unlined [] = refl
closes_unlined (i ∷ is) = refl

else_unlined : (is : Items) → is_else (all_unlined is) ≡ is_else is
else_unlined [] = refl
else_unlined (i ∷ is) = refl

-- the same where both the question and the answers are
pub asked : (b b' x y x' y' : Bool) → b' ≡ b → x' ≡ x → y' ≡ y → cond b' x' y' ≡ cond b x y
asked b b' x y x' y' e f g = ap (λ (c : Bool). cond c x' y') e ∙ same_if b x y x' y' f g

on_unlined : (d : ℕ) (i : Item Terminal) (is : Items) (go go' : ℕ → Bool) → ((k : ℕ) → go' k ≡ go k) →
    last_on d (unlined i) (all_unlined is) go' ≡ last_on d i is go
on_unlined d i is go go' r =
    same_if (opens_part i) _ _ _ _ (r (d + 1))
    (same_if (is_mark sign.CloseBrace i) _ _ _ _
    (asked (goes_on d is) _ _ _ _ _ (goes_unlined d is) (r (d - 1)) (closes_unlined is))
    (same_if (is_mark sign.CloseParen i) _ _ _ _ (r (d - 1))
    (same_if (is_mark sign.Semicolon i && (d == 0)) _ _ _ _
    (asked (is_else is) _ _ _ _ _ (else_unlined is) (r 0) (closes_unlined is)) (r d))))

last_unlined : (is : Items) (d : ℕ) → is_last d (all_unlined is) ≡ is_last d is
last_unlined [] d = refl
last_unlined (i ∷ is) d =
    same_if (is_directive i.terminal) _ _ _ _ (last_unlined is d)
    (on_unlined d i is (λ k. is_last k is) (λ k. is_last k (all_unlined is)) (last_unlined is))

only_unlined : (is : Items) → is_only (all_unlined is) ≡ is_only is
only_unlined [] = refl
only_unlined (i ∷ is) =
    same_if (is_directive i.terminal) _ _ _ _ (only_unlined is)
    (ap (λ (b : Bool). same (Fixed For) i.terminal && b) (last_unlined is 0))

pub moves_unlined : (t : Terminal) (o : Item Terminal) (is : Items) → moves t (unlined o) (all_unlined is) ≡ moves t o is
moves_unlined t o [] = refl
moves_unlined t o (i ∷ is) =
    ap (λ (b : Bool). is_mark sign.OpenBrace o && (joins t i.terminal && b)) (only_unlined is)

joined_unlined : (i j : Item Terminal) (t u : Terminal) → joined_of (unlined i) (unlined j) t u ≡ unlined (joined_of i j t u)
joined_unlined i j (Line ts) (Line us) = refl
joined_unlined i j (Line ts) (Fixed w) = refl
joined_unlined i j (Line ts) (Mark s) = refl
joined_unlined i j (Line ts) (Name x) = refl
joined_unlined i j (Line ts) (Num n) = refl
joined_unlined i j (Line ts) Unknown = refl
joined_unlined i j (Line ts) Unworked = refl
joined_unlined i j (Line ts) End = refl
joined_unlined i j (Fixed w) u = refl
joined_unlined i j (Mark s) u = refl
joined_unlined i j (Name x) u = refl
joined_unlined i j (Num n) u = refl
joined_unlined i j Unknown u = refl
joined_unlined i j Unworked u = refl
joined_unlined i j End u = refl

nested_on_unlined : (js : Items) (i : Item Terminal) → AreUnlined (nested_on (unlined i) (all_unlined js)) (nested_on i js)
nested_on_unlined [] i = refl
nested_on_unlined (j ∷ js) i =
    either (joins i.terminal j.terminal) _ _ _ _ _ refl
    (ap (λ (k : Item Terminal). nested_on k (all_unlined js)) (joined_unlined i j i.terminal j.terminal)
    ∙ nested_on_unlined js (joined i j))
    (either (moves i.terminal j js) _ _ _ _ _ (moves_unlined i.terminal j js)
    (one j (nested_on i js) _ (nested_on_unlined js i)) (one i (nested_on j js) _ (nested_on_unlined js j)))

pub nested_unlined : (is : Items) → AreUnlined (nested (all_unlined is)) (nested is)
nested_unlined [] = refl
nested_unlined (i ∷ is) = nested_on_unlined is i
