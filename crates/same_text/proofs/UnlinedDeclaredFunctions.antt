-- Functions are declared for devices without a look at the lines of the tokens.
use Rattle.std.proofs.Common.{◌≡◌, ℕ, ◌+◌, ◌-◌, Bool, true, false, List, [], ◌∷◌, refl, ap}
use Rattle.std.specs.Prelude.{◌&&◌, ◌==◌, not}
use Rattle.c_grammar.specs.Lexeme.{Uint64}
use Rattle.c_grammar.specs.Terminal.{Terminal, Fixed, same}
use Rattle.c_grammar.specs.Texts.{Item}
use Rattle.c_grammar.specs.Blocks.{Items}
use Rattle.c_grammar.specs.DeclaredFunctions.{begins_part, closes_part, ends_part, has_functions, is_called, undeclared}
use Rattle.c_grammar.specs.Presence.{opens_part}
use Rattle.same_text.specs.Laws.{unlined}
use Rattle.same_text.proofs.Unlined.{AreUnlined, all_unlined, either, one}
use Rattle.same_text.proofs.UnlinedNesting.{asked}
use Rattle.same_text.proofs.UnlinedPresence.{same_if}

called_unlined : (is : Items) → is_called (all_unlined is) ≡ is_called is
called_unlined [] = refl
called_unlined (i ∷ []) = refl
called_unlined (i ∷ j ∷ is) = refl

functions_unlined : (is : Items) (d : ℕ) → has_functions d (all_unlined is) ≡ has_functions d is
functions_unlined [] d = refl
functions_unlined (i ∷ is) d =
    same_if (ends_part i.terminal) _ _ _ _ refl
    (same_if (opens_part i) _ _ _ _ (functions_unlined is (d + 1))
    (same_if (closes_part i) _ _ _ _ (functions_unlined is (d - 1))
    (asked (same (Fixed Uint64) i.terminal && (d == 0) && not (is_called is)) _ _ _ _ _
    (ap (λ (b : Bool). same (Fixed Uint64) i.terminal && (d == 0) && not b) (called_unlined is)) refl (functions_unlined is d))))

pub undeclared_unlined : (is : Items) (inside : Bool) → AreUnlined (undeclared inside (all_unlined is)) (undeclared inside is)
undeclared_unlined [] inside = refl
undeclared_unlined (i ∷ is) inside =
    either (inside && ends_part i.terminal) _ _ _ _ _ refl (undeclared_unlined is false)
    (either (not inside && begins_part i.terminal && has_functions 0 is) _ _ _ _ _
    (ap (λ (b : Bool). not inside && begins_part i.terminal && b) (functions_unlined is 0)) (undeclared_unlined is true)
    (one i (undeclared inside is) _ (undeclared_unlined is inside)))
