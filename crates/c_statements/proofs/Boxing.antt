-- Whether a scalar is boxed is the same for the machine and for the reader.
use Rattle.std.proofs.Common.{◌≡◌, ℕ, Bool, true, false, cond, List, [], ◌∷◌, Option, Some, None, is_some, refl, sym, ap, ◌∙◌}
use Rattle.std.specs.Prelude.{not, ◌&&◌, ◌||◌}
use Rattle.std.specs.Option.{option_map}
use Rattle.std.specs.Str.{bytes_eq}
use Rattle.base.specs.declared.tree.ArrayId.{ArrayId}
use Rattle.base.specs.declared.tree.ScalarId.{ScalarId}
use Rattle.c_grammar.specs.Rules.{Sort, AScalar, ABoxed, inside, is_boxed, is_boxes_name, is_visible, scalar_sort, sort_of}
use Rattle.c_expressions.specs.declared.scope.Meaning.{Meaning}
use Rattle.c_expressions.specs.declared.scope.Scope.{Scope}
use Rattle.c_expressions.specs.Means.{meaning_of}
use Rattle.c_expressions.specs.Scopes.{as_boxes, box_numbers, box_of, boxes_of, context_of, fresh_name, names_of, sort_of_meaning}
use Rattle.c_expressions.proofs.Contexts.{sort_is}
use Rattle.c_statements.specs.Simple.{env_of}
use Rattle.c_statements.specs.Statements.{box_for, scalar_or_box}

named_box : (bs : List (List ℕ × ℕ)) (x : List ℕ) → is_boxes_name bs x ≡ is_some (box_of (as_boxes bs) x)
named_box [] x = refl
named_box (b ∷ bs) x = go (bytes_eq b.0 x) (named_box bs x)
  where
    go : (t : Bool) → is_boxes_name bs x ≡ is_some (box_of (as_boxes bs) x) →
        (t || is_boxes_name bs x) ≡ is_some (cond t (Some (let a : ArrayId = record { 0 = b.1 } in a)) (box_of (as_boxes bs) x))
    go true e = refl
    go false e = e

sorts : (id : ScalarId) (i : Bool) (m : Option Meaning) (o : Option ArrayId) →
    cond (not i && is_some o && not (is_visible (option_map sort_of_meaning m))) ABoxed (AScalar i)
    ≡ sort_of_meaning (scalar_or_box id i (cond (i || is_some m) None o))
sorts id true m o = refl
sorts id false None None = refl
sorts id false None (Some a) = refl
sorts id false (Some m) None = refl
sorts id false (Some m) (Some a) = refl

pub boxed_sort : (sc : Scope) (x : List ℕ) (id : ScalarId) → fresh_name sc.fresh ≡ Some x →
    scalar_sort (context_of sc 0 0) ≡ sort_of_meaning (scalar_or_box id (inside (context_of sc 0 0)) (box_for x (env_of sc)))
boxed_sort sc x id f =
    let i : Bool = inside (context_of sc 0 0) in
    ap (λ (o : Option (List ℕ)). cond (is_boxed (context_of sc 0 0) o) ABoxed (AScalar i)) f
    ∙ ap (λ (b : Bool). cond (not i && b && not (is_visible (sort_of (context_of sc 0 0) x))) ABoxed (AScalar i))
    (named_box (box_numbers sc) x)
    ∙ ap (λ (s : Option Sort). cond (not i && is_some (box_of (boxes_of sc) x) && not (is_visible s)) ABoxed (AScalar i))
    (sym (sort_is sc 0 0 x (meaning_of (names_of sc) x) refl))
    ∙ sorts id i (meaning_of (names_of sc) x) (box_of (boxes_of sc) x)
