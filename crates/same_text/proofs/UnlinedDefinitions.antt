-- Definitions of constants on a line are read without a look at the lines of the tokens.
use Rattle.std.proofs.Common.{◌≡◌, ℕ, zero, suc, ◌+◌, Bool, true, false, cond, List, [], ◌∷◌, length, drop, Option, Some, None, refl, ap, ◌∙◌}
use Rattle.std.specs.Prelude.{◌&&◌, ◌||◌, codes}
use Rattle.c_tokens.specs.declared.kind.Sign.TheVariants as sign
use Rattle.c_grammar.specs.Lexeme.{Placed}
use Rattle.c_grammar.specs.Terminal.{Terminal, Fixed, Mark, Name, Num, Line, Unknown, Unworked, End, same}
use Rattle.c_grammar.specs.Texts.{Item}
use Rattle.c_grammar.specs.Expressions.{Items, Values, value_of, Nothing, Worked, Number, Fault, expression, as_terminal, as_items, placed_of}
use Rattle.c_grammar.specs.Constants.{Definition, Defines, Misdefines, is_pair, ends_remark, is_remark, defined, has_parameters, definition_in, is_new, new_only, definition}
use Rattle.same_text.specs.Laws.{unlined}
use Rattle.same_text.proofs.Unlined.{all_unlined}
use Rattle.same_text.proofs.UnlinedExpressions.{found_unlined, expression_same}

abbrev pub defined_unlined : Option Definition → Option Definition
defined_unlined None = None
defined_unlined (Some (Defines x n)) = Some (Defines x n)
defined_unlined (Some (Misdefines p)) = Some (Misdefines (unlined p))

items_same : (l : ℕ) (ps : List Placed) → as_items 0 ps ≡ all_unlined (as_items l ps)
items_same l [] = refl
items_same l (p ∷ ps) =
    ap (λ (is : Items). record { terminal = as_terminal p.lexeme; line = 0; column = p.column; columns = [] } ∷ is)
    (items_same l ps)

drop_same : (k : ℕ) (is : Items) → drop k (all_unlined is) ≡ all_unlined (drop k is)
drop_same zero is = refl
drop_same (suc k) [] = refl
drop_same (suc k) (i ∷ is) = drop_same k is

ends_same : (is : Items) → ends_remark (all_unlined is) ≡ ends_remark is
ends_same [] = refl
ends_same (i ∷ []) = refl
ends_same (i ∷ j ∷ []) = refl
ends_same (i ∷ j ∷ k ∷ is) =
    ap (λ (b : Bool). cond (is_pair sign.Star sign.Slash i j) (same End k.terminal) b) (ends_same (j ∷ k ∷ is))

remark_same : (is : Items) → is_remark (all_unlined is) ≡ is_remark is
remark_same [] = refl
remark_same (i ∷ []) = refl
remark_same (i ∷ j ∷ is) =
    ap
    (λ (b : Bool). same End i.terminal || is_pair sign.Slash sign.Slash i j || (is_pair sign.Slash sign.Star i j && b))
    (ends_same is)

given_same : (x : List ℕ) (is : Items) (o : Option Worked) →
    defined x (all_unlined is) (found_unlined o) ≡ defined_unlined (defined x is o)
given_same x is None = refl
given_same x is (Some (Fault k p)) = refl
given_same x is (Some (Number k n)) =
    ap (λ (b : Bool). cond b (Some (Defines x n)) None) (ap is_remark (drop_same k is) ∙ remark_same (drop k is))
    ∙ step (is_remark (drop k is))
  where
    step : (b : Bool) → cond b (Some (Defines x n)) None ≡ defined_unlined (cond b (Some (Defines x n)) None)
    step true = refl
    step false = refl

parameters_same : (c : ℕ) (is : Items) → has_parameters c (all_unlined is) ≡ has_parameters c is
parameters_same c [] = refl
parameters_same c (i ∷ is) = refl

-- behind the word define and a name
named_same : (vs : Values) (x : List ℕ) (c : ℕ) (is : Items) →
    cond (has_parameters c (all_unlined is)) None
    (defined x (all_unlined is) (expression vs true Nothing [] 0 (all_unlined is)))
    ≡ defined_unlined (cond (has_parameters c is) None (defined x is (expression vs true Nothing [] 0 is)))
named_same vs x c is =
    ap
    (λ (b : Bool). cond b None (defined x (all_unlined is) (expression vs true Nothing [] 0 (all_unlined is))))
    (parameters_same c is)
    ∙ step (has_parameters c is)
  where
    step : (b : Bool) → cond b None (defined x (all_unlined is) (expression vs true Nothing [] 0 (all_unlined is)))
        ≡ defined_unlined (cond b None (defined x is (expression vs true Nothing [] 0 is)))
    step true = refl
    step false =
        ap (λ (o : Option Worked). defined x (all_unlined is) o) (expression_same is vs true Nothing [] 0)
        ∙ given_same x is (expression vs true Nothing [] 0 is)

in_or_not : (b : Bool) (o p : Option Definition) → o ≡ defined_unlined p → cond b o None ≡ defined_unlined (cond b p None)
in_or_not true o p e = e
in_or_not false o p e = refl

second_same : (vs : Values) (d : Item Terminal) (t : Terminal) (l c : ℕ) (cs : List ℕ) (is : Items) →
    definition_in vs (unlined d ∷ record { terminal = t; line = 0; column = c; columns = cs } ∷ all_unlined is)
    ≡ defined_unlined (definition_in vs (d ∷ record { terminal = t; line = l; column = c; columns = cs } ∷ is))
second_same vs d (Name x) l c cs is =
    in_or_not (same (Name (codes "define")) d.terminal) _ _ (named_same vs x (c + length x) is)
second_same vs d (Fixed w) l c cs is = in_or_not (same (Name (codes "define")) d.terminal) None None refl
second_same vs d (Mark s) l c cs is = in_or_not (same (Name (codes "define")) d.terminal) None None refl
second_same vs d (Num n) l c cs is = in_or_not (same (Name (codes "define")) d.terminal) None None refl
second_same vs d (Line ts) l c cs is = in_or_not (same (Name (codes "define")) d.terminal) None None refl
second_same vs d Unknown l c cs is = in_or_not (same (Name (codes "define")) d.terminal) None None refl
second_same vs d Unworked l c cs is = in_or_not (same (Name (codes "define")) d.terminal) None None refl
second_same vs d End l c cs is = in_or_not (same (Name (codes "define")) d.terminal) None None refl

in_same : (vs : Values) (is : Items) → definition_in vs (all_unlined is) ≡ defined_unlined (definition_in vs is)
in_same vs [] = refl
in_same vs (d ∷ []) = refl
in_same vs (d ∷ i ∷ is) = second_same vs d i.terminal i.line i.column i.columns is

new_same : (vs : Values) (o : Option Definition) → new_only vs (defined_unlined o) ≡ defined_unlined (new_only vs o)
new_same vs None = refl
new_same vs (Some (Misdefines p)) = refl
new_same vs (Some (Defines x n)) = step (is_new (value_of vs x))
  where
    step : (b : Bool) → cond b (Some (Defines x n)) None ≡ defined_unlined (cond b (Some (Defines x n)) None)
    step true = refl
    step false = refl

pub definition_same : (vs : Values) (i : Item Terminal) (t : Terminal) →
    definition vs (unlined i) t ≡ defined_unlined (definition vs i t)
definition_same vs i (Line ts) =
    ap (λ (is : Items). new_only vs (definition_in vs is)) (items_same i.line (placed_of ts i.columns))
    ∙ ap (new_only vs) (in_same vs (as_items i.line (placed_of ts i.columns)))
    ∙ new_same vs (definition_in vs (as_items i.line (placed_of ts i.columns)))
definition_same vs i (Fixed w) = refl
definition_same vs i (Mark s) = refl
definition_same vs i (Name x) = refl
definition_same vs i (Num n) = refl
definition_same vs i Unknown = refl
definition_same vs i Unworked = refl
definition_same vs i End = refl
