-- Arrays are said to be present without a look at the lines of the tokens.
use Rattle.std.proofs.Common.{◌≡◌, ℕ, ◌+◌, ◌-◌, Bool, true, false, cond, List, [], ◌∷◌, ◌++◌, refl, ap, ◌∙◌}
use Rattle.std.specs.Prelude.{◌&&◌, ◌==◌, not}
use Rattle.c_tokens.specs.declared.kind.Sign.TheVariants as sign
use Rattle.c_grammar.specs.Lexeme.{Lexeme, Placed}
use Rattle.c_grammar.specs.Terminal.{Terminal, Fixed, Mark, Name, Num, Line, Unknown, Unworked, End, same}
use Rattle.c_grammar.specs.Texts.{Item}
use Rattle.c_grammar.specs.Blocks.{Items, bare}
use Rattle.c_grammar.specs.Changes.{is_mark}
use Rattle.c_grammar.specs.Constants.{Names, with_tokens}
use Rattle.c_grammar.specs.Expressions.{placed_of}
use Rattle.c_grammar.specs.Lines.{is_omp}
use Rattle.c_grammar.specs.Presence.{before_end, clauses_for, goes_on, guarded, guarded_item, guarded_tokens, is_declared, is_mapped, is_target, line_clauses, no_clause, opens_part, orders, present_clause, target_column, uses, uses_on}
use Rattle.same_text.specs.Laws.{unlined}
use Rattle.same_text.proofs.Unlined.{AreUnlined, all_unlined, bare_unlined}

pub same_if : (b x y x' y' : Bool) → x' ≡ x → y' ≡ y → cond b x' y' ≡ cond b x y
same_if true x y x' y' e f = e
same_if false x y x' y' e f = f

pub goes_unlined : (d : ℕ) (is : Items) → goes_on d (all_unlined is) ≡ goes_on d is
goes_unlined d [] = refl
goes_unlined d (i ∷ is) = refl

pub on_unlined : (d : ℕ) (i : Item Terminal) (is : Items) (go go' : ℕ → Bool) → ((k : ℕ) → go' k ≡ go k) →
    uses_on d (unlined i) (all_unlined is) go' ≡ uses_on d i is go
on_unlined d i is go go' r =
    same_if (opens_part i) _ _ _ _ (r (d + 1))
    (same_if (is_mark sign.CloseBrace i) _ _ _ _
    (ap (λ (b : Bool). cond b (go' (d - 1)) false) (goes_unlined d is) ∙ same_if (goes_on d is) _ _ _ _ (r (d - 1)) refl)
    (same_if (is_mark sign.CloseParen i) _ _ _ _ (r (d - 1))
    (same_if (is_mark sign.Semicolon i && (d == 0)) _ _ _ _ refl (r d))))

pub declared_unlined : (x : List ℕ) (i : Item Terminal) (is : Items) → is_declared x (unlined i) (all_unlined is) ≡ is_declared x i is
declared_unlined x i [] = refl
declared_unlined x i (j ∷ is) = refl

pub uses_unlined : (x : List ℕ) (is : Items) (d : ℕ) → uses x d (all_unlined is) ≡ uses x d is
uses_unlined x [] d = refl
uses_unlined x (i ∷ is) d =
    ap (λ (b : Bool). cond b false (cond (same (Name x) i.terminal) true rest)) (declared_unlined x i is)
    ∙ same_if (is_declared x i is) _ _ _ _ refl
    (same_if (same (Name x) i.terminal) _ _ _ _ refl
    (on_unlined d i is (λ k. uses x k is) (λ k. uses x k (all_unlined is)) (uses_unlined x is)))
  where
    rest : Bool
    rest = uses_on d (unlined i) (all_unlined is) (λ k. uses x k (all_unlined is))

clauses_unlined : (names : Names) (column : ℕ) (ts : List Lexeme) (is : Items) →
    clauses_for names column ts (all_unlined is) ≡ clauses_for names column ts is
clauses_unlined [] column ts is = refl
clauses_unlined (x ∷ xs) column ts is =
    ap (λ (b : Bool). cond (b && not (is_mapped x 0 false ts)) (present_clause column x) [] ++ clauses_for xs column ts (all_unlined is))
    (uses_unlined x is 0)
    ∙ ap (λ (ps : List Placed). cond (uses x 0 is && not (is_mapped x 0 false ts)) (present_clause column x) [] ++ ps)
    (clauses_unlined xs column ts is)

-- what is put on a line
put_unlined : (names : Names) (column : ℕ) (ts : List Lexeme) (is : Items) →
    line_clauses names column ts (all_unlined is) ≡ line_clauses names column ts is
put_unlined names column [] is = refl
put_unlined names column (p ∷ []) is = refl
put_unlined names column (p ∷ o ∷ []) is = refl
put_unlined names column (p ∷ o ∷ t ∷ ts) is =
    ap (λ (new : List Placed). cond (is_target (p ∷ o ∷ t ∷ ts)) new [] ++ cond (orders names 0 false false ts) (no_clause column) [])
    (clauses_unlined names column (p ∷ o ∷ t ∷ ts) is)

pub line_unlined : (i : Item Terminal) (ts : List Lexeme) (ps : List Placed) (b : Bool) →
    cond b (with_tokens (unlined i) ts ps) (unlined i) ≡ unlined (cond b (with_tokens i ts ps) i)
line_unlined i ts ps true = refl
line_unlined i ts ps false = refl

item_unlined : (names : Names) (i : Item Terminal) (t : Terminal) (is : Items) →
    guarded_item names (unlined i) t (all_unlined is) ≡ unlined (guarded_item names i t is)
item_unlined names i (Line ts) is =
    let ps : List Placed = placed_of ts i.columns in
    ap (λ (new : List Placed). cond (is_omp ts) (with_tokens (unlined i) ts (before_end new ps)) (unlined i))
    (put_unlined names (target_column ps) ts is)
    ∙ line_unlined i ts (guarded_tokens names ts is ps) (is_omp ts)
item_unlined names i (Fixed w) is = refl
item_unlined names i (Mark s) is = refl
item_unlined names i (Name x) is = refl
item_unlined names i (Num n) is = refl
item_unlined names i Unknown is = refl
item_unlined names i Unworked is = refl
item_unlined names i End is = refl

pub guarded_unlined : (names : Names) (is : Items) → AreUnlined (guarded names (all_unlined is)) (guarded names is)
guarded_unlined names [] = refl
guarded_unlined names (i ∷ is) =
    ap (λ (js : Items). guarded_item names (unlined i) i.terminal js ∷ guarded names (all_unlined is)) (bare_unlined is)
    ∙ ap (λ (j : Item Terminal). j ∷ guarded names (all_unlined is)) (item_unlined names i i.terminal (bare is))
    ∙ ap (λ (js : Items). unlined (guarded_item names i i.terminal (bare is)) ∷ js) (guarded_unlined names is)
