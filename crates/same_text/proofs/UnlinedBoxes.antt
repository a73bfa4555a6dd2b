-- Boxed scalars are named without a look at the lines of the tokens.
use Rattle.std.proofs.Common.{◌≡◌, ◌∙◌, ℕ, Bool, true, false, cond, List, [], ◌∷◌, ◌++◌, refl, ap}
use Rattle.std.specs.Prelude.{◌&&◌, ◌==◌, not}
use Rattle.c_tokens.specs.declared.kind.Sign.TheVariants as sign
use Rattle.c_grammar.specs.Lexeme.{Lexeme, Placed, Uint64}
use Rattle.c_grammar.specs.Terminal.{Terminal, Fixed, Mark, Name, Num, Line, Unknown, Unworked, End, same}
use Rattle.c_grammar.specs.Texts.{Item}
use Rattle.c_grammar.specs.Blocks.{Items, bare, is_directive}
use Rattle.c_grammar.specs.Allocations.{begins_main}
use Rattle.c_grammar.specs.Boxes.{Declared, Found, Local, NoName, Other, all_listed, announced, at_begin, before_main, boxed, boxed_item, boxed_lines, boxed_tokens, boxes_of, clauses_for, declared_at, declared_name, ends_name, found, listed, listed_on, named_before, nothing_found, only, sectioned, to_clause, to_clauses, with_declared}
use Rattle.c_grammar.specs.Constants.{Names, depth_behind, is_among, is_mark, with_tokens}
use Rattle.c_grammar.specs.Expressions.{placed_of}
use Rattle.c_grammar.specs.Lines.{is_omp}
use Rattle.c_grammar.specs.Presence.{before_end, is_target, target_column, uses}
use Rattle.same_text.specs.Laws.{unlined}
use Rattle.same_text.proofs.Unlined.{AreUnlined, all_unlined, bare_unlined, either, one}
use Rattle.same_text.proofs.UnlinedAllocations.{main_same}
use Rattle.same_text.proofs.UnlinedPresence.{line_unlined, uses_unlined}

-- ---- which scalars are boxed

pub listed_unlined : (is : Items) (xs : Names) → all_listed (all_unlined is) xs ≡ all_listed is xs
listed_unlined [] xs = refl
listed_unlined (i ∷ is) xs = listed_unlined is (listed_on i.terminal xs)

ends_unlined : (is : Items) → ends_name (all_unlined is) ≡ ends_name is
ends_unlined [] = refl
ends_unlined (i ∷ is) = refl

name_unlined : (may : Bool) (t : Terminal) (is : Items) → declared_name may t (all_unlined is) ≡ declared_name may t is
name_unlined may (Name x) is = ap (λ (b : Bool). cond (may && b) (Local x) (Other x)) (ends_unlined is)
name_unlined may (Line ts) is = refl
name_unlined may (Fixed w) is = refl
name_unlined may (Mark s) is = refl
name_unlined may (Num n) is = refl
name_unlined may Unknown is = refl
name_unlined may Unworked is = refl
name_unlined may End is = refl

declared_unlined : (d : ℕ) (b : Bool) (i : Item Terminal) (is : Items) →
    declared_at d b (unlined i) (all_unlined is) ≡ declared_at d b i is
declared_unlined d b i [] = refl
declared_unlined d b i (x ∷ is) = go (same (Fixed Uint64) i.terminal)
  where
    go : (t : Bool) → cond t (declared_name (not (d == 0) && not b) x.terminal (all_unlined is)) NoName
        ≡ cond t (declared_name (not (d == 0) && not b) x.terminal is) NoName
    go true = name_unlined (not (d == 0) && not b) x.terminal is
    go false = refl

found_unlined : (is : Items) (d : ℕ) (b : Bool) (f : Found) → found d b f (all_unlined is) ≡ found d b f is
found_unlined [] d b f = refl
found_unlined (i ∷ is) d b f =
    ap (λ (x : Declared). found (depth_behind i.terminal d) (is_mark sign.OpenParen i) (with_declared x f) (all_unlined is))
    (declared_unlined d b i is)
    ∙ found_unlined is (depth_behind i.terminal d) (is_mark sign.OpenParen i) (with_declared (declared_at d b i is) f)

pub boxes_unlined : (is : Items) → boxes_of (all_unlined is) ≡ boxes_of is
boxes_unlined is =
    ap (λ (js : Items). only (found 0 false nothing_found js) (all_listed (all_unlined is) [])) (bare_unlined is)
    ∙ ap (λ (f : Found). only f (all_listed (all_unlined is) [])) (found_unlined (bare is) 0 false nothing_found)
    ∙ ap (only (found 0 false nothing_found (bare is))) (listed_unlined is [])

-- ---- their sections, and what a target uses

to_unlined : (names : Names) (column : ℕ) (taken : Names) (is : Items) →
    to_clauses names column taken (all_unlined is) ≡ to_clauses names column taken is
to_unlined [] column taken is = refl
to_unlined (x ∷ xs) column taken is =
    ap (λ (b : Bool). cond (b && not (is_among taken x)) (to_clause column x) [] ++ to_clauses xs column taken (all_unlined is))
    (uses_unlined x is 0)
    ∙ ap (λ (ps : List Placed). cond (uses x 0 is && not (is_among taken x)) (to_clause column x) [] ++ ps)
    (to_unlined xs column taken is)

clauses_unlined : (names : Names) (ts : List Lexeme) (is : Items) (ps : List Placed) →
    clauses_for names ts (all_unlined is) ps ≡ clauses_for names ts is ps
clauses_unlined names ts is ps = go (is_target ts)
  where
    go : (b : Bool) → cond b (to_clauses names (target_column ps) (listed at_begin ts []) (all_unlined is)) []
        ≡ cond b (to_clauses names (target_column ps) (listed at_begin ts []) is) []
    go true = to_unlined names (target_column ps) (listed at_begin ts []) is
    go false = refl

item_unlined : (names : Names) (i : Item Terminal) (t : Terminal) (is : Items) →
    boxed_item names (unlined i) t (all_unlined is) ≡ unlined (boxed_item names i t is)
item_unlined names i (Line ts) is =
    let ps : List Placed = placed_of ts i.columns in
    ap (λ (new : List Placed). cond (is_omp ts) (with_tokens (unlined i) ts (before_end new (sectioned names at_begin ps))) (unlined i))
    (clauses_unlined names ts is ps)
    ∙ line_unlined i ts (boxed_tokens names ts is ps) (is_omp ts)
item_unlined names i (Fixed w) is = refl
item_unlined names i (Mark s) is = refl
item_unlined names i (Name x) is = refl
item_unlined names i (Num n) is = refl
item_unlined names i Unknown is = refl
item_unlined names i Unworked is = refl
item_unlined names i End is = refl

lines_unlined : (names : Names) (is : Items) → AreUnlined (boxed_lines names (all_unlined is)) (boxed_lines names is)
lines_unlined names [] = refl
lines_unlined names (i ∷ is) =
    ap (λ (js : Items). boxed_item names (unlined i) i.terminal js ∷ boxed_lines names (all_unlined is)) (bare_unlined is)
    ∙ ap (λ (j : Item Terminal). j ∷ boxed_lines names (all_unlined is)) (item_unlined names i i.terminal (bare is))
    ∙ ap (λ (js : Items). unlined (boxed_item names i i.terminal (bare is)) ∷ js) (lines_unlined names is)

pub boxed_unlined : (is : Items) → AreUnlined (boxed (all_unlined is)) (boxed is)
boxed_unlined is =
    ap (λ (names : Names). boxed_lines names (all_unlined is)) (boxes_unlined is) ∙ lines_unlined (boxes_of is) is

-- ---- the line before main

named_unlined : (names : Names) (i : Item Terminal) (is : Items) →
    AreUnlined (named_before names (unlined i ∷ all_unlined is)) (named_before names (i ∷ is))
named_unlined [] i is = refl
named_unlined (x ∷ xs) i is = refl

first_unlined : (names : Names) (is : Items) → AreUnlined (before_main names (all_unlined is)) (before_main names is)
first_unlined names [] = refl
first_unlined names (i ∷ is) =
    either (begins_main i (bare is) && not (is_directive i.terminal))
    (begins_main (unlined i) (bare (all_unlined is)) && not (is_directive i.terminal)) _ _ _ _
    (ap (λ (b : Bool). b && not (is_directive i.terminal))
    (ap (begins_main (unlined i)) (bare_unlined is) ∙ main_same i (bare is)))
    (named_unlined names i is) (one i _ _ (first_unlined names is))

pub announced_unlined : (is : Items) → AreUnlined (announced (all_unlined is)) (announced is)
announced_unlined is =
    ap (λ (names : Names). before_main names (all_unlined is)) (boxes_unlined is) ∙ first_unlined (boxes_of is) is
