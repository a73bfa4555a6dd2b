-- What is written for boxed scalars stands on directive lines alone, and a text without those boxes no scalar.
use Rattle.std.proofs.Common.{◌≡◌, ◌∙◌, Bool, true, false, cond, [], ◌∷◌, refl, sym, ap}
use Rattle.std.specs.Prelude.{◌&&◌, not}
use Rattle.c_grammar.specs.Terminal.{Terminal, Fixed, Mark, Name, Num, Line, Unknown, Unworked, End}
use Rattle.c_grammar.specs.Texts.{Item}
use Rattle.c_grammar.specs.Blocks.{Items, bare, is_directive}
use Rattle.c_grammar.specs.Constants.{Names}
use Rattle.c_grammar.specs.Expressions.{placed_of}
use Rattle.c_grammar.specs.Lines.{is_omp}
use Rattle.c_grammar.specs.Allocations.{begins_main}
use Rattle.c_grammar.specs.Boxes.{all_listed, announced, before_main, boxed, boxed_item, boxed_lines, boxed_tokens, boxes_of, boxing_at, found, listed_on, named_before, nothing_found, only}
use Rattle.c_grammar.proofs.BarePresence.{omp_kept}

-- ---- sections and clauses

item_kept : (names : Names) (i : Item Terminal) (t : Terminal) (is : Items) → i.terminal ≡ t →
    is_directive (boxed_item names i t is).terminal ≡ is_directive i.terminal
item_kept names i (Line ts) is e =
    omp_kept i ts (boxed_tokens names ts is (placed_of ts i.columns)) (is_omp ts) refl (ap is_directive e)
    ∙ sym (ap is_directive e)
item_kept names i (Fixed w) is e = refl
item_kept names i (Mark s) is e = refl
item_kept names i (Name x) is e = refl
item_kept names i (Num n) is e = refl
item_kept names i Unknown is e = refl
item_kept names i Unworked is e = refl
item_kept names i End is e = refl

-- and what is none stays as it is
item_same : (names : Names) (i : Item Terminal) (t : Terminal) (is : Items) → is_directive t ≡ false →
    boxed_item names i t is ≡ i
item_same names i (Line ts) is e = rw e refl
item_same names i (Fixed w) is e = refl
item_same names i (Mark s) is e = refl
item_same names i (Name x) is e = refl
item_same names i (Num n) is e = refl
item_same names i Unknown is e = refl
item_same names i Unworked is e = refl
item_same names i End is e = refl

bare_lines : (names : Names) (is : Items) → bare (boxed_lines names is) ≡ bare is
bare_lines names [] = refl
bare_lines names (i ∷ is) =
    go (is_directive i.terminal) refl (item_kept names i i.terminal (bare is) refl) (bare_lines names is)
  where
    go : (b : Bool) → is_directive i.terminal ≡ b →
        is_directive (boxed_item names i i.terminal (bare is)).terminal ≡ is_directive i.terminal →
        bare (boxed_lines names is) ≡ bare is → bare (boxed_lines names (i ∷ is)) ≡ bare (i ∷ is)
    go true e k ih = rw (k ∙ e) (rw e ih)
    go false e k ih =
        rw (k ∙ e) (rw e
        (ap (λ (j : Item Terminal). j ∷ bare (boxed_lines names is)) (item_same names i i.terminal (bare is) e)
        ∙ ap (λ (js : Items). i ∷ js) ih))

plain_lines : (names : Names) (is : Items) → boxed_lines names (bare is) ≡ bare is
plain_lines names [] = refl
plain_lines names (i ∷ is) = go (is_directive i.terminal) refl (plain_lines names is)
  where
    go : (b : Bool) → is_directive i.terminal ≡ b → boxed_lines names (bare is) ≡ bare is →
        boxed_lines names (cond b (bare is) (i ∷ bare is)) ≡ cond b (bare is) (i ∷ bare is)
    go true e ih = ih
    go false e ih =
        ap (λ (j : Item Terminal). j ∷ boxed_lines names (bare is)) (item_same names i i.terminal (bare (bare is)) e)
        ∙ ap (λ (js : Items). i ∷ js) ih

pub boxed_bare : (is : Items) → boxed (bare is) ≡ bare (boxed is)
boxed_bare is = plain_lines (boxes_of (bare is)) is ∙ sym (bare_lines (boxes_of is) is)

-- ---- the line before main

no_name : (t : Terminal) (xs : Names) → is_directive t ≡ false → listed_on t xs ≡ xs
no_name (Line ts) xs e = rw e refl
no_name (Fixed w) xs e = refl
no_name (Mark s) xs e = refl
no_name (Name x) xs e = refl
no_name (Num n) xs e = refl
no_name Unknown xs e = refl
no_name Unworked xs e = refl
no_name End xs e = refl

none_listed : (is : Items) (xs : Names) → all_listed (bare is) xs ≡ xs
none_listed [] xs = refl
none_listed (i ∷ is) xs = go (is_directive i.terminal) refl (none_listed is xs)
  where
    go : (b : Bool) → is_directive i.terminal ≡ b → all_listed (bare is) xs ≡ xs →
        all_listed (cond b (bare is) (i ∷ bare is)) xs ≡ xs
    go true e ih = ih
    go false e ih = ap (λ (ys : Names). all_listed (bare is) ys) (no_name i.terminal xs e) ∙ ih

-- a text without directive lines boxes no scalar
pub no_boxes : (is : Items) → boxes_of (bare is) ≡ []
no_boxes is = ap (only (found 0 false nothing_found (bare (bare is)))) (none_listed is [])

line_is_one : (i : Item Terminal) (names : Names) → is_directive (boxing_at i names).terminal ≡ true
unfolding is_omp
line_is_one i names = refl

named_bare : (names : Names) (i : Item Terminal) (is : Items) → bare (named_before names (i ∷ is)) ≡ bare (i ∷ is)
named_bare [] i is = refl
named_bare (x ∷ xs) i is = rw (line_is_one i (x ∷ xs)) refl

bare_before : (names : Names) (is : Items) → bare (before_main names is) ≡ bare is
bare_before names [] = refl
bare_before names (i ∷ is) = put (begins_main i (bare is) && not (is_directive i.terminal)) (bare_before names is)
  where
    kept : (b : Bool) → bare (before_main names is) ≡ bare is →
        cond b (bare (before_main names is)) (i ∷ bare (before_main names is)) ≡ cond b (bare is) (i ∷ bare is)
    kept true ih = ih
    kept false ih = ap (λ (js : Items). i ∷ js) ih

    put : (b : Bool) → bare (before_main names is) ≡ bare is →
        bare (cond b (named_before names (i ∷ is)) (i ∷ before_main names is)) ≡ bare (i ∷ is)
    put true ih = named_bare names i is
    put false ih = kept (is_directive i.terminal) ih

-- where no name is boxed, no line is put
none_before : (is : Items) → before_main [] is ≡ is
none_before [] = refl
none_before (i ∷ is) = go (begins_main i (bare is) && not (is_directive i.terminal)) (none_before is)
  where
    go : (b : Bool) → before_main [] is ≡ is → cond b (i ∷ is) (i ∷ before_main [] is) ≡ i ∷ is
    go true ih = refl
    go false ih = ap (λ (js : Items). i ∷ js) ih

pub announced_bare : (is : Items) → announced (bare is) ≡ bare (announced is)
announced_bare is =
    ap (λ (names : Names). before_main names (bare is)) (no_boxes is) ∙ none_before (bare is)
    ∙ sym (bare_before (boxes_of is) is)
