-- The machine at a directive that is no atomic update, where a statement may stand.
use Rattle.std.proofs.Common.{◌≡◌, Bool, true, false, List, ◌∷◌, refl}
use Rattle.c_grammar.specs.Grammar.{for}
use Rattle.c_grammar.specs.Lexeme.{Lexeme}
use Rattle.c_grammar.specs.Lines.{is_omp, is_atomic, holds, depth_of}
use Rattle.c_grammar.specs.Machine.{run as machine_run}
use Rattle.c_grammar.specs.Program.{Stack, Body, advance}
use Rattle.c_grammar.specs.Rules.{Context}
use Rattle.c_grammar.specs.Terminal.{Terminal, Fixed, Mark, Name, Num, Line, Unknown, Unworked, End}
use Rattle.c_grammar.specs.Texts.{Item}
use Rattle.c_expressions.specs.declared.cursor.Cursor.{Cursor}
use Rattle.c_expressions.specs.Cursor.{items, first_item, behind}
use Rattle.c_expressions.specs.Means.{Items}
use Rattle.c_expressions.specs.Reading.{run, took, is_directive}
use Rattle.c_expressions.proofs.Going.{put}
use Rattle.c_constructs.specs.LineMeaning.{lexemes_on}
use Rattle.c_constructs.specs.Steps.{act_of, followed}

item_begins : (c : Context) (s : Stack) (i : Item Terminal) (is : Items) (ts : List Lexeme) (h : Bool) →
    is_omp ts ≡ true → is_atomic ts ≡ false → holds ts ≡ h → run c (Body ∷ s) (put i (Line ts) ∷ is) ≡ took c (for (act_of h))
    (followed h (depth_of ts) (Body ∷ s)) (put i (Line ts) ∷ is)
unfolding run took machine_run advance
item_begins c s i is ts true o a e = rw (o, a, e) refl
item_begins c s i is ts false o a e = rw (o, a, e) refl

begins : (c : Context) (s : Stack) (i : Item Terminal) (is : Items) (t : Terminal) → is_directive t ≡ true →
    is_atomic (lexemes_on t) ≡ false → run c (Body ∷ s) (put i t ∷ is) ≡ took c (for (act_of (holds (lexemes_on t))))
    (followed (holds (lexemes_on t)) (depth_of (lexemes_on t)) (Body ∷ s)) (put i t ∷ is)
begins c s i is (Line ts) d a = item_begins c s i is ts (holds ts) d a refl
begins c s i is (Fixed w) d a = absurd cc
begins c s i is (Mark x) d a = absurd cc
begins c s i is (Name x) d a = absurd cc
begins c s i is (Num n) d a = absurd cc
begins c s i is Unknown d a = absurd cc
begins c s i is Unworked d a = absurd cc
begins c s i is End d a = absurd cc

-- the line is taken as one of a directive alone, or of one over a block or loop, which must follow
pub directive_begins : (c : Context) (s : Stack) (t : Cursor) → is_directive (first_item t).terminal ≡ true →
    is_atomic (lexemes_on (first_item t).terminal) ≡ false → run c (Body ∷ s) (items t) ≡ took c (for (act_of (holds (lexemes_on (first_item t).terminal))))
    (followed (holds (lexemes_on (first_item t).terminal)) (depth_of (lexemes_on (first_item t).terminal)) (Body ∷ s))
    (items t)
directive_begins c s t d a = begins c s (first_item t) (behind t) (first_item t).terminal d a
