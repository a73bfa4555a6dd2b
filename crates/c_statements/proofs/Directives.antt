-- The machine at a directive inside a target or under an if.
use Rattle.std.proofs.Common.{◌≡◌, Bool, true, false, List, ◌∷◌, Some, refl}
use Rattle.std.specs.Prelude.{nat_le, ◌&&◌, ◌||◌}
use Rattle.c_grammar.specs.Lexeme.{Lexeme}
use Rattle.c_grammar.specs.Lines.{is_omp, is_atomic, holds}
use Rattle.c_grammar.specs.Terminal.{Terminal, Fixed, Mark, Name, Num, Line, Unknown, Unworked, End}
use Rattle.c_grammar.specs.Texts.{Item}
use Rattle.c_grammar.specs.Machine.{run as machine_run}
use Rattle.c_grammar.specs.Rules.{Context, breaks, inside, under_if, max_statements}
use Rattle.c_grammar.specs.Program.{Stack, Body, advance, first_broken}
use Rattle.c_expressions.specs.declared.cursor.Cursor.{Cursor}
use Rattle.c_expressions.specs.Means.{Items}
use Rattle.c_expressions.specs.Cursor.{items, first_item, behind}
use Rattle.c_expressions.specs.Reading.{run, fault_at, is_directive}
use Rattle.c_expressions.proofs.Going.{put}
use Rattle.c_statements.specs.Blocks.{line_code}
use Rattle.c_statements.specs.Simple.{is_atomic_line}

other : (a b : Bool) → a ≡ false → (a || b) ≡ true → b ≡ true
other true b e k = absurd cc
other false b e k = k

pub apart : (a b : Bool) → a ≡ true → (a && b) ≡ false → b ≡ false
apart true b e k = k
apart false b e k = absurd cc

item_line : (c : Context) (s : Stack) (i : Item Terminal) (is : Items) (ts : List Lexeme) (h many w : Bool) →
    is_omp ts ≡ true → is_atomic ts ≡ false → holds ts ≡ h → nat_le max_statements c.statements ≡ many → inside c ≡ w →
    (inside c || under_if c) ≡ true → run c (Body ∷ s) (put i (Line ts) ∷ is) ≡ Some (fault_at i (line_code many w))
unfolding run machine_run advance first_broken breaks
item_line c s i is ts true true w o a h f e k = rw (o, a, h, f) refl
item_line c s i is ts false true w o a h f e k = rw (o, a, h, f) refl
item_line c s i is ts true false true o a h f e k = rw (o, a, h, f, e) refl
item_line c s i is ts false false true o a h f e k = rw (o, a, h, f, e) refl
item_line c s i is ts true false false o a h f e k = let u : under_if c ≡
    true = other (inside c) (under_if c) e k in rw (o, a, h, f, e, u) refl
item_line c s i is ts false false false o a h f e k = let u : under_if c ≡
    true = other (inside c) (under_if c) e k in rw (o, a, h, f, e, u) refl

line_at : (c : Context) (s : Stack) (i : Item Terminal) (is : Items) (t : Terminal) → is_directive t ≡ true →
    is_atomic_line t ≡ false → (inside c || under_if c) ≡ true → run c (Body ∷ s) (put i t ∷ is) ≡
    Some (fault_at i (line_code (nat_le max_statements c.statements) (inside c)))
line_at c s i is (Line ts) d a k = item_line c s i is ts (holds ts) (nat_le max_statements c.statements) (inside c) d
    (apart (is_omp ts) (is_atomic ts) d a) refl refl refl k
line_at c s i is (Fixed w) d a k = absurd cc
line_at c s i is (Mark x) d a k = absurd cc
line_at c s i is (Name x) d a k = absurd cc
line_at c s i is (Num n) d a k = absurd cc
line_at c s i is Unknown d a k = absurd cc
line_at c s i is Unworked d a k = absurd cc
line_at c s i is End d a k = absurd cc

pub stop_line : (c : Context) (s : Stack) (t : Cursor) → is_directive (first_item t).terminal ≡ true →
    is_atomic_line (first_item t).terminal ≡ false →
    (inside c || under_if c) ≡ true → run c (Body ∷ s) (items t) ≡
    Some (fault_at (first_item t) (line_code (nat_le max_statements c.statements) (inside c)))
stop_line c s t d a k = line_at c s (first_item t) (behind t) (first_item t).terminal d a k
