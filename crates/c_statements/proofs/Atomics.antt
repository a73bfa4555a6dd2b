-- Atomic updates: the machine behind their lines, and what was read.
use Rattle.std.proofs.Common.{◌≡◌, ℕ, ◌+◌, true, false, List, ◌∷◌, ◌++◌, length, drop, Some, None, refl, sym, ap, subst, ◌∙◌, arith}
use Rattle.std.proofs.lemmas.Bool.{and_parts}
use Rattle.c_tokens.specs.declared.kind.Sign.TheVariants as sign
use Rattle.base.specs.declared.fault.ReadCode.TheVariants.{Unexpected}
use Rattle.base.specs.declared.tree.Stmt.{Stmt as Statement}
use Rattle.c_grammar.specs.Lexeme.{Lexeme, If}
use Rattle.c_grammar.specs.Lines.{is_atomic, is_omp}
use Rattle.c_grammar.specs.Terminal.{Terminal, Fixed, Mark, Name, Num, Line, Unknown, Unworked, End, same}
use Rattle.c_grammar.specs.Grammar.{Assigned, Marks, StartsIf, Slots, Stmt, Declare, Assign, Store, Repeat, Choose, ChooseElse, Show, Block, Directive, Atomic, AtomicAssign, AtomicIf, OverBlock, OverLoop, IsStmt, stmt, for}
use Rattle.c_grammar.specs.Rules.{Context, rule_here}
use Rattle.c_grammar.specs.Program.{Stack, AfterMark, AfterName, Atom, Body, OrElse, Tail, advance, body, choice, m as wanted, place_code}
use Rattle.c_expressions.specs.declared.cursor.Cursor.{Cursor}
use Rattle.c_expressions.specs.declared.scope.Scope.{Scope}
use Rattle.c_expressions.specs.Means.{Items}
use Rattle.c_expressions.specs.Cursor.{items, first_item, behind}
use Rattle.c_expressions.specs.Reading.{kinds, run, terminals, took, misfit_at}
use Rattle.c_expressions.proofs.Going.{stop}
use Rattle.c_expressions.proofs.Terms.{item_took}
use Rattle.c_expressions.proofs.Expressions.{behind_less, drop_by, drop_one, drops, first_then}
use Rattle.c_statements.specs.Simple.{counted, env_of, is_atomic_line, IsMarkable, IsMarkableRead, IsStmtRead}
use Rattle.c_statements.specs.Statements.{Env, stmt_size, behind as behind_stmt, IsStatement}
use Rattle.c_statements.specs.Updates.{as_update}

-- ---- its line

-- the tokens of the line of an atomic update
pub record IsMarked (t : Terminal) : Type 0 where
  pub line : List Lexeme
  pub is : t ≡ Line line
  pub words : is_omp line ≡ true
  pub atomic : is_atomic line ≡ true

pub marked : (t : Terminal) → is_atomic_line t ≡ true → IsMarked t
marked (Line ts) e = record {
  line = ts;
  is = refl;
  words = (and_parts (is_omp ts) (is_atomic ts) e).0;
  atomic = (and_parts (is_omp ts) (is_atomic ts) e).1;
}
marked (Fixed w) e = absurd cc
marked (Mark x) e = absurd cc
marked (Name x) e = absurd cc
marked (Num n) e = absurd cc
marked Unknown e = absurd cc
marked Unworked e = absurd cc
marked End e = absurd cc

body_marks : (s : Stack) (ts : List Lexeme) → is_omp ts ≡ true → is_atomic ts ≡ true →
    advance (Body ∷ s) (Line ts) ≡ Some (for Marks, AfterMark ∷ Body ∷ s)
unfolding advance
body_marks s ts o a = rw (o, a) refl

pub at_marks : (c : Context) (s : Stack) (t : Cursor) → is_atomic_line (first_item t).terminal ≡ true →
    run c (Body ∷ s) (items t) ≡ took c (for Marks) (AfterMark ∷ Body ∷ s) (items t)
at_marks c s t a =
    let l : IsMarked (first_item t).terminal = marked (first_item t).terminal a in
    item_took c (Body ∷ s) (AfterMark ∷ Body ∷ s) (for Marks) (first_item t) (behind t)
    (ap (advance (Body ∷ s)) l.is ∙ body_marks s l.line l.words l.atomic)

-- ---- what stands behind it

mark_name : (s : Stack) (x : List ℕ) → advance (AfterMark ∷ s) (Name x) ≡ Some (for Assigned, AfterName ∷ s)
unfolding advance
mark_name s x = refl

mark_choice : (s : Stack) → advance (AfterMark ∷ s) (Fixed If) ≡ Some (for StartsIf, choice s)
unfolding advance
mark_choice s = refl

-- a token that may not follow the line
abbrev pub NoMarked : Terminal → Type 0
NoMarked (Fixed w) = same (Fixed If) (Fixed w) ≡ false
NoMarked (Name x) = ⊥
NoMarked _ = Unit {0}

mark_none : (s : Stack) (t : Terminal) → NoMarked t → advance (AfterMark ∷ s) t ≡ None
unfolding advance
mark_none s (Fixed w) h = rw h refl
mark_none s (Mark x) h = refl
mark_none s (Name x) h = absurd h
mark_none s (Num n) h = refl
mark_none s (Line ts) h = refl
mark_none s Unknown h = refl
mark_none s Unworked h = refl
mark_none s End h = refl

pub at_marked_name : (c : Context) (s : Stack) (x : List ℕ) (t : Cursor) → (first_item t).terminal ≡ Name x →
    run c (AfterMark ∷ s) (items t) ≡ took c (for Assigned) (AfterName ∷ s) (items t)
at_marked_name c s x t e = item_took c (AfterMark ∷ s) (AfterName ∷ s) (for Assigned) (first_item t) (behind t)
    (ap (advance (AfterMark ∷ s)) e ∙ mark_name s x)

pub at_marked_choice : (c : Context) (s : Stack) (t : Cursor) → (first_item t).terminal ≡ Fixed If →
    run c (AfterMark ∷ Body ∷ s) (items t) ≡ took c (for StartsIf)
    (wanted sign.OpenParen ∷ Atom ∷ Tail 9 ∷ wanted sign.CloseParen ∷ body (OrElse ∷ Body ∷ s)) (items t)
at_marked_choice c s t e =
    item_took c (AfterMark ∷ Body ∷ s) (choice (Body ∷ s)) (for StartsIf) (first_item t) (behind t)
    (ap (advance (AfterMark ∷ Body ∷ s)) e ∙ mark_choice (Body ∷ s))

pub stop_marked : (c : Context) (s : Stack) (t : Cursor) → NoMarked (first_item t).terminal →
    run c (AfterMark ∷ s) (items t) ≡ Some (misfit_at (Some (rule_here Unexpected)) (first_item t))
unfolding place_code
stop_marked c s t h = stop c (AfterMark ∷ s) (first_item t) (behind t) (mark_none s (first_item t).terminal h) refl

-- ---- what was read

-- an assignment, store or if with the line before it
abbrev marked_text : List Lexeme → Stmt → Stmt
marked_text l (Assign x v) = AtomicAssign l x v
marked_text l (Store x i v) = Atomic l x i v
marked_text l s = AtomicIf l s

marked_slots : (l : List Lexeme) (s : Stmt) → IsMarkable s → stmt (marked_text l s) ≡ (Line l, for Marks) ∷ stmt s
marked_slots l (Assign x v) h = refl
marked_slots l (Store x i v) h = refl
marked_slots l (Declare x v) h = absurd h
marked_slots l (Repeat g b) h = absurd h
marked_slots l (Choose e a) h = refl
marked_slots l (ChooseElse e a b) h = refl
marked_slots l (Show e) h = absurd h
marked_slots l (Block b) h = absurd h
marked_slots l (Directive k) h = absurd h
marked_slots l (Atomic k x i v) h = absurd h
marked_slots l (AtomicAssign k x v) h = absurd h
marked_slots l (AtomicIf k t) h = absurd h
marked_slots l (OverBlock k b) h = absurd h
marked_slots l (OverLoop k g b) h = absurd h

marked_is : (l : List Lexeme) (s : Stmt) → IsMarkable s → is_omp l ≡ true → is_atomic l ≡ true → IsStmt s →
    IsStmt (marked_text l s)
marked_is l (Assign x v) h o a k = (o, a, k)
marked_is l (Store x i v) h o a k = (o, a, k.0, k.1)
marked_is l (Declare x v) h o a k = absurd h
marked_is l (Repeat g b) h o a k = absurd h
marked_is l (Choose e c) h o a k = (o, a, tt, k)
marked_is l (ChooseElse e c b) h o a k = (o, a, tt, k)
marked_is l (Show e) h o a k = absurd h
marked_is l (Block b) h o a k = absurd h
marked_is l (Directive m) h o a k = absurd h
marked_is l (Atomic m x i v) h o a k = absurd h
marked_is l (AtomicAssign m x v) h o a k = absurd h
marked_is l (AtomicIf m t) h o a k = absurd h
marked_is l (OverBlock m b) h o a k = absurd h
marked_is l (OverLoop m g b) h o a k = absurd h

marked_means : (env : Env) (is : Items) (l : List Lexeme) (s : Stmt) (u x : Statement) → IsMarkable s →
    IsStatement env (drop 1 is) s u → x ≡ as_update u → IsStatement env is (marked_text l s) x
marked_means env is l (Assign y v) u x h m e = (u, m, e)
marked_means env is l (Store y i v) u x h m e = (u, m, e)
marked_means env is l (Declare y v) u x h m e = absurd h
marked_means env is l (Repeat g b) u x h m e = absurd h
marked_means env is l (Choose t a) u x h m e = (u, m, e)
marked_means env is l (ChooseElse t a b) u x h m e = (u, m, e)
marked_means env is l (Show t) u x h m e = absurd h
marked_means env is l (Block b) u x h m e = absurd h
marked_means env is l (Directive k) u x h m e = absurd h
marked_means env is l (Atomic k y i v) u x h m e = absurd h
marked_means env is l (AtomicAssign k y v) u x h m e = absurd h
marked_means env is l (AtomicIf k t) u x h m e = absurd h
marked_means env is l (OverBlock k b) u x h m e = absurd h
marked_means env is l (OverLoop k g b) u x h m e = absurd h

marked_behind : (env : Env) (l : List Lexeme) (s : Stmt) → IsMarkable s → behind_stmt s env ≡ behind_stmt (marked_text l s) env
marked_behind env l (Assign x v) h = refl
marked_behind env l (Store x i v) h = refl
marked_behind env l (Declare x v) h = absurd h
marked_behind env l (Repeat g b) h = absurd h
marked_behind env l (Choose e a) h = refl
marked_behind env l (ChooseElse e a b) h = refl
marked_behind env l (Show e) h = absurd h
marked_behind env l (Block b) h = absurd h
marked_behind env l (Directive k) h = absurd h
marked_behind env l (Atomic k x i v) h = absurd h
marked_behind env l (AtomicAssign k x v) h = absurd h
marked_behind env l (AtomicIf k t) h = absurd h
marked_behind env l (OverBlock k b) h = absurd h
marked_behind env l (OverLoop k g b) h = absurd h

pub read_atomic : (old mid new : Scope) (t t1 : Cursor) (after : Items) (u x : Statement) → mid ≡ counted old →
    is_atomic_line (first_item t).terminal ≡ true → behind t ≡ items t1 →
    IsMarkableRead (env_of mid) (env_of new) (items t1) after u → x ≡ as_update u →
    IsStmtRead (env_of old) (env_of new) (items t) after x
read_atomic old mid new t t1 after u x q a b p g =
    let l : IsMarked (first_item t).terminal = marked (first_item t).terminal a in
    let r : IsMarkableRead (env_of old) (env_of new) (items t1) after u =
    subst (λ (sc : Scope). IsMarkableRead (env_of sc) (env_of new) (items t1) after u) q p in
    let w = r.read in
    let named = r.markable in
    let text : Stmt = marked_text l.line w.text in
    let slots : stmt text ≡ (Line l.line, for Marks) ∷ stmt w.text = marked_slots l.line w.text named in
    let size : stmt_size text ≡ 1 + stmt_size w.text =
    ap (λ (xs : Slots). length xs) slots ∙ omega arith in
    record {
      text = text;
      tokens = first_then (Line l.line) t t1 l.is b ∙ ap (λ (ts : List Terminal). Line l.line ∷ ts) w.tokens
          ∙ ap (λ (xs : Slots). kinds xs ++ terminals after) (sym slots);
      rest = drop_by (1 + stmt_size w.text) (stmt_size text) (items t) after (sym size)
          (drops 1 (stmt_size w.text) (items t) (items t1) after (drop_one t t1 b) w.rest);
      is_text = marked_is l.line w.text named l.words l.atomic w.is_text;
      fewer = omega (arith, behind_less t t1 b, w.fewer);
      means = marked_means (env_of old) (items t) l.line w.text u x named
          (subst (λ (is : Items). IsStatement (env_of old) is w.text u) (drop_one t t1 b) w.means) g;
      next_is = w.next_is ∙ marked_behind (env_of old) l.line w.text named;
    }
