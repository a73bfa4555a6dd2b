-- The machine and the reader at what is assigned.
use Rattle.std.proofs.Common.{◌≡◌, ℕ, Bool, true, false, List, ◌∷◌, ◌++◌, Some, refl, sym, ap, ◌∙◌, arith}
use Rattle.c_tokens.specs.declared.kind.Sign.TheVariants as sign
use Rattle.base.specs.declared.tree.Expr.{Expr}
use Rattle.base.specs.declared.tree.Source.{Source as Assigned}
use Rattle.base.specs.declared.tree.Source.TheVariants as from
use Rattle.base.specs.declared.fault.ReadCode.TheVariants.{Unexpected, HostOnly}
use Rattle.c_grammar.specs.Lexeme.{Read}
use Rattle.c_grammar.specs.Terminal.{Terminal, Fixed, Mark, same}
use Rattle.c_grammar.specs.Texts.{Item}
use Rattle.c_grammar.specs.Machine.{run as machine_run}
use Rattle.c_grammar.specs.Grammar.{Input, Value as ValueOf, source}
use Rattle.c_grammar.specs.Rules.{Context, breaks, enter, inside, out, rule_here, sort_of}
use Rattle.c_grammar.specs.Program.{Stack, Value, Atom, Tail, m, advance, place_code, first_broken}
use Rattle.c_expressions.specs.declared.cursor.Cursor.{Cursor}
use Rattle.c_expressions.specs.declared.scope.Scope.{Scope}
use Rattle.c_expressions.specs.Means.{Items}
use Rattle.c_expressions.specs.Cursor.{items, first_item, behind}
use Rattle.c_expressions.specs.Reading.{run, fault_at, misfit_at, kinds}
use Rattle.c_expressions.specs.Scopes.{context_of, names_of}
use Rattle.c_expressions.specs.Trees.{IsTermRead}
use Rattle.c_expressions.proofs.Going.{put, put_is, stop_want, go_plain, went}
use Rattle.c_expressions.proofs.Terms.{same_run}
use Rattle.c_expressions.proofs.Expressions.{first_then, behind_less, one_more, drop_one}
use Rattle.c_statements.specs.Statements.{Env}
use Rattle.c_statements.specs.Simple.{env_of, ending, end_act, IsSourceRead, IsSourceBefore}

-- ---- input

item_reads : (c : Context) (s : Stack) (i : Item Terminal) (is : Items) → inside c ≡ false →
    run c (Value ∷ s) (put i (Fixed Read) ∷ is) ≡ run (out c) (m sign.OpenParen ∷ m sign.CloseParen ∷ s) is
unfolding run machine_run advance first_broken breaks enter
item_reads c s i is h = rw h refl

item_host_reads : (c : Context) (s : Stack) (i : Item Terminal) (is : Items) → inside c ≡ true →
    run c (Value ∷ s) (put i (Fixed Read) ∷ is) ≡ Some (fault_at i HostOnly)
unfolding run machine_run advance first_broken breaks
item_host_reads c s i is h = rw h refl

pub go_reads : (sc : Scope) (s : Stack) (t t' : Cursor) → (first_item t).terminal ≡
    Fixed Read → inside (context_of sc 0 0) ≡ false → behind t ≡ items t' →
    run (context_of sc 0 0) (Value ∷ s) (items t) ≡ run (context_of sc 0 0)
    (m sign.OpenParen ∷ m sign.CloseParen ∷ s) (items t')
go_reads sc s t t' e h b =
    ap (λ (i : Item Terminal). run (context_of sc 0 0) (Value ∷ s) (i ∷ behind t))
    (put_is (first_item t) (Fixed Read) e) ∙ item_reads (context_of sc 0 0) s (first_item t) (behind t) h
    ∙ ap (run (context_of sc 0 0) (m sign.OpenParen ∷ m sign.CloseParen ∷ s)) b

pub host_reads : (sc : Scope) (s : Stack) (t : Cursor) → (first_item t).terminal ≡
    Fixed Read → inside (context_of sc 0 0) ≡ true → run (context_of sc 0 0) (Value ∷ s) (items t) ≡
    Some (fault_at (first_item t) HostOnly)
host_reads sc s t e h = ap (λ (i : Item Terminal). run (context_of sc 0 0) (Value ∷ s) (i ∷ behind t))
    (put_is (first_item t) (Fixed Read) e) ∙ item_host_reads (context_of sc 0 0) s (first_item t) (behind t) h

pub read_input : (env : Env) (t0 t1 t2 t3 : Cursor) → (first_item t0).terminal ≡ Fixed Read → behind t0 ≡ items t1 →
    (first_item t1).terminal ≡ Mark sign.OpenParen → behind t1 ≡ items t2 → (first_item t2).terminal ≡
    Mark sign.CloseParen → behind t2 ≡ items t3 → IsSourceRead env (items t0) (items t3) from.Read
read_input env t0 t1 t2 t3 h0 b0 h1 b1 h2 b2 = record {
  text = Input;
  tokens = first_then (Fixed Read) t0 t1 h0 b0 ∙ ap (λ (ts : List Terminal). Fixed Read ∷ ts)
      (first_then (Mark sign.OpenParen) t1 t2 h1 b1 ∙ ap (λ (ts : List Terminal). Mark sign.OpenParen ∷ ts)
      (first_then (Mark sign.CloseParen) t2 t3 h2 b2));
  rest = one_more 2 (items t0) t2 t3 (one_more 1 (items t0) t1 t2 (drop_one t0 t1 b0) b1) b2;
  ranked = tt;
  fewer = omega (arith, behind_less t0 t1 b0, behind_less t1 t2 b1, behind_less t2 t3 b2);
  means = tt;
}

-- ---- an expression

value_other : (s : Stack) (t : Terminal) → same (Fixed Read) t ≡ false → advance (Value ∷ s) t ≡
    advance (Atom ∷ Tail 9 ∷ s) t
unfolding advance
value_other s t e = rw e refl

pub not_read : (c : Context) (s : Stack) (t : Cursor) → same (Fixed Read) (first_item t).terminal ≡ false →
    run c (Value ∷ s) (items t) ≡ run c (Atom ∷ Tail 9 ∷ s) (items t)
unfolding place_code
not_read c s t e = same_run c (Value ∷ s) (Atom ∷ Tail 9 ∷ s) (first_item t) (behind t)
    (value_other s (first_item t).terminal e) refl

item_ends : (sc : Scope) (k : ℕ) (b : Bool) (s : Stack) (i : Item Terminal) (is : Items) →
    run (context_of sc 0 k) (ending b ∷ s) (put i (Mark sign.Semicolon) ∷ is) ≡
    run (context_of sc 0 0) (ending b ∷ s) (put i (Mark sign.Semicolon) ∷ is)
unfolding run machine_run advance first_broken breaks enter sort_of
item_ends sc k true s i is = refl
item_ends sc k false s i is = refl

ends_at : (sc : Scope) (k : ℕ) (b : Bool) (s : Stack) (t : Cursor) → (first_item t).terminal ≡ Mark sign.Semicolon →
    run (context_of sc 0 k) (ending b ∷ s) (items t) ≡ run (context_of sc 0 0) (ending b ∷ s) (items t)
ends_at sc k b s t e =
    ap (λ (i : Item Terminal). run (context_of sc 0 k) (ending b ∷ s) (i ∷ behind t))
    (put_is (first_item t) (Mark sign.Semicolon) e) ∙ item_ends sc k b s (first_item t) (behind t)
    ∙ ap (λ (i : Item Terminal). run (context_of sc 0 0) (ending b ∷ s) (i ∷ behind t))
    (sym (put_is (first_item t) (Mark sign.Semicolon) e))

-- behind an expression
pub value_ends : (sc : Scope) (k : ℕ) (b : Bool) (s : Stack) (t : Cursor) → (first_item t).terminal ≡
    Mark sign.Semicolon → run (context_of sc 0 k) (ending b ∷ s) (items t) ≡
    run (context_of sc 0 0) (ending b ∷ s) (items t)
value_ends sc k b s t e = ends_at sc k b s t e

pub value_stops : (sc : Scope) (k : ℕ) (b : Bool) (s : Stack) (t : Cursor) →
    same (Mark sign.Semicolon) (first_item t).terminal ≡ false → run (context_of sc 0 k) (ending b ∷ s) (items t) ≡
    Some (misfit_at (Some (rule_here Unexpected)) (first_item t))
value_stops sc k b s t e = stop_want (context_of sc 0 k) s sign.Semicolon (end_act b) t e

pub read_value : (sc : Scope) (before after : Items) (e : Expr) → IsTermRead (names_of sc) before after e →
    IsSourceRead (env_of sc) before after (from.Value e)
read_value sc before after e r = record {
  text = ValueOf r.tree;
  tokens = r.tokens;
  rest = r.rest;
  ranked =
      r.ranked;
  fewer = r.fewer;
  means = r.means;
}

pub read_ended : (env : Env) (before : Items) (t t' : Cursor) (v : Assigned) → IsSourceRead env before (items t) v →
    (first_item t).terminal ≡ Mark sign.Semicolon → behind t ≡ items t' → IsSourceBefore env before (items t') v
read_ended env before t t' v r e b =
    record {
      text = r.text;
      tokens = r.tokens ∙ ap (λ (ts : List Terminal). kinds (source r.text) ++ ts)
          (first_then (Mark sign.Semicolon) t t' e b);
      rest = one_more _ before t t' r.rest b;
      ranked = r.ranked;
      fewer = omega (arith, r.fewer, behind_less t t' b);
      means = r.means;
    }

pub no_end : (c : Context) (b : Bool) (s : Stack) (t : Cursor) →
    same (Mark sign.Semicolon) (first_item t).terminal ≡ false → run c (ending b ∷ s) (items t) ≡
    Some (misfit_at (Some (rule_here Unexpected)) (first_item t))
no_end c b s t e = stop_want c s sign.Semicolon (end_act b) t e

pub was_read : (t : Cursor) → same (Fixed Read) (first_item t).terminal ≡ true → (first_item t).terminal ≡ Fixed Read
was_read t e = went (Fixed Read) t e

-- the semicolon of an assignment
pub go_end : (sc : Scope) (s : Stack) (t t' : Cursor) → (first_item t).terminal ≡ Mark sign.Semicolon → behind t ≡
    items t' → run (context_of sc 0 0) (m sign.Semicolon ∷ s) (items t) ≡ run (context_of sc 0 0) s (items t')
go_end sc s t t' e b = go_plain (context_of sc 0 0) s sign.Semicolon t t'
    (ap (λ (u : Terminal). same (Mark sign.Semicolon) u) e) b
