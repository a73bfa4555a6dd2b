-- The nested loops of a target: the machine at them, and what was read.
use Rattle.std.proofs.Common.{◌≡◌, ℕ, zero, suc, ◌+◌, ◌-◌, Bool, true, false, List, [], ◌∷◌, ◌++◌, length, drop, Some, None, Vec, Global, refl, sym, ap, subst, ◌∙◌, arith}
use Rattle.std.specs.Prelude.{◌||◌}
use Rattle.std.specs.Borrow.{Bor}
use Rattle.std.proofs.lemmas.List.{append-nil}
use Rattle.c_tokens.specs.declared.kind.Sign.TheVariants as sign
use Rattle.base.specs.declared.fault.ReadCode.TheVariants.{NoBody}
use Rattle.base.specs.declared.tree.Bounds.{Bounds}
use Rattle.base.specs.declared.tree.Stmt.{Stmt as Statement, Loop as LoopOf}
use Rattle.c_grammar.specs.Lexeme.{For, Uint64}
use Rattle.c_grammar.specs.Terminal.{Terminal, Fixed, Mark, Name, same}
use Rattle.c_grammar.specs.Texts.{Item}
use Rattle.c_grammar.specs.Machine.{run as machine_run}
use Rattle.c_grammar.specs.Grammar.{Head, Opens, Closes, Slots, Starts, Stmt, Stmts, Done, Then, Declare, Assign, Store, Repeat, Choose, ChooseElse, Show, Block, Directive, Atomic, AtomicAssign, AtomicIf, OverBlock, OverLoop, IsLoopNest, IsNest, body_opening, body_closing, deeper, for, head_slots, nest_slots, stmt, stmt_in, stmts, stmts_in}
use Rattle.c_grammar.specs.Rules.{Context, below, breaks, enter, inside, opened, rule_here}
use Rattle.c_grammar.specs.Program.{Stack, Body, Nested, Want, advance, body, first_broken, loop, loop_body, place_code}
use Rattle.c_expressions.specs.declared.changes.Turn.{Turn}
use Rattle.c_expressions.specs.declared.cursor.Cursor.{Cursor}
use Rattle.c_expressions.specs.declared.scope.Meaning.TheVariants as meaning
use Rattle.c_expressions.specs.declared.scope.Scope.{Scope}
use Rattle.c_expressions.specs.Changes.{names_below, turn_name, turn_names}
use Rattle.c_expressions.specs.Cursor.{items, first_item, behind}
use Rattle.c_expressions.specs.Means.{Items}
use Rattle.c_expressions.specs.Reading.{kinds, misfit_at, run, terminals, took}
use Rattle.c_expressions.specs.Scopes.{boxes_of, context_of, frames_of, names_of}
use Rattle.c_expressions.proofs.Expressions.{behind_less, first_then, kinds_append, one_more}
use Rattle.c_expressions.proofs.Going.{put, put_is, put_same, stop_at}
use Rattle.c_statements.specs.Blocks.{turned}
use Rattle.c_statements.specs.Bodies.{IsBodyRead, IsLeft, IsSameBlock, inner_env}
use Rattle.c_statements.specs.Loops.{IsGone, bounds_tokens, with_limit}
use Rattle.c_statements.specs.Simple.{counted, env_of, loops_in}
use Rattle.c_statements.specs.Statements.{Env, in_loop}
use Rattle.c_statements.proofs.Composes.{next_after}
use Rattle.c_statements.proofs.Fronts.{scalars_behind}
use Rattle.c_statements.proofs.Nesting.{back_now, env_inner}
use Rattle.c_statements.proofs.Wholes.{told_body, told_loop}
use Rattle.c_read.specs.Parts.{in_target}
use Rattle.c_read.specs.Read.{AreNestRead, IsNestBodyRead, IsNestRead}

-- ---- how many loops

pub not_deep : (d : ℕ) → d ≡ 0 → 0 ≡ deeper d
not_deep zero e = refl
not_deep (suc d) e = absurd (omega (arith, e))

pub less_deep : (d : ℕ) → (d ≡ 0 → ⊥) → d - 1 ≡ deeper d
less_deep zero h = absurd (h refl)
less_deep (suc d) h = omega arith

one_again : (d : ℕ) → (d ≡ 0 → ⊥) → suc (d - 1) ≡ d
one_again zero h = absurd (h refl)
one_again (suc d) h = omega arith

-- ---- the machine

item_nested : (c : Context) (d : ℕ) (s : Stack) (i : Item Terminal) (is : Items) →
    run c (Nested d ∷ s) (put i (Fixed For) ∷ is) ≡ took c (for Starts) (loop d s) (put i (Fixed For) ∷ is)
unfolding run took machine_run advance first_broken breaks enter
item_nested c d s i is = refl

pub nested_begins : (c : Context) (d : ℕ) (s : Stack) (t : Cursor) → same (Fixed For) (first_item t).terminal ≡ true →
    run c (Nested d ∷ s) (items t) ≡ took c (for Starts) (loop d s) (items t)
nested_begins c d s t e =
    ap (λ (i : Item Terminal). run c (Nested d ∷ s) (i ∷ behind t)) (put_same (Fixed For) (first_item t) e)
    ∙ item_nested c d s (first_item t) (behind t)
    ∙ ap (λ (i : Item Terminal). took c (for Starts) (loop d s) (i ∷ behind t)) (sym (put_same (Fixed For) (first_item t) e))

nested_none : (d : ℕ) (s : Stack) (t : Terminal) → same (Fixed For) t ≡ false → advance (Nested d ∷ s) t ≡ None
unfolding advance
nested_none d s t e = rw e refl

pub stop_nested : (c : Context) (d : ℕ) (s : Stack) (t : Cursor) → same (Fixed For) (first_item t).terminal ≡ false →
    run c (Nested d ∷ s) (items t) ≡ Some (misfit_at (Some (rule_here NoBody)) (first_item t))
unfolding place_code
stop_nested c d s t e =
    stop_at c (Nested d ∷ s) NoBody (first_item t) (behind t) (nested_none d s (first_item t).terminal e) refl

item_close : (c : Context) (s : Stack) (i : Item Terminal) (is : Items) →
    run c (Want (Mark sign.CloseBrace) (for Closes) ∷ s) (put i (Mark sign.CloseBrace) ∷ is) ≡
    run c (Body ∷ s) (put i (Mark sign.CloseBrace) ∷ is)
unfolding run machine_run advance
item_close c s i is = refl

-- the brace that ends the body around a nest is taken as that of any block
pub nest_closes : (c : Context) (s : Stack) (t : Cursor) → (first_item t).terminal ≡ Mark sign.CloseBrace →
    run c (Want (Mark sign.CloseBrace) (for Closes) ∷ s) (items t) ≡ run c (Body ∷ s) (items t)
nest_closes c s t e =
    ap (λ (i : Item Terminal). run c (Want (Mark sign.CloseBrace) (for Closes) ∷ s) (i ∷ behind t))
    (put_is (first_item t) (Mark sign.CloseBrace) e)
    ∙ item_close c s (first_item t) (behind t)
    ∙ ap (λ (i : Item Terminal). run c (Body ∷ s) (i ∷ behind t)) (sym (put_is (first_item t) (Mark sign.CloseBrace) e))

pub body_flat : (d : ℕ) (s : Stack) → d ≡ 0 → loop_body d s ≡ body s
body_flat zero s e = refl
body_flat (suc d) s e = absurd (omega (arith, e))

pub body_deep : (d : ℕ) (s : Stack) → (d ≡ 0 → ⊥) → loop_body d s ≡ Want (Mark sign.OpenBrace) (for Opens) ∷
    Nested (d - 1) ∷ Want (Mark sign.CloseBrace) (for Closes) ∷ s
body_deep zero s h = absurd (h refl)
body_deep (suc d) s h =
    let e : d ≡ suc d - 1 = omega arith in
    ap (λ (k : ℕ). Want (Mark sign.OpenBrace) (for Opens) ∷ Nested k ∷ Want (Mark sign.CloseBrace) (for Closes) ∷ s) e

-- ---- a loop in a loop

stays_inside : (v : Env) → v.inside ≡ true → in_target v ≡ v
stays_inside v e = ap (λ (b : Bool). (let w : Env = record v { inside = b } in w)) (sym e)

pub next_tree : (depth : ℕ) (s0 s1 s2 : Scope) (before after : Items) (x : Statement) → s1 ≡ counted s0 →
    inside (context_of s0 0 0) ≡ true → inside (context_of s2 0 0) ≡ inside (context_of s1 0 0) →
    IsNestRead depth (in_target (env_of s1)) (in_target (env_of s2)) before after x →
    IsNestRead depth (env_of s0) (env_of s2) before after x
next_tree depth s0 s1 s2 before after x e h i r =
    let same : env_of s1 ≡ env_of s0 = ap env_of e in
    let now : in_target (env_of s2) ≡ env_of s2 =
    stays_inside (env_of s2) (i ∙ ap (λ (v : Env). v.inside) same ∙ h) in
    subst (λ (v : Env). IsNestRead depth v (env_of s2) before after x) (ap in_target same ∙ stays_inside (env_of s0) h)
    (subst (λ (v : Env). IsNestRead depth (in_target (env_of s1)) v before after x) now r)

-- with the brace behind it
pub nested_tree : (depth n : ℕ) (env mid : Env) (before : Items) (u u' : Cursor) (x : Statement) (xs : List Statement) →
    xs ≡ x ∷ [] → (first_item u).terminal ≡ Mark sign.CloseBrace → behind u ≡ items u' → n ≡ mid.scalars →
    IsNestRead depth env mid before (items u) x → AreNestRead depth env n before (items u') xs
nested_tree depth n env mid before u u' x xs one e b h q =
    let r = q.read in
    let alone : stmts (Then r.text Done) ≡ stmt r.text = append-nil (stmt r.text) in
    subst (λ (ys : List Statement). AreNestRead depth env n before (items u') ys) (sym one)
    (record {
      read = record {
        texts = Then r.text Done;
        tokens = r.tokens ∙ ap (λ (ts : List Terminal). kinds (stmt r.text) ++ ts) (first_then (Mark sign.CloseBrace) u u' e b)
            ∙ ap (λ (us : Slots). kinds us ++ (Mark sign.CloseBrace ∷ terminals (items u'))) (sym alone);
        rest = one_more (length (stmts (Then r.text Done))) before u u'
            (r.rest ∙ ap (λ (us : Slots). drop (length us) before) (sym alone)) b;
        are_texts = (r.is_text, tt);
        fewer = omega (arith, r.fewer, behind_less u u' b);
        means = (r.means, tt);
        scalars = h ∙ ap (λ (v : Env). v.scalars) r.next_is ∙ scalars_behind (Then r.text Done) env;
      };
      nest = q.nest;
    })

pub left_again : (s0 s2 s3 : Scope) → IsSameBlock s0 s2 → context_of s3 0 0 ≡ record (context_of s2 0 0) {
  frames = below (frames_of s2);
} → names_of s3 ≡ names_below s2 → IsLeft s0 s3
left_again s0 s2 s3 p e n = record {
  frames = ap (λ (c : Context). c.frames) e ∙ p.frames;
  names = n ∙ p.names;
  target = λ h. ap (λ (c : Context). c.target) e ∙ p.target h;
  waiting = λ h. ap (λ (c : Context). c.choice) e ∙ p.waiting h;
  statements = omega (arith, p.statements, ap (λ (c : Context). c.statements) e);
  boxes = ap (λ (c : Context). c.boxes) e ∙ p.boxes;
}

-- ---- the body of a loop

pub flat_body : (depth : ℕ) (env inner next : Env) (before after : Items) (xs : List Statement) → depth ≡ 0 →
    IsBodyRead env inner next before after xs → IsNestBodyRead depth env inner next before after xs
flat_body depth env inner next before after xs z r = record {
  read = r;
  nest = subst (λ (k : ℕ). IsNest r.texts k) (sym z) tt;
}

pub deep_body : (depth : ℕ) (s0 s1 s2 : Scope) (t : Turn) (u u' : Cursor) (after : Items) (xs : List Statement) →
    (depth ≡ 0 → ⊥) → context_of s1 0 0 ≡ opened (turned (turn_name (Some t)) s0) →
    names_of s1 ≡ turn_names (Some t) ++ names_of s0 → s1.scalars ≡ s0.scalars → IsLeft s1 s2 →
    (first_item u).terminal ≡ Mark sign.OpenBrace → behind u ≡ items u' →
    AreNestRead (depth - 1) (env_of s1) s2.scalars (items u') after xs →
    IsNestBodyRead depth (env_of s0) (inner_env (Some t) s0) (env_of s2) (items u) after xs
deep_body depth s0 s1 s2 t u u' after xs z e h n p f b r =
    let told = told_body (env_of s0) (inner_env (Some t) s0) (env_of s2) (env_of s1) s2.scalars u u' after xs f b
    (env_inner s0 s1 (Some t) e h n) r.read (next_after s0 s1 s2 (back_now s0 s1 s2 (Some t) e h p) n) in
    record {
      read = told.0;
      nest = subst (λ (ss : Stmts). IsNest ss depth) (sym told.1)
          (subst (λ (k : ℕ). IsNest r.read.texts k) (one_again depth z) r.nest);
    }

-- ---- a loop behind its word

inside_turn : (s : Scope) (t : Turn) → (inside (context_of s 0 0) || s.target) ≡ true → t.level ≡ loops_in (names_of s) →
    inner_env (Some t) s ≡ in_loop t.name.now (in_target (env_of s))
inside_turn s t e h =
    let n = loops_in (names_of s) in
    ap (λ (i : Bool). (let v : Env = record (inner_env (Some t) s) { inside = i } in v)) e
    ∙ ap (λ (l : ℕ). (let v : Env = record {
      names = (t.name.now, meaning.Loop l) ∷ names_of s;
      boxes =
          boxes_of s;
      scalars = s.scalars;
      loops = n + 1;
      inside = true;
    } in v)) h

in_body : (env inner next : Env) (before after : Items) (xs : List Statement) → (r : IsBodyRead env inner next before after xs) →
    (q : IsBodyRead (in_target env) inner (in_target next) before after xs) × (q.texts ≡ r.texts)
in_body env inner next before after xs r = (
  record {
    texts = r.texts;
    tokens = r.tokens;
    rest = r.rest;
    are_texts = r.are_texts;
    fewer = r.fewer;
    means = r.means;
    next_is = ap in_target r.next_is;
  },
  refl,
)

pub nest_tree : (depth : ℕ) (s0 s1 s2 : Scope) (x : Bor (List ℕ)) (level : ℕ) (b : Bounds) (u u' : Cursor)
    (i2 i3 after : Items) (all : Vec Statement Global) →
    (inside (context_of s0 0 0) || s0.target) ≡ true → s1 ≡ with_limit s0 b.end →
    level ≡ loops_in (names_of s1) → (first_item u).terminal ≡ Fixed For → behind u ≡ items u' →
    IsGone (Mark sign.OpenParen ∷ Fixed Uint64 ∷ Name x.now ∷ []) (items u') i2 → IsGone (bounds_tokens x.now b) i2 i3 →
    IsNestBodyRead depth (env_of s1) (inner_env (Some (record { name = x; level = level })) s1) (env_of s2) i3 after all.items →
    IsNestRead depth (in_target (env_of s0)) (in_target (env_of s2)) (items u) after (LoopOf b all)
nest_tree depth s0 s1 s2 x level b u u' i2 i3 after all g e l f d g1 g2 r =
    let same : env_of s1 ≡ env_of s0 = ap env_of e in
    let on : (inside (context_of s1 0 0) || s1.target) ≡ true =
    ap (λ (s : Scope). inside (context_of s 0 0) || s.target) e ∙ g in
    let turn : Turn = record { name = x; level = level } in
    let inner = in_body (env_of s1) (inner_env (Some turn) s1) (env_of s2) i3 after all.items r.read in
    let told = told_loop (in_target (env_of s0)) (in_target (env_of s1)) (inner_env (Some turn) s1) (in_target (env_of s2))
    x.now b u u' i2 i3 after all f d g1 g2 (ap in_target same)
    (inside_turn s1 turn on l ∙ ap (λ (v : Env). in_loop x.now (in_target v)) same) inner.0 in
    record {
      read = told.0;
      nest = subst (λ (s : Stmt). IsLoopNest s depth) (sym told.1)
          (subst (λ (ss : Stmts). IsNest ss depth) (sym inner.1) r.nest);
    }

-- ---- the text of a nest

abbrev pub Nests : Stmt → ℕ → Type 0
Nests s depth = (h : Head) × (b : Stmts) × (s ≡ Repeat h b) × IsNest b depth

pub nest_text : (s : Stmt) (depth : ℕ) → IsLoopNest s depth → Nests s depth
nest_text (Repeat h b) depth n = (h, b, refl, n)
nest_text (Declare y v) depth n = absurd n
nest_text (Assign y v) depth n = absurd n
nest_text (Store y i v) depth n = absurd n
nest_text (Choose e a) depth n = absurd n
nest_text (ChooseElse e a c) depth n = absurd n
nest_text (Show e) depth n = absurd n
nest_text (Block c) depth n = absurd n
nest_text (Directive k) depth n = absurd n
nest_text (Atomic k y i v) depth n = absurd n
nest_text (AtomicAssign k y v) depth n = absurd n
nest_text (AtomicIf k c) depth n = absurd n
nest_text (OverBlock k c) depth n = absurd n
nest_text (OverLoop k h c) depth n = absurd n

-- its tokens are those of any loop

braced_kinds : (a b : Slots) → kinds a ≡ kinds b →
    kinds (body_opening ∷ (a ++ body_closing ∷ [])) ≡ kinds (body_opening ∷ (b ++ body_closing ∷ []))
braced_kinds a b e =
    ap (λ (ts : List Terminal). Mark sign.OpenBrace ∷ ts)
    (kinds_append a (body_closing ∷ []) ∙ ap (λ (ts : List Terminal). ts ++ Mark sign.CloseBrace ∷ []) e
    ∙ sym (kinds_append b (body_closing ∷ [])))

nest_same : (h : Head) (b : Stmts) (d : ℕ) → kinds (stmts_in b d) ≡ kinds (stmts_in b 0) →
    kinds (nest_slots h b d) ≡ kinds (nest_slots h b 0)
nest_same h b d e =
    kinds_append (head_slots h) (body_opening ∷ (stmts_in b d ++ body_closing ∷ []))
    ∙ ap (λ (ts : List Terminal). kinds (head_slots h) ++ ts) (braced_kinds (stmts_in b d) (stmts_in b 0) e)
    ∙ sym (kinds_append (head_slots h) (body_opening ∷ (stmts_in b 0 ++ body_closing ∷ [])))

mutual
  kinds_one : (s : Stmt) (d : ℕ) → kinds (stmt_in s d) ≡ kinds (stmt_in s 0)
  kinds_one (Repeat h b) d = ap (λ (ts : List Terminal). Fixed For ∷ ts) (nest_same h b (deeper d) (kinds_all b (deeper d)))
  kinds_one (Declare y v) d = refl
  kinds_one (Assign y v) d = refl
  kinds_one (Store y i v) d = refl
  kinds_one (Choose e a) d = refl
  kinds_one (ChooseElse e a c) d = refl
  kinds_one (Show e) d = refl
  kinds_one (Block c) d = refl
  kinds_one (Directive k) d = refl
  kinds_one (Atomic k y i v) d = refl
  kinds_one (AtomicAssign k y v) d = refl
  kinds_one (AtomicIf k c) d = refl
  kinds_one (OverBlock k c) d = refl
  kinds_one (OverLoop k h c) d = refl

  kinds_all : (ss : Stmts) (d : ℕ) → kinds (stmts_in ss d) ≡ kinds (stmts_in ss 0)
  kinds_all Done d = refl
  kinds_all (Then s ss) d =
      kinds_append (stmt_in s d) (stmts_in ss d) ∙ ap (λ (ts : List Terminal). ts ++ kinds (stmts_in ss d)) (kinds_one s d)
      ∙ ap (λ (ts : List Terminal). kinds (stmt_in s 0) ++ ts) (kinds_all ss d)
      ∙ sym (kinds_append (stmt_in s 0) (stmts_in ss 0))

pub nest_kinds : (h : Head) (b : Stmts) (d : ℕ) → kinds (nest_slots h b d) ≡ kinds (nest_slots h b 0)
nest_kinds h b d = nest_same h b d (kinds_all b d)

length_kinds : (xs : Slots) → length (kinds xs) ≡ length xs
length_kinds [] = refl
length_kinds (x ∷ xs) = omega (arith, length_kinds xs)

pub nest_length : (h : Head) (b : Stmts) (d : ℕ) → length (nest_slots h b d) ≡ length (nest_slots h b 0)
nest_length h b d =
    sym (length_kinds (nest_slots h b d)) ∙ ap (λ (ts : List Terminal). length ts) (nest_kinds h b d)
    ∙ length_kinds (nest_slots h b 0)
