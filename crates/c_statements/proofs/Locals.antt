-- The declarations that were read.
use Rattle.std.proofs.Common.{◌≡◌, ℕ, ◌+◌, Bool, List, [], ◌∷◌, ◌++◌, length, drop, Option, Some, None, refl, sym, ap, subst, ◌∙◌, append_assoc, arith, length-append}
use Rattle.std.specs.Borrow.{Bor}
use Rattle.c_tokens.specs.declared.kind.Sign.TheVariants as sign
use Rattle.base.specs.declared.tree.ArrayId.{ArrayId}
use Rattle.base.specs.declared.tree.Place.{Place}
use Rattle.base.specs.declared.tree.ScalarId.{ScalarId}
use Rattle.base.specs.declared.tree.Source.{Source as Assigned}
use Rattle.c_grammar.specs.Lexeme.{Uint64}
use Rattle.c_grammar.specs.Terminal.{Terminal, Fixed, Mark, Name}
use Rattle.c_grammar.specs.Grammar.{Slots, MakesScalar, for, Source, source, Stmt, Declare}
use Rattle.c_grammar.specs.Rules.{Context, declared, inside}
use Rattle.c_expressions.specs.declared.cursor.Cursor.{Cursor}
use Rattle.c_expressions.specs.declared.scope.Meaning.{Meaning}
use Rattle.c_expressions.specs.declared.scope.Scope.{Scope}
use Rattle.c_expressions.specs.Means.{Items, Names, place_of}
use Rattle.c_expressions.specs.Cursor.{items, first_item, behind}
use Rattle.c_expressions.specs.Reading.{terminals, kinds}
use Rattle.c_expressions.specs.Scopes.{Boxes, as_boxes, boxes_of, context_of, names_of, sort_of_meaning}
use Rattle.c_expressions.proofs.Expressions.{first_then, kinds_append, behind_less, one_more, drops, drop_by, drop_one}
use Rattle.c_statements.specs.Bodies.{naming, IsSameBlock}
use Rattle.c_statements.specs.Simple.{counted, declaration, env_of, loops_in, IsSourceRead, IsStmtRead}
use Rattle.c_statements.specs.Statements.{Env, box_for, scalar_or_box, source_size, stmt_size, with_scalar, IsSource, IsStatement}
use Rattle.c_statements.proofs.Levels.{same_declared}

-- the context behind a declaration
pub scalar_declared : (old mid : Scope) (x : List ℕ) (m : Meaning) (id : ScalarId) (i : Bool) (o : Option ArrayId)
    (n : ℕ) → m ≡ scalar_or_box id i o → i ≡ inside (context_of old 0 0) →
    context_of mid 0 0 ≡ declared (sort_of_meaning m) (record (context_of old 0 0) { fresh = Some x }) →
    (let v : Context = record (context_of mid 0 0) { scalars = n } in v) ≡
    declared (sort_of_meaning (scalar_or_box id (inside (context_of old 0 0)) o))
    (record (context_of old 0 0) { fresh = Some x; scalars = n })
scalar_declared old mid x m id i o n h k e =
    ap (λ (c : Context). (let v : Context = record c { scalars = n } in v)) e
    ∙ ap (λ (u : Meaning). declared (sort_of_meaning u) (record (context_of old 0 0) { fresh = Some x; scalars = n }))
    (h ∙ ap (λ (b : Bool). scalar_or_box id b o) k)

abbrev made : Names → Boxes → ℕ → ℕ → Bool → Env
made ns bs n l i = record { names = ns; boxes = bs; scalars = n; loops = l; inside = i }

-- what stands before a statement, by its parts
pub env_is : (s : Scope) (env : Env) → names_of s ≡ env.names → boxes_of s ≡ env.boxes → s.scalars ≡ env.scalars →
    loops_in env.names ≡ env.loops → inside (context_of s 0 0) ≡ env.inside → env_of s ≡ env
env_is s env a e b c d =
    ap (λ (ns : Names). made ns (boxes_of s) s.scalars (loops_in ns) (inside (context_of s 0 0))) a
    ∙ ap (λ (bs : Boxes). made env.names bs s.scalars (loops_in env.names) (inside (context_of s 0 0))) e
    ∙ ap (λ (n : ℕ). made env.names env.boxes n (loops_in env.names) (inside (context_of s 0 0))) b
    ∙ ap (λ (l : ℕ). made env.names env.boxes env.scalars l (inside (context_of s 0 0))) c
    ∙ ap (λ (i : Bool). made env.names env.boxes env.scalars env.loops i) d

-- what the name of the next scalar means
abbrev pub next_meaning : Scope → ScalarId → Option ArrayId → Meaning
next_meaning s id o = scalar_or_box id (inside (context_of s 0 0)) o

abbrev context_behind : Scope → List ℕ → Meaning → Context
context_behind s x m = declared (sort_of_meaning m)
    (record (context_of s 0 0) { fresh = Some x; scalars = s.scalars + 1 })

-- the scalar whose name was read, which may be the cell of an array
pub record IsNew (old new : Scope) (x : List ℕ) (id : ScalarId) (o : Option ArrayId) : Type 0 where
  pub context : context_of new 0 0 ≡ context_behind old x (next_meaning old id o)
  pub names : names_of new ≡ (x, next_meaning old id o) ∷ names_of old
  pub id_is : id.0 ≡ old.scalars
  pub next : new.scalars ≡ old.scalars + 1
  pub box : o ≡ box_for x (env_of old)

no_loop : (id : ScalarId) (i : Bool) (o : Option ArrayId) (x : List ℕ) (ns : Names) →
    loops_in ((x, scalar_or_box id i o) ∷ ns) ≡ loops_in ns
no_loop id i None x ns = refl
no_loop id i (Some a) x ns = refl

same_inside : (s : Scope) (x : List ℕ) (m : Meaning) → inside (context_behind s x m) ≡ inside (context_of s 0 0)
same_inside s x m = refl

new_here : (old new : Scope) (x : Bor (List ℕ)) (id : ScalarId) (o : Option ArrayId) →
    IsNew (naming (counted old) x) new x.now id o → env_of new ≡ with_scalar x.now (env_of old)
new_here old new x id o p =
    let e : id ≡ (let v : ScalarId = record { 0 = old.scalars } in v) =
    ap (λ (n : ℕ). (let v : ScalarId = record { 0 = n } in v)) p.id_is in
    let i : Bool = inside (context_of old 0 0) in
    let m : scalar_or_box id i o ≡ scalar_or_box (record { 0 = old.scalars }) i (box_for x.now (env_of old)) =
    ap (λ (k : ScalarId). scalar_or_box k i o) e
    ∙ ap (λ (u : Option ArrayId). scalar_or_box (record { 0 = old.scalars }) i u) p.box in
    env_is new (with_scalar x.now (env_of old))
    (p.names ∙ ap (λ (u : Meaning). (x.now, u) ∷ names_of old) m) (ap (λ (c : Context). as_boxes c.boxes) p.context) p.next
    (no_loop (record { 0 = old.scalars }) i (box_for x.now (env_of old)) x.now (names_of old)) (ap inside p.context)

pub new_scope : (old s1 s2 new : Scope) (x : Bor (List ℕ)) (id : ScalarId) (o : Option ArrayId) → s1 ≡ counted old →
    s2 ≡ naming s1 x → IsNew s2 new x.now id o → IsSameBlock old new
new_scope old s1 s2 new x id o e f p =
    let q : IsNew (naming (counted old) x) new x.now id o =
    subst (λ (s : Scope). IsNew s new x.now id o) (f ∙ ap (λ (s : Scope). naming s x) e) p in
    let m : Meaning = next_meaning (naming (counted old) x) id o in
    let r : IsSameBlock (naming (counted old) x) new = same_declared (naming (counted old) x) new x.now
    (sort_of_meaning m) m (old.scalars + 1) q.context q.names in
    record {
      frames = r.frames;
      names = r.names;
      inside = r.inside;
      choice = r.choice;
      target = r.target;
      waiting = r.waiting;
      statements = omega (arith, r.statements);
      boxes = r.boxes;
    }

-- what the declaration means, behind its word and name
declaration_means : (env : Env) (x : List ℕ) (v : Source) (is : Items) (id : ScalarId) (o : Option ArrayId) (at : Place)
    (w : Assigned) → o ≡ box_for x env → id.0 ≡ env.scalars → at ≡ place_of (drop 1 is) → IsSource env (drop 3 is) v w →
    IsStatement env is (Declare x v) (declaration id o at w)
declaration_means env x v is id None at w e n p h = (sym e, n, h)
declaration_means env x v is id (Some a) at w e n p h = (sym e, p, refl, h)

pub read_declared : (old s1 s2 new : Scope) (x : Bor (List ℕ)) (id : ScalarId) (o : Option ArrayId) (at : Place)
    (t0 t1 t2 t3 t4 t5 : Cursor) (v : Assigned) →
    s1 ≡ counted old → s2 ≡ naming s1 x → IsNew s2 new x.now id o → at ≡ place_of (items t1) →
    (first_item t0).terminal ≡ Fixed Uint64 → behind t0 ≡ items t1 → (first_item t1).terminal ≡ Name x.now →
    behind t1 ≡ items t2 →
    (first_item t2).terminal ≡ Mark sign.Equal → behind t2 ≡ items t3 →
    IsSourceRead (env_of s2) (items t3) (items t4) v →
    (first_item t4).terminal ≡ Mark sign.Semicolon → behind t4 ≡ items t5 →
    IsStmtRead (env_of old) (env_of new) (items t0) (items t5) (declaration id o at v)
read_declared old s1 s2 new x id o at t0 t1 t2 t3 t4 t5 v e f p w h0 b0 h1 b1 h2 b2 r h4 b4 =
    let same : s2 ≡ naming (counted old) x = f ∙ ap (λ (s : Scope). naming s x) e in
    let q : IsNew (naming (counted old) x) new x.now id o = subst (λ (s : Scope). IsNew s new x.now id o) same p in
    let m : IsSource (env_of old) (items t3) r.text v =
    subst (λ (s : Scope). IsSource (env_of s) (items t3) r.text v) same r.means in
    let n = source_size r.text in
    let end : Slots = (Mark sign.Semicolon, for MakesScalar) ∷ [] in
    let rest : List Terminal = terminals (items t5) in
    let split : kinds (source r.text ++ end) ++ rest ≡ kinds (source r.text) ++ (Mark sign.Semicolon ∷ rest) =
    ap (λ (ts : List Terminal). ts ++ rest) (kinds_append (source r.text) end)
    ∙ append_assoc (kinds (source r.text)) (kinds end) rest in
    let size : length (source r.text ++ end) ≡ n + 1 = length-append (source r.text) end in
    let text : Stmt = Declare x.now r.text in
    let mid : items t3 ≡ drop 3 (items t0) = one_more 2 (items t0) t2 t3
    (one_more 1 (items t0) t1 t2 (drop_one t0 t1 b0) b1) b2 in
    let last : items t5 ≡ drop (n + 1) (items t3) = one_more n (items t3) t4 t5 r.rest b4 in
    record {
      text = text;
      tokens = first_then (Fixed Uint64) t0 t1 h0 b0 ∙ ap (λ (ts : List Terminal). Fixed Uint64 ∷ ts)
          (first_then (Name x.now) t1 t2 h1 b1 ∙ ap (λ (ts : List Terminal). Name x.now ∷ ts)
          (first_then (Mark sign.Equal) t2 t3 h2 b2 ∙ ap (λ (ts : List Terminal). Mark sign.Equal ∷ ts)
          (r.tokens ∙ ap (λ (ts : List Terminal). kinds (source r.text) ++ ts)
          (first_then (Mark sign.Semicolon) t4 t5 h4 b4) ∙ sym split)));
      rest = drop_by (3 + (n + 1)) (stmt_size text) (items t0) (items t5) (omega (arith, size))
          (drops 3 (n + 1) (items t0) (items t3) (items t5) mid last);
      is_text = r.ranked;
      fewer = omega (
        arith,
        behind_less t0 t1 b0,
        behind_less t1 t2 b1,
        behind_less t2 t3 b2,
        r.fewer,
        behind_less
            t4 t5 b4,
      );
      means = declaration_means (env_of old) x.now r.text (items t0) id o at v q.box q.id_is
          (w ∙ ap place_of (drop_one t0 t1 b0)) (subst (λ (is : Items). IsSource (env_of old) is r.text v) mid m);
      next_is = new_here old new x id o q;
    }
