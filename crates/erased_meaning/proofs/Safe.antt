-- A text that keeps the rules reads and prints nothing in a target, and assigns no scalar from outside there that is
-- not boxed.
use Rattle.std.proofs.Common.{◌≡◌, ℕ, zero, suc, ◌+◌, Bool, true, false, List, [], ◌∷◌, ◌++◌, Some, None, refl, sym, ap, subst, ◌∙◌, append_assoc}
use Rattle.std.specs.Prelude.{◌||◌}
use Rattle.std.proofs.Math.Bool.{or-false}
use Rattle.base.specs.declared.fault.ReadCode.TheVariants.{DirectiveInTarget, NoBody}
use Rattle.c_tokens.specs.declared.kind.Sign.TheVariants as sign
use Rattle.c_grammar.specs.Lexeme.{Lexeme, For, If, Else}
use Rattle.c_grammar.specs.Lines.{depth_of, is_target}
use Rattle.c_grammar.specs.Terminal.{Terminal, Fixed, Mark, Line}
use Rattle.c_grammar.specs.Grammar.{Plain, StartsIf, StartsBlock, Otherwise, Opens, Over, for, mark, Slot, Slots, Term, term, Head, head_slots, body_opening, body_closing, Stmt, Declare, Assign, Store, Repeat, Choose, ChooseElse, Show, Block, Directive, Atomic, AtomicAssign, AtomicIf, OverBlock, OverLoop, Stmts, Done, Then, deeper, loop_role, stmt, stmt_in, stmts, stmts_in}
use Rattle.c_grammar.specs.Rules.{Context, begun, out, Frame, below, inside, act, enter, breaks}
use Rattle.c_expressions.specs.Scopes.{as_boxes}
use Rattle.c_statements.specs.Statements.{Env, behind, more, declared_in, in_loop}
use Rattle.erasure.proofs.Follows.{entered, entered_append, next_in, Keeps, keeps_split}
use Rattle.erased_meaning.proofs.Envs.{AreQuiet}
use Rattle.erased_meaning.proofs.Outside.{AreSafe}
use Rattle.erased_meaning.proofs.Contexts.{Stands, kept_all, still_append, term_still, stands_kept, IsBefore, within, opens_block, opens_loop, Closed, stands_closed}
use Rattle.erased_meaning.proofs.Simple.{Known, StmtKnown, true_false, stands_more, inside_at, declare_known, assign_known, store_known, atomic_known, atomic_assign_known, atomic_if_known, show_known, alone_known}

-- what is known of statements there
abbrev pub KnownAll : Env → Stmts → Type 0
KnownAll env b = (env.inside ≡ false → AreSafe env b) × (env.inside ≡ true → AreQuiet env b)

abbrev Left : Context → Context → Type 0
Left c d =
    (below d.frames ≡ below c.frames) × (as_boxes d.boxes ≡ as_boxes c.boxes) × (d.target ≡ false) × (d.turn ≡ None)

abbrev pub StmtsKnown : Stmts → Type 0
StmtsKnown b = (depth : ℕ) (c : Context) (env : Env) (n : Terminal) → Stands c env → Keeps c (stmts_in b depth) n →
    KnownAll env b × Left c (entered c (stmts_in b depth))

abbrev close : Slots
close = body_closing ∷ []

-- ---- in braces

closes : (b : Stmts) (depth : ℕ) → StmtsKnown b → (c : Context) (env : Env) (n : Terminal) (fs : List Frame) →
    below c.frames ≡ fs → Stands c env →
    Keeps c (stmts_in b depth ++ close) n → KnownAll env b × Closed (entered c (stmts_in b depth ++ close)) fs
    (as_boxes c.boxes)
unfolding enter
closes b depth known c env n fs e s k =
    let parts = keeps_split c (stmts_in b depth) close n k in
    let inner = known depth c env (next_in close n) s parts.0 in
    let same = sym (entered_append c (stmts_in b depth) close) in (
      inner.0,
      subst (λ (d : Context). Closed d fs (as_boxes c.boxes)) same
          (record { frames = inner.1.0 ∙ e; boxes = inner.1.1; target = inner.1.2; turn = inner.1.3 }),
    )

pub known_within : (env : Env) (b : Stmts) → KnownAll (within env false) b → KnownAll env b
known_within env b k =
    subst (λ (u : Bool). KnownAll (record env { inside = u }) b) (or-false env.inside) k

braces : (b : Stmts) → StmtsKnown b → (c : Context) (env : Env) (n : Terminal) → Stands c env →
    Keeps c (body_opening ∷ (stmts b ++ close)) n →
    KnownAll env b × Closed (entered c (body_opening ∷ (stmts b ++ close))) c.frames (as_boxes c.boxes)
unfolding enter
braces b known c env n s k =
    let inner = closes b 0 known (enter c body_opening) (within env false) n c.frames refl
    (opens_block (act c (Mark sign.OpenBrace) Plain) env false
    (record { names = s.names; boxes = s.boxes; inside_is = s.inside_is; target = s.target; turn = s.turn })) k.1 in
    (known_within env b inner.0, inner.1)

-- from the first token of a loop's head on
turns : (h : Head) (b : Stmts) (depth : ℕ) → StmtsKnown b → (c : Context) (env : Env) (i : Bool) (n : Terminal) →
    IsBefore c env None i →
    Keeps c (head_slots h ++ (body_opening ∷ (stmts_in b depth ++ close))) n →
    KnownAll (within (in_loop h.name env) i) b ×
    Closed (entered c (head_slots h ++ (body_opening ∷ (stmts_in b depth ++ close)))) c.frames (as_boxes c.boxes)
unfolding enter
turns h b depth known c env i n s k =
    let d : Context = entered c (head_slots h) in
    let parts = keeps_split c (head_slots h) (body_opening ∷ (stmts_in b depth ++ close)) n k in
    closes b depth known (enter d body_opening) (within (in_loop h.name env) i) n c.frames refl
    (opens_loop (act d (Mark sign.OpenBrace) Plain) env h.name i
    (record { names = s.names; boxes = s.boxes; inside_is = s.inside_is; target = s.target; turn = refl })) parts.1.1

-- ---- blocks, loops and branches

closed_behind : (c d : Context) (env : Env) (n : ℕ) → Closed d c.frames (as_boxes c.boxes) → Stands c env →
    Stands d (more n env) × (below d.frames ≡ below c.frames)
closed_behind c d env n k s = (stands_more d env n (stands_closed c d env k s), ap below k.frames)

block_known : (b : Stmts) → StmtsKnown b → StmtKnown (Block b)
unfolding enter
block_known b known depth c env n s k =
    let x : Slot = (Mark sign.OpenBrace, for StartsBlock) in
    let inner = closes b 0 known (enter c x) (within env false) n c.frames refl
    (opens_block (begun (out c)) env false
    (record { names = s.names; boxes = s.boxes; inside_is = s.inside_is; target = s.target; turn = s.turn })) k.1 in
    let after = closed_behind c (entered c (stmt (Block b))) env (declared_in b) inner.1 s in
    (known_within env b inner.0, after.0, after.1)

repeat_known : (h : Head) (b : Stmts) → StmtsKnown b → StmtKnown (Repeat h b)
unfolding enter
repeat_known h b known zero c env n s k =
    let d : Context = enter c (Fixed For, loop_role 0) in
    let inner = turns h b 0 known d env false n
    (record { names = s.names; boxes = s.boxes; inside_is = s.inside_is; target = s.target; turn = s.turn }) k.1 in
    let after = closed_behind c (entered c (stmt_in (Repeat h b) 0)) env (declared_in b)
    (record { frames = inner.1.frames; boxes = inner.1.boxes; target = inner.1.target; turn = inner.1.turn }) s in
    (known_within (in_loop h.name env) b inner.0, after.0, after.1)
repeat_known h b known (suc e) c env n s k =
    let d : Context = enter c (Fixed For, loop_role (suc e)) in
    let inner = turns h b e known d env false n
    (record { names = s.names; boxes = s.boxes; inside_is = s.inside_is; target = s.target; turn = s.turn }) k.1 in
    let after = closed_behind c (entered c (stmt_in (Repeat h b) (suc e))) env (declared_in b)
    (record { frames = inner.1.frames; boxes = inner.1.boxes; target = inner.1.target; turn = inner.1.turn }) s in
    (known_within (in_loop h.name env) b inner.0, after.0, after.1)

abbrev asks : Term → Slots
asks e = (Fixed If, for StartsIf) ∷ mark sign.OpenParen ∷ (term e ++ mark sign.CloseParen ∷ [])

asked : (e : Term) (ys : Slots) → asks e ++ ys ≡ (Fixed If, for StartsIf) ∷ mark sign.OpenParen ∷
    (term e ++ (mark sign.CloseParen ∷ ys))
asked e ys =
    ap (λ (zs : Slots). (Fixed If, for StartsIf) ∷ mark sign.OpenParen ∷ zs)
    (append_assoc (term e) (mark sign.CloseParen ∷ []) ys)

-- behind the condition of a branch
abbrev Behind : Stmt → Slots → Type 0
Behind s ys =
    (c : Context) (env : Env) (n : Terminal) → Stands c env → Keeps c ys n → Known env s × Closed
    (entered c ys) c.frames (as_boxes c.boxes)

asked_known : (e : Term) (ys : Slots) (s : Stmt) (j : ℕ) → ((env : Env) → behind s env ≡ more j env) →
    ((depth : ℕ) →
    stmt_in s depth ≡ (Fixed If, for StartsIf) ∷ mark sign.OpenParen ∷ (term e ++ (mark sign.CloseParen ∷ ys))) →
    Behind s ys → StmtKnown s
asked_known e ys s j more_is is next depth c env n st k =
    let whole : stmt_in s depth ≡ asks e ++ ys = is depth ∙ sym (asked e ys) in
    let d : Context = entered c (asks e) in
    let kept = kept_all (asks e) c (still_append (term e) (mark sign.CloseParen ∷ []) (term_still e) refl) in
    let parts = keeps_split c (asks e) ys n (subst (λ (xs : Slots). Keeps c xs n) whole k) in
    let inner = next d env n (stands_kept c d env kept st) parts.1 in
    let end : entered c (stmt_in s depth) ≡ entered d ys = ap (entered c) whole ∙ entered_append c (asks e) ys in
    let closed : Closed (entered c (stmt_in s depth)) c.frames (as_boxes c.boxes) =
    subst (λ (u : Context). Closed u c.frames (as_boxes c.boxes)) (sym end)
    (record {
      frames = inner.1.frames ∙ kept.frames;
      boxes = inner.1.boxes
          ∙ ap as_boxes kept.boxes;
      target = inner.1.target;
      turn = inner.1.turn;
    }) in
    let after = closed_behind c (entered c (stmt_in s depth)) env j closed st in
    (inner.0, subst (λ (v : Env). Stands (entered c (stmt_in s depth)) v) (sym (more_is env)) after.0, after.1)

choose_known : (e : Term) (a : Stmts) → StmtsKnown a → StmtKnown (Choose e a)
choose_known e a known =
    asked_known e (body_opening ∷ (stmts a ++ close)) (Choose e a) (declared_in a) (λ env. refl) (λ depth. refl)
    (λ c env n s k. let inner = braces a known c env n s k in ((λ i. tt {0}, inner.0.1), inner.1))

abbrev otherwise : Stmts → Slots
otherwise b = (Fixed Else, for Otherwise) ∷ body_opening ∷ (stmts b ++ close)

branches : (e : Term) (a b : Stmts) → StmtsKnown a → StmtsKnown b →
    Behind (ChooseElse e a b) (body_opening ∷ (stmts a ++ (body_closing ∷ otherwise b)))
unfolding enter
branches e a b first second c env n s k =
    let block : Slots = body_opening ∷ (stmts a ++ close) in
    let path : block ++ otherwise b ≡ body_opening ∷ (stmts a ++ (body_closing ∷ otherwise b)) =
    ap (λ (zs : Slots). body_opening ∷ zs) (append_assoc (stmts a) close (otherwise b)) in
    let parts = keeps_split c block (otherwise b) n (subst (λ (xs : Slots). Keeps c xs n) (sym path) k) in
    let one = braces a first c env (next_in (otherwise b) n) s parts.0 in
    let d : Context = entered c block in
    let st = stands_closed c d env one.1 s in
    let two = braces b second (enter d (Fixed Else, for Otherwise)) (more (declared_in a) env) n
    (record {
      names = st.names;
      boxes = st.boxes;
      inside_is = st.inside_is;
      target = st.target;
      turn = st.turn;
    }) parts.1.1 in
    let end : entered c (body_opening ∷ (stmts a ++ (body_closing ∷ otherwise b))) ≡ entered d (otherwise b) =
    ap (entered c) (sym path) ∙ entered_append c block (otherwise b) in (
      (λ i. tt {0}, λ i. (one.0.1 i, two.0.1 i)),
      subst (λ (u : Context). Closed u c.frames (as_boxes c.boxes)) (sym end)
          (record {
            frames = two.1.frames ∙ one.1.frames;
            boxes = two.1.boxes
                ∙ one.1.boxes;
            target = two.1.target;
            turn = two.1.turn;
          }),
    )

else_known : (e : Term) (a b : Stmts) → StmtsKnown a → StmtsKnown b → StmtKnown (ChooseElse e a b)
else_known e a b first second =
    asked_known e (body_opening ∷ (stmts a ++ (body_closing ∷ otherwise b))) (ChooseElse e a b)
    (declared_in a + declared_in b) (λ env. refl) (λ depth. refl) (branches e a b first second)

-- ---- directives over a block or a loop

inside_or : (env : Env) (i : Bool) → env.inside ≡ false → (within env i).inside ≡ i
inside_or env i e = ap (λ (u : Bool). u || i) e

over_known : (env : Env) (b : Stmts) (i : Bool) → KnownAll (within env i) b → env.inside ≡ false →
    (i ≡ true → AreQuiet (record env { inside = true }) b) × (i ≡ false → AreSafe env b)
over_known env b i k e = (
  λ t. subst (λ (u : Bool). AreQuiet (record env { inside = u }) b) (inside_or env i e ∙ t)
      (k.1 (inside_or env i e ∙ t)),
  λ f. subst (λ (u : Bool). AreSafe (record env { inside = u }) b) (inside_or env i e ∙ f ∙ sym e)
      (k.0 (inside_or env i e ∙ f)),
)

over_block_known : (l : List Lexeme) (b : Stmts) → StmtsKnown b → StmtKnown (OverBlock l b)
unfolding enter breaks
over_block_known l b known depth c env n s k =
    let d : Context = enter c (Line l, for Over) in
    let inner = closes b 0 known (enter d (Mark sign.OpenBrace, (Some NoBody, Opens)))
    (within env (is_target l)) n c.frames refl
    (opens_block (act d (Mark sign.OpenBrace) Plain) env (is_target l)
    (record { names = s.names; boxes = s.boxes; inside_is = s.inside_is; target = refl; turn = s.turn })) k.1.1 in
    let after = closed_behind c (entered c (stmt (OverBlock l b))) env (declared_in b) inner.1 s in (
      (
        λ e. over_known env b (is_target l) inner.0 e,
        λ e. true_false (inside c) (inside_at c env s e) (k.0 (record { part = 0; code = DirectiveInTarget })),
      ),
      after.0,
      after.1,
    )

over_loop_known : (l : List Lexeme) (h : Head) (b : Stmts) → StmtsKnown b → StmtKnown (OverLoop l h b)
unfolding enter breaks
over_loop_known l h b known depth c env n s k =
    let d : Context = entered c ((Line l, for Over) ∷ (Fixed For, (Some NoBody, Plain)) ∷ []) in
    let inner = turns h b (deeper (depth_of l)) known d env (is_target l) n
    (record { names = s.names; boxes = s.boxes; inside_is = s.inside_is; target = refl; turn = s.turn }) k.1.1 in
    let after = closed_behind c (entered c (stmt (OverLoop l h b))) env (declared_in b)
    (record { frames = inner.1.frames; boxes = inner.1.boxes; target = inner.1.target; turn = inner.1.turn }) s in (
      (
        λ e. let over = over_known (in_loop h.name env) b (is_target l) inner.0 e in (λ t. (over.0 t, tt {0}), over.1),
        λ e. true_false (inside c) (inside_at c env s e) (k.0 (record { part = 0; code = DirectiveInTarget })),
      ),
      after.0,
      after.1,
    )

-- ---- all statements

behind_same : (s : Stmt) (env : Env) → ((behind s env).inside ≡ env.inside) × ((behind s env).boxes ≡ env.boxes)
behind_same (Declare x v) env = (refl, refl)
behind_same (Assign x v) env = (refl, refl)
behind_same (Store x i v) env = (refl, refl)
behind_same (Repeat h b) env = (refl, refl)
behind_same (Choose e a) env = (refl, refl)
behind_same (ChooseElse e a b) env = (refl, refl)
behind_same (Show e) env = (refl, refl)
behind_same (Block b) env = (refl, refl)
behind_same (Directive l) env = (refl, refl)
behind_same (Atomic l x i v) env = (refl, refl)
behind_same (AtomicAssign l x v) env = (refl, refl)
behind_same (AtomicIf l s) env = behind_same s env
behind_same (OverBlock l b) env = (refl, refl)
behind_same (OverLoop l h b) env = (refl, refl)

mutual
  pub stmts_known : (b : Stmts) → StmtsKnown b
  stmts_known Done depth c env n s k = ((λ e. tt {0}, λ e. tt {0}), (refl, refl, s.target, s.turn))
  stmts_known (Then t ss) depth c env n s k =
      let parts = keeps_split c (stmt_in t depth) (stmts_in ss depth) n k in
      let one = stmt_known t depth c env (next_in (stmts_in ss depth) n) s parts.0 in
      let rest = stmts_known ss depth (entered c (stmt_in t depth)) (behind t env) n one.1 parts.1 in
      let same = sym (entered_append c (stmt_in t depth) (stmts_in ss depth)) in
      let kept = behind_same t env in (
        (λ e. (one.0.0 e, rest.0.0 (kept.0 ∙ e)), λ e. (one.0.1 e, rest.0.1 (kept.0 ∙ e))),
        subst (λ (d : Context). Left c d) same
            (rest.1.0 ∙ one.2, rest.1.1 ∙ one.1.boxes ∙ kept.1 ∙ sym s.boxes, rest.1.2, rest.1.3),
      )

  stmt_known : (t : Stmt) → StmtKnown t
  stmt_known (Declare x v) = declare_known x v
  stmt_known (Assign x v) = assign_known x v
  stmt_known (Store x i v) = store_known x i v
  stmt_known (Repeat h b) = repeat_known h b (stmts_known b)
  stmt_known (Choose e a) = choose_known e a (stmts_known a)
  stmt_known (ChooseElse e a b) = else_known e a b (stmts_known a) (stmts_known b)
  stmt_known (Show e) = show_known e
  stmt_known (Block b) = block_known b (stmts_known b)
  stmt_known (Directive l) = alone_known l
  stmt_known (Atomic l x i v) = atomic_known l x i v
  stmt_known (AtomicAssign l x v) = atomic_assign_known l x v
  stmt_known (AtomicIf l s) = atomic_if_known l s (stmt_known s)
  stmt_known (OverBlock l b) = over_block_known l b (stmts_known b)
  stmt_known (OverLoop l h b) = over_loop_known l h b (stmts_known b)
