-- What a scope is behind a block, of what it was before.
use Rattle.std.proofs.Common.{◌≡◌, ℕ, ◌+◌, ◌≤◌, Bool, true, false, List, [], ◌∷◌, ◌++◌, length, drop, Option, Some, None, refl, sym, ap, ◌∙◌, arith}
use Rattle.std.specs.Prelude.{◌||◌}
use Rattle.std.proofs.Math.Seq.{drop-append_seam}
use Rattle.c_grammar.specs.Rules.{Context, Frame, ALoop, inside, opened, below, top, with_name}
use Rattle.c_expressions.specs.declared.changes.Turn.{Turn}
use Rattle.c_expressions.specs.declared.scope.Meaning.TheVariants as meaning
use Rattle.c_expressions.specs.declared.scope.Scope.{Scope}
use Rattle.c_expressions.specs.Means.{Names}
use Rattle.c_expressions.specs.Changes.{turn_name, turn_names}
use Rattle.c_expressions.specs.Scopes.{as_boxes, boxes_of, context_of, frames_of, names_of}
use Rattle.c_statements.specs.Bodies.{IsSameBlock, IsLeft, inner_env}
use Rattle.c_statements.specs.Blocks.{turned}
use Rattle.c_statements.specs.Simple.{env_of, loops_in}
use Rattle.c_statements.specs.Statements.{Env, in_loop, more}
use Rattle.c_statements.proofs.Levels.{names_below_is, top_size}
use Rattle.c_statements.proofs.Locals.{env_is}

-- the open blocks are again those of before
pub record IsBack (old new : Scope) : Type 0 where
  pub frames : frames_of new ≡ frames_of old
  pub names : names_of new ≡ names_of old
  pub target : new.target ≡ false
  pub waiting : new.choice ≡ false
  pub statements : old.statements ≤ new.statements
  pub boxes : (context_of new 0 0).boxes ≡ (context_of old 0 0).boxes

pub back_same : (a b : Scope) → IsBack a b → IsSameBlock a b
back_same a b p = record {
  frames = ap (λ (fs : List Frame). below fs) p.frames;
  names = names_below_is b ∙ ap (λ (fs : List Frame). drop (length (top fs).names) (names_of b)) p.frames
      ∙ ap (λ (ns : Names). drop (top_size a) ns) p.names ∙ sym (names_below_is a);
  inside = ap (λ (fs : List Frame). (top fs).inside) p.frames;
  choice = ap (λ (fs : List Frame). (top fs).choice) p.frames;
  target = λ h. p.target;
  waiting = λ h. p.waiting;
  statements = p.statements;
  boxes = p.boxes;
}

turn_size : (t : Option Turn) → length (with_name (turn_name t) ALoop []) ≡ length (turn_names t)
turn_size None = refl
turn_size (Some t) = refl

-- behind a block
pub back_now : (a b d : Scope) (t : Option Turn) → context_of b 0 0 ≡ opened (turned (turn_name t) a) →
    names_of b ≡ turn_names t ++ names_of a → IsLeft b d → IsBack a d
back_now a b d t e h p = record {
  frames = p.frames ∙ ap (λ (c : Context). below c.frames) e;
  names = p.names ∙ names_below_is b ∙ ap (λ (c : Context). drop (length (top c.frames).names) (names_of b)) e
      ∙ ap (λ (n : ℕ). drop n (names_of b)) (turn_size t)
      ∙ ap (λ (ns : Names). drop (length (turn_names t)) ns) h ∙ drop-append_seam (turn_names t) (names_of a);
  target = p.target (ap (λ (c : Context). c.target) e);
  waiting = p.waiting (ap (λ (c : Context). c.choice) e);
  statements = omega (arith, p.statements, ap (λ (c : Context). c.statements) e);
  boxes = p.boxes ∙ ap (λ (c : Context). c.boxes) e;
}

-- what stands before and behind it
pub env_back : (a d : Scope) (n : ℕ) → IsBack a d → d.scalars ≡ a.scalars + n → env_of d ≡ more n (env_of a)
env_back a d n p e = env_is d (more n (env_of a)) p.names (ap as_boxes p.boxes) e refl (ap (λ (fs : List Frame). (top fs).inside) p.frames)

pub env_inner : (a b : Scope) (t : Option Turn) → context_of b 0 0 ≡ opened (turned (turn_name t) a) →
    names_of b ≡ turn_names t ++ names_of a → b.scalars ≡ a.scalars → env_of b ≡ inner_env t a
env_inner a b t e h n =
    env_is b (inner_env t a) h (ap (λ (c : Context). as_boxes c.boxes) e) n refl (ap inside e)

or_no : (a b : Bool) → b ≡ false → (a || b) ≡ a
or_no true b e = refl
or_no false b e = e

-- in a block that is not that of a target
pub inner_same : (a : Scope) → a.target ≡ false → inner_env None a ≡ env_of a
inner_same a e = ap (λ (i : Bool). (let v : Env = record (env_of a) { inside = i } in v))
    (or_no (inside (context_of a 0 0)) a.target e)

pub inner_turn : (a : Scope) (t : Turn) → a.target ≡ false → t.level ≡
    loops_in (names_of a) → inner_env (Some t) a ≡ in_loop t.name.now (env_of a)
inner_turn a t e h =
    let n = loops_in (names_of a) in
    ap (λ (i : Bool). (let v : Env = record (inner_env (Some t) a) { inside = i } in v))
    (or_no (inside (context_of a 0 0)) a.target e)
    ∙ ap (λ (l : ℕ). (let v : Env = record {
      names = (t.name.now, meaning.Loop l) ∷ names_of a;
      boxes = boxes_of a;
      scalars =
          a.scalars;
      loops = n + 1;
      inside = inside (context_of a 0 0);
    } in v)) h
