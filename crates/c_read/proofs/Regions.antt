-- The region of a target that was read.
use Rattle.std.proofs.Common.{◌≡◌, ℕ, Bool, true, List, [], ◌∷◌, None, ap, subst, inl, inr}
use Rattle.std.specs.Prelude.{◌==◌, ◌&&◌}
use Rattle.std.proofs.lemmas.Bool.{or_right}
use Rattle.base.specs.declared.tree.Stmt.{Stmt as Statement}
use Rattle.c_grammar.specs.Grammar.{deeper}
use Rattle.c_grammar.specs.Rules.{inside}
use Rattle.c_expressions.specs.declared.scope.Scope.{Scope}
use Rattle.c_expressions.specs.Means.{Items}
use Rattle.c_expressions.specs.Scopes.{context_of}
use Rattle.c_statements.specs.Bodies.{inner_env, IsBodyRead}
use Rattle.c_statements.specs.Simple.{env_of}
use Rattle.c_statements.specs.Statements.{Env}
use Rattle.c_read.specs.Parts.{in_target}
use Rattle.c_read.specs.Read.{IsNestRead, IsRegionRead}
use Rattle.c_read.proofs.Unders.{no_nest}

-- in the block of a target
target_inner : (s : Scope) → s.target ≡ true → inner_env None s ≡ in_target (env_of s)
target_inner s e = ap (λ (i : Bool). (let v : Env = record (env_of s) { inside = i } in v)) (or_right (inside (context_of s 0 0)) s.target e)

pub region_block : (depth : ℕ) (b : Bool) (s0 s1 : Scope) (before after : Items) (xs : List Statement) → s0.target ≡ true →
    ((depth == 0) && b) ≡ true → IsBodyRead (env_of s0) (inner_env None s0) (env_of s1) before after xs →
    IsRegionRead depth (env_of s0) (env_of s1) before after xs
region_block depth b s0 s1 before after xs e z r = inl (
  no_nest depth b z,
  subst (λ (v : Env). IsBodyRead (env_of s0) v (env_of s1) before after xs) (target_inner s0 e) r,
)

pub region_loop : (depth : ℕ) (env next : Env) (before after : Items) (x : Statement) (xs : List Statement) → xs ≡ x ∷ [] →
    IsNestRead (deeper depth) (in_target env) (in_target next) before after x → IsRegionRead depth env next before after xs
region_loop depth env next before after x xs e r = inr (x, e, r)
