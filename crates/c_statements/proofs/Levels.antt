-- What a scope keeps while statements are read.
use Rattle.std.proofs.Common.{◌≡◌, ℕ, suc, List, [], ◌∷◌, ◌++◌, length, map, drop, reverse, Some, refl, sym, ap, subst, ◌∙◌, arith}
use Rattle.std.specs.List.{flat_map}
use Rattle.std.proofs.Math.Seq.{drop-append_seam}
use Rattle.std.proofs.lemmas.List.{length-map}
use Rattle.c_grammar.specs.Rules.{Context, Sort, inside, under_if, declared, below, top}
use Rattle.c_expressions.specs.declared.scope.Frame.{Frame as GivenFrame}
use Rattle.c_expressions.specs.declared.scope.Meaning.{Meaning}
use Rattle.c_expressions.specs.declared.scope.Scope.{Scope}
use Rattle.c_expressions.specs.Means.{Names}
use Rattle.c_expressions.specs.Changes.{names_below}
use Rattle.c_expressions.specs.Scopes.{context_of, frames_of, names_in, names_of, seen_frame, sorted_name}
use Rattle.c_statements.specs.Bodies.{IsSameBlock}
use Rattle.c_statements.specs.Loops.{with_limit}
use Rattle.c_statements.specs.Simple.{counted}

-- ---- the names below the innermost block

-- how many names the innermost block has
abbrev pub top_size : Scope → ℕ
top_size s = length (top (frames_of s)).names

below_is : (fs : List GivenFrame) → flat_map names_in (drop 1 fs) ≡
    drop (length (top (map seen_frame fs)).names) (flat_map names_in fs)
below_is [] = refl
below_is (f ∷ fs) = sym (ap (λ (n : ℕ). drop n (names_in f ++ flat_map names_in fs))
    (length-map (names_in f) sorted_name) ∙ drop-append_seam (names_in f) (flat_map names_in fs))

pub names_below_is : (s : Scope) → names_below s ≡ drop (top_size s) (names_of s)
names_below_is s = below_is (reverse s.frames.items)

-- ---- the same block

pub same_again : (a b d : Scope) → IsSameBlock a b → IsSameBlock b d → IsSameBlock a d
same_again a b d p q = record {
  frames = q.frames ∙ p.frames;
  names = q.names ∙ p.names;
  inside = q.inside ∙ p.inside;
  choice = q.choice ∙ p.choice;
  target = λ h. q.target (p.target h);
  waiting = λ h. q.waiting (p.waiting h);
  statements = omega (arith, p.statements, q.statements);
  boxes = q.boxes ∙ p.boxes;
}

pub same_none : (s : Scope) → IsSameBlock s s
same_none s = record {
  frames = refl;
  names = refl;
  inside = refl;
  choice = refl;
  target = λ h. h;
  waiting = λ h. h;
  statements = omega arith;
  boxes = refl;
}

pub same_counted : (old new : Scope) → new ≡ counted old → IsSameBlock old new
same_counted old new e = subst (λ (s : Scope). IsSameBlock old s) (sym e)
    (record { frames = refl; names = refl; inside = refl; choice = refl; target = λ h. h; waiting = λ h. h; statements = omega arith; boxes = refl })

pub same_limit : (old new : Scope) (n : ℕ) → new ≡ with_limit old n → IsSameBlock old new
same_limit old new n e = subst (λ (s : Scope). IsSameBlock old s) (sym e)
    (record { frames = refl; names = refl; inside = refl; choice = refl; target = λ h. h; waiting = λ h. h; statements = omega arith; boxes = refl })

-- a name more
pub same_declared : (old new : Scope) (x : List ℕ) (s : Sort) (m : Meaning) (n : ℕ) →
    context_of new 0 0 ≡ declared s (record (context_of old 0 0) { fresh = Some x; scalars = n }) →
    names_of new ≡ (x, m) ∷ names_of old → IsSameBlock old new
same_declared old new x s m n e h = record {
  frames = ap (λ (c : Context). below c.frames) e;
  names = names_below_is new ∙ ap (λ (c : Context). drop (length (top c.frames).names) (names_of new)) e
      ∙ ap (λ (ns : Names). drop (suc (top_size old)) ns) h ∙ sym (names_below_is old);
  inside = ap inside e;
  choice = ap under_if e;
  target = λ g. ap (λ (c : Context). c.target) e ∙ g;
  waiting = λ g. ap (λ (c : Context). c.choice) e ∙ g;
  statements = omega (arith, ap (λ (c : Context). c.statements) e);
  boxes = ap (λ (c : Context). c.boxes) e;
}
