-- An expression, and a source, are begun.
use Rattle.std.proofs.Common.{◌≡◌, ℕ, ◌+◌, ◌<◌, ◌≤◌, ◌∷◌, [], List, Bor, length, drop, get_or, refl, ap, sym, ◌∙◌, subst, slice_index, arith}
use Rattle.base.specs.declared.tree.Expr.{Expr}
use Rattle.base.specs.declared.tree.Source.{Source}
use Rattle.base.specs.declared.tree.Source.TheVariants.{Value, Read}
use Rattle.base.specs.Meaning.{Run, read_next}
use Rattle.fine_machine.specs.Left.{expr_left}
use Rattle.actions.specs.declared.strand.Strand.{Strand}
use Rattle.actions.specs.declared.frame.Frame.{Frame}
use Rattle.actions.specs.declared.stack.Frames.{Frames}
use Rattle.actions.specs.Rest.{frames_of, rest_of}
use Rattle.actions.specs.Weight.{frame_weight, weight}
use Rattle.actions.specs.Begin.{BeginsExpr}
use Rattle.actions.specs.Strand.{BeginsAt, BeginsSource, run_of, side_of, stack_of}

weight_past : (f : Frame) (rest all : List Frame) (n m : ℕ) → all ≡ f ∷ rest → n ≡ weight all + m →
    n ≡ (frame_weight f + weight rest) + m
unfolding weight
weight_past f rest all n m is e = e ∙ ap (λ xs. weight xs + m) is

pub begins_at : (e : Expr) (f : Frame) (c : Strand) (frames : Frames) (first : ℕ) (mid : List Frame) (loops scalars : List ℕ) →
    loops ≡ c.loops.items → scalars ≡ c.scalars → mid ≡ f ∷ stack_of c →
    BeginsExpr e loops (slice_index scalars) mid first (frames_of frames) →
    BeginsAt e f c (record c { frames = frames; number = first })
begins_at e f c frames first mid loops scalars loops_is scalars_is mid_is b =
    let side = side_of c.on_host in
    let s = run_of c in
    let b' = subst (λ xs. BeginsExpr e xs (slice_index scalars) mid first (frames_of frames)) loops_is b in record {
      left =
          b'.left side s (ap slice_index (sym scalars_is))
          ∙ ap (λ xs. expr_left e side c.loops.items s.scalars (λ n. rest_of side xs c.loops.items n s)) mid_is;
      weight = weight_past f (stack_of c) mid _ _ mid_is b.weight;
    }

pub begins_value : (v : Source) (e : Expr) (f : Frame) (old new : Strand) → v ≡ Value e → BeginsAt e f old new →
    BeginsSource v f old new
begins_value v e f old new is b = subst (λ w. BeginsSource w f old new) (sym is) (record { left = b.left; weight = b.weight })

-- the next number of the input is read
pub begins_read : (v : Source) (f : Frame) (c : Strand) (frames : Frames) (n : ℕ) (input : Bor (List ℕ)) →
    v ≡ Read → frames_of frames ≡ f ∷ stack_of c →
    read_next (run_of c) ≡ (n, run_of (record c { input = input })) →
    BeginsSource v f c (record c { frames = frames; number = n; input = input })
begins_read v f c frames n input is frames_is e =
    let side = side_of c.on_host in
    subst (λ w. BeginsSource w f c (record c { frames = frames; number = n; input = input })) (sym is) (record {
      left =
          ap (λ xs. rest_of side xs c.loops.items n (run_of (record c { input = input }))) frames_is
          ∙ ap (λ p. rest_of side (f ∷ stack_of c) c.loops.items p.0 p.1) (sym e);
      weight = weight_past f (stack_of c) (frames_of frames) _ 0 frames_is (grind (arith));
    })

read_at : (s : Run) (xs : List ℕ) → length xs < 1 → read_next (record s { input = xs }) ≡ (0, record s { input = xs })
read_at s [] few = refl
read_at s (x ∷ xs) few = absurd (omega arith)

pub read_none : (s : Run) → length s.input < 1 → read_next s ≡ (0, s)
read_none s few = read_at s s.input few

read_first : (s : Run) (xs : List ℕ) → 1 ≤ length xs →
    read_next (record s { input = xs }) ≡ (get_or xs 0 0, record s { input = drop 1 xs })
read_first s [] some = absurd (omega arith)
read_first s (x ∷ xs) some = refl

pub read_some : (s : Run) (rest : List ℕ) → 1 ≤ length s.input → rest ≡ drop 1 s.input →
    read_next s ≡ (get_or s.input 0 0, record s { input = rest })
read_some s rest some is = read_first s s.input some ∙ ap (λ xs. (get_or s.input 0 0, record s { input = xs })) (sym is)
