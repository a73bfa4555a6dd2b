-- What statements without commuting updates touch is part of none.
use Rattle.std.proofs.Common.{◌≡◌, ℕ, zero, suc, ◌+◌, Bool, true, false, List, [], ◌∷◌, ◌++◌, Option, Some, None, refl, sym, ap, ◌∙◌}
use Rattle.std.specs.Prelude.{◌&&◌, ◌||◌}
use Rattle.std.proofs.lemmas.Bool.{false≢true, or_parts}
use Rattle.base.specs.declared.tree.Expr.{Expr}
use Rattle.base.specs.declared.tree.Expr.TheVariants.{Number, Scalar, LoopName, Cell', Unary', Binary', And', Or', Shift', Divide'}
use Rattle.base.specs.declared.tree.Source.{Source}
use Rattle.base.specs.declared.tree.Source.TheVariants.{Value, Read}
use Rattle.base.specs.declared.tree.Stmt.{Stmt, Row_of-Stmt, end_of-Stmt, more_of-Stmt}
use Rattle.base.specs.declared.tree.Stmt.TheVariants.{Declare, Assign, Store, Combine, Print, Block', Loop', If'}
use Rattle.base.specs.Meaning.{turns_of}
use Rattle.base.specs.Interval.{interval, is_known_zero, is_known_nonzero}
use Rattle.base.specs.Footprint.{Touch, expr_touches, source_touches, stmt_touches, row_touches, turns_touch, unless}
use Rattle.regions.proofs.Needs.{Every, every_append}
use Rattle.spans.specs.Spans.{updates, row_updates}

abbrev pub IsPlain : Touch → Type 0
IsPlain t = t.combines ≡ None

expr_plain : (e : Expr) (loops : List ℕ) (certain : Bool) → Every IsPlain (expr_touches e loops certain)
expr_plain (Number n) loops certain = tt
expr_plain (Scalar x) loops certain = tt
expr_plain (LoopName level) loops certain = tt
expr_plain (Cell' a place p e) loops certain =
    every_append IsPlain (expr_touches e loops certain) _ (expr_plain e loops certain) (refl, tt)
expr_plain (Unary' op p e) loops certain = expr_plain e loops certain
expr_plain (Binary' op p e q f) loops certain =
    every_append IsPlain (expr_touches e loops certain) _ (expr_plain e loops certain) (expr_plain f loops certain)
expr_plain (And' p e q f) loops certain =
    every_append IsPlain (expr_touches e loops certain) _ (expr_plain e loops certain) (expr_plain f loops certain)
expr_plain (Or' p e q f) loops certain =
    every_append IsPlain (expr_touches e loops certain) _ (expr_plain e loops certain) (expr_plain f loops certain)
expr_plain (Shift' op p e n) loops certain = expr_plain e loops certain
expr_plain (Divide' op p e n) loops certain = expr_plain e loops certain

source_plain : (v : Source) (loops : List ℕ) (certain : Bool) → Every IsPlain (source_touches v loops certain)
source_plain (Value e) loops certain = expr_plain e loops certain
source_plain Read loops certain = tt

unless_plain : (b : Bool) (xs : List Touch) → Every IsPlain xs → Every IsPlain (unless b xs)
unless_plain true xs h = tt
unless_plain false xs h = h

turns_plain : (n v step : ℕ) (body : ℕ → List Touch) → ((v : ℕ) → Every IsPlain (body v)) →
    Every IsPlain (turns_touch n v step body)
turns_plain zero v step body h = tt
turns_plain (suc n) v step body h = every_append IsPlain (body v) _ (h v) (turns_plain n (v + step) step body h)

mutual
  pub stmt_plain : (st : Stmt) (loops : List ℕ) (certain : Bool) → updates st ≡ false →
      Every IsPlain (stmt_touches st loops certain)
  stmt_plain (Declare x v) loops certain h = source_plain v loops certain
  stmt_plain (Assign x v) loops certain h = source_plain v loops certain
  stmt_plain (Store a place e v) loops certain h =
      every_append IsPlain (expr_touches e loops certain) _ (expr_plain e loops certain)
      (every_append IsPlain (source_touches v loops certain) _ (source_plain v loops certain) (refl, tt))
  stmt_plain (Combine op a place e v) loops certain h = absurd (false≢true (sym h))
  stmt_plain (Print e) loops certain h = expr_plain e loops certain
  stmt_plain (Block' shape all) loops certain h = row_plain all loops certain h
  stmt_plain (Loop' b shape all) loops certain h =
      turns_plain (turns_of b) b.first b.step _ (λ v. row_plain all (loops ++ v ∷ []) certain h)
  stmt_plain (If' c shape all shape' all') loops certain h =
      let p = or_parts (row_updates all) (row_updates all') h in
      let i = interval c loops in
      let xs = row_touches all loops (certain && is_known_nonzero i) in
      let ys = row_touches all' loops (certain && is_known_zero i) in
      every_append IsPlain (expr_touches c loops certain) (unless (is_known_zero i) xs ++ unless (is_known_nonzero i) ys)
      (expr_plain c loops certain)
      (every_append IsPlain (unless (is_known_zero i) xs) (unless (is_known_nonzero i) ys)
      (unless_plain (is_known_zero i) xs (row_plain all loops (certain && is_known_nonzero i) p.0))
      (unless_plain (is_known_nonzero i) ys (row_plain all' loops (certain && is_known_zero i) p.1)))

  row_plain : {m : _} (row : Row_of-Stmt m) (loops : List ℕ) (certain : Bool) → row_updates row ≡ false →
      Every IsPlain (row_touches row loops certain)
  row_plain end_of-Stmt loops certain h = tt
  row_plain (more_of-Stmt first rest) loops certain h =
      let p = or_parts (updates first) (row_updates rest) h in
      every_append IsPlain (stmt_touches first loops certain) _ (stmt_plain first loops certain p.0)
      (row_plain rest loops certain p.1)
