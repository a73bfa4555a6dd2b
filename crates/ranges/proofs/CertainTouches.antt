-- Whether the conditions around statements are known to let them run changes of their touches only whether these are certain.
use Rattle.std.proofs.Common.{◌≡◌, ℕ, zero, suc, ◌+◌, Bool, true, false, List, [], ◌∷◌, ◌++◌, map, refl, sym, ap, ap₂, ◌∙◌}
use Rattle.std.specs.Prelude.{◌&&◌}
use Rattle.base.specs.declared.tree.Expr.{Expr}
use Rattle.base.specs.declared.tree.Expr.TheVariants.{Number, Scalar, LoopName, Cell', Unary', Binary', And', Or', Shift', Divide'}
use Rattle.base.specs.declared.tree.Source.{Source}
use Rattle.base.specs.declared.tree.Source.TheVariants.{Value, Read}
use Rattle.base.specs.declared.tree.Stmt.{Stmt, Row_of-Stmt, end_of-Stmt, more_of-Stmt}
use Rattle.base.specs.declared.tree.Stmt.TheVariants.{Declare, Assign, Store, Combine, Print, Block', Loop', If'}
use Rattle.base.specs.Meaning.{turns_of}
use Rattle.base.specs.Interval.{interval, is_known_zero, is_known_nonzero}
use Rattle.base.specs.Footprint.{Touch, expr_touches, source_touches, stmt_touches, row_touches, turns_touch, unless, update_touch}
use Rattle.ranges.specs.Seen.{list_touches}

abbrev pub as_certain : Touch → Touch
as_certain t = record t { certain = true }

abbrev AreAlike : List Touch → List Touch → Type 0
AreAlike xs ys = map as_certain xs ≡ map as_certain ys

map_append : (xs ys : List Touch) → map as_certain (xs ++ ys) ≡ map as_certain xs ++ map as_certain ys
map_append [] ys = refl
map_append (x ∷ xs) ys = ap (λ ts. as_certain x ∷ ts) (map_append xs ys)

alike_append : (xs us ys vs : List Touch) → AreAlike xs us → AreAlike ys vs → AreAlike (xs ++ ys) (us ++ vs)
alike_append xs us ys vs h k = map_append xs ys ∙ ap₂ (λ a b. a ++ b) h k ∙ sym (map_append us vs)

alike_turns : (n v step : ℕ) (f g : ℕ → List Touch) → ((v : ℕ) → AreAlike (f v) (g v)) →
    AreAlike (turns_touch n v step f) (turns_touch n v step g)
alike_turns zero v step f g h = refl
alike_turns (suc n) v step f g h =
    alike_append (f v) (g v) (turns_touch n (v + step) step f) (turns_touch n (v + step) step g) (h v)
    (alike_turns n (v + step) step f g h)

alike_unless : (excluded : Bool) (xs ys : List Touch) → AreAlike xs ys → AreAlike (unless excluded xs) (unless excluded ys)
alike_unless true xs ys h = refl
alike_unless false xs ys h = h

expr_alike : (e : Expr) (loops : List ℕ) (b d : Bool) → AreAlike (expr_touches e loops b) (expr_touches e loops d)
expr_alike (Number n) loops b d = refl
expr_alike (Scalar x) loops b d = refl
expr_alike (LoopName level) loops b d = refl
expr_alike (Cell' a place p e) loops b d =
    alike_append (expr_touches e loops b) (expr_touches e loops d) _ _ (expr_alike e loops b d) refl
expr_alike (Unary' op p e) loops b d = expr_alike e loops b d
expr_alike (Binary' op p e q f) loops b d =
    alike_append (expr_touches e loops b) (expr_touches e loops d) _ _ (expr_alike e loops b d) (expr_alike f loops b d)
expr_alike (And' p e q f) loops b d =
    alike_append (expr_touches e loops b) (expr_touches e loops d) _ _ (expr_alike e loops b d) (expr_alike f loops b d)
expr_alike (Or' p e q f) loops b d =
    alike_append (expr_touches e loops b) (expr_touches e loops d) _ _ (expr_alike e loops b d) (expr_alike f loops b d)
expr_alike (Shift' op p e n) loops b d = expr_alike e loops b d
expr_alike (Divide' op p e n) loops b d = expr_alike e loops b d

source_alike : (v : Source) (loops : List ℕ) (b d : Bool) → AreAlike (source_touches v loops b) (source_touches v loops d)
source_alike (Value e) loops b d = expr_alike e loops b d
source_alike Read loops b d = refl

mutual
  stmt_alike : (s : Stmt) (loops : List ℕ) (b d : Bool) → AreAlike (stmt_touches s loops b) (stmt_touches s loops d)
  stmt_alike (Declare x v) loops b d = source_alike v loops b d
  stmt_alike (Assign x v) loops b d = source_alike v loops b d
  stmt_alike (Store a place e v) loops b d =
      alike_append (expr_touches e loops b) (expr_touches e loops d) _ _ (expr_alike e loops b d)
      (alike_append (source_touches v loops b) (source_touches v loops d) _ _ (source_alike v loops b d) refl)
  stmt_alike (Combine op a place e v) loops b d =
      alike_append (expr_touches e loops b) (expr_touches e loops d) _ _ (expr_alike e loops b d)
      (alike_append (expr_touches v loops b ++ update_touch op a (interval e loops) false b place ∷ [])
      (expr_touches v loops d ++ update_touch op a (interval e loops) false d place ∷ []) _ _
      (alike_append (expr_touches v loops b) (expr_touches v loops d) _ _ (expr_alike v loops b d) refl) refl)
  stmt_alike (Print e) loops b d = expr_alike e loops b d
  stmt_alike (Block' shape all) loops b d = row_alike all loops b d
  stmt_alike (Loop' bounds shape all) loops b d =
      alike_turns (turns_of bounds) bounds.first bounds.step (λ v. row_touches all (loops ++ v ∷ []) b)
      (λ v. row_touches all (loops ++ v ∷ []) d) (λ v. row_alike all (loops ++ v ∷ []) b d)
  stmt_alike (If' c shape all shape' all') loops b d =
      let k = interval c loops in
      alike_append (expr_touches c loops b) (expr_touches c loops d) _ _ (expr_alike c loops b d)
      (alike_append (unless (is_known_zero k) (row_touches all loops (b && is_known_nonzero k)))
      (unless (is_known_zero k) (row_touches all loops (d && is_known_nonzero k))) _ _
      (alike_unless (is_known_zero k) (row_touches all loops (b && is_known_nonzero k))
      (row_touches all loops (d && is_known_nonzero k))
      (row_alike all loops (b && is_known_nonzero k) (d && is_known_nonzero k)))
      (alike_unless (is_known_nonzero k) (row_touches all' loops (b && is_known_zero k))
      (row_touches all' loops (d && is_known_zero k))
      (row_alike all' loops (b && is_known_zero k) (d && is_known_zero k))))

  row_alike : {m : _} (row : Row_of-Stmt m) (loops : List ℕ) (b d : Bool) →
      AreAlike (row_touches row loops b) (row_touches row loops d)
  row_alike end_of-Stmt loops b d = refl
  row_alike (more_of-Stmt first rest) loops b d =
      alike_append (stmt_touches first loops b) (stmt_touches first loops d) _ _ (stmt_alike first loops b d)
      (row_alike rest loops b d)

list_alike : (all : List Stmt) (loops : List ℕ) (b d : Bool) → AreAlike (list_touches all loops b) (list_touches all loops d)
list_alike [] loops b d = refl
list_alike (s ∷ all) loops b d =
    alike_append (stmt_touches s loops b) (stmt_touches s loops d) _ _ (stmt_alike s loops b d) (list_alike all loops b d)

pub branch_alike : (excluded : Bool) (all : List Stmt) (loops : List ℕ) (b d : Bool) →
    map as_certain (unless excluded (list_touches all loops b)) ≡ map as_certain (unless excluded (list_touches all loops d))
branch_alike excluded all loops b d =
    alike_unless excluded (list_touches all loops b) (list_touches all loops d) (list_alike all loops b d)
