-- Where a statement reads a cell for an update, it writes the cell too.
use Rattle.std.proofs.Common.{◌≡◌, ℕ, zero, suc, ◌+◌, Bool, true, false, List, [], ◌∷◌, ◌++◌, Option, Some, None, refl, sym, ap, ◌∙◌, ⊎_elim}
use Rattle.std.specs.Prelude.{◌&&◌, ◌||◌}
use Rattle.std.specs.List.{list_any}
use Rattle.std.proofs.lemmas.Bool.{false≢true, or_cases, or_left, or_right, and_parts}
use Rattle.std.proofs.lemmas.List.Folds.{list_any-append}
use Rattle.base.specs.declared.item.Cell.{Cell}
use Rattle.base.specs.declared.fault.Interval.{Interval}
use Rattle.base.specs.declared.tree.ArrayId.{ArrayId}
use Rattle.base.specs.declared.tree.CombineOp.{CombineOp}
use Rattle.base.specs.declared.tree.Place.{Place}
use Rattle.base.specs.declared.tree.Expr.{Expr}
use Rattle.base.specs.declared.tree.Expr.TheVariants.{Number, Scalar, LoopName, Cell', Unary', Binary', And', Or', Shift', Divide'}
use Rattle.base.specs.declared.tree.Source.{Source}
use Rattle.base.specs.declared.tree.Source.TheVariants.{Value, Read}
use Rattle.base.specs.declared.tree.Stmt.{Stmt, Row_of-Stmt, end_of-Stmt, more_of-Stmt}
use Rattle.base.specs.declared.tree.Stmt.TheVariants.{Declare, Assign, Store, Combine, Print, Block', Loop', If'}
use Rattle.base.specs.Meaning.{turns_of}
use Rattle.base.specs.Interval.{interval, is_known_zero, is_known_nonzero}
use Rattle.base.specs.Footprint.{Touch, expr_touches, source_touches, stmt_touches, row_touches, turns_touch, unless, update_touch, has_cell, writes}
use Rattle.base.specs.Turns.{Turn, turn_touches}
use Rattle.ranges.specs.Seen.{list_touches}
use Rattle.ranges.proofs.WayTests.{is_marked}

abbrev pub updates_at : List Touch → Cell → Bool
updates_at xs c = list_any (λ t. is_marked t.combines && has_cell c t) xs

abbrev pub IsPaired : List Touch → Type 0
IsPaired xs = (c : Cell) → updates_at xs c ≡ true → writes xs c ≡ true

paired_append : (xs ys : List Touch) → IsPaired xs → IsPaired ys → IsPaired (xs ++ ys)
paired_append xs ys h k c u =
    list_any-append (λ t. t.is_write && has_cell c t) xs ys
    ∙ ⊎_elim (λ e. or_left (writes xs c) (writes ys c) (h c e)) (λ e. or_right (writes xs c) (writes ys c) (k c e))
    (or_cases (updates_at xs c) (updates_at ys c) (sym (list_any-append (λ t. is_marked t.combines && has_cell c t) xs ys) ∙ u))

paired_turns : (n v step : ℕ) (f : ℕ → List Touch) → ((v : ℕ) → IsPaired (f v)) → IsPaired (turns_touch n v step f)
paired_turns zero v step f h c u = absurd (false≢true u)
paired_turns (suc n) v step f h c u =
    paired_append (f v) (turns_touch n (v + step) step f) (h v) (paired_turns n (v + step) step f h) c u

paired_unless : (excluded : Bool) (xs : List Touch) → IsPaired xs → IsPaired (unless excluded xs)
paired_unless true xs h c u = absurd (false≢true u)
paired_unless false xs h c u = h c u

none_paired : IsPaired []
none_paired c u = absurd (false≢true u)

-- a touch that is part of no update
abbrev plain : ArrayId → Interval → Bool → Bool → Place → Touch
plain a cells is_write certain place =
    record {
      array = a;
      cells = cells;
      is_write = is_write;
      certain = certain;
      combines = None;
      place = place;
    }

plain_paired : (t : Touch) → t.combines ≡ None → IsPaired (t ∷ [])
plain_paired t e c u =
    ⊎_elim (λ h. absurd (false≢true (sym (ap is_marked e) ∙ (and_parts (is_marked t.combines) (has_cell c t) h).0)))
    (λ h. absurd (false≢true h)) (or_cases (is_marked t.combines && has_cell c t) false u)

-- the load and the store of an update, behind others
update_paired : (xs : List Touch) (op : CombineOp) (a : ArrayId) (cells : Interval) (b : Bool) (place : Place) →
    IsPaired xs →
    IsPaired ((xs ++ update_touch op a cells false b place ∷ []) ++ update_touch op a cells true b place ∷ [])
update_paired xs op a cells b place h c u =
    list_any-append (λ t. t.is_write && has_cell c t) (xs ++ load ∷ []) (store ∷ [])
    ∙ ⊎_elim before (λ e. or_right (writes (xs ++ load ∷ []) c) (writes (store ∷ []) c) e)
    (or_cases (updates_at (xs ++ load ∷ []) c) (updates_at (store ∷ []) c)
    (sym (list_any-append marked (xs ++ load ∷ []) (store ∷ [])) ∙ u))
  where
    load : Touch
    load = update_touch op a cells false b place

    store : Touch
    store = update_touch op a cells true b place

    marked : Touch → Bool
    marked t = is_marked t.combines && has_cell c t

    before : updates_at (xs ++ load ∷ []) c ≡ true → (writes (xs ++ load ∷ []) c || writes (store ∷ []) c) ≡ true
    before e =
        ⊎_elim (λ f. or_left (writes (xs ++ load ∷ []) c) (writes (store ∷ []) c)
        (list_any-append (λ t. t.is_write && has_cell c t) xs (load ∷ []) ∙ or_left (writes xs c) (writes (load ∷ []) c) (h c f)))
        (λ f. or_right (writes (xs ++ load ∷ []) c) (writes (store ∷ []) c) f)
        (or_cases (updates_at xs c) (updates_at (load ∷ []) c) (sym (list_any-append marked xs (load ∷ [])) ∙ e))

expr_paired : (e : Expr) (loops : List ℕ) (b : Bool) → IsPaired (expr_touches e loops b)
expr_paired (Number n) loops b = none_paired
expr_paired (Scalar x) loops b = none_paired
expr_paired (LoopName level) loops b = none_paired
expr_paired (Cell' a place p e) loops b =
    paired_append (expr_touches e loops b) (plain a (interval e loops) false b place ∷ []) (expr_paired e loops b)
    (plain_paired (plain a (interval e loops) false b place) refl)
expr_paired (Unary' op p e) loops b = expr_paired e loops b
expr_paired (Binary' op p e q f) loops b =
    paired_append (expr_touches e loops b) (expr_touches f loops b) (expr_paired e loops b) (expr_paired f loops b)
expr_paired (And' p e q f) loops b =
    paired_append (expr_touches e loops b) (expr_touches f loops b) (expr_paired e loops b) (expr_paired f loops b)
expr_paired (Or' p e q f) loops b =
    paired_append (expr_touches e loops b) (expr_touches f loops b) (expr_paired e loops b) (expr_paired f loops b)
expr_paired (Shift' op p e n) loops b = expr_paired e loops b
expr_paired (Divide' op p e n) loops b = expr_paired e loops b

source_paired : (v : Source) (loops : List ℕ) (b : Bool) → IsPaired (source_touches v loops b)
source_paired (Value e) loops b = expr_paired e loops b
source_paired Read loops b = none_paired

mutual
  stmt_paired : (s : Stmt) (loops : List ℕ) (b : Bool) → IsPaired (stmt_touches s loops b)
  stmt_paired (Declare x v) loops b = source_paired v loops b
  stmt_paired (Assign x v) loops b = source_paired v loops b
  stmt_paired (Store a place e v) loops b =
      let store = plain a (interval e loops) true b place in
      paired_append (expr_touches e loops b) (source_touches v loops b ++ store ∷ []) (expr_paired e loops b)
      (paired_append (source_touches v loops b) (store ∷ []) (source_paired v loops b) (plain_paired store refl))
  stmt_paired (Combine op a place e v) loops b =
      paired_append (expr_touches e loops b) _ (expr_paired e loops b)
      (update_paired (expr_touches v loops b) op a (interval e loops) b place (expr_paired v loops b))
  stmt_paired (Print e) loops b = expr_paired e loops b
  stmt_paired (Block' shape all) loops b = row_paired all loops b
  stmt_paired (Loop' bounds shape all) loops b =
      paired_turns (turns_of bounds) bounds.first bounds.step (λ v. row_touches all (loops ++ v ∷ []) b)
      (λ v. row_paired all (loops ++ v ∷ []) b)
  stmt_paired (If' c shape all shape' all') loops b =
      let k = interval c loops in
      paired_append (expr_touches c loops b) _ (expr_paired c loops b)
      (paired_append (unless (is_known_zero k) (row_touches all loops (b && is_known_nonzero k))) _
      (paired_unless (is_known_zero k) (row_touches all loops (b && is_known_nonzero k))
      (row_paired all loops (b && is_known_nonzero k)))
      (paired_unless (is_known_nonzero k) (row_touches all' loops (b && is_known_zero k))
      (row_paired all' loops (b && is_known_zero k))))

  row_paired : {m : _} (row : Row_of-Stmt m) (loops : List ℕ) (b : Bool) → IsPaired (row_touches row loops b)
  row_paired end_of-Stmt loops b = none_paired
  row_paired (more_of-Stmt first rest) loops b =
      paired_append (stmt_touches first loops b) (row_touches rest loops b) (stmt_paired first loops b) (row_paired rest loops b)

list_paired : (all : List Stmt) (loops : List ℕ) → IsPaired (list_touches all loops true)
list_paired [] loops = none_paired
list_paired (s ∷ all) loops =
    paired_append (stmt_touches s loops true) (list_touches all loops true) (stmt_paired s loops true) (list_paired all loops)

pub turn_paired : (t : Turn) → IsPaired (turn_touches t)
turn_paired t = list_paired t.body t.loops
