-- Statements that are apart are so where fewer scalars are loose.
use Rattle.std.proofs.Common.{◌≡◌, ℕ, Bool, true, false, List, [], ◌∷◌, refl, ap₂}
use Rattle.std.specs.Prelude.{not, ◌&&◌, ◌==◌}
use Rattle.std.proofs.lemmas.Bool.{and_parts, false≢true}
use mathlib.Core.Former.{Count}
use Rattle.base.specs.declared.tree.Expr.{Expr}
use Rattle.base.specs.declared.tree.Expr.TheVariants.{Number, Scalar, LoopName, Cell', Unary', Binary', And', Or', Shift', Divide'}
use Rattle.base.specs.declared.tree.Source.{Source}
use Rattle.base.specs.declared.tree.Source.TheVariants.{Value, Read}
use Rattle.base.specs.declared.tree.Stmt.{Stmt, Row_of-Stmt, end_of-Stmt, more_of-Stmt}
use Rattle.base.specs.declared.tree.Stmt.TheVariants.{Declare, Assign, Store, Combine, Print, Block', Loop', If'}
use Rattle.lanes.specs.Apart.{Set, is_apart, source_apart, stmt_apart, row_apart, body_apart, loose_after}

-- of these scalars the others are no more
abbrev pub Within : Set → Set → Type 0
Within fewer loose = (x : ℕ) → fewer x ≡ true → loose x ≡ true

both : (p q p' q' : Bool) → (p ≡ true → p' ≡ true) → (q ≡ true → q' ≡ true) → (p && q) ≡ true → (p' && q') ≡ true
both p q p' q' f g h = let l = and_parts p q h in ap₂ (λ a b. a && b) (f l.0) (g l.1)

not_loose : (a b : Bool) → (b ≡ true → a ≡ true) → not a ≡ true → not b ≡ true
not_loose true b h k = absurd cc
not_loose false false h k = refl
not_loose false true h k = absurd (false≢true (h refl))

after_less : (loose : Set) (s : Stmt) → Within (loose_after loose s) loose
after_less loose (Declare x v) y h = (and_parts (not (x.0 == y)) (loose y) h).1
after_less loose (Assign x v) y h = (and_parts (not (x.0 == y)) (loose y) h).1
after_less loose (Store a place e v) y h = h
after_less loose (Combine op a place e v) y h = h
after_less loose (Print e) y h = h
after_less loose (Block' shape all) y h = h
after_less loose (Loop' b shape all) y h = h
after_less loose (If' c shape all shape' all') y h = h

after_within : (fewer loose : Set) (s : Stmt) → Within fewer loose → Within (loose_after fewer s) (loose_after loose s)
after_within fewer loose (Declare x v) w y h =
    let l = and_parts (not (x.0 == y)) (fewer y) h in ap₂ (λ a b. a && b) l.0 (w y l.1)
after_within fewer loose (Assign x v) w y h =
    let l = and_parts (not (x.0 == y)) (fewer y) h in ap₂ (λ a b. a && b) l.0 (w y l.1)
after_within fewer loose (Store a place e v) w y h = w y h
after_within fewer loose (Combine op a place e v) w y h = w y h
after_within fewer loose (Print e) w y h = w y h
after_within fewer loose (Block' shape all) w y h = w y h
after_within fewer loose (Loop' b shape all) w y h = w y h
after_within fewer loose (If' c shape all shape' all') w y h = w y h

module _ (stored own : Set) (here : Expr → Bool) where
  expr_less : (fewer loose : Set) (e : Expr) → Within fewer loose → is_apart stored loose here e ≡ true →
      is_apart stored fewer here e ≡ true
  expr_less fewer loose (Number n) w h = refl
  expr_less fewer loose (Scalar x) w h = not_loose (loose x.0) (fewer x.0) (w x.0) h
  expr_less fewer loose (LoopName l) w h = refl
  expr_less fewer loose (Cell' a place p e) w h = both _ _ _ _ (λ k. k) (expr_less fewer loose e w) h
  expr_less fewer loose (Unary' op p e) w h = expr_less fewer loose e w h
  expr_less fewer loose (Binary' op p e q f) w h = both _ _ _ _ (expr_less fewer loose e w) (expr_less fewer loose f w) h
  expr_less fewer loose (And' p e q f) w h = both _ _ _ _ (expr_less fewer loose e w) (expr_less fewer loose f w) h
  expr_less fewer loose (Or' p e q f) w h = both _ _ _ _ (expr_less fewer loose e w) (expr_less fewer loose f w) h
  expr_less fewer loose (Shift' op p e n) w h = expr_less fewer loose e w h
  expr_less fewer loose (Divide' op p e n) w h = expr_less fewer loose e w h

  source_less : (fewer loose : Set) (v : Source) → Within fewer loose → source_apart stored loose here v ≡ true →
      source_apart stored fewer here v ≡ true
  source_less fewer loose (Value e) w h = expr_less fewer loose e w h
  source_less fewer loose Read w h = h

  mutual
    stmt_less : (s : Stmt) (fewer loose : Set) → Within fewer loose → stmt_apart stored own loose here s ≡ true →
        stmt_apart stored own fewer here s ≡ true
    stmt_less (Declare x v) fewer loose w h = both _ _ _ _ (λ k. k) (source_less fewer loose v w) h
    stmt_less (Assign x v) fewer loose w h = both _ _ _ _ (λ k. k) (source_less fewer loose v w) h
    stmt_less (Store a place e v) fewer loose w h =
        both _ _ _ _ (λ k. k) (both _ _ _ _ (λ k. k) (source_less fewer loose v w)) h
    stmt_less (Combine op a place e v) fewer loose w h = h
    stmt_less (Print e) fewer loose w h = h
    stmt_less (Block' shape all) fewer loose w h = h
    stmt_less (Loop' b shape all) fewer loose w h = h
    stmt_less (If' c shape all shape' all') fewer loose w h =
        both _ _ _ _ (expr_less fewer loose c w) (both _ _ _ _ (row_less _ all fewer loose w) (row_less _ all' fewer loose w)) h

    row_less : (n : Count) (row : Row_of-Stmt n) (fewer loose : Set) → Within fewer loose → row_apart stored own loose here row ≡ true →
        row_apart stored own fewer here row ≡ true
    row_less n end_of-Stmt fewer loose w h = refl
    row_less n (more_of-Stmt first rest) fewer loose w h =
        both _ _ _ _ (stmt_less first fewer loose w)
        (row_less _ rest (loose_after fewer first) (loose_after loose first) (after_within fewer loose first w)) h

  body_less : (all : List Stmt) (fewer loose : Set) → Within fewer loose → body_apart stored own loose here all ≡ true →
      body_apart stored own fewer here all ≡ true
  body_less [] fewer loose w h = refl
  body_less (first ∷ rest) fewer loose w h =
      both _ _ _ _ (stmt_less first fewer loose w)
      (body_less rest (loose_after fewer first) (loose_after loose first) (after_within fewer loose first w)) h

  -- what the first statement assigns is not looked at in the others
  pub one_more_apart : (loose : Set) (first : Stmt) (rest : List Stmt) → stmt_apart stored own loose here first ≡ true →
      body_apart stored own loose here rest ≡ true → body_apart stored own loose here (first ∷ rest) ≡ true
  one_more_apart loose first rest h k =
      ap₂ (λ a b. a && b) h (body_less rest (loose_after loose first) loose (after_less loose first) k)
