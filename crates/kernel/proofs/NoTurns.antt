-- A block of which no turn takes part stays as it is.
use Rattle.std.proofs.Common.{◌≡◌, ℕ, Bool, true, false, List, [], ◌∷◌, Some, refl, ap, ap₂, ◌∙◌, if◌then◌else◌}
use Rattle.std.specs.Prelude.{not, ◌&&◌, ◌==◌}
use mathlib.Core.Former.{Count}
use mathlib.Core.Path.{fun_ext}
use Rattle.base.specs.declared.item.Cell.{Cell}
use Rattle.base.specs.declared.tree.Expr.{Expr}
use Rattle.base.specs.declared.tree.Source.TheVariants.{Value, Read}
use Rattle.base.specs.declared.tree.Stmt.{Stmt, Row_of-Stmt, end_of-Stmt, more_of-Stmt}
use Rattle.base.specs.declared.tree.Stmt.TheVariants.{Declare, Assign, Store, Combine, Print, Block', Loop', If'}
use Rattle.base.specs.Memory.{View, Scalars}
use Rattle.base.specs.Value.{is_zero}
use Rattle.base.specs.Meaning.{set_scalar}
use Rattle.lanes.specs.Apart.{Places, Block, numbers, set_lanes, store_lanes, with_lanes, block_stmt, block_row, block_body, where_true, where_false}

-- none of the turns
abbrev pub NoTurn : (ℕ → Bool) → Type 0
NoTurn inside = (v : ℕ) → inside v ≡ false

none_set : (inside : ℕ → Bool) (x : ℕ) (n : ℕ → ℕ) (b : Block) → NoTurn inside → set_lanes inside x n b ≡ b
none_set inside x n b none =
    ap (λ (f : ℕ → Scalars). record b { scalars = f })
    (fun_ext (λ (v : ℕ). ap (λ q. if q then set_scalar x (n v) (b.scalars v) else b.scalars v) (none v)))

never : (p q : Bool) → q ≡ false → (p && q) ≡ false
never true q h = h
never false q h = refl

none_with : (at : Places) (inside : ℕ → Bool) (a : ℕ) (n : ℕ → ℕ) (view : View) → NoTurn inside → with_lanes at inside a n view ≡ view
none_with at inside a n view none =
    fun_ext (λ (c : Cell). ap (λ q. if q then Some (n (at.turn_of c.index)) else view c)
    (never (a == c.array.0) (inside (at.turn_of c.index)) (none (at.turn_of c.index))))

none_store : (at : Places) (inside : ℕ → Bool) (a : ℕ) (n : ℕ → ℕ) (b : Block) → NoTurn inside → store_lanes at inside a n b ≡ b
none_store at inside a n b none =
    ap₂ (λ (p q : View). record b { cells = p; stored = q }) (none_with at inside a n b.cells none) (none_with at inside a n b.stored none)

none_true : (inside : ℕ → Bool) (c : Expr) (b : Block) (loops : List ℕ) → NoTurn inside → NoTurn (where_true inside c b loops)
none_true inside c b loops none v = ap (λ q. q && not (is_zero (numbers c b loops v))) (none v)

none_false : (inside : ℕ → Bool) (c : Expr) (b : Block) (loops : List ℕ) → NoTurn inside → NoTurn (where_false inside c b loops)
none_false inside c b loops none v = ap (λ q. q && is_zero (numbers c b loops v)) (none v)

module _ (at : Places) (loops : List ℕ) where
  mutual
    none_stmt : (s : Stmt) (inside : ℕ → Bool) (b : Block) → NoTurn inside → block_stmt at inside loops s b ≡ b
    none_stmt (Declare x (Value e)) inside b none = none_set inside x.0 (numbers e b loops) b none
    none_stmt (Declare x Read) inside b none = refl
    none_stmt (Assign x (Value e)) inside b none = none_set inside x.0 (numbers e b loops) b none
    none_stmt (Assign x Read) inside b none = refl
    none_stmt (Store a place e (Value f)) inside b none = none_store at inside a.0 (numbers f b loops) b none
    none_stmt (Store a place e Read) inside b none = refl
    none_stmt (Combine op a place e v) inside b none = refl
    none_stmt (Print e) inside b none = refl
    none_stmt (Block' shape all) inside b none = refl
    none_stmt (Loop' c shape all) inside b none = refl
    none_stmt (If' c shape all shape' all') inside b none =
        none_row _ all' (where_false inside c b loops) _ (none_false inside c b loops none)
        ∙ none_row _ all (where_true inside c b loops) b (none_true inside c b loops none)

    none_row : (n : Count) (row : Row_of-Stmt n) (inside : ℕ → Bool) (b : Block) → NoTurn inside → block_row at inside loops row b ≡ b
    none_row n end_of-Stmt inside b none = refl
    none_row n (more_of-Stmt first rest) inside b none =
        none_row _ rest inside (block_stmt at inside loops first b) none ∙ none_stmt first inside b none

  pub none_body : (all : List Stmt) (inside : ℕ → Bool) (b : Block) → NoTurn inside → block_body at inside loops all b ≡ b
  none_body [] inside b none = refl
  none_body (first ∷ rest) inside b none =
      none_body rest inside (block_stmt at inside loops first b) none ∙ none_stmt first inside b none
