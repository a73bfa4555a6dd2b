-- Loops that carry a number on: the last statement of a turn makes a scalar, which no other statement names, of itself and
-- of the value of an expression, as a sum does.
use Rattle.std.specs.Prelude.{ℕ, Bool, ◌≡◌, zero, suc, ◌+◌, true, false, List, [], ◌∷◌, ◌++◌, Some}
use Rattle.base.specs.declared.tree.Expr.{Expr}
use Rattle.base.specs.declared.tree.ScalarId.{ScalarId}
use Rattle.base.specs.declared.tree.Source.TheVariants.{Value}
use Rattle.base.specs.declared.tree.Stmt.{Stmt}
use Rattle.base.specs.declared.tree.Stmt.TheVariants.{Assign}
use Rattle.base.specs.Memory.{View}
use Rattle.base.specs.Value.{Names, on_both, value}
use Rattle.base.specs.Meaning.{Run, turn, run_list, set_scalar}
use Rattle.lanes.specs.Apart.{Set, Places, NamesPlaces, HavePlaces, body_apart, assigned_in, loose_body, in_block, Block, block_body, block_start}
use Rattle.lanes.specs.There.{BodyThere}
use Rattle.lanes.specs.Turned.{IsRun}

-- an expression is what f makes of a scalar and of another expression's value
abbrev pub CarriesOn : (ℕ → ℕ → ℕ) → ScalarId → Expr → Expr → Type 0
CarriesOn f x e c = (names : Names) → value c names ≡ on_both f (Some (names.scalars x.0)) (value e names)

-- a number carried on over as many turns, from this one on
abbrev pub folded : (ℕ → ℕ → ℕ) → (ℕ → ℕ) → ℕ → ℕ → ℕ → ℕ
folded f number a zero v = a
folded f number a (suc n) v = folded f number (f a (number v)) n (v + 1)

-- statements that end with an assignment of an expression's value
abbrev pub ended : List Stmt → ScalarId → Expr → List Stmt
ended front x e = front ++ Assign x (Value e) ∷ []

-- a block with the number that its turns' scalars carry on
abbrev pub summed : (ℕ → ℕ → ℕ) → ℕ → ℕ → ℕ → ℕ → Block → Block
summed f x a n first b =
    record b { scalars = λ v. set_scalar x (folded f (λ w. b.scalars w x) a n first) (b.scalars v) }

-- where the turns with the expression alone are apart, turns that carry it on are the block of those, with the number
-- that is carried on over its scalars
abbrev pub SumIsTurns : Type 0
SumIsTurns =
    (f : ℕ → ℕ → ℕ) (front : List Stmt) (x : ScalarId) (e c : Expr) (view : View)
    (here : Expr → Bool) (at : Places) (loops : List ℕ) (stored own : Set) (first more : ℕ) (s u : Run) →
    NamesPlaces here at own s.scalars loops → HavePlaces (in_block first (suc more)) at →
    CarriesOn f x e c → body_apart stored own own here (ended front x e) ≡ true →
    ((y : ℕ) → loose_body own (ended front x e) y ≡ false) → loose_body own front x.0 ≡ true →
    assigned_in front x.0 ≡ false →
    turn (suc more) first 1 (λ v. run_list (ended front x c) view (loops ++ v ∷ [])) s ≡ Some u →
    BodyThere at (in_block first (suc more)) loops (ended front x e) (block_start view s)
    × IsRun view
    (summed f x.0 (s.scalars x.0) (suc more) first
    (block_body at (in_block first (suc more)) loops (ended front x e) (block_start view s))) (first + more) s u
