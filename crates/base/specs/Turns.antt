-- The turns of a region that may run in any order: what each touches, and where two of them meet.
use Rattle.std.specs.Prelude.{ℕ, ◌≡◌, zero, suc, ◌+◌, Bool, true, false, not, ◌&&◌, ◌||◌, ◌==◌, List, [], ◌∷◌, ◌++◌, Option, Some, None, flat_map}
use Rattle.std.specs.List.{list_any}
use Rattle.base.specs.declared.tree.Bounds.{Bounds}
use Rattle.base.specs.declared.tree.CombineOp.{CombineOp}
use Rattle.base.specs.declared.tree.CombineOp.TheVariants.{Add, Multiply, BitAnd, BitOr, BitXor, Min, Max}
use Rattle.base.specs.declared.tree.Stmt.{Stmt, Row_of-Stmt, end_of-Stmt, more_of-Stmt}
use Rattle.base.specs.declared.tree.Stmt.TheVariants.{Declare, Assign, Store, Combine, Print, Block', Loop', If'}
use Rattle.base.specs.declared.tree.Region.{Region}
use Rattle.base.specs.declared.item.Cell.{Cell}
use Rattle.base.specs.Meaning.{turns_of}
use Rattle.base.specs.Items.{Work}
use Rattle.base.specs.Footprint.{Touch, stmt_touches, has_cell, reads, writes}
use Rattle.base.specs.ScalarUse.{list_assigned, list_needs}

-- one turn: the values of the loops around it, the outermost first, and the statements that it does
pub record Turn : Type 0 where
  pub loops : List ℕ
  pub body : List Stmt

abbrev pub listed : {m : _} → Row_of-Stmt m → List Stmt
listed end_of-Stmt = []
listed (more_of-Stmt first rest) = first ∷ listed rest

-- the loop that a statement is, with its body
abbrev pub loop_of : Stmt → Option (Bounds × List Stmt)
loop_of (Declare x v) = None
loop_of (Assign x v) = None
loop_of (Store a place e v) = None
loop_of (Combine op a place e v) = None
loop_of (Print e) = None
loop_of (Block' shape all) = None
loop_of (Loop' b shape all) = Some (b, listed all)
loop_of (If' c shape all shape' all') = None

-- the loop that is all of these statements
abbrev pub only_loop : List Stmt → Option (Bounds × List Stmt)
only_loop [] = None
only_loop (s ∷ []) = loop_of s
only_loop (s ∷ t ∷ rest) = None

-- what each of n turns gives, the loop's name at v, v + step and so on
abbrev pub each_turn : {A : Type 0} → ℕ → ℕ → ℕ → (ℕ → List A) → List A
each_turn zero v step body = []
each_turn (suc n) v step body = body v ++ each_turn n (v + step) step body

-- the turns of the d outermost loops of these statements, in the order of execution. With d at 0, or where the statements
-- are no single loop, they are one turn
abbrev pub turns_at : ℕ → List Stmt → List ℕ → List Turn
turns_at zero body loops = record { loops = loops; body = body } ∷ []
turns_at (suc d) body loops = elim (only_loop body) [
  | None ↦ record { loops = loops; body = body } ∷ []
  | Some l ↦ each_turn (turns_of l.0) l.0.first l.0.step (λ v. turns_at d l.1 (loops ++ v ∷ []))
]

-- the turns of an item's region that may run in any order; of a region whose turns are in order the one that is all of it
abbrev pub turns_in_work : Work → List Turn
turns_in_work w = of w.region
  where
    of : Option Region → List Turn
    of None = []
    of (Some r) = turns_at r.depth r.body.items w.loops

-- what a turn touches
abbrev pub turn_touches : Turn → List Touch
turn_touches t = flat_map (λ s. stmt_touches s t.loops true) t.body

-- a turn assigns a scalar that the other has to have before it. Where names are declared no turn does
abbrev pub gives_scalar : Turn → Turn → Bool
gives_scalar s t = list_any (λ x. list_needs x t.body) (list_assigned s.body)

-- the operators of commuting updates
abbrev pub operators : List CombineOp
operators = Add ∷ Multiply ∷ BitAnd ∷ BitOr ∷ BitXor ∷ Min ∷ Max ∷ []

abbrev pub operator_number : CombineOp → ℕ
operator_number Add = 0
operator_number Multiply = 1
operator_number BitAnd = 2
operator_number BitOr = 3
operator_number BitXor = 4
operator_number Min = 5
operator_number Max = 6

abbrev pub same_operator : CombineOp → CombineOp → Bool
same_operator op op' = operator_number op == operator_number op'

abbrev pub marked_by : CombineOp → Option CombineOp → Bool
marked_by op None = false
marked_by op (Some op') = same_operator op op'

-- a touch is part of a commuting update by this operator
abbrev pub updates_by : CombineOp → Touch → Bool
updates_by op t = marked_by op t.combines

-- some touch of the cell is no part of a commuting update by this operator
abbrev pub touches_else : CombineOp → List Touch → Cell → Bool
touches_else op touches c = list_any (λ t. not (updates_by op t) && has_cell c t) touches

-- both touch the cell by commuting updates with one operator alone
abbrev pub commute_at : List Touch → List Touch → Cell → Bool
commute_at xs ys c = list_any (λ op. not (touches_else op xs c || touches_else op ys c)) operators

-- one turn writes the cell, and the other reads or writes it, unless both do so by updates that commute; or what the
-- first writes depends on the other's scalars
abbrev pub crosses : Turn → Turn → Cell → Bool
crosses s t c =
    writes (turn_touches s) c
    && (((reads (turn_touches t) c || writes (turn_touches t) c) && not
    (commute_at (turn_touches s) (turn_touches t) c)) || gives_scalar t s)

-- two different turns meet on the cell
abbrev pub turns_meet : List Turn → Cell → Bool
turns_meet [] c = false
turns_meet (s ∷ rest) c = list_any (λ t. crosses s t c || crosses t s c) rest || turns_meet rest c

-- no two different turns meet on any cell
abbrev pub Independent : List Turn → Type 0
Independent turns = (c : Cell) → turns_meet turns c ≡ false
