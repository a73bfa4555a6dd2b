-- What is left of a strand, and where it stands.
use Rattle.std.specs.Prelude.{ℕ, ◌≡◌, ◌+◌, ◌<◌, zero, suc, Bool, true, false, List, [], ◌∷◌, Option, Some, None, slice_index}
use Rattle.std.specs.Borrow.{Bor}
use Rattle.base.specs.declared.item.Cell.{Cell}
use Rattle.base.specs.declared.item.MapItem.{MapItem}
use Rattle.base.specs.declared.item.Section.{Section}
use Rattle.base.specs.declared.tree.Expr.{Expr}
use Rattle.base.specs.declared.tree.Source.{Source}
use Rattle.base.specs.declared.tree.Stmt.{Stmt}
use Rattle.base.specs.Meaning.{Run}
use Rattle.fine_machine.specs.Left.{Left, Finished, Asks, Side, OnHost, OnDevice, Request, Answer, left_if, section_left, expr_left, source_left, stmt_left}
use Rattle.fine_machine.specs.Left as left
use Rattle.present.specs.Blocks.{IsSection}
use Rattle.actions.specs.declared.action.Action.{Action}
use Rattle.actions.specs.declared.action.Action.TheVariants as action
use Rattle.actions.specs.declared.strand.Strand.{Strand}
use Rattle.actions.specs.declared.frame.Frame.{Frame}
use Rattle.actions.specs.declared.frame.Frame.TheVariants as frame
use Rattle.actions.specs.declared.maps.Maps.{Maps}
use Rattle.actions.specs.declared.turns.Turns.{Turns}
use Rattle.actions.specs.Rest.{frames_of, rest_of, top}
use Rattle.actions.specs.Weight.{expr_weight, frame_weight, source_weight, stmt_weight, weight}

abbrev pub side_of : Bool → Side
side_of true = OnHost
side_of false = OnDevice

abbrev pub run_of : Strand → Run
run_of c =
    record { scalars = slice_index c.scalars; stores = []; input = c.input.now; printed = c.printed.items }

abbrev pub stack_of : Strand → List Frame
stack_of c = frames_of c.frames

-- with these parts before those of its own
abbrev pub left_with : List Frame → Strand → Left
left_with frames c = rest_of (side_of c.on_host) frames c.loops.items c.number (run_of c)

abbrev pub left_of : Strand → Left
left_of c = left_with (stack_of c) c

abbrev pub is_some_left : List MapItem → Bool
is_some_left [] = false
is_some_left (item ∷ rest) = true

abbrev pub is_positive : ℕ → Bool
is_positive zero = false
is_positive (suc n) = true

-- a part whose next step is an action on the memories
abbrev pub is_action : Frame → Bool
is_action (frame.Load a) = true
is_action (frame.Store a i) = true
is_action (frame.Combine op a i) = true
is_action (frame.Entries maps) = is_some_left maps.items.now
is_action (frame.Exits maps) = is_some_left maps.items.now
is_action (frame.CopyIn cells) = is_positive cells.count
is_action (frame.CopyOut cells) = is_positive cells.count
is_action (frame.Remove held) = true
is_action _ = false

abbrev pub stops_at : Option Frame → Bool
stops_at None = true
stops_at (Some f) = is_action f

-- an action comes next, or nothing is left
abbrev pub IsStopped : Strand → Type 0
IsStopped c = stops_at (top (stack_of c)) ≡ true

abbrev pub is_first_action : Option Frame → Bool
is_first_action None = false
is_first_action (Some f) = is_action f

-- an action comes next in a strand
abbrev pub IsActing : Strand → Type 0
IsActing s = is_first_action (top (stack_of s)) ≡ true

-- a part was taken off, which is no action
pub record IsPending (f : Frame) (old new : Strand) : Type 0 where
  pub quiet : is_action f ≡ false
  pub left : left_with (f ∷ stack_of new) new ≡ left_of old
  pub weight : weight (stack_of old) ≡ frame_weight f + weight (stack_of new)

-- a part that was taken off, and is no action, is done
pub record Takes (f : Frame) (old new : Strand) : Type 0 where
  pub left : left_of new ≡ left_with (f ∷ stack_of old) old
  pub weight : weight (stack_of new) < frame_weight f + weight (stack_of old)

-- a source, or a statement, is begun
pub record BeginsSource (v : Source) (f : Frame) (old new : Strand) : Type 0 where
  pub left : left_of new ≡ source_left v (side_of old.on_host) old.loops.items (run_of old)
      (λ n t. rest_of (side_of old.on_host) (f ∷ stack_of old) old.loops.items n t)
  pub weight : weight (stack_of new) ≡ (frame_weight f + weight (stack_of old)) + source_weight v

-- an expression is begun
pub record BeginsAt (e : Expr) (f : Frame) (old new : Strand) : Type 0 where
  pub left : left_of new ≡ expr_left e (side_of old.on_host) old.loops.items (run_of old).scalars
      (λ n. rest_of (side_of old.on_host) (f ∷ stack_of old) old.loops.items n (run_of old))
  pub weight : weight (stack_of new) ≡ (frame_weight f + weight (stack_of old)) + expr_weight e

pub record BeginsStmt (s : Stmt) (old new : Strand) : Type 0 where
  pub left : left_of new ≡ stmt_left s (side_of old.on_host) old.loops.items (run_of old)
      (λ t. rest_of (side_of old.on_host) (stack_of old) old.loops.items 0 t)
  pub weight : weight (stack_of new) ≡ weight (stack_of old) + stmt_weight s

-- some statements, or the turns of a loop, that were taken off are done
abbrev pub TakesRest : List Stmt → Strand → Strand → Type 0
TakesRest all old new = (xs : Bor (List Stmt)) → xs.now ≡ all → Takes (frame.Rest xs) old new

abbrev pub TakesTurns : Turns → List Stmt → Strand → Strand → Type 0
TakesTurns turns body old new = (xs : Bor (List Stmt)) → xs.now ≡ body → Takes (frame.Turns turns xs) old new

-- the left operand decides, or the right one is evaluated to a truth value
abbrev pub TakesRight : Bool → ℕ → Expr → Strand → Strand → Type 0
TakesRight true value e old new = new ≡ record old { number = value }
TakesRight false value e old new = BeginsAt e frame.Truth old new

-- the action as the machine has it
abbrev pub request_of : Side → Action → Request
request_of side (action.Load c) = left.Load side c
request_of side (action.Store c n) = left.Store side c n
request_of side (action.Combine op c n) = left.Combine side op c n
request_of side (action.Enter item) = left.Enter item
request_of side (action.Leave item) = left.Leave item
request_of side (action.Remove section) = left.Remove section
request_of side (action.CopyIn c) = left.CopyIn c
request_of side (action.CopyOut c) = left.CopyOut c

-- the sections of an action on a table lie in a device
abbrev pub HasSection : Action → Type 0
HasSection (action.Enter item) = IsSection item.section
HasSection (action.Leave item) = IsSection item.section
HasSection (action.Remove section) = IsSection section
HasSection _ = Unit {0}

-- this action comes next, or none where nothing is left
abbrev pub IsNext : Strand → Option Action → Type 0
IsNext c None = left_of c ≡ Finished (run_of c)
IsNext c (Some a) = HasSection a × ((k : Answer → Left) × (left_of c ≡ Asks (request_of (side_of c.on_host) a) k))

-- what is left after an action is what followed from its answer
abbrev pub IsAnswered : Left → Answer → Left → Type 0
IsAnswered old r new = (request : Request) (k : Answer → Left) → old ≡ Asks request k → new ≡ k r

-- what is left after an action's answer
abbrev pub Answers : Answer → Strand → Strand → Type 0
Answers r old new = IsAnswered (left_of old) r (left_of new)

-- the first of some entries was counted
abbrev pub AnswersEntry : Maps → Bool → Strand → Strand → Type 0
AnswersEntry maps copies old new = (n : ℕ) (removes : Bool) → is_some_left maps.items.now ≡ true →
    IsAnswered (left_with (frame.Entries maps ∷ stack_of old) old)
    (record { number = n; copies = copies; removes = removes }) (left_of new)

-- the first of some exits was counted
abbrev pub AnswersExit : Maps → Bool → Bool → Strand → Strand → Type 0
AnswersExit maps copies removes old new = (n : ℕ) → is_some_left maps.items.now ≡ true →
    IsAnswered (left_with (frame.Exits maps ∷ stack_of old) old)
    (record { number = n; copies = copies; removes = removes }) (left_of new)

-- the cells of a section are copied before what was left, if so told
abbrev pub CopiesBefore : (Cell → Request) → Bool → Section → Strand → Strand → Type 0
CopiesBefore ask copies s old new =
    left_of new ≡ left_if copies (section_left ask s) (λ u. left_of old)

-- the first of some map items, and the others
pub record Splits (maps : Maps) (item : MapItem) (rest : Maps) : Type 0 where
  pub items : maps.items.now ≡ item ∷ rest.items.now
  pub section : IsSection item.section
