-- What is left of an open item.
use Rattle.std.specs.Prelude.{ℕ, ◌≡◌, ◌⊎◌, ◌%◌, zero, suc, Bool, List, [], ◌∷◌, ◌++◌, Option, Some, None, drop, length, map, take, slice_index_or}
use Rattle.base.specs.Meaning.{Run}
use Rattle.std.specs.Borrow.{Bor}
use Rattle.base.specs.declared.tree.Bounds.{Bounds}
use Rattle.base.specs.declared.tree.Stmt.{Stmt}
use Rattle.base.specs.Turns.{Turn, only_loop, turns_at}
use Rattle.fine_machine.specs.Left.{Left, Finished, Asks, Answer, Request, each_left, exit_left, together, turn_left}
use Rattle.actions.specs.declared.action.Action.{Action}
use Rattle.actions.specs.declared.control.Control.{Control}
use Rattle.actions.specs.declared.strand.Strand.{Strand}
use Rattle.actions.specs.declared.unordered.Unordered.{Unordered}
use Rattle.actions.specs.Strand.{HasSection, IsActing, IsAnswered, request_of, side_of, stack_of}
use Rattle.actions.specs.Strand as strand

-- all that is left of one, and then what follows from where it ends
abbrev pub then_from : Left → (Run → Left) → Left
then_from (Finished t) k = k t
then_from (Asks q f) k = Asks q (λ a. then_from (f a) k)

abbrev pub all_turns : Unordered → List Turn
all_turns u = turns_at u.depth u.body.now u.loops.now

-- the turns of a kernel that have not begun
abbrev pub coming : Unordered → List Turn
coming u = drop u.next (all_turns u)

-- what is left of a kernel by this order, and then its exits
abbrev pub kernel_rest : List ℕ → Unordered → Run → Left
kernel_rest order u s =
    together order (map (turn_left s) (coming u)) (each_left exit_left u.exits.items.now (λ v. Finished s))

-- a strand, and the kernel that it comes to, if there is one
abbrev pub and_kernel : List ℕ → Option Unordered → Left → Left
and_kernel order None l = l
and_kernel order (Some u) l = then_from l (kernel_rest order u)

unfoldable pub left_of : Control → Left
left_of c =
    together c.order.now (map strand.left_of c.turns.items) (and_kernel c.order.now c.kernel (strand.left_of c.strand))

-- an action comes next in each of some strands
abbrev pub AllActing : List Strand → Type 0
AllActing [] = Unit {0}
AllActing (t ∷ rest) = IsActing t × AllActing rest

-- the strand has come to a kernel, of which a turn has begun; the others begin one after another
pub record IsAmid (c : Control) : Type 0 where
  pub ended : stack_of c.strand ≡ []
  pub in_order : c.order.now ≡ []
  pub some : c.turns.items ≡ [] → ⊥

-- a kernel of which not all turns have begun
abbrev pub IsBefore : Option Unordered → Control → Type 0
IsBefore None c = Unit {0}
IsBefore (Some u) c = (IsActing c.strand × (c.turns.items ≡ [])) ⊎ IsAmid c

-- an action comes next, or nothing is left
pub record IsStopped (c : Control) : Type 0 where
  pub turns : AllActing c.turns.items
  pub strand : strand.IsStopped c.strand
  pub kernel : IsBefore c.kernel c

-- the place of the turn that acts next, of so many
abbrev pub place : List ℕ → ℕ → ℕ
place [] n = 0
place (m ∷ order) zero = 0
place (m ∷ order) (suc n) = m % suc n

-- the turn that acts next, or the strand where there is none
abbrev pub acting : Control → Strand
acting c = slice_index_or c.turns.items (place c.order.now (length c.turns.items)) c.strand

abbrev pub on_host : Control → Bool
on_host c = (acting c).on_host

-- where the region of the item stands
abbrev pub run_of : Control → Run
run_of c = strand.run_of c.strand

-- this action comes next, or none where nothing is left
abbrev pub IsNext : Control → Option Action → Type 0
IsNext c None = left_of c ≡ Finished (run_of c)
IsNext c (Some a) =
    HasSection a × ((k : Answer → Left) × (left_of c ≡ Asks (request_of (side_of (on_host c)) a) k))

-- what is left after an action's answer
abbrev pub Answers : Answer → Control → Control → Type 0
Answers r old new = IsAnswered (left_of old) r (left_of new)

-- these turns, which begin with this run, come after the others, as far as they have an action to do
pub record Begins (s : Run) (turns : List Turn) (old new : List Strand) : Type 0 where
  pub left : (order : List ℕ) (rest : List Left) (after : Left) →
      together order (map strand.left_of old ++ (map (turn_left s) turns ++ rest)) after
      ≡ together order (map strand.left_of new ++ rest) after
  pub acting : AllActing old → AllActing new

-- the loop that is all of some statements
abbrev pub IsOnlyLoop : List Stmt → Option (Bounds × Bor (List Stmt)) → Type 0
IsOnlyLoop body None = only_loop body ≡ None
IsOnlyLoop body (Some l) = only_loop body ≡ Some (l.0, l.1.now)

-- a turn that begins with this run
abbrev pub IsTurn : Run → Turn → Strand → Type 0
IsTurn s t turn = strand.left_of turn ≡ turn_left s t

-- a turn that was taken from this place goes on after its action's answer, as far as it has another action to do
pub record PutsBack (place : ℕ) (turn : Strand) (r : Answer) (old new : List Strand) : Type 0 where
  pub left : (q : Request) (k : Answer → Left) → strand.left_of turn ≡ Asks q k → (order : List ℕ) (after : Left) →
      together order (map strand.left_of (take place old) ++ k r ∷ map strand.left_of (drop place old)) after
      ≡ together order (map strand.left_of new) after
  pub acting : AllActing old → AllActing new

-- the turns from one number up to another have begun, and come after the others, as far as they have an action to do
pub record Begun (s : Run) (all : List Turn) (from to : ℕ) (old new : List Strand) : Type 0 where
  pub left : (order : List ℕ) (rest : List Left) (after : Left) →
      together order (map strand.left_of old ++ (map (turn_left s) (drop from all) ++ rest)) after
      ≡ together order (map strand.left_of new ++ (map (turn_left s) (drop to all) ++ rest)) after
  pub acting : AllActing old → AllActing new

-- a strand of which nothing is left has no turns beside it, or a kernel goes on in order
abbrev pub MayWait : Option Unordered → Control → Type 0
MayWait None c = Unit {0}
MayWait (Some u) c = (c.turns.items ≡ []) ⊎ ((stack_of c.strand ≡ []) × (c.order.now ≡ []))
