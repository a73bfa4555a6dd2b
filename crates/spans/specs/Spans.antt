-- Some turns of a loop, done from where a region begins.
use Rattle.std.specs.Prelude.{ℕ, ◌≡◌, ◌<◌, ◌≤◌, ◌+◌, ◌*◌, ◌^◌, All, Bool, true, false, not, ◌&&◌, ◌||◌, ◌==◌, nat_lt, List, [], ◌∷◌, ◌++◌, Option, Some}
use Rattle.std.specs.List.{list_any}
use Rattle.base.specs.declared.tree.Bounds.{Bounds}
use Rattle.base.specs.declared.tree.Stmt.{Stmt, Row_of-Stmt, end_of-Stmt, more_of-Stmt}
use Rattle.base.specs.declared.tree.Stmt.TheVariants.{Declare, Assign, Store, Combine, Print, Block', Loop', If'}
use Rattle.base.specs.Memory.{View, Scalars}
use Rattle.base.specs.Meaning.{Run, all_turns, turns_of, run_list}
use Rattle.base.specs.ScalarUse.{list_assigned, list_needs}
use Rattle.base.specs.Turns.{Turn, each_turn, loop_of, turns_at, Independent}
use Rattle.regions.specs.Footprints.{BoundedScalars, BoundedView}

-- where a region begins, with nothing stored, no input and nothing printed
abbrev pub begin : Scalars → Run
begin scalars = record { scalars = scalars; stores = []; input = []; printed = [] }

-- what turns of a loop do
abbrev pub span_run : Bounds → List Stmt → List ℕ → View → Scalars → Option Run
span_run b body loops view scalars = all_turns b (λ v. run_list body view (loops ++ v ∷ [])) (begin scalars)

abbrev mutual
  -- whether a statement assigns the scalar for certain
  pub sure_by : ℕ → Stmt → Bool
  sure_by x (Declare y v) = x == y.0
  sure_by x (Assign y v) = x == y.0
  sure_by x (Store a place e v) = false
  sure_by x (Combine op a place e v) = false
  sure_by x (Print e) = false
  sure_by x (Block' shape all) = row_sure x all
  sure_by x (Loop' b shape all) = nat_lt b.first b.end && row_sure x all
  sure_by x (If' c shape all shape' all') = row_sure x all && row_sure x all'

  pub row_sure : {m : _} → ℕ → Row_of-Stmt m → Bool
  row_sure x end_of-Stmt = false
  row_sure x (more_of-Stmt first rest) = sure_by x first || row_sure x rest

abbrev pub list_sure : ℕ → List Stmt → Bool
list_sure x [] = false
list_sure x (first ∷ rest) = sure_by x first || list_sure x rest

abbrev mutual
  -- whether a commuting update stands in a statement
  pub updates : Stmt → Bool
  updates (Declare y v) = false
  updates (Assign y v) = false
  updates (Store a place e v) = false
  updates (Combine op a place e v) = true
  updates (Print e) = false
  updates (Block' shape all) = row_updates all
  updates (Loop' b shape all) = row_updates all
  updates (If' c shape all shape' all') = row_updates all || row_updates all'

  pub row_updates : {m : _} → Row_of-Stmt m → Bool
  row_updates end_of-Stmt = false
  row_updates (more_of-Stmt first rest) = updates first || row_updates rest

abbrev pub list_updates : List Stmt → Bool
list_updates [] = false
list_updates (first ∷ rest) = updates first || list_updates rest

-- the turns of d loops inside each turn of this loop, and of the loop itself
abbrev pub span_turns : ℕ → Bounds → List Stmt → List ℕ → List Turn
span_turns d b body loops = each_turn (turns_of b) b.first b.step (λ v. turns_at d body (loops ++ v ∷ []))

-- a body whose turns leave the scalars that the last one of them leaves, and store what no other one changes
pub record IsSelfContained (body : List Stmt) : Type 0 where
  pub plain : list_updates body ≡ false
  pub needed : list_any (λ x. list_needs x body) (list_assigned body) ≡ false
  pub settled : list_any (λ x. not (list_sure x body)) (list_assigned body) ≡ false

-- the turns of one loop are those of another one up to a turn, and then those of a third one from there on
pub record IsCut (b front back : Bounds) : Type 0 where
  pub turns : ℕ
  pub some : 1 ≤ turns
  pub first : front.first ≡ b.first
  pub front_end : front.end ≡ b.first + turns * b.step
  pub front_step : front.step ≡ b.step
  pub back_first : back.first ≡ b.first + turns * b.step
  pub back_end : back.end ≡ b.end
  pub back_step : back.step ≡ b.step
  pub more : back.first < back.end

-- what two spans leave, of which the one is laid over the other
abbrev pub joined : Run → Run → Run
joined r t = record t { stores = r.stores ++ t.stores; printed = r.printed ++ t.printed }

-- the two parts of a loop that is cut: they meet nowhere either, come to their ends where the loop does, and together are
-- the loop
pub record Halves (d : ℕ) (body : List Stmt) (loops : List ℕ) (view : View) (scalars : Scalars)
    (b front back : Bounds) : Type 0 where
  pub front_apart : Independent (span_turns d front body loops)
  pub back_apart : Independent (span_turns d back body loops)
  pub front_runs : (t : Run) → span_run b body loops view scalars ≡ Some t →
      (r : Run) × (span_run front body loops view scalars ≡ Some r)
  pub back_runs : (t : Run) → span_run b body loops view scalars ≡ Some t →
      (r : Run) × (span_run back body loops view scalars ≡ Some r)
  pub together : (r t : Run) → span_run front body loops view scalars ≡ Some r →
      span_run back body loops view scalars ≡ Some t → span_run b body loops view scalars ≡ Some (joined r t)

-- of a loop whose turns meet nowhere, and whose body is self-contained
abbrev pub SpansAreTheLoop : Type 0
SpansAreTheLoop =
    (s : Stmt) (whole : Bounds) (body : List Stmt) (d : ℕ) (loops : List ℕ) (view : View) (scalars : Scalars)
    (b front back : Bounds) → loop_of s ≡ Some (whole, body) → IsSelfContained body → All (λ n. n < 2 ^ 64) loops →
    BoundedView view → BoundedScalars scalars → Independent (span_turns d b body loops) → IsCut b front back →
    Halves d body loops view scalars b front back
