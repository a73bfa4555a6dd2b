-- Statements that are done one after another, and loops turn by turn.
use Rattle.std.proofs.Common.{◌≡◌, ℕ, ◌+◌, ◌<◌, ◌≤◌, List, length, get_or, drop, Option, Some, None, refl, sym, ap, ◌∙◌, subst}
use Rattle.std.specs.Prelude.{option_and_then}
use Rattle.std.proofs.lemmas.List.{drop_more, drop_all}
use Rattle.base.specs.declared.tree.Bounds.{Bounds}
use Rattle.base.specs.declared.tree.Stmt.{Stmt}
use Rattle.base.specs.Memory.{View}
use Rattle.base.specs.Meaning.{Run, run_list, run_stmt, turn, turns_left}
use Rattle.base.proofs.LoopTurns.{one_turn_less, no_turn_left}
use Rattle.kernel.specs.Loops.{does}
use Rattle.kernel.specs.Walks.{Meaning, At, CanDo, HasDone, stmt_meaning, turn_meaning}
use Rattle.kernel.specs.declared.state.Machine.{Machine}
use Rattle.kernel.proofs.Stepping.{there, is_there}

-- two things, one after the other
record Both (o : Option Run) (f : Run → Option Run) (t : Run) : Type 0 where
  mid : Run
  first : o ≡ Some mid
  then : f mid ≡ Some t

both_of : (o : Option Run) (f : Run → Option Run) (t : Run) → option_and_then f o ≡ Some t → Both o f t
both_of None f t e = absurd cc
both_of (Some u) f t e = record { mid = u; first = refl; then = e }

-- a meaning from a state of the machine on, of what is left of another one
pub record Left (f : View → List ℕ → Run → Option Run) (view : View) (loops : List ℕ) (t : Run) (m : Machine) : Type 0 where
  pub now : Run
  pub rest : f view loops now ≡ Some t
  pub at : At view now m

-- what is left to be done, of each run that begins where the machine began
abbrev pub Leaves : Meaning → Meaning → Machine → Machine → Type 0
Leaves f rest m m' =
    (m'.loops.items ≡ m.loops.items)
    × ((view : View) (s t : Run) → At view s m → f view m.loops.items s ≡ Some t → Left rest view m.loops.items t m')

pub nothing_done : (f g : Meaning) (m : Machine) → ((view : View) (loops : List ℕ) (s : Run) → f view loops s ≡ g view loops s) →
    Leaves f g m m
nothing_done f g m same = (refl, λ view s t h e. record { now = s; rest = sym (same view m.loops.items s) ∙ e; at = h })

module _ (f rest next after : Meaning) (m m' : Machine)
    (is : (view : View) (loops : List ℕ) (s : Run) →
    rest view loops s ≡ option_and_then (after view loops) (next view loops s))
    (left : Leaves f rest m m') where
  -- the next part can be done
  pub next_can : CanDo f m → CanDo next m'
  next_can h =
      let t = there (f h.0 m.loops.items h.1) h.3 in
      let l = left.1 h.0 h.1 t.0 h.2 t.1 in
      let b = both_of (next h.0 m.loops.items l.now) (after h.0 m.loops.items) t.0 (sym (is h.0 m.loops.items l.now) ∙ l.rest) in
      (h.0, l.now, l.at, is_there (next h.0 m'.loops.items l.now) b.mid (ap (λ loops. next h.0 loops l.now) left.0 ∙ b.first))

  -- and what comes after it is left then
  pub next_done : (m'' : Machine) → HasDone next m' m'' → Leaves f after m m''
  next_done m'' done = (
    done.0 ∙ left.0,
    λ view s t h e.
        let l = left.1 view s t h e in
        let b = both_of (next view m.loops.items l.now) (after view m.loops.items) t (sym (is view m.loops.items l.now) ∙ l.rest) in
        record {
          now = b.mid;
          rest = b.then;
          at = done.1 view l.now b.mid l.at (ap (λ loops. next view loops l.now) left.0 ∙ b.first);
        },
  )

-- nothing is left
pub all_done : (f rest : Meaning) (m m' : Machine) → ((view : View) (loops : List ℕ) (s : Run) → rest view loops s ≡ Some s) →
    Leaves f rest m m' → HasDone f m m'
all_done f rest m m' none left = (
  left.0,
  λ view s t h e.
      let l = left.1 view s t h e in
      let same : ◌≡◌ {A = Option Run} (Some l.now) (Some t) = sym (none view m.loops.items l.now) ∙ l.rest in
      let is : l.now ≡ t = cc in
      subst (λ (u : Run). At view u m') is l.at,
)

-- the statements from a place on
abbrev pub from_on : List Stmt → ℕ → Meaning
from_on all k view loops = run_list (drop k all) view loops

pub one_first : (all : List Stmt) (k : ℕ) (d : Stmt) → k < length all → (view : View) (loops : List ℕ) (s : Run) →
    from_on all k view loops s ≡ option_and_then (from_on all (k + 1) view loops) (stmt_meaning (get_or all k d) view loops s)
one_first all k d h view loops s = ap (λ xs. run_list xs view loops s) (drop_more all k d h)

pub none_left : (all : List Stmt) (k : ℕ) → length all ≤ k → (view : View) (loops : List ℕ) (s : Run) →
    from_on all k view loops s ≡ Some s
none_left all k h view loops s = ap (λ xs. run_list xs view loops s) (drop_all k all h)

-- the turns from a value on
abbrev pub turns_from : Bounds → List Stmt → ℕ → Meaning
turns_from b body v view loops = turn (turns_left v b) v b.step (does view loops body)

pub turn_first : (b : Bounds) (body : List Stmt) (v : ℕ) → v < b.end → (view : View) (loops : List ℕ) (s : Run) →
    turns_from b body v view loops s ≡ option_and_then (turns_from b body (v + b.step) view loops) (turn_meaning v body view loops s)
turn_first b body v h view loops s =
    ap (λ n. turn n v b.step (does view loops body) s) (one_turn_less v b h)
    ∙ go (turn_meaning v body view loops s)
  where
    go : (o : Option Run) →
        elim o as (λ x. Option Run) [ None ↦ None | Some t ↦ turn (turns_left (v + b.step) b) (v + b.step) b.step (does view loops body) t ]
        ≡ option_and_then (turn (turns_left (v + b.step) b) (v + b.step) b.step (does view loops body)) o
    go None = refl
    go (Some t) = refl

pub no_turn : (b : Bounds) (body : List Stmt) (v : ℕ) → b.end ≤ v → (view : View) (loops : List ℕ) (s : Run) →
    turns_from b body v view loops s ≡ Some s
no_turn b body v h view loops s = ap (λ n. turn n v b.step (does view loops body) s) (no_turn_left v b h)

-- the same of the statement that stands there
pub this_first : (all : List Stmt) (k : ℕ) (one : Stmt) → k < length all → one ≡ get_or all k one → (view : View) (loops : List ℕ) (s : Run) →
    from_on all k view loops s ≡ option_and_then (from_on all (k + 1) view loops) (stmt_meaning one view loops s)
this_first all k one h is view loops s =
    one_first all k one h view loops s
    ∙ ap (λ (x : Stmt). option_and_then (from_on all (k + 1) view loops) (run_stmt x view loops s)) (sym is)
