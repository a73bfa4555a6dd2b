-- What an event leaves as it was: no barrier where an item is deferred, and the lowest item that is not closed.
use Rattle.std.proofs.Common.{◌≡◌, ◌⊎◌, inl, inr, ℕ, ◌+◌, ◌<◌, ◌≤◌, Bool, true, false, List, length, Option, Some, None, sym, ap, ◌∙◌, arith}
use Rattle.std.specs.Prelude.{◌&&◌, not, slice_get, option_map}
use Rattle.std.proofs.lemmas.Bool.{and_parts, cases_eq}
use Rattle.std.proofs.lemmas.Option.{slice_get-map}
use Rattle.base.specs.Items.{Work}
use Rattle.base.specs.Machine.{is_closed, is_empty, is_wait, on_item}
use Rattle.taskgraph.specs.declared.Stage.{Stage}
use Rattle.taskgraph.specs.Board.{Facts, Board, condition_of, work_of, plan_in}
use Rattle.taskgraph.specs.Waiting.{IsCounted, is_bare, is_barrier, is_deferred}
use Rattle.taskgraph.proofs.Counts.{closed_in, set_at, stage_kept, stage_set}
use Rattle.taskgraph.proofs.Stays.{not_closed}

-- what is asked of an item of known facts
pub asked_of : (b : Board) (i : ℕ) (f : Facts) (g : Work → Bool) → slice_get b.tasks i ≡ Some f →
    on_item (plan_in b) i false g ≡ g (work_of f)
asked_of b i f g e =
    ap (λ (o : Option Work). elim o [ None ↦ false | Some w ↦ g w ])
    (slice_get-map work_of b.tasks i ∙ ap (option_map work_of) e)

-- an item that is deferred, or no wait, is no barrier
pub no_barrier : (b : Board) (i : ℕ) (f : Facts) → slice_get b.tasks i ≡ Some f →
    (f.deferred ≡ true) ⊎ (is_wait f.kind ≡ false) → is_barrier (plan_in b) i ≡ true → ⊥
no_barrier b i f e h q =
    let p = and_parts (is_bare (work_of f)) (not f.deferred) (sym (asked_of b i f (λ w. is_bare w && not w.deferred) e) ∙ q) in
    let r = and_parts (is_wait f.kind) (is_empty f.depends) p.0 in
    go h p.1 r.0
  where
    go : (f.deferred ≡ true) ⊎ (is_wait f.kind ≡ false) → not f.deferred ≡ true → is_wait f.kind ≡ true → ⊥
    go (inl d) n w = let bad : not f.deferred ≡ false = ap not d in absurd cc
    go (inr k) n w = absurd cc

pub fresh_at : (b : Board) (starts counts : List ℕ) (i : ℕ) → IsCounted b starts counts → b.place ≡ i → closed_in b i ≡ false
fresh_at b starts counts i h here = not_closed b i (λ e. let lt = h.closed i e in omega (arith, lt, here))

-- the host stands at an item that it generates or passes
pub only_here : (b : Board) (i w : ℕ) → b.place ≡ i → b.place ≤ w → w < b.place + 1 → w ≡ i
only_here b i w here le lt = omega (arith, here, le, lt)

-- ---- the lowest item that is left

pub left_kept : (b : Board) (i k : ℕ) (st : Stage) (place : ℕ) → i < length b.stages → is_closed (condition_of st) ≡ false →
    (is_deferred (plan_in b) k && not (closed_in b k)) ≡ true →
    (is_deferred (plan_in b) k && not (closed_in (set_at b i st place) k)) ≡ true
left_kept b i k st place lt still h = go (cases_eq k i)
  where
    d : is_deferred (plan_in b) k ≡ true
    d = (and_parts (is_deferred (plan_in b) k) _ h).0

    go : (k ≡ i) ⊎ (k ≡ i → ⊥) → (is_deferred (plan_in b) k && not (closed_in (set_at b i st place) k)) ≡ true
    go (inl same) =
        let now : closed_in (set_at b i st place) k ≡ false =
        ap (closed_in (set_at b i st place)) same ∙ ap (λ x. is_closed (condition_of x)) (stage_set b i st place lt) ∙ still in
        ap (λ x. is_deferred (plan_in b) k && not x) now ∙ ap (λ x. x && true) d
    go (inr ne) =
        ap (λ x. is_deferred (plan_in b) k && not (is_closed (condition_of x))) (stage_kept b i k st place ne) ∙ h
