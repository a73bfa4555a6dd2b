-- When an item may be opened, or passed by the host.
use Rattle.std.proofs.Common.{◌≡◌, ℕ, ◌<◌, ◌≤◌, Bool, true, false, List, map, length, Option, Some, None, refl, sym, ap, ◌∙◌, arith}
use Rattle.std.specs.Prelude.{◌==◌, ◌&&◌, ◌||◌, not, slice_get, slice_index, option_map, if◌then◌else◌}
use Rattle.std.proofs.lemmas.Option.{slice_get-map, slice_get_past}
use Rattle.std.proofs.Math.Bool.{and-false}
use Rattle.base.specs.declared.item.Event.TheVariants.{Open, Wait}
use Rattle.base.specs.Items.{Work}
use Rattle.base.specs.Machine.{is_wait, is_waiting, is_ready}
use Rattle.taskgraph.specs.Board.{Facts, Board, work_of, plan_in, state_in, stage_at, allows}
use Rattle.taskgraph.specs.Waiting.{begins, waits_for}
use Rattle.taskgraph.proofs.Readiness.{free_ready}

-- the questions that the machine asks of an item
abbrev may_open : Board → ℕ → Work → Bool
may_open b i w =
    not (is_wait w.kind) && ((w.deferred || (b.place == i)) &&
    (is_waiting w.deferred ((state_in b).condition i) && is_ready (plan_in b) (state_in b) i))

abbrev pub answered : Board → ℕ → Option Work → Bool
answered b i o =
    elim o [ None ↦ false | Some w ↦ may_open b i w ]
    || ((b.place == i) && (elim o [ None ↦ false | Some w ↦ is_wait w.kind ] && is_ready (plan_in b) (state_in b) i))

none : (b : Board) (i : ℕ) → slice_get b.tasks i ≡ None → false ≡ (allows b (Open i) || allows b (Wait i))
none b i e =
    let no : slice_get (map work_of b.tasks) i ≡ None =
    slice_get-map work_of b.tasks i ∙ ap (option_map work_of) e in
    sym (ap (answered b i) no ∙ and-false (b.place == i))

pub past : (b : Board) (i : ℕ) → length b.tasks ≤ i → false ≡ (allows b (Open i) || allows b (Wait i))
past b i h = none b i (slice_get_past b.tasks i h)

table : (x d p q r : Bool) → ((not x && ((d || p) && (q && r))) || (p && (x && r)))
    ≡ (r && (if x then p else ((d || p) && q)))
table true d true q true = refl
table true d true q false = refl
table true d false q true = refl
table true d false q false = refl
table false true true true true = refl
table false true true true false = refl
table false true true false true = refl
table false true true false false = refl
table false true false true true = refl
table false true false true false = refl
table false true false false true = refl
table false true false false false = refl
table false false true true true = refl
table false false true true false = refl
table false false true false true = refl
table false false true false false = refl
table false false false true true = refl
table false false false true false = refl
table false false false false true = refl
table false false false false false = refl

pub at : (b : Board) (i : ℕ) (f : Facts) → slice_get b.tasks i ≡ Some f →
    (allows b (Open i) || allows b (Wait i))
    ≡ (is_ready (plan_in b) (state_in b) i && begins f (stage_at b i) (b.place == i))
at b i f e =
    let here : slice_get (map work_of b.tasks) i ≡ Some (work_of f) =
    slice_get-map work_of b.tasks i ∙ ap (option_map work_of) e in
    ap (answered b i) here
    ∙ table (is_wait f.kind) f.deferred (b.place == i) (is_waiting f.deferred ((state_in b).condition i))
    (is_ready (plan_in b) (state_in b) i)

unready : (b : Board) (starts : List ℕ) (i : ℕ) → 0 < waits_for b starts i → is_ready (plan_in b) (state_in b) i ≡ false
unready b starts i lt = go (is_ready (plan_in b) (state_in b) i) refl
  where
    go : (x : Bool) → is_ready (plan_in b) (state_in b) i ≡ x → is_ready (plan_in b) (state_in b) i ≡ false
    go false e = e
    go true e = absurd (omega (arith, lt, free_ready b (slice_index starts i) i e))

pub held : (b : Board) (starts : List ℕ) (i : ℕ) → 0 < waits_for b starts i → false ≡ (allows b (Open i) || allows b (Wait i))
held b starts i lt = go (slice_get b.tasks i) refl
  where
    go : (o : Option Facts) → slice_get b.tasks i ≡ o → false ≡ (allows b (Open i) || allows b (Wait i))
    go None e = none b i e
    go (Some f) e = sym (at b i f e ∙ ap (λ x. x && begins f (stage_at b i) (b.place == i)) (unready b starts i lt))
