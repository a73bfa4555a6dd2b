-- Where the host, or a worker, finds nothing to do.
use Rattle.std.proofs.Common.{◌≡◌, ℕ, ◌<◌, ◌≤◌, Bool, true, false, get_or, length, map, List, Option, Some, None, refl, sym, ap, ap₂, subst, ◌∙◌, arith}
use Rattle.std.specs.Prelude.{◌||◌, ◌&&◌, ◌==◌, not, slice_get, option_map, if◌then◌else◌}
use Rattle.std.proofs.lemmas.Bool.{and_parts, eqb-true, not-true, or_right}
use Rattle.std.proofs.lemmas.Bool.Decides.{nat_tests}
use Rattle.std.proofs.lemmas.List.{length-map}
use Rattle.std.proofs.lemmas.Option.{slice_get-get_or, slice_get-map, slice_get_within}
use Rattle.base.specs.declared.item.Event.{Event}
use Rattle.base.specs.declared.item.Event.TheVariants.{Gen, Open, Step, Close, Wait, End}
use Rattle.base.specs.declared.item.Item.{Item}
use Rattle.base.specs.declared.item.ItemKind.{ItemKind}
use Rattle.base.specs.declared.item.ItemKind.TheVariants as kind
use Rattle.base.specs.declared.tree.Program.{Program}
use Rattle.base.specs.Accepted.{is_target}
use Rattle.base.specs.Items.{Plan, Work, plan}
use Rattle.base.specs.Machine.{State, enabled, is_wait, on_item, is_waiting, is_ready, deferred_closed}
use Rattle.outline.specs.Regions.{entries_of}
use Rattle.outline.specs.Shown.{all_shown, as_shown}
use Rattle.device.specs.Run.{Run, state_of}
use Rattle.device.proofs.Starts.{all_facts}
use Rattle.taskgraph.specs.Board.{Facts, facts_of, item_facts}
use Rattle.host.specs.Handing.{is_handed}
use Rattle.host.specs.Idle.{is_for_workers, turn_of, turn_of_kind, IsHostIdle, IsNotEnabled, IsNoTargetHere}
use Rattle.host.specs.Origins.{IsOf}

-- ---- the items of a plan

-- the items of an image are those of a run of its program
pub same_items : (image : Program) (r : Run) (items : List Item) → IsOf image r →
    all_shown (entries_of image) items ≡ as_shown (plan image).items → map facts_of (plan r.program).items ≡ map item_facts items
same_items image r items of shown =
    subst (λ (p : Program). map facts_of (plan p).items ≡ map item_facts items) of
    (all_facts (entries_of image) items (plan image).items shown)

record Found (p : Plan) (i : ℕ) (g : Work → Bool) : Type 0 where
  work : Work
  is : slice_get p.items i ≡ Some work
  yes : g work ≡ true

found : (p : Plan) (i : ℕ) (g : Work → Bool) → on_item p i false g ≡ true → Found p i g
found p i g h = go (slice_get p.items i) refl h
  where
    go : (o : Option Work) → slice_get p.items i ≡ o → (elim o [ None ↦ false | Some w ↦ g w ]) ≡ true → Found p i g
    go None e h = absurd cc
    go (Some w) e h = record { work = w; is = e; yes = h }

at_work : (p : Plan) (i : ℕ) (g : Work → Bool) (b : Bool) (w : Work) → slice_get p.items i ≡ Some w → g w ≡ b →
    on_item p i false g ≡ b
at_work p i g b w e h = ap (λ (o : Option Work). elim o [ None ↦ false | Some v ↦ g v ]) e ∙ h

record ItemAt (items : List Item) (i : ℕ) (w : Work) : Type 0 where
  item : Item
  is : slice_get items i ≡ Some item
  deferred : item.deferred ≡ w.deferred
  kind : item.kind ≡ w.kind

item_at : (p : Plan) (items : List Item) (i : ℕ) (w : Work) → map facts_of p.items ≡ map item_facts items →
    slice_get p.items i ≡ Some w → ItemAt items i w
item_at p items i w alike e = go (slice_get items i) refl
  where
    facts : option_map item_facts (slice_get items i) ≡ Some (facts_of w)
    facts =
        sym (slice_get-map item_facts items i) ∙ ap (λ xs. slice_get xs i) (sym alike) ∙ slice_get-map facts_of p.items i
        ∙ ap (option_map facts_of) e

    go : (o : Option Item) → slice_get items i ≡ o → ItemAt items i w
    go None f = let bad : ◌≡◌ {A = Option Facts} None (Some (facts_of w)) = sym (ap (option_map item_facts) f) ∙ facts in absurd cc
    go (Some it) f =
        let same : ◌≡◌ {A = Option Facts} (Some (item_facts it)) (Some (facts_of w)) =
        sym (ap (option_map item_facts) f) ∙ facts in
        let both : item_facts it ≡ facts_of w = cc in
        record { item = it; is = f; deferred = ap (λ (x : Facts). x.deferred) both; kind = ap (λ (x : Facts). x.kind) both }

-- the same of the item that is known to be there
told_of : (items : List Item) (i : ℕ) (w : Work) (it : Item) → ItemAt items i w → slice_get items i ≡ Some it →
    (it.deferred ≡ w.deferred) × (it.kind ≡ w.kind)
told_of items i w it a is =
    let same : ◌≡◌ {A = Option Item} (Some a.item) (Some it) = sym a.is ∙ is in
    let same_item : a.item ≡ it = cc in
    subst (λ (x : Item). (x.deferred ≡ w.deferred) × (x.kind ≡ w.kind)) same_item (a.deferred, a.kind)

as_many : (p : Plan) (items : List Item) → map facts_of p.items ≡ map item_facts items → length p.items ≡ length items
as_many p items alike =
    sym (length-map p.items facts_of) ∙ ap (λ (xs : List Facts). length xs) alike ∙ length-map items item_facts

-- ---- the host

-- what the host would do here may not happen
not_here : (p : Plan) (s : State) (o : Option Event) (e : Event) → IsNotEnabled p s o → o ≡ Some e → enabled p s e ≡ false
not_here p s o e h is = subst (λ (x : Option Event). IsNotEnabled p s x) is h

turn_deferred : (i : ℕ) (items : List Item) (w : Work) → ItemAt items i w → w.deferred ≡ true →
    turn_of i (slice_get items i) ≡ Some (Gen i)
turn_deferred i items w at h =
    ap (turn_of i) at.is
    ∙ ap (λ (b : Bool). if b then Some (Gen i) else turn_of_kind at.item.kind i) (at.deferred ∙ h)

turn_other : (i : ℕ) (items : List Item) (w : Work) → ItemAt items i w → w.deferred ≡ false →
    turn_of i (slice_get items i) ≡ turn_of_kind w.kind i
turn_other i items w at h =
    ap (turn_of i) at.is
    ∙ ap (λ (b : Bool). if b then Some (Gen i) else turn_of_kind at.item.kind i) (at.deferred ∙ h)
    ∙ ap (λ (k : ItemKind). turn_of_kind k i) at.kind

wait_turn : (k : ItemKind) (i : ℕ) → is_wait k ≡ true → turn_of_kind k i ≡ Some (Wait i)
wait_turn kind.Wait i h = refl
wait_turn kind.Host i h = absurd cc
wait_turn kind.Target i h = absurd cc
wait_turn kind.Begin i h = absurd cc
wait_turn kind.End i h = absurd cc
wait_turn kind.Enter i h = absurd cc
wait_turn kind.Exit i h = absurd cc
wait_turn kind.Update i h = absurd cc

open_turn : (k : ItemKind) (i : ℕ) → is_wait k ≡ false → is_target k ≡ false → turn_of_kind k i ≡ Some (Open i)
open_turn kind.Wait i h g = absurd cc
open_turn kind.Target i h g = absurd cc
open_turn kind.Host i h g = refl
open_turn kind.Begin i h g = refl
open_turn kind.End i h g = refl
open_turn kind.Enter i h g = refl
open_turn kind.Exit i h g = refl
open_turn kind.Update i h g = refl

-- none of the host's own events may happen where what it would do at its place may not
pub host_idle : (p : Plan) (s : State) (items : List Item) (o : Option Event) → map facts_of p.items ≡ map item_facts items →
    o ≡ turn_of s.place (slice_get items s.place) → IsNotEnabled p s o → IsHostIdle p s
host_idle p s items o alike is none = at
  where
    -- an item that is deferred, at which the host stands, may be generated
    deferred_here : (w : Work) → slice_get p.items s.place ≡ Some w → w.deferred ≡ true → ⊥
    deferred_here w e d =
        let off : enabled p s (Gen s.place) ≡ false =
        not_here p s o (Gen s.place) none (is ∙ turn_deferred s.place items w (item_at p items s.place w alike e) d) in
        let on : on_item p s.place false (λ v. v.deferred) ≡ true = at_work p s.place (λ v. v.deferred) true w e d in
        let same : (s.place == s.place) ≡ true = grind (arith, nat_tests) in
        let both : enabled p s (Gen s.place) ≡ true = ap₂ ◌&&◌ same on in
        absurd cc

    generated : (i : ℕ) → enabled p s (Gen i) ≡ true → ⊥
    generated i h =
        let q = and_parts (s.place == i) (on_item p i false (λ w. w.deferred)) h in
        let here : s.place ≡ i = eqb-true s.place i q.0 in
        let f = found p i (λ w. w.deferred) q.1 in
        deferred_here f.work (subst (λ (k : ℕ). slice_get p.items k ≡ Some f.work) (sym here) f.is) f.yes

    passed : (i : ℕ) → enabled p s (Wait i) ≡ true → ⊥
    passed i h =
        let q = and_parts (s.place == i) (on_item p i false (λ w. is_wait w.kind) && is_ready p s i) h in
        let here : s.place ≡ i = eqb-true s.place i q.0 in
        let r = and_parts (on_item p i false (λ w. is_wait w.kind)) (is_ready p s i) q.1 in
        let f = found p i (λ w. is_wait w.kind) r.0 in
        let e : slice_get p.items s.place ≡ Some f.work =
        subst (λ (k : ℕ). slice_get p.items k ≡ Some f.work) (sym here) f.is in
        let a = item_at p items s.place f.work alike e in go f.work e a f.yes f.work.deferred refl
      where
        go : (w : Work) → slice_get p.items s.place ≡ Some w → ItemAt items s.place w → is_wait w.kind ≡ true → (d : Bool) →
            w.deferred ≡ d → ⊥
        go w e a k true d = deferred_here w e d
        go w e a k false d =
            let off : enabled p s (Wait s.place) ≡ false =
            not_here p s o (Wait s.place) none (is ∙ turn_other s.place items w a d ∙ wait_turn w.kind s.place k) in
            let here : s.place ≡ i = eqb-true s.place i (and_parts (s.place == i) _ h).0 in
            let on : enabled p s (Wait s.place) ≡ true = subst (λ (n : ℕ). enabled p s (Wait n) ≡ true) (sym here) h in
            absurd cc

    ended : enabled p s End ≡ true → ⊥
    ended h =
        let q = and_parts (s.place == length p.items) (deferred_closed p s) h in
        let past : s.place ≡ length p.items = eqb-true s.place (length p.items) q.0 in go (slice_get items s.place) refl past
      where
        go : (x : Option Item) → slice_get items s.place ≡ x → s.place ≡ length p.items → ⊥
        go None e past =
            let off : enabled p s End ≡ false = not_here p s o End none (is ∙ ap (turn_of s.place) e) in absurd cc
        go (Some it) e past =
            let inside : s.place < length items = slice_get_within items s.place it e in
            omega (arith, as_many p items alike)

    opened : (i : ℕ) → enabled p s (Open i) ≡ true → is_for_workers p (Open i) ≡ true
    opened i h =
        let f = found p i (λ w. not (is_wait w.kind) && ((w.deferred || (s.place == i)) && (is_waiting w.deferred (s.condition i) && is_ready p s i))) h in
        at_work p i (λ w. w.deferred || is_target w.kind) true f.work f.is (go f.work f.is f.yes f.work.deferred refl (is_target f.work.kind) refl)
      where
        go : (w : Work) → slice_get p.items i ≡ Some w →
            (not (is_wait w.kind) && ((w.deferred || (s.place == i)) && (is_waiting w.deferred (s.condition i) && is_ready p s i))) ≡ true →
            (d : Bool) → w.deferred ≡ d → (t : Bool) → is_target w.kind ≡ t → (w.deferred || is_target w.kind) ≡ true
        go w e y true d t k = ap (λ (b : Bool). b || is_target w.kind) d
        go w e y false d true k = ap₂ ◌||◌ d k
        go w e y false d false k =
            let q = and_parts (not (is_wait w.kind)) _ y in
            let r = and_parts (w.deferred || (s.place == i)) _ q.1 in
            let here_or : (false || (s.place == i)) ≡ true = ap (λ (b : Bool). b || (s.place == i)) (sym d) ∙ r.0 in
            let here : s.place ≡ i = eqb-true s.place i here_or in
            let e' : slice_get p.items s.place ≡ Some w = subst (λ (n : ℕ). slice_get p.items n ≡ Some w) (sym here) e in
            let off : enabled p s (Open s.place) ≡ false =
            not_here p s o (Open s.place) none
            (is ∙ turn_other s.place items w (item_at p items s.place w alike e') d
            ∙ open_turn w.kind s.place (not-true (is_wait w.kind) q.0) k) in
            let on : enabled p s (Open s.place) ≡ true = subst (λ (n : ℕ). enabled p s (Open n) ≡ true) (sym here) h in
            absurd cc

    at : IsHostIdle p s
    at (Gen i) h = absurd (generated i h)
    at (Open i) h = opened i h
    at (Step i) h = absurd (cc h)
    at (Close i) h = refl
    at (Wait i) h = absurd (passed i h)
    at End h = absurd (ended h)

-- what the host does at its place is not for workers
pub host_turn : (p : Plan) (s : State) (items : List Item) (e : Event) → map facts_of p.items ≡ map item_facts items →
    turn_of s.place (slice_get items s.place) ≡ Some e → is_for_workers p e ≡ false
host_turn p s items e alike is = go (slice_get items s.place) refl is
  where
    same_event : (d : Event) → ◌≡◌ {A = Option Event} (Some d) (Some e) → is_for_workers p d ≡ false → is_for_workers p e ≡ false
    same_event d is h = let same : d ≡ e = cc in subst (λ (x : Event). is_for_workers p x ≡ false) same h

    opened : (it : Item) → slice_get items s.place ≡ Some it → it.deferred ≡ false → is_target it.kind ≡ false →
        is_for_workers p (Open s.place) ≡ false
    opened it at d t = work_here (slice_get p.items s.place) refl
      where
        work_here : (x : Option Work) → slice_get p.items s.place ≡ x → is_for_workers p (Open s.place) ≡ false
        work_here None f = ap (λ (o : Option Work). elim o [ None ↦ false | Some v ↦ v.deferred || is_target v.kind ]) f
        work_here (Some w) f =
            let a = told_of items s.place w it (item_at p items s.place w alike f) at in
            at_work p s.place (λ v. v.deferred || is_target v.kind) false w f
            (ap₂ ◌||◌ (sym a.0 ∙ d) (ap is_target (sym a.1) ∙ t))

    of_kind : (k : ItemKind) → (is_target k ≡ false → is_for_workers p (Open s.place) ≡ false) →
        turn_of_kind k s.place ≡ Some e → is_for_workers p e ≡ false
    of_kind kind.Target h is = absurd cc
    of_kind kind.Wait h is = same_event (Wait s.place) is refl
    of_kind kind.Host h is = same_event (Open s.place) is (h refl)
    of_kind kind.Begin h is = same_event (Open s.place) is (h refl)
    of_kind kind.End h is = same_event (Open s.place) is (h refl)
    of_kind kind.Enter h is = same_event (Open s.place) is (h refl)
    of_kind kind.Exit h is = same_event (Open s.place) is (h refl)
    of_kind kind.Update h is = same_event (Open s.place) is (h refl)

    go : (x : Option Item) → slice_get items s.place ≡ x → turn_of s.place x ≡ Some e → is_for_workers p e ≡ false
    go None f is = same_event End is refl
    go (Some it) f is = at it.deferred refl is
      where
        at : (d : Bool) → it.deferred ≡ d → (if d then Some (Gen s.place) else turn_of_kind it.kind s.place) ≡ Some e →
            is_for_workers p e ≡ false
        at true q is = same_event (Gen s.place) is refl
        at false q is = of_kind it.kind (λ t. opened it f q t) is

-- ---- a worker

-- there is none where no item stands, and where the one that does is no such target, or may not be opened
pub no_item_here : (p : Plan) (s : State) (items : List Item) → map facts_of p.items ≡ map item_facts items →
    length items ≤ s.place → IsNoTargetHere p s
no_item_here p s items alike past w e d t =
    let a = item_at p items s.place w alike e in
    let inside : s.place < length items = slice_get_within items s.place a.item a.is in
    absurd (omega (arith, past, inside))

pub no_target_here : (p : Plan) (s : State) (items : List Item) (it : Item) → map facts_of p.items ≡ map item_facts items →
    slice_get items s.place ≡ Some it → (not it.deferred && is_target it.kind) ≡ false → IsNoTargetHere p s
no_target_here p s items it alike is off w e d t =
    let a = told_of items s.place w it (item_at p items s.place w alike e) is in
    let yes : (not it.deferred && is_target it.kind) ≡ true =
    ap₂ (λ (x y : Bool). not x && y) (a.0 ∙ d) (ap is_target a.1 ∙ t) in
    absurd cc

pub not_opened_here : (p : Plan) (s : State) → enabled p s (Open s.place) ≡ false → IsNoTargetHere p s
not_opened_here p s off w e d t = off

-- a target at which the host stands is for workers, if it may be opened
pub target_turn : (p : Plan) (s : State) (items : List Item) (it : Item) → map facts_of p.items ≡ map item_facts items →
    slice_get items s.place ≡ Some it → is_target it.kind ≡ true → enabled p s (Open s.place) ≡ true →
    is_for_workers p (Open s.place) ≡ true
target_turn p s items it alike is target on =
    let f = found p s.place _ on in
    let a = told_of items s.place f.work it (item_at p items s.place f.work alike f.is) is in
    at_work p s.place (λ w. w.deferred || is_target w.kind) true f.work f.is
    (or_right f.work.deferred (is_target f.work.kind) (ap is_target (sym a.1) ∙ target))

-- whether an item is for workers, as the image has it
handed_here : (p : Plan) (s : State) (items : List Item) (i : ℕ) (it : Item) →
    map facts_of p.items ≡ map item_facts items → slice_get items i ≡ Some it → enabled p s (Close i) ≡ true →
    is_for_workers p (Open i) ≡ is_handed it
handed_here p s items i it alike is may =
    let f = found p i _ may in
    let a = told_of items i f.work it (item_at p items i f.work alike f.is) is in
    at_work p i (λ w. w.deferred || is_target w.kind) (f.work.deferred || is_target f.work.kind) f.work f.is refl
    ∙ ap₂ (λ (d : Bool) (k : ItemKind). d || is_target k) (sym a.0) (sym a.1)

-- an item that may be closed is one of the image's
closed_within : (p : Plan) (s : State) (items : List Item) (i : ℕ) → map facts_of p.items ≡ map item_facts items →
    enabled p s (Close i) ≡ true → i < length items
closed_within p s items i alike may =
    let f = found p i _ may in
    let l = slice_get_within p.items i f.work f.is in
    let n = as_many p items alike in
    omega (arith, l, n)

-- whether an item that may be closed is for workers, as the image has it at its place
pub closed_own : (image : Program) (r : Run) (items : List Item) (i : ℕ) (it : Item) → IsOf image r →
    all_shown (entries_of image) items ≡ as_shown (plan image).items →
    enabled (plan r.program) (state_of r) (Close i) ≡ true → it ≡ get_or items i it →
    is_for_workers (plan r.program) (Open i) ≡ is_handed it
closed_own image r items i it of shown may is =
    let alike = same_items image r items of shown in
    let within = closed_within (plan r.program) (state_of r) items i alike may in
    let there : slice_get items i ≡ Some it = slice_get-get_or items i it within ∙ ap (λ (x : Item). Some x) (sym is) in
    handed_here (plan r.program) (state_of r) items i it alike there may
