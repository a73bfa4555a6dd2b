-- What one more event of a run leaves of what was handed to workers.
use Rattle.std.proofs.Common.{◌≡◌, ℕ, ◌+◌, ◌-◌, ◌≤◌, ◌++◌, Bool, true, false, List, [], ◌∷◌, length, map, refl, sym, ap, ◌∙◌, subst, arith, append-nil, Option, Some, None, Result, Ok, Err, OnOk, OnErr, ◌⊎◌, inl, inr}
use Rattle.std.specs.Prelude.{if◌then◌else◌}
use Rattle.std.proofs.lemmas.Bool.{true≢false}
use Rattle.std.proofs.lemmas.List.{map-append}
use Rattle.std.proofs.lemmas.Option.{same_Some}
use Rattle.base.specs.declared.item.Event.{Event}
use Rattle.base.specs.declared.item.Event.TheVariants.{Gen, Open, Step, Close, Wait, End}
use Rattle.base.specs.declared.tree.Program.{Program}
use Rattle.base.specs.Items.{Plan, plan}
use Rattle.base.specs.Machine.{State, HasEnded, RunFrom, enabled, start}
use Rattle.device.specs.Leading.{is_after, takes}
use Rattle.device.specs.Run.{HasOpened, Run, after, fill_in, state_of}
use Rattle.device.specs.Running.{IsReached}
use Rattle.device.specs.declared.jobs.Job.{Job}
use Rattle.device.specs.Jobs.{IsJob}
use Rattle.device.specs.Taking.{HasDone, Takes}
use Rattle.device.proofs.EventBounds.{is_fine, nothing_after}
use Rattle.device.proofs.Reaching.{is_opened_next}
use Rattle.host.proofs.Owned.{event_own, more_own, none_own}
use Rattle.host.proofs.Past.{handed_next, opened_once}
use Rattle.host.proofs.Turns.{Turned, none_open, part, returned_by, turned}
use Rattle.host.specs.Handing.{handed, handed_by, open_for_workers}
use Rattle.host.specs.Idle.{is_for_workers}
use Rattle.host.specs.Once.{times}
use Rattle.host.specs.Sent.{AreOwn, IsSent, handed_in, item_of, open_count}
use Rattle.host.specs.Stops.{IsOver}
use Rattle.host.specs.declared.board.Stop.{Stop}

-- before an event that may happen, the run has not ended
pub not_ended : (r : Run) (e : Event) → IsReached r → enabled (plan r.program) (state_of r) e ≡ true →
    HasEnded (plan r.program) (state_of r) → ⊥
not_ended r e h may ended =
    nothing_after (plan r.program) (fill_in r) r.input r.history (state_of r) h.ran ended e may

-- a run with one more event
pub record Follows (old new : Run) (e : Event) : Type 0 where
  pub handed : handed_in new ≡ handed_in old ++ handed_by (plan old.program) e
  pub count : open_count new + length (returned_by (plan old.program) e)
      ≡ open_count old + length (handed_by (plan old.program) e)
  pub going : (e ≡ End → ⊥) → HasEnded (plan new.program) (state_of new) → ⊥

pub follows : (old new : Run) (e : Event) → IsReached old → enabled (plan old.program) (state_of old) e ≡ true →
    Takes old e new → Follows old new e
follows old new e h may is = record {
  handed = ap (λ (q : Program). handed (plan q) new.history) is.program ∙ ap (handed pl) is.history
      ∙ handed_next pl old.history e;
  count =
      subst (λ (q : Program). length (open_for_workers (plan q) (state_of new)) + length (returned_by pl e)
      ≡ open_count old + length (handed_by pl e)) (sym is.program) t.count;
  going = λ other ended. t.going other (subst (λ (q : Program). HasEnded (plan q) (state_of new)) is.program ended);
}
  where
    pl : Plan
    pl = plan old.program

    t : Turned pl (fill_in old) (state_of old) (state_of new) e
    t =
        turned pl (fill_in old) (state_of old) (is_fine pl (fill_in old) old.input old.history (state_of old) h.ran)
        (not_ended old e h may) (state_of new) e may is.stepped

opened_takes : (old new : Run) (i : ℕ) → IsReached old → enabled (plan old.program) (state_of old) (Open i) ≡ true →
    HasOpened i old new → Takes old (Open i) new
opened_takes old new i h may is = takes old new (Open i) h may (is_opened_next old new i is)

-- ---- an event of the host

none_handed : (p : Plan) (e : Event) → is_for_workers p e ≡ false → (handed_by p e ≡ []) × (returned_by p e ≡ [])
none_handed p (Gen i) h = (refl, refl)
none_handed p (Open i) h = (ap (λ (b : Bool). if b then i ∷ [] else []) h, refl)
none_handed p (Step i) h = (refl, refl)
none_handed p (Close i) h = absurd (true≢false h)
none_handed p (Wait i) h = (refl, refl)
none_handed p End h = (refl, refl)

-- hands nothing out, and leaves as many open
pub host_count : (old new : Run) (e : Event) (n : ℕ) → IsReached old →
    enabled (plan old.program) (state_of old) e ≡ true → is_for_workers (plan old.program) e ≡ false → Takes old e new →
    n ≡ open_count old → n ≡ open_count new
host_count old new e n h may own is same =
    let f = follows old new e h may is in
    let k = none_handed (plan old.program) e own in
    let a : length (handed_by (plan old.program) e) ≡ 0 = ap (λ (xs : List ℕ). length xs) k.0 in
    let b : length (returned_by (plan old.program) e) ≡ 0 = ap (λ (xs : List ℕ). length xs) k.1 in
    omega (arith, f.count, a, b, same)

-- it was not sent before
pub not_sent : (r : Run) (i : ℕ) (sent : List ℕ) → IsReached r → enabled (plan r.program) (state_of r) (Open i) ≡ true →
    sent ≡ handed_in r → times i sent ≡ 0
not_sent r i sent h may same =
    ap (times i) same ∙ opened_once (plan r.program) (fill_in r) r.input r.history (state_of r) i h.ran may

pub host_sent : (old new : Run) (e : Event) (o : Option Stop) (jobs : Option (List Job)) → IsReached old →
    enabled (plan old.program) (state_of old) e ≡ true → is_for_workers (plan old.program) e ≡ false → Takes old e new →
    HasDone e old new → o ≡ None → (HasEnded (plan new.program) (state_of new) → ⊥) → IsSent old o jobs → IsSent new o jobs
host_sent old new e o (Some sent) h may own is does goes on s =
    let f = follows old new e h may is in
    let k = none_handed (plan old.program) e own in
    let none : (i : ℕ) → e ≡ Open i → times i (map item_of sent) ≡ 0 = λ i same.
    not_sent old i (map item_of sent) h (ap (enabled (plan old.program) (state_of old)) (sym same) ∙ may) s.2.0 in (
      s.0,
      on,
      (
        s.2.0 ∙ sym (append-nil (handed_in old)) ∙ ap (λ ys. handed_in old ++ ys) (sym k.0) ∙ sym f.handed,
        event_own old new e sent does none s.2.1,
      ),
    )
host_sent old new e o None h may own is does goes on s =
    absurd (not_ended old e h may (subst (λ (x : Option Stop). IsOver x old) goes s))

pub host_opened_count : (old new : Run) (i n : ℕ) → IsReached old →
    enabled (plan old.program) (state_of old) (Open i) ≡ true → is_for_workers (plan old.program) (Open i) ≡ false →
    HasOpened i old new → n ≡ open_count old → n ≡ open_count new
host_opened_count old new i n h may own is same =
    host_count old new (Open i) n h may own (opened_takes old new i h may is) same

pub host_opened_sent : (old new : Run) (i : ℕ) (o : Option Stop) (jobs : Option (List Job)) → IsReached old →
    enabled (plan old.program) (state_of old) (Open i) ≡ true → is_for_workers (plan old.program) (Open i) ≡ false →
    HasOpened i old new → o ≡ None → IsSent old o jobs → IsSent new o jobs
host_opened_sent old new i o jobs h may own is goes s =
    let t = opened_takes old new i h may is in
    host_sent old new (Open i) o jobs h may own t is goes ((follows old new (Open i) h may t).going (λ e. absurd (cc e))) s

-- ---- an item that is handed out

pub hand_count : (old new : Run) (i : ℕ) → IsReached old → enabled (plan old.program) (state_of old) (Open i) ≡ true →
    is_for_workers (plan old.program) (Open i) ≡ true → HasOpened i old new → open_count new ≡ open_count old + 1
hand_count old new i h may own is =
    let f = follows old new (Open i) h may (opened_takes old new i h may is) in
    let a : length (handed_by (plan old.program) (Open i)) ≡ 1 =
    ap (λ (b : Bool). length (if b then i ∷ [] else [])) own in
    omega (arith, f.count, a)

pub hand_sent : (old new : Run) (i : ℕ) (sent : List Job) (job : Job) → IsReached old →
    enabled (plan old.program) (state_of old) (Open i) ≡ true → is_for_workers (plan old.program) (Open i) ≡ true →
    HasOpened i old new → IsJob new i job → map item_of sent ≡ handed_in old → AreOwn old sent →
    IsSent new None (Some (sent ++ job ∷ []))
hand_sent old new i sent job h may own is made same owned =
    let f = follows old new (Open i) h may (opened_takes old new i h may is) in
    let a : handed_by (plan old.program) (Open i) ≡ i ∷ [] = ap (λ (b : Bool). if b then i ∷ [] else []) own in
    let none : (k : ℕ) → ◌≡◌ {A = Event} (Open i) (Open k) → times k (map item_of sent) ≡ 0 = λ k e.
    subst (λ n. times n (map item_of sent) ≡ 0) (cc e) (not_sent old i (map item_of sent) h may same) in (
      tt,
      f.going (λ e. absurd (cc e)),
      (
        map-append item_of sent (job ∷ []) ∙ ap (λ n. map item_of sent ++ n ∷ []) made.item
            ∙ ap (λ xs. xs ++ i ∷ []) same ∙ ap (λ ys. handed_in old ++ ys) (sym a) ∙ sym f.handed,
        more_own new i sent job (event_own old new (Open i) sent is none owned) made,
      ),
    )

-- ---- an item that is closed

pub closed_sent : (old new : Run) (i : ℕ) (o : Option Stop) (jobs : Option (List Job)) → IsReached old →
    enabled (plan old.program) (state_of old) (Close i) ≡ true → new ≡ after old (Close i) → o ≡ None → IsSent old o jobs →
    IsSent new o jobs
closed_sent old new i o (Some sent) h may is goes s =
    let f = follows old new (Close i) h may (takes old new (Close i) h may (is_after old new (Close i) is)) in (
      s.0,
      f.going (λ e. absurd (cc e)),
      (
        s.2.0 ∙ sym (append-nil (handed_in old)) ∙ sym f.handed,
        event_own old new (Close i) sent is (λ k e. absurd (cc e)) s.2.1,
      ),
    )
closed_sent old new i o None h may is goes s =
    absurd (not_ended old (Close i) h may (subst (λ (x : Option Stop). IsOver x old) goes s))

pub closed_count : (old new : Run) (i : ℕ) → IsReached old → enabled (plan old.program) (state_of old) (Close i) ≡ true →
    new ≡ after old (Close i) → open_count new + part (is_for_workers (plan old.program) (Open i)) ≡ open_count old
closed_count old new i h may is = go (is_for_workers (plan old.program) (Open i)) refl
  where
    f : Follows old new (Close i)
    f = follows old new (Close i) h may (takes old new (Close i) h may (is_after old new (Close i) is))

    go : (b : Bool) → is_for_workers (plan old.program) (Open i) ≡ b →
        open_count new + part (is_for_workers (plan old.program) (Open i)) ≡ open_count old
    go true e =
        let a : length (returned_by (plan old.program) (Close i)) ≡ 1 = ap (λ (b : Bool). length (if b then i ∷ [] else [])) e in
        let b : part (is_for_workers (plan old.program) (Open i)) ≡ 1 = ap part e in
        omega (arith, f.count, a, b)
    go false e =
        let a : length (returned_by (plan old.program) (Close i)) ≡ 0 = ap (λ (b : Bool). length (if b then i ∷ [] else [])) e in
        let b : part (is_for_workers (plan old.program) (Open i)) ≡ 0 = ap part e in
        omega (arith, f.count, a, b)

-- ---- a run that has done nothing

at_start : (r : Run) → IsReached r → r.history ≡ [] → state_of r ≡ start r.input
at_start r h none =
    let ran : Some (state_of r) ≡ Some (start r.input) = subst
    (λ (events : List Event). RunFrom (plan r.program) (fill_in r) r.input events (Some (state_of r))) none h.ran in
    same_Some (state_of r) (start r.input) ran

pub start_count : (r : Run) → IsReached r → r.history ≡ [] → 0 ≡ open_count r
start_count r h none =
    sym (ap (λ (s : State). length (open_for_workers (plan r.program) s)) (at_start r h none)
    ∙ none_open (plan r.program) (start r.input) (λ i. refl))

pub start_sent : (r : Run) (sent : List Job) → IsReached r → r.history ≡ [] → sent ≡ [] → IsSent r None (Some sent)
start_sent r sent h none same = (
  tt,
  (λ ended. let e : 0 ≡ length (plan r.program).items + 1 = sym (ap (λ (s : State). s.place) (at_start r h none)) ∙ ended in omega (arith, e)),
  (
    ap (map item_of) same ∙ sym (ap (handed (plan r.program)) none),
    subst (AreOwn r) (sym same) (none_own r),
  ),
)

-- one item less is open, where it is for workers
pub closed_busy : (old new : Run) (i n : ℕ) → IsReached old → enabled (plan old.program) (state_of old) (Close i) ≡ true →
    new ≡ after old (Close i) → is_for_workers (plan old.program) (Open i) ≡ true → n ≡ open_count old →
    (1 ≤ n) × (n - 1 ≡ open_count new)
closed_busy old new i n h may is own same =
    let k = closed_count old new i h may is in
    let a : part (is_for_workers (plan old.program) (Open i)) ≡ 1 = ap part own in
    (omega (arith, k, a, same), omega (arith, k, a, same))

pub closed_other : (old new : Run) (i n : ℕ) → IsReached old → enabled (plan old.program) (state_of old) (Close i) ≡ true →
    new ≡ after old (Close i) → is_for_workers (plan old.program) (Open i) ≡ false → n ≡ open_count old → n ≡ open_count new
closed_other old new i n h may is own same =
    let k = closed_count old new i h may is in
    let a : part (is_for_workers (plan old.program) (Open i)) ≡ 0 = ap part own in
    omega (arith, k, a, same)

-- what an opening did, or that it did nothing
pub opened_or_not : {X Y : Type 0} (o : Result X Y) (A B : Type 0) → OnOk o A → OnErr o B → A ⊎ B
opened_or_not (Ok x) A B a b = inl a
opened_or_not (Err e) A B a b = inr b
