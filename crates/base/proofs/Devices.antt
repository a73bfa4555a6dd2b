-- What is done on one device, as it shows on all of them: that device has what was made of it, the others what they had.
use Rattle.std.proofs.Common.{◌≡◌, ◌⊎◌, ℕ, ◌==◌, Bool, true, false, ◌||◌, ◌&&◌, Option, Some, None, refl, ap, subst, sym, ◌∙◌, inl, inr}
use Rattle.std.proofs.lemmas.Bool.{cases_Bool, cond-true, cond-false, eq-eqb, eqb-true, or_left, or_right, or_cases, and_parts, false≢true}
use Rattle.base.specs.declared.item.Cell.{Cell}
use Rattle.base.specs.declared.item.Loc.{Loc}
use Rattle.base.specs.declared.item.Loc.TheVariants as at
use Rattle.base.specs.Memory.{changed}
use Rattle.base.specs.Map.{Device, Memories, AllMemories, memories_at, with_memories_at}
use Rattle.base.specs.Actions.{Side, Dev, Tab, Stage, side_of, on_side, item_reads, item_writes, conflict_at, conflict, touches_in}
use Rattle.base.specs.Current.{AllCurrent, current_at, after_actions, after_stage, other_side}

pub changed_same : {A : Type 0} (d : ℕ) (x : A) (f : ℕ → A) → changed d x f d ≡ x
changed_same d x f = cond-true (d == d) x (f d) (eq-eqb d d refl)

pub changed_other : {A : Type 0} (d e : ℕ) (x : A) (f : ℕ → A) → (e == d) ≡ false → changed d x f e ≡ f e
changed_other d e x f n = cond-false (e == d) x (f e) n

-- Memories.

pub memories_back : (d : ℕ) (m : Memories) (all : AllMemories) → memories_at d (with_memories_at d m all) ≡ m
memories_back d m all =
    ap (λ (x : Device). record { host = m.host; device = x }) (changed_same d m.device all.devices)

pub memories_else : (d e : ℕ) (m : Memories) (all : AllMemories) → (e == d) ≡ false →
    memories_at e (with_memories_at d m all) ≡ record { host = m.host; device = all.devices e }
memories_else d e m all n =
    ap (λ (x : Device). record { host = m.host; device = x }) (changed_other d e m.device all.devices n)

-- What is current.

pub current_back : (s : Stage) (k : AllCurrent) →
    current_at s.work.device (after_stage s k) ≡ after_actions s.actions (current_at s.work.device k)
current_back s k =
    let m = after_actions s.actions (current_at s.work.device k) in
    ap (λ (x : Cell → Bool). record { host = m.host; device = x })
    (changed_same s.work.device m.device (λ e. other_side (touches_in s.work) (k.devices e)))

pub current_else : (s : Stage) (e : ℕ) (k : AllCurrent) → (e == s.work.device) ≡ false →
    (after_stage s k).devices e ≡ other_side (touches_in s.work) (k.devices e)
current_else s e k n =
    changed_other s.work.device e (after_actions s.actions (current_at s.work.device k)).device
    (λ e. other_side (touches_in s.work) (k.devices e)) n

-- Accesses.

pub side_dev : (d : ℕ) → side_of d (at.Dev d) ≡ Some Dev
side_dev d = cond-true (d == d) (Some Dev) None (eq-eqb d d refl)

pub side_tab : (d : ℕ) → side_of d (at.Tab d) ≡ Some Tab
side_tab d = cond-true (d == d) (Some Tab) None (eq-eqb d d refl)

-- a location at which there is an access has a side
pub side_there : (o : Option Side) (f : Side → Bool) → on_side o f ≡ true → (side : Side) × (o ≡ Some side) × (f side ≡ true)
side_there None f h = absurd (false≢true h)
side_there (Some side) f h = (side, refl, h)

-- and that of a device is on the item's own
own_dev : (d e : ℕ) (side : Side) → side_of d (at.Dev e) ≡ Some side → d ≡ e
own_dev d e side h = go (cases_Bool (d == e))
  where
    go : ((d == e) ≡ true) ⊎ ((d == e) ≡ false) → d ≡ e
    go (inl t) = eqb-true d e t
    go (inr n) = absurd (cc (sym (cond-false (d == e) (Some Dev) None n) ∙ h))

own_tab : (d e : ℕ) (side : Side) → side_of d (at.Tab e) ≡ Some side → d ≡ e
own_tab d e side h = go (cases_Bool (d == e))
  where
    go : ((d == e) ≡ true) ⊎ ((d == e) ≡ false) → d ≡ e
    go (inl t) = eqb-true d e t
    go (inr n) = absurd (cc (sym (cond-false (d == e) (Some Tab) None n) ∙ h))

-- Conflicts: wherever two items have an access of which one writes, the locations of the first one show it.

accessed : (s t : Stage) (c : Cell) (loc : Loc) → conflict_at s t c loc ≡ true →
    (side : Side) × (side_of s.work.device loc ≡ Some side)
accessed s t c loc h =
    go (or_cases (item_writes s loc c && (item_reads t loc c || item_writes t loc c)) (item_reads s loc c && item_writes t loc c) h)
  where
    one : (f : Side → Bool) → on_side (side_of s.work.device loc) f ≡ true →
        (side : Side) × (side_of s.work.device loc ≡ Some side)
    one f h = let r = side_there (side_of s.work.device loc) f h in (r.0, r.1)

    go : ((item_writes s loc c && (item_reads t loc c || item_writes t loc c)) ≡ true) ⊎
        ((item_reads s loc c && item_writes t loc c) ≡ true) →
        (side : Side) × (side_of s.work.device loc ≡ Some side)
    go (inl w) = one _ (and_parts (item_writes s loc c) _ w).0
    go (inr r) = one _ (and_parts (item_reads s loc c) _ r).0

pub at_some_place : (s t : Stage) (c : Cell) (loc : Loc) → conflict_at s t c loc ≡ true → conflict s t c ≡ true
at_some_place s t c at.Host h = or_left (conflict_at s t c at.Host) _ h
at_some_place s t c (at.Dev e) h =
    let a = accessed s t c (at.Dev e) h in
    let d = s.work.device in
    let same : d ≡ e = own_dev d e a.0 a.1 in
    or_right (conflict_at s t c at.Host) _
    (or_left (conflict_at s t c (at.Dev d)) _ (subst (λ x. conflict_at s t c (at.Dev x) ≡ true) (sym same) h))
at_some_place s t c (at.Tab e) h =
    let a = accessed s t c (at.Tab e) h in
    let d = s.work.device in
    let same : d ≡ e = own_tab d e a.0 a.1 in
    or_right (conflict_at s t c at.Host) _
    (or_right (conflict_at s t c (at.Dev d)) _
    (or_left (conflict_at s t c (at.Tab d)) false (subst (λ x. conflict_at s t c (at.Tab x) ≡ true) (sym same) h)))
