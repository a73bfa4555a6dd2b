-- So many turns of a loop at a time.
use Rattle.std.proofs.Common.{◌≡◌, ℕ, zero, suc, ◌+◌, ◌-◌, ◌*◌, ◌%◌, ◌<◌, ◌≤◌, Bool, List, [], ◌++◌, map, refl, sym, ap, ap₂, ◌∙◌, subst, arith}
use Rattle.std.proofs.lemmas.List.{append_assoc, append-nil}
use Rattle.std.proofs.Math.Nat.{add-mod_right, zero-mod}
use Rattle.base.specs.declared.tree.Bounds.{Bounds}
use Rattle.base.specs.declared.tree.Stmt.{Stmt}
use Rattle.base.specs.Footprint.{Touch, turns_touch}
use Rattle.base.specs.Meaning.{turns_left, turns_of}
use Rattle.ranges.specs.declared.slide.Slide.{Slide}
use Rattle.ranges.specs.Cases.{AddsSlides, AreTurns, IsBlock, Leaves, body_at}
use Rattle.ranges.specs.Seen.{Seen, after, list_touches, turns_from}
use Rattle.ranges.specs.Slides.{AllFit, slide_touch, slide_turns}
use Rattle.ranges.proofs.SettledTouches.{next_turns, some_turn}
use Rattle.ranges.proofs.Walked.{after_append}

-- turns, and then more of them
turns_both : (f : ℕ → List Touch) (step m k v : ℕ) →
    turns_touch (m + k) v step f ≡ turns_touch m v step f ++ turns_touch k (v + step * m) step f
turns_both f step zero k v =
    let many : 0 + k ≡ k = omega arith in
    let here : v ≡ v + step * 0 = grind arith in
    ap (λ m. turns_touch m v step f) many ∙ ap (λ w. turns_touch k w step f) here
turns_both f step (suc m) k v =
    let many : suc m + k ≡ suc (m + k) = omega arith in
    let further : v + step + step * m ≡ v + step * suc m = grind arith in
    ap (λ n. turns_touch n v step f) many
    ∙ ap (λ (ts : List Touch). f v ++ ts)
    (turns_both f step m k (v + step) ∙ ap (λ w. turns_touch m (v + step) step f ++ turns_touch k w step f) further)
    ∙ sym (append_assoc (f v) (turns_touch m (v + step) step f) (turns_touch k (v + step * suc m) step f))

one_more : (f : ℕ → List Touch) (step m v : ℕ) → turns_touch (m + 1) v step f ≡ turns_touch m v step f ++ f (v + step * m)
one_more f step m v =
    turns_both f step m 1 v ∙ ap (λ (ts : List Touch). turns_touch m v step f ++ ts) (append-nil (f (v + step * m)))

-- no turn was listed
pub no_turns : (all : Bounds) (step : ℕ) (f : ℕ → List Touch) → AreTurns all step 0 f []
no_turns all step f v turn = refl

-- one more turn was listed
pub turn_listed : (lengths loops : List ℕ) (all these : Bounds) (step done : ℕ) (body : List Stmt) (certain : Bool) (old new : List Slide) →
    these.first ≡ all.first + step * done → these.end ≡ these.first + (all.end - all.first) → these.step ≡ all.step →
    AreTurns all step done (body_at body loops certain) old →
    AddsSlides lengths loops these (λ ls. list_touches body ls certain) old new →
    AreTurns all step (done + 1) (body_at body loops certain) new
turn_listed lengths loops all these step done body certain old new first end step_is are adds v turn =
    ap (λ k. map (slide_touch k) new) (sym away)
    ∙ adds.touch (v + step * done) (record { from = from; below = below; whole = ap₂ (λ m k. m % k) away step_is ∙ turn.whole })
    ∙ ap (λ k. map (slide_touch k) old ++ body_at body loops certain (v + step * done)) away
    ∙ ap (λ (ts : List Touch). ts ++ body_at body loops certain (v + step * done)) (are v turn)
    ∙ sym (one_more (body_at body loops certain) step done v)
  where
    low : all.first ≤ v
    low = turn.from

    high : v < all.end
    high = turn.below

    from : these.first ≤ v + step * done
    from = omega (arith, first, low)

    below : v + step * done < these.end
    below = omega (arith, first, end, low, high)

    away : v + step * done - these.first ≡ v - all.first
    away = omega (arith, first, low)

pub fit_listed : (lengths loops : List ℕ) (all these : Bounds) (touches : List ℕ → List Touch) (old new : List Slide) →
    these.end ≡ these.first + (all.end - all.first) → AddsSlides lengths loops these touches old new →
    AllFit lengths (all.end - all.first) old → AllFit lengths (all.end - all.first) new
fit_listed lengths loops all these touches old new end adds fit =
    let same : these.end - these.first ≡ all.end - all.first = omega (arith, end) in
    subst (λ m. AllFit lengths m new) same (adds.fit (subst (λ m. AllFit lengths m old) (sym same) fit))

-- the turns of all are those of the loop, so many at a time
blocks_touch : (all : Bounds) (step turns : ℕ) (f : ℕ → List Touch) (slides : List Slide) → all.step ≡ step * turns →
    AreTurns all step turns f slides → (n v : ℕ) → n ≡ turns_left v all → all.first ≤ v → (v - all.first) % all.step ≡ 0 →
    slide_turns all.step n (v - all.first) slides ≡ turns_touch (turns * n) v step f
blocks_touch all step turns f slides by are zero v is low whole =
    let e : 0 ≡ turns * 0 = grind arith in ap (λ m. turns_touch m v step f) e
blocks_touch all step turns f slides by are (suc n) v is low whole =
    let lt = some_turn n v all is in
    let further : v - all.first + all.step ≡ v + all.step - all.first = omega (arith, low) in
    let more : turns + turns * n ≡ turns * suc n = grind arith in
    ap₂ (λ (ts us : List Touch). ts ++ us) (are v (record { from = low; below = lt; whole = whole }))
    (ap (λ k. slide_turns all.step n k slides) further
    ∙ blocks_touch all step turns f slides by are n (v + all.step) (next_turns n v all is) (omega (arith, low))
    (ap (λ m. m % all.step) (sym further) ∙ add-mod_right (v - all.first) all.step ∙ whole)
    ∙ ap (λ m. turns_touch (turns * n) (v + m) step f) by)
    ∙ sym (turns_both f step turns (turns * n) v)
    ∙ ap (λ m. turns_touch m v step f) more

-- they were noted, and the turns behind them are left
pub blocks_noted : (lengths loops : List ℕ) (body : List Stmt) (certain : Bool) (b all later : Bounds) (turns : ℕ) (slides : List Slide)
    (x seen : Seen) → IsBlock b all turns → Leaves b all later turns → AreTurns all b.step turns (body_at body loops certain) slides →
    seen ≡ after lengths (slide_turns all.step (turns_of all) 0 slides) x →
    after lengths (turns_from later.first later body loops certain) seen
    ≡ after lengths (turns_from b.first b body loops certain) x
blocks_noted lengths loops body certain b all later turns slides x seen block leaves are is =
    ap (after lengths (turns_from later.first later body loops certain))
    (is ∙ ap (λ ts. after lengths ts x) (ap (λ k. slide_turns all.step (turns_of all) k slides) none
    ∙ blocks_touch all b.step turns f slides block.step are (turns_of all) all.first refl (omega arith) whole
    ∙ ap (λ v. turns_touch (turns * turns_of all) v b.step f) block.first))
    ∙ sym (after_append lengths (turns_touch (turns * turns_of all) b.first b.step f) (turns_from later.first later body loops certain) x)
    ∙ ap (λ ts. after lengths ts x)
    ((λ i. turns_touch (turns * turns_of all) b.first b.step f ++ turns_touch (turns_of later) (next i) (leaves.step i) f)
    ∙ sym (turns_both f b.step (turns * turns_of all) (turns_of later) b.first)
    ∙ ap (λ m. turns_touch m b.first b.step f) leaves.count)
  where
    f : ℕ → List Touch
    f = body_at body loops certain

    none : 0 ≡ all.first - all.first
    none = omega arith

    whole : (all.first - all.first) % all.step ≡ 0
    whole = ap (λ m. m % all.step) (sym none) ∙ zero-mod all.step

    next : later.first ≡ b.first + b.step * (turns * turns_of all)
    next =
        let e : b.step * turns * turns_of all ≡ b.step * (turns * turns_of all) = grind arith in
        leaves.first ∙ ap (λ m. b.first + m * turns_of all) block.step ∙ ap (λ m. b.first + m) e
