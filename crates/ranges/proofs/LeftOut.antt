-- Accesses of which nothing new is seen are left out of the turns of a loop.
use Rattle.std.proofs.Common.{◌≡◌, ℕ, ◌-◌, ◌<◌, ◌≤◌, Bool, List, [], ◌∷◌, ◌++◌, refl, sym, ap, ◌∙◌, subst, arith}
use Rattle.base.specs.declared.tree.Bounds.{Bounds}
use Rattle.base.specs.Footprint.{Touch}
use Rattle.base.specs.Meaning.{turns_left}
use Rattle.ranges.specs.declared.access.Access.{Access}
use Rattle.ranges.specs.Seen.{Seen, after}
use Rattle.ranges.specs.Settled.{IsSettled, Settles}
use Rattle.ranges.specs.Straight.{touch_at, touches_at, turns_at}
use Rattle.ranges.proofs.SettledTouches.{Known, grows_not, left_out, same_turns, settled_still}
use Rattle.ranges.proofs.Spans.{between_push, between_self}

touches_both : (xs ys : List Access) (loops : List ℕ) (certain : Bool) →
    touches_at (xs ++ ys) loops certain ≡ touches_at xs loops certain ++ touches_at ys loops certain
touches_both [] ys loops certain = refl
touches_both (x ∷ xs) ys loops certain = ap (λ (ts : List Touch). touch_at loops certain x ∷ ts) (touches_both xs ys loops certain)

pub access_left_out : (lengths : List ℕ) (b : Bounds) (loops : List ℕ) (certain : Bool) (before behind : List Access) (a : Access) (s : Seen) →
    Known s →
    ((w : ℕ) → b.first ≤ w → w < b.end → IsSettled lengths s (touch_at (loops ++ w ∷ []) certain a)) →
    after lengths (turns_at b.first b (before ++ behind) loops certain) s
    ≡ after lengths (turns_at b.first b (before ++ a ∷ behind) loops certain) s
access_left_out lengths b loops certain before behind a s known h =
    same_turns lengths s b (λ w. touches_at (before ++ behind) (loops ++ w ∷ []) certain)
    (λ w. touches_at (before ++ a ∷ behind) (loops ++ w ∷ []) certain) b.first (turns_left b.first b) b.first s
    (λ w y le lt grows.
    ap (λ (ts : List Touch). after lengths ts y) (touches_both before behind (loops ++ w ∷ []) certain)
    ∙ sym (left_out lengths (touches_at before (loops ++ w ∷ []) certain) (touches_at behind (loops ++ w ∷ []) certain)
    (touch_at (loops ++ w ∷ []) certain a) y (grows.known known)
    (settled_still lengths (touch_at (loops ++ w ∷ []) certain a) s y grows (h w le lt)))
    ∙ ap (λ (ts : List Touch). after lengths ts y) (sym (touches_both before (a ∷ behind) (loops ++ w ∷ []) certain)))
    (omega arith) refl (grows_not s)

-- what settles with the values of all turns settles in each
pub settled_in_turns : (lengths : List ℕ) (b : Bounds) (loops lows highs : List ℕ) (certain : Bool) (a : Access) (s : Seen) →
    lows ≡ loops ++ b.first ∷ [] → highs ≡ loops ++ (b.end - 1) ∷ [] →
    Settles lengths s lows highs certain (λ ls d. touch_at ls d a ∷ []) →
    (w : ℕ) → b.first ≤ w → w < b.end → IsSettled lengths s (touch_at (loops ++ w ∷ []) certain a)
settled_in_turns lengths b loops lows highs certain a s lows_is highs_is h w le lt =
    (subst (λ (xs : List ℕ). Settles lengths s (loops ++ b.first ∷ []) xs certain (λ ls d. touch_at ls d a ∷ [])) highs_is
    (subst (λ (xs : List ℕ). Settles lengths s xs highs certain (λ ls d. touch_at ls d a ∷ [])) lows_is h)
    (loops ++ w ∷ []) certain
    (between_push loops loops loops b.first (b.end - 1) w (between_self loops) le (omega (arith, lt))) (λ e. e)).0
