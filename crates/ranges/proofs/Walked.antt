-- What is seen after some touches and then others.
use Rattle.std.proofs.Common.{◌≡◌, ℕ, suc, ◌+◌, ◌<◌, ◌≤◌, Bool, List, [], ◌∷◌, ◌++◌, refl, sym, ap, ◌∙◌, Vec, Global, drop, length, get_or, add-one, drop-cons}
use Rattle.std.specs.Prelude.{◌&&◌}
use Rattle.base.specs.declared.fault.Interval.{Interval}
use Rattle.base.specs.declared.tree.Expr.{Expr}
use Rattle.base.specs.declared.tree.Bounds.{Bounds}
use Rattle.base.specs.declared.tree.Stmt.{Stmt, Loop, If}
use Rattle.base.specs.Interval.{interval, is_known_zero, is_known_nonzero}
use Rattle.base.specs.Footprint.{Touch, expr_touches, stmt_touches, turns_touch, unless}
use Rattle.ranges.specs.Seen.{Seen, after, after_touch, list_touches, turns_from}
use Rattle.base.proofs.LoopTurns.{one_turn_less, no_turn_left}
use Rattle.ranges.proofs.Touches.{touches_Loop, touches_If}

pub after_append : (lengths : List ℕ) (xs ys : List Touch) (seen : Seen) →
    after lengths (xs ++ ys) seen ≡ after lengths ys (after lengths xs seen)
after_append lengths [] ys seen = refl
after_append lengths (t ∷ xs) ys seen = after_append lengths xs ys
    (after_touch lengths t seen)

-- a condition was walked, and then its branches
pub walked_If : (lengths : List ℕ) (s : Stmt) (c : Expr) (all other : Vec Stmt Global) (loops : List ℕ)
    (certain : Bool) (seen : Seen)
    (known : Interval) (fails holds with_first with_second : Bool) (xs ys : List Stmt) (left : List ℕ)
    (tested between : Seen) →
    s ≡ If c all other →
    xs ≡ all.items →
    ys ≡ other.items →
    known ≡ interval c loops →
    fails ≡ is_known_zero known →
    holds ≡ is_known_nonzero known →
    with_first ≡ (certain && holds) →
    with_second ≡ (certain && fails) →
    left ≡ loops →
    tested ≡ after lengths (expr_touches c loops certain) seen →
    between ≡ after lengths (unless fails (list_touches xs loops with_first)) tested →
    after lengths (unless holds (list_touches ys left with_second)) between ≡ after lengths
    (stmt_touches s loops certain) seen
walked_If lengths s c all other loops certain seen known fails holds with_first with_second xs ys left tested between
    is xs_is ys_is known_is fails_is holds_is first_is second_is left_is tested_is between_is =
    (λ i. after lengths (unless (holding i) (list_touches (ys_is i) (left_is i) (second i))) (held i))
    ∙ sym (after_append lengths front back (after lengths (expr_touches c loops certain) seen))
    ∙ sym (after_append lengths (expr_touches c loops certain) (front ++ back) seen)
    ∙ ap (λ ts. after lengths ts seen) (sym (touches_If c all other loops certain) ∙ ap
    (λ t. stmt_touches t loops certain) (sym is))
  where
    front : List Touch
    front = unless (is_known_zero (interval c loops)) (list_touches all.items loops
        (certain && is_known_nonzero (interval c loops)))

    back : List Touch
    back = unless (is_known_nonzero (interval c loops)) (list_touches other.items loops
        (certain && is_known_zero (interval c loops)))

    holding : holds ≡ is_known_nonzero (interval c loops)
    holding = holds_is ∙ ap (λ k. is_known_nonzero k) known_is

    failing : fails ≡ is_known_zero (interval c loops)
    failing = fails_is ∙ ap (λ k. is_known_zero k) known_is

    first : with_first ≡ (certain && is_known_nonzero (interval c loops))
    first = first_is ∙ ap (λ b. certain && b) holding

    second : with_second ≡ (certain && is_known_zero (interval c loops))
    second = second_is ∙ ap (λ b. certain && b) failing

    held : between ≡ after lengths (unless (is_known_zero (interval c loops))
        (list_touches all.items loops (certain && is_known_nonzero (interval c loops))))
        (after lengths (expr_touches c loops certain) seen)
    held = between_is ∙ (λ i. after lengths (unless (failing i) (list_touches (xs_is i) loops (first i)))
        (tested_is i))

pub from_Loop : (lengths : List ℕ) (s : Stmt) (b : Bounds) (all : Vec Stmt Global) (xs : List Stmt) (loops : List ℕ)
    (certain : Bool) (seen : Seen) →
    s ≡ Loop b all →
    xs ≡ all.items →
    after lengths (turns_from b.first b xs loops certain) seen ≡ after lengths
    (stmt_touches s loops certain) seen
from_Loop lengths s b all xs loops certain seen is xs_is =
    ap (λ ys. after lengths (turns_from b.first b ys loops certain) seen) xs_is
    ∙ ap (λ ts. after lengths ts seen) (sym (touches_Loop b all loops certain) ∙ ap
    (λ t. stmt_touches t loops certain) (sym is))

-- the next statement was walked
pub walked_next : (lengths : List ℕ) (all : List Stmt) (k : ℕ) (item : Stmt) (loops held : List ℕ) (certain : Bool)
    (seen new : Seen) →
    k < length all →
    item ≡ get_or all k item →
    held ≡ loops →
    new ≡ after lengths (stmt_touches item held certain) seen →
    after lengths (list_touches (drop (k + 1) all) loops certain) new ≡ after lengths
    (list_touches (drop k all) loops certain) seen
walked_next lengths all k item loops held certain seen new within is held_is new_is =
    ap (λ n. after lengths (list_touches (drop n all) loops certain) new) (add-one k)
    ∙ ap (λ l. after lengths (list_touches (drop (suc k) all) loops certain) l)
    (new_is ∙ (λ i. after lengths (stmt_touches item (held_is i) certain) seen))
    ∙ sym (after_append lengths (stmt_touches item loops certain) (list_touches (drop (suc k) all) loops certain) seen)
    ∙ ap (λ x. after lengths (stmt_touches x loops certain ++ list_touches (drop (suc k) all) loops certain)
    seen) is
    ∙ ap (λ xs. after lengths (list_touches xs loops certain) seen) (sym (drop-cons all k item within))

-- one turn, and the turns after it
pub turn_touches : (v : ℕ) (b : Bounds) (body : List Stmt) (loops : List ℕ) (certain : Bool) → v < b.end →
    turns_from v b body loops certain ≡ list_touches body (loops ++ v ∷ []) certain ++ turns_from (v + b.step) b body
    loops certain
turn_touches v b body loops certain h =
    ap (λ n. turns_touch n v b.step (λ v. list_touches body (loops ++ v ∷ []) certain)) (one_turn_less v b h)

pub no_turn_touches : (v : ℕ) (b : Bounds) (body : List Stmt) (loops : List ℕ) (certain : Bool) → b.end ≤ v →
    turns_from v b body loops certain ≡ []
no_turn_touches v b body loops certain h =
    ap (λ n. turns_touch n v b.step (λ v. list_touches body (loops ++ v ∷ []) certain)) (no_turn_left v b h)

pub walked_turn : (lengths : List ℕ) (v : ℕ) (b : Bounds) (body : List Stmt) (loops held : List ℕ) (certain : Bool)
    (seen new : Seen) →
    v < b.end →
    held ≡ loops ++ v ∷ [] →
    new ≡ after lengths (list_touches body held certain) seen →
    after lengths (turns_from (v + b.step) b body loops certain) new ≡ after lengths
    (turns_from v b body loops certain) seen
walked_turn lengths v b body loops held certain seen new h held_is new_is =
    ap (λ l. after lengths (turns_from (v + b.step) b body loops certain) l)
    (new_is ∙ (λ i. after lengths (list_touches body (held_is i) certain) seen))
    ∙ sym (after_append lengths (list_touches body (loops ++ v ∷ []) certain)
    (turns_from (v + b.step) b body loops certain) seen)
    ∙ ap (λ ts. after lengths ts seen) (sym (turn_touches v b body loops certain h))
