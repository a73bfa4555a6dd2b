-- What is noted after some touches and then others, statement by statement.
use Rattle.std.proofs.Common.{◌≡◌, ℕ, suc, ◌+◌, ◌<◌, Bool, true, List, [], ◌∷◌, ◌++◌, map, refl, sym, ap, ◌∙◌, Vec, Global, drop, length, get_or, add-one, drop-cons}
use Rattle.base.specs.declared.fault.Interval.{Interval}
use Rattle.base.specs.declared.tree.Expr.{Expr}
use Rattle.base.specs.declared.tree.Bounds.{Bounds}
use Rattle.base.specs.declared.tree.Stmt.{Stmt, Loop, If}
use Rattle.base.specs.Interval.{interval, is_known_zero, is_known_nonzero}
use Rattle.base.specs.Footprint.{Touch, expr_touches, stmt_touches, unless}
use Rattle.ranges.specs.Seen.{list_touches, turns_from}
use Rattle.ranges.specs.Ways.{Noted, after_use, after_uses, kind_of}
use Rattle.ranges.proofs.CertainTouches.{as_certain, branch_alike}
use Rattle.ranges.proofs.Touches.{touches_Loop, touches_If}
use Rattle.ranges.proofs.Walked.{turn_touches}

pub uses_append : (lengths : List ℕ) (adds : Bool) (xs ys : List Touch) (s : Noted) →
    after_uses lengths adds (xs ++ ys) s ≡ after_uses lengths adds ys (after_uses lengths adds xs s)
uses_append lengths adds [] ys s = refl
uses_append lengths adds (t ∷ xs) ys s =
    uses_append lengths adds xs ys (after_use lengths adds (kind_of t) t.array t.cells s)

-- it makes no difference whether a touch is certain
uses_certain : (lengths : List ℕ) (adds : Bool) (xs : List Touch) (s : Noted) →
    after_uses lengths adds (map as_certain xs) s ≡ after_uses lengths adds xs s
uses_certain lengths adds [] s = refl
uses_certain lengths adds (t ∷ xs) s =
    uses_certain lengths adds xs (after_use lengths adds (kind_of t) t.array t.cells s)

branch_uses : (lengths : List ℕ) (adds excluded : Bool) (all : List Stmt) (loops : List ℕ) (b : Bool) (s : Noted) →
    after_uses lengths adds (unless excluded (list_touches all loops true)) s
    ≡ after_uses lengths adds (unless excluded (list_touches all loops b)) s
branch_uses lengths adds excluded all loops b s =
    sym (uses_certain lengths adds (unless excluded (list_touches all loops true)) s)
    ∙ ap (λ ts. after_uses lengths adds ts s) (branch_alike excluded all loops true b)
    ∙ uses_certain lengths adds (unless excluded (list_touches all loops b)) s

-- a condition was noted, and then its branches
pub used_If : (lengths : List ℕ) (adds : Bool) (s : Stmt) (c : Expr) (all other : Vec Stmt Global) (loops : List ℕ)
    (old : Noted) (known : Interval) (fails holds : Bool) (xs ys : List Stmt) (left : List ℕ) (tested between : Noted) →
    s ≡ If c all other →
    xs ≡ all.items →
    ys ≡ other.items →
    known ≡ interval c loops →
    fails ≡ is_known_zero known →
    holds ≡ is_known_nonzero known →
    left ≡ loops →
    tested ≡ after_uses lengths adds (expr_touches c loops true) old →
    between ≡ after_uses lengths adds (unless fails (list_touches xs loops true)) tested →
    after_uses lengths adds (unless holds (list_touches ys left true)) between
    ≡ after_uses lengths adds (stmt_touches s loops true) old
used_If lengths adds s c all other loops old known fails holds xs ys left tested between is xs_is ys_is known_is fails_is
    holds_is left_is tested_is between_is =
    (λ i. after_uses lengths adds (unless (holding i) (list_touches (ys_is i) (left_is i) true)) (held i))
    ∙ ap (λ n. after_uses lengths adds (unless (is_known_nonzero (interval c loops)) (list_touches other.items loops true)) n)
    (branch_uses lengths adds (is_known_zero (interval c loops)) all.items loops (is_known_nonzero (interval c loops)) whole)
    ∙ branch_uses lengths adds (is_known_nonzero (interval c loops)) other.items loops (is_known_zero (interval c loops))
    (after_uses lengths adds front whole)
    ∙ sym (uses_append lengths adds front back whole)
    ∙ sym (uses_append lengths adds (expr_touches c loops true) (front ++ back) old)
    ∙ ap (λ ts. after_uses lengths adds ts old) (sym (touches_If c all other loops true) ∙ ap
    (λ t. stmt_touches t loops true) (sym is))
  where
    whole : Noted
    whole = after_uses lengths adds (expr_touches c loops true) old

    front : List Touch
    front = unless (is_known_zero (interval c loops)) (list_touches all.items loops (is_known_nonzero (interval c loops)))

    back : List Touch
    back = unless (is_known_nonzero (interval c loops)) (list_touches other.items loops (is_known_zero (interval c loops)))

    holding : holds ≡ is_known_nonzero (interval c loops)
    holding = holds_is ∙ ap (λ k. is_known_nonzero k) known_is

    failing : fails ≡ is_known_zero (interval c loops)
    failing = fails_is ∙ ap (λ k. is_known_zero k) known_is

    held : between ≡ after_uses lengths adds (unless (is_known_zero (interval c loops)) (list_touches all.items loops true)) whole
    held = between_is ∙ (λ i. after_uses lengths adds (unless (failing i) (list_touches (xs_is i) loops true)) (tested_is i))

pub used_Loop : (lengths : List ℕ) (adds : Bool) (s : Stmt) (b : Bounds) (all : Vec Stmt Global) (xs : List Stmt)
    (loops : List ℕ) (old : Noted) → s ≡ Loop b all → xs ≡ all.items →
    after_uses lengths adds (turns_from b.first b xs loops true) old ≡ after_uses lengths adds (stmt_touches s loops true) old
used_Loop lengths adds s b all xs loops old is xs_is =
    ap (λ ys. after_uses lengths adds (turns_from b.first b ys loops true) old) xs_is
    ∙ ap (λ ts. after_uses lengths adds ts old) (sym (touches_Loop b all loops true) ∙ ap (λ t. stmt_touches t loops true) (sym is))

-- the next statement was noted
pub used_next : (lengths : List ℕ) (adds : Bool) (all : List Stmt) (k : ℕ) (item : Stmt) (loops held : List ℕ)
    (old new : Noted) →
    k < length all →
    item ≡ get_or all k item →
    held ≡ loops →
    new ≡ after_uses lengths adds (stmt_touches item held true) old →
    after_uses lengths adds (list_touches (drop (k + 1) all) loops true) new
    ≡ after_uses lengths adds (list_touches (drop k all) loops true) old
used_next lengths adds all k item loops held old new within is held_is new_is =
    ap (λ n. after_uses lengths adds (list_touches (drop n all) loops true) new) (add-one k)
    ∙ ap (λ l. after_uses lengths adds (list_touches (drop (suc k) all) loops true) l)
    (new_is ∙ (λ i. after_uses lengths adds (stmt_touches item (held_is i) true) old))
    ∙ sym (uses_append lengths adds (stmt_touches item loops true) (list_touches (drop (suc k) all) loops true) old)
    ∙ ap (λ x. after_uses lengths adds (stmt_touches x loops true ++ list_touches (drop (suc k) all) loops true) old) is
    ∙ ap (λ xs. after_uses lengths adds (list_touches xs loops true) old) (sym (drop-cons all k item within))

-- one turn was noted
pub used_turn : (lengths : List ℕ) (adds : Bool) (v : ℕ) (b : Bounds) (body : List Stmt) (loops held : List ℕ)
    (old new : Noted) →
    v < b.end →
    held ≡ loops ++ v ∷ [] →
    new ≡ after_uses lengths adds (list_touches body held true) old →
    after_uses lengths adds (turns_from (v + b.step) b body loops true) new
    ≡ after_uses lengths adds (turns_from v b body loops true) old
used_turn lengths adds v b body loops held old new h held_is new_is =
    ap (λ l. after_uses lengths adds (turns_from (v + b.step) b body loops true) l)
    (new_is ∙ (λ i. after_uses lengths adds (list_touches body (held_is i) true) old))
    ∙ sym (uses_append lengths adds (list_touches body (loops ++ v ∷ []) true)
    (turns_from (v + b.step) b body loops true) old)
    ∙ ap (λ ts. after_uses lengths adds ts old) (sym (turn_touches v b body loops true h))
