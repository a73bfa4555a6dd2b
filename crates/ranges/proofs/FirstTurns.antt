-- The first turn of a loop that decides nothing sees what all of its turns see.
use Rattle.std.proofs.Common.{◌≡◌, ℕ, zero, suc, ◌+◌, ◌<◌, ◌≤◌, min, Bool, true, false, List, [], ◌∷◌, ◌++◌, sym, ap, ◌∙◌, ⊎_elim, arith, length, length-append, Vec, Global}
use Rattle.std.proofs.lemmas.Bool.{cases_lt}
use Rattle.std.proofs.lemmas.List.{get_or_append_left}
use Rattle.base.specs.declared.tree.Bounds.{Bounds}
use Rattle.base.specs.declared.tree.Stmt.{Stmt, Loop}
use Rattle.base.specs.Meaning.{turns_left}
use Rattle.base.specs.Footprint.{Touch, stmt_touches, turns_touch}
use Rattle.ranges.specs.Seen.{Seen, after, list_touches, turns_from}
use Rattle.regions.specs.Deciding.{AgreeWhere, list_decides}
use Rattle.regions.proofs.Undeciding.{list_alike}
use Rattle.ranges.specs.Deciding.{SeesAlike}
use Rattle.base.proofs.LoopTurns.{one_turn_less}
use Rattle.ranges.proofs.SeenTwice.{seen_twice}
use Rattle.ranges.proofs.Walked.{after_append, from_Loop, no_turn_touches}

-- turns that touch the same see what the first of them sees
turns_once : (lengths : List ℕ) (k v step : ℕ) (f : ℕ → List Touch) (s : Seen) → ((x y : ℕ) → f x ≡ f y) →
    after lengths (turns_touch (suc k) v step f) s ≡ after lengths (f v) s
turns_once lengths zero v step f s same = after_append lengths (f v) [] s
turns_once lengths (suc k) v step f s same =
    after_append lengths (f v) (turns_touch (suc k) (v + step) step f) s
    ∙ turns_once lengths k (v + step) step f (after lengths (f v) s) same
    ∙ ap (λ ts. after lengths ts (after lengths (f v) s)) (same (v + step) v)
    ∙ seen_twice lengths (f v) s

-- lists that differ in the last value alone agree where that decides nothing
agree : (p : ℕ → Bool) (loops : List ℕ) (x y : ℕ) → p (length loops) ≡ false →
    AgreeWhere p (loops ++ x ∷ []) (loops ++ y ∷ [])
agree p loops x y h = record {
  count = length-append loops (x ∷ []) ∙ sym (length-append loops (y ∷ []));
  values = λ i inside marked. ⊎_elim (λ (old : i < length loops).
      get_or_append_left loops (x ∷ []) 0 i old ∙ sym (get_or_append_left loops (y ∷ []) 0 i old))
      (λ (new : length loops ≤ i).
      absurd (last_is_not i (last i new inside) marked))
      (cases_lt i (length loops));
}
  where
    last : (i : ℕ) → length loops ≤ i → i < length (loops ++ x ∷ []) → i ≡ length loops
    last i le lt = let n = length-append loops (x ∷ []) in omega (arith, n, le, lt)

    last_is_not : (i : ℕ) → i ≡ length loops → p i ≡ true → ⊥
    last_is_not i e marked = grind (arith, e, marked, h)

abbrev body_touches : List Stmt → List ℕ → Bool → ℕ → List Touch
body_touches body loops certain v = list_touches body (loops ++ v ∷ []) certain

alike : (body : List Stmt) (loops : List ℕ) (certain : Bool) → list_decides (length loops) body ≡ false → (x y : ℕ) →
    body_touches body loops certain x ≡ body_touches body loops certain y
alike body loops certain h x y =
    list_alike (loops ++ x ∷ []) (loops ++ y ∷ []) certain body (agree (λ i. list_decides i body) loops x y h)

once : (body : List Stmt) (b : Bounds) (lengths loops : List ℕ) (certain : Bool) (s : Seen) →
    list_decides (length loops) body ≡ false → b.first < b.end →
    after lengths (turns_from b.first b body loops certain) s
    ≡ after lengths (body_touches body loops certain b.first) s
once body b lengths loops certain s h some =
    ap (λ n. after lengths (turns_touch n b.first b.step (body_touches body loops certain)) s)
    (one_turn_less b.first b some)
    ∙ turns_once lengths (turns_left (b.first + b.step) b) b.first b.step (body_touches body loops certain) s
    (alike body loops certain h)

pub first_turn_tells : (level : ℕ) (body : List Stmt) (few b : Bounds) → list_decides level body ≡ false →
    few.first ≡ b.first → few.end ≡ min b.end (b.first + 1) →
    SeesAlike level body few b
first_turn_tells level body few b h first end lengths loops certain s e = ⊎_elim some none (cases_lt b.first b.end)
  where
    undecided : list_decides (length loops) body ≡ false
    undecided = ap (λ n. list_decides n body) e ∙ h

    some : b.first < b.end → after lengths (turns_from few.first few body loops certain) s
        ≡ after lengths (turns_from b.first b body loops certain) s
    some lt =
        once body few lengths loops certain s undecided (omega arith)
        ∙ ap (λ v. after lengths (body_touches body loops certain v) s) first
        ∙ sym (once body b lengths loops certain s undecided lt)

    none : b.end ≤ b.first → after lengths (turns_from few.first few body loops certain) s
        ≡ after lengths (turns_from b.first b body loops certain) s
    none le =
        ap (λ ts. after lengths ts s)
        (no_turn_touches few.first few body loops certain (omega arith)
        ∙ sym (no_turn_touches b.first b body loops certain le))

-- the turns that tell what a loop touches were walked
pub told_Loop : (lengths : List ℕ) (s : Stmt) (b few : Bounds) (all : Vec Stmt Global) (xs ys : List Stmt)
    (loops : List ℕ) (certain : Bool) (seen : Seen) (level : ℕ) →
    s ≡ Loop b all →
    xs ≡ all.items →
    ys ≡ all.items →
    level ≡ length loops →
    SeesAlike level xs few b →
    after lengths (turns_from few.first few ys loops certain) seen ≡ after lengths
    (stmt_touches s loops certain) seen
told_Loop lengths s b few all xs ys loops certain seen level is xs_is ys_is level_is tells =
    ap (λ zs. after lengths (turns_from few.first few zs loops certain) seen) (ys_is ∙ sym xs_is)
    ∙ tells lengths loops certain seen (sym level_is)
    ∙ from_Loop lengths s b all xs loops certain seen is xs_is
