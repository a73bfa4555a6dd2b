-- The turns of a nest of loops, loop by loop.
use Rattle.std.proofs.Common.{◌≡◌, ℕ, zero, suc, ◌+◌, ◌-◌, ◌*◌, ◌<◌, ◌≤◌, min, List, [], ◌∷◌, ◌++◌, Option, Some, None, refl, sym, ap, ◌∙◌, Vec, Global, arith, length, length-append, get_or}
use mathlib.Core.Former.{Count}
use Rattle.base.specs.declared.tree.Bounds.{Bounds}
use Rattle.base.specs.declared.tree.Stmt.{Stmt, Loop, Row_of-Stmt, end_of-Stmt, more_of-Stmt, items-the_row-Stmt, items_hidden-the_row-Stmt-0}
use Rattle.base.specs.Meaning.{turns_left, turns_of}
use Rattle.base.specs.Turns.{Turn, each_turn, listed, loop_of, only_loop, turns_at}
use Rattle.base.proofs.LoopTurns.{no_turn_left, one_turn_less}
use Rattle.base.proofs.StmtRows.{first_row}
use Rattle.ranges.specs.Meetings.{turn_body}
use Rattle.ranges.specs.Ways.{Noted, after_turn, after_turns, loop_at}

-- ---- the loop that is all of some statements

row_listed : (n : Count) (row : Row_of-Stmt n) → listed row ≡ items-the_row-Stmt n row
row_listed n end_of-Stmt = refl
row_listed n (more_of-Stmt first rest) = ap (λ xs. first ∷ xs) (row_listed _ rest)

loop_found : (b : Bounds) (all : Vec Stmt Global) → loop_of (Loop b all) ≡ Some (b, all.items)
loop_found b all =
    ap (λ xs. Some (b, xs)) (row_listed (first_row (Loop b all)).0 (first_row (Loop b all)).1 ∙ items_hidden-the_row-Stmt-0 all)

pub is_loop : (s : Stmt) (b : Bounds) (all : Vec Stmt Global) (xs : List Stmt) → s ≡ Loop b all → xs ≡ all.items →
    Some (b, xs) ≡ loop_of s
is_loop s b all xs e f = ap (λ ys. Some (b, ys)) f ∙ sym (ap loop_of e ∙ loop_found b all)

pub only_one : (all : List Stmt) (s : Stmt) → length all ≡ 1 → s ≡ get_or all 0 s → loop_of s ≡ only_loop all
only_one [] s h e = absurd (omega arith)
only_one (x ∷ []) s h e = ap loop_of e
only_one (x ∷ y ∷ rest) s h e = absurd (omega arith)

pub not_one : (all : List Stmt) → (length all ≡ 1 → ⊥) → None ≡ only_loop all
not_one [] h = refl
not_one (x ∷ []) h = absurd (h refl)
not_one (x ∷ y ∷ rest) h = refl

-- ---- the turns

abbrev turns_by : ℕ → List Stmt → List ℕ → Option (Bounds × List Stmt) → List Turn
turns_by d body loops o = elim o as (λ z. List Turn) [
  | None ↦ record { loops = loops; body = body } ∷ []
  | Some l ↦ each_turn (turns_of l.0) l.0.first l.0.step (λ v. turns_at d l.1 (loops ++ v ∷ []))
]

abbrev body_by : ℕ → List Stmt → Option (Bounds × List Stmt) → List Stmt
body_by d body o = elim o as (λ z. List Stmt) [
  | None ↦ body
  | Some l ↦ turn_body d l.1
]

pub one_turn : (d : ℕ) (body : List Stmt) (loops : List ℕ) → loop_at d body ≡ None →
    turns_at d body loops ≡ record { loops = loops; body = body } ∷ []
one_turn zero body loops e = refl
one_turn (suc d) body loops e = ap (turns_by d body loops) e

-- the turns from a value of the outermost loop's name on
abbrev pub nest_from : ℕ → Bounds → ℕ → List Stmt → List ℕ → List Turn
nest_from v b d body loops = each_turn (turns_left v b) v b.step (λ v. turns_at d body (loops ++ v ∷ []))

pub nest_turns : (d : ℕ) (body : List Stmt) (loops : List ℕ) (b : Bounds) (inner : List Stmt) →
    loop_at d body ≡ Some (b, inner) → turns_at d body loops ≡ nest_from b.first b (d - 1) inner loops
nest_turns zero body loops b inner e = absurd cc
nest_turns (suc d) body loops b inner e =
    let less : d ≡ suc d - 1 = omega arith in
    ap (turns_by d body loops) e ∙ ap (λ n. nest_from b.first b n inner loops) less

pub nest_body : (d : ℕ) (body : List Stmt) (b : Bounds) (inner : List Stmt) → loop_at d body ≡ Some (b, inner) →
    turn_body (d - 1) inner ≡ turn_body d body
nest_body zero body b inner e = absurd cc
nest_body (suc d) body b inner e =
    let less : suc d - 1 ≡ d = omega arith in ap (λ n. turn_body n inner) less ∙ sym (ap (body_by d body) e)

pub no_nest_body : (d : ℕ) (body : List Stmt) → loop_at d body ≡ None → body ≡ turn_body d body
no_nest_body zero body e = refl
no_nest_body (suc d) body e = sym (ap (body_by d body) e)

pub turns_append : (lengths : List ℕ) (xs ys : List Turn) (s : Noted) →
    after_turns lengths (xs ++ ys) s ≡ after_turns lengths ys (after_turns lengths xs s)
turns_append lengths [] ys s = refl
turns_append lengths (t ∷ xs) ys s = turns_append lengths xs ys (after_turn lengths t s)

-- one turn of the outermost loop was noted
pub noted_turn : (lengths : List ℕ) (v : ℕ) (b : Bounds) (d : ℕ) (body : List Stmt) (loops held : List ℕ)
    (old new : Noted) → v < b.end → held ≡ loops ++ v ∷ [] → new ≡ after_turns lengths (turns_at d body held) old →
    after_turns lengths (nest_from (v + b.step) b d body loops) new ≡ after_turns lengths (nest_from v b d body loops) old
noted_turn lengths v b d body loops held old new h held_is new_is =
    ap (λ l. after_turns lengths (nest_from (v + b.step) b d body loops) l)
    (new_is ∙ ap (λ ls. after_turns lengths (turns_at d body ls) old) held_is)
    ∙ sym (turns_append lengths (turns_at d body (loops ++ v ∷ [])) (nest_from (v + b.step) b d body loops) old)
    ∙ ap (λ n. after_turns lengths (each_turn n v b.step (λ v. turns_at d body (loops ++ v ∷ []))) old)
    (sym (one_turn_less v b h))

pub no_nest_turn : (v : ℕ) (b : Bounds) (d : ℕ) (body : List Stmt) (loops : List ℕ) → b.end ≤ v →
    nest_from v b d body loops ≡ []
no_nest_turn v b d body loops h =
    ap (λ n. each_turn n v b.step (λ v. turns_at d body (loops ++ v ∷ []))) (no_turn_left v b h)

-- ---- how many they are

each_count : (n v step : ℕ) (f : ℕ → List Turn) (r : ℕ) → ((v : ℕ) → r ≡ min 2 (length (f v))) →
    min 2 (n * r) ≡ min 2 (length (each_turn n v step f))
each_count zero v step f r h = let e : zero * r ≡ 0 = omega arith in ap (min 2) e
each_count (suc n) v step f r h =
    let e = h v in
    let rest = each_count n (v + step) step f r h in
    let more : suc n * r ≡ r + n * r = omega arith in
    let both = length-append (f v) (each_turn n (v + step) step f) in
    omega (arith, e, rest, more, both)

-- a product that is kept up to a bound above two
pub least_two : (kept n inner turns : ℕ) → n ≡ turns → kept ≡ min (n * inner) 18446744073709551615 →
    min kept 2 ≡ min 2 (turns * inner)
least_two kept n inner turns e k = at (turns * inner) (k ∙ ap (λ m. min (m * inner) 18446744073709551615) e)
  where
    at : (p : ℕ) → kept ≡ min p 18446744073709551615 → min kept 2 ≡ min 2 p
    at p h = omega (arith, h)

pub nest_count : (d : ℕ) (body : List Stmt) (loops : List ℕ) (b : Bounds) (inner : List Stmt) (r : ℕ) →
    loop_at d body ≡ Some (b, inner) → ((ls : List ℕ) → r ≡ min 2 (length (turns_at (d - 1) inner ls))) →
    min 2 (turns_of b * r) ≡ min 2 (length (turns_at d body loops))
nest_count d body loops b inner r e h =
    each_count (turns_of b) b.first b.step (λ v. turns_at (d - 1) inner (loops ++ v ∷ [])) r (λ v. h (loops ++ v ∷ []))
    ∙ ap (λ ts. min 2 (length ts)) (sym (nest_turns d body loops b inner e))

pub one_count : (d : ℕ) (body : List Stmt) (loops : List ℕ) → loop_at d body ≡ None →
    1 ≡ min 2 (length (turns_at d body loops))
one_count d body loops e = ap (λ (ts : List Turn). min 2 (length ts)) (sym (one_turn d body loops e))
