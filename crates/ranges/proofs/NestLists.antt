-- The first and last values of the names of a nest's loops, loop by loop.
use Rattle.std.proofs.Common.{◌≡◌, ℕ, zero, suc, ◌+◌, ◌-◌, ◌<◌, List, [], ◌∷◌, ◌++◌, Option, Some, None, refl, sym, ap, ◌∙◌, subst, arith, length, length-append, append_assoc}
use Rattle.std.specs.Prelude.{slice_index}
use Rattle.std.proofs.lemmas.List.{get_or-append_right}
use Rattle.base.specs.declared.tree.Bounds.{Bounds}
use Rattle.base.specs.declared.tree.Stmt.{Stmt}
use Rattle.base.specs.Turns.{only_loop}
use Rattle.ranges.specs.Strides.{AllApart, Apart, NestAt, nest_highs, nest_lows}
use Rattle.ranges.specs.Ways.{loop_at}

abbrev lows_by : ℕ → Option (Bounds × List Stmt) → List ℕ
lows_by d o = elim o as (λ z. List ℕ) [ None ↦ [] | Some l ↦ l.0.first ∷ nest_lows d l.1 ]

abbrev highs_by : ℕ → Option (Bounds × List Stmt) → List ℕ
highs_by d o = elim o as (λ z. List ℕ) [ None ↦ [] | Some l ↦ (l.0.end - 1) ∷ nest_highs d l.1 ]

pub inner_lows : (d : ℕ) (nest : List Stmt) (b : Bounds) (inner : List Stmt) → Some (b, inner) ≡ loop_at d nest →
    nest_lows d nest ≡ b.first ∷ nest_lows (d - 1) inner
inner_lows zero nest b inner e = absurd cc
inner_lows (suc d) nest b inner e =
    let less : d ≡ suc d - 1 = omega arith in ap (lows_by d) (sym e) ∙ ap (λ n. b.first ∷ nest_lows n inner) less

pub inner_highs : (d : ℕ) (nest : List Stmt) (b : Bounds) (inner : List Stmt) → Some (b, inner) ≡ loop_at d nest →
    nest_highs d nest ≡ (b.end - 1) ∷ nest_highs (d - 1) inner
inner_highs zero nest b inner e = absurd cc
inner_highs (suc d) nest b inner e =
    let less : d ≡ suc d - 1 = omega arith in ap (highs_by d) (sym e) ∙ ap (λ n. (b.end - 1) ∷ nest_highs n inner) less

pub no_lows : (d : ℕ) (nest : List Stmt) → None ≡ loop_at d nest → nest_lows d nest ≡ []
no_lows zero nest e = refl
no_lows (suc d) nest e = ap (lows_by d) (sym e)

pub no_highs : (d : ℕ) (nest : List Stmt) → None ≡ loop_at d nest → nest_highs d nest ≡ []
no_highs zero nest e = refl
no_highs (suc d) nest e = ap (highs_by d) (sym e)

-- the loop within the first one is at the next level
pub inner_at : (d : ℕ) (nest : List Stmt) (b : Bounds) (inner : List Stmt) (level : ℕ) (lows : List ℕ) → Some (b, inner) ≡ loop_at d nest →
    NestAt d nest level lows → NestAt (d - 1) inner (level + 1) lows
inner_at d nest b inner level lows e at = (
  at.0 ++ b.first ∷ [],
  (
    at.1.0 ∙ ap (λ xs. at.0 ++ xs) (inner_lows d nest b inner e) ∙ sym (append_assoc at.0 (b.first ∷ []) (nest_lows (d - 1) inner)),
    ap (λ n. n + 1) at.1.1 ∙ sym (length-append at.0 (b.first ∷ [])),
  ),
)

-- the first value of the first loop
pub first_at : (d : ℕ) (nest : List Stmt) (b : Bounds) (inner : List Stmt) (level : ℕ) (lows : List ℕ) → Some (b, inner) ≡ loop_at d nest →
    NestAt d nest level lows → (level < length lows) × (slice_index lows level ≡ b.first)
first_at d nest b inner level lows e at =
    let is : lows ≡ at.0 ++ b.first ∷ nest_lows (d - 1) inner = at.1.0 ∙ ap (λ xs. at.0 ++ xs) (inner_lows d nest b inner e) in
    let long = ap length is ∙ length-append at.0 (b.first ∷ nest_lows (d - 1) inner) in
    let same = at.1.1 in (
      omega (arith, long, same),
      ap (λ xs. slice_index xs level) is
          ∙ get_or-append_right at.0 (b.first ∷ nest_lows (d - 1) inner) (length at.0) level 0 refl (omega (arith, same))
          ∙ front (level - length at.0) (omega (arith, same)),
    )
  where
    front : (k : ℕ) → k ≡ 0 → slice_index (b.first ∷ nest_lows (d - 1) inner) k ≡ b.first
    front k z = ap (slice_index (b.first ∷ nest_lows (d - 1) inner)) z

abbrev apart_by : ℕ → ℕ → ℕ → List Stmt → List ℕ → List ℕ → Option (Bounds × List Stmt) → Type 0
apart_by a level d body lows highs o = elim o as (λ z. Type 0) [
  | None ↦ Unit {0}
  | Some l ↦ Apart a level l.0 body lows highs × AllApart a (level + 1) d l.1 body lows highs
]

pub none_apart : (a level d : ℕ) (nest body : List Stmt) (lows highs : List ℕ) → None ≡ loop_at d nest → AllApart a level d nest body lows highs
none_apart a level zero nest body lows highs e = tt
none_apart a level (suc d) nest body lows highs e = subst (apart_by a level d body lows highs) e tt

pub all_apart : (a level d : ℕ) (nest body : List Stmt) (lows highs : List ℕ) (b : Bounds) (inner : List Stmt) → Some (b, inner) ≡ loop_at d nest →
    Apart a level b body lows highs → AllApart a (level + 1) (d - 1) inner body lows highs → AllApart a level d nest body lows highs
all_apart a level zero nest body lows highs b inner e one rest = absurd cc
all_apart a level (suc d) nest body lows highs b inner e one rest =
    let less : suc d - 1 ≡ d = omega arith in
    subst (apart_by a level d body lows highs) e (one, subst (λ n. AllApart a (level + 1) n inner body lows highs) less rest)
