-- One of the turns of a nest of loops.
use Rattle.std.proofs.Common.{◌≡◌, ℕ, zero, suc, ◌+◌, ◌-◌, ◌*◌, ◌/◌, ◌%◌, ◌<◌, List, [], ◌∷◌, ◌++◌, Some, None, length, refl, ap, sym, ◌∙◌, subst, arith, mod-lt, div-lt_iff_lt-mul}
use Rattle.std.specs.Prelude.{slice_get}
use Rattle.base.specs.declared.tree.Bounds.{Bounds}
use Rattle.base.specs.declared.tree.Stmt.{Stmt}
use Rattle.base.specs.Meaning.{turns_of}
use Rattle.base.specs.Turns.{Turn, each_turn, only_loop, turns_at}
use Rattle.actions.proofs.NestTurns.{each_at, each_length}

-- the one turn that there is
pub single_turn : (ts : List Turn) (t : Turn) (k : ℕ) → ts ≡ t ∷ [] → k < length ts → slice_get ts k ≡ Some t
single_turn ts t k is lt = ap (λ xs. slice_get xs k) is ∙ go k (subst (λ xs. k < length xs) is lt)
  where
    go : (k : ℕ) → k < 1 → slice_get (t ∷ []) k ≡ Some t
    go zero lt = refl
    go (suc k) lt = absurd (omega (arith, lt))

-- statements that are one turn
pub one_turn : (d : ℕ) (body : List Stmt) (loops : List ℕ) → only_loop body ≡ None →
    turns_at d body loops ≡ record { loops = loops; body = body } ∷ []
one_turn zero body loops none = refl
one_turn (suc d) body loops none = rw (none, turns_at) refl

pub no_depth : (d : ℕ) (body : List Stmt) (loops : List ℕ) → d ≡ 0 →
    turns_at d body loops ≡ record { loops = loops; body = body } ∷ []
no_depth d body loops e = ap (λ n. turns_at n body loops) e

-- The turns of a loop around others, of which each turn has as many.
module _ (d : ℕ) (body inner : List Stmt) (b : Bounds) (each : ℕ) (deep : d ≡ 0 → ⊥)
    (is : only_loop body ≡ Some (b, inner)) (long : (ls : List ℕ) → length (turns_at (d - 1) inner ls) ≡ each)
    (loops : List ℕ) where
  abbrev inner_turns : ℕ → List Turn
  inner_turns v = turns_at (d - 1) inner (loops ++ v ∷ [])

  nest_is : turns_at d body loops ≡ each_turn (turns_of b) b.first b.step inner_turns
  nest_is = go d refl
    where
      go : (n : ℕ) → d ≡ n → turns_at d body loops ≡ each_turn (turns_of b) b.first b.step inner_turns
      go zero e = absurd (deep e)
      go (suc n) e =
          let less : n ≡ d - 1 = omega (arith, e) in
          ap (λ m. turns_at m body loops) e ∙ rw (is, turns_at) refl
          ∙ (λ i. each_turn (turns_of b) b.first b.step (λ v. turns_at (less i) inner (loops ++ v ∷ [])))

  pub nest_length : length (turns_at d body loops) ≡ turns_of b * each
  nest_length =
      ap length nest_is
      ∙ each_length (turns_of b) b.first b.step each inner_turns (λ v. long (loops ++ v ∷ []))

  module _ (number : ℕ) (lt : number < length (turns_at d body loops)) where
    low : number < turns_of b * each
    low = omega (arith, lt, nest_length)

    pub some : 0 < each
    some = go each refl
      where
        go : (m : ℕ) → each ≡ m → 0 < each
        go zero e = absurd (grind (arith, low, e))
        go (suc m) e = omega (arith, e)

    pub in_loop : number / each < turns_of b
    in_loop = (div-lt_iff_lt-mul some).1 low

    pub in_turn : (ls : List ℕ) → number % each < length (turns_at (d - 1) inner ls)
    in_turn ls = let below = mod-lt number some in omega (arith, below, long ls)

    pub nest_at : (around : List ℕ) (t : Turn) → around ≡ loops ++ (b.first + number / each * b.step) ∷ [] →
        slice_get (turns_at (d - 1) inner around) (number % each) ≡ Some t →
        slice_get (turns_at d body loops) number ≡ Some t
    nest_at around t around_is at =
        ap (λ ts. slice_get ts number) nest_is
        ∙ each_at (turns_of b) b.first b.step each number inner_turns (λ v. long (loops ++ v ∷ [])) some low
        ∙ ap (λ ls. slice_get (turns_at (d - 1) inner ls) (number % each)) (sym around_is) ∙ at
