-- Cells that are added to a row turn by turn.
use Rattle.std.proofs.Common.{◌≡◌, ℕ, zero, suc, ◌+◌, ◌-◌, ◌^◌, ◌<◌, ◌≤◌, ◌==◌, Bool, true, false, refl, sym, ap, ◌∙◌, arith, eqb-true}
use Rattle.std.specs.Prelude.{not, ◌&&◌, ◌||◌}
use Rattle.std.proofs.Math.Bool.{or-false, or_assoc}
use Rattle.std.proofs.lemmas.Bool.Decides.{nat_tests}
use mathlib.Core.Path.{fun_ext}
use Rattle.base.specs.declared.tree.Bounds.{Bounds}
use Rattle.base.specs.Interval.{from_to}
use Rattle.base.specs.Meaning.{turns_left}
use Rattle.base.proofs.LoopTurns.{one_turn_less, no_turn_left}
use Rattle.ranges.specs.Slides.{is_every, is_turn, IsWhole}
use Rattle.ranges.specs.Rows.{is_within}

-- the values of the turns from i on
abbrev pub from_turn : Bounds → ℕ → ℕ → Bool
from_turn b i j = is_every b.step (turns_left i b) i j

pub next_turn : (b : Bounds) (i j : ℕ) → i < b.end → from_turn b i j ≡ ((i == j) || from_turn b (i + b.step) j)
next_turn b i j lt = ap (λ n. is_every b.step n i j) (one_turn_less i b lt)

pub no_turn : (b : Bounds) (i j : ℕ) → b.end ≤ i → from_turn b i j ≡ false
no_turn b i j le = ap (λ n. is_every b.step n i j) (no_turn_left i b le)

-- the row, and what is left to be added, is all
abbrev pub Adds : (ℕ → Bool) → Bounds → ℕ → (ℕ → Bool) → Type 0
Adds before b i now = (j : ℕ) → (now j || from_turn b i j) ≡ (before j || is_turn b j)

pub adds_first : (before now : ℕ → Bool) (b : Bounds) → ((j : ℕ) → now j ≡ before j) → Adds before b b.first now
adds_first before now b e j = ap (λ x. x || is_turn b j) (e j)

pub adds_next : (before now new : ℕ → Bool) (b : Bounds) (i : ℕ) → i < b.end → ((j : ℕ) → new j ≡ (now j || (i == j))) →
    Adds before b i now → Adds before b (i + b.step) new
adds_next before now new b i lt is h j =
    ap (λ x. x || from_turn b (i + b.step) j) (is j)
    ∙ or_assoc (now j) (i == j) (from_turn b (i + b.step) j)
    ∙ ap (λ x. now j || x) (sym (next_turn b i j lt))
    ∙ h j

pub adds_last : (before now : ℕ → Bool) (b : Bounds) (i : ℕ) → b.end ≤ i → Adds before b i now →
    now ≡ (λ j. before j || is_turn b j)
adds_last before now b i le h = fun_ext (λ j. sym (ap (λ x. now j || x) (no_turn b i j le) ∙ or-false (now j)) ∙ h j)

-- the same but for what is excluded
abbrev pub AddsUnless : (ℕ → Bool) → (ℕ → Bool) → Bounds → ℕ → (ℕ → Bool) → Type 0
AddsUnless before excluded b i now =
    (j : ℕ) → (now j || (from_turn b i j && not (excluded j))) ≡ (before j || (is_turn b j && not (excluded j)))

pub unless_first : (before excluded now : ℕ → Bool) (b : Bounds) → ((j : ℕ) → now j ≡ before j) → AddsUnless before excluded b b.first now
unless_first before excluded now b e j = ap (λ x. x || (is_turn b j && not (excluded j))) (e j)

added : (n r x : Bool) → x ≡ false → ((n || true) || (r && not x)) ≡ (n || ((true || r) && not x))
added true r x h = refl
added false r true h = absurd cc
added false r false h = refl

excluded_one : (n r x : Bool) → x ≡ true → (n || (r && not x)) ≡ (n || ((true || r) && not x))
excluded_one true r x h = refl
excluded_one false true x h = refl
excluded_one false false true h = refl
excluded_one false false false h = absurd cc

pub unless_next : (before excluded now new : ℕ → Bool) (b : Bounds) (i : ℕ) → i < b.end → excluded i ≡ false →
    ((j : ℕ) → new j ≡ (now j || (i == j))) → AddsUnless before excluded b i now → AddsUnless before excluded b (i + b.step) new
unless_next before excluded now new b i lt out is h j =
    ap (λ x. x || (from_turn b (i + b.step) j && not (excluded j))) (is j)
    ∙ go (i == j) refl
    ∙ ap (λ x. now j || (x && not (excluded j))) (sym (next_turn b i j lt))
    ∙ h j
  where
    go : (e : Bool) → (i == j) ≡ e → ((now j || e) || (from_turn b (i + b.step) j && not (excluded j)))
        ≡ (now j || ((e || from_turn b (i + b.step) j) && not (excluded j)))
    go true same = added (now j) (from_turn b (i + b.step) j) (excluded j) (ap excluded (sym (eqb-true i j same)) ∙ out)
    go false other = ap (λ x. x || (from_turn b (i + b.step) j && not (excluded j))) (or-false (now j))

pub unless_passed : (before excluded now : ℕ → Bool) (b : Bounds) (i : ℕ) → i < b.end → excluded i ≡ true →
    AddsUnless before excluded b i now → AddsUnless before excluded b (i + b.step) now
unless_passed before excluded now b i lt out h j =
    go (i == j) refl
    ∙ ap (λ x. now j || (x && not (excluded j))) (sym (next_turn b i j lt))
    ∙ h j
  where
    go : (e : Bool) → (i == j) ≡ e → (now j || (from_turn b (i + b.step) j && not (excluded j)))
        ≡ (now j || ((e || from_turn b (i + b.step) j) && not (excluded j)))
    go true same = excluded_one (now j) (from_turn b (i + b.step) j) (excluded j) (ap excluded (sym (eqb-true i j same)) ∙ out)
    go false other = refl

pub unless_last : (before excluded now : ℕ → Bool) (b : Bounds) (i : ℕ) → b.end ≤ i → AddsUnless before excluded b i now →
    now ≡ (λ j. before j || (is_turn b j && not (excluded j)))
unless_last before excluded now b i le h =
    fun_ext (λ j. sym (ap (λ x. now j || (x && not (excluded j))) (no_turn b i j le) ∙ or-false (now j)) ∙ h j)

-- turns of step 1 are an interval
ones_within : (b : Bounds) → b.step ≡ 1 → (n v i : ℕ) → v + suc n ≡ b.end → from_turn b v i ≡ is_within (from_to v (v + n)) i
ones_within b one zero v i end =
    let lone : (v == i) ≡ is_within (from_to v v) i = grind (arith, nat_tests) in
    next_turn b v i (omega (arith, end))
    ∙ ap (λ x. (v == i) || x) (no_turn b (v + b.step) i (omega (arith, end, one)))
    ∙ or-false (v == i)
    ∙ lone
    ∙ ap (λ m. is_within (from_to v m) i) (omega arith)
ones_within b one (suc n) v i end =
    let more : ((v == i) || is_within (from_to (v + 1) (v + 1 + n)) i) ≡ is_within (from_to v (v + suc n)) i = grind (arith, nat_tests) in
    next_turn b v i (omega (arith, end))
    ∙ ap (λ m. (v == i) || from_turn b (v + m) i) one
    ∙ ap (λ x. (v == i) || x) (ones_within b one n (v + 1) i (omega (arith, end)))
    ∙ more

pub ones_whole : (b : Bounds) → b.step ≡ 1 → b.first < b.end → b.end ≤ 2 ^ 32 → IsWhole b (from_to b.first (b.end - 1))
ones_whole b one lt few = record {
  few = omega (arith, few, lt);
  same = λ i. sym (ones_within b one (b.end - 1 - b.first) b.first i (omega (arith, lt))
      ∙ ap (λ m. is_within (from_to b.first m) i) (omega (arith, lt)));
}
