-- Turns that begin after others.
use Rattle.std.proofs.Common.{◌≡◌, ℕ, zero, suc, ◌+◌, Some, List, [], ◌∷◌, ◌++◌, map, refl, ap, sym, ◌∙◌, subst, append_assoc, arith}
use Rattle.std.specs.Prelude.{drop, slice_get}
use Rattle.std.proofs.lemmas.List.{map-append}
use Rattle.std.proofs.lemmas.Option.{same_Some}
use Rattle.base.specs.Meaning.{Run}
use Rattle.base.specs.Turns.{Turn}
use Rattle.fine_machine.specs.Left.{together, turn_left}
use Rattle.actions.specs.declared.strand.Strand.{Strand}
use Rattle.actions.specs.Control.{AllActing, Begins, Begun, IsTurn}
use Rattle.actions.specs.Strand.{IsActing, left_of, run_of, stack_of}
use Rattle.actions.proofs.FirstActs.{ended}
use Rattle.actions.proofs.NextTurns.{acting_append}
use Rattle.actions.proofs.Together.{together_drop}

-- no turn
pub begins_none : (s : Run) (now : List Strand) → Begins s [] now now
begins_none s now = record { left = λ order rest after. refl; acting = λ all. all }

-- some turns, and then others
pub begins_both : (s : Run) (xs ys : List Turn) (old mid new : List Strand) → Begins s xs old mid → Begins s ys mid new →
    Begins s (xs ++ ys) old new
begins_both s xs ys old mid new p q = record {
  left = λ order rest after.
      ap (λ ls. together order (map left_of old ++ ls) after)
      (ap (λ ls. ls ++ rest) (map-append (turn_left s) xs ys)
      ∙ append_assoc (map (turn_left s) xs) (map (turn_left s) ys) rest)
      ∙ p.left order (map (turn_left s) ys ++ rest) after ∙ q.left order rest after;
  acting = λ all. q.acting (p.acting all);
}

-- a turn that comes to its first action
pub begins_acting : (s : Run) (t : Turn) (turn now : Strand) (old new : List Strand) → IsTurn s t turn →
    left_of now ≡ left_of turn → IsActing now → new ≡ old ++ now ∷ [] → Begins s (t ∷ []) old new
begins_acting s t turn now old new is same acts more = record {
  left = λ order rest after.
      ap (λ l. together order (map left_of old ++ l ∷ rest) after) (sym (same ∙ is))
      ∙ ap (λ ls. together order ls after)
      (sym (append_assoc (map left_of old) (left_of now ∷ []) rest)
      ∙ ap (λ ls. ls ++ rest) (sym (map-append left_of old (now ∷ [])) ∙ ap (map left_of) (sym more)));
  acting = λ all. subst AllActing (sym more) (acting_append old (now ∷ []) all (acts, tt));
}

-- a turn that has no action to do
pub begins_ended : (s : Run) (t : Turn) (turn now : Strand) (old new : List Strand) → IsTurn s t turn →
    left_of now ≡ left_of turn → stack_of now ≡ [] → new ≡ old → Begins s (t ∷ []) old new
begins_ended s t turn now old new is same none more = record {
  left = λ order rest after.
      ap (λ l. together order (map left_of old ++ l ∷ rest) after) (sym (same ∙ is) ∙ ended now none)
      ∙ together_drop order (map left_of old) rest (run_of now) after
      ∙ ap (λ ls. together order (map left_of ls ++ rest) after) (sym more);
  acting = λ all. subst AllActing (sym more) all;
}

-- one more of the turns of a kernel has begun
pub begun_none : (s : Run) (all : List Turn) (n : ℕ) (now : List Strand) → Begun s all n n now now
begun_none s all n now = record { left = λ order rest after. refl; acting = λ all. all }

at_number : (all : List Turn) (n : ℕ) (t : Turn) → slice_get all n ≡ Some t → drop n all ≡ t ∷ drop (n + 1) all
at_number [] n t is = absurd (cc is)
at_number (x ∷ all) zero t is = ap (λ y. y ∷ all) (same_Some x t is)
at_number (x ∷ all) (suc n) t is =
    let more : suc n + 1 ≡ suc (n + 1) = omega arith in
    at_number all n t is ∙ ap (λ m. t ∷ drop m (x ∷ all)) (sym more)

pub begun_more : (s : Run) (all : List Turn) (m n : ℕ) (t : Turn) (old mid new : List Strand) → Begun s all m n old mid →
    slice_get all n ≡ Some t → Begins s (t ∷ []) mid new → Begun s all m (n + 1) old new
begun_more s all m n t old mid new p is q = record {
  left = λ order rest after.
      p.left order rest after
      ∙ ap (λ ts. together order (map left_of mid ++ (map (turn_left s) ts ++ rest)) after) (at_number all n t is)
      ∙ q.left order (map (turn_left s) (drop (n + 1) all) ++ rest) after;
  acting = λ every. q.acting (p.acting every);
}
