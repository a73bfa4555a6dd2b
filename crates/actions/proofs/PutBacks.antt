-- A turn that has acted goes back to its place, or has come to its end.
use Rattle.std.proofs.Common.{◌≡◌, ℕ, List, [], ◌∷◌, ◌++◌, map, ap, sym, ◌∙◌, subst}
use Rattle.std.specs.Prelude.{drop, take}
use Rattle.std.proofs.lemmas.List.{map-append}
use Rattle.fine_machine.specs.Left.{Answer, together}
use Rattle.actions.specs.declared.strand.Strand.{Strand}
use Rattle.actions.specs.Control.{AllActing, PutsBack}
use Rattle.actions.specs.Strand.{Answers, IsActing, left_of, run_of, stack_of}
use Rattle.actions.proofs.AtPlaces.{split_there}
use Rattle.actions.proofs.FirstActs.{ended}
use Rattle.actions.proofs.NextTurns.{acting_append, acting_left, acting_right}
use Rattle.actions.proofs.Together.{together_drop}

pub goes_back : (n : ℕ) (turn next : Strand) (r : Answer) (old new : List Strand) → Answers r turn next →
    IsActing next → new ≡ take n old ++ next ∷ drop n old → PutsBack n turn r old new
goes_back n turn next r old new a acts is = record {
  left = λ q k asks order after.
      ap (λ l. together order (map left_of (take n old) ++ l ∷ map left_of (drop n old)) after) (sym (a q k asks))
      ∙ ap (λ ls. together order ls after)
      (sym (map-append left_of (take n old) (next ∷ drop n old)) ∙ ap (map left_of) (sym is));
  acting = λ all.
      let each = subst AllActing (split_there old n) all in
      subst AllActing (sym is)
      (acting_append (take n old) (next ∷ drop n old) (acting_left (take n old) (drop n old) each)
      (acts, acting_right (take n old) (drop n old) each));
}

pub stays_out : (n : ℕ) (turn next : Strand) (r : Answer) (old new : List Strand) → Answers r turn next →
    stack_of next ≡ [] → new ≡ old → PutsBack n turn r old new
stays_out n turn next r old new a none is = record {
  left = λ q k asks order after.
      ap (λ l. together order (map left_of (take n old) ++ l ∷ map left_of (drop n old)) after)
      (sym (a q k asks) ∙ ended next none)
      ∙ together_drop order (map left_of (take n old)) (map left_of (drop n old)) (run_of next) after
      ∙ ap (λ ls. together order ls after)
      (sym (map-append left_of (take n old) (drop n old)) ∙ ap (map left_of) (sym (split_there old n) ∙ sym is));
  acting = λ all. subst AllActing (sym is) all;
}
