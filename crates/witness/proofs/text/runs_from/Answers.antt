use Rattle.std.proofs.Common.{rules, ◌≡◌, ◌∙◌, ◌==◌, ◌∷◌, Bool, false, List, ℕ, ap, refl, arith}
use Rattle.std.proofs.lemmas.Bool.Decides.{nat_tests}
use Rattle.witness.specs.Texts.{runs_from}
use Rattle.witness.proofs.Told.{front_more, runs_other}
use Rattle.witness.proofs.text.runs_from.Goals as goal

pub numbers-preserved : goal.numbers-preserved
numbers-preserved g c =
    let next : ℕ = c.in-Some.next in
    let left : c.numbers.rest.now ≡ next ∷ c.in-Some.more.now = search rules in
    let apart : (next == c.numbers.number) ≡ false = grind (arith, nat_tests) in
    record {
      front =
          front_more _ _ _ _ _ _ _
          (front_more _ _ _ _ _ _ _ c.numbers.invariant.front
          (ap (λ (xs : List ℕ). runs_from c.numbers.number c.numbers.times xs) left
          ∙ runs_other c.numbers.number c.numbers.times next c.in-Some.more.now apart)
          c.in_ok-run_text.ensures)
          refl c.in_ok-write.ensures.bytes;
      few = search (rules, arith);
    }
