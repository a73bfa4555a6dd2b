-- No brackets are open around a value where no part is held.
use Rattle.std.proofs.Common.{◌≡◌, ◌∙◌, ℕ, List, [], ◌∷◌, length, map, refl, sym, ap}
use Rattle.std.specs.Bool.{◌==◌}
use Rattle.std.proofs.Math.Dec.{eqb-suc-zero}
use Rattle.std.proofs.lemmas.List.{length-map, length-reverse}
use Rattle.c_grammar.specs.Types as spec
use Rattle.c_grammar.specs.Types.{is_only}
use Rattle.c_types.specs.declared.values.Part.{Part}
use Rattle.c_types.specs.Values.{all_parts, seen_part}

only_empty : (ps : List spec.Part) → is_only ps ≡ (length ps == 0)
only_empty [] = refl
only_empty (p ∷ ps) = sym (eqb-suc-zero (length ps))

pub none_open : (ps : List Part) → is_only (all_parts ps) ≡ (length ps == 0)
none_open ps =
    only_empty (all_parts ps)
    ∙ ap (λ (n : ℕ). n == 0) (length-reverse (map seen_part ps) ∙ length-map ps seen_part)
