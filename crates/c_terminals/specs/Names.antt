-- Names, the last one first.
use Rattle.std.specs.Prelude.{ℕ, List, map, reverse}
use Rattle.std.specs.Borrow.{Bor}
use Rattle.c_terminals.specs.declared.names.Names.{Names}

abbrev pub names_of : List (Bor (List ℕ)) → List (List ℕ)
names_of xs = reverse (map (λ x. x.now) xs)

abbrev pub seen_names : Names → List (List ℕ)
seen_names n = names_of n.names.items
