-- How the open blocks and their names change.
use Rattle.std.specs.Prelude.{◌≡◌, ℕ, List, [], ◌∷◌, drop, reverse, Option, Some, None}
use Rattle.std.specs.List.{flat_map}
use Rattle.c_expressions.specs.declared.changes.Turn.{Turn}
use Rattle.c_expressions.specs.declared.scope.Meaning.TheVariants as meaning
use Rattle.c_expressions.specs.declared.scope.Scope.{Scope}
use Rattle.c_expressions.specs.Means.{Names}
use Rattle.c_expressions.specs.Scopes.{context_of, names_in, names_of}

-- the name of a loop, if there is one
abbrev pub turn_name : Option Turn → Option (List ℕ)
turn_name None = None
turn_name (Some t) = Some t.name.now

abbrev pub turn_names : Option Turn → Names
turn_names None = []
turn_names (Some t) = (t.name.now, meaning.Loop t.level) ∷ []

-- the visible names but those of the innermost block
abbrev pub names_below : Scope → Names
names_below s = flat_map names_in (drop 1 (reverse s.frames.items))

-- the same names and the same contexts
pub record IsSameScope (old new : Scope) : Type 0 where
  pub context : (d n : ℕ) → context_of new d n ≡ context_of old d n
  pub names : names_of new ≡ names_of old
  pub next : new.scalars ≡ old.scalars
