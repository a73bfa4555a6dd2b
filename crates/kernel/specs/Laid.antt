-- Rows that are laid over others.
use Rattle.std.specs.Prelude.{ℕ, ◌≡◌, ◌<◌, List, [], ◌∷◌, Option, Some, None, is_some, length, slice_get}
use Rattle.base.specs.Rows.{at_index}
use Rattle.kernel.specs.Rows.{Parts, stored_at}

-- the one where there is one, and else the other
abbrev pub or_else : Option ℕ → Option ℕ → Option ℕ
or_else (Some v) o = Some v
or_else None o = o

-- where the other row has cells, both have the same
abbrev pub IsAlike : Parts → Parts → Type 0
IsAlike row over = 0 < length over.1 → (over.0 ≡ row.0) × (length over.1 ≡ length row.1)

-- what was stored in the other row lies over what was stored in this one
pub record IsLaid (row over now : Parts) : Type 0 where
  pub first : now.0 ≡ row.0
  pub size : length now.1 ≡ length row.1
  pub stored : (i : ℕ) → stored_at now i ≡ or_else (stored_at over i) (stored_at row i)

-- the same where there is another row
abbrev pub LaidBy : Option Parts → Parts → Parts → Type 0
LaidBy None row now = now ≡ row
LaidBy (Some over) row now = IsLaid row over now

abbrev pub AlikeBy : Option Parts → Parts → Type 0
AlikeBy None row = Unit {0}
AlikeBy (Some over) row = IsAlike row over

-- of rows those at one place have cells at the same indices
abbrev pub cell_in : Option Parts → ℕ → Option ℕ
cell_in o i = elim o as (λ z. Option ℕ) [ None ↦ None | Some r ↦ at_index r.0 r.1 i ]

abbrev pub HaveSame : List Parts → List Parts → Type 0
HaveSame rows over = (a i : ℕ) → is_some (cell_in (slice_get rows a) i) ≡ is_some (cell_in (slice_get over a) i)

-- row by row the others are laid over these
abbrev pub AreLaid : List Parts → List Parts → List Parts → Type 0
AreLaid [] over now = now ≡ []
AreLaid (r ∷ rows) over [] = ⊥
AreLaid (r ∷ rows) [] (n ∷ now) = (n ≡ r) × AreLaid rows [] now
AreLaid (r ∷ rows) (o ∷ over) (n ∷ now) = IsLaid r o n × AreLaid rows over now
