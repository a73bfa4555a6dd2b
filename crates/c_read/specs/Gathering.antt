-- The parts of a block so far.
use Rattle.std.specs.Prelude.{◌≡◌, Bool, true, false, List, [], ◌∷◌, ◌++◌, Option, Some, None}
use Rattle.base.specs.declared.tree.Place.{Place}
use Rattle.base.specs.declared.tree.Part.{Part}
use Rattle.c_read.specs.declared.piece.Piece.{Piece}
use Rattle.c_read.specs.declared.piece.Piece.TheVariants as piece
use Rattle.c_read.specs.declared.gathered.Gathered.{Gathered}
use Rattle.c_read.specs.Parts.{Placed, pieces_in, pieces_of, is_host, are_mixed, AreLongest}

abbrev pub so_far : Gathered → List Placed
so_far g = pieces_of g.parts.items ++ pieces_in g.place g.run.items

-- whether the last part is a region of the host; where there is none, that
abbrev pub ends_host : Bool → List Part → Bool
ends_host b [] = b
ends_host b (p ∷ ps) = ends_host (is_host p) ps

abbrev pub AreNoneOrMixed : List Part → Type 0
AreNoneOrMixed [] = Unit {0}
AreNoneOrMixed (p ∷ ps) = are_mixed (p ∷ ps) ≡ true

pub record IsGathered (g : Gathered) : Type 0 where
  pub longest : AreLongest false g.parts.items
  pub ends : ends_host false g.parts.items ≡ false
  pub mixed : AreNoneOrMixed g.parts.items

-- a part that has a directive
abbrev pub IsNoHost : Piece → Type 0
IsNoHost (piece.Statement x) = Unit {0}
IsNoHost (piece.Part p) = is_host p ≡ false

-- the place that a region has, if the piece begins one
abbrev pub IsAt : Place → Option Place → Type 0
IsAt place None = Unit {0}
IsAt place (Some p) = p ≡ place

-- one piece more, which stands at the place
pub record Adds (place : Place) (p : Piece) (old new : Gathered) : Type 0 where
  pub at : Option Place
  pub is_at : IsAt place at
  pub pieces : so_far new ≡ so_far old ++ (at, p) ∷ []
  pub sound : IsGathered new

-- the open region is a part, if it has a statement
pub record Closes (old new : Gathered) : Type 0 where
  pub run : new.run.items ≡ []
  pub pieces : pieces_of new.parts.items ≡ so_far old
  pub longest : IsGathered old → AreLongest false new.parts.items
  pub mixed : are_mixed old.parts.items ≡ true → are_mixed new.parts.items ≡ true
