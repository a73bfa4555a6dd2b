-- Which block has a cell, and blocks that share none.
use Rattle.std.specs.Prelude.{◌≡◌, ◌≤◌, true, List, [], ◌∷◌, Option, None, find}
use Rattle.base.specs.declared.item.Cell.{Cell}
use Rattle.base.specs.Memory.{is_in}
use Rattle.base.specs.Map.{Block}

-- the block that has a cell
abbrev pub holder : List Block → Cell → Option Block
holder blocks c = find (λ b. is_in c b.section) blocks

-- blocks that have cells and share none
abbrev pub AreApart : List Block → Type 0
AreApart [] = Unit {0}
AreApart (b ∷ rest) = record {
  cells : 1 ≤ b.section.length;
  apart : (c : Cell) → is_in c b.section ≡ true → holder rest c ≡ None;
  rest : AreApart rest;
}
