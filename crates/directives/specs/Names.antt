-- The names of a directive, and what a source's rules ask of its line.
use Rattle.std.specs.Prelude.{◌≡◌, ℕ, true, List, [], ◌∷◌, ◌++◌, map, Option, Some, None}
use Rattle.c_grammar.specs.Lexeme.{Placed}
use Rattle.c_grammar.specs.Lines.{Use, OfArray, OfLoop, is_omp, kind_of, depth_of, line_depth, uses_of}
use Rattle.c_grammar.specs.Source.{nth}
use Rattle.directives.specs.declared.tree.Term.{Term}
use Rattle.directives.specs.declared.tree.Term.TheVariants.{Literal, Variable, Product}
use Rattle.directives.specs.declared.tree.SignedTerm.{SignedTerm}
use Rattle.directives.specs.declared.tree.Bound.{Bound}
use Rattle.directives.specs.declared.tree.Section.{Section}
use Rattle.directives.specs.declared.tree.Sections.{Sections}
use Rattle.directives.specs.declared.tree.DeviceClause.{DeviceClause}
use Rattle.directives.specs.declared.tree.DeviceClause.TheVariants.{Fixed, Looped}
use Rattle.directives.specs.declared.tree.Clause.{Clause}
use Rattle.directives.specs.declared.tree.Clause.TheVariants.{Map, Depend, Motion, NoWait, Device, Amount, Schedule}
use Rattle.directives.specs.declared.tree.Directive.{Directive}
use Rattle.directives.specs.Kinds.{seen_kind}
use Rattle.directives.specs.Spells.{kinds_of, columns_of}
use Rattle.directives.specs.Trees.{text_of}

-- names with their columns: an array's, or that of a loop in a bound or for a device
abbrev pub Uses : Type 0
Uses = List (ℕ × Use)

-- those of each, one after the other
abbrev pub each_names : {X : Type 0} → (X → Uses) → List X → Uses
each_names f [] = []
each_names f (x ∷ xs) = f x ++ each_names f xs

abbrev pub term_names : Term → Uses
term_names (Literal n) = []
term_names (Variable x) = (x.column, OfLoop x.text.now) ∷ []
term_names (Product n x) = (x.column, OfLoop x.text.now) ∷ []

abbrev pub signed_names : SignedTerm → Uses
signed_names t = term_names t.term

abbrev pub bound_names : Bound → Uses
bound_names b = term_names b.first ++ each_names signed_names b.more.items

abbrev pub bounds_names : Option (Bound × Bound) → Uses
bounds_names None = []
bounds_names (Some b) = bound_names b.0 ++ bound_names b.1

abbrev pub section_names : Section → Uses
section_names s = (s.array.column, OfArray s.array.text.now) ∷ bounds_names s.bounds

abbrev pub sections_names : Sections → Uses
sections_names s = section_names s.first ++ each_names section_names s.more.items

abbrev pub device_names : DeviceClause → Uses
device_names (Fixed d) = []
device_names (Looped x) = (x.column, OfLoop x.text.now) ∷ []

abbrev pub clause_names : Clause → Uses
clause_names (Map m) = sections_names m.sections
clause_names (Depend d) = sections_names d.sections
clause_names (Motion m) = sections_names m.sections
clause_names NoWait = []
clause_names (Device d) = device_names d
clause_names (Amount a n) = []
clause_names (Schedule t o) = []

-- from left to right
unfoldable pub names_in : Directive → Uses
names_in d = each_names clause_names d.clauses.items

-- a name by the number of its token, with that token's column
abbrev pub at_column : List ℕ → ℕ × Use → ℕ × Use
at_column columns u = (nth columns u.0, u.1)

-- what a source's rules find on the line is what the directive says: its words, its kind, how many of its loops are
-- unordered, and its names with their columns
pub record IsInSource (ps : List Placed) (d : Directive) : Type 0 where
  pub words : is_omp (kinds_of ps) ≡ true
  pub kind : kind_of (kinds_of ps) ≡ seen_kind d.kind
  pub depth : depth_of (kinds_of ps) ≡ line_depth (text_of d)
  pub names : map (at_column (columns_of ps)) (uses_of (kinds_of ps)) ≡
      names_in d
