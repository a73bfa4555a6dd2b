-- The sections of a directive with the clauses in which they stand, and what they mean.
use Rattle.std.specs.Prelude.{◌≡◌, ℕ, Bool, List, [], ◌∷◌, ◌++◌, map}
use Rattle.base.specs.declared.tree.SectionText.{SectionText}
use Rattle.base.specs.declared.tree.MapText.{MapText}
use Rattle.base.specs.declared.tree.UpdateText.{UpdateText}
use Rattle.base.specs.declared.tree.DependText.{DependText}
use Rattle.c_grammar.specs.LineGrammar as line
use Rattle.c_expressions.specs.Means.{Names, MeansArray, meaning_of}
use Rattle.directives.specs.declared.tree.Section.{Section}
use Rattle.directives.specs.declared.tree.Sections.{Sections}
use Rattle.directives.specs.declared.tree.Clause.{Clause}
use Rattle.directives.specs.declared.tree.Clause.TheVariants.{Map, Depend, Motion, NoWait, Device, Amount, Schedule}
use Rattle.directives.specs.Kinds.{seen_modifier, seen_map, seen_depend, seen_motion}
use Rattle.directives.specs.Trees.{bounds_of}
use Rattle.c_constructs.specs.Written.{AreBounds, Mapping, mapping_of, seen_update, seen_depend as depend_kind}

-- what a section on that line means
pub record IsSectionAt (names : Names) (line : ℕ) (s : Section) (t : SectionText) : Type 0 where
  pub array : MeansArray (meaning_of names s.array.text.now) t.array
  pub place : t.place ≡ record { line = line; column = s.array.column }
  pub bounds : AreBounds names (bounds_of s.bounds) t.bounds

-- a section and the kind of its clause
pub record Given (K : Type 0) : Type 0 where
  pub kind : K
  pub section : Section

abbrev pub given_one : {K : Type 0} → K → Section → Given K
given_one kind s = record { kind = kind; section = s }

abbrev pub given : {K : Type 0} → K → Sections → List (Given K)
given kind s = given_one kind s.first ∷ map (given_one kind) s.more.items

-- those of each kind of clause, from left to right
abbrev pub map_given : Clause → List (Given Mapping)
map_given (Map m) = given (mapping_of (map seen_modifier m.modifiers.items) (seen_map m.map_type)) m.sections
map_given (Depend d) = []
map_given (Motion m) = []
map_given NoWait = []
map_given (Device d) = []
map_given (Amount a n) = []
map_given (Schedule t o) = []

abbrev pub depend_given : Clause → List (Given line.DependType)
depend_given (Map m) = []
depend_given (Depend d) = given (seen_depend d.depend_type) d.sections
depend_given (Motion m) = []
depend_given NoWait = []
depend_given (Device d) = []
depend_given (Amount a n) = []
depend_given (Schedule t o) = []

abbrev pub motion_given : Clause → List (Given (Bool × line.MotionType))
motion_given (Map m) = []
motion_given (Depend d) = []
motion_given (Motion m) = given (m.present, seen_motion m.motion_type) m.sections
motion_given NoWait = []
motion_given (Device d) = []
motion_given (Amount a n) = []
motion_given (Schedule t o) = []

abbrev pub all_given : {X : Type 0} → (Clause → List X) → List Clause → List X
all_given f [] = []
all_given f (c ∷ cs) = f c ++ all_given f cs

-- each of one list with that of the other
abbrev pub Pairs : {X : Type 0} → {Y : Type 0} → (X → Y → Type 0) → List X → List Y → Type 0
Pairs R [] [] = Unit {0}
Pairs R (x ∷ xs) (y ∷ ys) = R x y × Pairs R xs ys
Pairs R _ _ = ⊥

-- a list has grown by what these mean
pub record Grows {X : Type 0} {Y : Type 0} (R : X → Y → Type 0) (xs : List X) (old new : List Y) : Type 0 where
  pub more : (gs : List X) → Pairs R gs old → Pairs R (gs ++ xs) new

abbrev pub IsMapAt : {K : Type 0} → (K → line.MapType) → Names → ℕ → Given Mapping → MapText K → Type 0
IsMapAt seen names line g m = (g.kind ≡ (m.always, m.present, seen m.kind)) × IsSectionAt names line g.section m.section

abbrev pub IsUpdateAt : Names → ℕ → Given (Bool × line.MotionType) → UpdateText → Type 0
IsUpdateAt names line g u = (g.kind ≡ (u.present, seen_update u.kind)) × IsSectionAt names line g.section u.section

abbrev pub IsDependAt : Names → ℕ → Given line.DependType → DependText → Type 0
IsDependAt names line g d = (g.kind ≡ depend_kind d.kind) × IsSectionAt names line g.section d.section
