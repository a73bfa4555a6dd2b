-- What the clauses of a directive mean.
use Rattle.std.specs.Prelude.{◌≡◌, ℕ, ◌||◌, List, [], ◌∷◌, map}
use Rattle.c_grammar.specs.LineGrammar as line
use Rattle.c_grammar.specs.LineRules.{IsAmong}
use Rattle.c_expressions.specs.Means.{Names}
use Rattle.directives.specs.declared.tree.Clause.{Clause}
use Rattle.directives.specs.declared.tree.Clause.TheVariants.{Map, Depend, Motion, NoWait, Device, Amount, Schedule}
use Rattle.directives.specs.Kinds.{seen_map}
use Rattle.directives.specs.Trees.{clause_of}
use Rattle.c_constructs.specs.declared.clauses.Clauses.{Clauses}
use Rattle.c_constructs.specs.Sections.{Grows, IsMapAt, IsUpdateAt, IsDependAt, Pairs, all_given, map_given, depend_given, motion_given}
use Rattle.c_constructs.specs.Written.{waits_in, device_from, device_in, IsDevice}

-- a map clause has one of these types
abbrev pub HasType : List line.MapType → Clause → Type 0
HasType types (Map m) = IsAmong (seen_map m.map_type) types
HasType types (Depend d) = Unit {0}
HasType types (Motion m) = Unit {0}
HasType types NoWait = Unit {0}
HasType types (Device d) = Unit {0}
HasType types (Amount a n) = Unit {0}
HasType types (Schedule t o) = Unit {0}

abbrev pub HaveTypes : List line.MapType → List Clause → Type 0
HaveTypes types [] = Unit {0}
HaveTypes types (c ∷ cs) = HasType types c × HaveTypes types cs

-- these clauses more were read
pub record Reads {K : Type 0} (seen : K → line.MapType) (names : Names) (at : ℕ) (cs : List Clause)
    (old new : Clauses K) : Type 0 where
  pub maps : Grows (IsMapAt seen names at) (all_given map_given cs) old.maps.items new.maps.items
  pub updates : Grows (IsUpdateAt names at) (all_given motion_given cs) old.updates.items new.updates.items
  pub depends : Grows (IsDependAt names at) (all_given depend_given cs) old.tasking.depends.items
      new.tasking.depends.items
  pub nowait : new.tasking.nowait ≡ (old.tasking.nowait || waits_in (map clause_of cs))
  pub device : (d : line.Device) → IsDevice names d old.tasking.device →
      IsDevice names (device_from d (map clause_of cs)) new.tasking.device

-- they mean this
pub record AreRead {K : Type 0} (seen : K → line.MapType) (names : Names) (at : ℕ) (cs : List Clause) (r : Clauses K) :
    Type 0 where
  pub maps : Pairs (IsMapAt seen names at) (all_given map_given cs) r.maps.items
  pub updates : Pairs (IsUpdateAt names at) (all_given motion_given cs) r.updates.items
  pub depends : Pairs (IsDependAt names at) (all_given depend_given cs) r.tasking.depends.items
  pub nowait : r.tasking.nowait ≡ waits_in (map clause_of cs)
  pub device : IsDevice names (device_in (map clause_of cs)) r.tasking.device
