-- What the directive of a line means, whose # stands at a place: each section at the column of its array's name.
use Rattle.std.specs.Prelude.{◌≡◌, ℕ, true, List, map}
use Rattle.base.specs.declared.tree.MapText.{MapText}
use Rattle.base.specs.declared.tree.RegionKind.{RegionKind}
use Rattle.base.specs.declared.tree.Tasking.{Tasking}
use Rattle.base.specs.declared.tree.Place.{Place}
use Rattle.base.specs.declared.tree.Target.{Target}
use Rattle.base.specs.declared.tree.Data.{Data}
use Rattle.base.specs.declared.tree.Directive.{Directive}
use Rattle.base.specs.declared.tree.Directive.TheVariants as directive
use Rattle.c_grammar.specs.LineGrammar as line
use Rattle.c_grammar.specs.Lines.{is_target_kind, line_depth}
use Rattle.c_expressions.specs.Means.{Names}
use Rattle.directives.specs.declared.tree.Clause.{Clause}
use Rattle.directives.specs.declared.tree.Directive.{Directive as Given}
use Rattle.directives.specs.Kinds.{seen_kind}
use Rattle.directives.specs.Trees.{clause_of, text_of}
use Rattle.c_constructs.specs.declared.resolved.Construct.{Construct}
use Rattle.c_constructs.specs.declared.resolved.Construct.TheVariants as construct
use Rattle.c_constructs.specs.declared.resolved.Resolved.{Resolved}
use Rattle.c_constructs.specs.declared.resolved.Resolved.TheVariants as resolved
use Rattle.c_constructs.specs.Sections.{IsMapAt, IsUpdateAt, IsDependAt, Pairs, all_given, map_given, depend_given, motion_given}
use Rattle.c_constructs.specs.Written.{seen_region, seen_enter, seen_exit, waits_in, device_in, IsDevice}

pub record IsTaskingAt (names : Names) (at : ℕ) (cs : List Clause) (g : Tasking) : Type 0 where
  pub nowait : g.nowait ≡ waits_in (map clause_of cs)
  pub depends : Pairs (IsDependAt names at) (all_given depend_given cs) g.depends.items
  pub device : IsDevice names (device_in (map clause_of cs)) g.device

abbrev pub AreRegionMapsAt : Names → ℕ → List Clause → List (MapText RegionKind) → Type 0
AreRegionMapsAt names at cs ms = Pairs (IsMapAt seen_region names at) (all_given map_given cs) ms

abbrev pub IsAloneAt : Names → ℕ → Given → Directive → Type 0
IsAloneAt names at d (directive.Enter maps g) =
    (seen_kind d.kind ≡ line.Enter) ×
    Pairs (IsMapAt seen_enter names at) (all_given map_given d.clauses.items) maps.items ×
    IsTaskingAt names at d.clauses.items g
IsAloneAt names at d (directive.Exit maps g) =
    (seen_kind d.kind ≡ line.Exit) ×
    Pairs (IsMapAt seen_exit names at) (all_given map_given d.clauses.items) maps.items ×
    IsTaskingAt names at d.clauses.items g
IsAloneAt names at d (directive.Update sections g) =
    (seen_kind d.kind ≡ line.Update) ×
    Pairs (IsUpdateAt names at) (all_given motion_given d.clauses.items) sections.items ×
    IsTaskingAt names at d.clauses.items g
IsAloneAt names at d (directive.Wait depends) =
    (seen_kind d.kind ≡ line.Wait) ×
    Pairs (IsDependAt names at) (all_given depend_given d.clauses.items) depends.items

pub record IsTargetAt (names : Names) (at : Place) (d : Given) (g : Target) : Type 0 where
  pub kind : is_target_kind (seen_kind d.kind) ≡ true
  pub place : g.place ≡ at
  pub maps : AreRegionMapsAt names at.line d.clauses.items g.maps.items
  pub tasking : IsTaskingAt names at.line d.clauses.items g.tasking

pub record IsDataAt (names : Names) (at : Place) (d : Given) (g : Data) : Type 0 where
  pub kind : seen_kind d.kind ≡ line.Data
  pub place : g.place ≡ at
  pub maps : AreRegionMapsAt names at.line d.clauses.items g.maps.items
  pub device : IsDevice names (device_in (map clause_of d.clauses.items)) g.device

abbrev pub IsConstructAt : Names → Place → Given → Construct → Type 0
IsConstructAt names at d (construct.Target g depth) = (line_depth (text_of d) ≡ depth) × IsTargetAt names at d g
IsConstructAt names at d (construct.Data g) = IsDataAt names at d g

abbrev pub IsResolvedAt : Names → Place → Given → Resolved → Type 0
IsResolvedAt names at d (resolved.Alone place t) = (place ≡ at) × IsAloneAt names at.line d t
IsResolvedAt names at d (resolved.Over c) = IsConstructAt names at d c
IsResolvedAt names at d resolved.Atomic = seen_kind d.kind ≡ line.AtomicUpdate
