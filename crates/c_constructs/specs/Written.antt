-- What the line of a directive means: its sections with their names resolved, each at the place of its array's name.
use Rattle.std.specs.Prelude.{◌≡◌, ℕ, ◌+◌, Bool, true, false, List, [], ◌∷◌, ◌++◌, length, Option, Some, None}
use Rattle.std.specs.List.{list_any}
use Rattle.base.specs.declared.tree.Place.{Place}
use Rattle.base.specs.declared.tree.Term.{Term as Product}
use Rattle.base.specs.declared.tree.Term.TheVariants as product
use Rattle.base.specs.declared.tree.Bound.{Bound}
use Rattle.base.specs.declared.tree.SectionText.{SectionText}
use Rattle.base.specs.declared.tree.MapText.{MapText}
use Rattle.base.specs.declared.tree.UpdateText.{UpdateText}
use Rattle.base.specs.declared.tree.DependText.{DependText}
use Rattle.base.specs.declared.tree.RegionKind.{RegionKind}
use Rattle.base.specs.declared.tree.RegionKind.TheVariants as mapped
use Rattle.base.specs.declared.tree.EnterKind.{EnterKind}
use Rattle.base.specs.declared.tree.EnterKind.TheVariants as entered
use Rattle.base.specs.declared.tree.ExitKind.{ExitKind}
use Rattle.base.specs.declared.tree.ExitKind.TheVariants as left
use Rattle.base.specs.declared.tree.UpdateKind.{UpdateKind}
use Rattle.base.specs.declared.tree.UpdateKind.TheVariants as updated
use Rattle.base.specs.declared.tree.DependKind.{DependKind}
use Rattle.base.specs.declared.tree.DependKind.TheVariants as ordered
use Rattle.base.specs.declared.tree.DeviceText.{DeviceText}
use Rattle.base.specs.declared.tree.DeviceText.TheVariants as on
use Rattle.base.specs.declared.tree.Tasking.{Tasking}
use Rattle.base.specs.declared.tree.Target.{Target}
use Rattle.base.specs.declared.tree.Data.{Data}
use Rattle.base.specs.declared.tree.Directive.{Directive}
use Rattle.base.specs.declared.tree.Directive.TheVariants as directive
use Rattle.c_grammar.specs.Source.{nth}
use Rattle.c_grammar.specs.Lines.{is_target_kind}
use Rattle.c_grammar.specs.LineGrammar as line
use Rattle.c_grammar.specs.LineGrammar.{Literal, Variable, Product as Times', MapOf, DependOf, MotionOf, NoWait, DeviceOf, Always, Present, To, From, ToFrom, Alloc, Release, Delete, In, Out, InOut, ToDevice, FromDevice, LineText, clause, item, head, Maps, Depends}
use Rattle.c_expressions.specs.declared.scope.Meaning.TheVariants as meaning
use Rattle.c_expressions.specs.Means.{Items, MeansArray, Names, meaning_of, place_of}

-- ---- sections

abbrev pub IsTerm : Names → line.Term → Product → Type 0
IsTerm names (Literal v) (product.Literal n) = v ≡ Some n
IsTerm names (Variable x) (product.Times n level) = (n ≡ 1) × (meaning_of names x ≡ Some (meaning.Loop level))
IsTerm names (Times' v x) (product.Times n level) = (v ≡ Some n) × (meaning_of names x ≡ Some (meaning.Loop level))
IsTerm names _ _ = ⊥

abbrev pub AreTerms : Names → List line.Term → List Product → Type 0
AreTerms names [] [] = Unit {0}
AreTerms names (t ∷ ts) (p ∷ ps) = IsTerm names t p × AreTerms names ts ps
AreTerms names _ _ = ⊥

abbrev pub added_first : line.TermSign → line.Term → List line.Term → List line.Term
added_first line.Added t ts = t ∷ ts
added_first line.Taken t ts = ts

abbrev pub taken_first : line.TermSign → line.Term → List line.Term → List line.Term
taken_first line.Added t ts = ts
taken_first line.Taken t ts = t ∷ ts

-- the terms that are added, and those that are taken away
abbrev pub added : List line.SignedTerm → List line.Term
added [] = []
added (t ∷ ts) = added_first t.0 t.1 (added ts)

abbrev pub taken : List line.SignedTerm → List line.Term
taken [] = []
taken (t ∷ ts) = taken_first t.0 t.1 (taken ts)

pub record IsBound (names : Names) (b : line.Bound) (c : Bound) : Type 0 where
  pub terms : AreTerms names (b.0 ∷ added b.1) c.terms.items
  pub less : AreTerms names (taken b.1) c.less.items

abbrev pub AreBounds : Names → Option (line.Bound × line.Bound) → Option (Bound × Bound) → Type 0
AreBounds names None None = Unit {0}
AreBounds names (Some b) (Some c) = IsBound names b.0 c.0 × IsBound names b.1 c.1
AreBounds names _ _ = ⊥

-- the place of a token of a line, which is the first of these items
abbrev pub place_on : Items → ℕ → Place
place_on [] k = record { line = 0; column = 0 }
place_on (i ∷ is) k = record { line = i.line; column = nth i.columns k }

-- a section whose array's name is the line's token k
pub record IsSection (names : Names) (is : Items) (k : ℕ) (s : line.Section) (t : SectionText) : Type 0 where
  pub array : MeansArray (meaning_of names s.0) t.array
  pub place : t.place ≡ place_on is k
  pub bounds : AreBounds names s.1 t.bounds

-- ---- the sections of a line with the clauses in which they stand

pub record Written (K : Type 0) : Type 0 where
  pub kind : K
  pub section : line.Section
  pub token : ℕ

abbrev pub written_more : {K : Type 0} → K → ℕ → List line.Section → List (Written K)
written_more kind k [] = []
written_more kind k (s ∷ ss) =
    record { kind = kind; section = s; token = k + 1 } ∷ written_more kind (k + 1 + length (item Maps s)) ss

-- those of a clause, the first at the line's token k
abbrev pub written : {K : Type 0} → K → ℕ → line.Items → List (Written K)
written kind k is =
    record { kind = kind; section = is.0; token = k } ∷ written_more kind (k + length (item Maps is.0)) is.1

abbrev pub is_always : line.Modifier → Bool
is_always Always = true
is_always Present = false

abbrev pub is_present : line.Modifier → Bool
is_present Always = false
is_present Present = true

-- what a map clause says of each section: always, present, and its type
abbrev pub Mapping : Type 0
Mapping = Bool × Bool × line.MapType

abbrev pub mapping_of : List line.Modifier → line.MapType → Mapping
mapping_of ms t = (list_any is_always ms, list_any is_present ms, t)

-- the first section of a map clause that begins at k
abbrev pub mapped_at : List line.Modifier → ℕ → ℕ
mapped_at [] k = k + 4
mapped_at (m ∷ ms) k = mapped_at ms (k + 2)

abbrev pub maps_from : ℕ → List line.Clause → List (Written Mapping)
maps_from k [] = []
maps_from k (MapOf ms t is ∷ cs) =
    written (mapping_of ms t) (mapped_at ms k) is ++ maps_from (k + length (clause (MapOf ms t is))) cs
maps_from k (c ∷ cs) = maps_from (k + length (clause c)) cs

abbrev pub depends_from : ℕ → List line.Clause → List (Written line.DependType)
depends_from k [] = []
depends_from k (DependOf t is ∷ cs) = written t (k + 4) is ++ depends_from (k + length (clause (DependOf t is))) cs
depends_from k (c ∷ cs) = depends_from (k + length (clause c)) cs

-- the first section of a to or from clause that begins at k
abbrev pub moved_at : Bool → ℕ → ℕ
moved_at false k = k + 2
moved_at true k = k + 4

abbrev pub motions_from : ℕ → List line.Clause → List (Written (Bool × line.MotionType))
motions_from k [] = []
motions_from k (MotionOf t p is ∷ cs) =
    written (p, t) (moved_at p k) is ++ motions_from (k + length (clause (MotionOf t p is))) cs
motions_from k (c ∷ cs) = motions_from (k + length (clause c)) cs

abbrev pub waits_in : List line.Clause → Bool
waits_in [] = false
waits_in (NoWait ∷ cs) = true
waits_in (c ∷ cs) = waits_in cs

-- the device of the last device clause, or that one
abbrev pub device_from : line.Device → List line.Clause → line.Device
device_from d [] = d
device_from d (DeviceOf e ∷ cs) = device_from e cs
device_from d (c ∷ cs) = device_from d cs

-- without a clause it is device 0
abbrev pub device_in : List line.Clause → line.Device
device_in cs = device_from (line.Fixed (Some 0)) cs

-- a number, or the loop of that name
abbrev pub IsDevice : Names → line.Device → DeviceText → Type 0
IsDevice names (line.Fixed v) (on.Fixed d) = v ≡ Some d.number
IsDevice names (line.Looped x) (on.LoopName level) = meaning_of names x ≡ Some (meaning.Loop level)
IsDevice names _ _ = ⊥

-- the first token behind the directive's words
abbrev pub clauses_at : LineText → ℕ
clauses_at t = 2 + length (head t.kind)

-- ---- what they mean

abbrev pub seen_region : RegionKind → line.MapType
seen_region mapped.To = To
seen_region mapped.From = From
seen_region mapped.ToFrom = ToFrom
seen_region mapped.Alloc = Alloc

abbrev pub seen_enter : EnterKind → line.MapType
seen_enter entered.To = To
seen_enter entered.Alloc = Alloc

abbrev pub seen_exit : ExitKind → line.MapType
seen_exit left.From = From
seen_exit left.Release = Release
seen_exit left.Delete = Delete

abbrev pub seen_update : UpdateKind → line.MotionType
seen_update updated.To = ToDevice
seen_update updated.From = FromDevice

abbrev pub seen_depend : DependKind → line.DependType
seen_depend ordered.In = In
seen_depend ordered.Out = Out
seen_depend ordered.InOut = InOut

abbrev pub AreMaps : {K : Type 0} → (K → line.MapType) → Names → Items → List (Written Mapping) →
    List (MapText K) → Type 0
AreMaps seen names is [] [] = Unit {0}
AreMaps seen names is (w ∷ ws) (m ∷ ms) =
    (w.kind ≡ (m.always, m.present, seen m.kind)) × IsSection names is w.token w.section m.section × AreMaps seen names is ws ms
AreMaps seen names is _ _ = ⊥

abbrev pub AreUpdates : Names → Items → List (Written (Bool × line.MotionType)) → List UpdateText → Type 0
AreUpdates names is [] [] = Unit {0}
AreUpdates names is (w ∷ ws) (u ∷ us) =
    (w.kind ≡ (u.present, seen_update u.kind)) × IsSection names is w.token w.section u.section × AreUpdates names is ws us
AreUpdates names is _ _ = ⊥

abbrev pub AreDepends : Names → Items → List (Written line.DependType) → List DependText → Type 0
AreDepends names is [] [] = Unit {0}
AreDepends names is (w ∷ ws) (d ∷ ds) =
    (w.kind ≡ seen_depend d.kind) × IsSection names is w.token w.section d.section × AreDepends names is ws ds
AreDepends names is _ _ = ⊥

pub record IsTasking (names : Names) (is : Items) (t : LineText) (g : Tasking) : Type 0 where
  pub nowait : g.nowait ≡ waits_in t.clauses
  pub depends : AreDepends names is (depends_from (clauses_at t) t.clauses) g.depends.items
  pub device : IsDevice names (device_in t.clauses) g.device

abbrev pub AreRegionMaps : Names → Items → LineText → List (MapText RegionKind) → Type 0
AreRegionMaps names is t ms = AreMaps seen_region names is (maps_from (clauses_at t) t.clauses) ms

pub record IsTarget (names : Names) (is : Items) (t : LineText) (g : Target) : Type 0 where
  -- alone or combined
  pub kind : is_target_kind t.kind ≡ true
  -- that of the line's #
  pub place : g.place ≡ place_of is
  pub maps : AreRegionMaps names is t g.maps.items
  pub tasking : IsTasking names is t g.tasking

pub record IsData (names : Names) (is : Items) (t : LineText) (g : Data) : Type 0 where
  pub kind : t.kind ≡ line.Data
  -- that of the line's #
  pub place : g.place ≡ place_of is
  pub maps : AreRegionMaps names is t g.maps.items
  pub device : IsDevice names (device_in t.clauses) g.device

-- a directive that stands alone
abbrev pub IsAlone : Names → Items → LineText → Directive → Type 0
IsAlone names is t (directive.Enter maps g) =
    (t.kind ≡ line.Enter) × AreMaps seen_enter names is (maps_from (clauses_at t) t.clauses) maps.items ×
    IsTasking names is t g
IsAlone names is t (directive.Exit maps g) =
    (t.kind ≡ line.Exit) × AreMaps seen_exit names is (maps_from (clauses_at t) t.clauses) maps.items ×
    IsTasking names is t g
IsAlone names is t (directive.Update sections g) =
    (t.kind ≡ line.Update) × AreUpdates names is (motions_from (clauses_at t) t.clauses) sections.items ×
    IsTasking names is t g
IsAlone names is t (directive.Wait depends) =
    (t.kind ≡ line.Wait) × AreDepends names is (depends_from (clauses_at t) t.clauses) depends.items
