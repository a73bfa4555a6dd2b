-- States of which one snapshot has the blocks, counts and marks.
use Rattle.std.proofs.Common.{◌≡◌, ℕ, Bool, false, List, [], Option, Some, None, map, refl, sym, ap, ◌∙◌}
use Rattle.std.specs.Prelude.{option_map, slice_get}
use Rattle.std.proofs.lemmas.Option.{slice_get-map}
use mathlib.Core.Path.{fun_ext}
use Rattle.base.specs.declared.item.Cell.{Cell}
use Rattle.base.specs.Map.{Block}
use Rattle.mapwalk.specs.declared.marks.Marks.{Marks}
use Rattle.mapwalk.specs.declared.snapshot.Snapshot.{Snapshot}
use Rattle.mapwalk.specs.declared.state.State.{State}
use Rattle.mapwalk.specs.declared.steps.DeviceState.{DeviceState}
use Rattle.mapwalk.specs.Current.{marked, marks_in}
use Rattle.mapwalk.specs.Heads.{IsSnapshotOf, device_parts, state_of}
use Rattle.mapwalk.specs.Marks.{has_mark}
use Rattle.mapwalk.specs.Steps.{marks_of, marks_on, table_in, tables_of}

abbrev opened : Option (ℕ → Bool) → ℕ → Bool
opened None i = false
opened (Some f) i = f i

abbrev cells_in : List (ℕ → Bool) → Cell → Bool
cells_in marks c = opened (slice_get marks c.array.0) c.index

marks_are : (side : List Marks) (c : Cell) → marks_in side c ≡ cells_in (map has_mark side) c
marks_are side c =
    go (slice_get side c.array.0) ∙ ap (λ (o : Option (ℕ → Bool)). opened o c.index) (sym (slice_get-map has_mark side c.array.0))
  where
    go : (o : Option Marks) → marked o c.index ≡ opened (option_map has_mark o) c.index
    go None = refl
    go (Some m) = refl

abbrev Parts : Type 0
Parts = List Block × List (ℕ → Bool)

abbrev blocks_in : Option Parts → List Block
blocks_in None = []
blocks_in (Some p) = p.0

abbrev cells_on : Option Parts → Cell → Bool
cells_on None c = false
cells_on (Some p) c = cells_in p.1 c

table_is : (devices : List DeviceState) (d : ℕ) → tables_of devices d ≡ blocks_in (slice_get (map device_parts devices) d)
table_is devices d = go (slice_get devices d) ∙ ap blocks_in (sym (slice_get-map device_parts devices d))
  where
    go : (o : Option DeviceState) → table_in o ≡ blocks_in (option_map device_parts o)
    go None = refl
    go (Some x) = refl

marks_on_are : (devices : List DeviceState) (d : ℕ) (c : Cell) →
    marks_of devices d c ≡ cells_on (slice_get (map device_parts devices) d) c
marks_on_are devices d c =
    go (slice_get devices d) ∙ ap (λ (o : Option Parts). cells_on o c) (sym (slice_get-map device_parts devices d))
  where
    go : (o : Option DeviceState) → marks_on o c ≡ cells_on (option_map device_parts o) c
    go None = refl
    go (Some x) = marks_are x.current.items c

pub same_state : (snapshot : Snapshot) (s t : State) → IsSnapshotOf snapshot s → IsSnapshotOf snapshot t → state_of s ≡ state_of t
same_state snapshot s t h g =
    λ i. record { tables = tables i; current = record { host = host i; devices = devices i } }
  where
    hosts : map has_mark s.host.items ≡ map has_mark t.host.items
    hosts = sym h.host ∙ g.host

    all : map device_parts s.devices.items ≡ map device_parts t.devices.items
    all = sym h.devices ∙ g.devices

    host : marks_in s.host.items ≡ marks_in t.host.items
    host = fun_ext (λ (c : Cell). marks_are s.host.items c ∙ ap (λ ms. cells_in ms c) hosts ∙ sym (marks_are t.host.items c))

    tables : tables_of s.devices.items ≡ tables_of t.devices.items
    tables = fun_ext (λ (d : ℕ).
        table_is s.devices.items d ∙ ap (λ (ps : List Parts). blocks_in (slice_get ps d)) all ∙ sym (table_is t.devices.items d))

    devices : marks_of s.devices.items ≡ marks_of t.devices.items
    devices = fun_ext (λ (d : ℕ). fun_ext (λ (c : Cell).
        marks_on_are s.devices.items d c
        ∙ ap (λ (ps : List Parts). cells_on (slice_get ps d) c) all
        ∙ sym (marks_on_are t.devices.items d c)))
