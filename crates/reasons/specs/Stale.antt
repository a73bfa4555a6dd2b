-- Since when a cell that is read is not current.
use Rattle.std.specs.Prelude.{ℕ, ◌≡◌, Some, slice_get}
use Rattle.base.specs.Items.{Plan, Work}
use Rattle.base.specs.declared.fault.Refusal.{Refusal}
use Rattle.base.specs.declared.item.Cell.{Cell}
use Rattle.base.specs.declared.item.ItemKind.{ItemKind}
use Rattle.base.specs.declared.item.ItemKind.TheVariants as kind
use Rattle.history.specs.Places.{before, place_of}
use Rattle.history.specs.Since.{IsLast}
use Rattle.history.specs.declared.Side.{Side}
use Rattle.history.specs.declared.Side.TheVariants.{Host, Device}
use Rattle.reasons.specs.declared.diagnosis.Diagnosis.{Diagnosis}
use Rattle.reasons.specs.declared.diagnosis.Since.{Since}

-- from this event on the cell was current on that side before no item up to the item n
abbrev pub IsStaleSince : Plan → ℕ → Cell → Since → Type 0
IsStaleSince plan n c since = IsLast (λ k. place_of since.side (before plan c k)) n since.event

-- the side on which the region of an item runs
abbrev pub side_on : ItemKind → ℕ → Side
side_on kind.Target d = Device d
side_on kind.Host d = Host
side_on kind.Begin d = Host
side_on kind.End d = Host
side_on kind.Enter d = Host
side_on kind.Exit d = Host
side_on kind.Update d = Host
side_on kind.Wait d = Host

-- the diagnosis is of this item, and tells since what event the cell is not current on the side where the item reads it
pub record TellsSince (plan : Plan) (r : Refusal) (d : Diagnosis) : Type 0 where
  pub item : d.item ≡ Some r.item
  pub since : Since
  pub told : d.since ≡ Some since
  pub stale : IsStaleSince plan r.item r.cell since
  pub side : (w : Work) → slice_get plan.items r.item ≡ Some w → since.side ≡ side_on w.kind w.device
