-- Why no mend of a text is looked for.
use Rattle.std.proofs.Common.{◌≡◌, ℕ, ◌<◌, List, length, refl}
use Rattle.std.specs.Prelude.{◌↔◌}
use Rattle.base.specs.declared.tree.Program.{Program}
use Rattle.base.specs.declared.fault.OutlineFault.{OutlineFault}
use Rattle.base.specs.declared.fault.OutlineFault.TheVariants as outline
use Rattle.base.specs.declared.fault.ReadFault.{ReadFault}
use Rattle.base.specs.declared.fault.ReadFault.TheVariants as read
use Rattle.base.specs.declared.fault.SourceFault.TheVariants.{Read, Outline}
use Rattle.base.specs.Items.{plan}
use Rattle.base.specs.Limits.{most_items}
use Rattle.c_source.specs.Source.{IsFirstFault}
use Rattle.c_read.specs.Spells.{Spells, OnText}
use Rattle.mend.specs.Mends.{IsUnfit}

pub read_unfit : (bytes : List ℕ) (f : ReadFault) → OnText (λ t. IsFirstFault bytes t) f →
    OnText (λ t. (p : Program) → Spells bytes p → ⊥) f → IsUnfit bytes (Read f)
read_unfit bytes (read.Text t) first none = (first, none)
read_unfit bytes read.OutOfMemory first none = tt

pub outline_unfit : (bytes : List ℕ) (p : Program) (f : OutlineFault) → Spells bytes p →
    ((f ≡ outline.TooManyItems) ↔ (most_items < length (plan p).items)) → IsUnfit bytes (Outline f)
outline_unfit bytes p outline.TooManyItems s h = record { program = p; spelled = s; many = h.0 refl }
outline_unfit bytes p outline.OutOfMemory s h = tt
