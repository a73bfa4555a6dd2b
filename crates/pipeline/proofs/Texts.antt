-- What is answered where the text spells no program, or where the program has too many items.
use Rattle.std.proofs.Common.{arith, ◌≡◌, ℕ, ◌<◌, List, length, refl}
use Rattle.std.specs.Prelude.{◌↔◌}
use Rattle.base.specs.declared.tree.Program.{Program}
use Rattle.base.specs.declared.fault.OutlineFault.{OutlineFault}
use Rattle.base.specs.declared.fault.OutlineFault.TheVariants as outline
use Rattle.base.specs.declared.fault.SourceFault.{SourceFault}
use Rattle.base.specs.declared.fault.SourceFault.TheVariants.{Read, Outline, Check, Run}
use Rattle.base.specs.Items.{plan}
use Rattle.base.specs.Limits.{most_items}
use Rattle.c_read.specs.Spells.{Spells}
use Rattle.pipeline.specs.Checking.{IsRefused, IsUnlisted}
use Rattle.pipeline.specs.Fine.{IsFineSourceFault}
use Rattle.pipeline.specs.Source.{Faults, IsSourceFault}

pub unlisted : (p : Program) (f : OutlineFault) → ((f ≡ outline.TooManyItems) ↔ (most_items < length (plan p).items)) →
    IsUnlisted p (Outline f)
unlisted p outline.TooManyItems h = h.0 refl
unlisted p outline.OutOfMemory h =
    let no : most_items < length (plan p).items → ⊥ = λ many. let e = h.1 many in absurd cc in
    omega arith

pub unlisted_refused : (bytes : List ℕ) (p : Program) (f : SourceFault) → Spells bytes p → IsUnlisted p f → IsRefused bytes f
unlisted_refused bytes p (Outline outline.TooManyItems) s h = record { program = p; spelled = s; many = h }
unlisted_refused bytes p (Outline outline.OutOfMemory) s h = tt
unlisted_refused bytes p (Read f) s h = absurd h
unlisted_refused bytes p (Check f) s h = absurd h
unlisted_refused bytes p (Run f) s h = absurd h

pub unlisted_source : (is : Faults) (bytes : List ℕ) (p : Program) (f : SourceFault) → Spells bytes p → IsUnlisted p f →
    IsSourceFault is bytes f
unlisted_source is bytes p (Outline f) s h = unlisted_refused bytes p (Outline f) s h
unlisted_source is bytes p (Read f) s h = absurd h
unlisted_source is bytes p (Check f) s h = absurd h
unlisted_source is bytes p (Run f) s h = absurd h

pub unlisted_fine : (bytes input choices turns : List ℕ) (capacity : ℕ) (p : Program) (f : SourceFault) → Spells bytes p →
    IsUnlisted p f → IsFineSourceFault bytes input choices turns capacity f
unlisted_fine bytes input choices turns capacity p (Outline f) s h = unlisted_refused bytes p (Outline f) s h
unlisted_fine bytes input choices turns capacity p (Read f) s h = absurd h
unlisted_fine bytes input choices turns capacity p (Check f) s h = absurd h
unlisted_fine bytes input choices turns capacity p (Run f) s h = absurd h
