-- What is answered where a source is checked, or listed.
use Rattle.std.proofs.Common.{◌≡◌, ℕ, ◌<◌, ◌≤◌, List, Option, length, refl, subst}
use Rattle.std.specs.Prelude.{Result, Ok, Err, IfErr, OnOk, ◌↔◌}
use Rattle.base.specs.declared.tree.Program.{Program}
use Rattle.base.specs.declared.fault.OutlineFault.{OutlineFault}
use Rattle.base.specs.declared.fault.OutlineFault.TheVariants as outline
use Rattle.base.specs.declared.fault.SourceFault.{SourceFault}
use Rattle.base.specs.declared.fault.SourceFault.TheVariants.{Read, Outline, Check, Run}
use Rattle.base.specs.Items.{plan}
use Rattle.base.specs.Limits.{most_items}
use Rattle.c_read.specs.Spells.{Spells}
use Rattle.mapcheck.specs.Passes.{IsCheckFault}
use Rattle.pipeline.specs.Checking.{IsChecked, IsOutlineFault, IsRefused, IsTold, IsUnaccepted}
use Rattle.pipeline.specs.Listing.{AreWritten, IsListed}

pub outline_fault : (bytes : List ℕ) (p : Program) (f : OutlineFault) → Spells bytes p →
    ((f ≡ outline.TooManyItems) ↔ (most_items < length (plan p).items)) → IsOutlineFault bytes f
outline_fault bytes p outline.TooManyItems s h = record { program = p; spelled = s; many = h.0 refl }
outline_fault bytes p outline.OutOfMemory s h = tt

pub on_listed : {X E : Type 0} (r : Result X E) (bytes : List ℕ) (old new : Option (List ℕ)) (p q : Program) → q ≡ p →
    Spells bytes p → OnOk r (AreWritten q old new) → OnOk r (IsListed bytes old new)
on_listed (Ok x) bytes old new p q e s a =
    record { program = p; spelled = s; items = subst (λ (u : Program). AreWritten u old new) e a }
on_listed (Err x) bytes old new p q e s a = tt

pub on_checked : {X E : Type 0} (r : Result X E) (bytes : List ℕ) (old new : Option (List ℕ)) (p q : Program) → q ≡ p →
    Spells bytes p → OnOk r (IsTold q old new) → OnOk r (IsChecked bytes old new)
on_checked (Ok x) bytes old new p q e s a =
    record { program = p; spelled = s; told = subst (λ (u : Program). IsTold u old new) e a }
on_checked (Err x) bytes old new p q e s a = tt

pub unaccepted : (bytes : List ℕ) (p q : Program) (f : SourceFault) → q ≡ p → Spells bytes p →
    length (plan p).items ≤ most_items → IsUnaccepted q f → IsRefused bytes f
unaccepted bytes p q (Check f) e s few h =
    record { program = p; spelled = s; few = few; fault = subst (λ (u : Program). IsCheckFault (plan u) f) e h }
unaccepted bytes p q (Read f) e s few h = absurd h
unaccepted bytes p q (Outline f) e s few h = absurd h
unaccepted bytes p q (Run f) e s few h = absurd h

pub if_unaccepted : {X : Type 0} (r : Result X SourceFault) (bytes : List ℕ) (p q : Program) → q ≡ p → Spells bytes p →
    length (plan p).items ≤ most_items → IfErr r (IsUnaccepted q) → IfErr r (IsRefused bytes)
if_unaccepted (Ok x) bytes p q e s few h = tt
if_unaccepted (Err f) bytes p q e s few h = unaccepted bytes p q f e s few h
