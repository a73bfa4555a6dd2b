-- What is answered where a source is explained.
use Rattle.std.proofs.Common.{◌≡◌, ℕ, List, subst, sym}
use Rattle.std.specs.Prelude.{Result, Ok, Err, IfErr, IfOk, OnOk}
use Rattle.base.specs.declared.fault.SourceFault.{SourceFault}
use Rattle.base.specs.declared.tree.Program.{Program}
use Rattle.base.specs.Accepted.{IsAccepted}
use Rattle.base.specs.Items.{plan}
use Rattle.c_read.specs.Spells.{Spells}
use Rattle.explain.specs.Explained.{SpellsAccepted}

pub on_accepted : {X E : Type 0} (r : Result X E) (bytes : List ℕ) (p q : Program) → q ≡ p → Spells bytes p →
    OnOk r (IsAccepted (plan q)) → OnOk r (SpellsAccepted bytes)
on_accepted (Ok x) bytes p q e s a =
    record { program = p; spelled = s; accepted = subst (λ (u : Program). IsAccepted (plan u)) e a }
on_accepted (Err x) bytes p q e s a = tt

pub if_accepted : {X E F : Type 0} (r : Result (Result X E) F) (bytes : List ℕ) (p q : Program) → q ≡ p → Spells bytes p →
    IfOk r (λ w. OnOk w (IsAccepted (plan q))) → IfOk r (λ w. OnOk w (SpellsAccepted bytes))
if_accepted (Ok w) bytes p q e s a = on_accepted w bytes p q e s a
if_accepted (Err f) bytes p q e s a = tt

-- where something is answered at all, anything holds
pub if_none : {X E F : Type 0} (r : Result (Result X E) F) (P : Type 0) → IfOk r (λ w. OnOk w ⊥) → IfOk r (λ w. OnOk w P)
if_none (Ok (Ok x)) P none = absurd none
if_none (Ok (Err e)) P none = tt
if_none (Err f) P none = tt

-- the error is this one
pub if_same : {X : Type 0} (r : Result X SourceFault) (P : SourceFault → Type 0) (f : SourceFault) → IfErr r (λ e. e ≡ f) → P f → IfErr r P
if_same (Ok x) P f is h = tt
if_same (Err e) P f is h = subst P (sym is) h

-- what holds anyway holds where a text is written
pub anyway : {X E : Type 0} (r : Result X E) (P : Type 0) → P → OnOk r P
anyway (Ok x) P h = h
anyway (Err e) P h = tt
