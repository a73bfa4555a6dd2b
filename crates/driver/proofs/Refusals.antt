-- What a refusal of a part of a command is of the whole.
use Rattle.std.proofs.Common.{◌≡◌, ◌≢◌, ◌≤◌, ℕ, Bool, true, false, List, Option, length, refl, sym, subst, true≢false}
use Rattle.std.specs.Prelude.{Result, Ok, Err, IfErr, IfOk, IfSome, IsErrAnd}
use Rattle.base.specs.declared.tree.Program.{Program}
use Rattle.base.specs.declared.fault.OutlineFault.TheVariants as outline
use Rattle.base.specs.declared.fault.ReadFault.TheVariants as read
use Rattle.base.specs.declared.fault.CheckFault.TheVariants as check
use Rattle.base.specs.declared.fault.SourceFault.{SourceFault}
use Rattle.base.specs.declared.fault.SourceFault.TheVariants.{Read, Outline, Check, Run}
use Rattle.c_read.specs.Spells.{Spells}
use Rattle.pipeline.specs.Checking.{IsRefused}
use Rattle.c_lines.specs.Spliced.{spliced}
use Rattle.driver.specs.declared.ending.Ending.{Ending}
use Rattle.driver.specs.declared.ending.Ending.TheVariants as ending
use Rattle.driver.specs.Statuses.{ending_of, status_of, told_of}
use Rattle.base.specs.Items.{plan}
use Rattle.base.specs.Limits.{most_items}
use Rattle.mapcheck.specs.Passes.{IsCheckFault}
use Rattle.pipeline.specs.Checking.{IsUnaccepted}
use Rattle.driver.specs.Refused.{IsNoRefusal, IsPlanFault, IsRefusalBy, IsRefusedOf, IsSought}
use Rattle.driver.proofs.Requests.{of_source}

-- a refusal by a fault of one kind is one by a fault of a wider kind
pub by_wider : (P Q : SourceFault → Type 0) (e : Ending) → ((f : SourceFault) → P f → Q f) → IsRefusalBy P e → IsRefusalBy Q e
by_wider P Q ending.BadChoices wider h = tt
by_wider P Q ending.BadTurns wider h = tt
by_wider P Q ending.BadFormat wider h = tt
by_wider P Q ending.BadColor wider h = tt
by_wider P Q ending.BadMaps wider h = tt
by_wider P Q (ending.Unreadable name) wider h = tt
by_wider P Q (ending.Source f) wider h = λ refuses. wider f (h refuses)
by_wider P Q ending.Refused wider h = record { fault = h.fault; refuses = h.refuses; is = wider h.fault h.is }
by_wider P Q ending.BadInput wider h = tt
by_wider P Q ending.OutOfMemory wider h = tt

-- a fault of a program that the bytes spell is one of the bytes
pub of_bytes : (checked : Bool) (bytes : List ℕ) (p : Program) (f : SourceFault) → Spells bytes p → IsPlanFault checked p f → IsRefused bytes f
of_bytes checked bytes p (Read f) spelled h = absurd h
of_bytes checked bytes p (Outline outline.TooManyItems) spelled h = record { program = p; spelled = spelled; many = h }
of_bytes checked bytes p (Outline outline.OutOfMemory) spelled h = absurd h
of_bytes checked bytes p (Check f) spelled h = record { program = p; spelled = spelled; few = h.1; fault = h.2 }
of_bytes checked bytes p (Run f) spelled h = absurd h

-- it is looked for
pub is_sought : (checked : Bool) (p : Program) (f : SourceFault) → IsPlanFault checked p f → IsSought checked f
is_sought true p f h = tt
is_sought false p (Read f) h = tt
is_sought false p (Outline f) h = tt
is_sought false p (Check f) h = absurd (true≢false (sym h.0))
is_sought false p (Run f) h = tt

-- what the check finds is a fault of the program where it is looked for
pub of_check : {X : Type 0} (r : Result X Ending) (checked : Bool) (p q : Program) → q ≡ p → length (plan p).items ≤ most_items → checked ≡ true
    → IfErr r (IsRefusalBy (IsUnaccepted q)) → IfErr r (IsRefusalBy (IsPlanFault checked p))
of_check (Ok x) checked p q e few on h = tt
of_check (Err x) checked p q e few on h = by_wider (IsUnaccepted q) (IsPlanFault checked p) x go h
  where
    go : (f : SourceFault) → IsUnaccepted q f → IsPlanFault checked p f
    go (Check f) h = (on, few, subst (λ (u : Program). IsCheckFault (plan u) f) e h)
    go (Read f) h = absurd h
    go (Outline f) h = absurd h
    go (Run f) h = absurd h

-- what is no refusal is one by no fault of any kind
pub of_none : {X : Type 0} (P : SourceFault → Type 0) (r : Result X Ending) → IfErr r IsNoRefusal → IfErr r (IsRefusalBy P)
of_none P (Ok x) h = tt
of_none P (Err x) h = by_wider (λ f. ⊥) P x (λ f none. absurd none) h

-- a fault that is told ends a command by that fault
pub told : (P : SourceFault → Type 0) (f : SourceFault) → P f → IsRefusalBy P (ending_of f)
told P (Read f) h = λ _. h
told P (Outline f) h = λ _. h
told P (Check check.OutOfMemory) h = tt
told P (Check (check.Range item f)) h = record { fault = Check (check.Range item f); refuses = refl; is = h }
told P (Check (check.Order f)) h = record { fault = Check (check.Order f); refuses = refl; is = h }
told P (Check (check.Refused f)) h = record { fault = Check (check.Refused f); refuses = refl; is = h }
told P (Run f) h = λ _. h

-- the same where it is told as a report
pub printed : (P : SourceFault → Type 0) (f : SourceFault) → P f → IsRefusalBy P (told_of f)
printed P (Read (read.Text f)) h = record { fault = Read (read.Text f); refuses = refl; is = h }
printed P (Read read.OutOfMemory) h = λ _. h
printed P (Outline outline.TooManyItems) h = record { fault = Outline outline.TooManyItems; refuses = refl; is = h }
printed P (Outline outline.OutOfMemory) h = λ _. h
printed P (Check check.OutOfMemory) h = tt
printed P (Check (check.Range item f)) h = record { fault = Check (check.Range item f); refuses = refl; is = h }
printed P (Check (check.Order f)) h = record { fault = Check (check.Order f); refuses = refl; is = h }
printed P (Check (check.Refused f)) h = record { fault = Check (check.Refused f); refuses = refl; is = h }
printed P (Run f) h = λ _. h

-- an error that is handed up as it is
pub handed_up : {X : Type 0} (P : SourceFault → Type 0) (r : Result X Ending) (e : Ending) → IsErrAnd r (λ y. y ≡ e) → IsRefusalBy P e
    → IfErr r (IsRefusalBy P)
handed_up P (Ok x) e is h = absurd is
handed_up P (Err y) e is h = subst (IsRefusalBy P) (sym is) h

-- a refusal of the bytes that were found is one of the source
pub of_refused : {X : Type 0} (r : Result X Ending) (source : Option (List ℕ)) (found bytes : List ℕ) → IfSome source (λ xs. found ≡ spliced xs) → bytes ≡ found
    → IfErr r (IsRefusalBy (IsRefused bytes)) → IfErr r (IsRefusalBy (IsRefusedOf true source))
of_refused (Ok x) source found bytes are same h = tt
of_refused (Err e) source found bytes are same h = by_wider (IsRefused bytes) (IsRefusedOf true source) e (λ f is. (
  tt,
  of_source source (λ bs. IsRefused bs f) found bytes are same is,
)) h

-- what has another status has not this one
pub not_two : {X : Type 0} (r : Result X Ending) (P : Type 0) → IfErr r (λ e. status_of e ≢ 2) → IfErr r (λ e. status_of e ≡ 2 → P)
not_two (Ok x) P h = tt
not_two (Err e) P h = λ two. absurd (h two)

-- what is never answered is answered as one likes
pub never : {X : Type 0} {E : Type 0} (r : Result X E) (P : X → Type 0) → IfOk r (λ x. ⊥) → IfOk r P
never (Ok x) P h = absurd h
never (Err e) P h = tt
