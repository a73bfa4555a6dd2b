-- The history of a cell at the start: on no device.
use Rattle.std.proofs.Common.{◌≡◌, ℕ, ◌+◌, arith, false, List, [], ◌∷◌, ◌++◌, length, Some, refl, sym, ap, ◌∙◌, subst, ⊎_elim}
use Rattle.std.specs.Prelude.{slice_get}
use Rattle.history.specs.declared.Event.{Event}
use Rattle.history.specs.declared.How.TheVariants.{Never}
use Rattle.history.specs.declared.State.{State}
use Rattle.history.specs.declared.State.TheVariants.{Stale}
use Rattle.history.specs.Places.{Places, is_current}
use Rattle.history.specs.Since.{IsSince}
use Rattle.history.proofs.Standing.{set_last, since_more, since_never}

pub one_more : {X : Type 0} (xs : List X) (x : X) → length (xs ++ x ∷ []) ≡ length xs + 1
one_more [] x = refl
one_more (y ∷ xs) x = let rest = one_more xs x in omega (arith, rest)

pub none_more : (states more : List State) (k : ℕ) → more ≡ states ++ Stale k ∷ [] →
    ((d : ℕ) (s : State) → slice_get states d ≡ Some s → is_current s ≡ false) →
    (d : ℕ) (s : State) → slice_get more d ≡ Some s → is_current s ≡ false
none_more states more k grown h d s is =
    ⊎_elim (λ old. h d s old) (λ new. ap is_current new.1)
    (set_last states (Stale k) s d (ap (λ xs. slice_get xs d) (sym grown) ∙ is))

-- of each device there is an event
abbrev pub HaveEvents : List State → List Event → Type 0
HaveEvents states events =
    (past : ℕ → Places) → ((d : ℕ) → (past 0).devices d ≡ false) → (d : ℕ) (s : State) → slice_get states d ≡ Some s →
    IsSince (λ k. (past k).devices d) 0 events s

pub since_all : (states more : List State) (events others : List Event) (e : Event) (k : ℕ) → more ≡ states ++ Stale k ∷ [] →
    others ≡ events ++ e ∷ [] → length events ≡ k → e.how ≡ Never → HaveEvents states events → HaveEvents more others
since_all states more events others e k ds es count never h past none d s is =
    subst (λ xs. IsSince (λ i. (past i).devices d) 0 xs s) (sym es)
    (⊎_elim (λ old. since_more (λ i. (past i).devices d) 0 events (e ∷ []) s (h past none d s old))
    (λ new. subst (IsSince (λ i. (past i).devices d) 0 (events ++ e ∷ [])) (ap (λ n. Stale n) count ∙ sym new.1)
    (since_never (λ i. (past i).devices d) events e (none d) never))
    (set_last states (Stale k) s d (ap (λ xs. slice_get xs d) (sym ds) ∙ is)))
