-- What holds of each state that a run of an accepted program reaches.
use Rattle.std.proofs.Common.{◌≡◌, ◌<◌, ℕ, true, false, List, Some, arith, ⊎_elim}
use Rattle.std.specs.Prelude.{slice_get}
use Rattle.std.proofs.lemmas.Bool.{cases_lt}
use Rattle.base.specs.declared.tree.Program.{Program}
use Rattle.base.specs.declared.item.Event.{Event}
use Rattle.base.specs.Items.{Work, plan}
use Rattle.base.specs.Map.{Fill}
use Rattle.base.specs.Machine.{State, RunFrom}
use Rattle.base.specs.Accepted.{is_host}
use Rattle.device.specs.Closing.{HostsAreHere}
pub use Rattle.device.specs.Valid.{valid}
use Rattle.device.proofs.Ended.{open_done, open_untouched, sound}

-- an open host item is the one at which the host stands
pub hosts_here : (p : Program) (fill : ℕ → Fill) (input : List ℕ) (events : List Event) (s : State) →
    ((i : ℕ) (w : Work) → slice_get (plan p).items i ≡ Some w → is_host w.kind ≡ true → w.deferred ≡ false) →
    RunFrom (plan p) fill input events (Some s) → HostsAreHere (plan p) s
hosts_here p fill input events s here ran j w at host open' =
    let ok = (sound p fill input events s ran).items j w at in
    let d = here j w at host in
    squeeze j s.place (λ lt. open_done (s.condition j) open' (ok.behind d lt))
    (λ lt. open_untouched (s.condition j) open' (ok.beyond d lt))
  where
    squeeze : (a b : ℕ) → (a < b → ⊥) → (b < a → ⊥) → a ≡ b
    squeeze a b h k = ⊎_elim (λ lt. absurd (h lt)) (λ le. ⊎_elim (λ lt. absurd (k lt)) (λ le'. omega arith) (cases_lt b a)) (cases_lt a b)
