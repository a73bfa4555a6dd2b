-- A run by no choices is the run in program order.
use Rattle.std.proofs.Common.{◌≡◌, ◌∙◌, ℕ, suc, ◌+◌, ◌-◌, ◌*◌, ◌≤◌, Bool, true, false, List, [], ◌∷◌, length, Some, sym, ap, arith, length-append}
use Rattle.std.proofs.lemmas.Option.{same_Some}
use Rattle.base.specs.declared.item.Event.{Event}
use Rattle.base.specs.declared.item.Event.TheVariants.{End}
use Rattle.base.specs.declared.tree.Program.{Program}
use Rattle.base.specs.Accepted.{IsAccepted}
use Rattle.base.specs.Headline.{AreNumbers}
use Rattle.base.specs.Items.{Work, plan}
use Rattle.base.specs.Map.{Fill}
use Rattle.base.specs.Machine.{Played, RunFrom, State, follow, is_wait, start}
use Rattle.headline.specs.Stepwise.{events_from, item_events, program_order}
use Rattle.headline.proofs.ByFirst.{by_first}
use Rattle.headline.proofs.ProgramChain.{end_state}
use Rattle.headline.proofs.ProgramOrder.{program_order_is_right}
use Rattle.device.specs.Choosing.{IsPlayed, most_events}
use Rattle.device.specs.Run.{Run, fill_in, state_of}
use Rattle.device.specs.Running.{IsReached}
use Rattle.device.proofs.Choices.{follow_stop, nothing_after_the_end}

few_of_item : (a b : Bool) (i : ℕ) → length (item_events a b i) ≤ 3
few_of_item true b i = omega arith
few_of_item false true i = omega arith
few_of_item false false i = omega arith

few_from : (i : ℕ) (ws : List Work) → length (events_from i ws) ≤ 3 * length ws
few_from i [] = omega arith
few_from i (w ∷ ws) =
    let one = few_of_item (is_wait w.kind) w.deferred i in
    let rest = few_from (suc i) ws in
    let both = length-append (item_events (is_wait w.kind) w.deferred i) (events_from (suc i) ws) in
    omega (arith, one, rest, both)

module _ (p : Program) (accepted : IsAccepted (plan p)) (input : List ℕ) (fill : ℕ → Fill)
    (numbers : AreNumbers input) where
  abbrev events : ℕ
  events = length (program_order (plan p))

  abbrev most : ℕ
  most = 3 * length (plan p).items + 1

  fits : events ≤ most
  fits =
      let few = few_from 0 (plan p).items in
      let both = length-append (events_from 0 (plan p).items) (End ∷ []) in
      omega (arith, few, both)

  abbrev end : State
  end = end_state p accepted input fill numbers

  in_order : follow (plan p) fill most [] [] (Some (start input))
      ≡ record { history = program_order (plan p); state = Some end }
  in_order =
      ap (λ n. follow (plan p) fill n [] [] (Some (start input))) (split events most fits)
      ∙ by_first p accepted input fill numbers (most - events)
      ∙ follow_stop (plan p) fill (most - events) [] (program_order (plan p)) end
      (nothing_after_the_end (plan p) fill input (program_order (plan p)) end
      (program_order_is_right p accepted input fill numbers).run
      (program_order_is_right p accepted input fill numbers).ended)
    where
      split : (k n : ℕ) → k ≤ n → n ≡ k + (n - k)
      split k n le = omega arith

-- of a run that begins with nothing done
pub played_in_order : (choices : List ℕ) (old new : Run) → IsReached old → IsPlayed choices old new → choices ≡ [] →
    old.history ≡ [] → new.history ≡ program_order (plan new.program)
played_in_order choices old new h played none begun =
    sym (ap (λ (x : Played). x.history) (played.goes.by_choices))
    ∙ ap (λ cs. (follow (plan old.program) (fill_in old) (most_events old) cs old.history (Some (state_of old))).history) none
    ∙ ap (λ es. (follow (plan old.program) (fill_in old) (most_events old) [] es (Some (state_of old))).history) begun
    ∙ ap (λ s. (follow (plan old.program) (fill_in old) (most_events old) [] [] (Some s)).history) at_start
    ∙ ap (λ (x : Played). x.history) (in_order old.program h.accepted old.input (fill_in old) h.numbers)
    ∙ ap (λ p. program_order (plan p)) (sym played.goes.program)
  where
    at_start : state_of old ≡ start old.input
    at_start = sym (same_Some (start old.input) (state_of old) (go old.history begun h.ran))
      where
        go : (es : List Event) → es ≡ [] → RunFrom (plan old.program) (fill_in old) old.input es (Some (state_of old)) →
            Some (start old.input) ≡ Some (state_of old)
        go [] e r = sym r
        go (x ∷ es) e r = absurd cc
