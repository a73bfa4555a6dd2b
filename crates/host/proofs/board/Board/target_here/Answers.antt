use Rattle.std.proofs.Common.{rules, ◌≡◌, ◌≤◌, ℕ, true, false, length, Option, Some, IfNone, sym, ap, subst, ◌∙◌, ltb-false}
use Rattle.std.specs.Prelude.{◌&&◌, not, slice_get}
use Rattle.std.proofs.lemmas.Bool.{and_parts}
use Rattle.std.proofs.lemmas.Option.{slice_get-get_or}
use Rattle.base.specs.declared.item.Event.TheVariants.{Open}
use Rattle.base.specs.Accepted.{is_target}
use Rattle.base.specs.Items.{plan}
use Rattle.base.specs.Machine.{enabled}
use Rattle.device.specs.Run.{state_of}
use Rattle.host.specs.Idle.{IsNoTargetHere, is_for_workers}
use Rattle.host.proofs.Idle.{no_item_here, no_target_here, not_opened_here, same_items, target_turn}
use Rattle.host.proofs.board.Board.target_here.Goals as goal
use Rattle.host.proofs.board.Board.target_here.Goals.{else-is_host_target-via-then-is_host_target+else-is_enabled, else-is_host_target-via-else-is_host_target}

pub returns-in_err-item-clause-none : goal.returns-in_err-item-clause-none
returns-in_err-item-clause-none g c =
    let r = c.args.self.now.state in
    let items = c.items.result.now in
    let past : length items ≤ c.place-place.result =
    ltb-false c.place-place.result (length items) (sym {a = false} c.in_err-item.ensures.lookup.0) in
    subst (λ (o : Option ℕ). IfNone o (IsNoTargetHere (plan r.program) (state_of r))) (sym c.from_residual.ensures)
    (no_item_here (plan r.program) (state_of r) items
    (same_items c.args.self.now.image.now r items c.args.self.now.program c.items.ensures.shown)
    (subst (λ (n : ℕ). length items ≤ n) c.place-place.ensures past))

pub returns-in_err-number-clause-none : goal.returns-in_err-number-clause-none
returns-in_err-number-clause-none g c = let bad : ⊥ = search rules in absurd bad

pub returns-else-is_host_target-clause-none : goal.returns-else-is_host_target-clause-none
returns-else-is_host_target-clause-none g c =
    let r = c.args.self.now.state in
    let s = state_of r in
    let items = c.items.result.now in
    let item = c.in_ok-item.item.now in
    let lookup = c.in_ok-item.ensures.lookup in
    let there : slice_get items c.place-place.result ≡ Some item =
    slice_get-get_or items c.place-place.result item lookup.3.0 ∙ ap Some (sym lookup.1) in
    let same : s.place ≡ c.in_ok-number.number = search rules in
    elim c.else-is_host_target.branch [
      | else-is_host_target-via-then-is_host_target+else-is_enabled w ↦
          not_opened_here (plan r.program) s
          (ap (λ (n : ℕ). enabled (plan r.program) s (Open n)) same ∙ sym w.is_enabled.ensures ∙ w.if-is_enabled.false)
      | else-is_host_target-via-else-is_host_target w ↦
          no_target_here (plan r.program) s items item
          (same_items c.args.self.now.image.now r items c.args.self.now.program c.items.ensures.shown)
          (subst (λ (n : ℕ). slice_get items n ≡ Some item) c.place-place.ensures there)
          (sym c.is_host_target.ensures ∙ w.if-is_host_target.false)
    ]

pub returns-then-is_enabled-clause-own : goal.returns-then-is_enabled-clause-own
returns-then-is_enabled-clause-own g c =
    let r = c.args.self.now.state in
    let s = state_of r in
    let items = c.items.result.now in
    let item = c.in_ok-item.item.now in
    let lookup = c.in_ok-item.ensures.lookup in
    let there : slice_get items c.place-place.result ≡ Some item =
    slice_get-get_or items c.place-place.result item lookup.3.0 ∙ ap Some (sym lookup.1) in
    let same : s.place ≡ c.in_ok-number.number = search rules in
    let target : (not item.deferred && is_target item.kind) ≡ true = search rules in
    let on : enabled (plan r.program) s (Open c.in_ok-number.number) ≡ true = search rules in
    subst (λ (n : ℕ). is_for_workers (plan r.program) (Open n) ≡ true) same
    (target_turn (plan r.program) s items item
    (same_items c.args.self.now.image.now r items c.args.self.now.program c.items.ensures.shown)
    (subst (λ (n : ℕ). slice_get items n ≡ Some item) c.place-place.ensures there)
    (and_parts (not item.deferred) (is_target item.kind) target).1
    (subst (λ (n : ℕ). enabled (plan r.program) s (Open n) ≡ true) (sym same) on))
