-- What the turns of a loop add.
use Rattle.std.proofs.Common.{◌≡◌, ℕ, ◌+◌, ◌<◌, ◌≤◌, List, [], ◌∷◌, ◌++◌, Some, sym, ap, ◌∙◌, append_assoc, append-nil}
use Rattle.std.proofs.lemmas.List.{map-append}
use Rattle.base.specs.declared.item.Item.{Item}
use Rattle.base.specs.declared.tree.Bounds.{Bounds}
use Rattle.base.specs.declared.tree.Part.{Part}
use Rattle.base.specs.Items.{Work, turned_out}
use Rattle.outline.specs.Parts.{parts_items, turns_items}
use Rattle.outline.specs.Regions.{Entry}
use Rattle.outline.specs.Shown.{all_shown, as_shown}
use Rattle.outline.specs.Walk.{Added}
use Rattle.base.proofs.LoopTurns.{one_turn_less, no_turn_left}

turn_items : (v : ℕ) (b : Bounds) (body : List Part) (lengths loops : List ℕ) → v < b.end →
    turns_items v b body lengths loops
    ≡ parts_items body lengths (loops ++ v ∷ []) ++ turns_items (v + b.step) b body lengths loops
turn_items v b body lengths loops h =
    ap (λ n. turned_out n v b.step (λ u. parts_items body lengths (loops ++ u ∷ []))) (one_turn_less v b h)

no_turn_items : (v : ℕ) (b : Bounds) (body : List Part) (lengths loops : List ℕ) → b.end ≤ v →
    turns_items v b body lengths loops ≡ []
no_turn_items v b body lengths loops h =
    ap (λ n. turned_out n v b.step (λ u. parts_items body lengths (loops ++ u ∷ []))) (no_turn_left v b h)

-- one turn was added
pub added_turn : (es : List Entry) (mid new : List Item) (v : ℕ) (b : Bounds) (body : List Part)
    (lengths loops held : List ℕ) → v < b.end → held ≡ loops ++ v ∷ [] →
    Added es mid new (parts_items body lengths held) →
    all_shown es new ++ as_shown (turns_items (v + b.step) b body lengths loops)
    ≡ all_shown es mid ++ as_shown (turns_items v b body lengths loops)
added_turn es mid new v b body lengths loops held h held_is here =
    ap (λ xs. xs ++ as_shown (turns_items (v + b.step) b body lengths loops)) here
    ∙ append_assoc (all_shown es mid) (as_shown (parts_items body lengths held))
    (as_shown (turns_items (v + b.step) b body lengths loops))
    ∙ ap (λ xs. all_shown es mid ++ xs)
    (sym (map-append (λ w. Some w) (parts_items body lengths held) (turns_items (v + b.step) b body lengths loops)))
    ∙ ap (λ ls. all_shown es mid ++ as_shown (parts_items body lengths ls
    ++ turns_items (v + b.step) b body lengths loops)) held_is
    ∙ ap (λ ws. all_shown es mid ++ as_shown ws) (sym (turn_items v b body lengths loops h))

-- no turn is left
pub added_turns : (es : List Entry) (old new : List Item) (v : ℕ) (b : Bounds) (body : List Part)
    (lengths loops : List ℕ)
    (ws : List Work) → b.end ≤ v →
    all_shown es new ++ as_shown (turns_items v b body lengths loops) ≡ all_shown es old ++ as_shown ws →
    Added es old new ws
added_turns es old new v b body lengths loops ws h e =
    sym (append-nil (all_shown es new))
    ∙ ap (λ us. all_shown es new ++ as_shown us) (sym (no_turn_items v b body lengths loops h))
    ∙ e
