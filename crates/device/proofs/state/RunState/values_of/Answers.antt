use Rattle.std.proofs.Common.{ℕ, List, [], ◌∷◌, ◌++◌, map, sym, ap, ◌∙◌, zero-add}
use Rattle.std.specs.List.{range_with_len}
use Rattle.std.proofs.lemmas.List.FromFn.{map-range_with_len_more}
use Rattle.device.specs.Run.{state_of}
use Rattle.device.proofs.state.RunState.values_of.Goals as goal

pub loop-index-preserved : goal.loop-index-preserved
loop-index-preserved c =
    let number : ℕ → ℕ = λ k. (state_of c.args.self.now).memories.host (record { array = c.args.array; index = k }) in
    c.in_ok-push.ensures.items
    ∙ ap (λ (xs : List ℕ). xs ++ c.host_cell.result ∷ []) c.loop-index.invariant
    ∙ ap (λ (n : ℕ). map number (range_with_len 0 c.loop-index.index) ++ n ∷ []) c.host_cell.ensures
    ∙ sym (map-range_with_len_more number 0 c.loop-index.index c.loop-index.index (zero-add c.loop-index.index))
