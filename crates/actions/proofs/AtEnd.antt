-- Where nothing is left of an open item, its region is at its end.
use Rattle.std.proofs.Common.{◌≡◌, suc, ◌<◌, List, [], ◌∷◌, true, true≢false, Option, Some, None, length, refl, sym, ap, ◌∙◌, subst, arith}
use Rattle.std.specs.Prelude.{drop, take}
use Rattle.base.specs.Meaning.{Run}
use Rattle.fine_machine.specs.Left.{Left, Asks, Finished}
use Rattle.actions.specs.declared.control.Control.{Control}
use Rattle.actions.specs.declared.frame.Frame.{Frame}
use Rattle.actions.specs.declared.strand.Strand.{Strand}
use Rattle.actions.specs.declared.unordered.Unordered.{Unordered}
use Rattle.actions.specs.Control.{IsBefore, IsStopped, acting, and_kernel, kernel_rest, left_of, place, run_of, then_from}
use Rattle.actions.specs.Rest.{rest_of, top}
use Rattle.actions.specs.Strand.{side_of, stack_of, stops_at}
use Rattle.actions.specs.Strand as strand
use Rattle.actions.proofs.FirstActs.{acting_asks, asks, asks_first, asks_of}
use Rattle.actions.proofs.NextTurns.{acting_before, left_picked, no_turns, picked_at}

abbrev end_of : Run → Left → Run
end_of s (Finished t) = t
end_of s (Asks q k) = s

strand_at_end : (s : Strand) (t : Run) → strand.IsStopped s → strand.left_of s ≡ Finished t → t ≡ strand.run_of s
unfolding rest_of
strand_at_end s t stopped e = go (stack_of s) stopped e
  where
    go : (fs : List Frame) → stops_at (top fs) ≡ true →
        rest_of (side_of s.on_host) fs s.loops.items s.number (strand.run_of s) ≡ Finished t → t ≡ strand.run_of s
    go [] stops e = sym (ap (end_of t) e)
    go (f ∷ rest) stops e =
        absurd (true≢false
        (sym (asks_first (side_of s.on_host) f rest s.loops.items s.number (strand.run_of s) stops) ∙ ap asks e))

-- where nothing is left of an item that stands before an action or at its end, its region has done this
pub at_end : (c : Control) (t : Run) → IsStopped c → left_of c ≡ Finished t → t ≡ run_of c
at_end c t stopped e = go c.turns.items refl
  where
    at_kernel : (u : Option Unordered) → c.turns.items ≡ [] → IsBefore u c →
        and_kernel c.order.now u (strand.left_of c.strand) ≡ Finished t → t ≡ run_of c
    at_kernel None none b l = strand_at_end c.strand t stopped.strand l
    at_kernel (Some u) none b l =
        let a = asks_of (strand.left_of c.strand) (acting_asks c.strand (acting_before c u none b)) in
        absurd (true≢false (ap asks (sym (ap (λ x. then_from x (kernel_rest c.order.now u)) a.1.1) ∙ l)))

    go : (ts : List Strand) → c.turns.items ≡ ts → t ≡ run_of c
    go [] none = at_kernel c.kernel none stopped.kernel (sym (no_turns c none) ∙ e)
    go (x ∷ rest) some =
        let p = picked_at c (subst (λ ts. 0 < length ts) (sym some) (omega arith)) stopped.turns in
        let n = place c.order.now (length c.turns.items) in
        let a = asks_of (strand.left_of (acting c)) (acting_asks (acting c) p.acting) in
        absurd (true≢false (ap asks (sym
        (left_picked c (take n c.turns.items) (acting c) (drop (suc n) c.turns.items) a.0 a.1.0 p a.1.1) ∙ e)))
