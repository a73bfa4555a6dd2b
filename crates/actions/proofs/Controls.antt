-- The strand or turn of an open item that acts next.
use Rattle.std.proofs.Common.{◌≡◌, ℕ, ◌<◌, length, map, ap, sym, ◌∙◌, arith}
use Rattle.std.specs.Prelude.{slice_index_or}
use Rattle.fine_machine.specs.Left.{together}
use Rattle.actions.specs.declared.control.Control.{Control}
use Rattle.actions.specs.declared.strand.Strand.{Strand}
use Rattle.actions.specs.Control.{acting, and_kernel, left_of, place}
use Rattle.actions.specs.Strand as strand
use Rattle.actions.proofs.KernelBegins.{none_there}
use Rattle.actions.proofs.TurnAnswers.{same_there}

pub strand_same : (c : Control) (s : Strand) → strand.left_of s ≡ strand.left_of c.strand →
    left_of (record c { strand = s }) ≡ left_of c
unfolding left_of
strand_same c s is =
    ap (λ l. together c.order.now (map strand.left_of c.turns.items) (and_kernel c.order.now c.kernel l)) is

pub acts_turn : (c : Control) (n : ℕ) (t : Strand) → n ≡ place c.order.now (length c.turns.items) →
    n < length c.turns.items → t ≡ slice_index_or c.turns.items n t → acting c ≡ t
acts_turn c n t is lt at =
    ap (λ k. slice_index_or c.turns.items k c.strand) (sym is) ∙ same_there c.turns.items n c.strand t lt ∙ sym at

pub acts_strand : (c : Control) (n : ℕ) → n ≡ place c.order.now (length c.turns.items) →
    (n < length c.turns.items → ⊥) → acting c ≡ c.strand
acts_strand c n is out =
    ap (λ ts. slice_index_or ts (place c.order.now (length ts)) c.strand)
    (none_there c.order.now c.turns.items (λ lt. out (omega (arith, lt, is))))
