-- Where a turn begins.
use Rattle.std.proofs.Common.{◌≡◌, ℕ, List, [], ◌∷◌, false, Bor, slice_index}
use Rattle.base.specs.declared.tree.Stmt.{Stmt}
use Rattle.actions.specs.declared.strand.Strand.{Strand}
use Rattle.actions.specs.declared.frame.Frame.TheVariants as frame
use Rattle.actions.specs.Control.{IsTurn}
use Rattle.actions.specs.Rest.{rest_of}
use Rattle.actions.specs.Strand.{run_of, side_of, stack_of}

pub turn_begins : (from turn : Strand) (body : Bor (List Stmt)) (loops : List ℕ) → turn.on_host ≡ false →
    stack_of turn ≡ frame.Rest body ∷ [] → turn.loops.items ≡ loops → turn.scalars ≡ from.scalars →
    turn.input ≡ from.input → turn.printed.items ≡ from.printed.items →
    IsTurn (run_of from) (record { loops = loops; body = body.now }) turn
unfolding rest_of
turn_begins from turn body loops host stack loops_is scalars input printed =
    λ i. rest_of (side_of (host i)) (stack i) (loops_is i) turn.number (record {
      scalars = slice_index (scalars i);
      stores = [];
      input = (input i).now;
      printed = printed i;
    })
