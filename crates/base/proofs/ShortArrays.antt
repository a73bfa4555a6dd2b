-- No array of a program has more than 65,536 cells.
use Rattle.std.proofs.Common.{ℕ, zero, suc, ◌≤◌, List, [], ◌∷◌, map, arith}
use Rattle.std.specs.Prelude.{slice_index}
use Rattle.std.specs.declared.string.String.{String}
use Rattle.base.specs.declared.tree.ArrayInfo.{ArrayInfo}
use Rattle.base.specs.declared.tree.Program.{Program}
use Rattle.base.specs.Limits.{AreShort}

module _ {Z : Type 0} where
  short_lengths : (es : List (String Z × ArrayInfo)) (a : ℕ) →
      slice_index (map (λ (i : ArrayInfo). i.length) (map (λ (e : String Z × ArrayInfo). e.1) es)) a ≤ 65536
  short_lengths [] a = omega arith
  short_lengths (e ∷ es) zero = e.1.few
  short_lengths (e ∷ es) (suc a) = short_lengths es a

pub are_short : (p : Program) → AreShort p
are_short p = short_lengths p.arrays.entries
