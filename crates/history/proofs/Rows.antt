-- Map items in turn.
use Rattle.std.proofs.Common.{◌≡◌, ◌∙◌, false, ℕ, ◌+◌, ◌<◌, ◌≤◌, min, List, [], ◌∷◌, drop, get_or, length, refl, ap, add-one, arith, suc, zero}
use Rattle.base.specs.declared.item.Cell.{Cell}
use Rattle.base.specs.declared.item.MapItem.{MapItem}
use Rattle.base.specs.declared.item.MapKind.TheVariants.{To}
use Rattle.mapwalk.specs.declared.rows.Acts.{Acts}
use Rattle.history.specs.declared.Side.{Side}
use Rattle.history.specs.declared.items.Part.{Part}
use Rattle.history.specs.Moves.{acted, all_acted}
use Rattle.history.specs.Places.{Places}

no_row : (part : Part) (side : Side) (c : Cell) (maps : List MapItem) (p : Places) → all_acted part side c maps [] p ≡ p
no_row part side c [] p = refl
no_row part side c (m ∷ maps) p = refl

-- none is left
pub acted_end : (part : Part) (side : Side) (c : Cell) (maps : List MapItem) (row : List Acts) (i : ℕ) (p : Places) → min (length maps) (length row) ≤ i →
    all_acted part side c (drop i maps) (drop i row) p ≡ p
acted_end part side c [] row zero p h = refl
acted_end part side c [] row (suc i) p h = refl
acted_end part side c (m ∷ maps) [] zero p h = refl
acted_end part side c (m ∷ maps) [] (suc i) p h = no_row part side c (drop i maps) p
acted_end part side c (m ∷ maps) (a ∷ row) zero p h = absurd (omega arith)
acted_end part side c (m ∷ maps) (a ∷ row) (suc i) p h = acted_end part side c maps row i p (omega arith)

step_suc : (part : Part) (side : Side) (c : Cell) (maps : List MapItem) (row : List Acts) (i : ℕ) (p : Places) (m : MapItem) (a : Acts) →
    i < length maps → i < length row → all_acted part side c (drop (suc i) maps) (drop (suc i) row) (acted part side c (get_or maps i m).section (get_or row i a) p)
    ≡ all_acted part side c (drop i maps) (drop i row) p
step_suc part side c [] row i p m a h g = absurd (omega (arith, h))
step_suc part side c (x ∷ maps) [] i p m a h g = absurd (omega (arith, g))
step_suc part side c (x ∷ maps) (y ∷ row) zero p m a h g = refl
step_suc part side c (x ∷ maps) (y ∷ row) (suc i) p m a h g = step_suc part side c maps row i p m a (omega (arith, h)) (omega (arith, g))

-- one more is done
pub acted_step : (part : Part) (side : Side) (c : Cell) (maps : List MapItem) (row : List Acts) (i : ℕ) (p : Places) (m : MapItem) (a : Acts) →
    i < length maps → i < length row → all_acted part side c (drop (i + 1) maps) (drop (i + 1) row) (acted part side c (get_or maps i m).section (get_or row i a) p)
    ≡ all_acted part side c (drop i maps) (drop i row) p
acted_step part side c maps row i p m a h g =
    ap (λ k. all_acted part side c (drop k maps) (drop k row) (acted part side c (get_or maps i m).section (get_or row i a) p)) (add-one i)
    ∙ step_suc part side c maps row i p m a h g

-- what stands beyond the end of a list
abbrev pub no_item : MapItem
no_item = record {
  kind = To;
  always = false;
  present = false;
  section = record { array = record { 0 = 0 }; first = 0; length = 0 };
  line = 0;
  column = 0;
}

abbrev pub no_acts : Acts
no_acts = record {
  block = record { array = record { 0 = 0 }; first = 0; length = 0 };
  creates = false;
  copies_in = false;
  copies_out = false;
  removes = false;
  rests = false;
}
