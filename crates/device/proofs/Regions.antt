-- Which items have regions.
use Rattle.std.proofs.Common.{◌≡◌, ℕ, zero, suc, ◌+◌, true, false, List, [], ◌∷◌, ◌++◌, Some, None, refl, subst}
use Rattle.std.specs.Prelude.{slice_get, is_some}
use Rattle.std.proofs.lemmas.Bool.{false≢true, true≢false}
use Rattle.std.proofs.lemmas.Option.{same_Some}
use Rattle.base.specs.declared.tree.Directive.{Directive}
use Rattle.base.specs.declared.tree.Directive.TheVariants as directive
use Rattle.base.specs.declared.tree.Part.{Part, Row_of-Part, end_of-Part, more_of-Part}
use Rattle.base.specs.declared.tree.Part.TheVariants as part
use Rattle.base.specs.declared.tree.Place.{Place}
use Rattle.base.specs.declared.tree.Program.{Program}
use Rattle.base.specs.Meaning.{turns_of, lengths_of}
use Rattle.base.specs.Items.{Work, plan, items_of, row_items, list_items, turned_out, alone_work}
use Rattle.base.specs.Accepted.{is_host, is_target}

-- a host item and a target have a region, and no other item has one
pub record Placed (w : Work) : Type 0 where
  pub host : is_host w.kind ≡ true → is_some w.region ≡ true
  pub target : is_target w.kind ≡ true → is_some w.region ≡ true
  pub other : is_host w.kind ≡ false → is_target w.kind ≡ false → w.region ≡ None

abbrev AllPlaced : List Work → Type 0
AllPlaced [] = Unit {0}
AllPlaced (w ∷ rest) = Placed w × AllPlaced rest

append : (xs ys : List Work) → AllPlaced xs → AllPlaced ys → AllPlaced (xs ++ ys)
append [] ys h k = k
append (x ∷ xs) ys h k = (h.0, append xs ys h.1 k)

not_so : {A : Type 0} → false ≡ true → A
not_so e = absurd (false≢true e)

so : {A : Type 0} → true ≡ false → A
so e = absurd (true≢false e)

module _ (lengths : List ℕ) where
  alone : (place : Place) (d : Directive) (loops : List ℕ) → Placed (alone_work lengths place d loops)
  alone place (directive.Enter maps t) loops = record { host = not_so; target = not_so; other = λ e f. refl }
  alone place (directive.Exit maps t) loops = record { host = not_so; target = not_so; other = λ e f. refl }
  alone place (directive.Update maps t) loops = record { host = not_so; target = not_so; other = λ e f. refl }
  alone place (directive.Wait depends) loops = record { host = not_so; target = not_so; other = λ e f. refl }

  turns : (step : ℕ) (items : ℕ → List Work) → ((v : ℕ) → AllPlaced (items v)) → (n v : ℕ) →
      AllPlaced (turned_out n v step items)
  turns step items h zero v = tt
  turns step items h (suc n) v = append (items v) (turned_out n (v + step) step items) (h v) (turns step items h n (v + step))

  mutual
    placed : (p : Part) (loops : List ℕ) → AllPlaced (items_of p lengths loops)
    placed (part.Host r) loops = (record { host = λ e. refl; target = not_so; other = λ e f. so e }, tt)
    placed (part.Block' shape all) loops = row all loops
    placed (part.Loop' b shape all) loops =
        turns b.step (λ v. row_items all lengths (loops ++ v ∷ [])) (λ v. row all (loops ++ v ∷ [])) (turns_of b) b.first
    placed (part.Target t r) loops = (record { host = not_so; target = λ e. refl; other = λ e f. so f }, tt)
    placed (part.Data' d shape all) loops = (
      record { host = not_so; target = not_so; other = λ e f. refl },
      append (row_items all lengths loops) _ (row all loops)
          (record { host = not_so; target = not_so; other = λ e f. refl }, tt),
    )
    placed (part.Alone place d) loops = (alone place d loops, tt)

    row : {m : _} (all : Row_of-Part m) (loops : List ℕ) → AllPlaced (row_items all lengths loops)
    row end_of-Part loops = tt
    row (more_of-Part first rest) loops =
        append (items_of first lengths loops) (row_items rest lengths loops) (placed first loops) (row rest loops)

  list : (all : List Part) → AllPlaced (list_items all lengths)
  list [] = tt
  list (first ∷ rest) = append (items_of first lengths []) (list_items rest lengths) (placed first []) (list rest)

at : (items : List Work) → AllPlaced items → (i : ℕ) (w : Work) → slice_get items i ≡ Some w → Placed w
at [] h i w e = absurd (cc e)
at (x ∷ xs) h zero w e = subst Placed (same_Some x w e) h.0
at (x ∷ xs) h (suc i) w e = at xs h.1 i w e

pub placed_at : (p : Program) (i : ℕ) (w : Work) → slice_get (plan p).items i ≡ Some w → Placed w
placed_at p i w e = at (plan p).items (list (lengths_of p) p.body.items) i w e
