-- How many items parts have.
use Rattle.std.proofs.Common.{◌≡◌, ℕ, zero, suc, ◌+◌, ◌*◌, ◌≤◌, min, List, [], ◌∷◌, ◌++◌, length, refl, sym, ap, ◌∙◌, arith, length-append}
use Rattle.std.proofs.Math.Nat.{zero-mul, suc-mul}
use Rattle.std.proofs.lemmas.List.Sums.{sum_by-cons}
use Rattle.std.proofs.lemmas.List.{nil_from_length}
use Rattle.base.specs.declared.tree.Bounds.{Bounds}
use Rattle.base.specs.declared.tree.Part.{Part, Row_of-Part, end_of-Part, more_of-Part}
use Rattle.base.specs.declared.tree.Part.TheVariants as part
use Rattle.base.specs.declared.item.ItemKind.TheVariants.{End}
use Rattle.base.specs.declared.tree.Program.{Program}
use Rattle.base.specs.Meaning.{turns_of, turns_left, lengths_of}
use Rattle.base.specs.Items.{Work, items_of, row_items, list_items, turned_out, data_work, plan}
use Rattle.outline.specs.Counts.{part_count, row_count, list_count}
use Rattle.outline.specs.Parts.{parts_items, turns_items}

turned_length : (n v step c : ℕ) (body : ℕ → List Work) → ((u : ℕ) → length (body u) ≡ c) →
    length (turned_out n v step body) ≡ n * c
turned_length zero v step c body h = sym (zero-mul c)
turned_length (suc n) v step c body h =
    let rest = turned_length n (v + step) step c body h in
    omega (arith, length-append (body v) (turned_out n (v + step) step body), h v, rest, suc-mul n c)

mutual
  part_length : (p : Part) (lengths loops : List ℕ) → length (items_of p lengths loops) ≡ part_count p
  part_length (part.Host r) lengths loops = refl
  part_length (part.Block' shape all) lengths loops = row_length all lengths loops
  part_length (part.Loop' b shape all) lengths loops =
      turned_length (turns_of b) b.first b.step (row_count all) (λ v. row_items all lengths (loops ++ v ∷ []))
      (λ v. row_length all lengths (loops ++ v ∷ []))
  part_length (part.Target t r) lengths loops = refl
  part_length (part.Data' d shape all) lengths loops =
      let inner = row_length all lengths loops in
      let both = length-append (row_items all lengths loops) (data_work End lengths d loops ∷ []) in
      omega (arith, inner, both)
  part_length (part.Alone place d) lengths loops = refl

  row_length : {m : _} (row : Row_of-Part m) (lengths loops : List ℕ) → length (row_items row lengths loops)
      ≡ row_count row
  row_length end_of-Part lengths loops = refl
  row_length (more_of-Part first rest) lengths loops =
      length-append (items_of first lengths loops) (row_items rest lengths loops)
      ∙ (λ i. part_length first lengths loops i + row_length rest lengths loops i)

pub list_length : (parts : List Part) (lengths loops : List ℕ) → length (parts_items parts lengths loops)
    ≡ list_count parts
list_length [] lengths loops = refl
list_length (p ∷ parts) lengths loops =
    length-append (items_of p lengths loops) (parts_items parts lengths loops)
    ∙ (λ i. part_length p lengths loops i + list_length parts lengths loops i)
    ∙ sym (sum_by-cons part_count p parts)

-- a program's parts stand under no loop
pub list_is_parts : (parts : List Part) (lengths : List ℕ) → list_items parts lengths ≡ parts_items parts lengths []
list_is_parts [] lengths = refl
list_is_parts (p ∷ parts) lengths = ap (λ ws. items_of p lengths [] ++ ws) (list_is_parts parts lengths)

none_turned : (n v step : ℕ) (body : ℕ → List Work) → ((u : ℕ) → body u ≡ []) → turned_out n v step body ≡ []
none_turned zero v step body h = refl
none_turned (suc n) v step body h = (λ i. h v i ++ none_turned n (v + step) step body h i)

-- no turn has an item
pub no_turns : (b : Bounds) (body : List Part) (lengths loops : List ℕ) (n m : ℕ) → n ≡ min (list_count body) m → n
    ≡ 0 → 1 ≤ m →
    turns_items b.first b body lengths loops ≡ []
no_turns b body lengths loops n m n_is zero_is some =
    let empty : list_count body ≡ 0 = omega (arith, n_is, zero_is, some) in
    none_turned (turns_left b.first b) b.first b.step (λ v. parts_items body lengths (loops ++ v ∷ []))
    (λ v. nil_from_length _ (list_length body lengths (loops ++ v ∷ []) ∙ empty))

pub plan_length : (p : Program) → length (plan p).items ≡ list_count p.body.items
plan_length p =
    ap (λ ws. length ws) (list_is_parts p.body.items (lengths_of p)) ∙ list_length p.body.items (lengths_of p) []
