-- What is left of a strand, as the fine-grained machine has it.
use Rattle.std.specs.Prelude.{ℕ, ◌≡◌, zero, suc, ◌-◌, not, List, [], ◌∷◌, ◌++◌, length, reverse, take, Option, Some, None}
use Rattle.base.specs.declared.item.Cell.{Cell}
use Rattle.base.specs.declared.tree.ArrayId.{ArrayId}
use Rattle.base.specs.Value.{flag, is_zero, unary, binary, shifted, divided}
use Rattle.base.specs.Meaning.{Run, printed}
use Rattle.fine_machine.specs.Left.{Left, Finished, Asks, Side, Load, Store, Combine, Remove, CopyIn, CopyOut, assigned, expr_left, source_left, list_left, turns_left, each_left, entry_left, exit_left, cells_left}
use Rattle.actions.specs.declared.frame.Frame.{Frame}
use Rattle.actions.specs.declared.frame.Frame.TheVariants as frame
use Rattle.actions.specs.declared.stack.Frames.{Frames}

-- the values of the loops around the innermost one
abbrev pub front_of : List ℕ → List ℕ
front_of xs = take (length xs - 1) xs

-- the next part stands first
abbrev pub frames_of : Frames → List Frame
frames_of f = reverse f.all.items

abbrev pub top : List Frame → Option Frame
top [] = None
top (f ∷ rest) = Some f

-- the first part has left
abbrev pub Popped : List Frame → Option Frame → List Frame → Type 0
Popped old None new = (old ≡ []) × (new ≡ [])
Popped old (Some f) new = old ≡ f ∷ new

abbrev pub at_index : ArrayId → ℕ → Cell
at_index a i = record { array = a; index = i }

-- what is left, on this side, with these values of the loops, the number at hand, and the region where it stands
unfoldable pub rest_of : Side → List Frame → List ℕ → ℕ → Run → Left
rest_of side [] loops n s = Finished s
rest_of side (frame.Load a ∷ rest) loops n s =
    Asks (Load side (at_index a n)) (λ r. rest_of side rest loops r.number s)
rest_of side (frame.Unary op ∷ rest) loops n s = rest_of side rest loops (unary op n) s
rest_of side (frame.Right op e ∷ rest) loops m s =
    expr_left e.now side loops s.scalars (λ n. rest_of side rest loops (binary op m n) s)
rest_of side (frame.Both op m ∷ rest) loops n s = rest_of side rest loops (binary op m n) s
rest_of side (frame.AndRight e ∷ rest) loops m s =
    elim m [
      | zero ↦ rest_of side rest loops 0 s
      | suc m' ↦ expr_left e.now side loops s.scalars (λ n. rest_of side rest loops (flag (not (is_zero n))) s)
    ]
rest_of side (frame.OrRight e ∷ rest) loops m s =
    elim m [
      | zero ↦ expr_left e.now side loops s.scalars (λ n. rest_of side rest loops (flag (not (is_zero n))) s)
      | suc m' ↦ rest_of side rest loops 1 s
    ]
rest_of side (frame.Truth ∷ rest) loops n s = rest_of side rest loops (flag (not (is_zero n))) s
rest_of side (frame.Shift op n ∷ rest) loops m s = rest_of side rest loops (shifted op m n.count) s
rest_of side (frame.Divide op n ∷ rest) loops m s = rest_of side rest loops (divided op m n.value) s
rest_of side (frame.Subscript a v ∷ rest) loops i s =
    source_left v.now side loops s
    (λ n t. Asks (Store side (at_index a i) n) (λ r. rest_of side rest loops 0 t))
rest_of side (frame.Store a i ∷ rest) loops n s =
    Asks (Store side (at_index a i) n) (λ r. rest_of side rest loops 0 s)
rest_of side (frame.Place op a e ∷ rest) loops i s =
    expr_left e.now side loops s.scalars (λ n. Asks (Combine side op (at_index a i) n) (λ r. rest_of side rest loops 0 s))
rest_of side (frame.Combine op a i ∷ rest) loops n s =
    Asks (Combine side op (at_index a i) n) (λ r. rest_of side rest loops 0 s)
rest_of side (frame.Assign x ∷ rest) loops n s = rest_of side rest loops 0 (assigned x.0 n s)
rest_of side (frame.Print ∷ rest) loops n s = rest_of side rest loops 0 (printed s n)
rest_of side (frame.Choose first second ∷ rest) loops n s =
    elim n [
      | zero ↦ list_left second.now side loops s (λ t. rest_of side rest loops 0 t)
      | suc m ↦ list_left first.now side loops s (λ t. rest_of side rest loops 0 t)
    ]
rest_of side (frame.Rest all ∷ rest) loops n s = list_left all.now side loops s (λ t. rest_of side rest loops 0 t)
rest_of side (frame.Turns turns body ∷ rest) loops n s =
    turns_left turns.left turns.next turns.step
    (λ v. list_left body.now side (front_of loops ++ v ∷ [])) s
    (λ t. rest_of side rest (front_of loops) 0 t)
rest_of side (frame.Entries maps ∷ rest) loops n s = each_left entry_left maps.items.now (λ u. rest_of side rest loops 0 s)
rest_of side (frame.Exits maps ∷ rest) loops n s = each_left exit_left maps.items.now (λ u. rest_of side rest loops 0 s)
rest_of side (frame.CopyIn cells ∷ rest) loops n s =
    cells_left CopyIn cells.array cells.first cells.count (λ u. rest_of side rest loops 0 s)
rest_of side (frame.CopyOut cells ∷ rest) loops n s =
    cells_left CopyOut cells.array cells.first cells.count (λ u. rest_of side rest loops 0 s)
rest_of side (frame.Remove held ∷ rest) loops n s =
    Asks (Remove held.section) (λ r. rest_of side rest loops 0 s)
