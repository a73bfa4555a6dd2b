-- What the reader knows where a token stands.
use Rattle.std.specs.Prelude.{ℕ, Bool, true, false, if◌then◌else◌, List, [], ◌∷◌, map, reverse, Option, Some, None}
use Rattle.std.specs.Borrow.{Bor}
use Rattle.std.specs.Str.{bytes_eq}
use Rattle.base.specs.declared.tree.ArrayId.{ArrayId}
use Rattle.std.specs.List.{flat_map}
use Rattle.c_grammar.specs.Rules.{Context, Frame, Sort, AnArray, AScalar, ABoxed, ALoop, out, is_array, is_scalar}
use Rattle.c_expressions.specs.declared.scope.Frame.{Frame as GivenFrame}
use Rattle.c_expressions.specs.declared.scope.Meaning.{Meaning}
use Rattle.c_expressions.specs.declared.scope.Meaning.TheVariants as meaning
use Rattle.c_expressions.specs.declared.scope.Name.{Name}
use Rattle.c_expressions.specs.declared.scope.Scope.{Scope}
use Rattle.c_expressions.specs.Means.{Names}

-- what a name with that meaning is
abbrev pub sort_of_meaning : Meaning → Sort
sort_of_meaning (meaning.Array a) = AnArray
sort_of_meaning (meaning.Scalar n inside) = AScalar inside
sort_of_meaning (meaning.Boxed a n) = ABoxed
sort_of_meaning (meaning.Loop n) = ALoop

abbrev pub is_array_meaning : Meaning → Bool
is_array_meaning (meaning.Array a) = true
is_array_meaning _ = false

abbrev pub seen_name : Name → List ℕ × Meaning
seen_name n = (n.text.now, n.meaning)

abbrev pub sorted_name : List ℕ × Meaning → List ℕ × Sort
sorted_name n = (n.0, sort_of_meaning n.1)

-- the names of a block, the newest first
abbrev pub names_in : GivenFrame → Names
names_in f = map seen_name (reverse f.names.items)

abbrev pub seen_frame : GivenFrame → Frame
seen_frame f = record { names = map sorted_name (names_in f); inside = f.inside; choice = f.choice }

-- the scalars that are boxed where they are declared outside of targets, with their arrays
abbrev pub Boxes : Type 0
Boxes = List (List ℕ × ArrayId)

-- the array of that name, if it is one of these
abbrev pub box_of : Boxes → List ℕ → Option ArrayId
box_of [] x = None
box_of (b ∷ bs) x = if bytes_eq b.0 x then Some b.1 else box_of bs x

abbrev pub as_boxes : List (List ℕ × ℕ) → Boxes
as_boxes bs = map (λ b. (b.0, record { 0 = b.1 })) bs

abbrev pub box_numbers : Scope → List (List ℕ × ℕ)
box_numbers s = map (λ b. (b.name.now, b.array.0)) s.boxes.items

abbrev pub boxes_of : Scope → Boxes
boxes_of s = as_boxes (box_numbers s)

-- the open blocks, the innermost first
abbrev pub frames_of : Scope → List Frame
frames_of s = map seen_frame (reverse s.frames.items)

-- the visible names, the innermost and newest first
abbrev pub names_of : Scope → Names
names_of s = flat_map names_in (reverse s.frames.items)

-- whether a name may be an operand, where a bracket follows and where none does
abbrev pub is_operand : Bool → Option Sort → Bool
is_operand true o = is_array o
is_operand false o = is_scalar o

-- the name that is being declared, if one is
abbrev pub fresh_name : Option (Bor (List ℕ)) → Option (List ℕ)
fresh_name None = None
fresh_name (Some x) = Some x.now

-- what stands before a token of an expression with so many open brackets and tokens before it
abbrev pub context_of : Scope → ℕ → ℕ → Context
context_of s depth tokens =
    record {
      frames = frames_of s;
      boxes = box_numbers s;
      fresh = fresh_name s.fresh;
      turn = None;
      target = s.target;
      choice = s.choice;
      limit = s.limit;
      cells = s.cells;
      arrays = s.arrays;
      scalars = s.scalars;
      statements = s.statements;
      depth = depth;
      tokens = tokens;
    }

-- behind the limit of a loop's head
abbrev pub limited : ℕ → Context → Context
limited n c = record (out c) { limit = n }
