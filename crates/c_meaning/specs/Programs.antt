-- What statements do in C, and a whole program without its directives.
use Rattle.std.specs.Prelude.{ℕ, Bool, not, ◌&&◌, List, [], ◌∷◌, ◌++◌, Option, Some, None, option_and_then, option_map, if◌then◌else◌}
use Rattle.base.specs.declared.tree.CombineOp.{CombineOp}
use Rattle.base.specs.declared.tree.Expr.{Expr}
use Rattle.base.specs.declared.tree.Source.{Source}
use Rattle.base.specs.declared.tree.Source.TheVariants.{Value, Read}
use Rattle.base.specs.declared.tree.Bounds.{Bounds}
use Rattle.base.specs.declared.tree.Stmt.{Stmt, Row_of-Stmt, end_of-Stmt, more_of-Stmt}
use Rattle.base.specs.declared.tree.Stmt.TheVariants.{Declare, Assign, Store, Combine, Print, Block', Loop', If'}
use Rattle.base.specs.declared.tree.Region.{Region}
use Rattle.base.specs.declared.tree.Part.{Part, Row_of-Part, end_of-Part, more_of-Part}
use Rattle.base.specs.declared.tree.Part.TheVariants as part
use Rattle.base.specs.declared.tree.Program.{Program}
use Rattle.base.specs.declared.item.Cell.{Cell}
use Rattle.base.specs.Memory.{View, Scalars, view_of, with_stores, zeros}
use Rattle.base.specs.Value.{Names, flag, on_both, combined}
use Rattle.base.specs.Meaning.{Run, Plain, names_in, seen, read_next, assigned, stored, printed, choose, all_turns, after_region, lengths_of}
use Rattle.c_meaning.specs.Types.{has_literal_type}
use Rattle.c_meaning.specs.Values.{c_value, c_number, subscript, is_false}

-- the literals of a loop's head have types
abbrev pub has_types : Bounds → Bool
has_types b = has_literal_type b.first && (has_literal_type b.end && has_literal_type b.step)

-- a loop's name is a `uint64_t`, to which the literals of its head are converted
abbrev pub c_turns : {S : Type 0} → Bounds → (ℕ → S → Option S) → S → Option S
c_turns b body s = if has_types b then all_turns b body s else None

abbrev pub c_source_of : Source → View → List ℕ → Run → Option (ℕ × Run)
c_source_of (Value e) view loops s = option_map (λ v. (v, s)) (c_number e (names_in view loops s))
c_source_of Read view loops s = Some (read_next s)

-- what a commuting update stores. The cell is a `uint64_t`, to which the other operand is converted
abbrev pub c_updated_by : CombineOp → Expr → Cell → View → List ℕ → Run → Option (ℕ × Run)
c_updated_by op e c view loops s =
    option_map (λ v. (v, s)) (on_both (combined op) (seen view s.stores c) (c_number e (names_in view loops s)))

-- 1 where the condition holds, and else 0
abbrev pub c_condition : Expr → Names → Option ℕ
c_condition e names = option_map (λ v. flag (not (is_false v))) (c_value e names)

abbrev mutual
  -- what a statement does in C, or none where C leaves it undefined
  pub c_stmt : Stmt → View → List ℕ → Run → Option Run
  c_stmt (Declare x v) view loops s = assigned x.0 (c_source_of v view loops s)
  c_stmt (Assign x v) view loops s = assigned x.0 (c_source_of v view loops s)
  c_stmt (Store a place e v) view loops s =
      option_and_then (λ i. stored view (record { array = a; index = i }) (c_source_of v view loops s))
      (option_and_then subscript (c_value e (names_in view loops s)))
  c_stmt (Combine op a place e v) view loops s =
      option_and_then
      (λ i. let c : Cell = record { array = a; index = i } in stored view c (c_updated_by op v c view loops s))
      (option_and_then subscript (c_value e (names_in view loops s)))
  c_stmt (Print e) view loops s = option_map (printed s) (c_number e (names_in view loops s))
  c_stmt (Block' shape all) view loops s = c_row all view loops s
  c_stmt (Loop' b shape all) view loops s = c_turns b (λ v. c_row all view (loops ++ v ∷ [])) s
  c_stmt (If' c shape all shape' all') view loops s =
      choose (c_condition c (names_in view loops s)) (c_row all view loops) (c_row all' view loops) s

  pub c_row : {m : _} → Row_of-Stmt m → View → List ℕ → Run → Option Run
  c_row end_of-Stmt view loops s = Some s
  c_row (more_of-Stmt first rest) view loops s = option_and_then (c_row rest view loops) (c_stmt first view loops s)

abbrev pub c_list : List Stmt → View → List ℕ → Run → Option Run
c_list [] view loops s = Some s
c_list (first ∷ rest) view loops s = option_and_then (c_list rest view loops) (c_stmt first view loops s)

abbrev pub c_region : Region → List ℕ → View → Scalars → List ℕ → Option Run
c_region r loops view scalars input =
    c_list r.body.items view loops (record { scalars = scalars; stores = []; input = input; printed = [] })

abbrev pub c_plain : List ℕ → Region → List ℕ → Plain → Option Plain
c_plain lengths r loops s =
    option_map (after_region s) (c_region r loops (view_of lengths s.memory) s.scalars s.input)

-- the block or loop of a `target` assigns arrays and locals of its own alone
abbrev pub c_kernel : List ℕ → Region → List ℕ → Plain → Option Plain
c_kernel lengths r loops s =
    option_map (λ t. record s { memory = with_stores t.stores s.memory })
    (c_region r loops (view_of lengths s.memory) s.scalars [])

abbrev mutual
  -- what a part does in C without its directives
  pub c_part : Part → List ℕ → List ℕ → Plain → Option Plain
  c_part (part.Host r) lengths loops s = c_plain lengths r loops s
  c_part (part.Block' shape all) lengths loops s = c_parts all lengths loops s
  c_part (part.Loop' b shape all) lengths loops s = c_turns b (λ v. c_parts all lengths (loops ++ v ∷ [])) s
  c_part (part.Target t r) lengths loops s = c_kernel lengths r loops s
  c_part (part.Data' d shape all) lengths loops s = c_parts all lengths loops s
  c_part (part.Alone place d) lengths loops s = Some s

  pub c_parts : {m : _} → Row_of-Part m → List ℕ → List ℕ → Plain → Option Plain
  c_parts end_of-Part lengths loops s = Some s
  c_parts (more_of-Part first rest) lengths loops s =
      option_and_then (c_parts rest lengths loops) (c_part first lengths loops s)

abbrev pub c_part_list : List Part → List ℕ → Plain → Option Plain
c_part_list [] lengths s = Some s
c_part_list (first ∷ rest) lengths s = option_and_then (c_part_list rest lengths) (c_part first lengths [] s)

-- a program in C without its directives, on a memory of zeros
abbrev pub c_erased : Program → List ℕ → Option Plain
c_erased p input =
    c_part_list p.body.items (lengths_of p)
    (record { memory = zeros; scalars = λ x. 0; input = input; printed = [] })
