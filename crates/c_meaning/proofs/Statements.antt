-- A program whose expressions pass the test does in C what it does in the language.
use Rattle.std.proofs.Common.{◌≡◌, ℕ, zero, suc, true, refl, ap, ap₂, ◌∙◌, List, [], ◌∷◌, ◌++◌, Option, Some, None}
use Rattle.std.specs.Prelude.{not, ◌&&◌, is_some, option_map, option_and_then}
use Rattle.std.specs.List.{list_all}
use Rattle.std.proofs.lemmas.Bool.{and_parts, cond-true, false≢true}
use mathlib.Core.Path.{fun_ext}
use Rattle.base.specs.declared.tree.CombineOp.{CombineOp}
use Rattle.base.specs.declared.tree.Expr.{Expr}
use Rattle.base.specs.declared.tree.Source.{Source}
use Rattle.base.specs.declared.tree.Source.TheVariants.{Value, Read}
use Rattle.base.specs.declared.tree.Bounds.{Bounds}
use Rattle.base.specs.declared.tree.Stmt.{Stmt, Row_of-Stmt, end_of-Stmt, more_of-Stmt}
use Rattle.base.specs.declared.tree.Stmt.TheVariants.{Declare, Assign, Store, Combine, Print, Block', Loop', If'}
use Rattle.base.specs.declared.tree.Region.{Region}
use Rattle.base.specs.declared.tree.Part.{Part, Row_of-Part, end_of-Part, more_of-Part}
use Rattle.base.specs.declared.tree.Part.TheVariants as part
use Rattle.base.specs.declared.item.Cell.{Cell}
use Rattle.base.specs.Memory.{View, Scalars, view_of, with_stores, zeros}
use Rattle.base.specs.Value.{Names, flag, value, on_both, combined}
use Rattle.base.specs.Meaning.{Run, Plain, names_in, seen, assigned, stored, printed, choose, all_turns, after_region, lengths_of, source_of, updated_by, run_stmt, run_row, run_list, run_region, erased_part, erased_row, erased_list}
use Rattle.c_meaning.specs.declared.shape.Shape.{Shape}
use Rattle.c_meaning.specs.declared.shape.CType.{CType}
use Rattle.c_meaning.specs.Types.{of_type, to_unsigned}
use Rattle.c_meaning.specs.Values.{c_value, c_number, subscript, is_false}
use Rattle.c_meaning.specs.Programs.{has_types, c_turns, c_source_of, c_updated_by, c_condition, c_stmt, c_row, c_list, c_region, c_part, c_parts, c_part_list}
use Rattle.c_meaning.specs.Same.{shape_of, same_in_c, same_source, same_stmt, same_stmts, same_region, same_part, same_parts, SameRuns, SameErased}
use Rattle.c_meaning.proofs.Expressions.{same_value, subscript_is, nonzero}

number_is : (t : CType) (o : Option ℕ) → option_map to_unsigned (option_map (of_type t) o) ≡ o
number_is t None = refl
number_is t (Some n) = refl

-- an expression that passes the test
record IsAlike (e : Expr) (names : Names) : Type 0 where
  type : CType
  same : c_value e names ≡ option_map (of_type type) (value e names)

alike : (e : Expr) (names : Names) → same_in_c e ≡ true → IsAlike e names
alike e names h = go (shape_of e) refl h
  where
    go : (x : Option Shape) → shape_of e ≡ x → is_some x ≡ true → IsAlike e names
    go None s h = absurd (false≢true h)
    go (Some s) e' h = record { type = s.ctype; same = same_value e s names e' }

same_number : (e : Expr) (names : Names) → same_in_c e ≡ true → c_number e names ≡ value e names
same_number e names h =
    let x = alike e names h in
    ap (option_map to_unsigned) x.same ∙ number_is x.type (value e names)

same_subscript : (e : Expr) (names : Names) → same_in_c e ≡ true →
    option_and_then subscript (c_value e names) ≡ value e names
same_subscript e names h =
    let x = alike e names h in subscript_is x.type (c_value e names) (value e names) x.same

-- a condition chooses by whether it is 0
choose_is : (t : CType) (o : Option ℕ) (f g : Run → Option Run) (s : Run) →
    choose (option_map (λ v. flag (not (is_false v))) (option_map (of_type t) o)) f g s ≡ choose o f g s
choose_is t None f g s = refl
choose_is t (Some zero) f g s = refl
choose_is t (Some (suc n)) f g s = ap (λ b. choose (Some (flag (not b))) f g s) (nonzero n)

same_choice : (e : Expr) (names : Names) (f g : Run → Option Run) (s : Run) → same_in_c e ≡ true →
    choose (c_condition e names) f g s ≡ choose (value e names) f g s
same_choice e names f g s h =
    let x = alike e names h in
    ap (λ o. choose (option_map (λ v. flag (not (is_false v))) o) f g s) x.same
    ∙ choose_is x.type (value e names) f g s

same_source_of : (v : Source) (view : View) (loops : List ℕ) (s : Run) → same_source v ≡ true →
    c_source_of v view loops s ≡ source_of v view loops s
same_source_of (Value e) view loops s h = ap (option_map (λ v. (v, s))) (same_number e (names_in view loops s) h)
same_source_of Read view loops s h = refl

same_updated_by : (op : CombineOp) (e : Expr) (c : Cell) (view : View) (loops : List ℕ) (s : Run) →
    same_in_c e ≡ true →
    c_updated_by op e c view loops s ≡ updated_by op e c view loops s
same_updated_by op e c view loops s h =
    ap (λ (o : Option ℕ). option_map (λ v. (v, s)) (on_both (combined op) (seen view s.stores c) o))
    (same_number e (names_in view loops s) h)

-- a loop with the same turns
same_turns : {S : Type 0} (b : Bounds) (f g : ℕ → S → Option S) (s : S) → has_types b ≡ true →
    ((v : ℕ) (s : S) → f v s ≡ g v s) →
    c_turns b f s ≡ all_turns b g s
same_turns b f g s t h =
    cond-true (has_types b) (all_turns b f s) None t
    ∙ ap (λ body. all_turns b body s) (fun_ext (λ v. fun_ext (λ s. h v s)))

mutual
  same_run : (st : Stmt) (view : View) (loops : List ℕ) (s : Run) → same_stmt st ≡ true →
      c_stmt st view loops s ≡ run_stmt st view loops s
  same_run (Declare x v) view loops s h = ap (assigned x.0) (same_source_of v view loops s h)
  same_run (Assign x v) view loops s h = ap (assigned x.0) (same_source_of v view loops s h)
  same_run (Store a place e v) view loops s h =
      let x = and_parts (same_in_c e) (same_source v) h in
      ap₂ (λ (o : Option ℕ) q. option_and_then (λ i. stored view (record { array = a; index = i }) q) o)
      (same_subscript e (names_in view loops s) x.0)
      (same_source_of v view loops s x.1)
  same_run (Combine op a place e v) view loops s h =
      let x = and_parts (same_in_c e) (same_in_c v) h in
      ap₂ (λ (f : ℕ → Option Run) (o : Option ℕ). option_and_then f o)
      (fun_ext (λ i. ap (stored view (record { array = a; index = i }))
      (same_updated_by op v (record { array = a; index = i }) view loops s x.1)))
      (same_subscript e (names_in view loops s) x.0)
  same_run (Print e) view loops s h = ap (option_map (printed s)) (same_number e (names_in view loops s) h)
  same_run (Block' shape all) view loops s h = same_row_run all view loops s h
  same_run (Loop' b shape all) view loops s h =
      let x = and_parts (has_types b) (same_stmts all) h in
      same_turns b (λ v. c_row all view (loops ++ v ∷ [])) (λ v. run_row all view (loops ++ v ∷ [])) s x.0
      (λ v s. same_row_run all view (loops ++ v ∷ []) s x.1)
  same_run (If' c shape all shape' all') view loops s h =
      let x = and_parts (same_in_c c) (same_stmts all && same_stmts all') h in
      let y = and_parts (same_stmts all) (same_stmts all') x.1 in
      same_choice c (names_in view loops s) (c_row all view loops) (c_row all' view loops) s x.0
      ∙ ap₂ (λ f g. choose (value c (names_in view loops s)) f g s)
      (fun_ext (λ s. same_row_run all view loops s y.0))
      (fun_ext (λ s. same_row_run all' view loops s y.1))

  same_row_run : {m : _} (row : Row_of-Stmt m) (view : View) (loops : List ℕ) (s : Run) → same_stmts row ≡ true →
      c_row row view loops s ≡ run_row row view loops s
  same_row_run end_of-Stmt view loops s h = refl
  same_row_run (more_of-Stmt first rest) view loops s h =
      let x = and_parts (same_stmt first) (same_stmts rest) h in
      ap₂ (λ f o. option_and_then f o)
      (fun_ext (λ s. same_row_run rest view loops s x.1))
      (same_run first view loops s x.0)

same_list_run : (all : List Stmt) (view : View) (loops : List ℕ) (s : Run) → list_all same_stmt all ≡ true →
    c_list all view loops s ≡ run_list all view loops s
same_list_run [] view loops s h = refl
same_list_run (first ∷ rest) view loops s h =
    let x = and_parts (same_stmt first) (list_all same_stmt rest) h in
    ap₂ (λ f o. option_and_then f o)
    (fun_ext (λ s. same_list_run rest view loops s x.1))
    (same_run first view loops s x.0)

same_region_run : (r : Region) (loops : List ℕ) (view : View) (scalars : Scalars) (input : List ℕ) →
    same_region r ≡ true →
    c_region r loops view scalars input ≡ run_region r loops view scalars input
same_region_run r loops view scalars input h =
    same_list_run r.body.items view loops (record { scalars = scalars; stores = []; input = input; printed = [] }) h

mutual
  same_part_run : (p : Part) (lengths loops : List ℕ) (s : Plain) → same_part p ≡ true →
      c_part p lengths loops s ≡ erased_part p lengths loops s
  same_part_run (part.Host r) lengths loops s h =
      ap (option_map (after_region s)) (same_region_run r loops (view_of lengths s.memory) s.scalars s.input h)
  same_part_run (part.Block' shape all) lengths loops s h = same_parts_run all lengths loops s h
  same_part_run (part.Loop' b shape all) lengths loops s h =
      let x = and_parts (has_types b) (same_parts all) h in
      same_turns b (λ v. c_parts all lengths (loops ++ v ∷ [])) (λ v. erased_row all lengths (loops ++ v ∷ [])) s x.0
      (λ v s. same_parts_run all lengths (loops ++ v ∷ []) s x.1)
  same_part_run (part.Target t r) lengths loops s h =
      ap (option_map (λ t. record s { memory = with_stores t.stores s.memory }))
      (same_region_run r loops (view_of lengths s.memory) s.scalars [] h)
  same_part_run (part.Data' d shape all) lengths loops s h = same_parts_run all lengths loops s h
  same_part_run (part.Alone place d) lengths loops s h = refl

  same_parts_run : {m : _} (row : Row_of-Part m) (lengths loops : List ℕ) (s : Plain) → same_parts row ≡ true →
      c_parts row lengths loops s ≡ erased_row row lengths loops s
  same_parts_run end_of-Part lengths loops s h = refl
  same_parts_run (more_of-Part first rest) lengths loops s h =
      let x = and_parts (same_part first) (same_parts rest) h in
      ap₂ (λ f o. option_and_then f o)
      (fun_ext (λ s. same_parts_run rest lengths loops s x.1))
      (same_part_run first lengths loops s x.0)

same_list : (all : List Part) (lengths : List ℕ) (s : Plain) → list_all same_part all ≡ true →
    c_part_list all lengths s ≡ erased_list all lengths s
same_list [] lengths s h = refl
same_list (first ∷ rest) lengths s h =
    let x = and_parts (same_part first) (list_all same_part rest) h in
    ap₂ (λ f o. option_and_then f o)
    (fun_ext (λ s. same_list rest lengths s x.1))
    (same_part_run first lengths [] s x.0)

pub same_runs : SameRuns
same_runs = record { statement = same_run; region = same_region_run }

pub same_erased : SameErased
same_erased p input h =
    same_list p.body.items (lengths_of p) (record { memory = zeros; scalars = λ x. 0; input = input; printed = [] }) h
