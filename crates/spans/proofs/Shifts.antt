-- What was stored and printed before statements may be put aside: they do the same on a memory that has it already.
use Rattle.std.proofs.Common.{◌≡◌, ℕ, zero, suc, ◌+◌, List, [], ◌∷◌, ◌++◌, Option, Some, None, refl, sym, ◌∙◌, ap, append_assoc}
use Rattle.std.specs.Prelude.{option_map, option_and_then, unwrap_or, if◌then◌else◌}
use mathlib.Core.Path.{fun_ext}
use Rattle.base.specs.declared.item.Cell.{Cell}
use Rattle.base.specs.declared.tree.CombineOp.{CombineOp}
use Rattle.base.specs.declared.tree.Expr.{Expr}
use Rattle.base.specs.declared.tree.Source.{Source}
use Rattle.base.specs.declared.tree.Source.TheVariants.{Value, Read}
use Rattle.base.specs.declared.tree.Stmt.{Stmt, Row_of-Stmt, end_of-Stmt, more_of-Stmt}
use Rattle.base.specs.declared.tree.Stmt.TheVariants.{Declare, Assign, Store, Combine, Print, Block', Loop', If'}
use Rattle.base.specs.Memory.{View, Stores, last_stored, same_cell}
use Rattle.base.specs.Value.{value, on_both, combined}
use Rattle.base.specs.Meaning.{Run, seen, names_in, read_next, source_of, updated_by, set_scalar, assigned, stored, printed, choose, turn, turns_of, run_stmt, run_row}

-- what is stored last in one list of stores and then another
last_of_two : Option ℕ → Option ℕ → Option ℕ
last_of_two later before = elim later [ None ↦ before | Some v ↦ Some v ]

pub last_append : (xs ys : Stores) (c : Cell) →
    last_stored (xs ++ ys) c ≡ elim (last_stored ys c) [ None ↦ last_stored xs c | Some v ↦ Some v ]
last_append [] ys c = go (last_stored ys c)
  where
    go : (o : Option ℕ) → o ≡ elim o [ None ↦ None | Some v ↦ Some v ]
    go None = refl
    go (Some v) = refl
last_append (x ∷ xs) ys c =
    ap (λ (o : Option ℕ). elim o [ Some v ↦ Some v | None ↦ if same_cell x.0 c then Some x.1 else None ])
    (last_append xs ys c) ∙ go (last_stored ys c)
  where
    go : (o : Option ℕ) →
        elim (elim o as (λ z. Option ℕ) [ None ↦ last_stored xs c | Some v ↦ Some v ]) as (λ z. Option ℕ)
        [ Some v ↦ Some v | None ↦ if same_cell x.0 c then Some x.1 else None ]
        ≡ elim o as (λ z. Option ℕ) [ None ↦ last_stored (x ∷ xs) c | Some v ↦ Some v ]
    go None = refl
    go (Some v) = refl

-- what is seen after both
pub seen_twice : (view : View) (xs ys : Stores) → seen view (xs ++ ys) ≡ seen (seen view xs) ys
seen_twice view xs ys = fun_ext (λ (c : Cell). ap (λ l. option_map (λ old. unwrap_or l old) (view c)) (last_append xs ys c)
    ∙ go (view c) (last_stored xs c) (last_stored ys c))
  where
    go : (o l k : Option ℕ) →
        option_map (λ old. unwrap_or (elim k as (λ z. Option ℕ) [ None ↦ l | Some v ↦ Some v ]) old) o
        ≡ option_map (λ old. unwrap_or k old) (option_map (λ old. unwrap_or l old) o)
    go None l k = refl
    go (Some old) l None = refl
    go (Some old) l (Some v) = refl

-- behind these stores and these numbers
abbrev pub behind : Stores → List ℕ → Run → Run
behind stores before s = record s { stores = stores ++ s.stores; printed = before ++ s.printed }

module _ (view : View) (xs : Stores) (ps : List ℕ) where
  abbrev Behind : Run → Run
  Behind s = behind xs ps s

  abbrev AlsoBehind : ℕ × Run → ℕ × Run
  AlsoBehind r = (r.0, Behind r.1)

  -- it does the same there as here
  abbrev pub IsShifted : (Run → Option Run) → (Run → Option Run) → Type 0
  IsShifted f g = (s : Run) → f (Behind s) ≡ option_map Behind (g s)

  value_shifted : (e : Expr) (loops : List ℕ) (s : Run) →
      value e (names_in view loops (Behind s)) ≡ value e (names_in (seen view xs) loops s)
  value_shifted e loops s =
      ap (λ (v : View). value e (record { scalars = s.scalars; loops = loops; cells = v })) (seen_twice view xs s.stores)

  paired : (s : Run) (o : Option ℕ) →
      option_map (λ v. (v, Behind s)) o ≡ option_map AlsoBehind (option_map (λ v. (v, s)) o)
  paired s None = refl
  paired s (Some v) = refl

  read_shifted : (s : Run) (i : List ℕ) →
      elim i as (λ z. ℕ × Run) [ [] ↦ (0, Behind s) | x ∷ rest ↦ (x, record (Behind s) { input = rest }) ]
      ≡ AlsoBehind (elim i as (λ z. ℕ × Run) [ [] ↦ (0, s) | x ∷ rest ↦ (x, record s { input = rest }) ])
  read_shifted s [] = refl
  read_shifted s (x ∷ rest) = refl

  source_shifted : (v : Source) (loops : List ℕ) (s : Run) →
      source_of v view loops (Behind s) ≡ option_map AlsoBehind (source_of v (seen view xs) loops s)
  source_shifted (Value e) loops s =
      ap (option_map (λ v. (v, Behind s))) (value_shifted e loops s)
      ∙ paired s (value e (names_in (seen view xs) loops s))
  source_shifted Read loops s = ap Some (read_shifted s s.input)

  updated_shifted : (op : CombineOp) (e : Expr) (c : Cell) (loops : List ℕ) (s : Run) →
      updated_by op e c view loops (Behind s) ≡ option_map AlsoBehind (updated_by op e c (seen view xs) loops s)
  updated_shifted op e c loops s =
      ap (λ (v : View). option_map (λ v. (v, Behind s))
      (on_both (combined op) (v c) (value e (record { scalars = s.scalars; loops = loops; cells = v }))))
      (seen_twice view xs s.stores)
      ∙ paired s (on_both (combined op) (seen (seen view xs) s.stores c) (value e (names_in (seen view xs) loops s)))

  assigned_shifted : (x : ℕ) (o : Option (ℕ × Run)) →
      assigned x (option_map AlsoBehind o) ≡ option_map Behind (assigned x o)
  assigned_shifted x None = refl
  assigned_shifted x (Some r) = refl

  stored_shifted : (c : Cell) (o : Option (ℕ × Run)) →
      stored view c (option_map AlsoBehind o) ≡ option_map Behind (stored (seen view xs) c o)
  stored_shifted c None = refl
  stored_shifted c (Some r) = go (view c)
    where
      go : (o : Option ℕ) →
          option_map (λ old. record (Behind r.1) { stores = (xs ++ r.1.stores) ++ (c, r.0) ∷ [] }) o
          ≡ option_map Behind (option_map (λ old. record (r.1) { stores = r.1.stores ++ (c, r.0) ∷ [] })
          (option_map (λ old. unwrap_or (last_stored xs c) old) o))
      go None = refl
      go (Some old) =
          ap (λ (st : Stores). Some (record (Behind r.1) { stores = st })) (append_assoc xs r.1.stores ((c, r.0) ∷ []))

  store_shifted : (c : ℕ → Cell) (given given' : Cell → Option (ℕ × Run)) (o o' : Option ℕ) → o ≡ o' →
      ((d : Cell) → given d ≡ option_map AlsoBehind (given' d)) →
      option_and_then (λ i. stored view (c i) (given (c i))) o
      ≡ option_map Behind (option_and_then (λ i. stored (seen view xs) (c i) (given' (c i))) o')
  store_shifted c given given' o o' e h = ap (option_and_then (λ i. stored view (c i) (given (c i)))) e ∙ go o'
    where
      go : (o : Option ℕ) →
          option_and_then (λ i. stored view (c i) (given (c i))) o
          ≡ option_map Behind (option_and_then (λ i. stored (seen view xs) (c i) (given' (c i))) o)
      go None = refl
      go (Some i) = ap (stored view (c i)) (h (c i)) ∙ stored_shifted (c i) (given' (c i))

  print_shifted : (s : Run) (o : Option ℕ) →
      option_map (printed (Behind s)) o ≡ option_map Behind (option_map (printed s) o)
  print_shifted s None = refl
  print_shifted s (Some v) =
      ap (λ (ns : List ℕ). Some (record (Behind s) { printed = ns })) (append_assoc ps s.printed (v ∷ []))

  choice_shifted : (o o' : Option ℕ) (f g f' g' : Run → Option Run) (s : Run) → o ≡ o' → IsShifted f f' →
      IsShifted g g' → choose o f g (Behind s) ≡ option_map Behind (choose o' f' g' s)
  choice_shifted o o' f g f' g' s e h k = ap (λ o. choose o f g (Behind s)) e ∙ go o'
    where
      go : (o : Option ℕ) → choose o f g (Behind s) ≡ option_map Behind (choose o f' g' s)
      go None = refl
      go (Some zero) = k s
      go (Some (suc n)) = h s

  then_shifted : (f f' : Run → Option Run) (o o' : Option Run) → IsShifted f f' → o ≡ option_map Behind o' →
      option_and_then f o ≡ option_map Behind (option_and_then f' o')
  then_shifted f f' o o' h e = ap (option_and_then f) e ∙ go o'
    where
      go : (o : Option Run) → option_and_then f (option_map Behind o) ≡ option_map Behind (option_and_then f' o)
      go None = refl
      go (Some s) = h s

  turns_shifted : (f f' : ℕ → Run → Option Run) → ((v : ℕ) → IsShifted (f v) (f' v)) → (n v step : ℕ) →
      IsShifted (turn n v step f) (turn n v step f')
  turns_shifted f f' h zero v step s = refl
  turns_shifted f f' h (suc n) v step s =
      ap (λ (o : Option Run). elim o [ None ↦ None | Some t ↦ turn n (v + step) step f t ]) (h v s)
      ∙ go (f' v s) (λ t. turns_shifted f f' h n (v + step) step t)
    where
      go : (o : Option Run) → IsShifted (turn n (v + step) step f) (turn n (v + step) step f') →
          elim (option_map Behind o) as (λ z. Option Run) [ None ↦ None | Some t ↦ turn n (v + step) step f t ]
          ≡ option_map Behind (elim o as (λ z. Option Run) [ None ↦ None | Some t ↦ turn n (v + step) step f' t ])
      go None again = refl
      go (Some t) again = again t

  mutual
    pub stmt_shifted : (st : Stmt) (loops : List ℕ) →
        IsShifted (run_stmt st view loops) (run_stmt st (seen view xs) loops)
    stmt_shifted (Declare x v) loops s =
        ap (assigned x.0) (source_shifted v loops s) ∙ assigned_shifted x.0 (source_of v (seen view xs) loops s)
    stmt_shifted (Assign x v) loops s =
        ap (assigned x.0) (source_shifted v loops s) ∙ assigned_shifted x.0 (source_of v (seen view xs) loops s)
    stmt_shifted (Store a place e v) loops s =
        store_shifted (λ i. record { array = a; index = i }) (λ d. source_of v view loops (Behind s))
        (λ d. source_of v (seen view xs) loops s) (value e (names_in view loops (Behind s)))
        (value e (names_in (seen view xs) loops s)) (value_shifted e loops s) (λ d. source_shifted v loops s)
    stmt_shifted (Combine op a place e v) loops s =
        store_shifted (λ i. record { array = a; index = i }) (λ d. updated_by op v d view loops (Behind s))
        (λ d. updated_by op v d (seen view xs) loops s) (value e (names_in view loops (Behind s)))
        (value e (names_in (seen view xs) loops s)) (value_shifted e loops s) (λ d. updated_shifted op v d loops s)
    stmt_shifted (Print e) loops s =
        ap (option_map (printed (Behind s))) (value_shifted e loops s)
        ∙ print_shifted s (value e (names_in (seen view xs) loops s))
    stmt_shifted (Block' shape all) loops s = row_shifted all loops s
    stmt_shifted (Loop' b shape all) loops s =
        turns_shifted (λ v. run_row all view (loops ++ v ∷ [])) (λ v. run_row all (seen view xs) (loops ++ v ∷ []))
        (λ v. row_shifted all (loops ++ v ∷ [])) (turns_of b) b.first b.step s
    stmt_shifted (If' c shape all shape' all') loops s =
        choice_shifted (value c (names_in view loops (Behind s))) (value c (names_in (seen view xs) loops s))
        (run_row all view loops) (run_row all' view loops) (run_row all (seen view xs) loops)
        (run_row all' (seen view xs) loops) s (value_shifted c loops s) (row_shifted all loops) (row_shifted all' loops)

    row_shifted : {m : _} (row : Row_of-Stmt m) (loops : List ℕ) →
        IsShifted (run_row row view loops) (run_row row (seen view xs) loops)
    row_shifted end_of-Stmt loops s = refl
    row_shifted (more_of-Stmt first rest) loops s =
        then_shifted (run_row rest view loops) (run_row rest (seen view xs) loops) (run_stmt first view loops (Behind s))
        (run_stmt first (seen view xs) loops s) (row_shifted rest loops) (stmt_shifted first loops s)
