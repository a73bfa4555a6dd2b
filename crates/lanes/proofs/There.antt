-- Where the turns of a block run alone, the block has what it needs.
use Rattle.std.proofs.Common.{◌≡◌, ℕ, Bool, true, false, List, [], ◌∷◌, ◌++◌, Option, Some, None, refl, sym, ap, ◌∙◌, subst}
use Rattle.std.specs.Prelude.{◌&&◌, option_and_then, option_map, unwrap_or, IsSome}
use Rattle.std.proofs.lemmas.Bool.{and_parts}
use mathlib.Core.Former.{Count}
use Rattle.base.specs.declared.item.Cell.{Cell}
use Rattle.base.specs.declared.tree.ArrayId.{ArrayId}
use Rattle.base.specs.declared.tree.Expr.{Expr}
use Rattle.base.specs.declared.tree.Source.TheVariants.{Value, Read}
use Rattle.base.specs.declared.tree.Stmt.{Stmt, Row_of-Stmt}
use Rattle.base.specs.declared.tree.Stmt.TheVariants.{Declare, Assign, Store, Combine, Print, Block', Loop', If'}
use Rattle.base.specs.Memory.{View, last_stored}
use Rattle.base.specs.Value.{value}
use Rattle.base.specs.Meaning.{Run, names_in, seen, stored, choose, run_stmt, run_row, run_list}
use Rattle.lanes.specs.Apart.{Set, Places, NamesPlaces, HavePlaces, is_apart, stmt_apart, row_apart, loose_after, body_apart, Block, names_at, where_true, where_false, block_stmt, block_row, block_start, RunAlone}
use Rattle.lanes.specs.There.{HasValues, StmtThere, RowThere, BodyThere}
use Rattle.lanes.proofs.Branches.{items, AllOf, OfBranches, of_body, run_items, apart_items, there_items}
use Rattle.lanes.proofs.Choices.{has_condition}
use Rattle.lanes.proofs.Assignments.{lane_value, assigned_by, Pushed, pushed_by, Stands, stmt_stands, row_stands, after_first, first_alone, rest_alone, amid, first_done, second_done, true_places, false_places}

is_there : (o : Option ℕ) (n : ℕ) → o ≡ Some n → IsSome o
is_there None n e = absurd cc
is_there (Some m) n e = refl

module _ (taken own : Set) (view : View) (here : Expr → Bool) (pl : Places) (loops : List ℕ) (s : Run)
    (named : NamesPlaces here pl own s.scalars loops) where
  abbrev Standing : Block → (ℕ → Run) → Type 0
  Standing b lane = Stands taken own view here pl loops s named b lane

  module _ (inside : ℕ → Bool) (places : HavePlaces inside pl) (loose : Set) (b : Block) (lane next : ℕ → Run)
      (h : Standing b lane) where
    assigned_there : (x : ℕ) (e : Expr) → is_apart taken loose here e ≡ true →
        ((v : ℕ) → inside v ≡ true → run_stmt (Assign (record { 0 = x }) (Value e)) view (loops ++ v ∷ []) (lane v) ≡ Some (next v)) →
        HasValues inside loops e b
    assigned_there x e ok does v i =
        let p = assigned_by taken own view here pl loops s named x
        (value e (names_in view (loops ++ v ∷ []) (lane v))) (lane v) (next v) (does v i) in
        is_there (value e (names_at b loops v)) p.n
        (lane_value taken own view here pl loops s named inside places loose b lane h.is h.keeps v i
        (h.kept v) e ok ∙ p.is)

    stored_there : (a : ArrayId) (f : Expr) → is_apart taken loose here f ≡ true →
        ((v : ℕ) → inside v ≡ true →
        Pushed taken own view here pl loops s named (record { array = a; index = pl.place v })
        (value f (names_in view (loops ++ v ∷ []) (lane v))) (lane v) (next v)) →
        HasValues inside loops f b × ((v : ℕ) → inside v ≡ true → IsSome (b.cells (record { array = a; index = pl.place v })))
    stored_there a f ok does = (
      λ v i. is_there (value f (names_at b loops v)) (does v i).n
          (lane_value taken own view here pl loops s named inside places loose b lane h.is h.keeps v i
          (h.kept v) f ok ∙ (does v i).is),
      λ v i.
          let c : Cell = record { array = a; index = pl.place v } in
          is_there (b.cells c) _ (h.is.cells c
          ∙ ap (λ w. seen view (lane w).stores c) (places.back v i)
          ∙ ap (option_map (λ old. unwrap_or (last_stored (lane v).stores c) old)) (does v i).there),
    )

    condition_there : (c : Expr) (f g : ℕ → Run → Option Run) → is_apart taken loose here c ≡ true →
        ((v : ℕ) → inside v ≡ true →
        choose (value c (names_in view (loops ++ v ∷ []) (lane v))) (f v) (g v) (lane v) ≡ Some (next v)) →
        HasValues inside loops c b
    condition_there c f g ok does v i =
        subst (λ o. IsSome o)
        (sym (lane_value taken own view here pl loops s named inside places loose b lane h.is h.keeps v i
        (h.kept v) c ok))
        (has_condition (value c (names_in view (loops ++ v ∷ []) (lane v))) (f v) (g v) (lane v) (next v) (does v i))

  -- a statement that turns do has what it needs
  abbrev IsThere : Stmt → Type 0
  IsThere first =
      (inside : ℕ → Bool) (places : HavePlaces inside pl) (loose : Set) (b : Block) (lane next : ℕ → Run) →
      Standing b lane → stmt_apart taken own loose here first ≡ true →
      RunAlone inside (λ v. run_stmt first view (loops ++ v ∷ [])) lane next →
      StmtThere pl inside loops first b

  all_there : (body : List Stmt) → AllOf IsThere body → (inside : ℕ → Bool) (places : HavePlaces inside pl)
      (loose : Set) (b : Block) (lane end : ℕ → Run) → Standing b lane →
      body_apart taken own loose here body ≡ true →
      RunAlone inside (λ v. run_list body view (loops ++ v ∷ [])) lane end →
      BodyThere pl inside loops body b
  all_there [] each inside places loose b lane end h ok alone = tt
  all_there (first ∷ rest) each inside places loose b lane end h ok alone =
      let l = and_parts (stmt_apart taken own loose here first)
      (body_apart taken own (loose_after loose first) here rest) ok in
      let next = after_first taken own view here pl loops s named inside first rest lane end alone in
      let one = first_alone taken own view here pl loops s named inside first rest lane end alone in (
        each.0 inside places loose b lane next h l.0 one,
        all_there rest each.1 inside places (loose_after loose first) (block_stmt pl inside loops first b) next end
            (stmt_stands taken own view here pl loops s named first inside places loose b lane next h l.0 one) l.1
            (rest_alone taken own view here pl loops s named inside first rest lane end alone),
      )

  row_there : (n : Count) (row : Row_of-Stmt n) → AllOf IsThere (items row) →
      (inside : ℕ → Bool) (places : HavePlaces inside pl)
      (loose : Set) (b : Block) (lane end : ℕ → Run) → Standing b lane →
      row_apart taken own loose here row ≡ true →
      RunAlone inside (λ v. run_row row view (loops ++ v ∷ [])) lane end →
      RowThere pl inside loops row b
  row_there n row each inside places loose b lane end h ok alone =
      there_items n row pl inside loops b
      (all_there (items row) each inside places loose b lane end h (sym (apart_items n row taken own loose here) ∙ ok)
      (record {
        there = λ v i. sym (run_items n row view (loops ++ v ∷ []) (lane v)) ∙ alone.there v i;
        elsewhere = λ v i. alone.elsewhere v i;
      }))

  module _ (c : Expr) {m n : Count} (all : Row_of-Stmt m) (all' : Row_of-Stmt n) (inside : ℕ → Bool)
      (places : HavePlaces inside pl) (loose : Set) (b : Block) (lane next : ℕ → Run) (h : Standing b lane)
      (ok : is_apart taken loose here c ≡ true)
      (there : (v : ℕ) → inside v ≡ true →
      choose (value c (names_in view (loops ++ v ∷ []) (lane v))) (run_row all view (loops ++ v ∷ []))
      (run_row all' view (loops ++ v ∷ [])) (lane v) ≡ Some (next v))
      (elsewhere : (v : ℕ) → inside v ≡ false → next v ≡ lane v) where
    choice_there : AllOf IsThere (items all) → AllOf IsThere (items all') →
        row_apart taken own loose here all ≡ true →
        row_apart taken own loose here all' ≡ true →
        HasValues inside loops c b
        × RowThere pl (where_true inside c b loops) loops all b
        × RowThere pl (where_false inside c b loops) loops all'
        (block_row pl (where_true inside c b loops) loops all b)
    choice_there each other p q =
        let mid = amid taken own view here pl loops s named c all all' inside places loose b lane next h ok
        there elsewhere in
        let one = first_done taken own view here pl loops s named c all all' inside places loose b lane next h ok
        there elsewhere in
        let two = second_done taken own view here pl loops s named c all all' inside places loose b lane next h ok
        there elsewhere in
        let some = true_places taken own view here pl loops s named c all all' inside places loose b lane next h ok
        there elsewhere in
        let rest = false_places taken own view here pl loops s named c all all' inside places loose b lane next h ok
        there elsewhere in (
          condition_there inside places loose b lane next h c (λ v. run_row all view (loops ++ v ∷ []))
              (λ v. run_row all' view (loops ++ v ∷ [])) ok there,
          row_there _ all each (where_true inside c b loops) some loose b lane mid h p one,
          row_there _ all' other (where_false inside c b loops) rest loose
              (block_row pl (where_true inside c b loops) loops all b) mid next
              (row_stands taken own view here pl loops s named _ all
              (where_true inside c b loops) some loose b lane mid h p one) q two,
        )

  one_there : (first : Stmt) → OfBranches IsThere first → IsThere first
  one_there (Declare x (Value e)) each inside places loose b lane next h ok alone =
      assigned_there inside places loose b lane next h x.0 e
      (and_parts (own x.0) (is_apart taken loose here e) ok).1 alone.there
  one_there (Declare x Read) each inside places loose b lane next h ok alone = tt
  one_there (Assign x (Value e)) each inside places loose b lane next h ok alone =
      assigned_there inside places loose b lane next h x.0 e
      (and_parts (own x.0) (is_apart taken loose here e) ok).1 alone.there
  one_there (Assign x Read) each inside places loose b lane next h ok alone = tt
  one_there (Store a place e (Value f)) each inside places loose b lane next h ok alone =
      let l = and_parts (taken a.0) (here e && is_apart taken loose here f) ok in
      let q = and_parts (here e) (is_apart taken loose here f) l.1 in
      stored_there inside places loose b lane next h a f q.1
      (λ v i. pushed_by taken own view here pl loops s named (record { array = a; index = pl.place v })
      (value f (names_in view (loops ++ v ∷ []) (lane v))) (lane v) (next v)
      (sym (ap (option_and_then (λ j. stored view (record { array = a; index = j })
      (option_map (λ n. (n, lane v)) (value f (names_in view (loops ++ v ∷ []) (lane v))))))
      (named v e (names_in view (loops ++ v ∷ []) (lane v)) refl (h.kept v) q.0)) ∙ alone.there v i))
  one_there (Store a place e Read) each inside places loose b lane next h ok alone = tt
  one_there (Combine op c place e v) each inside places loose b lane next h ok alone = tt
  one_there (Print e) each inside places loose b lane next h ok alone = tt
  one_there (Block' shape all) each inside places loose b lane next h ok alone = tt
  one_there (Loop' c shape all) each inside places loose b lane next h ok alone = tt
  one_there (If' c shape all shape' all') each inside places loose b lane next h ok alone =
      let k = and_parts (is_apart taken loose here c)
      (row_apart taken own loose here all && row_apart taken own loose here all') ok in
      let l = and_parts (row_apart taken own loose here all) (row_apart taken own loose here all') k.1 in
      choice_there c all all' inside places loose b lane next h k.0 alone.there alone.elsewhere each.0 each.1 l.0 l.1

pub block_there : (body : List Stmt) (view : View) (here : Expr → Bool) (pl : Places) (loops : List ℕ) (stored own : Set)
    (inside : ℕ → Bool) (s : Run) (end : ℕ → Run) → NamesPlaces here pl own s.scalars loops → HavePlaces inside pl →
    body_apart stored own own here body ≡ true →
    RunAlone inside (λ v. run_list body view (loops ++ v ∷ [])) (λ v. s) end →
    BodyThere pl inside loops body (block_start view s)
block_there body view here pl loops stored own inside s end named places ok alone =
    all_there stored own view here pl loops s named body
    (of_body (IsThere stored own view here pl loops s named) (one_there stored own view here pl loops s named) body)
    inside places own (block_start view s) (λ v. s) end
    (record {
      is = record { scalars = λ v x. refl; cells = λ c. refl; stored = λ c. refl };
      keeps = λ v c o. refl;
      kept = λ v x o. refl;
    }) ok alone
