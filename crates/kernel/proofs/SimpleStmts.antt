-- A store by the values of its expressions.
use Rattle.std.proofs.Common.{◌≡◌, ℕ, List, [], ◌∷◌, ◌++◌, Option, Some, None, refl, sym, ap, ◌∙◌, subst}
use Rattle.std.specs.Prelude.{option_and_then, option_map, unwrap_or, slice_index, IsSome}
use Rattle.base.specs.declared.item.Cell.{Cell}
use Rattle.base.specs.declared.tree.ArrayId.{ArrayId}
use Rattle.base.specs.declared.tree.Expr.{Expr}
use Rattle.base.specs.declared.tree.Source.{Source}
use Rattle.base.specs.Memory.{View, last_stored}
use Rattle.base.specs.Meaning.{Run, source_of, stored}
use Rattle.base.specs.Value.{Names, value}
use Rattle.kernel.specs.Machine.{cell_of, names_of, with_cell}
use Rattle.kernel.specs.Rows.{cells_kept, parts_stored}
use Rattle.kernel.specs.States.{at_rest}
use Rattle.kernel.specs.Walks.{At, CanDo, HasDone, HasGiven, store_meaning}
use Rattle.kernel.specs.declared.state.Machine.{Machine}
use Rattle.kernel.proofs.SeenStores.{seen_more, stored_more}
use Rattle.kernel.proofs.Stepping.{there, is_there}
use Rattle.kernel.proofs.WalkedChoices.{names_are}

-- a run with one more store
abbrev with_store : Cell → ℕ → Run → Run
with_store c v s = record s { stores = s.stores ++ (c, v) ∷ [] }

-- a store that comes to a run
record Stored (view : View) (c : Cell) (o : Option (ℕ × Run)) (t : Run) : Type 0 where
  given : ℕ × Run
  is : o ≡ Some given
  old : ℕ
  there : view c ≡ Some old
  leads : with_store c given.0 given.1 ≡ t

stored_of : (view : View) (c : Cell) (o : Option (ℕ × Run)) (t : Run) → stored view c o ≡ Some t → Stored view c o t
stored_of view c None t e = absurd cc
stored_of view c (Some q) t e = go (view c) refl e
  where
    go : (o : Option ℕ) → view c ≡ o → option_map (λ old. with_store c q.0 q.1) o ≡ Some t → Stored view c (Some q) t
    go None f h = absurd cc
    go (Some old) f h = record { given = q; is = refl; old = old; there = f; leads = cc }

module _ (a : ArrayId) (e : Expr) (v : Source) (i n : ℕ) (m m' : Machine) (is : value e (names_of (at_rest m)) ≡ Some i)
    (given : HasGiven v n m m') where
  stored_at : (view : View) (s t : Run) → At view s m → store_meaning a e v view m.loops.items s ≡ Some t →
      Stored view (cell_of a i) (source_of v view m.loops.items s) t
  stored_at view s t at f =
      let o = source_of v view m.loops.items s in
      stored_of view (cell_of a i) o t
      (ap (λ p. option_and_then (λ j. stored view (cell_of a j) o) p)
      (sym (ap (λ (names : Names). value e names) (names_are m view s at) ∙ is)) ∙ f)

  -- the cell is there
  pub store_can : CanDo (store_meaning a e v) m → IsSome (cells_kept m'.rows.items (cell_of a i))
  store_can h =
      let t = there (store_meaning a e v h.0 m.loops.items h.1) h.3 in
      let p = stored_at h.0 h.1 t.0 h.2 t.1 in
      let at : At h.0 p.given.1 m' = (given.1 h.0 h.1 p.given h.2 p.is).1 in
      let last = last_stored p.given.1.stores (cell_of a i) in
      is_there (cells_kept m'.rows.items (cell_of a i)) (unwrap_or last p.old)
      (ap (λ (w : View). w (cell_of a i)) at.stands.cells ∙ ap (λ o. option_map (λ x. unwrap_or last x) o) p.there)

  -- and takes the number
  pub store_done : (m'' : Machine) → cells_kept m''.rows.items ≡ with_cell (cells_kept m'.rows.items) (cell_of a i) n →
      parts_stored m''.rows.items ≡ with_cell (parts_stored m'.rows.items) (cell_of a i) n →
      m''.scalars.value ≡ m'.scalars.value → m''.loops.items ≡ m'.loops.items → m''.input.now ≡ m'.input.now →
      m''.printed.items ≡ m'.printed.items → HasDone (store_meaning a e v) m m''
  store_done m'' cells stored scalars loops input printed = (
    loops ∙ given.0,
    λ view s t at f.
        let p = stored_at view s t at f in
        let q = p.given in
        let c = cell_of a i in
        let g = given.1 view s q at p.is in
        let h : At view q.1 m' = g.1 in
        subst (λ (u : Run). At view u m'') (ap (λ k. with_store c k q.1) (sym g.0) ∙ p.leads) (record {
          stands =
              record {
                scalars = ap (λ (xs : List ℕ). slice_index xs) scalars ∙ h.stands.scalars;
                cells =
                    cells ∙ ap (λ (w : View). with_cell w c n) h.stands.cells
                    ∙ seen_more view q.1.stores c n p.old p.there;
                stored = stored ∙ ap (λ (w : View). with_cell w c n) h.stands.stored ∙ stored_more q.1.stores c n;
              };
          input = input ∙ h.input;
          printed = printed ∙ h.printed;
        }),
  )
