use Rattle.std.proofs.Common.{List, arith, ap, refl, sym, subst, length, ◌∙◌}
use Rattle.std.specs.Prelude.{IsSome}
use Rattle.std.proofs.lemmas.List.{with_items_is}
use Rattle.kernel.specs.Machine.{cell_of, with_cell}
use Rattle.kernel.specs.Rows.{Parts, cells_kept, parts_stored}
use Rattle.kernel.proofs.SimpleStmts.{store_can, store_done}
use Rattle.kernel.proofs.simple.store_at.Goals as goal

pub store-requires : goal.store-requires
store-requires c =
    let i = c.value_of-index.result in
    subst (λ (xs : List Parts). IsSome (cells_kept xs (cell_of c.args.array i))) (sym c.deref_mut.ensures.value)
    (store_can c.args.array c.args.index.now c.args.v.now i c.given-n.result c.args.m.now c.given-n.new.m c.value_of-index.ensures
    c.given-n.ensures c.requires)

pub returns : goal.returns
returns c =
    let a = c.args.array in
    let i = c.value_of-index.result in
    let n = c.given-n.result in
    let m' = c.given-n.new.m in
    let is = with_items_is m'.rows c.store.new.rows
    (omega (arith, c.store.auto.rows, m'.rows.ok.0, ap length c.deref_mut.ensures.value)) in
    store_done a c.args.index.now c.args.v.now i n c.args.m.now m' c.value_of-index.ensures c.given-n.ensures _
    (ap (λ (xs : List Parts). cells_kept xs) is ∙ c.in_ok-store.ensures.cells
    ∙ ap (λ (xs : List Parts). with_cell (cells_kept xs) (cell_of a i) n) c.deref_mut.ensures.value)
    (ap (λ (xs : List Parts). parts_stored xs) is ∙ c.in_ok-store.ensures.stored
    ∙ ap (λ (xs : List Parts). with_cell (parts_stored xs) (cell_of a i) n) c.deref_mut.ensures.value)
    refl refl refl refl
