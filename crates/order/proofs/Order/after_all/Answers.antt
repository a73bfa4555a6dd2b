use Rattle.std.proofs.Common.{◌≡◌, ◌≤◌, ◌<◌, length, get_or, sym, ap, ◌∙◌, subst, arith}
use Rattle.std.proofs.lemmas.Bool.{ltb-true}
use Rattle.base.specs.Items.{plan}
use Rattle.base.specs.Limits.{most_items}
use Rattle.base.specs.Order.{IsAfterAll}
use Rattle.order.specs.Rows.{IsOrder}
use Rattle.order.proofs.Steps.{after_none, after_there, place_inside}
use Rattle.order.proofs.Order.after_all.Goals as goal

pub returns-in-None : goal.returns-in-None
returns-in-None c =
    let p = plan c.args.self.now in
    let rows = c.self.inside.rows.items in
    let h : IsOrder p rows = subst (λ q. IsOrder (plan q) rows) c.self.view_is c.self.invariant in
    let past : length rows ≤ c.args.i = subst (λ xs. length xs ≤ c.args.i) c.deref.ensures.value c.in-None.ensures.lookup.3 in
    let many : c.len.result ≡ length rows = omega arith in
    subst (λ n. IsAfterAll p c.args.i n) (sym many) (after_none p rows c.args.i h past)

pub returns-in-Some : goal.returns-in-Some
returns-in-Some c =
    let p = plan c.args.self.now in
    let rows = c.self.inside.rows.items in
    let h : IsOrder p rows = subst (λ q. IsOrder (plan q) rows) c.self.view_is c.self.invariant in
    let row = c.in-Some.row.now in
    let there : c.args.i < length rows =
    subst (λ xs. c.args.i < length xs) c.deref.ensures.value (ltb-true c.args.i (length c.deref.result.now) (sym c.in-Some.ensures.lookup.0)) in
    let is : row ≡ get_or rows c.args.i row = c.in-Some.ensures.lookup.1 ∙ ap (λ xs. get_or xs c.args.i row) c.deref.ensures.value in
    after_there p rows c.args.i row h there is

pub overflow_cast-result-in-Some : goal.overflow_cast-result-in-Some
overflow_cast-result-in-Some c =
    let p = plan c.args.self.now in
    let rows = c.self.inside.rows.items in
    let h : IsOrder p rows = subst (λ q. IsOrder (plan q) rows) c.self.view_is c.self.invariant in
    let row = c.in-Some.row.now in
    let there : c.args.i < length rows =
    subst (λ xs. c.args.i < length xs) c.deref.ensures.value (ltb-true c.args.i (length c.deref.result.now) (sym c.in-Some.ensures.lookup.0)) in
    let is : row ≡ get_or rows c.args.i row = c.in-Some.ensures.lookup.1 ∙ ap (λ xs. get_or xs c.args.i row) c.deref.ensures.value in
    let place : row.place ≤ length p.items = place_inside p c.args.i row.place (after_there p rows c.args.i row h there is) in
    let many : length rows ≡ length p.items = h.many in
    let most : length rows ≤ most_items = h.most in
    omega (arith, place, many, most)
