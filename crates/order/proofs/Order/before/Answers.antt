use Rattle.std.proofs.Common.{◌≡◌, ◌≤◌, ◌<◌, true, length, get_or, sym, ap, ◌∙◌, subst, arith}
use Rattle.std.specs.Prelude.{◌&&◌, ◌↔◌, nat_lt}
use Rattle.std.proofs.lemmas.Bool.{and_left, le-ltb, lt-ltb, ltb-true}
use Rattle.base.specs.Items.{plan}
use Rattle.base.specs.Order.{Before}
use Rattle.order.specs.Rows.{IsOrder, is_in}
use Rattle.order.proofs.Steps.{before_none, before_there}
use Rattle.order.proofs.Order.before.Goals as goal

pub returns-in-None : goal.returns-in-None
returns-in-None c =
    let p = plan c.args.self.now in
    let rows = c.self.inside.rows.items in
    let h : IsOrder p rows = subst (λ q. IsOrder (plan q) rows) c.self.view_is c.self.invariant in
    let past : length rows ≤ c.args.i = subst (λ xs. length xs ≤ c.args.i) c.deref.ensures.value c.in-None.ensures.lookup.3 in
    (λ e. absurd cc, λ b. absurd (before_none p rows c.args.i c.args.j h past b))

pub returns-then-j-len : goal.returns-then-j-len
returns-then-j-len c =
    let p = plan c.args.self.now in
    let rows = c.self.inside.rows.items in
    let h : IsOrder p rows = subst (λ q. IsOrder (plan q) rows) c.self.view_is c.self.invariant in
    let row = c.in-Some.row.now in
    let there : c.args.i < length rows =
    subst (λ xs. c.args.i < length xs) c.deref.ensures.value (ltb-true c.args.i (length c.deref.result.now) (sym c.in-Some.ensures.lookup.0)) in
    let is : row ≡ get_or rows c.args.i row = c.in-Some.ensures.lookup.1 ∙ ap (λ xs. get_or xs c.args.i row) c.deref.ensures.value in
    let inside : c.args.j < length rows = omega arith in
    subst (λ b. (b ≡ true) ↔ Before p c.args.i c.args.j)
    (ap (λ b. b && is_in row c.args.j) (lt-ltb c.args.j (length rows) inside) ∙ sym c.has.ensures)
    (before_there p rows c.args.i c.args.j row h there is)

pub returns-else-j-len : goal.returns-else-j-len
returns-else-j-len c =
    let p = plan c.args.self.now in
    let rows = c.self.inside.rows.items in
    let h : IsOrder p rows = subst (λ q. IsOrder (plan q) rows) c.self.view_is c.self.invariant in
    let row = c.in-Some.row.now in
    let there : c.args.i < length rows =
    subst (λ xs. c.args.i < length xs) c.deref.ensures.value (ltb-true c.args.i (length c.deref.result.now) (sym c.in-Some.ensures.lookup.0)) in
    let is : row ≡ get_or rows c.args.i row = c.in-Some.ensures.lookup.1 ∙ ap (λ xs. get_or xs c.args.i row) c.deref.ensures.value in
    let outside : length rows ≤ c.args.j = omega arith in
    let beyond : c.len.result ≤ c.args.j = c.if-j-len.false in
    subst (λ b. (b ≡ true) ↔ Before p c.args.i c.args.j)
    (and_left (nat_lt c.args.j (length rows)) (is_in row c.args.j) (le-ltb c.args.j (length rows) outside)
    ∙ sym (le-ltb c.args.j c.len.result beyond))
    (before_there p rows c.args.i c.args.j row h there is)
