use Rattle.std.proofs.Common.{◌≡◌, ◌++◌, ◌∙◌, [], ◌∷◌, ap, subst, sym}
use Rattle.graph.specs.Escaped.{IsOneString}
use Rattle.graph.proofs.Inside.{is_string}
use Rattle.graph.proofs.escape.quoted.Goals as goal

pub returns-clause-string : goal.returns-clause-string
returns-clause-string c =
    let inner = c.in_ok-inner.inner.items in
    let is : c.push-2.new.self.items ≡ 34 ∷ inner ++ 34 ∷ [] =
    c.in_ok-push-2.ensures.items
    ∙ ap (λ xs. xs ++ 34 ∷ []) (c.in_ok-extend_from_slice.ensures.items
    ∙ ap (λ xs. xs ++ c.deref.result.now) (c.in_ok-push.ensures.items ∙ ap (λ xs. xs ++ 34 ∷ []) c.new-text.ensures.items)
    ∙ ap (λ xs. 34 ∷ xs) c.deref.ensures.value) in
    subst IsOneString (sym is) (λ rest. is_string inner rest c.in_ok-inner.ensures.inside)
