use Rattle.std.proofs.Common.{◌++◌, List, ℕ, [], ◌∷◌, ap, ◌∙◌}
use Rattle.std.proofs.lemmas.List.{append_assoc}
use Rattle.c_lines.specs.Spliced.{feeds}
use Rattle.c_lines.proofs.Feeds.{one_more}
use Rattle.c_lines.proofs.lines.put_feeds.Goals as goal

pub feeds-preserved : goal.feeds-preserved
feeds-preserved c =
    c.in_ok-push.ensures.items ∙ ap (λ (l : List ℕ). l ++ 10 ∷ []) c.feeds.invariant
    ∙ append_assoc c.args.done.now.items (feeds c.feeds.counter) (10 ∷ [])
    ∙ ap (λ (l : List ℕ). c.args.done.now.items ++ l) (one_more c.feeds.counter)
