use Rattle.std.proofs.Common.{◌∙◌, ◌++◌, ap}
use Rattle.std.proofs.lemmas.List.{take_rest}
use Rattle.c_terminals.specs.Seen.{seen, seen_all}
use Rattle.c_choices.specs.Held.{value_put}
use Rattle.c_choices.proofs.Holding.{held_done}
use Rattle.c_choices.proofs.choices.put_held.Goals as goal

pub returns : goal.returns
returns c =
    held_done (seen c.args.token) c.args.rest.now c.args.len (seen_all c.args.done.now.items)
    (seen_all c.put_value.new.done.items) (seen_all c.put_cell.new.done.items)
    (c.in_ok-put_value.ensures ∙ ap (λ ts. seen_all c.args.done.now.items ++ value_put (seen c.args.token) (seen_all ts))
    (take_rest c.args.rest.now c.args.len)) c.in_ok-put_cell.ensures
