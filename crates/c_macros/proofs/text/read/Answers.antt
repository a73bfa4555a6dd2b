use Rattle.std.proofs.Common.{refl}
use Rattle.c_macros.proofs.Steps.{all_known}
use Rattle.c_macros.proofs.text.read.Goals as goal

pub tokens-init : goal.tokens-init
tokens-init c =
    rw (
      all_known c.new-macros.result.items c.put_known.new.macros.items c.put_known-2.new.macros.items c.new-macros.ensures.items
          c.in_ok-put_known.ensures c.in_ok-put_known-2.ensures,
      c.new.ensures,
      c.new-2.ensures.items,
      c.new-3.ensures,
    ) refl
