use Rattle.std.proofs.Common.{◌∙◌, ◌++◌, refl, sym, ap, arith}
use Rattle.std.specs.Option.{option_map}
use Rattle.c_structs.proofs.Rowing.{keep_step, put_step}
use Rattle.c_structs.specs.Found.{seen_found}
use Rattle.c_structs.specs.Rows.{seen_put, seen_state}
use Rattle.c_terminals.specs.Ahead.{ahead}
use Rattle.c_terminals.specs.Seen.{seen, seen_all}
use Rattle.c_structs.proofs.rows.Rows.take.Goals as goal

pub returns-in-Some : goal.returns-in-Some
returns-in-Some c =
    put_step (seen_found c.args.found.now) (seen_state c.args.self.now.state) c.args.self.now.left (seen c.args.token)
    (seen_all c.args.rest.now) (ahead c.new.result) (option_map seen_put c.in_ok-put.field-0) (seen_put c.in-Some.put)
    c.args.self.now.done.items c.extend_from_slice.new.self.items c.in-Some.put.tokens.items
    (sym c.is_directive.ensures ∙ c.if-is_directive.false) (omega (arith, c.if-self-gt0.false)) c.new.ensures
    c.in_ok-put.ensures (ap (option_map seen_put) c.in-Some.is) refl
    (c.in_ok-extend_from_slice.ensures.items ∙ ap (λ ts. c.args.self.now.done.items ++ ts) c.deref.ensures.value)

pub returns : goal.returns
returns c = grind (arith, keep_step)
