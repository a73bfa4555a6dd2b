use Rattle.std.proofs.Common.{◌∙◌, ℕ, Option, ap, arith, sym}
use Rattle.std.specs.Option.{option_map}
use Rattle.c_grammar.specs.Blocks.{Items}
use Rattle.c_grammar.specs.Needless.{left_out}
use Rattle.c_terminals.specs.Seen.{seen, seen_all}
use Rattle.c_needless.specs.States.{seen_state}
use Rattle.c_needless.proofs.Keeping.{kept, left_with, where_answered}
use Rattle.c_needless.proofs.leaving.Leaving.take.Goals as goal

pub returns-in_ok-keep-in-None : goal.returns-in_ok-keep-in-None
returns-in_ok-keep-in-None c =
    kept (seen_all c.args.self.now.done.items) (seen_all c.keep.new.self.done.items) (seen_state c.args.self.now.state)
    (seen_state c.keep.new.self.state) c.args.self.now.left c.keep.new.self.left (seen c.args.token)
    (seen_all c.args.behind.now) (sym c.is_directive.ensures ∙ c.if-is_directive.false) (omega (arith, c.if-self-gt0.false))
    c.in_ok-keep-in-None.ensures.left
    (ap (λ (js : Items). left_out (seen_state c.args.self.now.state) (seen c.args.token) js) (sym c.new.ensures)
    ∙ sym c.in_ok-left_out.ensures ∙ ap (λ (o : Option ℕ). option_map (λ (n : ℕ). n) o) c.in-None.is)
    c.in_ok-keep-in-None.ensures.done c.in_ok-keep-in-None.ensures.state

pub returns-in-Some : goal.returns-in-Some
returns-in-Some c =
    where_answered c.empty.result _ _ c.empty.ensures (λ h.
    left_with (seen_all c.args.self.now.done.items) (seen_all c.empty.new.self.done.items) (seen_state c.args.self.now.state)
    (seen_state c.empty.new.self.state) c.args.self.now.left c.in-Some.count c.empty.new.self.left (seen c.args.token)
    (seen_all c.args.behind.now) (sym c.is_directive.ensures ∙ c.if-is_directive.false) (omega (arith, c.if-self-gt0.false))
    h.left
    (ap (λ (js : Items). left_out (seen_state c.args.self.now.state) (seen c.args.token) js) (sym c.new.ensures)
    ∙ sym c.in_ok-left_out.ensures ∙ ap (λ (o : Option ℕ). option_map (λ (n : ℕ). n) o) c.in-Some.is)
    h.done h.state)
