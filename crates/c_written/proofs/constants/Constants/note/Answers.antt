use Rattle.std.proofs.Common.{◌∙◌, List, ◌∷◌, map, ap}
use Rattle.c_terminals.specs.declared.token.Terminal.{Terminal as Given}
use Rattle.c_terminals.specs.Seen.{seen_terminal}
use Rattle.c_written.specs.Past.{past_of}
use Rattle.c_terminals.specs.Names.{seen_names}
use Rattle.c_written.specs.Names.{with_name}
use Rattle.c_written.specs.Values.{seen_values}
use Rattle.c_written.specs.Constants.{with_constant}
use Rattle.c_written.proofs.Blocking.{on_ok}
use Rattle.c_written.proofs.Noting.{constants_more, lengths_more, names_more}
use Rattle.c_written.proofs.Outcomes.{anyway}
use Rattle.c_written.proofs.constants.Constants.note.Goals as goal

pub returns-clause-values : goal.returns-clause-values
returns-clause-values c =
    anyway c.declare.result _
    (constants_more (seen_terminal c.args.terminal ∷ past_of c.args.self.now.past) (past_of c.push.new.self)
    (seen_values c.args.self.now.values) (seen_values c.define.new.values)
    (ap (λ (ts : List Given). map seen_terminal ts) c.in_ok-push.ensures)
    (c.in_ok-define.ensures ∙ ap (λ o. with_constant o (seen_values c.args.self.now.values)) c.ended_constant.ensures))

pub returns-clause-notes : goal.returns-clause-notes
returns-clause-notes c =
    on_ok c.declare.result _ _
    (λ h. record {
      lengths =
          lengths_more (seen_terminal c.args.terminal) (past_of c.args.self.now.past) (past_of c.push.new.self)
          (seen_values c.args.self.now.lengths) (seen_values c.define-2.new.values)
          (ap (λ (ts : List Given). map seen_terminal ts) c.in_ok-push.ensures) c.requires.lengths
          (c.in_ok-define-2.ensures ∙ ap (λ o. with_constant o (seen_values c.args.self.now.lengths)) c.array_length.ensures);
      names =
          names_more (seen_terminal c.args.terminal) (past_of c.args.self.now.past) (past_of c.push.new.self)
          (seen_names c.args.self.now.names) (seen_names c.declare.new.names)
          (ap (λ (ts : List Given). map seen_terminal ts) c.in_ok-push.ensures) c.requires.names
          (h ∙ ap (λ o. with_name o (seen_names c.args.self.now.names)) c.declared_last.ensures);
    })
    c.declare.ensures
