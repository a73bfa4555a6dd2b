use Rattle.std.proofs.Common.{◌∙◌, List, ◌++◌, sym, ap}
use Rattle.std.specs.Prelude.{codes}
use Rattle.std.proofs.lemmas.List.{append-nil, map-append}
use Rattle.c_grammar.specs.Blocks.{Items}
use Rattle.c_grammar.specs.Lexeme.{Placed}
use Rattle.c_grammar.specs.Sequences.{has_clause}
use Rattle.directives.specs.Ahead.{seen_line}
use Rattle.directives.specs.Spells.{kinds_of}
use Rattle.c_terminals.specs.Held.{seen_written, written_all}
use Rattle.c_written.proofs.Parting.{data_none, data_put, line_parts}
use Rattle.c_written.proofs.sequences.put_data.Goals as goal

pub data_of-requires : goal.data_of-requires
data_of-requires c = line_parts c.args.token c.in-Line.line c.in-Line.is c.requires

pub returns-in_ok-push : goal.returns-in_ok-push
returns-in_ok-push c =
    ap written_all c.in_ok-push.ensures.items ∙ map-append seen_written c.args.done.now.items _
    ∙ ap (λ (is : Items). written_all c.args.done.now.items ++ is)
    (data_put c.args.token c.in-Line.line (seen_line c.in_ok-data_of.field-0) c.in-Line.is c.requires
    (ap (λ (ps : List Placed). has_clause (codes "map") 0 (kinds_of ps)) (sym c.tokens.ensures.tokens)
    ∙ (sym c.has_clause.ensures ∙ c.if-has_clause.true)) c.in_ok-data_of.ensures)

pub returns-else-has_clause : goal.returns-else-has_clause
returns-else-has_clause c =
    sym (ap (λ (is : Items). written_all c.args.done.now.items ++ is)
    (data_none c.args.token c.in-Line.line c.in-Line.is
    (ap (λ (ps : List Placed). has_clause (codes "map") 0 (kinds_of ps)) (sym c.tokens.ensures.tokens)
    ∙ (sym c.has_clause.ensures ∙ c.if-has_clause.false)))
    ∙ append-nil (written_all c.args.done.now.items))
