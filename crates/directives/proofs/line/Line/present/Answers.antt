use Rattle.std.proofs.Common.{◌≡◌, true, arith, rules}
use Rattle.c_tokens.specs.declared.kind.Sign.TheVariants as sign
use Rattle.c_grammar.specs.Lexeme.{Signed, same}
use Rattle.c_grammar.specs.LineGrammar.{Present, modifier_word}
use Rattle.c_grammar.specs.LineMachine.{is_word}
use Rattle.directives.specs.Seen.{seen_lexeme, seen_placed}
use Rattle.directives.specs.Ahead.{ahead_on_line}
use Rattle.directives.specs.Cursor.{first_item}
use Rattle.directives.proofs.Motions.{no_present, no_colon, past_present, read_present}
use Rattle.directives.proofs.line.Line.present.Goals as goal

pub returns-then-not-at_word-clause-read : goal.returns-then-not-at_word-clause-read
returns-then-not-at_word-clause-read c = grind (arith, no_present)

pub returns-then-not-same_lexeme-clause-read : goal.returns-then-not-same_lexeme-clause-read
returns-then-not-same_lexeme-clause-read c = grind (arith, no_colon)

pub returns-clause-read : goal.returns-clause-read
returns-clause-read c =
    let word : is_word (modifier_word Present) (first_item c.args.self.now).terminal ≡ true = search rules in
    let colon : same (Signed sign.Colon) (seen_lexeme c.next-next.result.lexeme) ≡ true = search rules in
    λ s. past_present c.args.self.now c.next-self.result c.next-self.new.self (seen_placed c.next-next.result)
    (ahead_on_line c.next-next.new.self) s word c.next-next.ensures.next colon c.next-self.ensures.next

pub returns-clause-tree : goal.returns-clause-tree
returns-clause-tree c =
    let word : is_word (modifier_word Present) (first_item c.args.self.now).terminal ≡ true = search rules in
    let colon : same (Signed sign.Colon) (seen_lexeme c.next-next.result.lexeme) ≡ true = search rules in
    read_present c.args.self.now c.next-self.result c.next-self.new.self (seen_placed c.next-next.result)
    (ahead_on_line c.next-next.new.self) word c.next-next.ensures.next colon c.next-self.ensures.next
