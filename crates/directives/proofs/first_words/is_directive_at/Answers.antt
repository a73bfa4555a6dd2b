use Rattle.std.proofs.Common.{◌≡◌, ◌∙◌, sym, true, false, rules}
use Rattle.std.specs.Prelude.{codes}
use Rattle.c_grammar.specs.Lexeme.{Worded, lexemes_of, same}
use Rattle.directives.specs.Seen.{seen_lexeme, seen_placed}
use Rattle.directives.specs.Ahead.{ahead_in_bytes}
use Rattle.directives.proofs.Words.{omp_not, omp_is}
use Rattle.directives.proofs.first_words.is_directive_at.Goals as goal

pub returns-then-not-same_lexeme : goal.returns-then-not-same_lexeme
returns-then-not-same_lexeme c =
    let other : same (Worded (codes "pragma")) (seen_lexeme c.next-first.result.lexeme) ≡ false = search rules in
    sym (omp_not (lexemes_of c.args.line.now c.args.column) (ahead_in_bytes c.next-first.new.self)
    (seen_placed c.next-first.result) (sym c.new-lexemes.ensures.ahead ∙ c.next-first.ensures.next) other)

pub returns : goal.returns
returns c =
    let first : same (Worded (codes "pragma")) (seen_lexeme c.next-first.result.lexeme) ≡ true = search rules in
    let second : c.same_lexeme-2.result ≡ same (Worded (codes "omp")) (seen_lexeme c.next-second.result.lexeme) =
    search rules in
    second ∙ sym (omp_is (lexemes_of c.args.line.now c.args.column) (ahead_in_bytes c.next-first.new.self)
    (ahead_in_bytes c.next-second.new.self) (seen_placed c.next-first.result) (seen_placed c.next-second.result)
    (sym c.new-lexemes.ensures.ahead ∙ c.next-first.ensures.next) c.next-second.ensures.next first)
