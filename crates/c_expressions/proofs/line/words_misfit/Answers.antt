use Rattle.std.proofs.Common.{◌≡◌, ◌∙◌, ap, sym, false, true, Some, List}
use Rattle.std.specs.Prelude.{ℕ}
use Rattle.c_grammar.specs.Lexeme.{Worded, same}
use Rattle.directives.specs.Ahead.{ahead_on_line, seen_line}
use Rattle.directives.specs.Seen.{seen_placed}
use Rattle.c_expressions.specs.Lines.{pragma, omp}
use Rattle.base.specs.declared.fault.ReadCode.{ReadCode as Code}
use Rattle.c_expressions.proofs.Words.{first_words, one_words, second_words, sound_words}
use Rattle.c_expressions.proofs.line.words_misfit.Goals as goal

pub returns-then-not-same_lexeme : goal.returns-then-not-same_lexeme
returns-then-not-same_lexeme c =
    let one : same pragma (seen_placed c.in-Some.first).lexeme ≡ false =
    ap (λ (x : List ℕ). same (Worded x) (seen_placed c.in-Some.first).lexeme) (sym c.as_slice.ensures)
    ∙ sym c.same_lexeme.ensures ∙ c.if-not-same_lexeme.true in
    ap (λ (f : ℕ × Code). Some f) c.misplaced.ensures
    ∙ sym (first_words (seen_line c.args.line.now) (ahead_on_line c.next_token.new.self)
    (seen_placed c.in-Some.first) (sym c.new-lexemes.ensures.ahead ∙ c.in-Some.ensures) one)

pub returns-then-not-same_lexeme-2 : goal.returns-then-not-same_lexeme-2
returns-then-not-same_lexeme-2 c =
    let one : same pragma (seen_placed c.in-Some.first).lexeme ≡ true =
    ap (λ (x : List ℕ). same (Worded x) (seen_placed c.in-Some.first).lexeme) (sym c.as_slice.ensures)
    ∙ sym c.same_lexeme.ensures ∙ c.if-not-same_lexeme.false in
    let two : same omp (seen_placed c.in-Some-next_token.second).lexeme ≡ false =
    ap (λ (x : List ℕ). same (Worded x) (seen_placed c.in-Some-next_token.second).lexeme) (sym c.as_slice-2.ensures)
    ∙ sym c.same_lexeme-2.ensures ∙ c.if-not-same_lexeme-2.true in
    ap (λ (f : ℕ × Code). Some f) c.misplaced-then-not-same_lexeme-2.ensures
    ∙ sym (second_words (seen_line c.args.line.now) (ahead_on_line c.next_token.new.self)
    (ahead_on_line c.next_token-2.new.self) (seen_placed c.in-Some.first) (seen_placed c.in-Some-next_token.second)
    (sym c.new-lexemes.ensures.ahead ∙ c.in-Some.ensures) c.in-Some-next_token.ensures one two)

pub returns : goal.returns
returns c =
    let one : same pragma (seen_placed c.in-Some.first).lexeme ≡ true =
    ap (λ (x : List ℕ). same (Worded x) (seen_placed c.in-Some.first).lexeme) (sym c.as_slice.ensures)
    ∙ sym c.same_lexeme.ensures ∙ c.if-not-same_lexeme.false in
    let two : same omp (seen_placed c.in-Some-next_token.second).lexeme ≡ true =
    ap (λ (x : List ℕ). same (Worded x) (seen_placed c.in-Some-next_token.second).lexeme) (sym c.as_slice-2.ensures)
    ∙ sym c.same_lexeme-2.ensures ∙ c.if-not-same_lexeme-2.false in
    sym (sound_words (seen_line c.args.line.now) (ahead_on_line c.next_token.new.self)
    (ahead_on_line c.next_token-2.new.self) (seen_placed c.in-Some.first) (seen_placed c.in-Some-next_token.second)
    (sym c.new-lexemes.ensures.ahead ∙ c.in-Some.ensures) c.in-Some-next_token.ensures one two)

pub returns-in_default-next_token : goal.returns-in_default-next_token
returns-in_default-next_token c =
    let one : same pragma (seen_placed c.in-Some.first).lexeme ≡ true =
    ap (λ (x : List ℕ). same (Worded x) (seen_placed c.in-Some.first).lexeme) (sym c.as_slice.ensures)
    ∙ sym c.same_lexeme.ensures ∙ c.if-not-same_lexeme.false in
    sym (one_words (seen_line c.args.line.now) (ahead_on_line c.next_token.new.self)
    (seen_placed c.in-Some.first) (sym c.new-lexemes.ensures.ahead ∙ c.in-Some.ensures) c.in_default-next_token.ensures one)
