use Rattle.std.proofs.Common.{◌∙◌, ℕ, ◌+◌, List, ◌++◌, take, drop, ap}
use Rattle.c_grammar.specs.Nesting.{name_len}
use Rattle.c_grammar.specs.Presence.{before_end}
use Rattle.directives.specs.declared.lexeme.PlacedLexeme.{PlacedLexeme}
use Rattle.c_written.specs.Forms.{all_placed}
use Rattle.c_written.specs.Spots.{all_kinds}
use Rattle.c_written.proofs.Joining.{tokens_put}
use Rattle.c_written.proofs.nesting.joined_tokens.Goals as goal

pub returns : goal.returns
returns c =
    let k = c.name_len.result in
    let clauses = c.split_at.ensures.back ∙ ap (drop k) c.deref.ensures.value in
    tokens_put (3 + c.name_len-2.result) k c.target_column.result c.args.tokens.now c.args.inner.now c.in_ok-moved.moved.items
    c.in_ok-put.put.items c.extend_from_slice.new.self.items c.put_before_end.new.put.items c.requires.whole
    c.target_column.ensures c.in_ok-moved.ensures
    (c.name_len.ensures.value ∙ ap (λ (xs : List PlacedLexeme). name_len (all_kinds xs)) c.deref-2.ensures.value)
    (ap (λ (m : ℕ). 3 + m) c.name_len-2.ensures.value) (c.in_ok-put.ensures.items ∙ c.split_at-2.ensures.front)
    (c.in_ok-extend_from_slice.ensures.items
    ∙ ap (λ (xs : List PlacedLexeme). c.in_ok-put.put.items ++ xs)
    (c.split_at.ensures.front ∙ ap (take k) c.deref.ensures.value))
    (c.in_ok-put_before_end.ensures
    ∙ ap (λ (xs : List PlacedLexeme). all_placed c.extend_from_slice.new.self.items ++ before_end (all_placed xs) (all_placed c.split_at-2.result.1.now)) clauses
    ∙ ap (λ (xs : List PlacedLexeme). all_placed c.extend_from_slice.new.self.items ++
    before_end (all_placed (drop k c.in_ok-moved.moved.items)) (all_placed xs)) c.split_at-2.ensures.back)
