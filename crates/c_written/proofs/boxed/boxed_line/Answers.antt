use Rattle.std.proofs.Common.{◌≡◌, ◌∙◌, ◌-◌, ◌++◌, ℕ, true, List, length, take, drop, sym, ap}
use Rattle.c_grammar.specs.Blocks.{bare}
use Rattle.c_grammar.specs.Boxes.{at_begin, clauses_for, sectioned}
use Rattle.c_grammar.specs.Lexeme.{Placed}
use Rattle.directives.specs.declared.lexeme.PlacedLexeme.{PlacedLexeme}
use Rattle.directives.specs.Ahead.{seen_line}
use Rattle.directives.specs.Seen.{is_whole}
use Rattle.directives.specs.Spells.{kinds_of}
use Rattle.c_written.specs.Boxes.{texts}
use Rattle.c_written.specs.Forms.{all_placed}
use Rattle.c_terminals.specs.Seen.{seen_all}
use Rattle.c_written.proofs.Boxing.{boxed_whole, sectioned_whole}
use Rattle.c_written.proofs.Guarding.{put_parts}
use Rattle.c_written.proofs.boxed.boxed_line.Goals as goal

pub of-requires : goal.of-requires
of-requires c =
    let n = c.saturating_sub-last.result in
    let names = texts c.args.names.now in
    let is = bare (seen_all c.args.region.now) in
    let ls = all_placed c.tokens-tokens.result.now in
    ap is_whole (put_parts n c.in_ok-sectioned.sectioned.items c.new-put.result.items
    c.extend_from_slice.new.self.items c.append.new.self.items c.extend_from_slice-2.new.self.items c.in_ok-clauses.clauses.items
    (sectioned names at_begin ls) (clauses_for names (kinds_of ls) is ls)
    (c.saturating_sub-last.ensures ∙ ap (λ (n : ℕ). n - 1) (c.len.ensures ∙ c.in_ok-sectioned.sectioned.ok.0))
    c.in_ok-sectioned.ensures (sectioned_whole names at_begin ls c.tokens-tokens.ensures.whole) c.new-put.ensures.items
    (c.in_ok-extend_from_slice.ensures.items
    ∙ ap (λ (ts : List PlacedLexeme). c.new-put.result.items ++ take n ts) c.deref.ensures.value)
    c.in_ok-append.ensures.items
    (c.in_ok-extend_from_slice-2.ensures.items
    ∙ ap (λ (ts : List PlacedLexeme). c.append.new.self.items ++ take (length ts - n) (drop n ts)) c.deref-2.ensures.value)
    c.in_ok-clauses.ensures)
    ∙ boxed_whole names (kinds_of ls) is ls c.tokens-tokens.ensures.whole

pub returns : goal.returns
returns c =
    let n = c.saturating_sub-last.result in
    let names = texts c.args.names.now in
    let is = bare (seen_all c.args.region.now) in
    let ls = seen_line c.args.line.now in
    let whole : is_whole ls ≡ true = ap is_whole (sym c.tokens-tokens.ensures.tokens) ∙ c.tokens-tokens.ensures.whole in
    c.of.ensures
    ∙ put_parts n c.in_ok-sectioned.sectioned.items c.new-put.result.items
    c.extend_from_slice.new.self.items c.append.new.self.items c.extend_from_slice-2.new.self.items c.in_ok-clauses.clauses.items
    (sectioned names at_begin ls) (clauses_for names (kinds_of ls) is ls)
    (c.saturating_sub-last.ensures ∙ ap (λ (n : ℕ). n - 1) (c.len.ensures ∙ c.in_ok-sectioned.sectioned.ok.0))
    (c.in_ok-sectioned.ensures ∙ ap (sectioned names at_begin) c.tokens-tokens.ensures.tokens)
    (sectioned_whole names at_begin ls whole) c.new-put.ensures.items
    (c.in_ok-extend_from_slice.ensures.items
    ∙ ap (λ (ts : List PlacedLexeme). c.new-put.result.items ++ take n ts) c.deref.ensures.value)
    c.in_ok-append.ensures.items
    (c.in_ok-extend_from_slice-2.ensures.items
    ∙ ap (λ (ts : List PlacedLexeme). c.append.new.self.items ++ take (length ts - n) (drop n ts)) c.deref-2.ensures.value)
    (c.in_ok-clauses.ensures
    ∙ ap (λ (ps : List Placed). clauses_for names (kinds_of ps) is ps) c.tokens-tokens.ensures.tokens)
