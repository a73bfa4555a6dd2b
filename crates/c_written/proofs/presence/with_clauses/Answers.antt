use Rattle.std.proofs.Common.{◌∙◌, ℕ, List, sym, ap, refl}
use Rattle.c_grammar.specs.Blocks.{bare}
use Rattle.c_grammar.specs.Lexeme.{Placed}
use Rattle.c_grammar.specs.Presence.{line_clauses, target_column}
use Rattle.directives.specs.Ahead.{seen_line}
use Rattle.directives.specs.Seen.{is_whole}
use Rattle.directives.specs.Spells.{kinds_of}
use Rattle.c_written.specs.Forms.{all_placed}
use Rattle.c_terminals.specs.Seen.{seen_all}
use Rattle.c_written.specs.Spots.{all_kinds}
use Rattle.c_written.proofs.Guarding.{clauses_whole, put_parts}
use Rattle.c_written.proofs.Putting.{all_names}
use Rattle.c_written.proofs.presence.with_clauses.Goals as goal

pub of-requires : goal.of-requires
of-requires c =
    let ts = c.tokens-tokens.result.now in
    ap is_whole (put_parts c.saturating_sub-last.result ts c.new-put.result.items c.extend_from_slice.new.self.items
    c.append.new.self.items c.extend_from_slice-2.new.self.items c.in_ok-clauses.clauses.items _ _ c.saturating_sub-last.ensures
    refl c.tokens-tokens.ensures.whole c.new-put.ensures.items c.in_ok-extend_from_slice.ensures.items c.in_ok-append.ensures.items
    c.in_ok-extend_from_slice-2.ensures.items c.in_ok-clauses.ensures)
    ∙ clauses_whole (all_names c.args.names.now) c.target_column-column.result (all_kinds ts) (bare (seen_all c.args.behind.now))
    (all_placed ts) c.tokens-tokens.ensures.whole

pub returns : goal.returns
returns c =
    let ts = c.tokens-tokens.result.now in
    c.of.ensures
    ∙ put_parts c.saturating_sub-last.result ts c.new-put.result.items c.extend_from_slice.new.self.items
    c.append.new.self.items c.extend_from_slice-2.new.self.items c.in_ok-clauses.clauses.items (seen_line c.args.line.now) _
    c.saturating_sub-last.ensures c.tokens-tokens.ensures.tokens
    (ap is_whole (sym c.tokens-tokens.ensures.tokens) ∙ c.tokens-tokens.ensures.whole)
    c.new-put.ensures.items c.in_ok-extend_from_slice.ensures.items c.in_ok-append.ensures.items
    c.in_ok-extend_from_slice-2.ensures.items
    (c.in_ok-clauses.ensures
    ∙ ap (λ (n : ℕ). line_clauses (all_names c.args.names.now) n (all_kinds ts) (bare (seen_all c.args.behind.now))) c.target_column-column.ensures
    ∙ ap (λ (ls : List Placed). line_clauses (all_names c.args.names.now) (target_column ls) (kinds_of ls) (bare (seen_all c.args.behind.now)))
    c.tokens-tokens.ensures.tokens)
