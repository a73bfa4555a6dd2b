use Rattle.std.proofs.Common.{◌≡◌, ◌++◌, drop, map}
use Rattle.c_grammar.specs.Blocks.{bare}
use Rattle.c_grammar.specs.Presence.{clauses_for}
use Rattle.c_written.specs.Forms.{all_placed}
use Rattle.c_terminals.specs.Seen.{seen_all}
use Rattle.c_written.specs.Spots.{all_kinds}
use Rattle.c_written.proofs.presence.clauses_for.Given as goal

abbrev pub invariant-names : goal.invariant-names
invariant-names l =
    all_placed l.clauses.items
    ++ clauses_for (map (λ x. x.now) (drop l.name-index l.names)) l.column (all_kinds l.tokens) (bare (seen_all l.behind))
    ≡ clauses_for (map (λ x. x.now) l.names) l.column (all_kinds l.tokens) (bare (seen_all l.behind))
