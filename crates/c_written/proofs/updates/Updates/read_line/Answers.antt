use Rattle.std.proofs.Common.{◌∙◌, ◌++◌, ◌∷◌, List, ap, sym}
use Rattle.c_grammar.specs.Updates.{Region, commuting}
use Rattle.c_terminals.specs.Held.{written_all}
use Rattle.c_terminals.specs.Seen.{seen, seen_all}
use Rattle.c_written.specs.Updates.{line_put, region_of}
use Rattle.c_written.proofs.CallTexts.{put_front}
use Rattle.c_written.proofs.CommutingLines.{line_goes}
use Rattle.c_written.proofs.updates.Updates.read_line.Goals as goal

pub returns-clause-done : goal.returns-clause-done
returns-clause-done c =
    let old = c.args.self.now in
    let new = c.begin_region.new.self in
    let i = seen c.args.token in
    let is = seen_all c.args.behind.now in
    put_front old.done.items c.push.new.self.items c.in_ok-line_put.field-0 (line_put i i.terminal is)
    (commuting (region_of old) (i ∷ is)) (commuting (region_of new) is) c.in_ok-push.ensures.items
    c.in_ok-line_put.ensures
    (line_goes i is (region_of old) c.requires
    ∙ ap (λ (r : Region). line_put i i.terminal is ∷ commuting r is) (sym c.in_ok-begin_region.ensures.region))
    ∙ ap (λ d. written_all d.items ++ commuting (region_of new) is) (sym c.in_ok-begin_region.ensures.done)
