use Rattle.c_tokens.specs.declared.kind.Sign.TheVariants as sign
use Rattle.directives.specs.Cursor.{items}
use Rattle.directives.specs.Trees.{section_marks, sign_mark}
use Rattle.directives.proofs.Spellings.{spelled_more, spelled_less}
use Rattle.std.proofs.Common.{arith}
use Rattle.directives.proofs.line.Line.more_sections.Goals as goal

pub sections-smaller : goal.sections-smaller
sections-smaller c =
    spelled_less (sign_mark sign.Comma) (section_marks c.in_ok-section.section) (items c.sections.self)
    (items c.section_behind.new.self) c.in_ok-section.ensures.tree.fits

pub sections-preserved : goal.sections-preserved
sections-preserved c = grind (arith, spelled_more)
