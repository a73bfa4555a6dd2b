use Rattle.std.proofs.Common.{drop}
use Rattle.std.specs.Prelude.{codes}
use denote.Text.{Utf8}
use denote.Shadow.{shadow}
use Rattle.witness.specs.Texts.{comma_list}
use Rattle.witness.proofs.Told.{IsFront}
use Rattle.witness.proofs.text.list_text.Given as goal

abbrev pub invariant-numbers : goal.invariant-numbers
invariant-numbers g l =
    record {
      text : shadow (Utf8 l.before);
      front : IsFront (g.W.Write.contents l.initial.out) (g.W.Write.contents l.out) (comma_list (codes " ") l.list)
          (comma_list l.before (drop l.number-index l.list));
    }
