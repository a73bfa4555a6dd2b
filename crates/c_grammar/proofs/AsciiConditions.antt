-- Where clauses if are left out, no name changes.
use Rattle.std.proofs.Common.{List, [], ◌∷◌, Option, Some, None}
use Rattle.c_grammar.specs.Lexeme.{Lexeme, Placed}
use Rattle.c_grammar.specs.Terminal.{Terminal, Fixed, Mark, Name, Num, Line, Unknown, Unworked, End}
use Rattle.c_grammar.specs.Texts.{Item}
use Rattle.c_grammar.specs.Blocks.{Items, bare}
use Rattle.c_grammar.specs.Expressions.{placed_of}
use Rattle.c_grammar.specs.Lines.{is_omp}
use Rattle.c_grammar.specs.Conditions.{decided, decided_item, line_outcome, put_outcome}
use Rattle.c_grammar.specs.AsciiNames.{IsAsciiTerminal}
use Rattle.c_grammar.proofs.AsciiTokens.{AreItemsText, both_text, chosen_text}

put_text : (i : Item Terminal) (ts : List Lexeme) (o : Option (List Placed)) → AreItemsText (put_outcome i ts o)
put_text i ts None = tt
put_text i ts (Some ps) = (tt, tt)

item_text : (i : Item Terminal) (t : Terminal) (is : Items) → IsAsciiTerminal i.terminal → AreItemsText (decided_item i t is)
item_text i (Line ts) is h =
    chosen_text (is_omp ts) _ _ (put_text i ts (line_outcome (placed_of ts i.columns) ts is)) (h, tt)
item_text i (Fixed w) is h = (h, tt)
item_text i (Mark s) is h = (h, tt)
item_text i (Name x) is h = (h, tt)
item_text i (Num n) is h = (h, tt)
item_text i Unknown is h = (h, tt)
item_text i Unworked is h = (h, tt)
item_text i End is h = (h, tt)

pub decided_text : (is : Items) → AreItemsText is → AreItemsText (decided is)
decided_text [] h = h
decided_text (i ∷ is) h =
    both_text (decided_item i i.terminal (bare is)) _ (item_text i i.terminal (bare is) h.0) (decided_text is h.1)
