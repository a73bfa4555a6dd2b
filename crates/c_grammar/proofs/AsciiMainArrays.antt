-- The names of arrays that main declares are ASCII before it too.
use Rattle.std.proofs.Common.{cond, List, [], ◌∷◌, ◌++◌, Option, Some, None}
use Rattle.std.specs.Prelude.{ℕ, ◌&&◌, not}
use Rattle.c_tokens.specs.declared.kind.Sign.TheVariants as sign
use Rattle.c_grammar.specs.Terminal.{Terminal, Mark}
use Rattle.c_grammar.specs.Texts.{Item}
use Rattle.c_grammar.specs.Blocks.{Items, at, is_directive, bare}
use Rattle.c_grammar.specs.Constants.{is_mark}
use Rattle.c_grammar.specs.Allocations.{Reading, at_statement, begins_main, closed, entered, kept, nothing_read, passed}
use Rattle.c_grammar.specs.MainArrays.{all_lifted, array_in, begun, by_array, closes, declared_on, is_lifted, is_static, lifted, lifted_with, looked, next, taken}
use Rattle.c_grammar.specs.AsciiNames.{IsAsciiTerminal}
use Rattle.c_grammar.proofs.AsciiAllocations.{IsText, either, kept_text, more_text, opened_text}
use Rattle.c_grammar.proofs.AsciiTokens.{AreItemsText, both_text}

with_text : (i : Item Terminal) (r : Reading) → IsAsciiTerminal i.terminal → IsText r → IsText (lifted_with i r)
with_text i r h k = (k.0, more_text r.arrays i k.1 h, k.2)

closed_text : (i : Item Terminal) (r : Reading) → IsText r → IsText (closed i r)
closed_text i r k = (k.0, k.1, more_text r.done (at i (Mark sign.CloseBrace)) k.2 tt)

on_text : (i : Item Terminal) (is : Items) (r : Reading) → IsAsciiTerminal i.terminal → IsText r → IsText (declared_on i is r)
on_text i is r h k =
    either (is_mark sign.Semicolon i) _ _ (closed_text i (lifted_with i r) (with_text i r h k))
    (either (is_mark sign.Comma i && closes is) r (lifted_with i r) k (with_text i r h k))

begun_text : (i : Item Terminal) (r : Reading) → IsAsciiTerminal i.terminal → IsText r → IsText (begun i r)
begun_text i r h k =
    opened_text i (cond (is_static i) r (lifted_with i r)) (either (is_static i) r (lifted_with i r) k (with_text i r h k))

array_text : (i : Item Terminal) (o : Option (List ℕ)) (r : Reading) → IsAsciiTerminal i.terminal → IsText r
    → IsText (by_array i o r)
array_text i None r h k = kept_text i r h k
array_text i (Some x) r h k =
    either (is_lifted x r) (begun i (looked x r)) (kept i (looked x r)) (begun_text i (looked x r) h k)
    (kept_text i (looked x r) h k)

taken_text : (i : Item Terminal) (is : Items) (r : Reading) → IsAsciiTerminal i.terminal → IsText r → IsText (taken i is r)
taken_text i is r h k =
    either r.out _ _ (on_text i is r h k)
    (either (at_statement r) _ _ (array_text i (array_in i is) r h k)
    (either (not r.inside && begins_main i is) (entered i r) (kept i r) (both_text r.before r.done k.0 k.2, k.1, (h, tt))
    (kept_text i r h k)))

next_text : (i : Item Terminal) (is : Items) (r : Reading) → IsAsciiTerminal i.terminal → IsText r → IsText (next i is r)
next_text i is r h k =
    either (is_directive i.terminal) (passed i r) (taken i (bare is) r) (k.0, k.1, more_text r.done i k.2 h)
    (taken_text i (bare is) r h k)

all_text : (is : Items) (r : Reading) → AreItemsText is → IsText r → IsText (all_lifted r is)
all_text [] r h k = k
all_text (i ∷ is) r h k = all_text is (next i is r) h.1 (next_text i is r h.0 k)

pub lifted_text : (is : Items) → AreItemsText is → AreItemsText (lifted is)
lifted_text is h =
    let r : Reading = all_lifted nothing_read is in
    let k : IsText r = all_text is nothing_read h (tt, tt, tt) in
    both_text r.before (r.arrays ++ r.done) k.0 (both_text r.arrays r.done k.1 k.2)
