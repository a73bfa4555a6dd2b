-- Writing out, with temporaries in their places and int as uint64_t: directive lines are seen through, and names stay ASCII.
use Rattle.std.proofs.Common.{◌≡◌, ◌∙◌, ◌++◌, ℕ, List, [], ◌∷◌, ap, map}
use Rattle.c_tokens.specs.Text.{tokens_of}
use Rattle.c_grammar.specs.AsciiNames.{AreAscii, IsAsciiTerminal, terminals_of}
use Rattle.c_grammar.specs.Blocks.{Items, bare}
use Rattle.c_grammar.specs.Source as forms
use Rattle.c_grammar.specs.Source.{end_of, item_of}
use Rattle.c_grammar.specs.Terminal.{Terminal}
use Rattle.c_grammar.specs.Texts.{Item}
use Rattle.c_grammar.proofs.AsciiNames as forms_ascii
use Rattle.c_grammar.proofs.BareForms as forms_bare
use Rattle.c_source.specs.Source.{items_of, written_out}
use Rattle.c_ints.specs.Ints.{widened}
use Rattle.c_ints.proofs.AsciiInts.{widened_text}
use Rattle.c_ints.proofs.BareInts.{widened_bare}
use Rattle.c_temporaries.specs.Temporaries.{in_place}
use Rattle.c_temporaries.proofs.AsciiTemporaries.{place_text}
use Rattle.c_temporaries.proofs.AsciiTokens.{AreItemsText, both_text}
use Rattle.c_temporaries.proofs.BareTemporaries.{place_bare}

pub written_bare : (is : Items) → written_out (bare is) ≡ bare (written_out is)
written_bare is =
    ap widened (ap in_place (forms_bare.written_bare is) ∙ place_bare (forms.written_out is))
    ∙ widened_bare (in_place (forms.written_out is))

all_but : (is : Items) (e : Item Terminal) → AreItemsText (is ++ e ∷ []) → AreItemsText is
all_but [] e h = tt
all_but (i ∷ is) e h = (h.0, all_but is e h.1)

ended_text : (is : Items) (e : Item Terminal) → AreItemsText is → IsAsciiTerminal e.terminal → AreItemsText (is ++ e ∷ [])
ended_text is e h k = both_text is (e ∷ []) h (k, tt)

-- the names of a source are ASCII
pub names_are_ascii : (bytes : List ℕ) → AreAscii (terminals_of (items_of bytes))
names_are_ascii bytes =
    let raw : Items = map (item_of bytes) (tokens_of bytes) in
    let text : AreItemsText (forms.written_out raw) = all_but (forms.written_out raw) (end_of bytes) (forms_ascii.names_are_ascii bytes) in
    let placed : AreItemsText (in_place (forms.written_out raw)) = place_text (forms.written_out raw) text in
    ended_text (written_out raw) (end_of bytes) (widened_text (in_place (forms.written_out raw)) placed) tt
