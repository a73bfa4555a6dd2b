-- What the machine answers of a source is its first fault, or that it spells a text.
use Rattle.std.proofs.Common.{◌≡◌, ◌∙◌, ◌≤◌, ℕ, List, length, None, map, refl, sym}
use Rattle.base.specs.declared.fault.TextFault.{TextFault}
use Rattle.base.specs.declared.fault.ReadCode.TheVariants.{TooMany}
use Rattle.c_tokens.specs.Text.{tokens_of}
use Rattle.c_grammar.specs.Machine.{run}
use Rattle.c_grammar.specs.Rules.{begin, source_grammar}
use Rattle.c_grammar.specs.Program.{start, source_machine}
use Rattle.c_grammar.specs.Source.{item_of, end_of, fault_of, max_source}
use Rattle.c_source.specs.Source.{written_out, items_of, answer}
use Rattle.c_source.specs.Claims.{FaultIsFirst, TextIsSpelled, TextExists, FaultyTextIsNotSpelled, OneText}
use Rattle.c_grammar.proofs.Endings.{end_is_last}
use Rattle.c_grammar.proofs.Exists.{text_of}
use Rattle.c_grammar.proofs.SourceLaws.{source_laws}
use Rattle.c_grammar.proofs.SourceOne.{same_text}
use Rattle.c_grammar.proofs.Answered as answered

abbrev too_long : TextFault
too_long = record { code = TooMany; line = 1; column = 1 }

pub fault_first : FaultIsFirst
unfolding answer
fault_first bytes f e =
    let h = answered.fault_first source_grammar source_machine source_laws too_long fault_of bytes (items_of bytes) f e in
    record { long = h.0; other = h.1 }

-- where no fault is answered, there are not too many bytes and the machine finds none
pub not_faulty : (bytes : List ℕ) → answer bytes ≡ None
    → (length bytes ≤ max_source) × (run source_grammar source_machine begin start (items_of bytes) ≡ None)
unfolding answer
not_faulty bytes e =
    answered.not_faulty source_grammar source_machine source_laws too_long fault_of bytes (items_of bytes) e

pub text_spelled : TextIsSpelled
unfolding answer
text_spelled bytes t e tokens h =
    let s =
    answered.text_spelled source_grammar source_machine source_laws too_long fault_of bytes (items_of bytes) t e tokens
    h in record { short = s.0; spelled = s.1 }

pub text_exists : TextExists
text_exists bytes e =
    let t =
    text_of source_grammar source_machine source_laws end_is_last (written_out (map (item_of bytes) (tokens_of bytes))) (end_of bytes)
    refl (not_faulty bytes e).1 in
    (t.0, text_spelled bytes t.0 e t.2 t.1)

pub text_not_spelled : FaultyTextIsNotSpelled
unfolding answer
text_not_spelled bytes f t e s =
    answered.text_not_spelled source_grammar source_machine source_laws too_long fault_of bytes (items_of bytes) f t e
    s.short s.spelled

pub one_text : OneText
one_text bytes t u s r = same_text t u s.spelled.is_text r.spelled.is_text (sym s.spelled.tokens ∙ r.spelled.tokens)
