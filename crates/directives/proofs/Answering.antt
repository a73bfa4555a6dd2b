-- From the machine's answer to the line's.
use Rattle.std.proofs.Common.{◌≡◌, List, [], ◌∷◌, map, Option, Some, None, refl, sym, ap, subst, ◌∙◌}
use Rattle.c_grammar.specs.Lexeme.{Lexeme, Placed}
use Rattle.c_grammar.specs.Texts.{terminals}
use Rattle.c_grammar.specs.Machine.{Found, run as machine_run}
use Rattle.c_grammar.specs.LineRules.{line_begin, line_grammar, IsLine}
use Rattle.c_grammar.specs.LineMachine.{line_start, line_machine}
use Rattle.c_grammar.proofs.First.{first_fault, spelled, not_spelled}
use Rattle.c_grammar.proofs.LineLaws.{line_laws}
use Rattle.directives.specs.declared.fault.LineFault.{LineFault}
use Rattle.directives.specs.declared.tree.Directive.{Directive}
use Rattle.directives.specs.Cursor.{Items, line_items}
use Rattle.directives.specs.Reading.{run, found_fault, fault_at, Fits, IsSpelled}
use Rattle.directives.specs.Spells.{SpellsLine, IsFirstLineFault, line_answer}
use Rattle.directives.specs.Trees.{Spelling, line_marks, text_of}
use Rattle.directives.proofs.SameKinds.{line_same}
use Rattle.directives.proofs.Numbered.{answer_is}

abbrev LineFound : Type 0
LineFound = Option (Found line_grammar line_machine)

-- what the machine finds, behind the answer
pub found_none : (o : LineFound) → found_fault o ≡ None → o ≡ None
found_none None e = refl
found_none (Some f) e = absurd cc

pub found_some : (o : LineFound) (f : LineFault) → found_fault o ≡ Some f →
    (g : Found line_grammar line_machine) × (o ≡ Some g) × (f ≡ fault_at g.item g.rule)
found_some None f e = absurd cc
found_some (Some g) f e = (g, refl, cc)

-- tokens that fit a spelling are of its kinds
fits_kinds : (xs : Spelling) (is : Items) → Fits xs is [] → terminals line_grammar is ≡ map (λ x. x.0) xs
fits_kinds [] is e = ap (terminals line_grammar) e
fits_kinds (x ∷ xs) [] e = absurd e
fits_kinds (x ∷ xs) (i ∷ is) e = let more = fits_kinds xs is e.2 in
    ap (λ (t : Lexeme). t ∷ terminals line_grammar is) e.0 ∙ ap (λ (ts : List Lexeme). x.0 ∷ ts) more

pub spells : (ps : List Placed) (d : Directive) → run line_begin line_start (line_items ps) ≡ None →
    IsSpelled (line_marks d) (line_items ps) [] → IsLine (text_of d) → SpellsLine ps d
unfolding run
spells ps d e r h =
    let is : Items = line_items ps in
    record {
      spelled = spelled line_grammar line_machine line_laws is (text_of d)
          (found_none (machine_run line_grammar line_machine line_begin line_start is) e)
          (fits_kinds (line_marks d) is r.fits ∙ line_same d) h;
      placed = r;
    }

pub first_line_fault : (ps : List Placed) (f : LineFault) →
    run line_begin line_start (line_items ps) ≡ Some f → IsFirstLineFault ps f
unfolding run
first_line_fault ps f e =
    let is : Items = line_items ps in
    let g = found_some (machine_run line_grammar line_machine line_begin line_start is) f e in
    subst (λ (h : LineFault). IsFirstLineFault ps h) (sym g.2)
    (record { item = g.0.item; place = refl; first = first_fault line_grammar line_machine line_laws is g.0 g.1 })

pub no_directive : (ps : List Placed) (f : LineFault) →
    run line_begin line_start (line_items ps) ≡ Some f → (d : Directive) → SpellsLine ps d → ⊥
unfolding run
no_directive ps f e d s =
    let is : Items = line_items ps in
    let g = found_some (machine_run line_grammar line_machine line_begin line_start is) f e in
    not_spelled line_grammar line_machine line_laws is g.0 (text_of d) g.1 s.spelled

pub told : (ps : List Placed) (o : Option LineFault) →
    run line_begin line_start (line_items ps) ≡ o → line_answer ps ≡ o
unfolding line_answer
told ps o e = answer_is ps ∙ e
