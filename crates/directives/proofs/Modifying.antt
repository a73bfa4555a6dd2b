-- The modifiers of a map clause that were read.
use Rattle.std.proofs.Common.{◌≡◌, ◌<◌, true, List, [], ◌∷◌, ◌++◌, length, map, None, refl, sym, ap, subst, ◌∙◌}
use Rattle.c_tokens.specs.declared.kind.Sign.TheVariants as sign
use Rattle.c_grammar.specs.Lexeme.{Signed, Worded}
use Rattle.c_grammar.specs.LineGrammar as grammar
use Rattle.c_grammar.specs.LineRules.{AreModifiers}
use Rattle.directives.specs.declared.line.Line.{Line}
use Rattle.directives.specs.declared.tree.Modifier.{Modifier}
use Rattle.directives.specs.Kinds.{seen_modifier}
use Rattle.directives.specs.Cursor.{Items, first_item, behind, items}
use Rattle.directives.specs.Reading.{IsSpelled}
use Rattle.directives.specs.Trees.{Spelling, word_mark, sign_mark, modifier_marks, modifiers_marks}
use Rattle.directives.proofs.Spellings.{spelled_one, spelled_first, spelled_then, spelled_as, spelled_less}

-- a modifier and the comma behind it
pub read_modifier : (l l1 l2 : Line) (m : Modifier) →
    (first_item l).terminal ≡ Worded (grammar.modifier_word (seen_modifier m)) → behind l ≡ items l1 →
    (first_item l1).terminal ≡ Signed sign.Comma → behind l1 ≡ items l2 → IsSpelled (modifier_marks m) (items l) (items l2)
read_modifier l l1 l2 m e b f d =
    spelled_first l l1 (Worded (grammar.modifier_word (seen_modifier m))) None (sign_mark sign.Comma ∷ []) (items l2) e
    tt b (spelled_one l1 (items l2) (Signed sign.Comma) None f tt d)

pub modifier_less : (m : Modifier) (a b : Items) → IsSpelled (modifier_marks m) a b → length b < length a
modifier_less m a b r =
    spelled_less (word_mark (grammar.modifier_word (seen_modifier m))) (sign_mark sign.Comma ∷ []) a b r.fits

modifiers_more : (ms : List Modifier) (m : Modifier) →
    modifiers_marks (ms ++ m ∷ []) ≡ modifiers_marks ms ++ modifier_marks m
modifiers_more [] m = refl
modifiers_more (n ∷ ns) m =
    ap (λ (zs : Spelling). word_mark (grammar.modifier_word (seen_modifier n)) ∷ sign_mark sign.Comma ∷ zs)
    (modifiers_more ns m)

-- a list to which one more was put
pub read_modifiers_more : (ms ns : List Modifier) (m : Modifier) (a b d : Items) → ns ≡ ms ++ m ∷ [] →
    IsSpelled (modifiers_marks ms) a b → IsSpelled (modifier_marks m) b d → IsSpelled (modifiers_marks ns) a d
read_modifiers_more ms ns m a b d e r s =
    spelled_as (modifiers_marks ms ++ modifier_marks m) (modifiers_marks ns) a d
    (sym (ap modifiers_marks e ∙ modifiers_more ms m))
    (spelled_then (modifiers_marks ms) (modifier_marks m) a b d r s)

takes_more : (k : grammar.DirectiveKind) (ms : List Modifier) (m : Modifier) →
    AreModifiers k (map seen_modifier ms) → grammar.takes_modifier k (seen_modifier m) ≡ true →
    AreModifiers k (map seen_modifier (ms ++ m ∷ []))
takes_more k [] m h g = (g, tt)
takes_more k (n ∷ ns) m h g = (h.0, takes_more k ns m h.1 g)

pub takes_modifiers_more : (k : grammar.DirectiveKind) (ms ns : List Modifier) (m : Modifier) → ns ≡ ms ++ m ∷ [] →
    AreModifiers k (map seen_modifier ms) → grammar.takes_modifier k (seen_modifier m) ≡ true →
    AreModifiers k (map seen_modifier ns)
takes_modifiers_more k ms ns m e h g =
    subst (λ (os : List Modifier). AreModifiers k (map seen_modifier os)) (sym e) (takes_more k ms m h g)
