-- The bounds that were read.
use Rattle.std.proofs.Common.{◌≡◌, ℕ, List, [], ◌∷◌, ◌++◌, Some, None, refl, sym, ap, ◌∙◌, append_assoc, append-nil}
use Rattle.std.specs.Borrow.{Bor}
use Rattle.c_tokens.specs.declared.kind.Sign.TheVariants as sign
use Rattle.c_grammar.specs.Lexeme.{Signed, Worded}
use Rattle.c_grammar.specs.LineGrammar.{before_term}
use Rattle.directives.specs.declared.line.Line.{Line}
use Rattle.directives.specs.declared.tree.Term.{Term}
use Rattle.directives.specs.declared.tree.TermSign.{TermSign}
use Rattle.directives.specs.declared.tree.SignedTerm.{SignedTerm}
use Rattle.directives.specs.declared.tree.Bound.{Bound}
use Rattle.directives.specs.Cursor.{Items, first_item, behind, items}
use Rattle.directives.specs.Kinds.{seen_sign}
use Rattle.directives.specs.Reading.{IsSpelled}
use Rattle.directives.specs.Trees.{Spelling, name_mark, sign_before, sign_mark, signed_marks, term_marks, terms_marks, bound_marks, first_marks, second_marks, bounds_marks}
use Rattle.directives.proofs.Bounding.{is_sign_before}
use Rattle.directives.proofs.Spellings.{spelled_as, spelled_behind, spelled_one, spelled_first, spelled_then, spelled_none}

pub read_name : (l l' : Line) (x : Bor (List ℕ)) (k : ℕ) → (first_item l).terminal ≡ Worded x.now →
    k ≡ (first_item l).column → behind l ≡ items l' →
    IsSpelled (name_mark (record { text = x; column = k }) ∷ []) (items l) (items l')
read_name l l' x k e h b = spelled_one l (items l') (Worded x.now) (Some k) e (sym h) b

-- ---- terms behind signs

pub read_signed : (l l' : Line) (g : TermSign) (x : Term) (after : Items) →
    sign_before (first_item l).terminal ≡ Some g → behind l ≡ items l' → IsSpelled (term_marks x) (items l') after →
    IsSpelled (signed_marks (record { sign = g; term = x })) (items l) after
read_signed l l' g x after h b r =
    spelled_behind (before_term (seen_sign g)) (term_marks x) l l' after (is_sign_before l g h) b r

one_more : (xs : List SignedTerm) (x : SignedTerm) → terms_marks (xs ++ x ∷ []) ≡ terms_marks xs ++ signed_marks x
one_more [] x = append-nil (signed_marks x)
one_more (y ∷ ys) x = ap (λ (zs : Spelling). signed_marks y ++ zs) (one_more ys x)
    ∙ sym (append_assoc (signed_marks y) (terms_marks ys) (signed_marks x))

pub read_more : (xs ys : List SignedTerm) (x : SignedTerm) (before between after : Items) → ys ≡ xs ++ x ∷ [] →
    IsSpelled (terms_marks xs) before between → IsSpelled (signed_marks x) between after →
    IsSpelled (terms_marks ys) before after
read_more xs ys x before between after e r h =
    spelled_as (terms_marks xs ++ signed_marks x) (terms_marks ys) before after (sym (ap terms_marks e ∙ one_more xs x))
    (spelled_then (terms_marks xs) (signed_marks x) before between after r h)

-- ---- two bounds

pub read_first : (l l1 l2 l3 : Line) (b : Bound) → (first_item l).terminal ≡ Signed sign.OpenBracket →
    behind l ≡ items l1 → IsSpelled (bound_marks b) (items l1) (items l2) → (first_item l2).terminal ≡
    Signed sign.Colon →
    behind l2 ≡ items l3 → IsSpelled (first_marks b) (items l) (items l3)
read_first l l1 l2 l3 b e d r f g =
    let last : Spelling = sign_mark sign.Colon ∷ [] in
    let ends : IsSpelled last (items l2) (items l3) = spelled_one l2 (items l3) (Signed sign.Colon) None f tt g in
    spelled_first l l1 (Signed sign.OpenBracket) None (bound_marks b ++ last) (items l3) e tt d
    (spelled_then (bound_marks b) last (items l1) (items l2) (items l3) r ends)

pub read_second : (l1 l2 l3 : Line) (b : Bound) → IsSpelled (bound_marks b) (items l1) (items l2) →
    (first_item l2).terminal ≡ Signed sign.CloseBracket → behind l2 ≡ items l3 →
    IsSpelled (second_marks b) (items l1) (items l3)
read_second l1 l2 l3 b r f g = spelled_then (bound_marks b) (sign_mark sign.CloseBracket ∷ []) (items l1) (items l2)
    (items l3) r (spelled_one l2 (items l3) (Signed sign.CloseBracket) None f tt g)

pub read_two : (l l1 l2 : Line) (b c : Bound) → IsSpelled (first_marks b) (items l) (items l1) →
    IsSpelled (second_marks c) (items l1) (items l2) → IsSpelled (bounds_marks (Some (b, c))) (items l) (items l2)
read_two l l1 l2 b c r s = spelled_then (first_marks b) (second_marks c) (items l) (items l1) (items l2) r s

pub read_no_bounds : (l : Line) → IsSpelled (bounds_marks None) (items l) (items l)
read_no_bounds l = spelled_none (items l)
