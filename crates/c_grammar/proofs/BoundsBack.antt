-- What goes on from where the machine for lines has come within a name, a section or a bound goes on from where it was.
use Rattle.std.proofs.Common.{◌≡◌, Bool, true, false, cond, List, [], ◌∷◌, ◌++◌, Option, Some, None, refl, sym, ap, subst, ◌∙◌, append_assoc, inl, inr}
use Rattle.std.specs.Prelude.{◌&&◌}
use Rattle.std.proofs.lemmas.Bool.{and_parts}
use Rattle.c_tokens.specs.declared.kind.Sign.TheVariants as sign
use Rattle.base.specs.declared.fault.ReadCode.{ReadCode as Code}
use Rattle.base.specs.declared.fault.ReadCode.TheVariants.{BadBound}
use Rattle.c_grammar.specs.Lexeme.{Lexeme, Reserved, Signed, Worded, Numbered, Strange, Ended, same}
use Rattle.c_grammar.specs.LineGrammar.{LineAct, Plain, Opens, Begins, BeginsNamed, Times, LineSlots, plain, of, mark, Literal, Variable, Product, TermSign, Added, Taken, before_term, bound_sign, more_terms, bound, section, item, more_items}
use Rattle.c_grammar.specs.LineMachine.{LineSymbol, Want, Name, AfterName, AfterItem, Terms, AfterNumber, AfterTerm, Factor, LineStack, LineMove, name_step, item_step, term_step, after_term, factor_step}
use Rattle.c_grammar.proofs.Ways.{some_of}
use Rattle.c_grammar.proofs.Lexemes.{same-true, chosen, some_is}
use Rattle.c_grammar.proofs.LineFits.{colon_slot, factor, ItemsFit, Fits}

abbrev pub Move : Type 0
Move = (Option Code × LineAct) × List LineSymbol

abbrev pub Back : LineSymbol → LineStack → Lexeme → Move → Type 0
Back x s t q = (ws : LineSlots) → Fits q.1 ws → Fits (x ∷ s) ((t, q.0) ∷ ws)

-- where a test for a token leads to a stack, and else another move
pub tested : (u : Lexeme) (x : LineSymbol) (s : LineStack) (t : Lexeme) (to q : Move) (other : LineMove) → Back x s u to →
    (other ≡ some_of q → Back x s t q) → cond (same u t) (some_of to) other ≡ some_of q → Back x s t q
tested u x s t to q other b ih e =
    elim (chosen (same u t) (some_of to) other (some_of q) e) [
      | inl h ↦ some_is to q (λ p. Back x s t p) h.1 (subst (λ (v : Lexeme). Back x s v to) (same-true u t h.0) b)
      | inr h ↦ ih h.1
    ]

-- the same where the directive must take the clause too
pub taken : (a : Bool) (u : Lexeme) (x : LineSymbol) (s : LineStack) (t : Lexeme) (to q : Move) (other : LineMove) →
    (a ≡ true → Back x s u to) → (other ≡ some_of q → Back x s t q) →
    cond (a && same u t) (some_of to) other ≡ some_of q → Back x s t q
taken a u x s t to q other b ih e =
    elim (chosen (a && same u t) (some_of to) other (some_of q) e) [
      | inl h ↦ (let both = and_parts a (same u t) h.0 in some_is to q (λ p. Back x s t p) h.1
          (subst (λ (v : Lexeme). Back x s v to) (same-true u t both.1) (b both.0)))
      | inr h ↦ ih h.1
    ]

pub none : (x : LineSymbol) (s : LineStack) (t : Lexeme) (q : Move) → None ≡ some_of q → Back x s t q
none x s t q e = absurd cc

pub back_want : (u : Lexeme) (r : Option Code × LineAct) (s : LineStack) (t : Lexeme) (q : Move) →
    cond (same u t) (some_of (r, s)) None ≡ some_of q → Back (Want u r) s t q
back_want u r s t q e = tested u (Want u r) s t (r, s) q None (λ ws f. (ws, refl, f)) (none (Want u r) s t q) e

pub back_factor : (s : LineStack) (t : Lexeme) (q : Move) → factor_step s t ≡ some_of q → Back Factor s t q
back_factor s (Worded x) q e = some_is (of BadBound Times, s) q (λ p. Back Factor s (Worded x) p) e
    (λ ws f. (x, ws, refl, f))
back_factor s (Reserved a) q e = absurd cc
back_factor s (Signed a) q e = absurd cc
back_factor s (Numbered a) q e = absurd cc
back_factor s Strange q e = absurd cc
back_factor s Ended q e = absurd cc

pub back_name : (act : LineAct) (s : LineStack) (t : Lexeme) (q : Move) → name_step act s t ≡ some_of q →
    Back (Name act) s t q
back_name act s (Worded x) q e = some_is ((None, act), AfterName act ∷ s) q
    (λ p. Back (Name act) s (Worded x) p) e named
  where
    named : (ws : LineSlots) → Fits (AfterName act ∷ s) ws → Fits (Name act ∷ s) ((Worded x, (None, act)) ∷ ws)
    named ws f =
        let rest = f.3 in
        let ends : LineSlots = more_items act rest.0 ++ mark sign.CloseParen ∷ [] in
        let e0 : ws ≡ section f.0 ++ f.1 = f.2 in
        let e1 : f.1 ≡ ends ++ rest.1 = rest.2 in
        let whole : ws ≡ (section f.0 ++ ends) ++ rest.1 = e0 ∙ ap (λ (v : LineSlots). section f.0 ++ v) e1 ∙ sym
        (append_assoc (section f.0) ends rest.1) in
        (((x, f.0), rest.0), rest.1, ap (λ (v : LineSlots). (Worded x, (None, act)) ∷ v) whole, rest.3)
back_name act s (Reserved a) q e = absurd cc
back_name act s (Signed a) q e = absurd cc
back_name act s (Numbered a) q e = absurd cc
back_name act s Strange q e = absurd cc
back_name act s Ended q e = absurd cc

-- one section more
pub more_fits : (act : LineAct) (s : LineStack) (ws : LineSlots) → Fits (Name act ∷ s) ws →
    ItemsFit act (λ u. Fits s u) (mark sign.Comma ∷ ws)
more_fits act s ws f =
    let is = f.0 in
    let ends : LineSlots = more_items act is.1 ++ mark sign.CloseParen ∷ [] in
    let e0 : ws ≡ (item act is.0 ++ ends) ++ f.1 = f.2 in
    let e1 : (item act is.0 ++ more_items act is.1) ++ mark sign.CloseParen ∷ [] ≡ item act is.0 ++ ends = append_assoc
    (item act is.0) (more_items act is.1) (mark sign.CloseParen ∷ []) in (
      is.0 ∷ is.1,
      f.1,
      ap (λ (v : LineSlots). mark sign.Comma ∷ v) (e0 ∙ ap (λ (v : LineSlots). v ++ f.1) (sym e1)),
      f.3,
    )

-- what may come behind a section
pub back_items : (act : LineAct) (s : LineStack) (t : Lexeme) (q : Move) → item_step act s t ≡ some_of q →
    (ws : LineSlots) → Fits q.1 ws → ItemsFit act (λ u. Fits s u) ((t, q.0) ∷ ws)
back_items act s t q e =
    tested (Signed sign.Comma) (AfterItem act) s t (plain, Name act ∷ s) q
    (cond (same (Signed sign.CloseParen) t) (some_of (plain, s)) None) (more_fits act s)
    (λ e. tested (Signed sign.CloseParen) (AfterItem act) s t (plain, s) q None (λ ws f. ([], ws, refl, f))
    (none (AfterItem act) s t q) e) e

pub back_after_name : (act : LineAct) (s : LineStack) (t : Lexeme) (q : Move) →
    cond (same (Signed sign.OpenBracket) t) (some_of ((None, Opens), Terms false act ∷ s))
    (item_step act s t) ≡ some_of q → Back (AfterName act) s t q
back_after_name act s t q e =
    tested (Signed sign.OpenBracket) (AfterName act) s t ((None, Opens), Terms false act ∷ s) q
    (item_step act s t) bounds
    (λ e. λ ws f. (None, (t, q.0) ∷ ws, refl, back_items act s t q e ws f)) e
  where
    bounds : (ws : LineSlots) → Fits (Terms false act ∷ s) ws →
        Fits (AfterName act ∷ s) ((Signed sign.OpenBracket, (None, Opens)) ∷ ws)
    bounds ws f =
        let r = f.3 in
        let last : LineSlots = bound_sign sign.CloseBracket ∷ [] in
        let after : LineSlots = colon_slot ∷ (bound r.0 ++ last) in
        let e0 : ws ≡ bound f.0 ++ f.1 = f.2 in
        let e1 : f.1 ≡ colon_slot ∷ (bound r.0 ++ (bound_sign sign.CloseBracket ∷ r.1)) = r.2 in
        let e2 : (bound r.0 ++ last) ++ r.1 ≡ bound r.0 ++ (bound_sign sign.CloseBracket ∷ r.1) = append_assoc
        (bound r.0) last r.1 in
        let e3 : f.1 ≡ after ++ r.1 = e1 ∙ ap (λ (v : LineSlots). colon_slot ∷ v) (sym e2) in
        let whole : ws ≡ (bound f.0 ++ after) ++ r.1 = e0 ∙ ap (λ (v : LineSlots). bound f.0 ++ v) e3 ∙ sym
        (append_assoc (bound f.0) after r.1) in
        (Some (f.0, r.0), r.1, ap (λ (v : LineSlots). (Signed sign.OpenBracket, (None, Opens)) ∷ v) whole, r.3)

-- ---- bounds

pub sign_fits : (g : TermSign) (z : Bool) (act : LineAct) (s : LineStack) →
    Back (AfterTerm z act) s (Signed (before_term g)) (of BadBound Plain, Terms z act ∷ s)
sign_fits g z act s ws f =
    ((g, f.0.0) ∷ f.0.1, f.1, ap (λ (v : LineSlots). bound_sign (before_term g) ∷ v) f.2, f.3)

-- a sign between two terms, or what comes where there is none
pub sign_tested : (z : Bool) (act : LineAct) (s : LineStack) (t : Lexeme) (q : Move) (other : LineMove) →
    (other ≡ some_of q → Back (AfterTerm z act) s t q) →
    cond (same (Signed sign.Plus) t) (some_of (of BadBound Plain, Terms z act ∷ s))
    (cond (same (Signed sign.Minus) t) (some_of (of BadBound Plain, Terms z act ∷ s)) other) ≡ some_of q →
    Back (AfterTerm z act) s t q
sign_tested z act s t q other h e =
    tested (Signed sign.Plus) (AfterTerm z act) s t (of BadBound Plain, Terms z act ∷ s) q
    (cond (same (Signed sign.Minus) t) (some_of (of BadBound Plain, Terms z act ∷ s)) other) (sign_fits Added z act s)
    (λ e. tested (Signed sign.Minus) (AfterTerm z act) s t (of BadBound Plain, Terms z act ∷ s) q other
    (sign_fits Taken z act s) h e) e

pub back_after_term : (z : Bool) (act : LineAct) (s : LineStack) (t : Lexeme) (q : Move) →
    after_term z act s t ≡ some_of q → Back (AfterTerm z act) s t q
back_after_term false act s t q e =
    sign_tested false act s t q
    (cond (same (Signed sign.Colon) t) (some_of (of BadBound Opens, Terms true act ∷ s)) None)
    (λ e. tested (Signed sign.Colon) (AfterTerm false act) s t (of BadBound Opens, Terms true act ∷ s) q None
    (λ ws f. (let r = f.3 in (
      [],
      colon_slot ∷ ws,
      refl,
      (f.0, r.0, ap (λ (v : LineSlots). colon_slot ∷ v) (f.2 ∙ ap (λ (v : LineSlots). bound f.0 ++ v) r.1), r.2),
    )))
    (none (AfterTerm false act) s t q) e) e
back_after_term true act s t q e =
    sign_tested true act s t q
    (cond (same (Signed sign.CloseBracket) t) (some_of (of BadBound Plain, AfterItem act ∷ s)) None)
    (λ e. tested (Signed sign.CloseBracket) (AfterTerm true act) s t (of BadBound Plain, AfterItem act ∷ s) q None
    (λ ws f. ([], bound_sign sign.CloseBracket ∷ ws, refl, (ws, refl, f))) (none (AfterTerm true act) s t q) e) e

pub back_terms : (z : Bool) (act : LineAct) (s : LineStack) (t : Lexeme) (q : Move) → term_step z act s t ≡ some_of q →
    Back (Terms z act) s t q
back_terms z act s (Numbered n) q e = some_is (of BadBound Begins, AfterNumber z act ∷ s) q
    (λ p. Back (Terms z act) s (Numbered n) p) e numbered
  where
    numbered : (ws : LineSlots) → Fits (AfterNumber z act ∷ s) ws →
        Fits (Terms z act ∷ s) ((Numbered n, of BadBound Begins) ∷ ws)
    numbered ws f =
        elim f.0 as (λ o. ws ≡ factor o ++ (more_terms f.1 ++ f.2) →
        Fits (Terms z act ∷ s) ((Numbered n, of BadBound Begins) ∷ ws)) [
          | None ↦ λ e. ((Literal n, f.1), f.2, ap (λ (v : LineSlots). (Numbered n, of BadBound Begins) ∷ v) e, f.4)
          | Some x ↦ λ e. ((Product n x, f.1), f.2, ap (λ (v : LineSlots). (Numbered n, of BadBound Begins) ∷ v) e, f.4)
        ] f.3
back_terms z act s (Worded x) q e = some_is (of BadBound BeginsNamed, AfterTerm z act ∷ s) q
    (λ p. Back (Terms z act) s (Worded x) p) e
    (λ ws f. ((Variable x, f.0), f.1, ap (λ (v : LineSlots). (Worded x, of BadBound BeginsNamed) ∷ v) f.2, f.3))
back_terms z act s (Reserved a) q e = absurd cc
back_terms z act s (Signed a) q e = absurd cc
back_terms z act s Strange q e = absurd cc
back_terms z act s Ended q e = absurd cc

pub back_after_number : (z : Bool) (act : LineAct) (s : LineStack) (t : Lexeme) (q : Move) →
    cond (same (Signed sign.Star) t) (some_of (of BadBound Plain, Factor ∷ AfterTerm z act ∷ s))
    (after_term z act s t) ≡ some_of q → Back (AfterNumber z act) s t q
back_after_number z act s t q e =
    tested (Signed sign.Star) (AfterNumber z act) s t (of BadBound Plain, Factor ∷ AfterTerm z act ∷ s) q
    (after_term z act s t)
    (λ ws f. (let r = f.3 in (
      Some f.0,
      r.0,
      r.1,
      ap (λ (v : LineSlots). bound_sign sign.Star ∷ v)
          (f.2 ∙ ap (λ (v : LineSlots). (Worded f.0, of BadBound Times) ∷ v) r.2),
      r.3,
    )))
    (λ e. λ ws f. (let r = back_after_term z act s t q e ws f in (None, r.0, r.1, r.2, r.3))) e
