-- The machine at the head of a to or from clause, where present and a colon stand or the first section.
use Rattle.std.proofs.Common.{◌≡◌, Bool, true, false, cond, List, [], ◌∷◌, length, map, Option, Some, None, refl, sym, ap, subst, ◌∙◌, arith}
use Rattle.std.specs.Prelude.{◌&&◌}
use Rattle.c_tokens.specs.declared.kind.Sign.TheVariants as sign
use Rattle.base.specs.declared.fault.ReadCode.{ReadCode as Code}
use Rattle.c_grammar.specs.Lexeme.{Lexeme, Reserved, Signed, Worded, Numbered, Strange, Ended, Placed, same}
use Rattle.c_grammar.specs.Texts.{Item, next_of}
use Rattle.c_grammar.specs.Machine.{Found, judged, kept, run as machine_run}
use Rattle.c_grammar.specs.LineGrammar.{Present, Maps, Heads, Modifies, modifier_word}
use Rattle.c_grammar.specs.LineRules.{LineContext, is_modifier, line_wrong, line_breaks, line_enter, line_grammar}
use Rattle.c_grammar.specs.LineMachine.{LineStack, MotionHead, AfterPresent, AfterName, Name, is_word, line_advance, line_place, line_first_broken, line_machine}
use Rattle.directives.specs.declared.lexeme.PlacedLexeme.{PlacedLexeme}
use Rattle.directives.specs.declared.lexemes.Lexemes.{Lexemes}
use Rattle.directives.specs.declared.line.Line.{Line}
use Rattle.directives.specs.Seen.{seen_placed}
use Rattle.directives.specs.Ahead.{ahead_on_line}
use Rattle.directives.specs.Known.{known_of}
use Rattle.directives.specs.Cursor.{Items, item_of, first_item, behind, items}
use Rattle.directives.specs.Reading.{run, rest, found_fault, Fits, IsSpelled}
use Rattle.directives.specs.Trees.{present_marks, sign_mark}
use Rattle.directives.proofs.Bounding.{judged_same}
use Rattle.directives.proofs.Moves.{word_is}
use Rattle.c_grammar.proofs.Lexemes.{same-true}

abbrev present : Lexeme
present = Worded (modifier_word Present)

abbrev colon : Lexeme
colon = Signed sign.Colon

-- ---- present and a colon

heads_keeps : (c : LineContext) → line_first_broken c (present, (None, Heads)) colon ≡ None
unfolding line_first_broken line_breaks line_wrong
heads_keeps c = refl

modifies_keeps : (c : LineContext) (n : Lexeme) → line_first_broken c (colon, (None, Modifies)) n ≡ None
unfolding line_first_broken line_breaks line_wrong
modifies_keeps c n = refl

-- what is known of the line is what it was
past_both : (c : LineContext) (i j : Item Lexeme) (is : Items) (s : LineStack) → i.terminal ≡ present →
    j.terminal ≡ colon → run c (MotionHead ∷ s) (i ∷ j ∷ is) ≡ run c (Name Maps ∷ s) is
unfolding run machine_run line_advance line_enter
past_both c i j is s e f =
    rw (e, f, heads_keeps c, modifies_keeps (line_enter c (present, (None, Heads))) (next_of line_grammar is)) refl

-- ---- the first section

apart : (s : LineStack) (t : Lexeme) → same colon t ≡ false →
    line_advance (AfterPresent ∷ s) t ≡ line_advance (AfterName Maps ∷ s) t
unfolding line_advance
apart s t h = rw h refl

behind_name : (b : Bool) (c : LineContext) (s : LineStack) (is : Items) →
    (b && same colon (next_of line_grammar is)) ≡ false →
    machine_run line_grammar line_machine c (cond b AfterPresent (AfterName Maps) ∷ s) is ≡
    machine_run line_grammar line_machine c (AfterName Maps ∷ s) is
unfolding machine_run line_place
behind_name false c s is h = refl
behind_name true c s [] h = refl
behind_name true c s (i ∷ is) h = rw (apart s i.terminal h)
    (judged_same c (AfterPresent ∷ s) (AfterName Maps ∷ s) i (next_of line_grammar is)
    (line_advance (AfterName Maps ∷ s) i.terminal) (λ d u. machine_run line_grammar line_machine d u is) refl)

heads_as : (c : LineContext) (t n : Lexeme) → is_modifier t n ≡ false →
    line_first_broken c (t, (None, Heads)) n ≡ line_first_broken c (t, (None, Maps)) n
unfolding line_first_broken line_breaks line_wrong
heads_as c t n h = rw h refl

kept_as : (c : LineContext) (i : Item Lexeme) (s s' : LineStack) (o : Option Code)
    (go : LineContext → LineStack → Option (Found line_grammar line_machine)) →
    ((d : LineContext) → go d s ≡ go d s') →
    kept line_grammar line_machine c i (None, Heads) s o go ≡ kept line_grammar line_machine c i (None, Maps) s' o go
unfolding line_enter
kept_as c i s s' None go h = h (line_enter c (i.terminal, (None, Maps)))
kept_as c i s s' (Some code) go h = refl

named_at : (c : LineContext) (i : Item Lexeme) (is : Items) (s : LineStack) (t : Lexeme) → i.terminal ≡ t →
    is_modifier i.terminal (next_of line_grammar is) ≡ false →
    judged line_grammar line_machine c (MotionHead ∷ s) i (next_of line_grammar is) (line_advance (MotionHead ∷ s) t)
    (λ d u. machine_run line_grammar line_machine d u is) ≡
    judged line_grammar line_machine c (Name Maps ∷ s) i (next_of line_grammar is) (line_advance (Name Maps ∷ s) t)
    (λ d u. machine_run line_grammar line_machine d u is)
unfolding line_advance line_place
named_at c i is s (Worded x) e h = rw (heads_as c i.terminal (next_of line_grammar is) h)
    (kept_as c i (cond (is_word (modifier_word Present) (Worded x)) AfterPresent (AfterName Maps) ∷ s)
    (AfterName Maps ∷ s) (line_first_broken c (i.terminal, (None, Maps)) (next_of line_grammar is))
    (λ d u. machine_run line_grammar line_machine d u is)
    (λ d. behind_name (is_word (modifier_word Present) (Worded x)) d s is
    (subst (λ (t : Lexeme). is_modifier t (next_of line_grammar is) ≡ false) e h)))
named_at c i is s (Reserved x) e h = refl
named_at c i is s (Signed x) e h = refl
named_at c i is s (Numbered n) e h = refl
named_at c i is s Strange e h = refl
named_at c i is s Ended e h = refl

named : (c : LineContext) (i : Item Lexeme) (is : Items) (s : LineStack) →
    is_modifier i.terminal (next_of line_grammar is) ≡ false →
    run c (MotionHead ∷ s) (i ∷ is) ≡ run c (Name Maps ∷ s) (i ∷ is)
unfolding run machine_run
named c i is s h = ap found_fault (named_at c i is s i.terminal refl h)

-- ---- which of them

pub no_present : (l : Line) (s : LineStack) → is_word (modifier_word Present) (first_item l).terminal ≡ false →
    rest l (MotionHead ∷ s) ≡ rest l (Name Maps ∷ s)
no_present l s h =
    named (known_of l.known) (first_item l) (behind l) s (rw h refl)

pub no_colon : (l : Line) (p : Placed) (ps : List Placed) (s : LineStack) → ahead_on_line l.lexemes ≡ p ∷ ps →
    same (Signed sign.Colon) p.lexeme ≡ false → rest l (MotionHead ∷ s) ≡ rest l (Name Maps ∷ s)
no_colon l p ps s a h =
    named (known_of l.known) (first_item l) (behind l) s (rw (a, h) (and_false _))
  where
    and_false : (b : Bool) → (b && false) ≡ false
    and_false true = refl
    and_false false = refl

-- behind present and a colon there are these
pub past_present : (l : Line) (t : PlacedLexeme) (ls : Lexemes) (p : Placed) (ps : List Placed) (s : LineStack) →
    is_word (modifier_word Present) (first_item l).terminal ≡ true → ahead_on_line l.lexemes ≡ p ∷ ps →
    same (Signed sign.Colon) p.lexeme ≡ true → ps ≡ seen_placed t ∷ ahead_on_line ls →
    rest l (MotionHead ∷ s) ≡ run (known_of l.known) (Name Maps ∷ s)
    (item_of (seen_placed t) ∷ map item_of (ahead_on_line ls))
past_present l t ls p ps s w a h b =
    ap (λ (is : Items). run (known_of l.known) (MotionHead ∷ s) (first_item l ∷ is))
    (ap (λ (qs : List Placed). map item_of qs) (a ∙ ap (λ (qs : List Placed). p ∷ qs) b))
    ∙ past_both (known_of l.known) (first_item l) (item_of p) (item_of (seen_placed t) ∷ map item_of (ahead_on_line ls))
    s (word_is l (modifier_word Present) w) (sym (same-true (Signed sign.Colon) p.lexeme h))

pub read_present : (l : Line) (t : PlacedLexeme) (ls : Lexemes) (p : Placed) (ps : List Placed) →
    is_word (modifier_word Present) (first_item l).terminal ≡ true → ahead_on_line l.lexemes ≡ p ∷ ps →
    same (Signed sign.Colon) p.lexeme ≡ true → ps ≡ seen_placed t ∷ ahead_on_line ls →
    IsSpelled (present_marks true) (items l) (item_of (seen_placed t) ∷ map item_of (ahead_on_line ls))
read_present l t ls p ps w a h b =
    let after : Items = item_of (seen_placed t) ∷ map item_of (ahead_on_line ls) in
    let shift : behind l ≡ item_of p ∷ after =
    ap (λ (qs : List Placed). map item_of qs) (a ∙ ap (λ (qs : List Placed). p ∷ qs) b) in
    record {
      fits = (
        word_is l (modifier_word Present) w,
        tt,
        subst (λ (is : Items). Fits (sign_mark sign.Colon ∷ []) is after) (sym shift)
            (sym (same-true (Signed sign.Colon) p.lexeme h), tt, refl),
      );
      fewer = omega (arith, ap (λ (is : Items). length is) shift);
    }
