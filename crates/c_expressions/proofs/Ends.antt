-- The beginning and the end of a source.
use Rattle.std.proofs.Common.{◌≡◌, ℕ, ◌+◌, ◌<◌, false, eqb, List, [], ◌∷◌, ◌++◌, map, drop, sym, length, take, get_or, Some, None, refl, ap, ◌∙◌, ne_eqb, arith}
use Rattle.std.proofs.lemmas.List.Sums.{fold_more}
use Rattle.base.specs.declared.fault.ReadCode.TheVariants.{Unexpected}
use Rattle.c_tokens.specs.Text.{Place, start, after, after_all}
use Rattle.c_grammar.specs.Terminal.{Terminal, End, same}
use Rattle.c_grammar.specs.Texts.{Item}
use Rattle.c_grammar.specs.Machine.{run as machine_run}
use Rattle.c_grammar.specs.Grammar.{Plain, for}
use Rattle.c_grammar.specs.Rules.{Context, enter, rule_here}
use Rattle.c_grammar.specs.Rules.{breaks}
use Rattle.c_grammar.specs.Program.{Want, advance, place_code, first_broken}
use Rattle.c_terminals.specs.declared.held.Written.{Written}
use Rattle.c_terminals.specs.declared.held.WrittenTerminal.{WrittenTerminal}
use Rattle.c_terminals.specs.declared.held.WrittenTerminal.TheVariants as held
use Rattle.c_terminals.specs.Held.{seen_held, seen_written}
use Rattle.c_expressions.specs.declared.cursor.Cursor.{Cursor}
use Rattle.c_expressions.specs.Means.{Items}
use Rattle.c_expressions.specs.Cursor.{items, first_item, behind, more, item_or_end, end_item}
use Rattle.c_expressions.specs.Reading.{run, misfit_at, terminals}
use Rattle.c_expressions.proofs.Going.{put, stop}

item_over : (c : Context) (i : Item Terminal) → run c (Want End (for Plain) ∷ []) (put i End ∷ []) ≡ None
unfolding run machine_run advance first_broken breaks enter
item_over c i = refl

over : (c : Context) (t : Cursor) (ts : List Written) → ts ≡ [] →
    run c (Want End (for Plain) ∷ []) (item_or_end t ts ∷ more t ts) ≡ None
over c t [] e = item_over c (end_item t)
over c t (k ∷ ks) e = absurd cc

pub end_none : (c : Context) (t : Cursor) → t.tokens.now ≡ [] → run c (Want End (for Plain) ∷ []) (items t) ≡ None
end_none c t e = over c t t.tokens.now e

is_over : (t : Cursor) (ts : List Written) → ts ≡ [] → terminals (item_or_end t ts ∷ more t ts) ≡ End ∷ []
is_over t [] e = refl
is_over t (k ∷ ks) e = absurd cc

pub end_is : (t : Cursor) → t.tokens.now ≡ [] → terminals (items t) ≡ End ∷ []
end_is t e = is_over t t.tokens.now e

kind_no_end : (k : WrittenTerminal) → same End (seen_held k) ≡ false
kind_no_end (held.Word w) = refl
kind_no_end (held.Sign s) = refl
kind_no_end (held.Name x) = refl
kind_no_end (held.Number n) = refl
kind_no_end held.BadNumber = refl
kind_no_end (held.Line l) = refl
kind_no_end held.Unknown = refl
kind_no_end held.Unworked = refl

no_end : (t : Cursor) (ts : List Written) → 0 < length ts → same End (item_or_end t ts).terminal ≡ false
no_end t [] h = absurd (omega arith)
no_end t (k ∷ ks) h = kind_no_end k.terminal

stop_end : (c : Context) (i : Item Terminal) (is : Items) → same End i.terminal ≡ false →
    run c (Want End (for Plain) ∷ []) (i ∷ is) ≡ Some (misfit_at (Some (rule_here Unexpected)) i)
unfolding advance place_code
stop_end c i is e = stop c (Want End (for Plain) ∷ []) i is (rw e refl) refl

pub end_some : (c : Context) (t : Cursor) → 0 < length t.tokens.now →
    run c (Want End (for Plain) ∷ []) (items t) ≡ Some (misfit_at (Some (rule_here Unexpected)) (first_item t))
end_some c t h = stop_end c (first_item t) (behind t) (no_end t t.tokens.now h)

-- ---- the place past the last byte

place_step : (bs : List ℕ) (i : ℕ) → i < length bs → after_all start (take (i + 1) bs) ≡
    after (after_all start (take i bs)) (get_or bs i 0)
place_step bs i lt = fold_more after start bs i 0 lt

after_feed : (p : Place) (b : ℕ) → b ≡ 10 → after p b ≡ record { at = p.at + 1; line = p.line + 1; column = 1 }
unfolding after
after_feed p b e = rw e refl

after_other : (p : Place) (b : ℕ) → (b ≡ 10 → ⊥) → after p b ≡
    record { at = p.at + 1; line = p.line; column = p.column + 1 }
unfolding after
after_other p b h = (let e : eqb b 10 ≡ false = ne_eqb b 10 h in rw e refl)

pub at_feed : (bs : List ℕ) (i : ℕ) → i < length bs → get_or bs i 0 ≡ 10 →
    ((after_all start (take (i + 1) bs)).line ≡ (after_all start (take i bs)).line + 1) ×
    ((after_all start (take (i + 1) bs)).column ≡ 1)
at_feed bs i lt e = let h = place_step bs i lt ∙ after_feed (after_all start (take i bs)) (get_or bs i 0) e in
    (ap (λ (p : Place). p.line) h, ap (λ (p : Place). p.column) h)

pub at_other : (bs : List ℕ) (i : ℕ) → i < length bs → (get_or bs i 0 ≡ 10 → ⊥) →
    ((after_all start (take (i + 1) bs)).line ≡ (after_all start (take i bs)).line) ×
    ((after_all start (take (i + 1) bs)).column ≡ (after_all start (take i bs)).column + 1)
at_other bs i lt e = let h = place_step bs i lt ∙ after_other (after_all start (take i bs)) (get_or bs i 0) e in
    (ap (λ (p : Place). p.line) h, ap (λ (p : Place). p.column) h)

-- ---- a token is taken

end_or_not : (c : Cursor) (ts : List Written) → ((item_or_end c ts).terminal ≡ End → ⊥) → 0 < length ts
end_or_not c [] h = absurd (h refl)
end_or_not c (t ∷ ts) h = omega arith

-- something is left before the end
pub some_left : (c : Cursor) → ((first_item c).terminal ≡ End → ⊥) → 0 < length c.tokens.now
some_left c h = end_or_not c c.tokens.now h

next_of : (c d : Cursor) (ts us : List Written) → 0 < length ts → us ≡ drop 1 ts → d.end_line ≡ c.end_line →
    d.end_column ≡ c.end_column → more c ts ≡ item_or_end d us ∷ more d us
next_of c d [] us h e f g = absurd (omega arith)
next_of c d (t ∷ ts) us h e f g = all_of ts ∙ ap (λ (vs : List Written). item_or_end d vs ∷ more d vs) (sym e)
  where
    same_end : end_item c ≡ end_item d
    same_end = ap (λ (n : ℕ). (let i : Item Terminal = record { terminal = End; line = n; column = c.end_column; columns = [] } in i)) (sym f)
        ∙ ap (λ (n : ℕ). (let i : Item Terminal = record { terminal = End; line = d.end_line; column = n; columns = [] } in i)) (sym g)

    all_of : (vs : List Written) → map seen_written vs ++ end_item c ∷ [] ≡ item_or_end d vs ∷ more d vs
    all_of [] = ap (λ i. i ∷ []) same_end
    all_of (v ∷ vs) = ap (λ i. seen_written v ∷ (map seen_written vs ++ i ∷ [])) same_end

pub one_taken : (c d : Cursor) → 0 < length c.tokens.now → d.tokens.now ≡ drop 1 c.tokens.now →
    d.end_line ≡ c.end_line → d.end_column ≡ c.end_column → behind c ≡ items d
one_taken c d h e f g = next_of c d c.tokens.now d.tokens.now h e f g
